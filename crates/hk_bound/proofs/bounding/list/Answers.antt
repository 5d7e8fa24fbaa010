use Rattle.std.proofs.Common.{◌∙◌, ◌+◌, List, subst, sym}
use Rattle.std.proofs.lemmas.Bool.{true≢false}
use Rattle.hk_model.specs.declared.names.Name.{Name}
use Rattle.hk_bound.specs.Columns.{proc_at}
use Rattle.hk_bound.specs.Listed.{Listing}
use Rattle.hk_bound.proofs.Exact.{listing_skip, listing_push}
use Rattle.hk_bound.proofs.bounding.list.Goals as goal

pub returns-then-not-may_change : goal.returns-then-not-may_change
returns-then-not-may_change c =
    listing_skip c.args.world.now (proc_at c.args.process) c.args.name c.args.names.now.items
    (λ b. true≢false (sym (c.may_change.ensures.1 b) ∙ c.if-not-may_change.true)) c.requires.listing

pub returns : goal.returns
returns c =
    let x = c.in_ok-push.ensures {u = tt} in
    subst (λ (names : List Name). Listing c.args.world.now (proc_at c.args.process) (c.args.name + 1) names) (sym x.items)
    (listing_push c.args.world.now (proc_at c.args.process) c.args.name c.args.names.now.items (c.may_change.ensures.0 c.if-not-may_change.false) c.requires.listing)
