use Rattle.std.proofs.Common.{ℕ, ◌+◌, ap, subst, sym}
use Rattle.hk_bound.specs.Taking.{Slots}
use Rattle.hk_bound.specs.Columns.{proc_at, CellFollows}
use Rattle.hk_bound.proofs.Sources.{made_follows}
use Rattle.hk_bound.proofs.gaps.Table.made_gap.Goals as goal

pub offer-requires-clause-follows : goal.offer-requires-clause-follows
offer-requires-clause-follows c =
    let w = c.args.self.now.world.now in
    let forms = c.args.self.now.forms.now in
    let h = Slots (proc_at c.args.process) in
    subst (λ (s : ℕ). CellFollows w forms (Slots (proc_at c.args.process)) (c.object_count.result + c.args.maker) s) (sym c.all.ensures.word)
    (made_follows w forms (Slots (proc_at c.args.process)) c.args.maker (c.object_count.result + c.args.maker) c.requires.maker
    (ap (λ (n : ℕ). n + c.args.maker) c.object_count.ensures.value) (c.has_made.ensures.had c.if-has_made.true))
