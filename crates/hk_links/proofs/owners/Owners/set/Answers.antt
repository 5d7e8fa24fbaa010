use Rattle.std.proofs.Common.{◌≡◌, ◌<◌, ℕ, List, Option, None, arith, length, length-set, set, ap, ◌∙◌}
use Rattle.hk_links.proofs.Spreads.{length-spread, spread-set}
use Rattle.hk_links.proofs.owners.Owners.set.Goals as goal

pub unroll-requires : goal.unroll-requires
unroll-requires c =
    let size : length c.args.self.now ≡ c.self.inside.cells = rw (← c.self.view_is) (length-spread _ _ _ _) in
    record { room = omega arith }

pub invariant_of-self : goal.invariant_of-self
invariant_of-self c =
    let size : length c.args.self.now ≡ c.self.inside.cells = rw (← c.self.view_is) (length-spread _ _ _ _) in
    let low : c.args.cell < c.self.inside.cells = omega arith in
    (omega (arith, length-set c.unroll.new.front.items c.args.cell c.args.owner), omega arith)

pub returns : goal.returns
returns c = rw (← c.self.view_is) (
    spread-set (λ (_ : ℕ). None) c.self.inside.cells 0 c.unroll.new.front.items c.args.cell c.args.owner c.unroll.ensures.there
    ∙ ap (λ (row : List (Option ℕ)). set row c.args.cell c.args.owner) (c.unroll.ensures.same c.self.inside.cells))
