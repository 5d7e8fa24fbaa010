use Rattle.std.proofs.Common.{◌≡◌, ◌<◌, ℕ, List, arith, length, length-set, set, ap, ◌∙◌}
use Rattle.hk_links.proofs.Spreads.{length-spread, spread-set}
use Rattle.hk_links.proofs.rows.Row.set.Goals as goal

pub unroll-requires-clause-room : goal.unroll-requires-clause-room
unroll-requires-clause-room c =
    let size : length c.args.self.now ≡ c.self.inside.nodes = rw (← c.self.view_is) (length-spread _ _ _ _) in
    omega arith

pub unroll-requires-clause-number : goal.unroll-requires-clause-number
unroll-requires-clause-number c =
    let size : length c.args.self.now ≡ c.self.inside.nodes = rw (← c.self.view_is) (length-spread _ _ _ _) in
    omega arith

pub invariant_of-self : goal.invariant_of-self
invariant_of-self c =
    let size : length c.args.self.now ≡ c.self.inside.nodes = rw (← c.self.view_is) (length-spread _ _ _ _) in
    let low : c.args.place < c.self.inside.nodes = omega arith in
    (omega (arith, length-set c.unroll.new.front.items c.args.place c.args.to), omega arith, c.self.invariant.2)

pub returns : goal.returns
returns c = rw (← c.self.view_is) (
    spread-set (λ (node : ℕ). node) c.self.inside.nodes c.self.inside.first c.unroll.new.front.items c.args.place c.args.to c.unroll.ensures.there
    ∙ ap (λ (row : List ℕ). set row c.args.place c.args.to) (c.unroll.ensures.same c.self.inside.nodes))
