use Rattle.std.proofs.Common.{rules, arith, ◌∙◌, sym, subst, Some, Option, ◌≡◌, ℕ}
use Rattle.std.specs.Option.{IsSome}
use mathlib.Core.Option.{some-injective}
use Rattle.hk_turn.specs.Turns.{StandsForAll}
use Rattle.hk_turn.proofs.JoinedPasses.{stands_for_all}
use Rattle.hk_turn.proofs.turns.Turns.close.Goals as goal

pub unwrap-requires : goal.unwrap-requires
unwrap-requires g c =
    let keyed = c.args.self.keyed in
    let all = c.join_passes-seat.ensures.all in
    let r = stands_for_all g.T.Story.stands g.T.Story.owner c.args.self.table.shared.key c.join_passes-seat.result.id c.join_passes-seat.result.me.0 _ _ c.args.passes.items
    (let k = keyed.1 in omega arith) (all.0 ∙ sym keyed.0) all.1 c.join_passes-seat.ensures.remembers c.close_with-closed.ensures.values.2 in
    let is : Some r.0 ≡ c.take-value.result = some-injective _ _ (sym r.1 ∙ c.take-value.ensures.value) in
    subst (λ (o : Option g.row.T.Denot). IsSome o) is (search rules)

pub returns : goal.returns
returns g c =
    let keyed = c.args.self.keyed in
    let all = c.join_passes-seat.ensures.all in
    let r = stands_for_all g.T.Story.stands g.T.Story.owner c.args.self.table.shared.key c.join_passes-seat.result.id c.join_passes-seat.result.me.0 _ _ c.args.passes.items
    (let k = keyed.1 in omega arith) (all.0 ∙ sym keyed.0) all.1 c.join_passes-seat.ensures.remembers c.close_with-closed.ensures.values.2 in
    let is : Some r.0 ≡ c.take-value.result = some-injective _ _ (sym r.1 ∙ c.take-value.ensures.value) in
    let out : r.0 ≡ c.unwrap.result = let both : Some r.0 ≡ Some c.unwrap.result = is ∙ c.unwrap.ensures in cc (both) in
    subst (λ (x : g.row.T.Denot). StandsForAll g.T.Story.stands g.T.Story.owner c.args.self.seats c.args.passes.items x) out
    (subst (λ (n : ℕ). StandsForAll g.T.Story.stands g.T.Story.owner n c.args.passes.items r.0) keyed.0 r.2)
