use Rattle.std.proofs.Common.{rules, arith, ap, ◌∙◌, ◌∷◌, subst, sym}
use Rattle.hk_turn.specs.Steps.{AtSeat}
use Rattle.hk_turn.specs.Passes.{RemembersAll}
use Rattle.hk_turn.specs.Turns.{IsPassOf}
use Rattle.hk_turn.proofs.PassViews.{weight_is, free_is, seen_list_is, known_count_is}
use Rattle.hk_turn.proofs.JoinStep.{join_keeps_rule}
use Rattle.hk_turn.proofs.JoinedPasses.{all_last, moved, remembers_more}
use Rattle.hk_turn.proofs.turns.Turns.join_passes.Goals as goal

pub join_seat-requires : goal.join_seat-requires
join_seat-requires g c =
    let inv = c.loop-pass.invariant in
    let one = weight_is _ _ c.into_seat-other.ensures.2 c.in-Some.pass.one in (
      inv.0,
      c.into_seat-other.ensures.0 ∙ all_last (IsPassOf c.args.self.now) c.args.passes.items c.loop-pass.passes.items c.pop-in-loop-pass.new.self.items inv.5.0 c.in-Some.pass
          c.requires.own inv.5.1 c.in-Some.ensures.items,
      search rules,
      search rules,
      join_keeps_rule _ _ _ _ _ _ _ inv.4 (omega arith) inv.2 (free_is _ _ c.into_seat-other.ensures.2 c.in-Some.pass.free),
    )

pub loop-pass-preserved : goal.loop-pass-preserved
loop-pass-preserved g c =
    let inv = c.loop-pass.invariant in
    let one = weight_is _ _ c.into_seat-other.ensures.2 c.in-Some.pass.one in
    let now = c.join_seat.ensures.2 in
    let weighs = ap (λ (m : AtSeat g.row.T.Denot g.row.T-Entry.Denot). m.0.weight) now in (
      c.join_seat.ensures.0 ∙ inv.0,
      ap (λ (m : AtSeat g.row.T.Denot g.row.T-Entry.Denot). m.1) now ∙ inv.1,
      ap (λ (m : AtSeat g.row.T.Denot g.row.T-Entry.Denot). m.0.holds) now ∙ inv.2,
      (let len = c.in-Some.ensures.len in let w = inv.3 in omega arith),
      (let w = inv.4 in omega arith),
      (
        c.in-Some.pass ∷ inv.5.0,
        moved c.args.passes.items c.loop-pass.passes.items c.pop-in-loop-pass.new.self.items inv.5.0 c.in-Some.pass inv.5.1 c.in-Some.ensures.items,
        subst (λ (m : AtSeat g.row.T.Denot g.row.T-Entry.Denot). RemembersAll m.0 (c.in-Some.pass ∷ inv.5.0)) (sym now)
            (remembers_more c.loop-pass.seat.me.0 c.into_seat-other.result.me.0 c.in-Some.pass inv.5.0
            (seen_list_is c.in-Some.pass c.into_seat-other.result.me.0 c.into_seat-other.ensures.2)
            (known_count_is c.in-Some.pass c.into_seat-other.result.me.0 c.into_seat-other.ensures.2) inv.5.2),
      ),
    )
