use Rattle.std.proofs.Common.{◌≡◌, ◌<◌, ◌+◌, [], length, refl, ap, subst, sym, arith}
use Rattle.std.proofs.lemmas.Bool.Decides.{nat_tests}
use Rattle.hk_bound.specs.Columns.{AreGaps}
use Rattle.hk_bound.specs.Each.{Each}
use Rattle.hk_bound.specs.Filled.{AreWays}
use Rattle.hk_bound.specs.Merges.{IsStretch}
use Rattle.hk_bound.proofs.Filling.{no_gaps, smaller, filling_first}
use Rattle.hk_bound.proofs.Ways.{ways_none}
use Rattle.hk_bound.proofs.Exact.{exact}
use Rattle.hk_bound.proofs.closing.closed_rows.Goals as goal

pub looks-init : goal.looks-init
looks-init c =
    let w = c.args.world.now in
    let forms = c.args.forms.now in
    let count : length c.tasks-count.result.now ≡ length c.args.world.now.tasks = ap length c.tasks-count.ensures.value in
    let o = c.object_count.ensures.value in
    record {
      filling = filling_first w forms (length c.tasks-count.result.now) (c.object_count.result + length c.tasks-count.result.now + length forms) c.in_ok-rows.rows
          c.new-grown.result.items
          count (omega (arith, count, o)) (c.in_ok-rows.ensures {u = tt}) c.new-grown.ensures.items;
      ways =
          subst (AreWays w forms) (sym (c.in_ok-ways.ensures {u = tt}))
          (ways_none w forms (length c.tasks-count.result.now) (length c.tasks-count.result.now) count);
    }

pub returns-then-is_empty : goal.returns-then-is_empty
returns-then-is_empty c =
    let e = c.is_empty.ensures in
    let empty = c.if-is_empty.true in
    let same = ap length c.deref.ensures.value in
    let none : length c.in_ok-gaps.gaps.items ≡ 0 = grind (arith, nat_tests, e, empty, same) in
    exact c.args.world.now c.args.forms.now c.looks.rows c.requires.world c.requires.forms c.looks.invariant.filling.follow ((c.in_ok-gaps.ensures {u = tt}).none none)

pub fill_all-requires-clause-gaps : goal.fill_all-requires-clause-gaps
fill_all-requires-clause-gaps c =
    let w = c.args.world.now in
    let forms = c.args.forms.now in
    let rows = c.looks.rows in
    subst (AreGaps w forms rows) (sym c.deref-in-looks.ensures.value) ((c.in_ok-gaps.ensures {u = tt}).gaps (no_gaps w forms rows [] refl))

pub looks-smaller : goal.looks-smaller
looks-smaller c =
    let e = c.is_empty.ensures in
    let some = c.if-is_empty.false in
    let same = ap length c.deref.ensures.value in
    let again = ap length c.deref-in-looks.ensures.value in
    let full : 0 < length c.deref-in-looks.result.now = grind (arith, nat_tests, e, some, same, again) in
    let grows = (c.in_ok-fill_all.ensures {u = tt}).more full in
    let taken = c.in_ok-spread_all.ensures {u = tt} in
    let more = taken.no_less in
    smaller c.args.world.now c.args.forms.now c.looks.rows c.spread_all.new.rows taken.filling.are (omega (arith, grows, more))

pub look-requires-clause-stretches : goal.look-requires-clause-stretches
look-requires-clause-stretches c = subst (Each (IsStretch c.args.forms.now)) (sym c.as_slice.ensures.value) (c.in_ok-stretches.ensures {u = tt})

pub spread_all-requires-clause-stretches : goal.spread_all-requires-clause-stretches
spread_all-requires-clause-stretches c = subst (Each (IsStretch c.args.forms.now)) (sym c.as_slice-in-looks.ensures.value) (c.in_ok-stretches.ensures {u = tt})
