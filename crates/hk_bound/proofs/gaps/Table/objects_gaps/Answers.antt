use Rattle.std.proofs.Common.{◌<◌, ◌+◌, ℕ, arith}
use Rattle.hk_bound.specs.Columns.{object_count}
use Rattle.hk_bound.specs.Rules.{ObjectRule}
use Rattle.hk_bound.specs.Merges.{AreSettled, SettledRule}
use Rattle.hk_bound.proofs.FindsLemmas.{finds_none, finds_then, finds_more}
use Rattle.hk_bound.proofs.Handed.{below_more}
use Rattle.hk_bound.proofs.Merges.{none_settled}
use Rattle.hk_bound.proofs.gaps.Table.objects_gaps.Goals as goal

pub loop-name-init : goal.loop-name-init
loop-name-init c =
    let w = c.args.self.now.world.now in
    let forms = c.args.self.now.forms.now in
    let rows = c.args.self.now.rows.now in
    finds_none w forms rows (((k : ℕ) → k < 0 → ObjectRule w forms rows c.args.process k) × AreSettled w forms rows c.args.process c.in_ok-settled.settled.sets.items) c.args.gaps.now.items
    (λ k low. absurd (omega (arith, low)), none_settled w forms rows c.args.process c.in_ok-settled.settled.sets.items (c.in_ok-settled.ensures {u = tt}))

pub loop-name-preserved : goal.loop-name-preserved
loop-name-preserved c =
    let w = c.args.self.now.world.now in
    let forms = c.args.self.now.forms.now in
    let rows = c.args.self.now.rows.now in
    let name = c.loop-name.name in
    finds_more w forms rows
    ((((k : ℕ) → k < c.loop-name.name → ObjectRule w forms rows c.args.process k) × AreSettled w forms rows c.args.process c.loop-name.settled.sets.items)
    × SettledRule w forms rows c.args.process c.loop-name.settled.sets.items c.object_gaps.new.settled.sets.items (ObjectRule w forms rows c.args.process c.loop-name.name))
    (((k : ℕ) → k < c.loop-name.name + 1 → ObjectRule w forms rows c.args.process k) × AreSettled w forms rows c.args.process c.object_gaps.new.settled.sets.items)
    c.args.gaps.now.items c.object_gaps.new.gaps.items
    (λ h. let after = h.1 h.0.1 in (below_more (ObjectRule w forms rows c.args.process) c.loop-name.name h.0.0 after.0, after.1))
    (finds_then w forms rows
    (((k : ℕ) → k < c.loop-name.name → ObjectRule w forms rows c.args.process k) × AreSettled w forms rows c.args.process c.loop-name.settled.sets.items)
    (SettledRule w forms rows c.args.process c.loop-name.settled.sets.items c.object_gaps.new.settled.sets.items (ObjectRule w forms rows c.args.process c.loop-name.name))
    c.args.gaps.now.items c.loop-name.gaps.items c.object_gaps.new.gaps.items c.loop-name.invariant (c.in_ok-object_gaps.ensures {u = tt}))

pub returns : goal.returns
returns c =
    let w = c.args.self.now.world.now in
    let forms = c.args.self.now.forms.now in
    let rows = c.args.self.now.rows.now in
    let end = c.loop-name-test.false in
    let count = c.object_count-name-end.ensures.value in
    finds_more w forms rows
    (((k : ℕ) → k < c.loop-name.name → ObjectRule w forms rows c.args.process k) × AreSettled w forms rows c.args.process c.loop-name.settled.sets.items)
    ((k : ℕ) → k < object_count w → ObjectRule w forms rows c.args.process k)
    c.args.gaps.now.items c.loop-name.gaps.items
    (λ h k low. h.0 k (omega (arith, low, end, count))) c.loop-name.invariant
