use Rattle.std.proofs.Common.{subst}
use Rattle.hk_model.specs.Places.{SlotOf}
use Rattle.hk_model.proofs.NamesGiven.{IsBelow}
use Rattle.hk_bound.specs.Taking.{Slots}
use Rattle.hk_bound.specs.Columns.{proc_at, object_count}
use Rattle.hk_bound.proofs.Sources.{held_follows, held_column, opens_below}
use Rattle.hk_bound.proofs.gaps.Table.slot_gap.Goals as goal

pub offer-requires-clause-follows : goal.offer-requires-clause-follows
offer-requires-clause-follows c =
    let w = c.args.self.now.world.now in
    let forms = c.args.self.now.forms.now in
    let o = c.requires.opens in
    held_follows w forms (Slots (proc_at c.args.process)) o.index c.args.entry.now c.in-Some.held.0 c.in-Some.held.1 o.at
    (subst (IsBelow (object_count w)) o.at (opens_below w forms c.requires.known.world (SlotOf (record { 0 = c.args.process }) o.index))) c.in-Some.ensures.0

pub offer-requires-clause-column : goal.offer-requires-clause-column
offer-requires-clause-column c =
    let w = c.args.self.now.world.now in
    let forms = c.args.self.now.forms.now in
    let o = c.requires.opens in
    held_column w forms c.args.entry.now c.in-Some.held.0 c.in-Some.held.1
    (subst (IsBelow (object_count w)) o.at (opens_below w forms c.requires.known.world (SlotOf (record { 0 = c.args.process }) o.index))) c.in-Some.ensures.0
