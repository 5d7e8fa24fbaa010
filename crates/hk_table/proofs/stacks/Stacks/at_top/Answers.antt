use Rattle.std.proofs.Common.{◌≤◌, List, length, subst}
use Rattle.hk_model.specs.declared.entries.Entry.{Entry}
use Rattle.hk_table.specs.Stacked.{IsIn}
use Rattle.hk_table.proofs.StackMoves.{slot_some}
use Rattle.hk_table.proofs.stacks.Stacks.at_top.Goals as goal

pub returns-in-Some-clause-some : goal.returns-in-Some-clause-some
returns-in-Some-clause-some c =
    subst (λ (es : List Entry). IsIn es c.args.at c.in-Some.entry.now) c.top_slots.ensures.value (
      c.in-Some.ensures.lookup.3.0,
      slot_some c.top_slots.result.now c.args.at c.in-Some.entry.now c.in-Some.ensures.lookup.3.0 c.in-Some.ensures.lookup.1,
    )

pub returns-in-None-clause-none : goal.returns-in-None-clause-none
returns-in-None-clause-none c = subst (λ (es : List Entry). length es ≤ c.args.at) c.top_slots.ensures.value c.in-None.ensures.lookup.3
