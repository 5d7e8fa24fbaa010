use Rattle.std.proofs.Common.{◌≡◌, ◌++◌, replicate}
use Rattle.hk_model.specs.declared.entries.Entry.TheVariants.{Empty}
use Rattle.hk_plain.proofs.opening.base_slots.Given as goal

abbrev pub invariant-loop : goal.invariant-loop
invariant-loop l = l.slots ≡ l.entries ++ replicate l.counter Empty
