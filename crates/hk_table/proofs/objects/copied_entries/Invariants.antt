use Rattle.std.proofs.Common.{◌≡◌, take, map}
use Rattle.hk_model.specs.Rule.{copied}
use Rattle.hk_table.proofs.objects.copied_entries.Given as goal

abbrev pub invariant-loop-entry : goal.invariant-loop-entry
invariant-loop-entry l = l.all ≡ map (copied l.by) (take l.entry-index l.entries)
