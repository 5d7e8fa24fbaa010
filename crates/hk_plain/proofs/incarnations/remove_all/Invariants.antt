use Rattle.std.proofs.Common.{◌≡◌, drop}
use Rattle.hk_plain.specs.Stacks.{remove_all}
use Rattle.hk_plain.specs.Counts.{Moved, slot_names}
use Rattle.hk_plain.specs.Removing.{IncarnationsWent}
use Rattle.hk_plain.proofs.incarnations.remove_all.Given as goal

abbrev pub invariant-loop-number : goal.invariant-loop-number
invariant-loop-number l = record {
  live : remove_all (drop l.number-index l.numbers) l.live.entries ≡ remove_all l.numbers l.fn.live.entries;
  counted : Moved l.fn.counts l.counts (slot_names l.live.entries) (slot_names l.fn.live.entries);
  went : IncarnationsWent l.fn.live.entries l.live.entries l.fn.removed l.removed;
}
