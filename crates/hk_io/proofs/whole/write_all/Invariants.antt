use Rattle.std.proofs.Common.{◌-◌, ◌≤◌, length, take}
use Rattle.std.specs.Io.KnownBytes.{Appends}
use Rattle.hk_io.proofs.whole.write_all.Given as goal

abbrev pub invariant-turns : goal.invariant-turns
invariant-turns g l =
    record {
      taken : Appends (g.W.Sink.taken l.fn.sink) (g.W.Sink.taken l.sink) (take l.sent l.text);
      within : l.sent ≤ length l.text;
      later : g.W.Sink.faults l.fn.sink ≤ g.W.Sink.faults l.sink;
    }

abbrev pub decreases-turns : goal.decreases-turns
decreases-turns g l = length l.text - l.sent
