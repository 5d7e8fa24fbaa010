use Rattle.std.proofs.Common.{◌-◌, ◌≤◌, vec_len}
use Rattle.std.specs.Io.KnownBytes.{Consumes}
use Rattle.hk_io.proofs.whole.read_all.Given as goal

abbrev pub invariant-turns : goal.invariant-turns
invariant-turns g l =
    record {
      taken : Consumes (g.S.Source.left l.fn.source) (g.S.Source.left l.source) l.bytes.items;
      within : vec_len l.bytes ≤ l.limit;
      later : g.S.Source.faults l.fn.source ≤ g.S.Source.faults l.source;
    }

abbrev pub decreases-turns : goal.decreases-turns
decreases-turns g l = l.limit - vec_len l.bytes
