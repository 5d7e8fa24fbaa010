use Rattle.std.specs.Io.KnownBytes.{Keeps}
use Rattle.hk_io.proofs.standard.read_uninterrupted.Given as goal

-- an interrupted read takes nothing
abbrev pub invariant-loop-try : goal.invariant-loop-try
invariant-loop-try g l = Keeps (g.R.Read.remaining l.fn.reader) (g.R.Read.remaining l.reader)
