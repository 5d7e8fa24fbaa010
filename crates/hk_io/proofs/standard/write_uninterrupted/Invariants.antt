use Rattle.std.specs.Io.KnownBytes.{Keeps}
use Rattle.hk_io.proofs.standard.write_uninterrupted.Given as goal

-- an interrupted write takes nothing
abbrev pub invariant-loop-try : goal.invariant-loop-try
invariant-loop-try g l = Keeps (g.W.Write.contents l.fn.writer) (g.W.Write.contents l.writer)
