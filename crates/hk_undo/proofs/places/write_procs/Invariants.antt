use Rattle.std.proofs.Common.{◌≡◌, ◌++◌, map, take, string_bytes}
use Rattle.hk_model.specs.declared.names.Proc.{Proc}
use Rattle.hk_undo.specs.StateTexts.{spaced}
use Rattle.hk_undo.proofs.places.write_procs.Given as goal

-- the processes so far are written
abbrev pub invariant-loop-proc : goal.invariant-loop-proc
invariant-loop-proc l = string_bytes l.out ≡ string_bytes l.initial.out ++ spaced (map (λ (p : Proc). p.0) (take l.proc-index l.procs))
