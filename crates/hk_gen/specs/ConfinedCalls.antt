-- Worlds of which every call is confined. docs/RULES.md, "Calls of procedures".
use Rattle.std.specs.Prelude.{ℕ, List}
use Rattle.hk_model.specs.declared.names.Inc.{Inc}
use Rattle.hk_model.specs.declared.lines.Line.{Line}
use Rattle.hk_model.specs.WorldValue.{WorldValue}
use Rattle.hk_model.specs.Running.{AreStepsOf}
use Rattle.hk_model.specs.Under.{IsCall}
use Rattle.hk_model.specs.Confinement.{IsConfinedCall}

-- each call that begins in a history of the world, whichever processors made its lines, is confined
abbrev pub AllCallsConfined : WorldValue → Type 0
AllCallsConfined w = (lines : List Line) → AreStepsOf w lines → (k : ℕ) (call : Inc) → IsCall w lines k call → IsConfinedCall w lines k call
