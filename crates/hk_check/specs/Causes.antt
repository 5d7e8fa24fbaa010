-- The first cause of several. docs/FORMATS.md, "Legal records".
use Rattle.std.specs.Prelude.{Bool, true, false, Option, Some, None}
use Rattle.hk_model.specs.declared.verdicts.Misstep.{Misstep}
use Rattle.hk_model.specs.declared.verdicts.Misstep.TheVariants as misstep

-- whether the same process makes the line and the step, and whether the event and the reply are the same
abbrev pub first_cause : Bool → Bool → Bool → Option Misstep
first_cause false event reply = Some misstep.Process
first_cause true false reply = Some misstep.Call
first_cause true true false = Some misstep.Reply
first_cause true true true = None
