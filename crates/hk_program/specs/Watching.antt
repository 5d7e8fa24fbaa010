-- What somebody who looks on has seen. docs/RULES.md, "Steps of processors".
use Rattle.std.specs.Prelude.{Option, Some, None}
use Rattle.hk_model.specs.declared.calls.Call.{Call}
use Rattle.hk_model.specs.declared.frames.Todo.{Todo}
use Rattle.hk_model.specs.declared.frames.Todo.TheVariants.{Do, Halt}
use Rattle.hk_model.specs.declared.names.Cpu.{Cpu}
use Rattle.hk_model.specs.declared.names.Inc.{Inc}
use Rattle.hk_model.specs.declared.names.Proc.{Proc}
use Rattle.hk_model.specs.WorldValue.{WorldValue}
use Rattle.hk_model.specs.State.{State}
use Rattle.hk_model.specs.Control.{next}
use Rattle.hk_model.specs.Processors.{running_on}
use Rattle.hk_model.specs.Running.{Machine, context_of}

-- once this is done that is next of a process: a call of its incarnation is shown
abbrev pub seen_of : {A : Type 0} → (A → State → Inc → Call → A) → State → Inc → Todo → A → A
seen_of see s inc (Do c) x = see x s inc c
seen_of see s inc Halt x = x

-- once a processor that runs this has made its step: where it runs a process, what is next of that is seen
abbrev pub seen_by : {A : Type 0} → (A → State → Inc → Call → A) → WorldValue → Machine → Option (Proc × Inc) → A → A
seen_by see w m None x = x
seen_by see w m (Some y) x = seen_of see m.state y.1 (next w (context_of m y.0)).0 x

-- once a processor has made its step
abbrev pub seen_in_step : {A : Type 0} → (A → State → Inc → Call → A) → WorldValue → Machine → Cpu → A → A
seen_in_step see w m cpu x = seen_by see w m (running_on m.state cpu) x
