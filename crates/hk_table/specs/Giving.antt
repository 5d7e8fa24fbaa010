-- What a call gives, beside what the rule table says of it. docs/RULES.md, "The table of the calls".
use Rattle.std.specs.Prelude.{◌≡◌, ◌+◌, ◌≤◌, Bool, true, false, Result, Ok, Err}
use Rattle.hk_model.specs.declared.calls.Call.{Call}
use Rattle.hk_model.specs.declared.calls.Call.TheVariants as call
use Rattle.hk_model.specs.declared.calls.Answer.{Answer}
use Rattle.hk_model.specs.declared.calls.Refusal.{Refusal}
use Rattle.hk_model.specs.State.{State}
use Rattle.hk_model.specs.Rule.{Outcome}
use Rattle.hk_calls.specs.declared.stop.Stop.{Stop}
use Rattle.hk_calls.specs.declared.stop.Stop.TheVariants.{Refused, OutOfMemory}

-- the numbers that objects and incarnations take next rise by one at most
abbrev pub TakesOne : State → State → Type 0
TakesOne before after = (after.next_name.0 ≤ before.next_name.0 + 1) × (after.next_inc.0 ≤ before.next_inc.0 + 1)

-- the outcome's answer with the outcome's state, or its refusal, which changes nothing
abbrev pub Answers : State → Outcome → Result Answer Refusal → State → Type 0
Answers before outcome (Ok answer) after = (outcome ≡ Ok (answer, after)) × TakesOne before after
Answers before outcome (Err refusal) after = (outcome ≡ Err refusal) × (after ≡ before)

-- the same of a call that may want memory, which changes nothing then
abbrev pub Gives : State → Outcome → Result Answer Stop → State → Type 0
Gives before outcome (Ok answer) after = (outcome ≡ Ok (answer, after)) × TakesOne before after
Gives before outcome (Err (Refused refusal)) after = (outcome ≡ Err refusal) × (after ≡ before)
Gives before outcome (Err OutOfMemory) after = after ≡ before

-- a call that may want memory: Add, Append, Copy and Enter
abbrev pub takes_memory : Call → Bool
takes_memory (call.Add of word) = true
takes_memory (call.Append list from) = true
takes_memory (call.Copy of into) = true
takes_memory (call.Enter path args into) = true
takes_memory c = false

-- no other call is answered with want of memory
abbrev pub WantsOnly : Call → Result Answer Stop → Type 0
WantsOnly c (Ok answer) = Unit {0}
WantsOnly c (Err (Refused refusal)) = Unit {0}
WantsOnly c (Err OutOfMemory) = takes_memory c ≡ true
