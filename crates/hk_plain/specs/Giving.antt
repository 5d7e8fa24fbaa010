-- What a call gives, beside what the rule table says of it. docs/RULES.md, "The table of the calls".
use Rattle.std.specs.Prelude.{◌≡◌, Result, Ok, Err}
use Rattle.hk_model.specs.declared.calls.Answer.{Answer}
use Rattle.hk_model.specs.State.{State}
use Rattle.hk_model.specs.Rule.{Outcome}
use Rattle.hk_calls.specs.declared.stop.Stop.{Stop}
use Rattle.hk_calls.specs.declared.stop.Stop.TheVariants.{Refused, OutOfMemory}
use Rattle.hk_plain.specs.Numbers.{TakesOne}

-- the outcome's answer with the outcome's state, or its refusal, or want of memory; the last two change nothing
abbrev pub Gives : State → Outcome → Result Answer Stop → State → Type 0
Gives before outcome (Ok answer) after = (outcome ≡ Ok (answer, after)) × TakesOne before after
Gives before outcome (Err (Refused refusal)) after = (outcome ≡ Err refusal) × (after ≡ before)
Gives before outcome (Err OutOfMemory) after = after ≡ before
