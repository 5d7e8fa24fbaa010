-- Which calls may want memory.
use Rattle.std.proofs.Common.{◌≡◌, true, Result, Ok, Err}
use Rattle.hk_model.specs.declared.calls.Answer.{Answer}
use Rattle.hk_model.specs.declared.calls.Call.{Call}
use Rattle.hk_calls.specs.declared.stop.Stop.{Stop}
use Rattle.hk_calls.specs.declared.stop.Stop.TheVariants.{Refused, OutOfMemory}
use Rattle.hk_table.specs.Giving.{takes_memory, WantsOnly}

-- of a call that may, every answer is allowed
pub wants_any : (c : Call) (r : Result Answer Stop) → takes_memory c ≡ true → WantsOnly c r
wants_any c (Ok answer) h = tt
wants_any c (Err (Refused refusal)) h = tt
wants_any c (Err OutOfMemory) h = h
