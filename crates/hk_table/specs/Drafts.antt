-- The code that a draft tells, by the reply to its call. docs/RULES.md, "Steps of processors".
use Rattle.std.specs.Prelude.{ℕ, Option, None}
use Rattle.hk_model.specs.declared.calls.Call.{Call}
use Rattle.hk_model.specs.declared.calls.Call.TheVariants as call
use Rattle.hk_model.specs.declared.calls.Reply.{Reply}
use Rattle.hk_model.specs.declared.calls.Reply.TheVariants.{Done}

-- the draft's code, where a procedure has been entered
abbrev pub code_drafted : Call → Reply → Option ℕ → Option ℕ
code_drafted (call.Enter path args into) Done code = code
code_drafted c reply code = None
