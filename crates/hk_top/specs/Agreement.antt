-- The two statements of the rules of calls agree. docs/RULES.md, "The rules as inference rules".
use Rattle.std.specs.Prelude.{◌≡◌, ◌↔◌}
use Rattle.hk_model.specs.declared.names.Proc.{Proc}
use Rattle.hk_model.specs.declared.calls.Reply.{Reply}
use Rattle.hk_model.specs.declared.calls.Call.{Call}
use Rattle.hk_model.specs.State.{State}
use Rattle.hk_model.specs.Rule.{rule}
use Rattle.hk_model.specs.Does.{Does}

-- in every state, for every process and call, the inference rules give a reply and a state if and only if the rule table gives them
abbrev pub RulesAgree : Type 0
RulesAgree = (s : State) (proc : Proc) (c : Call) (reply : Reply) (after : State) → Does s proc c reply after ↔ (rule s proc c ≡ (reply, after))
