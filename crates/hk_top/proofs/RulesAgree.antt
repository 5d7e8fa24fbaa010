-- The two statements of the rules of calls agree.
use Rattle.std.proofs.Common.{subst}
use Rattle.hk_model.specs.declared.calls.Reply.{Reply}
use Rattle.hk_model.specs.State.{State}
use Rattle.hk_model.specs.Does.{Does}
use Rattle.hk_model.proofs.RuleDoes.{rule_does}
use Rattle.hk_top.specs.Agreement.{RulesAgree}
use Rattle.hk_top.proofs.DoesRule.{does_rule}

pub agree : RulesAgree
agree s proc c reply after = (
  λ h. does_rule s proc h,
  λ e. subst (λ (x : Reply × State). Does s proc c x.0 x.1) e (rule_does s proc c),
)
