use Rattle.std.specs.Prelude.{IfSome}
use Rattle.hk_model.specs.declared.entries.Param.{Param}
use Rattle.hk_bound.specs.Each.{EachBelow}
use Rattle.hk_bound.specs.Forms.{param_form, Holds, KeepsForms}
use Rattle.hk_bound.proofs.forms.add_params.Given as goal

abbrev pub invariant-loop-param : goal.invariant-loop-param
invariant-loop-param l = record {
  keeps : KeepsForms l.fn.forms.items l.forms.items;
  holds : EachBelow l.param-index (λ (x : Param). IfSome (param_form x) (Holds l.forms.items)) l.params;
}
