use Rattle.std.proofs.Common.{subst, Option}
use Rattle.std.specs.Prelude.{IfSome}
use Rattle.hk_model.specs.declared.entries.Param.{Param}
use Rattle.hk_bound.specs.declared.forms.Form.{Form}
use Rattle.hk_bound.specs.Forms.{param_form, Holds}
use Rattle.hk_bound.proofs.EachLemmas.{each_none, each_read, each_all, each_weaker, forms_stay, keeps_self, keeps_then}
use Rattle.hk_bound.proofs.forms.add_params.Goals as goal

pub loop-param-init : goal.loop-param-init
loop-param-init c = record {
  keeps = keeps_self c.args.forms.now.items;
  holds = each_none (λ (x : Param). IfSome (param_form x) (Holds c.args.forms.now.items)) c.args.params.now;
}

pub loop-param-preserved : goal.loop-param-preserved
loop-param-preserved c =
    let i = c.loop-param.invariant in
    let e = c.in_ok-add.ensures {u = tt} in
    record {
      keeps = keeps_then c.args.forms.now.items c.loop-param.forms.items c.add.new.forms.items i.keeps e.keeps;
      holds =
          each_read (λ (x : Param). IfSome (param_form x) (Holds c.add.new.forms.items)) c.args.params.now c.loop-param.param-index c.param-item.result
          (each_weaker (λ (x : Param). IfSome (param_form x) (Holds c.loop-param.forms.items)) (λ (x : Param). IfSome (param_form x) (Holds c.add.new.forms.items))
          c.args.params.now c.loop-param.param-index
          (λ x h. forms_stay c.loop-param.forms.items c.add.new.forms.items (param_form x) e.keeps h) i.holds)
          c.loop-param-test.true c.param-item.is
          (subst (λ (o : Option Form). IfSome o (Holds c.add.new.forms.items)) c.param_form.ensures e.holds);
    }

pub returns-clause-holds : goal.returns-clause-holds
returns-clause-holds c =
    each_all (λ (x : Param). IfSome (param_form x) (Holds c.loop-param.forms.items)) c.args.params.now c.loop-param.param-index c.loop-param.invariant.holds c.loop-param-test.false
