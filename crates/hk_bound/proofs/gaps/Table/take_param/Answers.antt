use Rattle.std.proofs.Common.{◌∙◌, Option, subst, sym}
use Rattle.std.specs.Prelude.{IfSome}
use Rattle.hk_bound.specs.declared.forms.Form.{Form}
use Rattle.hk_bound.specs.Forms.{Holds}
use Rattle.hk_bound.proofs.Sources.{param_follows}
use Rattle.hk_bound.proofs.gaps.Table.take_param.Goals as goal

pub offer_form-requires-clause-holds : goal.offer_form-requires-clause-holds
offer_form-requires-clause-holds c =
    let a = c.requires.among in
    subst (λ (o : Option Form). IfSome o (Holds c.args.self.now.forms.now)) (sym c.param_form.ensures ∙ c.in-Some.is)
    ((c.requires.known.forms_are.objects c.args.name c.requires.name).params a.place c.args.param.now a.is)

pub offer_form-requires-clause-follows : goal.offer_form-requires-clause-follows
offer_form-requires-clause-follows c =
    let a = c.requires.among in
    param_follows c.args.self.now.world.now c.args.self.now.forms.now c.args.process c.args.name a.place c.args.param.now c.in-Some.form c.requires.procedure c.requires.call a.is
    (sym c.param_form.ensures ∙ c.in-Some.is)
