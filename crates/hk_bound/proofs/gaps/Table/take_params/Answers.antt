use Rattle.std.proofs.Common.{◌≡◌, ◌∙◌, List, length, refl, subst, sym}
use Rattle.std.specs.Prelude.{Some, slice_get}
use Rattle.std.proofs.lemmas.Option.{slice_get_read}
use Rattle.hk_model.specs.declared.entries.Param.{Param}
use Rattle.hk_rights.specs.Rights.{a0_right}
use Rattle.hk_bound.specs.Each.{Each}
use Rattle.hk_bound.specs.Rules.{ParamRule, ParamsRule}
use Rattle.hk_bound.proofs.FindsLemmas.{finds_item, finds_end, finds_more}
use Rattle.hk_bound.proofs.gaps.Table.take_params.Goals as goal

pub take_param-requires-clause-call : goal.take_param-requires-clause-call
take_param-requires-clause-call c =
    ((c.requires.known.follow c.args.process c.args.name c.args.by c.requires.cell).old c.requires.name).given a0_right refl (sym c.has.ensures ∙ c.if-not-has.false)

pub take_param-requires-clause-among : goal.take_param-requires-clause-among
take_param-requires-clause-among c = record {
  place = c.loop-param.param-index;
  is = subst (λ (ps : List Param). slice_get ps c.loop-param.param-index ≡ Some c.param-item.result) c.params_of-param-items.ensures
      (slice_get_read c.params_of-param-items.result.now (length c.params_of-param-items.result.now) c.loop-param.param-index c.param-item.result refl
      c.loop-param-test.true c.param-item.is);
}

pub loop-param-preserved : goal.loop-param-preserved
loop-param-preserved c =
    let w = c.args.self.now.world.now in
    let forms = c.args.self.now.forms.now in
    let rows = c.args.self.now.rows.now in
    finds_item w forms rows (ParamRule w forms rows c.args.process) c.params_of-param-items.result.now c.loop-param.param-index c.param-item.result c.args.gaps.now.items
    c.loop-param.gaps.items c.take_param.new.gaps.items
    (slice_get_read c.params_of-param-items.result.now (length c.params_of-param-items.result.now) c.loop-param.param-index c.param-item.result refl
    c.loop-param-test.true c.param-item.is)
    c.loop-param.invariant (c.in_ok-take_param.ensures {u = tt})

pub returns : goal.returns
returns c =
    let w = c.args.self.now.world.now in
    let forms = c.args.self.now.forms.now in
    let rows = c.args.self.now.rows.now in
    finds_more w forms rows (Each (ParamRule w forms rows c.args.process) c.params_of-param-items.result.now) (ParamsRule w forms rows c.args.process c.args.name c.args.by)
    c.args.gaps.now.items c.loop-param.gaps.items
    (λ all call type. subst (λ (ps : List Param). Each (ParamRule w forms rows c.args.process) ps) c.params_of-param-items.ensures all)
    (finds_end w forms rows (ParamRule w forms rows c.args.process) c.params_of-param-items.result.now c.loop-param.param-index c.args.gaps.now.items c.loop-param.gaps.items
    c.loop-param-test.false c.loop-param.invariant)
