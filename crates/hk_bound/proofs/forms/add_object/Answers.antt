use Rattle.std.proofs.Common.{◌∙◌, subst, ap}
use Rattle.hk_model.specs.declared.names.Name.{Name}
use Rattle.hk_bound.specs.declared.forms.Form.{Form}
use Rattle.hk_bound.specs.Columns.{opening_entries, opening_params}
use Rattle.hk_bound.specs.Forms.{HaveEntryForms, HaveParamForms, Holds}
use Rattle.hk_bound.proofs.EachLemmas.{entry_forms_stay, param_forms_stay}
use Rattle.hk_bound.proofs.forms.add_object.Goals as goal

pub returns-in_ok-add-clause-holds : goal.returns-in_ok-add-clause-holds
returns-in_ok-add-clause-holds c =
    let w = c.args.world.now in
    let first = c.in_ok-add_entries.ensures {u = tt} in
    let second = c.in_ok-add_params.ensures {u = tt} in
    let third = c.in_ok-add.ensures {u = tt} in
    let a : HaveEntryForms c.add_entries.new.forms.items (opening_entries w c.args.name) = subst (HaveEntryForms c.add_entries.new.forms.items) c.entries_of.ensures first.holds in
    let b : HaveParamForms c.add_params.new.forms.items (opening_params w c.args.name) = subst (HaveParamForms c.add_params.new.forms.items) c.params_of.ensures second.holds in
    record {
      entries =
          entry_forms_stay c.add_params.new.forms.items c.add.new.forms.items (opening_entries w c.args.name) third.keeps
          (entry_forms_stay c.add_entries.new.forms.items c.add_params.new.forms.items (opening_entries w c.args.name) second.keeps a);
      params = param_forms_stay c.add_params.new.forms.items c.add.new.forms.items (opening_params w c.args.name) third.keeps b;
      made = λ e. subst (λ (f : Form). Holds c.add.new.forms.items f) c.made_form.ensures third.holds;
    }

pub returns-else-type_of-eq0-clause-holds : goal.returns-else-type_of-eq0-clause-holds
returns-else-type_of-eq0-clause-holds c =
    let w = c.args.world.now in
    let first = c.in_ok-add_entries.ensures {u = tt} in
    let second = c.in_ok-add_params.ensures {u = tt} in
    let a : HaveEntryForms c.add_entries.new.forms.items (opening_entries w c.args.name) = subst (HaveEntryForms c.add_entries.new.forms.items) c.entries_of.ensures first.holds in
    let b : HaveParamForms c.add_params.new.forms.items (opening_params w c.args.name) = subst (HaveParamForms c.add_params.new.forms.items) c.params_of.ensures second.holds in
    record {
      entries = entry_forms_stay c.add_entries.new.forms.items c.add_params.new.forms.items (opening_entries w c.args.name) second.keeps a;
      params = b;
      made = λ e. absurd (c.if-type_of-eq0.false (ap (λ (n : Name). n.0) c.type_of.ensures ∙ e));
    }
