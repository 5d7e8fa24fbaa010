use Rattle.std.proofs.Common.{◌∙◌, refl, ap, subst, sym}
use Rattle.hk_model.specs.declared.names.Name.{Name}
use Rattle.hk_rights.specs.Rights.{env_right, a0_right}
use Rattle.hk_bound.specs.declared.forms.Form.{Form}
use Rattle.hk_bound.specs.Taking.{Slots, Amplifies, Follows, make_form}
use Rattle.hk_bound.specs.Columns.{proc_at, name_at}
use Rattle.hk_bound.proofs.gaps.Table.make_form.Goals as goal

pub offer_form-requires-clause-follows : goal.offer_form-requires-clause-follows
offer_form-requires-clause-follows c =
    let w = c.args.self.now.world.now in
    let had = (c.requires.known.follow c.args.process c.args.name c.args.by c.requires.cell).old c.requires.name in
    subst (λ (f : Form). Follows w (Amplifies (Slots (proc_at c.args.process)) f.of f.check f.give)) (sym c.made_form.ensures)
    (make_form (proc_at c.args.process) (name_at c.args.name) c.requires.name (ap (λ (n : Name). n.0) (sym c.type_of.ensures) ∙ c.if-type_of-eq0.true)
    (had.given env_right refl (sym c.has-then-has.ensures ∙ c.if-has-2.true)) (had.given a0_right refl (sym c.has.ensures ∙ c.if-has.true)))
