use Rattle.hk_load.proofs.Jumps.{label_apart, label_added, new_at_end, as_many}
use Rattle.hk_load.proofs.labels.Labels.add.Goals as goal

pub invariant_of-self-in_default : goal.invariant_of-self-in_default
invariant_of-self-in_default c =
    as_many c.self.inside.names c.add.new.self c.self.inside.places.items c.push.new.self.items c.args.label.now c.args.place c.self.invariant
    (new_at_end c.self.inside.names c.add.new.self c.args.label.now c.in_default.field-0
    (label_apart c.self.inside.names c.self.inside.places.items c.args.self.now c.args.label.now c.self.invariant c.self.view_is c.requires)
    c.in_default.ensures.found c.in_default.ensures.names)
    c.in_ok-push.ensures.items

pub returns : goal.returns
returns c =
    label_added c.self.inside.names c.add.new.self c.self.inside.places.items c.push.new.self.items c.args.self.now c.args.label.now c.args.place c.self.invariant c.self.view_is
    (new_at_end c.self.inside.names c.add.new.self c.args.label.now c.in_default.field-0
    (label_apart c.self.inside.names c.self.inside.places.items c.args.self.now c.args.label.now c.self.invariant c.self.view_is c.requires)
    c.in_default.ensures.found c.in_default.ensures.names)
    c.in_ok-push.ensures.items
