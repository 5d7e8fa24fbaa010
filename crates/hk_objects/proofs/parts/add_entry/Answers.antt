use Rattle.std.proofs.Common.{◌<◌, ◌++◌, ◌∷◌, [], length, arith}
use Rattle.std.proofs.lemmas.Grind.{common_steps}
use Rattle.hk_model.specs.declared.names.Name.{Name}
use Rattle.hk_objects.specs.declared.body.Body.{Body}
use Rattle.hk_objects.proofs.Padding.{in_front, change_in, read_in}
use Rattle.hk_objects.proofs.parts.add_entry.Goals as goal

pub index_mut-requires : goal.index_mut-requires
index_mut-requires c = in_front c.slots.inside.items c.args.slots.now c.args.slot c.slots.view_is c.requires.slot

pub push-requires : goal.push-requires
push-requires c = (
  omega arith,
  read_in c.slots.inside.items c.args.slots.now c.args.slot c.index_mut.result.now (c.in-Some.field-0-0, c.in-Some.body)
      (λ (e : Name × Body). length e.1.entries < 256) c.slots.view_is c.requires.slot c.index_mut.ensures.value c.in-Some.is c.requires.room,
)

pub returns-clause-ok : goal.returns-clause-ok
returns-clause-ok c =
    change_in c.slots.inside.items c.match-index_mut.slots-inside.items.items c.args.slots.now c.args.slot
    (λ (body : Body). record body { entries = body.entries ++ c.args.entry ∷ [] })
    c.slots.view_is c.requires.slot (grind (arith, common_steps))
