use Rattle.std.proofs.Common.{arith, Some}
use Rattle.std.proofs.lemmas.Grind.{common_steps}
use Rattle.hk_objects.specs.declared.body.Body.{Body}
use Rattle.hk_objects.proofs.Padding.{in_front, change_in}
use Rattle.hk_objects.proofs.parts.put_procedure.Goals as goal

pub index_mut-requires : goal.index_mut-requires
index_mut-requires c = in_front c.slots.inside.items c.args.slots.now c.args.slot c.slots.view_is c.requires

pub returns : goal.returns
returns c =
    change_in c.slots.inside.items c.match-index_mut.slots-inside.items.items c.args.slots.now c.args.slot
    (λ (body : Body). record body { procedure = Some c.args.procedure })
    c.slots.view_is c.requires (grind (arith, common_steps))
