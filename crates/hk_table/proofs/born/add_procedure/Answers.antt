use Rattle.hk_table.proofs.ObjectsOpened.{procedure_added}
use Rattle.hk_table.proofs.born.add_procedure.Goals as goal

pub returns : goal.returns
returns c =
    procedure_added c.args.objects.now c.make-slot.result.0 c.new.result c.args.entries c.args.code c.args.params c.make-slot.new.objects c.set_procedure.new.self c.new.ensures
    c.make-slot.ensures.slot c.make-slot.ensures.free c.make-slot.ensures.above c.make-slot.ensures.made c.set_procedure.ensures
