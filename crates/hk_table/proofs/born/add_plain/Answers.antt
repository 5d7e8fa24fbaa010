use Rattle.hk_objects.specs.Shelf.{new_body}
use Rattle.hk_table.proofs.ObjectsOpened.{added}
use Rattle.hk_table.proofs.born.add_plain.Goals as goal

pub returns : goal.returns
returns c =
    added c.args.objects.now c.make.result.0 (new_body c.args.of c.args.words c.args.entries) c.make.new.objects c.make.ensures.slot c.make.ensures.free
    c.make.ensures.above c.make.ensures.made
