use Rattle.std.proofs.Common.{Ok}
use Rattle.hk_table.proofs.Named.{room_named}
use Rattle.hk_table.proofs.parts.Parts.add_object.Goals as goal

pub make-requires-clause-named : goal.make-requires-clause-named
make-requires-clause-named c = room_named c.args.self.now c.make_room.new.self (Ok tt) c.in_ok-make_room.ensures.room c.requires.named
