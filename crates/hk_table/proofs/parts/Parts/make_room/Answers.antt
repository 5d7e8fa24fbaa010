use Rattle.hk_table.proofs.Rooms.{no_room, no_room_rooted}
use Rattle.hk_table.proofs.parts.Parts.make_room.Goals as goal

pub returns-then-is_full-clause-room : goal.returns-then-is_full-clause-room
returns-then-is_full-clause-room c =
    no_room c.args.self.now c.collect.new.self c.is_full.result c.is_full-2.result c.is_full.ensures.full c.if-not-is_full.false c.is_full.ensures.few
    c.collect.ensures c.is_full-2.ensures.full c.if-is_full.true

pub returns-then-is_full-clause-rooted : goal.returns-then-is_full-clause-rooted
returns-then-is_full-clause-rooted c _ =
    no_room_rooted c.args.self.now c.collect.new.self c.is_full.result c.is_full-2.result c.is_full.ensures.full c.if-not-is_full.false c.is_full.ensures.few
    c.collect.ensures c.is_full-2.ensures.full c.if-is_full.true
