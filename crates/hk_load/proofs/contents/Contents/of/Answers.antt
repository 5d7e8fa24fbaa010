use Rattle.std.proofs.Common.{sym, ◌∙◌, ◌+◌, drop}
use Rattle.hk_format.specs.Loading as loading
use Rattle.hk_format.specs.Loading.{used, contents_of}
use Rattle.hk_load.specs.Filling.{contents_seen, room_seen, used_by, added, after}
use Rattle.hk_load.proofs.Fillings.{line_turn}
use Rattle.hk_load.proofs.Outcomes.{line_stops, line_goes}
use Rattle.hk_load.proofs.contents.Contents.of.Goals as goal

pub returns-in-Err : goal.returns-in-Err
returns-in-Err c =
    let turn = line_turn c.args.declared.now (room_seen c.args.room)
    (contents_seen c.loop-part.contents) c.args.parts.now c.loop-part.part-index c.part-item.result c.loop-part-test.true c.part-item.is in
    rw c.on_line.ensures (line_stops c.in-Err.error c.part-item.result.line (added c.args.declared.now (room_seen c.args.room)
    (contents_seen c.loop-part.contents) c.part-item.result.body) (λ (d : loading.Contents). after d
    (contents_of c.args.declared.now (room_seen c.args.room) (used_by d) (drop (c.loop-part.part-index + 1) c.args.parts.now)))
    (contents_of c.args.declared.now (room_seen c.args.room) (used 0 0 0) c.args.parts.now) c.in-Err.ensures (sym c.loop-part.invariant ∙ turn))

pub loop-part-preserved : goal.loop-part-preserved
loop-part-preserved c =
    let turn = line_turn c.args.declared.now (room_seen c.args.room)
    (contents_seen c.loop-part.contents) c.args.parts.now c.loop-part.part-index c.part-item.result c.loop-part-test.true c.part-item.is in
    line_goes c.part-item.result.line (added c.args.declared.now (room_seen c.args.room) (contents_seen c.loop-part.contents) c.part-item.result.body)
    (contents_seen c.add.new.self) (λ (d : loading.Contents). after d (contents_of c.args.declared.now (room_seen c.args.room) (used_by d)
    (drop (c.loop-part.part-index + 1) c.args.parts.now))) (contents_of c.args.declared.now (room_seen c.args.room) (used 0 0 0) c.args.parts.now) c.in_default.ensures
    (sym c.loop-part.invariant ∙ turn)
