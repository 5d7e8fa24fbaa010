use Rattle.std.proofs.Common.{◌≡◌, drop}
use Rattle.hk_format.specs.Loading.{used, contents_of}
use Rattle.hk_load.specs.Filling.{contents_seen, room_seen, used_by, after}
use Rattle.hk_load.proofs.contents.Contents.of.Given as goal

abbrev pub invariant-loop-part : goal.invariant-loop-part
invariant-loop-part l =
    after (contents_seen l.contents) (contents_of l.declared (room_seen l.room) (used_by (contents_seen l.contents)) (drop l.part-index l.parts))
    ≡ contents_of l.declared (room_seen l.room) (used 0 0 0) l.parts
