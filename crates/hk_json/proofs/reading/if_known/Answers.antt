use Rattle.serde_json.specs.View.{view}
use Rattle.hk_json.proofs.Known.{known_flat, known_whole}
use Rattle.hk_json.proofs.reading.if_known.Goals as goal

pub same-requires-clause-other : goal.same-requires-clause-other
same-requires-clause-other c = known_flat (view c.in_ok-known.known) c.args.world c.in_ok-known.ensures

pub same-requires-clause-whole : goal.same-requires-clause-whole
same-requires-clause-whole c = known_whole (view c.in_ok-known.known) c.args.world c.in_ok-known.ensures
