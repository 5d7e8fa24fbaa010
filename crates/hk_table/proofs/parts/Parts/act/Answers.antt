use Rattle.std.proofs.Common.{rules}
use Rattle.hk_table.proofs.Rooms.{counted_rooted}
use Rattle.hk_table.proofs.parts.Parts.act.Goals as goal

pub returns-in-Err-Refused-clause-rooted : goal.returns-in-Err-Refused-clause-rooted
returns-in-Err-Refused-clause-rooted c =
    counted_rooted c.serve.new.rooted c.serve.new.self c.set_events-in-Err-Refused.new.self c.next_event-events.result c.set_events-in-Err-Refused.ensures (search rules)
