use Rattle.std.proofs.Common.{◌≤◌, ◌-◌, length, take, drop, arith, length-take, length-drop}
use Rattle.hk_io.proofs.Streaming.{Appends-append, take-more}
use Rattle.hk_io.proofs.whole.write_all.Goals as goal

pub turns-preserved : goal.turns-preserved
turns-preserved g c =
    let text = c.args.text.now in
    let sent = c.turns.sent in
    let count = c.in-Ok.count in
    let within : count ≤ length text - sent = omega (arith, c.in-Ok.ensures.bound, length-take (length text - sent) (drop sent text), length-drop sent text) in
    record {
      taken = rw (take-more text sent count within) (Appends-append _ _ _ (take sent text) _ c.turns.invariant.taken c.in-Ok.ensures.bytes);
      within = omega arith;
      later = omega (arith, c.in-Ok.ensures.cause.later, c.turns.invariant.later);
    }
