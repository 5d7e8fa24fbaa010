-- The links so far, and the way back from where they lead, are the way back from the first place.
use Rattle.std.proofs.Common.{◌≡◌, ◌≤◌, length}
use Rattle.hk_trace.specs.Writings.{way_back}
use Rattle.hk_trace.proofs.WaysBack.{Followed, joined}
use Rattle.hk_trace.proofs.following.follow.Given as goal

abbrev pub invariant-loop-line : goal.invariant-loop-line
invariant-loop-line l = Followed (l.line ≤ length l.writings) (joined l.links.items (way_back l.writings l.line l.place) ≡ way_back l.writings (length l.writings) l.fn.from)

abbrev pub decreases-loop-line : goal.decreases-loop-line
decreases-loop-line l = l.line
