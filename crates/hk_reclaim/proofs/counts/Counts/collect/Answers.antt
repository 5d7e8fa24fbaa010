use Rattle.std.proofs.Common.{◌≡◌, ap, subst, ◌∙◌}
use Rattle.hk_model.specs.declared.names.Name.{Name}
use Rattle.hk_reclaim.specs.Kept.{IsReached}
use Rattle.hk_reclaim.specs.Made.{IsHalfLeft}
use Rattle.hk_reclaim.specs.Naming.{namings, stands}
use Rattle.hk_reclaim.specs.Reach.{IsInRoom, IsMarking, IsHalfSwept, is_lost, stays}
use Rattle.hk_reclaim.specs.Tally.{Tally, AreCounted, SameOutside}
use Rattle.hk_reclaim.proofs.Keeping.{part_is}
use Rattle.hk_reclaim.proofs.Leaving.{left_of_counted}
use Rattle.hk_reclaim.proofs.Sweeping.{collected}
use Rattle.hk_reclaim.proofs.counts.Counts.collect.Goals as goal

pub read-requires-clause-counted : goal.read-requires-clause-counted
read-requires-clause-counted c = (
  c.args.self.now.outside,
  rw (c.total.ensures, c.self.view_is) (left_of_counted c.first_new-first_new.result c.args.objects.now.slots (namings c.args.objects.now.slots) c.args.self.now c.requires),
)

-- what is left is what is reached, and it is counted
all : (c : goal.After-clear) → IsReached c.args.self.now.first_new c.args.self.now.outside c.args.objects.now.slots (stands c.drop_pending-removed.new.objects.slots)
    × AreCounted c.drop_pending-removed.new.objects.slots (namings c.drop_pending-removed.new.objects.slots) c.drop_pending-removed.new.numbers
all c =
    let t = c.args.self.now in
    let ps = c.args.objects.now.slots in
    let marks = c.mark_reached.new.marks.slots in
    let room : IsInRoom ps c.size-size.result = λ k some. rw (c.size-size.ensures, c.self.view_is) (c.requires.room k some) in
    let first : c.first_new-first_new.result ≡ t.first_new = c.first_new-first_new.ensures ∙ ap (λ (v : Tally). v.first_new) c.self.view_is in
    let left : IsHalfLeft c.first_new-first_new.result ps t.outside c.size-size.result c.read.new.self.left =
    c.read.ensures.left t.outside (rw (c.total.ensures, c.self.view_is) (left_of_counted c.first_new-first_new.result ps (namings ps) t c.requires)) in
    let marking : IsMarking t.first_new t.outside ps (stays t.first_new ps marks) =
    subst (λ (f : Name). IsMarking f t.outside ps (stays f ps marks)) first (c.mark_reached.ensures.marks t.outside left) in
    let swept : IsHalfSwept ps (is_lost t.first_new ps marks) c.size-size.result c.release_lost.new.numbers =
    subst (λ (f : Name). IsHalfSwept ps (is_lost f ps marks) c.size-size.result c.release_lost.new.numbers) first
    (c.release_lost.ensures.counted c.first_new-first_new.result c.read.ensures.stands) in
    let same : SameOutside t c.release_lost.new.numbers = subst (λ (v : Tally). SameOutside v c.release_lost.new.numbers) c.self.view_is c.release_lost.ensures.outside in
    collected ps c.drop_pending-removed.new.objects.slots marks c.size-size.result t c.release_lost.new.numbers c.drop_pending-removed.new.numbers c.read_apart.ensures room
    marking swept same c.drop_pending-removed.ensures.outside c.drop_pending-removed.ensures.dropped c.drop_pending-removed.ensures.counted c.drop_pending-removed.ensures.pending

pub returns-clause-reached : goal.returns-clause-reached
returns-clause-reached c = (all c).0

pub returns-clause-counted : goal.returns-clause-counted
returns-clause-counted c = (all c).1

pub returns-clause-left : goal.returns-clause-left
returns-clause-left c =
    let h = c.release_lost.ensures.counted c.first_new-first_new.result c.read.ensures.stands in
    part_is _ _ c.read_apart.ensures (c.drop_pending-removed.ensures.dropped (namings h.0) h.2).part
