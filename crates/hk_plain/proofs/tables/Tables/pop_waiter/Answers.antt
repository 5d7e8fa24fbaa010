-- The object names what it named.
use Rattle.std.proofs.Common.{subst, sym, refl, List}
use Rattle.hk_model.specs.declared.names.Name.{Name}
use Rattle.hk_model.specs.declared.objects.Object.{Object}
use Rattle.hk_plain.specs.Counts.{AreCounted}
use Rattle.hk_plain.proofs.CountedParts.{counted_written}
use Rattle.hk_plain.proofs.tables.Tables.pop_waiter.Goals as goal
use Rattle.hk_plain.proofs.tables.Tables.pop_waiter.Goals.{in-Some, in_default}

pub invariant_of-self : goal.invariant_of-self
invariant_of-self c = elim c.match-get_mut.branch [
  | in-Some w ↦ rw w.self-inside-is (
      let new : Object = record w.in-Some.object.now { waiters = w.pop_waiter.new.waiters } in
      subst (λ (es : List (Name × Object)). AreCounted c.self.inside.incarnations.live c.self.inside.processes es c.self.inside.counts) (sym (c.get_mut.follows.holds new).0)
      (counted_written c.self.inside.incarnations.live c.self.inside.processes c.self.inside.objects.entries c.self.inside.counts c.args.name w.in-Some.object.now new
      c.self.invariant (sym w.in-Some.ensures.value) refl))
  | in_default w ↦ rw (w.self-inside-is, c.get_mut.follows.holds-at-none) c.self.invariant
]
