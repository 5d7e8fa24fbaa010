-- The numbers follow the objects, and the one that stands again is on the list.
use Rattle.hk_plain.proofs.UndoLemmas.{counted_inserted}
use Rattle.hk_plain.proofs.tables.Tables.put_object.Goals as goal

pub invariant_of-self-2 : goal.invariant_of-self-2
invariant_of-self-2 c =
    counted_inserted c.self.inside.incarnations.live c.self.inside.processes c.self.inside.objects.entries c.insert.new.objects.entries c.self.inside.counts c.add.new.self
    c.insert.new.counts c.args.name c.in_ok-copy.copy c.self.invariant c.in_ok-add.ensures.moved c.in_ok-add.ensures.listed c.in_ok-insert.ensures.ok c.in_ok-insert.ensures.counted
