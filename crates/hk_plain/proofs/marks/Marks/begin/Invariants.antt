use Rattle.hk_plain.specs.Marking.{AreBegun}
use Rattle.hk_plain.proofs.marks.Marks.begin.Given as goal

-- of the objects that are left nothing is said
abbrev pub invariant-loop-name : goal.invariant-loop-name
invariant-loop-name l = AreBegun l.name-iterator l.objects.entries l.first_new (record { unmarked = l.unmarked.keys; todo = l.todo.items })
