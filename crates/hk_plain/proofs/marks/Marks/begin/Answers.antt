-- One name more without a mark.
use Rattle.std.proofs.Common.{rules, subst, List}
use Rattle.hk_model.specs.declared.names.Name.{Name}
use Rattle.hk_model.specs.declared.objects.Object.{Object}
use Rattle.hk_plain.specs.Marking.{Marking, AreBegun}
use Rattle.hk_plain.proofs.MarkLemmas.{begun_new}
use Rattle.hk_plain.proofs.marks.Marks.begin.Goals as goal

pub loop-name-preserved : goal.loop-name-preserved
loop-name-preserved c =
    let objects : List (Name × Object) = c.args.objects.now.entries in
    let now : Marking = record { unmarked = c.loop-name.unmarked.keys; todo = c.loop-name.todo.items } in
    begun_new (c.in-Some.name.now, c.in-Some._object.now) c.next.new.self objects c.args.first_new now c.insert.new.self.keys
    (subst (λ (rest : List (Name × Object)). AreBegun rest objects c.args.first_new now) c.in-Some.ensures.steps c.loop-name.invariant) (search rules)
    (λ n. c.in_ok-insert.ensures.updates.0 n)
