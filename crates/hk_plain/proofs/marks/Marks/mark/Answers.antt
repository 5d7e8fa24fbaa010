-- One name goes from those without a mark to those to be looked at.
use Rattle.std.proofs.Common.{◌≡◌, ◌+◌, ◌∷◌, [], List, length, subst}
use Rattle.hk_model.specs.declared.names.Name.{Name}
use Rattle.hk_plain.specs.Marking.{Marking, AreMarked}
use Rattle.hk_plain.proofs.MarkLemmas.{one_marked}
use Rattle.hk_plain.proofs.marks.Marks.mark.Goals as goal

pub returns-in_ok-push : goal.returns-in_ok-push
returns-in_ok-push c =
    let name : Name = c.args.name in
    let rest : List Name = c.remove.new.self.keys in
    let before : Marking = record { unmarked = c.self.inside.unmarked.keys; todo = c.self.inside.todo.items } in
    let many : length rest + 1 ≡ length before.unmarked = rw c.if-remove.true at c.remove.ensures.len in
    let after : Marking = record { unmarked = rest; todo = c.push.new.self.items } in
    let marked : AreMarked (name ∷ []) before after = rw c.in_ok-push.ensures.items (one_marked name before rest (λ n. c.remove.ensures.updates.0 n) many) in
    subst (λ (m : Marking). AreMarked (name ∷ []) m after) c.self.view_is marked
