-- One incarnation after the other.
use Rattle.std.proofs.Common.{List, subst}
use Rattle.std.specs.List.{flat_map}
use Rattle.hk_model.specs.declared.names.Inc.{Inc}
use Rattle.hk_model.specs.declared.names.Name.{Name}
use Rattle.hk_model.specs.declared.objects.Incarnation.{Incarnation}
use Rattle.hk_model.specs.Keeping.{entry_names}
use Rattle.hk_plain.specs.Marking.{Marking, AreMarked}
use Rattle.hk_plain.proofs.MarkLemmas.{marked_step, marked_end}
use Rattle.hk_plain.proofs.marks.Marks.mark_slots.Goals as goal

pub loop-inc-preserved : goal.loop-inc-preserved
loop-inc-preserved c =
    let names : Inc × Incarnation → List Name = λ e. flat_map entry_names e.1.slots in
    let all : List (Inc × Incarnation) = c.args.incarnations.now.entries in
    marked_step names (c.in-Some._inc.now, c.in-Some.incarnation.now) c.next.new.self (flat_map names all) c.args.self.now c.loop-inc.self c.mark_entries.new.self
    (subst (λ (rest : List (Inc × Incarnation)). (final : Marking) → AreMarked (flat_map names rest) c.loop-inc.self final → AreMarked (flat_map names all) c.args.self.now final)
    c.in-Some.ensures.steps c.loop-inc.invariant) (rw c.as_slice.ensures.value at c.in_ok-mark_entries.ensures)

pub returns : goal.returns
returns c =
    let names : Inc × Incarnation → List Name = λ e. flat_map entry_names e.1.slots in
    let all : List (Inc × Incarnation) = c.args.incarnations.now.entries in
    marked_end (flat_map names all) c.args.self.now c.loop-inc.self
    (subst (λ (rest : List (Inc × Incarnation)). (final : Marking) → AreMarked (flat_map names rest) c.loop-inc.self final → AreMarked (flat_map names all) c.args.self.now final)
    c.in-None.ensures.steps.0 c.loop-inc.invariant)
