-- From the objects of the opening, the slots and the waiting processes on.
use Rattle.std.proofs.Common.{◌≡◌, ◌∙◌, ap, [], List}
use Rattle.std.specs.List.{flat_map}
use Rattle.hk_model.specs.declared.names.Name.{Name}
use Rattle.hk_model.specs.declared.names.Inc.{Inc}
use Rattle.hk_model.specs.declared.objects.Incarnation.{Incarnation}
use Rattle.hk_model.specs.declared.objects.Process.{Process}
use Rattle.hk_model.specs.State.{State}
use Rattle.hk_model.specs.Keeping.{entry_names, run_names}
use Rattle.hk_plain.specs.Marking.{Marking, AreMarked, AreBegun}
use Rattle.hk_plain.proofs.MarkLemmas.{then_marked, underway, are_rooted}
use Rattle.hk_plain.proofs.tables.Tables.unrooted.Goals as goal

pub mark_onward-requires : goal.mark_onward-requires
mark_onward-requires c =
    let s : State = c.args.self.now in
    let a : Marking = c.in_ok-marks.marks in
    let b : Marking = c.mark_slots.new.self in
    let d : Marking = c.mark_runs.new.self in
    let os : c.self.inside.objects.entries ≡ s.objects = ap (λ (u : State). u.objects) c.self.view_is in
    let first : c.first_new.result ≡ s.first_new = c.first_new.ensures ∙ ap (λ (u : State). u.first_new) c.self.view_is in
    let incs : c.all.result.now.entries ≡ s.incarnations = c.all.ensures ∙ ap (λ (u : State). u.incarnations) c.self.view_is in
    let procs : c.as_slice.result.now ≡ s.processes = c.as_slice.ensures.value ∙ ap (λ (u : State). u.processes) c.self.view_is in
    let slots : List Name = flat_map (λ (e : Inc × Incarnation). flat_map entry_names e.1.slots) s.incarnations in
    let waits : List Name = flat_map (λ (p : Process). run_names p.run) s.processes in
    let begun : AreBegun [] s.objects s.first_new a = rw (os, first) at c.in_ok-marks.ensures.begun in
    let f : AreMarked slots a b = rw incs at c.in_ok-mark_slots.ensures in
    let g : AreMarked waits b d = rw procs at c.in_ok-mark_runs.ensures in
    underway s a d begun (then_marked slots waits a b d f g)

pub returns : goal.returns
returns c =
    let s : State = c.args.self.now in
    let os : c.self.inside.objects.entries ≡ s.objects = ap (λ (u : State). u.objects) c.self.view_is in
    rw c.into_unmarked.ensures (are_rooted s c.mark_onward.new.marks c.in_ok-mark_onward.ensures.0 c.in_ok-mark_onward.ensures.1 (rw os at c.in_ok-marks.ensures.sorted))
