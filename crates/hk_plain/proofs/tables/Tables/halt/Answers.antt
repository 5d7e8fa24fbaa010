-- What the halt saved and what went by it lead back.
use Rattle.std.proofs.Common.{◌≡◌, ◌∙◌, ℕ, ap, sym, subst}
use Rattle.std.specs.Prelude.{filter, not, ◌==◌}
use Rattle.hk_model.specs.declared.names.Inc.{Inc}
use Rattle.hk_model.specs.declared.names.Proc.{Proc}
use Rattle.hk_model.specs.declared.objects.Incarnation.{Incarnation}
use Rattle.hk_model.specs.State.{State}
use Rattle.hk_model.specs.Keeping.{restricted}
use Rattle.hk_model.specs.Rule.{counted}
use Rattle.hk_model.specs.Processors.{ended, halted}
use Rattle.hk_plain.specs.Changes.{IsWhole, halt_saved}
use Rattle.hk_plain.specs.Removing.{Removal, ObjectsWent, IncarnationsWent, LeadsBack}
use Rattle.hk_plain.proofs.WholeStays.{halted_whole}
use Rattle.hk_plain.proofs.Undone.{ended_undone, vanished, counted_back}
use Rattle.hk_plain.proofs.tables.Tables.halt.Goals as goal

pub returns-clause-whole : goal.returns-clause-whole
returns-clause-whole c whole =
    let s : State = c.args.self.now in
    let proc : Proc = c.args.proc in
    let e : c.remove_incarnations.new.self ≡ ended s proc =
    c.remove_incarnations.ensures.value
    ∙ ap (λ (u : State). let t : State = record u { incarnations = filter (λ (x : Inc × Incarnation). not (x.1.proc.0 == proc.0)) u.incarnations } in t) c.set_run.ensures in
    let after : c.set_events.new.self ≡ halted s proc =
    c.set_events.ensures ∙ (ap (counted c.next_event-events.result) (c.remove_lost.ensures.value ∙ ap restricted e)
    ∙ ap (λ (n : ℕ). counted n (restricted (ended s proc))) c.next_event-events.ensures.value) in
    subst IsWhole (sym after) (halted_whole s proc whole)

pub returns-clause-back : goal.returns-clause-back
returns-clause-back c orderly fresh =
    let s : State = c.args.self.now in
    let proc : Proc = c.args.proc in
    let old : Removal = c.args.removed.now in
    let mid : Removal = c.remove_incarnations.new.removed in
    let new : Removal = c.remove_lost.new.removed in
    let e : c.remove_incarnations.new.self ≡ ended s proc =
    c.remove_incarnations.ensures.value
    ∙ ap (λ (u : State). let t : State = record u { incarnations = filter (λ (x : Inc × Incarnation). not (x.1.proc.0 == proc.0)) u.incarnations } in t) c.set_run.ensures in
    let left : IncarnationsWent s.incarnations (ended s proc).incarnations old mid =
    subst (λ (u : State). IncarnationsWent u.incarnations (ended s proc).incarnations old mid) c.set_run.ensures
    (subst (λ (u : State). IncarnationsWent c.set_run.new.self.incarnations u.incarnations old mid) e c.remove_incarnations.ensures.went) in
    let went : ObjectsWent (ended s proc).objects (restricted (ended s proc)).objects mid new =
    subst (λ (u : State). ObjectsWent u.objects (restricted u).objects mid new) e
    (subst (λ (u : State). ObjectsWent c.remove_incarnations.new.self.objects u.objects mid new) c.remove_lost.ensures.value c.remove_lost.ensures.went) in
    let back : LeadsBack (halt_saved s proc) s (restricted (ended s proc)) new =
    vanished (halt_saved s proc) s (ended s proc) mid new (left.keeps ∙ fresh.keeps) (ended_undone s proc old mid left orderly fresh) went in
    let after : c.set_events.new.self ≡ counted c.next_event-events.result (restricted (ended s proc)) =
    c.set_events.ensures ∙ ap (counted c.next_event-events.result) (c.remove_lost.ensures.value ∙ ap restricted e) in
    subst (λ (u : State). LeadsBack (halt_saved s proc) s u new) (sym after)
    (counted_back (halt_saved s proc) s (restricted (ended s proc)) new c.next_event-events.result back)
