-- What was put back goes again.
use Rattle.std.proofs.Common.{◌≡◌, ◌∙◌, ap, sym, subst, List}
use Rattle.hk_model.specs.declared.names.Name.{Name}
use Rattle.hk_model.specs.declared.names.Inc.{Inc}
use Rattle.hk_model.specs.declared.objects.Object.{Object}
use Rattle.hk_model.specs.declared.objects.Incarnation.{Incarnation}
use Rattle.hk_model.specs.State.{State}
use Rattle.hk_plain.specs.Changes.{Changes, AreNewObjects, AreNewIncarnations}
use Rattle.hk_plain.specs.Restoring.{objects_without, incarnations_without}
use Rattle.hk_plain.proofs.StackLemmas.{on_err, on_ok}
use Rattle.hk_plain.proofs.UndoLemmas.{all_taken, none_lives}
use Rattle.hk_plain.proofs.tables.Tables.take_back.Goals as goal

pub returns-then-is_err-clause-err : goal.returns-then-is_err-clause-err
returns-then-is_err-clause-err c =
    let gone : List (Name × Object) = c.as_slice-gone.result.now in
    let new : AreNewObjects gone c.args.self.now.objects =
    subst (λ (es : List (Name × Object)). AreNewObjects es c.args.self.now.objects)
    (sym (c.as_slice-gone.ensures.value ∙ ap (λ (changes : Changes). changes.gone) c.inverse.view_is)) c.requires.objects in
    let same : c.put_incarnations.new.self ≡ c.put_objects.new.self = on_err c.put_incarnations.result _ (sym c.if-is_err.ensures.value) c.put_incarnations.ensures.err in
    all_taken c.args.self.now c.put_objects.new.self c.take_objects.new.self gone new c.in_ok-put_objects.ensures.ok
    (subst (λ (t : State). c.take_objects.new.self ≡ record t { objects = objects_without gone t.objects }) same c.take_objects.ensures)

pub returns-then-is_err-2-clause-err : goal.returns-then-is_err-2-clause-err
returns-then-is_err-2-clause-err c =
    let gone : List (Name × Object) = c.as_slice-gone.result.now in
    let left : List (Inc × Incarnation) = c.as_slice-left.result.now in
    let new : AreNewObjects gone c.args.self.now.objects =
    subst (λ (es : List (Name × Object)). AreNewObjects es c.args.self.now.objects)
    (sym (c.as_slice-gone.ensures.value ∙ ap (λ (changes : Changes). changes.gone) c.inverse.view_is)) c.requires.objects in
    let absent : AreNewIncarnations left c.args.self.now.incarnations =
    subst (λ (es : List (Inc × Incarnation)). AreNewIncarnations es c.args.self.now.incarnations)
    (sym (c.as_slice-left.ensures.value ∙ ap (λ (changes : Changes). changes.left) c.inverse.view_is)) c.requires.incarnations in
    let absent' : AreNewIncarnations left c.put_objects.new.self.incarnations =
    subst (λ (t : State). AreNewIncarnations left t.incarnations) (sym c.in_ok-put_objects.ensures.ok) absent in
    let same : c.unsave.new.self ≡ c.put_incarnations.new.self = on_err c.unsave.result _ (sym c.if-is_err-2.ensures.value) c.unsave.ensures.err in
    let back : c.take_incarnations.new.self ≡ c.put_objects.new.self =
    none_lives c.put_objects.new.self c.put_incarnations.new.self c.take_incarnations.new.self left absent'
    (on_ok c.put_incarnations.result _ (sym c.if-is_err.ensures.value) c.put_incarnations.ensures.ok)
    (subst (λ (t : State). c.take_incarnations.new.self ≡ record t { incarnations = incarnations_without left t.incarnations }) same c.take_incarnations.ensures) in
    all_taken c.args.self.now c.put_objects.new.self c.take_objects-then-is_err-2.new.self gone new c.in_ok-put_objects.ensures.ok
    (subst (λ (t : State). c.take_objects-then-is_err-2.new.self ≡ record t { objects = objects_without gone t.objects }) back c.take_objects-then-is_err-2.ensures)
