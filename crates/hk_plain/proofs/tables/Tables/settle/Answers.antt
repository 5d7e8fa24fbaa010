-- What the call saved and what went by it lead back.
use Rattle.std.proofs.Common.{◌∙◌, ap, sym, subst}
use Rattle.hk_model.specs.State.{State}
use Rattle.hk_model.specs.Keeping.{restricted}
use Rattle.hk_plain.specs.declared.changes.Saved.{Saved}
use Rattle.hk_plain.specs.Changes.{call_saved}
use Rattle.hk_plain.specs.Removing.{ObjectsWent, LeadsBack, saved_by}
use Rattle.hk_plain.proofs.Undone.{call_served, vanished, saved_answered}
use Rattle.hk_plain.proofs.tables.Tables.settle.Goals as goal

pub remove_lost-requires : goal.remove_lost-requires
remove_lost-requires c =
    let served =
    call_served c.args.self.now c.args.proc c.args.inc c.args.call.now c.in-Ok.answer c.serve.new.self c.args.removed.now c.serve.new.removed c.in-Ok.ensures.gives.0
    c.in-Ok.ensures.went in served.room c.requires.room

pub returns-in-Ok-clause-back : goal.returns-in-Ok-clause-back
returns-in-Ok-clause-back c orderly fresh =
    let s : State = c.args.self.now in
    let v : Saved = call_saved s c.args.proc c.args.inc c.args.call.now in
    let served =
    call_served s c.args.proc c.args.inc c.args.call.now c.in-Ok.answer c.serve.new.self c.args.removed.now c.serve.new.removed c.in-Ok.ensures.gives.0 c.in-Ok.ensures.went in
    let went : ObjectsWent c.serve.new.self.objects (restricted c.serve.new.self).objects c.serve.new.removed c.remove_lost.new.removed =
    subst (λ (u : State). ObjectsWent c.serve.new.self.objects u.objects c.serve.new.removed c.remove_lost.new.removed) c.remove_lost.ensures.value c.remove_lost.ensures.went in
    let back : LeadsBack v s (restricted c.serve.new.self) c.remove_lost.new.removed =
    vanished v s c.serve.new.self c.serve.new.removed c.remove_lost.new.removed (served.keeps ∙ fresh.keeps) (served.undone orderly fresh) went in
    subst (λ (w : Saved). LeadsBack w s c.remove_lost.new.self c.remove_lost.new.removed)
    (sym (ap (λ reply. saved_by reply v) c.answered.ensures ∙ saved_answered c.in-Ok.answer v))
    (subst (λ (u : State). LeadsBack v s u c.remove_lost.new.removed) (sym c.remove_lost.ensures.value) back)
