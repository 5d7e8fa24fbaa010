-- The processes that waited are those of the object, where it stands.
use Rattle.std.proofs.Common.{◌≡◌, ◌∙◌, ◌∷◌, ap, sym, Some}
use Rattle.std.specs.Map.{lookup}
use Rattle.hk_model.specs.declared.names.Proc.{Proc}
use Rattle.hk_model.specs.declared.objects.Object.{Object}
use Rattle.hk_model.specs.State.{State, same_name, put_object, object}
use Rattle.hk_plain.specs.declared.changes.Part.{Part}
use Rattle.hk_plain.specs.Changes.{part_back}
use Rattle.hk_plain.specs.Restoring.{waiters_before}
use Rattle.hk_plain.proofs.UndoLemmas.{waiters_written}
use Rattle.hk_plain.proofs.tables.Tables.part_back.Goals as goal

pub returns-in-FirstWaiter : goal.returns-in-FirstWaiter
returns-in-FirstWaiter c =
    let s : State = c.args.self.now in
    let first : Proc = c.in-FirstWaiter.first in
    let waited : (o : Object) → lookup (same_name c.args.name) s.objects ≡ Some o → c.args.waiters ≡ first ∷ o.waiters =
    λ o there. c.requires o there ∙ ap (λ (p : Part). waiters_before p o) c.in-FirstWaiter.is in
    c.set_waiters.ensures ∙ waiters_written s c.args.name c.args.waiters first waited
    ∙ ap (λ (p : Part). put_object s c.args.name (part_back p (object s c.args.name))) (sym c.in-FirstWaiter.is)
