-- At first all new objects are left.
use Rattle.std.proofs.Common.{◌≡◌, ◌∙◌, ap, List}
use Rattle.std.specs.Prelude.{filter}
use Rattle.hk_model.specs.declared.names.Name.{Name}
use Rattle.hk_model.specs.declared.objects.Object.{Object}
use Rattle.hk_model.specs.State.{State}
use Rattle.hk_plain.proofs.KeepingLemmas.{is_new, new_stand, new_stay}
use Rattle.hk_plain.proofs.tables.Tables.first_lost.Goals as goal

pub loop-name-init : goal.loop-name-init
loop-name-init c =
    let s : State = c.args.self.now in
    let new : List (Name × Object) = filter (λ (e : Name × Object). is_new s e.0) s.objects in
    let e : c.self.inside.objects.entries ≡ s.objects = ap (λ (u : State). u.objects) c.self.view_is in
    let f : c.first_new.result ≡ s.first_new = c.first_new.ensures ∙ ap (λ (u : State). u.first_new) c.self.view_is in
    let g : c.into_iter-name-iterator.result ≡ new = c.into_iter-name-iterator.ensures.into_iter_gives ∙ (rw (← e, ← f) (c.range-name-items.ensures.between tt)) in
    record { rest = λ h. new_stay s s.objects (rw g at h); stand = rw g (new_stand s) }
