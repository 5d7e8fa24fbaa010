-- One object goes, which the rest do not name.
use Rattle.std.proofs.Common.{◌≡◌, ◌∙◌, ◌<◌, refl, ap, sym, subst, length}
use Rattle.std.specs.Map.{remove_entry}
use Rattle.hk_model.specs.declared.names.Name.{Name}
use Rattle.hk_model.specs.State.{State, same_name}
use Rattle.hk_model.specs.Keeping.{restricted}
use Rattle.hk_plain.proofs.KeepingLemmas.{restricted_removed, removed_shorter}
use Rattle.hk_plain.specs.Removing.{HasObjectsRoom, ObjectsWent}
use Rattle.hk_plain.proofs.Went.{no_object_went, objects_went_on}
use Rattle.hk_plain.proofs.tables.Tables.remove_lost.Goals as goal

-- the state without an object
abbrev without : State → Name → State
without s n = record s { objects = remove_entry (same_name n) s.objects }

pub loop-lost-preserved : goal.loop-lost-preserved
loop-lost-preserved c =
    let s : State = c.loop-lost.self in
    let n : Name = c.in-Some.lost in
    let e : c.remove_object.new.self ≡ without s n = c.remove_object.ensures.value ∙ ap (λ (u : State). without u n) c.next_lost.ensures.same in
    let went : ObjectsWent s.objects c.remove_object.new.self.objects c.loop-lost.removed c.remove_object.new.removed =
    subst (λ (u : State). ObjectsWent u.objects c.remove_object.new.self.objects c.loop-lost.removed c.remove_object.new.removed) c.next_lost.ensures.same
    c.remove_object.ensures.went in record {
      left = ap (λ (u : State). restricted u) e ∙ (restricted_removed s n c.in-Some.ensures.stands c.in-Some.ensures.lost ∙ c.loop-lost.invariant.left);
      went =
          objects_went_on c.args.self.now.objects s.objects c.remove_object.new.self.objects c.args.removed.now c.loop-lost.removed c.remove_object.new.removed
          c.loop-lost.invariant.went went;
    }

pub loop-lost-init : goal.loop-lost-init
loop-lost-init c = record { left = refl; went = no_object_went c.args.self.now.objects c.args.removed.now }

pub remove_object-requires : goal.remove_object-requires
remove_object-requires c =
    subst (λ (u : State). HasObjectsRoom c.loop-lost.removed (length u.objects)) (sym c.next_lost.ensures.same) (c.loop-lost.invariant.went.room c.requires)

pub returns-clause-went : goal.returns-clause-went
returns-clause-went c =
    subst (λ (u : State). ObjectsWent c.args.self.now.objects u.objects c.args.removed.now c.loop-lost.removed) (sym c.next_lost.ensures.same) c.loop-lost.invariant.went

pub loop-lost-smaller : goal.loop-lost-smaller
loop-lost-smaller c =
    let s : State = c.loop-lost.self in
    let n : Name = c.in-Some.lost in
    let e : c.remove_object.new.self ≡ without s n = c.remove_object.ensures.value ∙ ap (λ (u : State). without u n) c.next_lost.ensures.same in
    subst (λ (u : State). length u.objects < length s.objects) (sym e) (removed_shorter n s.objects c.in-Some.ensures.stands)
