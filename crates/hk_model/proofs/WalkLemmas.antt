-- What a walk gives, and what a call's target is: a law of each hop is a law of the walk.
use Rattle.std.proofs.Common.{◌≡◌, ℕ, ◌+◌, List, [], ◌∷◌, Bool, true, false, Ok, refl, sym, ◌∙◌, ap}
use Rattle.std.specs.Prelude.{IfOk}
use Rattle.hk_model.specs.declared.names.Name.{Name}
use Rattle.hk_model.specs.declared.names.Inc.{Inc}
use Rattle.hk_model.specs.declared.entries.Cap.{Cap}
use Rattle.hk_model.specs.declared.entries.Entry.{Entry}
use Rattle.hk_model.specs.declared.entries.Entry.TheVariants.{Empty, Held, Form}
use Rattle.hk_model.specs.declared.calls.Refusal.TheVariants as refused
use Rattle.hk_rights.specs.Rights.{LOAD, MODIFY, ENV, UNCONF, has, all_but, env_right}
use Rattle.hk_model.specs.State.{State, object, incarnation}
use Rattle.hk_model.specs.Refusing.{◌>>=◌, ◌>>◌, unless, allowed, item_at}
use Rattle.hk_model.specs.Walking.{walk, walk_on, hop_on, held, obtained, reduced_rights}
use Rattle.hk_model.specs.Merging.{inherited}
use Rattle.hk_model.specs.Targets.{last_step, target}
use Rattle.hk_model.specs.Rule.{copied}
use Rattle.hk_model.specs.Places.{Place, SlotOf, EntryOf, standing, object_named, end_from, walk_end, named_by}
use Rattle.hk_model.specs.Descent.{Reduces}
use Rattle.hk_model.specs.Ways.{Within, LeadsTo}
use Rattle.hk_model.proofs.TestLemmas.{then_is, and_is, if_ok, ok_each, ok_both, held_is, unless_is, allowed_is, item_is}
use Rattle.hk_model.proofs.RightsWithin.{Within-self, Within-and, Within-reduced}
use Rattle.hk_model.proofs.Standing.{on_cond}

-- what is given is a reduction of what stands there
pub obtained_reduces : (by : ℕ) (next : Entry) (step : ℕ) → IfOk (obtained by next step) (Reduces next)
obtained_reduces by Empty step = tt
obtained_reduces by (Held cap) step = (refl, Within-reduced by cap.rights)
obtained_reduces by (Form form) step = and_is (Reduces (Form form)) (allowed by ENV step) (Ok (Form form)) (λ x h. refl)

pub Reduces-self : (e : Entry) → Reduces e e
Reduces-self Empty = tt
Reduces-self (Held cap) = (refl, Within-self cap.rights)
Reduces-self (Form form) = refl

-- a reduction names the same object
pub named_is : (from : Entry) (cap : Cap) → Reduces from (Held cap) → cap.name ≡ object_named from
named_is (Held a) cap h = h.0
named_is Empty cap h = absurd h
named_is (Form a) cap h = absurd h

-- a law of each hop, which is through LOAD
abbrev pub HopLaw : State → (Place → Entry → Type 0) → Type 0
HopLaw s P =
    (place : Place) (cap : Cap) (at step : ℕ) → Within LOAD cap.rights → P place (Held cap) → IfOk (obtained cap.rights (standing s (EntryOf cap.name at)) step)
    (P (EntryOf cap.name at))

module _ (s : State) (P : Place → Entry → Type 0) (hops : HopLaw s P) where
  abbrev pub Arrives : Place → Entry → Type 0
  Arrives place x = Reduces (standing s place) x × P place x

  hop_keeps : (place : Place) (cap : Cap) (at step : ℕ) → P place (Held cap) → IfOk (hop_on s (Held cap) at step) (Arrives (EntryOf cap.name at))
  hop_keeps place cap at step p =
      and_is (Arrives (EntryOf cap.name at)) (allowed cap.rights LOAD step) (item_at (object s cap.name).entries at (step + 1) >>= (λ next. obtained cap.rights next step)) (λ u h.
      then_is (Arrives (EntryOf cap.name at)) (item_at (object s cap.name).entries at (step + 1)) (λ next. obtained cap.rights next step) (λ next g.
      let same = item_is (object s cap.name).entries at (step + 1) next g in
      rw same (ok_both (Reduces (standing s (EntryOf cap.name at))) (P (EntryOf cap.name at)) (obtained cap.rights (standing s (EntryOf cap.name at)) step)
      (obtained_reduces cap.rights (standing s (EntryOf cap.name at)) step) (hops place cap at step (allowed_is cap.rights LOAD step u h) p))))

  walk_on_keeps : (place : Place) (entry : Entry) (path : List ℕ) (step : ℕ) → Arrives place entry → IfOk (walk_on s entry path step) (Arrives (end_from s place path))
  walk_on_keeps place entry [] step h = h
  walk_on_keeps place Empty (at ∷ rest) step h = tt
  walk_on_keeps place (Form form) (at ∷ rest) step h = tt
  walk_on_keeps place (Held cap) (at ∷ rest) step h =
      let same = named_is (standing s place) cap h.0 in
      then_is (Arrives (end_from s place (at ∷ rest))) (hop_on s (Held cap) at step) (λ next. walk_on s next rest (step + 1)) (λ next g.
      let there = if_ok (Arrives (EntryOf cap.name at)) (hop_on s (Held cap) at step) next (hop_keeps place cap at step h.1) g in
      walk_on_keeps (EntryOf (object_named (standing s place)) at) next rest (step + 1) (rw same at there))

  -- the walk of an incarnation, from a slot of which the law holds
  pub walk_keeps : (inc : Inc) (at : ℕ) (rest : List ℕ) (x : Entry) → P (SlotOf inc at) (standing s (SlotOf inc at)) → walk s inc (at ∷ rest) ≡ Ok x
      → Arrives (walk_end s inc (at ∷ rest)) x
  walk_keeps inc at rest x h e = if_ok (Arrives (walk_end s inc (at ∷ rest))) (walk s inc (at ∷ rest)) x
      (then_is (Arrives (walk_end s inc (at ∷ rest))) (item_at (incarnation s inc).slots at 0) (λ entry. walk_on s entry rest 0) (λ entry g.
      let same = item_is (incarnation s inc).slots at 0 entry g in
      walk_on_keeps (SlotOf inc at) entry rest 0 (rw same (Reduces-self (standing s (SlotOf inc at)), h)))) e

-- what a walk gives is a reduction of what stands at its end
pub walk_reduces : (s : State) (inc : Inc) (path : List ℕ) (x : Entry) → walk s inc path ≡ Ok x → Reduces (standing s (walk_end s inc path)) x
walk_reduces s inc [] x e = absurd (cc)
walk_reduces s inc (at ∷ rest) x e =
    (walk_keeps s (λ p y. Unit {0}) (λ place cap at step load u. ok_each (λ y. Unit {0}) (obtained cap.rights (standing s (EntryOf cap.name at)) step)
    (λ y. tt)) inc at rest x tt e).0

-- the capability that a path leads to names the object that the path names
pub leads_named : (s : State) (inc : Inc) (path : List ℕ) (cap : Cap) → LeadsTo s inc path cap → named_by s inc path ≡ cap.name
leads_named s inc path cap w = sym (named_is (standing s (walk_end s inc path)) cap (walk_reduces s inc path (Held cap) w))

-- all that a target's tests have shown
pub record IsTarget (s : State) (inc : Inc) (path : List ℕ) (types : Name → Bool) (rights : ℕ) (cap : Cap) : Type 0 where
  pub leads : LeadsTo s inc path cap
  pub name : named_by s inc path ≡ cap.name
  pub typed : types (object s cap.name).of ≡ true
  pub allowed : Within rights cap.rights

target_each : (s : State) (inc : Inc) (path : List ℕ) (types : Name → Bool) (rights : ℕ) → IfOk (target s inc path types rights) (IsTarget s inc path types rights)
target_each s inc path types rights =
    then_is (IsTarget s inc path types rights) (walk s inc path)
    (λ entry. held entry (last_step path) >>= (λ cap. unless (types (object s cap.name).of) (refused.WrongType (last_step path)) >>
    (allowed cap.rights rights (last_step path) >> Ok cap))) (λ entry h.
    then_is (IsTarget s inc path types rights) (held entry (last_step path))
    (λ cap. unless (types (object s cap.name).of) (refused.WrongType (last_step path)) >> (allowed cap.rights rights (last_step path) >> Ok cap)) (λ cap g.
    and_is (IsTarget s inc path types rights) (unless (types (object s cap.name).of) (refused.WrongType (last_step path))) (allowed cap.rights rights (last_step path) >> Ok cap)
    (λ u t.
    and_is (IsTarget s inc path types rights) (allowed cap.rights rights (last_step path)) (Ok cap) (λ v a.
    let there : walk s inc path ≡ Ok (Held cap) = h ∙ ap Ok (held_is entry (last_step path) cap g) in
    record {
      leads = there;
      name = leads_named s inc path cap there;
      typed = unless_is (types (object s cap.name).of) (refused.WrongType (last_step path)) u t;
      allowed = allowed_is cap.rights rights (last_step path) v a;
    }))))

-- of a target that is not refused
pub target_is : (s : State) (inc : Inc) (path : List ℕ) (types : Name → Bool) (rights : ℕ) (c : Cap) → target s inc path types rights ≡ Ok c → IsTarget s inc path types rights c
target_is s inc path types rights c h = if_ok (IsTarget s inc path types rights) (target s inc path types rights) c (target_each s inc path types rights) h

-- what a copy keeps and what a call inherits are reductions
pub copied_reduces : (by : ℕ) (e : Entry) → Reduces e (copied by e)
copied_reduces by Empty = tt
copied_reduces by (Form t) = on_cond (Reduces (Form t)) (has by env_right) (Form t) Empty (λ h. refl) (λ h. tt)
copied_reduces by (Held c) =
    on_cond (Reduces (Held c)) (has (reduced_rights by c.rights) env_right) (Held (record c { rights = reduced_rights by c.rights })) Empty
    (λ h. (refl, Within-reduced by c.rights)) (λ h. tt)

pub inherited_reduces : (confined : Bool) (e : Entry) → Reduces e (inherited confined e)
inherited_reduces true Empty = tt
inherited_reduces true (Held c) = (refl, Within-and c.rights (all_but (MODIFY + UNCONF)))
inherited_reduces true (Form t) = refl
inherited_reduces false e = Reduces-self e
