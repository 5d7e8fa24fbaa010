-- The opening of a world that can be run keeps what every state of a history keeps.
use Rattle.std.proofs.Common.{◌≡◌, ℕ, zero, suc, ◌+◌, ◌-◌, ◌<◌, ◌≤◌, List, [], ◌∷◌, ◌++◌, length, Bool, true, false, Some, None, refl, sym, ap, arith, cond, subst}
use Rattle.std.specs.Prelude.{IsTrue, ◌⊎◌, map, replicate}
use mathlib.Core.Logic.{inl, inr}
use Rattle.std.specs.List.{AllByRecursion}
use Rattle.std.specs.Option.{unwrap_or}
use Rattle.std.specs.Map.{lookup}
use Rattle.std.proofs.lemmas.Option.{slice_get_within}
use Rattle.hk_model.specs.declared.names.Name.{Name}
use Rattle.hk_model.specs.declared.names.Inc.{Inc}
use Rattle.hk_model.specs.declared.names.Proc.{Proc}
use Rattle.hk_model.specs.declared.entries.Template.TheVariants as template
use Rattle.hk_model.specs.declared.entries.Entry.{Entry}
use Rattle.hk_model.specs.declared.entries.Entry.TheVariants.{Empty, Held, Form}
use Rattle.hk_model.specs.declared.objects.Object.{Object}
use Rattle.hk_model.specs.declared.world.Born.{Born}
use Rattle.hk_model.specs.declared.world.Kind.{Kind}
use Rattle.hk_model.specs.declared.world.Kind.TheVariants as kind
use Rattle.hk_rights.specs.Rights.{has, all_rights}
use Rattle.hk_model.specs.WorldValue.{WorldValue, IsObject, IsWorld, IsKind, IsDeclaredType}
use Rattle.hk_model.specs.Opening.{opening, numbered, object_of}
use Rattle.hk_model.specs.State.{object, same_name, no_object}
use Rattle.hk_model.specs.Targets.{DATA, UNIVERSAL, PROCEDURE, kernel_types, is_of_type}
use Rattle.hk_model.specs.Places.{Place, SlotOf, EntryOf, standing, is_empty}
use Rattle.hk_model.proofs.Standing.{name_same}
use Rattle.hk_model.proofs.NamesGiven.{IsBelow, NamesGiven, born_count, opening_given}
use Rattle.hk_model.proofs.Histories.{base_found}
use Rattle.hk_model.proofs.KindsStay.{kind_self}
use Rattle.hk_model.proofs.Activations.{look_up, Activation, activations_in}
use Rattle.hk_bound.specs.Taking.{Thing, Old, Holder, Slots, ListOf, Has, Right, Follows, at_opening, type_of, open_has, open_gives, open_form}
use Rattle.hk_bound.specs.Bounds.{DiffersInCodes}
use Rattle.hk_bound.proofs.Bounded.{thing, thing_old, Bounds}
use Rattle.hk_bound.proofs.Kept.{Kept}

-- ---- the types of objects are objects of the world

numbered_holds : (P : Object → Type 0) → P no_object → (n : ℕ) (os : List Object) → AllByRecursion P os → (name : Name)
    → P (unwrap_or (lookup (same_name name) (numbered {A = Object} {B = Name} (λ k. record { 0 = k }) n os)) no_object)
numbered_holds P none n [] h name = none
numbered_holds P none n (o ∷ os) h name = by (same_name name (record { 0 = n })) (numbered_holds P none (n + 1) os h.1 name)
  where
    by : (b : Bool) → P (unwrap_or (lookup (same_name name) (numbered {A = Object} {B = Name} (λ k. record { 0 = k }) (n + 1) os)) no_object)
        → P (unwrap_or (cond b (Some o) (lookup (same_name name) (numbered {A = Object} {B = Name} (λ k. record { 0 = k }) (n + 1) os))) no_object)
    by true later = h.0
    by false later = later

abbrev IsTyped : WorldValue → Object → Type 0
IsTyped w o = o.of.0 < kernel_types + length w.objects

kind_typed : (w : WorldValue) (k : Kind) → IsKind w k → IsTyped w (object_of k)
kind_typed w kind.TypeObject h = omega arith
kind_typed w (kind.Plain of words entries) h = by h.0
  where
    by : ((of.0 ≡ DATA) × (entries ≡ [])) ⊎ ((of.0 ≡ UNIVERSAL) ⊎ IsDeclaredType w of) → of.0 < kernel_types + length w.objects
    by (inl e) = let is = e.0 in omega (arith, is)
    by (inr (inl e)) = omega (arith, e)
    by (inr (inr e)) = let low = e.above in let r = slice_get_within w.objects (of.0 - kernel_types) e.born e.there in omega (arith, low, r)
kind_typed w (kind.Semaphore count) h = omega arith
kind_typed w (kind.Procedure code params entries) h = omega arith

kinds_typed : (w : WorldValue) (bs : List Born) → AllByRecursion (λ (b : Born). IsKind w b.kind) bs → AllByRecursion (IsTyped w) (map (λ (b : Born). object_of b.kind) bs)
kinds_typed w [] h = tt
kinds_typed w (b ∷ bs) h = (kind_typed w b.kind h.0, kinds_typed w bs h.1)

none_typed : (w : WorldValue) → IsTyped w no_object
none_typed w = omega arith

types_typed : (w : WorldValue) (n : ℕ) (os : List Object) → AllByRecursion (IsTyped w) os → AllByRecursion (IsTyped w) (replicate n no_object ++ os)
types_typed w zero os h = h
types_typed w (suc n) os h = (none_typed w, types_typed w n os h)

pub types_old : (w : WorldValue) → IsWorld w → (name : Name) → IsObject w (type_of w name)
unfolding opening
types_old w world name =
    numbered_holds (IsTyped w) (none_typed w) 0 (replicate kernel_types no_object ++ map (λ (b : Born). object_of b.kind) w.objects)
    (types_typed w kernel_types (map (λ (b : Born). object_of b.kind) w.objects) (kinds_typed w w.objects world.kinds)) name

-- ---- no object has a later name

numbered_none : (n : ℕ) (os : List Object) (name : Name) → n + length os ≤ name.0
    → is_of_type PROCEDURE (unwrap_or (lookup (same_name name) (numbered {A = Object} {B = Name} (λ k. record { 0 = k }) n os)) no_object).of ≡ false
numbered_none n [] name h = refl
numbered_none n (o ∷ os) name h = by (same_name name (record { 0 = n })) refl (λ g. numbered_none (n + 1) os name g)
  where
    by : (b : Bool) → same_name name (record { 0 = n }) ≡ b
        → (n + 1 + length os ≤ name.0 → is_of_type PROCEDURE
        (unwrap_or (lookup (same_name name) (numbered {A = Object} {B = Name} (λ k. record { 0 = k }) (n + 1) os)) no_object).of ≡ false)
        → is_of_type PROCEDURE (unwrap_or (cond b (Some o) (lookup (same_name name) (numbered {A = Object} {B = Name} (λ k. record { 0 = k }) (n + 1) os))) no_object).of ≡ false
    by true e later = let same : name.0 ≡ n = ap (λ (x : Name). x.0) (name_same name (record { 0 = n }) e) in absurd (omega (arith, h, same))
    by false e later = later (omega (arith, h))

opening_plain : (w : WorldValue) (name : Name) → kernel_types + length w.objects ≤ name.0 → is_of_type PROCEDURE (object (opening w) name).of ≡ false
unfolding opening
opening_plain w name h =
    let e = born_count w.objects in numbered_none 0 (replicate kernel_types no_object ++ map (λ (b : Born). object_of b.kind) w.objects) name (omega (arith, h, e))

-- ---- base incarnations

opening_base : (w : WorldValue) (i : Inc) (x : Activation) → look_up i (activations_in (opening w).incarnations) ≡ Some x → (x.proc.0 ≡ i.0) × (i.0 < length w.tasks)
unfolding opening
opening_base w i x h = let r = base_found 0 w.tasks i x h in (r.0, omega (arith, r.2))

pub opening_next : (w : WorldValue) → (opening w).next_name.0 ≡ kernel_types + length w.objects
unfolding opening
opening_next w = refl

opening_first : (w : WorldValue) → (opening w).first_new.0 ≡ kernel_types + length w.objects
unfolding opening
opening_first w = refl

-- ---- what stands there

opened_bounds : (w : WorldValue) (own : Name → Proc) (h : Holder) (n : ℕ) (e : Entry) → at_opening w h n ≡ e → IsBelow (kernel_types + length w.objects) e → Bounds w own h e
opened_bounds w own h n Empty is below = tt
opened_bounds w own h n (Held cap) is below =
    subst (λ (t : Thing). Follows w (Has h t) × ((m : ℕ) → IsTrue (has all_rights m) → IsTrue (has cap.rights m) → Follows w (Right h t m))) (sym (thing_old w own cap.name below))
    (open_has h n cap is, λ m right there. open_gives h n cap m is right there)
opened_bounds w own h n (Form (template.Amplify None check give)) is below = tt
opened_bounds w own h n (Form (template.Amplify (Some type) check give)) is below =
    λ old. record { asks = check; gives = give; follows = open_form h n type check give is; asked = λ m right there. there; given = λ m right there. there }
opened_bounds w own h n (Form (template.Create of give)) is below = tt

pub opening_kept : (w : WorldValue) (own : Name → Proc) → IsWorld w → Kept w own (opening w)
opening_kept w own world = record {
  slots = λ i n x h. in_slot i n x (opening_base w i x h).0;
  lists = λ name n. by name n (standing (opening w) (EntryOf name n)) refl;
  procs = λ i x h. let r = opening_base w i x h in omega (arith, r.0, r.1);
  kinds = λ name old. kind_self (object (opening w) name);
  plain = opening_plain w;
  low = let e = opening_next w in omega (arith, e);
  first = opening_first w;
}
  where
    given : NamesGiven (opening w)
    given = opening_given w world

    below : (p : Place) → IsBelow (kernel_types + length w.objects) (standing (opening w) p)
    below p = subst (λ high. IsBelow high (standing (opening w) p)) (opening_next w) ((opening_given w world).entries p)

    in_slot : (i : Inc) (n : ℕ) (x : Activation) → x.proc.0 ≡ i.0 → Bounds w own (Slots x.proc) (standing (opening w) (SlotOf i n))
    in_slot i n x e =
        let same : record { 0 = x.proc.0 } ≡ i = ap (λ (m : ℕ). let z : Inc = record { 0 = m } in z) e in
        subst (λ (j : Inc). Bounds w own (Slots x.proc) (standing (opening w) (SlotOf j n))) same
        (opened_bounds w own (Slots x.proc) n (at_opening w (Slots x.proc) n) refl (below (SlotOf (record { 0 = x.proc.0 }) n)))

    full : (name : Name) (n : ℕ) → is_empty (standing (opening w) (EntryOf name n)) ≡ false → Bounds w own (ListOf (thing w own name)) (standing (opening w) (EntryOf name n))
    full name n f =
        let old : IsObject w name = subst (λ high. name.0 < high) (opening_next w) ((opening_given w world).lists name n f) in
        subst (λ (t : Thing). Bounds w own (ListOf t) (standing (opening w) (EntryOf name n))) (sym (thing_old w own name old))
        (opened_bounds w own (ListOf (Old name)) n (standing (opening w) (EntryOf name n)) refl (below (EntryOf name n)))

    by : (name : Name) (n : ℕ) (e : Entry) → standing (opening w) (EntryOf name n) ≡ e → Bounds w own (ListOf (thing w own name)) (standing (opening w) (EntryOf name n))
    by name n Empty e = subst (Bounds w own (ListOf (thing w own name))) (sym e) tt
    by name n (Held cap) e = full name n (ap is_empty e)
    by name n (Form form) e = full name n (ap is_empty e)

-- a world that differs in its codes alone opens the same
pub same_opening : (w other : WorldValue) → DiffersInCodes w other → opening other ≡ opening w
unfolding opening
same_opening w other d = rw (d.limit, d.objects, d.tasks) refl
