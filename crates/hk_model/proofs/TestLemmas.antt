-- What the tests of a call have shown where they pass.
use Rattle.std.proofs.Common.{◌≡◌, ℕ, zero, suc, List, [], ◌∷◌, Bool, true, false, Option, Some, None, Result, Ok, Err, refl, ap, cond}
use Rattle.std.specs.Prelude.{IfOk, nat_lt, slice_index_or}
use Rattle.hk_model.specs.declared.names.Name.{Name}
use Rattle.hk_model.specs.declared.names.Slot.{Slot}
use Rattle.hk_model.specs.declared.entries.Cap.{Cap}
use Rattle.hk_model.specs.declared.entries.Param.{Param}
use Rattle.hk_model.specs.declared.entries.Template.TheVariants as template
use Rattle.hk_model.specs.declared.entries.Entry.{Entry}
use Rattle.hk_model.specs.declared.entries.Entry.TheVariants.{Empty, Held, Form}
use Rattle.hk_model.specs.declared.calls.Refusal.{Refusal}
use Rattle.hk_model.specs.declared.calls.Refusal.TheVariants as refused
use Rattle.hk_rights.specs.Rights.{ENV, first_missing}
use Rattle.hk_model.specs.Limits.{slot_limit}
use Rattle.hk_model.specs.Refusing.{◌>>=◌, ◌>>◌, unless, allowed, item_at}
use Rattle.hk_model.specs.Walking.{held}
use Rattle.hk_model.specs.Targets.{slot_at, storable, not_empty, create_form, amplify_form}
use Rattle.hk_model.specs.Ways.{HasEnv, Within}

-- what holds behind each answer of a test holds behind the test
pub then_is : {A B : Type 0} (P : B → Type 0) (r : Result A Refusal) (f : A → Result B Refusal) → ((x : A) → r ≡ Ok x → IfOk (f x) P) → IfOk (r >>= f) P
then_is P (Ok x) f h = h x refl
then_is P (Err e) f h = tt

pub and_is : {A B : Type 0} (P : B → Type 0) (r : Result A Refusal) (next : Result B Refusal) → ((x : A) → r ≡ Ok x → IfOk next P) → IfOk (r >> next) P
and_is P (Ok x) next h = h x refl
and_is P (Err e) next h = tt

-- what holds of each answer holds of this one
pub if_ok : {A : Type 0} (P : A → Type 0) (r : Result A Refusal) (x : A) → IfOk r P → r ≡ Ok x → P x
if_ok P r x h e = rw e at h

-- what holds of everything holds of each answer
pub ok_each : {A : Type 0} (P : A → Type 0) (r : Result A Refusal) → ((x : A) → P x) → IfOk r P
ok_each P (Ok x) h = h x
ok_each P (Err e) h = tt

-- what holds of each answer one by one holds of it together
pub ok_all : {A I : Type 0} (P : I → A → Type 0) (r : Result A Refusal) → ((i : I) → IfOk r (P i)) → IfOk r (λ x. (i : I) → P i x)
ok_all P (Ok x) h = λ i. h i
ok_all P (Err e) h = tt

pub ok_both : {A : Type 0} (P Q : A → Type 0) (r : Result A Refusal) → IfOk r P → IfOk r Q → IfOk r (λ x. P x × Q x)
ok_both P Q (Ok x) h g = (h, g)
ok_both P Q (Err e) h g = tt

pub ok_more : {A : Type 0} (P Q : A → Type 0) (r : Result A Refusal) → ((x : A) → P x → Q x) → IfOk r P → IfOk r Q
ok_more P Q (Ok x) f h = f x h
ok_more P Q (Err e) f h = tt

-- what a test passes on
pub and_last : {A B : Type 0} (r : Result A Refusal) (next : Result B Refusal) (x : B) → (r >> next) ≡ Ok x → next ≡ Ok x
and_last (Ok y) next x h = h
and_last (Err e) next x h = absurd (cc)

-- the tests one by one

pub held_is : (entry : Entry) (step : ℕ) (cap : Cap) → held entry step ≡ Ok cap → entry ≡ Held cap
held_is Empty step cap h = absurd (cc)
held_is (Form form) step cap h = absurd (cc)
held_is (Held c) step cap h = cc

pub unless_is : (b : Bool) (r : Refusal) (u : Unit {0}) → unless b r ≡ Ok u → b ≡ true
unless_is true r u h = refl
unless_is false r u h = absurd (cc)

pub allowed_is : (rights need step : ℕ) (u : Unit {0}) → allowed rights need step ≡ Ok u → Within need rights
allowed_is rights need step u h = by (first_missing rights need) h
  where
    by : (o : Option ℕ) → ◌≡◌ {A = Result (Unit {0}) Refusal} (elim o [ None ↦ Ok tt | Some n ↦ Err (refused.Denied step n) ]) (Ok u) → o ≡ None
    by None h = refl
    by (Some n) h = absurd (cc)

pub slot_is : (slot : Slot) (step n : ℕ) → slot_at slot step ≡ Ok n → n ≡ slot.0
slot_is slot step n h = by (nat_lt slot.0 slot_limit) h
  where
    by : (b : Bool) → ◌≡◌ {A = Result ℕ Refusal} (cond b (Ok slot.0) (Err (refused.Range step))) (Ok n) → n ≡ slot.0
    by true h = cc
    by false h = absurd (cc)

pub item_is : (xs : List Entry) (at step : ℕ) (entry : Entry) → item_at xs at step ≡ Ok entry → entry ≡ slice_index_or xs at Empty
item_is [] at step entry h = absurd (cc)
item_is (x ∷ xs) zero step entry h = cc
item_is (x ∷ xs) (suc n) step entry h = item_is xs n step entry h

pub not_empty_is : (found entry : Entry) (step : ℕ) → not_empty found step ≡ Ok entry → found ≡ entry
not_empty_is Empty entry step h = absurd (cc)
not_empty_is (Held c) entry step h = cc
not_empty_is (Form t) entry step h = cc

pub storable_is : (e entry : Entry) (step : ℕ) → storable e step ≡ Ok entry → entry ≡ e
storable_is Empty entry step h = absurd (cc)
storable_is (Form t) entry step h = cc
storable_is (Held c) entry step h = let g = and_last (allowed c.rights ENV step) (Ok (Held c)) entry h in cc

pub storable_has : (e entry : Entry) (step : ℕ) → storable e step ≡ Ok entry → HasEnv entry
storable_has Empty entry step h = absurd (cc)
storable_has (Form t) entry step h = let e : Form t ≡ entry = cc in rw (← e) tt
storable_has (Held c) entry step h = by (allowed c.rights ENV step) refl h
  where
    by : (r : Result (Unit {0}) Refusal) → allowed c.rights ENV step ≡ r → (r >> Ok (Held c)) ≡ Ok entry → HasEnv entry
    by (Ok u) e g = let k : Held c ≡ entry = cc in rw (← k) (allowed_is c.rights ENV step u e)
    by (Err x) e g = absurd (cc)

pub create_form_is : (entry : Entry) (step : ℕ) (form : Name × ℕ) → create_form entry step ≡ Ok form → entry ≡ Form (template.Create form.0 form.1)
create_form_is Empty step form h = absurd (cc)
create_form_is (Held c) step form h = absurd (cc)
create_form_is (Form (template.Amplify of check give)) step form h = absurd (cc)
create_form_is (Form (template.Create of give)) step form h = let e : ◌≡◌ {A = Name × ℕ} (of, give) form = cc in ap (λ (f : Name × ℕ). Form (template.Create f.0 f.1)) e

pub amplify_form_is : (entry : Entry) (step : ℕ) (form : Param) → amplify_form entry step ≡ Ok form → entry ≡ Form (template.Amplify form.of form.check form.give)
amplify_form_is Empty step form h = absurd (cc)
amplify_form_is (Held c) step form h = absurd (cc)
amplify_form_is (Form (template.Create of give)) step form h = absurd (cc)
amplify_form_is (Form (template.Amplify of check give)) step form h = ap (λ (f : Param). Form (template.Amplify f.of f.check f.give)) (same_ok h)
  where
    same_ok : {x y : Param} → ◌≡◌ {A = Result Param Refusal} (Ok x) (Ok y) → x ≡ y
    same_ok e = cc
