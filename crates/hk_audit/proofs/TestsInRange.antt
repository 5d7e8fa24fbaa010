-- The tests of a call, over entries whose rights are rights: what they pass on is in range, and so is each refusal.
use Rattle.std.proofs.Common.{◌≡◌, ◌+◌, ℕ, zero, suc, List, [], ◌∷◌, Bool, true, false, Option, Some, None, Result, Ok, Err, refl, sym, ◌∙◌, arith, cond, bit_and, find}
use Rattle.std.specs.Prelude.{IsTrue, nat_lt, ◌==◌, ◌&&◌, not}
use Rattle.std.specs.List.{AllByRecursion, list_any}
use Rattle.hk_model.specs.declared.names.Name.{Name}
use Rattle.hk_model.specs.declared.names.Slot.{Slot}
use Rattle.hk_model.specs.declared.entries.Cap.{Cap}
use Rattle.hk_model.specs.declared.entries.Param.{Param}
use Rattle.hk_model.specs.declared.entries.Template.TheVariants as template
use Rattle.hk_model.specs.declared.entries.Entry.{Entry}
use Rattle.hk_model.specs.declared.entries.Entry.TheVariants.{Empty, Held, Form}
use Rattle.hk_model.specs.declared.calls.Refusal.{Refusal}
use Rattle.hk_model.specs.declared.calls.Refusal.TheVariants as refused
use Rattle.std.proofs.lemmas.Bool.{or_right}
use Rattle.std.proofs.lemmas.Bool.Decides.{nat_tests}
use Rattle.std.proofs.lemmas.Option.{same_Some}
use Rattle.hk_rights.specs.Rights.{MODIFY, ENV, UNCONF, all_but, first_missing, has, IsRightsWord, is_right, right_numbers, special_rights, env_right, unconf_right}
use Rattle.hk_rights.proofs.Words.{IsRightsWord-bit_and, IsRightsWord-bit_or}
use Rattle.hk_rights.proofs.Table.{right_numbers-is_right}
use Rattle.hk_model.specs.Limits.{slot_limit}
use Rattle.hk_format.specs.LineRanges.{IsStep, IsRefusal}
use Rattle.hk_model.specs.Refusing.{◌>>=◌, ◌>>◌, unless, allowed, item_at}
use Rattle.hk_model.specs.Walking.{held, obtained, reduced_rights, confined_rights, local_rights}
use Rattle.hk_model.specs.Merging.{matches, merged, merged_rights}
use Rattle.hk_model.specs.Targets.{slot_at, storable, not_empty, create_form, amplify_form}

-- a capability, a template or a parameter gives rights that there are
abbrev pub CapIn : Cap → Type 0
CapIn cap = IsRightsWord cap.rights

abbrev pub EntryIn : Entry → Type 0
EntryIn Empty = Unit {0}
EntryIn (Held cap) = IsRightsWord cap.rights
EntryIn (Form (template.Amplify of check give)) = IsRightsWord give
EntryIn (Form (template.Create of give)) = IsRightsWord give

abbrev pub ParamIn : Param → Type 0
ParamIn param = IsRightsWord param.give

-- an answer for which this holds, or a refusal in range
abbrev pub Fine : {A : Type 0} → (A → Type 0) → Result A Refusal → Type 0
Fine P (Ok x) = P x
Fine P (Err refusal) = IsRefusal refusal

pub then_fine : {A B : Type 0} (P : A → Type 0) (Q : B → Type 0) (r : Result A Refusal) (f : A → Result B Refusal) → Fine P r → ((x : A) → P x → Fine Q (f x)) → Fine Q (r >>= f)
then_fine P Q (Ok x) f h g = g x h
then_fine P Q (Err e) f h g = h

pub and_fine : {A B : Type 0} (P : A → Type 0) (Q : B → Type 0) (r : Result A Refusal) (next : Result B Refusal) → Fine P r → ((x : A) → P x → Fine Q next) → Fine Q (r >> next)
and_fine P Q (Ok x) next h g = g x h
and_fine P Q (Err e) next h g = h

abbrev pub Passed : {A : Type 0} → A → Type 0
Passed x = Unit {0}

pub unless_fine : (b : Bool) (refusal : Refusal) → IsRefusal refusal → Fine (λ u. IsTrue b) (unless b refusal)
unless_fine true refusal h = refl
unless_fine false refusal h = h

-- what is found in a list stands in it
found_in : (test : ℕ → Bool) (ns : List ℕ) (n : ℕ) → find test ns ≡ Some n → list_any (λ k. k == n) ns ≡ true
found_in test [] n h = absurd (cc)
found_in test (k ∷ ns) n h = at (test k) h (found_in test ns n)
  where
    at : (b : Bool) → cond b (Some k) (find test ns) ≡ Some n → (find test ns ≡ Some n → list_any (λ j. j == n) ns ≡ true) → list_any (λ j. j == n) (k ∷ ns) ≡ true
    at true e later =
        let same : k ≡ n = same_Some k n e in
        let here : (k == n) ≡ true = grind (arith, nat_tests) in
        rw here refl
    at false e later = or_right (k == n) _ (later e)

-- a right that is missing is a right
missing_right : (have need n : ℕ) → first_missing have need ≡ Some n → IsTrue (is_right n)
unfolding first_missing
missing_right have need n h = sym (right_numbers-is_right n) ∙ found_in (λ k. has need k && not (has have k)) right_numbers n h

pub allowed_fine : (rights need step : ℕ) → IsStep step → Fine {A = Unit {0}} Passed (allowed rights need step)
allowed_fine rights need step h = by (first_missing rights need) refl
  where
    by : (o : Option ℕ) → first_missing rights need ≡ o → Fine {A = Unit {0}} Passed (elim o [ None ↦ Ok tt | Some n ↦ Err (refused.Denied step n) ])
    by None e = tt
    by (Some n) e = (h, missing_right rights need n e)

pub item_fine : {A : Type 0} (P : A → Type 0) (xs : List A) (at step : ℕ) → AllByRecursion P xs → IsStep step → Fine P (item_at xs at step)
item_fine {A = A} P xs at step h low = by xs at h
  where
    by : (xs : List A) (at : ℕ) → AllByRecursion P xs → Fine P (item_at xs at step)
    by [] at h = low
    by (x ∷ xs) zero h = h.0
    by (x ∷ xs) (suc at) h = by xs at h.1

pub held_fine : (entry : Entry) (step : ℕ) → EntryIn entry → IsStep step → Fine CapIn (held entry step)
held_fine Empty step h low = low
held_fine (Form form) step h low = low
held_fine (Held cap) step h low = h

pub slot_fine : (slot : Slot) (step : ℕ) → IsStep step → Fine {A = ℕ} Passed (slot_at slot step)
slot_fine slot step low = by (nat_lt slot.0 slot_limit)
  where
    by : (b : Bool) → Fine {A = ℕ} Passed (cond b (Ok slot.0) (Err (refused.Range step)))
    by true = tt
    by false = low

pub storable_fine : (entry : Entry) (step : ℕ) → EntryIn entry → IsStep step → Fine EntryIn (storable entry step)
storable_fine Empty step h low = low
storable_fine (Form form) step h low = h
storable_fine (Held cap) step h low = and_fine {A = Unit {0}} Passed EntryIn (allowed cap.rights ENV step) (Ok (Held cap)) (allowed_fine cap.rights ENV step low) (λ u p. h)

pub not_empty_fine : (entry : Entry) (step : ℕ) → EntryIn entry → IsStep step → Fine EntryIn (not_empty entry step)
not_empty_fine Empty step h low = low
not_empty_fine (Held cap) step h low = h
not_empty_fine (Form form) step h low = h

pub create_form_fine : (entry : Entry) (step : ℕ) → EntryIn entry → IsStep step → Fine (λ (form : Name × ℕ). IsRightsWord form.1) (create_form entry step)
create_form_fine Empty step h low = low
create_form_fine (Held cap) step h low = low
create_form_fine (Form (template.Amplify of check give)) step h low = low
create_form_fine (Form (template.Create of give)) step h low = h

pub amplify_form_fine : (entry : Entry) (step : ℕ) → EntryIn entry → IsStep step → Fine ParamIn (amplify_form entry step)
amplify_form_fine Empty step h low = low
amplify_form_fine (Held cap) step h low = low
amplify_form_fine (Form (template.Amplify of check give)) step h low = h
amplify_form_fine (Form (template.Create of give)) step h low = low

-- reduction, merging and inheritance keep rights among the rights

pub confined_in : (rights : ℕ) → IsRightsWord rights → IsRightsWord (confined_rights rights)
confined_in rights h = IsRightsWord-bit_and rights (all_but (MODIFY + UNCONF)) h

local_in : (rights : ℕ) → IsRightsWord rights → IsRightsWord (local_rights rights)
local_in rights h = IsRightsWord-bit_and rights (all_but ENV) h

either_in : (b : Bool) (x y : ℕ) → IsRightsWord x → IsRightsWord y → IsRightsWord (cond b x y)
either_in true x y h g = h
either_in false x y h g = g

pub reduced_in : (by rights : ℕ) → IsRightsWord rights → IsRightsWord (reduced_rights by rights)
reduced_in by rights h =
    let kept = cond (has by unconf_right) rights (confined_rights rights) in
    let k : IsRightsWord kept = either_in (has by unconf_right) rights (confined_rights rights) h (confined_in rights h) in
    either_in (has by env_right) kept (local_rights kept) k (local_in kept k)

merged_in : (rights : ℕ) (of : Option Name) (give : ℕ) → IsRightsWord give → IsRightsWord (merged_rights rights of give)
merged_in rights None give h = IsRightsWord-bit_and give rights h
merged_in rights (Some wanted) give h =
    IsRightsWord-bit_or (bit_and give (all_but special_rights)) (bit_and (bit_and give special_rights) rights) (IsRightsWord-bit_and give (all_but special_rights) h)
    (IsRightsWord-bit_and (bit_and give special_rights) rights (IsRightsWord-bit_and give special_rights h))

pub obtained_fine : (by : ℕ) (entry : Entry) (step : ℕ) → EntryIn entry → IsStep step → Fine EntryIn (obtained by entry step)
obtained_fine by Empty step h low = tt
obtained_fine by (Held cap) step h low = reduced_in by cap.rights h
obtained_fine by (Form form) step h low = and_fine {A = Unit {0}} Passed EntryIn (allowed by ENV step) (Ok (Form form)) (allowed_fine by ENV step low) (λ u p. h)

pub merged_fine : (cap : Cap) (of : Name) (form : Param) (step : ℕ) → ParamIn form → IsStep step → Fine CapIn (merged cap of form step)
merged_fine cap of form step h low =
    let new : Cap = record { name = cap.name; rights = merged_rights cap.rights form.of form.give } in
    and_fine {A = Unit {0}} (λ u. IsTrue (matches form.of of)) CapIn (unless (matches form.of of) (refused.WrongType step)) (allowed cap.rights form.check step >> Ok new)
    (unless_fine (matches form.of of) (refused.WrongType step) low)
    (λ u p. and_fine {A = Unit {0}} Passed CapIn (allowed cap.rights form.check step) (Ok new) (allowed_fine cap.rights form.check step low)
    (λ v q. merged_in cap.rights form.of form.give h))
