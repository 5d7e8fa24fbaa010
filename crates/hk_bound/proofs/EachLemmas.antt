-- Steps of loops over lists.
use Rattle.std.proofs.Common.{◌≡◌, ℕ, ◌+◌, ◌<◌, ◌≤◌, List, length, get_or, Option, Some, None, refl, sym, ◌∙◌, subst, arith}
use Rattle.std.specs.Prelude.{slice_get, ◌⊎◌, IfSome}
use mathlib.Core.Logic.{inl, inr}
use Rattle.std.proofs.lemmas.Option.{slice_get_read, slice_get_within}
use Rattle.hk_bound.specs.Each.{Each, EachBelow}
use Rattle.hk_bound.specs.declared.forms.Form.{Form}
use Rattle.hk_model.specs.declared.entries.Entry.{Entry}
use Rattle.hk_model.specs.declared.entries.Param.{Param}
use Rattle.hk_model.specs.WorldValue.{WorldValue}
use Rattle.hk_bound.specs.Columns.{name_at, opening_entries, opening_params}
use Rattle.hk_bound.specs.Forms.{Holds, KeepsForms, HaveEntryForms, HaveParamForms, HaveObjectForms, entry_form, param_form, made_form}

same_item : {A : Type 0} {x y : A} → ◌≡◌ {A = Option A} (Some x) (Some y) → x ≡ y
same_item e = cc

pub below_or_last : (k n : ℕ) → k < n + 1 → (k < n) ⊎ (k ≡ n)
below_or_last k n h = grind arith

-- one item more
pub each_more : {A : Type 0} (P : A → Type 0) (xs : List A) (n : ℕ) (x : A) → EachBelow n P xs → slice_get xs n ≡ Some x → P x → EachBelow (n + 1) P xs
each_more P xs n x below at here k y h e = by (below_or_last k n h)
  where
    by : (k < n) ⊎ (k ≡ n) → P y
    by (inl less) = below k y less e
    by (inr same) = subst P (same_item (sym at ∙ (subst (λ m. slice_get xs m ≡ Some y) same e))) here

pub each_read : {A : Type 0} (P : A → Type 0) (xs : List A) (n : ℕ) (x : A) → EachBelow n P xs → n < length xs → x ≡ get_or xs n x → P x → EachBelow (n + 1) P xs
each_read P xs n x below within e here = each_more P xs n x below (slice_get_read xs (length xs) n x refl within e) here

pub each_none : {A : Type 0} (P : A → Type 0) (xs : List A) → EachBelow 0 P xs
each_none P xs k x h e = absurd (omega (arith, h))

-- all of them
pub each_all : {A : Type 0} (P : A → Type 0) (xs : List A) (n : ℕ) → EachBelow n P xs → length xs ≤ n → Each P xs
each_all P xs n below end k x e = let within = slice_get_within xs k x e in below k x (omega (arith, end, within)) e

pub each_weaker : {A : Type 0} (P Q : A → Type 0) (xs : List A) (n : ℕ) → ((x : A) → P x → Q x) → EachBelow n P xs → EachBelow n Q xs
each_weaker P Q xs n f below k x h e = f x (below k x h e)

pub each_all_weaker : {A : Type 0} (P Q : A → Type 0) (xs : List A) → ((x : A) → P x → Q x) → Each P xs → Each Q xs
each_all_weaker P Q xs f all k x e = f x (all k x e)

-- ---- templates stay

pub forms_stay : (old new : List Form) (o : Option Form) → KeepsForms old new → IfSome o (Holds old) → IfSome o (Holds new)
forms_stay old new None keeps h = tt
forms_stay old new (Some f) keeps h = keeps f h

pub keeps_self : (forms : List Form) → KeepsForms forms forms
keeps_self forms f h = h

pub keeps_then : (a b c : List Form) → KeepsForms a b → KeepsForms b c → KeepsForms a c
keeps_then a b c h g f holds = g f (h f holds)

pub entry_forms_stay : (old new : List Form) (entries : List Entry) → KeepsForms old new → HaveEntryForms old entries → HaveEntryForms new entries
entry_forms_stay old new entries keeps h k e at = forms_stay old new (entry_form e) keeps (h k e at)

pub param_forms_stay : (old new : List Form) (params : List Param) → KeepsForms old new → HaveParamForms old params → HaveParamForms new params
param_forms_stay old new params keeps h k p at = forms_stay old new (param_form p) keeps (h k p at)

pub object_forms_stay : (w : WorldValue) (old new : List Form) (name : ℕ) → KeepsForms old new → HaveObjectForms w old name → HaveObjectForms w new name
object_forms_stay w old new name keeps h = record {
  entries = entry_forms_stay old new (opening_entries w name) keeps h.entries;
  params = param_forms_stay old new (opening_params w name) keeps h.params;
  made = λ e. keeps (made_form (name_at name)) (h.made e);
}

pub objects_more : (w : WorldValue) (old new : List Form) (n : ℕ) → KeepsForms old new → ((name : ℕ) → name < n → HaveObjectForms w old name) → HaveObjectForms w new n → (name : ℕ)
    → name < n + 1 → HaveObjectForms w new name
objects_more w old new n keeps below here name h = by (below_or_last name n h)
  where
    by : (name < n) ⊎ (name ≡ n) → HaveObjectForms w new name
    by (inl less) = object_forms_stay w old new name keeps (below name less)
    by (inr same) = subst (HaveObjectForms w new) (sym same) here
