-- Which history an object has, as lists are touched one after another.
use Rattle.std.proofs.Common.{◌≡◌, ℕ, zero, suc, ◌-◌, ◌<◌, ◌≤◌, List, [], ◌∷◌, ◌++◌, length, replicate, Bool, true, false, Option, None, refl, sym, ◌∙◌, ap, arith, subst}
use Rattle.std.specs.Prelude.{◌==◌, ◌⊎◌, nat_lt, slice_set, slice_index_or}
use mathlib.Core.Logic.{inl, inr}
use Rattle.std.proofs.lemmas.Bool.{true≢false, ltb-true, ltb-false, eqb-true, eqb-false, eq-eqb, ne_eqb, cases_lt}
use Rattle.std.proofs.lemmas.List.{length-append, length-replicate}
use Rattle.hk_model.specs.declared.names.Name.{Name}
use Rattle.hk_model.specs.declared.names.Inc.{Inc}
use Rattle.hk_model.specs.declared.entries.Entry.{Entry}
use Rattle.hk_model.specs.State.{State, object}
use Rattle.hk_report.specs.declared.histories.History.{History}
use Rattle.hk_report.specs.Histories.{relisted, no_history, history_of, touched, opened_below, finished_below}

-- what is known where a list gets its entries index by index
pub record Relisting (maker count now spans : Type 0) : Type 0 where
  pub makes : maker
  pub counts : count
  pub stands : now
  pub stood : spans

-- ---- one list is touched

pub name_is : (x y : Name) → x.0 ≡ y.0 → x ≡ y
name_is x y h = ap (λ (n : ℕ). let z : Name = record { 0 = n } in z) h

set_same : (hs : List History) (n : ℕ) (h : History) → n < length hs → slice_index_or (slice_set hs n h) n no_history ≡ h
set_same [] n h l = absurd (omega (arith, l))
set_same (x ∷ hs) zero h l = refl
set_same (x ∷ hs) (suc n) h l = set_same hs n h (omega (arith, l))

set_other : (hs : List History) (n m : ℕ) (h : History) → (m == n) ≡ false → slice_index_or (slice_set hs n h) m no_history ≡ slice_index_or hs m no_history
set_other [] n m h e = refl
set_other (x ∷ hs) zero zero h e = absurd (true≢false e)
set_other (x ∷ hs) zero (suc m) h e = refl
set_other (x ∷ hs) (suc n) zero h e = refl
set_other (x ∷ hs) (suc n) (suc m) h e = set_other hs n m h (ne_eqb m n (λ f. eqb-false (suc m) (suc n) e (omega (arith, f))))

none_at : (n i : ℕ) → slice_index_or (replicate n no_history) i no_history ≡ no_history
none_at zero i = refl
none_at (suc n) zero = refl
none_at (suc n) (suc i) = none_at n i

last_same : (hs : List History) (h : History) (n : ℕ) → length hs ≡ n → slice_index_or (hs ++ h ∷ []) n no_history ≡ h
last_same [] h n e = rw (sym e) refl
last_same (x ∷ hs) h zero e = absurd (omega (arith, e))
last_same (x ∷ hs) h (suc n) e = last_same hs h n (omega (arith, e))

last_other : (hs : List History) (h : History) (n m : ℕ) → length hs ≡ n → (m == n) ≡ false → slice_index_or (hs ++ h ∷ []) m no_history ≡ slice_index_or hs m no_history
last_other [] h n zero e f = absurd (true≢false (sym (eq-eqb 0 n (omega (arith, e))) ∙ f))
last_other [] h n (suc m) e f = refl
last_other (x ∷ hs) h zero m e f = absurd (omega (arith, e))
last_other (x ∷ hs) h (suc n) zero e f = refl
last_other (x ∷ hs) h (suc n) (suc m) e f = last_other hs h n m (omega (arith, e)) (ne_eqb m n (λ g. eqb-false (suc m) (suc n) f (omega (arith, g))))

grown_at : (hs : List History) (n i : ℕ) → slice_index_or (hs ++ replicate n no_history) i no_history ≡ slice_index_or hs i no_history
grown_at [] n i = none_at n i
grown_at (x ∷ hs) n zero = refl
grown_at (x ∷ hs) n (suc i) = grown_at hs n i

pub beyond : (hs : List History) (i : ℕ) → length hs ≤ i → slice_index_or hs i no_history ≡ no_history
beyond [] i l = refl
beyond (x ∷ hs) zero l = absurd (omega (arith, l))
beyond (x ∷ hs) (suc i) l = beyond hs i (omega (arith, l))

grown_length : (hs : List History) (n : ℕ) → length hs ≤ n → length (hs ++ replicate (n - length hs) no_history) ≡ n
grown_length hs n l =
    let a = length-append hs (replicate (n - length hs) no_history) in
    let b : length (replicate (n - length hs) no_history) ≡ n - length hs = length-replicate (n - length hs) no_history in
    omega (arith, a, b, l)

module _ (moment : ℕ) (maker : Option Inc) (entries : List Entry) (name : Name) (hs : List History) where
  pub touched_same : history_of (touched moment maker entries name hs) name ≡ relisted moment maker entries (history_of hs name)
  touched_same = by (nat_lt name.0 (length hs)) refl
    where
      by : (b : Bool) → nat_lt name.0 (length hs) ≡ b
          → slice_index_or (elim b as (λ x. List History) [
            | true ↦ slice_set hs name.0 (relisted moment maker entries (history_of hs name))
            | false ↦ (hs ++ replicate (name.0 - length hs) no_history) ++ relisted moment maker entries no_history ∷ []
          ]) name.0 no_history
          ≡ relisted moment maker entries (history_of hs name)
      by true e = set_same hs name.0 (relisted moment maker entries (history_of hs name)) (ltb-true name.0 (length hs) e)
      by false e =
          let l = ltb-false name.0 (length hs) e in
          last_same (hs ++ replicate (name.0 - length hs) no_history) (relisted moment maker entries no_history) name.0 (grown_length hs name.0 l)
          ∙ ap (relisted moment maker entries) (sym (beyond hs name.0 l))

  pub touched_other : (x : Name) → (x.0 == name.0) ≡ false → history_of (touched moment maker entries name hs) x ≡ history_of hs x
  touched_other x f = by (nat_lt name.0 (length hs)) refl
    where
      by : (b : Bool) → nat_lt name.0 (length hs) ≡ b
          → slice_index_or (elim b as (λ x. List History) [
            | true ↦ slice_set hs name.0 (relisted moment maker entries (history_of hs name))
            | false ↦ (hs ++ replicate (name.0 - length hs) no_history) ++ relisted moment maker entries no_history ∷ []
          ]) x.0 no_history
          ≡ slice_index_or hs x.0 no_history
      by true e = set_other hs name.0 x.0 (relisted moment maker entries (history_of hs name)) f
      by false e =
          last_other (hs ++ replicate (name.0 - length hs) no_history) (relisted moment maker entries no_history) name.0 x.0
          (grown_length hs name.0 (ltb-false name.0 (length hs) e)) f
          ∙ grown_at hs (name.0 - length hs) x.0

-- ---- all lists of the opening, and all that end

abbrev numbered : ℕ → Name
numbered n = record { 0 = n }

pub opened_beyond : (s : State) (n : ℕ) (x : Name) → n ≤ x.0 → history_of (opened_below s n) x ≡ no_history
opened_beyond s zero x l = refl
opened_beyond s (suc n) x l =
    touched_other 0 None (object s (numbered n)).entries (numbered n) (opened_below s n) x (ne_eqb x.0 n (λ e. omega (arith, l, e))) ∙ opened_beyond s n x (omega (arith, l))

pub opened_within : (s : State) (n : ℕ) (x : Name) → x.0 < n → history_of (opened_below s n) x ≡ relisted 0 None (object s x).entries no_history
opened_within s zero x l = absurd (omega (arith, l))
opened_within s (suc n) x l = by (λ g. opened_within s n x g) (x.0 == n) refl
  where
    here : (y : Name) → x ≡ y → y ≡ numbered n → history_of (opened_below s (suc n)) x ≡ relisted 0 None (object s x).entries no_history
    here y e f =
        let g = e ∙ f in
        subst (λ (z : Name). history_of (opened_below s (suc n)) z ≡ relisted 0 None (object s z).entries no_history) (sym g)
        (touched_same 0 None (object s (numbered n)).entries (numbered n) (opened_below s n)
        ∙ ap (relisted 0 None (object s (numbered n)).entries) (opened_beyond s n (numbered n) (omega arith)))

    by : (x.0 < n → history_of (opened_below s n) x ≡ relisted 0 None (object s x).entries no_history) → (b : Bool) → (x.0 == n) ≡ b
        → history_of (opened_below s (suc n)) x ≡ relisted 0 None (object s x).entries no_history
    by later true e = here (numbered n) (name_is x (numbered n) (eqb-true x.0 n e)) refl
    by later false e =
        touched_other 0 None (object s (numbered n)).entries (numbered n) (opened_below s n) x e
        ∙ later (let f = eqb-false x.0 n e in elim (cases_lt x.0 n) [ inl g ↦ g | inr g ↦ absurd (f (omega (arith, l, g))) ])

pub finished_beyond : (moment n : ℕ) (hs : List History) (x : Name) → n ≤ x.0 → history_of (finished_below moment n hs) x ≡ history_of hs x
finished_beyond moment zero hs x l = refl
finished_beyond moment (suc n) hs x l =
    touched_other moment None [] (numbered n) (finished_below moment n hs) x (ne_eqb x.0 n (λ e. omega (arith, l, e))) ∙ finished_beyond moment n hs x (omega (arith, l))

pub finished_within : (moment n : ℕ) (hs : List History) (x : Name) → x.0 < n → history_of (finished_below moment n hs) x ≡ relisted moment None [] (history_of hs x)
finished_within moment zero hs x l = absurd (omega (arith, l))
finished_within moment (suc n) hs x l = by (λ g. finished_within moment n hs x g) (x.0 == n) refl
  where
    by : (x.0 < n → history_of (finished_below moment n hs) x ≡ relisted moment None [] (history_of hs x)) → (b : Bool) → (x.0 == n) ≡ b
        → history_of (finished_below moment (suc n) hs) x ≡ relisted moment None [] (history_of hs x)
    by later true e =
        subst (λ (z : Name). history_of (finished_below moment (suc n) hs) z ≡ relisted moment None [] (history_of hs z)) (sym (name_is x (numbered n) (eqb-true x.0 n e)))
        (touched_same moment None [] (numbered n) (finished_below moment n hs)
        ∙ ap (relisted moment None []) (finished_beyond moment n hs (numbered n) (omega arith)))
    by later false e =
        touched_other moment None [] (numbered n) (finished_below moment n hs) x e
        ∙ later (let f = eqb-false x.0 n e in elim (cases_lt x.0 n) [ inl g ↦ g | inr g ↦ absurd (f (omega (arith, l, g))) ])

-- the history of an object at the end
pub ended_history : (moment : ℕ) (hs : List History) (x : Name)
    → (history_of (finished_below moment (length hs) hs) x ≡ relisted moment None [] (history_of hs x))
    ⊎ ((history_of hs x ≡ no_history) × (history_of (finished_below moment (length hs) hs) x ≡ no_history))
ended_history moment hs x = elim (cases_lt x.0 (length hs)) [
  | inl l ↦ inl (finished_within moment (length hs) hs x l)
  | inr l ↦ let e = beyond hs x.0 l in inr (e, finished_beyond moment (length hs) hs x l ∙ e)
]
