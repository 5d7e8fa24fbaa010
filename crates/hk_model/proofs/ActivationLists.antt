-- The activations after one was entered, one has gone and all of a process have gone, and what is found then.
use Rattle.std.proofs.Common.{◌≡◌, ℕ, zero, suc, ◌+◌, List, [], ◌∷◌, ◌++◌, Bool, true, false, Option, Some, None, refl, sym, ◌∙◌, ap, arith, cond, subst}
use Rattle.std.specs.Prelude.{IsTrue, not, slice_set, slice_get, ◌==◌, is_some, filter}
use Rattle.std.specs.Option.{unwrap_or}
use Rattle.std.specs.List.{IsDistinct}
use Rattle.std.specs.Map.{lookup, remove_entry, keys_of}
use Rattle.std.specs.BTreeMap.{insert_entry}
use Rattle.std.specs.declared.cmp.Ordering.TheVariants.{Greater}
use Rattle.std.proofs.lemmas.Map.{lookup-remove_entry}
use Rattle.std.proofs.lemmas.Map.Entries.{lookup-filter-values, option_filter}
use Rattle.std.proofs.lemmas.Bool.Decides.{nat_tests}
use Rattle.hk_model.specs.declared.names.Inc.{Inc}
use Rattle.hk_model.specs.declared.objects.Incarnation.{Incarnation}
use Rattle.hk_model.specs.declared.objects.Process.{Process}
use Rattle.hk_model.specs.State.{State, same_inc, inc_cmp, no_incarnation}
use Rattle.hk_model.proofs.Standing.{inc_same, inc_laws}
use Rattle.hk_model.proofs.NumbersRise.{RisesFrom, NumbersRise, rises_below, numbers_apart}
use Rattle.hk_model.proofs.Activations.{Activation, activation, activations, activations_in, currents_in, look_up}

-- of a live incarnation the activation is found
pub activation_live : (es : List (Inc × Incarnation)) (i : Inc) → IsTrue (is_some (lookup (same_inc i) es))
    → look_up i (activations_in es) ≡ Some (activation (unwrap_or (lookup (same_inc i) es) no_incarnation))
activation_live [] i h = absurd (cc)
activation_live (e ∷ es) i h = by (same_inc i e.0) (activation_live es i) h
  where
    by : (b : Bool) → (IsTrue (is_some (lookup (same_inc i) es)) → look_up i (activations_in es) ≡ Some (activation (unwrap_or (lookup (same_inc i) es) no_incarnation)))
        → IsTrue (is_some (cond b (Some e.1) (lookup (same_inc i) es)))
        → cond b (Some (activation e.1)) (look_up i (activations_in es)) ≡ Some (activation (unwrap_or (cond b (Some e.1) (lookup (same_inc i) es)) no_incarnation))
    by true rest g = refl
    by false rest g = rest g

keys_activations : (es : List (Inc × Incarnation)) → keys_of (activations_in es) ≡ keys_of es
keys_activations [] = refl
keys_activations (e ∷ es) = let rest : keys_of (activations_in es) ≡ keys_of es = keys_activations es in rw rest refl

-- no two have the same number
pub activations_apart : (s : State) → NumbersRise s → IsDistinct same_inc (keys_of (activations s))
activations_apart s h = subst (λ ks. IsDistinct same_inc ks) (sym (keys_activations s.incarnations)) (numbers_apart s h)

-- the incarnations after an entry, a return and a halt
pub activations_insert : (k : Inc) (low : ℕ) (es : List (Inc × Incarnation)) (x : Incarnation) → RisesFrom low es k.0
    → activations_in (insert_entry inc_cmp es k x) ≡ activations_in es ++ (k, activation x) ∷ []
activations_insert k low [] x r = refl
activations_insert k low (e ∷ es) x r =
    let b = rises_below (e.0.0 + 1) es k.0 r.1 in
    let g : inc_cmp k e.0 ≡ Greater = grind (arith, nat_tests) in
    let rest : activations_in (insert_entry inc_cmp es k x) ≡ activations_in es ++ (k, activation x) ∷ [] = activations_insert k (e.0.0 + 1) es x r.1 in
    rw g (rw rest refl)

pub activations_remove : (k : Inc) (es : List (Inc × Incarnation)) → activations_in (remove_entry (same_inc k) es) ≡ remove_entry (same_inc k) (activations_in es)
activations_remove k [] = refl
activations_remove k (e ∷ es) = by (same_inc k e.0) (activations_remove k es)
  where
    by : (b : Bool) → activations_in (remove_entry (same_inc k) es) ≡ remove_entry (same_inc k) (activations_in es)
        → activations_in (cond b es (e ∷ remove_entry (same_inc k) es)) ≡ cond b (activations_in es) ((e.0, activation e.1) ∷ remove_entry (same_inc k) (activations_in es))
    by true rest = refl
    by false rest = rw rest refl

pub activations_filter : (p : ℕ) (es : List (Inc × Incarnation))
    → activations_in (filter (λ e. not (e.1.proc.0 == p)) es) ≡ filter (λ (e : Inc × Activation). not (e.1.proc.0 == p)) (activations_in es)
activations_filter p [] = refl
activations_filter p (e ∷ es) = by (not (e.1.proc.0 == p)) (activations_filter p es)
  where
    by : (b : Bool) → activations_in (filter (λ e. not (e.1.proc.0 == p)) es) ≡ filter (λ (e : Inc × Activation). not (e.1.proc.0 == p)) (activations_in es)
        → activations_in (cond b (e ∷ filter (λ e. not (e.1.proc.0 == p)) es) (filter (λ e. not (e.1.proc.0 == p)) es)) ≡ cond b
        ((e.0, activation e.1) ∷ filter (λ (e : Inc × Activation). not (e.1.proc.0 == p)) (activations_in es))
        (filter (λ (e : Inc × Activation). not (e.1.proc.0 == p)) (activations_in es))
    by true rest = rw rest refl
    by false rest = rest

-- where a process is in another incarnation
pub currents_set_to : (ps : List Process) (n : ℕ) (k : Inc) (d : Process)
    → currents_in (slice_set ps n (record (unwrap_or (slice_get ps n) d) { current = k })) ≡ slice_set (currents_in ps) n k
currents_set_to [] n k d = refl
currents_set_to (p ∷ ps) zero k d = refl
currents_set_to (p ∷ ps) (suc n) k d =
    let rest : currents_in (slice_set ps n (record (unwrap_or (slice_get ps n) d) { current = k })) ≡ slice_set (currents_in ps) n k = currents_set_to ps n k d in rw rest refl

-- what is left after a return and a halt
pub left_found : (fs : List (Inc × Activation)) (k i : Inc) (x : Activation) → IsDistinct same_inc (keys_of fs) → look_up i (remove_entry (same_inc k) fs) ≡ Some x
    → (look_up i fs ≡ Some x) × (same_inc k i ≡ false)
left_found fs k i x h g = by (same_inc k i) (sym (lookup-remove_entry inc_laws (same_inc k) (λ a b e. ap (λ (q : Inc). same_inc q b) (inc_same k a e)) i fs h) ∙ g)
  where
    by : (b : Bool) → cond b None (look_up i fs) ≡ Some x → (look_up i fs ≡ Some x) × (b ≡ false)
    by true e = absurd (cc)
    by false e = (e, refl)

pub left_keeps : (fs : List (Inc × Activation)) (k i : Inc) (x : Activation) → IsDistinct same_inc (keys_of fs) → look_up i fs ≡ Some x → same_inc k i ≡ false
    → look_up i (remove_entry (same_inc k) fs) ≡ Some x
left_keeps fs k i x h g a = lookup-remove_entry inc_laws (same_inc k) (λ a b e. ap (λ (q : Inc). same_inc q b) (inc_same k a e)) i fs h ∙ (rw a g)

pub halted_found : (fs : List (Inc × Activation)) (p : ℕ) (i : Inc) (x : Activation) → IsDistinct same_inc (keys_of fs)
    → look_up i (filter (λ (e : Inc × Activation). not (e.1.proc.0 == p)) fs) ≡ Some x → (look_up i fs ≡ Some x) × ((x.proc.0 == p) ≡ false)
halted_found fs p i x h g = by (look_up i fs) (sym (lookup-filter-values inc_laws (λ (y : Activation). not (y.proc.0 == p)) i fs h) ∙ g)
  where
    of_test : (b : Bool) (y : Activation) → (y.proc.0 == p) ≡ b → ◌≡◌ {A = Option Activation} (cond (not b) (Some y) None) (Some x)
        → (◌≡◌ {A = Option Activation} (Some y) (Some x)) × ((x.proc.0 == p) ≡ false)
    of_test true y e f = absurd (cc)
    of_test false y e f = let same : y ≡ x = cc in (f, rw same at e)

    by : (o : Option Activation) → option_filter (λ (y : Activation). not (y.proc.0 == p)) o ≡ Some x → (o ≡ Some x) × ((x.proc.0 == p) ≡ false)
    by None e = absurd (cc)
    by (Some y) e = of_test (y.proc.0 == p) y refl e

pub halted_keeps : (fs : List (Inc × Activation)) (p : ℕ) (i : Inc) (x : Activation) → IsDistinct same_inc (keys_of fs) → look_up i fs ≡ Some x → (x.proc.0 == p) ≡ false
    → look_up i (filter (λ (e : Inc × Activation). not (e.1.proc.0 == p)) fs) ≡ Some x
halted_keeps fs p i x h g a = lookup-filter-values inc_laws (λ (y : Activation). not (y.proc.0 == p)) i fs h ∙ (rw g (rw a refl))
