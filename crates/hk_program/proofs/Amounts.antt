-- How many incarnations of a process are left, and that one of them lives.
use Rattle.std.specs.Prelude.{◌≡◌, ℕ, ◌+◌, ◌≤◌, ◌==◌, List, [], ◌∷◌, Bool, true, false, Some, not, filter, refl}
use Rattle.std.specs.Map.{lookup, remove_entry}
use Rattle.std.proofs.Common.{arith, ap, sym, ◌∙◌, cond}
use Rattle.std.proofs.lemmas.Bool.Decides.{nat_tests}
use Rattle.std.proofs.lemmas.Bool.{true≢false}
use Rattle.hk_model.specs.declared.names.Inc.{Inc}
use Rattle.hk_model.specs.declared.objects.Incarnation.{Incarnation}
use Rattle.hk_model.specs.State.{same_inc}
use Rattle.hk_model.proofs.Activations.{Activation, activations_in, look_up}
use Rattle.hk_model.proofs.NumbersRise.{RisesFrom}
use Rattle.hk_model.proofs.Standing.{inc_same, inc_laws}
use Rattle.hk_program.proofs.Depths.{amount}

counted_less : (b : Bool) (m n : ℕ) → m ≤ n → cond b (1 + m) m ≤ cond b (1 + n) n
counted_less true m n h = omega arith
counted_less false m n h = h

counted_more : (b : Bool) (m : ℕ) → m ≤ cond b (1 + m) m
counted_more true m = omega arith
counted_more false m = omega arith

pub removed_most : (p : ℕ) (k : Inc) (es : List (Inc × Activation)) → amount p (remove_entry (same_inc k) es) ≤ amount p es
removed_most p k [] = omega arith
removed_most p k (e ∷ es) = by (same_inc k e.0) (removed_most p k es)
  where
    by : (b : Bool) → amount p (remove_entry (same_inc k) es) ≤ amount p es → amount p (cond b es (e ∷ remove_entry (same_inc k) es)) ≤ amount p (e ∷ es)
    by true h = counted_more (e.1.proc.0 == p) (amount p es)
    by false h = counted_less (e.1.proc.0 == p) (amount p (remove_entry (same_inc k) es)) (amount p es) h

pub filtered_most : (p : ℕ) (test : Inc × Activation → Bool) (es : List (Inc × Activation)) → amount p (filter test es) ≤ amount p es
filtered_most p test [] = omega arith
filtered_most p test (e ∷ es) = by (test e) (filtered_most p test es)
  where
    by : (b : Bool) → amount p (filter test es) ≤ amount p es → amount p (cond b (e ∷ filter test es) (filter test es)) ≤ amount p (e ∷ es)
    by true h = counted_less (e.1.proc.0 == p) (amount p (filter test es)) (amount p es) h
    by false h = let more = counted_more (e.1.proc.0 == p) (amount p es) in omega (arith, h, more)

pub filtered_own : (p : ℕ) (es : List (Inc × Activation)) → amount p (filter (λ (e : Inc × Activation). not (e.1.proc.0 == p)) es) ≡ 0
filtered_own p [] = refl
filtered_own p (e ∷ es) = by (e.1.proc.0 == p) refl (filtered_own p es)
  where
    by : (b : Bool) → (e.1.proc.0 == p) ≡ b → amount p (filter (λ (x : Inc × Activation). not (x.1.proc.0 == p)) es) ≡ 0
        → amount p (cond (not b) (e ∷ filter (λ (x : Inc × Activation). not (x.1.proc.0 == p)) es) (filter (λ (x : Inc × Activation). not (x.1.proc.0 == p)) es)) ≡ 0
    by true g h = h
    by false g h = rw g h

-- one less where what goes was of the process
pub removed_own : (p : ℕ) (k : Inc) (x : Activation) (es : List (Inc × Activation)) → look_up k es ≡ Some x → x.proc.0 ≡ p
    → amount p (remove_entry (same_inc k) es) + 1 ≤ amount p es
removed_own p k x [] h own = absurd (cc)
removed_own p k x (e ∷ es) h own = by (same_inc k e.0) h (λ g. removed_own p k x es g own)
  where
    itself : (n : ℕ) → n ≡ p → (n == p) ≡ true
    itself n e = grind (arith, nat_tests, e)

    one : (b : Bool) → b ≡ true → amount p es + 1 ≤ cond b (1 + amount p es) (amount p es)
    one true g = omega arith
    one false g = absurd (true≢false (sym g))

    further : (b : Bool) → amount p (remove_entry (same_inc k) es) + 1 ≤ amount p es
        → cond b (1 + amount p (remove_entry (same_inc k) es)) (amount p (remove_entry (same_inc k) es)) + 1 ≤ cond b (1 + amount p es) (amount p es)
    further true g = omega (arith, g)
    further false g = g

    by : (b : Bool) → cond b (Some e.1) (look_up k es) ≡ Some x → (look_up k es ≡ Some x → amount p (remove_entry (same_inc k) es) + 1 ≤ amount p es)
        → amount p (cond b es (e ∷ remove_entry (same_inc k) es)) + 1 ≤ amount p (e ∷ es)
    by true g later = let same : e.1 ≡ x = cc in one (e.1.proc.0 == p) (itself e.1.proc.0 (ap (λ (a : Activation). a.proc.0) same ∙ own))
    by false g later = further (e.1.proc.0 == p) (later g)

-- an incarnation of a process that lives
pub record OfProcess (es : List (Inc × Incarnation)) (p low : ℕ) : Type 0 where
  pub inc : Inc
  pub is : Incarnation
  pub lives : lookup (same_inc inc) es ≡ Some is
  pub own : is.proc.0 ≡ p
  pub above : low ≤ inc.0

-- where some are counted one lives
pub counted_lives : (p low high : ℕ) (es : List (Inc × Incarnation)) → RisesFrom low es high → 1 ≤ amount p (activations_in es) → OfProcess es p low
counted_lives p low high [] rises some = absurd (omega (arith, some))
counted_lives p low high (e ∷ es) rises some = by (e.1.proc.0 == p) refl some (counted_lives p (e.0.0 + 1) high es rises.1)
  where
    here : (n : ℕ) → (n == p) ≡ true → n ≡ p
    here n g = grind (arith, nat_tests, g)

    apart : (i : Inc) → e.0.0 + 1 ≤ i.0 → (b : Bool) → same_inc i e.0 ≡ b → b ≡ false
    apart i up true g = let same : i.0 ≡ e.0.0 = ap (λ (k : Inc). k.0) (inc_same i e.0 g) in absurd (omega (arith, same, up))
    apart i up false g = refl

    by : (b : Bool) → (e.1.proc.0 == p) ≡ b → 1 ≤ cond b (1 + amount p (activations_in es)) (amount p (activations_in es))
        → (1 ≤ amount p (activations_in es) → OfProcess es p (e.0.0 + 1)) → OfProcess (e ∷ es) p low
    by true g some later =
        let itself = inc_laws.refl e.0 in
        record { inc = e.0; is = e.1; lives = rw itself refl; own = here e.1.proc.0 g; above = rises.0 }
    by false g some later =
        let o = later some in
        let low_is = rises.0 in
        let up = o.above in
        let other = apart o.inc o.above (same_inc o.inc e.0) refl in
        record { inc = o.inc; is = o.is; lives = rw other o.lives; own = o.own; above = omega (arith, low_is, up) }
