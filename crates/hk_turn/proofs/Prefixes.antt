-- Prefixes of the one list, and what they leave behind them.
use Rattle.std.proofs.Common.{◌≡◌, ◌≢◌, ℕ, suc, ◌<◌, ◌≤◌, Bool, true, false, List, [], ◌∷◌, ◌++◌, length, sym, refl, ap, ◌∙◌, subst, arith, length-append, append_assoc}
use Rattle.std.specs.Prelude.{All, nat_lt}
use Rattle.std.proofs.lemmas.Bool.Decides.{nat_tests}
use Rattle.std.proofs.lemmas.List.Elements.{All-append, All-nil}
use mathlib.Core.List.{IsPrefix}
use Rattle.hk_turn.specs.Views.{longer_if}
use Rattle.hk_turn.specs.Rule.{GoesOn}

module _ {A : Type 0} where
  -- a list is a prefix of itself
  pub prefix_self : (xs : List A) → IsPrefix xs xs
  prefix_self [] = ([], refl)
  prefix_self (x ∷ xs) = (let r = prefix_self xs in r.0, ap (λ ys. x ∷ ys) (prefix_self xs).1)

  -- a prefix stays one where the list grows
  pub prefix_longer : (xs ys zs : List A) → IsPrefix xs ys → IsPrefix xs (ys ++ zs)
  prefix_longer xs ys zs p = (p.0 ++ zs, sym (append_assoc xs p.0 zs) ∙ ap (λ w. w ++ zs) p.1)

-- what holds of each element holds of each behind a prefix
pub all_tail : {A : Type 0} (P : A → Type 0) (ys r : List A) → All P (ys ++ r) → All P r
all_tail P [] r a = a
all_tail P (y ∷ ys) r a = all_tail P ys r (λ k d h. a (suc k) d (omega arith))

module _ {E : Type 0} (owner : E → ℕ) where
  -- a list that was seen whole has nothing behind that
  pub goes_nowhere : (k : ℕ) (list : List E) → GoesOn owner k list list
  goes_nowhere k list = ([], sym (append-nil list), All-nil (λ (e : E). owner e ≢ k))
    where
      append-nil : (xs : List E) → xs ++ [] ≡ xs
      append-nil [] = refl
      append-nil (x ∷ xs) = ap (λ ys. x ∷ ys) (append-nil xs)

  -- what was seen stays all of a number where the list grows by entries of others
  pub goes_further : (k : ℕ) (seen list more : List E) → GoesOn owner k seen list → All (λ e. owner e ≢ k) more → GoesOn owner k seen (list ++ more)
  goes_further k seen list more g others = (g.0 ++ more, ap (λ w. w ++ more) g.1 ∙ append_assoc seen g.0 more, All-append (λ (e : E). owner e ≢ k) g.0 more g.2 others)

  -- what was seen is no longer than the list
  pub goes_length : (k : ℕ) (seen list : List E) → GoesOn owner k seen list → length seen ≤ length list
  goes_length k seen list g = omega (arith, ap length g.1 ∙ length-append seen g.0)

  -- a longer beginning leaves less behind it
  pub goes_longer : (k : ℕ) (seen other list : List E) → GoesOn owner k seen list → IsPrefix other list → length seen ≤ length other → GoesOn owner k other list
  goes_longer k [] other list g p le = (p.0, sym p.1, all_tail (λ (e : E). owner e ≢ k) other p.0 (subst (All (λ (e : E). owner e ≢ k)) (sym g.1 ∙ sym p.1) g.2))
  goes_longer k (x ∷ xs) [] list g p le = absurd (omega arith)
  goes_longer k (x ∷ xs) (y ∷ ys) [] g p le = absurd (cc (p.1))
  goes_longer k (x ∷ xs) (y ∷ ys) (z ∷ zs) g p le = let h = goes_longer k xs ys zs (g.0, cc (g.1), g.2) (p.0, cc (p.1)) (omega arith) in (h.0, cc (h.1, p.1), h.2)

  -- what was seen is a prefix
  pub prefix_of_goes : (k : ℕ) (seen list : List E) → GoesOn owner k seen list → IsPrefix seen list
  prefix_of_goes k seen list g = (g.0, sym g.1)

  -- the longer of two prefixes leaves nothing of the number behind it, where the first leaves none
  pub goes_longer_if : (k : ℕ) (seen other list : List E) → GoesOn owner k seen list → IsPrefix other list → (b : Bool) → nat_lt (length seen) (length other) ≡ b
      → GoesOn owner k (longer_if b seen other) list
  goes_longer_if k seen other list g p true is = goes_longer k seen other list g p (let l : length seen < length other = grind (arith, nat_tests) in omega arith)
  goes_longer_if k seen other list g p false is = g
