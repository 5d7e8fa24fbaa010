-- The list of new passes, as it grows.
use Rattle.std.proofs.Common.{◌≡◌, ℕ, zero, suc, ◌+◌, List, [], ◌∷◌, ◌++◌, length, get_or, subst, arith}
use Rattle.hk_turn.specs.declared.pass.Pass.{Pass}
use Rattle.hk_turn.specs.declared.turns.Turns.{Turns}
use Rattle.hk_turn.specs.Turns.{IsNewPass, AreNewPasses}

module _ {T E : Type 0} (t : Turns T E) where
  -- no pass
  pub new_none : (from : ℕ) → AreNewPasses t from []
  new_none from k d l = absurd (omega arith)

  -- one pass more, with the next number
  pub new_more : (from : ℕ) (ps : List (Pass E)) (p : Pass E) (n : ℕ) → n ≡ from + length ps → AreNewPasses t from ps → IsNewPass t n p → AreNewPasses t from (ps ++ p ∷ [])
  new_more from [] p n is each new zero d l = subst (λ (m : ℕ). IsNewPass t m p) (let e : n ≡ from + 0 = omega arith in e) new
  new_more from [] p n is each new (suc k) d l = absurd (omega arith)
  new_more from (q ∷ ps) p n is each new zero d l = each zero d (omega arith)
  new_more from (q ∷ ps) p n is each new (suc k) d l =
      subst (λ (m : ℕ). IsNewPass t m (get_or (ps ++ p ∷ []) k d)) (let e : suc from + k ≡ from + suc k = omega arith in e)
      (new_more (suc from) ps p n (omega arith) (λ j e h. subst (λ (m : ℕ). IsNewPass t m (get_or ps j e)) (let e : from + suc j ≡ suc from + j = omega arith in e)
      (each (suc j) e (omega arith))) new k d (omega arith))

  -- one pass before them, with the number before theirs
  pub new_first : (from : ℕ) (ps : List (Pass E)) (p : Pass E) → AreNewPasses t (from + 1) ps → IsNewPass t from p → AreNewPasses t from (p ∷ ps)
  new_first from ps p each new zero d l = subst (λ (m : ℕ). IsNewPass t m p) (let e : from ≡ from + 0 = omega arith in e) new
  new_first from ps p each new (suc k) d l = subst (λ (m : ℕ). IsNewPass t m (get_or ps k d)) (let e : from + 1 + k ≡ from + suc k = omega arith in e) (each k d (omega arith))
