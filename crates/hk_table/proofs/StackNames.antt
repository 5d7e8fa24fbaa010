-- The names of the frames of stacks, one frame behind the other.
use Rattle.std.proofs.Common.{◌≡◌, ℕ, zero, suc, ◌+◌, ◌<◌, ◌≤◌, List, [], ◌∷◌, ◌++◌, length, get_or, drop, Some, refl, ap, ◌∙◌, sym, subst, arith}
use Rattle.std.specs.Prelude.{slice_get, slice_index_or}
use Rattle.std.proofs.lemmas.List.{drop_all}
use Rattle.std.specs.List.{flat_map}
use Rattle.hk_model.specs.declared.names.Name.{Name}
use Rattle.hk_reclaim.specs.Tally.{Tally}
use Rattle.hk_spaces.specs.declared.stack.StackFrame.{StackFrame}
use Rattle.hk_table.proofs.Stepping.{IsStepwise}

-- the stack of a process that was read
pub stack_is : (read stacks : List (List StackFrame)) (q : ℕ) (fs : List StackFrame) → read ≡ stacks → q < length read → fs ≡ get_or read q fs → fs ≡ slice_index_or stacks q []
stack_is read stacks q fs same low is = is ∙ at read q low ∙ ap (λ (ss : List (List StackFrame)). slice_index_or ss q []) same where
  at : (ss : List (List StackFrame)) (k : ℕ) → k < length ss → get_or ss k fs ≡ slice_index_or ss k []
  at [] k low = absurd (omega arith)
  at (x ∷ ss) zero low = refl
  at (x ∷ ss) (suc k) low = at ss k (omega arith)

-- an item that was read
pub some_item : {X : Type 0} (xs : List X) (i : ℕ) (x : X) → i < length xs → x ≡ get_or xs i x → slice_get xs i ≡ Some x
some_item [] i x low is = absurd (omega arith)
some_item (y ∷ xs) zero x low is = ap (λ (z : _). Some z) (sym is)
some_item (y ∷ xs) (suc i) x low is = some_item xs i x (omega arith) is

-- names that come or go list by list
module _ {X : Type 0} (names : X → List Name) (Can : List Name → Tally → Type 0) (Does : List Name → Tally → Tally → Type 0) (h : IsStepwise Can Does) where
  next_names : (xs : List X) (i : ℕ) (x : X) → slice_get xs i ≡ Some x → flat_map names (drop i xs) ≡ names x ++ flat_map names (drop (i + 1) xs)
  next_names [] i x here = absurd (cc)
  next_names (y ∷ xs) zero x here = let e : y ≡ x = cc in ap (λ (z : X). names z ++ flat_map names xs) e
  next_names (y ∷ xs) (suc i) x here = let k : suc i + 1 ≡ suc (i + 1) = omega arith in rw k (next_names xs i x here)

  pub next_can : (xs : List X) (i : ℕ) (x : X) (t : Tally) → slice_get xs i ≡ Some x → Can (flat_map names (drop i xs)) t → Can (names x) t
  next_can xs i x t here can = h.first (names x) (flat_map names (drop (i + 1) xs)) t (subst (λ (ns : List Name). Can ns t) (next_names xs i x here) can)

  pub later_can : (xs : List X) (i : ℕ) (x : X) (t u : Tally) → slice_get xs i ≡ Some x → Does (names x) t u → Can (flat_map names (drop i xs)) t
      → Can (flat_map names (drop (i + 1) xs)) u
  later_can xs i x t u here does can =
      h.rest (names x) (flat_map names (drop (i + 1) xs)) t u (subst (λ (ns : List Name). Can ns t) (next_names xs i x here) can) does

  pub later_done : (xs : List X) (i : ℕ) (x : X) (t u final : Tally) → slice_get xs i ≡ Some x → Does (names x) t u → Does (flat_map names (drop (i + 1) xs)) u final
      → Does (flat_map names (drop i xs)) t final
  later_done xs i x t u final here does later =
      subst (λ (ns : List Name). Does ns t final) (sym (next_names xs i x here)) (h.more (names x) (flat_map names (drop (i + 1) xs)) t u final does later)

  pub all_done : (xs : List X) (i : ℕ) (t : Tally) → length xs ≤ i → Does (flat_map names (drop i xs)) t t
  all_done xs i t high = subst (λ (ns : List Name). Does ns t t) (sym (ap (λ (ys : List X). flat_map names ys) (drop_all i xs high))) (h.nothing t)
