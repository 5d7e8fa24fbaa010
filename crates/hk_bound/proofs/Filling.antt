-- Gaps are filled one after another, and the cells that have grown are taken up.
use Rattle.std.proofs.Common.{◌≡◌, ℕ, zero, suc, ◌+◌, ◌*◌, ◌-◌, ◌<◌, ◌≤◌, List, [], ◌∷◌, ◌++◌, length, length-append, take, drop, false, Option, Some, refl, sym, ◌∙◌}
use Rattle.std.proofs.Common.{subst, arith}
use Rattle.std.specs.Prelude.{slice_get, slice_index_or, ◌⊎◌}
use mathlib.Core.Logic.{inl, inr}
use Rattle.std.proofs.lemmas.Bool.{true≢false}
use Rattle.hk_model.specs.WorldValue.{WorldValue}
use Rattle.hk_bound.specs.declared.forms.Form.{Form}
use Rattle.hk_bound.specs.declared.gaps.Gap.{Gap}
use Rattle.hk_bound.specs.declared.spreading.Grown.{Grown}
use Rattle.hk_bound.specs.Each.{Each}
use Rattle.hk_bound.specs.Columns.{cell, covers, joined_rows, empty_rows, width_of, AreRows, IsGap, AreGaps}
use Rattle.hk_bound.specs.Weights.{rows_weight, most_weight}
use Rattle.hk_bound.specs.Filled.{IsWithin, AreFilling, Fills, Had, Got, FillsAll, grown_at}
use Rattle.hk_bound.proofs.Growth.{joined_follow, joined_rows_are, joined_more, rows_most, empty_follow, empty_are}

-- an item of a list with one more is the last or an earlier one
pub last_or : {A : Type 0} (xs : List A) (y x : A) (k : ℕ) → slice_get (xs ++ y ∷ []) k ≡ Some x → (slice_get xs k ≡ Some x) ⊎ (y ≡ x)
last_or [] y x zero e = inr (let same : y ≡ x = cc in same)
last_or [] y x (suc zero) e = absurd (cc)
last_or [] y x (suc (suc k)) e = absurd (cc)
last_or (z ∷ xs) y x zero e = inl e
last_or (z ∷ xs) y x (suc k) e = last_or xs y x k e

-- what is among the first items is in the list
pub in_first : {A : Type 0} (n : ℕ) (xs : List A) (k : ℕ) (x : A) → slice_get (take n xs) k ≡ Some x → slice_get xs k ≡ Some x
in_first zero xs zero x e = absurd (cc)
in_first zero xs (suc k) x e = absurd (cc)
in_first (suc n) [] zero x e = absurd (cc)
in_first (suc n) [] (suc k) x e = absurd (cc)
in_first (suc n) (y ∷ xs) zero x e = e
in_first (suc n) (y ∷ xs) (suc k) x e = in_first n xs k x e

pub each_first : {A : Type 0} (P : A → Type 0) (n : ℕ) (xs : List A) → Each P xs → Each P (take n xs)
each_first P n xs all k x e = all k x (in_first n xs k x e)

in_last : {A : Type 0} (n : ℕ) (xs : List A) (k : ℕ) (x : A) → slice_get (drop n xs) k ≡ Some x → slice_get xs (k + n) ≡ Some x
in_last zero [] k x e = subst (λ (n : ℕ). slice_get [] n ≡ Some x) (let s : k ≡ k + 0 = omega arith in s) e
in_last zero (y ∷ xs) k x e = subst (λ (n : ℕ). slice_get (y ∷ xs) n ≡ Some x) (let s : k ≡ k + 0 = omega arith in s) e
in_last (suc n) [] zero x e = absurd (cc)
in_last (suc n) [] (suc k) x e = absurd (cc)
in_last (suc n) (y ∷ xs) k x e = subst (λ (m : ℕ). slice_get (y ∷ xs) m ≡ Some x) (let s : suc (k + n) ≡ k + suc n = omega arith in s) (in_last n xs k x e)

pub each_last : {A : Type 0} (P : A → Type 0) (n : ℕ) (xs : List A) → Each P xs → Each P (drop n xs)
each_last P n xs all k x e = all (k + n) x (in_last n xs k x e)

module _ (w : WorldValue) (forms : List Form) where
  -- what holds while gaps are filled
  pub record Filled (start now : List (List (Option ℕ))) (before after : List Grown) (n : ℕ) : Type 0 where
    pub all : FillsAll w forms start now before after
    pub start_is : n ≡ 0 → now ≡ start
    pub more : 0 < n → rows_weight start < rows_weight now

  pub fills_none : (start : List (List (Option ℕ))) (before : List Grown) → AreFilling w forms start before → FillsAll w forms start start before before
  fills_none start before h = record { filling = h; less = omega arith; no_less = omega arith }

  pub fills_then : (a b c : List (List (Option ℕ))) (x y z : List Grown) → FillsAll w forms a b x y → FillsAll w forms b c y z → FillsAll w forms a c x z
  fills_then a b c x y z f g =
      let l = f.less in let m = g.less in let n = f.no_less in let o = g.no_less in
      record { filling = g.filling; less = omega (arith, l, m); no_less = omega (arith, n, o) }

  pub filling_split : (rows : List (List (Option ℕ))) (grown first : List Grown) (n : ℕ) → first ≡ take n grown → AreFilling w forms rows grown → AreFilling w forms rows first
  filling_split rows grown first n e h =
      record { follow = h.follow; are = h.are; within = subst (Each (IsWithin w forms)) (sym e) (each_first (IsWithin w forms) n grown h.within) }

  pub within_split : (grown last : List Grown) (n : ℕ) → last ≡ drop n grown → Each (IsWithin w forms) grown → Each (IsWithin w forms) last
  within_split grown last n e h = subst (Each (IsWithin w forms)) (sym e) (each_last (IsWithin w forms) n grown h)

  pub filled_start : (start : List (List (Option ℕ))) (before : List Grown) → AreFilling w forms start before → Filled start start before before 0
  filled_start start before h = record { all = fills_none start before h; start_is = λ k. refl; more = λ k. absurd (omega (arith, k)) }

  pub filled_more : (start now new : List (List (Option ℕ))) (before mid after : List Grown) (n : ℕ) (gap : Gap) → Filled start now before mid n → IsGap w forms start gap
      → Fills gap now new mid after → Filled start new before after (n + 1)
  filled_more start now new before mid after n gap h g (Had there same still) = subst
      (λ (rows : List (List (Option ℕ))). Filled start rows before after (n + 1)) (sym same)
      (subst (λ (cells : List Grown). Filled start now before cells (n + 1)) (sym still) (record {
        all = h.all;
        start_is = λ k. absurd (omega (arith, k));
        more = λ k. by (zero_or n);
      }))
    where
      zero_or : (k : ℕ) → (k ≡ 0) ⊎ (0 < k)
      zero_or zero = inl refl
      zero_or (suc k) = inr (omega arith)

      by : (n ≡ 0) ⊎ (0 < n) → rows_weight start < rows_weight now
      by (inl k) =
          let lacks : covers (cell now gap.process gap.column) gap.rights ≡ false = subst
          (λ (rows : List (List (Option ℕ))). covers (cell rows gap.process gap.column) gap.rights ≡ false) (sym (h.start_is k)) g.lacking in
          absurd (true≢false (sym there ∙ lacks))
      by (inr k) = h.more k
  filled_more start now new before mid after n gap h g (Got lacks rights word new_is after_is) = subst
      (λ (rows : List (List (Option ℕ))). Filled start rows before after (n + 1)) (sym new_is)
      (subst (λ (cells : List Grown). Filled start (joined_rows now gap.process gap.column gap.rights) before cells (n + 1)) (sym after_is) (record {
        all = record {
          filling = record {
            follow = joined_follow w forms now gap.process gap.column gap.rights h.all.filling.follow g.follows;
            are = joined_rows_are w forms now gap.process gap.column gap.rights h.all.filling.are;
            within = within;
          };
          less = let a = h.all.less in let b = grows in let l = length-append mid (grown_at gap rights ∷ []) in omega (arith, a, b, l);
          no_less = let a = h.all.no_less in let b = grows in omega (arith, a, b);
        };
        start_is = λ k. absurd (omega (arith, k));
        more = λ k. let a = h.all.no_less in let b = grows in omega (arith, a, b);
      }))
    where
      low : gap.process < length now
      low = let a = g.process in let b = h.all.filling.are.count in omega (arith, a, b)

      wide : gap.column < length (slice_index_or now gap.process [])
      wide = let a = g.column in let b = h.all.filling.are.width gap.process low in omega (arith, a, b)

      grows : rows_weight now < rows_weight (joined_rows now gap.process gap.column gap.rights)
      grows = joined_more now gap.process gap.column gap.rights low wide word lacks

      within : Each (IsWithin w forms) (mid ++ grown_at gap rights ∷ [])
      within k x e = elim (last_or mid (grown_at gap rights) x k e) [
        | inl earlier ↦ h.all.filling.within k x earlier
        | inr same ↦ subst (IsWithin w forms) same (record { process = g.process; column = g.column })
      ]

  pub no_gaps : (rows : List (List (Option ℕ))) (gaps : List Gap) → gaps ≡ [] → AreGaps w forms rows gaps
  no_gaps rows gaps e = subst (AreGaps w forms rows) (sym e) none
    where
      none : (k : ℕ) (x : Gap) → slice_get [] k ≡ Some x → IsGap w forms rows x
      none zero x h = absurd (cc)
      none (suc k) x h = absurd (cc)

  pub filling_first : (count width : ℕ) (rows : List (List (Option ℕ))) (grown : List Grown) → count ≡ length w.tasks → width ≡ width_of w forms → rows ≡ empty_rows count width
      → grown ≡ [] → AreFilling w forms rows grown
  filling_first count width rows grown a b e none = subst (λ (rows : List (List (Option ℕ))). AreFilling w forms rows grown) (sym e)
      (subst (λ (n : ℕ). AreFilling w forms (empty_rows n width) grown) (sym a) (subst (λ (n : ℕ). AreFilling w forms (empty_rows (length w.tasks) n) grown) (sym b) (record {
        follow = empty_follow w forms (length w.tasks) (width_of w forms);
        are = empty_are w forms;
        within = subst (Each (IsWithin w forms)) (sym none) nowhere;
      })))
    where
      nowhere : (k : ℕ) (x : Grown) → slice_get [] k ≡ Some x → IsWithin w forms x
      nowhere zero x h = absurd (cc)
      nowhere (suc k) x h = absurd (cc)

  -- no rows of this world weigh more than so much
  pub weighs_most : (rows : List (List (Option ℕ))) → AreRows w forms rows → rows_weight rows ≤ most_weight w forms
  weighs_most rows are = let a = rows_most rows (width_of w forms) are.width in subst (λ (n : ℕ). rows_weight rows ≤ n * (20 * width_of w forms)) are.count a

  pub smaller : (old new : List (List (Option ℕ))) → AreRows w forms new → rows_weight old < rows_weight new
      → most_weight w forms - rows_weight new < most_weight w forms - rows_weight old
  smaller old new are more = let a = weighs_most new are in omega (arith, a, more)

  -- what is left to do: twice what rows may still gain, and the cells that wait
  abbrev pub left : List (List (Option ℕ)) → List Grown → ℕ
  left rows grown = 2 * (most_weight w forms - rows_weight rows) + length grown

  pub left_falls : (old new : List (List (Option ℕ))) (before mid after : List Grown) → length mid < length before → FillsAll w forms old new mid after
      → left new after < left old before
  left_falls old new before mid after popped h =
      let a = weighs_most new h.filling.are in let b = h.less in let c = h.no_less in omega (arith, a, b, c, popped)
