-- Changes that are told one after another.
use Rattle.std.proofs.Common.{◌≡◌, ℕ, zero, suc, ◌+◌, ◌<◌, ◌^◌, List, [], ◌∷◌, ◌++◌, length, take, refl, sym, arith, subst}
use Rattle.std.specs.Prelude.{Option, slice_index_or}
use Rattle.std.specs.List.{AllByRecursion}
use Rattle.std.proofs.lemmas.List.{get_or_default}
use Rattle.hk_model.specs.declared.entries.Cap.{Cap}
use Rattle.hk_model.specs.declared.reaches.Change.{Change}
use Rattle.hk_report.specs.declared.families.Begun.{Begun}
use Rattle.hk_report.specs.declared.families.BareChange.{BareChange}
use Rattle.hk_report.specs.declared.histories.History.{History}
use Rattle.hk_report.specs.Reasons.{IsTold, AreTold, AreFew}

-- what is so of all is so of one
pub all_at : {X : Type 0} (P : X → Type 0) (xs : List X) (n : ℕ) (x : X) → AllByRecursion P xs → n < length xs → x ≡ slice_index_or xs n x → P x
all_at P [] n x h l e = absurd (omega (arith, l))
all_at P (y ∷ xs) zero x h l e = subst P (sym e) h.0
all_at P (y ∷ xs) (suc n) x h l e = all_at P xs n x h.1 (omega (arith, l)) e

pub few_at : (bares : List BareChange) (n : ℕ) (b : BareChange) → AreFew bares → n < length bares → b ≡ slice_index_or bares n b → b.moment + 1 < 2 ^ 32
few_at bares n b h l e = all_at (λ (y : BareChange). y.moment + 1 < 2 ^ 32) bares n b h l e

module _ (families : List (List Begun)) (histories : List History) (params : List (List (Option Cap))) where
  none_taken : (bares : List BareChange) → take 0 bares ≡ []
  none_taken [] = refl
  none_taken (b ∷ bares) = refl

  pub told_none : (bares : List BareChange) (changes : List Change) → changes ≡ [] → AreTold families histories params (take 0 bares) changes
  told_none bares changes h = subst (λ (cs : List Change). AreTold families histories params (take 0 bares) cs) (sym h) (none bares)
    where
      none : (xs : List BareChange) → AreTold families histories params (take 0 xs) []
      none [] = tt
      none (x ∷ xs) = tt

  more : (bares : List BareChange) (n : ℕ) (b : BareChange) (changes : List Change) (change : Change) → n < length bares → b ≡ slice_index_or bares n b
      → AreTold families histories params (take n bares) changes → IsTold families histories params b change
      → AreTold families histories params (take (suc n) bares) (changes ++ change ∷ [])
  more [] n b changes change l e h g = absurd (omega (arith, l))
  more (x ∷ bares) zero b [] change l e h g = (
    subst (λ (y : BareChange). IsTold families histories params y change) e g,
    subst (λ (ys : List BareChange). AreTold families histories params ys []) (sym (none_taken bares)) tt,
  )
  more (x ∷ bares) zero b (c ∷ changes) change l e h g = absurd h
  more (x ∷ bares) (suc n) b [] change l e h g = absurd h
  more (x ∷ bares) (suc n) b (c ∷ changes) change l e h g = (h.0, more bares n b changes change (omega (arith, l)) e h.1 g)

  pub told_more : (bares : List BareChange) (n : ℕ) (d : BareChange) (changes all : List Change) (change : Change) → n < length bares
      → AreTold families histories params (take n bares) changes → IsTold families histories params (slice_index_or bares n d) change → all ≡ changes ++ change ∷ []
      → AreTold families histories params (take (n + 1) bares) all
  told_more bares n d changes all change l h g same =
      let number : suc n ≡ n + 1 = omega arith in
      subst (λ (k : ℕ). AreTold families histories params (take k bares) all) number
      (subst (λ (cs : List Change). AreTold families histories params (take (suc n) bares) cs) (sym same)
      (more bares n (slice_index_or bares n d) changes change l (get_or_default bares n d (slice_index_or bares n d) l) h g))

  pub told_all : (bares : List BareChange) (n : ℕ) (changes : List Change) → take n bares ≡ bares → AreTold families histories params (take n bares) changes
      → AreTold families histories params bares changes
  told_all bares n changes e h = subst (λ (ys : List BareChange). AreTold families histories params ys changes) e h
