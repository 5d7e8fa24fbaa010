-- The verb of a word is among those whose words begin as it does.
use Rattle.std.proofs.Common.{◌≡◌, ℕ, Bool, true, false, cond, eqb, List, [], ◌∷◌, length, refl, sym, ap, ◌∙◌, Some, None, arith}
use Rattle.std.specs.List.{find, filter}
use Rattle.std.proofs.lemmas.Bool.{eq-eqb, eqb-true}
use Rattle.std.proofs.lemmas.Slice.Eq.{bytes_eq-Decides}
use Rattle.hk_format.specs.declared.syntax.Verb.{Verb}
use Rattle.hk_model.specs.Labels.{same_text, first}
use Rattle.hk_format.specs.Verbs.{verb_word, all_verbs}

-- verbs whose words begin otherwise have other words
begin_so : (w : List ℕ) (vs : List Verb) → find (λ v. same_text w (verb_word v)) vs ≡ find (λ v. same_text w (verb_word v)) (filter (λ v. eqb (first (verb_word v)) (first w)) vs)
begin_so w [] = refl
begin_so w (v ∷ vs) = by (same_text w (verb_word v)) (eqb (first (verb_word v)) (first w)) refl refl (begin_so w vs)
  where
    by : (same alike : Bool) → same_text w (verb_word v) ≡ same → eqb (first (verb_word v)) (first w) ≡ alike
        → find (λ v. same_text w (verb_word v)) vs ≡ find (λ v. same_text w (verb_word v)) (filter (λ v. eqb (first (verb_word v)) (first w)) vs)
        → cond same (Some v) (find (λ v. same_text w (verb_word v)) vs)
        ≡ find (λ v. same_text w (verb_word v)) (cond alike (v ∷ filter (λ v. eqb (first (verb_word v)) (first w)) vs) (filter (λ v. eqb (first (verb_word v)) (first w)) vs))
    by true true h k later = rw h refl
    by true false h k later =
        let same : w ≡ verb_word v = (bytes_eq-Decides w (verb_word v)).0 h in
        let alike : eqb (first (verb_word v)) (first w) ≡ true = eq-eqb (first (verb_word v)) (first w) (sym (ap first same)) in
        absurd (let clash = sym k ∙ alike in cc)
    by false true h k later = rw h later
    by false false h k later = later

-- the verb is among those that begin with the first letter
pub of_letter : (w : List ℕ) → find (λ v. same_text w (verb_word v)) all_verbs ≡ find (λ v. same_text w (verb_word v)) (filter (λ v. eqb (first (verb_word v)) (first w)) all_verbs)
of_letter w = begin_so w all_verbs

-- no verb has an empty word
pub of_nothing : (w : List ℕ) → eqb (length w) 0 ≡ true → None ≡ find (λ v. same_text w (verb_word v)) all_verbs
unfolding all_verbs
of_nothing [] h = refl
of_nothing (b ∷ bs) h = absurd (let some = eqb-true (length (b ∷ bs)) 0 h in omega arith)
