-- Texts that a byte separates, taken one after another.
use Rattle.std.proofs.Common.{◌≡◌, ℕ, ◌+◌, ◌-◌, ◌≤◌, Bool, true, false, cond, eqb, ltb, List, [], ◌∷◌, length, refl, sym, arith, take, drop, ◌∙◌}
use Rattle.std.specs.List.{slice_split, position_or_len}
use Rattle.std.proofs.lemmas.Bool.{ltb-false, lt-ltb, le-ltb, ltb-true}
use Rattle.std.proofs.lemmas.List.{take_all, drop-drop, length-drop}
use Rattle.std.proofs.lemmas.List.Sums.{prefix_len-le-length}
use Rattle.hk_format.specs.Texts.{is_none}
use Rattle.hk_text.proofs.Turns.{cut_turn}
use Rattle.hk_audit.specs.declared.parts.Parts.{Parts}
use Rattle.hk_audit.specs.Left.{texts}

cut_some : (p : ℕ → Bool) (xs : List ℕ) → is_none (slice_split p xs) ≡ false
cut_some p xs = rw (cut_turn p xs)

-- some text is left as long as the place is not past the end
pub left_none : (p : Parts) → ltb (length p.text.now) p.at ≡ is_none (texts p)
left_none p = go (ltb (length p.text.now) p.at)
  where
    go : (b : Bool) → b ≡ is_none (cond b [] (slice_split (λ b. eqb b p.separator) (drop p.at p.text.now)))
    go true = refl
    go false = sym (cut_some (λ b. eqb b p.separator) (drop p.at p.text.now))

-- the first of them, and what is left behind it
pub left_next : (text : List ℕ) (c at len : ℕ) → ltb (length text) at ≡ false → len ≡ position_or_len (λ b. eqb b c) (take (length text - at) (drop at text))
    → cond (ltb (length text) at) [] (slice_split (λ b. eqb b c) (drop at text))
    ≡ take len (take (length text - at) (drop at text)) ∷ cond (ltb (length text) (at + (len + 1))) [] (slice_split (λ b. eqb b c) (drop (at + (len + 1)) text))
left_next text c at len inside place =
    let low = ltb-false _ _ inside in
    let size = length-drop at text in
    let whole : take (length text - at) (drop at text) ≡ drop at text = take_all (length text - at) (drop at text) (omega arith) in
    let at_len : len ≡ position_or_len (λ b. eqb b c) (drop at text) = rw whole at place in
    let high : len ≤ length (drop at text) = rw at_len (prefix_len-le-length _ (drop at text)) in
    rw (inside, whole) (cut_turn (λ b. eqb b c) (drop at text) ∙ rw (← at_len, drop-drop) (turn (ltb len (length (drop at text))) refl))
  where
    turn : (b : Bool) → ltb len (length (drop at text)) ≡ b
        → take len (drop at text) ∷ cond b (slice_split (λ b. eqb b c) (drop (at + (len + 1)) text)) []
        ≡ take len (drop at text) ∷ cond (ltb (length text) (at + (len + 1))) [] (slice_split (λ b. eqb b c) (drop (at + (len + 1)) text))
    turn true e =
        let low = ltb-false _ _ inside in
        let size = length-drop at text in
        let more = ltb-true _ _ e in
        let none : ltb (length text) (at + (len + 1)) ≡ false = le-ltb _ _ (omega arith) in
        rw none
    turn false e =
        let low = ltb-false _ _ inside in
        let size = length-drop at text in
        let more = ltb-false _ _ e in
        let some : ltb (length text) (at + (len + 1)) ≡ true = lt-ltb _ _ (omega arith) in
        rw some
