-- Texts that are joined by a byte.
use Rattle.std.proofs.Common.{◌≡◌, ℕ, ◌+◌, ◌<◌, List, [], ◌∷◌, ◌++◌, length, map, take, get_or, refl, sym, ap, ◌∙◌}
use Rattle.std.specs.List.{join_with_byte, flat_map}
use Rattle.std.proofs.lemmas.List.{take_more}
use mathlib.Core.List.{append_assoc, append-nil}

-- what stands before the next text
abbrev pub separator : {X : Type 0} → ℕ → List X → List ℕ
separator b [] = []
separator b (x ∷ xs) = b ∷ []

-- one text more at the end
pub joined : {X : Type 0} (b : ℕ) (text : X → List ℕ) (xs : List X) (y : X)
    → join_with_byte b (map text (xs ++ y ∷ [])) ≡ join_with_byte b (map text xs) ++ (separator b xs ++ text y)
joined b text [] y = refl
joined b text (x ∷ []) y = refl
joined b text (x ∷ z ∷ xs) y = ap (λ (t : List ℕ). text x ++ b ∷ t) (joined b text (z ∷ xs) y) ∙ sym (append_assoc (text x) (b ∷ join_with_byte b (map text (z ∷ xs))) (b ∷ text y))

pub some_before : {X : Type 0} (b : ℕ) (xs : List X) (y : X) → separator b (xs ++ y ∷ []) ≡ b ∷ []
some_before b [] y = refl
some_before b (x ∷ xs) y = refl

-- the text of the next item is written behind what stands before it
pub joined_next : {X : Type 0} (b : ℕ) (text : X → List ℕ) (old : List ℕ) (xs : List X) (i : ℕ) (d : X) {out before pushed new : List ℕ} → i < length xs
    → out ≡ old ++ join_with_byte b (map text (take i xs)) → before ≡ separator b (take i xs) → pushed ≡ out ++ before → new ≡ pushed ++ text (get_or xs i d)
    → new ≡ old ++ join_with_byte b (map text (take (i + 1) xs))
joined_next b text old xs i d inside e f p n =
    let so_far = join_with_byte b (map text (take i xs)) in
    let next = text (get_or xs i d) in
    n ∙ rw (p, e, f, take_more xs i d inside) (append_assoc (old ++ so_far) (separator b (take i xs)) next
    ∙ append_assoc old so_far (separator b (take i xs) ++ next) ∙ ap (λ (t : List ℕ). old ++ t) (sym (joined b text (take i xs) (get_or xs i d))))

-- and the byte stands before the one behind it
pub separated_next : {X : Type 0} (b : ℕ) (xs : List X) (i : ℕ) (d : X) → i < length xs → (b ∷ []) ≡ separator b (take (i + 1) xs)
separated_next b xs i d inside = rw (take_more xs i d inside) (sym (some_before b (take i xs) (get_or xs i d)))

-- texts behind a first one
pub joined_behind : {X : Type 0} (b : ℕ) (text : X → List ℕ) (front : List ℕ) (xs : List X) → join_with_byte b (front ∷ map text xs) ≡ front ++ flat_map (λ x. b ∷ text x) xs
joined_behind b text front [] = sym (append-nil front)
joined_behind b text front (x ∷ xs) = ap (λ (t : List ℕ). front ++ b ∷ t) (joined_behind b text (text x) xs)
