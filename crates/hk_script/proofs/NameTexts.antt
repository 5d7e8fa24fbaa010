-- Names that are kept as texts.
use Rattle.std.proofs.Common.{◌≡◌, ℕ, ◌+◌, Bool, true, false, cond, ◌||◌, not, List, [], ◌∷◌, ◌++◌, map, refl, sym, ap, ◌∙◌, Some, String, Global, string_bytes}
use Rattle.std.specs.List.{list_any, position, position_from}
use Rattle.std.proofs.lemmas.Iterator.Adapters.{position_from-zero}
use Rattle.std.proofs.lemmas.List.{map-append}
use Rattle.hk_model.specs.Labels.{same_text}
use Rattle.hk_format.specs.Grammar.{is_among}
use Rattle.hk_format.specs.Loading.{place}

-- whether an element passes a test, and where, over a map

list_any-map : {X Y : Type 0} (p : Y → Bool) (f : X → Y) (xs : List X) → list_any p (map f xs) ≡ list_any (λ x. p (f x)) xs
list_any-map p f [] = refl
list_any-map p f (x ∷ xs) = ap (λ b. p (f x) || b) (list_any-map p f xs)

position_from-map : {X Y : Type 0} (p : Y → Bool) (f : X → Y) (i : ℕ) (xs : List X) → position_from p i (map f xs) ≡ position_from (λ x. p (f x)) i xs
position_from-map p f i [] = refl
position_from-map p f i (x ∷ xs) = ap (λ o. cond (p (f x)) (Some i) o) (position_from-map p f (i + 1) xs)

-- a text among the names
pub among_names : (ks : List (String Global)) (t : List ℕ) → is_among (map string_bytes ks) t ≡ list_any (λ k. same_text t (string_bytes k)) ks
among_names ks t = list_any-map (same_text t) string_bytes ks

-- the place of a text
pub place_names : (ks : List (String Global)) (t : List ℕ) → place (map string_bytes ks) t ≡ position (λ k. same_text t (string_bytes k)) ks
place_names ks t =
    position_from-zero (same_text t) (map string_bytes ks) ∙ position_from-map (same_text t) string_bytes 0 ks
    ∙ sym (position_from-zero (λ k. same_text t (string_bytes k)) ks)

-- the names after one was put at the end unless it was there
pub names_more : (ks : List (String Global)) (k : String Global) (there : Bool)
    → map string_bytes (cond there ks (ks ++ k ∷ [])) ≡ cond (not there) (map string_bytes ks ++ string_bytes k ∷ []) (map string_bytes ks)
names_more ks k true = refl
names_more ks k false = map-append string_bytes ks (k ∷ [])

-- whether a name is new, where its text is not among those that are kept
pub new_name : (ks : List (String Global)) (k : String Global) (names : List (List ℕ)) (t : List ℕ) (new : Bool) → map string_bytes ks ≡ names → string_bytes k ≡ t
    → new ≡ not (list_any (λ x. same_text (string_bytes k) (string_bytes x)) ks) → new ≡ not (is_among names t)
new_name ks k names t new v same e = rw (← v, ← same) (e ∙ ap not (sym (among_names ks (string_bytes k))))
