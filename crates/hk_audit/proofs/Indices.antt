-- The indices of a path, read one after another.
use Rattle.std.proofs.Common.{◌≡◌, ℕ, ◌+◌, ◌<◌, ◌≤◌, Bool, true, false, cond, List, [], ◌∷◌, ◌++◌, length, map, take, set, refl, sym, ap, ◌∙◌, arith, ◌&&◌, Option, Some, None}
use Rattle.std.specs.List.{list_all}
use Rattle.std.proofs.lemmas.Bool.Decides.{nat_tests}
use Rattle.std.proofs.lemmas.List.{take_more_set, length-append, length-map, length-take}
use mathlib.Core.List.{append_assoc, append-nil}
use Rattle.hk_model.specs.Labels.{between}
use Rattle.hk_format.specs.Pieces.{value}
use Rattle.hk_audit.specs.TextPieces.{is_index_numeral, indices_of}

-- what is known where the first of the texts that are left was asked for its index
index_some : (t : List ℕ) (v : ℕ) → Some v ≡ cond (is_index_numeral t) (Some (value t)) None → (is_index_numeral t ≡ true) × (v ≡ value t)
index_some t v e = go (is_index_numeral t) refl e
  where
    go : (b : Bool) → is_index_numeral t ≡ b → Some v ≡ cond b (Some (value t)) None → (is_index_numeral t ≡ true) × (v ≡ value t)
    go true k e = (k, cc)
    go false k e = absurd (let none : Some v ≡ None = e in cc)

index_none : (t : List ℕ) → ◌≡◌ {A = Option ℕ} None (cond (is_index_numeral t) (Some (value t)) None) → is_index_numeral t ≡ false
index_none t e = go (is_index_numeral t) refl e
  where
    go : (b : Bool) → is_index_numeral t ≡ b → ◌≡◌ {A = Option ℕ} None (cond b (Some (value t)) None) → is_index_numeral t ≡ false
    go true k e = absurd (let none : None ≡ Some (value t) = e in cc)
    go false k e = k

-- one index more
pub index_turn : (cut before after : List (List ℕ)) (t : List ℕ) (indices : List ℕ) (count v : ℕ)
    → before ≡ t ∷ after → Some v ≡ cond (is_index_numeral t) (Some (value t)) None → count < length indices
    → take count indices ++ map value before ≡ map value cut → list_all is_index_numeral before ≡ list_all is_index_numeral cut
    → (take (count + 1) (set indices count v) ++ map value after ≡ map value cut) × (list_all is_index_numeral after ≡ list_all is_index_numeral cut)
index_turn cut before after t indices count v e some inside values good =
    let known = index_some t v some in
    let more = take_more_set indices count v inside in
    (rw (more, known.1) (append_assoc (take count indices) (value t ∷ []) (map value after) ∙ (rw e at values)), (rw (e, known.0) at good))

-- a text that is no index
pub index_bad : (cut before after : List (List ℕ)) (t : List ℕ) → before ≡ t ∷ after → ◌≡◌ {A = Option ℕ} None (cond (is_index_numeral t) (Some (value t)) None)
    → list_all is_index_numeral before ≡ list_all is_index_numeral cut → ◌≡◌ {A = Option (List ℕ)} None (indices_of cut)
index_bad cut before after t e none good =
    let bad = index_none t none in
    let whole : list_all is_index_numeral cut ≡ false = sym (rw (e, bad) at good) in
    rw whole (go (between 2 8 (length cut)))
  where
    go : (b : Bool) → None ≡ cond (b && false) (Some (map value cut)) None
    go true = refl
    go false = refl

many : (cut : List (List ℕ)) → between 2 8 (length cut) ≡ false → ◌≡◌ {A = Option (List ℕ)} None (indices_of cut)
many cut e = rw e refl

size_of : (cut left : List (List ℕ)) (indices : List ℕ) (count : ℕ) → count ≤ length indices → take count indices ++ map value left ≡ map value cut
    → count + length left ≡ length cut
size_of cut left indices count inside values =
    let a = length-append (take count indices) (map value left) in
    let b = length-take count indices in
    let c = ap length values in
    let d = length-map left value in
    let f = length-map cut value in
    omega arith

-- a ninth text
pub index_late : (cut before after : List (List ℕ)) (t : List ℕ) (indices : List ℕ) (count : ℕ) → before ≡ t ∷ after → count ≡ 8 → count ≤ length indices
    → take count indices ++ map value before ≡ map value cut → ◌≡◌ {A = Option (List ℕ)} None (indices_of cut)
index_late cut before after t indices count e full inside values =
    let size = size_of cut before indices count inside values in
    let more = ap length e in
    many cut (grind (arith, nat_tests))

-- one text alone
pub index_alone : (cut left : List (List ℕ)) (indices : List ℕ) (count : ℕ) → left ≡ [] → count < 2 → count ≤ length indices
    → take count indices ++ map value left ≡ map value cut → ◌≡◌ {A = Option (List ℕ)} None (indices_of cut)
index_alone cut left indices count e few inside values =
    let size = size_of cut left indices count inside values in
    let none = ap length e in
    many cut (grind (arith, nat_tests))

-- all texts
pub index_all : (cut left : List (List ℕ)) (indices : List ℕ) (count : ℕ) → left ≡ [] → 2 ≤ count → count ≤ 8 → count ≤ length indices
    → take count indices ++ map value left ≡ map value cut → list_all is_index_numeral left ≡ list_all is_index_numeral cut → Some (take count indices) ≡ indices_of cut
index_all cut left indices count e low high inside values good =
    let size = size_of cut left indices count inside values in
    let none = ap length e in
    let few : between 2 8 (length cut) ≡ true = grind (arith, nat_tests) in
    let all : list_all is_index_numeral cut ≡ true = sym (rw e at good) in
    let whole : take count indices ≡ map value cut = sym (append-nil (take count indices)) ∙ (rw e at values) in
    rw (few, all) (ap Some whole)
