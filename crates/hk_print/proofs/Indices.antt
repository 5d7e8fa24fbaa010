-- The indices of a path, joined by points.
use Rattle.std.proofs.Common.{◌≡◌, ℕ, suc, ◌-◌, ◌<◌, List, [], ◌∷◌, ◌++◌, length, map, take, drop, sym, ap, ◌∙◌, append_assoc, arith}
use Rattle.std.specs.Prelude.{slice_index}
use Rattle.std.specs.List.{join_with_byte, flat_map}
use Rattle.std.specs.Fmt.{decimal}
use Rattle.std.proofs.lemmas.List.{take_all}
use mathlib.Core.List.{append-nil}
use Rattle.hk_model.specs.declared.instructions.Index.TheVariants.{Fixed}
use Rattle.hk_format.specs.Pieces.{spell, spell_index}
use Rattle.hk_format.specs.Operands.{path_piece}

indices_joined : (first : ℕ) (rest : List ℕ) → join_with_byte 46 (map spell_index (map Fixed (first ∷ rest))) ≡ decimal first ++ flat_map (λ index. 46 ∷ decimal index) rest
indices_joined first [] = sym (append-nil (decimal first))
indices_joined first (index ∷ rest) = ap (λ (t : List ℕ). decimal first ++ 46 ∷ t) (indices_joined index rest)

-- a path by its first index and the others
path_spelled : (first : ℕ) (rest : List ℕ) → spell (path_piece (first ∷ rest)) ≡ decimal first ++ flat_map (λ index. 46 ∷ decimal index) rest
path_spelled first [] = sym (append-nil (decimal first))
path_spelled first (index ∷ rest) = indices_joined first (index ∷ rest)

-- the indices behind the first
behind_first : (rest : List ℕ) → take (suc (length rest) - 1) rest ≡ rest
behind_first rest =
    let same : suc (length rest) - 1 ≡ length rest = omega arith in
    rw same (take_all (length rest) rest (omega arith))

-- a path of one index at least, by its first index and the others
path_whole : (path old begun new : List ℕ) → 0 < length path → begun ≡ old ++ decimal (slice_index path 0)
    → new ≡ begun ++ flat_map (λ index. 46 ∷ decimal index) (take (length path - 1) (drop 1 path)) → new ≡ old ++ spell (path_piece path)
path_whole [] old begun new some b n = absurd (omega arith)
path_whole (first ∷ rest) old begun new some b n =
    n ∙ rw (b, behind_first rest) (append_assoc old (decimal first) (flat_map (λ index. 46 ∷ decimal index) rest)
    ∙ ap (λ (t : List ℕ). old ++ t) (sym (path_spelled first rest)))

-- the same behind a space
pub next_path_whole : (path old begun new : List ℕ) → 0 < length path → begun ≡ old ++ 32 ∷ decimal (slice_index path 0)
    → new ≡ begun ++ flat_map (λ index. 46 ∷ decimal index) (take (length path - 1) (drop 1 path)) → new ≡ old ++ 32 ∷ spell (path_piece path)
next_path_whole path old begun new some b n =
    path_whole path (old ++ 32 ∷ []) begun new some (b ∙ sym (append_assoc old (32 ∷ []) (decimal (slice_index path 0)))) n
    ∙ append_assoc old (32 ∷ []) (spell (path_piece path))
