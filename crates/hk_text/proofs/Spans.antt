-- Pieces that lie one behind another.
use Rattle.std.proofs.Common.{ℕ, ◌≤◌, List, [], ◌∷◌, ◌++◌, arith}
use Rattle.hk_text.specs.declared.pieces.Piece.{Piece}
use Rattle.std.specs.List.{flat_map}
use Rattle.std.proofs.lemmas.Grind.{flat_map-append}
use Rattle.hk_text.specs.declared.text.TextLine.{TextLine}
use Rattle.hk_text.specs.Views.{LieBetween, line_pieces}

-- pieces, and then further pieces
pub lie_both : (start middle end : ℕ) (ps qs : List Piece) → LieBetween start middle ps → LieBetween middle end qs → LieBetween start end (ps ++ qs)
lie_both start middle end [] [] h k = omega arith
lie_both start middle end [] (q ∷ qs) h k = (omega (arith, k.0), k.1, k.2)
lie_both start middle end (p ∷ ps) qs h k = (h.0, h.1, lie_both p.end middle end ps qs h.2 k)

-- pieces before a later end
pub lie_before : (start middle end : ℕ) (ps : List Piece) → LieBetween start middle ps → middle ≤ end → LieBetween start end ps
lie_before start middle end [] h k = omega arith
lie_before start middle end (p ∷ ps) h k = (h.0, h.1, lie_before p.end middle end ps h.2 k)

-- the pieces of lines, and of one line more
pub lines_lie : (lines : List TextLine) (line : TextLine) (start middle end : ℕ) → LieBetween 0 start (flat_map line_pieces lines) → LieBetween start middle line.pieces
    → middle ≤ end → LieBetween 0 end (flat_map line_pieces (lines ++ line ∷ []))
lines_lie lines line start middle end h k few =
    rw flat_map-append (lie_both 0 start end (flat_map line_pieces lines) (flat_map line_pieces (line ∷ [])) h (lie_both start middle end line.pieces [] k few))
