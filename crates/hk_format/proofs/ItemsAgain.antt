-- The lines of items are read as these items.
use Rattle.std.proofs.Common.{◌≡◌, ℕ, ◌+◌, Bool, true, false, cond, List, [], ◌∷◌, ◌++◌, length, ◌∙◌, arith, map, Ok}
use Rattle.std.specs.List.{enumerate_from, flat_map}
use mathlib.Core.List.{append_assoc, append-nil}
use Rattle.hk_format.specs.declared.syntax.Head.{Head}
use Rattle.hk_format.specs.declared.syntax.Verb.TheVariants as verb
use Rattle.hk_format.specs.declared.syntax.Part.{Part}
use Rattle.hk_format.specs.declared.syntax.Item.{Item}
use Rattle.hk_format.specs.Pieces.{Piece}
use Rattle.hk_format.specs.Grammar.{GivenNames, nothing_seen, items_from, script, between_items, in_item, item_at, part_at, noted, noted_label}
use Rattle.hk_format.specs.Spelling.{has_parts, body_pieces, end_line, item_lines, script_lines}
use Rattle.hk_format.specs.Syntax.{AreParts, AreItems, placed_parts, placed}
use Rattle.hk_format.proofs.LineAgain.{part_again, head_again, end_again, verb_again}

parts_again : (items : List Item) (seen : GivenNames) (line : ℕ) (head : Head) (before : List Part) (labels : List (List ℕ)) (n : ℕ) (ps : List Part) (rest : List (List Piece))
    → AreParts head labels ps
    → items_from (enumerate_from n (map (λ p. body_pieces p.body) ps ++ end_line ∷ rest)) (in_item items seen (item_at line head before) labels)
    ≡ items_from (enumerate_from (n + (length ps + 1)) rest) (between_items (items ++ item_at line head (before ++ placed_parts n ps) ∷ []) seen)
parts_again items seen line head before labels n [] rest h = rw (end_again, append-nil)
parts_again items seen line head before labels n (p ∷ ps) rest h =
    let more = parts_again items seen line head (before ++ part_at n p.body ∷ []) (noted_label labels p.body) (n + 1) ps rest h.2 in
    let lines : n + 1 + (length ps + 1) ≡ n + (length (p ∷ ps) + 1) = omega arith in
    rw (part_again head p.body h.0, h.1) (more ∙ rw (lines, append_assoc))

items_again : (done : List Item) (seen : GivenNames) (n : ℕ) (is : List Item) → AreItems seen is
    → items_from (enumerate_from n (flat_map item_lines is)) (between_items done seen) ≡ Ok (done ++ placed n is)
items_again done seen n [] h = rw append-nil
items_again done seen n (i ∷ is) h = rw (head_again i.head h.0, h.1) (go (has_parts i.head) (λ d m. items_again d (noted seen i.head) m is h.3))
  where
    go : (b : Bool) → ((d : List Item) (m : ℕ) → items_from (enumerate_from m (flat_map item_lines is)) (between_items d (noted seen i.head)) ≡ Ok (d ++ placed m is))
        → items_from (enumerate_from (n + 1) (cond b (map (λ p. body_pieces p.body) i.parts ++ end_line ∷ []) [] ++ flat_map item_lines is))
        (cond b (in_item done (noted seen i.head) (item_at n i.head []) []) (between_items (done ++ item_at n i.head [] ∷ []) (noted seen i.head)))
        ≡ Ok (done ++ item_at n i.head (cond b (placed_parts (n + 1) i.parts) []) ∷ placed (n + cond b (length i.parts + 2) 1) is)
    go true more =
        let parts = parts_again done (noted seen i.head) n i.head [] [] (n + 1) i.parts (flat_map item_lines is) h.2 in
        let lines : n + 1 + (length i.parts + 1) ≡ n + (length i.parts + 2) = omega arith in
        rw (append_assoc, parts, lines, more) (rw append_assoc)
    go false more = more (done ++ item_at n i.head [] ∷ []) (n + 1) ∙ rw append_assoc

pub script_again : (is : List Item) → AreItems nothing_seen is → script (enumerate_from 1 (script_lines is)) ≡ Ok (placed 2 is)
script_again is h = rw (verb_again verb.Hydra) (items_again [] nothing_seen 2 is h)
