-- An item with lines of its own, written in order.
use Rattle.std.proofs.Common.{◌≡◌, ℕ, true, List, [], ◌∷◌, ◌++◌, map, sym, ap, ◌∙◌}
use Rattle.std.specs.Prelude.{codes}
use Rattle.std.specs.List.{flat_map}
use Rattle.std.proofs.lemmas.Grind.{flat_map-append}
use Rattle.std.proofs.lemmas.List.Folds.{flat_map-map}
use mathlib.Core.List.{append_assoc}
use Rattle.hk_model.specs.declared.entries.Entry.{Entry}
use Rattle.hk_model.specs.declared.entries.Param.{Param}
use Rattle.hk_format.specs.declared.syntax.Head.{Head}
use Rattle.hk_format.specs.declared.syntax.Part.{Part}
use Rattle.hk_format.specs.Spelling.{has_parts, head_pieces, body_pieces, end_line}
use Rattle.hk_format.specs.Names.{Names}
use Rattle.hk_format.specs.Canonical.{item, part, entry_body, entry_parts, param_body, param_parts}
use Rattle.hk_print.specs.ItemTexts.{pieces_line, body_text, parts_text, entry_line, param_line, item_text}

-- the head, the lines, `end`
pub item_spelled : (head : Head) (parts : List Part) → has_parts head ≡ true → item_text (item head parts) ≡ pieces_line (head_pieces head) ++ (parts_text parts ++ codes "end\n")
item_spelled head parts has =
    rw has (ap (λ (t : List ℕ). pieces_line (head_pieces head) ++ t) (flat_map-append pieces_line (map (λ (p : Part). body_pieces p.body) parts) (end_line ∷ [])
    ∙ ap (λ (t : List ℕ). t ++ codes "end\n") (flat_map-map pieces_line (λ (p : Part). body_pieces p.body) parts)))

pub parts_joined : (xs ys : List Part) → parts_text (xs ++ ys) ≡ parts_text xs ++ parts_text ys
parts_joined xs ys = flat_map-append (λ (p : Part). body_text p.body) xs ys

pub entries_spelled : (s : Names) (entries : List Entry) → parts_text (entry_parts s entries) ≡ flat_map (entry_line s) entries
entries_spelled s entries = flat_map-map (λ (p : Part). body_text p.body) (λ (e : Entry). part (entry_body s e)) entries

pub params_spelled : (s : Names) (params : List Param) → parts_text (param_parts s params) ≡ flat_map (param_line s) params
params_spelled s params = flat_map-map (λ (p : Part). body_text p.body) (λ (p : Param). part (param_body s p)) params

-- an item is written once its head, its lines and `end` are
pub item_written : (head : Head) (parts : List Part) (old begun filled new : List ℕ) → has_parts head ≡ true → begun ≡ old ++ pieces_line (head_pieces head)
    → filled ≡ begun ++ parts_text parts → new ≡ filled ++ codes "end\n" → new ≡ old ++ item_text (item head parts)
item_written head parts old begun filled new has b f n =
    n ∙ rw (f, b) (append_assoc (old ++ pieces_line (head_pieces head)) (parts_text parts) (codes "end\n")
    ∙ append_assoc old (pieces_line (head_pieces head)) (parts_text parts ++ codes "end\n") ∙ ap (λ (t : List ℕ). old ++ t) (sym (item_spelled head parts has)))

-- an item with lines of two kinds
pub item_of_two : (head : Head) (xs ys : List Part) (old begun half filled new : List ℕ) → has_parts head ≡ true → begun ≡ old ++ pieces_line (head_pieces head)
    → half ≡ begun ++ parts_text xs → filled ≡ half ++ parts_text ys → new ≡ filled ++ codes "end\n" → new ≡ old ++ item_text (item head (xs ++ ys))
item_of_two head xs ys old begun half filled new has b h f n =
    item_written head (xs ++ ys) old begun filled new has b (f ∙ rw (h, parts_joined xs ys) (append_assoc begun (parts_text xs) (parts_text ys))) n
