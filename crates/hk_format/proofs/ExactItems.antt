-- Lines are read as items exactly where these are in form and in range and the lines spell them.
use Rattle.std.proofs.Common.{◌≡◌, ℕ, Bool, true, false, cond, List, [], ◌∷◌, ◌++◌, map, refl, sym, ap, subst, ◌∙◌, not, Option, Some, None, Ok}
use Rattle.std.proofs.Common.{Err}
use Rattle.std.specs.List.{list_all, flat_map}
use Rattle.std.proofs.lemmas.Bool.{and_parts}
use mathlib.Core.List.{append_assoc, append-nil}
use Rattle.hk_format.specs.declared.causes.ParseCause.TheVariants.{Repeated}
use Rattle.hk_format.specs.declared.syntax.Verb.TheVariants as verb
use Rattle.hk_format.specs.declared.syntax.Head.{Head}
use Rattle.hk_format.specs.declared.syntax.Head.TheVariants.{LimitIs, TypeIs, ObjectIs, SemaphoreIs, ProcedureIs, CodeIs, ProcessIs}
use Rattle.hk_format.specs.declared.syntax.Body.{Body}
use Rattle.hk_format.specs.declared.syntax.Part.{Part}
use Rattle.hk_format.specs.declared.syntax.Item.{Item}
use Rattle.hk_format.specs.Pieces.{Piece, is_piece}
use Rattle.hk_format.specs.Texts.{Lines}
use Rattle.hk_format.specs.Reading.{Found}
use Rattle.hk_format.specs.Grammar.{GivenNames, nothing_seen, is_new, noted, is_new_label, noted_label, item_at, part_at, between_items, in_item, placed_head, begun}
use Rattle.hk_format.specs.Grammar.{with_part, joined, and_then, go_on, items_from, header, after_header, script, head_line, part_line}
use Rattle.hk_format.specs.Spelling.{has_parts, head_pieces, body_pieces, end_line, header_line}
use Rattle.hk_format.specs.Syntax.{AreParts, AreItems, IsSyntax}
use Rattle.hk_format.specs.ItemLines.{numbered_part, numbered_item, AreLinesOf}
use Rattle.hk_format.proofs.LineAgain.{part_again, head_again, end_again, verb_again}
use Rattle.hk_format.proofs.ExactReaders.{AreSpelled, head_exact, part_exact, header_exact}

-- an item with the line of its end, without that line
abbrev item_of : Item × ℕ → Item
item_of placed = placed.0

-- lines that spell items are read as these

parts_read : (items : List Item) (seen : GivenNames) (line : ℕ) (head : Head) (before : List Part) (labels : List (List ℕ)) (end : ℕ) (ps : List Part) (rest : Lines)
    → AreParts head labels ps
    → items_from (map numbered_part ps ++ (end, end_line) ∷ rest) (in_item items seen (item_at line head before) labels)
    ≡ items_from rest (between_items (items ++ item_at line head (before ++ ps) ∷ []) seen)
parts_read items seen line head before labels end [] rest h = rw (end_again, append-nil)
parts_read items seen line head before labels end (p ∷ ps) rest h =
    let more = parts_read items seen line head (before ++ part_at p.line p.body ∷ []) (noted_label labels p.body) end ps rest h.2 in
    rw (part_again head p.body h.0, h.1) (more ∙ rw append_assoc)

-- an item of a single line has no parts
no_parts : (head : Head) (ps : List Part) → has_parts head ≡ false → AreParts head [] ps → [] ≡ ps
no_parts head [] e h = refl
no_parts (LimitIs n) (p ∷ ps) e h = absurd h.0
no_parts (TypeIs name) (p ∷ ps) e h = absurd h.0
no_parts (SemaphoreIs name count) (p ∷ ps) e h = absurd h.0
no_parts (ObjectIs name of) (p ∷ ps) e h = cc
no_parts (ProcedureIs name code) (p ∷ ps) e h = cc
no_parts (CodeIs name) (p ∷ ps) e h = cc
no_parts (ProcessIs name code) (p ∷ ps) e h = cc

items_read : (done : List Item) (seen : GivenNames) (placed : List (Item × ℕ)) → AreItems seen (map item_of placed)
    → items_from (flat_map numbered_item placed) (between_items done seen) ≡ Ok (done ++ map item_of placed)
items_read done seen [] h = rw append-nil
items_read done seen (x ∷ placed) h = rw (head_again x.0.head h.0, h.1) (go (has_parts x.0.head) refl (λ d. items_read d (noted seen x.0.head) placed h.3))
  where
    go : (b : Bool) → has_parts x.0.head ≡ b → ((d : List Item) → items_from (flat_map numbered_item placed) (between_items d (noted seen x.0.head)) ≡ Ok (d ++ map item_of placed))
        → items_from (cond b (map numbered_part x.0.parts ++ (x.1, end_line) ∷ []) [] ++ flat_map numbered_item placed)
        (cond b (in_item done (noted seen x.0.head) (item_at x.0.line x.0.head []) []) (between_items (done ++ item_at x.0.line x.0.head [] ∷ []) (noted seen x.0.head)))
        ≡ Ok (done ++ x.0 ∷ map item_of placed)
    go true e more =
        let parts = parts_read done (noted seen x.0.head) x.0.line x.0.head [] [] x.1 x.0.parts (flat_map numbered_item placed) h.2 in
        rw (append_assoc, parts, more) (rw append_assoc)
    go false e more =
        let none = no_parts x.0.head x.0.parts e h.2 in
        more (done ++ item_at x.0.line x.0.head [] ∷ []) ∙ rw append_assoc (ap (λ (ps : List Part). Ok (done ++ item_at x.0.line x.0.head ps ∷ map item_of placed)) none)

script_read : (lines : Lines) (items : List Item) → IsSyntax items → AreLinesOf lines items → script lines ≡ Ok items
script_read lines items h l =
    let syntax : AreItems nothing_seen (map item_of l.placed) = subst (λ (is : List Item). AreItems nothing_seen is) (sym l.same) h in
    let read : script ((l.first, header_line) ∷ flat_map numbered_item l.placed) ≡ Ok (map item_of l.placed) =
    rw (verb_again verb.Hydra) (items_read [] nothing_seen l.placed syntax) in
    ap script l.spelled ∙ read ∙ ap Ok l.same

-- lines that are read as items spell these

-- the pieces of all lines are spelled by some text
abbrev pub AreSpelledLines : Lines → Type 0
AreSpelledLines lines = list_all (λ (l : ℕ × List Piece). list_all is_piece l.1) lines ≡ true

-- what the lines behind items give
record Between (lines : Lines) (done items : List Item) : Type 0 where
  placed : List (Item × ℕ)
  same : items ≡ done ++ map item_of placed
  spelled : lines ≡ flat_map numbered_item placed

-- what the lines within an item give
record Inside (lines : Lines) (done : List Item) (o : Item) (items : List Item) : Type 0 where
  parts : List Part
  end : ℕ
  placed : List (Item × ℕ)
  same : items ≡ done ++ item_at o.line o.head (o.parts ++ parts) ∷ map item_of placed
  spelled : lines ≡ map numbered_part parts ++ (end, end_line) ∷ flat_map numbered_item placed

-- both, from any state on
abbrev Told : Lines → Type 0
Told lines =
    ((done : List Item) (seen : GivenNames) (items : List Item) → items_from lines (between_items done seen) ≡ Ok items → Between lines done items)
    × ((done : List Item) (seen : GivenNames) (o : Item) (labels : List (List ℕ)) (items : List Item) → items_from lines (in_item done seen o labels) ≡ Ok items
    → Inside lines done o items)

-- a head, and then what follows it
head_told : (line : ℕ) (ps : List Piece) (lines : Lines) → AreSpelled ps → Told lines → (done : List Item) (seen : GivenNames) (items : List Item)
    → go_on line (and_then (head_line ps) (begun (between_items done seen) line)) (λ next. items_from lines next) ≡ Ok items → Between ((line, ps) ∷ lines) done items
head_told line ps lines s told done seen items h = go (head_line ps) refl h
  where
    placed_so : (head : Head) → ps ≡ head_pieces head → (b : Bool) → has_parts head ≡ b
        → items_from lines (cond b (in_item done (noted seen head) (item_at line head []) []) (between_items (done ++ item_at line head [] ∷ []) (noted seen head))) ≡ Ok items
        → Between ((line, ps) ∷ lines) done items
    placed_so head e true k l =
        let t = told.1 done (noted seen head) (item_at line head []) [] items l in
        record {
          placed = (item_at line head t.parts, t.end) ∷ t.placed;
          same = t.same;
          spelled = rw (e, k, t.spelled, append_assoc) refl;
        }
    placed_so head e false k l =
        let t = told.0 (done ++ item_at line head [] ∷ []) (noted seen head) items l in
        record {
          placed = (item_at line head [], 0) ∷ t.placed;
          same = t.same ∙ rw append_assoc refl;
          spelled = rw (e, k, t.spelled) refl;
        }

    new_so : (head : Head) → ps ≡ head_pieces head → (b : Bool)
        → go_on line (cond (not b) (Err Repeated) (Ok (placed_head (between_items done seen) line head))) (λ next. items_from lines next) ≡ Ok items
        → Between ((line, ps) ∷ lines) done items
    new_so head e true l = placed_so head e (has_parts head) refl l
    new_so head e false l = cc

    go : (r : Found Head) → head_line ps ≡ r → go_on line (and_then r (begun (between_items done seen) line)) (λ next. items_from lines next) ≡ Ok items
        → Between ((line, ps) ∷ lines) done items
    go (Ok (head, rest)) e l = new_so head (head_exact.exact ps head rest s e) (is_new seen head) l
    go (Err cause) e l = cc

-- a line inside an item, and then what follows it
part_told : (line : ℕ) (ps : List Piece) (lines : Lines) → AreSpelled ps → Told lines
    → (done : List Item) (seen : GivenNames) (o : Item) (labels : List (List ℕ)) (items : List Item)
    → go_on line (and_then (part_line o.head ps) (joined (in_item done seen o labels) (record { item = o; labels = labels }) line)) (λ next. items_from lines next) ≡ Ok items
    → Inside ((line, ps) ∷ lines) done o items
part_told line ps lines s told done seen o labels items h = go (part_line o.head ps) refl h
  where
    new_so : (body : Body) → ps ≡ body_pieces body → (b : Bool)
        → go_on line (cond (not b) (Err Repeated) (Ok (in_item done seen (with_part o line body) (noted_label labels body)))) (λ next. items_from lines next) ≡ Ok items
        → Inside ((line, ps) ∷ lines) done o items
    new_so body e true l =
        let t = told.1 done seen (with_part o line body) (noted_label labels body) items l in
        record {
          parts = part_at line body ∷ t.parts;
          end = t.end;
          placed = t.placed;
          same = t.same ∙ rw append_assoc refl;
          spelled = rw (e, t.spelled) refl;
        }
    new_so body e false l = cc

    go : (r : Found (Option Body)) → part_line o.head ps ≡ r
        → go_on line (and_then r (joined (in_item done seen o labels) (record { item = o; labels = labels }) line)) (λ next. items_from lines next) ≡ Ok items
        → Inside ((line, ps) ∷ lines) done o items
    go (Ok (None, rest)) e l =
        let t = told.0 (done ++ o ∷ []) seen items l in
        record {
          parts = [];
          end = line;
          placed = t.placed;
          same = t.same ∙ rw (append_assoc, append-nil) refl;
          spelled = let here = (part_exact o.head).exact ps None rest s e in rw (here, t.spelled) refl;
        }
    go (Ok (Some body, rest)) e l = new_so body ((part_exact o.head).exact ps (Some body) rest s e) (is_new_label labels body) l
    go (Err cause) e l = cc

told : (lines : Lines) → AreSpelledLines lines → Told lines
told [] s =
    (λ done seen items h. record { placed = []; same = let same : done ≡ items = cc in sym same ∙ sym (rw append-nil refl); spelled = refl }, λ done seen o labels items h. cc)
told (l ∷ lines) s =
    let parts = and_parts (list_all is_piece l.1) (list_all (λ (l : ℕ × List Piece). list_all is_piece l.1) lines) s in
    let more = told lines parts.1 in
    (λ done seen items h. head_told l.0 l.1 lines parts.0 more done seen items h, λ done seen o labels items h. part_told l.0 l.1 lines parts.0 more done seen o labels items h)

front_same : (n : ℕ) (ps qs : List Piece) (ls ms : Lines) → ps ≡ qs → ls ≡ ms → (n, ps) ∷ ls ≡ (n, qs) ∷ ms
front_same n ps qs ls ms e h = rw (e, h) refl

script_spelled : (lines : Lines) (items : List Item) → AreSpelledLines lines → script lines ≡ Ok items → AreLinesOf lines items
script_spelled [] items s h = cc
script_spelled (l ∷ lines) items s h = go (header l.1) refl h
  where
    parts : (list_all is_piece l.1 ≡ true) × AreSpelledLines lines
    parts = and_parts (list_all is_piece l.1) (list_all (λ (l : ℕ × List Piece). list_all is_piece l.1) lines) s

    go : (r : Found (Unit {0})) → header l.1 ≡ r → after_header l.0 r (items_from lines (between_items [] nothing_seen)) ≡ Ok items → AreLinesOf (l ∷ lines) items
    go (Ok (u, rest)) e k =
        let t = (told lines parts.1).0 [] nothing_seen items k in
        let here = header_exact.exact l.1 u rest parts.0 e in
        record { first = l.0; placed = t.placed; same = sym t.same; spelled = front_same l.0 l.1 header_line lines _ here t.spelled }
    go (Err cause) e k = cc

-- both ways
pub script_exactly : (lines : Lines) (items : List Item) → AreSpelledLines lines → (script lines ≡ Ok items → IsSyntax items)
    → (script lines ≡ Ok items → IsSyntax items × AreLinesOf lines items) × (IsSyntax items × AreLinesOf lines items → script lines ≡ Ok items)
script_exactly lines items s good = (λ h. (good h, script_spelled lines items s h), λ h. script_read lines items h.0 h.1)
