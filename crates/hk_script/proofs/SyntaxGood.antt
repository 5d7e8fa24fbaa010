-- The items of lines whose pieces some text spells are a syntax.
use Rattle.std.proofs.Common.{◌≡◌, ℕ, Bool, true, false, cond, List, [], ◌∷◌, ◌++◌, ◌∙◌, refl, sym, subst, not, map, drop, length, ◌≤◌, Ok, Err, Some, None, Result, Option}
use Rattle.std.specs.Prelude.{IfOk}
use Rattle.std.specs.List.{list_all}
use Rattle.std.proofs.lemmas.Bool.{and_parts}
use Rattle.std.proofs.lemmas.List.{drop_all}
use Rattle.hk_format.specs.declared.causes.ParseCause.{ParseCause}
use Rattle.hk_format.specs.declared.causes.ParseCause.TheVariants.{Repeated}
use Rattle.hk_format.specs.declared.syntax.Head.{Head}
use Rattle.hk_format.specs.declared.syntax.Body.{Body}
use Rattle.hk_format.specs.declared.syntax.Part.{Part}
use Rattle.hk_format.specs.declared.syntax.Item.{Item}
use Rattle.hk_format.specs.Pieces.{Piece, is_piece}
use Rattle.hk_format.specs.Texts.{Lines, text}
use Rattle.hk_format.specs.Reading.{Found}
use Rattle.hk_format.specs.Grammar.{GivenNames, nothing_seen, is_new, noted, is_new_label, noted_label, Open, Read, item_at, part_at, between_items, placed_head, begun, with_part}
use Rattle.hk_format.specs.Grammar.{joined, and_then, next_line, after_line, Refused, closed, go_on, items_from, header, after_header, script, head_line, part_line}
use Rattle.hk_format.specs.Spelling.{has_parts}
use Rattle.hk_format.specs.Syntax.{IsHead, Belongs, AreParts, AreItems, IsSyntax}
use Rattle.hk_text.specs.declared.text.TextLine.{TextLine}
use Rattle.hk_text.specs.Views.{line_seen}
use Rattle.hk_text.proofs.PiecesGood.{is_good, text_good}
use Rattle.hk_script.proofs.ReadersGood.{Good, Has, IfSome}
use Rattle.hk_script.proofs.PartsGood.{head_good, part_good}

-- the labels that these parts give, behind others
abbrev all_labels : List (List ℕ) → List Part → List (List ℕ)
all_labels labels [] = labels
all_labels labels (p ∷ ps) = all_labels (noted_label labels p.body) ps

-- what these items give, behind others
abbrev all_noted : GivenNames → List Item → GivenNames
all_noted seen [] = seen
all_noted seen (i ∷ is) = all_noted (noted seen i.head) is

-- one part more

part_added : (head : Head) (labels : List (List ℕ)) (ps : List Part) (line : ℕ) (body : Body) → AreParts head labels ps → Belongs head body
    → is_new_label (all_labels labels ps) body ≡ true → AreParts head labels (ps ++ part_at line body ∷ [])
part_added head labels [] line body h k m = (k, m, tt)
part_added head labels (p ∷ ps) line body h k m = (h.0, h.1, part_added head (noted_label labels p.body) ps line body h.2 k m)

labels_added : (labels : List (List ℕ)) (ps : List Part) (line : ℕ) (body : Body) → all_labels labels (ps ++ part_at line body ∷ []) ≡ noted_label (all_labels labels ps) body
labels_added labels [] line body = refl
labels_added labels (p ∷ ps) line body = labels_added (noted_label labels p.body) ps line body

-- one item more

item_added : (seen : GivenNames) (is : List Item) (line : ℕ) (head : Head) → AreItems seen is → IsHead head → is_new (all_noted seen is) head ≡ true
    → AreItems seen (is ++ item_at line head [] ∷ [])
item_added seen [] line head h k m = (k, m, tt, tt)
item_added seen (i ∷ is) line head h k m = (h.0, h.1, h.2, item_added (noted seen i.head) is line head h.3 k m)

noted_added : (seen : GivenNames) (is : List Item) (i : Item) → all_noted seen (is ++ i ∷ []) ≡ noted (all_noted seen is) i.head
noted_added seen [] i = refl
noted_added seen (j ∷ is) i = noted_added (noted seen j.head) is i

-- the last item has one part more
item_longer : (seen : GivenNames) (is : List Item) (o : Item) (line : ℕ) (body : Body) → AreItems seen (is ++ o ∷ []) → Belongs o.head body
    → is_new_label (all_labels [] o.parts) body ≡ true → AreItems seen (is ++ with_part o line body ∷ [])
item_longer seen [] o line body h k m = (h.0, h.1, part_added o.head [] o.parts line body h.2 k m, tt)
item_longer seen (i ∷ is) o line body h k m = (h.0, h.1, h.2, item_longer (noted seen i.head) is o line body h.3 k m)

-- what was read up to some line: the open item counts as far as it is read
abbrev Reached : List Item → GivenNames → Option Open → Type 0
Reached items seen None = IsSyntax items × (seen ≡ all_noted nothing_seen items)
Reached items seen (Some o) = IsSyntax (items ++ o.item ∷ []) × (seen ≡ all_noted nothing_seen (items ++ o.item ∷ [])) × (o.labels ≡ all_labels [] o.item.parts)

abbrev ReadGood : Read → Type 0
ReadGood r = Reached r.items r.seen r.unclosed

-- a head begins an item
head_placed : (items : List Item) (seen : GivenNames) (unclosed : Option Open) (line : ℕ) (head : Head) → Reached items seen None → IsHead head → is_new seen head ≡ true
    → ReadGood (placed_head (record { items = items; seen = seen; unclosed = unclosed }) line head)
head_placed items seen unclosed line head h k m = go (has_parts head)
  where
    added : IsSyntax (items ++ item_at line head [] ∷ [])
    added = item_added nothing_seen items line head h.0 k (rw h.1 at m)

    noted_so : noted seen head ≡ all_noted nothing_seen (items ++ item_at line head [] ∷ [])
    noted_so = rw (noted_added nothing_seen items (item_at line head []), ← h.1)

    go : (b : Bool)
        → ReadGood (cond b (record { items = items; seen = noted seen head; unclosed = Some (record { item = item_at line head []; labels = [] }) })
        (between_items (items ++ item_at line head [] ∷ []) (noted seen head)))
    go true = (added, noted_so, refl)
    go false = (added, noted_so)

head_begun : (r : Read) (line : ℕ) (head : Head) → Reached r.items r.seen None → IsHead head → IfOk (begun r line head) ReadGood
head_begun r line head h k = go (is_new r.seen head) refl
  where
    go : (b : Bool) → is_new r.seen head ≡ b → IfOk (cond (not b) (Err Repeated) (Ok (placed_head r line head))) ReadGood
    go true e = head_placed r.items r.seen r.unclosed line head h k e
    go false e = tt

-- a part is joined to the open item
part_joined : (r : Read) (o : Open) (line : ℕ) (found : Option Body) → Reached r.items r.seen (Some o) → IfSome (Belongs o.item.head) found → IfOk (joined r o line found) ReadGood
part_joined r o line None h k = (h.0, h.1)
part_joined r o line (Some body) h k = go (is_new_label o.labels body) refl
  where
    go : (b : Bool) → is_new_label o.labels body ≡ b
        → IfOk (cond (not b) (Err Repeated) (Ok (record {
          items = r.items;
          seen = r.seen;
          unclosed =
              Some (record { item = with_part o.item line body; labels = noted_label o.labels body });
        }))) ReadGood
    go true e = (
      item_longer nothing_seen r.items o.item line body h.0 k (rw h.2 at e),
      h.1 ∙ (noted_added nothing_seen r.items o.item
          ∙ sym (noted_added nothing_seen r.items (with_part o.item line body))),
      rw (labels_added [] o.item.parts line body, ← h.2),
    )
    go false e = tt

-- what was found on a line is put to what was read
then_good : {A : Type 0} (P : A → Type 0) (found : Found A) (next : A → Result Read ParseCause) → Has P found → ((x : A) → P x → IfOk (next x) ReadGood)
    → IfOk (and_then found next) ReadGood
then_good P (Ok x) next h k = k x.0 h.0
then_good P (Err cause) next h k = tt

line_good : (r : Read) (unclosed : Option Open) (line : ℕ) (ps : List Piece) → Reached r.items r.seen unclosed → list_all is_piece ps ≡ true
    → IfOk (next_line r unclosed line ps) ReadGood
unfolding Good
line_good r None line ps h k = then_good IsHead (head_line ps) (begun r line) (head_good ps k) (λ head a. head_begun r line head h a)
line_good r (Some o) line ps h k =
    then_good (IfSome (Belongs o.item.head)) (part_line o.item.head ps) (joined r o line) (part_good o.item.head ps k) (λ found a. part_joined r o line found h a)

closed_good : (items : List Item) (seen : GivenNames) (unclosed : Option Open) → Reached items seen unclosed → IfOk (closed items unclosed) IsSyntax
closed_good items seen None h = h.0
closed_good items seen (Some o) h = tt

lines_good : (ls : Lines) (r : Read) → list_all is_good ls ≡ true → ReadGood r → IfOk (items_from ls r) IsSyntax
lines_good [] r h k = closed_good r.items r.seen r.unclosed k
lines_good (l ∷ ls) r h k =
    let parts = and_parts (is_good l) (list_all is_good ls) h in
    go (after_line r l.0 l.1) (line_good r r.unclosed l.0 l.1 k parts.0) (λ next. lines_good ls next parts.1)
  where
    go : (o : Result Read ParseCause) → IfOk o ReadGood → ((next : Read) → ReadGood next → IfOk (items_from ls next) IsSyntax)
        → IfOk (go_on l.0 o (λ next. items_from ls next)) IsSyntax
    go (Ok next) a b = b next a
    go (Err cause) a b = tt

header_good : (line : ℕ) (found : Found (Unit {0})) (rest : Result (List Item) Refused) → IfOk rest IsSyntax → IfOk (after_header line found rest) IsSyntax
header_good line (Ok x) rest h = h
header_good line (Err cause) rest h = tt

script_lines_good : (ls : Lines) → list_all is_good ls ≡ true → IfOk (script ls) IsSyntax
script_lines_good [] h = tt
script_lines_good (l ∷ ls) h =
    header_good l.0 (header l.1) (items_from ls (between_items [] nothing_seen)) (lines_good ls (between_items [] nothing_seen) (and_parts (is_good l) (list_all is_good ls) h).1
    (tt, refl))

-- the items of a text are a syntax
pub script_good : (source : List ℕ) (ls : Lines) (items : List Item) → text source ≡ Ok ls → script ls ≡ Ok items → IsSyntax items
script_good source ls items h k = subst (λ o. IfOk o IsSyntax) k (script_lines_good ls (text_good source ls h))

-- the same where all lines were read one after another
pub read_good : (source : List ℕ) (lines others : List TextLine) (at : ℕ) (r : Read) (items : List Item) → text source ≡ Ok (map (line_seen source) lines)
    → items_from (map (line_seen source) (drop at others)) r ≡ script (map (line_seen source) lines) → length others ≤ at → closed r.items r.unclosed ≡ Ok items → IsSyntax items
read_good source lines others at r items h k past last =
    let whole : closed r.items r.unclosed ≡ script (map (line_seen source) lines) = rw (drop_all at others past) at k in
    script_good source (map (line_seen source) lines) items h (sym whole ∙ last)
