-- The names that the heads of a script give, line by line.
use Rattle.std.proofs.Common.{◌≡◌, ℕ, Bool, true, false, cond, List, [], ◌∷◌, ◌++◌, map, refl, sym, ap, subst, ◌∙◌, not, Ok, Err, Some, None, Result, Option, append-nil}
use Rattle.std.specs.Prelude.{IfOk, OnOk}
use Rattle.std.specs.List.{filter_map}
use Rattle.std.proofs.lemmas.List.{map-append}
use Rattle.std.proofs.lemmas.List.Elements.{filter_map-append}
use Rattle.hk_format.specs.declared.causes.ParseCause.{ParseCause}
use Rattle.hk_format.specs.declared.causes.ParseCause.TheVariants.{Repeated}
use Rattle.hk_format.specs.declared.errors.LineError.{LineError}
use Rattle.hk_format.specs.declared.syntax.Head.{Head}
use Rattle.hk_format.specs.declared.syntax.Head.TheVariants.{LimitIs, TypeIs, ObjectIs, SemaphoreIs, ProcedureIs, CodeIs, ProcessIs}
use Rattle.hk_format.specs.declared.syntax.Body.{Body}
use Rattle.hk_format.specs.declared.syntax.Item.{Item}
use Rattle.hk_format.specs.Outcomes.{Becomes}
use Rattle.hk_format.specs.Pieces.{Piece}
use Rattle.hk_format.specs.Reading.{Found}
use Rattle.hk_format.specs.Spelling.{has_parts}
use Rattle.hk_format.specs.Grammar.{GivenNames, nothing_seen, is_new, noted, is_new_label, noted_label, Open, Read, item_at, between_items, in_item, placed_head, begun, with_part}
use Rattle.hk_format.specs.Grammar.{joined, and_then, next_line, after_line, head_line, part_line}
use Rattle.hk_script.specs.declared.progress.Refusal.{Refusal}
use Rattle.hk_script.specs.Given.{name_given, names_given, items_begun, HasNames}
use Rattle.hk_script.specs.Progresses.{HasNamesUnless}

-- the names of more items stand behind those of the first
given_behind : (items more : List Item) → names_given (items ++ more) ≡ names_given items ++ names_given more
given_behind items more =
    ap (λ (heads : List Head). filter_map name_given heads) (map-append (λ (i : Item). i.head) items more)
    ∙ filter_map-append name_given (map (λ (i : Item). i.head) items) (map (λ (i : Item). i.head) more)

-- a head that gives a name
name_behind : (ns : List (List ℕ)) (items : List Item) (i : Item) (name : List ℕ) → ns ≡ names_given items → names_given (i ∷ []) ≡ name ∷ []
    → ns ++ name ∷ [] ≡ names_given (items ++ i ∷ [])
name_behind ns items i name h e = ap (λ (ms : List (List ℕ)). ms ++ name ∷ []) h ∙ ap (λ (ms : List (List ℕ)). names_given items ++ ms) (sym e) ∙ sym (given_behind items (i ∷ []))

-- the next head is noted
noted_names : (seen : GivenNames) (items : List Item) (line : ℕ) (head : Head) → seen.names ≡ names_given items
    → (noted seen head).names ≡ names_given (items ++ item_at line head [] ∷ [])
noted_names seen items line (LimitIs n) h = h ∙ sym (append-nil (names_given items)) ∙ sym (given_behind items (item_at line (LimitIs n) [] ∷ []))
noted_names seen items line (TypeIs name) h = name_behind seen.names items (item_at line (TypeIs name) []) name h refl
noted_names seen items line (ObjectIs name of) h = name_behind seen.names items (item_at line (ObjectIs name of) []) name h refl
noted_names seen items line (SemaphoreIs name count) h = name_behind seen.names items (item_at line (SemaphoreIs name count) []) name h refl
noted_names seen items line (ProcedureIs name code) h = name_behind seen.names items (item_at line (ProcedureIs name code) []) name h refl
noted_names seen items line (CodeIs name) h = name_behind seen.names items (item_at line (CodeIs name) []) name h refl
noted_names seen items line (ProcessIs name code) h = name_behind seen.names items (item_at line (ProcessIs name code) []) name h refl

-- a head begins an item
head_names : (r : Read) (line : ℕ) (head : Head) → r.seen.names ≡ names_given r.items → IfOk (begun r line head) HasNames
head_names r line head h = new (is_new r.seen head)
  where
    placed : (b : Bool)
        → HasNames (cond b (in_item r.items (noted r.seen head) (item_at line head []) []) (between_items (r.items ++ item_at line head [] ∷ []) (noted r.seen head)))
    placed true = noted_names r.seen r.items line head h
    placed false = noted_names r.seen r.items line head h

    new : (b : Bool) → IfOk (cond (not b) (Err Repeated) (Ok (placed_head r line head))) HasNames
    new true = placed (has_parts head)
    new false = tt

-- a line of the open item gives no name
part_names : (r : Read) (o : Open) (line : ℕ) (found : Option Body) → r.seen.names ≡ names_given (r.items ++ o.item ∷ []) → IfOk (joined r o line found) HasNames
part_names r o line None h = h
part_names r o line (Some body) h = new (is_new_label o.labels body)
  where
    new : (b : Bool) → IfOk (cond (not b) (Err Repeated) (Ok (in_item r.items r.seen (with_part o.item line body) (noted_label o.labels body)))) HasNames
    new true = h ∙ given_behind r.items (o.item ∷ []) ∙ sym (given_behind r.items (with_part o.item line body ∷ []))
    new false = tt

then_names : {A : Type 0} (found : Found A) (next : A → Result Read ParseCause) → ((x : A) → IfOk (next x) HasNames) → IfOk (and_then found next) HasNames
then_names (Ok x) next h = h x.0
then_names (Err cause) next h = tt

next_names : (r : Read) (unclosed : Option Open) (line : ℕ) (ps : List Piece) → r.seen.names ≡ names_given (items_begun r.items unclosed) → IfOk (next_line r unclosed line ps) HasNames
next_names r None line ps h = then_names (head_line ps) (begun r line) (λ head. head_names r line head h)
next_names r (Some o) line ps h = then_names (part_line o.item.head ps) (joined r o line) (λ found. part_names r o line found h)

unless_names : (refused : Option Refusal) (old new : Read) → (HasNames old → HasNames new) → HasNamesUnless refused old → HasNamesUnless refused new
unless_names (Some refusal) old new h k = tt
unless_names None old new h k = h k

-- the names after a line that was read
pub line_names : (result : Result (Unit {0}) (LineError ParseCause)) (refused : Option Refusal) (old new : Read) (n : ℕ) (ps : List Piece) → Becomes result new (after_line old n ps)
    → OnOk result (HasNamesUnless refused old → HasNamesUnless refused new)
line_names (Ok x) refused old new n ps h = unless_names refused old new (λ k. subst (λ (o : Result Read ParseCause). IfOk o HasNames) h (next_names old old.unclosed n ps k))
line_names (Err e) refused old new n ps h = tt

-- before the first line there is no name
pub no_names : (r : Read) → r ≡ between_items [] nothing_seen → HasNames r
no_names r h = subst HasNames (sym h) refl
