-- The lines that the values say, as they are written.
use Rattle.std.proofs.Common.{◌≡◌, ℕ, ◌+◌, ◌<◌, Bool, true, false, cond, List, [], ◌∷◌, ◌++◌, length, drop, map, get_or, refl, ap, ◌∙◌}
use Rattle.std.specs.Prelude.{codes}
use Rattle.std.specs.List.{flat_map, list_any}
use Rattle.std.proofs.lemmas.List.{drop_more}
use mathlib.Core.List.{append_assoc}
use Rattle.serde_json.specs.Data.{Data}
use Rattle.serde_json.specs.View.{view}
use Rattle.serde_json.specs.declared.value.Value.{Value}
use Rattle.hk_format.specs.declared.syntax.Body.{Body}
use Rattle.hk_format.specs.declared.syntax.Body.TheVariants.{LabelIs}
use Rattle.hk_format.specs.declared.syntax.Head.TheVariants.{TypeIs, ObjectIs, SemaphoreIs, ProcedureIs}
use Rattle.hk_format.specs.declared.syntax.Item.{Item}
use Rattle.hk_format.specs.Canonical.{item, part, word_parts, label_text}
use Rattle.hk_print.specs.ItemTexts.{body_text, parts_text}
use Rattle.hk_json.specs.Scripts.{has, text_at, number_at, list_at, parts_said, entry_said, param_said, word_said, object_said, label_said, steps_said, goes_to, text_said}

-- the lines of a list, as the parts of an item
pub parts_written : (said : Data → Body) (ds : List Data) → parts_text (map (λ (d : Data). part (said d)) ds) ≡ flat_map (λ (d : Data). body_text (said d)) ds
parts_written said [] = refl
parts_written said (d ∷ ds) = ap (λ (t : List ℕ). body_text (said d) ++ t) (parts_written said ds)

-- the item of an object, by the key that only its kind has

-- an object with words
abbrev pub plain_item : Data → Item
plain_item d =
    item (ObjectIs (text_at (codes "name") d) (text_at (codes "type") d)) (word_parts (map word_said (list_at (codes "words") d)) ++ parts_said entry_said (codes "entries") d)

-- a procedure
abbrev pub procedure_item : Data → Item
procedure_item d =
    item (ProcedureIs (text_at (codes "name") d) (text_at (codes "code") d)) (parts_said param_said (codes "params") d ++ parts_said entry_said (codes "entries") d)

-- what has neither words nor parameters
abbrev pub single_item : Data → Item
single_item d =
    cond (has (codes "count") d) (item (SemaphoreIs (text_at (codes "name") d) (number_at (codes "count") d)) []) (item (TypeIs (text_at (codes "name") d)) [])

pub plain_said : (d : Data) → has (codes "words") d ≡ true → object_said d ≡ plain_item d
plain_said d words = ap (λ (b : Bool). cond b (plain_item d) (cond (has (codes "params") d) (procedure_item d) (single_item d))) words

pub procedure_said : (d : Data) → has (codes "words") d ≡ false → has (codes "params") d ≡ true → object_said d ≡ procedure_item d
procedure_said d words params =
    ap (λ (b : Bool). cond b (plain_item d) (cond (has (codes "params") d) (procedure_item d) (single_item d))) words
    ∙ ap (λ (b : Bool). cond b (procedure_item d) (single_item d)) params

-- instructions

-- a marked place has its label's line
pub label_written : (all : List Data) (n : ℕ) (mark : Bool) (old new : List ℕ) → mark ≡ list_any (goes_to n) all
    → new ≡ old ++ cond mark (body_text (LabelIs (label_text n))) [] → new ≡ old ++ label_said all n
label_written all n mark old new e written = written ∙ ap (λ (b : Bool). old ++ cond b (body_text (LabelIs (label_text n))) []) e

-- the label and the text of an instruction are what the lines from it on begin with
pub step_written : (all : List Data) (values : List Value) (i : ℕ) (d : Value) (whole out labelled text new : List ℕ) → i < length values
    → out ++ steps_said all i (map view (drop i values)) ≡ whole → labelled ≡ out ++ label_said all i → text ≡ text_said (view (get_or values i d))
    → new ≡ labelled ++ (text ++ 10 ∷ []) → new ++ steps_said all (i + 1) (map view (drop (i + 1) values)) ≡ whole
step_written all values i d whole out labelled text new inside before l e n =
    let rest = steps_said all (i + 1) (map view (drop (i + 1) values)) in
    let now : out ++ (label_said all i ++ (text ++ 10 ∷ rest)) ≡ whole = rw e (rw (drop_more values i d inside) at before) in
    rw (n, l) (append_assoc (out ++ label_said all i) (text ++ 10 ∷ []) rest ∙ append_assoc out (label_said all i) ((text ++ 10 ∷ []) ++ rest)
    ∙ ap (λ (t : List ℕ). out ++ (label_said all i ++ t)) (append_assoc text (10 ∷ []) rest) ∙ now)

drop_all : (values : List Value) → drop (length values) values ≡ []
drop_all [] = refl
drop_all (v ∷ vs) = drop_all vs

-- behind the last instruction stands the label of the code's end
pub steps_over : (all : List Data) (values : List Value) (i : ℕ) (whole out new : List ℕ) → i ≡ length values → out ++ steps_said all i (map view (drop i values)) ≡ whole
    → new ≡ out ++ label_said all (length values) → new ≡ whole
steps_over all values i whole out new e before n =
    let last : drop i values ≡ [] = rw e (drop_all values) in
    n ∙ (let done = rw last at before in rw e at done)
