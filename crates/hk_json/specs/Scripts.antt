-- The script that a value says, whatever the value: of a world's value it is the canonical script of this world. Of other values it is
-- some text, which the reader need not refuse: whether the value is a world's is seen by the value of the world that the text declares.
-- docs/FORMATS.md, "Worlds as JSON".
use Rattle.std.specs.Prelude.{ℕ, ◌+◌, ◌==◌, Bool, false, List, [], ◌∷◌, ◌++◌, Option, Some, None, is_some, unwrap_or, option_map, option_and_then, map, codes, nat_lt, if◌then◌else◌}
use Rattle.std.specs.List.{list_any, flat_map}
use Rattle.serde_json.specs.Data.{Data, Items, no_items, item}
use Rattle.serde_json.specs.Find.{get, as_str, as_array, as_number, as_u64}
use Rattle.hk_model.specs.Limits.{word_bound}
use Rattle.hk_format.specs.declared.syntax.Body.{Body}
use Rattle.hk_format.specs.declared.syntax.Body.TheVariants.{EmptyEntry, CapEntry, AmplifyEntry, CreateEntry, ParamIs, LabelIs}
use Rattle.hk_format.specs.declared.syntax.Head.TheVariants.{TypeIs, ObjectIs, SemaphoreIs, ProcedureIs, CodeIs, ProcessIs}
use Rattle.hk_format.specs.declared.syntax.Part.{Part}
use Rattle.hk_format.specs.declared.syntax.Item.{Item}
use Rattle.hk_format.specs.Spelling.{head_pieces}
use Rattle.hk_format.specs.Canonical as canonical
use Rattle.hk_format.specs.Canonical.{part, word_parts, label_text, limit_items}
use Rattle.hk_print.specs.ItemTexts.{pieces_line, body_text, item_text}
use Rattle.hk_text.specs.Numerals.{numeral_of}

-- what stands at a key

-- there is such a key
abbrev pub has : List ℕ → Data → Bool
has key d = is_some (get key d)

-- the text that a value is, or nothing
abbrev pub text_said : Data → List ℕ
text_said d = unwrap_or (as_str d) []

-- the text, or nothing
abbrev pub text_at : List ℕ → Data → List ℕ
text_at key d = unwrap_or (option_map text_said (get key d)) []

-- the number that a value is, or 0
abbrev pub number_said : Data → ℕ
number_said d = unwrap_or (option_and_then as_u64 (as_number d)) 0

-- the number, or 0
abbrev pub number_at : List ℕ → Data → ℕ
number_at key d = unwrap_or (option_map number_said (get key d)) 0

-- the values in a list
abbrev pub values_in : Items → List Data
values_in no_items = []
values_in (item d more) = d ∷ values_in more

-- the list that a value is, or none
abbrev pub list_said : Data → List Data
list_said d = values_in (unwrap_or (as_array d) no_items)

-- the list, or none
abbrev pub list_at : List ℕ → Data → List Data
list_at key d = unwrap_or (option_map list_said (get key d)) []

-- lines inside items

-- an entry: its first key tells which
abbrev pub entry_said : Data → Body
entry_said d =
    if has (codes "cap") d then CapEntry (text_at (codes "cap") d) (text_at (codes "rights") d)
    else if has (codes "amplify") d then AmplifyEntry (text_at (codes "amplify") d) (text_at (codes "check") d) (text_at (codes "give") d)
    else if has (codes "create") d then CreateEntry (text_at (codes "create") d) (text_at (codes "give") d)
    else EmptyEntry

-- a parameter
abbrev pub param_said : Data → Body
param_said d = ParamIs (text_at (codes "of") d) (text_at (codes "check") d) (text_at (codes "give") d)

-- the lines of the list at a key
abbrev pub parts_said : (Data → Body) → List ℕ → Data → List Part
parts_said said key d = map (λ (x : Data). part (said x)) (list_at key d)

-- a word, or 0 where the value is none
abbrev pub word_said : Data → ℕ
word_said d = if nat_lt (number_said d) word_bound then number_said d else 0

-- items

-- an object: the key that only its kind has tells which
abbrev pub object_said : Data → Item
object_said d =
    if has (codes "words") d then canonical.item (ObjectIs (text_at (codes "name") d) (text_at (codes "type") d))
    (word_parts (map word_said (list_at (codes "words") d)) ++ parts_said entry_said (codes "entries") d)
    else if has (codes "params") d then canonical.item (ProcedureIs (text_at (codes "name") d) (text_at (codes "code") d))
    (parts_said param_said (codes "params") d ++ parts_said entry_said (codes "entries") d)
    else if has (codes "count") d then canonical.item (SemaphoreIs (text_at (codes "name") d) (number_at (codes "count") d)) []
    else canonical.item (TypeIs (text_at (codes "name") d)) []

-- a process
abbrev pub process_said : Data → Item
process_said d = canonical.item (ProcessIs (text_at (codes "name") d) (text_at (codes "code") d)) (parts_said entry_said (codes "entries") d)

-- codes, whose instructions are texts already

-- what stands behind the last space of a text; the first is what stands behind the last space before
abbrev pub behind_last_space : List ℕ → List ℕ → List ℕ
behind_last_space behind [] = behind
behind_last_space behind (b ∷ bs) = if b == 32 then behind_last_space bs bs else behind_last_space behind bs

-- the number of a place's label, if the text is one
abbrev pub place_labelled : List ℕ → Option ℕ
place_labelled [] = None
place_labelled (b ∷ bs) = if b == 108 then numeral_of bs else None

-- the place that an instruction's text goes to: a jump ends with a label, and no other text does
abbrev pub place_named : List ℕ → Option ℕ
place_named text = place_labelled (behind_last_space text text)

-- the place is this one
abbrev pub is_place : ℕ → Option ℕ → Bool
is_place n None = false
is_place n (Some to) = to == n

-- the instruction goes to this place
abbrev pub goes_to : ℕ → Data → Bool
goes_to n d = is_place n (place_named (text_said d))

-- the label line of a place, where some instruction goes there
abbrev pub label_said : List Data → ℕ → List ℕ
label_said all n = if list_any (goes_to n) all then body_text (LabelIs (label_text n)) else []

-- the lines of the instructions from number n on, with the labels before them and at the end
abbrev pub steps_said : List Data → ℕ → List Data → List ℕ
steps_said all n [] = label_said all n
steps_said all n (d ∷ more) = label_said all n ++ (text_said d ++ 10 ∷ steps_said all (n + 1) more)

-- a code
abbrev pub code_said : Data → List ℕ
code_said d =
    pieces_line (head_pieces (CodeIs (text_at (codes "name") d)))
    ++ (steps_said (list_at (codes "steps") d) 0 (list_at (codes "steps") d) ++ codes "end\n")

-- the whole
abbrev pub script_said : Data → List ℕ
script_said d =
    (((codes "hydra 1\n" ++ flat_map item_text (limit_items (number_at (codes "limit") d)))
    ++ flat_map (λ (x : Data). item_text (object_said x)) (list_at (codes "objects") d))
    ++ flat_map code_said (list_at (codes "codes") d))
    ++ flat_map (λ (x : Data). item_text (process_said x)) (list_at (codes "processes") d)
