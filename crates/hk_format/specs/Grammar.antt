-- Lines of pieces as the items of a script, or the first line that is refused and its first cause.
-- docs/FORMATS.md, "Grammar".
use Rattle.std.specs.Prelude.{ℕ, Bool, true, false, not, List, [], ◌∷◌, ◌++◌, Option, Some, None, Result, Ok, Err, if◌then◌else◌}
use Rattle.std.specs.List.{list_any}
use Rattle.hk_format.specs.declared.syntax.Verb.{Verb}
use Rattle.hk_format.specs.declared.syntax.Verb.TheVariants as verb
use Rattle.hk_format.specs.declared.syntax.Written.{Written}
use Rattle.hk_format.specs.declared.syntax.Head.{Head}
use Rattle.hk_format.specs.declared.syntax.Head.TheVariants.{LimitIs, TypeIs, ObjectIs, SemaphoreIs, ProcedureIs, CodeIs, ProcessIs}
use Rattle.hk_format.specs.declared.syntax.Body.{Body}
use Rattle.hk_format.specs.declared.syntax.Body.TheVariants.{WordsAre, EmptyEntry, CapEntry, AmplifyEntry, CreateEntry, ParamIs, LabelIs, StepIs}
use Rattle.hk_format.specs.declared.syntax.Part.{Part}
use Rattle.hk_format.specs.declared.syntax.Item.{Item}
use Rattle.hk_format.specs.declared.causes.ParseCause.{ParseCause}
use Rattle.hk_format.specs.declared.causes.ParseCause.TheVariants.{Missing, Repeated, Unclosed}
use Rattle.hk_model.specs.Labels.{same_text}
use Rattle.hk_model.specs.Limits.{event_limit, token_limit}
use Rattle.hk_format.specs.Pieces.{Piece}
use Rattle.hk_format.specs.Texts.{Lines}
use Rattle.hk_format.specs.Reading.{Found, Reads, ◌>>=◌, onward, wanted, each, end, unknown}
use Rattle.hk_format.specs.Forms.{as_verb, as_word, as_name, as_type, as_rights, as_number, as_number_in}
use Rattle.hk_format.specs.WrittenLines.{instruction_of}
use Rattle.hk_format.specs.Spelling.{has_parts}

-- the lines, each by the word that it begins with

-- the line that begins with this word is the header
abbrev pub header_of : Verb → Reads (Unit {0})
header_of verb.Hydra = do
  version ← wanted (as_number_in 1 1)
  end tt
header_of _ = unknown

-- `hydra 1`
abbrev pub header : Reads (Unit {0})
header = do
  word ← wanted as_verb
  header_of word

-- the head of an item
abbrev pub head_of : Verb → Reads Head
head_of verb.Limit = do
  n ← wanted (as_number_in 1 event_limit)
  end (LimitIs n)
head_of verb.Type = do
  name ← wanted as_name
  end (TypeIs name)
head_of verb.Object = do
  name ← wanted as_name
  of ← wanted as_type
  end (ObjectIs name of)
head_of verb.Semaphore = do
  name ← wanted as_name
  count ← wanted (as_number_in 0 token_limit)
  end (SemaphoreIs name count)
head_of verb.Procedure = do
  name ← wanted as_name
  code ← wanted as_word
  end (ProcedureIs name code)
head_of verb.Code = do
  name ← wanted as_name
  end (CodeIs name)
head_of verb.Process = do
  name ← wanted as_name
  code ← wanted as_word
  end (ProcessIs name code)
head_of _ = unknown

-- an entry line
abbrev pub entry_of : Verb → Reads Body
entry_of verb.Empty = end EmptyEntry
entry_of verb.Cap = do
  object ← wanted as_type
  rights ← wanted as_rights
  end (CapEntry object rights)
entry_of verb.Amplify = do
  kind ← wanted as_type
  check ← wanted as_rights
  give ← wanted as_rights
  end (AmplifyEntry kind check give)
entry_of verb.Create = do
  of ← wanted as_type
  give ← wanted as_rights
  end (CreateEntry of give)
entry_of _ = unknown

-- a line of an object: words, one number at least, or an entry
abbrev pub object_part : Verb → Reads Body
object_part verb.Words = do
  first ← wanted as_number
  more ← each as_number
  end (WordsAre (first ∷ more))
object_part word = entry_of word

-- a line of a procedure: a parameter or an entry
abbrev pub procedure_part : Verb → Reads Body
procedure_part verb.Param = do
  kind ← wanted as_type
  check ← wanted as_rights
  give ← wanted as_rights
  end (ParamIs kind check give)
procedure_part word = entry_of word

-- an instruction as a line of a code
abbrev pub step_part : Reads Written → Reads Body
step_part step pieces = onward (step pieces) (λ written rest. Ok (StepIs written, rest))

-- a line of a code: a label or an instruction
abbrev pub code_part : Verb → Reads Body
code_part verb.Label = do
  label ← wanted as_word
  end (LabelIs label)
code_part word = step_part (instruction_of word)

-- a line of an item with this head
abbrev pub body_of : Head → Verb → Reads Body
body_of (ObjectIs name of) word = object_part word
body_of (ProcedureIs name code) word = procedure_part word
body_of (CodeIs name) word = code_part word
body_of (ProcessIs name code) word = entry_of word
body_of _ _ = unknown

-- a line that is not `end`
abbrev pub some_part : Reads Body → Reads (Option Body)
some_part body pieces = onward (body pieces) (λ found rest. Ok (Some found, rest))

-- the same, or the line `end`, which is None
abbrev pub part_of : Head → Verb → Reads (Option Body)
part_of head verb.End = end None
part_of head word = some_part (body_of head word)

-- a line between items
abbrev pub head_line : Reads Head
head_line = do
  word ← wanted as_verb
  head_of word

-- a line inside the item with this head
abbrev pub part_line : Head → Reads (Option Body)
part_line head = do
  word ← wanted as_verb
  part_of head word

-- the names that were given, which stand once

-- the name is one of these
abbrev pub is_among : List (List ℕ) → List ℕ → Bool
is_among names name = list_any (same_text name) names

-- objects, codes and processes share one space of names; there is one limit at most
pub record GivenNames : Type 0 where
  -- in the order of their lines
  pub names : List (List ℕ)
  pub limited : Bool

-- before the first item
abbrev pub nothing_seen : GivenNames
nothing_seen = record { names = []; limited = false }

-- the name that a head gives
abbrev pub head_name : Head → List ℕ
head_name (LimitIs n) = []
head_name (TypeIs name) = name
head_name (ObjectIs name of) = name
head_name (SemaphoreIs name count) = name
head_name (ProcedureIs name code) = name
head_name (CodeIs name) = name
head_name (ProcessIs name code) = name

-- the head is no second limit, and gives no name for the second time
abbrev pub is_new : GivenNames → Head → Bool
is_new seen (LimitIs n) = not seen.limited
is_new seen head = not (is_among seen.names (head_name head))

-- what was seen, and this head
abbrev pub noted : GivenNames → Head → GivenNames
noted seen (LimitIs n) = record seen { limited = true }
noted seen head = record seen { names = seen.names ++ head_name head ∷ [] }

-- the line gives no label of its code for the second time
abbrev pub is_new_label : List (List ℕ) → Body → Bool
is_new_label labels (LabelIs label) = not (is_among labels label)
is_new_label labels _ = true

-- the labels of a code, and the one that this line may give
abbrev pub noted_label : List (List ℕ) → Body → List (List ℕ)
noted_label labels (LabelIs label) = labels ++ label ∷ []
noted_label labels _ = labels

-- all lines, one after another

-- an item whose end is to come, and the labels that it has given
pub record Open : Type 0 where
  pub item : Item
  pub labels : List (List ℕ)

-- what the lines before have given
pub record Read : Type 0 where
  pub items : List Item
  pub seen : GivenNames
  pub unclosed : Option Open

-- an item whose head stands on this line
abbrev pub item_at : ℕ → Head → List Part → Item
item_at line head parts = record { line = line; head = head; parts = parts }

-- a part that stands on this line
abbrev pub part_at : ℕ → Body → Part
part_at line body = record { line = line; body = body }

-- no item is open
abbrev pub between_items : List Item → GivenNames → Read
between_items items seen = record { items = items; seen = seen; unclosed = None }

-- this item is open, and has given these labels
abbrev pub in_item : List Item → GivenNames → Item → List (List ℕ) → Read
in_item items seen item labels = record { items = items; seen = seen; unclosed = Some (record { item = item; labels = labels }) }

-- an item begins on this line; it is also all of the item where it has no lines of its own
abbrev pub placed_head : Read → ℕ → Head → Read
placed_head r line head =
    if has_parts head then in_item r.items (noted r.seen head) (item_at line head []) []
    else between_items (r.items ++ item_at line head [] ∷ []) (noted r.seen head)

-- the head was read; that it stands for the second time is the line's last cause
abbrev pub begun : Read → ℕ → Head → Result Read ParseCause
begun r line head = if not (is_new r.seen head) then Err Repeated else Ok (placed_head r line head)

-- the item with one line more
abbrev pub with_part : Item → ℕ → Body → Item
with_part item line body = item_at item.line item.head (item.parts ++ part_at line body ∷ [])

-- a line inside an item was read: its end, or one line more
abbrev pub joined : Read → Open → ℕ → Option Body → Result Read ParseCause
joined r o line None = Ok (between_items (r.items ++ o.item ∷ []) r.seen)
joined r o line (Some body) =
    if not (is_new_label o.labels body) then Err Repeated
    else Ok (in_item r.items r.seen (with_part o.item line body) (noted_label o.labels body))

-- what follows where the pieces of the line were read
abbrev pub and_then : {A : Type 0} → Found A → (A → Result Read ParseCause) → Result Read ParseCause
and_then (Ok x) next = next x.0
and_then (Err cause) next = Err cause

-- a line between items is a head, and one inside an item a part of it
abbrev pub next_line : Read → Option Open → ℕ → List Piece → Result Read ParseCause
next_line r None line pieces = and_then (head_line pieces) (begun r line)
next_line r (Some o) line pieces = and_then (part_line o.item.head pieces) (joined r o line)

-- what the lines before have given, and this one
abbrev pub after_line : Read → ℕ → List Piece → Result Read ParseCause
after_line r line pieces = next_line r r.unclosed line pieces

-- a line and its cause
abbrev pub Refused : Type 0
Refused = ℕ × ParseCause

-- after all lines no item may be open; the cause stands at its head
abbrev pub closed : List Item → Option Open → Result (List Item) Refused
closed items None = Ok items
closed items (Some o) = Err (o.item.line, Unclosed)

-- what the later lines give, unless this one is refused
abbrev pub go_on : {A B : Type 0} → ℕ → Result A ParseCause → (A → Result B Refused) → Result B Refused
go_on line (Ok x) rest = rest x
go_on line (Err cause) rest = Err (line, cause)

-- the lines in order
abbrev pub items_from : Lines → Read → Result (List Item) Refused
items_from [] r = closed r.items r.unclosed
items_from (l ∷ ls) r = go_on l.0 (after_line r l.0 l.1) (λ next. items_from ls next)

-- the header was read, and the other lines follow
abbrev pub after_header : {A B : Type 0} → ℕ → Found A → Result B Refused → Result B Refused
after_header line (Ok x) rest = rest
after_header line (Err cause) rest = Err (line, cause)

-- the items of a script: the header, and then items in any order
abbrev pub script : Lines → Result (List Item) Refused
script [] = Err (1, Missing)
script (l ∷ ls) = after_header l.0 (header l.1) (items_from ls (between_items [] nothing_seen))
