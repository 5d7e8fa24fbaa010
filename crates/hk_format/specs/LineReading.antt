-- The line of which bytes are the text: the reader guesses a line and compares. docs/FORMATS.md, "Audit lines and records".
use Rattle.std.specs.Prelude.{ℕ, ◌==◌, Bool, false, ◌&&◌, List, [], ◌∷◌, Option, Some, None, Result, Ok, Err, if◌then◌else◌, nat_le, nat_lt, map, codes}
use Rattle.std.specs.List.{list_all, find, slice_split}
use Rattle.hk_rights.specs.Rights.{number_named}
use Rattle.hk_model.specs.declared.names.Slot.{Slot}
use Rattle.hk_model.specs.declared.entries.Making.{Making}
use Rattle.hk_model.specs.declared.entries.Making.TheVariants as making
use Rattle.hk_model.specs.declared.instructions.Index.{Index}
use Rattle.hk_model.specs.declared.instructions.Index.TheVariants.{Fixed, ByReg}
use Rattle.hk_model.specs.declared.calls.Call.{Call}
use Rattle.hk_model.specs.declared.calls.Call.TheVariants as call
use Rattle.hk_model.specs.declared.calls.What8.{What8}
use Rattle.hk_model.specs.declared.calls.What8.TheVariants as full
use Rattle.hk_model.specs.declared.calls.Refusal.{Refusal}
use Rattle.hk_model.specs.declared.calls.Refusal.TheVariants as refused
use Rattle.hk_model.specs.declared.calls.Reply.{Reply}
use Rattle.hk_model.specs.declared.calls.Reply.TheVariants as reply
use Rattle.hk_model.specs.declared.lines.What.{What}
use Rattle.hk_model.specs.declared.lines.What.TheVariants as what
use Rattle.hk_model.specs.declared.lines.Line.{Line}
use Rattle.hk_format.specs.declared.syntax.Verb.{Verb}
use Rattle.hk_format.specs.declared.syntax.Verb.TheVariants as verb
use Rattle.hk_format.specs.declared.causes.TextCause.{TextCause}
use Rattle.hk_format.specs.declared.causes.TextCause.TheVariants.{NotAscii, LongLine, BadToken, NumberTooLarge}
use Rattle.hk_format.specs.declared.causes.ParseCause.{ParseCause}
use Rattle.hk_format.specs.declared.causes.ParseCause.TheVariants.{UnknownWord, OutOfRange}
use Rattle.hk_model.specs.Labels.{same_text}
use Rattle.hk_model.specs.Limits.{argument_limit, index_bound, slot_bound, step_bound, cpu_limit, process_limit, inc_bound}
use Rattle.hk_format.specs.RightsTexts.{rights_spelled}
use Rattle.hk_format.specs.Pieces.{largest_number, Piece, Word, Upper, Dash, Number, Path, piece_of, is_number, value}
use Rattle.hk_format.specs.Texts.{piece_onto}
use Rattle.hk_format.specs.Reading.{Found, Reads, ◌>>=◌, onward, taken, wanted, optional, at_most, end, unknown}
use Rattle.hk_format.specs.Forms.{as_verb, as_word, as_number_below, slot_numbered}
use Rattle.hk_format.specs.WrittenLines.{before_last, last_of}
use Rattle.hk_format.specs.AuditLines.{arrow, full_word, line_body}

-- forms: numbers are resolved, so paths have no registers, and slots may be such that the call is refused

-- a number that an index of a path can be
abbrev pub is_number_index : Index → Bool
is_number_index (Fixed n) = nat_lt n index_bound
is_number_index (ByReg reg) = false

-- the number of an index that is one
abbrev pub index_number : Index → ℕ
index_number (Fixed n) = n
index_number (ByReg reg) = 0

-- a path of one index, or of several
abbrev pub as_path : Piece → Result (List ℕ) ParseCause
as_path (Number n) = if nat_lt n index_bound then Ok (n ∷ []) else Err OutOfRange
as_path (Path indices) = if list_all is_number_index indices then Ok (map index_number indices) else Err OutOfRange
as_path _ = Err UnknownWord

-- a slot of a call
abbrev pub as_any_slot : Piece → Result Slot ParseCause
as_any_slot (Number n) = if nat_lt n slot_bound then Ok (slot_numbered n) else Err OutOfRange
as_any_slot _ = Err UnknownWord

-- what was found, or UnknownWord
abbrev pub set_found : Option ℕ → Result ℕ ParseCause
set_found (Some rights) = Ok rights
set_found None = Err UnknownWord

-- a set of rights
abbrev pub as_rights_set : Piece → Result ℕ ParseCause
as_rights_set (Upper t) = set_found (rights_spelled t)
as_rights_set Dash = Ok 0
as_rights_set _ = Err UnknownWord

-- a right
abbrev pub as_right : Piece → Result ℕ ParseCause
as_right (Upper t) = set_found (number_named t)
as_right _ = Err UnknownWord

-- a word of 32 bits
abbrev pub as_word32 : Piece → Result ℕ ParseCause
as_word32 (Number n) = if nat_le n largest_number then Ok n else Err OutOfRange
as_word32 _ = Err UnknownWord

-- the slot behind the rights of a template, and the end of the call
abbrev pub template_call_end : List ℕ → Making → Reads Call
template_call_end of kind = do
  into ← wanted as_any_slot
  end (call.MakeTemplate of kind into)

-- `amplify CHECK GIVE INTO` or `create GIVE INTO`, behind the path
abbrev pub template_call : List ℕ → Verb → Reads Call
template_call of verb.Amplify = do
  check ← wanted as_rights_set
  give ← wanted as_rights_set
  template_call_end of (making.Amplify check give)
template_call of verb.Create = do
  give ← wanted as_rights_set
  template_call_end of (making.Create give)
template_call of _ = unknown

-- the call that begins with this word
abbrev pub call_of : Verb → Reads Call
call_of verb.GetData = do
  of ← wanted as_path
  at ← wanted as_word32
  end (call.Get of at)
call_of verb.PutData = do
  of ← wanted as_path
  at ← wanted as_word32
  word ← wanted as_word32
  end (call.Put of at word)
call_of verb.AddData = do
  of ← wanted as_path
  word ← wanted as_word32
  end (call.Add of word)
call_of verb.Length = do
  of ← wanted as_path
  end (call.Length of)
call_of verb.Load = do
  from ← wanted as_path
  into ← wanted as_any_slot
  end (call.Load from into)
call_of verb.Store = do
  list ← wanted as_path
  at ← wanted as_word32
  from ← wanted as_any_slot
  end (call.Store list at from)
call_of verb.Append = do
  list ← wanted as_path
  from ← wanted as_any_slot
  end (call.Append list from)
call_of verb.Erase = do
  list ← wanted as_path
  at ← wanted as_word32
  end (call.Erase list at)
call_of verb.Drop = do
  slot ← wanted as_any_slot
  end (call.Drop slot)
call_of verb.Restrict = do
  slot ← wanted as_any_slot
  keep ← wanted as_rights_set
  end (call.Restrict slot keep)
call_of verb.Look = do
  of ← wanted as_path
  end (call.Look of)
call_of verb.Template = do
  of ← wanted as_path
  kind ← wanted as_verb
  template_call of kind
call_of verb.Create = do
  by ← wanted as_path
  into ← wanted as_any_slot
  end (call.Create by into)
call_of verb.Merge = do
  with ← wanted as_path
  cap ← wanted as_any_slot
  into ← wanted as_any_slot
  end (call.Merge with cap into)
call_of verb.Copy = do
  of ← wanted as_path
  into ← wanted as_any_slot
  end (call.Copy of into)
call_of verb.Call = do
  proc ← wanted as_path
  first ← wanted (as_number_below slot_bound)
  more ← at_most argument_limit (as_number_below slot_bound)
  end (call.Enter proc (before_last first more) (slot_numbered (last_of first more)))
call_of verb.Return = do
  give ← optional as_any_slot
  end (call.Leave give)
call_of verb.P = do
  of ← wanted as_path
  end (call.P of)
call_of verb.V = do
  of ← wanted as_path
  end (call.V of)
call_of verb.Yield = end call.Yield
call_of _ = unknown

-- a call as what happened
abbrev pub some_call : Reads Call → Reads What
some_call reads pieces = onward (reads pieces) (λ c rest. Ok (what.Call c, rest))

-- a call by its first word
abbrev pub call_named : List ℕ → Reads What
call_named word = do
  v ← taken (as_verb (Word word))
  some_call (call_of v)

-- what happened, by its first word
abbrev pub what_of : List ℕ → Reads What
what_of word =
    if same_text word (codes "dispatch") then end what.Dispatch
    else if same_text word (codes "halt") then end what.Halt
    else call_named word

-- a refusal that has a step alone
abbrev pub stepped : (ℕ → Refusal) → Reads Reply
stepped refusal = do
  step ← wanted (as_number_below step_bound)
  end (reply.No (refusal step))

-- a refusal that names a right besides its step
abbrev pub denied : Reads Reply
denied = do
  step ← wanted (as_number_below step_bound)
  right ← wanted as_right
  end (reply.No (refused.Denied step right))

-- all that there can be no room for
abbrev pub all_full : List What8
all_full = full.Words ∷ full.Entries ∷ full.Objects ∷ full.Slots ∷ full.Tokens ∷ []

-- what was found, or UnknownWord
abbrev pub full_found : Option What8 → Result What8 ParseCause
full_found (Some kind) = Ok kind
full_found None = Err UnknownWord

-- what there is no room for
abbrev pub as_full : Piece → Result What8 ParseCause
as_full (Word t) = full_found (find (λ w. same_text t (full_word w)) all_full)
as_full _ = Err UnknownWord

-- a refusal for want of room
abbrev pub full_reply : Reads Reply
full_reply = do
  kind ← wanted as_full
  end (reply.No (refused.Full kind))

-- the reply of a word
abbrev pub word_reply : Reads Reply
word_reply = do
  n ← wanted as_word32
  end (reply.Word n)

-- a refusal, by its first word
abbrev pub refusal_of : List ℕ → Reads Reply
refusal_of word =
    if same_text word (codes "range") then stepped (λ step. refused.Range step)
    else if same_text word (codes "empty") then stepped (λ step. refused.Empty step)
    else if same_text word (codes "notcap") then stepped (λ step. refused.NotCap step)
    else if same_text word (codes "denied") then denied
    else if same_text word (codes "wrongtype") then stepped (λ step. refused.WrongType step)
    else if same_text word (codes "badtemplate") then stepped (λ step. refused.BadTemplate step)
    else if same_text word (codes "count") then end (reply.No refused.Count)
    else if same_text word (codes "full") then full_reply
    else if same_text word (codes "deep") then end (reply.No refused.Deep)
    else unknown

-- a reply, by its first word
abbrev pub reply_of : List ℕ → Reads Reply
reply_of word =
    if same_text word (codes "done") then end reply.Done
    else if same_text word (codes "word") then word_reply
    else if same_text word (codes "waits") then end reply.Waits
    else refusal_of word

-- what stands behind the arrow
abbrev pub reply_line : Reads Reply
reply_line = do
  word ← wanted as_word
  reply_of word

-- a line of these parts
abbrev pub line_with : ℕ → ℕ → ℕ → What → Reply → Line
line_with cpu proc inc event answer = record { cpu = record { 0 = cpu }; proc = record { 0 = proc }; inc = record { 0 = inc }; what = event; reply = answer }

-- what stands before the arrow: all but the reply
abbrev pub event_line : Reads (Reply → Line)
event_line = do
  cpu ← wanted (as_number_below cpu_limit)
  proc ← wanted (as_number_below process_limit)
  inc ← wanted (as_number_below inc_bound)
  word ← wanted as_word
  event ← what_of word
  end (line_with cpu proc inc event)

-- pieces whose numbers go on to 64 bits, as the number of an incarnation does

-- a piece, or a number that is too large for one and has 64 bits
abbrev pub widened : List ℕ → Result Piece TextCause → Result Piece TextCause
widened t (Ok piece) = Ok piece
widened t (Err NumberTooLarge) = if is_number t && nat_lt (value t) inc_bound then Ok (Number (value t)) else Err NumberTooLarge
widened t (Err NotAscii) = Err NotAscii
widened t (Err LongLine) = Err LongLine
widened t (Err BadToken) = Err BadToken

-- the pieces of these texts, or the cause of the leftmost that is bad
abbrev pub wide_pieces : List (List ℕ) → Result (List Piece) TextCause
wide_pieces [] = Ok []
wide_pieces (t ∷ ts) = piece_onto (widened t (piece_of t)) (wide_pieces ts)

-- the texts before the arrow, and those behind it

-- the texts before an arrow and behind it
pub record Halves : Type 0 where
  pub event : List (List ℕ)
  pub reply : List (List ℕ)

-- a text in front of those before the arrow
abbrev pub before_halves : List ℕ → Halves → Halves
before_halves t h = record { event = t ∷ h.event; reply = h.reply }

-- the texts cut at the first arrow
abbrev pub halves : List (List ℕ) → Halves
halves [] = record { event = []; reply = [] }
halves (t ∷ ts) = if same_text t arrow then record { event = []; reply = ts } else before_halves t (halves ts)

-- what was read
abbrev pub kept : {A : Type 0} → Found A → Option A
kept (Ok x) = Some x.0
kept (Err cause) = None

-- what a reader makes of all these pieces
abbrev pub read_by : {A : Type 0} → Reads A → Result (List Piece) TextCause → Option A
read_by reads (Ok pieces) = kept (reads pieces)
read_by reads (Err cause) = None

-- the line of an event and a reply, if both were read
abbrev pub applied : Option (Reply → Line) → Option Reply → Option Line
applied (Some line) (Some answer) = Some (line answer)
applied (Some line) None = None
applied None answer = None

-- the line of the two halves
abbrev pub from_halves : Halves → Option Line
from_halves h = applied (read_by event_line (wide_pieces h.event)) (read_by reply_line (wide_pieces h.reply))

-- the line whose text these bytes may be
abbrev pub guess : List ℕ → Option Line
guess bytes = from_halves (halves (slice_split (λ b. b == 32) bytes))

-- the guess, where it stands on exactly these bytes
abbrev pub if_spelled : List ℕ → Option Line → Option Line
if_spelled bytes (Some line) = if same_text (line_body line) bytes then Some line else None
if_spelled bytes None = None

-- the line on which these bytes stand, before its line feed
unfoldable pub read_body : List ℕ → Option Line
read_body bytes = if_spelled bytes (guess bytes)
