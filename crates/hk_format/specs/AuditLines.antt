-- The text of a line of the audit record. docs/FORMATS.md, "Audit lines and records".
use Rattle.std.specs.Prelude.{ℕ, List, [], ◌∷◌, ◌++◌, map, codes}
use Rattle.std.specs.List.{join_with_byte}
use Rattle.hk_model.specs.declared.entries.Making.{Making}
use Rattle.hk_model.specs.declared.entries.Making.TheVariants as making
use Rattle.hk_model.specs.declared.calls.Call.{Call}
use Rattle.hk_model.specs.declared.calls.Call.TheVariants as call
use Rattle.hk_model.specs.declared.calls.What8.{What8}
use Rattle.hk_model.specs.declared.calls.What8.TheVariants as full
use Rattle.hk_model.specs.declared.calls.Refusal.{Refusal}
use Rattle.hk_model.specs.declared.calls.Refusal.TheVariants as refused
use Rattle.hk_model.specs.declared.calls.Reply.{Reply}
use Rattle.hk_model.specs.declared.calls.Reply.TheVariants as reply
use Rattle.hk_model.specs.declared.lines.What.{What}
use Rattle.hk_model.specs.declared.lines.What.TheVariants as what
use Rattle.hk_model.specs.declared.lines.Line.{Line}
use Rattle.hk_format.specs.declared.syntax.Verb.TheVariants as verb
use Rattle.hk_rights.specs.Rights.{name_of}
use Rattle.hk_format.specs.Pieces.{Piece, Word, Upper, Number, spell}
use Rattle.hk_format.specs.Texts.{ended_line}
use Rattle.hk_format.specs.Verbs.{verb_piece}
use Rattle.hk_format.specs.Operands.{slot_piece, optional_slot, argument_pieces, path_piece, rights_set_piece}

-- `amplify CHECK GIVE` or `create GIVE`
abbrev pub making_pieces : Making → List Piece
making_pieces (making.Amplify check give) = verb_piece verb.Amplify ∷ rights_set_piece check ∷ rights_set_piece give ∷ []
making_pieces (making.Create give) = verb_piece verb.Create ∷ rights_set_piece give ∷ []

-- a call: its word, its path, its operands in order
abbrev pub call_pieces : Call → List Piece
call_pieces (call.Get of at) = verb_piece verb.GetData ∷ path_piece of ∷ Number at ∷ []
call_pieces (call.Put of at word) = verb_piece verb.PutData ∷ path_piece of ∷ Number at ∷ Number word ∷ []
call_pieces (call.Add of word) = verb_piece verb.AddData ∷ path_piece of ∷ Number word ∷ []
call_pieces (call.Length of) = verb_piece verb.Length ∷ path_piece of ∷ []
call_pieces (call.Load from into) = verb_piece verb.Load ∷ path_piece from ∷ slot_piece into ∷ []
call_pieces (call.Store list at from) = verb_piece verb.Store ∷ path_piece list ∷ Number at ∷ slot_piece from ∷ []
call_pieces (call.Append list from) = verb_piece verb.Append ∷ path_piece list ∷ slot_piece from ∷ []
call_pieces (call.Erase list at) = verb_piece verb.Erase ∷ path_piece list ∷ Number at ∷ []
call_pieces (call.Drop slot) = verb_piece verb.Drop ∷ slot_piece slot ∷ []
call_pieces (call.Restrict slot keep) = verb_piece verb.Restrict ∷ slot_piece slot ∷ rights_set_piece keep ∷ []
call_pieces (call.Look of) = verb_piece verb.Look ∷ path_piece of ∷ []
call_pieces (call.MakeTemplate of kind into) = verb_piece verb.Template ∷ path_piece of ∷ (making_pieces kind ++ slot_piece into ∷ [])
call_pieces (call.Create by into) = verb_piece verb.Create ∷ path_piece by ∷ slot_piece into ∷ []
call_pieces (call.Merge with cap into) = verb_piece verb.Merge ∷ path_piece with ∷ slot_piece cap ∷ slot_piece into ∷ []
call_pieces (call.Copy of into) = verb_piece verb.Copy ∷ path_piece of ∷ slot_piece into ∷ []
call_pieces (call.Enter proc args into) = verb_piece verb.Call ∷ path_piece proc ∷ argument_pieces args into
call_pieces (call.Leave give) = verb_piece verb.Return ∷ optional_slot give
call_pieces (call.P of) = verb_piece verb.P ∷ path_piece of ∷ []
call_pieces (call.V of) = verb_piece verb.V ∷ path_piece of ∷ []
call_pieces call.Yield = verb_piece verb.Yield ∷ []

-- what happened: `dispatch`, `halt`, or the call
abbrev pub what_pieces : What → List Piece
what_pieces what.Dispatch = Word (codes "dispatch") ∷ []
what_pieces (what.Call c) = call_pieces c
what_pieces what.Halt = Word (codes "halt") ∷ []

-- what has no room for one more
abbrev pub full_word : What8 → List ℕ
full_word full.Words = codes "words"
full_word full.Entries = codes "entries"
full_word full.Objects = codes "objects"
full_word full.Slots = codes "slots"
full_word full.Tokens = codes "tokens"

-- a refusal: its word, its step, and the right that is missing
abbrev pub refusal_pieces : Refusal → List Piece
refusal_pieces (refused.Range step) = Word (codes "range") ∷ Number step ∷ []
refusal_pieces (refused.Empty step) = Word (codes "empty") ∷ Number step ∷ []
refusal_pieces (refused.NotCap step) = Word (codes "notcap") ∷ Number step ∷ []
refusal_pieces (refused.Denied step right) = Word (codes "denied") ∷ Number step ∷ Upper (name_of right) ∷ []
refusal_pieces (refused.WrongType step) = Word (codes "wrongtype") ∷ Number step ∷ []
refusal_pieces (refused.BadTemplate step) = Word (codes "badtemplate") ∷ Number step ∷ []
refusal_pieces refused.Count = Word (codes "count") ∷ []
refusal_pieces (refused.Full kind) = Word (codes "full") ∷ Word (full_word kind) ∷ []
refusal_pieces refused.Deep = Word (codes "deep") ∷ []

-- a reply: its word, and what it tells
abbrev pub reply_pieces : Reply → List Piece
reply_pieces reply.Done = Word (codes "done") ∷ []
reply_pieces (reply.Word n) = Word (codes "word") ∷ Number n ∷ []
reply_pieces reply.Waits = Word (codes "waits") ∷ []
reply_pieces (reply.No refusal) = refusal_pieces refusal

-- processor, process and incarnation, and what happened
abbrev pub event_pieces : Line → List Piece
event_pieces line = Number line.cpu.0 ∷ Number line.proc.0 ∷ Number line.inc.0 ∷ what_pieces line.what

-- what stands between the event and the reply
abbrev pub arrow : List ℕ
arrow = codes "->"

-- what stands on a line: the event, an arrow and the reply, with one space between pieces
unfoldable pub line_body : Line → List ℕ
line_body line = join_with_byte 32 (map spell (event_pieces line) ++ arrow ∷ map spell (reply_pieces line.reply))

-- the text of a line: its line feed too
abbrev pub line_text : Line → List ℕ
line_text line = ended_line (line_body line)
