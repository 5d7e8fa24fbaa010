-- A line of a record has at most 320 bytes.
use Rattle.std.proofs.Common.{ℕ, ◌*◌, ◌<◌, ◌≤◌, List, [], ◌∷◌, ◌++◌, length, map, arith, Some, None}
use Rattle.std.specs.List.{AllByRecursion}
use Rattle.std.specs.Fmt.{decimal}
use Rattle.std.proofs.lemmas.Fmt.{length-decimal-le}
use Rattle.std.proofs.lemmas.List.{length-append, length-map, map-append}
use Rattle.hk_model.specs.declared.names.Slot.{Slot}
use Rattle.hk_model.specs.declared.entries.Making.TheVariants as making
use Rattle.hk_model.specs.declared.instructions.Index.TheVariants.{Fixed}
use Rattle.hk_model.specs.declared.calls.Call.{Call}
use Rattle.hk_model.specs.declared.calls.Call.TheVariants as call
use Rattle.hk_model.specs.declared.calls.What8.{What8}
use Rattle.hk_model.specs.declared.calls.What8.TheVariants as full
use Rattle.hk_model.specs.declared.calls.Refusal.{Refusal}
use Rattle.hk_model.specs.declared.calls.Refusal.TheVariants as refused
use Rattle.hk_model.specs.declared.calls.Reply.{Reply}
use Rattle.hk_model.specs.declared.calls.Reply.TheVariants as reply
use Rattle.hk_model.specs.declared.lines.What.{What}
use Rattle.hk_model.specs.declared.lines.What.TheVariants as what
use Rattle.hk_model.specs.declared.lines.Line.{Line}
use Rattle.hk_model.specs.WorldValue.{IsIndex}
use Rattle.hk_format.specs.Pieces.{Number, spell}
use Rattle.hk_format.specs.Operands.{argument_pieces, path_piece}
use Rattle.hk_format.specs.LineRanges.{IsPathValue, IsAnySlot, AreAnySlots, IsCall, IsWhat, IsRefusal, IsReply, IsLine}
use Rattle.hk_format.specs.AuditLines.{call_pieces, what_pieces, full_word, refusal_pieces, reply_pieces, event_pieces, arrow, line_body, line_text}
use Rattle.hk_format.specs.Records.{lines_text}
use Rattle.hk_audit.proofs.Sizes.{pieces_size, texts_append, joined_size, number_size, small_size, steps_size, rights_size, right_size}

-- operands

fixed_indices : (path : List ℕ) → AllByRecursion (λ index. index < 65536) path → AllByRecursion IsIndex (map Fixed path)
fixed_indices [] h = tt
fixed_indices (n ∷ path) h = (h.0, fixed_indices path h.1)

path_size : (path : List ℕ) → IsPathValue path → length (spell (path_piece path)) ≤ 48
path_size path h = let few = h.1 in steps_size (map Fixed path) (omega (arith, length-map path Fixed)) (fixed_indices path h.2)

slot_size : (slot : Slot) → IsAnySlot slot → length (decimal slot.0) ≤ 3
slot_size slot h = small_size slot.0 (omega arith)

slots_size : (ns : List ℕ) → AllByRecursion (λ slot. slot < 256) ns → pieces_size (map Number ns) ≤ 4 * length ns
slots_size [] h = omega arith
slots_size (n ∷ ns) h = omega (arith, small_size n (let low = h.0 in omega arith), slots_size ns h.1)

arguments_size : (args : List ℕ) (into : Slot) → AreAnySlots args → IsAnySlot into → pieces_size (argument_pieces args into) ≤ 36
arguments_size args into h k =
    let few = h.0 in
    let both = texts_append (map spell (map Number args)) (map spell (Number into.0 ∷ [])) in
    rw (map-append spell (map Number args) (Number into.0 ∷ [])) (omega (arith, both, slots_size args h.1, slot_size into k))

-- calls

call_size : (c : Call) → IsCall c → pieces_size (call_pieces c) ≤ 264
call_size (call.Get of at) h = omega (arith, path_size of h.0, number_size at h.1)
call_size (call.Put of at word) h = omega (arith, path_size of h.0, number_size at h.1, number_size word h.2)
call_size (call.Add of word) h = omega (arith, path_size of h.0, number_size word h.1)
call_size (call.Length of) h = omega (arith, path_size of h)
call_size (call.Load from into) h = omega (arith, path_size from h.0, slot_size into h.1)
call_size (call.Store list at from) h = omega (arith, path_size list h.0, number_size at h.1, slot_size from h.2)
call_size (call.Append list from) h = omega (arith, path_size list h.0, slot_size from h.1)
call_size (call.Erase list at) h = omega (arith, path_size list h.0, number_size at h.1)
call_size (call.Drop slot) h = omega (arith, slot_size slot h)
call_size (call.Restrict slot keep) h = omega (arith, slot_size slot h.0, rights_size keep)
call_size (call.Look of) h = omega (arith, path_size of h)
call_size (call.MakeTemplate of (making.Amplify check give) into) h =
    omega (arith, path_size of h.0, rights_size check, rights_size give, slot_size into h.2)
call_size (call.MakeTemplate of (making.Create give) into) h = omega (arith, path_size of h.0, rights_size give, slot_size into h.2)
call_size (call.Create by into) h = omega (arith, path_size by h.0, slot_size into h.1)
call_size (call.Merge with cap into) h = omega (arith, path_size with h.0, slot_size cap h.1, slot_size into h.2)
call_size (call.Copy of into) h = omega (arith, path_size of h.0, slot_size into h.1)
call_size (call.Enter proc args into) h = omega (arith, path_size proc h.0, arguments_size args into h.1 h.2)
call_size (call.Leave None) h = omega arith
call_size (call.Leave (Some slot)) h = omega (arith, slot_size slot h)
call_size (call.P of) h = omega (arith, path_size of h)
call_size (call.V of) h = omega (arith, path_size of h)
call_size call.Yield h = omega arith

what_size : (w : What) → IsWhat w → pieces_size (what_pieces w) ≤ 264
what_size what.Dispatch h = omega arith
what_size (what.Call c) h = call_size c h
what_size what.Halt h = omega arith

-- replies

full_size : (kind : What8) → length (full_word kind) ≤ 7
full_size full.Words = omega arith
full_size full.Entries = omega arith
full_size full.Objects = omega arith
full_size full.Slots = omega arith
full_size full.Tokens = omega arith

refusal_size : (r : Refusal) → IsRefusal r → pieces_size (refusal_pieces r) ≤ 20
refusal_size (refused.Range step) h = omega (arith, small_size step (omega arith))
refusal_size (refused.Empty step) h = omega (arith, small_size step (omega arith))
refusal_size (refused.NotCap step) h = omega (arith, small_size step (omega arith))
refusal_size (refused.Denied step right) h = omega (arith, small_size step (let low = h.0 in omega arith), right_size right)
refusal_size (refused.WrongType step) h = omega (arith, small_size step (omega arith))
refusal_size (refused.BadTemplate step) h = omega (arith, small_size step (omega arith))
refusal_size refused.Count h = omega arith
refusal_size (refused.Full kind) h = omega (arith, full_size kind)
refusal_size refused.Deep h = omega arith

reply_size : (r : Reply) → IsReply r → pieces_size (reply_pieces r) ≤ 20
reply_size reply.Done h = omega arith
reply_size (reply.Word n) h = omega (arith, number_size n h)
reply_size reply.Waits h = omega arith
reply_size (reply.No refusal) h = refusal_size refusal h

-- lines

event_size : (line : Line) → IsLine line → pieces_size (event_pieces line) ≤ 292
event_size line h =
    let cpu = length-decimal-le 2 line.cpu.0 (omega arith) (let low = h.cpu in omega arith) (let low = h.cpu in omega arith) in
    let proc = length-decimal-le 3 line.proc.0 (omega arith) (let low = h.proc in omega arith) (let low = h.proc in omega arith) in
    let inc = length-decimal-le 20 line.inc.0 (omega arith) (let low = h.inc in omega arith) h.inc in
    omega (arith, cpu, proc, inc, what_size line.what h.what)

-- a line, with its line feed
pub line_size : (line : Line) → IsLine line → length (line_text line) ≤ 320
unfolding line_body
line_size line h =
    let texts = map spell (event_pieces line) ++ arrow ∷ map spell (reply_pieces line.reply) in
    omega (
      arith,
      length-append (line_body line) (10 ∷ []),
      joined_size 32 texts,
      texts_append (map spell (event_pieces line)) (arrow ∷ map spell (reply_pieces line.reply)),
      event_size line h,
      reply_size line.reply h.reply,
    )

pub lines_size : (lines : List Line) → AllByRecursion IsLine lines → length (lines_text lines) ≤ 320 * length lines
lines_size [] h = omega arith
lines_size (line ∷ lines) h = omega (arith, line_size line h.0, lines_size lines h.1, length-append (line_text line) (lines_text lines))
