-- The pieces of a line are read as that line.
use Rattle.std.proofs.Common.{◌≡◌, ℕ, zero, suc, ◌<◌, ◌≤◌, ◌==◌, Bool, true, false, cond, List, [], ◌∷◌, ◌++◌, length, map, refl, sym, ap, subst, ◌∙◌, arith, ◌||◌, Option, Some}
use Rattle.std.proofs.Common.{None, Result, Ok, Err, IsTrue}
use Rattle.std.specs.Prelude.{codes}
use Rattle.std.specs.List.{AllByRecursion, list_all, list_any}
use Rattle.std.proofs.lemmas.Bool.{and_from, false≢true, lt-ltb, le-leb, eqb-true}
use Rattle.std.proofs.lemmas.List.{map-append, length-append}
use Rattle.hk_rights.specs.Rights.{IsRightsWord, is_right, name_of, number_named, right_numbers, right_table}
use Rattle.hk_rights.proofs.Table.{right_numbers-is_right}
use Rattle.hk_model.specs.declared.instructions.Index.TheVariants.{Fixed}
use Rattle.hk_model.specs.declared.names.Slot.{Slot}
use Rattle.hk_model.specs.declared.entries.Making.TheVariants as making
use Rattle.hk_model.specs.declared.calls.Call.TheVariants as call
use Rattle.hk_model.specs.declared.calls.What8.{What8}
use Rattle.hk_model.specs.declared.calls.What8.TheVariants as full
use Rattle.hk_model.specs.declared.calls.Refusal.TheVariants as refused
use Rattle.hk_model.specs.declared.calls.Reply.{Reply}
use Rattle.hk_model.specs.declared.calls.Reply.TheVariants as reply
use Rattle.hk_model.specs.declared.lines.What.{What}
use Rattle.hk_model.specs.declared.lines.What.TheVariants as what
use Rattle.hk_model.specs.declared.lines.Line.{Line}
use Rattle.hk_format.specs.declared.syntax.Verb.TheVariants as verb
use Rattle.hk_model.specs.Labels.{same_text}
use Rattle.hk_format.specs.Pieces.{Piece, Word, Upper, Dash, Number}
use Rattle.hk_format.specs.Operands.{path_piece, slot_piece, rights_set_piece}
use Rattle.hk_format.specs.declared.causes.ParseCause.{ParseCause}
use Rattle.hk_format.specs.Reading.{Reads, ◌>>=◌, onward, taken, wanted, at_most, end}
use Rattle.hk_format.specs.RightsTexts.{rights_spelled, rights_text}
use Rattle.hk_format.specs.Forms.{as_word, as_number_below}
use Rattle.hk_format.specs.LineReading.{is_number_index, index_number, as_path, as_any_slot, as_rights_set, as_right, as_word32, as_full, what_of, reply_line, event_line}
use Rattle.hk_format.specs.LineReading.{line_with}
use Rattle.hk_model.specs.Limits.{inc_bound}
use Rattle.hk_format.specs.AuditLines.{what_pieces, full_word, reply_pieces, event_pieces}
use Rattle.hk_format.specs.LineRanges.{IsPathValue, IsAnySlot, IsCall, IsWhat, IsReply, IsLine}
use Rattle.hk_model.specs.WorldValue.{IsWord32}
use Rattle.hk_format.proofs.LineAgain.{same_is, verb_again}
use Rattle.hk_format.proofs.RightsAgain.{rights_again}
use Rattle.hk_format.specs.WrittenLines.{before_last, last_of}

-- forms

numbers_again : (ns : List ℕ) → AllByRecursion (λ n. n < 65536) ns → (list_all is_number_index (map Fixed ns) ≡ true) × (map index_number (map Fixed ns) ≡ ns)
numbers_again [] h = (refl, refl)
numbers_again (n ∷ ns) h = let rest = numbers_again ns h.1 in (and_from _ _ (lt-ltb n 65536 h.0) rest.0, ap (λ (ms : List ℕ). n ∷ ms) rest.1)

pub path_again : (p : List ℕ) → IsPathValue p → as_path (path_piece p) ≡ Ok p
path_again [] h = absurd (let some = h.0 in omega arith)
path_again (n ∷ []) h = rw (lt-ltb n 65536 h.2.0) refl
path_again (x ∷ y ∷ more) h = let all = numbers_again (x ∷ y ∷ more) h.2 in rw (all.0, all.1) refl

slot_again : (s : Slot) → IsAnySlot s → as_any_slot (slot_piece s) ≡ Ok s
slot_again s h = rw (lt-ltb s.0 256 h) refl

word_again : (n : ℕ) → IsWord32 n → as_word32 (Number n) ≡ Ok n
word_again n h = rw (le-leb n 4294967295 (omega arith)) refl

below_again : (bound n : ℕ) → n < bound → as_number_below bound (Number n) ≡ Ok n
below_again bound n h = rw (lt-ltb n bound h) refl

rights_set_again : (w : ℕ) → IsRightsWord w → as_rights_set (rights_set_piece w) ≡ Ok w
unfolding rights_spelled
rights_set_again w word = go (same_text (rights_text w) (codes "-")) refl (rights_again w word)
  where
    go : (b : Bool) → same_text (rights_text w) (codes "-") ≡ b → rights_spelled (rights_text w) ≡ Some w → as_rights_set (cond b Dash (Upper (rights_text w))) ≡ Ok w
    go true e k =
        let zero : ◌≡◌ {A = Option ℕ} (Some 0) (Some w) = ap rights_spelled (sym (same_is (rights_text w) (codes "-") e)) ∙ k in
        let same : 0 ≡ w = cc in ap Ok same
    go false e k = rw k refl

IsNamed : ℕ → Type 0
IsNamed n = number_named (name_of n) ≡ Some n

all_named : AllByRecursion IsNamed right_numbers
unfolding IsNamed right_numbers right_table name_of number_named
all_named = (refl, (refl, (refl, (refl, (refl, (refl, (refl, (refl, (refl, (refl, (refl, (refl, (refl, (refl, (refl, (refl, (refl, (refl, (refl, tt)))))))))))))))))))

-- what is so of all is so of one of them
pub among : (P : ℕ → Type 0) (ns : List ℕ) (n : ℕ) → AllByRecursion P ns → list_any (λ k. k == n) ns ≡ true → P n
among P [] n h e = absurd (false≢true e)
among P (k ∷ ns) n h e = go (k == n) refl e (λ f. among P ns n h.1 f)
  where
    go : (b : Bool) → (k == n) ≡ b → (b || list_any (λ j. j == n) ns) ≡ true → (list_any (λ j. j == n) ns ≡ true → P n) → P n
    go true same f more = subst P (eqb-true k n same) h.0
    go false other f more = more f

pub right_among : (P : ℕ → Type 0) (n : ℕ) → AllByRecursion P right_numbers → IsTrue (is_right n) → P n
right_among P n h right = among P right_numbers n h (right_numbers-is_right n ∙ right)

right_again : (n : ℕ) → IsTrue (is_right n) → as_right (Upper (name_of n)) ≡ Ok n
unfolding IsNamed
right_again n right = rw (right_among IsNamed n all_named right) refl

full_again : (kind : What8) → as_full (Word (full_word kind)) ≡ Ok kind
full_again full.Words = refl
full_again full.Entries = refl
full_again full.Objects = refl
full_again full.Slots = refl
full_again full.Tokens = refl

-- slots of a call

args_again : (room : ℕ) (xs : List ℕ) → AllByRecursion (λ n. n < 256) xs → length xs ≤ room → at_most room (as_number_below 256) (map Number xs) ≡ Ok (xs, [])
args_again room [] h few = refl
args_again zero (x ∷ xs) h few = absurd (omega arith)
args_again (suc room) (x ∷ xs) h few = rw (below_again 256 x h.0, args_again room xs h.1 (omega arith))

all_put : (xs : List ℕ) (y : ℕ) → AllByRecursion (λ n. n < 256) xs → y < 256 → AllByRecursion (λ n. n < 256) (xs ++ y ∷ [])
all_put [] y h k = (k, tt)
all_put (x ∷ xs) y h k = (h.0, all_put xs y h.1 k)

before_put : (x : ℕ) (xs : List ℕ) (y : ℕ) → before_last x (xs ++ y ∷ []) ≡ x ∷ xs
before_put x [] y = refl
before_put x (z ∷ zs) y = ap (λ t. x ∷ t) (before_put z zs y)

last_put : (x : ℕ) (xs : List ℕ) (y : ℕ) → last_of x (xs ++ y ∷ []) ≡ y
last_put x [] y = refl
last_put x (z ∷ zs) y = last_put z zs y

-- events, by their first word
abbrev pub what_line : Reads What
what_line = wanted as_word >>= what_of

call_again : (proc : List ℕ) (args : List ℕ) (into : Slot) → IsCall (call.Enter proc args into)
    → what_line (what_pieces (what.Call (call.Enter proc args into))) ≡ Ok (what.Call (call.Enter proc args into), [])
call_again proc [] into h = rw (verb_again, path_again proc h.0, below_again 256 into.0 h.2)
call_again proc (x ∷ xs) into h =
    let rest : at_most 8 (as_number_below 256) (map Number (xs ++ into.0 ∷ [])) ≡ Ok (xs ++ into.0 ∷ [], []) =
    args_again 8 (xs ++ into.0 ∷ []) (all_put xs into.0 h.1.1.1 h.2) (let few = h.1.0 in omega (arith, length-append xs (into.0 ∷ []))) in
    let pieces = map-append Number xs (into.0 ∷ []) in
    rw (verb_again, path_again proc h.0, below_again 256 x h.1.1.0, ← pieces, rest, before_put, last_put)

pub what_again : (w : What) → IsWhat w → what_line (what_pieces w) ≡ Ok (w, [])
what_again what.Dispatch h = refl
what_again what.Halt h = refl
what_again (what.Call (call.Get of at)) h = rw (verb_again, path_again of h.0, word_again at h.1)
what_again (what.Call (call.Put of at word)) h = rw (verb_again, path_again of h.0, word_again at h.1, word_again word h.2)
what_again (what.Call (call.Add of word)) h = rw (verb_again, path_again of h.0, word_again word h.1)
what_again (what.Call (call.Length of)) h = rw (verb_again, path_again of h)
what_again (what.Call (call.Load from into)) h = rw (verb_again, path_again from h.0, slot_again into h.1)
what_again (what.Call (call.Store list at from)) h = rw (verb_again, path_again list h.0, word_again at h.1, slot_again from h.2)
what_again (what.Call (call.Append list from)) h = rw (verb_again, path_again list h.0, slot_again from h.1)
what_again (what.Call (call.Erase list at)) h = rw (verb_again, path_again list h.0, word_again at h.1)
what_again (what.Call (call.Drop slot)) h = rw (verb_again, slot_again slot h)
what_again (what.Call (call.Restrict slot keep)) h = rw (verb_again, slot_again slot h.0, rights_set_again keep h.1)
what_again (what.Call (call.Look of)) h = rw (verb_again, path_again of h)
what_again (what.Call (call.MakeTemplate of (making.Amplify check give) into)) h =
    rw (verb_again, path_again of h.0, verb_again verb.Amplify, rights_set_again check h.1.0, rights_set_again give h.1.1, slot_again into h.2)
what_again (what.Call (call.MakeTemplate of (making.Create give) into)) h =
    rw (verb_again, path_again of h.0, verb_again verb.Create, rights_set_again give h.1, slot_again into h.2)
what_again (what.Call (call.Create by into)) h = rw (verb_again, path_again by h.0, slot_again into h.1)
what_again (what.Call (call.Merge with held into)) h = rw (verb_again, path_again with h.0, slot_again held h.1, slot_again into h.2)
what_again (what.Call (call.Copy of into)) h = rw (verb_again, path_again of h.0, slot_again into h.1)
what_again (what.Call (call.Enter proc args into)) h = call_again proc args into h
what_again (what.Call (call.Leave None)) h = rw verb_again
what_again (what.Call (call.Leave (Some s))) h = rw (verb_again, slot_again s h)
what_again (what.Call (call.P of)) h = rw (verb_again, path_again of h)
what_again (what.Call (call.V of)) h = rw (verb_again, path_again of h)
what_again (what.Call call.Yield) h = rw verb_again

pub reply_again : (r : Reply) → IsReply r → reply_line (reply_pieces r) ≡ Ok (r, [])
reply_again reply.Done h = refl
reply_again (reply.Word n) h = rw (word_again n h)
reply_again reply.Waits h = refl
reply_again (reply.No (refused.Range step)) h = rw (below_again 256 step h)
reply_again (reply.No (refused.Empty step)) h = rw (below_again 256 step h)
reply_again (reply.No (refused.NotCap step)) h = rw (below_again 256 step h)
reply_again (reply.No (refused.Denied step right)) h = rw (below_again 256 step h.0, right_again right h.1)
reply_again (reply.No (refused.WrongType step)) h = rw (below_again 256 step h)
reply_again (reply.No (refused.BadTemplate step)) h = rw (below_again 256 step h)
reply_again (reply.No refused.Count) h = refl
reply_again (reply.No (refused.Full kind)) h = rw (full_again kind)
reply_again (reply.No refused.Deep) h = refl

joined : (ps : List Piece) (next : What → Reads (Reply → Line)) → (wanted as_word >>= (λ word. what_of word >>= next)) ps ≡ onward (what_line ps) next
joined [] next = refl
joined (p ∷ ps) next = go (as_word p)
  where
    go : (r : Result (List ℕ) ParseCause) → onward (taken r ps) (λ word. what_of word >>= next) ≡ onward (onward (taken r ps) what_of) next
    go (Ok word) = refl
    go (Err cause) = refl

-- an event is read as what any reply makes this line
pub event_again : (l : Line) → IsLine l → event_line (event_pieces l) ≡ Ok (line_with l.cpu.0 l.proc.0 l.inc.0 l.what, [])
event_again l h =
    rw (below_again 16 l.cpu.0 h.cpu, below_again 256 l.proc.0 h.proc, below_again inc_bound l.inc.0 h.inc)
    (joined (what_pieces l.what) (λ event. end (line_with l.cpu.0 l.proc.0 l.inc.0 event)) ∙ rw (what_again l.what h.what) refl)
