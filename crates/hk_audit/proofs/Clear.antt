-- The pieces of a line are seen in their texts, in which no space, no arrow and no line feed stands.
use Rattle.std.proofs.Common.{◌≡◌, ℕ, ◌<◌, ◌≤◌, ◌==◌, ◌^◌, Bool, true, false, cond, ltb, List, [], ◌∷◌, ◌++◌, length, map, refl, ap, subst, ◌∙◌, arith, ◌||◌}
use Rattle.std.proofs.Common.{◌&&◌, not, Some, None, Ok, IsTrue, ⊎_elim}
use Rattle.std.specs.Prelude.{codes}
use Rattle.std.specs.List.{AllByRecursion, list_all, list_any, join_with_byte}
use Rattle.std.specs.Fmt.{decimal}
use Rattle.std.proofs.lemmas.Bool.{and_parts, and_from, false≢true, lt-ltb, le-leb, cases_lt}
use Rattle.std.proofs.lemmas.Bool.Decides.{nat_tests}
use Rattle.std.proofs.lemmas.List.{length-map}
use Rattle.hk_rights.specs.Rights.{IsRightsWord, is_right, name_of, number_named, right_numbers, right_table}
use Rattle.hk_model.specs.declared.instructions.Index.TheVariants.{Fixed}
use Rattle.hk_model.specs.declared.names.Slot.{Slot}
use Rattle.hk_model.specs.declared.entries.Making.TheVariants as making
use Rattle.hk_model.specs.declared.calls.Call.{Call}
use Rattle.hk_model.specs.declared.calls.Call.TheVariants as call
use Rattle.hk_model.specs.declared.calls.What8.{What8}
use Rattle.hk_model.specs.declared.calls.What8.TheVariants as full
use Rattle.hk_model.specs.declared.calls.Refusal.TheVariants as refused
use Rattle.hk_model.specs.declared.calls.Reply.{Reply}
use Rattle.hk_model.specs.declared.calls.Reply.TheVariants as reply
use Rattle.hk_model.specs.declared.lines.What.{What}
use Rattle.hk_model.specs.declared.lines.What.TheVariants as what
use Rattle.hk_model.specs.declared.lines.Line.{Line}
use Rattle.hk_model.specs.Labels.{between, first, is_digit, is_lower, is_word, same_text}
use Rattle.hk_format.specs.Pieces.{Piece, Word, Upper, Dash, Number, Path, piece_of, is_piece, is_index, spell, spell_index, value, is_upper}
use Rattle.hk_format.specs.Operands.{path_piece, slot_piece, rights_piece, rights_set_piece}
use Rattle.hk_format.specs.RightsTexts.{rights_spelled, rights_text}
use Rattle.hk_format.specs.Syntax.{IsRightsText}
use Rattle.hk_format.specs.LineReading.{widened, wide_pieces, halves}
use Rattle.hk_model.specs.Limits.{inc_bound}
use Rattle.hk_format.specs.AuditLines.{arrow, call_pieces, what_pieces, full_word, reply_pieces, event_pieces}
use Rattle.hk_format.specs.LineRanges.{IsPathValue, IsAnySlot, IsCall, IsWhat, IsReply, IsLine}
use Rattle.hk_model.specs.WorldValue.{IsWord32}
use Rattle.hk_format.proofs.Cutting.{all_weaker, all_joined, none_of, split_joined}
use Rattle.hk_format.proofs.ItemsGood.{rights_good}
use Rattle.hk_format.proofs.LineAgain.{same_is}
use Rattle.hk_format.proofs.PieceAgain.{is_name_byte, names_bytes, digits_number, value_decimal, number_again, number_large, piece_again}
use Rattle.hk_format.proofs.RightsAgain.{rights_again}
use Rattle.hk_text.specs.Numerals.{numeral_of}
use Rattle.hk_audit.specs.TextPieces.{is_index_numeral, indices_of, indices_spelled, canonical_rights, seen}
use Rattle.hk_text.proofs.NumeralTexts.{numeral_decimal, numeral_again}
use Rattle.hk_print.proofs.Pieces.{spelled_rights}
use Rattle.hk_audit.proofs.Spelled.{same_self}
use Rattle.hk_audit.proofs.SeenForms.{seen_numeral, seen_path_of, seen_spelled}
use Rattle.hk_audit.proofs.LinesAgain.{right_among}

-- no space, no byte of an arrow that is no dash, and no line feed
abbrev pub is_plain : ℕ → Bool
is_plain b = not (b == 32) && not (b == 62) && not (b == 10)

pub record Clear (p : Piece) : Type 0 where
  pub seen : seen (spell p) ≡ p
  pub plain : list_all is_plain (spell p) ≡ true
  pub wide : widened (spell p) (piece_of (spell p)) ≡ Ok p

-- numbers

digits_of : (n : ℕ) → n < 2 ^ 64 → list_all is_digit (decimal n) ≡ true
digits_of n h = (and_parts (is_digit (first (decimal n))) (list_all is_digit (decimal n)) (digits_number n h)).1

digits_plain : (t : List ℕ) → list_all is_digit t ≡ true → list_all is_plain t ≡ true
digits_plain t h = all_weaker is_digit is_plain (λ b k. grind (arith, nat_tests)) t h

number_wide : (n : ℕ) → n < 2 ^ 64 → widened (decimal n) (piece_of (decimal n)) ≡ Ok (Number n)
number_wide n h = ⊎_elim large small (cases_lt 0xffffffff n)
  where
    small : n ≤ 0xffffffff → widened (decimal n) (piece_of (decimal n)) ≡ Ok (Number n)
    small k = rw (number_again n k) refl

    large : 0xffffffff < n → widened (decimal n) (piece_of (decimal n)) ≡ Ok (Number n)
    large k = rw (number_large n k h, digits_number n h, value_decimal n h, lt-ltb n inc_bound h) refl

clear_number : (n : ℕ) → n < 2 ^ 64 → Clear (Number n)
clear_number n h = record { seen = seen_numeral (decimal n) n (numeral_again n h); plain = digits_plain (decimal n) (digits_of n h); wide = number_wide n h }

clear_word32 : (n : ℕ) → IsWord32 n → Clear (Number n)
clear_word32 n h = clear_number n (omega arith)

clear_slot : (s : Slot) → IsAnySlot s → Clear (slot_piece s)
clear_slot s h = clear_number s.0 (omega arith)

-- paths

record ArePathTexts (ns : List ℕ) : Type 0 where
  free : list_all (λ t. not (list_any (λ b. b == 46) t)) (map spell_index (map Fixed ns)) ≡ true
  good : list_all is_index_numeral (map spell_index (map Fixed ns)) ≡ true
  values : map value (map spell_index (map Fixed ns)) ≡ ns
  plain : list_all (list_all is_plain) (map spell_index (map Fixed ns)) ≡ true

path_texts : (ns : List ℕ) → AllByRecursion (λ n. n < 65536) ns → ArePathTexts ns
path_texts [] h = record { free = refl; good = refl; values = refl; plain = refl }
path_texts (n ∷ ns) h =
    let small : n < 2 ^ 64 = let k = h.0 in omega arith in
    let rest = path_texts ns h.1 in
    let dot : list_any (λ b. b == 46) (decimal n) ≡ false = none_of is_digit (λ b. b == 46) (λ b k. grind (arith, nat_tests)) (decimal n) (digits_of n small) in
    record {
      free = and_from _ _ (ap not dot) rest.free;
      good = and_from _ _ (and_from _ _ (numeral_decimal n small) (rw (value_decimal n small) (lt-ltb n 65536 h.0))) rest.good;
      values = rw (value_decimal n small) (ap (λ (ms : List ℕ). n ∷ ms) rest.values);
      plain = and_from _ _ (digits_plain (decimal n) (digits_of n small)) rest.plain;
    }

with_point : (a b : List ℕ) → list_all is_digit (a ++ 46 ∷ b) ≡ false
with_point [] b = refl
with_point (x ∷ xs) b = rw (with_point xs b) (none (is_digit x))
  where
    none : (c : Bool) → (c && false) ≡ false
    none true = refl
    none false = refl

no_number : (t : List ℕ) → list_all is_digit t ≡ false → numeral_of t ≡ None
no_number t h = rw h (go (is_digit (first t)))
  where
    go : (c : Bool) → cond (c && false && (not (first t == 48) || length t == 1) && ltb (value t) inc_bound) (Some (value t)) None ≡ None
    go true = refl
    go false = refl

indices_small : (ns : List ℕ) → AllByRecursion (λ n. n < 65536) ns → list_all is_index (map Fixed ns) ≡ true
indices_small [] h = refl
indices_small (n ∷ ns) h = and_from _ _ (le-leb n 0xffffffff (let small = h.0 in omega arith)) (indices_small ns h.1)

indices_few : (ns : List ℕ) → between 2 8 (length ns) ≡ true → between 2 8 (length (map Fixed ns)) ≡ true
indices_few ns h = rw (length-map ns Fixed) h

pub clear_path : (p : List ℕ) → IsPathValue p → Clear (path_piece p)
clear_path [] h = absurd (let some = h.0 in omega arith)
clear_path (n ∷ []) h = clear_number n (let small = h.2.0 in omega arith)
clear_path (x ∷ y ∷ more) h =
    let all = path_texts (x ∷ y ∷ more) h.2 in
    let cut = split_joined (λ b. b == 46) 46 (decimal x) (map spell_index (map Fixed (y ∷ more))) all.free refl in
    let few : between 2 8 (length (map spell_index (map Fixed (x ∷ y ∷ more)))) ≡ true = let size = length-map (map Fixed (x ∷ y ∷ more)) spell_index in let size-1 =
    length-map (x ∷ y ∷ more) Fixed in let most = h.1 in grind (arith, nat_tests) in
    let text : List ℕ = join_with_byte 46 (map spell_index (map Fixed (x ∷ y ∷ more))) in
    let several : indices_spelled (join_with_byte 46 (map spell_index (map Fixed (x ∷ y ∷ more)))) ≡ Some (x ∷ y ∷ more) = ap indices_of cut
    ∙ rw (few, all.good) (ap Some all.values) in
    let none = no_number (join_with_byte 46 (map spell_index (map Fixed (x ∷ y ∷ more)))) (with_point (decimal x) (join_with_byte 46 (map spell_index (map Fixed (y ∷ more))))) in
    record {
      seen = seen_path_of (join_with_byte 46 (map spell_index (map Fixed (x ∷ y ∷ more)))) (x ∷ y ∷ more) none several;
      plain = all_joined is_plain 46 (map spell_index (map Fixed (x ∷ y ∷ more))) all.plain refl;
      wide =
          rw (piece_again (Path (map Fixed (x ∷ y ∷ more))) (and_from _ _ (indices_few (x ∷ y ∷ more) (let most = h.1 in grind (arith, nat_tests)))
          (indices_small (x ∷ y ∷ more) h.2))) refl;
    }

-- rights

rights_plain : (t : List ℕ) → IsRightsText t → list_all is_plain t ≡ true
rights_plain t h = go (same_text t (codes "-")) refl h
  where
    go : (b : Bool) → same_text t (codes "-") ≡ b → (b || is_upper t) ≡ true → list_all is_plain t ≡ true
    go true e k = rw (same_is t (codes "-") e) refl
    go false e k = all_weaker is_name_byte is_plain (λ c l. grind (arith, nat_tests)) t (names_bytes true t k)

rights_piece_good : (t : List ℕ) → IsRightsText t → is_piece (rights_piece t) ≡ true
rights_piece_good t h = go (same_text t (codes "-")) h
  where
    go : (b : Bool) → (b || is_upper t) ≡ true → is_piece (cond b Dash (Upper t)) ≡ true
    go true k = refl
    go false k = k

pub clear_rights : (w : ℕ) → IsRightsWord w → Clear (rights_set_piece w)
clear_rights w word =
    let text = spelled_rights (rights_text w) in
    let spelled : canonical_rights (rights_text w) ≡ Some w = rw (rights_again w word, same_self (rights_text w)) refl in
    record {
      seen = ap seen text ∙ seen_spelled (rights_text w) w spelled;
      plain = rw text (rights_plain (rights_text w) (rights_good w word));
      wide = rw (piece_again (rights_set_piece w) (rights_piece_good (rights_text w) (rights_good w word))) refl;
    }

IsClearName : ℕ → Type 0
IsClearName n = (seen (name_of n) ≡ Upper (name_of n)) × (list_all is_plain (name_of n) ≡ true) × (is_upper (name_of n) ≡ true)

all_clear : AllByRecursion IsClearName right_numbers
unfolding IsClearName seen right_table right_numbers number_named name_of rights_spelled rights_text
all_clear = (
  (refl, refl, refl),
  (
    (refl, refl, refl),
    (
      (refl, refl, refl),
      (
        (refl, refl, refl),
        (
          (refl, refl, refl),
          (
            (refl, refl, refl),
            (
              (refl, refl, refl),
              (
                (refl, refl, refl),
                (
                  (refl, refl, refl),
                  (
                    (refl, refl, refl),
                    (
                      (refl, refl, refl),
                      (
                        (refl, refl, refl),
                        (
                          (refl, refl, refl),
                          ((refl, refl, refl), ((refl, refl, refl), ((refl, refl, refl), ((refl, refl, refl), ((refl, refl, refl), ((refl, refl, refl), tt)))))),
                        ),
                      ),
                    ),
                  ),
                ),
              ),
            ),
          ),
        ),
      ),
    ),
  ),
)

clear_right : (n : ℕ) → IsTrue (is_right n) → Clear (Upper (name_of n))
unfolding IsClearName
clear_right n right = let known = right_among IsClearName n all_clear right in record { seen = known.0; plain = known.1; wide = rw (piece_again (Upper (name_of n)) known.2) refl }

-- words

clear_word : (t : List ℕ) → numeral_of t ≡ None → indices_spelled t ≡ None → is_lower (first t) ≡ true → list_all is_plain t ≡ true → is_word t ≡ true → Clear (Word t)
unfolding seen
clear_word t number path low plain word = record { seen = rw (number, path, low) refl; plain = plain; wide = rw (piece_again (Word t) word) refl }

clear_full : (kind : What8) → Clear (Word (full_word kind))
clear_full full.Words = clear_word (codes "words") refl refl refl refl refl
clear_full full.Entries = clear_word (codes "entries") refl refl refl refl refl
clear_full full.Objects = clear_word (codes "objects") refl refl refl refl refl
clear_full full.Slots = clear_word (codes "slots") refl refl refl refl refl
clear_full full.Tokens = clear_word (codes "tokens") refl refl refl refl refl

-- lines

clear_args : (args : List ℕ) (into : Slot) → AllByRecursion (λ n. n < 256) args → IsAnySlot into → AllByRecursion Clear (map Number args ++ slot_piece into ∷ [])
clear_args [] into h k = (clear_slot into k, tt)
clear_args (n ∷ ns) into h k = (clear_number n (let small = h.0 in omega arith), clear_args ns into h.1 k)

clear_call : (c : Call) → IsCall c → AllByRecursion Clear (call_pieces c)
clear_call (call.Get of at) h = (clear_word (codes "getdata") refl refl refl refl refl, (clear_path of h.0, (clear_word32 at h.1, tt)))
clear_call (call.Put of at word) h = (clear_word (codes "putdata") refl refl refl refl refl, (clear_path of h.0, (clear_word32 at h.1, (clear_word32 word h.2, tt))))
clear_call (call.Add of word) h = (clear_word (codes "adddata") refl refl refl refl refl, (clear_path of h.0, (clear_word32 word h.1, tt)))
clear_call (call.Length of) h = (clear_word (codes "length") refl refl refl refl refl, (clear_path of h, tt))
clear_call (call.Load from into) h = (clear_word (codes "load") refl refl refl refl refl, (clear_path from h.0, (clear_slot into h.1, tt)))
clear_call (call.Store list at from) h = (clear_word (codes "store") refl refl refl refl refl, (clear_path list h.0, (clear_word32 at h.1, (clear_slot from h.2, tt))))
clear_call (call.Append list from) h = (clear_word (codes "append") refl refl refl refl refl, (clear_path list h.0, (clear_slot from h.1, tt)))
clear_call (call.Erase list at) h = (clear_word (codes "erase") refl refl refl refl refl, (clear_path list h.0, (clear_word32 at h.1, tt)))
clear_call (call.Drop slot) h = (clear_word (codes "drop") refl refl refl refl refl, (clear_slot slot h, tt))
clear_call (call.Restrict slot keep) h = (clear_word (codes "restrict") refl refl refl refl refl, (clear_slot slot h.0, (clear_rights keep h.1, tt)))
clear_call (call.Look of) h = (clear_word (codes "look") refl refl refl refl refl, (clear_path of h, tt))
clear_call (call.MakeTemplate of (making.Amplify check give) into) h = (
  clear_word (codes "template") refl refl refl refl refl,
  (
    clear_path of h.0,
    (
      clear_word (codes "amplify") refl refl refl refl refl,
      (clear_rights check h.1.0, (clear_rights give h.1.1, (clear_slot into h.2, tt))),
    ),
  ),
)
clear_call (call.MakeTemplate of (making.Create give) into) h = (
  clear_word (codes "template") refl refl refl refl refl,
  (
    clear_path of h.0,
    (
      clear_word (codes "create") refl refl refl refl refl,
      (clear_rights give h.1, (clear_slot into h.2, tt)),
    ),
  ),
)
clear_call (call.Create by into) h = (clear_word (codes "create") refl refl refl refl refl, (clear_path by h.0, (clear_slot into h.1, tt)))
clear_call (call.Merge with held into) h = (clear_word (codes "merge") refl refl refl refl refl, (clear_path with h.0, (clear_slot held h.1, (clear_slot into h.2, tt))))
clear_call (call.Copy of into) h = (clear_word (codes "copy") refl refl refl refl refl, (clear_path of h.0, (clear_slot into h.1, tt)))
clear_call (call.Enter proc args into) h = (clear_word (codes "call") refl refl refl refl refl, (clear_path proc h.0, clear_args args into h.1.1 h.2))
clear_call (call.Leave None) h = (clear_word (codes "return") refl refl refl refl refl, tt)
clear_call (call.Leave (Some s)) h = (clear_word (codes "return") refl refl refl refl refl, (clear_slot s h, tt))
clear_call (call.P of) h = (clear_word (codes "p") refl refl refl refl refl, (clear_path of h, tt))
clear_call (call.V of) h = (clear_word (codes "v") refl refl refl refl refl, (clear_path of h, tt))
clear_call call.Yield h = (clear_word (codes "yield") refl refl refl refl refl, tt)

clear_what : (w : What) → IsWhat w → AllByRecursion Clear (what_pieces w)
clear_what what.Dispatch h = (clear_word (codes "dispatch") refl refl refl refl refl, tt)
clear_what (what.Call c) h = clear_call c h
clear_what what.Halt h = (clear_word (codes "halt") refl refl refl refl refl, tt)

clear_step : (step : ℕ) → step < 256 → Clear (Number step)
clear_step step h = clear_number step (omega arith)

pub clear_reply : (r : Reply) → IsReply r → AllByRecursion Clear (reply_pieces r)
clear_reply reply.Done h = (clear_word (codes "done") refl refl refl refl refl, tt)
clear_reply (reply.Word n) h = (clear_word (codes "word") refl refl refl refl refl, (clear_word32 n h, tt))
clear_reply reply.Waits h = (clear_word (codes "waits") refl refl refl refl refl, tt)
clear_reply (reply.No (refused.Range step)) h = (clear_word (codes "range") refl refl refl refl refl, (clear_step step h, tt))
clear_reply (reply.No (refused.Empty step)) h = (clear_word (codes "empty") refl refl refl refl refl, (clear_step step h, tt))
clear_reply (reply.No (refused.NotCap step)) h = (clear_word (codes "notcap") refl refl refl refl refl, (clear_step step h, tt))
clear_reply (reply.No (refused.Denied step right)) h = (clear_word (codes "denied") refl refl refl refl refl, (clear_step step h.0, (clear_right right h.1, tt)))
clear_reply (reply.No (refused.WrongType step)) h = (clear_word (codes "wrongtype") refl refl refl refl refl, (clear_step step h, tt))
clear_reply (reply.No (refused.BadTemplate step)) h = (clear_word (codes "badtemplate") refl refl refl refl refl, (clear_step step h, tt))
clear_reply (reply.No refused.Count) h = (clear_word (codes "count") refl refl refl refl refl, tt)
clear_reply (reply.No (refused.Full kind)) h = (clear_word (codes "full") refl refl refl refl refl, (clear_full kind, tt))
clear_reply (reply.No refused.Deep) h = (clear_word (codes "deep") refl refl refl refl refl, tt)

pub clear_event : (l : Line) → IsLine l → AllByRecursion Clear (event_pieces l)
clear_event l h =
    (clear_number l.cpu.0 (let a = h.cpu in omega arith), (clear_number l.proc.0 (let b = h.proc in omega arith), (clear_number l.inc.0 h.inc, clear_what l.what h.what)))

-- what is plain is no arrow
not_arrow : (t : List ℕ) → list_all is_plain t ≡ true → same_text t arrow ≡ false
not_arrow t h = go (same_text t arrow) refl
  where
    go : (b : Bool) → same_text t arrow ≡ b → b ≡ false
    go false e = refl
    go true e = absurd (false≢true (subst (λ (u : List ℕ). list_all is_plain u ≡ true) (same_is t arrow e) h))

-- the texts of clear pieces
pub record ClearTexts (ps : List Piece) : Type 0 where
  pub seen : map seen (map spell ps) ≡ ps
  pub free : list_all (λ t. not (list_any (λ b. b == 32) t)) (map spell ps) ≡ true
  pub plain : list_all (list_all (λ b. not (b == 62))) (map spell ps) ≡ true
  pub unbroken : list_all (list_all (λ b. not (b == 10))) (map spell ps) ≡ true
  pub wide : wide_pieces (map spell ps) ≡ Ok ps
  pub apart : (more : List (List ℕ)) → halves (map spell ps ++ arrow ∷ more) ≡ record { event = map spell ps; reply = more }

pub clear_texts : (ps : List Piece) → AllByRecursion Clear ps → ClearTexts ps
clear_texts [] h = record { seen = refl; free = refl; plain = refl; unbroken = refl; wide = refl; apart = λ more. refl }
clear_texts (p ∷ ps) h =
    let here = h.0 in
    let rest = clear_texts ps h.1 in
    let blank : list_any (λ b. b == 32) (spell p) ≡ false = none_of is_plain (λ b. b == 32) (λ b k. grind (arith, nat_tests)) (spell p) here.plain in
    let other = not_arrow (spell p) here.plain in
    record {
      seen = rw here.seen (ap (λ (qs : List Piece). p ∷ qs) rest.seen);
      free = and_from _ _ (ap not blank) rest.free;
      plain = and_from _ _ (all_weaker is_plain (λ b. not (b == 62)) (λ b k. grind (arith, nat_tests)) (spell p) here.plain) rest.plain;
      unbroken = and_from _ _ (all_weaker is_plain (λ b. not (b == 10)) (λ b k. grind (arith, nat_tests)) (spell p) here.plain) rest.unbroken;
      wide = rw (here.wide, rest.wide) refl;
      apart = λ more. rw (other, rest.apart more) refl;
    }
