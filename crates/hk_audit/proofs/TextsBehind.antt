-- Texts with which bytes begin, one behind another.
use Rattle.std.proofs.Common.{◌≡◌, ◌∙◌, ℕ, suc, ◌+◌, ◌-◌, ◌<◌, ◌≤◌, ◌/◌, ◌%◌, ◌^◌, List, [], ◌∷◌, ◌++◌, length, map, take, drop, refl, sym, ap, append_assoc, arith}
use Rattle.std.specs.Prelude.{slice_index}
use Rattle.std.specs.List.{join_with_byte, flat_map}
use Rattle.std.specs.Fmt.{decimal}
use Rattle.std.proofs.lemmas.List.{take_all}
use mathlib.Core.List.{append-nil}
use Rattle.hk_model.specs.declared.instructions.Index.TheVariants.{Fixed}
use Rattle.hk_model.specs.declared.calls.Reply.{Reply}
use Rattle.hk_model.specs.declared.lines.Line.{Line}
use Rattle.hk_model.specs.declared.names.Slot.{Slot}
use Rattle.hk_format.specs.AuditLines.{line_text, reply_pieces, what_pieces}
use Rattle.hk_format.specs.Operands.{argument_pieces, path_piece}
use Rattle.hk_format.specs.Pieces.{Word, spell, spell_index}
use Rattle.hk_format.specs.Texts.{spell_line}
use Rattle.hk_audit.specs.ThreeDigits.{three_digits}
use Rattle.hk_audit.proofs.LineTexts.{written_line}
use Rattle.hk_audit.proofs.Thousands.{by_thousands}

-- a long number: its thousands, and three digits
pub long_number : (n : ℕ) (bytes last rest : List ℕ) → 1000 ≤ n → n < 2 ^ 64 → decimal (n / 1000) ++ last ≡ bytes → three_digits (n % 1000) ++ rest ≡ last
    → decimal n ++ rest ≡ bytes
long_number n bytes last rest more few front back =
    ap (λ (t : List ℕ). t ++ rest) (by_thousands n more few) ∙ append_assoc (decimal (n / 1000)) (three_digits (n % 1000)) rest
    ∙ ap (λ (t : List ℕ). decimal (n / 1000) ++ t) back ∙ front

indices_joined : (first : ℕ) (rest : List ℕ) → join_with_byte 46 (map spell_index (map Fixed (first ∷ rest))) ≡ decimal first ++ flat_map (λ index. 46 ∷ decimal index) rest
indices_joined first [] = sym (append-nil (decimal first))
indices_joined first (index ∷ rest) = ap (λ (t : List ℕ). decimal first ++ 46 ∷ t) (indices_joined index rest)

path_spelled : (first : ℕ) (rest : List ℕ) → spell (path_piece (first ∷ rest)) ≡ decimal first ++ flat_map (λ index. 46 ∷ decimal index) rest
path_spelled first [] = sym (append-nil (decimal first))
path_spelled first (index ∷ rest) = indices_joined first (index ∷ rest)

all_taken : (rest : List ℕ) (taken : ℕ) → length rest ≤ taken → take taken (take (suc (length rest) - 1) rest) ≡ rest
all_taken rest taken all =
    let same : suc (length rest) - 1 ≡ length rest = omega arith in
    rw (same, take_all (length rest) rest (omega arith)) (take_all taken rest all)

-- a path: its first index, and the others
pub whole_path : (path left bytes : List ℕ) (taken : ℕ) → 0 < length path → length path ≤ taken + 1
    → (decimal (slice_index path 0) ++ flat_map (λ index. 46 ∷ decimal index) (take taken (take (length path - 1) (drop 1 path)))) ++ left ≡ bytes
    → spell (path_piece path) ++ left ≡ bytes
whole_path [] left bytes taken some all e = absurd (omega arith)
whole_path (first ∷ rest) left bytes taken some all e =
    ap (λ (t : List ℕ). t ++ left) (path_spelled first rest
    ∙ ap (λ (r : List ℕ). decimal first ++ flat_map (λ index. 46 ∷ decimal index) r) (sym (all_taken rest taken (omega arith)))) ∙ e

slots_spelled : (front : List ℕ) (args : List ℕ) (into : Slot)
    → (front ++ flat_map (λ n. 32 ∷ decimal n) args) ++ 32 ∷ decimal into.0 ≡ join_with_byte 32 (front ∷ map spell (argument_pieces args into))
slots_spelled front [] into = ap (λ (t : List ℕ). t ++ 32 ∷ decimal into.0) (append-nil front)
slots_spelled front (n ∷ ns) into =
    append_assoc front (32 ∷ (decimal n ++ flat_map (λ m. 32 ∷ decimal m) ns)) (32 ∷ decimal into.0) ∙ ap (λ (t : List ℕ). front ++ 32 ∷ t) (slots_spelled (decimal n) ns into)

parts_joined : (w p slots into rest : List ℕ) → (w ++ 32 ∷ ((p ++ slots) ++ into)) ++ rest ≡ (w ++ 32 ∷ p) ++ (slots ++ (into ++ rest))
parts_joined w p slots into rest = simp append_assoc

-- a call of a procedure: its word and path, the slots of its arguments, and the last slot
pub with_arguments : (w path args : List ℕ) (into : Slot) (bytes slots last rest : List ℕ)
    → spell_line (Word w ∷ path_piece path ∷ []) ++ slots ≡ bytes → flat_map (λ slot. 32 ∷ decimal slot) args ++ last ≡ slots → (32 ∷ decimal into.0) ++ rest ≡ last
    → spell_line (Word w ∷ path_piece path ∷ argument_pieces args into) ++ rest ≡ bytes
with_arguments w path args into bytes slots last rest front middle back =
    let p = spell (path_piece path) in
    let f = flat_map (λ slot. 32 ∷ decimal slot) args in
    ap (λ (t : List ℕ). (w ++ 32 ∷ t) ++ rest) (sym (slots_spelled p args into)) ∙ parts_joined w p f (32 ∷ decimal into.0) rest
    ∙ ap (λ (t : List ℕ). (w ++ 32 ∷ p) ++ (f ++ t)) back ∙ ap (λ (t : List ℕ). (w ++ 32 ∷ p) ++ t) middle ∙ front

line_joined : (a b c d e rest : List ℕ) → ((a ++ b) ++ (c ++ (d ++ e))) ++ rest ≡ a ++ (b ++ (c ++ (d ++ (e ++ rest))))
line_joined a b c d e rest = simp append_assoc

-- the end of a line: the arrow, the reply and the line feed
pub whole_end : (reply : Reply) (bytes told ended rest : List ℕ) → (32 ∷ 45 ∷ 62 ∷ 32 ∷ []) ++ told ≡ bytes → spell_line (reply_pieces reply) ++ ended ≡ told
    → (10 ∷ []) ++ rest ≡ ended → (32 ∷ 45 ∷ 62 ∷ 32 ∷ []) ++ (spell_line (reply_pieces reply) ++ 10 ∷ rest) ≡ bytes
whole_end reply bytes told ended rest a b c =
    let arrow : List ℕ = 32 ∷ 45 ∷ 62 ∷ 32 ∷ [] in
    ap (λ (t : List ℕ). arrow ++ (spell_line (reply_pieces reply) ++ t)) c ∙ ap (λ (t : List ℕ). arrow ++ t) b ∙ a

-- a line: who acts, what happened, and the end
pub whole_line : (line : Line) (bytes said pointed rest : List ℕ)
    → (decimal line.cpu.0 ++ 32 ∷ (decimal line.proc.0 ++ 32 ∷ (decimal line.inc.0 ++ 32 ∷ []))) ++ said ≡ bytes
    → spell_line (what_pieces line.what) ++ pointed ≡ said → (32 ∷ 45 ∷ 62 ∷ 32 ∷ []) ++ (spell_line (reply_pieces line.reply) ++ 10 ∷ rest) ≡ pointed
    → line_text line ++ rest ≡ bytes
whole_line line bytes said pointed rest a b c =
    let actor = decimal line.cpu.0 ++ 32 ∷ (decimal line.proc.0 ++ 32 ∷ (decimal line.inc.0 ++ 32 ∷ [])) in
    let what = spell_line (what_pieces line.what) in
    let arrow : List ℕ = 32 ∷ 45 ∷ 62 ∷ 32 ∷ [] in
    let reply = spell_line (reply_pieces line.reply) in
    sym (ap (λ (t : List ℕ). t ++ rest) (written_line line [] actor (actor ++ what) ((actor ++ what) ++ (arrow ++ (reply ++ 10 ∷ []))) refl refl refl))
    ∙ line_joined actor what arrow reply (10 ∷ []) rest
    ∙ ap (λ (t : List ℕ). actor ++ (what ++ t)) c
    ∙ ap (λ (t : List ℕ). actor ++ t) b
    ∙ a
