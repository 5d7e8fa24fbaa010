-- The text of an instruction names the place that it jumps to, and the text of an instruction that does not jump names none.
use Rattle.std.proofs.Common.{◌≡◌, ℕ, ◌<◌, ◌≤◌, ◌^◌, ◌||◌, not, Bool, true, false, cond, eqb, List, [], ◌∷◌, ◌++◌, map, refl, sym, ap, ◌∙◌, arith, Option, Some}
use Rattle.std.proofs.Common.{None}
use Rattle.std.specs.Prelude.{codes}
use Rattle.std.specs.List.{AllByRecursion, list_all, list_any, join_with_byte}
use Rattle.std.specs.Fmt.{decimal}
use Rattle.std.proofs.lemmas.Bool.{and_parts, false≢true}
use Rattle.std.proofs.lemmas.Bool.Decides.{nat_tests}
use Rattle.hk_rights.specs.Rights.{IsRightsWord}
use Rattle.hk_model.specs.declared.names.Slot.{Slot}
use Rattle.hk_model.specs.declared.entries.Making.TheVariants as making
use Rattle.hk_model.specs.declared.instructions.Index.{Index}
use Rattle.hk_model.specs.declared.instructions.Index.TheVariants.{Fixed, ByReg}
use Rattle.hk_model.specs.declared.instructions.Instr.{Instr}
use Rattle.hk_model.specs.declared.instructions.Instr.TheVariants as instr
use Rattle.hk_model.specs.declared.instructions.Operand.{Operand}
use Rattle.hk_model.specs.declared.instructions.Operand.TheVariants as operand
use Rattle.hk_model.specs.declared.instructions.Route.{Route}
use Rattle.hk_model.specs.Labels.{is_digit, is_capital, same_text}
use Rattle.hk_model.specs.WorldValue.{IsInstr, IsIndex, IsOperand, IsRoute, IsSlot, BeginsAtSlot}
use Rattle.hk_format.specs.declared.syntax.Verb.TheVariants as verb
use Rattle.hk_format.specs.Pieces.{Piece, Word, Number, spell, spell_index, is_piece, is_number, is_upper}
use Rattle.hk_format.specs.Texts.{is_none, spell_line}
use Rattle.hk_format.specs.RightsTexts.{rights_text}
use Rattle.hk_format.specs.Verbs.{verb_piece}
use Rattle.hk_format.specs.Operands.{register_piece, slot_piece, operand_piece, steps_piece, route_piece, rights_piece, argument_pieces}
use Rattle.hk_format.specs.Spelling.{written_pieces}
use Rattle.hk_format.specs.Canonical.{label_text, written_of, jumps_to}
use Rattle.hk_format.proofs.Cutting.{none_of}
use Rattle.hk_format.proofs.PieceAgain.{digits_number}
use Rattle.hk_format.proofs.TextAgain.{is_plain, piece_solid}
use Rattle.hk_format.proofs.ItemsGood.{rights_good}
use Rattle.hk_format.proofs.LineAgain.{same_is}
use Rattle.hk_print.specs.Jumps.{target_of}
use Rattle.hk_print.proofs.Pieces.{spelled_rights}
use Rattle.hk_text.proofs.NumeralTexts.{numeral_again}
use Rattle.hk_json.specs.Scripts.{behind_last_space, place_labelled, place_named, is_place}

-- what stands behind the last space

abbrev pub is_space : ℕ → Bool
is_space b = eqb b 32

behind_none : (behind xs : List ℕ) → list_any is_space xs ≡ false → behind_last_space behind xs ≡ behind
behind_none behind [] h = refl
behind_none behind (x ∷ xs) h = go (is_space x) h (behind_none behind xs)
  where
    go : (b : Bool) → (b || list_any is_space xs) ≡ false → (list_any is_space xs ≡ false → behind_last_space behind xs ≡ behind)
        → cond b (behind_last_space xs xs) (behind_last_space behind xs) ≡ behind
    go true k rest = absurd (false≢true (sym k))
    go false k rest = rest k

behind_one : (behind xs ys : List ℕ) → list_any is_space xs ≡ false → behind_last_space behind (xs ++ 32 ∷ ys) ≡ behind_last_space ys ys
behind_one behind [] ys h = refl
behind_one behind (x ∷ xs) ys h = go (is_space x) h (behind_one behind xs ys)
  where
    go : (b : Bool) → (b || list_any is_space xs) ≡ false → (list_any is_space xs ≡ false → behind_last_space behind (xs ++ 32 ∷ ys) ≡ behind_last_space ys ys)
        → cond b (behind_last_space (xs ++ 32 ∷ ys) (xs ++ 32 ∷ ys)) (behind_last_space behind (xs ++ 32 ∷ ys)) ≡ behind_last_space ys ys
    go true k rest = absurd (false≢true (sym k))
    go false k rest = rest k

-- the last piece of a line
abbrev pub last_piece : Piece → List Piece → Piece
last_piece p [] = p
last_piece p (q ∷ qs) = last_piece q qs

no_space : (p : Piece) → is_piece p ≡ true → list_any is_space (spell p) ≡ false
no_space p h = none_of is_plain is_space (λ b k. grind (arith, nat_tests)) (spell p) (and_parts (not (is_none (spell p))) (list_all is_plain (spell p)) (piece_solid p h)).1

pub behind_line : (p : Piece) (ps : List Piece) → list_all is_piece (p ∷ ps) ≡ true
    → behind_last_space (spell_line (p ∷ ps)) (spell_line (p ∷ ps)) ≡ spell (last_piece p ps)
behind_line p [] h = behind_none (spell p) (spell p) (no_space p (and_parts (is_piece p) true h).0)
behind_line p (q ∷ qs) h =
    let parts = and_parts (is_piece p) (list_all is_piece (q ∷ qs)) h in
    behind_one (spell_line (p ∷ q ∷ qs)) (spell p) (spell_line (q ∷ qs)) (no_space p parts.0) ∙ behind_line q qs parts.1

-- pieces that are no labels

digits_name_none : (t more : List ℕ) → is_number t ≡ true → place_labelled (t ++ more) ≡ None
digits_name_none [] more h = absurd (false≢true h)
digits_name_none (d ∷ ds) more h =
    let digit : is_digit d ≡ true = (and_parts (is_digit d) (list_all is_digit (d ∷ ds)) h).0 in
    let other : eqb d 108 ≡ false = grind (arith, nat_tests) in
    rw other refl

digits_none : (t : List ℕ) → is_number t ≡ true → place_labelled t ≡ None
digits_none [] h = absurd (false≢true h)
digits_none (d ∷ ds) h =
    let digit : is_digit d ≡ true = (and_parts (is_digit d) (list_all is_digit (d ∷ ds)) h).0 in
    let other : eqb d 108 ≡ false = grind (arith, nat_tests) in
    rw other refl

number_none : (n : ℕ) → n < 2 ^ 64 → place_labelled (decimal n) ≡ None
number_none n h = digits_none (decimal n) (digits_number n h)

operand_none : (o : Operand) → IsOperand o → place_labelled (spell (operand_piece o)) ≡ None
operand_none (operand.Number n) h = number_none n (omega arith)
operand_none (operand.Reg reg) h = refl

slot_none : (s : Slot) → IsSlot s → place_labelled (spell (slot_piece s)) ≡ None
slot_none s h = number_none s.0 (omega arith)

index_none : (x : Index) (more : List ℕ) → IsIndex x → place_labelled (spell_index x ++ more) ≡ None
index_none (Fixed n) more h = digits_name_none (decimal n) more (digits_number n (omega arith))
index_none (ByReg reg) more h = refl

steps_none : (steps : List Index) → BeginsAtSlot steps → AllByRecursion IsIndex steps → place_labelled (spell (steps_piece steps)) ≡ None
steps_none [] begins h = absurd begins
steps_none (Fixed n ∷ []) begins h = number_none n (let small = h.0 in omega arith)
steps_none (ByReg reg ∷ []) begins h = refl
steps_none (x ∷ y ∷ more) begins h = index_none x (46 ∷ join_with_byte 46 (map spell_index (y ∷ more))) h.0

route_none : (r : Route) → IsRoute r → place_labelled (spell (route_piece r)) ≡ None
route_none r h = steps_none r.at h.0 h.2

upper_none : (t : List ℕ) → is_upper t ≡ true → place_labelled t ≡ None
upper_none [] h = refl
upper_none (b ∷ bs) h =
    let plus : eqb b 43 ≡ false = grind (arith, nat_tests) in
    let capital : is_capital b ≡ true = grind (arith, nat_tests) in
    let other : eqb b 108 ≡ false = grind (arith, nat_tests) in
    rw other refl

rights_none : (r : ℕ) → IsRightsWord r → place_labelled (spell (rights_piece (rights_text r))) ≡ None
rights_none r h = ap place_labelled (spelled_rights (rights_text r)) ∙ go (same_text (rights_text r) (codes "-")) refl (rights_good r h)
  where
    go : (b : Bool) → same_text (rights_text r) (codes "-") ≡ b → (b || is_upper (rights_text r)) ≡ true → place_labelled (rights_text r) ≡ None
    go true e k = ap place_labelled (same_is (rights_text r) (codes "-") e)
    go false e k = upper_none (rights_text r) k

-- labels

label_place : (to : ℕ) → to ≤ 4096 → place_labelled (label_text to) ≡ Some to
label_place to h = numeral_again to (omega arith)

-- the last piece of a call is the slot that takes the result
last_argument : (p : Piece) (ns : List ℕ) (into : Slot) → last_piece p (argument_pieces ns into) ≡ slot_piece into
last_argument p [] into = refl
last_argument p (n ∷ ns) into = last_argument (Number n) ns into

named : (p : Piece) (ps : List Piece) (to : Option ℕ) → list_all is_piece (p ∷ ps) ≡ true → place_labelled (spell (last_piece p ps)) ≡ to → place_named (spell_line (p ∷ ps)) ≡ to
named p ps to pieces e = ap place_labelled (behind_line p ps pieces) ∙ e

pub place_again : (len : ℕ) (i : Instr) → len ≤ 4096 → IsInstr len i → list_all is_piece (written_pieces (written_of i)) ≡ true
    → place_named (spell_line (written_pieces (written_of i))) ≡ target_of i
place_again len (instr.Get of at reg) few h ps = named (verb_piece verb.GetData) (route_piece of ∷ operand_piece at ∷ register_piece reg ∷ []) _ ps refl
place_again len (instr.Put of at word) few h ps = named (verb_piece verb.PutData) (route_piece of ∷ operand_piece at ∷ operand_piece word ∷ []) _ ps (operand_none word h.2)
place_again len (instr.Add of word) few h ps = named (verb_piece verb.AddData) (route_piece of ∷ operand_piece word ∷ []) _ ps (operand_none word h.1)
place_again len (instr.Length of reg) few h ps = named (verb_piece verb.Length) (route_piece of ∷ register_piece reg ∷ []) _ ps refl
place_again len (instr.Load from into) few h ps = named (verb_piece verb.Load) (route_piece from ∷ slot_piece into ∷ []) _ ps (slot_none into h.1)
place_again len (instr.Store list at from) few h ps = named (verb_piece verb.Store) (route_piece list ∷ operand_piece at ∷ slot_piece from ∷ []) _ ps (slot_none from h.2)
place_again len (instr.Append list from) few h ps = named (verb_piece verb.Append) (route_piece list ∷ slot_piece from ∷ []) _ ps (slot_none from h.1)
place_again len (instr.Erase list at) few h ps = named (verb_piece verb.Erase) (route_piece list ∷ operand_piece at ∷ []) _ ps (operand_none at h.1)
place_again len (instr.Drop slot) few h ps = named (verb_piece verb.Drop) (slot_piece slot ∷ []) _ ps (slot_none slot h)
place_again len (instr.Restrict slot keep) few h ps = named (verb_piece verb.Restrict) (slot_piece slot ∷ rights_piece (rights_text keep) ∷ []) _ ps (rights_none keep h.1)
place_again len (instr.Look of reg) few h ps = named (verb_piece verb.Look) (route_piece of ∷ register_piece reg ∷ []) _ ps refl
place_again len (instr.MakeTemplate of (making.Amplify check give) into) few h ps =
    named (verb_piece verb.Template) (route_piece of ∷ verb_piece verb.Amplify ∷ rights_piece (rights_text check) ∷ rights_piece (rights_text give) ∷ slot_piece into ∷ []) _ ps
    (slot_none into h.2)
place_again len (instr.MakeTemplate of (making.Create give) into) few h ps =
    named (verb_piece verb.Template) (route_piece of ∷ verb_piece verb.Create ∷ rights_piece (rights_text give) ∷ slot_piece into ∷ []) _ ps (slot_none into h.2)
place_again len (instr.Create by into) few h ps = named (verb_piece verb.Create) (route_piece by ∷ slot_piece into ∷ []) _ ps (slot_none into h.1)
place_again len (instr.Merge with cap into) few h ps = named (verb_piece verb.Merge) (route_piece with ∷ slot_piece cap ∷ slot_piece into ∷ []) _ ps (slot_none into h.2)
place_again len (instr.Copy of into) few h ps = named (verb_piece verb.Copy) (route_piece of ∷ slot_piece into ∷ []) _ ps (slot_none into h.1)
place_again len (instr.Enter proc args into) few h ps =
    named (verb_piece verb.Call) (route_piece proc ∷ argument_pieces args into) _ ps
    (ap (λ (p : Piece). place_labelled (spell p)) (last_argument (route_piece proc) args into) ∙ slot_none into h.2)
place_again len (instr.Leave None) few h ps = named (verb_piece verb.Return) ([]) _ ps refl
place_again len (instr.Leave (Some slot)) few h ps = named (verb_piece verb.Return) (slot_piece slot ∷ []) _ ps (slot_none slot h)
place_again len (instr.P of) few h ps = named (verb_piece verb.P) (route_piece of ∷ []) _ ps (route_none of h)
place_again len (instr.V of) few h ps = named (verb_piece verb.V) (route_piece of ∷ []) _ ps (route_none of h)
place_again len instr.Yield few h ps = named (verb_piece verb.Yield) ([]) _ ps refl
place_again len (instr.SetReg reg to) few h ps = named (verb_piece verb.Set) (register_piece reg ∷ operand_piece to ∷ []) _ ps (operand_none to h.1)
place_again len (instr.AddReg reg by) few h ps = named (verb_piece verb.Add) (register_piece reg ∷ operand_piece by ∷ []) _ ps (operand_none by h.1)
place_again len (instr.Goto to) few h ps = named (verb_piece verb.Goto) (Word (label_text to) ∷ []) _ ps (label_place to (omega arith))
place_again len (instr.IfEq left right to) few h ps =
    named (verb_piece verb.IfEq) (operand_piece left ∷ operand_piece right ∷ Word (label_text to) ∷ []) _ ps (label_place to (let most = h.2 in omega arith))
place_again len (instr.IfLess left right to) few h ps =
    named (verb_piece verb.IfLess) (operand_piece left ∷ operand_piece right ∷ Word (label_text to) ∷ []) _ ps (label_place to (let most = h.2 in omega arith))
place_again len (instr.IfDenied to) few h ps = named (verb_piece verb.IfDenied) (Word (label_text to) ∷ []) _ ps (label_place to (omega arith))

-- the place of a jump, and of no other instruction
pub goes_where : (n : ℕ) (i : Instr) → is_place n (target_of i) ≡ jumps_to n i
goes_where n (instr.Get a b c) = refl
goes_where n (instr.Put a b c) = refl
goes_where n (instr.Add a b) = refl
goes_where n (instr.Length a b) = refl
goes_where n (instr.Load a b) = refl
goes_where n (instr.Store a b c) = refl
goes_where n (instr.Append a b) = refl
goes_where n (instr.Erase a b) = refl
goes_where n (instr.Drop a) = refl
goes_where n (instr.Restrict a b) = refl
goes_where n (instr.Look a b) = refl
goes_where n (instr.MakeTemplate a b c) = refl
goes_where n (instr.Create a b) = refl
goes_where n (instr.Merge a b c) = refl
goes_where n (instr.Copy a b) = refl
goes_where n (instr.Enter a b c) = refl
goes_where n (instr.Leave a) = refl
goes_where n (instr.P a) = refl
goes_where n (instr.V a) = refl
goes_where n instr.Yield = refl
goes_where n (instr.SetReg a b) = refl
goes_where n (instr.AddReg a b) = refl
goes_where n (instr.Goto a) = refl
goes_where n (instr.IfEq a b c) = refl
goes_where n (instr.IfLess a b c) = refl
goes_where n (instr.IfDenied a) = refl
