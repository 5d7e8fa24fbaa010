-- What the readers give of pieces that some text spells is in form and in range.
use Rattle.std.proofs.Common.{◌≡◌, ℕ, zero, suc, ◌<◌, ◌≤◌, Bool, true, false, cond, ltb, List, [], ◌∷◌, length, refl, arith, ◌||◌, Ok, Err, Some, None, Result, Option}
use Rattle.std.specs.Prelude.{IfOk, codes}
use Rattle.std.specs.List.{list_all, AllByRecursion, find}
use Rattle.std.proofs.lemmas.Bool.{and_parts, false≢true, ltb-true}
use Rattle.std.proofs.lemmas.Bool.Decides.{nat_tests}
use Rattle.hk_format.specs.declared.causes.ParseCause.{ParseCause}
use Rattle.hk_format.specs.declared.causes.ParseCause.TheVariants.{UnknownWord, OutOfRange}
use Rattle.hk_model.specs.declared.instructions.Index.{Index}
use Rattle.hk_model.specs.declared.instructions.Index.TheVariants.{Fixed, ByReg}
use Rattle.hk_model.specs.declared.instructions.Operand.TheVariants as operand
use Rattle.hk_format.specs.declared.syntax.Verb.{Verb}
use Rattle.hk_model.specs.Labels.{between, is_word, is_name, is_register, same_text}
use Rattle.hk_model.specs.Limits.{slot_limit, index_bound}
use Rattle.hk_format.specs.Pieces.{Piece, Word, Upper, Dash, Number, Path, is_upper, is_piece, is_index, register_of}
use Rattle.hk_model.specs.WorldValue.{IsSlot, IsReg, IsOperand, IsIndex, IsRoute, IsWord32, BeginsAtSlot}
use Rattle.hk_format.specs.Verbs.{verb_word, all_verbs}
use Rattle.hk_format.specs.Reading.{Reads, Found, ◌>>=◌, onward, taken, wanted, end, unknown, optional, each, at_most}
use Rattle.hk_format.specs.Forms.{as_verb, verb_found, as_word, as_name, as_type, as_rights, as_number, as_number_in, as_number_below, as_slot, slot_numbered, as_register}
use Rattle.hk_format.specs.Forms.{as_operand, as_route, is_route, is_index_below, route_of}
use Rattle.hk_format.specs.Syntax.{IsWordText, IsName, IsTypeText, IsRightsText}
use Rattle.hk_text.proofs.PiecesGood.{register_below}

-- pieces that some text spells
abbrev pub AreSpelled : List Piece → Type 0
AreSpelled ps = list_all is_piece ps ≡ true

-- what was read has this property, and the pieces that are left are spelled by some text
abbrev pub Has : {A : Type 0} → (A → Type 0) → Found A → Type 0
Has P found = IfOk found (λ x. P x.0 × AreSpelled x.1)

-- the reader gives only what has this property
unfoldable pub Good : {A : Type 0} → (A → Type 0) → Reads A → Type 0
Good P r = (ps : List Piece) → AreSpelled ps → Has P (r ps)

-- readers of readers

pub bind_good : {A B : Type 0} (P : A → Type 0) (Q : B → Type 0) (r : Reads A) (f : A → Reads B) → Good P r → ((x : A) → P x → Good Q (f x)) → Good Q (r >>= f)
unfolding Good
bind_good {A} {B} P Q r f first next ps h = go (r ps) (first ps h)
  where
    go : (found : Found A) → Has P found → Has Q (onward found f)
    go (Ok x) k = next x.0 k.0 x.1 k.1
    go (Err cause) k = tt

pub end_good : {A : Type 0} (P : A → Type 0) (x : A) → P x → Good P (end x)
unfolding Good
end_good P x h [] k = (h, refl)
end_good P x h (p ∷ ps) k = tt

pub unknown_good : {A : Type 0} (P : A → Type 0) → Good P unknown
unfolding Good
unknown_good P ps h = tt

-- a form gives only what has this property
abbrev pub Forms : {A : Type 0} → (A → Type 0) → (Piece → Result A ParseCause) → Type 0
Forms P form = (p : Piece) → is_piece p ≡ true → IfOk (form p) P

taken_good : {A : Type 0} (P : A → Type 0) (o : Result A ParseCause) (ps : List Piece) → IfOk o P → AreSpelled ps → Has P (taken o ps)
taken_good P (Ok x) ps h k = (h, k)
taken_good P (Err cause) ps h k = tt

pub wanted_good : {A : Type 0} (P : A → Type 0) (form : Piece → Result A ParseCause) → Forms P form → Good P (wanted form)
unfolding Good
wanted_good P form good [] k = tt
wanted_good P form good (p ∷ ps) k =
    let parts = and_parts (is_piece p) (list_all is_piece ps) k in
    taken_good P (form p) ps (good p parts.0) parts.1

-- a piece of this form, and then the next reader
pub takes : {A B : Type 0} (P : A → Type 0) (Q : B → Type 0) (form : Piece → Result A ParseCause) (f : A → Reads B) → Forms P form → ((x : A) → P x → Good Q (f x))
    → Good Q (wanted form >>= f)
takes P Q form f good next = bind_good P Q (wanted form) f (wanted_good P form good) next

-- nothing, or something with this property
abbrev pub IfSome : {A : Type 0} → (A → Type 0) → Option A → Type 0
IfSome P None = Unit {0}
IfSome P (Some x) = P x

pub optional_good : {A : Type 0} (P : A → Type 0) (form : Piece → Result A ParseCause) → Forms P form → Good (IfSome P) (optional form)
unfolding Good
optional_good P form good [] k = (tt, refl)
optional_good {A} P form good (p ∷ ps) k = go (wanted form (p ∷ ps)) (wanted_good P form good (p ∷ ps) k)
  where
    go : (found : Found A) → Has P found → Has (IfSome P) (onward found (λ x rest. Ok (Some x, rest)))
    go (Ok x) h = h
    go (Err cause) h = tt

pub each_good : {A : Type 0} (P : A → Type 0) (form : Piece → Result A ParseCause) → Forms P form → Good (AllByRecursion P) (each form)
unfolding Good
each_good P form good [] k = (tt, refl)
each_good {A} P form good (p ∷ ps) k = go (wanted form (p ∷ ps)) (each form ps) (wanted_good P form good (p ∷ ps) k)
    (each_good P form good ps (and_parts (is_piece p) (list_all is_piece ps) k).1)
  where
    later : (x : A) (more : Found (List A)) → P x → Has (AllByRecursion P) more → Has (AllByRecursion P) (onward more (λ xs end. Ok (x ∷ xs, end)))
    later x (Ok xs) h m = ((h, m.0), m.1)
    later x (Err cause) h m = tt

    go : (found : Found A) (more : Found (List A)) → Has P found → Has (AllByRecursion P) more
        → Has (AllByRecursion P) (onward found (λ x rest. onward more (λ xs end. Ok (x ∷ xs, end))))
    go (Ok x) more h m = later x.0 more h.0 m
    go (Err cause) more h m = tt

-- so many at most, each with this property
abbrev pub AtMost : {A : Type 0} → ℕ → (A → Type 0) → List A → Type 0
AtMost room P xs = (length xs ≤ room) × AllByRecursion P xs

pub at_most_good : {A : Type 0} (room : ℕ) (P : A → Type 0) (form : Piece → Result A ParseCause) → Forms P form → Good (AtMost room P) (at_most room form)
unfolding Good
at_most_good room P form good [] k = ((omega arith, tt), refl)
at_most_good {A} zero P form good (p ∷ ps) k = go (wanted form (p ∷ ps))
  where
    go : (found : Found A) → Has (AtMost zero P) (onward found (λ x rest. Err OutOfRange))
    go (Ok x) = tt
    go (Err cause) = tt
at_most_good {A} (suc room) P form good (p ∷ ps) k = go (wanted form (p ∷ ps)) (at_most room form ps) (wanted_good P form good (p ∷ ps) k)
    (at_most_good room P form good ps (and_parts (is_piece p) (list_all is_piece ps) k).1)
  where
    later : (x : A) (more : Found (List A)) → P x → Has (AtMost room P) more → Has (AtMost (suc room) P) (onward more (λ xs end. Ok (x ∷ xs, end)))
    later x (Ok xs) h m = ((omega (arith, m.0.0), (h, m.0.1)), m.1)
    later x (Err cause) h m = tt

    go : (found : Found A) (more : Found (List A)) → Has P found → Has (AtMost room P) more
        → Has (AtMost (suc room) P) (onward found (λ x rest. onward more (λ xs end. Ok (x ∷ xs, end))))
    go (Ok x) more h m = later x.0 more h.0 m
    go (Err cause) more h m = tt

-- the forms

-- one of two answers
either : {A : Type 0} (P : A → Type 0) (b : Bool) (x : A) (cause : ParseCause) → (b ≡ true → P x) → IfOk (cond b (Ok x) (Err cause)) P
either P true x cause h = h refl
either P false x cause h = tt

or_left : (a b : Bool) → a ≡ true → (a || b) ≡ true
or_left true b h = refl
or_left false b h = absurd (false≢true h)

or_right : (a b : Bool) → b ≡ true → (a || b) ≡ true
or_right true b h = refl
or_right false b h = h

abbrev pub Any : {A : Type 0} → A → Type 0
Any x = Unit {0}

pub verb_forms : Forms Any as_verb
verb_forms (Word t) h = go (find (λ v. same_text t (verb_word v)) all_verbs)
  where
    go : (o : Option Verb) → IfOk (verb_found o) Any
    go (Some v) = tt
    go None = tt
verb_forms _ h = tt

pub word_forms : Forms IsWordText as_word
word_forms (Word t) h = h
word_forms _ h = tt

pub name_forms : Forms IsName as_name
name_forms (Word t) h = either IsName (is_name t) t UnknownWord (λ k. k)
name_forms _ h = tt

pub type_forms : Forms IsTypeText as_type
type_forms (Word t) h = or_left (is_word t) (is_upper t) h
type_forms (Upper t) h = or_right (is_word t) (is_upper t) h
type_forms _ h = tt

pub rights_forms : Forms IsRightsText as_rights
rights_forms (Upper t) h = or_right (same_text t (codes "-")) (is_upper t) h
rights_forms Dash h = refl
rights_forms _ h = tt

pub number_forms : Forms IsWord32 as_number
number_forms (Number n) h = grind (arith, nat_tests)
number_forms _ h = tt

-- in a range
abbrev pub IsBetween : ℕ → ℕ → ℕ → Type 0
IsBetween low high n = (low ≤ n) × (n ≤ high)

pub number_in_forms : (low high : ℕ) → Forms (IsBetween low high) (as_number_in low high)
number_in_forms low high (Number n) h = either (IsBetween low high) (between low high n) n OutOfRange (λ k. grind (arith, nat_tests))
number_in_forms low high _ h = tt

-- below a bound
abbrev pub IsBelow : ℕ → ℕ → Type 0
IsBelow bound n = n < bound

pub number_below_forms : (bound : ℕ) → Forms (IsBelow bound) (as_number_below bound)
number_below_forms bound (Number n) h = either (IsBelow bound) (ltb n bound) n OutOfRange (λ k. ltb-true n bound k)
number_below_forms bound _ h = tt

pub slot_forms : Forms IsSlot as_slot
slot_forms (Number n) h = either IsSlot (ltb n slot_limit) (slot_numbered n) OutOfRange (λ k. ltb-true n slot_limit k)
slot_forms _ h = tt

register_small : (t : List ℕ) → is_register t ≡ true → IsReg (register_of t)
register_small t h = ltb-true (register_of t) 8 (register_below t h)

pub register_forms : Forms IsReg as_register
register_forms (Word t) h = either IsReg (is_register t) (register_of t) UnknownWord (register_small t)
register_forms _ h = tt

pub operand_forms : Forms IsOperand as_operand
operand_forms (Number n) h = grind (arith, nat_tests)
operand_forms (Word t) h = either IsOperand (is_register t) (operand.Reg (register_of t)) UnknownWord (register_small t)
operand_forms _ h = tt

index_small : (bound : ℕ) (i : Index) → bound ≤ index_bound → is_index_below bound i ≡ true → is_index i ≡ true → IsIndex i
index_small bound (Fixed n) few h k = let less = ltb-true n bound h in omega (arith, less, few)
index_small bound (ByReg reg) few h k = ltb-true reg 8 k

indices_small : (is : List Index) → list_all (is_index_below index_bound) is ≡ true → list_all is_index is ≡ true → AllByRecursion IsIndex is
indices_small [] h k = tt
indices_small (i ∷ is) h k =
    let below = and_parts (is_index_below index_bound i) (list_all (is_index_below index_bound) is) h in
    let spelled = and_parts (is_index i) (list_all is_index is) k in
    (index_small index_bound i (omega arith) below.0 spelled.0, indices_small is below.1 spelled.1)

begins : (i : Index) (is : List Index) → is_index_below slot_limit i ≡ true → BeginsAtSlot (i ∷ is)
begins (Fixed n) is h = ltb-true n slot_limit h
begins (ByReg reg) is h = tt

route_small : (is : List Index) → is_route is ≡ true → is_piece (Path is) ≡ true → IsRoute (route_of is)
route_small [] h k = absurd (false≢true h)
route_small (i ∷ is) h k =
    let ranges = and_parts (is_index_below slot_limit i) (list_all (is_index_below index_bound) is) h in
    let spelled = and_parts (between 2 8 (length (i ∷ is))) (list_all is_index (i ∷ is)) k in
    let each = and_parts (is_index i) (list_all is_index is) spelled.1 in
    let few : length (i ∷ is) ≤ 8 = grind (arith, nat_tests, spelled.0) in
    (begins i is ranges.0, few, (index_small slot_limit i (omega arith) ranges.0 each.0, indices_small is ranges.1 each.1))

slot_route : (n : ℕ) → ltb n slot_limit ≡ true → IsRoute (route_of (Fixed n ∷ []))
slot_route n h = let less = ltb-true n slot_limit h in (less, omega arith, (omega (arith, less), tt))

register_route : (reg : ℕ) → IsReg reg → IsRoute (route_of (ByReg reg ∷ []))
register_route reg h = (tt, omega arith, (h, tt))

pub route_forms : Forms IsRoute as_route
route_forms (Path is) h = either IsRoute (is_route is) (route_of is) OutOfRange (λ k. route_small is k h)
route_forms (Number n) h = either IsRoute (ltb n slot_limit) (route_of (Fixed n ∷ [])) OutOfRange (slot_route n)
route_forms (Word t) h = either IsRoute (is_register t) (route_of (ByReg (register_of t) ∷ [])) UnknownWord (λ k. register_route (register_of t) (register_small t k))
route_forms _ h = tt
