-- Words that spell a number, and what the words of a command read.
use Rattle.std.specs.Prelude.{◌≡◌, ℕ, ◌==◌, List, [], ◌∷◌, Option, Some, None, IfNone, if◌then◌else◌}
use Rattle.std.proofs.Common.{arith, ap, sym, ◌∙◌, ◌<◌, ◌^◌, inl, inr}
use Rattle.std.specs.Fmt.{decimal}
use Rattle.std.proofs.lemmas.Fmt.{decimal_injective}
use Rattle.hk_text.specs.Numerals.{numeral_of}
use Rattle.hk_text.proofs.NumeralTexts.{numeral_again}
use Rattle.hk_top.specs.Words.{IsBetween, IsNoNumber, IsReading, IsUnjson, ReadsScript, ReadsRecord, Generates, IsGen}

-- what spells no numeral spells no number of a range
pub none_spelled : (largest : ℕ) (word : List ℕ) → largest < 2 ^ 32 → numeral_of word ≡ None → IsNoNumber largest word
none_spelled largest word small e n may is =
    let some = numeral_again n (omega (arith, may.1, small)) in let both : Some n ≡ None = sym some ∙ (ap numeral_of (sym is) ∙ e) in absurd (cc)

-- nor does what spells a number outside it
pub other_spelled : (largest : ℕ) (word : List ℕ) (n : ℕ) → largest < 2 ^ 32 → numeral_of word ≡ Some n → (IsBetween largest n → ⊥) → IsNoNumber largest word
other_spelled largest word n small e h number may is =
    let some = numeral_again number (omega (arith, may.1, small)) in
    let both : Some number ≡ Some n = sym some ∙ (ap numeral_of (sym is) ∙ e) in
    let same : number ≡ n = cc in
    h (rw same at may)

pub from_none : {P : Type 0} (r : Option ℕ) → P → IfNone r P
from_none None p = p
from_none (Some n) p = tt

-- what the words of a command read, by their first two letters: 0 a script, 1 a record, 2 a JSON text, 3 nothing
abbrev kind_of : ℕ → ℕ → ℕ
kind_of first second =
    if first == 98 then (if second == 111 then 0 else 1)
    else if first == 99 then 1
    else if first == 116 then 1
    else if first == 117 then 2
    else if first == 103 then 3
    else 0

abbrev input_kind : List (List ℕ) → ℕ
input_kind [] = 0
input_kind ([] ∷ words) = 0
input_kind ((first ∷ []) ∷ words) = 0
input_kind ((first ∷ second ∷ letters) ∷ words) = kind_of first second

script_kind : {words : List (List ℕ)} → ReadsScript words → input_kind words ≡ 0
script_kind (inl run) = ap input_kind run
script_kind (inr (inl many)) = ap input_kind many.1.0
script_kind (inr (inr (inl show))) = ap input_kind show
script_kind (inr (inr (inr (inl bound)))) = ap input_kind bound
script_kind (inr (inr (inr (inr json)))) = ap input_kind json

record_kind : {words : List (List ℕ)} → ReadsRecord words → input_kind words ≡ 1
record_kind (inl check) = ap input_kind check
record_kind (inr (inl confine)) = ap input_kind confine
record_kind (inr (inr (inl trace))) = ap input_kind trace.1.0
record_kind (inr (inr (inr back))) = ap input_kind back.1.0

json_kind : {words : List (List ℕ)} → IsUnjson words → input_kind words ≡ 2
json_kind unjson = ap input_kind unjson

gen_kind : {words : List (List ℕ)} → Generates words → input_kind words ≡ 3
gen_kind gen = ap input_kind gen.1.0

-- no words read two of these
pub no_record : {words : List (List ℕ)} → ReadsScript words → ReadsRecord words → ⊥
no_record script record_read = let one = script_kind script in let other = record_kind record_read in omega (arith, one, other)

pub no_json : {words : List (List ℕ)} → ReadsScript words → IsUnjson words → ⊥
no_json script json = let one = script_kind script in let other = json_kind json in omega (arith, one, other)

pub no_json_record : {words : List (List ℕ)} → ReadsRecord words → IsUnjson words → ⊥
no_json_record record_read json = let one = record_kind record_read in let other = json_kind json in omega (arith, one, other)

-- nor do those read anything that generate a world
pub gen_reads_nothing : {words : List (List ℕ)} → Generates words → IsReading words → ⊥
gen_reads_nothing gen (inl script) = let one = script_kind script in let other = gen_kind gen in omega (arith, one, other)
gen_reads_nothing gen (inr (inl record_read)) = let one = record_kind record_read in let other = gen_kind gen in omega (arith, one, other)
gen_reads_nothing gen (inr (inr json)) = let one = json_kind json in let other = gen_kind gen in omega (arith, one, other)

abbrev second_word : List (List ℕ) → List ℕ
second_word (first ∷ second ∷ words) = second
second_word words = []

-- words spell one number of processes
pub one_count : {words : List (List ℕ)} {a b : ℕ} → IsGen words a → IsGen words b → a ≡ b
one_count {words} {a} {b} mine other =
    let spelled : decimal a ≡ decimal b = ap second_word (sym mine.0 ∙ other.0) in
    decimal_injective a b (omega (arith, mine.1.1)) (omega (arith, other.1.1)) spelled
