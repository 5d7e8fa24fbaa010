-- What the forms take of the piece that a text spells.
use Rattle.std.proofs.Common.{◌≡◌, ℕ, ◌<◌, ◌≤◌, ◌==◌, Bool, true, false, cond, eqb, ltb, List, [], ◌∷◌, length, map, refl, sym, ap, subst, ◌∙◌, arith, ◌&&◌, ◌||◌, Option, Some}
use Rattle.std.proofs.Common.{None, Result, Ok, Err}
use Rattle.std.specs.Prelude.{codes, find}
use Rattle.std.specs.List.{AllByRecursion, list_all, slice_split, onto_first}
use Rattle.std.proofs.lemmas.Bool.{and_parts, and_from, false≢true, lt-ltb, le-ltb, le-leb, lt-leb, ltb-true}
use Rattle.std.proofs.lemmas.Bool.Decides.{nat_tests}
use Rattle.hk_rights.specs.Rights.{Row, IsRightsWord, number_named, right_table, right_numbers, name_of}
use Rattle.hk_format.specs.declared.causes.ParseCause.{ParseCause}
use Rattle.hk_format.specs.declared.causes.ParseCause.TheVariants.{UnknownWord, OutOfRange}
use Rattle.hk_model.specs.declared.instructions.Index.{Index}
use Rattle.hk_model.specs.declared.instructions.Index.TheVariants.{Fixed}
use Rattle.hk_format.specs.declared.syntax.Verb.{Verb}
use Rattle.hk_format.specs.Verbs.{verb_word, all_verbs}
use Rattle.hk_model.specs.Labels.{between, first, is_lower, is_capital, is_digit, same_text}
use Rattle.hk_format.specs.Pieces.{Piece, Word, Upper, Dash, Number, Path, value, is_upper}
use Rattle.hk_format.specs.Operands.{rights_piece}
use Rattle.hk_format.specs.RightsTexts.{rights_spelled, rights_text}
use Rattle.hk_format.specs.Syntax.{IsRightsText}
use Rattle.hk_format.specs.Forms.{as_verb, verb_found, as_number_below, as_word, slot_numbered}
use Rattle.hk_format.specs.LineReading.{as_word32, as_any_slot, is_number_index, index_number, as_path, as_rights_set, as_right, set_found}
use Rattle.hk_model.specs.Limits.{inc_bound}
use Rattle.hk_format.proofs.ItemsGood.{rights_good}
use Rattle.hk_format.proofs.LineAgain.{same_is}
use Rattle.hk_format.proofs.LoadGood.{rights_word}
use Rattle.hk_text.specs.Numerals.{is_numeral, numeral_of}
use Rattle.hk_audit.specs.TextPieces.{is_index_numeral, indices_of, indices_spelled, if_canonical, canonical_rights, nothing, seen_rights, seen_path, seen_number, seen}
use Rattle.hk_audit.proofs.Spelled.{named_row}

-- by cases on what a text spells

-- a form that takes no rights, no path and no word, of what is no number
pub not_number : {A : Type 0} (form : Piece → Result A ParseCause) (t : List ℕ) → ((x : List ℕ) → form (Word x) ≡ Err UnknownWord)
    → ((x : List ℕ) → form (Upper x) ≡ Err UnknownWord)
    → form Dash ≡ Err UnknownWord → ((x : List Index) → form (Path x) ≡ Err UnknownWord) → numeral_of t ≡ None → form (seen t) ≡ Err UnknownWord
unfolding seen
not_number form t word upper dash path e = rw e (by_path (indices_spelled t))
  where
    by_rights : (o : Option ℕ) → form (seen_rights t o) ≡ Err UnknownWord
    by_rights (Some w) = go (same_text t (codes "-"))
      where
        go : (b : Bool) → form (cond b Dash (Upper t)) ≡ Err UnknownWord
        go true = dash
        go false = upper t
    by_rights None = upper []

    by_path : (o : Option (List ℕ)) → form (seen_path t o) ≡ Err UnknownWord
    by_path (Some p) = path (map Fixed p)
    by_path None = go (is_lower (first t))
      where
        go : (b : Bool) → form (cond b (Word t) (seen_rights t (canonical_rights t))) ≡ Err UnknownWord
        go true = word t
        go false = by_rights (canonical_rights t)

-- a form that takes no rights and no word, of what is no number and no path
pub not_path : {A : Type 0} (form : Piece → Result A ParseCause) (t : List ℕ) → ((x : List ℕ) → form (Word x) ≡ Err UnknownWord) → ((x : List ℕ) → form (Upper x) ≡ Err UnknownWord)
    → form Dash ≡ Err UnknownWord → numeral_of t ≡ None → indices_spelled t ≡ None → form (seen t) ≡ Err UnknownWord
unfolding seen
not_path form t word upper dash e f = rw (e, f) (go (is_lower (first t)))
  where
    by_rights : (o : Option ℕ) → form (seen_rights t o) ≡ Err UnknownWord
    by_rights (Some w) = go (same_text t (codes "-"))
      where
        go : (b : Bool) → form (cond b Dash (Upper t)) ≡ Err UnknownWord
        go true = dash
        go false = upper t
    by_rights None = upper []

    go : (b : Bool) → form (cond b (Word t) (seen_rights t (canonical_rights t))) ≡ Err UnknownWord
    go true = word t
    go false = by_rights (canonical_rights t)

-- a number
pub seen_numeral : (t : List ℕ) (n : ℕ) → numeral_of t ≡ Some n → seen t ≡ Number n
unfolding seen
seen_numeral t n e = rw e refl

-- what does not begin with a digit is no number and no path

no_numeral : (t : List ℕ) → is_digit (first t) ≡ false → is_numeral t ≡ false
no_numeral t h = rw h refl

pub no_digit : (t : List ℕ) → is_digit (first t) ≡ false → (numeral_of t ≡ None) × (indices_spelled t ≡ None)
no_digit t h = (rw (no_numeral t h) refl, parts t h)
  where
    bad : (x : List ℕ) (xs : List (List ℕ)) → is_digit (first x) ≡ false → indices_of (x ∷ xs) ≡ None
    bad x xs k = rw (no_numeral x k) (go _)
      where
        go : (b : Bool) → cond (b && false) (Some (map value (x ∷ xs))) None ≡ None
        go true = refl
        go false = refl

    parts : (u : List ℕ) → is_digit (first u) ≡ false → indices_spelled u ≡ None
    parts [] k = bad [] [] refl
    parts (b ∷ bs) k = cut (eqb b 46) (slice_split (λ c. eqb c 46) bs)
      where
        cut : (c : Bool) (rest : List (List ℕ)) → indices_of (cond c ([] ∷ rest) (onto_first b rest)) ≡ None
        cut true rest = bad [] rest refl
        cut false [] = bad (b ∷ []) [] k
        cut false (x ∷ xs) = bad (b ∷ x) xs k

-- a word
pub seen_word : (t : List ℕ) → is_lower (first t) ≡ true → seen t ≡ Word t
unfolding seen
seen_word t h =
    let none = no_digit t (grind (arith, nat_tests)) in
    rw (none.0, none.1, h) refl

-- a path
pub path_taken : (t : List ℕ) (p : List ℕ) → indices_spelled t ≡ Some p → as_path (Path (map Fixed p)) ≡ Ok p
path_taken t p e = go (slice_split (λ b. b == 46) t) e
  where
    numbers : (ts : List (List ℕ)) → list_all is_index_numeral ts ≡ true
        → (list_all is_number_index (map Fixed (map value ts)) ≡ true) × (map index_number (map Fixed (map value ts)) ≡ map value ts)
    numbers [] h = (refl, refl)
    numbers (x ∷ xs) h =
        let parts = and_parts (is_index_numeral x) (list_all is_index_numeral xs) h in
        let others = numbers xs parts.1 in
        (and_from _ _ (and_parts (is_numeral x) (ltb (value x) 65536) parts.0).1 others.0, ap (λ (ns : List ℕ). value x ∷ ns) others.1)

    go : (ts : List (List ℕ)) → indices_of ts ≡ Some p → as_path (Path (map Fixed p)) ≡ Ok p
    go ts k = all (list_all is_index_numeral ts) refl k
      where
        all : (b : Bool) → list_all is_index_numeral ts ≡ b → cond (between 2 8 (length ts) && b) (Some (map value ts)) None ≡ Some p → as_path (Path (map Fixed p)) ≡ Ok p
        all true good h = some (between 2 8 (length ts)) h
          where
            some : (b : Bool) → cond (b && true) (Some (map value ts)) None ≡ Some p → as_path (Path (map Fixed p)) ≡ Ok p
            some true h =
                let same : map value ts ≡ p = cc in
                let known = numbers ts good in
                subst (λ (q : List ℕ). as_path (Path (map Fixed q)) ≡ Ok q) same (rw (known.0, known.1) refl)
            some false h = absurd (let none : None ≡ Some p = h in cc)
        all false good h = none (between 2 8 (length ts)) h
          where
            none : (b : Bool) → cond (b && false) (Some (map value ts)) None ≡ Some p → as_path (Path (map Fixed p)) ≡ Ok p
            none true h = absurd (let none : None ≡ Some p = h in cc)
            none false h = absurd (let none : None ≡ Some p = h in cc)

pub seen_path_of : (t : List ℕ) (p : List ℕ) → numeral_of t ≡ None → indices_spelled t ≡ Some p → seen t ≡ Path (map Fixed p)
unfolding seen
seen_path_of t p e f = rw (e, f) refl

-- rights

-- what the canonical spelling of a set is known to be
pub record IsSpelling (t : List ℕ) (w : ℕ) : Type 0 where
  pub text : rights_text w ≡ t
  pub meant : rights_spelled t ≡ Some w
  pub word : IsRightsWord w
  pub good : IsRightsText t

pub spelled_is : (t : List ℕ) (w : ℕ) → canonical_rights t ≡ Some w → IsSpelling t w
spelled_is t w e = go (rights_spelled t) refl e
  where
    go : (o : Option ℕ) → rights_spelled t ≡ o → if_canonical t o ≡ Some w → IsSpelling t w
    go None k h = absurd (let none : None ≡ Some w = h in cc)
    go (Some r) k h = by (same_text (rights_text r) t) refl h
      where
        by : (b : Bool) → same_text (rights_text r) t ≡ b → cond b (Some r) None ≡ Some w → IsSpelling t w
        by false s h = absurd (let none : None ≡ Some w = h in cc)
        by true s h =
            let same : r ≡ w = cc in
            let text : rights_text r ≡ t = same_is (rights_text r) t s in
            let known : IsRightsWord r = rights_word t r (rw k refl) in
            record { text = rw (← same) text; meant = rw (← same) k; word = rw (← same) known; good = rw (← text) (rights_good r known) }

first_upper : (t : List ℕ) → IsRightsText t → (is_digit (first t) ≡ false) × (is_lower (first t) ≡ false)
first_upper t h = go (same_text t (codes "-")) refl h
  where
    capital : (u : List ℕ) → is_upper u ≡ true → (is_digit (first u) ≡ false) × (is_lower (first u) ≡ false)
    capital [] k = absurd (false≢true k)
    capital (b ∷ bs) k =
        let one : is_capital b ≡ true = grind (arith, nat_tests) in
        (grind (arith, nat_tests), grind (arith, nat_tests))

    go : (b : Bool) → same_text t (codes "-") ≡ b → (b || is_upper t) ≡ true → (is_digit (first t) ≡ false) × (is_lower (first t) ≡ false)
    go true e k = let same = same_is t (codes "-") e in rw same (refl, refl)
    go false e k = capital t k

pub seen_spelled : (t : List ℕ) (w : ℕ) → canonical_rights t ≡ Some w → seen t ≡ rights_piece t
unfolding seen
seen_spelled t w e =
    let known = spelled_is t w e in
    let first = first_upper t known.good in
    let none = no_digit t first.0 in
    rw (none.0, none.1, first.1, e) refl

none_meant : rights_spelled [] ≡ None
unfolding rights_spelled number_named right_table
none_meant = refl

pub rights_taken : (t : List ℕ) (w : ℕ) → canonical_rights t ≡ Some w → as_rights_set (seen t) ≡ Ok w
unfolding rights_spelled
rights_taken t w e = rw (seen_spelled t w e) (go (same_text t (codes "-")) refl)
  where
    known : IsSpelling t w
    known = spelled_is t w e

    go : (b : Bool) → same_text t (codes "-") ≡ b → as_rights_set (cond b Dash (Upper t)) ≡ Ok w
    go true k =
        let meant : ◌≡◌ {A = Option ℕ} (rights_spelled (codes "-")) (Some w) = sym (ap rights_spelled (same_is t (codes "-") k)) ∙ known.meant in
        let zero : ◌≡◌ {A = Option ℕ} (Some 0) (Some w) = meant in
        let same : 0 ≡ w = cc in ap Ok same
    go false k = rw known.meant refl

pub rights_refused : (t : List ℕ) → canonical_rights t ≡ None → as_rights_set (seen t) ≡ Err UnknownWord
unfolding seen
rights_refused t e = by_number (numeral_of t)
  where
    by_path : (o : Option (List ℕ)) → as_rights_set (seen_path t o) ≡ Err UnknownWord
    by_path (Some p) = refl
    by_path None = rw e (go (is_lower (first t)))
      where
        go : (b : Bool) → as_rights_set (cond b (Word t) nothing) ≡ Err UnknownWord
        go true = refl
        go false = ap set_found none_meant

    by_number : (o : Option ℕ) → as_rights_set (seen_number t o) ≡ Err UnknownWord
    by_number (Some n) = refl
    by_number None = by_path (indices_spelled t)

-- a right

IsSeen : Row → Type 0
IsSeen row = seen row.0 ≡ Upper row.0

all_seen : AllByRecursion IsSeen right_table
unfolding IsSeen seen right_table right_numbers number_named name_of rights_spelled rights_text
all_seen = (refl, (refl, (refl, (refl, (refl, (refl, (refl, (refl, (refl, (refl, (refl, (refl, (refl, (refl, (refl, (refl, (refl, (refl, (refl, tt)))))))))))))))))))

pub seen_right : (t : List ℕ) (n : ℕ) → number_named t ≡ Some n → seen t ≡ Upper t
unfolding IsSeen
seen_right t n e =
    let row = named_row IsSeen t n all_seen e in
    subst (λ (u : List ℕ). seen u ≡ Upper u) row.1 row.3

pub right_taken : (t : List ℕ) (n : ℕ) → number_named t ≡ Some n → as_right (seen t) ≡ Ok n
right_taken t n e = rw (seen_right t n e, e) refl

none_named : number_named [] ≡ None
unfolding number_named right_table
none_named = refl

pub right_refused : (t : List ℕ) → number_named t ≡ None → as_right (seen t) ≡ Err UnknownWord
unfolding seen
right_refused t e = by_number (numeral_of t)
  where
    by_rights : (o : Option ℕ) → as_right (seen_rights t o) ≡ Err UnknownWord
    by_rights (Some w) = go (same_text t (codes "-"))
      where
        go : (b : Bool) → as_right (cond b Dash (Upper t)) ≡ Err UnknownWord
        go true = refl
        go false = rw e refl
    by_rights None = ap set_found none_named

    by_path : (o : Option (List ℕ)) → as_right (seen_path t o) ≡ Err UnknownWord
    by_path (Some p) = refl
    by_path None = go (is_lower (first t))
      where
        go : (b : Bool) → as_right (cond b (Word t) (seen_rights t (canonical_rights t))) ≡ Err UnknownWord
        go true = refl
        go false = by_rights (canonical_rights t)

    by_number : (o : Option ℕ) → as_right (seen_number t o) ≡ Err UnknownWord
    by_number (Some n) = refl
    by_number None = by_path (indices_spelled t)

-- what is no word
pub not_word : {A : Type 0} (form : Piece → Result A ParseCause) (t : List ℕ) → ((x : List ℕ) → form (Upper x) ≡ Err UnknownWord)
    → form Dash ≡ Err UnknownWord → ((x : List Index) → form (Path x) ≡ Err UnknownWord) → ((n : ℕ) → form (Number n) ≡ Err UnknownWord) → is_lower (first t) ≡ false
    → form (seen t) ≡ Err UnknownWord
unfolding seen
not_word form t upper dash path number h = by_number (numeral_of t)
  where
    by_rights : (o : Option ℕ) → form (seen_rights t o) ≡ Err UnknownWord
    by_rights (Some w) = go (same_text t (codes "-"))
      where
        go : (b : Bool) → form (cond b Dash (Upper t)) ≡ Err UnknownWord
        go true = dash
        go false = upper t
    by_rights None = upper []

    by_path : (o : Option (List ℕ)) → form (seen_path t o) ≡ Err UnknownWord
    by_path (Some p) = path (map Fixed p)
    by_path None = rw h (by_rights (canonical_rights t))

    by_number : (o : Option ℕ) → form (seen_number t o) ≡ Err UnknownWord
    by_number (Some n) = number n
    by_number None = by_path (indices_spelled t)

-- the forms of numbers, of what is none

pub below_refused : (bound : ℕ) (t : List ℕ) → numeral_of t ≡ None → as_number_below bound (seen t) ≡ Err UnknownWord
below_refused bound t e = not_number (as_number_below bound) t (λ x. refl) (λ x. refl) refl (λ x. refl) e

pub word32_refused : (t : List ℕ) → numeral_of t ≡ None → as_word32 (seen t) ≡ Err UnknownWord
word32_refused t e = not_number as_word32 t (λ x. refl) (λ x. refl) refl (λ x. refl) e

pub slot_refused : (t : List ℕ) → numeral_of t ≡ None → as_any_slot (seen t) ≡ Err UnknownWord
slot_refused t e = not_number as_any_slot t (λ x. refl) (λ x. refl) refl (λ x. refl) e

pub path_refused : (t : List ℕ) → numeral_of t ≡ None → indices_spelled t ≡ None → as_path (seen t) ≡ Err UnknownWord
path_refused t e f = not_path as_path t (λ x. refl) (λ x. refl) refl e f

pub several_taken : (t : List ℕ) (p : List ℕ) → numeral_of t ≡ None → indices_spelled t ≡ Some p → as_path (seen t) ≡ Ok p
several_taken t p e f = rw (seen_path_of t p e f) (path_taken t p f)

pub word_refused : (t : List ℕ) → is_lower (first t) ≡ false → as_word (seen t) ≡ Err UnknownWord
word_refused t h = not_word as_word t (λ x. refl) refl (λ x. refl) (λ n. refl) h

-- the same of a number

pub below_taken : (bound : ℕ) (t : List ℕ) (n : ℕ) → numeral_of t ≡ Some n → n < bound → as_number_below bound (seen t) ≡ Ok n
below_taken bound t n e h = rw (seen_numeral t n e, lt-ltb n bound h) refl

pub below_late : (bound : ℕ) (t : List ℕ) (n : ℕ) → numeral_of t ≡ Some n → bound ≤ n → as_number_below bound (seen t) ≡ Err OutOfRange
below_late bound t n e h = rw (seen_numeral t n e, le-ltb n bound h) refl

pub word32_taken : (t : List ℕ) (n : ℕ) → numeral_of t ≡ Some n → n ≤ 4294967295 → as_word32 (seen t) ≡ Ok n
word32_taken t n e h = rw (seen_numeral t n e, le-leb n 4294967295 h) refl

pub word32_late : (t : List ℕ) (n : ℕ) → numeral_of t ≡ Some n → 4294967295 < n → as_word32 (seen t) ≡ Err OutOfRange
word32_late t n e h = rw (seen_numeral t n e, lt-leb n 4294967295 h) refl

pub slot_taken : (t : List ℕ) (n : ℕ) → numeral_of t ≡ Some n → n < 256 → as_any_slot (seen t) ≡ Ok (slot_numbered n)
slot_taken t n e h = rw (seen_numeral t n e, lt-ltb n 256 h) refl

pub slot_late : (t : List ℕ) (n : ℕ) → numeral_of t ≡ Some n → 256 ≤ n → as_any_slot (seen t) ≡ Err OutOfRange
slot_late t n e h = rw (seen_numeral t n e, le-ltb n 256 h) refl

pub one_taken : (t : List ℕ) (n : ℕ) (r : Result (List ℕ) ParseCause) → numeral_of t ≡ Some n → as_path (Number n) ≡ r → as_path (seen t) ≡ r
one_taken t n r e h = rw (seen_numeral t n e) h

pub word_taken : (t : List ℕ) → is_lower (first t) ≡ true → as_word (seen t) ≡ Ok t
word_taken t h = rw (seen_word t h) refl

-- a verb, by its word
pub verb_by_word : (p : Piece) (w : List ℕ) (o : Option Verb) → as_word p ≡ Ok w → o ≡ find (λ v. same_text w (verb_word v)) all_verbs → as_verb p ≡ verb_found o
verb_by_word (Word t) w o e f = let same : t ≡ w = cc in rw (same, f) refl
verb_by_word (Upper t) w o e f = cc
verb_by_word Dash w o e f = cc
verb_by_word (Number n) w o e f = cc
verb_by_word (Path steps) w o e f = cc

-- a number that a text spells has 64 bits
pub numeral_small : (t : List ℕ) (n : ℕ) → numeral_of t ≡ Some n → n < inc_bound
numeral_small t n e = go (is_numeral t) (ltb (value t) inc_bound) refl e
  where
    go : (a b : Bool) → ltb (value t) inc_bound ≡ b → cond (a && b) (Some (value t)) None ≡ Some n → n < inc_bound
    go true true k h = let same : value t ≡ n = cc in subst (λ (m : ℕ). m < inc_bound) same (ltb-true (value t) inc_bound k)
    go true false k h = absurd (let none : None ≡ Some n = h in cc)
    go false b k h = absurd (let none : None ≡ Some n = h in cc)

pub inc_taken : (t : List ℕ) (n : ℕ) → numeral_of t ≡ Some n → as_number_below inc_bound (seen t) ≡ Ok n
inc_taken t n e = below_taken inc_bound t n e (numeral_small t n e)
