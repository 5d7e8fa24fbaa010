-- The forms of an audit line take each value of one text alone.
use Rattle.std.proofs.Common.{◌≡◌, ℕ, ◌<◌, ◌≤◌, ◌==◌, ◌^◌, Bool, true, false, cond, ltb, leb, List, [], ◌∷◌, length, map, refl, sym, ap, subst, ◌∙◌, arith, ◌&&◌, Option, Some}
use Rattle.std.proofs.Common.{None, Ok, Err, IsTrue}
use Rattle.std.specs.List.{AllByRecursion, list_all, slice_split, join_with_byte, find}
use Rattle.std.specs.Fmt.{decimal}
use Rattle.std.proofs.lemmas.Bool.{and_parts, false≢true, ltb-true, leb-true}
use Rattle.std.proofs.lemmas.List.{length-map}
use Rattle.std.proofs.lemmas.List.Splits.{join_with_byte-slice_split}
use Rattle.hk_rights.specs.Rights.{Row, IsRightsWord, is_right, name_of, number_named, right_table}
use Rattle.hk_rights.proofs.Table.{named-is_right}
use Rattle.hk_format.specs.declared.causes.ParseCause.TheVariants.{UnknownWord, OutOfRange}
use Rattle.hk_model.specs.declared.instructions.Index.TheVariants.{Fixed}
use Rattle.hk_model.specs.declared.names.Slot.{Slot}
use Rattle.hk_model.specs.declared.calls.What8.{What8}
use Rattle.hk_format.specs.declared.syntax.Verb.{Verb}
use Rattle.hk_model.specs.Labels.{between, first, is_lower, same_text}
use Rattle.hk_format.specs.Pieces.{Word, Upper, Number, spell, spell_index, value}
use Rattle.hk_format.specs.Verbs.{verb_word}
use Rattle.hk_format.specs.Operands.{path_piece, slot_piece, rights_set_piece}
use Rattle.hk_format.specs.RightsTexts.{rights_text}
use Rattle.hk_format.specs.Forms.{as_verb, as_word, as_number_below, slot_numbered}
use Rattle.hk_format.specs.LineReading.{as_path, as_any_slot, as_rights_set, as_right, as_word32, as_full, all_full, full_found}
use Rattle.hk_format.specs.AuditLines.{full_word}
use Rattle.hk_format.specs.LineRanges.{IsPathValue, IsAnySlot}
use Rattle.hk_model.specs.WorldValue.{IsWord32}
use Rattle.hk_format.proofs.LineAgain.{same_is}
use Rattle.hk_text.specs.Numerals.{is_numeral, numeral_of}
use Rattle.hk_audit.specs.TextPieces.{is_index_numeral, indices_of, indices_spelled, canonical_rights, seen}
use Rattle.hk_text.proofs.NumeralTexts.{numeral_text, numeral_is}
use Rattle.hk_audit.proofs.Spelled.{named_row}
use Rattle.hk_audit.proofs.SeenForms.{spelled_is, seen_numeral, path_refused, several_taken, below_refused, word32_refused, slot_refused, rights_taken, rights_refused, right_taken}
use Rattle.hk_audit.proofs.SeenForms.{right_refused, seen_word, word_refused, not_word}
use Rattle.hk_print.proofs.Pieces.{spelled_rights}
use Rattle.hk_format.proofs.ExactForms.{verb_is}
use Rattle.hk_audit.proofs.Sound.{FormFits, Forms}

below_fits : (bound : ℕ) → bound ≤ 18446744073709551616 → FormFits seen true ℕ (as_number_below bound) Number (λ n. n < bound)
below_fits bound most = record { fits = all }
  where
    all : (t : List ℕ) (x : ℕ) → as_number_below bound (seen t) ≡ Ok x → (x < bound) × (decimal x ≡ t)
    all t x h = go (numeral_of t) refl
      where
        by : (n : ℕ) → numeral_of t ≡ Some n → (b : Bool) → ltb n bound ≡ b → cond b (Ok n) (Err OutOfRange) ≡ Ok x → (x < bound) × (decimal x ≡ t)
        by n e true k i = let same : n ≡ x = cc in (subst (λ (m : ℕ). m < bound) same (ltb-true n bound k), subst (λ (m : ℕ). decimal m ≡ t) same (numeral_is t n e))
        by n e false k i = cc

        go : (o : Option ℕ) → numeral_of t ≡ o → (x < bound) × (decimal x ≡ t)
        go (Some n) e = by n e (ltb n bound) refl (rw (seen_numeral t n e) at h)
        go None e = let bad : Err UnknownWord ≡ Ok x = sym (below_refused bound t e) ∙ h in cc

word32_fits : FormFits seen true ℕ as_word32 Number IsWord32
word32_fits = record { fits = all }
  where
    all : (t : List ℕ) (x : ℕ) → as_word32 (seen t) ≡ Ok x → (x < 2 ^ 32) × (decimal x ≡ t)
    all t x h = go (numeral_of t) refl
      where
        by : (n : ℕ) → numeral_of t ≡ Some n → (b : Bool) → leb n 4294967295 ≡ b → cond b (Ok n) (Err OutOfRange) ≡ Ok x → (x < 2 ^ 32) × (decimal x ≡ t)
        by n e true k i =
            let same : n ≡ x = cc in (
              subst (λ (m : ℕ). m < 2 ^ 32) same (let most = leb-true n 4294967295 k in omega arith),
              subst (λ (m : ℕ). decimal m ≡ t) same (numeral_is t n e),
            )
        by n e false k i = cc

        go : (o : Option ℕ) → numeral_of t ≡ o → (x < 2 ^ 32) × (decimal x ≡ t)
        go (Some n) e = by n e (leb n 4294967295) refl (rw (seen_numeral t n e) at h)
        go None e = let bad : Err UnknownWord ≡ Ok x = sym (word32_refused t e) ∙ h in cc

slot_fits : FormFits seen true Slot as_any_slot slot_piece IsAnySlot
slot_fits = record { fits = all }
  where
    all : (t : List ℕ) (x : Slot) → as_any_slot (seen t) ≡ Ok x → IsAnySlot x × (decimal x.0 ≡ t)
    all t x h = go (numeral_of t) refl
      where
        by : (n : ℕ) → numeral_of t ≡ Some n → (b : Bool) → ltb n 256 ≡ b → cond b (Ok (slot_numbered n)) (Err OutOfRange) ≡ Ok x → IsAnySlot x × (decimal x.0 ≡ t)
        by n e true k i = let same : slot_numbered n ≡ x = cc in subst (λ (s : Slot). IsAnySlot s × (decimal s.0 ≡ t)) same (ltb-true n 256 k, numeral_is t n e)
        by n e false k i = cc

        go : (o : Option ℕ) → numeral_of t ≡ o → IsAnySlot x × (decimal x.0 ≡ t)
        go (Some n) e = by n e (ltb n 256) refl (rw (seen_numeral t n e) at h)
        go None e = let bad : Err UnknownWord ≡ Ok x = sym (slot_refused t e) ∙ h in cc

-- paths

indices_is : (ts : List (List ℕ)) → list_all is_index_numeral ts ≡ true → AllByRecursion (λ n. n < 65536) (map value ts) × (map spell_index (map Fixed (map value ts)) ≡ ts)
indices_is [] h = (tt, refl)
indices_is (t ∷ ts) h =
    let parts = and_parts (is_index_numeral t) (list_all is_index_numeral ts) h in
    let here = and_parts (is_numeral t) (ltb (value t) 65536) parts.0 in
    let small = ltb-true (value t) 65536 here.1 in
    let text : decimal (value t) ≡ t = numeral_text t here.0 (omega arith) in
    let rest = indices_is ts parts.1 in
    ((small, rest.0), rw (text, rest.1) refl)

several_is : (t : List ℕ) (p : List ℕ) → indices_spelled t ≡ Some p → IsPathValue p × (spell (path_piece p) ≡ t)
several_is t p e = go (slice_split (λ b. b == 46) t) (join_with_byte-slice_split 46 t) e
  where
    known : (ts : List (List ℕ)) → join_with_byte 46 ts ≡ t → between 2 8 (length ts) ≡ true → list_all is_index_numeral ts ≡ true → map value ts ≡ p
        → IsPathValue p × (spell (path_piece p) ≡ t)
    known [] j few good same = absurd (false≢true few)
    known (x ∷ []) j few good same = absurd (false≢true few)
    known (x ∷ y ∷ more) j few good same =
        let all = indices_is (x ∷ y ∷ more) good in
        let parts = and_parts (leb 2 (length (x ∷ y ∷ more))) (leb (length (x ∷ y ∷ more)) 8) few in
        let most = leb-true (length (x ∷ y ∷ more)) 8 parts.1 in
        let size = length-map (x ∷ y ∷ more) value in
        subst (λ (q : List ℕ). IsPathValue q × (spell (path_piece q) ≡ t)) same ((omega arith, omega arith, all.0), ap (join_with_byte 46) all.1 ∙ j)

    go : (ts : List (List ℕ)) → join_with_byte 46 ts ≡ t → indices_of ts ≡ Some p → IsPathValue p × (spell (path_piece p) ≡ t)
    go ts j k = by (between 2 8 (length ts)) (list_all is_index_numeral ts) refl refl k
      where
        by : (a b : Bool) → between 2 8 (length ts) ≡ a → list_all is_index_numeral ts ≡ b → cond (a && b) (Some (map value ts)) None ≡ Some p
            → IsPathValue p × (spell (path_piece p) ≡ t)
        by true true few good i = known ts j few good (let same : map value ts ≡ p = cc in same)
        by true false few good i = absurd (let none : None ≡ Some p = i in cc)
        by false b few good i = absurd (let none : None ≡ Some p = i in cc)

path_fits : FormFits seen true (List ℕ) as_path path_piece IsPathValue
path_fits = record { fits = all }
  where
    all : (t : List ℕ) (x : List ℕ) → as_path (seen t) ≡ Ok x → IsPathValue x × (spell (path_piece x) ≡ t)
    all t x h = go (numeral_of t) refl
      where
        one : (n : ℕ) → numeral_of t ≡ Some n → (b : Bool) → ltb n 65536 ≡ b → cond b (Ok (n ∷ [])) (Err OutOfRange) ≡ Ok x → IsPathValue x × (spell (path_piece x) ≡ t)
        one n e true k i =
            let same : n ∷ [] ≡ x = cc in subst (λ (q : List ℕ). IsPathValue q × (spell (path_piece q) ≡ t)) same
            ((omega arith, omega arith, (ltb-true n 65536 k, tt)), numeral_is t n e)
        one n e false k i = cc

        several : numeral_of t ≡ None → (o : Option (List ℕ)) → indices_spelled t ≡ o → IsPathValue x × (spell (path_piece x) ≡ t)
        several e (Some p) k =
            let both : Ok p ≡ Ok x = sym (several_taken t p e k) ∙ h in
            let same : p ≡ x = cc in
            subst (λ (q : List ℕ). IsPathValue q × (spell (path_piece q) ≡ t)) same (several_is t p k)
        several e None k = let bad : Err UnknownWord ≡ Ok x = sym (path_refused t e k) ∙ h in cc

        go : (o : Option ℕ) → numeral_of t ≡ o → IsPathValue x × (spell (path_piece x) ≡ t)
        go (Some n) e = one n e (ltb n 65536) refl (rw (seen_numeral t n e) at h)
        go None e = several e (indices_spelled t) refl

-- rights

rights_fits : FormFits seen true ℕ as_rights_set rights_set_piece IsRightsWord
rights_fits = record { fits = all }
  where
    all : (t : List ℕ) (x : ℕ) → as_rights_set (seen t) ≡ Ok x → IsRightsWord x × (spell (rights_set_piece x) ≡ t)
    all t x h = go (canonical_rights t) refl
      where
        go : (o : Option ℕ) → canonical_rights t ≡ o → IsRightsWord x × (spell (rights_set_piece x) ≡ t)
        go (Some w) e =
            let both : Ok w ≡ Ok x = sym (rights_taken t w e) ∙ h in
            let same : w ≡ x = cc in
            let known = spelled_is t w e in
            subst (λ (v : ℕ). IsRightsWord v × (spell (rights_set_piece v) ≡ t)) same (known.word, spelled_rights (rights_text w) ∙ known.text)
        go None e = let bad : Err UnknownWord ≡ Ok x = sym (rights_refused t e) ∙ h in cc

IsOwn : Row → Type 0
IsOwn row = name_of row.1 ≡ row.0

all_own : AllByRecursion IsOwn right_table
unfolding IsOwn right_table name_of
all_own = (refl, (refl, (refl, (refl, (refl, (refl, (refl, (refl, (refl, (refl, (refl, (refl, (refl, (refl, (refl, (refl, (refl, (refl, (refl, tt)))))))))))))))))))

own_name : (t : List ℕ) (n : ℕ) → number_named t ≡ Some n → name_of n ≡ t
unfolding IsOwn
own_name t n e = let row = named_row IsOwn t n all_own e in sym (ap name_of row.2) ∙ row.3 ∙ row.1

right_fits : FormFits seen true ℕ as_right (λ n. Upper (name_of n)) (λ n. IsTrue (is_right n))
right_fits = record { fits = all }
  where
    all : (t : List ℕ) (x : ℕ) → as_right (seen t) ≡ Ok x → IsTrue (is_right x) × (name_of x ≡ t)
    all t x h = go (number_named t) refl
      where
        go : (o : Option ℕ) → number_named t ≡ o → IsTrue (is_right x) × (name_of x ≡ t)
        go (Some n) e =
            let both : Ok n ≡ Ok x = sym (right_taken t n e) ∙ h in
            let same : n ≡ x = cc in
            subst (λ (m : ℕ). IsTrue (is_right m) × (name_of m ≡ t)) same (named-is_right t n e, own_name t n e)
        go None e = let bad : Err UnknownWord ≡ Ok x = sym (right_refused t e) ∙ h in cc

-- words

word_fits : FormFits seen true (List ℕ) as_word Word (λ w. Unit {0})
word_fits = record { fits = all }
  where
    all : (t : List ℕ) (x : List ℕ) → as_word (seen t) ≡ Ok x → Unit {0} × (x ≡ t)
    all t x h = go (is_lower (first t)) refl
      where
        go : (b : Bool) → is_lower (first t) ≡ b → Unit {0} × (x ≡ t)
        go true e = let both : Ok t ≡ Ok x = sym (ap as_word (seen_word t e)) ∙ h in (tt, cc)
        go false e = let bad : Err UnknownWord ≡ Ok x = sym (word_refused t e) ∙ h in cc

verb_fits : FormFits seen true Verb as_verb (λ v. Word (verb_word v)) (λ v. Unit {0})
verb_fits = record { fits = all }
  where
    all : (t : List ℕ) (x : Verb) → as_verb (seen t) ≡ Ok x → Unit {0} × (verb_word x ≡ t)
    all t x h = go (is_lower (first t)) refl
      where
        go : (b : Bool) → is_lower (first t) ≡ b → Unit {0} × (verb_word x ≡ t)
        go true e = (tt, verb_is t x (sym (ap as_verb (seen_word t e)) ∙ h))
        go false e = let bad : Err UnknownWord ≡ Ok x = sym (not_word as_verb t (λ u. refl) refl (λ u. refl) (λ n. refl) e) ∙ h in cc

full_is : (t : List ℕ) (x : What8) → as_full (Word t) ≡ Ok x → full_word x ≡ t
full_is t x h = go (find (λ w. same_text t (full_word w)) all_full) refl h
  where
    found : (ws : List What8) (u : What8) → find (λ w. same_text t (full_word w)) ws ≡ Some u → full_word u ≡ t
    found [] u e = absurd (let none : None ≡ Some u = e in cc)
    found (w ∷ ws) u e = by (same_text t (full_word w)) refl e (λ k. found ws u k)
      where
        by : (b : Bool) → same_text t (full_word w) ≡ b → cond b (Some w) (find (λ y. same_text t (full_word y)) ws) ≡ Some u
            → (find (λ y. same_text t (full_word y)) ws ≡ Some u → full_word u ≡ t) → full_word u ≡ t
        by true k i more = let same : w ≡ u = cc in sym (same_is t (full_word w) k ∙ ap full_word same)
        by false k i more = more i

    go : (o : Option What8) → find (λ w. same_text t (full_word w)) all_full ≡ o → full_found o ≡ Ok x → full_word x ≡ t
    go (Some u) e k = let same : u ≡ x = cc in subst (λ (z : What8). full_word z ≡ t) same (found all_full u e)
    go None e k = cc

full_fits : FormFits seen true What8 as_full (λ kind. Word (full_word kind)) (λ kind. Unit {0})
full_fits = record { fits = all }
  where
    all : (t : List ℕ) (x : What8) → as_full (seen t) ≡ Ok x → Unit {0} × (full_word x ≡ t)
    all t x h = go (is_lower (first t)) refl
      where
        go : (b : Bool) → is_lower (first t) ≡ b → Unit {0} × (full_word x ≡ t)
        go true e = (tt, full_is t x (sym (ap as_full (seen_word t e)) ∙ h))
        go false e = let bad : Err UnknownWord ≡ Ok x = sym (not_word as_full t (λ u. refl) refl (λ u. refl) (λ n. refl) e) ∙ h in cc

pub seen_forms : Forms seen true
seen_forms = record {
  path = path_fits;
  slot = slot_fits;
  rights = rights_fits;
  right = right_fits;
  word32 = word32_fits;
  below = below_fits;
  word = word_fits;
  verb = verb_fits;
  full = full_fits;
}
