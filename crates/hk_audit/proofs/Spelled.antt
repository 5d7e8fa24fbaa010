-- Names of rights, read one after another and compared with the canonical spelling.
use Rattle.std.proofs.Common.{◌≡◌, ℕ, zero, suc, ltb, ◌+◌, ◌<◌, ◌≤◌, ◌^◌, ◌==◌, Bool, true, false, cond, List, [], ◌∷◌, length, map, drop, get_or, refl, sym, ap, subst, ◌∙◌, arith}
use Rattle.std.proofs.Common.{not, Option, Some, None}
use Rattle.std.specs.Prelude.{codes, option_map, find}
use Rattle.std.specs.List.{AllByRecursion, list_all, list_any, filter, slice_split, join_with_byte}
use Rattle.std.specs.Str.{IsUtf8, IsAscii}
use Rattle.std.proofs.lemmas.Str.{IsUtf8-from_ascii}
use Rattle.std.specs.Cmp.Lexicographic.{pointwise}
use Rattle.std.specs.Prelude.{nat_eq}
use Rattle.std.proofs.lemmas.Bool.{and_parts, and_from, false≢true, eqb-false, eq-eqb, ltb-true}
use Rattle.std.proofs.lemmas.List.{drop_more, drop_all}
use Rattle.hk_format.specs.Texts.{is_none}
use Rattle.std.proofs.lemmas.List.Splits.{join_with_byte-slice_split}
use Rattle.std.proofs.lemmas.List.Folds.{list_all-append}
use Rattle.hk_rights.specs.Rights.{Row, has, IsRightsWord, right_numbers, right_table, name_of, number_named, all_rights}
use Rattle.hk_model.specs.Labels.{same_text}
use Rattle.hk_format.specs.RightsTexts.{both, union_of, rights_spelled}
use Rattle.hk_format.proofs.Cutting.{split_joined}
use Rattle.hk_format.proofs.LineAgain.{same_is}
use Rattle.hk_format.proofs.RightsAgain.{word_of, word_again}
use Rattle.hk_audit.specs.Names.{same_texts}

-- the names, one by one

pub same_self : (t : List ℕ) → same_text t t ≡ true
same_self [] = refl
same_self (x ∷ xs) = and_from _ _ (eq-eqb x x refl) (same_self xs)

pub texts_is : (xs ys : List (List ℕ)) → same_texts xs ys ≡ true → xs ≡ ys
texts_is [] [] h = refl
texts_is [] (y ∷ ys) h = absurd (false≢true h)
texts_is (x ∷ xs) [] h = absurd (false≢true h)
texts_is (x ∷ xs) (y ∷ ys) h =
    let parts = and_parts (same_text x y) (same_texts xs ys) h in
    let first = same_is x y parts.0 in
    let others = texts_is xs ys parts.1 in
    cc

texts_self : (xs : List (List ℕ)) → same_texts xs xs ≡ true
texts_self [] = refl
texts_self (x ∷ xs) = and_from _ _ (same_self x) (texts_self xs)

-- two tests that pass together are the same
together : (a b : Bool) → (a ≡ true → b ≡ true) → (b ≡ true → a ≡ true) → a ≡ b
together true b f g = sym (f refl)
together false true f g = g refl
together false false f g = refl

-- texts without a plus are those of a text where it is these, joined
joined_same : (x : List ℕ) (xs : List (List ℕ)) (t : List ℕ) → list_all (λ y. not (list_any (λ b. b == 43) y)) (x ∷ xs) ≡ true
    → same_texts (x ∷ xs) (slice_split (λ b. b == 43) t) ≡ same_text (join_with_byte 43 (x ∷ xs)) t
joined_same x xs t free = together _ _
    (λ h.
    let e : join_with_byte 43 (x ∷ xs) ≡ t = ap (join_with_byte 43) (texts_is (x ∷ xs) (slice_split (λ b. b == 43) t) h) ∙ join_with_byte-slice_split 43 t in
    subst (λ (z : List ℕ). same_text z t ≡ true) (sym e) (same_self t))
    (λ h.
    let e : join_with_byte 43 (x ∷ xs) ≡ t = same_is (join_with_byte 43 (x ∷ xs)) t h in
    let cut : slice_split (λ b. b == 43) (join_with_byte 43 (x ∷ xs)) ≡ x ∷ xs = split_joined (λ b. b == 43) 43 x xs free refl in
    subst (λ (z : List ℕ). same_texts (x ∷ xs) (slice_split (λ b. b == 43) z) ≡ true) e (subst (λ (z : List (List ℕ)). same_texts (x ∷ xs) z ≡ true) (sym cut)
    (texts_self (x ∷ xs))))

IsFree : ℕ → Type 0
IsFree n = not (list_any (λ b. b == 43) (name_of n)) ≡ true

all_free : AllByRecursion IsFree right_numbers
unfolding IsFree right_numbers right_table name_of
all_free = (refl, (refl, (refl, (refl, (refl, (refl, (refl, (refl, (refl, (refl, (refl, (refl, (refl, (refl, (refl, (refl, (refl, (refl, (refl, tt)))))))))))))))))))

kept_free : (test : ℕ → Bool) (ns : List ℕ) → AllByRecursion IsFree ns → list_all (λ y. not (list_any (λ b. b == 43) y)) (map name_of (filter test ns)) ≡ true
unfolding IsFree
kept_free test [] h = refl
kept_free test (n ∷ ns) h = go (test n) (kept_free test ns h.1)
  where
    go : (b : Bool) → list_all (λ y. not (list_any (λ b. b == 43) y)) (map name_of (filter test ns)) ≡ true
        → list_all (λ y. not (list_any (λ b. b == 43) y)) (map name_of (cond b (n ∷ filter test ns) (filter test ns))) ≡ true
    go true rest = and_from _ _ h.0 rest
    go false rest = rest

-- the texts that a plus separates are the names of a set where the text is these, joined
pub names_same : (w : ℕ) (t : List ℕ) → IsRightsWord w → (w == 0) ≡ false
    → same_texts (map name_of (filter (has w) right_numbers)) (slice_split (λ b. b == 43) t) ≡ same_text (join_with_byte 43 (map name_of (filter (has w) right_numbers))) t
unfolding word_of
names_same w t word some = go (filter (has w) right_numbers) refl (kept_free (has w) right_numbers all_free)
  where
    go : (ns : List ℕ) → filter (has w) right_numbers ≡ ns → list_all (λ y. not (list_any (λ b. b == 43) y)) (map name_of ns) ≡ true
        → same_texts (map name_of ns) (slice_split (λ b. b == 43) t) ≡ same_text (join_with_byte 43 (map name_of ns)) t
    go [] e free = absurd (eqb-false w 0 some (sym (word_again w word) ∙ ap word_of e))
    go (n ∷ ns) e free = joined_same (name_of n) (map name_of ns) t free

-- a name of a right is the text of a row
found_row : (P : Row → Type 0) (t : List ℕ) (rows : List Row) (row : Row) → AllByRecursion P rows → find (λ r. pointwise nat_eq r.0 t) rows ≡ Some row → P row × (row.0 ≡ t)
found_row P t [] row h e = absurd (let none : None ≡ Some row = e in cc)
found_row P t (r ∷ rows) row h e = go (same_text r.0 t) refl e (λ k. found_row P t rows row h.1 k)
  where
    go : (b : Bool) → same_text r.0 t ≡ b → cond b (Some r) (find (λ q. pointwise nat_eq q.0 t) rows) ≡ Some row
        → (find (λ q. pointwise nat_eq q.0 t) rows ≡ Some row → P row × (row.0 ≡ t)) → P row × (row.0 ≡ t)
    go true k e more = let same : r ≡ row = cc in (subst P same h.0, ap (λ (q : Row). q.0) (sym same) ∙ same_is r.0 t k)
    go false k e more = more e

-- what is so of all rows is so of the name
pub named_row : (P : Row → Type 0) (t : List ℕ) (n : ℕ) → AllByRecursion P right_table → number_named t ≡ Some n → (row : Row) × (row.0 ≡ t) × (row.1 ≡ n) × P row
unfolding number_named
named_row P t n all e = go (find (λ r. pointwise nat_eq r.0 t) right_table) refl e
  where
    go : (o : Option Row) → find (λ r. pointwise nat_eq r.0 t) right_table ≡ o → option_map (λ (row : Row). row.1) o ≡ Some n → (row : Row) × (row.0 ≡ t) × (row.1 ≡ n) × P row
    go (Some row) k e = let found = found_row P t right_table row all k in (row, found.1, cc, found.0)
    go None k e = absurd (let none : None ≡ Some n = e in cc)

-- names are texts

IsText : Row → Type 0
IsText row = list_all (λ b. ltb b 128) row.0 ≡ true

all_texts : AllByRecursion IsText right_table
unfolding IsText right_table
all_texts = (refl, (refl, (refl, (refl, (refl, (refl, (refl, (refl, (refl, (refl, (refl, (refl, (refl, (refl, (refl, (refl, (refl, (refl, (refl, tt)))))))))))))))))))

ascii_from : (t : List ℕ) → list_all (λ b. ltb b 128) t ≡ true → IsAscii t
ascii_from [] h i = omega arith
ascii_from (b ∷ t) h zero = ltb-true _ _ (and_parts (ltb b 128) (list_all (λ c. ltb c 128) t) h).0
ascii_from (b ∷ t) h (suc i) = ascii_from t (and_parts (ltb b 128) (list_all (λ c. ltb c 128) t) h).1 i

-- what is no text is no name
pub no_name : (t : List ℕ) → (IsUtf8 t → ⊥) → ◌≡◌ {A = Option ℕ} None (number_named t)
unfolding IsText
no_name t bad = go (number_named t) refl
  where
    go : (o : Option ℕ) → number_named t ≡ o → ◌≡◌ {A = Option ℕ} None o
    go None e = refl
    go (Some n) e =
        let row = named_row IsText t n all_texts e in
        absurd (bad (IsUtf8-from_ascii t (ascii_from t (rw (← row.1) row.3))))

-- what is joined is a text where its parts are
joined_text : (c : ℕ) (ts : List (List ℕ)) → ltb c 128 ≡ true → list_all (list_all (λ b. ltb b 128)) ts ≡ true → list_all (λ b. ltb b 128) (join_with_byte c ts) ≡ true
joined_text c [] small h = refl
joined_text c (t ∷ []) small h = (and_parts (list_all (λ b. ltb b 128) t) true h).0
joined_text c (t ∷ u ∷ us) small h =
    let parts = and_parts (list_all (λ b. ltb b 128) t) (list_all (list_all (λ b. ltb b 128)) (u ∷ us)) h in
    list_all-append (λ b. ltb b 128) t (c ∷ join_with_byte c (u ∷ us))
    ∙ and_from _ _ parts.0 (and_from _ _ small (joined_text c (u ∷ us) small parts.1))

-- names that all are rights' names are texts
names_text : (ts : List (List ℕ)) (r : ℕ) → union_of ts ≡ Some r → list_all (list_all (λ b. ltb b 128)) ts ≡ true
unfolding IsText
names_text [] r e = refl
names_text (t ∷ ts) r e = go (number_named t) refl (union_of ts) refl e (λ x l. names_text ts x l)
  where
    go : (o : Option ℕ) → number_named t ≡ o → (u : Option ℕ) → union_of ts ≡ u → both (option_map (λ n. 2 ^ n) o) u ≡ Some r
        → ((x : ℕ) → union_of ts ≡ Some x → list_all (list_all (λ b. ltb b 128)) ts ≡ true) → list_all (list_all (λ b. ltb b 128)) (t ∷ ts) ≡ true
    go (Some n) k (Some x) l h more =
        let row = named_row IsText t n all_texts k in
        and_from _ _ (rw (← row.1) row.3) (more x l)
    go (Some n) k None l h more = absurd (let none : None ≡ Some r = h in cc)
    go None k u l h more = absurd (let none : None ≡ Some r = h in cc)

-- what is no text means no set
pub no_rights : (t : List ℕ) → (IsUtf8 t → ⊥) → ◌≡◌ {A = Option ℕ} None (rights_spelled t)
unfolding rights_spelled
no_rights t bad = dash (same_text t (codes "-")) refl
  where
    plain : list_all (λ b. ltb b 128) t ≡ true → ⊥
    plain h = bad (IsUtf8-from_ascii t (ascii_from t h))

    names : (u : Option ℕ) → union_of (slice_split (λ b. b == 43) t) ≡ u → ◌≡◌ {A = Option ℕ} None u
    names None e = refl
    names (Some r) e = absurd (plain (rw (← join_with_byte-slice_split 43 t) (joined_text 43 (slice_split (λ b. b == 43) t) refl (names_text (slice_split (λ b. b == 43) t) r e))))

    all : (b : Bool) → same_text t (codes "ALL") ≡ b → ◌≡◌ {A = Option ℕ} None (cond b (Some all_rights) (union_of (slice_split (λ b. b == 43) t)))
    all true e = absurd (plain (rw (same_is t (codes "ALL") e) refl))
    all false e = names _ refl

    dash : (b : Bool) → same_text t (codes "-") ≡ b
        → ◌≡◌ {A = Option ℕ} None (cond b (Some 0) (cond (same_text t (codes "ALL")) (Some all_rights) (union_of (slice_split (λ b. b == 43) t))))
    dash true e = absurd (plain (rw (same_is t (codes "-") e) refl))
    dash false e = all _ refl

-- the names that are left

-- a name that is there
pub names_taken : (test : ℕ → Bool) (numbers : List ℕ) (i d : ℕ) (before after : List (List ℕ)) (t : List ℕ) (whole : Bool) → i < length numbers → test (get_or numbers i d) ≡ true
    → before ≡ t ∷ after → name_of (get_or numbers i d) ≡ t → same_texts (map name_of (filter test (drop i numbers))) before ≡ whole
    → same_texts (map name_of (filter test (drop (i + 1) numbers))) after ≡ whole
names_taken test numbers i d before after t whole inside has e named h =
    let now = rw (drop_more numbers i d inside, has, e, named, same_self t) at h in now

-- another name, or none
pub names_other : (test : ℕ → Bool) (numbers : List ℕ) (i d : ℕ) (before after : List (List ℕ)) (t : List ℕ) (whole : Bool) → i < length numbers → test (get_or numbers i d) ≡ true
    → before ≡ t ∷ after → same_text (name_of (get_or numbers i d)) t ≡ false → same_texts (map name_of (filter test (drop i numbers))) before ≡ whole → false ≡ whole
names_other test numbers i d before after t whole inside has e other h = rw (drop_more numbers i d inside, has, e, other) at h

pub names_missing : (test : ℕ → Bool) (numbers : List ℕ) (i d : ℕ) (before : List (List ℕ)) (whole : Bool) → i < length numbers → test (get_or numbers i d) ≡ true
    → before ≡ [] → same_texts (map name_of (filter test (drop i numbers))) before ≡ whole → false ≡ whole
names_missing test numbers i d before whole inside has e h = rw (drop_more numbers i d inside, has, e) at h

-- a right that the set does not have
pub names_passed : (test : ℕ → Bool) (numbers : List ℕ) (i d : ℕ) (left : List (List ℕ)) (whole : Bool) → i < length numbers → test (get_or numbers i d) ≡ false
    → same_texts (map name_of (filter test (drop i numbers))) left ≡ whole → same_texts (map name_of (filter test (drop (i + 1) numbers))) left ≡ whole
names_passed test numbers i d left whole inside has h = rw (drop_more numbers i d inside, has) at h

-- no number is left
pub names_over : (test : ℕ → Bool) (numbers : List ℕ) (i : ℕ) (left : List (List ℕ)) (whole : Bool) → length numbers ≤ i
    → same_texts (map name_of (filter test (drop i numbers))) left ≡ whole → is_none left ≡ whole
names_over test numbers i left whole past h = none left ∙ (rw (drop_all i numbers past) at h)
  where
    none : (ts : List (List ℕ)) → is_none ts ≡ same_texts [] ts
    none [] = refl
    none (t ∷ ts) = refl

pub numbers_known : (0 ∷ 1 ∷ 2 ∷ 3 ∷ 4 ∷ 5 ∷ 6 ∷ 7 ∷ 8 ∷ 9 ∷ 10 ∷ 16 ∷ 17 ∷ 18 ∷ 19 ∷ 20 ∷ 21 ∷ 22 ∷ 23 ∷ []) ≡ right_numbers
unfolding right_numbers right_table
numbers_known = refl

-- the answer for all numbers
pub names_answer : (numbers : List ℕ) (w : ℕ) (t : List ℕ) (r : Bool) → r ≡ same_texts (map name_of (filter (has w) numbers)) (slice_split (λ b. b == 43) t)
    → numbers ≡ right_numbers
    → IsRightsWord w → (w == 0) ≡ false → r ≡ same_text (join_with_byte 43 (map name_of (filter (has w) right_numbers))) t
names_answer numbers w t r h e word some = (rw e at h) ∙ names_same w t word some
