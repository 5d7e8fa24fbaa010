-- A set of rights is read again from its canonical spelling.
use Rattle.std.proofs.Common.{◌≡◌, ℕ, ◌^◌, ◌==◌, ◌||◌, ◌&&◌, not, Bool, true, false, cond, List, [], ◌∷◌, map, refl, sym, ap, ◌∙◌, arith, Some, None}
use Rattle.std.specs.Prelude.{codes, bit_or}
use Rattle.std.specs.List.{AllByRecursion, list_any, list_all, filter, slice_split, join_with_byte}
use Rattle.std.proofs.lemmas.Bool.{eqb-true, eqb-false, and_from}
use Rattle.std.proofs.lemmas.Bool.Decides.{nat_tests}
use Rattle.hk_rights.specs.Rights.{has, all_rights, right_numbers, right_table, name_of, number_named, is_right, IsRightsWord}
use Rattle.hk_rights.proofs.Sets.{has-zero, has-pow, has-bit_or, same_rights}
use Rattle.hk_rights.proofs.Words.{HasAll-all_rights}
use Rattle.hk_rights.proofs.Table.{has-all_rights, right_numbers-is_right}
use Rattle.hk_model.specs.Labels.{same_text}
use Rattle.hk_format.specs.RightsTexts.{rights_text, rights_spelled, right_of, union_of}
use Rattle.hk_format.proofs.Cutting.{split_joined}
use Rattle.hk_format.proofs.LineAgain.{same_is}

-- the set of these rights
unfoldable pub word_of : List ℕ → ℕ
word_of [] = 0
word_of (n ∷ ns) = bit_or (2 ^ n) (word_of ns)

IsKnown : ℕ → Type 0
IsKnown n = (right_of (name_of n) ≡ Some (2 ^ n)) × (not (list_any (λ b. b == 43) (name_of n)) ≡ true)

all_known : AllByRecursion IsKnown right_numbers
unfolding IsKnown right_numbers right_table name_of number_named
all_known = (
  (refl, refl),
  (
    (refl, refl),
    (
      (refl, refl),
      (
        (refl, refl),
        (
          (refl, refl),
          (
            (refl, refl),
            (
              (refl, refl),
              (
                (refl, refl),
                (
                  (refl, refl),
                  (
                    (refl, refl),
                    (
                      (refl, refl),
                      (
                        (refl, refl),
                        ((refl, refl), ((refl, refl), ((refl, refl), ((refl, refl), ((refl, refl), ((refl, refl), ((refl, refl), tt))))))),
                      ),
                    ),
                  ),
                ),
              ),
            ),
          ),
        ),
      ),
    ),
  ),
)

known_kept : (test : ℕ → Bool) (ns : List ℕ) → AllByRecursion IsKnown ns → AllByRecursion IsKnown (filter test ns)
known_kept test [] h = tt
known_kept test (n ∷ ns) h = go (test n) (known_kept test ns h.1)
  where
    go : (b : Bool) → AllByRecursion IsKnown (filter test ns) → AllByRecursion IsKnown (cond b (n ∷ filter test ns) (filter test ns))
    go true rest = (h.0, rest)
    go false rest = rest

union_again : (ns : List ℕ) → AllByRecursion IsKnown ns → union_of (map name_of ns) ≡ Some (word_of ns)
unfolding IsKnown word_of
union_again [] h = refl
union_again (n ∷ ns) h = rw (h.0.0, union_again ns h.1)

names_free : (ns : List ℕ) → AllByRecursion IsKnown ns → list_all (λ t. not (list_any (λ b. b == 43) t)) (map name_of ns) ≡ true
unfolding IsKnown
names_free [] h = refl
names_free (n ∷ ns) h = and_from _ _ h.0.1 (names_free ns h.1)

-- names of rights, joined, are read as the set of these rights
listed : (ns : List ℕ) (w : ℕ) → AllByRecursion IsKnown ns → word_of ns ≡ w → (w ≡ 0 → ⊥) → rights_spelled (join_with_byte 43 (map name_of ns)) ≡ Some w
unfolding IsKnown word_of rights_spelled right_table number_named
listed [] w h e some = absurd (some (sym e))
listed (n ∷ ns) w h e some = go (same_text (join_with_byte 43 (map name_of (n ∷ ns))) (codes "-")) refl (same_text (join_with_byte 43 (map name_of (n ∷ ns))) (codes "ALL")) refl
  where
    union : union_of (slice_split (λ b. b == 43) (join_with_byte 43 (map name_of (n ∷ ns)))) ≡ Some w
    union = ap union_of (split_joined (λ b. b == 43) 43 (name_of n) (map name_of ns) (names_free (n ∷ ns) h) refl) ∙ union_again (n ∷ ns) h ∙ ap Some e

    go : (a : Bool) → same_text (join_with_byte 43 (map name_of (n ∷ ns))) (codes "-") ≡ a → (b : Bool) → same_text (join_with_byte 43 (map name_of (n ∷ ns))) (codes "ALL") ≡ b
        → cond a (Some 0) (cond b (Some all_rights) (union_of (slice_split (λ c. c == 43) (join_with_byte 43 (map name_of (n ∷ ns)))))) ≡ Some w
    go true k b l =
        absurd (let same = same_is (join_with_byte 43 (map name_of (n ∷ ns))) (codes "-") k in let bad : union_of (slice_split (λ c. c == 43) (codes "-")) ≡ Some w =
        rw same at union in let none : None ≡ Some w = bad in cc)
    go false k true l =
        absurd (let same = same_is (join_with_byte 43 (map name_of (n ∷ ns))) (codes "ALL") l in let bad : union_of (slice_split (λ c. c == 43) (codes "ALL")) ≡ Some w =
        rw same at union in let none : None ≡ Some w = bad in cc)
    go false k false l = union

kept_has : (w n : ℕ) (ns : List ℕ) → has (word_of (filter (has w) ns)) n ≡ (list_any (λ k. k == n) ns && has w n)
unfolding word_of
kept_has w n [] = has-zero n
kept_has w n (k ∷ ns) = go (has w k) refl (kept_has w n ns)
  where
    go : (b : Bool) → has w k ≡ b → has (word_of (filter (has w) ns)) n ≡ (list_any (λ j. j == n) ns && has w n)
        → has (word_of (cond b (k ∷ filter (has w) ns) (filter (has w) ns))) n ≡ (((k == n) || list_any (λ j. j == n) ns) && has w n)
    go true e rest = has-bit_or (2 ^ k) (word_of (filter (has w) ns)) n ∙ rw (has-pow k n, rest) (same (k == n) refl)
      where
        same : (b : Bool) → (k == n) ≡ b → ((n == k) || (list_any (λ j. j == n) ns && has w n)) ≡ ((b || list_any (λ j. j == n) ns) && has w n)
        same true f = let eq = eqb-true k n f in let there : has w n ≡ true = rw (← eq) e in let one : (n == k) ≡ true = grind (arith, nat_tests) in rw (one, there) refl
        same false f = let one : (n == k) ≡ false = grind (arith, nat_tests) in rw one refl
    go false e rest = rest ∙ same (k == n) refl
      where
        and_none : (a : Bool) → (a && false) ≡ false
        and_none true = refl
        and_none false = refl

        same : (b : Bool) → (k == n) ≡ b → (list_any (λ j. j == n) ns && has w n) ≡ ((b || list_any (λ j. j == n) ns) && has w n)
        same true f = let eq = eqb-true k n f in let none : has w n ≡ false = rw (← eq) e in rw none (and_none (list_any (λ j. j == n) ns))
        same false f = refl

pub word_again : (w : ℕ) → IsRightsWord w → word_of (filter (has w) right_numbers) ≡ w
word_again w word =
    same_rights (word_of (filter (has w) right_numbers)) w (λ n. kept_has w n right_numbers ∙ ap (λ b. b && has w n) (right_numbers-is_right n) ∙ only n (has w n) refl)
  where
    and_none : (a : Bool) → (a && false) ≡ false
    and_none true = refl
    and_none false = refl

    only : (n : ℕ) (b : Bool) → has w n ≡ b → (is_right n && b) ≡ b
    only n true e = rw (← has-all_rights n) (rw (HasAll-all_rights w word n e) refl)
    only n false e = and_none (is_right n)

none_read : rights_spelled (codes "-") ≡ Some 0
unfolding rights_spelled
none_read = refl

all_read : rights_spelled (codes "ALL") ≡ Some all_rights
unfolding rights_spelled
all_read = refl

-- the canonical spelling of a set means this set
pub rights_again : (w : ℕ) → IsRightsWord w → rights_spelled (rights_text w) ≡ Some w
unfolding rights_text
rights_again w word = go (w == 0) refl (w == all_rights) refl
  where
    go : (a : Bool) → (w == 0) ≡ a → (b : Bool) → (w == all_rights) ≡ b
        → rights_spelled (cond a (codes "-") (cond b (codes "ALL") (join_with_byte 43 (map name_of (filter (has w) right_numbers))))) ≡ Some w
    go true k b l = none_read ∙ ap Some (sym (eqb-true w 0 k))
    go false k true l = all_read ∙ ap Some (sym (eqb-true w all_rights l))
    go false k false l = listed (filter (has w) right_numbers) w (known_kept (has w) right_numbers all_known) (word_again w word) (eqb-false w 0 k)
