-- The names of the rights of a set, written one by one.
use Rattle.std.proofs.Common.{◌≡◌, ℕ, ◌+◌, ◌<◌, Bool, true, false, cond, List, [], ◌∷◌, ◌++◌, length, map, take, get_or, refl, sym, ap, ◌∙◌, Option, Some, None, IsTrue}
use Rattle.std.specs.List.{filter, join_with_byte}
use Rattle.std.proofs.lemmas.List.{take_more}
use mathlib.Core.List.{append_assoc, append-nil}
use Rattle.hk_rights.specs.Rights.{has, is_right, IsRightsWord, name_of}
use Rattle.hk_rights.proofs.Words.{HasAll-all_rights}
use Rattle.hk_rights.proofs.Table.{has-all_rights}
use Rattle.hk_print.proofs.Joined.{separator, joined, some_before}

-- the names of these rights, joined by `+`
abbrev pub names_text : List ℕ → List ℕ
names_text numbers = join_with_byte 43 (map name_of numbers)

kept : (test : ℕ → Bool) (ns : List ℕ) (n : ℕ) → filter test (ns ++ n ∷ []) ≡ filter test ns ++ cond (test n) (n ∷ []) []
kept test [] n = refl
kept test (m ∷ ns) n = go (test m) (kept test ns n)
  where
    go : (b : Bool) → filter test (ns ++ n ∷ []) ≡ filter test ns ++ cond (test n) (n ∷ []) []
        → cond b (m ∷ filter test (ns ++ n ∷ [])) (filter test (ns ++ n ∷ [])) ≡ cond b (m ∷ filter test ns) (filter test ns) ++ cond (test n) (n ∷ []) []
    go true e = ap (λ (t : List ℕ). m ∷ t) e
    go false e = e

-- the name of the next right is written
pub name_pushed : (test : ℕ → Bool) (old : List ℕ) (ns : List ℕ) (i d : ℕ) (text before : List ℕ) → i < length ns → test (get_or ns i d) ≡ true → text ≡ old ++ names_text (filter test (take i ns))
    → before ≡ separator 43 (filter test (take i ns))
    → (text ++ (before ++ name_of (get_or ns i d)) ≡ old ++ names_text (filter test (take (i + 1) ns))) × ((43 ∷ []) ≡ separator 43 (filter test (take (i + 1) ns)))
name_pushed test old ns i d text before inside has e f =
    let more : filter test (take (i + 1) ns) ≡ filter test (take i ns) ++ get_or ns i d ∷ [] = rw (take_more ns i d inside) (kept test (take i ns) (get_or ns i d) ∙ rw has refl) in (
      rw (e, f, more) (append_assoc old (names_text (filter test (take i ns))) (separator 43 (filter test (take i ns)) ++ name_of (get_or ns i d))
          ∙ ap (λ (t : List ℕ). old ++ t) (sym (joined 43 name_of (filter test (take i ns)) (get_or ns i d)))),
      rw more (sym (some_before 43 (filter test (take i ns)) (get_or ns i d))),
    )

-- or the set does not have it
pub name_passed : (test : ℕ → Bool) (ns : List ℕ) (i d : ℕ) → i < length ns → test (get_or ns i d) ≡ false → filter test (take (i + 1) ns) ≡ filter test (take i ns)
name_passed test ns i d inside has = rw (take_more ns i d inside) (kept test (take i ns) (get_or ns i d) ∙ rw has (append-nil (filter test (take i ns))))

-- what an answer of `right_in` says
pub asked_some : {X : Type 0} (has : Bool) (n given : X) (answer : Option X) → answer ≡ cond has (Some n) None → answer ≡ Some given → (has ≡ true) × (given ≡ n)
asked_some true n given answer e is = (refl, let same = sym is ∙ e in cc)
asked_some false n given answer e is = absurd (let same = sym is ∙ e in cc)

pub asked_none : {X : Type 0} (has : Bool) (n : X) (answer : Option X) → answer ≡ cond has (Some n) None → answer ≡ None → has ≡ false
asked_none true n answer e is = absurd (let same = sym is ∙ e in cc)
asked_none false n answer e is = refl

-- a set has no number that is no right
pub has_right : (rights n : ℕ) → IsRightsWord rights → (IsTrue (is_right n) → ⊥) → has rights n ≡ false
has_right rights n word none = go (has rights n) refl
  where
    go : (b : Bool) → has rights n ≡ b → b ≡ false
    go true e = absurd (none (sym (has-all_rights n) ∙ HasAll-all_rights rights word n e))
    go false e = refl
