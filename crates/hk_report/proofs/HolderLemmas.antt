-- Which runs hold an object, as the runs are kept one after another.
use Rattle.std.proofs.Common.{◌≡◌, ℕ, zero, suc, ◌+◌, ◌-◌, ◌<◌, ◌≤◌, List, [], ◌∷◌, ◌++◌, length, replicate, Bool, true, false, None, refl, sym, ◌∙◌, ap, arith, cond, subst}
use Rattle.std.specs.Prelude.{◌==◌, nat_lt, drop, filter, slice_get, slice_set, slice_index_or}
use Rattle.std.proofs.lemmas.Bool.{true≢false, ltb-true, ltb-false, eqb-true, eqb-false, eq-eqb, ne_eqb}
use Rattle.std.proofs.lemmas.List.{append-nil, append_assoc, length-append, length-replicate}
use Rattle.std.proofs.lemmas.List.Elements.{filter-append}
use Rattle.hk_model.specs.declared.names.Name.{Name}
use Rattle.hk_report.specs.declared.histories.Span.{Span}
use Rattle.hk_report.specs.declared.histories.History.{History}
use Rattle.hk_report.specs.declared.holders.Stretch.{Stretch}
use Rattle.hk_report.specs.Histories.{history_of}
use Rattle.hk_report.specs.Runs.{ends_at}
use Rattle.hk_report.specs.Holders.{stretch_at, stretches, holds, held_at, IsOneMore, numbered, stretches_of, stretches_below}
use Rattle.hk_report.proofs.HistoryLemmas.{name_is}

-- ---- one run more is kept

module _ {X : Type 0} where
  pub set_same : (all : List (List X)) (n : ℕ) (xs : List X) → n < length all → slice_index_or (slice_set all n xs) n [] ≡ xs
  set_same [] n xs l = absurd (omega (arith, l))
  set_same (ys ∷ all) zero xs l = refl
  set_same (ys ∷ all) (suc n) xs l = set_same all n xs (omega (arith, l))

  pub set_other : (all : List (List X)) (n m : ℕ) (xs : List X) → (n == m) ≡ false → slice_index_or (slice_set all n xs) m [] ≡ slice_index_or all m []
  set_other [] n m xs e = refl
  set_other (ys ∷ all) zero zero xs e = absurd (true≢false e)
  set_other (ys ∷ all) zero (suc m) xs e = refl
  set_other (ys ∷ all) (suc n) zero xs e = refl
  set_other (ys ∷ all) (suc n) (suc m) xs e = set_other all n m xs (ne_eqb n m (λ f. eqb-false (suc n) (suc m) e (omega (arith, f))))

  pub none_at : (n i : ℕ) → slice_index_or (replicate n (let none : List X = [] in none)) i [] ≡ []
  none_at zero i = refl
  none_at (suc n) zero = refl
  none_at (suc n) (suc i) = none_at n i

  grown_at : (all : List (List X)) (n i : ℕ) → slice_index_or (all ++ replicate n []) i [] ≡ slice_index_or all i []
  grown_at [] n i = none_at n i
  grown_at (xs ∷ all) n zero = refl
  grown_at (xs ∷ all) n (suc i) = grown_at all n i

  pub beyond : (all : List (List X)) (i : ℕ) → length all ≤ i → slice_index_or all i [] ≡ []
  beyond [] i l = refl
  beyond (xs ∷ all) zero l = absurd (omega (arith, l))
  beyond (xs ∷ all) (suc i) l = beyond all i (omega (arith, l))

  grown_length : (all : List (List X)) (n : ℕ) → length all ≤ n → length (all ++ replicate (n - length all) []) ≡ n
  grown_length all n l =
      let a = length-append all (replicate (n - length all) []) in
      let b : length (replicate (n - length all) (let none : List X = [] in none)) ≡ n - length all = length-replicate (n - length all) [] in
      omega (arith, a, b, l)

  pub last_same : (all : List (List X)) (xs : List X) (n : ℕ) → length all ≡ n → slice_index_or (all ++ xs ∷ []) n [] ≡ xs
  last_same [] xs n e = rw (sym e) refl
  last_same (ys ∷ all) xs zero e = absurd (omega (arith, e))
  last_same (ys ∷ all) xs (suc n) e = last_same all xs n (omega (arith, e))

  pub last_other : (all : List (List X)) (xs : List X) (n m : ℕ) → length all ≡ n → (n == m) ≡ false → slice_index_or (all ++ xs ∷ []) m [] ≡ slice_index_or all m []
  last_other [] xs n zero e f = absurd (true≢false (sym (eq-eqb n 0 (omega (arith, e))) ∙ f))
  last_other [] xs n (suc m) e f = refl
  last_other (ys ∷ all) xs zero m e f = absurd (omega (arith, e))
  last_other (ys ∷ all) xs (suc n) zero e f = refl
  last_other (ys ∷ all) xs (suc n) (suc m) e f = last_other all xs n m (omega (arith, e)) (ne_eqb n m (λ g. eqb-false (suc n) (suc m) f (omega (arith, g))))

-- one list with a run more
abbrev pub one_more : Stretch → List (List Stretch) → List (List Stretch)
one_more held all = elim (nat_lt held.cap.name.0 (length all)) [
  | true ↦ slice_set all held.cap.name.0 (held_at all held.cap.name ++ held ∷ [])
  | false ↦ (all ++ replicate (held.cap.name.0 - length all) []) ++ (held ∷ []) ∷ []
]

module _ (held : Stretch) (all : List (List Stretch)) where
  abbrev of : Name
  of = held.cap.name

  more_same : held_at (one_more held all) of ≡ held_at all of ++ held ∷ []
  more_same = by (nat_lt of.0 (length all)) refl
    where
      by : (b : Bool) → nat_lt of.0 (length all) ≡ b
          → slice_index_or (elim b as (λ x. List (List Stretch)) [
            | true ↦ slice_set all of.0 (held_at all of ++ held ∷ [])
            | false ↦ (all ++ replicate (of.0 - length all) []) ++ (held ∷ []) ∷ []
          ]) of.0 []
          ≡ held_at all of ++ held ∷ []
      by true e = set_same all of.0 (held_at all of ++ held ∷ []) (ltb-true of.0 (length all) e)
      by false e =
          let l = ltb-false of.0 (length all) e in
          last_same (all ++ replicate (of.0 - length all) []) (held ∷ []) of.0 (grown_length all of.0 l) ∙ ap (λ (xs : List Stretch). xs ++ held ∷ []) (sym (beyond all of.0 l))

  more_other : (name : Name) → (of.0 == name.0) ≡ false → held_at (one_more held all) name ≡ held_at all name
  more_other name f = by (nat_lt of.0 (length all)) refl
    where
      by : (b : Bool) → nat_lt of.0 (length all) ≡ b
          → slice_index_or (elim b as (λ x. List (List Stretch)) [
            | true ↦ slice_set all of.0 (held_at all of ++ held ∷ [])
            | false ↦ (all ++ replicate (of.0 - length all) []) ++ (held ∷ []) ∷ []
          ]) name.0 []
          ≡ slice_index_or all name.0 []
      by true e = set_other all of.0 name.0 (held_at all of ++ held ∷ []) f
      by false e =
          last_other (all ++ replicate (of.0 - length all) []) (held ∷ []) of.0 name.0 (grown_length all of.0 (ltb-false of.0 (length all) e)) f
          ∙ grown_at all (of.0 - length all) name.0

  -- what holds an object is what held it, and this run where it does
  more_is : (name : Name) (rest : List Stretch) → held_at (one_more held all) name ++ filter (holds name) rest ≡ held_at all name ++ filter (holds name) (held ∷ rest)
  more_is name rest = by (of.0 == name.0) refl
    where
      by : (b : Bool) → (of.0 == name.0) ≡ b
          → held_at (one_more held all) name ++ filter (holds name) rest ≡ held_at all name ++ cond b (held ∷ filter (holds name) rest) (filter (holds name) rest)
      by true e =
          ap (λ (xs : List Stretch). xs ++ filter (holds name) rest)
          (subst (λ (x : Name). held_at (one_more held all) x ≡ held_at all x ++ held ∷ []) (name_is of name (eqb-true of.0 name.0 e)) more_same)
          ∙ append_assoc (held_at all name) (held ∷ []) (filter (holds name) rest)
      by false e = ap (λ (xs : List Stretch). xs ++ filter (holds name) rest) (more_other name e)

pub more_held : (held : Stretch) (all after : List (List Stretch)) → after ≡ one_more held all → IsOneMore held all after
more_held held all after is name =
    ap (λ (xs : List (List Stretch)). held_at xs name) is ∙ sym (append-nil (held_at (one_more held all) name)) ∙ more_is held all name []

-- ---- the runs of a list that are left

module _ {X : Type 0} where
  drop_zero : (xs : List X) → drop 0 xs ≡ xs
  drop_zero [] = refl
  drop_zero (x ∷ xs) = refl

  drop_suc : (xs : List X) (n : ℕ) (x : X) → n < length xs → x ≡ slice_index_or xs n x → drop n xs ≡ x ∷ drop (suc n) xs
  drop_suc [] n x l e = absurd (omega (arith, l))
  drop_suc (y ∷ xs) zero x l e = ap (λ (z : X). z ∷ xs) (sym e) ∙ ap (λ (zs : List X). x ∷ zs) (sym (drop_zero xs))
  drop_suc (y ∷ xs) (suc n) x l e = drop_suc xs n x (omega (arith, l)) e

  pub drop_more : (xs : List X) (n : ℕ) (x : X) → n < length xs → x ≡ slice_index_or xs n x → drop n xs ≡ x ∷ drop (n + 1) xs
  drop_more xs n x l e =
      let number : suc n ≡ n + 1 = omega arith in
      drop_suc xs n x l e ∙ ap (λ (k : ℕ). x ∷ drop k xs) number

  pub drop_done : (xs : List X) (n : ℕ) → length xs ≤ n → drop n xs ≡ []
  drop_done [] zero l = refl
  drop_done [] (suc n) l = refl
  drop_done (x ∷ xs) zero l = absurd (omega (arith, l))
  drop_done (x ∷ xs) (suc n) l = drop_done xs n (omega (arith, l))

-- no span, no run
pub none_more : (before : List (List Stretch)) (name : Name) (by : Name) (first end : ℕ) → held_at before name ≡ held_at before name ++ filter (holds name) (stretch_at by first end None)
none_more before name by first end = sym (append-nil (held_at before name))

pub run_held : (before after : List (List Stretch)) (by : Name) (spans : List Span) (first k end : ℕ) (ends : List ℕ) (name : Name) (whole : List Stretch) → k < length ends
    → end ≡ slice_index_or ends k end
    → held_at after name ≡ held_at before name ++ filter (holds name) (stretch_at by first end (slice_get spans first))
    → held_at before name ++ filter (holds name) (stretches by spans first (drop k ends)) ≡ whole
    → held_at after name ++ filter (holds name) (stretches by spans end (drop (k + 1) ends)) ≡ whole
run_held before after by spans first k end ends name whole l e is h =
    let one = stretch_at by first end (slice_get spans first) in
    let rest = stretches by spans end (drop (k + 1) ends) in
    ap (λ (xs : List Stretch). xs ++ filter (holds name) rest) is
    ∙ append_assoc (held_at before name) (filter (holds name) one) (filter (holds name) rest)
    ∙ ap (λ (xs : List Stretch). held_at before name ++ xs) (sym (filter-append (holds name) one rest))
    ∙ ap (λ (xs : List ℕ). held_at before name ++ filter (holds name) (stretches by spans first xs)) (sym (drop_more ends k end l e)) ∙ h

pub runs_held : (all : List (List Stretch)) (by : Name) (spans : List Span) (first k : ℕ) (ends : List ℕ) (name : Name) (whole : List Stretch) → length ends ≤ k
    → held_at all name ++ filter (holds name) (stretches by spans first (drop k ends)) ≡ whole → held_at all name ≡ whole
runs_held all by spans first k ends name whole l h =
    sym (append-nil (held_at all name))
    ∙ ap (λ (xs : List ℕ). held_at all name ++ filter (holds name) (stretches by spans first xs)) (sym (drop_done ends k l)) ∙ h

-- ---- the runs of the lists of the objects below a name

pub list_held : (histories : List History) (runs : List (List ℕ)) (before after : List (List Stretch)) (n : ℕ) (by name : Name) (spans : List Span) (ends : List ℕ) → by.0 ≡ n
    → spans ≡ (history_of histories by).spans → ends ≡ ends_at runs by
    → held_at after name ≡ held_at before name ++ filter (holds name) (stretches by spans 0 ends)
    → held_at before name ≡ filter (holds name) (stretches_below histories runs n) → held_at after name ≡ filter (holds name) (stretches_below histories runs (n + 1))
list_held histories runs before after n by name spans ends number s e is h =
    let more : suc n ≡ n + 1 = omega arith in
    is
    ∙ ap (λ (xs : List Stretch). xs ++ filter (holds name) (stretches by spans 0 ends)) h
    ∙ sym (filter-append (holds name) (stretches_below histories runs n) (stretches by spans 0 ends))
    ∙ ap (λ (xs : List Span). filter (holds name) (stretches_below histories runs n ++ stretches by xs 0 ends)) s
    ∙ ap (λ (xs : List ℕ). filter (holds name) (stretches_below histories runs n ++ stretches by (history_of histories by).spans 0 xs)) e
    ∙ ap (λ (x : Name). filter (holds name) (stretches_below histories runs n ++ stretches_of histories runs x)) (name_is by (numbered n) number)
    ∙ ap (λ (k : ℕ). filter (holds name) (stretches_below histories runs k)) more
