-- The order of ways with a hop more, and the first of those that are kept that has come to its object by a moment.
use Rattle.std.proofs.Common.{◌≡◌, ℕ, suc, ◌+◌, ◌<◌, ◌≤◌, List, [], ◌∷◌, ◌++◌, length, Bool, true, false, Option, Some, None, refl, sym, ◌∙◌, ap, arith, cond, subst}
use Rattle.std.specs.Prelude.{◌⊎◌, nat_le}
use mathlib.Core.Logic.{inl, inr}
use Rattle.std.specs.List.{find, flat_map}
use Rattle.std.specs.Cmp.{ranked, upto, tied_itself, first_so, second_so}
use Rattle.std.specs.Cmp.Lexicographic.{slice_cmp, nat_list_cmp_total}
use Rattle.std.specs.Ordering.{nat_cmp, is_le, is_gt, ordering_then, MatchOrdering}
use Rattle.std.specs.declared.cmp.Ordering.{Ordering}
use Rattle.std.specs.declared.cmp.Ordering.TheVariants.{Less, Equal, Greater}
use Rattle.std.proofs.lemmas.Bool.{true≢false, leb-true, le-leb}
use Rattle.std.proofs.lemmas.List.{length-append}
use Rattle.hk_model.specs.declared.reaches.Hop.{Hop}
use Rattle.hk_model.specs.Changes.{hop_key, reach_key, is_at_most}
use Rattle.hk_model.proofs.NamesStand.{All, all_more}
use Rattle.hk_report.specs.declared.ways.Way.{Way}
use Rattle.hk_report.specs.Fronts.{stands_for, way_key, comes_by, is_there, first_there, AreRising, IsMetBy}
use Rattle.hk_report.proofs.Keys.{compared, NotAfter, keys_then, hop_then, first_less, first_same}
use Rattle.hk_report.proofs.Onwards.{and_yes}

-- ---- lists of numbers

-- one that is the other or comes before it is not behind it
le_gt : (o : Ordering) → is_le o ≡ true → is_gt o ≡ false
le_gt Less h = refl
le_gt Equal h = refl
le_gt Greater h = absurd (true≢false (sym h))

gt_le : (o : Ordering) → is_gt o ≡ false → is_le o ≡ true
gt_le Less h = refl
gt_le Equal h = refl
gt_le Greater h = absurd (true≢false h)

-- one after the other
pub at_most_then : (a b c : List ℕ) → is_at_most a b ≡ true → is_at_most b c ≡ true → is_at_most a c ≡ true
at_most_then a b c h g =
    gt_le (slice_cmp nat_cmp a c) (upto nat_list_cmp_total a b c (le_gt (slice_cmp nat_cmp a b) h) (le_gt (slice_cmp nat_cmp b c) g))

-- what comes first decides, and else the rest
number_cases : (a b : ℕ) (xs ys : List ℕ) → is_at_most (a ∷ xs) (b ∷ ys) ≡ true → (a < b) ⊎ ((a ≡ b) × (is_at_most xs ys ≡ true))
number_cases a b xs ys h = by (nat_cmp a b) (ranked a b (nat_cmp a b) refl) h
  where
    by : (o : Ordering) → MatchOrdering o (a < b) (a ≡ b) (b < a) → is_le (ordering_then o (slice_cmp nat_cmp xs ys)) ≡ true → (a < b) ⊎ ((a ≡ b) × (is_at_most xs ys ≡ true))
    by Less l g = inl l
    by Equal e g = inr (e, g)
    by Greater l g = absurd (true≢false (sym g))

-- ---- hops with one behind them

-- what is decided by the hops, and what is left to the rest
then_first : (o p : Ordering) → is_le (ordering_then o p) ≡ true → is_le o ≡ true
then_first Less p h = refl
then_first Equal p h = refl
then_first Greater p h = h

hop_first : (a b : Hop) (xs ys : List ℕ) → is_at_most (hop_key a ++ xs) (hop_key b ++ ys) ≡ true → NotAfter a b
hop_first a b xs ys h = then_first (compared a b) (slice_cmp nat_cmp xs ys) (sym (ap is_le (keys_then a b xs ys)) ∙ h)

same_compared : (a b : Hop) → a ≡ b → compared a b ≡ Equal
same_compared a b e = subst (λ (x : Hop). compared a x ≡ Equal) e (tied_itself nat_list_cmp_total (hop_key a))

hop_rest : (a b : Hop) (xs ys : List ℕ) → a ≡ b → is_at_most (hop_key a ++ xs) (hop_key b ++ ys) ≡ true → is_at_most xs ys ≡ true
hop_rest a b xs ys e h =
    sym (ap is_le (keys_then a b xs ys) ∙ ap (λ (o : Ordering). is_le (ordering_then o (slice_cmp nat_cmp xs ys))) (same_compared a b e)) ∙ h

-- as many hops, with one more behind them
hops_longer : (xs ys : List Hop) (x y : Hop) → length xs ≡ length ys → is_at_most (flat_map hop_key xs) (flat_map hop_key ys) ≡ true → NotAfter x y
    → is_at_most (flat_map hop_key (xs ++ x ∷ [])) (flat_map hop_key (ys ++ y ∷ [])) ≡ true
hops_longer [] [] x y e h n = hop_then x y [] [] n (λ s. refl)
hops_longer [] (b ∷ ys) x y e h n = absurd (omega (arith, e))
hops_longer (a ∷ xs) [] x y e h n = absurd (omega (arith, e))
hops_longer (a ∷ xs) (b ∷ ys) x y e h n =
    hop_then a b (flat_map hop_key (xs ++ x ∷ [])) (flat_map hop_key (ys ++ y ∷ [])) (hop_first a b (flat_map hop_key xs) (flat_map hop_key ys) h)
    (λ s. hops_longer xs ys x y (omega (arith, e)) (hop_rest a b (flat_map hop_key xs) (flat_map hop_key ys) s h) n)

-- of reaches that come one before the other, with hops behind them that do
pub reach_longer : (arg other : ℕ) (hops others : List Hop) (x y : Hop) → is_at_most (reach_key arg hops) (reach_key other others) ≡ true → NotAfter x y
    → is_at_most (reach_key arg (hops ++ x ∷ [])) (reach_key other (others ++ y ∷ [])) ≡ true
reach_longer arg other hops others x y h n = counted (number_cases (length hops) (length others) (arg ∷ flat_map hop_key hops) (other ∷ flat_map hop_key others) h)
  where
    left : length (hops ++ x ∷ []) ≡ length hops + 1
    left = length-append hops (x ∷ [])

    right : length (others ++ y ∷ []) ≡ length others + 1
    right = length-append others (y ∷ [])

    numbered : length hops ≡ length others → (arg < other) ⊎ ((arg ≡ other) × (is_at_most (flat_map hop_key hops) (flat_map hop_key others) ≡ true))
        → is_at_most (arg ∷ flat_map hop_key (hops ++ x ∷ [])) (other ∷ flat_map hop_key (others ++ y ∷ [])) ≡ true
    numbered e (inl l) = first_less arg other (flat_map hop_key (hops ++ x ∷ [])) (flat_map hop_key (others ++ y ∷ [])) l
    numbered e (inr g) =
        first_same arg other (flat_map hop_key (hops ++ x ∷ [])) (flat_map hop_key (others ++ y ∷ [])) g.0 (hops_longer hops others x y e g.1 n)

    counted : (length hops < length others) ⊎ ((length hops ≡ length others) × (is_at_most (arg ∷ flat_map hop_key hops) (other ∷ flat_map hop_key others) ≡ true))
        → is_at_most (reach_key arg (hops ++ x ∷ [])) (reach_key other (others ++ y ∷ [])) ≡ true
    counted (inl l) =
        first_less (length (hops ++ x ∷ [])) (length (others ++ y ∷ [])) (arg ∷ flat_map hop_key (hops ++ x ∷ [])) (other ∷ flat_map hop_key (others ++ y ∷ []))
        (omega (arith, left, right, l))
    counted (inr g) =
        first_same (length (hops ++ x ∷ [])) (length (others ++ y ∷ [])) (arg ∷ flat_map hop_key (hops ++ x ∷ [])) (other ∷ flat_map hop_key (others ++ y ∷ []))
        (let e = g.0 in omega (arith, left, right, e)) (numbered g.0 (number_cases arg other (flat_map hop_key hops) (flat_map hop_key others) g.1))

-- ---- the first way that is there

pub option_same : {X : Type 0} {x y : X} → Some x ≡ Some y → x ≡ y
option_same h = cc

-- what is found is one of all, and passes
pub found_all : {X : Type 0} (R : X → Type 0) (test : X → Bool) (xs : List X) (x : X) → find test xs ≡ Some x → All R xs → R x × (test x ≡ true)
found_all R test [] x h all = absurd (cc)
found_all R test (y ∷ xs) x h all = by (λ g. found_all R test xs x g all.1) (test y) refl h
  where
    by : (find test xs ≡ Some x → R x × (test x ≡ true)) → (b : Bool) → test y ≡ b → cond b (Some y) (find test xs) ≡ Some x → R x × (test x ≡ true)
    by later true e g = let same : y ≡ x = option_same g in (subst R same all.0, subst (λ z. test z ≡ true) same e)
    by later false e g = later g

-- what is there is there later
pub there_later : (handed : Bool) (m n : ℕ) (way : Way) → m ≤ n → is_there handed m way ≡ true → is_there handed n way ≡ true
there_later handed m n way l h =
    and_yes (stands_for handed way.to) (nat_le way.to.moment n) (first_so (stands_for handed way.to) (nat_le way.to.moment m) h)
    (le-leb way.to.moment n (let a = leb-true way.to.moment m (second_so (stands_for handed way.to) (nat_le way.to.moment m) h) in omega (arith, a, l)))

-- a way behind another is met by what the other is met by
pub met_then : (a b : Way) (first : Option Way) → comes_by a b ≡ true → IsMetBy a first → IsMetBy b first
met_then a b None h g = g
met_then a b (Some first) h g = at_most_then (way_key first) (way_key a) (way_key b) g h

rising_tail : (a : Way) (ways : List Way) → AreRising (a ∷ ways) → AreRising ways
rising_tail a ways h = λ n x y p q. h (suc n) x y p q

-- of ways that rise the first comes before each, and before all that any of them comes before
rising_first : (a : Way) (ways : List Way) → AreRising (a ∷ ways) → All (λ (w : Way). comes_by a w ≡ true) ways
rising_first a [] h = tt
rising_first a (b ∷ ways) h =
    let next = h 0 a b refl refl in (
      next,
      all_more (λ (w : Way). comes_by b w ≡ true) (λ (w : Way). comes_by a w ≡ true) (λ w g. at_most_then (way_key a) (way_key b) (way_key w) next g) ways
          (rising_first b ways (rising_tail a (b ∷ ways) h)),
    )

first_meets : (a way : Way) (ways : List Way) (test : Way → Bool) → All (λ (w : Way). comes_by a w ≡ true) ways → IsMetBy way (find test ways) → comes_by a way ≡ true
first_meets a way [] test all h = absurd h
first_meets a way (b ∷ ways) test all h = by (first_meets a way ways test all.1) (test b) h
  where
    by : (IsMetBy way (find test ways) → comes_by a way ≡ true) → (o : Bool) → IsMetBy way (cond o (Some b) (find test ways)) → comes_by a way ≡ true
    by later true g = at_most_then (way_key a) (way_key b) (way_key way) all.0 g
    by later false g = later g

-- a way that is met is met later
pub met_later : (handed : Bool) (m n : ℕ) (way : Way) (ways : List Way) → m ≤ n → AreRising ways → IsMetBy way (first_there handed m ways)
    → IsMetBy way (first_there handed n ways)
met_later handed m n way [] l rising h = h
met_later handed m n way (a ∷ ways) l rising h =
    by (met_later handed m n way ways l (rising_tail a ways rising)) (is_there handed m a) refl (is_there handed n a) refl h
  where
    by : (IsMetBy way (first_there handed m ways) → IsMetBy way (first_there handed n ways)) → (o : Bool) → is_there handed m a ≡ o → (p : Bool) → is_there handed n a ≡ p
        → IsMetBy way (cond o (Some a) (first_there handed m ways)) → IsMetBy way (cond p (Some a) (first_there handed n ways))
    by rest true e true f g = g
    by rest true e false f g = absurd (true≢false (sym (there_later handed m n a l e) ∙ f))
    by rest false e true f g = first_meets a way ways (is_there handed m) (rising_first a ways rising) g
    by rest false e false f g = rest g
