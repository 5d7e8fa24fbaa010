-- The order of hops and of reaches.
use Rattle.std.proofs.Common.{◌≡◌, ℕ, ◌<◌, ◌≤◌, List, ◌∷◌, ◌++◌, Bool, true, false, refl, sym, ◌∙◌, ap, arith, subst}
use Rattle.std.specs.Cmp.{ranked}
use Rattle.std.specs.Cmp.Lexicographic.{slice_cmp, nat_list_cmp_total}
use Rattle.std.specs.FinMap.{slice_cmp-IsAntisymmetric, nat_cmp-IsAntisymmetric}
use Rattle.std.specs.Ordering.{nat_cmp, is_le, is_lt, ordering_then, ordering_reverse, MatchOrdering}
use Rattle.std.specs.declared.cmp.Ordering.{Ordering}
use Rattle.std.specs.declared.cmp.Ordering.TheVariants.{Less, Equal, Greater}
use Rattle.std.proofs.lemmas.Bool.{true≢false}
use Rattle.hk_model.specs.declared.reaches.Hop.{Hop}
use Rattle.hk_model.specs.declared.reaches.Hop.TheVariants as hop_by
use Rattle.hk_model.specs.Reaches.{index_of, moment_of, is_handed}
use Rattle.hk_model.specs.Changes.{hop_key, is_at_most}

-- how two hops stand to each other
abbrev pub compared : Hop → Hop → Ordering
compared a b = slice_cmp nat_cmp (hop_key a) (hop_key b)

-- one is the other, or comes before it
abbrev pub NotAfter : Hop → Hop → Type 0
NotAfter a b = is_le (compared a b) ≡ true

-- where the hops are compared first
pub keys_then : (a b : Hop) (xs ys : List ℕ) → slice_cmp nat_cmp (hop_key a ++ xs) (hop_key b ++ ys) ≡ ordering_then (compared a b) (slice_cmp nat_cmp xs ys)
keys_then a b xs ys =
    by (nat_cmp (moment_of a) (moment_of b)) (nat_cmp (index_of a) (index_of b))
    (nat_cmp (elim (is_handed a) [ true ↦ 1 | false ↦ 0 ]) (elim (is_handed b) [ true ↦ 1 | false ↦ 0 ])) (slice_cmp nat_cmp xs ys)
  where
    by : (o p q r : Ordering) → ordering_then o (ordering_then p (ordering_then q r)) ≡ ordering_then (ordering_then o (ordering_then p (ordering_then q Equal))) r
    by Less p q r = refl
    by Greater p q r = refl
    by Equal Less q r = refl
    by Equal Greater q r = refl
    by Equal Equal Less r = refl
    by Equal Equal Greater r = refl
    by Equal Equal Equal r = refl

-- ---- numbers

pub cmp_less : (a b : ℕ) → a < b → nat_cmp a b ≡ Less
cmp_less a b h = by (nat_cmp a b) (ranked a b (nat_cmp a b) refl)
  where
    by : (o : Ordering) → MatchOrdering o (a < b) (a ≡ b) (b < a) → o ≡ Less
    by Less f = refl
    by Equal f = absurd (omega (arith, h, f))
    by Greater f = absurd (omega (arith, h, f))

pub cmp_same : (a b : ℕ) → a ≡ b → nat_cmp a b ≡ Equal
cmp_same a b h = by (nat_cmp a b) (ranked a b (nat_cmp a b) refl)
  where
    by : (o : Ordering) → MatchOrdering o (a < b) (a ≡ b) (b < a) → o ≡ Equal
    by Less f = absurd (omega (arith, h, f))
    by Equal f = refl
    by Greater f = absurd (omega (arith, h, f))

-- ---- hops

-- an earlier moment at the same index, by the same kind of hop
then_le : (o : Ordering) (p q : Ordering) → is_le o ≡ true → p ≡ Equal → q ≡ Equal → is_le (ordering_then o (ordering_then p (ordering_then q Equal))) ≡ true
then_le Less p q h e f = refl
then_le Equal p q h e f = rw (e, f) refl
then_le Greater p q h e f = absurd (true≢false (sym h))

cmp_le : (a b : ℕ) → a ≤ b → is_le (nat_cmp a b) ≡ true
cmp_le a b h = by (nat_cmp a b) (ranked a b (nat_cmp a b) refl)
  where
    by : (o : Ordering) → MatchOrdering o (a < b) (a ≡ b) (b < a) → is_le o ≡ true
    by Less f = refl
    by Equal f = refl
    by Greater f = absurd (omega (arith, h, f))

pub sooner : (a b : Hop) → moment_of a ≤ moment_of b → index_of a ≡ index_of b → is_handed a ≡ is_handed b → NotAfter a b
sooner a b h e f =
    then_le (nat_cmp (moment_of a) (moment_of b)) (nat_cmp (index_of a) (index_of b))
    (nat_cmp (elim (is_handed a) [ true ↦ 1 | false ↦ 0 ]) (elim (is_handed b) [ true ↦ 1 | false ↦ 0 ]))
    (cmp_le (moment_of a) (moment_of b) h) (cmp_same (index_of a) (index_of b) e)
    (cmp_same (elim (is_handed a) [ true ↦ 1 | false ↦ 0 ]) (elim (is_handed b) [ true ↦ 1 | false ↦ 0 ])
    (ap (λ (x : Bool). elim x as (λ y. ℕ) [ true ↦ 1 | false ↦ 0 ]) f))

-- hops that are not apart are the same
equal_keys : (a b : Hop) → compared a b ≡ Equal → hop_key a ≡ hop_key b
equal_keys a b h = slice_cmp-IsAntisymmetric nat_cmp-IsAntisymmetric (hop_key a) (hop_key b) h

handed_same : (a b : Bool) → ◌≡◌ {A = ℕ} (elim a [ true ↦ 1 | false ↦ 0 ]) (elim b [ true ↦ 1 | false ↦ 0 ]) → a ≡ b
handed_same true true h = refl
handed_same false false h = refl
handed_same true false h = absurd (omega (arith, h))
handed_same false true h = absurd (omega (arith, h))

hop_same : (x y : Hop) → moment_of x ≡ moment_of y → index_of x ≡ index_of y → is_handed x ≡ is_handed y → x ≡ y
hop_same (hop_by.Entry i m) (hop_by.Entry j n) p q r = λ k. hop_by.Entry (q k) (p k)
hop_same (hop_by.Handed i m) (hop_by.Handed j n) p q r = λ k. hop_by.Handed (q k) (p k)
hop_same (hop_by.Entry i m) (hop_by.Handed j n) p q r = absurd (true≢false (sym r))
hop_same (hop_by.Handed i m) (hop_by.Entry j n) p q r = absurd (true≢false r)

pub same_hop : (a b : Hop) → compared a b ≡ Equal → a ≡ b
same_hop a b h =
    let keys = equal_keys a b h in
    let moments : moment_of a ≡ moment_of b = cc in
    let indices : index_of a ≡ index_of b = cc in
    let kinds : ◌≡◌ {A = ℕ} (elim (is_handed a) [ true ↦ 1 | false ↦ 0 ]) (elim (is_handed b) [ true ↦ 1 | false ↦ 0 ]) = cc in
    hop_same a b moments indices (handed_same (is_handed a) (is_handed b) kinds)

turned : (a b : Hop) → compared a b ≡ ordering_reverse (compared b a)
turned a b = nat_list_cmp_total.antisymm (hop_key a) (hop_key b)

-- what is not before is not after the other way round
pub not_before : (a b : Hop) → is_lt (compared b a) ≡ false → NotAfter a b
not_before a b h = by (compared b a) (compared a b) (turned a b) h
  where
    by : (o p : Ordering) → p ≡ ordering_reverse o → is_lt o ≡ false → is_le p ≡ true
    by Less p e g = absurd (true≢false g)
    by Equal p e g = rw e refl
    by Greater p e g = rw e refl

-- what is before comes before all that the other comes before
pub before_then : (a b c : Hop) → is_lt (compared b a) ≡ true → NotAfter a c → NotAfter b c
before_then a b c h g = by (compared b a) refl (compared a c) refl h g
  where
    by : (o : Ordering) → compared b a ≡ o → (p : Ordering) → compared a c ≡ p → is_lt o ≡ true → is_le p ≡ true → NotAfter b c
    by Less e Less f h g = ap is_le (nat_list_cmp_total.trans (hop_key b) (hop_key a) (hop_key c) e f)
    by Less e Equal f h g = subst (λ (x : Hop). NotAfter b x) (same_hop a c f) (ap is_le e)
    by Less e Greater f h g = absurd (true≢false (sym g))
    by Equal e p f h g = absurd (true≢false (sym h))
    by Greater e p f h g = absurd (true≢false (sym h))

pub not_after_then : (a b c : Hop) → NotAfter a b → NotAfter b c → NotAfter a c
not_after_then a b c h g = by (compared a b) refl (compared b c) refl h g
  where
    by : (o : Ordering) → compared a b ≡ o → (p : Ordering) → compared b c ≡ p → is_le o ≡ true → is_le p ≡ true → NotAfter a c
    by Less e Less f h g = ap is_le (nat_list_cmp_total.trans (hop_key a) (hop_key b) (hop_key c) e f)
    by Less e Equal f h g = subst (λ (x : Hop). NotAfter a x) (same_hop b c f) (ap is_le e)
    by Less e Greater f h g = absurd (true≢false (sym g))
    by Equal e p f h g = subst (λ (x : Hop). NotAfter x c) (sym (same_hop a b e)) (ap is_le f ∙ g)
    by Greater e p f h g = absurd (true≢false (sym h))

-- ---- hops one behind the other

-- a hop that comes before another, and behind the same hop what comes before others, come before
pub hop_then : (a b : Hop) (xs ys : List ℕ) → NotAfter a b → (a ≡ b → is_at_most xs ys ≡ true) → is_at_most (hop_key a ++ xs) (hop_key b ++ ys) ≡ true
hop_then a b xs ys h g = ap is_le (keys_then a b xs ys) ∙ by (compared a b) refl h
  where
    by : (o : Ordering) → compared a b ≡ o → is_le o ≡ true → is_le (ordering_then o (slice_cmp nat_cmp xs ys)) ≡ true
    by Less e k = refl
    by Equal e k = g (same_hop a b e)
    by Greater e k = absurd (true≢false (sym k))

pub first_less : (m n : ℕ) (xs ys : List ℕ) → m < n → is_at_most (m ∷ xs) (n ∷ ys) ≡ true
first_less m n xs ys h = ap (λ (o : Ordering). is_le (ordering_then o (slice_cmp nat_cmp xs ys))) (cmp_less m n h)

pub first_same : (m n : ℕ) (xs ys : List ℕ) → m ≡ n → is_at_most xs ys ≡ true → is_at_most (m ∷ xs) (n ∷ ys) ≡ true
first_same m n xs ys h g = ap (λ (o : Ordering). is_le (ordering_then o (slice_cmp nat_cmp xs ys))) (cmp_same m n h) ∙ g
