-- Which of two hops comes first, as code finds it.
use Rattle.std.proofs.Common.{◌≡◌, ℕ, ◌<◌, Bool, true, false, Option, Some, None, refl, sym, ◌∙◌, ap, arith, cond}
use Rattle.std.specs.Prelude.{◌⊎◌, nat_lt}
use mathlib.Core.Logic.{inl, inr}
use Rattle.std.specs.Cmp.{ranked}
use Rattle.std.specs.Ordering.{nat_cmp, is_lt, ordering_then, MatchOrdering}
use Rattle.std.specs.declared.cmp.Ordering.{Ordering}
use Rattle.std.specs.declared.cmp.Ordering.TheVariants.{Less, Equal, Greater}
use Rattle.std.proofs.lemmas.Bool.{lt-ltb, le-ltb}
use Rattle.hk_model.specs.declared.names.Name.{Name}
use Rattle.hk_model.specs.declared.reaches.Hop.{Hop}
use Rattle.hk_model.specs.declared.reaches.Hop.TheVariants as hop_by
use Rattle.hk_model.specs.Reaches.{index_of, moment_of, is_handed}
use Rattle.hk_report.specs.declared.histories.Span.{Span}
use Rattle.hk_report.specs.declared.hops.Arrived.{Arrived}
use Rattle.hk_report.specs.declared.hops.Latest.{Latest}
use Rattle.hk_report.specs.declared.hops.Onward.{Onward}
use Rattle.hk_report.specs.Hops.{later, comes_before, earlier, entry_onward, handed_onward, onward_over, IsSooner}
use Rattle.hk_report.proofs.Keys.{cmp_same}

-- ---- numbers that differ first

differs : (m n : ℕ) (rest : Ordering) → (m ≡ n → ⊥) → nat_lt m n ≡ is_lt (ordering_then (nat_cmp m n) rest)
differs m n rest apart = by (nat_cmp m n) (ranked m n (nat_cmp m n) refl)
  where
    by : (o : Ordering) → MatchOrdering o (m < n) (m ≡ n) (n < m) → nat_lt m n ≡ is_lt (ordering_then o rest)
    by Less l = lt-ltb m n l
    by Equal e = absurd (apart e)
    by Greater l = le-ltb m n (omega (arith, l))

same_then : (m n : ℕ) (rest : Ordering) → m ≡ n → is_lt rest ≡ is_lt (ordering_then (nat_cmp m n) rest)
same_then m n rest e = ap (λ (o : Ordering). is_lt (ordering_then o rest)) (sym (cmp_same m n e))

pub moment_first : (a b : Hop) → (moment_of a ≡ moment_of b → ⊥) → nat_lt (moment_of a) (moment_of b) ≡ comes_before a b
moment_first a b apart =
    differs (moment_of a) (moment_of b)
    (ordering_then (nat_cmp (index_of a) (index_of b))
    (ordering_then (nat_cmp (elim (is_handed a) [ true ↦ 1 | false ↦ 0 ]) (elim (is_handed b) [ true ↦ 1 | false ↦ 0 ])) Equal)) apart

pub index_first : (a b : Hop) → moment_of a ≡ moment_of b → (index_of a ≡ index_of b → ⊥) → nat_lt (index_of a) (index_of b) ≡ comes_before a b
index_first a b same apart =
    differs (index_of a) (index_of b) (ordering_then (nat_cmp (elim (is_handed a) [ true ↦ 1 | false ↦ 0 ]) (elim (is_handed b) [ true ↦ 1 | false ↦ 0 ])) Equal) apart
    ∙ same_then (moment_of a) (moment_of b)
    (ordering_then (nat_cmp (index_of a) (index_of b))
    (ordering_then (nat_cmp (elim (is_handed a) [ true ↦ 1 | false ↦ 0 ]) (elim (is_handed b) [ true ↦ 1 | false ↦ 0 ])) Equal)) same

-- an entry comes before what is handed
abbrev pub entry_before : Hop → Hop → Bool
entry_before (hop_by.Entry i m) (hop_by.Handed j n) = true
entry_before (hop_by.Entry i m) (hop_by.Entry j n) = false
entry_before (hop_by.Handed i m) b = false

kind_first : (a b : Hop)
    → entry_before a b ≡ is_lt (ordering_then (nat_cmp (elim (is_handed a) [ true ↦ 1 | false ↦ 0 ]) (elim (is_handed b) [ true ↦ 1 | false ↦ 0 ])) Equal)
kind_first (hop_by.Entry i m) (hop_by.Entry j n) = refl
kind_first (hop_by.Entry i m) (hop_by.Handed j n) = refl
kind_first (hop_by.Handed i m) (hop_by.Entry j n) = refl
kind_first (hop_by.Handed i m) (hop_by.Handed j n) = refl

pub handed_last : (a b : Hop) → moment_of a ≡ moment_of b → index_of a ≡ index_of b → entry_before a b ≡ comes_before a b
handed_last a b moments indices =
    kind_first a b
    ∙ same_then (index_of a) (index_of b) (ordering_then (nat_cmp (elim (is_handed a) [ true ↦ 1 | false ↦ 0 ]) (elim (is_handed b) [ true ↦ 1 | false ↦ 0 ])) Equal) indices
    ∙ same_then (moment_of a) (moment_of b)
    (ordering_then (nat_cmp (index_of a) (index_of b))
    (ordering_then (nat_cmp (elim (is_handed a) [ true ↦ 1 | false ↦ 0 ]) (elim (is_handed b) [ true ↦ 1 | false ↦ 0 ])) Equal)) moments

-- ---- the first of the hops so far stays

-- a hop, if it is there, is made at this moment
abbrev pub IsAt : ℕ → Option Onward → Type 0
IsAt moment None = Unit {0}
IsAt moment (Some onward) = moment_of onward.hop ≡ moment

pub made_at : (moment : ℕ) (b : Bool) (onward : Onward) → moment_of onward.hop ≡ moment → IsAt moment (cond b (Some onward) None)
made_at moment true onward e = e
made_at moment false onward e = tt

pub earlier_at : (moment : ℕ) (a b : Option Onward) → IsAt moment a → IsAt moment b → IsAt moment (earlier a b)
earlier_at moment None b h g = g
earlier_at moment (Some a) None h g = h
earlier_at moment (Some a) (Some b) h g = by (comes_before b.hop a.hop)
  where
    by : (o : Bool) → IsAt moment (cond o (Some b) (Some a))
    by true = g
    by false = h

pub first_stays : (moment : ℕ) (a : Onward) (o : Option Onward) → IsAt moment o → moment_of a.hop < moment → earlier (Some a) o ≡ Some a
first_stays moment a None h l = refl
first_stays moment a (Some b) h l =
    ap (λ (o : Bool). cond o (Some b) (Some a))
    (sym (moment_first b.hop a.hop (λ e. omega (arith, e, h, l))) ∙ le-ltb (moment_of b.hop) (moment_of a.hop) (omega (arith, h, l)))

-- a hop, if it is there, is made at this moment over this index
abbrev IsOver : ℕ → ℕ → Option Onward → Type 0
IsOver moment index None = Unit {0}
IsOver moment index (Some onward) = (moment_of onward.hop ≡ moment) × (index_of onward.hop ≡ index)

made_over : (moment index : ℕ) (b : Bool) (onward : Onward) → (moment_of onward.hop ≡ moment) × (index_of onward.hop ≡ index) → IsOver moment index (cond b (Some onward) None)
made_over moment index true onward e = e
made_over moment index false onward e = tt

earlier_over : (moment index : ℕ) (a b : Option Onward) → IsOver moment index a → IsOver moment index b → IsOver moment index (earlier a b)
earlier_over moment index None b h g = g
earlier_over moment index (Some a) None h g = h
earlier_over moment index (Some a) (Some b) h g = by (comes_before b.hop a.hop)
  where
    by : (o : Bool) → IsOver moment index (cond o (Some b) (Some a))
    by true = g
    by false = h

over_stays : (moment index : ℕ) (a : Onward) (o : Option Onward) → IsOver moment index o
    → (moment_of a.hop < moment) ⊎ ((moment_of a.hop ≡ moment) × (index_of a.hop < index)) → earlier (Some a) o ≡ Some a
over_stays moment index a None h l = refl
over_stays moment index a (Some b) h l = ap (λ (o : Bool). cond o (Some b) (Some a)) (by l)
  where
    by : (moment_of a.hop < moment) ⊎ ((moment_of a.hop ≡ moment) × (index_of a.hop < index)) → comes_before b.hop a.hop ≡ false
    by (inl less) =
        let is = h.0 in
        sym (moment_first b.hop a.hop (λ e. omega (arith, e, is, less))) ∙ le-ltb (moment_of b.hop) (moment_of a.hop) (omega (arith, is, less))
    by (inr same) =
        let is = h.0 in
        let at = h.1 in
        let e = same.0 in
        let less = same.1 in
        sym (index_first b.hop a.hop (is ∙ sym e) (λ f. omega (arith, f, at, less))) ∙ le-ltb (index_of b.hop) (index_of a.hop) (omega (arith, at, less))

-- a hop that comes before those over a span stays the first
pub stays_over : (made : Name → Bool) (level : Name → Latest) (from : Arrived) (span : Span) (a : Onward) → IsSooner from span a.hop
    → earlier (Some a) (onward_over made level from span) ≡ Some a
stays_over made level from span a l =
    over_stays (later from.moment span.from) span.index a (onward_over made level from span)
    (earlier_over (later from.moment span.from) span.index (entry_onward from span (level span.cap.name)) (handed_onward from span (level span.cap.name) (made span.cap.name))
    (made_over (later from.moment span.from) span.index _ _ (refl, refl)) (made_over (later from.moment span.from) span.index _ _ (refl, refl))) l
