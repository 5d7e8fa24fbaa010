-- The changes of a history with their reasons are one list: there is one least reach.
use Rattle.std.proofs.Common.{◌≡◌, ℕ, List, [], ◌∷◌, Bool, true, false, refl, sym, ◌∙◌, arith}
use Rattle.std.specs.List.{flat_map}
use Rattle.std.specs.Cmp.Lexicographic.{slice_cmp, nat_list_cmp_total}
use Rattle.std.specs.FinMap.{slice_cmp-IsAntisymmetric, nat_cmp-IsAntisymmetric}
use Rattle.std.specs.Ordering.{nat_cmp, is_le, ordering_reverse}
use Rattle.std.specs.declared.cmp.Ordering.{Ordering}
use Rattle.std.specs.declared.cmp.Ordering.TheVariants.{Less, Equal, Greater}
use Rattle.std.proofs.lemmas.Bool.{true≢false}
use Rattle.hk_model.specs.declared.names.Name.{Name}
use Rattle.hk_model.specs.declared.names.Inc.{Inc}
use Rattle.hk_model.specs.declared.lines.Line.{Line}
use Rattle.hk_model.specs.declared.reaches.Hop.{Hop}
use Rattle.hk_model.specs.declared.reaches.Hop.TheVariants as hop_by
use Rattle.hk_model.specs.declared.reaches.Reach.{Reach}
use Rattle.hk_model.specs.declared.reaches.Reach.TheVariants.{Made, Param}
use Rattle.hk_model.specs.declared.reaches.Change.{Change}
use Rattle.hk_model.specs.WorldValue.{WorldValue}
use Rattle.hk_model.specs.Reaches.{index_of, moment_of, is_handed}
use Rattle.hk_model.specs.Changes.{hop_key, reach_key, is_at_most, BareChange, IsReason, IsExplained, AreExplained, HasOneList, bare_changes}

-- lists of numbers that come before each other are the same
at_most_both : (a b : List ℕ) → is_at_most a b ≡ true → is_at_most b a ≡ true → a ≡ b
at_most_both a b h g = slice_cmp-IsAntisymmetric nat_cmp-IsAntisymmetric a b (by (slice_cmp nat_cmp a b) (slice_cmp nat_cmp b a) (nat_list_cmp_total.antisymm a b) h g)
  where
    by : (o p : Ordering) → o ≡ ordering_reverse p → is_le o ≡ true → is_le p ≡ true → o ≡ Equal
    by Equal p e h g = refl
    by Greater p e h g = absurd (cc)
    by Less Less e h g = absurd (cc)
    by Less Equal e h g = absurd (cc)
    by Less Greater e h g = absurd (cc)

-- hops with the same keys are the same
handed_same : (a b : Bool) → ◌≡◌ {A = ℕ} (elim a [ true ↦ 1 | false ↦ 0 ]) (elim b [ true ↦ 1 | false ↦ 0 ]) → a ≡ b
handed_same true true h = refl
handed_same false false h = refl
handed_same true false h = absurd (omega (arith, h))
handed_same false true h = absurd (omega (arith, h))

hop_same : (x y : Hop) → moment_of x ≡ moment_of y → index_of x ≡ index_of y → is_handed x ≡ is_handed y → x ≡ y
hop_same (hop_by.Entry i m) (hop_by.Entry j n) p q r = λ k. hop_by.Entry (q k) (p k)
hop_same (hop_by.Handed i m) (hop_by.Handed j n) p q r = λ k. hop_by.Handed (q k) (p k)
hop_same (hop_by.Entry i m) (hop_by.Handed j n) p q r = absurd (true≢false (sym r))
hop_same (hop_by.Handed i m) (hop_by.Entry j n) p q r = absurd (true≢false r)

hops_same : (a b : List Hop) → flat_map hop_key a ≡ flat_map hop_key b → a ≡ b
hops_same [] [] h = refl
hops_same [] (y ∷ ys) h = absurd (cc)
hops_same (x ∷ xs) [] h = absurd (cc)
hops_same (x ∷ xs) (y ∷ ys) h =
    let moments : moment_of x ≡ moment_of y = cc in
    let indices : index_of x ≡ index_of y = cc in
    let kinds : ◌≡◌ {A = ℕ} (elim (is_handed x) [ true ↦ 1 | false ↦ 0 ]) (elim (is_handed y) [ true ↦ 1 | false ↦ 0 ]) = cc in
    let rest : flat_map hop_key xs ≡ flat_map hop_key ys = cc in
    let handed = handed_same (is_handed x) (is_handed y) kinds in
    let hop = hop_same x y moments indices handed in
    let hops = hops_same xs ys rest in
    λ i. hop i ∷ hops i

reach_same : (p q : ℕ) (a b : List Hop) → reach_key p a ≡ reach_key q b → ◌≡◌ {A = Reach} (Param p a) (Param q b)
reach_same p q a b h =
    let params : p ≡ q = cc in
    let keys : flat_map hop_key a ≡ flat_map hop_key b = cc in
    let hops = hops_same a b keys in
    λ i. Param (params i) (hops i)

-- there is one reason of a change
one_reason : (w : WorldValue) (lines : List Line) (k : ℕ) (call : Inc) (moment : ℕ) (name : Name) (a b : Reach) → IsReason w lines k call moment name a
    → IsReason w lines k call moment name b → a ≡ b
one_reason w lines k call moment name Made Made f g = refl
one_reason w lines k call moment name Made (Param q others) f g = absurd (true≢false (sym f ∙ g.0))
one_reason w lines k call moment name (Param p hops) Made f g = absurd (true≢false (sym g ∙ f.0))
one_reason w lines k call moment name (Param p hops) (Param q others) f g =
    reach_same p q hops others (at_most_both (reach_key p hops) (reach_key q others) (f.1.least q others g.1.is) (g.1.least p hops f.1.is))

one_explanation : (w : WorldValue) (lines : List Line) (bare : BareChange) (a b : Change) → IsExplained w lines bare a → IsExplained w lines bare b → a ≡ b
one_explanation w lines bare a b f g =
    let line = f.line ∙ sym g.line in
    let under = f.under ∙ sym g.under in
    let object = f.object ∙ sym g.object in
    let reach = one_reason w lines bare.under.moment bare.under.call bare.moment bare.object a.reach b.reach f.reason g.reason in
    λ i. record { line = line i; under = under i; object = object i; reach = reach i }

explained_once : (w : WorldValue) (lines : List Line) (all : List BareChange) (a b : List Change) → AreExplained w lines all a → AreExplained w lines all b → a ≡ b
explained_once w lines [] [] [] f g = refl
explained_once w lines [] (x ∷ xs) b f g = absurd f
explained_once w lines [] [] (y ∷ ys) f g = absurd g
explained_once w lines (t ∷ ts) [] b f g = absurd f
explained_once w lines (t ∷ ts) (x ∷ xs) [] f g = absurd g
explained_once w lines (t ∷ ts) (x ∷ xs) (y ∷ ys) f g =
    let first = one_explanation w lines t x y f.0 g.0 in
    let rest = explained_once w lines ts xs ys f.1 g.1 in
    λ i. first i ∷ rest i

-- the changes of a history with their reasons
pub one_list_of_changes : (w : WorldValue) (lines : List Line) → HasOneList w lines
one_list_of_changes w lines a b f g = explained_once w lines (bare_changes w lines) a b f g
