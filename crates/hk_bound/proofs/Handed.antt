-- What comes to a process by way of a third comes to it.
use Rattle.std.proofs.Common.{◌≡◌, ℕ, zero, suc, ◌+◌, ◌<◌, List, [], ◌∷◌, ◌++◌, length, Bool, true, false, Option, Some, None, refl, sym, ◌∙◌, ap, subst, arith, cond, bit_and}
use Rattle.std.specs.Prelude.{IfSome, ◌⊎◌, slice_index_or}
use mathlib.Core.Logic.{inl, inr}
use Rattle.std.proofs.lemmas.Bool.{false≢true}
use Rattle.std.proofs.lemmas.Bool.Decides.{nat_tests}
use Rattle.hk_rights.specs.Rights.{has, HasAll, ENV, all_but, all_rights, env_right, unconf_right}
use Rattle.hk_rights.proofs.Sets.{HasAll-trans, HasAll-from_bit_and, bit_and-from_HasAll, has-bit_and_left, has-bit_and_right}
use Rattle.hk_model.specs.WorldValue.{WorldValue}
use Rattle.hk_model.specs.Walking.{reduced_rights, confined_rights, local_rights}
use Rattle.hk_bound.specs.declared.forms.Form.{Form}
use Rattle.hk_bound.specs.Taking.{confined_away}
use Rattle.hk_bound.specs.declared.gaps.Gap.{Gap}
use Rattle.hk_bound.specs.Columns.{object_count, cell, covers, Finds}
use Rattle.hk_bound.specs.Rules.{Reaches, CellRule, PassedRule, StoredRule, StoredFrom, HasTakings, share_made}
use Rattle.hk_bound.specs.Handed.{WaysPass, AllWaysPass, IsHanded, TakenRule}
use Rattle.hk_bound.proofs.FindsLemmas.{finds_then, finds_more}
use Rattle.hk_bound.proofs.Reductions.{masked}

-- ---- cells that cover rights

pub covers_all : (o : Option ℕ) (s : ℕ) → covers o s ≡ true → (r : ℕ) × (o ≡ Some r) × HasAll r s
covers_all None s h = absurd (false≢true h)
covers_all (Some r) s h = let e : bit_and r s ≡ s = grind (arith, nat_tests, h) in (r, refl, HasAll-from_bit_and r s e)

pub all_covers : (r s : ℕ) → HasAll r s → covers (Some r) s ≡ true
all_covers r s h = let e = bit_and-from_HasAll r s h in grind (arith, nat_tests, e)

-- ---- what is left of more rights, and through rights that reach as far

masked_more : (a b mask : ℕ) → HasAll a b → HasAll (bit_and a mask) (bit_and b mask)
masked_more a b mask h n there = masked a mask n (h n (has-bit_and_left b mask n there)) (has-bit_and_right b mask n there)

masked_less : (a b mask : ℕ) → HasAll a b → HasAll a (bit_and b mask)
masked_less a b mask h n there = h n (has-bit_and_left b mask n there)

-- by two tests for a first mask and two for a second, the one no weaker than the other
kept_more : (x y : Bool) (a b mask : ℕ) → (y ≡ true → x ≡ true) → HasAll a b → HasAll (cond x a (bit_and a mask)) (cond y b (bit_and b mask))
kept_more true true a b mask f h = h
kept_more true false a b mask f h = masked_less a b mask h
kept_more false true a b mask f h = absurd (false≢true (f refl))
kept_more false false a b mask f h = masked_more a b mask h

pub reduced_more_of : (all by r s : ℕ) → Reaches all by → HasAll r s → HasAll (reduced_rights all r) (reduced_rights by s)
reduced_more_of all by r s reach h =
    kept_more (has all env_right) (has by env_right) (cond (has all unconf_right) r (confined_rights r)) (cond (has by unconf_right) s (confined_rights s)) (all_but ENV) reach.1
    (kept_more (has all unconf_right) (has by unconf_right) r s (all_but confined_away) reach.0 h)

-- what is left is left again
reduced_again : (by r : ℕ) → HasAll (reduced_rights by (reduced_rights by r)) (reduced_rights by r)
reduced_again by r = both (has by unconf_right) (has by env_right)
  where
    first : Bool → ℕ → ℕ
    first u r = cond u r (confined_rights r)

    rest : Bool → ℕ → ℕ
    rest e r = cond e r (local_rights r)

    both : (u e : Bool) → HasAll (rest e (first u (rest e (first u r)))) (rest e (first u r))
    both true true n k = k
    both false true n k = masked (confined_rights r) (all_but confined_away) n k (has-bit_and_right r (all_but confined_away) n k)
    both true false n k = masked (local_rights r) (all_but ENV) n k (has-bit_and_right r (all_but ENV) n k)
    both false false n k =
        let off = has-bit_and_right (confined_rights r) (all_but ENV) n k in
        let inner = has-bit_and_left (confined_rights r) (all_but ENV) n k in
        masked (confined_rights (local_rights (confined_rights r))) (all_but ENV) n
        (masked (local_rights (confined_rights r)) (all_but confined_away) n k (has-bit_and_right r (all_but confined_away) n inner)) off

-- through two that reach as far
reduced_twice : (mine theirs by s r : ℕ) → Reaches mine by → Reaches theirs by → HasAll s (reduced_rights theirs r) → HasAll (reduced_rights mine s) (reduced_rights by r)
reduced_twice mine theirs by s r a b h =
    HasAll-trans (reduced_rights mine s) (reduced_rights by (reduced_rights by r)) (reduced_rights by r)
    (reduced_more_of mine by s (reduced_rights by r) a
    (HasAll-trans s (reduced_rights theirs r) (reduced_rights by r) h (reduced_more_of theirs by r r b (λ n k. k))))
    (reduced_again by r)

-- ENV is left through ENV
reduced_keeps_env : (by r : ℕ) → has by env_right ≡ true → has r env_right ≡ true → has (reduced_rights by r) env_right ≡ true
reduced_keeps_env by r e h = outer (has by env_right) e
  where
    inner : (x : Bool) → has (cond x r (confined_rights r)) env_right ≡ true
    inner true = h
    inner false = masked r (all_but confined_away) env_right h refl

    outer : (x : Bool) → x ≡ true → has (cond x (cond (has by unconf_right) r (confined_rights r)) (local_rights (cond (has by unconf_right) r (confined_rights r)))) env_right ≡ true
    outer true k = inner (has by unconf_right)
    outer false k = absurd (false≢true k)

-- ---- by way of a third

pub below_more : (P : ℕ → Type 0) (n : ℕ) → ((k : ℕ) → k < n → P k) → P n → (k : ℕ) → k < n + 1 → P k
below_more P n below here k h = by (or_last k n h)
  where
    or_last : (k n : ℕ) → k < n + 1 → (k < n) ⊎ (k ≡ n)
    or_last k n h = grind arith

    by : (k < n) ⊎ (k ≡ n) → P k
    by (inl less) = below k less
    by (inr same) = subst P (sym same) here

module _ (w : WorldValue) (forms : List Form) (rows : List (List (Option ℕ))) where
  handed_cell : (p q third mine theirs by column : ℕ) → Reaches mine by → Reaches theirs by → has theirs env_right ≡ true → CellRule rows p third mine column
      → CellRule rows third q theirs column → CellRule rows p q by column
  handed_cell p q third mine theirs by column a b env takes gives rights at there =
      let s = covers_all (cell rows third column) (reduced_rights theirs rights) (gives rights at there) in
      let has_env : has s.0 env_right ≡ true = s.2 env_right (reduced_keeps_env theirs rights env there) in
      let r = covers_all (cell rows p column) (reduced_rights mine s.0) (takes s.0 s.1 has_env) in
      subst (λ (o : Option ℕ). covers o (reduced_rights by rights) ≡ true) (sym r.1)
      (all_covers r.0 (reduced_rights by rights)
      (HasAll-trans r.0 (reduced_rights mine s.0) (reduced_rights by rights) r.2
      (reduced_twice mine theirs by s.0 rights a b s.2)))

  pub handed_rule : (p q third mine theirs by : ℕ) → Reaches mine by → Reaches theirs by → has theirs env_right ≡ true → PassedRule w forms rows p third mine
      → PassedRule w forms rows third q theirs → PassedRule w forms rows p q by
  handed_rule p q third mine theirs by a b env takes gives column low = handed_cell p q third mine theirs by column a b env (takes column low) (gives column low)

  pub is_handed_rule : (earlier : List (List (Option ℕ))) (ways : List (Option ℕ)) (p q by : ℕ) → IsHanded earlier ways p by → AllWaysPass w forms rows earlier
      → WaysPass w forms rows q ways → PassedRule w forms rows p q by
  is_handed_rule earlier ways p q by h before here =
      handed_rule p q h.third h.mine h.theirs by h.mine_reaches h.theirs_reach h.env (before h.third p h.mine h.takes) (here h.third h.theirs h.gives)

  pub stored_none : (p q : ℕ) (o : Option ℕ) → o ≡ None → (share_made w rows p q ≡ true → o ≡ Some all_rights)
      → (share_made w rows p q ≡ false → HasTakings w rows p q (λ name. name < object_count w) o) → TakenRule w forms rows p q None
  stored_none p q o none made all = record {
    stored = record {
      made = λ share. absurd (no_rights all_rights (sym none ∙ made share));
      stored = λ apart name more low through. let t = all apart name more low through in absurd (no_rights t.0 (sym none ∙ t.1));
    };
    taken = tt;
  }
    where
      no_rights : (r : ℕ) → ◌≡◌ {A = Option ℕ} None (Some r) → ⊥
      no_rights r e = cc

  -- ---- one process more

  -- an item of a list with one more, where there is one
  pushed : {A : Type 0} (xs : List (Option A)) (y : Option A) (k : ℕ) (x : A) → slice_index_or (xs ++ y ∷ []) k None ≡ Some x
      → (slice_index_or xs k None ≡ Some x) ⊎ ((k ≡ length xs) × (y ≡ Some x))
  pushed [] y zero x e = inr (refl, e)
  pushed [] y (suc k) x e = absurd (cc)
  pushed (z ∷ xs) y zero x e = inl e
  pushed (z ∷ xs) y (suc k) x e = elim (pushed xs y k x e) [ inl before ↦ inl before | inr last ↦ inr (ap suc last.0, last.1) ]

  pub ways_pass_more : (q n : ℕ) (ways : List (Option ℕ)) (by : Option ℕ) → length ways ≡ n → WaysPass w forms rows q ways → IfSome by (PassedRule w forms rows n q)
      → WaysPass w forms rows q (ways ++ by ∷ [])
  ways_pass_more q n ways by len before here p x at = elim (pushed ways by p x at) [
    | inl old ↦ before p x old
    | inr last ↦ subst (λ (m : ℕ). PassedRule w forms rows m q x) (sym (last.0 ∙ len)) (subst (λ (o : Option ℕ). IfSome o (PassedRule w forms rows n q)) last.1 here)
  ]

  row_pushed : (xs : List (List (Option ℕ))) (y : List (Option ℕ)) (k p x : ℕ) → slice_index_or (slice_index_or (xs ++ y ∷ []) k []) p None ≡ Some x
      → (slice_index_or (slice_index_or xs k []) p None ≡ Some x) ⊎ ((k ≡ length xs) × (slice_index_or y p None ≡ Some x))
  row_pushed [] y zero p x e = inr (refl, e)
  row_pushed [] y (suc k) p x e = inl e
  row_pushed (z ∷ xs) y zero p x e = inl e
  row_pushed (z ∷ xs) y (suc k) p x e = elim (row_pushed xs y k p x e) [ inl before ↦ inl before | inr last ↦ inr (ap suc last.0, last.1) ]

  pub all_ways_pass_more : (n : ℕ) (earlier : List (List (Option ℕ))) (ways : List (Option ℕ)) → length earlier ≡ n → AllWaysPass w forms rows earlier → WaysPass w forms rows n ways
      → AllWaysPass w forms rows (earlier ++ ways ∷ [])
  all_ways_pass_more n earlier ways len before here q p x at = elim (row_pushed earlier ways q p x at) [
    | inl old ↦ before q p x old
    | inr last ↦ subst (λ (m : ℕ). PassedRule w forms rows p m x) (sym (last.0 ∙ len)) (here p x last.1)
  ]

  -- ---- the loops

  abbrev pub Here : List (List (Option ℕ)) → ℕ → ℕ → List (Option ℕ) → Type 0
  Here earlier q n ways = AllWaysPass w forms rows earlier → ((k : ℕ) → k < n → StoredRule w forms rows k q) × WaysPass w forms rows q ways

  pub here_none : (earlier : List (List (Option ℕ))) (q : ℕ) (ways : List (Option ℕ)) → ways ≡ [] → Here earlier q 0 ways
  here_none earlier q ways e before = (λ k low. absurd (omega (arith, low)), subst (WaysPass w forms rows q) (sym e) (λ p by at. absurd (nowhere p by at)))
    where
      nowhere : (p by : ℕ) → slice_index_or [] p None ≡ Some by → ⊥
      nowhere zero by e = absurd (cc)
      nowhere (suc p) by e = absurd (cc)

  pub here_more : (earlier : List (List (Option ℕ))) (q n : ℕ) (ways after : List (Option ℕ)) (by : Option ℕ) (xs ys zs : List Gap) → length ways ≡ n → after ≡ ways ++ by ∷ []
      → Finds w forms rows (Here earlier q n ways) xs ys
      → Finds w forms rows (AllWaysPass w forms rows earlier → WaysPass w forms rows q ways → TakenRule w forms rows n q by) ys zs
      → Finds w forms rows (Here earlier q (n + 1) after) xs zs
  here_more earlier q n ways after by xs ys zs len e f g =
      finds_more w forms rows (Here earlier q n ways × (AllWaysPass w forms rows earlier → WaysPass w forms rows q ways → TakenRule w forms rows n q by))
      (Here earlier q (n + 1) after) xs zs
      (λ h before.
      let old = h.0 before in
      let new = h.1 before old.1 in (
        below_more (λ (k : ℕ). StoredRule w forms rows k q) n old.0 new.stored,
        subst (WaysPass w forms rows q) (sym e) (ways_pass_more q n ways by len old.1 new.taken),
      ))
      (finds_then w forms rows (Here earlier q n ways) (AllWaysPass w forms rows earlier → WaysPass w forms rows q ways → TakenRule w forms rows n q by) xs ys zs f g)

  abbrev pub Before : ℕ → List (List (Option ℕ)) → Type 0
  Before n earlier = ((q : ℕ) → q < n → StoredFrom w forms rows q) × AllWaysPass w forms rows earlier

  pub before_none : (earlier : List (List (Option ℕ))) → earlier ≡ [] → Before 0 earlier
  before_none earlier e = (λ q low. absurd (omega (arith, low)), subst (AllWaysPass w forms rows) (sym e) (λ q p by at. absurd (nowhere q p by at)))
    where
      none_there : (p by : ℕ) → slice_index_or [] p None ≡ Some by → ⊥
      none_there zero by e = absurd (cc)
      none_there (suc p) by e = absurd (cc)

      nowhere : (q p by : ℕ) → cell [] q p ≡ Some by → ⊥
      nowhere zero p by e = none_there p by e
      nowhere (suc q) p by e = none_there p by e

  pub before_more : (n : ℕ) (earlier after : List (List (Option ℕ))) (ways : List (Option ℕ)) (xs ys zs : List Gap) → length earlier ≡ n → after ≡ earlier ++ ways ∷ []
      → Finds w forms rows (Before n earlier) xs ys
      → Finds w forms rows (AllWaysPass w forms rows earlier → StoredFrom w forms rows n × WaysPass w forms rows n ways) ys zs
      → Finds w forms rows (Before (n + 1) after) xs zs
  before_more n earlier after ways xs ys zs len e f g =
      finds_more w forms rows (Before n earlier × (AllWaysPass w forms rows earlier → StoredFrom w forms rows n × WaysPass w forms rows n ways)) (Before (n + 1) after) xs zs
      (λ h. let new = h.1 h.0.1 in (
        below_more (StoredFrom w forms rows) n h.0.0 new.0,
        subst (AllWaysPass w forms rows) (sym e) (all_ways_pass_more n earlier ways len h.0.1 new.1),
      ))
      (finds_then w forms rows (Before n earlier) (AllWaysPass w forms rows earlier → StoredFrom w forms rows n × WaysPass w forms rows n ways) xs ys zs f g)
