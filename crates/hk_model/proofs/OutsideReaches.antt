-- A test that a name is outside the reaches, which computes: lists of names that keep the rules, and do not have it.
use Rattle.std.proofs.Common.{◌≡◌, ℕ, suc, zero, ◌<◌, ◌≤◌, ◌==◌, List, [], ◌∷◌, Bool, true, false, ◌&&◌, ◌||◌, not, Option, Some, None, refl, sym, ap, ◌∙◌, arith, slice_get}
use Rattle.std.proofs.Common.{option_and_then}
use Rattle.std.specs.Prelude.{nat_lt}
use Rattle.std.specs.List.{list_all, list_any}
use Rattle.std.specs.Cmp.{first_so, second_so}
use Rattle.std.proofs.lemmas.Bool.{true≢false, false≢true}
use Rattle.std.proofs.lemmas.Bool.Decides.{nat_tests}
use Rattle.hk_model.specs.declared.names.Name.{Name}
use Rattle.hk_model.specs.declared.names.Inc.{Inc}
use Rattle.hk_model.specs.declared.entries.Cap.{Cap}
use Rattle.hk_model.specs.declared.entries.Entry.{Entry}
use Rattle.hk_model.specs.declared.entries.Entry.TheVariants.{Empty, Held, Form}
use Rattle.hk_model.specs.declared.lines.Line.{Line}
use Rattle.hk_rights.specs.Rights.{has, modify_right, unconf_right}
use Rattle.hk_model.specs.WorldValue.{WorldValue}
use Rattle.hk_model.specs.State.{State, object}
use Rattle.hk_model.specs.Running.{state_at}
use Rattle.hk_model.specs.Places.{cap_of}
use Rattle.hk_model.specs.Under.{is_made_under, parameters}
use Rattle.hk_model.specs.Reaches.{listed_cap, AreReaches, IsModifiable, IsUnconfined}
use Rattle.hk_model.proofs.LeastReaches.{below, all_below}
use Rattle.hk_model.proofs.ReachRules.{modifiable_is_least, unconfined_is_least}

-- ---- tests of lists

all_at : {A : Type 0} (P : A → Bool) (xs : List A) (i : ℕ) (x : A) → list_all P xs ≡ true → slice_get xs i ≡ Some x → P x ≡ true
all_at P [] i x h e = absurd (cc)
all_at P (y ∷ xs) zero x h e = let same : y ≡ x = cc in rw (← same) (first_so (P y) (list_all P xs) h)
all_at P (y ∷ xs) (suc i) x h e = all_at P xs i x (second_so (P y) (list_all P xs) h) e

-- the name is one of these
abbrev pub among : List ℕ → Name → Bool
among names x = list_any (λ n. n == x.0) names

all_among : (P : Name → Bool) (names : List ℕ) (x : Name) → list_all (λ n. P (record { 0 = n })) names ≡ true → among names x ≡ true → P x ≡ true
all_among P [] x h e = absurd (false≢true e)
all_among P (n ∷ names) x h e = by (n == x.0) refl e (all_among P names x (second_so (P (record { 0 = n })) (list_all (λ n. P (record { 0 = n })) names) h))
  where
    by : (b : Bool) → (n == x.0) ≡ b → (b || list_any (λ n. n == x.0) names) ≡ true → (among names x ≡ true → P x ≡ true) → P x ≡ true
    by true g f later =
        let same : n ≡ x.0 = grind (arith, nat_tests) in
        ap (λ (k : ℕ). P (record { 0 = k })) (sym same) ∙ first_so (P (record { 0 = n })) (list_all (λ n. P (record { 0 = n })) names) h
    by false g f later = later f

when : (a b : Bool) → (not a || b) ≡ true → a ≡ true → b ≡ true
when true b h e = h
when false b h e = absurd (false≢true e)

or_first : (a b : Bool) → a ≡ true → (a || b) ≡ true
or_first true b h = refl
or_first false b h = absurd (false≢true h)

or_second : (a b : Bool) → b ≡ true → (a || b) ≡ true
or_second true b h = refl
or_second false b h = h

or_not : (a b : Bool) → a ≡ false → (a || b) ≡ true → b ≡ true
or_not true b h e = absurd (true≢false h)
or_not false b h e = e

-- ---- lists of names that keep the rules up to a moment

module _ (at : ℕ → State) (made : Name → Bool) (params : List Entry) (k last : ℕ) (ms us : List ℕ) where
  -- what a capability stands good for is in the lists
  abbrev keeps_entry : Entry → Bool
  keeps_entry (Held cap) = (not (has cap.rights modify_right) || among ms cap.name) && (not (has cap.rights unconf_right) || among us cap.name)
  keeps_entry Empty = true
  keeps_entry (Form form) = true

  -- and what was made under the call
  abbrev keeps_handed : Entry → Bool
  keeps_handed (Held cap) = not (made cap.name) || (among ms cap.name && among us cap.name)
  keeps_handed Empty = true
  keeps_handed (Form form) = true

  abbrev entries_kept : State → Name → Bool
  entries_kept s x = list_all keeps_entry (object s x).entries

  abbrev handed_kept : State → Name → Bool
  handed_kept s x = list_all keeps_handed (object s x).entries

  abbrev kept_at : State → Bool
  kept_at s = list_all (λ n. entries_kept s (record { 0 = n })) us && list_all (λ n. handed_kept s (record { 0 = n })) ms

  -- at each moment from the call's beginning on
  abbrev pub keep_rules : Bool
  keep_rules = list_all keeps_entry params && list_all (λ t. nat_lt t k || kept_at (at t)) (below (suc last))

  -- what is in the lists, and behind the moment all names
  abbrev in_list : List ℕ → ℕ → Name → Bool
  in_list names t x = nat_lt last t || among names x

  entry_is : (s : State) (x : Name) (index : ℕ) (cap : Cap) → listed_cap s x index ≡ Some cap → slice_get (object s x).entries index ≡ Some (Held cap)
  entry_is s x index cap h = by (slice_get (object s x).entries index) h
    where
      by : (found : Option Entry) → option_and_then cap_of found ≡ Some cap → found ≡ Some (Held cap)
      by None e = absurd (cc)
      by (Some Empty) e = absurd (cc)
      by (Some (Form form)) e = absurd (cc)
      by (Some (Held c)) e = let same : c ≡ cap = cc in ap (λ (d : Cap). Some (Held d)) same

  in_later : (names : List ℕ) (early late : ℕ) (x : Name) → early ≤ late → in_list names early x ≡ true → in_list names late x ≡ true
  in_later names early late x l h = by (nat_lt last early) refl h
    where
      by : (b : Bool) → nat_lt last early ≡ b → (b || among names x) ≡ true → in_list names late x ≡ true
      by true e g = let over : nat_lt last late ≡ true = grind (arith, nat_tests) in or_first (nat_lt last late) (among names x) over
      by false e g = or_second (nat_lt last late) (among names x) g

  module _ (h : keep_rules ≡ true) where
    kept_then : (t : ℕ) → k ≤ t → nat_lt last t ≡ false → kept_at (at t) ≡ true
    kept_then t begun l =
        let within : t < suc last = grind (arith, nat_tests) in
        let before : nat_lt t k ≡ false = grind (arith, nat_tests) in
        or_not (nat_lt t k) (kept_at (at t)) before
        (all_below (λ t. nat_lt t k || kept_at (at t)) (suc last) t within
        (second_so (list_all keeps_entry params) (list_all (λ t. nat_lt t k || kept_at (at t)) (below (suc last))) h))

    param_kept : (param : ℕ) (cap : Cap) → slice_get params param ≡ Some (Held cap) → keeps_entry (Held cap) ≡ true
    param_kept param cap e =
        all_at keeps_entry params param (Held cap) (first_so (list_all keeps_entry params) (list_all (λ t. nat_lt t k || kept_at (at t)) (below (suc last))) h) e

    -- where a rule speaks of a moment that is not behind the last
    by_moment : (t : ℕ) (names more : List ℕ) (x y : Name) → (nat_lt last t ≡ false → among names x ≡ true → among more y ≡ true) → in_list names t x ≡ true
        → in_list more t y ≡ true
    by_moment t names more x y f g = by (nat_lt last t) refl g
      where
        by : (b : Bool) → nat_lt last t ≡ b → (b || among names x) ≡ true → in_list more t y ≡ true
        by true e k = or_first (nat_lt last t) (among more y) e
        by false e k = or_second (nat_lt last t) (among more y) (f e k)

    entry_kept : (t index : ℕ) (x : Name) (cap : Cap) → k ≤ t → listed_cap (at t) x index ≡ Some cap → nat_lt last t ≡ false → among us x ≡ true → keeps_entry (Held cap) ≡ true
    entry_kept t index x cap begun l e u =
        let all = kept_then t begun e in
        let each : entries_kept (at t) x ≡ true =
        all_among (entries_kept (at t)) us x (first_so (list_all (λ n. entries_kept (at t) (record { 0 = n })) us)
        (list_all (λ n. handed_kept (at t) (record { 0 = n })) ms) all) u in
        all_at keeps_entry (object (at t) x).entries index (Held cap) each (entry_is (at t) x index cap l)

    entry_handed : (t index : ℕ) (x : Name) (cap : Cap) → k ≤ t → listed_cap (at t) x index ≡ Some cap → made cap.name ≡ true → nat_lt last t ≡ false → among ms x ≡ true
        → (among ms cap.name && among us cap.name) ≡ true
    entry_handed t index x cap begun l m e u =
        let all = kept_then t begun e in
        let each : handed_kept (at t) x ≡ true =
        all_among (handed_kept (at t)) ms x (second_so (list_all (λ n. entries_kept (at t) (record { 0 = n })) us)
        (list_all (λ n. handed_kept (at t) (record { 0 = n })) ms) all) u in
        when (made cap.name) (among ms cap.name && among us cap.name) (all_at keeps_handed (object (at t) x).entries index (Held cap) each (entry_is (at t) x index cap l)) m

    modify_of : (cap : Cap) → keeps_entry (Held cap) ≡ true → has cap.rights modify_right ≡ true → among ms cap.name ≡ true
    modify_of cap g e = when (has cap.rights modify_right) (among ms cap.name) (first_so _ (not (has cap.rights unconf_right) || among us cap.name) g) e

    unconf_of : (cap : Cap) → keeps_entry (Held cap) ≡ true → has cap.rights unconf_right ≡ true → among us cap.name ≡ true
    unconf_of cap g e = when (has cap.rights unconf_right) (among us cap.name) (second_so (not (has cap.rights modify_right) || among ms cap.name) _ g) e

    lists_keep : AreReaches at made params k (λ t x. in_list ms t x ≡ true) (λ t x. in_list us t x ≡ true)
    lists_keep = record {
      param_modify = λ param cap e g. or_second (nat_lt last k) (among ms cap.name) (modify_of cap (param_kept param cap e) g);
      param_unconf = λ param cap e g. or_second (nat_lt last k) (among us cap.name) (unconf_of cap (param_kept param cap e) g);
      later_modify = λ early late x begun l g. in_later ms early late x l g;
      later_unconf = λ early late x begun l g. in_later us early late x l g;
      entry_modify = λ t index x cap begun g l m. by_moment t us ms x cap.name (λ e u. modify_of cap (entry_kept t index x cap begun l e u) m) g;
      entry_unconf = λ t index x cap begun g l m. by_moment t us us x cap.name (λ e u. unconf_of cap (entry_kept t index x cap begun l e u) m) g;
      handed = λ t index x cap begun g l m. (
        by_moment t ms ms x cap.name (λ e u. first_so (among ms cap.name) (among us cap.name) (entry_handed t index x cap begun l m e u)) g,
        by_moment t ms us x cap.name (λ e u. second_so (among ms cap.name) (among us cap.name) (entry_handed t index x cap begun l m e u)) g,
      );
    }

-- a name that is not in the first list is outside the modifiable reach at the moment, and one that is not in the second list is
-- outside the unconfined reach
module _ (w : WorldValue) (lines : List Line) (k : ℕ) (call : Inc) (last : ℕ) (ms us : List ℕ) where
  abbrev pub are_kept : Bool
  are_kept = keep_rules (state_at w lines) (is_made_under w lines k call) (parameters w lines k call) k last ms us

  not_over : nat_lt last last ≡ false
  not_over = grind (arith, nat_tests)

  pub not_modifiable : are_kept ≡ true → (x : Name) → among ms x ≡ false → IsModifiable w lines k call last x → ⊥
  not_modifiable h x out r =
      let rules = lists_keep (state_at w lines) (is_made_under w lines k call) (parameters w lines k call) k last ms us h in
      let there = modifiable_is_least (state_at w lines) (is_made_under w lines k call) (parameters w lines k call) k _ _ rules last x r in
      true≢false (sym (or_not (nat_lt last last) (among ms x) not_over there) ∙ out)

  pub not_unconfined : are_kept ≡ true → (x : Name) → among us x ≡ false → IsUnconfined w lines k call last x → ⊥
  not_unconfined h x out r =
      let rules = lists_keep (state_at w lines) (is_made_under w lines k call) (parameters w lines k call) k last ms us h in
      let there = unconfined_is_least (state_at w lines) (is_made_under w lines k call) (parameters w lines k call) k _ _ rules last x r in
      true≢false (sym (or_not (nat_lt last last) (among us x) not_over there) ∙ out)
