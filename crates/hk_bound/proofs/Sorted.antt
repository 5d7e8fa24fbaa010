-- Templates in their order: by the type that they are for, by what they ask for and by what they give.
use Rattle.std.proofs.Common.{◌≡◌, ℕ, zero, suc, ◌+◌, ◌<◌, ◌≤◌, List, [], ◌∷◌, ◌++◌, length, get_or, Bool, true, Option, Some, refl, sym, ◌∙◌, ap, subst, arith}
use Rattle.std.specs.Prelude.{slice_get, ◌⊎◌, IsSome}
use Rattle.std.specs.Result.{result_ok}
use Rattle.std.specs.declared.cmp.Ordering.{Ordering}
use Rattle.std.specs.declared.cmp.Ordering.TheVariants.{Less, Equal, Greater}
use Rattle.std.specs.declared.result.Result.{Result}
use Rattle.std.specs.declared.result.Result.TheVariants.{Ok, Err}
use mathlib.Core.Logic.{inl, inr}
use Rattle.std.specs.Ordering.{nat_cmp, ordering_then, ordering_reverse, ordering_index, is_lt, is_eq, eq_by_cmp, MatchOrdering, on, then_cmp}
use Rattle.std.specs.Cmp.{IsTotalOrder, IsEquivalence}
use Rattle.std.specs.List.{AllByRecursion, Contains, HoldsAt, dedup}
use Rattle.std.specs.List.Sorted.{IsSorted, IsStrictlySortedBy, IsBinarySearchResult, IsPartitionPoint, IsNonDecreasingBy, IsPermutation}
use Rattle.std.proofs.lemmas.Bool.{false≢true}
use Rattle.std.proofs.lemmas.Cmp.{ranked, nat_cmp_total, on_total, then_total, eq_by_cmp_equiv}
use Rattle.std.proofs.lemmas.List.Kept.{IsStrictlySortedBy-dedup, Contains-dedup}
use Rattle.std.proofs.lemmas.List.Sorted.{searchable_from_sorted, Contains-permutation}
use Rattle.std.proofs.lemmas.Option.{slice_get_within}
use Rattle.hk_bound.specs.declared.forms.Form.{Form}
use Rattle.hk_bound.proofs.Exact.{push_keeps, push_last}
use Rattle.hk_bound.specs.Forms.{IsBefore, AreSorted, IsStart, IsFirst, Holds, KeepsForms}

same_item : {A : Type 0} {x y : A} → ◌≡◌ {A = Option A} (Some x) (Some y) → x ≡ y
same_item e = cc

-- ---- the order

abbrev pub order : Form → Form → Ordering
order = then_cmp (then_cmp (on (λ (form : Form). form.of.0) nat_cmp) (on (λ (form : Form). form.check) nat_cmp)) (on (λ (form : Form). form.give) nat_cmp)

pub order_total : IsTotalOrder order
order_total = then_total (then_total (on_total (λ (form : Form). form.of.0) nat_cmp_total) (on_total (λ (form : Form). form.check) nat_cmp_total))
    (on_total (λ (form : Form). form.give) nat_cmp_total)

number_less : (a b : ℕ) → a < b → nat_cmp a b ≡ Less
number_less a b h = by (nat_cmp a b) refl (ranked a b (nat_cmp a b) refl)
  where
    by : (o : Ordering) → nat_cmp a b ≡ o → MatchOrdering o (a < b) (a ≡ b) (b < a) → nat_cmp a b ≡ Less
    by Less e m = e
    by Equal e m = absurd (omega (arith, h, m))
    by Greater e m = absurd (omega (arith, h, m))

number_same : (a b : ℕ) → a ≡ b → nat_cmp a b ≡ Equal
number_same a b h = by (nat_cmp a b) refl (ranked a b (nat_cmp a b) refl)
  where
    by : (o : Ordering) → nat_cmp a b ≡ o → MatchOrdering o (a < b) (a ≡ b) (b < a) → nat_cmp a b ≡ Equal
    by Less e m = absurd (omega (arith, h, m))
    by Equal e m = e
    by Greater e m = absurd (omega (arith, h, m))

pub before_less : (f g : Form) → IsBefore f g → order f g ≡ Less
before_less f g (inl type) = rw (number_less f.of.0 g.of.0 type) refl
before_less f g (inr (type, inl check)) = rw (number_same f.of.0 g.of.0 type, number_less f.check g.check check) refl
before_less f g (inr (type, inr (check, give))) = rw (number_same f.of.0 g.of.0 type, number_same f.check g.check check, number_less f.give g.give give) refl

same_form : (f g : Form) → f.of.0 ≡ g.of.0 → f.check ≡ g.check → f.give ≡ g.give → f ≡ g
same_form f g a b c =
    ap (λ (n : ℕ). let x : Form = record { of = record { 0 = n }; check = f.check; give = f.give } in x) a
    ∙ (ap (λ (n : ℕ). let x : Form = record { of = g.of; check = n; give = f.give } in x) b ∙ ap (λ (n : ℕ). let x : Form = record { of = g.of; check = g.check; give = n } in x) c)

pub less_before : (f g : Form) → order f g ≡ Less → IsBefore f g
less_before f g e =
    by (nat_cmp f.of.0 g.of.0) (nat_cmp f.check g.check) (nat_cmp f.give g.give) (ranked f.of.0 g.of.0 (nat_cmp f.of.0 g.of.0) refl)
    (ranked f.check g.check (nat_cmp f.check g.check) refl) (ranked f.give g.give (nat_cmp f.give g.give) refl) e
  where
    by : (a b c : Ordering) → MatchOrdering a (f.of.0 < g.of.0) (f.of.0 ≡ g.of.0) (g.of.0 < f.of.0) → MatchOrdering b (f.check < g.check) (f.check ≡ g.check) (g.check < f.check)
        → MatchOrdering c (f.give < g.give) (f.give ≡ g.give) (g.give < f.give) → ordering_then (ordering_then a b) c ≡ Less → IsBefore f g
    by Less b c m n o h = inl m
    by Equal Less c m n o h = inr (m, inl n)
    by Equal Equal Less m n o h = inr (m, inr (n, o))
    by Equal Equal Equal m n o h = absurd (cc)
    by Equal Equal Greater m n o h = absurd (cc)
    by Equal Greater c m n o h = absurd (cc)
    by Greater b c m n o h = absurd (cc)

pub equal_same : (f g : Form) → order f g ≡ Equal → f ≡ g
equal_same f g e =
    by (nat_cmp f.of.0 g.of.0) (nat_cmp f.check g.check) (nat_cmp f.give g.give) (ranked f.of.0 g.of.0 (nat_cmp f.of.0 g.of.0) refl)
    (ranked f.check g.check (nat_cmp f.check g.check) refl) (ranked f.give g.give (nat_cmp f.give g.give) refl) e
  where
    by : (a b c : Ordering) → MatchOrdering a (f.of.0 < g.of.0) (f.of.0 ≡ g.of.0) (g.of.0 < f.of.0) → MatchOrdering b (f.check < g.check) (f.check ≡ g.check) (g.check < f.check)
        → MatchOrdering c (f.give < g.give) (f.give ≡ g.give) (g.give < f.give) → ordering_then (ordering_then a b) c ≡ Equal → f ≡ g
    by Less b c m n o h = absurd (cc)
    by Equal Less c m n o h = absurd (cc)
    by Equal Equal Less m n o h = absurd (cc)
    by Equal Equal Equal m n o h = same_form f g m n o
    by Equal Equal Greater m n o h = absurd (cc)
    by Equal Greater c m n o h = absurd (cc)
    by Greater b c m n o h = absurd (cc)

pub not_before_itself : (f g : Form) → f ≡ g → IsBefore f g → ⊥
not_before_itself f g e (inl type) = let same = ap (λ (x : Form). x.of.0) e in omega (arith, same, type)
not_before_itself f g e (inr (type, inl check)) = let same = ap (λ (x : Form). x.check) e in omega (arith, same, check)
not_before_itself f g e (inr (type, inr (check, give))) = let same = ap (λ (x : Form). x.give) e in omega (arith, same, give)

-- ---- lists of templates

pub read_form : {A : Type 0} (xs : List A) (k : ℕ) (d : A) → k < length xs → slice_get xs k ≡ Some (get_or xs k d)
read_form [] k d h = absurd (omega (arith, h))
read_form (x ∷ xs) zero d h = refl
read_form (x ∷ xs) (suc k) d h = read_form xs k d (omega (arith, h))

pub at_place : {A : Type 0} (xs : List A) (k : ℕ) (x d : A) → slice_get xs k ≡ Some x → get_or xs k d ≡ x
at_place xs k x d e = same_item (sym (read_form xs k d (slice_get_within xs k x e)) ∙ e)

pub holds_contains : (forms : List Form) (f : Form) → Holds forms f → Contains forms f
holds_contains forms f h = (h.place, slice_get_within forms h.place f h.is, at_place forms h.place f f h.is)

pub contains_holds : (forms : List Form) (f : Form) → Contains forms f → Holds forms f
contains_holds forms f h = record { place = h.0; is = read_form forms h.0 f h.1 ∙ ap Some h.2 }

all_at : (P : Form → Type 0) (xs : List Form) (k : ℕ) (x : Form) → AllByRecursion P xs → slice_get xs k ≡ Some x → P x
all_at P [] zero x h e = absurd (cc)
all_at P [] (suc k) x h e = absurd (cc)
all_at P (y ∷ xs) zero x h e = subst P (same_item e) h.0
all_at P (y ∷ xs) (suc k) x h e = all_at P xs k x h.1 e

pub sorted_strictly : (forms : List Form) → IsStrictlySortedBy order forms → AreSorted forms
unfolding IsStrictlySortedBy
sorted_strictly [] h zero k f g less a b = absurd (cc)
sorted_strictly [] h (suc j) k f g less a b = absurd (cc)
sorted_strictly (x ∷ xs) h j zero f g less a b = absurd (omega (arith, less))
sorted_strictly (x ∷ xs) h zero (suc k) f g less a b =
    subst (λ (y : Form). IsBefore y g) (same_item a) (less_before x g (all_at (λ y. order x y ≡ Less) xs k g h.0 b))
sorted_strictly (x ∷ xs) h (suc j) (suc k) f g less a b = sorted_strictly xs h.1 j k f g (omega (arith, less)) a b

sorted_order : (forms : List Form) → AreSorted forms → IsSorted order forms
sorted_order forms sorted k d low high =
    let x = get_or forms k d in
    let y = get_or forms (k + 1) d in
    let less : order (get_or forms k d) (get_or forms (k + 1) d) ≡ Less = before_less (get_or forms k d) (get_or forms (k + 1) d)
    (sorted k (k + 1) (get_or forms k d) (get_or forms (k + 1) d) (omega arith) (read_form forms k d (omega (arith, high))) (read_form forms (k + 1) d high)) in
    ap is_lt (order_total.antisymm (get_or forms (k + 1) d) (get_or forms k d) ∙ ap ordering_reverse less)

rising : (forms : List Form) (form : Form) → AreSorted forms → IsNonDecreasingBy (λ y. ordering_index (order y form)) forms
rising forms form sorted = searchable_from_sorted order_total (λ (f : Form). f) forms form (sorted_order forms sorted)

-- ---- where a search ends

pub found_first : (forms : List Form) (form : Form) (place : ℕ) → AreSorted forms → slice_get forms place ≡ Some form → IsFirst forms form place
found_first forms form place sorted at = record {
  is = at;
  first = λ k less e. not_before_itself form form refl (sorted k place form form less e at);
}

-- no template of a type stands before the one that asks for nothing and gives nothing
less_type : (f form : Form) → form.check ≡ 0 → form.give ≡ 0 → IsBefore f form → f.of.0 < form.of.0
less_type f form a b (inl type) = type
less_type f form a b (inr (type, inl check)) = absurd (omega (arith, a, check))
less_type f form a b (inr (type, inr (check, give))) = absurd (omega (arith, b, give))

no_less_type : (form f : Form) → IsBefore form f → form.of.0 ≤ f.of.0
no_less_type form f (inl type) = omega (arith, type)
no_less_type form f (inr (type, rest)) = omega (arith, type)

behind_is : (forms : List Form) (form : Form) (k : ℕ) → order (get_or forms k form) form ≡ Greater → IsBefore form (get_or forms k form)
behind_is forms form k e = less_before form (get_or forms k form) (order_total.antisymm form (get_or forms k form) ∙ ap ordering_reverse e)

found_at : (forms : List Form) (form : Form) (place : ℕ) → place < length forms → HoldsAt (λ y. order y form ≡ Equal) forms place → slice_get forms place ≡ Some form
found_at forms form place low is = read_form forms place form low ∙ ap Some (equal_same (get_or forms place form) form (is form))

pub start_found : (forms : List Form) (form : Form) (place : ℕ) → AreSorted forms → form.check ≡ 0 → form.give ≡ 0 → place < length forms
    → HoldsAt (λ y. order y form ≡ Equal) forms place → IsStart forms form.of.0 place
start_found forms form place sorted a b low is = record {
  before = λ k f less e. less_type f form a b (sorted k place f form less e at);
  behind = λ k f more e. by k f (or_first k place more) e;
  within = omega (arith, low);
}
  where
    at : slice_get forms place ≡ Some form
    at = found_at forms form place low is

    or_first : (k n : ℕ) → n ≤ k → (n < k) ⊎ (k ≡ n)
    or_first k n h = grind arith

    by : (k : ℕ) (f : Form) → (place < k) ⊎ (k ≡ place) → slice_get forms k ≡ Some f → form.of.0 ≤ f.of.0
    by k f (inl behind) e = no_less_type form f (sorted place k form f behind at e)
    by k f (inr same) e =
        let is : form ≡ f = same_item (sym at ∙ (ap (slice_get forms) (sym same) ∙ e)) in
        subst (λ (x : Form). form.of.0 ≤ x.of.0) is (omega arith)

abbrev pub Parted : List Form → Form → ℕ → Type 0
Parted forms form place = IsNonDecreasingBy (λ y. ordering_index (order y form)) forms → IsPartitionPoint (λ y. order y form ≡ Less) (λ y. order y form ≡ Greater) forms place

pub start_between : (forms : List Form) (form : Form) (place : ℕ) → AreSorted forms → form.check ≡ 0 → form.give ≡ 0 → place ≤ length forms → Parted forms form place
    → IsStart forms form.of.0 place
start_between forms form place sorted a b low parted = record {
  before = λ k f less e.
      less_type f form a b
      (subst (λ (x : Form). IsBefore x form) (at_place forms k f form e)
      (less_before (get_or forms k form) form ((parted (rising forms form sorted)).0 k form (omega arith) less)));
  behind = λ k f more e.
      no_less_type form f
      (subst (IsBefore form) (at_place forms k f form e)
      (behind_is forms form k ((parted (rising forms form sorted)).1 k form more (slice_get_within forms k f e))));
  within = low;
}

search_fails : (forms : List Form) (form : Form) (place : ℕ) → AreSorted forms → Parted forms form place → Holds forms form → ⊥
search_fails forms form place sorted parted h = by (where_is h.place place)
  where
    where_is : (k n : ℕ) → (k < n) ⊎ (n ≤ k)
    where_is k n = grind arith

    here : get_or forms h.place form ≡ form
    here = at_place forms h.place form form h.is

    by : (h.place < place) ⊎ (place ≤ h.place) → ⊥
    by (inl before) =
        not_before_itself (get_or forms h.place form) form here
        (less_before (get_or forms h.place form) form ((parted (rising forms form sorted)).0 h.place form (omega arith) before))
    by (inr behind) =
        not_before_itself form (get_or forms h.place form) (sym here)
        (behind_is forms form h.place ((parted (rising forms form sorted)).1 h.place form behind (slice_get_within forms h.place form h.is)))

pub search_some : (forms : List Form) (form : Form) (r : Result ℕ ℕ) → AreSorted forms → IsBinarySearchResult (λ y. order y form) forms r → Holds forms form
    → IsSome (result_ok r)
search_some forms form (Ok place) sorted is h = refl
search_some forms form (Err place) sorted is h = absurd (search_fails forms form place sorted is h)

-- ---- sorted, and each once

module _ (E : Form → Form → Bool) (ties : (f g : Form) → E f g ≡ eq_by_cmp order f g) where
  alike : IsEquivalence E
  alike = subst IsEquivalence (λ i f g. sym (ties f g) i) (eq_by_cmp_equiv order_total)

  same_forms : (f g : Form) → E f g ≡ true → f ≡ g
  same_forms f g e = by (order f g) refl (sym (ties f g) ∙ e)
    where
      by : (o : Ordering) → order f g ≡ o → is_eq (order f g) ≡ true → f ≡ g
      by Less h k = absurd (false≢true (ap is_eq (sym h) ∙ k))
      by Equal h k = equal_same f g h
      by Greater h k = absurd (false≢true (ap is_eq (sym h) ∙ k))

  pub once_sorted : (forms : List Form) → IsSorted order forms → AreSorted (dedup E forms)
  once_sorted forms sorted = sorted_strictly (dedup E forms) (IsStrictlySortedBy-dedup order_total ties forms sorted)

  pub once_keeps : (old mid : List Form) → IsPermutation old mid → KeepsForms old (dedup E mid)
  once_keeps old mid moved f h =
      contains_holds (dedup E mid) f (Contains-dedup alike same_forms mid f (Contains-permutation old mid f moved (holds_contains old f h)))

-- ---- a template more

pub keeps_push : (forms : List Form) (form : Form) → KeepsForms forms (forms ++ form ∷ [])
keeps_push forms form f h = record { place = h.place; is = push_keeps forms form f h.place h.is }

pub holds_push : (forms : List Form) (form : Form) → Holds (forms ++ form ∷ []) form
holds_push forms form = record { place = length forms; is = push_last forms form }
