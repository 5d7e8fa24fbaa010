-- What is told of objects one after another, and what follows where all lists have been gone over.
use Rattle.std.proofs.Common.{◌≡◌, ℕ, zero, suc, ◌+◌, ◌<◌, ◌≤◌, List, [], ◌∷◌, length, true, false, Option, Some, None, refl, sym, ◌∙◌, ap, arith, subst}
use Rattle.std.specs.Prelude.{◌⊎◌, take, replicate, slice_set, slice_index_or}
use mathlib.Core.Logic.{inl, inr}
use Rattle.std.specs.List.{AllByRecursion, Contains}
use Rattle.std.specs.List.Sorted.{IsPermutation}
use Rattle.std.specs.BinaryHeap.{heap_items}
use Rattle.std.specs.declared.cmp.Reverse.{Reverse}
use Rattle.std.proofs.lemmas.Bool.{true≢false, cases_lt, le-leb, leb-true, leb-false}
use Rattle.std.proofs.lemmas.List.{get_or_default}
use Rattle.std.proofs.lemmas.List.Sorted.{Contains-permutation}
use Rattle.hk_model.specs.declared.names.Name.{Name}
use Rattle.hk_model.specs.declared.entries.Cap.{Cap}
use Rattle.hk_model.proofs.Members.{Has, has_from, contains_from}
use Rattle.hk_report.specs.declared.families.Begun.{Begun}
use Rattle.hk_report.specs.declared.families.BareChange.{BareChange}
use Rattle.hk_report.specs.declared.histories.Span.{Span}
use Rattle.hk_report.specs.declared.histories.History.{History}
use Rattle.hk_report.specs.declared.reachable.Due.{Due}
use Rattle.hk_report.specs.declared.reachable.Moments.{Moments}
use Rattle.hk_report.specs.declared.reachable.Side.{Side}
use Rattle.hk_report.specs.Histories.{history_of}
use Rattle.hk_report.specs.Reasons.{params_at}
use Rattle.hk_report.specs.Moments.{told_by, due_at, IsDue, IsEarlier, IsUnderway}
use Rattle.hk_report.specs.Reachable.{moment_at, is_by, IsBy, begins_at, goes_on, IsByThen, AreGoneOver, IsClosed, IsHeldBy, AreHeldBy}
use Rattle.hk_report.proofs.HistoryLemmas.{name_is, beyond}

-- ---- no less is told of any object

pub earlier_none : (m : Moments) → IsEarlier m m
earlier_none m = record { earlier = λ name bound h. h; keeps = λ due h. h; fresh = λ name. inl refl }

pub earlier_through : (a b c : Moments) → IsEarlier a b → IsEarlier b c → IsEarlier a c
earlier_through a b c f g = record {
  earlier = λ name bound h. g.earlier name bound (f.earlier name bound h);
  keeps = λ due h. g.keeps due (f.keeps due h);
  fresh = λ name. by name (g.fresh name);
}
  where
    still : (name : Name) → told_by c name ≡ told_by b name → (told_by b name ≡ told_by a name) ⊎ IsDue b name → (told_by c name ≡ told_by a name) ⊎ IsDue c name
    still name e (inl d) = inl (e ∙ d)
    still name e (inr d) = inr (record { moment = d.moment; told = e ∙ d.told; waits = g.keeps (due_at d.moment name) d.waits })

    by : (name : Name) → (told_by c name ≡ told_by b name) ⊎ IsDue c name → (told_by c name ≡ told_by a name) ⊎ IsDue c name
    by name (inl e) = still name e (f.fresh name)
    by name (inr d) = inr d

-- and this holds besides
pub record IsEarlierAnd (before after : Moments) (besides : Type 0) : Type 0 where
  pub earlier : IsEarlier before after
  pub holds : besides

-- ---- one object

pub by_true : (o : Option ℕ) (m : ℕ) → is_by o m ≡ true → IsBy o m
by_true None m h = absurd (true≢false (sym h))
by_true (Some x) m h = leb-true x m h

by_false : (o : Option ℕ) (m bound : ℕ) → is_by o m ≡ false → IsBy o bound → m ≤ bound
by_false None m bound h g = absurd g
by_false (Some x) m bound h g = let l = leb-false x m h in omega (arith, g, l)

-- what has no place is not told later
pub within_told : (told : List (Option ℕ)) (name : Name) (m : ℕ) → is_by (moment_at told name) m ≡ false → name.0 < length told
within_told told name m h = by told name.0 h
  where
    by : (xs : List (Option ℕ)) (i : ℕ) → is_by (slice_index_or xs i (Some 0)) m ≡ false → i < length xs
    by [] i e = absurd (true≢false (sym (le-leb 0 m (omega arith)) ∙ e))
    by (x ∷ xs) zero e = omega arith
    by (x ∷ xs) (suc i) e = let l = by xs i e in omega (arith, l)

set_there : (xs : List (Option ℕ)) (i : ℕ) (o : Option ℕ) → i < length xs → slice_index_or (slice_set xs i o) i (Some 0) ≡ o
set_there [] i o l = absurd (omega (arith, l))
set_there (x ∷ xs) zero o l = refl
set_there (x ∷ xs) (suc i) o l = set_there xs i o (omega (arith, l))

set_cases : (xs : List (Option ℕ)) (i j : ℕ) (o : Option ℕ) → (slice_index_or (slice_set xs i o) j (Some 0) ≡ slice_index_or xs j (Some 0)) ⊎ (i ≡ j)
set_cases [] i j o = inl refl
set_cases (x ∷ xs) zero zero o = inr refl
set_cases (x ∷ xs) zero (suc j) o = inl refl
set_cases (x ∷ xs) (suc i) zero o = inl refl
set_cases (x ∷ xs) (suc i) (suc j) o = by (set_cases xs i j o)
  where
    by : (slice_index_or (slice_set xs i o) j (Some 0) ≡ slice_index_or xs j (Some 0)) ⊎ (i ≡ j)
        → (slice_index_or (slice_set xs i o) j (Some 0) ≡ slice_index_or xs j (Some 0)) ⊎ (suc i ≡ suc j)
    by (inl e) = inl e
    by (inr e) = inr (ap suc e)

module _ (before after : Moments) (name : Name) (m : ℕ) (not_by : is_by (told_by before name) m ≡ false)
    (told : after.told.items ≡ slice_set before.told.items name.0 (Some m))
    (due : IsPermutation (due_at m name ∷ heap_items before.due) (heap_items after.due)) where
  told_there : told_by after name ≡ Some m
  told_there =
      ap (λ (xs : List (Option ℕ)). moment_at xs name) told
      ∙ set_there before.told.items name.0 (Some m) (within_told before.told.items name m not_by)

  waits_all : (d : Reverse Due) → Has (due_at m name ∷ heap_items before.due) d → Contains (heap_items after.due) d
  waits_all d h =
      Contains-permutation (due_at m name ∷ heap_items before.due) (heap_items after.due) d due (contains_from (due_at m name ∷ heap_items before.due) d h)

  pub told_one : IsEarlier before after
  told_one = record {
    earlier = λ x bound h. earlier x bound h (cases x);
    keeps = λ d h. waits_all d (inr (has_from (heap_items before.due) d h));
    fresh = λ x. fresh x (cases x);
  }
    where
      cases : (x : Name) → (told_by after x ≡ told_by before x) ⊎ (name.0 ≡ x.0)
      cases x = by (set_cases before.told.items name.0 x.0 (Some m))
        where
          by : (slice_index_or (slice_set before.told.items name.0 (Some m)) x.0 (Some 0) ≡ slice_index_or before.told.items x.0 (Some 0)) ⊎ (name.0 ≡ x.0)
              → (told_by after x ≡ told_by before x) ⊎ (name.0 ≡ x.0)
          by (inl e) = inl (ap (λ (xs : List (Option ℕ)). moment_at xs x) told ∙ e)
          by (inr e) = inr e

      earlier : (x : Name) (bound : ℕ) → IsBy (told_by before x) bound → (told_by after x ≡ told_by before x) ⊎ (name.0 ≡ x.0) → IsBy (told_by after x) bound
      earlier x bound h (inl e) = subst (λ (o : Option ℕ). IsBy o bound) (sym e) h
      earlier x bound h (inr e) =
          subst (λ (y : Name). IsBy (told_by after y) bound) (name_is name x e)
          (subst (λ (o : Option ℕ). IsBy o bound) (sym told_there)
          (by_false (told_by before name) m bound not_by (subst (λ (y : Name). IsBy (told_by before y) bound) (sym (name_is name x e)) h)))

      fresh : (x : Name) → (told_by after x ≡ told_by before x) ⊎ (name.0 ≡ x.0) → (told_by after x ≡ told_by before x) ⊎ IsDue after x
      fresh x (inl e) = inl e
      fresh x (inr e) = inr (subst (IsDue after) (name_is name x e) (record { moment = m; told = told_there; waits = waits_all (due_at m name) (inl refl) }))

  pub told_then : IsBy (told_by after name) m
  told_then = let here : m ≤ m = omega arith in subst (λ (o : Option ℕ). IsBy o m) (sym told_there) here

-- ---- what stays where more is told

pub all_so : {X : Type 0} (P Q : X → Type 0) → ((x : X) → P x → Q x) → (xs : List X) → AllByRecursion P xs → AllByRecursion Q xs
all_so P Q f [] h = tt
all_so P Q f (x ∷ xs) h = (f x h.0, all_so P Q f xs h.1)

module _ (a b : Moments) (f : (name : Name) → (bound : ℕ) → IsBy (told_by a name) bound → IsBy (told_by b name) bound) where
  by_stays : (name : Name) (o : Option ℕ) → IsByThen (told_by a name) o → IsByThen (told_by b name) o
  by_stays name None h = tt
  by_stays name (Some m) h = f name m h

  over_stays : (side : Side) (at : Option ℕ) (spans : List Span) → AreGoneOver side (told_by a) at spans → AreGoneOver side (told_by b) at spans
  over_stays side at spans h =
      all_so (λ (s : Span). IsByThen (told_by a s.cap.name) (goes_on side at s)) (λ (s : Span). IsByThen (told_by b s.cap.name) (goes_on side at s))
      (λ s g. by_stays s.cap.name (goes_on side at s) g) spans h

  held_stays : (m : ℕ) (o : Option Cap) → IsHeldBy (told_by a) m o → IsHeldBy (told_by b) m o
  held_stays m None h = tt
  held_stays m (Some cap) h = f cap.name m h

  params_stay : (m : ℕ) (params : List (Option Cap)) → AreHeldBy (told_by a) m params → AreHeldBy (told_by b) m params
  params_stay m params h =
      all_so (IsHeldBy (told_by a) m) (IsHeldBy (told_by b) m) (held_stays m) params h

abbrev pub AreBegun : Side → List (List Begun) → List (List (Option Cap)) → Moments → List BareChange → Type 0
AreBegun side families params m bares =
    AllByRecursion (λ (bare : BareChange). AreHeldBy (told_by m) (begins_at side bare.under.moment) (params_at families params bare.under.call)) bares

pub begun_later : (side : Side) (families : List (List Begun)) (params : List (List (Option Cap))) (a b : Moments)
    → ((name : Name) → (bound : ℕ) → IsBy (told_by a name) bound → IsBy (told_by b name) bound) → (bares : List BareChange)
    → AreBegun side families params a bares → AreBegun side families params b bares
begun_later side families params a b f bares h =
    all_so (λ (bare : BareChange). AreHeldBy (told_by a) (begins_at side bare.under.moment) (params_at families params bare.under.call))
    (λ (bare : BareChange). AreHeldBy (told_by b) (begins_at side bare.under.moment) (params_at families params bare.under.call))
    (λ bare g. params_stay a b f (begins_at side bare.under.moment) (params_at families params bare.under.call) g) bares h

-- one more of those that were gone over in turn
taken_more : {X : Type 0} (P : X → Type 0) (xs : List X) (n : ℕ) (x : X) → n < length xs → x ≡ slice_index_or xs n x → AllByRecursion P (take n xs) → P x
    → AllByRecursion P (take (n + 1) xs)
taken_more P xs n x l e h g =
    let number : suc n ≡ n + 1 = omega arith in
    subst (λ (k : ℕ). AllByRecursion P (take k xs)) number (by xs n l e h)
  where
    none : (ys : List _) → AllByRecursion P (take 0 ys)
    none [] = tt
    none (y ∷ ys) = tt

    by : (ys : List _) (k : ℕ) → k < length ys → x ≡ slice_index_or ys k x → AllByRecursion P (take k ys) → AllByRecursion P (take (suc k) ys)
    by [] k m f p = absurd (omega (arith, m))
    by (y ∷ ys) zero m f p = (subst P f g, none ys)
    by (y ∷ ys) (suc k) m f p = (p.0, by ys k (omega (arith, m)) f p.1)

pub taken_none : {X : Type 0} (P : X → Type 0) (xs : List X) → AllByRecursion P (take 0 xs)
taken_none P [] = tt
taken_none P (x ∷ xs) = tt

pub taken_all : {X : Type 0} (P : X → Type 0) (xs : List X) (n : ℕ) → length xs ≤ n → AllByRecursion P (take n xs) → AllByRecursion P xs
taken_all P [] n l h = tt
taken_all P (x ∷ xs) zero l h = absurd (omega (arith, l))
taken_all P (x ∷ xs) (suc n) l h = (h.0, taken_all P xs n (omega (arith, l)) h.1)

-- ---- a step of each loop

pub over_next : (side : Side) (at : ℕ) (first a b : Moments) (spans : List Span) (n : ℕ) (span : Span)
    → IsEarlierAnd first a (AreGoneOver side (told_by a) (Some at) (take n spans)) → n < length spans → span ≡ slice_index_or spans n span → IsEarlier a b
    → IsByThen (told_by b span.cap.name) (goes_on side (Some at) span) → IsEarlierAnd first b (AreGoneOver side (told_by b) (Some at) (take (n + 1) spans))
over_next side at first a b spans n span h l e f g = record {
  earlier = earlier_through first a b h.earlier f;
  holds =
      taken_more (λ (s : Span). IsByThen (told_by b s.cap.name) (goes_on side (Some at) s)) spans n span l e
      (over_stays a b f.earlier side (Some at) (take n spans) h.holds) g;
}

pub params_next : (m : ℕ) (first a b : Moments) (params : List (Option Cap)) (n : ℕ) (param : Option Cap) → IsEarlierAnd first a (AreHeldBy (told_by a) m (take n params)) → n < length params
    → param ≡ slice_index_or params n param → IsEarlier a b → AreHeldBy (told_by b) m (param ∷ []) → IsEarlierAnd first b (AreHeldBy (told_by b) m (take (n + 1) params))
params_next m first a b params n param h l e f g = record {
  earlier = earlier_through first a b h.earlier f;
  holds = taken_more (IsHeldBy (told_by b) m) params n param l e (params_stay a b f.earlier m (take n params) h.holds) g.0;
}

pub begun_next : (side : Side) (families : List (List Begun)) (given : List (List (Option Cap))) (first a b : Moments) (bares : List BareChange) (n : ℕ) (d : BareChange) (m : ℕ)
    (params : List (Option Cap)) → IsEarlierAnd first a (AreBegun side families given a (take n bares)) → n < length bares → IsEarlier a b
    → m ≡ begins_at side (slice_index_or bares n d).under.moment → params ≡ params_at families given (slice_index_or bares n d).under.call → AreHeldBy (told_by b) m params
    → IsEarlierAnd first b (AreBegun side families given b (take (n + 1) bares))
begun_next side families given first a b bares n d m params h l f when same g = record {
  earlier = earlier_through first a b h.earlier f;
  holds =
      taken_more (λ (x : BareChange). AreHeldBy (told_by b) (begins_at side x.under.moment) (params_at families given x.under.call)) bares n (slice_index_or bares n d) l
      (get_or_default bares n d (slice_index_or bares n d) l) (begun_later side families given a b f.earlier (take n bares) h.holds)
      (subst (λ (k : ℕ). AreHeldBy (told_by b) k (params_at families given (slice_index_or bares n d).under.call)) when (subst (AreHeldBy (told_by b) m) same g));
}

-- ---- lists gone over one after another

pub underway_none : (side : Side) (histories : List History) (m : Moments) → m.told.items ≡ replicate (length histories) None → IsUnderway side histories m
underway_none side histories m e name = inl (by (cases_lt name.0 (length histories)))
  where
    nothing : (n i : ℕ) → i < n → slice_index_or {A = Option ℕ} (replicate n None) i (Some 0) ≡ None
    nothing zero i l = absurd (omega (arith, l))
    nothing (suc n) zero l = refl
    nothing (suc n) (suc i) l = nothing n i (omega (arith, l))

    none_over : (spans : List Span) → AreGoneOver side (told_by m) None spans
    none_over [] = tt
    none_over (s ∷ spans) = (tt, none_over spans)

    by : (name.0 < length histories) ⊎ (length histories ≤ name.0) → AreGoneOver side (told_by m) (told_by m name) (history_of histories name).spans
    by (inl l) =
        subst (λ (o : Option ℕ). AreGoneOver side (told_by m) o (history_of histories name).spans)
        (sym (ap (λ (xs : List (Option ℕ)). moment_at xs name) e ∙ nothing (length histories) name.0 l)) (none_over (history_of histories name).spans)
    by (inr l) = subst (λ (x : History). AreGoneOver side (told_by m) (told_by m name) x.spans) (sym (beyond histories name.0 l)) tt

module _ (side : Side) (histories : List History) where
  pub underway_more : (a b : Moments) → IsEarlier a b → IsUnderway side histories a → IsUnderway side histories b
  underway_more a b f h name = by (f.fresh name)
    where
      old : told_by b name ≡ told_by a name → AreGoneOver side (told_by a) (told_by a name) (history_of histories name).spans ⊎ IsDue a name
          → AreGoneOver side (told_by b) (told_by b name) (history_of histories name).spans ⊎ IsDue b name
      old e (inl g) =
          inl (subst (λ (o : Option ℕ). AreGoneOver side (told_by b) o (history_of histories name).spans) (sym e)
          (over_stays a b f.earlier side (told_by a name) (history_of histories name).spans g))
      old e (inr d) = inr (record { moment = d.moment; told = e ∙ d.told; waits = f.keeps (due_at d.moment name) d.waits })

      by : (told_by b name ≡ told_by a name) ⊎ IsDue b name → AreGoneOver side (told_by b) (told_by b name) (history_of histories name).spans ⊎ IsDue b name
      by (inl e) = old e (h name)
      by (inr d) = inr d

  -- one list is no longer due, and has been gone over where nothing less was told of its object since
  pub underway_next : (a left b : Moments) (due : Due) → left.told.items ≡ a.told.items → IsPermutation (heap_items a.due) (due_at due.moment due.name ∷ heap_items left.due)
      → IsEarlier left b
      → (told_by b due.name ≡ Some due.moment → AreGoneOver side (told_by b) (Some due.moment) (history_of histories due.name).spans)
      → IsUnderway side histories a → IsUnderway side histories b
  underway_next a left b due same out f over h name = by (f.fresh name)
    where
      told_same : (x : Name) → told_by left x ≡ told_by a x
      told_same x = ap (λ (xs : List (Option ℕ)). moment_at xs x) same

      stay : (o : Option ℕ) (spans : List Span) → AreGoneOver side (told_by a) o spans → AreGoneOver side (told_by left) o spans
      stay o spans g =
          all_so (λ (s : Span). IsByThen (told_by a s.cap.name) (goes_on side o s)) (λ (s : Span). IsByThen (told_by left s.cap.name) (goes_on side o s))
          (λ s k. subst (λ (p : Option ℕ). IsByThen p (goes_on side o s)) (sym (told_same s.cap.name)) k) spans g

      waits : told_by b name ≡ told_by left name → (m : ℕ) → told_by a name ≡ Some m → Has (due_at due.moment due.name ∷ heap_items left.due) (due_at m name)
          → AreGoneOver side (told_by b) (told_by b name) (history_of histories name).spans ⊎ IsDue b name
      waits e m k (inl is) =
          let here : due.moment ≡ m = ap (λ (d : Reverse Due). d.0.moment) is in
          let there : due.name ≡ name = ap (λ (d : Reverse Due). d.0.name) is in
          let now : told_by b name ≡ Some due.moment = e ∙ told_same name ∙ k ∙ ap (λ (n : ℕ). let o : Option ℕ = Some n in o) (sym here) in
          inl (subst (λ (o : Option ℕ). AreGoneOver side (told_by b) o (history_of histories name).spans) (sym now)
          (subst (λ (x : Name). AreGoneOver side (told_by b) (Some due.moment) (history_of histories x).spans) there
          (over (ap (told_by b) there ∙ now))))
      waits e m k (inr g) =
          inr (record { moment = m; told = e ∙ told_same name ∙ k; waits = f.keeps (due_at m name) (contains_from (heap_items left.due) (due_at m name) g) })

      old : told_by b name ≡ told_by left name → AreGoneOver side (told_by a) (told_by a name) (history_of histories name).spans ⊎ IsDue a name
          → AreGoneOver side (told_by b) (told_by b name) (history_of histories name).spans ⊎ IsDue b name
      old e (inl g) =
          inl (subst (λ (o : Option ℕ). AreGoneOver side (told_by b) o (history_of histories name).spans) (sym (e ∙ told_same name))
          (over_stays left b f.earlier side (told_by a name) (history_of histories name).spans (stay (told_by a name) (history_of histories name).spans g)))
      old e (inr d) =
          waits e d.moment d.told
          (has_from (due_at due.moment due.name ∷ heap_items left.due) (due_at d.moment name)
          (Contains-permutation (heap_items a.due) (due_at due.moment due.name ∷ heap_items left.due) (due_at d.moment name) out d.waits))

      by : (told_by b name ≡ told_by left name) ⊎ IsDue b name → AreGoneOver side (told_by b) (told_by b name) (history_of histories name).spans ⊎ IsDue b name
      by (inl e) = old e (h name)
      by (inr d) = inr d

  -- no list is due
  pub closed_all : (m : Moments) → heap_items m.due ≡ [] → IsUnderway side histories m → IsClosed side histories (told_by m)
  closed_all m e h name = by (h name)
    where
      by : AreGoneOver side (told_by m) (told_by m name) (history_of histories name).spans ⊎ IsDue m name → AreGoneOver side (told_by m) (told_by m name) (history_of histories name).spans
      by (inl g) = g
      by (inr d) = absurd (subst (λ (xs : List (Reverse Due)). Has xs (due_at d.moment name)) e (has_from (heap_items m.due) (due_at d.moment name) d.waits))
