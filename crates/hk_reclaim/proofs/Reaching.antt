-- What marking keeps.
use Rattle.std.proofs.Common.{◌≡◌, ◌≢◌, ℕ, zero, suc, ◌+◌, ◌<◌, ◌≤◌, Bool, true, false, cond, List, [], ◌∷◌, ◌++◌, length, get_or, drop, refl, ap, ◌∙◌, sym, subst, arith, ⊎_elim}
use Rattle.std.proofs.Common.{inl, inr, ◌⊎◌, Option, Some, None, IsSome, IfSome, ◌||◌, ◌&&◌, nat_lt, slice_get, append_assoc}
use Rattle.std.proofs.lemmas.Bool.Decides.{nat_tests}
use Rattle.std.proofs.lemmas.Bool.{cases_eq, cases_lt}
use Rattle.std.proofs.lemmas.List.{drop_all}
use Rattle.std.proofs.lemmas.List.Folds.{list_any-append}
use Rattle.std.specs.Bool.{◌==◌}
use Rattle.hk_model.specs.declared.names.Name.{Name}
use Rattle.hk_objects.specs.declared.body.Body.{Body}
use Rattle.hk_model.specs.declared.entries.Entry.{Entry}
use Rattle.hk_model.specs.declared.entries.Entry.TheVariants.{Empty}
use Rattle.hk_objects.specs.Slots.{place, name_at, AreApart}
use Rattle.hk_reclaim.specs.Naming.{names_in, named_in, named, with_name, times}
use Rattle.hk_reclaim.specs.Tally.{has}
use Rattle.hk_reclaim.specs.Marks.{Marked, marked_with}
use Rattle.hk_reclaim.specs.Made.{IsMadeAt}
use Rattle.hk_reclaim.specs.Reach.{IsMarkedBy, Grows, IsWalked}
use Rattle.hk_reclaim.proofs.Counting.{times_none, times_same, times_other, same_names}
use Rattle.hk_reclaim.proofs.Marking.{get_has}
use Rattle.hk_reclaim.proofs.Settling.{name_of_some, some_name}
use Rattle.hk_reclaim.proofs.Releasing.{slot_names, next_names}

-- places in a list
pub get_front : (xs ys : List ℕ) (i j s t : ℕ) → i ≤ j → slice_get xs j ≡ Some t → slice_get (xs ++ ys) i ≡ Some s → slice_get xs i ≡ Some s
get_front [] ys i j s t le e f = absurd (cc)
get_front (x ∷ xs) ys zero j s t le e f = f
get_front (x ∷ xs) ys (suc i) zero s t le e f = absurd (omega arith)
get_front (x ∷ xs) ys (suc i) (suc j) s t le e f = get_front xs ys i j s t (omega arith) e f

pub has_get : (xs : List ℕ) (s : ℕ) → has xs s ≡ true → (i : ℕ) × (slice_get xs i ≡ Some s)
has_get [] s e = absurd (cc)
has_get (x ∷ xs) s e =
    ⊎_elim
    (λ (same : s ≡ x). (zero, ap (λ (n : ℕ). Some n) (sym same)))
    (λ (ne : s ≢ x). let f : (s == x) ≡ false = grind (arith, nat_tests) in let r = has_get xs s (subst (λ (b : Bool). (b || has xs s) ≡ true) f e) in (suc r.0, r.1))
    (cases_eq s x)

pub get_within : (xs : List ℕ) (i s : ℕ) → slice_get xs i ≡ Some s → i < length xs
get_within [] i s e = absurd (cc)
get_within (x ∷ xs) zero s e = omega arith
get_within (x ∷ xs) (suc i) s e = let h = get_within xs i s e in omega arith

pub none_past : (xs : List ℕ) (i : ℕ) → slice_get xs i ≡ None → length xs ≤ i
none_past [] i e = omega arith
none_past (x ∷ xs) zero e = absurd (cc)
none_past (x ∷ xs) (suc i) e = let h = none_past xs i e in omega arith

pub has_append : (xs ys : List ℕ) (k : ℕ) → has xs k ≡ true → has (xs ++ ys) k ≡ true
has_append xs ys k h = list_any-append (λ x. k == x) xs ys ∙ ap (λ (b : Bool). b || has ys k) h

-- one mark more
pub has_marked : (xs : List ℕ) (s k : ℕ) → has (marked_with xs s) k ≡ (has xs k || (k == s))
has_marked xs s k = by (has xs s) refl where
  or_last : (a b : Bool) → (a || (b || false)) ≡ (a || b)
  or_last true b = refl
  or_last false true = refl
  or_last false false = refl

  or_in : (a : Bool) → a ≡ true → a ≡ (a || true)
  or_in true h = refl
  or_in false h = absurd (cc)

  or_no : (a : Bool) → a ≡ (a || false)
  or_no true = refl
  or_no false = refl

  by : (b : Bool) → has xs s ≡ b → has (cond b xs (xs ++ s ∷ [])) k ≡ (has xs k || (k == s))
  by true h = ⊎_elim
      (λ (same : k ≡ s). let f : (k == s) ≡ true = grind (arith, nat_tests) in rw f (or_in (has xs k) (ap (has xs) same ∙ h)))
      (λ (ne : k ≢ s). let f : (k == s) ≡ false = grind (arith, nat_tests) in rw f (or_no (has xs k)))
      (cases_eq k s)
  by false h = list_any-append (λ x. k == x) xs (s ∷ []) ∙ or_last (has xs k) (k == s)

pub or_left : (a b : Bool) → a ≡ true → (a || b) ≡ true
or_left true b h = refl
or_left false b h = absurd (cc)

pub or_right : (a b : Bool) → b ≡ true → (a || b) ≡ true
or_right true b h = refl
or_right false b h = h

pub or_cases : (a b : Bool) → (a || b) ≡ true → (a ≡ true) ⊎ (b ≡ true)
or_cases true b h = inl refl
or_cases false b h = inr h

same_slot : (k s : ℕ) → (k == s) ≡ true → k ≡ s
same_slot k s h = grind (arith, nat_tests)

slot_same : (k s : ℕ) → k ≡ s → (k == s) ≡ true
slot_same k s h = grind (arith, nat_tests)

marked_more : (xs : List ℕ) (s : ℕ) → (rest : List ℕ) × (marked_with xs s ≡ xs ++ rest)
marked_more xs s = by (has xs s) where
  nil : (ys : List ℕ) → ys ≡ ys ++ []
  nil [] = refl
  nil (y ∷ ys) = ap (λ zs. y ∷ zs) (nil ys)

  by : (b : Bool) → (rest : List ℕ) × (cond b xs (xs ++ s ∷ []) ≡ xs ++ rest)
  by true = ([], nil xs)
  by false = (s ∷ [], refl)

pub grows_nil : (first : Name) (ps : List (Option (Name × Body))) (m : Marked) → Grows first ps [] m m
grows_nil first ps m = record {
  size = refl;
  more = ([], nil m.slots);
  all = λ k n h made e. absurd (omega (arith, times_none n));
  only = λ k h. inl h;
} where
  nil : (ys : List ℕ) → ys ≡ ys ++ []
  nil [] = refl
  nil (y ∷ ys) = ap (λ zs. y ∷ zs) (nil ys)

named_more : (n x : Name) (rest : List Name) → 0 < times n rest → 0 < times n (x ∷ rest)
named_more n x rest h = ⊎_elim
    (λ (same : n.0 ≡ x.0). rw (← same_names n x same) (omega (arith, times_same n rest)))
    (λ (ne : n.0 ≢ x.0). rw (times_other n x rest (λ e. ne (ap (λ (m : Name). m.0) e))) h)
    (cases_eq n.0 x.0)

grows_one : (first : Name) (ps : List (Option (Name × Body))) (x : Name) (rest : List Name) (old mid new : Marked) (s : ℕ) → AreApart ps → name_at ps s ≡ Some x
    → mid ≡ record old { slots = marked_with old.slots s } → Grows first ps rest mid new → Grows first ps (x ∷ rest) old new
grows_one first ps x rest old mid new s apart here e g =
    let es : mid.slots ≡ marked_with old.slots s = ap (λ (m : Marked). m.slots) e in
    let hm : (k : ℕ) → has mid.slots k ≡ (has old.slots k || (k == s)) = λ k. ap (λ (xs : List ℕ). has xs k) es ∙ has_marked old.slots s k in
    let w : (more : List ℕ) × (marked_with old.slots s ≡ old.slots ++ more) = marked_more old.slots s in
    let kept : (k : ℕ) → has mid.slots k ≡ true → has new.slots k ≡ true = λ k h. ap (λ (xs : List ℕ). has xs k) g.more.1 ∙ has_append mid.slots g.more.0 k h in
    record {
      size = g.size ∙ ap (λ (m : Marked). m.size) e;
      more = (w.0 ++ g.more.0, g.more.1 ∙ ap (λ (xs : List ℕ). xs ++ g.more.0) (es ∙ w.1) ∙ append_assoc old.slots w.0 g.more.0);
      all = λ k n h made named. ⊎_elim
          (λ (same : n.0 ≡ x.0).
          let k' : k ≡ s = apart k s n named (here ∙ ap (λ (m : Name). Some m) (sym (same_names n x same))) in
          kept k (hm k ∙ or_right (has old.slots k) (k == s) (slot_same k s k')))
          (λ (ne : n.0 ≢ x.0). g.all k n (rw (← times_other n x rest (λ e. ne (ap (λ (m : Name). m.0) e))) h) made named)
          (cases_eq n.0 x.0);
      only = λ k h. ⊎_elim
          (λ (m : has mid.slots k ≡ true). ⊎_elim
          (λ (o : has old.slots k ≡ true). inl o)
          (λ (t : (k == s) ≡ true). inr (x, ap (name_at ps) (same_slot k s t) ∙ here, omega (arith, times_same x rest)))
          (or_cases (has old.slots k) (k == s) (sym (hm k) ∙ m)))
          (λ (m : (n : Name) × (name_at ps k ≡ Some n) × (0 < times n rest)). inr (m.0, m.1, named_more m.0 x rest m.2))
          (g.only k h);
    }

grows_none : (first : Name) (ps : List (Option (Name × Body))) (x : Name) (rest : List Name) (old new : Marked) → ((k : ℕ) → IsMadeAt first ps (Some x) k → ⊥)
    → Grows first ps rest old new → Grows first ps (x ∷ rest) old new
grows_none first ps x rest old new none g = record {
  size = g.size;
  more = g.more;
  all = λ k n h made named. ⊎_elim
      (λ (same : n.0 ≡ x.0). absurd (none k (n, ap (λ (m : Name). Some m) (sym (same_names n x same)), made, named)))
      (λ (ne : n.0 ≢ x.0). g.all k n (rw (← times_other n x rest (λ e. ne (ap (λ (m : Name). m.0) e))) h) made named)
      (cases_eq n.0 x.0);
  only = λ k h. ⊎_elim
      (λ (o : has old.slots k ≡ true). inl o)
      (λ (m : (n : Name) × (name_at ps k ≡ Some n) × (0 < times n rest)). inr (m.0, m.1, named_more m.0 x rest m.2))
      (g.only k h);
}

pub grows_name : (first : Name) (ps : List (Option (Name × Body))) (name : Option Name) (rest : List Name) (old mid new : Marked) → AreApart ps
    → IsMarkedBy first ps name old mid → Grows first ps rest mid new → Grows first ps (with_name name rest) old new
grows_name first ps None rest old mid new apart r g = ⊎_elim
    (λ (w : (k : ℕ) × IsMadeAt first ps None k × (mid ≡ record old { slots = marked_with old.slots k })). absurd (let e : None ≡ Some w.1.0 = w.1.1 in cc))
    (λ (w : ((k : ℕ) → IsMadeAt first ps None k → ⊥) × (mid ≡ old)). subst (λ (m : Marked). Grows first ps rest m new) w.1 g)
    r
grows_name first ps (Some x) rest old mid new apart r g = ⊎_elim
    (λ (w : (k : ℕ) × IsMadeAt first ps (Some x) k × (mid ≡ record old { slots = marked_with old.slots k })).
    grows_one first ps x rest old mid new w.0 apart (w.1.3 ∙ sym w.1.1) w.2 g)
    (λ (w : ((k : ℕ) → IsMadeAt first ps (Some x) k → ⊥) × (mid ≡ old)).
    grows_none first ps x rest old new w.0 (subst (λ (m : Marked). Grows first ps rest m new) w.1 g))
    r

pub same_size : (first : Name) (ps : List (Option (Name × Body))) (name : Option Name) (old mid : Marked) → IsMarkedBy first ps name old mid → mid.size ≡ old.size
same_size first ps name old mid r = ⊎_elim
    (λ (w : (k : ℕ) × IsMadeAt first ps name k × (mid ≡ record old { slots = marked_with old.slots k })). ap (λ (m : Marked). m.size) w.2)
    (λ (w : ((k : ℕ) → IsMadeAt first ps name k → ⊥) × (mid ≡ old)). ap (λ (m : Marked). m.size) w.1)
    r

pub type_marked : (first : Name) (ps : List (Option (Name × Body))) (s : ℕ) (of : Name) (es : List Entry) (t u : Marked) → AreApart ps → IsSome (place ps s)
    → IfSome (place ps s) (λ e. of ≡ e.1.of) → IfSome (place ps s) (λ e. es ≡ e.1.entries)
    → IsMarkedBy first ps (Some of) t u → (final : Marked) → Grows first ps (named_in es) u final → Grows first ps (names_in (place ps s)) t final
type_marked first ps s of es t u apart some h g r final f =
    rw (slot_names (place ps s) of es some h g) (grows_name first ps (Some of) (named_in es) t u final apart r f)

pub entry_marked : (first : Name) (ps : List (Option (Name × Body))) (all : List Name) (es : List Entry) (i : ℕ) (name : Option Name) (t u v : Marked) → AreApart ps
    → i < length es
    → name ≡ named (get_or es i Empty)
    → IsMarkedBy first ps name u v → ((final : Marked) → Grows first ps (named_in (drop i es)) u final → Grows first ps all t final)
    → (final : Marked) → Grows first ps (named_in (drop (i + 1) es)) v final → Grows first ps all t final
entry_marked first ps all es i name t u v apart low read r h final f =
    h final (rw (next_names es i low) (grows_name first ps (named (get_or es i Empty)) (named_in (drop (i + 1) es)) u v final apart
    (subst (λ (n : Option Name). IsMarkedBy first ps n u v) read r) f))

pub all_marked : (first : Name) (ps : List (Option (Name × Body))) (all : List Name) (es : List Entry) (i : ℕ) (t u : Marked) → length es ≤ i
    → ((final : Marked) → Grows first ps (named_in (drop i es)) u final → Grows first ps all t final) → Grows first ps all t u
all_marked first ps all es i t u high h = h u (rw (drop_all i es high) (grows_nil first ps u))

-- the walk
pub walk_starts : (first : Name) (ps : List (Option (Name × Body))) (m : Marked) → ((k : ℕ) → has m.slots k ≡ true → IsSome (place ps k)) → IsWalked first ps m m 0
walk_starts first ps m stand = record {
  size = refl;
  kept = λ k h. h;
  closed = λ i s low e n k h made named. absurd (omega arith);
  held = λ k h. inl h;
  least = λ T roots closed k n h named. roots k n h named;
  stand = stand;
}

pub walk_step : (first : Name) (ps : List (Option (Name × Body))) (old now new : Marked) (j s : ℕ) → IsWalked first ps old now j → slice_get now.slots j ≡ Some s
    → Grows first ps (names_in (place ps s)) now new → IsWalked first ps old new (j + 1)
walk_step first ps old now new j s h at g =
    let more : (k : ℕ) → has now.slots k ≡ true → has new.slots k ≡ true = λ k i. ap (λ (xs : List ℕ). has xs k) g.more.1 ∙ has_append now.slots g.more.0 k i in
    let here : has now.slots s ≡ true = get_has now.slots j s at in
    record {
      size = g.size ∙ h.size;
      kept = λ k i. more k (h.kept k i);
      closed = λ i t low e n k named made there.
          let f : slice_get now.slots i ≡ Some t = get_front now.slots g.more.0 i j t s (omega arith) at (sym (ap (λ (xs : List ℕ). slice_get xs i) g.more.1) ∙ e) in
          ⊎_elim
          (λ (l : i < j). more k (h.closed i t l f n k named made there))
          (λ (l : j ≤ i).
          let ij : i ≡ j = omega arith in
          let ts : t ≡ s = (let a : Some t ≡ Some s = sym f ∙ ap (slice_get now.slots) ij ∙ at in cc) in
          g.all k n (subst (λ (q : ℕ). 0 < times n (names_in (place ps q))) ts named) made there)
          (cases_lt i j);
      held = λ k i. ⊎_elim
          (λ (m : has now.slots k ≡ true). ⊎_elim
          (λ (o : has old.slots k ≡ true). inl o)
          (λ (w : (t : ℕ) × (n : Name) × (has now.slots t ≡ true) × (name_at ps k ≡ Some n) × (0 < times n (names_in (place ps t)))). inr (w.0, w.1, more w.0 w.2, w.3, w.4))
          (h.held k m))
          (λ (w : (n : Name) × (name_at ps k ≡ Some n) × (0 < times n (names_in (place ps s)))). inr (s, w.0, more s here, w.1, w.2))
          (g.only k i);
      least = λ T roots closed k n i named. ⊎_elim
          (λ (m : has now.slots k ≡ true). h.least T roots closed k n m named)
          (λ (w : (x : Name) × (name_at ps k ≡ Some x) × (0 < times x (names_in (place ps s)))).
          let nx : w.0 ≡ n = (let a : Some w.0 ≡ Some n = sym w.1 ∙ named in cc) in
          let m : (y : Name) × (name_at ps s ≡ Some y) = some_name (place ps s) (h.stand s here) in
          closed n k named (s, m.0, m.1, h.least T roots closed s m.0 here m.1, subst (λ (q : Name). 0 < times q (names_in (place ps s))) nx w.2))
          (g.only k i);
      stand = λ k i. ⊎_elim
          (λ (m : has now.slots k ≡ true). h.stand k m)
          (λ (w : (x : Name) × (name_at ps k ≡ Some x) × (0 < times x (names_in (place ps s)))). name_of_some (place ps k) w.0 w.1)
          (g.only k i);
    }

pub walk_ends : (first : Name) (ps : List (Option (Name × Body))) (old now : Marked) (j : ℕ) → length now.slots ≤ j → IsWalked first ps old now j
    → IsWalked first ps old now (length now.slots)
walk_ends first ps old now j high h = record {
  size = h.size;
  kept = h.kept;
  closed = λ i s low. h.closed i s (omega arith);
  held = h.held;
  least = h.least;
  stand = h.stand;
}

-- the roots
pub root_marked : (xs ys : List ℕ) (i : ℕ) (b : Bool) (root : ℕ → Bool) → b ≡ root i → ys ≡ cond b (marked_with xs i) xs → ((k : ℕ) → has xs k ≡ (nat_lt k i && root k)) → (k : ℕ)
    → has ys k ≡ (nat_lt k (i + 1) && root k)
root_marked xs ys i b root eb e h k = ap (λ (zs : List ℕ). has zs k) e ∙ by b eb where
  by : (b : Bool) → b ≡ root i → has (cond b (marked_with xs i) xs) k ≡ (nat_lt k (i + 1) && root k)
  by true r = has_marked xs i k ∙ ap (λ (c : Bool). c || (k == i)) (h k) ∙ ⊎_elim
      (λ (same : k ≡ i). rw (same, ← r) (grind (arith, nat_tests)))
      (λ (ne : k ≢ i). grind (arith, nat_tests))
      (cases_eq k i)
  by false r = h k ∙ ⊎_elim
      (λ (same : k ≡ i). rw (same, ← r) (grind (arith, nat_tests)))
      (λ (ne : k ≢ i). grind (arith, nat_tests))
      (cases_eq k i)
