-- Who is under a call: its own process's later incarnations, none of which lives once the call has gone.
use Rattle.std.proofs.Common.{◌≡◌, ℕ, ◌+◌, ◌<◌, ◌≤◌, List, [], ◌∷◌, ◌++◌, Bool, true, false, Option, Some, None, refl, sym, ◌∙◌, ap, arith, cond}
use Rattle.std.specs.Prelude.{IsTrue, not, slice_get, ◌||◌, ◌==◌, ◌⊎◌, is_some, filter}
use mathlib.Core.Logic.{inl, inr}
use Rattle.std.specs.Map.{lookup, remove_entry}
use Rattle.std.proofs.lemmas.Bool.{false≢true}
use Rattle.hk_model.specs.declared.names.Inc.{Inc}
use Rattle.hk_model.specs.declared.names.Proc.{Proc}
use Rattle.hk_model.specs.declared.lines.Line.{Line}
use Rattle.hk_model.specs.declared.objects.Incarnation.{Incarnation}
use Rattle.hk_model.specs.State.{State, incarnation, same_inc}
use Rattle.hk_model.specs.Lines.{done_call, enters_call}
use Rattle.hk_model.specs.Under.{is_one_of, is_live, under_by}
use Rattle.hk_model.proofs.Standing.{inc_same, inc_laws}
use Rattle.hk_model.proofs.NumbersRise.{NumbersRise}
use Rattle.hk_model.proofs.Activations.{look_up, Activation, activation, activations_in, currents_in}
use Rattle.hk_model.proofs.Stacks.{IsStacked, remove_fewer, found_last, Fewer}
use Rattle.hk_model.proofs.Turns.{Turn, Still, Enter, Leave, Halt}
use Rattle.hk_model.proofs.ActivationLists.{activation_live, activations_apart, left_found, left_keeps, halted_found, halted_keeps}

-- one more member at the end
pub member_cases : (us : List Inc) (n i : Inc) → is_one_of i (us ++ n ∷ []) ≡ true → (is_one_of i us ≡ true) ⊎ (i ≡ n)
member_cases [] n i h = by (same_inc i n) refl h
  where
    by : (b : Bool) → same_inc i n ≡ b → (b || false) ≡ true → (false ≡ true) ⊎ (i ≡ n)
    by true e g = inr (inc_same i n e)
    by false e g = inl g
member_cases (u ∷ us) n i h = by (same_inc i u) (member_cases us n i) h
  where
    by : (b : Bool) → (is_one_of i (us ++ n ∷ []) ≡ true → (is_one_of i us ≡ true) ⊎ (i ≡ n)) → (b || is_one_of i (us ++ n ∷ [])) ≡ true → ((b || is_one_of i us) ≡ true) ⊎ (i ≡ n)
    by true later g = inl refl
    by false later g = later g

pub member_old : (us : List Inc) (n i : Inc) → is_one_of i us ≡ true → is_one_of i (us ++ n ∷ []) ≡ true
member_old [] n i h = absurd (false≢true h)
member_old (u ∷ us) n i h = by (same_inc i u) (member_old us n i) h
  where
    by : (b : Bool) → (is_one_of i us ≡ true → is_one_of i (us ++ n ∷ []) ≡ true) → (b || is_one_of i us) ≡ true → (b || is_one_of i (us ++ n ∷ [])) ≡ true
    by true later g = refl
    by false later g = later g

pub member_new : (us : List Inc) (n : Inc) → is_one_of n (us ++ n ∷ []) ≡ true
member_new [] n = rw (inc_laws.refl n) refl
member_new (u ∷ us) n = by (same_inc n u) (member_new us n)
  where
    by : (b : Bool) → is_one_of n (us ++ n ∷ []) ≡ true → (b || is_one_of n (us ++ n ∷ [])) ≡ true
    by true h = refl
    by false h = h

-- who is under a call after a line that enters nothing, and after one that does
pub under_still : (s : State) (line : Line) (t : State) (us : List Inc) → enters_call (done_call line) ≡ false → under_by s line t us ≡ us
under_still s line t us e = ap (λ (b : Bool). elim b [ true ↦ elim (is_one_of line.inc us) [ true ↦ us ++ s.next_inc ∷ [] | false ↦ us ] | false ↦ us ]) e

pub under_more : (s : State) (line : Line) (t : State) (us : List Inc) → enters_call (done_call line) ≡ true
    → under_by s line t us ≡ elim (is_one_of line.inc us) [ true ↦ us ++ s.next_inc ∷ [] | false ↦ us ]
under_more s line t us e = ap (λ (b : Bool). elim b [ true ↦ elim (is_one_of line.inc us) [ true ↦ us ++ s.next_inc ∷ [] | false ↦ us ] | false ↦ us ]) e

-- who is under a call stays so
pub under_stays : (s : State) (line : Line) (t : State) (us : List Inc) (i : Inc) → is_one_of i us ≡ true → is_one_of i (under_by s line t us) ≡ true
under_stays s line t us i h = by (enters_call (done_call line)) (is_one_of line.inc us)
  where
    by : (e m : Bool) → is_one_of i (elim e [ true ↦ elim m [ true ↦ us ++ s.next_inc ∷ [] | false ↦ us ] | false ↦ us ]) ≡ true
    by true true = member_old us s.next_inc i h
    by true false = h
    by false m = h

-- and whom it enters is under it
pub entered_is_under : (s : State) (line : Line) (t : State) (us : List Inc) → enters_call (done_call line) ≡ true → is_one_of line.inc us ≡ true
    → is_one_of s.next_inc (under_by s line t us) ≡ true
entered_is_under s line t us e h = rw (under_more s line t us e, h) (member_new us s.next_inc)

-- those under the call c of the process p, among these activations
pub record UnderCall (c : Inc) (p : ℕ) (us : List Inc) (fs : List (Inc × Activation)) (next : ℕ) : Type 0 where
  pub itself : is_one_of c us ≡ true
  -- their numbers are no lower than the call's, and below the next one
  pub above : (i : Inc) → is_one_of i us ≡ true → c.0 ≤ i.0
  pub fresh : (i : Inc) → is_one_of i us ≡ true → i.0 < next
  -- who lives is of the call's process, and the call lives
  pub kin : (i : Inc) (x : Activation) → is_one_of i us ≡ true → look_up i fs ≡ Some x → x.proc.0 ≡ p
  pub alive : (i : Inc) (x : Activation) → is_one_of i us ≡ true → look_up i fs ≡ Some x → IsTrue (is_some (look_up c fs))

pub some_is : (o : Option Activation) → IsTrue (is_some o) → (x : Activation) × (o ≡ Some x)
some_is (Some x) h = (x, refl)
some_is None h = absurd (cc)

pub is_some_of : (o : Option Activation) (x : Activation) → o ≡ Some x → IsTrue (is_some o)
is_some_of o x h = rw h refl

-- where some go, but the call only with all under it
pub under_fewer : (c : Inc) (p : ℕ) (us : List Inc) (fs gs : List (Inc × Activation)) (next : ℕ) → UnderCall c p us fs next → Fewer fs gs
    → ((i : Inc) (x y : Activation) → is_one_of i us ≡ true → look_up i gs ≡ Some x → look_up c fs ≡ Some y → look_up c gs ≡ Some y) → UnderCall c p us gs next
under_fewer c p us fs gs next u f a = record {
  itself = u.itself;
  above = u.above;
  fresh = u.fresh;
  kin = λ i x m g. u.kin i x m (f i x g);
  alive = λ i x m g. let y = some_is (look_up c fs) (u.alive i x m (f i x g)) in is_some_of (look_up c gs) y.0 (a i x y.0 m g y.1);
}

same_number : (a b : Inc) → a.0 ≡ b.0 → a ≡ b
same_number a b e = ap (λ (m : ℕ). let z : Inc = record { 0 = m } in z) e

found_old : (fs : List (Inc × Activation)) (n i : Inc) (f x : Activation) → look_up i fs ≡ Some x → look_up i (fs ++ (n, f) ∷ []) ≡ Some x
found_old [] n i f x h = absurd (cc)
found_old (e ∷ fs) n i f x h = by (same_inc i e.0) (found_old fs n i f x) h
  where
    by : (b : Bool) → (look_up i fs ≡ Some x → look_up i (fs ++ (n, f) ∷ []) ≡ Some x) → cond b (Some e.1) (look_up i fs) ≡ Some x
        → cond b (Some e.1) (look_up i (fs ++ (n, f) ∷ [])) ≡ Some x
    by true rest g = g
    by false rest g = rest g

-- those under the call, with the one that is called by one of them
module _ (c : Inc) (p : ℕ) (us : List Inc) (fs : List (Inc × Activation)) (n inc : Inc) (proc : Proc) (y : Activation) (u : UnderCall c p us fs n.0)
    (below : (i : Inc) (x : Activation) → look_up i fs ≡ Some x → i.0 < n.0) (live : look_up inc fs ≡ Some y) (own : y.proc.0 ≡ proc.0) where
  abbrev called : Activation
  called = record { proc = proc; caller = Some inc }

  abbrev Member : Inc → Type 0
  Member i = (is_one_of i us ≡ true) ⊎ ((i ≡ n) × (is_one_of inc us ≡ true))

  member : (b : Bool) (i : Inc) → is_one_of inc us ≡ b → is_one_of i (elim b [ true ↦ us ++ n ∷ [] | false ↦ us ]) ≡ true → Member i
  member false i e h = inl h
  member true i e h = by (member_cases us n i h)
    where
      by : (is_one_of i us ≡ true) ⊎ (i ≡ n) → Member i
      by (inl g) = inl g
      by (inr g) = inr (g, e)

  number : (i : Inc) → i ≡ n → i.0 ≡ n.0
  number i e = ap (λ (z : Inc). z.0) e

  n_above : (i : Inc) → Member i → c.0 ≤ i.0
  n_above i (inl h) = u.above i h
  n_above i (inr h) = let a = number i h.0 in let b = u.fresh c u.itself in omega arith

  n_fresh : (i : Inc) → Member i → i.0 < n.0 + 1
  n_fresh i (inl h) = let a = u.fresh i h in omega arith
  n_fresh i (inr h) = let a = number i h.0 in omega arith

  n_kin : (i : Inc) (x : Activation) → Member i → (look_up i fs ≡ Some x) ⊎ ((i ≡ n) × (called ≡ x)) → x.proc.0 ≡ p
  n_kin i x (inl m) (inl g) = u.kin i x m g
  n_kin i x (inl m) (inr g) = let a = number i g.0 in let b = u.fresh i m in absurd (omega arith)
  n_kin i x (inr m) (inl g) = let a = number i m.0 in let b = below i x g in absurd (omega arith)
  n_kin i x (inr m) (inr g) = ap (λ (z : Activation). z.proc.0) (sym g.1) ∙ sym own ∙ u.kin inc y m.1 live

  n_alive : (i : Inc) (x : Activation) → Member i → (look_up i fs ≡ Some x) ⊎ ((i ≡ n) × (called ≡ x)) → IsTrue (is_some (look_up c (fs ++ (n, called) ∷ [])))
  n_alive i x (inl m) (inl g) = let z = some_is (look_up c fs) (u.alive i x m g) in is_some_of (look_up c (fs ++ (n, called) ∷ [])) z.0 (found_old fs n c called z.0 z.1)
  n_alive i x (inl m) (inr g) = let a = number i g.0 in let b = u.fresh i m in absurd (omega arith)
  n_alive i x (inr m) g = let z = some_is (look_up c fs) (u.alive inc y m.1 live) in is_some_of (look_up c (fs ++ (n, called) ∷ [])) z.0 (found_old fs n c called z.0 z.1)

  n_itself : (b : Bool) → is_one_of c (elim b [ true ↦ us ++ n ∷ [] | false ↦ us ]) ≡ true
  n_itself false = u.itself
  n_itself true = member_old us n c u.itself

  pub entered_under : (b : Bool) → is_one_of inc us ≡ b
      → UnderCall c p (elim b [ true ↦ us ++ n ∷ [] | false ↦ us ]) (fs ++ (n, record { proc = proc; caller = Some inc }) ∷ []) (n.0 + 1)
  entered_under b e = record {
    itself = n_itself b;
    above = λ i m. n_above i (member b i e m);
    fresh = λ i m. n_fresh i (member b i e m);
    kin = λ i x m g. n_kin i x (member b i e m) (found_last fs n i called x g);
    alive = λ i x m g. n_alive i x (member b i e m) (found_last fs n i called x g);
  }

-- a line keeps it, of those who are under the call after it
pub under_turn : (c : Inc) (p : ℕ) (us : List Inc) (s : State) (line : Line) (t : State) → NumbersRise s → Turn s line t → IsStacked s
    → UnderCall c p us (activations_in s.incarnations) s.next_inc.0 → UnderCall c p (under_by s line t us) (activations_in t.incarnations) t.next_inc.0
under_turn c p us s line t n (Still q e) st u = rw (under_still s line t us e, q.activations, ap (λ (i : Inc). i.0) q.next) u
under_turn c p us s line t n (Leave e) st u =
    rw (under_still s line t us e.is, e.activations, ap (λ (i : Inc). i.0) e.next)
    (under_fewer c p us (activations_in s.incarnations) (remove_entry (same_inc line.inc) (activations_in s.incarnations)) s.next_inc.0 u (remove_fewer s line.inc n) stays)
  where
    stays : (i : Inc) (x y : Activation) → is_one_of i us ≡ true → look_up i (remove_entry (same_inc line.inc) (activations_in s.incarnations)) ≡ Some x
        → look_up c (activations_in s.incarnations) ≡ Some y → look_up c (remove_entry (same_inc line.inc) (activations_in s.incarnations)) ≡ Some y
    stays i x y m g h = by (same_inc line.inc c) refl
      where
        by : (b : Bool) → same_inc line.inc c ≡ b → look_up c (remove_entry (same_inc line.inc) (activations_in s.incarnations)) ≡ Some y
        by false a = left_keeps (activations_in s.incarnations) line.inc c y (activations_apart s n) h a
        by true a =
            let same : line.inc ≡ c = inc_same line.inc c a in
            let found = left_found (activations_in s.incarnations) line.inc i x (activations_apart s n) g in
            let here : look_up line.inc (activations_in s.incarnations) ≡ Some y = rw same h in
            let own = st.own line.proc.0 line.inc y e.now here in
            let kin = u.kin c y u.itself h in
            let kin2 = u.kin i x m found.0 in
            let now : slice_get (currents_in s.processes) x.proc.0 ≡ Some line.inc = rw (kin2 ∙ sym kin ∙ own) e.now in
            let top = st.top i line.inc x found.0 now in
            let above = u.above i m in
            let num : line.inc.0 ≡ c.0 = ap (λ (z : Inc). z.0) same in
            let eq : line.inc ≡ i = same_number line.inc i (omega arith) in
            let itself : same_inc line.inc i ≡ true = rw (← eq) (inc_laws.refl line.inc) in
            let no = found.1 in
            absurd (cc)
under_turn c p us s line t n (Halt e) st u =
    rw (under_still s line t us (ap enters_call e.is), e.activations, ap (λ (i : Inc). i.0) e.next)
    (under_fewer c p us (activations_in s.incarnations) (filter (λ (y : Inc × Activation). not (y.1.proc.0 == line.proc.0)) (activations_in s.incarnations)) s.next_inc.0 u
    (λ i x g. (halted_found (activations_in s.incarnations) line.proc.0 i x (activations_apart s n) g).0) stays)
  where
    stays : (i : Inc) (x y : Activation) → is_one_of i us ≡ true
        → look_up i (filter (λ (y : Inc × Activation). not (y.1.proc.0 == line.proc.0)) (activations_in s.incarnations)) ≡ Some x
        → look_up c (activations_in s.incarnations) ≡ Some y
        → look_up c (filter (λ (y : Inc × Activation). not (y.1.proc.0 == line.proc.0)) (activations_in s.incarnations)) ≡ Some y
    stays i x y m g h =
        let found = halted_found (activations_in s.incarnations) line.proc.0 i x (activations_apart s n) g in
        let same : y.proc.0 ≡ x.proc.0 = u.kin c y u.itself h ∙ sym (u.kin i x m found.0) in
        halted_keeps (activations_in s.incarnations) line.proc.0 c y (activations_apart s n) h (rw same found.1)
under_turn c p us s line t n (Enter e) st u =
    rw (under_more s line t us e.is, e.activations, e.next)
    (entered_under c p us (activations_in s.incarnations) s.next_inc line.inc line.proc (activation (incarnation s line.inc)) u st.below
    (activation_live s.incarnations line.inc e.live) (st.own line.proc.0 line.inc (activation (incarnation s line.inc)) e.now (activation_live s.incarnations line.inc e.live))
    (is_one_of line.inc us) refl)

-- ---- the call at its beginning

one_is : (c i : Inc) → is_one_of i (c ∷ []) ≡ true → i ≡ c
one_is c i h = by (same_inc i c) refl h
  where
    by : (b : Bool) → same_inc i c ≡ b → (b || false) ≡ true → i ≡ c
    by true e g = inc_same i c e
    by false e g = absurd (cc)

pub one_itself : (c : Inc) → is_one_of c (c ∷ []) ≡ true
one_itself c = rw (inc_laws.refl c) refl

-- a live incarnation is alone under itself
pub under_begins : (s : State) (c : Inc) → IsStacked s → is_live s c ≡ true → UnderCall c (incarnation s c).proc.0 (c ∷ []) (activations_in s.incarnations) s.next_inc.0
under_begins s c stacked live = record {
  itself = one_itself c;
  above = λ i h. let e = same i h in omega (arith, e);
  fresh = λ i h. let e = same i h in let b = stacked.below c (activation (incarnation s c)) there in omega (arith, e, b);
  kin = λ i x h g. let f : Some x ≡ Some (activation (incarnation s c)) = sym g
      ∙ (rw (one_is c i h) there) in let k : x ≡ activation (incarnation s c) = cc in ap (λ (z : Activation). z.proc.0) k;
  alive = λ i x h g. rw there refl;
}
  where
    there : look_up c (activations_in s.incarnations) ≡ Some (activation (incarnation s c))
    there = activation_live s.incarnations c live

    same : (i : Inc) → is_one_of i (c ∷ []) ≡ true → i.0 ≡ c.0
    same i h = ap (λ (z : Inc). z.0) (one_is c i h)

-- whose activation is found, lives
pub found_live : (s : State) (i : Inc) → IsTrue (is_some (look_up i (activations_in s.incarnations))) → is_live s i ≡ true
found_live s i h = by s.incarnations h
  where
    by : (es : List (Inc × Incarnation)) → IsTrue (is_some (look_up i (activations_in es))) → IsTrue (is_some (lookup (same_inc i) es))
    by [] g = g
    by (e ∷ es) g = on (same_inc i e.0) (by es) g
      where
        on : (b : Bool) → (IsTrue (is_some (look_up i (activations_in es))) → IsTrue (is_some (lookup (same_inc i) es)))
            → IsTrue (is_some (cond b (Some (activation e.1)) (look_up i (activations_in es)))) → IsTrue (is_some (cond b (Some e.1) (lookup (same_inc i) es)))
        on true rest k = refl
        on false rest k = rest k

-- who lives under a call keeps it alive
pub under_alive : (c : Inc) (p : ℕ) (us : List Inc) (s : State) (i : Inc) → UnderCall c p us (activations_in s.incarnations) s.next_inc.0 → is_one_of i us ≡ true
    → is_live s i ≡ true → is_live s c ≡ true
under_alive c p us s i u h live = found_live s c (u.alive i (activation (incarnation s i)) h (activation_live s.incarnations i live))
