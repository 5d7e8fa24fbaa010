-- The current incarnation of a process is the last of its incarnations, and callers come before what they call.
use Rattle.std.proofs.Common.{◌≡◌, ℕ, zero, suc, ◌+◌, ◌<◌, ◌≤◌, List, [], ◌∷◌, ◌++◌, Bool, true, false, Option, Some, None, refl, sym, ◌∙◌, ap, subst, arith, cond}
use Rattle.std.specs.Prelude.{IsTrue, not, slice_set, slice_get, ◌==◌, ◌⊎◌, is_some, filter}
use mathlib.Core.Logic.{inl, inr}
use Rattle.std.specs.Option.{unwrap_or}
use Rattle.std.specs.Map.{lookup, remove_entry}
use Rattle.hk_model.specs.declared.names.Inc.{Inc}
use Rattle.hk_model.specs.declared.names.Proc.{Proc}
use Rattle.hk_model.specs.declared.lines.Line.{Line}
use Rattle.hk_model.specs.declared.objects.Incarnation.{Incarnation}
use Rattle.hk_model.specs.State.{State, incarnation, same_inc, no_incarnation}
use Rattle.hk_model.proofs.Standing.{inc_same}
use Rattle.hk_model.proofs.Activations.{Activation, look_up}
use Rattle.hk_model.specs.Lines.{done_call, enters_call}
use Rattle.hk_model.specs.Under.{is_live}
use Rattle.hk_model.proofs.Standing.{inc_laws}
use Rattle.hk_model.proofs.NumbersRise.{NumbersRise}
use Rattle.hk_model.proofs.Activations.{activation, activations_in, currents_in}
use Rattle.hk_model.proofs.ActivationLists.{activation_live, activations_apart, left_found, halted_found}
use Rattle.hk_model.proofs.Turns.{Turn, Still, Enter, Leave, Halt, CurrentAfter}

-- the incarnations of each process are a stack, whose current one is the last; `cur` has the current one of each process, and
-- `next` is the next incarnation's number
pub record Stacked (fs : List (Inc × Activation)) (cur : List Inc) (next : ℕ) : Type 0 where
  -- all numbers are below the next one
  pub below : (i : Inc) (x : Activation) → look_up i fs ≡ Some x → i.0 < next
  pub current_below : (q : ℕ) (k : Inc) → slice_get cur q ≡ Some k → k.0 < next
  -- a caller comes before whom it called
  pub caller_below : (i j : Inc) (x : Activation) → look_up i fs ≡ Some x → x.caller ≡ Some j → j.0 < i.0
  -- no live incarnation of a process is later than its current one, which is its own where it lives
  pub top : (i k : Inc) (x : Activation) → look_up i fs ≡ Some x → slice_get cur x.proc.0 ≡ Some k → i.0 ≤ k.0
  pub own : (q : ℕ) (k : Inc) (x : Activation) → slice_get cur q ≡ Some k → look_up k fs ≡ Some x → x.proc.0 ≡ q
  -- a caller that lives is of the same process, and none of the process lives between them
  pub kin : (i j : Inc) (x y : Activation) → look_up i fs ≡ Some x → x.caller ≡ Some j → look_up j fs ≡ Some y → y.proc.0 ≡ x.proc.0
  pub between : (i j k : Inc) (x y : Activation) → look_up i fs ≡ Some x → look_up j fs ≡ Some y → y.proc.0 ≡ x.proc.0 → j.0 < i.0 → x.caller ≡ Some k → j.0 ≤ k.0

-- one more at the end
pub found_last : (fs : List (Inc × Activation)) (n i : Inc) (f x : Activation) → look_up i (fs ++ (n, f) ∷ []) ≡ Some x → (look_up i fs ≡ Some x) ⊎ ((i ≡ n) × (f ≡ x))
found_last [] n i f x h = by (same_inc i n) refl h
  where
    by : (b : Bool) → same_inc i n ≡ b → ◌≡◌ {A = Option Activation} (cond b (Some f) None) (Some x) → (◌≡◌ {A = Option Activation} None (Some x)) ⊎ ((i ≡ n) × (f ≡ x))
    by true g e = inr (inc_same i n g, cc)
    by false g e = absurd (cc)
found_last (e ∷ fs) n i f x h = by (same_inc i e.0) (found_last fs n i f x) h
  where
    by : (b : Bool) → (look_up i (fs ++ (n, f) ∷ []) ≡ Some x → (look_up i fs ≡ Some x) ⊎ ((i ≡ n) × (f ≡ x))) → cond b (Some e.1) (look_up i (fs ++ (n, f) ∷ [])) ≡ Some x
        → (cond b (Some e.1) (look_up i fs) ≡ Some x) ⊎ ((i ≡ n) × (f ≡ x))
    by true rest g = inl g
    by false rest g = rest g

-- one current incarnation changed
found_set : (cur : List Inc) (p q : ℕ) (n k : Inc) → slice_get (slice_set cur p n) q ≡ Some k → ((q ≡ p) × (k ≡ n)) ⊎ ((q ≡ p → ⊥) × (slice_get cur q ≡ Some k))
found_set [] p q n k h = absurd (cc)
found_set (c ∷ cur) zero zero n k h = inl (refl, cc)
found_set (c ∷ cur) zero (suc q) n k h = inr (λ e. absurd (cc), h)
found_set (c ∷ cur) (suc p) zero n k h = inr (λ e. absurd (cc), h)
found_set (c ∷ cur) (suc p) (suc q) n k h = by (found_set cur p q n k h)
  where
    by : ((q ≡ p) × (k ≡ n)) ⊎ ((q ≡ p → ⊥) × (slice_get cur q ≡ Some k)) → ((suc q ≡ suc p) × (k ≡ n)) ⊎ ((suc q ≡ suc p → ⊥) × (slice_get cur q ≡ Some k))
    by (inl g) = inl (ap suc g.0, g.1)
    by (inr g) = inr (λ e. g.0 (omega arith), g.1)

-- a call
module _ (fs : List (Inc × Activation)) (cur : List Inc) (n inc : Inc) (p : Proc) (s : Stacked fs cur n.0) (now : slice_get cur p.0 ≡ Some inc) where
  abbrev called : Activation
  called = record { proc = p; caller = Some inc }

  abbrev more : List (Inc × Activation)
  more = fs ++ (n, called) ∷ []

  abbrev Old : Inc → Activation → Type 0
  Old i x = (look_up i fs ≡ Some x) ⊎ ((i ≡ n) × (called ≡ x))

  abbrev Then : ℕ → Inc → Type 0
  Then q k = ((q ≡ p.0) × (k ≡ n)) ⊎ ((q ≡ p.0 → ⊥) × (slice_get cur q ≡ Some k))

  num : (i : Inc) → i ≡ n → i.0 ≡ n.0
  num i e = ap (λ (x : Inc). x.0) e

  proc_new : (x : Activation) → called ≡ x → x.proc.0 ≡ p.0
  proc_new x e = ap (λ (y : Activation). y.proc.0) (sym e)

  caller_new : (x : Activation) (j : Inc) → called ≡ x → x.caller ≡ Some j → j.0 ≡ inc.0
  caller_new x j e h = let g : Some inc ≡ Some j = ap (λ (y : Activation). y.caller) e ∙ h in let k : inc ≡ j = cc in ap (λ (x : Inc). x.0) (sym k)

  e_below : (i : Inc) (x : Activation) → Old i x → i.0 < n.0 + 1
  e_below i x (inl h) = let a = s.below i x h in omega arith
  e_below i x (inr h) = let a = num i h.0 in omega arith

  e_current : (q : ℕ) (k : Inc) → Then q k → k.0 < n.0 + 1
  e_current q k (inl h) = let a = num k h.1 in omega arith
  e_current q k (inr h) = let a = s.current_below q k h.1 in omega arith

  e_caller : (i j : Inc) (x : Activation) → Old i x → x.caller ≡ Some j → j.0 < i.0
  e_caller i j x (inl h) g = s.caller_below i j x h g
  e_caller i j x (inr h) g = let a = num i h.0 in let b = caller_new x j h.1 g in let c = s.current_below p.0 inc now in omega arith

  e_top : (i k : Inc) (x : Activation) → Old i x → Then x.proc.0 k → i.0 ≤ k.0
  e_top i k x (inl h) (inl g) = let a = s.below i x h in let b = num k g.1 in omega arith
  e_top i k x (inl h) (inr g) = s.top i k x h g.1
  e_top i k x (inr h) (inl g) = let a = num i h.0 in let b = num k g.1 in omega arith
  e_top i k x (inr h) (inr g) = absurd (g.0 (proc_new x h.1))

  e_own : (q : ℕ) (k : Inc) (x : Activation) → Then q k → Old k x → x.proc.0 ≡ q
  e_own q k x (inl g) (inl h) = let a = s.below k x h in let b = num k g.1 in absurd (omega arith)
  e_own q k x (inl g) (inr h) = proc_new x h.1 ∙ sym g.0
  e_own q k x (inr g) (inl h) = s.own q k x g.1 h
  e_own q k x (inr g) (inr h) = let a = s.current_below q k g.1 in let b = num k h.0 in absurd (omega arith)

  e_kin : (i j : Inc) (x y : Activation) → Old i x → x.caller ≡ Some j → Old j y → y.proc.0 ≡ x.proc.0
  e_kin i j x y (inl h) c (inl g) = s.kin i j x y h c g
  e_kin i j x y (inl h) c (inr g) = let a = s.caller_below i j x h c in let b = s.below i x h in let d = num j g.0 in absurd (omega arith)
  e_kin i j x y (inr h) c (inl g) =
      let same : j ≡ inc = ap (λ (m : ℕ). let z : Inc = record { 0 = m } in z) (caller_new x j h.1 c) in
      let a : look_up inc fs ≡ Some y = rw same at g in
      s.own p.0 inc y now a ∙ sym (proc_new x h.1)
  e_kin i j x y (inr h) c (inr g) = proc_new y g.1 ∙ sym (proc_new x h.1)

  e_between : (i j k : Inc) (x y : Activation) → Old i x → Old j y → y.proc.0 ≡ x.proc.0 → j.0 < i.0 → x.caller ≡ Some k → j.0 ≤ k.0
  e_between i j k x y (inl h) (inl g) e l c = s.between i j k x y h g e l c
  e_between i j k x y (inl h) (inr g) e l c = let a = s.below i x h in let b = num j g.0 in absurd (omega arith)
  e_between i j k x y (inr h) (inl g) e l c =
      let a : slice_get cur y.proc.0 ≡ Some inc = rw (e ∙ proc_new x h.1) now in
      let b = s.top j inc y g a in
      let d = caller_new x k h.1 c in omega arith
  e_between i j k x y (inr h) (inr g) e l c = let a = num i h.0 in let b = num j g.0 in absurd (omega arith)

  pub entered_stacked : Stacked (fs ++ (n, record { proc = p; caller = Some inc }) ∷ []) (slice_set cur p.0 n) (n.0 + 1)
  entered_stacked = record {
    below = λ i x h. e_below i x (found_last fs n i called x h);
    current_below = λ q k h. e_current q k (found_set cur p.0 q n k h);
    caller_below = λ i j x h. e_caller i j x (found_last fs n i called x h);
    top = λ i k x h g. e_top i k x (found_last fs n i called x h) (found_set cur p.0 x.proc.0 n k g);
    own = λ q k x g h. e_own q k x (found_set cur p.0 q n k g) (found_last fs n k called x h);
    kin = λ i j x y h c g. e_kin i j x y (found_last fs n i called x h) c (found_last fs n j called y g);
    between = λ i j k x y h g. e_between i j k x y (found_last fs n i called x h) (found_last fs n j called y g);
  }

-- some go
abbrev pub Fewer : List (Inc × Activation) → List (Inc × Activation) → Type 0
Fewer fs gs = (i : Inc) (x : Activation) → look_up i gs ≡ Some x → look_up i fs ≡ Some x

pub fewer_stacked : (fs gs : List (Inc × Activation)) (cur : List Inc) (next : ℕ) → Stacked fs cur next → Fewer fs gs → Stacked gs cur next
fewer_stacked fs gs cur next s f = record {
  below = λ i x h. s.below i x (f i x h);
  current_below = s.current_below;
  caller_below = λ i j x h. s.caller_below i j x (f i x h);
  top = λ i k x h. s.top i k x (f i x h);
  own = λ q k x g h. s.own q k x g (f k x h);
  kin = λ i j x y h c g. s.kin i j x y (f i x h) c (f j y g);
  between = λ i j k x y h g. s.between i j k x y (f i x h) (f j y g);
}

-- a return
pub left_stacked : (fs gs : List (Inc × Activation)) (cur : List Inc) (next p : ℕ) (inc caller : Inc) (f : Activation) → Stacked fs cur next → Fewer fs gs
    → ((x : Activation) → look_up inc gs ≡ Some x → ⊥) → slice_get cur p ≡ Some inc → look_up inc fs ≡ Some f → f.caller ≡ Some caller → Stacked gs (slice_set cur p caller) next
left_stacked fs gs cur next p inc caller f s fewer gone now live called =
    let rest = fewer_stacked fs gs cur next s fewer in
    record {
      below = rest.below;
      current_below = λ q k h. current q k (found_set cur p q caller k h);
      caller_below = rest.caller_below;
      top = λ i k x h g. tops i k x h (found_set cur p x.proc.0 caller k g);
      own = λ q k x g h. owns q k x (found_set cur p q caller k g) (fewer k x h);
      kin = rest.kin;
      between = rest.between;
    }
  where
    Then : ℕ → Inc → Type 0
    Then q k = ((q ≡ p) × (k ≡ caller)) ⊎ ((q ≡ p → ⊥) × (slice_get cur q ≡ Some k))

    current : (q : ℕ) (k : Inc) → ((q ≡ p) × (k ≡ caller)) ⊎ ((q ≡ p → ⊥) × (slice_get cur q ≡ Some k)) → k.0 < next
    current q k (inl h) = let a = s.caller_below inc caller f live called in let b = s.below inc f live in let c : k.0 ≡ caller.0 = ap (λ (x : Inc). x.0) h.1 in omega arith
    current q k (inr h) = s.current_below q k h.1

    tops : (i k : Inc) (x : Activation) → look_up i gs ≡ Some x → ((x.proc.0 ≡ p) × (k ≡ caller)) ⊎ ((x.proc.0 ≡ p → ⊥) × (slice_get cur x.proc.0 ≡ Some k)) → i.0 ≤ k.0
    tops i k x h (inl g) =
        let here = fewer i x h in
        let at : slice_get cur x.proc.0 ≡ Some inc = rw g.0 now in
        let a = s.top i inc x here at in
        let apart : i.0 ≡ inc.0 → ⊥ = λ e. let same : i ≡ inc = ap (λ (m : ℕ). let z : Inc = record { 0 = m } in z) e in gone x (rw same at h) in
        let same : x.proc.0 ≡ f.proc.0 = g.0 ∙ sym (s.own p inc f now live) in
        let less : i.0 < inc.0 = omega (arith, apart) in
        let b = s.between inc i caller f x live here same less called in
        let c : k.0 ≡ caller.0 = ap (λ (x : Inc). x.0) g.1 in omega arith
    tops i k x h (inr g) = s.top i k x (fewer i x h) g.1

    owns : (q : ℕ) (k : Inc) (x : Activation) → ((q ≡ p) × (k ≡ caller)) ⊎ ((q ≡ p → ⊥) × (slice_get cur q ≡ Some k)) → look_up k fs ≡ Some x → x.proc.0 ≡ q
    owns q k x (inl g) h =
        let there : look_up caller fs ≡ Some x = rw g.1 at h in
        s.kin inc caller f x live called there ∙ s.own p inc f now live ∙ sym g.0
    owns q k x (inr g) h = s.own q k x g.1 h

-- ---- the turn of a line

-- who has a caller lives
caller_live : (s : State) (inc k : Inc) → (incarnation s inc).caller ≡ Some k → IsTrue (is_live s inc)
caller_live s inc k h = by (lookup (same_inc inc) s.incarnations) h
  where
    by : (o : Option Incarnation) → (unwrap_or o no_incarnation).caller ≡ Some k → IsTrue (is_some o)
    by (Some x) g = refl
    by None g = absurd (cc)

-- the incarnations of each process of the state are a stack
abbrev pub IsStacked : State → Type 0
IsStacked s = Stacked (activations_in s.incarnations) (currents_in s.processes) s.next_inc.0

pub remove_fewer : (s : State) (inc : Inc) → NumbersRise s → Fewer (activations_in s.incarnations) (remove_entry (same_inc inc) (activations_in s.incarnations))
remove_fewer s inc n i x g = (left_found (activations_in s.incarnations) inc i x (activations_apart s n) g).0

-- each turn keeps it
pub stack_turn : (s : State) (line : Line) (t : State) → NumbersRise s → Turn s line t → IsStacked s → IsStacked t
stack_turn s line t n (Still q e) h = rw (q.activations, q.currents, ap (λ (i : Inc). i.0) q.next) h
stack_turn s line t n (Enter e) h =
    rw (e.activations, e.currents, e.next) (entered_stacked (activations_in s.incarnations) (currents_in s.processes) s.next_inc line.inc line.proc h e.now)
stack_turn s line t n (Leave e) h = rw (e.activations, ap (λ (i : Inc). i.0) e.next) (by (incarnation s line.inc).caller refl e.currents)
  where
    gone : (x : Activation) → look_up line.inc (remove_entry (same_inc line.inc) (activations_in s.incarnations)) ≡ Some x → ⊥
    gone x g = let a = (left_found (activations_in s.incarnations) line.inc line.inc x (activations_apart s n) g).1 in let b = inc_laws.refl line.inc in absurd (cc)

    by : (o : Option Inc) → (incarnation s line.inc).caller ≡ o → CurrentAfter s line.proc.0 o t.processes
        → Stacked (remove_entry (same_inc line.inc) (activations_in s.incarnations)) (currents_in t.processes) s.next_inc.0
    by None o g =
        rw g (fewer_stacked (activations_in s.incarnations) (remove_entry (same_inc line.inc) (activations_in s.incarnations)) (currents_in s.processes) s.next_inc.0 h
        (remove_fewer s line.inc n))
    by (Some k) o g =
        rw g (left_stacked (activations_in s.incarnations) (remove_entry (same_inc line.inc) (activations_in s.incarnations)) (currents_in s.processes) s.next_inc.0 line.proc.0
        line.inc k (activation (incarnation s line.inc)) h (remove_fewer s line.inc n) gone e.now (activation_live s.incarnations line.inc (caller_live s line.inc k o)) o)
stack_turn s line t n (Halt e) h =
    rw (e.activations, e.currents, ap (λ (i : Inc). i.0) e.next)
    (fewer_stacked (activations_in s.incarnations) (filter (λ (y : Inc × Activation). not (y.1.proc.0 == line.proc.0)) (activations_in s.incarnations)) (currents_in s.processes)
    s.next_inc.0 h (λ i x g. (halted_found (activations_in s.incarnations) line.proc.0 i x (activations_apart s n) g).0))

-- ---- who lived before

-- who lives after a line has lived before it, or was entered by it
pub lived_before : (s : State) (line : Line) (t : State) → NumbersRise s → Turn s line t → (i : Inc) (x : Activation) → look_up i (activations_in t.incarnations) ≡ Some x
    → (look_up i (activations_in s.incarnations) ≡ Some x) ⊎ ((enters_call (done_call line) ≡ true) × (i ≡ s.next_inc) × (x.caller ≡ Some line.inc))
lived_before s line t n (Still q e) i x h = inl (subst (λ fs. look_up i fs ≡ Some x) q.activations h)
lived_before s line t n (Leave e) i x h = inl (remove_fewer s line.inc n i x (subst (λ fs. look_up i fs ≡ Some x) e.activations h))
lived_before s line t n (Halt e) i x h =
    inl (halted_found (activations_in s.incarnations) line.proc.0 i x (activations_apart s n) (subst (λ fs. look_up i fs ≡ Some x) e.activations h)).0
lived_before s line t n (Enter e) i x h =
    by (found_last (activations_in s.incarnations) s.next_inc i (record { proc = line.proc; caller = Some line.inc }) x (subst (λ fs. look_up i fs ≡ Some x) e.activations h))
  where
    by : (look_up i (activations_in s.incarnations) ≡ Some x) ⊎ ((i ≡ s.next_inc) × (record { proc = line.proc; caller = Some line.inc } ≡ x))
        → (look_up i (activations_in s.incarnations) ≡ Some x) ⊎ ((enters_call (done_call line) ≡ true) × (i ≡ s.next_inc) × (x.caller ≡ Some line.inc))
    by (inl a) = inl a
    by (inr b) = inr (e.is, b.0, ap (λ (z : Activation). z.caller) (sym b.1))

-- of an incarnation that has a caller the activation is found
pub caller_found : (s : State) (i j : Inc) → (incarnation s i).caller ≡ Some j → look_up i (activations_in s.incarnations) ≡ Some (activation (incarnation s i))
caller_found s i j h = activation_live s.incarnations i (by (lookup (same_inc i) s.incarnations) h)
  where
    by : (o : Option Incarnation) → (unwrap_or o no_incarnation).caller ≡ Some j → IsTrue (is_some o)
    by None g = absurd (cc)
    by (Some x) g = refl
