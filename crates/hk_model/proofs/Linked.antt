-- Each live incarnation is its process's current one, or calls one that lives.
use Rattle.std.proofs.Common.{◌≡◌, ◌≤◌, ℕ, zero, suc, ◌+◌, ◌-◌, ◌==◌, List, [], ◌∷◌, ◌++◌, Bool, true, false, Option, Some, None, refl, sym, ◌∙◌, ap, arith, cond, subst}
use Rattle.std.specs.Prelude.{◌⊎◌, is_some, not, slice_get, slice_set, filter, take}
use mathlib.Core.Logic.{inl, inr}
use Rattle.std.specs.Option.{unwrap_or}
use Rattle.std.specs.Map.{lookup, remove_entry}
use Rattle.std.proofs.lemmas.Bool.{cases_eq, true≢false}
use Rattle.hk_model.specs.declared.names.Inc.{Inc}
use Rattle.hk_model.specs.declared.names.Proc.{Proc}
use Rattle.hk_model.specs.declared.objects.Incarnation.{Incarnation}
use Rattle.hk_model.specs.declared.objects.Process.{Process}
use Rattle.hk_model.specs.declared.objects.ProcessState.TheVariants.{Ended}
use Rattle.hk_model.specs.declared.lines.Line.{Line}
use Rattle.hk_model.specs.declared.world.Task.{Task}
use Rattle.hk_model.specs.WorldValue.{WorldValue}
use Rattle.hk_model.specs.State.{State, incarnation, process, same_inc, no_incarnation}
use Rattle.hk_model.specs.Opening.{opening, bases, base_of, all_ready}
use Rattle.hk_model.specs.Running.{opened, state_at, AreStepsOf}
use Rattle.hk_model.specs.Shapes.{Lives, IsCaller, CurrentsCallNone}
use Rattle.hk_model.proofs.Standing.{inc_same, inc_laws}
use Rattle.hk_model.proofs.NumbersRise.{NumbersRise}
use Rattle.hk_model.proofs.Activations.{Activation, activation, activations_in, currents_in, look_up}
use Rattle.hk_model.proofs.ActivationLists.{activation_live, activations_apart, left_found, left_keeps, halted_found, halted_keeps}
use Rattle.hk_model.proofs.Stacks.{Stacked, IsStacked, found_last}
use Rattle.hk_model.proofs.Turns.{Turn, Still, Enter, Leave, Halt, CurrentAfter}
use Rattle.hk_model.proofs.Steps.{each_more, state_kept, first_steps}
use Rattle.hk_model.proofs.Histories.{Sound, LineKnown, known_each, opening_sound}

-- a live one has this for its caller
pub record CalledBy (fs : List (Inc × Activation)) (i : Inc) : Type 0 where
  pub callee : Inc
  pub called : Activation
  pub lives : look_up callee fs ≡ Some called
  pub by : called.caller ≡ Some i

-- each is the current one of its process, or calls one
abbrev pub Linked : List (Inc × Activation) → List Inc → Type 0
Linked fs cur = (i : Inc) (x : Activation) → look_up i fs ≡ Some x → (slice_get cur x.proc.0 ≡ Some i) ⊎ CalledBy fs i

-- ---- lists

pub look_up_left : (fs gs : List (Inc × Activation)) (i : Inc) (x : Activation) → look_up i fs ≡ Some x → look_up i (fs ++ gs) ≡ Some x
look_up_left [] gs i x h = absurd (cc)
look_up_left (e ∷ fs) gs i x h = by (same_inc i e.0) h (look_up_left fs gs i x)
  where
    by : (b : Bool) → cond b (Some e.1) (look_up i fs) ≡ Some x → (look_up i fs ≡ Some x → look_up i (fs ++ gs) ≡ Some x) → cond b (Some e.1) (look_up i (fs ++ gs)) ≡ Some x
    by true g later = g
    by false g later = later g

look_up_last : (fs : List (Inc × Activation)) (n : Inc) (f : Activation) → ((x : Activation) → look_up n fs ≡ Some x → ⊥) → look_up n (fs ++ (n, f) ∷ []) ≡ Some f
look_up_last [] n f new = let same = inc_laws.refl n in rw same refl
look_up_last (e ∷ fs) n f new = by (same_inc n e.0) new (look_up_last fs n f)
  where
    by : (b : Bool) → ((x : Activation) → cond b (Some e.1) (look_up n fs) ≡ Some x → ⊥) → (((x : Activation) → look_up n fs ≡ Some x → ⊥) → look_up n (fs ++ (n, f) ∷ []) ≡ Some f)
        → cond b (Some e.1) (look_up n (fs ++ (n, f) ∷ [])) ≡ Some f
    by true g later = absurd (g e.1 refl)
    by false g later = later g

set_here : (cur : List Inc) (p : ℕ) (n i : Inc) → slice_get cur p ≡ Some i → slice_get (slice_set cur p n) p ≡ Some n
set_here [] p n i h = absurd (cc)
set_here (c ∷ cur) zero n i h = refl
set_here (c ∷ cur) (suc p) n i h = set_here cur p n i h

set_there : (cur : List Inc) (p q : ℕ) (n : Inc) → (q ≡ p → ⊥) → slice_get (slice_set cur p n) q ≡ slice_get cur q
set_there [] p q n h = refl
set_there (c ∷ cur) zero zero n h = absurd (h refl)
set_there (c ∷ cur) zero (suc q) n h = refl
set_there (c ∷ cur) (suc p) zero n h = refl
set_there (c ∷ cur) (suc p) (suc q) n h = set_there cur p q n (λ e. h (ap suc e))

pub some_same : {A : Type 0} {x y : A} → ◌≡◌ {A = Option A} (Some x) (Some y) → x ≡ y
some_same h = cc

-- of an activation that is found the incarnation is
pub found_incarnation : (es : List (Inc × Incarnation)) (i : Inc) (y : Activation) → look_up i (activations_in es) ≡ Some y
    → (x : Incarnation) × ((lookup (same_inc i) es ≡ Some x) × (activation x ≡ y))
found_incarnation [] i y h = absurd (cc)
found_incarnation (e ∷ es) i y h = by (same_inc i e.0) h (found_incarnation es i y)
  where
    by : (b : Bool) → cond b (Some (activation e.1)) (look_up i (activations_in es)) ≡ Some y
        → (look_up i (activations_in es) ≡ Some y → (x : Incarnation) × ((lookup (same_inc i) es ≡ Some x) × (activation x ≡ y)))
        → (x : Incarnation) × ((cond b (Some e.1) (lookup (same_inc i) es) ≡ Some x) × (activation x ≡ y))
    by true g later = (e.1, (refl, some_same g))
    by false g later = later g

-- ---- each turn keeps it

module _ (s : State) (line : Line) (t : State) (n : NumbersRise s) (stacked : IsStacked s) (linked : Linked (activations_in s.incarnations) (currents_in s.processes)) where
  abbrev fs : List (Inc × Activation)
  fs = activations_in s.incarnations

  abbrev cur : List Inc
  cur = currents_in s.processes

  abbrev p : ℕ
  p = line.proc.0

  abbrev called : Activation
  called = record { proc = line.proc; caller = Some line.inc }

  -- a call
  entered_linked : slice_get cur p ≡ Some line.inc → Linked (fs ++ (s.next_inc, called) ∷ []) (slice_set cur p s.next_inc)
  entered_linked now i x h = by (found_last fs s.next_inc i called x h)
    where
      new : (y : Activation) → look_up s.next_inc fs ≡ Some y → ⊥
      new y g = let low = stacked.below s.next_inc y g in omega (arith, low)

      old : (slice_get cur x.proc.0 ≡ Some i) ⊎ CalledBy fs i → (slice_get (slice_set cur p s.next_inc) x.proc.0 ≡ Some i) ⊎ CalledBy (fs ++ (s.next_inc, called) ∷ []) i
      old (inr c) = inr (record { callee = c.callee; called = c.called; lives = look_up_left fs ((s.next_inc, called) ∷ []) c.callee c.called c.lives; by = c.by })
      old (inl c) = elim (cases_eq x.proc.0 p) [
        | inl e ↦
            let same : line.inc ≡ i = some_same (sym now ∙ (ap (slice_get cur) (sym e) ∙ c)) in
            inr (record { callee = s.next_inc; called = called; lives = look_up_last fs s.next_inc called new; by = ap Some same })
        | inr other ↦ inl (set_there cur p x.proc.0 s.next_inc other ∙ c)
      ]

      by : (look_up i fs ≡ Some x) ⊎ ((i ≡ s.next_inc) × (called ≡ x)) → (slice_get (slice_set cur p s.next_inc) x.proc.0 ≡ Some i) ⊎ CalledBy (fs ++ (s.next_inc, called) ∷ []) i
      by (inl g) = old (linked i x g)
      by (inr g) =
          let here : x.proc.0 ≡ p = ap (λ (y : Activation). y.proc.0) (sym g.1) in
          inl (ap (slice_get (slice_set cur p s.next_inc)) here ∙ (set_here cur p s.next_inc line.inc now ∙ ap Some (sym g.0)))

  -- a return
  abbrev left : List (Inc × Activation)
  left = remove_entry (same_inc line.inc) fs

  left_linked : slice_get cur p ≡ Some line.inc → (after : List Inc) → ((q : ℕ) → (q ≡ p → ⊥) → slice_get after q ≡ slice_get cur q)
      → ((k : Inc) → (x y : Activation) → look_up line.inc fs ≡ Some y → y.caller ≡ Some k → x.proc.0 ≡ p → slice_get after x.proc.0 ≡ Some k) → Linked left after
  left_linked now after there here i x h =
      let found = left_found fs line.inc i x (activations_apart s n) h in
      by found.0 found.1 (linked i x found.0)
    where
      itself : same_inc line.inc line.inc ≡ true
      itself = inc_laws.refl line.inc

      callee_gone : (j : Inc) (y : Activation) → look_up i fs ≡ Some x → look_up j fs ≡ Some y → y.caller ≡ Some i → (b : Bool) → same_inc line.inc j ≡ b
          → (slice_get after x.proc.0 ≡ Some i) ⊎ CalledBy left i
      callee_gone j y f g c false e = inr (record { callee = j; called = y; lives = left_keeps fs line.inc j y (activations_apart s n) g e; by = c })
      callee_gone j y f g c true e =
          let same : line.inc ≡ j = inc_same line.inc j e in
          let live : look_up line.inc fs ≡ Some y = ap (λ (k : Inc). look_up k fs) same ∙ g in
          let kin : x.proc.0 ≡ y.proc.0 = stacked.kin j i y x g c f in
          let own : y.proc.0 ≡ p = stacked.own p line.inc y now live in
          inl (here i x y live c (kin ∙ own))

      by : look_up i fs ≡ Some x → same_inc line.inc i ≡ false → (slice_get cur x.proc.0 ≡ Some i) ⊎ CalledBy fs i → (slice_get after x.proc.0 ≡ Some i) ⊎ CalledBy left i
      by f apart (inr c) = callee_gone c.callee c.called f c.lives c.by (same_inc line.inc c.callee) refl
      by f apart (inl c) = elim (cases_eq x.proc.0 p) [
        | inl e ↦
            let same : line.inc ≡ i = some_same (sym now ∙ (ap (slice_get cur) (sym e) ∙ c)) in
            absurd (true≢false (sym itself ∙ (ap (same_inc line.inc) same ∙ apart)))
        | inr other ↦ inl (there x.proc.0 other ∙ c)
      ]

  -- what is known of the caller of an incarnation that lives
  caller_of : (y : Activation) → look_up line.inc fs ≡ Some y → (incarnation s line.inc).caller ≡ y.caller
  caller_of y g =
      let there = found_incarnation s.incarnations line.inc y g in
      ap (λ (o : Option Incarnation). (unwrap_or o no_incarnation).caller) there.1.0 ∙ ap (λ (a : Activation). a.caller) there.1.1

  after_return : slice_get cur p ≡ Some line.inc → (o : Option Inc) → (incarnation s line.inc).caller ≡ o → CurrentAfter s p o t.processes → Linked left (currents_in t.processes)
  after_return now None e c = left_linked now (currents_in t.processes) (λ q other. ap (λ (l : List Inc). slice_get l q) c)
      (λ k x y live by at. absurd (clash k (sym e ∙ (caller_of y live ∙ by))))
    where
      clash : (k : Inc) → ◌≡◌ {A = Option Inc} None (Some k) → ⊥
      clash k h = absurd (cc)
  after_return now (Some caller) e c = left_linked now (currents_in t.processes) (λ q other. ap (λ (l : List Inc). slice_get l q) c ∙ set_there cur p q caller other)
      (λ k x y live by at. ap (λ (l : List Inc). slice_get l x.proc.0) c
      ∙ (ap (slice_get (slice_set cur p caller)) at ∙ (set_here cur p caller line.inc now ∙ (sym e ∙ (caller_of y live ∙ by)))))

  -- a halt
  halted_linked : Linked (filter (λ (e : Inc × Activation). not (e.1.proc.0 == p)) fs) cur
  halted_linked i x h =
      let found = halted_found fs p i x (activations_apart s n) h in
      by found.1 (linked i x found.0)
      (λ c. stacked.kin c.callee i c.called x c.lives c.by found.0)
    where
      by : (x.proc.0 == p) ≡ false → (slice_get cur x.proc.0 ≡ Some i) ⊎ CalledBy fs i → ((c : CalledBy fs i) → x.proc.0 ≡ c.called.proc.0)
          → (slice_get cur x.proc.0 ≡ Some i) ⊎ CalledBy (filter (λ (e : Inc × Activation). not (e.1.proc.0 == p)) fs) i
      by other (inl c) kin = inl c
      by other (inr c) kin =
          inr (record {
            callee = c.callee;
            called = c.called;
            lives = halted_keeps fs p c.callee c.called (activations_apart s n) c.lives
                (ap (λ (q : ℕ). q == p) (sym (kin c)) ∙ other);
            by = c.by;
          })

  turn_linked : Turn s line t → Linked (activations_in t.incarnations) (currents_in t.processes)
  turn_linked (Still q e) = rw (q.activations, q.currents) linked
  turn_linked (Enter e) = rw (e.activations, e.currents) (entered_linked e.now)
  turn_linked (Leave e) = rw e.activations (after_return e.now (incarnation s line.inc).caller refl e.currents)
  turn_linked (Halt e) = rw (e.activations, e.currents) halted_linked

-- ---- the opening

bases_linked : (n : ℕ) (ts : List Task) (i : Inc) (x : Activation) → look_up i (activations_in (bases n ts)) ≡ Some x
    → (x.proc.0 ≡ i.0) × ((n ≤ i.0) × (slice_get (currents_in (all_ready n ts)) (i.0 - n) ≡ Some i))
bases_linked n [] i x h = absurd (cc)
bases_linked n (t ∷ ts) i x h = by (same_inc i (record { 0 = n })) refl h (bases_linked (n + 1) ts i x)
  where
    here : i ≡ record { 0 = n } → ◌≡◌ {A = Option Activation} (Some (activation (base_of (record { 0 = n }) t.slots))) (Some x)
        → (x.proc.0 ≡ i.0) × ((n ≤ i.0) × (slice_get (currents_in (all_ready n (t ∷ ts))) (i.0 - n) ≡ Some i))
    here e g =
        let number : i.0 ≡ n = ap (λ (k : Inc). k.0) e in
        let zero_is : i.0 - n ≡ 0 = omega (arith, number) in
        (ap (λ (a : Activation). a.proc.0) (sym (some_same g)) ∙ sym number, (omega (arith, number), rw zero_is (ap Some (sym e))))

    by : (b : Bool) → same_inc i (record { 0 = n }) ≡ b → cond b (Some (activation (base_of (record { 0 = n }) t.slots))) (look_up i (activations_in (bases (n + 1) ts))) ≡ Some x
        → (look_up i (activations_in (bases (n + 1) ts)) ≡ Some x → (x.proc.0 ≡ i.0) × ((n + 1 ≤ i.0) × (slice_get (currents_in (all_ready (n + 1) ts)) (i.0 - (n + 1)) ≡ Some i)))
        → (x.proc.0 ≡ i.0) × ((n ≤ i.0) × (slice_get (currents_in (all_ready n (t ∷ ts))) (i.0 - n) ≡ Some i))
    by true e g later = here (inc_same i (record { 0 = n }) e) g
    by false e g later =
        let r = later g in
        let low = r.1.0 in
        let next : i.0 - n ≡ suc (i.0 - (n + 1)) = omega (arith, low) in
        (r.0, (omega (arith, low), rw next r.1.1))

opening_linked : (w : WorldValue) → Linked (activations_in (opening w).incarnations) (currents_in (opening w).processes)
unfolding opening
opening_linked w i x h =
    let r = bases_linked 0 w.tasks i x h in
    let at : i.0 - 0 ≡ x.proc.0 = let e = r.0 in omega (arith, e) in
    inl (ap (slice_get (currents_in (all_ready 0 w.tasks))) (sym at) ∙ r.1.1)

-- ---- every moment

abbrev LinkedState : State → Type 0
LinkedState s = Sound s × Linked (activations_in s.incarnations) (currents_in s.processes)

pub linked_at : (w : WorldValue) (lines : List Line) (moment : ℕ) → AreStepsOf w lines → LinkedState (state_at w lines moment)
unfolding opened
linked_at w lines moment h =
    state_kept LinkedState
    (each_more (λ s line t. Sound s → LineKnown s line t) (λ s line t. LinkedState s → LinkedState t)
    (λ s line t k g. ((k g.0).after, turn_linked s line t g.0.rises g.0.stacked g.1 (k g.0).turn)) known_each)
    w (opened w) (take moment lines) (first_steps w (opened w) lines moment h) (opening_sound w, opening_linked w)

-- ---- what that says of a state

-- the last live one of a process is its current one
record Topped (fs : List (Inc × Activation)) (cur : List Inc) (q : ℕ) : Type 0 where
  top : Inc
  is : Activation
  current : slice_get cur q ≡ Some top
  lives : look_up top fs ≡ Some is

topped : (fs : List (Inc × Activation)) (cur : List Inc) (next : ℕ) → Stacked fs cur next → Linked fs cur → (fuel : ℕ) (i : Inc) (x : Activation) → look_up i fs ≡ Some x
    → next ≤ i.0 + fuel → Topped fs cur x.proc.0
topped fs cur next s l zero i x h few = let low = s.below i x h in absurd (omega (arith, low, few))
topped fs cur next s l (suc fuel) i x h few = by (l i x h) (λ j y g e. topped fs cur next s l fuel j y g e)
  where
    by : (slice_get cur x.proc.0 ≡ Some i) ⊎ CalledBy fs i → ((j : Inc) (y : Activation) → look_up j fs ≡ Some y → next ≤ j.0 + fuel → Topped fs cur y.proc.0)
        → Topped fs cur x.proc.0
    by (inl c) later = record { top = i; is = x; current = c; lives = h }
    by (inr c) later =
        let up = s.caller_below c.callee i c.called c.lives c.by in
        let kin : x.proc.0 ≡ c.called.proc.0 = s.kin c.callee i c.called x c.lives c.by h in
        subst (λ (q : ℕ). Topped fs cur q) (sym kin) (later c.callee c.called c.lives (omega (arith, up, few)))

current_is : (s : State) (proc : Proc) (k : Inc) → slice_get (currents_in s.processes) proc.0 ≡ Some k → (process s proc).current ≡ k
current_is s proc k h = by s.processes proc.0 h
  where
    by : (ps : List Process) (n : ℕ) → slice_get (currents_in ps) n ≡ Some k → (unwrap_or (slice_get ps n) (record { run = Ended; current = record { 0 = 0 } })).current ≡ k
    by [] n g = absurd (cc)
    by (p ∷ ps) zero g = some_same g
    by (p ∷ ps) (suc n) g = by ps n g

pub found_activation : (es : List (Inc × Incarnation)) (i : Inc) (x : Incarnation) → lookup (same_inc i) es ≡ Some x → look_up i (activations_in es) ≡ Some (activation x)
found_activation es i x h =
    activation_live es i (ap is_some h) ∙ ap (λ (o : Option Incarnation). Some (activation (unwrap_or o no_incarnation))) h

module _ (s : State) (stacked : IsStacked s) (linked : Linked (activations_in s.incarnations) (currents_in s.processes)) where
  top_of : (i : Inc) (x : Incarnation) → Lives s i x → Topped (activations_in s.incarnations) (currents_in s.processes) x.proc.0
  top_of i x h =
      topped (activations_in s.incarnations) (currents_in s.processes) s.next_inc.0 stacked linked s.next_inc.0 i (activation x) (found_activation s.incarnations i x h)
      (omega arith)

  pub currents_call_none : CurrentsCallNone s
  currents_call_none = record {
    none = λ i x h e c.
        let top = top_of i x h in
        let here : top.top ≡ i = sym (current_is s x.proc top.top top.current) ∙ e in
        let callee = found_activation s.incarnations c.callee c.called c.lives in
        let up = stacked.caller_below c.callee i (activation c.called) callee c.by in
        let kin : x.proc.0 ≡ c.called.proc.0 = stacked.kin c.callee i (activation c.called) (activation x) callee c.by (found_activation s.incarnations i x h) in
        let most = stacked.top c.callee top.top (activation c.called) callee (ap (slice_get (currents_in s.processes)) (sym kin) ∙ top.current) in
        let number : top.top.0 ≡ i.0 = ap (λ (k : Inc). k.0) here in
        omega (arith, up, most, number);
    others = λ i x h. by i x (linked i (activation x) (found_activation s.incarnations i x h));
    lives = λ i x h.
        let top = top_of i x h in
        let there = found_incarnation s.incarnations top.top top.is top.lives in
        rw (current_is s x.proc top.top top.current) (ap is_some there.1.0);
  }
    where
      by : (i : Inc) (x : Incarnation) → (slice_get (currents_in s.processes) x.proc.0 ≡ Some i) ⊎ CalledBy (activations_in s.incarnations) i
          → ((process s x.proc).current ≡ i) ⊎ IsCaller s i
      by i x (inl c) = inl (current_is s x.proc i c)
      by i x (inr c) =
          let there = found_incarnation s.incarnations c.callee c.called c.lives in
          inr (record { callee = c.callee; called = there.0; lives = there.1.0; by = ap (λ (a : Activation). a.caller) there.1.1 ∙ c.by })

-- at every moment
pub currents_at : (w : WorldValue) (lines : List Line) → AreStepsOf w lines → (moment : ℕ) → CurrentsCallNone (state_at w lines moment)
currents_at w lines steps moment =
    let h = linked_at w lines moment steps in
    currents_call_none (state_at w lines moment) h.0.stacked h.1
