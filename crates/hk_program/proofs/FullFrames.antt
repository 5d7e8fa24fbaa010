-- A process has one frame for each of its live incarnations.
use Rattle.std.specs.Prelude.{◌≡◌, ◌⊎◌, ℕ, zero, suc, ◌+◌, ◌-◌, ◌≤◌, ◌<◌, ◌==◌, List, [], ◌∷◌, length, Bool, true, false, Option, Some, None, Ok, Err, IfOk, IsSome, map, not}
use Rattle.std.specs.Prelude.{slice_get, slice_set, take, refl}
use Rattle.std.specs.Option.{unwrap_or}
use Rattle.std.specs.Map.{lookup, remove_entry}
use Rattle.std.proofs.Common.{arith, ap, sym, ◌∙◌, subst, cond}
use Rattle.std.proofs.lemmas.Bool.{true≢false, cases_eq}
use Rattle.std.proofs.lemmas.Bool.Decides.{nat_tests}
use mathlib.Core.Logic.{inl, inr}
use Rattle.hk_model.specs.declared.names.Inc.{Inc}
use Rattle.hk_model.specs.declared.names.Proc.{Proc}
use Rattle.hk_model.specs.declared.names.Cpu.{Cpu}
use Rattle.hk_model.specs.declared.names.Slot.{Slot}
use Rattle.hk_model.specs.declared.entries.Cap.{Cap}
use Rattle.hk_model.specs.declared.calls.Call.{Call}
use Rattle.hk_model.specs.declared.calls.Call.TheVariants as call
use Rattle.hk_model.specs.declared.calls.Answer.{Answer}
use Rattle.hk_model.specs.declared.calls.Answer.TheVariants as answer
use Rattle.hk_model.specs.declared.calls.Reply.{Reply}
use Rattle.hk_model.specs.declared.calls.Reply.TheVariants.{Done, Word, Waits, No}
use Rattle.hk_model.specs.declared.lines.Line.{Line}
use Rattle.hk_model.specs.declared.lines.What.TheVariants as what
use Rattle.hk_model.specs.declared.frames.Todo.{Todo}
use Rattle.hk_model.specs.declared.frames.Todo.TheVariants.{Do, Halt}
use Rattle.hk_model.specs.declared.objects.Object.{Object}
use Rattle.hk_model.specs.declared.world.Task.{Task}
use Rattle.hk_model.specs.WorldValue.{WorldValue, IsWorld}
use Rattle.hk_model.specs.State.{State, process, same_inc, no_object}
use Rattle.hk_model.specs.Walking.{walk}
use Rattle.hk_model.specs.Targets.{PROCEDURE, is_of_type, target}
use Rattle.hk_model.specs.Rule.{Outcome, outcome, rule, settled, answered, depth, enter_procedure, leave}
use Rattle.hk_model.specs.Processors.{runner, entered_code, code_found, halted}
use Rattle.hk_model.specs.Control.{Context, next, after, frames_after, behind, new_frame}
use Rattle.hk_model.specs.Opening.{opening, bases}
use Rattle.hk_model.specs.Lines.{done_by, done_call, enters_call, leaves_call}
use Rattle.hk_model.specs.Running.{Machine, opened, context_of, event, moved, after_lines, machine_at, state_at, AreStepsOf}
use Rattle.hk_model.specs.Effects.{there}
use Rattle.hk_model.specs.Shapes.{ProceduresHaveCodes, CurrentsCallNone}
use Rattle.hk_model.proofs.TestLemmas.{then_is, and_is, if_ok}
use Rattle.hk_model.proofs.WalkLemmas.{target_is}
use Rattle.hk_model.proofs.Activations.{Activation, activations_in, look_up}
use Rattle.hk_model.proofs.ActivationLists.{activation_live, activations_filter}
use Rattle.hk_model.proofs.Turns.{Turn, Still, Enter, Leave, turn_each, enters_by, leave_leaves, runs_current}
use Rattle.hk_model.proofs.Turns as turns
use Rattle.hk_model.proofs.Steps.{proc_line, first_steps, after_next}
use Rattle.hk_model.proofs.Histories.{enters_turn}
use Rattle.hk_model.proofs.Linked.{currents_at}
use Rattle.hk_model.proofs.Procedures.{codes_at}
use Rattle.hk_program.proofs.Frames.{next_length}
use Rattle.hk_program.proofs.Depths.{amount, depth_is, amount_added}
use Rattle.hk_program.proofs.Amounts.{removed_most, filtered_most, filtered_own, removed_own, counted_lives}
use Rattle.hk_program.proofs.Kept.{Kept, context_fits, entered_none, leave_done, answered_done}
use Rattle.hk_program.proofs.StepCases.{moved_by}
use Rattle.hk_program.proofs.Machines.{sound_kept, sound_after}

abbrev pub proc_at : ℕ → Proc
proc_at n = record { 0 = n }

-- no fewer frames than incarnations
abbrev IsFull : Machine → Type 0
IsFull m = (q : ℕ) → depth m.state (proc_at q) ≤ length (context_of m (proc_at q))

-- ---- frames

kept_same : (c : Call) (reply : Reply) (frames : Context) → leaves_call (done_by (what.Call c) reply) ≡ false → length (frames_after c reply None frames) ≡ length frames
kept_same (call.Leave give) Done frames h = absurd (true≢false h)
kept_same (call.Leave give) (Word n) frames h = refl
kept_same (call.Leave give) Waits frames h = refl
kept_same (call.Leave give) (No e) frames h = refl
kept_same c reply frames h = refl

after_same : (w : WorldValue) (frames : Context) (c : Call) (reply : Reply) → leaves_call (done_by (what.Call c) reply) ≡ false
    → length (after w frames c reply None) ≡ length frames
unfolding after
after_same w [] c reply h = refl
after_same w (f ∷ rest) c reply h = kept_same c reply (behind w f reply ∷ rest) h

after_entered : (w : WorldValue) (frames : Context) (c : Call) (reply : Reply) (code : Option ℕ) → 1 ≤ length frames → IsSome code
    → length (after w frames c reply code) ≡ 1 + length frames
unfolding after
after_entered w [] c reply code some h = absurd (omega (arith, some))
after_entered w (f ∷ rest) c reply None some h = absurd (true≢false (sym h))
after_entered w (f ∷ rest) c reply (Some n) some h = omega arith

after_returned : (w : WorldValue) (frames : Context) (give : Option Slot) → length frames ≤ length (after w frames (call.Leave give) Done None) + 1
unfolding after
after_returned w [] give = omega arith
after_returned w (f ∷ rest) give = omega arith

-- who makes a call has a frame
some_frame : (w : WorldValue) (context : Context) (c : Call) (frames : Context) → next w context ≡ (Do c, frames) → 1 ≤ length context
unfolding next
some_frame w [] c frames h = let e : Halt ≡ Do c = ap (λ (f : Todo × Context). f.0) h in absurd (cc)
some_frame w (f ∷ rest) c frames h = omega arith

-- ---- contexts

module _ (m : Machine) (t : State) (p : ℕ) (new : Context) where
  abbrev changed_machine : Machine
  changed_machine = record { state = t; contexts = slice_set m.contexts p new }

  context_there : (xs : List Context) (p q : ℕ) → (q ≡ p → ⊥) → slice_get (slice_set xs p new) q ≡ slice_get xs q
  context_there [] p q h = refl
  context_there (x ∷ xs) zero zero h = absurd (h refl)
  context_there (x ∷ xs) zero (suc q) h = refl
  context_there (x ∷ xs) (suc p) zero h = refl
  context_there (x ∷ xs) (suc p) (suc q) h = context_there xs p q (λ e. h (ap suc e))

  context_here : (xs : List Context) (p : ℕ) → 1 ≤ length (unwrap_or (slice_get xs p) []) → slice_get (slice_set xs p new) p ≡ Some new
  context_here [] p h = absurd (omega (arith, h))
  context_here (x ∷ xs) zero h = refl
  context_here (x ∷ xs) (suc p) h = context_here xs p h

  -- an event of a process keeps it where it does for its own frames
  event_full : IsFull m → ((q : ℕ) → (q ≡ p → ⊥) → depth t (proc_at q) ≤ depth m.state (proc_at q))
      → (depth t (proc_at p) ≡ 0) ⊎ ((1 ≤ length (context_of m (proc_at p))) × (depth t (proc_at p) ≤ length new)) → IsFull changed_machine
  event_full h others own q = elim (cases_eq q p) [
    | inl e ↦ subst (λ (k : ℕ). depth t (proc_at k) ≤ length (context_of changed_machine (proc_at k))) (sym e) (here own)
    | inr other ↦
        let same : context_of changed_machine (proc_at q) ≡ context_of m (proc_at q) = ap (λ (o : Option Context). unwrap_or o []) (context_there m.contexts p q other) in
        let few = others q other in
        let old = h q in
        let count : length (context_of changed_machine (proc_at q)) ≡ length (context_of m (proc_at q)) = ap (λ (x : Context). length x) same in
        omega (arith, few, old, count)
  ]
    where
      here : (depth t (proc_at p) ≡ 0) ⊎ ((1 ≤ length (context_of m (proc_at p))) × (depth t (proc_at p) ≤ length new))
          → depth t (proc_at p) ≤ length (context_of changed_machine (proc_at p))
      here (inl none) = omega (arith, none)
      here (inr some) =
          let same : length (context_of changed_machine (proc_at p)) ≡ length new = ap (λ (o : Option Context). length (unwrap_or o [])) (context_here m.contexts p some.0) in
          let few = some.1 in
          omega (arith, few, same)

-- ---- depths

module _ (s : State) (line : Line) (t : State) where
  of_lists : (q : ℕ) → amount q (activations_in t.incarnations) ≤ amount q (activations_in s.incarnations) → depth t (proc_at q) ≤ depth s (proc_at q)
  of_lists q h = let a = depth_is s q in let b = depth_is t q in omega (arith, a, b, h)

  not_it : (p q : ℕ) → (q ≡ p → ⊥) → (p == q) ≡ false
  not_it p q h = grind (arith, nat_tests, h)

  -- no other process has more
  pub others_fewer : Turn s line t → (q : ℕ) → (q ≡ line.proc.0 → ⊥) → depth t (proc_at q) ≤ depth s (proc_at q)
  others_fewer (Still quiet e) q other = of_lists q (rw quiet.activations (omega arith))
  others_fewer (Enter e) q other =
      let added = amount_added q (activations_in s.incarnations) s.next_inc (record { proc = line.proc; caller = Some line.inc }) in
      let here = not_it line.proc.0 q other in
      of_lists q (rw e.activations (let same = rw here at added in omega (arith, same)))
  others_fewer (Leave e) q other = of_lists q (rw e.activations (removed_most q line.inc (activations_in s.incarnations)))
  others_fewer (turns.Halt e) q other = of_lists q (rw e.activations (filtered_most q (λ (e : Inc × Activation). not (e.1.proc.0 == line.proc.0)) (activations_in s.incarnations)))

  -- and none has more where nothing is entered
  own_fewer : Turn s line t → enters_call (done_call line) ≡ false → (q : ℕ) → depth t (proc_at q) ≤ depth s (proc_at q)
  own_fewer (Still quiet e) none q = of_lists q (rw quiet.activations (omega arith))
  own_fewer (Enter e) none q = absurd (true≢false (sym e.is ∙ none))
  own_fewer (Leave e) none q = of_lists q (rw e.activations (removed_most q line.inc (activations_in s.incarnations)))
  own_fewer (turns.Halt e) none q = of_lists q (rw e.activations (filtered_most q (λ (e : Inc × Activation). not (e.1.proc.0 == line.proc.0)) (activations_in s.incarnations)))

  one_more : Turn s line t → enters_call (done_call line) ≡ true → depth t (proc_at line.proc.0) ≤ depth s (proc_at line.proc.0) + 1
  one_more turn enters =
      let e = enters_turn s line t turn enters in
      let added = amount_added line.proc.0 (activations_in s.incarnations) s.next_inc (record { proc = line.proc; caller = Some line.inc }) in
      let most : amount line.proc.0 (activations_in t.incarnations) ≤ amount line.proc.0 (activations_in s.incarnations) + 1 =
      rw e.activations (rw added (counted (line.proc.0 == line.proc.0) (amount line.proc.0 (activations_in s.incarnations)))) in
      let a = depth_is s line.proc.0 in let b = depth_is t line.proc.0 in omega (arith, a, b, most)
    where
      counted : (b : Bool) (n : ℕ) → cond b (1 + n) n ≤ n + 1
      counted true n = omega arith
      counted false n = omega arith

-- ---- an event of a process

-- an entered procedure has a code
code_there : (s : State) → ProceduresHaveCodes s → (inc : Inc) (path : List ℕ) (rights : ℕ) (cap : Cap) → target s inc path (is_of_type PROCEDURE) rights ≡ Ok cap
    → IsSome (code_found s (walk s inc path))
code_there s codes inc path rights cap h =
    let g = target_is s inc path (is_of_type PROCEDURE) rights cap h in
    rw g.leads (has_code (there s.objects cap.name) refl g.typed)
  where
    has_code : (o : Option Object) → there s.objects cap.name ≡ o → is_of_type PROCEDURE (unwrap_or o no_object).of ≡ true → IsSome (unwrap_or o no_object).code
    has_code None e p = absurd (true≢false (sym p))
    has_code (Some x) e p = codes cap.name x e p

enter_code : (s : State) → ProceduresHaveCodes s → (proc : Proc) (inc : Inc) (path args : List ℕ) (into : Slot)
    → IfOk (enter_procedure s proc inc path args into) (λ f. IsSome (code_found s (walk s inc path)))
unfolding enter_procedure
enter_code s codes proc inc path args into =
    let leaf = code_there s codes inc path in
    search (then_is, and_is, leaf) depth 12

module _ (w : WorldValue) (m : Machine) (cpu : Cpu) (proc : Proc) (frames : Context) (kept : Kept w m) (currents : CurrentsCallNone m.state)
    (codes : ProceduresHaveCodes m.state) (full : IsFull m)
    (runs : runner m.state cpu ≡ Some proc) (some : 1 ≤ length (context_of m proc)) (many : length frames ≡ length (context_of m proc)) where
  abbrev s : State
  s = m.state

  abbrev inc : Inc
  inc = (process s proc).current

  old : depth s proc ≤ length frames
  old = let h = full proc.0 in omega (arith, h, many)

  -- the current incarnation lives, and is of the process
  current_lives : (x : Activation) × ((look_up inc (activations_in s.incarnations) ≡ Some x) × (x.proc.0 ≡ proc.0))
  current_lives =
      let fits = (context_fits w m proc kept).1 in
      let number = depth_is s proc.0 in
      let counted : 1 ≤ amount proc.0 (activations_in s.incarnations) = omega (arith, some, fits, number) in
      let o = counted_lives proc.0 0 s.next_inc.0 s.incarnations kept.sound.rises counted in
      let here : IsSome (lookup (same_inc inc) s.incarnations) =
      subst (λ (n : ℕ). IsSome (lookup (same_inc (process s (proc_at n)).current) s.incarnations)) o.own (currents.lives o.inc o.is o.lives) in
      let live = activation_live s.incarnations inc here in
      (_, (live, kept.sound.stacked.own proc.0 inc _ (runs_current s cpu proc runs) live))

  abbrev Own : Call → Outcome → Type 0
  Own c o = depth (settled s o).1 proc ≤ length (after w frames c (settled s o).0 (entered_code s inc c (settled s o).0))

  abbrev call_line : Call → Reply → Line
  call_line c reply = proc_line s cpu proc (what.Call c) reply

  returned : (give : Option Slot) (f : Answer × State) → outcome s proc inc (call.Leave give) ≡ Ok f → Own (call.Leave give) (Ok f)
  returned give f e =
      let done : f.0 ≡ answer.Done = if_ok (λ f. f.0 ≡ answer.Done) (leave s proc inc give) f (leave_done s proc inc give) e in
      let left = if_ok (λ f. turns.LeavesBy s proc inc _ f.1) (leave s proc inc give) f (leave_leaves s proc inc give) e in
      let x = current_lives in
      let less = removed_own proc.0 inc x.0 (activations_in s.incarnations) x.1.0 x.1.1 in
      let before = depth_is s proc.0 in
      let after_it : amount proc.0 (activations_in f.1.incarnations) ≡ depth f.1 proc = depth_is f.1 proc.0 in
      let same : amount proc.0 (activations_in f.1.incarnations) ≡ amount proc.0 (remove_entry (same_inc inc) (activations_in s.incarnations)) =
      ap (amount proc.0) left.activations in
      let behind_it = after_returned w frames give in
      let few = old in
      rw done (omega (arith, less, before, after_it, same, behind_it, few))

  entered_own : (path args : List ℕ) (into : Slot) (f : Answer × State) → outcome s proc inc (call.Enter path args into) ≡ Ok f
      → Turn s (call_line (call.Enter path args into) (answered f.0)) (settled s (Ok f)).1 → Own (call.Enter path args into) (Ok f)
  entered_own path args into f e turn =
      let by = if_ok (turns.EntersBy s proc inc) (enter_procedure s proc inc path args into) f (enters_by s proc inc path args into) e in
      let code = if_ok (λ f. IsSome (code_found s (walk s inc path))) (enter_procedure s proc inc path args into) f (enter_code s codes proc inc path args into) e in
      let enters : enters_call (done_by (what.Call (call.Enter path args into)) (answered f.0)) ≡ true =
      ap (λ (a : Answer). enters_call (done_by (what.Call (call.Enter path args into)) (answered a))) by.done in
      let more = one_more s (call_line (call.Enter path args into) (answered f.0)) (settled s (Ok f)).1 turn enters in
      let longer = after_entered w frames (call.Enter path args into) Done (code_found s (walk s inc path)) (omega (arith, some, many)) code in
      let few = old in
      let same : length (after w frames (call.Enter path args into) (answered f.0) (entered_code s inc (call.Enter path args into) (answered f.0))) ≡ length
      (after w frames (call.Enter path args into) Done (code_found s (walk s inc path))) =
      ap (λ (a : Answer). length (after w frames (call.Enter path args into) (answered a) (entered_code s inc (call.Enter path args into) (answered a)))) by.done in
      omega (arith, more, longer, few, same)

  quiet_own : (c : Call) (f : Answer × State) → enters_call (Some c) ≡ false → leaves_call (Some c) ≡ false → Turn s (call_line c (answered f.0)) (settled s (Ok f)).1
      → Own c (Ok f)
  quiet_own c f e l turn =
      let d = answered_done c f.0 in
      let none : enters_call (done_by (what.Call c) (answered f.0)) ≡ false = ap enters_call d ∙ e in
      let fewer = own_fewer s (call_line c (answered f.0)) (settled s (Ok f)).1 turn none proc.0 in
      let same = after_same w frames c (answered f.0) (ap leaves_call d ∙ l) in
      let few = old in
      rw (entered_none s inc c (answered f.0) none) (omega (arith, fewer, same, few))

  own_full : (c : Call) (o : Outcome) → outcome s proc inc c ≡ o → Turn s (call_line c (settled s o).0) (settled s o).1 → Own c o
  own_full c (Err r) e turn =
      let same = after_same w frames c (No r) refl in
      let few = old in
      rw (entered_none s inc c (No r) refl) (omega (arith, same, few))
  own_full (call.Leave give) (Ok f) e turn = returned give f e
  own_full (call.Enter path args into) (Ok f) e turn = entered_own path args into f e turn
  own_full c (Ok f) e turn = quiet_own c f refl refl turn

  call_full : (c : Call) → IsFull (event w m cpu proc (Do c, frames)).1
  call_full c =
      let turn = turn_each.calls s cpu proc c runs kept.sound.rises in
      event_full m (rule s proc c).1 proc.0 (after w frames c (rule s proc c).0 (entered_code s inc c (rule s proc c).0)) full
      (others_fewer s (call_line c (rule s proc c).0) (rule s proc c).1 turn)
      (inr (some, own_full c (outcome s proc inc c) refl turn))

halt_full : (w : WorldValue) (m : Machine) (cpu : Cpu) (proc : Proc) (frames : Context) → Kept w m → IsFull m → runner m.state cpu ≡ Some proc
    → IsFull (event w m cpu proc (Halt, frames)).1
halt_full w m cpu proc frames kept full runs =
    let turn = turn_each.halts m.state cpu proc runs kept.sound.rises in
    let number : amount proc.0 (activations_in (halted m.state proc).incarnations) ≡ depth (halted m.state proc) proc = depth_is (halted m.state proc) proc.0 in
    let none : amount proc.0 (activations_in (halted m.state proc).incarnations) ≡ 0 =
    ap (amount proc.0) (activations_filter proc.0 m.state.incarnations) ∙ filtered_own proc.0 (activations_in m.state.incarnations) in
    event_full m (halted m.state proc) proc.0 [] full (others_fewer m.state (proc_line m.state cpu proc what.Halt Done) (halted m.state proc) turn) (inl (sym number ∙ none))

moved_full : (w : WorldValue) (m : Machine) (cpu : Cpu) → Kept w m → CurrentsCallNone m.state → ProceduresHaveCodes m.state → IsFull m → IsFull (moved w m cpu)
moved_full w m cpu kept currents codes full = moved_by w m cpu IsFull full (record {
  none = tt;
  calls = λ proc c frames may r e.
      let some = some_frame w (context_of m proc) c frames e in
      let many : length frames ≡ length (context_of m proc) = sym (ap (λ (f : Todo × Context). length f.1) e) ∙ next_length w (context_of m proc) in
      call_full w m cpu proc frames kept currents codes full r some many c;
  halts = λ proc frames may r e. halt_full w m cpu proc frames kept full r;
  dispatches = λ first rest may e q. full q;
})

-- ---- the opening

none_of : (q n : ℕ) (ts : List Task) → q < n → amount q (activations_in (bases n ts)) ≡ 0
none_of q n [] h = refl
none_of q n (t ∷ ts) h =
    let apart : (n == q) ≡ false = grind (arith, nat_tests, h) in
    rw apart (none_of q (n + 1) ts (omega (arith, h)))

base_full : (q n : ℕ) (ts : List Task) → n ≤ q
    → amount q (activations_in (bases n ts)) ≤ length (unwrap_or (slice_get (map (λ (t : Task). let frames : Context = new_frame t.code ∷ [] in frames) ts) (q - n)) [])
base_full q n [] h = omega arith
base_full q n (t ∷ ts) h = by (n == q) refl (base_full q (n + 1) ts)
  where
    here : (n == q) ≡ true → n ≡ q
    here e = grind (arith, nat_tests, e)

    there_is : (n == q) ≡ false → n + 1 ≤ q
    there_is e = grind (arith, nat_tests, e, h)

    by : (b : Bool) → (n == q) ≡ b
        → (n + 1 ≤ q → amount q (activations_in (bases (n + 1) ts)) ≤ length
        (unwrap_or (slice_get (map (λ (t : Task). let frames : Context = new_frame t.code ∷ [] in frames) ts) (q - (n + 1))) []))
        → cond b (1 + amount q (activations_in (bases (n + 1) ts))) (amount q (activations_in (bases (n + 1) ts))) ≤ length
        (unwrap_or (slice_get (map (λ (t : Task). let frames : Context = new_frame t.code ∷ [] in frames) (t ∷ ts)) (q - n)) [])
    by true e later =
        let same = here e in
        let zero_is : q - n ≡ 0 = omega (arith, same) in
        let none = none_of q (n + 1) ts (omega (arith, same)) in
        rw zero_is (omega (arith, none))
    by false e later =
        let up = there_is e in
        let next : q - n ≡ suc (q - (n + 1)) = omega (arith, up) in
        rw next (later up)

opened_full : (w : WorldValue) → IsFull (opened w)
unfolding opened opening
opened_full w q =
    let number = depth_is (opening w) q in
    let most = base_full q 0 w.tasks (omega arith) in
    let zero_is : q - 0 ≡ q = omega arith in
    let here = rw zero_is at most in
    omega (arith, number, here)

-- ---- every moment

pub at_opening : (w : WorldValue) (lines : List Line) → machine_at w lines 0 ≡ opened w
at_opening w [] = refl
at_opening w (x ∷ lines) = refl

pub no_more : (lines : List Line) (n : ℕ) → slice_get lines n ≡ None → take (suc n) lines ≡ take n lines
no_more [] zero h = refl
no_more [] (suc n) h = refl
no_more (x ∷ lines) zero h = absurd (cc)
no_more (x ∷ lines) (suc n) h = ap (λ (l : List Line). x ∷ l) (no_more lines n h)

module _ (w : WorldValue) (lines : List Line) (world : IsWorld w) (steps : AreStepsOf w lines) where
  pub kept_at : (moment : ℕ) → Kept w (machine_at w lines moment)
  kept_at moment = sound_kept w (machine_at w lines moment) (sound_after w (take moment lines) (first_steps w (opened w) lines moment steps) world)

  full_at : (moment : ℕ) → IsFull (machine_at w lines moment)
  full_at zero = subst IsFull (sym (at_opening w lines)) (opened_full w)
  full_at (suc n) = by (full_at n) (slice_get lines n) refl
    where
      by : IsFull (machine_at w lines n) → (o : Option Line) → slice_get lines n ≡ o → IsFull (machine_at w lines (suc n))
      by h None e = subst (λ (l : List Line). IsFull (after_lines w (opened w) l)) (sym (no_more lines n e)) h
      by h (Some line) e =
          subst IsFull (sym (after_next w (opened w) lines n line e))
          (moved_full w (machine_at w lines n) line.cpu (kept_at n) (currents_at w lines steps n) (codes_at w lines world steps n) h)

  pub frames_are : (moment : ℕ) (proc : Proc) → length (context_of (machine_at w lines moment) proc) ≡ depth (state_at w lines moment) proc
  frames_are moment proc =
      let few = (context_fits w (machine_at w lines moment) proc (kept_at moment)).1 in
      let many : depth (state_at w lines moment) proc ≤ length (context_of (machine_at w lines moment) proc) = full_at moment proc.0 in
      omega (arith, few, many)
