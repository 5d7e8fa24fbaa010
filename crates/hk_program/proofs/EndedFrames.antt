-- A process has ended exactly where it has no frame.
use Rattle.std.specs.Prelude.{◌≡◌, ℕ, zero, suc, ◌+◌, ◌≤◌, List, [], ◌∷◌, length, Bool, true, false, Option, Some, None, Ok, Err, IsSome, map, slice_get, refl}
use Rattle.std.specs.Option.{unwrap_or}
use Rattle.std.specs.Map.{lookup}
use Rattle.std.proofs.Common.{arith, ap, sym, ◌∙◌, subst}
use Rattle.std.proofs.lemmas.Bool.{true≢false, cases_eq}
use Rattle.std.proofs.lemmas.List.{take_all}
use mathlib.Core.Logic.{inl, inr}
use Rattle.hk_model.specs.declared.names.Inc.{Inc}
use Rattle.hk_model.specs.declared.names.Proc.{Proc}
use Rattle.hk_model.specs.declared.names.Cpu.{Cpu}
use Rattle.hk_model.specs.declared.calls.Call.{Call}
use Rattle.hk_model.specs.declared.calls.Call.TheVariants as call
use Rattle.hk_model.specs.declared.calls.Answer.{Answer}
use Rattle.hk_model.specs.declared.calls.Reply.{Reply}
use Rattle.hk_model.specs.declared.calls.Reply.TheVariants as reply
use Rattle.hk_model.specs.declared.lines.Line.{Line}
use Rattle.hk_model.specs.declared.lines.What.TheVariants as what
use Rattle.hk_model.specs.declared.objects.Incarnation.{Incarnation}
use Rattle.hk_model.specs.declared.objects.Process.{Process}
use Rattle.hk_model.specs.declared.objects.ProcessState.TheVariants.{Ready, Running, Ended}
use Rattle.hk_model.specs.declared.world.Task.{Task}
use Rattle.hk_model.specs.WorldValue.{WorldValue, IsWorld}
use Rattle.hk_model.specs.State.{State, incarnation, process, same_inc}
use Rattle.hk_model.specs.Rule.{Outcome, outcome, rule, settled, answered, depth, leave}
use Rattle.hk_model.specs.Processors.{runner, halted, has_ended}
use Rattle.hk_model.specs.Control.{Context, new_frame}
use Rattle.hk_model.specs.Opening.{opening, all_ready}
use Rattle.hk_model.specs.Lines.{leaves_call}
use Rattle.hk_model.specs.Running.{Machine, opened, context_of, moved, after_lines, machine_at, state_at, AreStepsOf}
use Rattle.hk_model.specs.Shapes.{CurrentsCallNone, CallersAreKin, IsKin}
use Rattle.hk_model.proofs.TestLemmas.{if_ok}
use Rattle.hk_model.proofs.Standing.{inc_laws, inc_same}
use Rattle.hk_model.proofs.Activations.{Activation, activation, activations_in, currents_in, look_up}
use Rattle.hk_model.proofs.ActivationLists.{activation_live, activations_apart, activations_filter, left_found, left_keeps}
use Rattle.hk_model.proofs.Turns.{Turn, LeavesBy, turn_each, leave_leaves, runs_current}
use Rattle.hk_model.proofs.Histories.{Sound}
use Rattle.hk_model.proofs.Linked.{currents_at, found_activation}
use Rattle.hk_model.proofs.CallersLive.{callers_at}
use Rattle.hk_model.proofs.Steps.{proc_line, given_to, after_next}
use Rattle.hk_program.specs.Contexts.{has_no_frame}
use Rattle.hk_program.specs.Machines.{IsSound}
use Rattle.hk_program.proofs.Queues.{run_at, IsQueue, runs_on}
use Rattle.hk_program.proofs.Depths.{amount, depth_is, others_stand, still_stands}
use Rattle.hk_program.proofs.Amounts.{filtered_own, removed_own, counted_lives}
use Rattle.hk_program.proofs.Regular.{Regular}
use Rattle.hk_program.proofs.Kept.{Kept, answered_done}
use Rattle.hk_program.proofs.StepCases.{moved_by}
use Rattle.hk_program.proofs.EndedRuns.{HaveEnded, is_base, ends_by, as_ended, kept, changed, going_on, outcome_leaves}
use Rattle.hk_program.proofs.FullFrames.{proc_at, others_fewer, at_opening, no_more, frames_are, kept_at}

-- a process of the state has ended exactly where it has no incarnation
abbrev pub EndsWith : State → ℕ → Type 0
EndsWith s q = (has_ended (run_at s.processes q) ≡ true → depth s (proc_at q) ≡ 0) × (has_ended (run_at s.processes q) ≡ false → 1 ≤ depth s (proc_at q))

abbrev pub AllEndWith : State → Type 0
AllEndWith s = (q : ℕ) → EndsWith s q

-- ---- an event

-- of the processes, this one alone has ended, or has an incarnation more or fewer
by_own : (s t : State) (p : ℕ) (so : Bool) → HaveEnded s.processes p so t.processes → ((q : ℕ) → (q ≡ p → ⊥) → depth t (proc_at q) ≡ depth s (proc_at q))
    → (so ≡ true → depth t (proc_at p) ≡ 0) → (so ≡ false → 1 ≤ depth t (proc_at p)) → AllEndWith s → AllEndWith t
by_own s t p so runs others none some all q = elim (cases_eq q p) [
  | inl e ↦ subst (EndsWith t) (sym e) (λ h. none (sym runs.1 ∙ h), λ h. some (sym runs.1 ∙ h))
  | inr other ↦
      let same = others q other in
      let here = all q in
      (λ h. same ∙ here.0 (sym (runs.0 q other) ∙ h), λ h. let more = here.1 (sym (runs.0 q other) ∙ h) in omega (arith, same, more))
]

current_of : (ps : List Process) (n : ℕ) (k : Inc) (d : Process) → slice_get (currents_in ps) n ≡ Some k → (unwrap_or (slice_get ps n) d).current ≡ k
current_of [] n k d h = absurd (cc)
current_of (p ∷ ps) zero k d h = cc
current_of (p ∷ ps) (suc n) k d h = current_of ps n k d h

module _ (w : WorldValue) (s : State) (sound : Sound s) (reg : Regular w s) (cpu : Cpu) (proc : Proc) (runs : runner s cpu ≡ Some proc) (all : AllEndWith s) where
  abbrev inc : Inc
  inc = (process s proc).current

  some_before : 1 ≤ depth s (proc_at proc.0)
  some_before = (all proc.0).1 (going_on cpu (run_at s.processes proc.0) (runs_on s.processes cpu proc runs))

  same_others : (line : Line) (t : State) → line.proc.0 ≡ proc.0 → Turn s line t → (q : ℕ) → (q ≡ proc.0 → ⊥) → depth t (proc_at q) ≡ depth s (proc_at q)
  same_others line t e turn q other =
      let fewer = others_fewer s line t turn q (λ h. other (h ∙ e)) in
      let more = others_stand s line t sound turn q (λ h. other (h ∙ e)) in
      omega (arith, fewer, more)

  -- it halts
  halt_ends : AllEndWith (halted s proc)
  halt_ends =
      let count = depth_is (halted s proc) proc.0 in
      let none = filtered_own proc.0 (activations_in s.incarnations) in
      let left = ap (amount proc.0) (activations_filter proc.0 s.incarnations) in
      by_own s (halted s proc) proc.0 true (changed w s reg cpu proc (runs_on s.processes cpu proc runs) (record (process s proc) { run = Ended }))
      (same_others (proc_line s cpu proc what.Halt reply.Done) (halted s proc) refl (turn_each.halts s cpu proc runs sound.rises))
      (λ h. omega (arith, count, none, left)) (λ h. absurd (true≢false h)) all

  abbrev call_line : Call → Reply → Line
  call_line c r = proc_line s cpu proc (what.Call c) r

  -- who returns lives no longer
  gone_is : (t : State) → LeavesBy s proc inc None t → (x : Activation) → look_up inc (activations_in t.incarnations) ≡ Some x → ⊥
  gone_is t left x h =
      let gone = left_found (activations_in s.incarnations) inc inc x (activations_apart s sound.rises) (subst (λ fs. look_up inc fs ≡ Some x) left.activations h) in
      true≢false (sym (inc_laws.refl inc) ∙ gone.1)

  -- where its last incarnation returns none is left
  none_left : CurrentsCallNone s → (t : State) → Sound t → CurrentsCallNone t → LeavesBy s proc inc None t → depth t (proc_at proc.0) ≡ 0
  none_left currents t after callees left = by (depth t (proc_at proc.0)) refl
    where
      still : 1 ≤ depth t (proc_at proc.0) → ⊥
      still some =
          let number = depth_is t proc.0 in
          let o = counted_lives proc.0 0 t.next_inc.0 t.incarnations after.rises (omega (arith, number, some)) in
          let here : IsSome (lookup (same_inc (process t proc).current) t.incarnations) =
          subst (λ (n : ℕ). IsSome (lookup (same_inc (process t (proc_at n)).current) t.incarnations)) o.own (callees.lives o.inc o.is o.lives) in
          let before : slice_get (currents_in t.processes) proc.0 ≡ Some inc = rw left.currents (runs_current s cpu proc runs) in
          let same : (process t proc).current ≡ inc = current_of t.processes proc.0 inc (record { run = Ended; current = record { 0 = 0 } }) before in
          let live = activation_live t.incarnations inc (subst (λ (k : Inc). IsSome (lookup (same_inc k) t.incarnations)) same here) in
          gone_is t left _ live

      by : (n : ℕ) → depth t (proc_at proc.0) ≡ n → depth t (proc_at proc.0) ≡ 0
      by zero e = e
      by (suc n) e = absurd (still (omega (arith, e)))

  -- where another returns its caller is left
  one_left : CurrentsCallNone s → CallersAreKin s → (caller : Inc) → (incarnation s inc).caller ≡ Some caller → (t : State) → LeavesBy s proc inc (Some caller) t
      → 1 ≤ depth t (proc_at proc.0)
  one_left currents callers caller e t left = by (lookup (same_inc inc) s.incarnations) refl
    where
      by : (o : Option Incarnation) → lookup (same_inc inc) s.incarnations ≡ o → 1 ≤ depth t (proc_at proc.0)
      by None g = let n : ◌≡◌ {A = Option Inc} None (Some caller) = rw g at e in absurd (cc)
      by (Some x) g =
          let called : x.caller ≡ Some caller = rw g at e in
          let own : x.proc.0 ≡ proc.0 = sound.stacked.own proc.0 inc (activation x) (runs_current s cpu proc runs) (found_activation s.incarnations inc x g) in
          let kin : IsKin s caller x.proc = callers.live inc caller x g called in
          let current : (process s x.proc).current ≡ inc = ap (λ (n : ℕ). (process s (proc_at n)).current) own in
          let apart : same_inc inc caller ≡ false = other (same_inc inc caller) refl
          (λ h. currents.none inc x g current (record { callee = inc; called = x; lives = g; by = rw h called })) in
          let stays = left_keeps (activations_in s.incarnations) inc caller (activation kin.is) (activations_apart s sound.rises)
          (found_activation s.incarnations caller kin.is kin.lives) apart in
          let there : look_up caller (activations_in t.incarnations) ≡ Some (activation kin.is) = rw left.activations stays in
          let count = removed_own proc.0 caller (activation kin.is) (activations_in t.incarnations) there (ap (λ (p : Proc). p.0) kin.same ∙ own) in
          let number = depth_is t proc.0 in
          omega (arith, count, number)
        where
          other : (b : Bool) → same_inc inc caller ≡ b → (inc ≡ caller → ⊥) → b ≡ false
          other true f h = absurd (h (inc_same inc caller f))
          other false f h = refl

  return_ends : CurrentsCallNone s → CallersAreKin s → (t : State) → Sound t → CurrentsCallNone t → LeavesBy s proc inc (incarnation s inc).caller t
      → (is_base (incarnation s inc).caller ≡ true → depth t (proc_at proc.0) ≡ 0) × (is_base (incarnation s inc).caller ≡ false → 1 ≤ depth t (proc_at proc.0))
  return_ends currents callers t after callees left = by (incarnation s inc).caller refl left
    where
      by : (o : Option Inc) → (incarnation s inc).caller ≡ o → LeavesBy s proc inc o t
          → (is_base o ≡ true → depth t (proc_at proc.0) ≡ 0) × (is_base o ≡ false → 1 ≤ depth t (proc_at proc.0))
      by None e l = (λ h. none_left currents t after callees l, λ h. absurd (true≢false h))
      by (Some caller) e l = (λ h. absurd (true≢false (sym h)), λ h. one_left currents callers caller e t l)

  -- an answered call
  answered_ends : CurrentsCallNone s → CallersAreKin s → (c : Call) (f : Answer × State) → outcome s proc inc c ≡ Ok f
      → Turn s (call_line c (answered f.0)) (settled s (Ok f)).1 → Sound (settled s (Ok f)).1 → CurrentsCallNone (settled s (Ok f)).1
      → (ends_by s inc c ≡ true → depth f.1 (proc_at proc.0) ≡ 0) × (ends_by s inc c ≡ false → 1 ≤ depth f.1 (proc_at proc.0))
  answered_ends currents callers (call.Leave give) f e turn after callees =
      let left = if_ok (λ f. LeavesBy s proc inc (incarnation s inc).caller f.1) (leave s proc inc give) f (leave_leaves s proc inc give) e in
      return_ends currents callers (settled s (Ok f)).1 after callees (record { activations = left.activations; currents = left.currents; next = left.next })
  answered_ends currents callers c f e turn after callees =
      let stands = still_stands s (call_line c (answered f.0)) (settled s (Ok f)).1 sound turn (λ h. let n = sym (answered_done c f.0) ∙ h in absurd (cc))
      (ap leaves_call (answered_done c f.0)) in
      let before = some_before in
      (λ h. absurd (true≢false (sym h)), λ h. omega (arith, stands, before))

  call_ends : CurrentsCallNone s → CallersAreKin s → (c : Call) → Sound (rule s proc c).1 → CurrentsCallNone (rule s proc c).1 → AllEndWith (rule s proc c).1
  call_ends currents callers c = by (outcome s proc inc c) refl (turn_each.calls s cpu proc c runs sound.rises)
    where
      by : (o : Outcome) → outcome s proc inc c ≡ o → Turn s (call_line c (settled s o).0) (settled s o).1 → Sound (settled s o).1 → CurrentsCallNone (settled s o).1
          → AllEndWith (settled s o).1
      by (Err r) e turn after callees = all
      by (Ok f) e turn after callees =
          let so = if_ok (λ f. HaveEnded s.processes proc.0 (ends_by s inc c) f.1.processes) (outcome s proc inc c) f
          (outcome_leaves w s reg cpu proc (runs_on s.processes cpu proc runs) inc c) e in
          let own = answered_ends currents callers c f e turn after callees in
          by_own s (settled s (Ok f)).1 proc.0 (ends_by s inc c) so (same_others (call_line c (answered f.0)) (settled s (Ok f)).1 refl turn) own.0 own.1 all

-- the first ready process gets a processor
dispatch_ends : (w : WorldValue) (s : State) → Regular w s → (cpu : Cpu) (first : Proc) (rest : List Proc) → s.ready ≡ first ∷ rest → AllEndWith s → AllEndWith (given_to s cpu first rest)
dispatch_ends w s reg cpu first rest e all q =
    let queue : IsQueue s.processes Ready (first ∷ rest) = subst (λ qs. IsQueue s.processes Ready qs) e reg.ready in
    let same = as_ended q s.processes first.0 (record (process s first) { run = Running cpu }) (sym (ap has_ended queue.0.0)) in
    (λ h. (all q).0 (sym same ∙ h), λ h. (all q).1 (sym same ∙ h))

-- ---- every moment

moved_ends : (w : WorldValue) (m : Machine) (cpu : Cpu) → Kept w m → CurrentsCallNone m.state → CallersAreKin m.state → AllEndWith m.state
    → Kept w (moved w m cpu) → CurrentsCallNone (moved w m cpu).state → AllEndWith (moved w m cpu).state
moved_ends w m cpu kept currents callers all after callees =
    moved_by w m cpu (λ x. Sound x.state → CurrentsCallNone x.state → AllEndWith x.state) (λ h g. all) (record {
      none = tt;
      calls = λ proc c frames may r e h g. call_ends w m.state kept.sound kept.regular cpu proc r all currents callers c h g;
      halts = λ proc frames may r e h g. halt_ends w m.state kept.sound kept.regular cpu proc r all;
      dispatches = λ first rest may e h g. dispatch_ends w m.state kept.regular cpu first rest e all;
    }) after.sound callees

-- a process of the opening is ready, with one frame
ready_frames : (n q : ℕ) (ts : List Task) → has_ended (run_at (all_ready n ts) q) ≡ true
    → length (unwrap_or (slice_get (map (λ (t : Task). let frames : Context = new_frame t.code ∷ [] in frames) ts) q) []) ≡ 0
ready_frames n q [] h = refl
ready_frames n zero (t ∷ ts) h = absurd (true≢false (sym h))
ready_frames n (suc q) (t ∷ ts) h = ready_frames (n + 1) q ts h

ready_framed : (n q : ℕ) (ts : List Task) → has_ended (run_at (all_ready n ts) q) ≡ false
    → 1 ≤ length (unwrap_or (slice_get (map (λ (t : Task). let frames : Context = new_frame t.code ∷ [] in frames) ts) q) [])
ready_framed n q [] h = absurd (true≢false h)
ready_framed n zero (t ∷ ts) h = omega arith
ready_framed n (suc q) (t ∷ ts) h = ready_framed (n + 1) q ts h

opened_frames : (w : WorldValue) (q : ℕ) → (has_ended (run_at (opened w).state.processes q) ≡ true → length (context_of (opened w) (proc_at q)) ≡ 0)
    × (has_ended (run_at (opened w).state.processes q) ≡ false → 1 ≤ length (context_of (opened w) (proc_at q)))
unfolding opened opening
opened_frames w q = (ready_frames 0 q w.tasks, ready_framed 0 q w.tasks)

module _ (w : WorldValue) (lines : List Line) (world : IsWorld w) (steps : AreStepsOf w lines) where
  at_first : AllEndWith (state_at w lines 0)
  at_first q =
      let same = frames_are w lines world steps 0 (proc_at q) in
      let frames : length (context_of (opened w) (proc_at q)) ≡ depth (opened w).state (proc_at q) =
      subst (λ (m : Machine). length (context_of m (proc_at q)) ≡ depth m.state (proc_at q)) (at_opening w lines) same in
      let here = opened_frames w q in
      subst (λ (m : Machine). EndsWith m.state q) (sym (at_opening w lines))
      (λ h. let none = here.0 h in omega (arith, none, frames), λ h. let some = here.1 h in omega (arith, some, frames))

  ends_at : (moment : ℕ) → AllEndWith (state_at w lines moment)
  ends_at zero = at_first
  ends_at (suc n) = by (ends_at n) (slice_get lines n) refl
    where
      by : AllEndWith (state_at w lines n) → (o : Option Line) → slice_get lines n ≡ o → AllEndWith (state_at w lines (suc n))
      by h None e = subst (λ (l : List Line). AllEndWith (after_lines w (opened w) l).state) (sym (no_more lines n e)) h
      by h (Some line) e =
          let next = after_next w (opened w) lines n line e in
          let after : Kept w (moved w (machine_at w lines n) line.cpu) = subst (Kept w) next (kept_at w lines world steps (suc n)) in
          let callees : CurrentsCallNone (moved w (machine_at w lines n) line.cpu).state =
          subst (λ (m : Machine). CurrentsCallNone m.state) next (currents_at w lines steps (suc n)) in
          subst (λ (m : Machine). AllEndWith m.state) (sym next)
          (moved_ends w (machine_at w lines n) line.cpu (kept_at w lines world steps n) (currents_at w lines steps n) (callers_at w lines steps n) h after callees)

  pub ended_at : (moment : ℕ) (q : ℕ) → EndsWith (state_at w lines moment) q
  ended_at moment q = ends_at moment q

-- a process of a machine has ended exactly where it has no frame
pub sound_ended : (w : WorldValue) (m : Machine) → IsSound w m → (q : ℕ) → has_ended (run_at m.state.processes q) ≡ has_no_frame (context_of m (proc_at q))
sound_ended w m sound q =
    by (has_ended (run_at m.state.processes q)) refl (context_of m (proc_at q)) (sym (ap (λ (x : Context). length x) refl))
  where
    whole : machine_at w sound.lines (length sound.lines) ≡ m
    whole = ap (λ (l : List Line). after_lines w (opened w) l) (take_all (length sound.lines) sound.lines (omega arith)) ∙ sym sound.is

    frames : length (context_of m (proc_at q)) ≡ depth m.state (proc_at q)
    frames = subst (λ (x : Machine). length (context_of x (proc_at q)) ≡ depth x.state (proc_at q)) whole
        (frames_are w sound.lines sound.world sound.steps (length sound.lines) (proc_at q))

    ends : EndsWith m.state q
    ends = subst (λ (x : Machine). EndsWith x.state q) whole (ended_at w sound.lines sound.world sound.steps (length sound.lines) q)

    by : (b : Bool) → has_ended (run_at m.state.processes q) ≡ b → (x : Context) → length x ≡ length (context_of m (proc_at q))
        → has_ended (run_at m.state.processes q) ≡ has_no_frame x
    by true e [] l = e
    by true e (f ∷ x) l = let none = ends.0 e in let count = frames in absurd (omega (arith, none, count, l))
    by false e [] l = let some = ends.1 e in let count = frames in absurd (omega (arith, some, count, l))
    by false e (f ∷ x) l = e
