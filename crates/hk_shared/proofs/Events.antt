-- What one line more makes of a history: its state, the context of its process, and the contexts of those that rest.
use Rattle.std.specs.Prelude.{◌≡◌, ◌⊎◌, ℕ, zero, suc, ◌<◌, List, [], ◌∷◌, ◌++◌, length, true, false, Option, Some, None, nat_lt, option_map, slice_get, slice_set, refl}
use Rattle.std.specs.Option.{unwrap_or}
use Rattle.std.proofs.Common.{arith, ap, sym, ◌∙◌, subst}
use Rattle.std.proofs.lemmas.Bool.Decides.{nat_tests}
use mathlib.Core.Logic.{inl, inr}
use Rattle.hk_model.specs.declared.names.Proc.{Proc}
use Rattle.hk_model.specs.declared.names.Inc.{Inc}
use Rattle.hk_model.specs.declared.names.Cpu.{Cpu}
use Rattle.hk_model.specs.declared.calls.Reply.{Reply}
use Rattle.hk_model.specs.declared.calls.Reply.TheVariants.{Done}
use Rattle.hk_model.specs.declared.lines.What.{What}
use Rattle.hk_model.specs.declared.lines.What.TheVariants as what
use Rattle.hk_model.specs.declared.lines.Line.{Line}
use Rattle.hk_model.specs.declared.objects.Process.{Process}
use Rattle.hk_model.specs.declared.objects.ProcessState.TheVariants.{Ready}
use Rattle.hk_model.specs.declared.frames.Todo.{Todo}
use Rattle.hk_model.specs.declared.frames.Todo.TheVariants as todo
use Rattle.hk_model.specs.Limits.{cpu_limit}
use Rattle.hk_model.specs.WorldValue.{WorldValue, IsWorld}
use Rattle.hk_model.specs.State.{State, process}
use Rattle.hk_model.specs.Control.{Context, next}
use Rattle.hk_model.specs.Processors.{is_on, is_running, process_on, runner, running_on, may_step, dispatched, dispatched_from}
use Rattle.hk_model.specs.Running.{Machine, context_of, event, event_of, turn, dispatch_event, step, AreStepsOf, state_after}
use Rattle.hk_model.proofs.Steps.{given_to, current_stays}
use Rattle.hk_program.proofs.Queues.{run_at, runs_on}
use Rattle.hk_program.proofs.Kept.{Kept}
use Rattle.hk_program.proofs.StepCases.{step_is}
use Rattle.hk_program.proofs.Machines.{IsLonger, steps_snoc, sound_after, sound_kept}
use Rattle.hk_shared.specs.Contexts.{machine_after, is_resting, KeepsContexts}
use Rattle.hk_shared.proofs.Moves.{Moves, call_moves, halt_moves}
use Rattle.hk_shared.proofs.Placed.{goes_on, gives_up, rests_back, dispatch_rests, dispatch_runs}
use Rattle.hk_shared.proofs.PlacedAlways.{IsPlaced, placed_after, first_ready}

-- ---- lists with a place for each process

abbrev proc_at : ℕ → Proc
proc_at n = record { 0 = n }

pub same_or : (a b : ℕ) → (a ≡ b) ⊎ (a ≡ b → ⊥)
same_or zero zero = inl refl
same_or zero (suc b) = inr (λ e. omega arith)
same_or (suc a) zero = inr (λ e. omega arith)
same_or (suc a) (suc b) = by (same_or a b)
  where
    by : ((a ≡ b) ⊎ (a ≡ b → ⊥)) → (suc a ≡ suc b) ⊎ (suc a ≡ suc b → ⊥)
    by (inl e) = inl (ap suc e)
    by (inr h) = inr (λ e. h (omega arith))

pub get_here : {A : Type 0} (xs : List A) (p : ℕ) (new : A) → p < length xs → slice_get (slice_set xs p new) p ≡ Some new
get_here [] p new h = absurd (omega arith)
get_here (x ∷ xs) zero new h = refl
get_here (x ∷ xs) (suc p) new h = get_here xs p new (omega (arith, h))

pub get_there : {A : Type 0} (xs : List A) (p q : ℕ) (new : A) → (q ≡ p → ⊥) → slice_get (slice_set xs p new) q ≡ slice_get xs q
get_there [] p q new h = refl
get_there (x ∷ xs) zero zero new h = absurd (h refl)
get_there (x ∷ xs) zero (suc q) new h = refl
get_there (x ∷ xs) (suc p) zero new h = refl
get_there (x ∷ xs) (suc p) (suc q) new h = get_there xs p q new (λ e. h (ap suc e))

pub set_length : {A : Type 0} (xs : List A) (p : ℕ) (new : A) → length (slice_set xs p new) ≡ length xs
set_length [] p new = refl
set_length (x ∷ xs) zero new = refl
set_length (x ∷ xs) (suc p) new = ap suc (set_length xs p new)

-- who runs is there
on_there : (ps : List Process) (cpu : Cpu) (n : ℕ) → is_on cpu (run_at ps n) ≡ true → n < length ps
on_there [] cpu n h = absurd (cc)
on_there (p ∷ ps) cpu zero h = omega arith
on_there (p ∷ ps) cpu (suc n) h = let g = on_there ps cpu n h in omega (arith, g)

-- ---- the line of a call or a halt

-- the line of a process, the state and the context that it leaves
pub record Makes (w : WorldValue) (lines : List Line) (held : List (Option Context)) (cpu : Cpu) (proc : Proc) (line : Line) (t : State) (frames : Context) : Type 0 where
  pub steps : AreStepsOf w (lines ++ line ∷ [])
  pub state : t ≡ state_after w (lines ++ line ∷ [])
  pub context : frames ≡ context_of (machine_after w (lines ++ line ∷ [])) proc
  pub goes : is_running (process t proc).run ≡ true → runner t cpu ≡ Some proc
  pub gone : is_running (process t proc).run ≡ false → runner t cpu ≡ None
  pub count : length held ≡ length (machine_after w (lines ++ line ∷ [])).contexts
  pub there : proc.0 < length held
  pub others : (n : ℕ) → (n ≡ proc.0 → ⊥) → is_resting (process t (record { 0 = n })).run ≡ true
      → slice_get held n ≡ Some (Some (context_of (machine_after w (lines ++ line ∷ [])) (record { 0 = n })))

module _ (w : WorldValue) (lines : List Line) (held : List (Option Context)) (world : IsWorld w) (steps : AreStepsOf w lines) (keeps : KeepsContexts (machine_after w lines) held)
    (cpu : Cpu) (low : cpu.0 < 16) (may : may_step (state_after w lines) ≡ true) where
  abbrev pub m : Machine
  m = machine_after w lines

  kept : Kept w m
  kept = sound_kept w m (sound_after w lines steps world)

  low_is : nat_lt cpu.0 cpu_limit ≡ true
  low_is = grind (arith, nat_tests, low)

  makes : (proc : Proc) (line : Line) (t : State) (frames : Context) → runner m.state cpu ≡ Some proc → Moves m.state proc t
      → step w m cpu ≡ Some (line, record { state = t; contexts = slice_set m.contexts proc.0 frames }) → Makes w lines held cpu proc line t frames
  makes proc line t frames r moves e = record {
    steps = longer.steps;
    state = ap (λ (k : Machine). k.state) longer.is;
    context = sym (ap (λ (o : Option Context). unwrap_or o []) (get_here m.contexts proc.0 frames in_contexts)) ∙ ap (λ (k : Machine). context_of k proc) longer.is;
    goes = goes_on cpu m.state proc t moves placed.apart r;
    gone = gives_up cpu m.state proc t moves placed.apart r;
    count = keeps.count ∙ (sym (set_length m.contexts proc.0 frames) ∙ ap (λ (k : Machine). length k.contexts) longer.is);
    there = rw keeps.count in_contexts;
    others = λ n apart g.
        keeps.each n (rests_back m.state proc t n moves apart g)
        ∙ ap (λ (c : Context). Some (Some c)) (sym (ap (λ (o : Option Context). unwrap_or o []) (get_there m.contexts proc.0 n frames apart)) ∙ ap
        (λ (k : Machine). context_of k (proc_at n)) longer.is);
  }
    where
      new : Machine
      new = record { state = t; contexts = slice_set m.contexts proc.0 frames }

      longer : IsLonger w lines line new
      longer = steps_snoc w lines m cpu line new steps refl e

      placed : IsPlaced m.state
      placed = placed_after w lines world

      in_contexts : proc.0 < length m.contexts
      in_contexts = rw kept.count (on_there m.state.processes cpu proc.0 (runs_on m.state.processes cpu proc r))

  runs : (proc : Proc) (inc : Inc) → running_on m.state cpu ≡ Some (proc, inc) → (runner m.state cpu ≡ Some proc) × (inc ≡ (process m.state proc).current)
  runs proc inc = by (runner m.state cpu)
    where
      by : (found : Option Proc) → option_map {U = Proc × Inc} (λ (p : Proc). (p, (process m.state p).current)) found ≡ Some (proc, inc)
          → (found ≡ Some proc) × (inc ≡ (process m.state proc).current)
      by None h = absurd (cc)
      by (Some p) h =
          let pair : ◌≡◌ {A = Proc × Inc} (p, (process m.state p).current) (proc, inc) = cc in
          let same : p ≡ proc = ap (λ (f : Proc × Inc). f.0) pair in
          (ap Some same, sym (ap (λ (f : Proc × Inc). f.1) pair) ∙ ap (λ (q : Proc). (process m.state q).current) same)

  event_is : (proc : Proc) (todo : Todo) (frames : Context) → runner m.state cpu ≡ Some proc → (todo, frames) ≡ next w (context_of m proc)
      → step w m cpu ≡ Some (event w m cpu proc (todo, frames))
  event_is proc todo frames r e = step_is w m cpu may low_is ∙ (ap (event_of w m cpu) r ∙ ap (λ (f : Todo × Context). Some (event w m cpu proc f)) (sym e))

  -- what becomes of a process
  moves_on : (proc : Proc) (next : Todo) (frames : Context) → Moves m.state proc (turn w m.state proc (next, frames)).2
  moves_on proc (todo.Do c) frames = call_moves w m.state kept.regular proc c
  moves_on proc todo.Halt frames = halt_moves m.state proc

  -- what is next is carried out
  pub turn_makes : (proc : Proc) (inc : Inc) (next_is : Todo) (frames : Context) (happened : What) (reply : Reply) (t : State) (new : Context)
      → running_on m.state cpu ≡ Some (proc, inc) → (next_is, frames) ≡ next w (context_of m proc)
      → turn w m.state (process_on m.state cpu) (next_is, frames) ≡ (happened, reply, t, new)
      → Makes w lines held cpu proc (record { cpu = cpu; proc = proc; inc = inc; what = happened; reply = reply }) t new
  turn_makes proc inc next_is frames happened reply t new on nx made =
      makes proc (record { cpu = cpu; proc = proc; inc = inc; what = happened; reply = reply }) t new r.0
      (subst (λ (x : What × Reply × State × Context). Moves m.state proc x.2) made_is (moves_on proc next_is frames))
      (event_is proc next_is frames r.0 nx ∙ ap Some whole)
    where
      r : (runner m.state cpu ≡ Some proc) × (inc ≡ (process m.state proc).current)
      r = runs proc inc on

      made_is : turn w m.state proc (next_is, frames) ≡ (happened, reply, t, new)
      made_is = sym (ap (λ (o : Option Proc). turn w m.state (unwrap_or o (record { 0 = 0 })) (next_is, frames)) r.0) ∙ made

      -- the line and the machine of what a turn came to
      of_turn : Inc → What × Reply × State × Context → Line × Machine
      of_turn i x = (record { cpu = cpu; proc = proc; inc = i; what = x.0; reply = x.1 }, record { state = x.2; contexts = slice_set m.contexts proc.0 x.3 })

      whole : event w m cpu proc (next_is, frames) ≡ of_turn inc (happened, reply, t, new)
      whole = ap (of_turn (process m.state proc).current) made_is ∙ ap (λ (i : Inc). of_turn i (happened, reply, t, new)) (sym r.1)

-- ---- the line of a dispatch

-- who was first in the ready list, and the state in which that process has the processor
pub dispatched_is : (s : State) (cpu : Cpu) (proc : Proc) (t : State) → dispatched s cpu ≡ Some (proc, t)
    → (rest : List Proc) × (s.ready ≡ proc ∷ rest) × (t ≡ given_to s cpu proc rest)
dispatched_is s cpu proc t = by s.ready refl
  where
    by : (ready : List Proc) → s.ready ≡ ready → dispatched_from s cpu ready ≡ Some (proc, t) → (rest : List Proc) × (s.ready ≡ proc ∷ rest) × (t ≡ given_to s cpu proc rest)
    by [] e h = absurd (cc)
    by (first ∷ rest) e h =
        let pair : ◌≡◌ {A = Proc × State} (first, given_to s cpu first rest) (proc, t) = cc in
        let same : first ≡ proc = ap (λ (f : Proc × State). f.0) pair in
        (rest, e ∙ ap (λ (p : Proc). p ∷ rest) same, sym (ap (λ (f : Proc × State). f.1) pair) ∙ ap (λ (p : Proc). given_to s cpu p rest) same)

-- the line of a dispatch, and the state that it leaves
pub record Gets (w : WorldValue) (lines : List Line) (held : List (Option Context)) (cpu : Cpu) (proc : Proc) (line : Line) (t : State) : Type 0 where
  pub steps : AreStepsOf w (lines ++ line ∷ [])
  pub state : t ≡ state_after w (lines ++ line ∷ [])
  pub runs : runner t cpu ≡ Some proc
  pub count : length held ≡ length (machine_after w (lines ++ line ∷ [])).contexts
  pub context : slice_get held proc.0 ≡ Some (Some (context_of (machine_after w (lines ++ line ∷ [])) proc))
  pub others : (n : ℕ) → is_resting (process t (record { 0 = n })).run ≡ true
      → (n ≡ proc.0 → ⊥) × (slice_get held n ≡ Some (Some (context_of (machine_after w (lines ++ line ∷ [])) (record { 0 = n }))))

module _ (w : WorldValue) (lines : List Line) (held : List (Option Context)) (world : IsWorld w) (steps : AreStepsOf w lines) (keeps : KeepsContexts (machine_after w lines) held)
    (cpu : Cpu) (low : cpu.0 < 16) (may : may_step (state_after w lines) ≡ true) (idle : runner (state_after w lines) cpu ≡ None) where
  dispatch_is : (proc : Proc) (t : State) → dispatched (state_after w lines) cpu ≡ Some (proc, t)
      → step w (machine_after w lines) cpu ≡ Some (
        record { cpu = cpu; proc = proc; inc = (process (state_after w lines) proc).current; what = what.Dispatch; reply = Done },
        record
            (machine_after w lines) { state = t },
      )
  dispatch_is proc t e =
      let low_is : nat_lt cpu.0 cpu_limit ≡ true = grind (arith, nat_tests, low) in
      step_is w (machine_after w lines) cpu may low_is ∙ (ap (event_of w (machine_after w lines) cpu) idle ∙ ap (dispatch_event (machine_after w lines) cpu) e)

  pub dispatch_gets : (proc : Proc) (t : State) (inc : Inc) → dispatched (state_after w lines) cpu ≡ Some (proc, t) → inc ≡ (process t proc).current
      → Gets w lines held cpu proc (record { cpu = cpu; proc = proc; inc = inc; what = what.Dispatch; reply = Done }) t
  dispatch_gets proc t inc e inc_is = record {
    steps = longer.steps;
    state = ap (λ (k : Machine). k.state) longer.is;
    runs = subst (λ (k : State). runner k cpu ≡ Some proc) (sym found.2) (dispatch_runs (state_after w lines) cpu proc found.0 ready idle (placed_after w lines world).apart);
    count = keeps.count ∙ ap (λ (k : Machine). length k.contexts) longer.is;
    context = keeps.each proc.0 (ap is_resting ready) ∙ ap (λ (k : Machine). Some (Some (context_of k proc))) longer.is;
    others = λ n g.
        let back = dispatch_rests (state_after w lines) cpu proc found.0 n ready (subst (λ (k : State). is_resting (process k (proc_at n)).run ≡ true) found.2 g) in
        (back.0, keeps.each n back.1 ∙ ap (λ (k : Machine). Some (Some (context_of k (proc_at n)))) longer.is);
  }
    where
      line : Line
      line = record { cpu = cpu; proc = proc; inc = inc; what = what.Dispatch; reply = Done }

      found : (rest : List Proc) × ((state_after w lines).ready ≡ proc ∷ rest) × (t ≡ given_to (state_after w lines) cpu proc rest)
      found = dispatched_is (state_after w lines) cpu proc t e

      -- the dispatch leaves the current incarnation
      stays : (process t proc).current ≡ (process (state_after w lines) proc).current
      stays = ap (λ (k : State). (process k proc).current) found.2 ∙ current_stays (state_after w lines) cpu proc found.0

      longer : IsLonger w lines line (record (machine_after w lines) { state = t })
      longer = steps_snoc w lines (machine_after w lines) cpu line (record (machine_after w lines) { state = t }) steps refl (rw (inc_is ∙ stays) (dispatch_is proc t e))

      ready : run_at (state_after w lines).processes proc.0 ≡ Ready
      ready = first_ready w (state_after w lines) proc found.0 (sound_kept w (machine_after w lines) (sound_after w lines steps world)).regular found.1
