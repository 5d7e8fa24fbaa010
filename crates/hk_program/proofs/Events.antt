-- The event of a process as a step: what its call is given, and what it leaves.
use Rattle.std.specs.Prelude.{◌≡◌, ℕ, zero, suc, ◌+◌, ◌<◌, ◌==◌, List, [], ◌∷◌, length, Bool, true, false, Option, Some, None, IfSome, not, nat_lt, slice_set, get_or}
use Rattle.std.specs.Prelude.{option_map, map, refl}
use Rattle.std.proofs.Common.{arith, ap, sym, ◌∙◌, subst, cond}
use Rattle.std.proofs.lemmas.Bool.{true≢false}
use Rattle.std.proofs.lemmas.Bool.Decides.{nat_tests}
use Rattle.std.proofs.lemmas.Option.{slice_get_read}
use Rattle.hk_model.specs.declared.names.Inc.{Inc}
use Rattle.hk_model.specs.declared.names.Proc.{Proc}
use Rattle.hk_model.specs.declared.names.Cpu.{Cpu}
use Rattle.hk_model.specs.declared.calls.Call.{Call}
use Rattle.hk_model.specs.declared.calls.Reply.{Reply}
use Rattle.hk_model.specs.declared.lines.What.{What}
use Rattle.hk_model.specs.declared.lines.What.TheVariants as what
use Rattle.hk_model.specs.declared.calls.Reply.TheVariants.{Done}
use Rattle.hk_model.specs.declared.lines.Line.{Line}
use Rattle.hk_model.specs.declared.objects.Process.{Process}
use Rattle.hk_model.specs.declared.objects.ProcessState.TheVariants.{Ready, Running}
use Rattle.hk_model.specs.declared.frames.Todo.{Todo}
use Rattle.hk_model.specs.Limits.{cpu_limit}
use Rattle.hk_model.specs.declared.world.Task.{Task}
use Rattle.hk_model.specs.WorldValue.{WorldValue}
use Rattle.hk_model.specs.Opening.{opening}
use Rattle.hk_model.specs.State.{State, process}
use Rattle.hk_model.specs.Processors.{is_on, is_ready, runner, runner_from, running_on, may_step, dispatched, dispatched_from, process_on, acted_on, entered_on}
use Rattle.hk_model.specs.Control.{Context, new_frame, next}
use Rattle.hk_model.specs.Running.{Machine, opened, context_of, event, dispatch_event, step, turn}
use Rattle.hk_model.proofs.Steps.{given_to, current_stays}
use Rattle.hk_program.specs.Contexts.{AreFrames}
use Rattle.hk_program.specs.Machines.{IsSound}
use Rattle.hk_program.proofs.Queues.{run_at, runs_on, IsQueue}
use Rattle.hk_program.proofs.Machines.{sound_kept, sound_frames, sound_code, sound_room, step_sound}
use Rattle.hk_program.proofs.StepCases.{step_is}

-- ---- what a processor runs

pub runner_is : (s : State) (cpu : Cpu) (proc : Proc) (inc : Inc) → running_on s cpu ≡ Some (proc, inc) → runner s cpu ≡ Some proc
runner_is s cpu proc inc h = by (runner s cpu) h
  where
    by : (o : Option Proc) → ◌≡◌ {A = Option (Proc × Inc)} (option_map (λ (p : Proc). (p, (process s p).current)) o) (Some (proc, inc)) → o ≡ Some proc
    by None e = absurd (cc)
    by (Some p) e = let same : ◌≡◌ {A = Proc × Inc} (p, (process s p).current) (proc, inc) = cc in ap (λ (x : Proc × Inc). Some x.0) same

pub inc_is : (s : State) (cpu : Cpu) (proc : Proc) (inc : Inc) → running_on s cpu ≡ Some (proc, inc) → inc ≡ (process s proc).current
inc_is s cpu proc inc h = by (runner s cpu) h
  where
    by : (o : Option Proc) → ◌≡◌ {A = Option (Proc × Inc)} (option_map (λ (p : Proc). (p, (process s p).current)) o) (Some (proc, inc)) → inc ≡ (process s proc).current
    by None e = absurd (cc)
    by (Some p) e =
        let same : ◌≡◌ {A = Proc × Inc} (p, (process s p).current) (proc, inc) = cc in
        sym (ap (λ (x : Proc × Inc). x.1) same) ∙ ap (λ (x : Proc × Inc). (process s x.0).current) same

pub runner_none : (s : State) (cpu : Cpu) → running_on s cpu ≡ None → runner s cpu ≡ None
runner_none s cpu h = by (runner s cpu) h
  where
    by : (o : Option Proc) → ◌≡◌ {A = Option (Proc × Inc)} (option_map (λ (p : Proc). (p, (process s p).current)) o) None → o ≡ None
    by None e = refl
    by (Some p) e = absurd (cc)

run_within : (ps : List Process) (cpu : Cpu) (n : ℕ) → is_on cpu (run_at ps n) ≡ true → n < length ps
run_within [] cpu n h = absurd (true≢false (sym h))
run_within (p ∷ ps) cpu zero h = omega arith
run_within (p ∷ ps) cpu (suc n) h = let a = run_within ps cpu n h in omega (arith, a)

-- ---- what the call is given

module _ (w : WorldValue) (m : Machine) (cpu : Cpu) (proc : Proc) (inc : Inc) (sound : IsSound w m) (runs : running_on m.state cpu ≡ Some (proc, inc)) where
  here : runner m.state cpu ≡ Some proc
  here = runner_is m.state cpu proc inc runs

  -- the process has a context
  pub context_within : proc.0 < length m.contexts
  context_within =
      let a = run_within m.state.processes cpu proc.0 (runs_on m.state.processes cpu proc here) in
      let b = (sound_kept w m sound).count in omega (arith, a, b)

  -- which is read there
  pub context_read : (frames : Context) → frames ≡ get_or m.contexts proc.0 frames → context_of m proc ≡ frames
  context_read frames h = rw (slice_get_read m.contexts (length m.contexts) proc.0 frames refl context_within h) refl

  pub read_frames : (frames : Context) → frames ≡ get_or m.contexts proc.0 frames → AreFrames w frames
  read_frames frames h = rw (← context_read frames h) (sound_frames w m proc sound)

  pub read_code : (c : Call) (reply : Reply) → IfSome (entered_on m.state cpu c reply) (λ code. code < length w.codes)
  read_code c reply = rw here (sound_code w m proc c reply sound)

  pub read_room : (frames : Context) → frames ≡ get_or m.contexts proc.0 frames → (c : Call)
      → IfSome (entered_on m.state cpu c (acted_on m.state cpu c).0) (λ code. length frames < 64)
  read_room frames h c = rw (here, ← context_read frames h) (sound_room w m proc c sound)

  -- the line and the machine of a turn
  abbrev pub of_turn : What × Reply × State × Context → Line × Machine
  of_turn made = (record { cpu = cpu; proc = proc; inc = inc; what = made.0; reply = made.1 }, record { state = made.2; contexts = slice_set m.contexts proc.0 made.3 })

  event_is : (todo : Todo × Context) → event w m cpu proc todo ≡ of_turn (turn w m.state (process_on m.state cpu) todo)
  event_is todo = rw (here, inc_is m.state cpu proc inc runs) refl

  -- what is made of a turn is the event
  event_turn : (frames : Context) (made : What × Reply × State × Context) → frames ≡ get_or m.contexts proc.0 frames
      → turn w m.state (process_on m.state cpu) (next w frames) ≡ made
      → of_turn made ≡ event w m cpu proc (next w (context_of m proc))
  event_turn frames made h e =
      sym (ap of_turn e) ∙
      (ap (λ (f : Context). of_turn (turn w m.state (process_on m.state cpu) (next w f))) (sym (context_read frames h)) ∙ sym (event_is (next w (context_of m proc))))

  -- and the step of the processor
  pub turn_steps : (frames : Context) (made : What × Reply × State × Context) → frames ≡ get_or m.contexts proc.0 frames → cpu.0 < 16 → may_step m.state ≡ true
      → turn w m.state (process_on m.state cpu) (next w frames) ≡ made
      → step w m cpu ≡ Some (of_turn made)
  turn_steps frames made h low may e = step_is w m cpu may (is_low cpu.0 low) ∙ (rw here (ap Some (sym (event_turn frames made h e))))
    where
      is_low : (n : ℕ) → n < 16 → nat_lt n cpu_limit ≡ true
      is_low n h = grind (arith, nat_tests, h)

-- ---- a dispatch

pub second_is : (p q : Proc) (i j : Inc) → ◌≡◌ {A = Option (Proc × Inc)} (Some (p, i)) (Some (q, j)) → i ≡ j
second_is p q i j h = let same : ◌≡◌ {A = Proc × Inc} (p, i) (q, j) = cc in ap (λ (x : Proc × Inc). x.1) same

gets_it : (ps : List Process) (cpu : Cpu) (k n : ℕ) (new : Process) → runner_from ps cpu k ≡ None → n < length ps → is_on cpu new.run ≡ true
    → runner_from (slice_set ps n new) cpu k ≡ Some (record { 0 = k + n })
gets_it [] cpu k n new idle h on = absurd (omega arith)
gets_it (p ∷ ps) cpu k zero new idle h on = rw on (ap (λ (x : ℕ). let proc : Proc = record { 0 = x } in Some proc) (omega arith))
gets_it (p ∷ ps) cpu k (suc n) new idle h on = by (is_on cpu p.run) refl idle (λ rest. gets_it ps cpu (k + 1) n new rest (omega arith) on)
  where
    by : (b : Bool) → is_on cpu p.run ≡ b → cond b (Some (record { 0 = k })) (runner_from ps cpu (k + 1)) ≡ None
        → (runner_from ps cpu (k + 1) ≡ None → runner_from (slice_set ps n new) cpu (k + 1) ≡ Some (record { 0 = k + 1 + n }))
        → cond b (Some (record { 0 = k })) (runner_from (slice_set ps n new) cpu (k + 1)) ≡ Some (record { 0 = k + suc n })
    by true e g rest = absurd (cc)
    by false e g rest = rest g ∙ ap (λ (x : ℕ). let proc : Proc = record { 0 = x } in Some proc) (omega arith)

ready_within : (ps : List Process) (n : ℕ) → run_at ps n ≡ Ready → n < length ps
ready_within [] n h = absurd (true≢false (sym (ap is_ready h)))
ready_within (p ∷ ps) zero h = omega arith
ready_within (p ∷ ps) (suc n) h = let a = ready_within ps n h in omega (arith, a)

-- the process that is dispatched runs on the processor
pub dispatched_runs : (w : WorldValue) (m : Machine) (cpu : Cpu) (proc : Proc) (t : State) → IsSound w m → running_on m.state cpu ≡ None → dispatched m.state cpu ≡ Some (proc, t)
    → running_on t cpu ≡ Some (proc, (process t proc).current)
dispatched_runs w m cpu proc t sound off h = rw (runs m.state.ready refl h) refl
  where
    self : (n : ℕ) → (n == n) ≡ true
    self n = grind (arith, nat_tests)

    idle : runner m.state cpu ≡ None
    idle = runner_none m.state cpu off

    runs : (ready : List Proc) → m.state.ready ≡ ready → dispatched_from m.state cpu ready ≡ Some (proc, t) → runner t cpu ≡ Some proc
    runs [] e g = absurd (cc)
    runs (first ∷ rest) e g =
        let made = given_to m.state cpu first rest in
        let same : ◌≡◌ {A = Proc × State} (first, made) (proc, t) = cc in
        let queue = subst (λ qs. IsQueue m.state.processes Ready qs) e (sound_kept w m sound).regular.ready in
        let got : runner made cpu ≡ Some (record { 0 = 0 + first.0 }) =
        gets_it m.state.processes cpu 0 first.0 (record (process m.state first) { run = Running cpu }) idle (ready_within m.state.processes first.0 queue.0.0) (self cpu.0) in
        subst (λ (x : Proc × State). runner x.1 cpu ≡ Some x.0) same (got ∙ ap (λ (x : ℕ). let p : Proc = record { 0 = x } in Some p) (omega arith))

-- where a processor runs nothing its step is a dispatch
idle_steps : (w : WorldValue) (m : Machine) (cpu : Cpu) → cpu.0 < 16 → may_step m.state ≡ true → running_on m.state cpu ≡ None
    → step w m cpu ≡ dispatch_event m cpu (dispatched m.state cpu)
idle_steps w m cpu low may idle = step_is w m cpu may (is_low cpu.0 low) ∙ (rw (runner_none m.state cpu idle) refl)
  where
    is_low : (n : ℕ) → n < 16 → nat_lt n cpu_limit ≡ true
    is_low n h = grind (arith, nat_tests, h)

-- the process that is dispatched has the current incarnation that it had
pub current_before : (s : State) (cpu : Cpu) (proc : Proc) (t : State) → dispatched s cpu ≡ Some (proc, t) → (process t proc).current ≡ (process s proc).current
current_before s cpu proc t h = by s.ready h
  where
    by : (ready : List Proc) → dispatched_from s cpu ready ≡ Some (proc, t) → (process t proc).current ≡ (process s proc).current
    by [] e = absurd (cc)
    by (first ∷ rest) e =
        let same : ◌≡◌ {A = Proc × State} (first, given_to s cpu first rest) (proc, t) = cc in
        subst (λ (x : Proc × State). (process x.1 x.0).current ≡ (process s x.0).current) same (current_stays s cpu first rest)

pub dispatch_steps : (w : WorldValue) (m : Machine) (cpu : Cpu) (proc : Proc) (inc : Inc) (t : State) → cpu.0 < 16 → may_step m.state ≡ true → running_on m.state cpu ≡ None
    → dispatched m.state cpu ≡ Some (proc, t) → inc ≡ (process t proc).current
    → step w m cpu ≡ Some (record { cpu = cpu; proc = proc; inc = inc; what = what.Dispatch; reply = Done }, record m { state = t })
dispatch_steps w m cpu proc inc t low may idle h e = idle_steps w m cpu low may idle ∙ (let same = current_before m.state cpu proc t h in rw (h, e, same) refl)

pub nothing_steps : (w : WorldValue) (m : Machine) (cpu : Cpu) → cpu.0 < 16 → may_step m.state ≡ true → running_on m.state cpu ≡ None → dispatched m.state cpu ≡ None
    → step w m cpu ≡ None
nothing_steps w m cpu low may idle h = idle_steps w m cpu low may idle ∙ (rw h refl)

-- ---- the opening

-- the machine of a kernel that has opened the world and of the contexts of its processes
pub opening_is : (w : WorldValue) (s : State) (contexts : List Context) → s ≡ opening w → contexts ≡ map (λ (t : Task). new_frame t.code ∷ []) w.tasks
    → record { state = s; contexts = contexts } ≡ opened w
unfolding opened
opening_is w s contexts h g = rw (h, g) refl

-- ---- what a step returns

pub not_reached : (reached may : Bool) → reached ≡ not may → reached ≡ true → may ≡ false
not_reached reached true h g = absurd (true≢false (sym g ∙ h))
not_reached reached false h g = refl

pub dispatch_sound : (w : WorldValue) (m new : Machine) (cpu : Cpu) (line : Line) (made : Bool) → IsSound w m → (made ≡ true → step w m cpu ≡ Some (line, new))
    → (made ≡ false → (step w m cpu ≡ None) × (new ≡ m)) → IsSound w new
dispatch_sound w m new cpu line true h g k = step_sound w m cpu line new h (g refl)
dispatch_sound w m new cpu line false h g k = subst (IsSound w) (sym (k refl).1) h
