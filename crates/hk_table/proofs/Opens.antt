-- The queues as a world opens, and the parts of a table joined.
use Rattle.std.proofs.Common.{◌≡◌, ℕ, zero, suc, ◌+◌, ◌-◌, ◌<◌, ◌≤◌, ◌==◌, ◌||◌, Bool, true, false, List, [], ◌∷◌, ◌++◌, length, get_or, take, map, replicate, Option, Some}
use Rattle.std.proofs.Common.{refl, sym, ap, ◌∙◌, subst, arith}
use Rattle.std.specs.Prelude.{slice_get, slice_index_or}
use Rattle.std.specs.List.{list_any}
use Rattle.std.proofs.lemmas.List.{length-replicate, length-take-le, take_more}
use Rattle.std.proofs.lemmas.Bool.Decides.{nat_tests}
use Rattle.hk_model.specs.declared.names.Name.{Name}
use Rattle.hk_model.specs.declared.names.Proc.{Proc}
use Rattle.hk_model.specs.declared.entries.Entry.{Entry}
use Rattle.hk_model.specs.declared.objects.Process.{Process}
use Rattle.hk_model.specs.declared.objects.ProcessState.TheVariants.{Ready}
use Rattle.hk_model.specs.declared.world.Task.{Task}
use Rattle.hk_model.specs.declared.world.Born.{Born}
use Rattle.hk_model.specs.WorldValue.{WorldValue}
use Rattle.hk_model.specs.State.{State, no_object}
use Rattle.hk_model.specs.Processors.{is_running}
use Rattle.hk_model.specs.Opening.{all_ready, proc_numbers, bases, opening, object_of}
use Rattle.hk_objects.specs.declared.body.Body.{Body}
use Rattle.hk_objects.specs.Shelf.{Shelf}
use Rattle.hk_objects.specs.Slots.{standing}
use Rattle.hk_table.specs.Born.{named}
use Rattle.hk_running.specs.Runners.{process_at}
use Rattle.hk_queues.specs.Queued.{Queued, IsIdle, waiters, is_queued}
use Rattle.hk_walk.specs.Remembered.{Remembered}
use Rattle.hk_walk.specs.Walks.{shown_at, seen, AreRight}
use Rattle.hk_walk.proofs.Kept.{right_none}
use Rattle.hk_spaces.specs.declared.stack.StackFrame.{StackFrame}
use Rattle.hk_table.specs.Whole.{whole}
use Rattle.hk_table.specs.Stacked.{Stacked, live_from, base_frame, base_stacks}
use Rattle.hk_table.specs.Joined.{AreOnce, AreQueued, IsCurrentOf, IsCurrent, IsJoined}
use Rattle.hk_table.proofs.Bases.{live_bases}
use Rattle.hk_table.proofs.Whole.{whole_unwaited}

-- who is in the list of the first processes
low_number : (n k : ℕ) (tasks : List Task) (proc : Proc) → k ≡ n + length tasks → k ≤ proc.0 → is_queued proc (proc_numbers n tasks) ≡ false
low_number n k [] proc e high = refl
low_number n k (t ∷ ts) proc e high =
    let other : (proc.0 == n) ≡ false = grind (arith, nat_tests) in
    rw other (low_number (n + 1) k ts proc (omega arith) high)

late_number : (n k : ℕ) (tasks : List Task) (proc : Proc) → proc.0 ≡ k → k < n → is_queued proc (proc_numbers n tasks) ≡ false
late_number n k [] proc e low = refl
late_number n k (t ∷ ts) proc e low =
    let other : (proc.0 == n) ≡ false = grind (arith, nat_tests) in
    rw other (late_number (n + 1) k ts proc e (omega arith))

numbers_once : (n : ℕ) (tasks : List Task) → AreOnce (proc_numbers n tasks)
numbers_once n [] = tt
numbers_once n (t ∷ ts) = (late_number (n + 1) n ts (record { 0 = n }) refl (omega arith), numbers_once (n + 1) ts)

number_within : (n : ℕ) (tasks : List Task) (proc : Proc) → is_queued proc (proc_numbers n tasks) ≡ true → (n ≤ proc.0) × (proc.0 < n + length tasks)
number_within n [] proc h = absurd (cc)
number_within n (t ∷ ts) proc h = by (proc.0 == n) refl h (number_within (n + 1) ts proc) where
  by : (b : Bool) → (proc.0 == n) ≡ b → (b || is_queued proc (proc_numbers (n + 1) ts)) ≡ true
      → (is_queued proc (proc_numbers (n + 1) ts) ≡ true → (n + 1 ≤ proc.0) × (proc.0 < n + 1 + length ts))
      → (n ≤ proc.0) × (proc.0 < n + length (t ∷ ts))
  by true e q rest = let same : proc.0 ≡ n = grind (arith, nat_tests) in (omega arith, omega arith)
  by false e q rest = let w = rest q in (omega (arith, w.0), omega (arith, w.1))

none_waits : (m s : ℕ) → slice_index_or (replicate m []) s [] ≡ let none : List Proc = [] in none
none_waits zero s = refl
none_waits (suc m) zero = refl
none_waits (suc m) (suc s) = none_waits m s

-- the next process is in no list
pub next_idle : (q : Queued) (tasks : List Task) (i m : ℕ) → q.ready ≡ proc_numbers 0 (take i tasks) → q.waiting ≡ replicate m [] → i ≤ length tasks → IsIdle q (record { 0 = i })
next_idle q tasks i m ready waiting low =
    let proc : Proc = record { 0 = i } in
    record {
      unready = ap (is_queued proc) ready ∙ low_number 0 i (take i tasks) proc (let k = length-take-le i tasks low in omega (arith, k)) (omega arith);
      awake = λ s inside. ap (λ (w : List (List Proc)). is_queued proc (slice_index_or w s [])) waiting ∙ ap (is_queued proc) (none_waits m s);
    }

-- the processes as they open are ready, and process k has incarnation k
opened_at : (n : ℕ) (tasks : List Task) (q : ℕ) → q < length tasks → process_at (all_ready n tasks) q ≡ record { run = Ready; current = record { 0 = n + q } }
opened_at n [] q low = absurd (omega arith)
opened_at n (t ∷ ts) zero low = let same : n ≡ n + 0 = omega arith in ap (λ (k : ℕ). let p : Process = record { run = Ready; current = record { 0 = k } } in p) same
opened_at n (t ∷ ts) (suc q) low =
    let same : n + 1 + q ≡ n + suc q = omega arith in
    opened_at (n + 1) ts q (omega arith) ∙ ap (λ (k : ℕ). let p : Process = record { run = Ready; current = record { 0 = k } } in p) same

as_many_ready : (n : ℕ) (tasks : List Task) → length (all_ready n tasks) ≡ length tasks
as_many_ready n [] = refl
as_many_ready n (t ∷ ts) = let h = as_many_ready (n + 1) ts in omega (arith, h)

pub as_many_stacks : (n : ℕ) (tasks : List Task) → length (base_stacks n tasks) ≡ length tasks
as_many_stacks n [] = refl
as_many_stacks n (t ∷ ts) = let h = as_many_stacks (n + 1) ts in omega (arith, h)

-- the base frame of a process is its top
base_top : (n : ℕ) (tasks : List Task) (q : ℕ) → q < length tasks
    → (es : List Entry) × (slice_get (slice_index_or (base_stacks n tasks) q []) (length (slice_index_or (base_stacks n tasks) q []) - 1) ≡ Some (base_frame (n + q) es))
base_top n [] q low = absurd (omega arith)
base_top n (t ∷ ts) zero low = (t.slots, let same : n ≡ n + 0 = omega arith in ap (λ (k : ℕ). Some (base_frame k t.slots)) same)
base_top n (t ∷ ts) (suc q) low =
    let same : n + 1 + q ≡ n + suc q = omega arith in
    let h = base_top (n + 1) ts q (omega arith) in
    (h.0, h.1 ∙ ap (λ (k : ℕ). Some (base_frame k h.0)) same)

base_current : (tasks : List Task) (q : ℕ) → q < length tasks → IsCurrent (base_stacks 0 tasks) (process_at (all_ready 0 tasks) q).current q
base_current tasks q low =
    let h = base_top 0 tasks q low in
    let same : 0 + q ≡ q = omega arith in
    let inc : (process_at (all_ready 0 tasks) q).current ≡ record { 0 = 0 + q } = ap (λ (p : Process). p.current) (opened_at 0 tasks q low) in
    subst (λ (o : Option StackFrame). IsCurrentOf (base_stacks 0 tasks) (process_at (all_ready 0 tasks) q).current o) (sym h.1) inc

pub opened_queues : (slots : List (Option (Name × Body))) (q : Queued) (ps : List Process) (tasks : List Task)
    → q.processes ≡ length tasks → q.ready ≡ proc_numbers 0 tasks → q.waiting ≡ replicate 65536 [] → ps ≡ all_ready 0 tasks → AreQueued slots q ps
opened_queues slots q ps tasks all ready waiting processes = record {
  lists = ap (λ (w : List (List Proc)). length w) waiting ∙ length-replicate {A = List Proc} 65536 [];
  all = all ∙ sym (ap (λ (p : List Process). length p) processes ∙ as_many_ready 0 tasks);
  ready = λ proc h.
      let w = number_within 0 tasks proc (ap (is_queued proc) (sym ready) ∙ h) in
      ap (λ (p : List Process). (process_at p proc.0).run) processes ∙ ap (λ (p : Process). p.run) (opened_at 0 tasks proc.0 (omega (arith, w.1)));
  waiting = λ s proc h.
      let e : waiters q s ≡ [] = ap (λ (w : List (List Proc)). slice_index_or w s []) waiting ∙ none_waits 65536 s in
      absurd (let f : false ≡ true = ap (is_queued proc) (sym e) ∙ h in cc);
  ready_once = subst (λ (procs : List Proc). AreOnce procs) (sym ready) (numbers_once 0 tasks);
  waiting_once = λ s.
      let e : waiters q s ≡ [] = ap (λ (w : List (List Proc)). slice_index_or w s []) waiting ∙ none_waits 65536 s in
      subst (λ (procs : List Proc). AreOnce procs) (sym e) tt;
}

pub opened_joined : (objects : Shelf) (q : Queued) (ps : List Process) (st : Stacked) (w : Remembered) (tasks : List Task) → AreQueued objects.slots q ps → ps ≡ all_ready 0 tasks
    → st.stacks ≡ base_stacks 0 tasks → st.next.0 ≡ length tasks
    → w ≡ record { capacity = 256; pairs = [] } → IsJoined objects q ps st w
opened_joined objects q ps st w tasks queued processes stacks next none = record {
  queued = queued;
  stacked = ap (λ (s : List (List StackFrame)). length s) stacks ∙ as_many_stacks 0 tasks ∙ sym (ap (λ (p : List Process). length p) processes ∙ as_many_ready 0 tasks);
  current = λ n low.
      let inside : n < length tasks = omega (arith, ap (λ (p : List Process). length p) processes, as_many_ready 0 tasks) in
      subst (λ (s : List (List StackFrame)). IsCurrent s (process_at ps n).current n) (sym stacks)
      (subst (λ (p : List Process). IsCurrent (base_stacks 0 tasks) (process_at p n).current n) (sym processes) (base_current tasks n inside));
  known = λ n low.
      let inside : n < length tasks = omega (arith, ap (λ (p : List Process). length p) processes, as_many_ready 0 tasks) in
      let is : (process_at ps n).current.0 ≡ 0 + n =
      ap (λ (p : List Process). (process_at p n).current.0) processes ∙ ap (λ (p : Process). p.current.0) (opened_at 0 tasks n inside) in
      omega (arith, is, next, inside);
  right = subst (λ (v : Remembered). AreRight (seen objects.slots) v.pairs) (sym none) (right_none (seen objects.slots));
}

-- and the state that they tell
abbrev pub told : Shelf → Queued → List Process → Stacked → Name → ℕ → ℕ → State
told objects q ps st first_new events limit = record {
  objects = standing (whole objects.slots q.waiting);
  incarnations = live_from 0 st.stacks;
  processes = ps;
  ready = q.ready;
  next_name = objects.next;
  next_inc = st.next;
  first_new = first_new;
  events = events;
  limit = limit;
}

pub opened_state : (w : WorldValue) (objects : Shelf) (q : Queued) (ps : List Process) (st : Stacked) (first_new : Name) (limit : ℕ)
    → standing (map shown_at objects.slots) ≡ named (replicate 7 no_object ++ map (λ (b : Born). object_of b.kind) w.objects) → objects.next.0 ≡ 7 + length w.objects
    → q.ready ≡ proc_numbers 0 w.tasks → q.waiting ≡ replicate 65536 [] → ps ≡ all_ready 0 w.tasks → st.stacks ≡ base_stacks 0 w.tasks → st.next.0 ≡ length w.tasks
    → first_new.0 ≡ 7 + length w.objects → limit ≡ w.limit → told objects q ps st first_new 0 limit ≡ opening w
unfolding opening
opened_state w objects q ps st first_new limit objs next ready waiting processes stacks number first lim =
    let a : standing (whole objects.slots q.waiting) ≡ named (replicate 7 no_object ++ map (λ (b : Born). object_of b.kind) w.objects) =
    ap (λ (v : List (List Proc)). standing (whole objects.slots v)) waiting ∙ ap standing (whole_unwaited objects.slots 65536) ∙ objs in
    let b : live_from 0 st.stacks ≡ bases 0 w.tasks = ap (live_from 0) stacks ∙ live_bases 0 w.tasks in
    λ i. record {
      objects = a i;
      incarnations = b i;
      processes = processes i;
      ready = ready i;
      next_name = record { 0 = next i };
      next_inc = record { 0 = number i };
      first_new = record { 0 = first i };
      events = 0;
      limit = lim i;
    }

-- one more process that is ready
ready_at_end : (n : ℕ) (tasks : List Task) (t : Task) → all_ready n tasks ++ record { run = Ready; current = record { 0 = n + length tasks } } ∷ [] ≡ all_ready n (tasks ++ t ∷ [])
ready_at_end n [] t = let same : n + 0 ≡ n = omega arith in rw same refl
ready_at_end n (first ∷ rest) t =
    let same : n + suc (length rest) ≡ n + 1 + length rest = omega arith in
    rw same (ap (λ (ps : List Process). record { run = Ready; current = record { 0 = n } } ∷ ps) (ready_at_end (n + 1) rest t))

pub next_ready : (tasks : List Task) (i : ℕ) (d : Task) → i < length tasks
    → all_ready 0 (take i tasks) ++ record { run = Ready; current = record { 0 = i } } ∷ [] ≡ all_ready 0 (take (i + 1) tasks)
next_ready tasks i d there =
    let many : i ≡ 0 + length (take i tasks) = omega (arith, length-take-le i tasks (omega arith)) in
    ap (λ (k : ℕ). all_ready 0 (take i tasks) ++ record { run = Ready; current = record { 0 = k } } ∷ []) many
    ∙ ready_at_end 0 (take i tasks) (get_or tasks i d) ∙ ap (all_ready 0) (sym (take_more tasks i d there))

-- and one more number of a process
number_at_end : (n : ℕ) (tasks : List Task) (t : Task) → proc_numbers n tasks ++ record { 0 = n + length tasks } ∷ [] ≡ proc_numbers n (tasks ++ t ∷ [])
number_at_end n [] t = let same : n + 0 ≡ n = omega arith in rw same refl
number_at_end n (first ∷ rest) t =
    let same : n + suc (length rest) ≡ n + 1 + length rest = omega arith in
    rw same (ap (λ (ps : List Proc). record { 0 = n } ∷ ps) (number_at_end (n + 1) rest t))

pub next_number : (tasks : List Task) (i : ℕ) (d : Task) → i < length tasks → proc_numbers 0 (take i tasks) ++ record { 0 = i } ∷ [] ≡ proc_numbers 0 (take (i + 1) tasks)
next_number tasks i d there =
    let many : i ≡ 0 + length (take i tasks) = omega (arith, length-take-le i tasks (omega arith)) in
    ap (λ (k : ℕ). proc_numbers 0 (take i tasks) ++ record { 0 = k } ∷ []) many
    ∙ number_at_end 0 (take i tasks) (get_or tasks i d) ∙ ap (proc_numbers 0) (sym (take_more tasks i d there))

-- no process runs where all are ready
pub none_running : (n : ℕ) (tasks : List Task) → list_any (λ (p : Process). is_running p.run) (all_ready n tasks) ≡ false
none_running n [] = refl
none_running n (t ∷ rest) = none_running (n + 1) rest

pub next_queued : (q r : Queued) (tasks : List Task) (i : ℕ) (d : Task) → i < length tasks → q.ready ≡ proc_numbers 0 (take i tasks)
    → r ≡ record q { ready = q.ready ++ record { 0 = i } ∷ [] } → r.ready ≡ proc_numbers 0 (take (i + 1) tasks)
next_queued q r tasks i d there before e =
    ap (λ (v : Queued). v.ready) e ∙ ap (λ (procs : List Proc). procs ++ record { 0 = i } ∷ []) before ∙ next_number tasks i d there
