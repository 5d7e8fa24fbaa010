-- What joins the parts of a table.
use Rattle.std.specs.Prelude.{◌≡◌, ℕ, ◌+◌, ◌-◌, ◌<◌, ◌≤◌, true, false, List, [], ◌∷◌, length, Option, Some, None, slice_get, slice_index_or}
use Rattle.hk_model.specs.declared.names.Name.{Name}
use Rattle.hk_model.specs.declared.names.Proc.{Proc}
use Rattle.hk_model.specs.declared.objects.Process.{Process}
use Rattle.hk_model.specs.declared.objects.ProcessState.TheVariants.{Ready, Waiting}
use Rattle.hk_model.specs.declared.names.Inc.{Inc}
use Rattle.hk_spaces.specs.declared.stack.StackFrame.{StackFrame}
use Rattle.hk_objects.specs.declared.body.Body.{Body}
use Rattle.hk_objects.specs.Shelf.{Shelf}
use Rattle.hk_table.specs.Stacked.{Stacked, frame_at}
use Rattle.hk_objects.specs.Slots.{name_at}
use Rattle.hk_queues.specs.Queued.{Queued, waiters, is_queued}
use Rattle.hk_running.specs.Runners.{process_at}
use Rattle.hk_model.specs.State.{State}
use Rattle.hk_walk.specs.Remembered.{Remembered}
use Rattle.hk_walk.specs.Walks.{seen, AreRight}

-- no process is twice in a list
abbrev pub AreOnce : List Proc → Type 0
AreOnce [] = Unit {0}
AreOnce (proc ∷ procs) = (is_queued proc procs ≡ false) × AreOnce procs

-- the number of the current incarnation is that of the top frame; where there is no frame, no live incarnation has it
abbrev pub IsCurrentOf : List (List StackFrame) → Inc → Option StackFrame → Type 0
IsCurrentOf stacks current None = (q k : ℕ) (f : StackFrame) → frame_at stacks q k ≡ Some f → f.inc.0 ≡ current.0 → ⊥
IsCurrentOf stacks current (Some top) = current ≡ top.inc

abbrev pub IsCurrent : List (List StackFrame) → Inc → ℕ → Type 0
IsCurrent stacks current n =
    let frames : List StackFrame = slice_index_or stacks n [] in IsCurrentOf stacks current (slice_get frames (length frames - 1))

-- the ready list has ready processes, and the list of a slot processes that wait at the object there
pub record AreQueued (slots : List (Option (Name × Body))) (q : Queued) (ps : List Process) : Type 0 where
  pub lists : length q.waiting ≡ 65536
  pub all : q.processes ≡ length ps
  pub ready : (proc : Proc) → is_queued proc q.ready ≡ true → (process_at ps proc.0).run ≡ Ready
  pub waiting : (s : ℕ) (proc : Proc) → is_queued proc (waiters q s) ≡ true → (n : Name) × (name_at slots s ≡ Some n) × ((process_at ps proc.0).run ≡ Waiting n)
  pub ready_once : AreOnce q.ready
  pub waiting_once : (s : ℕ) → AreOnce (waiters q s)

-- the parts of a table: each process has its queue and its stack, the number of its current incarnation was given, and what is remembered of walks is right
pub record IsJoined (objects : Shelf) (q : Queued) (ps : List Process) (st : Stacked) (w : Remembered) : Type 0 where
  pub queued : AreQueued objects.slots q ps
  pub stacked : length st.stacks ≡ length ps
  pub current : (n : ℕ) → n < length ps → IsCurrent st.stacks (process_at ps n).current n
  pub known : (n : ℕ) → n < length ps → (process_at ps n).current.0 < st.next.0
  pub right : AreRight (seen objects.slots) w.pairs

-- the numbers that objects and incarnations take next never run out: an event takes one of each at most, and a world opens
-- with at most 65,536 objects and 256 incarnations
abbrev pub FewNumbers : State → Type 0
FewNumbers s = (s.next_name.0 ≤ 65536 + s.events) × (s.next_inc.0 ≤ 256 + s.events)
