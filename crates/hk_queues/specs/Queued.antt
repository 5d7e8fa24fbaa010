-- The lists of processes, as contracts see them, and as they stand in lists of cells.
use Rattle.std.specs.Prelude.{◌≡◌, ℕ, ◌<◌, ◌≤◌, ◌^◌, ◌==◌, Bool, false, List, [], length, map, drop, slice_index_or}
use Rattle.std.specs.List.{list_any}
use Rattle.hk_model.specs.declared.names.Proc.{Proc}
use Rattle.hk_links.specs.Chained.{Chained, listed}

pub record Queued : Type 0 where
  -- how many processes there are
  pub processes : ℕ
  -- the ready processes, the first to be dispatched first
  pub ready : List Proc
  -- for each semaphore who waits there, the longest waiting first
  pub waiting : List (List Proc)

-- who waits at a semaphore
abbrev pub waiters : Queued → ℕ → List Proc
waiters q semaphore = slice_index_or q.waiting semaphore []

-- whether a process is in a list
abbrev pub is_queued : Proc → List Proc → Bool
is_queued proc procs = list_any (λ (other : Proc). proc.0 == other.0) procs

-- the process is in no list
pub record IsIdle (q : Queued) (proc : Proc) : Type 0 where
  pub unready : is_queued proc q.ready ≡ false
  pub awake : (semaphore : ℕ) → semaphore < length q.waiting → is_queued proc (waiters q semaphore) ≡ false

-- each cell is the process of its number; list 0 is the ready list, and the list behind a semaphore's number its waiters
abbrev pub proc_of : ℕ → Proc
proc_of cell = record { 0 = cell }

abbrev pub procs_of : List ℕ → List Proc
procs_of cells = map proc_of cells

abbrev pub queued : Chained → ℕ → Queued
queued c processes = record { processes = processes; ready = procs_of (listed c.lists 0); waiting = map procs_of (drop 1 c.lists) }

-- there is the ready list, and each process has a cell
pub record IsQueueing (c : Chained) (processes : ℕ) : Type 0 where
  pub some : 0 < length c.lists
  pub low : length c.lists < 2 ^ 32
  pub few : c.cells ≤ 65536
  pub enough : (proc : Proc) → proc.0 < 65536 → proc.0 < processes → proc.0 < c.cells
