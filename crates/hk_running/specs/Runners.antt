-- The processes, and which of them each processor runs. docs/RULES.md, "Steps of processors".
use Rattle.std.specs.Prelude.{ℕ, ◌≡◌, ◌≤◌, ◌==◌, ◌||◌, Bool, false, List, length, Option, Some, None, slice_get, slice_set, count_by, if◌then◌else◌}
use Rattle.std.specs.Option.{unwrap_or}
use Rattle.hk_model.specs.declared.names.Inc.{Inc}
use Rattle.hk_model.specs.declared.names.Proc.{Proc}
use Rattle.hk_model.specs.declared.names.Cpu.{Cpu}
use Rattle.hk_model.specs.declared.objects.Process.{Process}
use Rattle.hk_model.specs.declared.objects.ProcessState.{ProcessState}
use Rattle.hk_model.specs.declared.objects.ProcessState.TheVariants.{Ready, Running, Waiting, Ended}
use Rattle.hk_model.specs.Processors.{is_on, is_ready, is_running}

-- the process of this number; where there is none, it has ended
abbrev pub process_at : List Process → ℕ → Process
process_at ps q = unwrap_or (slice_get ps q) (record { run = Ended; current = record { 0 = 0 } })

-- the processes, where one does something else, or has another current incarnation
abbrev pub with_run : List Process → Proc → ProcessState → List Process
with_run ps proc run = slice_set ps proc.0 (record (process_at ps proc.0) { run = run })

abbrev pub with_current : List Process → Proc → Inc → List Process
with_current ps proc inc = slice_set ps proc.0 (record (process_at ps proc.0) { current = inc })

-- a process is ready or runs
abbrev pub runner_lives : ProcessState → Bool
runner_lives run = is_ready run || is_running run

-- what a process counts among the live ones
abbrev pub weight : ProcessState → ℕ
weight run = if runner_lives run then 1 else 0

-- the place of a processor has the process of this number
abbrev pub has_place : Option Proc → ℕ → Bool
has_place None q = false
has_place (Some proc) q = proc.0 == q

-- what stands in the place of a processor
abbrev pub place_of : List (Option Proc) → Cpu → Option Proc
place_of places cpu = unwrap_or (slice_get places cpu.0) None

-- the places, where a processor runs no more what it ran
abbrev pub freed : List (Option Proc) → ProcessState → List (Option Proc)
freed places Ready = places
freed places (Running cpu) = slice_set places cpu.0 None
freed places (Waiting at) = places
freed places Ended = places

-- each processor's place has the process that runs on it, and the ready and running processes are counted
pub record IsPlaced (ps : List Process) (places : List (Option Proc)) (live : ℕ) : Type 0 where
  pub few : length ps ≤ 256
  pub placed : (q : ℕ) (cpu : Cpu) → is_on cpu (process_at ps q).run ≡ has_place (place_of places cpu) q
  pub counted : live ≡ count_by (λ p. runner_lives p.run) ps
