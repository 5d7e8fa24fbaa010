-- An event that can be taken back. docs/RULES.md, "Lines taken back" and "Steps of processors".
use Rattle.std.specs.Prelude.{◌≡◌, ℕ, ◌<◌, true, false, [], Some, None, IsTrue, IsSome}
use Rattle.std.specs.List.Sorted.{IsStrictlySortedBy}
use Rattle.std.specs.Map.{keys_of}
use Rattle.hk_model.specs.declared.names.Proc.{Proc}
use Rattle.hk_model.specs.declared.names.Cpu.{Cpu}
use Rattle.hk_model.specs.declared.calls.Call.{Call}
use Rattle.hk_model.specs.declared.calls.Reply.TheVariants.{Done}
use Rattle.hk_model.specs.declared.kernel.Acted.{Acted}
use Rattle.hk_model.specs.declared.lines.What.{What}
use Rattle.hk_model.specs.declared.lines.What.TheVariants as what
use Rattle.hk_model.specs.declared.objects.ProcessState.TheVariants.{Running}
use Rattle.hk_model.specs.State.{State, name_cmp}
use Rattle.hk_model.specs.Processors.{runner, may_step, is_on, dispatched, acted_on, halted_on, entered_on, has_left}
use Rattle.hk_running.specs.Runners.{process_at}
use Rattle.hk_plain.specs.Stacks.{Rises}
use Rattle.hk_plain.specs.Changes.{Changes, taken_back, IsBehind}

-- the processor runs a process, and an event more is within the limit
pub record RunsOn (s : State) (cpu : Cpu) : Type 0 where
  pub runs : IsSome (runner s cpu)
  pub below : IsTrue (may_step s)

-- the processor runs nothing and a process is ready, and an event more is within the limit
pub record IsIdle (s : State) (cpu : Cpu) : Type 0 where
  pub among : cpu.0 < 16
  pub idle : runner s cpu ≡ None
  pub some_ready : s.ready ≡ [] → ⊥
  pub below : IsTrue (may_step s)

-- what an event asks
abbrev pub CanGo : State → Cpu → What → Type 0
CanGo s cpu what.Dispatch = IsIdle s cpu
CanGo s cpu (what.Call c) = RunsOn s cpu
CanGo s cpu what.Halt = RunsOn s cpu

-- the answer to a call, with the state after it
pub record IsCallDone (s : State) (cpu : Cpu) (c : Call) (acted : Acted) (after : State) : Type 0 where
  pub reply : acted_on s cpu c ≡ (acted.reply, after)
  pub code : acted.code ≡ entered_on s cpu c acted.reply
  pub gone : acted.gone ≡ has_left s cpu after

-- the processor got a process
pub record IsDispatchDone (s : State) (cpu : Cpu) (acted : Acted) (after : State) : Type 0 where
  pub first : Proc
  pub given : dispatched s cpu ≡ Some (first, after)
  pub reply : acted.reply ≡ Done
  pub code : acted.code ≡ None
  pub gone : acted.gone ≡ false

-- the process that the processor ran has ended
pub record IsHaltDone (s : State) (cpu : Cpu) (acted : Acted) (after : State) : Type 0 where
  pub state : after ≡ halted_on s cpu
  pub reply : acted.reply ≡ Done
  pub code : acted.code ≡ None
  pub gone : acted.gone ≡ true

-- what an event does
abbrev pub IsDone : State → Cpu → What → Acted → State → Type 0
IsDone s cpu what.Dispatch acted after = IsDispatchDone s cpu acted after
IsDone s cpu (what.Call c) acted after = IsCallDone s cpu c acted after
IsDone s cpu what.Halt acted after = IsHaltDone s cpu acted after

-- these changes lead from the state after an event to the one before it, and can be taken back
pub record IsInverse (c : Changes) (s after : State) : Type 0 where
  pub back : taken_back c after ≡ s
  pub behind : IsBehind c after

-- objects and incarnations stand by rising number, and each processor runs one process at most
pub record IsLaidOut (s : State) : Type 0 where
  pub objects : IsStrictlySortedBy name_cmp (keys_of s.objects)
  pub incarnations : Rises 0 s.incarnations s.next_inc.0
  pub alone : (q r : ℕ) (cpu : Cpu) → is_on cpu (process_at s.processes q).run ≡ true → is_on cpu (process_at s.processes r).run ≡ true → q ≡ r
  pub few : (q : ℕ) (cpu : Cpu) → (process_at s.processes q).run ≡ Running cpu → cpu.0 < 16
