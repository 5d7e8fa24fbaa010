-- The process that a processor runs.
use Rattle.std.proofs.Common.{◌≡◌, ℕ, suc, ◌+◌, ◌<◌, Bool, true, false, cond, List, [], ◌∷◌, length, Option, Some, None, IfSome, refl, sym, ap, ◌∙◌, arith}
use Rattle.hk_model.specs.declared.names.Cpu.{Cpu}
use Rattle.hk_model.specs.declared.names.Proc.{Proc}
use Rattle.hk_model.specs.declared.objects.Process.{Process}
use Rattle.hk_model.specs.declared.objects.ProcessState.{ProcessState}
use Rattle.hk_model.specs.declared.objects.ProcessState.TheVariants.{Ready, Running, Waiting, Ended}
use Rattle.hk_model.specs.Processors.{is_on, is_running, runner_from}
use Rattle.hk_running.specs.Runners.{process_at}

on_runs : (cpu : Cpu) (run : ProcessState) → is_on cpu run ≡ true → is_running run ≡ true
on_runs cpu Ready e = e
on_runs cpu (Running other) e = refl
on_runs cpu (Waiting at) e = e
on_runs cpu Ended e = e

-- it is a process that runs
some_runner : (ps : List Process) (cpu : Cpu) (n : ℕ) (proc : Proc) → runner_from ps cpu n ≡ Some proc
    → (k : ℕ) × (proc.0 ≡ n + k) × (k < length ps) × (is_running (process_at ps k).run ≡ true)
some_runner [] cpu n proc e = absurd (cc)
some_runner (p ∷ ps) cpu n proc e = by (is_on cpu p.run) refl (some_runner ps cpu (n + 1) proc) e where
  by : (b : Bool) → is_on cpu p.run ≡ b
      → (runner_from ps cpu (n + 1) ≡ Some proc → (k : ℕ) × (proc.0 ≡ n + 1 + k) × (k < length ps) × (is_running (process_at ps k).run ≡ true))
      → cond b (Some (let q : Proc = record { 0 = n } in q)) (runner_from ps cpu (n + 1)) ≡ Some proc
      → (k : ℕ) × (proc.0 ≡ n + k) × (k < suc (length ps)) × (is_running (process_at (p ∷ ps) k).run ≡ true)
  by true on later h =
      let q : Proc = record { 0 = n } in
      let same : q ≡ proc = cc in
      let number : proc.0 ≡ n = ap (λ (x : Proc). x.0) (sym same) in
      (0, omega (arith, number), omega arith, on_runs cpu p.run on)
  by false on later h =
      let w = later h in
      (suc w.0, (let a = w.1 in omega (arith, a)), (let b = w.2 in omega (arith, b)), w.3)

pub runner_known : (ps : List Process) (cpu : Cpu) (o : Option Proc) → o ≡ runner_from ps cpu 0 → IfSome o (λ proc. proc.0 < length ps)
runner_known ps cpu None e = tt
runner_known ps cpu (Some proc) e = let w = some_runner ps cpu 0 proc (sym e) in let a = w.1 in let b = w.2 in omega (arith, a, b)

pub runner_runs : (ps : List Process) (cpu : Cpu) (o : Option Proc) → o ≡ runner_from ps cpu 0 → IfSome o (λ proc. is_running (process_at ps proc.0).run ≡ true)
runner_runs ps cpu None e = tt
runner_runs ps cpu (Some proc) e =
    let w = some_runner ps cpu 0 proc (sym e) in
    let a : proc.0 ≡ w.0 = (let b = w.1 in omega (arith, b)) in
    ap (λ (k : ℕ). is_running (process_at ps k).run) a ∙ w.3
