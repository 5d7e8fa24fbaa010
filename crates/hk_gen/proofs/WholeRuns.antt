-- Each run of a generated world on processor 0 comes to its end.
use Rattle.std.proofs.Common.{◌≡◌, ℕ, zero, suc, ◌+◌, ◌*◌, ◌<◌, ◌≤◌, List, [], ◌∷◌, ◌++◌, length, map, Some, refl, arith}
use Rattle.std.proofs.Math.Seq.{append_snoc}
use Rattle.std.proofs.lemmas.List.{append-nil}
use Rattle.hk_model.specs.declared.lines.End.TheVariants as end
use Rattle.hk_model.specs.declared.objects.Process.{Process}
use Rattle.hk_model.specs.declared.objects.ProcessState.TheVariants.{Ready}
use Rattle.hk_model.specs.declared.world.Task.{Task}
use Rattle.hk_model.specs.Limits.{process_limit, event_limit}
use Rattle.hk_model.specs.State.{State}
use Rattle.hk_model.specs.Opening.{opening, bases, all_ready, proc_numbers}
use Rattle.hk_model.specs.Control.{Context, new_frame}
use Rattle.hk_model.specs.Running.{Machine, opened}
use Rattle.hk_model.specs.Legal.{end_word}
use Rattle.hk_model.specs.Generated.{generate, processes_from, process_numbered}
use Rattle.hk_model.proofs.Steps.{given_to}
use Rattle.hk_gen.specs.WholeRuns.{WholeRunsEnd, first_processor}
use Rattle.hk_gen.proofs.StageLists.{AllEnded, AllBelow, get_middle, set_middle, length_more, ended_more, none_runs}
use Rattle.hk_gen.proofs.StageLists.{lookup_first, remove_first, bases_below, base_alone}
use Rattle.hk_gen.proofs.Stages.{stage}
use Rattle.hk_gen.proofs.StageSteps.{Ends, ends_here, no_step, ends_after_dispatch}
use Rattle.hk_gen.proofs.Rounds.{inc, proc, running, over, machine, is_below, process_ends}

-- the contexts in which processes open
abbrev beginnings : List Task → List Context
beginnings ts = map (λ (t : Task). new_frame t.code ∷ []) ts

-- between two processes: some have ended, and the others are ready
abbrev between : List Process → List Context → ℕ → List Task → ℕ → ℕ → ℕ → Machine
between done past n ts word next_inc events = machine (stage word 1 (bases n ts) (done ++ all_ready n ts) (proc_numbers n ts) next_inc events) (past ++ beginnings ts)

-- the end word is `done` where all have ended
done_word : (s : State) → AllEnded s.processes → end_word s ≡ Some end.Done
done_word s h = rw h

-- the dispatch of the next one
next_dispatched : (done : List Process) (n word next_inc events : ℕ) (ts : List Task) → length done ≡ n
    → given_to (between done [] n (process_numbered n ∷ ts) word next_inc events).state first_processor (proc n) (proc_numbers (n + 1) ts)
    ≡ stage word 1 (bases n (process_numbered n ∷ ts)) (done ++ running n ∷ all_ready (n + 1) ts) (proc_numbers (n + 1) ts) next_inc (events + 1)
next_dispatched done n word next_inc events ts many =
    rw (
      get_middle done (record { run = Ready; current = inc n }) (all_ready (n + 1) ts) n many,
      set_middle done (record { run = Ready; current = inc n }) (running n) (all_ready (n + 1) ts) n many,
    )

module _ (count : ℕ) where
  -- each run comes to the end that still has so many processes before it. Each of them takes 602 steps: its dispatch, the first P, and
  -- six for each round, with the P of the next one or with its return
  processes_end : (left n : ℕ) (done : List Process) (past : List Context) → AllEnded done → length done ≡ n → length past ≡ n
      → (word next_inc events : ℕ) → AllBelow next_inc (bases n (processes_from n left)) → events + 602 * left < event_limit
      → Ends (generate count) (between done past n (processes_from n left) word next_inc events)
  processes_end zero n done past ended many many_contexts word next_inc events below few =
      ends_here (generate count) (between done past n [] word next_inc events)
      (no_step (generate count) (between done past n [] word next_inc events) (is_below events event_limit (omega arith)) (none_runs done first_processor 0 n [] ended) refl)
      (done_word (between done past n [] word next_inc events).state (rw append-nil ended))
  processes_end (suc left) n done past ended many many_contexts word next_inc events below few =
      let ts : List Task = processes_from (n + 1) left in
      ends_after_dispatch (generate count) (between done past n (process_numbered n ∷ ts) word next_inc events) (proc n) (proc_numbers (n + 1) ts)
      (stage word 1 (bases n (process_numbered n ∷ ts)) (done ++ running n ∷ all_ready (n + 1) ts) (proc_numbers (n + 1) ts) next_inc (events + 1))
      (is_below events event_limit (omega arith)) (none_runs done first_processor 0 n (process_numbered n ∷ ts) ended) refl (next_dispatched done n word next_inc events ts many)
      (process_ends count n done (all_ready (n + 1) ts) past (beginnings ts) (proc_numbers (n + 1) ts) ended many many_contexts
      (bases n (process_numbered n ∷ ts)) (bases (n + 1) ts) (lookup_first n _ _) (base_alone n (process_numbered n) ts) (remove_first n _ _) (suc (602 * left))
      (λ later_word later_next later_events later_below later_few.
      rw (← (append_snoc done (over n) (all_ready (n + 1) ts)), ← (append_snoc past [] (beginnings ts)))
      (processes_end left (n + 1) (done ++ over n ∷ []) (past ++ [] ∷ []) (ended_more done (over n) ended refl) (length_more done (over n) n many)
      (length_more past [] n many_contexts) later_word later_next later_events later_below.1 (omega arith)))
      word next_inc (events + 1) below (omega arith))

-- each whole run of a generated world on processor 0 ends with every process ended
pub generated_runs_end : (count : ℕ) → count ≤ process_limit → WholeRunsEnd (generate count)
unfolding opened opening generate
generated_runs_end count few =
    let ts : List Task = processes_from 0 count in
    processes_end count count 0 [] [] refl refl refl 0 (length ts) 0 (bases_below 0 (length ts) ts (omega arith)) (omega arith)
