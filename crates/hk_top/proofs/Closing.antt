-- A history that has come to its end goes no further: so workers that have seen an end leave a book that is closed.
use Rattle.std.specs.Prelude.{◌≡◌, ◌||◌, not, ℕ, zero, suc, ◌+◌, ◌<◌, ◌≤◌, List, [], ◌∷◌, ◌++◌, length, Bool, true, false, Option, Some, None, All, nat_lt, option_map, is_some}
use Rattle.std.specs.Prelude.{refl, if◌then◌else◌}
use Rattle.std.specs.List.{list_any}
use Rattle.std.proofs.Common.{arith, ap, sym, ◌∙◌, subst}
use mathlib.Core.Logic.{inl, inr}
use mathlib.Core.List.{IsPrefix}
use Rattle.hk_model.specs.declared.names.Proc.{Proc}
use Rattle.hk_model.specs.declared.names.Cpu.{Cpu}
use Rattle.hk_model.specs.declared.lines.Line.{Line}
use Rattle.hk_model.specs.declared.lines.End.{End}
use Rattle.hk_model.specs.declared.objects.Process.{Process}
use Rattle.hk_model.specs.declared.objects.ProcessState.{ProcessState}
use Rattle.hk_model.specs.declared.objects.ProcessState.TheVariants.{Ready, Running, Waiting, Ended}
use Rattle.hk_model.specs.WorldValue.{WorldValue}
use Rattle.hk_model.specs.State.{State}
use Rattle.hk_model.specs.Processors.{is_on, is_ready, is_running, is_over, may_step, runner, runner_from}
use Rattle.hk_model.specs.Running.{Machine, AreSteps, AreStepsOf, after_lines, event_of, line_of, moved, opened, state_after, step}
use Rattle.hk_model.specs.Legal.{end_word}
use Rattle.hk_program.proofs.Machines.{sound_after, sound_kept}
use Rattle.hk_program.proofs.Queues.{run_at, IsQueue}
use Rattle.hk_program.proofs.Regular.{Regular}
use Rattle.hk_turn.specs.declared.pass.Pass.{Pass}
use Rattle.hk_turn.specs.declared.turns.Turns.{Turns}
use Rattle.hk_turn.specs.Passes.{seen_list}
use Rattle.hk_turn.specs.Turns.{AreNewPasses, Extends}
use Rattle.hk_procs.specs.declared.notes.Noted.{Noted}
use Rattle.hk_procs.specs.declared.notes.Noted.TheVariants.{Event, Stop}
use Rattle.hk_procs.specs.declared.worker.Ended.{Ended as How}
use Rattle.hk_procs.specs.declared.worker.Ended.TheVariants as ended
use Rattle.hk_procs.specs.Notes.{lines_of, events, owner_of}
use Rattle.hk_procs.specs.Ends.{Ends}
use Rattle.hk_shared.specs.declared.book.Book.{Book}
use Rattle.hk_shared.specs.Books.{IsBookOf, stops}
use Rattle.hk_shared.proofs.Notes.{append_nil, lines_append, lines_book, steps_first}
use Rattle.hk_top.specs.declared.words.Command.TheVariants as command
use Rattle.hk_top.specs.Words.{MayRun, words_of}
use Rattle.hk_top.specs.Runs.{IsRecord, IsRecorded, shared}
use Rattle.hk_top.specs.Workers.{HasSeenEnd, IsClosed, IsEnd, IsFresh}
use Rattle.hk_top.proofs.Ends.{AreStill, word_there}

-- ---- no step where the end is

still_on : (cpu : Cpu) (ps : List Process) (n : ℕ) → AreStill ps → runner_from ps cpu n ≡ None
still_on cpu [] n h = refl
still_on cpu (p ∷ ps) n h = by p.run (still_on cpu ps (n + 1)) h
  where
    by : (run : ProcessState) → (AreStill ps → runner_from ps cpu (n + 1) ≡ None)
        → ((is_ready run || is_running run) || list_any (λ (p : Process). is_ready p.run || is_running p.run) ps) ≡ false
        → (if is_on cpu run then Some (record { 0 = n }) else runner_from ps cpu (n + 1)) ≡ None
    by Ready rest h = absurd (cc)
    by (Running other) rest h = absurd (cc)
    by (Waiting at) rest h = rest h
    by Ended rest h = rest h

still_ready : (ps : List Process) (n : ℕ) → AreStill ps → run_at ps n ≡ Ready → ⊥
still_ready [] n h e = absurd (cc)
still_ready (p ∷ ps) zero h e = let g = rw e at h in absurd (cc)
still_ready (p ∷ ps) (suc n) h e = still_ready ps n (rest p.run h) e
  where
    rest : (run : ProcessState) → ((is_ready run || is_running run) || list_any (λ (p : Process). is_ready p.run || is_running p.run) ps) ≡ false → AreStill ps
    rest Ready h = absurd (cc)
    rest (Running other) h = absurd (cc)
    rest (Waiting at) h = h
    rest Ended h = h

-- where no process is ready, none stands in the ready list
none_stands : (w : WorldValue) (s : State) → Regular w s → AreStill s.processes → s.ready ≡ []
none_stands w s reg h = by s.ready reg.ready
  where
    by : (ready : List Proc) → IsQueue s.processes Ready ready → ready ≡ []
    by [] q = refl
    by (first ∷ rest) q = absurd (still_ready s.processes first.0 h q.0.0)

-- the limit is reached, or no process is ready and none runs
pub data HasEnded (s : State) : Type 0 where
  at_limit : may_step s ≡ false → HasEnded s
  still : AreStill s.processes → HasEnded s

has_ended_of : (s : State) → (not (may_step s) || is_over s) ≡ true → HasEnded s
has_ended_of s h = by (may_step s) (list_any (λ (p : Process). is_ready p.run || is_running p.run) s.processes) refl refl h
  where
    by : (may busy : Bool) → may_step s ≡ may → list_any (λ (p : Process). is_ready p.run || is_running p.run) s.processes ≡ busy → (not may || not busy) ≡ true → HasEnded s
    by false busy e f g = at_limit e
    by true false e f g = still f
    by true true e f g = absurd (cc)

pub no_step : (w : WorldValue) (m : Machine) (cpu : Cpu) → Regular w m.state → HasEnded m.state → step w m cpu ≡ None
unfolding step
no_step w m cpu reg (at_limit e) = rw e refl
no_step w m cpu reg (still h) = by (may_step m.state) (nat_lt cpu.0 16)
  where
    by : (may low : Bool) → (if may then (if low then event_of w m cpu (runner m.state cpu) else None) else None) ≡ None
    by true true = rw (still_on cpu m.state.processes 0 h, none_stands w m.state reg h) refl
    by true false = refl
    by false low = refl

no_line : (w : WorldValue) (m : Machine) (cpu : Cpu) → Regular w m.state → HasEnded m.state → line_of w m cpu ≡ None
no_line w m cpu reg h = ap (λ (found : Option (Line × Machine)). option_map (λ f. f.0) found) (no_step w m cpu reg h)

goes_no_further : (w : WorldValue) (m : Machine) (rest : List Line) → Regular w m.state → HasEnded m.state → AreSteps w m rest → rest ≡ []
goes_no_further w m [] reg h steps = refl
goes_no_further w m (line ∷ rest) reg h steps = let none = no_line w m line.cpu reg h in absurd (cc)

word_of : (s : State) → HasEnded s → end_word s ≡ None → ⊥
word_of s (at_limit e) = word_there s (inr e)
word_of s (still h) = word_there s (inl h)

-- ---- the book

steps_last : (w : WorldValue) (m : Machine) (xs ys : List Line) → AreSteps w m (xs ++ ys) → AreSteps w (after_lines w m xs) ys
steps_last w m [] ys h = h
steps_last w m (x ∷ xs) ys h = steps_last w (moved w m x.cpu) xs ys h.1

abbrev is_stop : Noted → Bool
is_stop (Event line) = false
is_stop (Stop cpu) = true

no_stop : (lines : List Line) → list_any is_stop (events lines) ≡ false
no_stop [] = refl
no_stop (line ∷ lines) = no_stop lines

has_stop : (xs : List Noted) (cpu : Cpu) (ys : List Noted) → list_any is_stop (xs ++ Stop cpu ∷ ys) ≡ true
has_stop [] cpu ys = refl
has_stop (Event line ∷ xs) cpu ys = has_stop xs cpu ys
has_stop (Stop other ∷ xs) cpu ys = refl

any_first : (xs ys : List Noted) → list_any is_stop xs ≡ true → list_any is_stop (xs ++ ys) ≡ true
any_first [] ys h = absurd (cc)
any_first (Event line ∷ xs) ys h = any_first xs ys h
any_first (Stop cpu ∷ xs) ys h = refl

pub unstopped : (o : Option Cpu) → is_some o ≡ false → o ≡ None
unstopped None h = refl
unstopped (Some cpu) h = absurd (cc)

below_of : (cpus : ℕ) (lines : List Line) → All (λ n. owner_of n < cpus) (events lines) → All (λ (line : Line). line.cpu.0 < cpus) lines
below_of cpus [] h k d l = absurd (omega (arith, l))
below_of cpus (line ∷ lines) h zero d l = h 0 (Event line) (omega arith)
below_of cpus (line ∷ lines) h (suc k) d l = below_of cpus lines (λ k d l. h (suc k) d (omega (arith, l))) k d (omega (arith, l))

module _ {K J : Type 0} (state : K → State) (w : WorldValue) (cpus : ℕ) (b : Book K J) (notes : List Noted) where
  pub closed : (pass : Pass Noted) → IsBookOf state w b notes → b.stop ≡ None → HasSeenEnd w pass → IsPrefix (seen_list pass) notes → All (λ n. owner_of n < cpus) notes
      → IsClosed state w cpus b
  closed pass book going seen prefix owned = record {
    steps = book.1.steps;
    below = below_of cpus b.lines.items (subst (λ (ns : List Noted). All (λ n. owner_of n < cpus) ns) (sym notes_are) owned);
    kernel = book.1.kernel;
    ends = by seen;
  }
    where
      notes_are : events b.lines.items ≡ notes
      notes_are = sym (append_nil (events b.lines.items)) ∙ (ap (λ (o : Option Cpu). events b.lines.items ++ stops o) (sym going) ∙ book.0)

      lines_are : lines_of (seen_list pass) ++ lines_of prefix.0 ≡ b.lines.items
      lines_are = sym (lines_append (seen_list pass) prefix.0) ∙ (ap lines_of (prefix.1 ∙ sym book.0) ∙ lines_book b.lines.items b.stop)

      steps : AreStepsOf w (lines_of (seen_list pass) ++ lines_of prefix.0)
      steps = subst (λ (ls : List Line). AreStepsOf w ls) (sym lines_are) book.1.steps

      reg : Regular w (state_after w (lines_of (seen_list pass)))
      reg =
          (sound_kept w (after_lines w (opened w) (lines_of (seen_list pass)))
          (sound_after w (lines_of (seen_list pass)) (steps_first w (opened w) (lines_of (seen_list pass)) (lines_of prefix.0) steps) book.1.valid)).regular

      by : IsEnd w (seen_list pass) → end_word (state_after w b.lines.items) ≡ None → ⊥
      by (inl h) =
          let ended = has_ended_of (state_after w (lines_of (seen_list pass))) h in
          let last = goes_no_further w (after_lines w (opened w) (lines_of (seen_list pass))) (lines_of prefix.0) reg ended
          (steps_last w (opened w) (lines_of (seen_list pass)) (lines_of prefix.0) steps) in
          let same : lines_of (seen_list pass) ≡ b.lines.items = sym (append_nil (lines_of (seen_list pass)))
          ∙ (ap (λ (ls : List Line). lines_of (seen_list pass) ++ ls) (sym last) ∙ lines_are) in
          subst (λ (ls : List Line). end_word (state_after w ls) ≡ None → ⊥) same (word_of (state_after w (lines_of (seen_list pass))) ended)
      by (inr h) =
          let there : list_any is_stop (seen_list pass) ≡ true = rw h.1.1 (has_stop (events h.1.0) h.0 []) in
          let all : list_any is_stop (events b.lines.items) ≡ true = subst (λ (ns : List Noted). list_any is_stop ns ≡ true) (prefix.1 ∙ sym notes_are)
          (any_first (seen_list pass) prefix.0 there) in
          let none = no_stop b.lines.items in
          absurd (cc)

  -- the same, of any of the passes that have come back
  pub closed_all : (passes : List (Pass Noted)) → 1 ≤ length passes → IsBookOf state w b notes → b.stop ≡ None → All (HasSeenEnd w) passes → All (Extends notes) passes
      → All (λ n. owner_of n < cpus) notes → IsClosed state w cpus b
  closed_all [] few book going seen extends owned = absurd (omega (arith, few))
  closed_all (pass ∷ passes) few book going seen extends owned = let e = extends 0 pass (omega arith) in closed pass book going (seen 0 pass (omega arith)) e.0 owned

-- the record of a closed book
pub book_recorded : {K J : Type 0} (state : K → State) (w : WorldValue) (cpus : ℕ) (b : Book K J) (k kernel : K) (lines : List Line) (end : End) (word : Option End)
    (status : ℕ) (text : List ℕ) → MayRun cpus → IsClosed state w cpus b
    → k ≡ b.kernel → word ≡ end_word (state k) → word ≡ Some end → lines ≡ b.lines.items → IsRecord w lines end status text → kernel ≡ b.kernel
    → IsRecorded (words_of (command.RunOn cpus)) w status text (Some (state kernel))
book_recorded {K} {J} state w cpus b k kernel lines end word status text may closed k_is word_is end_is lines_are record_is kernel_is = record {
  lines = b.lines.items;
  end = end;
  run = shared cpus (refl, may) (record {
    legal = record { steps = closed.steps; ends = ap end_word (sym closed.kernel) ∙ (ap (λ (x : K). end_word (state x)) (sym k_is) ∙ (sym word_is ∙ end_is)) };
    below = closed.below;
  });
  record_is = subst (λ (ls : List Line). IsRecord w ls end status text) lines_are record_is;
  kernel = ap (λ (x : K). Some (state x)) kernel_is ∙ ap Some closed.kernel;
}

-- ---- passes

-- however a worker has ended, its pass has seen an end
pub seen_end : (w : WorldValue) (cpu : Cpu) (notes : List Noted) (how : How) → Ends w cpu notes how → IsEnd w notes
seen_end w cpu notes ended.Over h = inl h
seen_end w cpu notes ended.Stopped h = inr h
seen_end w cpu notes ended.NoMemory h = inr (cpu, h)

-- new passes are fresh, where there are at most 16
pub new_fresh : {T : Type 0} (turns : Turns T Noted) (passes : List (Pass Noted)) → length passes ≤ 16 → AreNewPasses turns 0 passes → All (IsFresh turns) passes
new_fresh turns passes few new k d l = let h = new k d l in let n = h.1 in (h.0, omega (arith, n, l, few), h.2)
