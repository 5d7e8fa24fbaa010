-- The rounds of one process of a generated world, which runs alone: those before it have ended, and those behind it wait for their
-- dispatch.
use Rattle.std.proofs.Common.{◌≡◌, ℕ, zero, suc, ◌+◌, ◌*◌, ◌<◌, ◌≤◌, List, [], ◌∷◌, ◌++◌, length, true, Option, Some, None, Ok, refl, sym, ◌∙◌, ap, arith, subst}
use Rattle.std.specs.Prelude.{count_by, ◌==◌, nat_lt}
use Rattle.std.specs.Option.{unwrap_or}
use Rattle.std.specs.Map.{lookup, remove_entry}
use Rattle.std.proofs.lemmas.Bool.Decides.{nat_tests}
use Rattle.hk_model.specs.declared.names.Inc.{Inc}
use Rattle.hk_model.specs.declared.names.Proc.{Proc}
use Rattle.hk_model.specs.declared.calls.Answer.{Answer}
use Rattle.hk_model.specs.declared.calls.Answer.TheVariants.{Done, Word}
use Rattle.hk_model.specs.declared.calls.Call.{Call}
use Rattle.hk_model.specs.declared.calls.Call.TheVariants as call
use Rattle.hk_model.specs.declared.frames.Todo.TheVariants.{Do}
use Rattle.hk_model.specs.declared.objects.Incarnation.{Incarnation}
use Rattle.hk_model.specs.declared.objects.Process.{Process}
use Rattle.hk_model.specs.declared.objects.ProcessState.TheVariants.{Running, Ended}
use Rattle.hk_model.specs.Limits.{event_limit}
use Rattle.hk_model.specs.State.{State, same_inc}
use Rattle.hk_model.specs.Opening.{base_of}
use Rattle.hk_model.specs.Rule.{Outcome, outcome, answered, counted}
use Rattle.hk_model.specs.Processors.{entered_code}
use Rattle.hk_model.specs.Control.{Context, new_frame, next, after}
use Rattle.hk_model.specs.Running.{Machine}
use Rattle.hk_model.specs.Generated.{generate, slot, main, main_slots, cbump}
use Rattle.hk_gen.specs.WholeRuns.{first_processor}
use Rattle.hk_gen.proofs.StageLists.{AllEnded, AllBelow, get_middle, set_middle, runner_middle, lookup_last, insert_last, remove_last, below_higher}
use Rattle.hk_gen.proofs.Stages.{stage, following, callee, main_frame, bump_frame}
use Rattle.hk_gen.proofs.Stages.{nothing_vanishes, takes, gives, enters, entered, enters_bump, gets, puts, leaves, ends}
use Rattle.hk_gen.proofs.Stages.{next_takes, next_enters, next_gets, next_puts, next_leaves, next_gives, next_again, next_ends}
use Rattle.hk_gen.proofs.Stages.{after_takes, after_enters, after_gets, after_puts, after_leaves, after_gives}
use Rattle.hk_gen.proofs.StageSteps.{Ends, ends_after_call}

-- a lower number passes the test
pub is_below : (a b : ℕ) → a < b → nat_lt a b ≡ true
is_below a b h = grind (arith, nat_tests)

-- numbers as numbers of incarnations and processes
abbrev pub inc : ℕ → Inc
inc n = record { 0 = n }

abbrev pub proc : ℕ → Proc
proc n = record { 0 = n }

-- a process on the processor, with this current incarnation
abbrev pub running : ℕ → Process
running current = record { run = Running first_processor; current = inc current }

-- a process that has ended in this incarnation
abbrev pub over : ℕ → Process
over current = record { run = Ended; current = inc current }

-- the incarnations during a call of process n
abbrev pub called : ℕ → List (Inc × Incarnation) → ℕ → List (Inc × Incarnation)
called n incs next_inc = incs ++ (inc next_inc, callee (proc n) (inc n)) ∷ []

-- a state with its contexts
abbrev pub machine : State → List Context → Machine
machine s contexts = record { state = s; contexts = contexts }

module _ (count n : ℕ) (done later : List Process) (past waiting : List Context) (ready : List Proc) where
  -- the state in which the process is so
  abbrev pub state_of : Process → ℕ → ℕ → List (Inc × Incarnation) → ℕ → ℕ → State
  state_of p word tokens incs next_inc events = stage word tokens incs (done ++ p ∷ later) ready next_inc events

  -- each run from that state and this context of the process ends with every process ended
  abbrev pub EndsWith : State → Context → Type 0
  EndsWith s context = Ends (generate count) (machine s (past ++ context ∷ waiting))

  module _ (ended : AllEnded done) (many : length done ≡ n) (many_contexts : length past ≡ n) where
    -- one call of the process
    turn : (word tokens current next_inc events : ℕ) (incs : List (Inc × Incarnation)) (context : Context) (c : Call) (found left : Context) (answer : Answer) (code : Option ℕ)
        (new_word new_tokens new_next : ℕ) (new_incs : List (Inc × Incarnation)) (new : Process) → events < event_limit
        → next (generate count) context ≡ (Do c, found)
        → outcome (state_of (running current) word tokens incs next_inc events) (proc n) (inc current) c ≡ Ok (answer, state_of new new_word new_tokens new_incs new_next events)
        → entered_code (state_of (running current) word tokens incs next_inc events) (inc current) c (answered answer) ≡ code
        → after (generate count) found c (answered answer) code ≡ left
        → EndsWith (state_of new new_word new_tokens new_incs new_next (events + 1)) left → EndsWith (state_of (running current) word tokens incs next_inc events) context
    turn word tokens current next_inc events incs context c found left answer code new_word new_tokens new_next new_incs new few next_is outcome_is enters leaves last =
        ends_after_call (generate count) (machine (state_of (running current) word tokens incs next_inc events) (past ++ context ∷ waiting)) (proc n) (running current)
        c found left answer (state_of new new_word new_tokens new_incs new_next events) (state_of new new_word new_tokens new_incs new_next (events + 1)) code
        (is_below events event_limit few) (runner_middle done (running current) later first_processor 0 n ended refl (omega arith)) (get_middle done (running current) later n many)
        (ap (λ (o : Option Context). next (generate count) (unwrap_or o [])) (get_middle past context waiting n many_contexts) ∙ next_is) outcome_is
        (ap (λ (s : State). counted (events + 1) s) (nothing_vanishes new_word new_incs (done ++ new ∷ later) ready new_next events new_tokens)) enters leaves
        (subst (λ (contexts : List Context). Ends (generate count) (machine (state_of new new_word new_tokens new_incs new_next (events + 1)) contexts))
        (sym (set_middle past context left waiting n many_contexts)) last)

    module _ (incs others : List (Inc × Incarnation)) (base : lookup (same_inc (inc n)) incs ≡ Some (base_of (proc n) main_slots))
        (alone : count_by (λ (e : Inc × Incarnation). e.1.proc.0 == n) incs ≡ 1) (gone : remove_entry (same_inc (inc n)) incs ≡ others) where
      -- it takes the token
      take_turn : (context : Context) (word rounds next_inc events : ℕ) → events < event_limit
          → next (generate count) context ≡ (Do (call.P (2 ∷ [])), main_frame 0 rounds ∷ [])
          → EndsWith (state_of (running n) word 0 incs next_inc (events + 1)) (main_frame 1 rounds ∷ []) → EndsWith (state_of (running n) word 1 incs next_inc events) context
      take_turn context word rounds next_inc events few next_is last =
          turn word 1 n next_inc events incs context (call.P (2 ∷ [])) (main_frame 0 rounds ∷ []) (main_frame 1 rounds ∷ []) Done None
          word 0 next_inc incs (running n) few next_is
          (takes word incs (done ++ running n ∷ later) ready next_inc events (proc n) (inc n) base) refl (after_takes count rounds) last

      -- with the token it enters the procedure
      enter_turn : (word rounds next_inc events : ℕ) → AllBelow next_inc incs → events < event_limit
          → EndsWith (state_of (running next_inc) word 0 (called n incs next_inc) (next_inc + 1) (events + 1)) (bump_frame 0 0 ∷ main_frame 2 rounds ∷ [])
          → EndsWith (state_of (running n) word 0 incs next_inc events) (main_frame 1 rounds ∷ [])
      enter_turn word rounds next_inc events below few last =
          turn word 0 n next_inc events incs (main_frame 1 rounds ∷ []) (call.Enter (0 ∷ []) (1 ∷ []) (slot 3)) (main_frame 1 rounds ∷ [])
          (bump_frame 0 0 ∷ main_frame 2 rounds ∷ []) Done (Some cbump)
          word 0 (next_inc + 1) (called n incs next_inc) (running next_inc) few (next_enters count rounds)
          (enters word incs (done ++ running n ∷ later) ready next_inc events (proc n) (inc n) base alone
          ∙ ap (λ (s : State). let made : Outcome = Ok (Done, s) in made)
          (entered word incs (done ++ running n ∷ later) ready next_inc events (proc n) (inc n) (inc n) (called n incs next_inc) (running n) (done ++ running next_inc ∷ later)
          (insert_last incs next_inc (callee (proc n) (inc n)) below) (get_middle done (running n) later n many) (set_middle done (running n) (running next_inc) later n many)))
          (enters_bump word incs (done ++ running n ∷ later) ready next_inc events (proc n) (inc n) base) (after_enters count rounds) last

      -- the procedure gets the word
      get_turn : (word number next_inc events : ℕ) (rest : Context) → AllBelow number incs → events < event_limit
          → EndsWith (state_of (running number) word 0 (called n incs number) next_inc (events + 1)) (bump_frame 1 word ∷ rest)
          → EndsWith (state_of (running number) word 0 (called n incs number) next_inc events) (bump_frame 0 0 ∷ rest)
      get_turn word number next_inc events rest below few last =
          turn word 0 number next_inc events (called n incs number) (bump_frame 0 0 ∷ rest) (call.Get (0 ∷ []) 0) (bump_frame 0 0 ∷ rest) (bump_frame 1 word ∷ rest)
          (Word word) None word 0 next_inc (called n incs number) (running number) few (next_gets count 0 rest)
          (gets word (called n incs number) (done ++ running number ∷ later) ready next_inc events (proc n) (inc number) (inc n)
          (lookup_last incs number (callee (proc n) (inc n)) below))
          refl (after_gets count word 0 rest) last

      -- it puts the next one
      put_turn : (word number next_inc events : ℕ) (rest : Context) → AllBelow number incs → events < event_limit
          → EndsWith (state_of (running number) (following word) 0 (called n incs number) next_inc (events + 1)) (bump_frame 3 (following word) ∷ rest)
          → EndsWith (state_of (running number) word 0 (called n incs number) next_inc events) (bump_frame 1 word ∷ rest)
      put_turn word number next_inc events rest below few last =
          turn word 0 number next_inc events (called n incs number) (bump_frame 1 word ∷ rest) (call.Put (0 ∷ []) 0 (following word)) (bump_frame 2 (following word) ∷ rest)
          (bump_frame 3 (following word) ∷ rest) Done None (following word) 0 next_inc (called n incs number) (running number) few (next_puts count word rest)
          (puts word (called n incs number) (done ++ running number ∷ later) ready next_inc events (proc n) (inc number) (inc n) (following word)
          (lookup_last incs number (callee (proc n) (inc n)) below))
          refl (after_puts count (following word) (following word) rest) last

      -- it returns
      leave_turn : (word held number next_inc events : ℕ) (rest : Context) → AllBelow number incs → events < event_limit
          → EndsWith (state_of (running n) word 0 incs next_inc (events + 1)) rest
          → EndsWith (state_of (running number) word 0 (called n incs number) next_inc events) (bump_frame 3 held ∷ rest)
      leave_turn word held number next_inc events rest below few last =
          turn word 0 number next_inc events (called n incs number) (bump_frame 3 held ∷ rest) (call.Leave None) (bump_frame 3 held ∷ rest) rest Done None
          word 0 next_inc incs (running n) few (next_leaves count held rest)
          (leaves word (called n incs number) (done ++ running number ∷ later) ready next_inc events (proc n) (inc number) (inc n) incs (running number) (done ++ running n ∷ later)
          (lookup_last incs number (callee (proc n) (inc n)) below) (remove_last incs number (callee (proc n) (inc n)) below) (get_middle done (running number) later n many)
          (set_middle done (running number) (running n) later n many))
          refl (after_leaves count (bump_frame 3 held) rest) last

      -- the process gives the token back
      give_turn : (word rounds next_inc events : ℕ) → events < event_limit
          → EndsWith (state_of (running n) word 1 incs next_inc (events + 1)) (main_frame 3 rounds ∷ [])
          → EndsWith (state_of (running n) word 0 incs next_inc events) (main_frame 2 rounds ∷ [])
      give_turn word rounds next_inc events few last =
          turn word 0 n next_inc events incs (main_frame 2 rounds ∷ []) (call.V (2 ∷ [])) (main_frame 2 rounds ∷ []) (main_frame 3 rounds ∷ []) Done None
          word 1 next_inc incs (running n) few (next_gives count rounds)
          (gives word incs (done ++ running n ∷ later) ready next_inc events (proc n) (inc n) base) refl (after_gives count rounds) last

      -- at last it ends
      end_turn : (word rounds next_inc events : ℕ) → events < event_limit → rounds + 1 ≡ 100
          → EndsWith (state_of (over n) word 1 others next_inc (events + 1)) [] → EndsWith (state_of (running n) word 1 incs next_inc events) (main_frame 3 rounds ∷ [])
      end_turn word rounds next_inc events few last_round last =
          turn word 1 n next_inc events incs (main_frame 3 rounds ∷ []) (call.Leave None) (main_frame 5 100 ∷ []) [] Done None
          word 1 next_inc others (over n) few (next_ends count rounds last_round)
          (ends word incs (done ++ running n ∷ later) ready next_inc events (proc n) (inc n) others (running n) (done ++ over n ∷ later) base gone
          (get_middle done (running n) later n many) (set_middle done (running n) (over n) later n many))
          refl (after_leaves count (main_frame 5 100) []) last

      -- a round, from behind its P to behind its V
      round : (word rounds next_inc events : ℕ) → AllBelow next_inc incs → events + 5 ≤ event_limit
          → EndsWith (state_of (running n) (following word) 1 incs (next_inc + 1) (events + 1 + 1 + 1 + 1 + 1)) (main_frame 3 rounds ∷ [])
          → EndsWith (state_of (running n) word 0 incs next_inc events) (main_frame 1 rounds ∷ [])
      round word rounds next_inc events below few last =
          enter_turn word rounds next_inc events below (omega arith)
          (get_turn word next_inc (next_inc + 1) (events + 1) (main_frame 2 rounds ∷ []) below (omega arith)
          (put_turn word next_inc (next_inc + 1) (events + 1 + 1) (main_frame 2 rounds ∷ []) below (omega arith)
          (leave_turn (following word) (following word) next_inc (next_inc + 1) (events + 1 + 1 + 1) (main_frame 2 rounds ∷ []) below (omega arith)
          (give_turn (following word) rounds (next_inc + 1) (events + 1 + 1 + 1 + 1) (omega arith) last))))

      -- where each run comes to the end once the process has ended, and `behind` events can still be, it does with so many rounds before it
      -- besides this one
      pub rounds_end : (behind : ℕ)
          → ((word next_inc events : ℕ) → AllBelow next_inc incs → events + behind ≤ event_limit → EndsWith (state_of (over n) word 1 others next_inc events) [])
          → (left word rounds next_inc events : ℕ) → rounds + suc left ≡ 100 → AllBelow next_inc incs → events + 6 * suc left + behind ≤ event_limit
          → EndsWith (state_of (running n) word 0 incs next_inc events) (main_frame 1 rounds ∷ [])
      rounds_end behind last zero word rounds next_inc events all below few =
          round word rounds next_inc events below (omega arith)
          (end_turn (following word) rounds (next_inc + 1) (events + 1 + 1 + 1 + 1 + 1) (omega arith) (omega arith)
          (last (following word) (next_inc + 1) (events + 1 + 1 + 1 + 1 + 1 + 1) (below_higher incs next_inc (next_inc + 1) (omega arith) below) (omega arith)))
      rounds_end behind last (suc left) word rounds next_inc events all below few =
          round word rounds next_inc events below (omega arith)
          (take_turn (main_frame 3 rounds ∷ []) (following word) (rounds + 1) (next_inc + 1) (events + 1 + 1 + 1 + 1 + 1) (omega arith)
          (next_again count rounds (omega arith) (is_below (rounds + 1) 100 (omega arith)))
          (rounds_end behind last left (following word) (rounds + 1) (next_inc + 1) (events + 1 + 1 + 1 + 1 + 1 + 1) (omega arith)
          (below_higher incs next_inc (next_inc + 1) (omega arith) below) (omega arith)))

      -- so it does from the process's beginning: its first P and a hundred rounds are 601 events
      pub process_ends : (behind : ℕ)
          → ((word next_inc events : ℕ) → AllBelow next_inc incs → events + behind ≤ event_limit → EndsWith (state_of (over n) word 1 others next_inc events) [])
          → (word next_inc events : ℕ) → AllBelow next_inc incs → events + 601 + behind ≤ event_limit
          → EndsWith (state_of (running n) word 1 incs next_inc events) (new_frame main ∷ [])
      process_ends behind last word next_inc events below few =
          take_turn (main_frame 0 0 ∷ []) word 0 next_inc events (omega arith) (next_takes count)
          (rounds_end behind last 99 word 0 next_inc (events + 1) refl below (omega arith))
