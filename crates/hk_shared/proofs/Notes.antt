-- Lists of notes: their lines, and what they show.
use Rattle.std.specs.Prelude.{◌≡◌, ◌≢◌, ℕ, suc, ◌+◌, ◌≤◌, List, [], ◌∷◌, ◌++◌, length, Option, Some, None, refl, All}
use Rattle.std.proofs.Common.{arith, ap, sym, ◌∙◌, subst, length-append}
use Rattle.hk_model.specs.declared.names.Proc.{Proc}
use Rattle.hk_model.specs.declared.names.Cpu.{Cpu}
use Rattle.hk_model.specs.declared.lines.Line.{Line}
use Rattle.hk_model.specs.WorldValue.{WorldValue, IsWorld}
use Rattle.hk_model.specs.Processors.{runner}
use Rattle.hk_model.specs.Running.{Machine, context_of, moved, opened, after_lines, AreSteps, AreStepsOf}
use Rattle.hk_program.specs.Machines.{IsSound}
use Rattle.hk_program.proofs.Machines.{sound_after, moved_sound, other_runs, other_context}
use Rattle.hk_turn.specs.Rule.{GoesOn}
use Rattle.hk_procs.specs.declared.notes.Noted.{Noted}
use Rattle.hk_procs.specs.declared.notes.Noted.TheVariants.{Event, Stop}
use Rattle.hk_procs.specs.Notes.{owner_of, lines_of, events, IsGoing, IsStopped}
use Rattle.hk_procs.specs.Shown.{machine_shown, state_shown}
use Rattle.hk_shared.specs.Books.{stops}

-- ---- lists

pub append_nil : {A : Type 0} (xs : List A) → xs ++ [] ≡ xs
append_nil [] = refl
append_nil (x ∷ xs) = ap (λ ys. x ∷ ys) (append_nil xs)

pub lines_append : (xs ys : List Noted) → lines_of (xs ++ ys) ≡ lines_of xs ++ lines_of ys
lines_append [] ys = refl
lines_append (Event line ∷ xs) ys = ap (λ ls. line ∷ ls) (lines_append xs ys)
lines_append (Stop cpu ∷ xs) ys = lines_append xs ys

lines_events : (ls : List Line) → lines_of (events ls) ≡ ls
lines_events [] = refl
lines_events (l ∷ ls) = ap (λ ks. l ∷ ks) (lines_events ls)

-- the lines of a book's notes are the book's
pub lines_book : (ls : List Line) (stop : Option Cpu) → lines_of (events ls ++ stops stop) ≡ ls
lines_book ls None = lines_append (events ls) [] ∙ (append_nil (lines_of (events ls)) ∙ lines_events ls)
lines_book ls (Some cpu) = lines_append (events ls) (Stop cpu ∷ []) ∙ (append_nil (lines_of (events ls)) ∙ lines_events ls)

events_snoc : (ls : List Line) (l : Line) → events (ls ++ l ∷ []) ≡ events ls ++ Event l ∷ []
events_snoc [] l = refl
events_snoc (k ∷ ls) l = ap (λ ns. Event k ∷ ns) (events_snoc ls l)

-- one line more of a book without a stop
pub one_more : (ls : List Line) (l : Line) (stop : Option Cpu) → stop ≡ None → events (ls ++ l ∷ []) ++ stops stop ≡ (events ls ++ stops stop) ++ Event l ∷ []
one_more ls l stop e =
    ap (λ (o : Option Cpu). events (ls ++ l ∷ []) ++ stops o) e ∙ (append_nil (events (ls ++ l ∷ [])) ∙ (events_snoc ls l
    ∙ ap (λ (ns : List Noted). ns ++ Event l ∷ []) (sym (append_nil (events ls)) ∙ ap (λ (o : Option Cpu). events ls ++ stops o) (sym e))))

-- a stop of a book without one
pub stops_now : (ls : List Line) (stop : Option Cpu) (cpu : Cpu) → stop ≡ None → events ls ++ Stop cpu ∷ [] ≡ (events ls ++ stops stop) ++ Stop cpu ∷ []
stops_now ls stop cpu e = ap (λ (ns : List Noted). ns ++ Stop cpu ∷ []) (sym (append_nil (events ls)) ∙ ap (λ (o : Option Cpu). events ls ++ stops o) (sym e))

pub is_going : (ls : List Line) (stop : Option Cpu) → stop ≡ None → IsGoing (events ls ++ stops stop)
is_going ls stop e = (ls, ap (λ (o : Option Cpu). events ls ++ stops o) e ∙ append_nil (events ls))

pub is_stopped : (ls : List Line) (stop : Option Cpu) (cpu : Cpu) → stop ≡ Some cpu → IsStopped (events ls ++ stops stop)
is_stopped ls stop cpu e = (cpu, (ls, ap (λ (o : Option Cpu). events ls ++ stops o) e))

length_events : (ls : List Line) → length (events ls) ≡ length ls
length_events [] = refl
length_events (l ∷ ls) = ap suc (length_events ls)

length_stops : (stop : Option Cpu) → length (stops stop) ≤ 1
length_stops None = omega arith
length_stops (Some cpu) = omega arith

-- a book has at most one note more than lines
pub few_notes : (ls : List Line) (stop : Option Cpu) → length (events ls ++ stops stop) ≤ length ls + 1
few_notes ls stop = let a = length-append (events ls) (stops stop) in let b = length_events ls in let c = length_stops stop in omega (arith, a, b, c)

-- ---- going on

pub goes_self : (number : ℕ) (notes : List Noted) → GoesOn owner_of number notes notes
goes_self number notes = ([], sym (append_nil notes), λ k d l. absurd (omega (arith, l)))

-- ---- other processors

pub after_append : (w : WorldValue) (m : Machine) (xs ys : List Line) → after_lines w m (xs ++ ys) ≡ after_lines w (after_lines w m xs) ys
after_append w m [] ys = refl
after_append w m (x ∷ xs) ys = after_append w (moved w m x.cpu) xs ys

pub steps_first : (w : WorldValue) (m : Machine) (xs ys : List Line) → AreSteps w m (xs ++ ys) → AreSteps w m xs
steps_first w m [] ys h = tt
steps_first w m (x ∷ xs) ys h = (h.0, steps_first w (moved w m x.cpu) xs ys h.1)

-- lines of other processors
abbrev pub AreOthers : Cpu → List Line → Type 0
AreOthers cpu [] = Unit {0}
AreOthers cpu (line ∷ lines) = (cpu.0 ≡ line.cpu.0 → ⊥) × AreOthers cpu lines

others_of : (cpu : Cpu) (rest : List Noted) → All (λ n. owner_of n ≢ cpu.0) rest → AreOthers cpu (lines_of rest)
others_of cpu [] h = tt
others_of cpu (Event line ∷ rest) h = ((λ e. h 0 (Event line) (omega arith) (sym e)), others_of cpu rest (λ k d l. h (suc k) d (omega (arith, l))))
others_of cpu (Stop other ∷ rest) h = others_of cpu rest (λ k d l. h (suc k) d (omega (arith, l)))

others_run : (w : WorldValue) (m : Machine) (cpu : Cpu) (rest : List Line) → IsSound w m → AreOthers cpu rest → runner (after_lines w m rest).state cpu ≡ runner m.state cpu
others_run w m cpu [] sound h = refl
others_run w m cpu (line ∷ rest) sound h =
    others_run w (moved w m line.cpu) cpu rest (moved_sound w m line.cpu sound) h.1 ∙ other_runs w m cpu line.cpu sound h.0

others_context : (w : WorldValue) (m : Machine) (cpu : Cpu) (proc : Proc) (rest : List Line) → IsSound w m → AreOthers cpu rest → runner m.state cpu ≡ Some proc
    → context_of (after_lines w m rest) proc ≡ context_of m proc
others_context w m cpu proc [] sound h r = refl
others_context w m cpu proc (line ∷ rest) sound h r =
    others_context w (moved w m line.cpu) cpu proc rest (moved_sound w m line.cpu sound) h.1 (other_runs w m cpu line.cpu sound h.0 ∙ r)
    ∙ other_context w m cpu line.cpu proc h.0 r

-- what a list of notes shows of a processor, the lists that go on from it without a note of that processor show too
module _ (w : WorldValue) (world : IsWorld w) (cpu : Cpu) (seen found : List Noted) (goes : GoesOn owner_of cpu.0 seen found) (steps : AreStepsOf w (lines_of found)) where
  rest : List Line
  rest = lines_of goes.0

  lines_are : lines_of found ≡ lines_of seen ++ lines_of goes.0
  lines_are = ap lines_of goes.1 ∙ lines_append seen goes.0

  machine_is : machine_shown w found ≡ after_lines w (machine_shown w seen) (lines_of goes.0)
  machine_is = ap (λ (ls : List Line). after_lines w (opened w) ls) lines_are ∙ after_append w (opened w) (lines_of seen) (lines_of goes.0)

  sound : IsSound w (machine_shown w seen)
  sound = sound_after w (lines_of seen) (steps_first w (opened w) (lines_of seen) (lines_of goes.0) (subst (λ (ls : List Line). AreStepsOf w ls) lines_are steps)) world

  pub runner_same : runner (state_shown w found) cpu ≡ runner (state_shown w seen) cpu
  runner_same = ap (λ (m : Machine). runner m.state cpu) machine_is ∙ others_run w (machine_shown w seen) cpu (lines_of goes.0) sound (others_of cpu goes.0 goes.2)

  pub context_same : (proc : Proc) → runner (state_shown w seen) cpu ≡ Some proc → context_of (machine_shown w found) proc ≡ context_of (machine_shown w seen) proc
  context_same proc r =
      ap (λ (m : Machine). context_of m proc) machine_is ∙ others_context w (machine_shown w seen) cpu proc (lines_of goes.0) sound (others_of cpu goes.0 goes.2) r
