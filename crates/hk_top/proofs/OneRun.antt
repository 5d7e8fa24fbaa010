-- A world has one whole run on processor 0, and a run by one processor is that run.
use Rattle.std.specs.Prelude.{◌≡◌, ◌||◌, ◌&&◌, not, ℕ, suc, ◌<◌, List, [], ◌∷◌, Bool, true, false, Option, Some, None, All, option_map, refl}
use Rattle.std.specs.List.{list_all, list_any}
use Rattle.std.proofs.Common.{arith, ap, sym, ◌∙◌, subst, cond}
use Rattle.hk_model.specs.declared.lines.Line.{Line}
use Rattle.hk_model.specs.declared.lines.End.{End}
use Rattle.hk_model.specs.declared.lines.End.TheVariants as end
use Rattle.hk_model.specs.declared.objects.Process.{Process}
use Rattle.hk_model.specs.declared.objects.ProcessState.{ProcessState}
use Rattle.hk_model.specs.declared.objects.ProcessState.TheVariants.{Ready, Running, Waiting, Ended}
use Rattle.hk_model.specs.WorldValue.{WorldValue, IsWorld}
use Rattle.hk_model.specs.State.{State}
use Rattle.hk_model.specs.Processors.{has_ended, is_ready, is_running, is_waiting, may_step}
use Rattle.hk_model.specs.Running.{Machine, AreSteps, after_lines, line_of, moved, opened, state_after}
use Rattle.hk_model.specs.Legal.{end_word}
use Rattle.hk_program.proofs.Machines.{sound_after, sound_kept}
use Rattle.hk_top.specs.Runs.{first_processor, IsRunBy, IsWholeRun}
use Rattle.hk_top.proofs.Ends.{AreStill}
use Rattle.hk_top.proofs.Closing.{HasEnded, at_limit, still, no_step}

-- ---- one run

abbrev AreAlone : List Line → Type 0
AreAlone lines = All (λ (line : Line). line.cpu ≡ first_processor) lines

-- the first of lines that are steps of processor 0 is its step
first_line : (w : WorldValue) (m : Machine) (line : Line) (lines : List Line) → AreSteps w m (line ∷ lines) → AreAlone (line ∷ lines) → line_of w m first_processor ≡ Some line
first_line w m line lines steps alone = ap (line_of w m) (sym (alone 0 line (omega arith))) ∙ steps.0

behind : (line : Line) (lines : List Line) → AreAlone (line ∷ lines) → AreAlone lines
behind line lines alone k d l = alone (suc k) d (omega (arith, l))

one_from : (w : WorldValue) (m : Machine) (lines others : List Line) → AreSteps w m lines → AreSteps w m others → AreAlone lines → AreAlone others
    → line_of w (after_lines w m lines) first_processor ≡ None
    → line_of w (after_lines w m others) first_processor ≡ None → lines ≡ others
one_from w m [] [] s t a b e f = refl
one_from w m [] (o ∷ os) s t a b e f = let some = first_line w m o os t b in absurd (cc)
one_from w m (l ∷ ls) [] s t a b e f = let some = first_line w m l ls s a in absurd (cc)
one_from w m (l ∷ ls) (o ∷ os) s t a b e f =
    let mine = first_line w m l ls s a in
    let other = first_line w m o os t b in
    let same : o ≡ l = cc in
    let steps : AreSteps w (moved w m l.cpu) os = subst (λ (x : Line). AreSteps w (moved w m x.cpu) os) same t.1 in
    let none : line_of w (after_lines w (moved w m l.cpu) os) first_processor ≡ None = subst
    (λ (x : Line). line_of w (after_lines w (moved w m x.cpu) os) first_processor ≡ None) same f in
    let rest = one_from w (moved w m l.cpu) ls os s.1 steps (behind l ls a) (behind o os b) e none in
    ap (λ (xs : List Line). l ∷ xs) rest ∙ ap (λ (x : Line). x ∷ os) (sym same)

no_line_last : (w : WorldValue) (lines : List Line) (e : End) → IsWholeRun w lines e → line_of w (after_lines w (opened w) lines) first_processor ≡ None
no_line_last w lines e h = ap (λ (found : Option (Line × Machine)). option_map (λ f. f.0) found) h.last

pub one_run : (w : WorldValue) (lines others : List Line) (e other : End) → IsWholeRun w lines e → IsWholeRun w others other → (lines ≡ others) × (e ≡ other)
one_run w lines others e other h k =
    let same = one_from w (opened w) lines others h.legal.steps k.legal.steps h.alone k.alone (no_line_last w lines e h) (no_line_last w others other k) in
    let mine : Some e ≡ end_word (state_after w lines) = sym h.legal.ends in
    let both : Some e ≡ Some other = mine ∙ (ap (λ (ls : List Line). end_word (state_after w ls)) same ∙ k.legal.ends) in
    (same, cc)

-- ---- one processor

all_ended : (ps : List Process) → list_all (λ (p : Process). has_ended p.run) ps ≡ true → AreStill ps
all_ended [] h = refl
all_ended (p ∷ ps) h = by p.run (all_ended ps) h
  where
    by : (run : ProcessState) → (list_all (λ (p : Process). has_ended p.run) ps ≡ true → AreStill ps) → (has_ended run && list_all (λ (p : Process). has_ended p.run) ps) ≡ true
        → ((is_ready run || is_running run) || list_any (λ (p : Process). is_ready p.run || is_running p.run) ps) ≡ false
    by Ready rest h = absurd (cc)
    by (Running cpu) rest h = absurd (cc)
    by (Waiting at) rest h = absurd (cc)
    by Ended rest h = rest h

-- a state that has an end word has ended
word_ended : (s : State) (e : End) → end_word s ≡ Some e → HasEnded s
word_ended s e h =
    by (list_all (λ (p : Process). has_ended p.run) s.processes) (list_any (λ (p : Process). is_ready p.run || is_running p.run) s.processes)
    (list_any (λ (p : Process). is_waiting p.run) s.processes) (may_step s) refl refl refl h
  where
    by : (ended busy waits may : Bool) → list_all (λ (p : Process). has_ended p.run) s.processes ≡ ended
        → list_any (λ (p : Process). is_ready p.run || is_running p.run) s.processes ≡ busy → may_step s ≡ may
        → cond ended (Some end.Done) (cond (not busy && waits) (Some end.Stuck) (cond (not may) (Some end.Limit) None)) ≡ Some e → HasEnded s
    by true busy waits may a b c g = still (all_ended s.processes a)
    by false false waits may a b c g = still b
    by false true waits false a b c g = at_limit c
    by false true waits true a b c g = absurd (cc)

only_first : (lines : List Line) → All (λ (line : Line). line.cpu.0 < 1) lines → AreAlone lines
only_first lines h k d l = let low = h k d l in ap (λ (n : ℕ). record { 0 = n }) (omega (arith, low))

pub runs_alone : (w : WorldValue) (lines : List Line) (e : End) → IsWorld w → IsRunBy w 1 lines e → IsWholeRun w lines e
runs_alone w lines e world h = record {
  legal = h.legal;
  alone = only_first lines h.below;
  last =
      no_step w (after_lines w (opened w) lines) first_processor (sound_kept w (after_lines w (opened w) lines) (sound_after w lines h.legal.steps world)).regular
      (word_ended (state_after w lines) e h.legal.ends);
}
