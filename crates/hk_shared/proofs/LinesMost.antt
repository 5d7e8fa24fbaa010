-- A history has at most as many lines as the limit.
use Rattle.std.specs.Prelude.{◌≡◌, ◌+◌, ◌<◌, ◌≤◌, List, [], ◌∷◌, length, Bool, true, false, Option, Some, None, option_map, refl}
use Rattle.std.proofs.Common.{arith, ap, sym, ◌∙◌}
use Rattle.std.proofs.lemmas.Bool.Decides.{nat_tests}
use Rattle.hk_model.specs.declared.lines.Line.{Line}
use Rattle.hk_model.specs.WorldValue.{WorldValue, IsWorld}
use Rattle.hk_model.specs.Processors.{may_step}
use Rattle.hk_model.specs.Running.{Machine, line_of, moved, opened, AreSteps, AreStepsOf}
use Rattle.hk_model.proofs.EventCounts.{events_next, opened_events}
use Rattle.hk_program.specs.Machines.{IsSound}
use Rattle.hk_program.proofs.Machines.{sound_kept, moved_sound, opened_sound}
use Rattle.hk_program.proofs.StepCases.{no_step}

may_of : (w : WorldValue) (m : Machine) (line : Line) (b : Bool) → may_step m.state ≡ b → line_of w m line.cpu ≡ Some line → may_step m.state ≡ true
may_of w m line true e h = e
may_of w m line false e h =
    let none : line_of w m line.cpu ≡ None = ap (λ (found : Option (Line × Machine)). option_map (λ f. f.0) found) (no_step w m line.cpu e) in
    let clash : ◌≡◌ {A = Option Line} None (Some line) = sym none ∙ h in
    absurd (cc)

most_from : (w : WorldValue) (m : Machine) (lines : List Line) → IsSound w m → m.state.events ≤ w.limit → AreSteps w m lines → m.state.events + length lines ≤ w.limit
most_from w m [] sound few h = omega (arith, few)
most_from w m (line ∷ lines) sound few h =
    let may = may_of w m line (may_step m.state) refl h.0 in
    let limit = (sound_kept w m sound).regular.limit in
    let one = events_next w m line lines h in
    let less : m.state.events < w.limit = grind (arith, nat_tests, may, limit) in
    let rest = most_from w (moved w m line.cpu) lines (moved_sound w m line.cpu sound) (omega (arith, one, less)) h.1 in
    omega (arith, one, rest)

pub lines_most : (w : WorldValue) (lines : List Line) → IsWorld w → AreStepsOf w lines → length lines ≤ w.limit
lines_most w lines world h =
    let none = opened_events w in
    let most = most_from w (opened w) lines (opened_sound w world) (omega (arith, none)) h in
    omega (arith, none, most)
