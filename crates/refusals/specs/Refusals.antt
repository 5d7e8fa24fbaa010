-- How many of a history's lines are refused. docs/EMBEDDING.md.
use Rattle.std.specs.Prelude.{◌≡◌, ◌≤◌, ◌⊎◌, ℕ, Bool, List, None, All, length, count_by}
use Rattle.hk_model.specs.declared.names.Cpu.{Cpu}
use Rattle.hk_model.specs.declared.lines.Line.{Line}
use Rattle.hk_model.specs.WorldValue.{WorldValue}
use Rattle.hk_model.specs.Control.{is_refusal}
use Rattle.hk_model.specs.Running.{AreStepsOf, after_lines, opened, step}
use Rattle.hk_model.specs.Confinement.{ConfinementLaw}

-- the line tells a refusal
abbrev pub is_refused : Line → Bool
is_refused line = is_refusal line.reply

-- the processor whose steps are made
abbrev pub first_processor : Cpu
first_processor = record { 0 = 0 }

-- the processor has no step in the machine that these lines lead to
abbrev pub HasNoStepBehind : WorldValue → List Line → Type 0
HasNoStepBehind w lines = step w (after_lines w (opened w) lines) first_processor ≡ None

-- this many are refused of the first steps of the processor from the opening on: there are lines that are steps of the world, each
-- of the processor, the confinement law holds of them, they are `most` at most, and fewer only where the processor has no step more
pub record HasSteps (w : WorldValue) (most count : ℕ) : Type 0 where
  pub lines : List Line
  pub steps : AreStepsOf w lines
  pub alone : All (λ (line : Line). line.cpu ≡ first_processor) lines
  pub law : ConfinementLaw w lines
  pub few : length lines ≤ most
  pub whole : (length lines ≡ most) ⊎ HasNoStepBehind w lines
  pub counted : count ≡ count_by is_refused lines
