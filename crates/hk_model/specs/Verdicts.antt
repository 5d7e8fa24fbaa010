-- The verdict on a record: legal, or the first bad line and its first cause. docs/FORMATS.md, "Legal records".
use Rattle.std.specs.Prelude.{◌≡◌, ℕ, ◌+◌, List, length, Option, Some, None, slice_get, take}
use Rattle.hk_model.specs.declared.lines.Line.{Line}
use Rattle.hk_model.specs.declared.lines.End.{End}
use Rattle.hk_model.specs.declared.verdicts.Misstep.{Misstep}
use Rattle.hk_model.specs.declared.verdicts.Misstep.TheVariants as misstep
use Rattle.hk_model.specs.declared.verdicts.Verdict.{Verdict}
use Rattle.hk_model.specs.declared.verdicts.Verdict.TheVariants as verdict
use Rattle.hk_model.specs.WorldValue.{WorldValue}
use Rattle.hk_model.specs.Running.{AreStepsOf, line_of, machine_at, state_after}
use Rattle.hk_model.specs.Legal.{IsLegal, end_word}

-- the same process and incarnation make both
abbrev pub IsBySame : Line → Line → Type 0
IsBySame a b = (a.proc ≡ b.proc) × (a.inc ≡ b.inc)

-- how a line differs from the step of its processor, if that has one: of several causes the first
abbrev pub Differs : Option Line → Line → Misstep → Type 0
Differs None line misstep.Cpu = Unit {0}
Differs (Some step) line misstep.Process = IsBySame step line → ⊥
Differs (Some step) line misstep.Call = IsBySame step line × (step.what ≡ line.what → ⊥)
Differs (Some step) line misstep.Reply = IsBySame step line × (step.what ≡ line.what) × (step.reply ≡ line.reply → ⊥)
Differs _ line _ = ⊥

-- line n, counted from 1, is the first that is not the step of its processor, for this cause
pub record IsBadLine (w : WorldValue) (lines : List Line) (n : ℕ) (cause : Misstep) : Type 0 where
  pub before : ℕ
  pub number : n ≡ before + 1
  pub line : Line
  pub there : slice_get lines before ≡ Some line
  pub steps : AreStepsOf w (take before lines)
  pub differs : Differs (line_of w (machine_at w lines before) line.cpu) line cause

-- all lines are steps, and the end word is not that of the last state; n is the number of lines plus one
pub record IsBadEnd (w : WorldValue) (lines : List Line) (end : End) (n : ℕ) : Type 0 where
  pub number : n ≡ length lines + 1
  pub steps : AreStepsOf w lines
  pub differs : end_word (state_after w lines) ≡ Some end → ⊥

-- the first bad line n with its first cause, or the bad end word behind all lines
abbrev pub IsMisstep : WorldValue → List Line → End → ℕ → Misstep → Type 0
IsMisstep w lines end n misstep.EndWord = IsBadEnd w lines end n
IsMisstep w lines end n cause = IsBadLine w lines n cause

-- the verdict on these lines and this end word
abbrev pub IsVerdict : WorldValue → List Line → End → Verdict → Type 0
IsVerdict w lines end verdict.Legal = IsLegal w lines end
IsVerdict w lines end (verdict.Illegal n cause) = IsMisstep w lines end n cause
