-- What `run` and `run N` promise: a legal history, the laws over its lines, and its record. docs/FORMATS.md, "Statuses and outputs".
use Rattle.std.specs.Prelude.{◌≡◌, ◌<◌, ℕ, List, Option, Some, None, Ok, Err, All}
use Rattle.hk_model.specs.declared.lines.Line.{Line}
use Rattle.hk_model.specs.declared.lines.End.{End}
use Rattle.hk_model.specs.declared.lines.End.TheVariants as end
use Rattle.hk_model.specs.WorldValue.{WorldValue}
use Rattle.hk_model.specs.State.{State}
use Rattle.hk_model.specs.Running.{opened, step, after_lines, state_after}
use Rattle.hk_model.specs.Legal.{IsLegal}
use Rattle.hk_model.specs.Needs.{PermissionLaw, DenialLaw}
use Rattle.hk_model.specs.Descent.{DescentLaw, ChainsFall}
use Rattle.hk_descent.specs.Joined.{AreOneDescent}
use Rattle.hk_model.specs.Marks.{EnvironmentLaw}
use Rattle.hk_model.specs.Confinement.{ConfinementLaw, ClosedCallLaw}
use Rattle.hk_confine.specs.Untouched.{UntouchedLaw}
use Rattle.hk_model.specs.Effects.{LeavesOthers, NamesLast}
use Rattle.hk_model.specs.Reaches.{ReachLaw}
use Rattle.hk_model.specs.Kept.{KeptLaw}
use Rattle.hk_bound.specs.Bounds.{BoundLaw}
pub use Rattle.hk_gen.specs.WholeRuns.{first_processor}
use Rattle.hk_format.specs.declared.causes.Cause.{Cause}
use Rattle.hk_format.specs.CauseTexts.{cause_name, refusal_text}
use Rattle.hk_format.specs.Worlds.{world}
use Rattle.hk_format.specs.Records.{record_text}
use Rattle.hk_top.specs.Words.{IsRun, IsRunOn, RunsScript}

-- a whole run of a world on processor 0: its steps from the opening on, until it has none
pub record IsWholeRun (w : WorldValue) (lines : List Line) (end : End) : Type 0 where
  pub legal : IsLegal w lines end
  pub alone : All (λ (line : Line). line.cpu ≡ first_processor) lines
  pub last : step w (after_lines w (opened w) lines) first_processor ≡ None

-- a run of a world on so many processors: whichever of them made each line, the history is legal
pub record IsRunBy (w : WorldValue) (cpus : ℕ) (lines : List Line) (end : End) : Type 0 where
  pub legal : IsLegal w lines end
  pub below : All (λ (line : Line). line.cpu.0 < cpus) lines

-- a run of a world that these words ask for
pub data IsRunOf (words : List (List ℕ)) (w : WorldValue) (lines : List Line) (end : End) : Type 0 where
  alone : IsRun words → IsWholeRun w lines end → IsRunOf words w lines end
  shared : (cpus : ℕ) → IsRunOn words cpus → IsRunBy w cpus lines end → IsRunOf words w lines end

-- the laws over these lines. Of rights: what is answered had every right that it needs, and what is refused has its cause. Of descent:
-- what stands somewhere descends by its chain; marks tell the same descent with walks added; a parameter without ENV stays under its
-- call. Of confinement: what a line under a confined call changes, and what it leaves untouched. Of what these speak of: what a line
-- changes, how long names and kinds last, what the reaches are. Of kept objects; and the static bound
pub record IsLawful (w : WorldValue) (lines : List Line) : Type 0 where
  pub permission : PermissionLaw w lines
  pub denial : DenialLaw w lines
  pub descent : DescentLaw w lines
  pub chains : ChainsFall w lines
  pub one_descent : AreOneDescent w lines
  pub environment : EnvironmentLaw w lines
  pub confinement : ConfinementLaw w lines
  pub closed_call : ClosedCallLaw w lines
  pub untouched : UntouchedLaw w lines
  pub others : LeavesOthers w lines
  pub names : NamesLast w lines
  pub reaches : ReachLaw w lines
  pub kept : KeptLaw w lines
  pub bound : BoundLaw w w lines

-- the status of a run that ended so
abbrev pub status_of : End → ℕ
status_of end.Done = 0
status_of end.Stuck = 1
status_of end.Limit = 7

-- the record of these lines, of which the laws hold, and its status
pub record IsRecord (w : WorldValue) (lines : List Line) (end : End) (status : ℕ) (text : List ℕ) : Type 0 where
  pub laws : IsLawful w lines
  pub status_is : status ≡ status_of end
  pub text_is : text ≡ record_text w lines end

-- the record of a run that these words ask for, and the state of the kernel that made it: the lines lead there
pub record IsRecorded (words : List (List ℕ)) (w : WorldValue) (status : ℕ) (text : List ℕ) (made : Option State) : Type 0 where
  pub lines : List Line
  pub end : End
  pub run : IsRunOf words w lines end
  pub record_is : IsRecord w lines end status text
  pub kernel : made ≡ Some (state_after w lines)

-- the status and the text that are due to `run`, or `run N`, and to the bytes that were read, and the state of the kernel that made
-- a record
pub data IsRunDue (words : List (List ℕ)) (bytes : List ℕ) : ℕ → List ℕ → Option State → Type 0 where
  -- 0, 1, 7: the bytes are the script of a world, and the text is the record of its run
  record_of : (w : WorldValue) (status : ℕ) (text : List ℕ) (made : Option State) → world bytes ≡ Ok w → IsRecorded words w status text made → IsRunDue words bytes status text made
  -- 3: the bytes are the script of no world, and the text is the line that the first pass to refuse one refuses, with its first cause
  run_refused : (line : ℕ) (cause : Cause) → RunsScript words → world bytes ≡ Err (line, cause) → IsRunDue words bytes 3 (refusal_text line (cause_name cause)) None
