-- How many changes there are under confined calls, as the lines of a history come. docs/RULES.md, "Changes and their reasons".
use Rattle.std.specs.Prelude.{ℕ, ◌+◌, Bool, true, false, List, ◌∷◌, [], ◌++◌, length, replicate, slice_index_or, option_map, is_some}
use Rattle.std.specs.Option.{unwrap_or}
use Rattle.hk_model.specs.declared.names.Proc.{Proc}
use Rattle.hk_model.specs.declared.names.Inc.{Inc}
use Rattle.hk_model.specs.declared.names.Cpu.{Cpu}
use Rattle.hk_model.specs.declared.lines.Line.{Line}
use Rattle.hk_model.specs.WorldValue.{WorldValue}
use Rattle.hk_model.specs.State.{State, incarnation}
use Rattle.hk_model.specs.Processors.{running_on}
use Rattle.hk_model.specs.Running.{opened}
use Rattle.hk_model.specs.Lines.{done_call, enters_call, changes_path, told}

-- the call is confined that the processor runs; where it runs nothing, none is
abbrev pub confined_on : State → Cpu → Bool
confined_on s cpu = unwrap_or (option_map (λ (x : Proc × Inc). (incarnation s x.1).confined) (running_on s cpu)) false

-- how many confined calls each incarnation is under, by its number, and how many changes there are under such calls
pub record Counted : Type 0 where
  pub depths : List ℕ
  pub changes : ℕ

-- how many confined calls an incarnation is under which one enters that is under so many
abbrev pub depth_entered : Bool → ℕ → ℕ
depth_entered confined above = elim confined [ true ↦ above + 1 | false ↦ above ]

-- a line more: it adds the incarnation that it makes, and changes an object under as many calls as its own incarnation is under
abbrev pub depths_by : Line → Bool → List ℕ → List ℕ
depths_by line confined depths = elim (enters_call (done_call line)) [
  | true ↦ depths ++ depth_entered confined (slice_index_or depths line.inc.0 0) ∷ []
  | false ↦ depths
]

abbrev pub changes_more : Line → List ℕ → ℕ
changes_more line depths = elim (is_some (changes_path (done_call line))) [ true ↦ slice_index_or depths line.inc.0 0 | false ↦ 0 ]

abbrev pub counted_by : Line → Bool → Counted → Counted
counted_by line confined c = record {
  depths = depths_by line confined c.depths;
  changes = c.changes + changes_more line c.depths;
}

-- the incarnations of the opening are under no call
abbrev pub counted_none : WorldValue → Counted
counted_none w = record { depths = replicate (length w.tasks) 0; changes = 0 }

-- what was counted after these lines: a call that a line has begun is what its processor runs behind it
abbrev pub counted : WorldValue → List Line → Counted
counted w lines = told (λ s line t c. counted_by line (confined_on t line.cpu) c) w (opened w) lines (counted_none w)
