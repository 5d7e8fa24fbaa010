-- The summary of a run. docs/FORMATS.md, "Summaries".
use Rattle.std.specs.Prelude.{ℕ, List, ◌++◌, length, codes}
use Rattle.std.specs.Fmt.{decimal}
use Rattle.hk_model.specs.declared.lines.Line.{Line}
use Rattle.hk_model.specs.declared.lines.End.{End}
use Rattle.hk_model.specs.WorldValue.{WorldValue}
use Rattle.hk_model.specs.Running.{state_after}
use Rattle.hk_model.specs.Changes.{bare_changes}
use Rattle.hk_format.specs.Records.{end_text}
use Rattle.hk_format.specs.Texts.{ended_line}

-- a line of a word, a space and a number
abbrev pub count_line : List ℕ → ℕ → List ℕ
count_line word count = ended_line (word ++ decimal count)

-- of how many processes the world is generated, how many objects stand at the end, how many lines there are, how many changes
-- under confined calls, and the last line of the record
abbrev pub summed_text : ℕ → ℕ → ℕ → ℕ → End → List ℕ
summed_text count objects lines changes end =
    count_line (codes "gen ") count
    ++ (count_line (codes "objects ") objects
    ++ (count_line (codes "lines ") lines
    ++ (count_line (codes "changes ") changes
    ++ ended_line (end_text end))))

-- the same of a run with these lines
abbrev pub summary_text : ℕ → WorldValue → List Line → End → List ℕ
summary_text count w lines end =
    summed_text count (length (state_after w lines).objects) (length lines) (length (bare_changes w lines)) end
