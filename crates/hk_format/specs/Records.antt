-- The text of a record. docs/FORMATS.md, "Audit lines and records".
use Rattle.std.specs.Prelude.{ℕ, List, ◌++◌, codes}
use Rattle.std.specs.List.{flat_map}
use Rattle.hk_model.specs.declared.lines.Line.{Line}
use Rattle.hk_model.specs.declared.lines.End.{End}
use Rattle.hk_model.specs.declared.lines.End.TheVariants as end
use Rattle.hk_model.specs.WorldValue.{WorldValue}
use Rattle.hk_format.specs.Texts.{ended_line}
use Rattle.hk_format.specs.AuditLines.{line_text}
use Rattle.hk_format.specs.Canonical.{canon}

-- the line between the script and the audit lines
abbrev pub record_word : List ℕ
record_word = codes "record"

-- the last line, without its line feed
abbrev pub end_text : End → List ℕ
end_text end.Done = codes "end done"
end_text end.Stuck = codes "end stuck"
end_text end.Limit = codes "end limit"

-- the audit lines, each with its line feed
abbrev pub lines_text : List Line → List ℕ
lines_text lines = flat_map line_text lines

-- the canonical script, the line `record`, the audit lines and the end line
unfoldable pub record_text : WorldValue → List Line → End → List ℕ
record_text w lines end = canon w ++ (ended_line record_word ++ (lines_text lines ++ ended_line (end_text end)))
