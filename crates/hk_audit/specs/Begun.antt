-- A record whose end word is still to come. docs/FORMATS.md, "Audit lines and records".
use Rattle.std.specs.Prelude.{ℕ, List, ◌++◌}
use Rattle.hk_model.specs.declared.lines.Line.{Line}
use Rattle.hk_model.specs.WorldValue.{WorldValue}
use Rattle.hk_format.specs.Texts.{ended_line}
use Rattle.hk_format.specs.Canonical.{canon}
use Rattle.hk_format.specs.Records.{record_word, lines_text}

-- the canonical script, the line `record`, and these audit lines
abbrev pub begun : WorldValue → List Line → List ℕ
begun w lines = canon w ++ (ended_line record_word ++ lines_text lines)
