-- Bytes as a record: its world, its lines and its end word, or the line and cause that come first.
-- docs/FORMATS.md, "Audit lines and records".
use Rattle.std.specs.Prelude.{ℕ, ◌+◌, ◌==◌, Bool, List, [], ◌∷◌, length, Option, Some, None, Result, Ok, Err, if◌then◌else◌}
use Rattle.std.specs.List.{slice_split, find}
use Rattle.hk_model.specs.declared.lines.Line.{Line}
use Rattle.hk_model.specs.declared.lines.End.{End}
use Rattle.hk_model.specs.declared.lines.End.TheVariants as end
use Rattle.hk_format.specs.declared.causes.Cause.TheVariants.{OfParse, BadLine}
use Rattle.hk_format.specs.declared.causes.ParseCause.TheVariants.{Missing, Extra}
use Rattle.hk_model.specs.Labels.{same_text}
use Rattle.hk_model.specs.WorldValue.{WorldValue}
use Rattle.hk_format.specs.Texts.{is_none}
use Rattle.hk_model.specs.Refusing.{◌>>=◌}
use Rattle.hk_format.specs.Worlds.{Refused, world_of}
use Rattle.hk_format.specs.LineReading.{read_body}
use Rattle.hk_format.specs.Records.{record_word, end_text}

-- what the lines behind the script tell
pub record Events : Type 0 where
  pub lines : List Line
  pub end : End

-- these lines and this end word
abbrev pub events : List Line → End → Events
events lines end = record { lines = lines; end = end }

-- what a record tells
pub record Audited : Type 0 where
  pub world : WorldValue
  pub lines : List Line
  pub end : End

-- this world, and these events
abbrev pub audited : WorldValue → Events → Audited
audited w found = record { world = w; lines = found.lines; end = found.end }

-- the lines of the script, and what line feeds cut behind the line `record`; None where no line is that
pub record Cut : Type 0 where
  pub script : List (List ℕ)
  pub behind : Option (List (List ℕ))

-- these lines of the script, and these texts behind it
abbrev pub cut : List (List ℕ) → Option (List (List ℕ)) → Cut
cut script behind = record { script = script; behind = behind }

-- a line in front of the script's
abbrev pub one_more : List ℕ → Cut → Cut
one_more line c = cut (line ∷ c.script) c.behind

-- the line is exactly `record`
abbrev pub is_record : List ℕ → Bool
is_record line = same_text line record_word

-- what stands behind the last line feed is a line if it is anything
abbrev pub last_cut : List ℕ → Cut
last_cut line = if is_none line then cut [] None else cut (line ∷ []) None

-- at the first line that is exactly `record`
abbrev pub cut_at_record : List (List ℕ) → Cut
cut_at_record [] = cut [] None
cut_at_record (x ∷ []) = if is_record x then cut [] (Some []) else last_cut x
cut_at_record (x ∷ y ∷ more) = if is_record x then cut [] (Some (y ∷ more)) else one_more x (cut_at_record (y ∷ more))

-- the end word that a line is
abbrev pub end_spelled : List ℕ → Option End
end_spelled line = find (λ e. same_text line (end_text e)) (end.Done ∷ end.Stuck ∷ end.Limit ∷ [])

-- the end line stands on the line before this one, and no byte follows it
abbrev pub nothing_behind : ℕ → End → List (List ℕ) → Result Events Refused
nothing_behind n end [] = Ok (events [] end)
nothing_behind n end (x ∷ []) = if is_none x then Ok (events [] end) else Err (n, OfParse Extra)
nothing_behind n end (x ∷ y ∷ more) = Err (n, OfParse Extra)

-- a line before what follows it
abbrev pub line_before : Line → Result Events Refused → Result Events Refused
line_before line (Ok found) = Ok (events (line ∷ found.lines) found.end)
line_before line (Err refused) = Err refused

-- a line that is no end line: an audit line, or bad
abbrev pub audit_line : ℕ → Option Line → Result Events Refused → Result Events Refused
audit_line n None rest = Err (n, BadLine)
audit_line n (Some line) rest = line_before line rest

-- a line with its line feed: the end line, or another, which has lines behind it
abbrev pub whole_line : ℕ → Option End → Option Line → List (List ℕ) → Result Events Refused → Result Events Refused
whole_line n (Some end) line behind rest = nothing_behind (n + 1) end behind
whole_line n None line behind rest = audit_line n line rest

-- what line feeds cut behind `record`, from line n on: what stands behind the last line feed is bad if it is anything
abbrev pub events_from : ℕ → List (List ℕ) → Result Events Refused
events_from n [] = Err (n, OfParse Missing)
events_from n (x ∷ []) = if is_none x then Err (n, OfParse Missing) else Err (n, BadLine)
events_from n (x ∷ y ∷ more) = whole_line n (end_spelled x) (read_body x) (y ∷ more) (events_from (n + 1) (y ∷ more))

-- `record` stands on line n, or is missing there
abbrev pub events_behind : ℕ → Option (List (List ℕ)) → Result Events Refused
events_behind n None = Err (n, OfParse Missing)
events_behind n (Some texts) = events_from (n + 1) texts

-- the script comes first
abbrev pub audit_cut : Cut → Result Audited Refused
audit_cut c = do
  w ← world_of c.script
  found ← events_behind (length c.script + 1) c.behind
  Ok (audited w found)

-- the record that bytes spell
unfoldable pub audit : List ℕ → Result Audited Refused
audit bytes = audit_cut (cut_at_record (slice_split (λ b. b == 10) bytes))
