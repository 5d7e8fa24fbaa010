-- A record that is read line by line, and its end. docs/FORMATS.md, "Audit lines and records".
use Rattle.std.specs.Prelude.{◌≡◌, ℕ, ◌+◌, ◌-◌, ◌==◌, ◌&&◌, nat_lt, List, ◌++◌, Option, Some, None, Result, Ok, Err, if◌then◌else◌, option_map, slice_get}
use Rattle.std.proofs.lemmas.Map.Entries.{option_filter}
use Rattle.hk_model.specs.declared.names.Cpu.{Cpu}
use Rattle.hk_model.specs.declared.lines.Line.{Line}
use Rattle.hk_model.specs.Labels.{is_digit}
use Rattle.hk_model.specs.WorldValue.{WorldValue}
use Rattle.hk_format.specs.Worlds.{Refused}
use Rattle.hk_format.specs.Audits.{Audited, Events, audit, audited, events, events_from}
use Rattle.hk_audit.specs.RecordCuts.{texts_of}

-- what is told behind these lines of a world's record, as what is told of all of it
abbrev pub with_lines : WorldValue → List Line → Result Events Refused → Result Audited Refused
with_lines w lines (Ok found) = Ok (audited w (events (lines ++ found.lines) found.end))
with_lines w lines (Err refused) = Err refused

-- the script of the bytes is that of this world, these lines follow it, and then what is left: what that tells, with these
-- lines before it, is what the bytes tell
pub record IsReadTo (bytes : List ℕ) (w : WorldValue) (lines : List Line) (left : List ℕ) : Type 0 where
  -- the number of the line with which the rest begins
  pub number : ℕ
  pub told : audit bytes ≡ with_lines w lines (events_from number (texts_of left))

-- the digit at a place of bytes, if one stands there
abbrev pub digit_at : List ℕ → ℕ → Option ℕ
digit_at bytes at = option_map (λ b. b - 48) (option_filter is_digit (slice_get bytes at))

-- a processor, by the two digits with which its line can begin
abbrev pub cpu_by : Option ℕ → Option ℕ → Option Cpu
cpu_by None second = None
cpu_by (Some first) None = Some (record { 0 = first })
cpu_by (Some first) (Some second) = if (first == 1) && nat_lt second 6 then Some (record { 0 = 10 + second }) else None
