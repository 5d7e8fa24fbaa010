-- What is found behind the script of a record. docs/FORMATS.md, "Audit lines and records".
use Rattle.std.specs.Prelude.{◌≡◌, ℕ, ◌+◌, List, [], ◌∷◌, Bool, true, false, Result, Ok, Err}
use Rattle.hk_format.specs.declared.causes.Cause.{Cause}
use Rattle.hk_format.specs.Texts.{is_none}
use Rattle.hk_format.specs.Audits.{events, events_from, line_before, nothing_behind}
use Rattle.hk_format.specs.Audits as audits
use Rattle.hk_format.specs.Worlds.{Refused}
use Rattle.hk_audit.specs.declared.record_lines.Found.{Found}
use Rattle.hk_audit.specs.declared.record_lines.Found.TheVariants as found
use Rattle.hk_audit.specs.declared.record_lines.Events.{Events}
use Rattle.hk_format.specs.declared.errors.ReadError.{ReadError}
use Rattle.hk_format.specs.declared.errors.ReadError.TheVariants as read_error

-- what the first of these texts is, and so what all of them tell, from any line on
abbrev pub Finds : Result Found Cause → List (List ℕ) → List (List ℕ) → Type 0
Finds (Ok (found.Line line)) texts rest = (n : ℕ) → events_from n texts ≡ line_before line (events_from (n + 1) rest)
Finds (Ok (found.End end)) texts rest = (n : ℕ) → events_from n texts ≡ nothing_behind (n + 1) end rest
Finds (Err cause) texts rest = (n : ℕ) → events_from n texts ≡ Err (n, cause)

-- no byte stands in these texts
abbrev pub have_no_byte : List (List ℕ) → Bool
have_no_byte [] = true
have_no_byte (x ∷ []) = is_none x
have_no_byte (x ∷ y ∷ more) = false

-- the lines and the end word are those that are given, or the refusal is; want of memory says nothing
abbrev pub GivesEvents : Result Events (ReadError Cause) → Result audits.Events Refused → Type 0
GivesEvents (Ok found) given = given ≡ Ok (events found.lines found.end)
GivesEvents (Err (read_error.Refused line cause)) given = given ≡ Err (line, cause)
GivesEvents (Err read_error.NoMemory) given = Unit {0}
