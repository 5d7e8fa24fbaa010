-- What a command comes to. docs/FORMATS.md, "Statuses and outputs".
use Rattle.std.specs.Prelude.{◌≡◌, ◌≤◌, ◌<◌, ◌↔◌, ℕ, List, length, Option, None, option_map}
use Rattle.std.specs.Io.KnownBytes.{Consumes, IsAtEnd}
use Rattle.hk_io.specs.Streams.{Took}
use Rattle.hk_io.specs.declared.whole.ReadError.{ReadError}
use Rattle.hk_model.specs.WorldValue.{WorldValue}
use Rattle.hk_model.specs.State.{State}
use Rattle.hk_format.specs.CauseTexts.{too_long_text}
use Rattle.hk_top.specs.declared.served.Served.{Served}
use Rattle.hk_top.specs.declared.served.Silence.{Silence}
use Rattle.hk_top.specs.declared.served.Silence.TheVariants as silence
use Rattle.hk_top.specs.Runs.{IsRecorded}
use Rattle.hk_top.specs.declared.words.Command.{Command}
use Rattle.hk_top.specs.Words.{TakesInput, byte_limit}
use Rattle.hk_top.specs.Outputs.{Due, DueTo, HadFault, IsSummed, Serves, Stream}

module _ {K : Type 0} (state : K → State) where
  -- what is served is due to these words and bytes
  abbrev pub IsDueTo : List (List ℕ) → List ℕ → Served K → Type 0
  IsDueTo words bytes served = DueTo words bytes served.due.status served.due.text (option_map state served.kernel)

  -- what is served is the answer to these words and bytes
  abbrev pub IsServed : List (List ℕ) → List ℕ → Served K → Type 0
  IsServed words bytes served = Serves words bytes served.due.status served.due.text (option_map state served.kernel)

  -- what is served is due to these words, by what a source had before and after
  abbrev pub IsDue : List (List ℕ) → Option (List ℕ) → Option (List ℕ) → Served K → Type 0
  IsDue words before after served = Due words before after served.due.status served.due.text (option_map state served.kernel)

  -- what is served is the record of a run of this world that these words ask for
  abbrev pub Records : List (List ℕ) → WorldValue → Served K → Type 0
  Records words w served = IsRecorded words w served.due.status served.due.text (option_map state served.kernel)

  -- what is served is the summary of the run of a generated world
  abbrev pub IsSummary : ℕ → Served K → Type 0
  IsSummary count served = IsSummed count served.due.status served.due.text (option_map state served.kernel)

-- for a command that reads, these bytes are all that a source had, up to its end, and no more than the command may read; for one
-- that does not, the source is left
pub record IsTaken (c : Command) (before after : Option (List ℕ)) (bytes : List ℕ) : Type 0 where
  pub whole : TakesInput c → Consumes before after bytes × IsAtEnd after × (length bytes ≤ byte_limit c)
  pub left : (TakesInput c → ⊥) → after ≡ before

-- why a source was not read to its end, for a command that reads: it is too long exactly where more bytes were taken than the
-- command may read; a read failed only where a fault was counted
pub record IsUntaken (c : Command) (input : Stream) (error : ReadError) : Type 0 where
  pub reads : TakesInput c
  pub long : Took input.before input.after (λ bytes. (error ≡ ReadError.TooLong) ↔ (byte_limit c < length bytes))
  pub fault : error ≡ ReadError.ReadFault → HadFault input

-- the refusal of more bytes than may be read
abbrev pub IsTooLong : {K : Type 0} → Served K → Type 0
IsTooLong served = (served.due.status ≡ 3) × (served.due.text ≡ too_long_text) × (served.kernel ≡ None)

-- the status of a call that writes nothing
abbrev pub silent_status : Silence → ℕ
silent_status silence.ReadFault = 4
silent_status silence.NoMemory = 5
