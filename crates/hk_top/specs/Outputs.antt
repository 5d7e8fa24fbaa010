-- What the program writes, and its status. docs/FORMATS.md, "Statuses and outputs".
use Rattle.std.specs.Prelude.{◌≡◌, ℕ, ◌-◌, ◌<◌, ◌≤◌, ◌⊎◌, List, [], ◌∷◌, ◌++◌, length, take, Option, Some, None, Ok, Err, codes}
use Rattle.std.specs.Io.KnownBytes.{Consumes, Appends, IsAtEnd}
use Rattle.hk_io.specs.Causes.{Rose}
use Rattle.hk_io.specs.Streams.{Took}
use Rattle.hk_model.specs.declared.names.Name.{Name}
use Rattle.hk_format.specs.declared.causes.Cause.{Cause}
use Rattle.hk_model.specs.declared.verdicts.Misstep.{Misstep}
use Rattle.hk_model.specs.declared.verdicts.Verdict.TheVariants.{Legal, Illegal}
use Rattle.hk_model.specs.declared.lines.Line.{Line}
use Rattle.hk_model.specs.declared.lines.End.{End}
use Rattle.hk_model.specs.declared.lines.End.TheVariants as end
use Rattle.hk_format.specs.CauseTexts.{cause_name, refusal_text, too_long_text, verdict_text}
use Rattle.serde_json.specs.Written.{compact_text}
use Rattle.hk_model.specs.declared.reaches.Change.{Change}
use Rattle.hk_model.specs.Changes.{AreChanges, bare_changes}
use Rattle.hk_model.specs.Snapshots.{shown}
use Rattle.hk_model.specs.WorldValue.{IsWorld, WorldValue}
use Rattle.hk_model.specs.State.{State}
use Rattle.hk_model.specs.Running.{state_after, state_at}
use Rattle.hk_model.specs.Legal.{IsLegal}
use Rattle.hk_model.specs.Verdicts.{IsVerdict}
use Rattle.hk_format.specs.Worlds.{world}
use Rattle.hk_format.specs.Canonical.{canon}
use Rattle.hk_format.specs.Records.{record_text}
use Rattle.hk_format.specs.Texts.{ended_line}
use Rattle.hk_format.specs.Audits.{Audited, audit}
use Rattle.hk_model.specs.Generated.{generate}
use Rattle.hk_top.specs.Runs.{IsWholeRun, IsLawful, IsRecorded, IsRunDue}
use Rattle.hk_top.specs.BoundTexts.{AreBounds, bounds_text}
use Rattle.hk_top.specs.Summaries.{summary_text}
use Rattle.hk_json.specs.Readings.{Reads}
use Rattle.hk_json.specs.Values.{value}
use Rattle.hk_report.specs.ChangeTexts.{changes_text}
use Rattle.hk_undo.specs.StateTexts.{state_text}
use Rattle.hk_trace.specs.ChainTexts.{chains_text}
use Rattle.hk_trace.specs.Traced.{trace_of}
use Rattle.hk_top.specs.Words.{IsShow, IsBound, IsJson, IsUnjson, IsCheck, IsConfine}
use Rattle.hk_top.specs.Words.{IsTrace, IsBack, IsGen, TellsScript, ReadsRecord, IsCommand, ReadsAtMost}

-- what is written of words that are no command
abbrev pub usage_text : List ℕ
usage_text = codes "usage: hydra COMMAND [NUMBER]" ++ 10 ∷ []

-- the record of a whole run on processor 0, of whose lines the laws hold, and the state behind them
pub record IsWrittenRun (w : WorldValue) (text : List ℕ) (end : End) (state : State) : Type 0 where
  pub lines : List Line
  pub run : IsWholeRun w lines end
  pub laws : IsLawful w lines
  pub text_is : text ≡ record_text w lines end
  pub state_is : state ≡ state_after w lines

-- a whole run on processor 0 that has made so many changes under confined calls, of whose lines the laws hold, and the state
-- behind them
pub record IsCountedRun (w : WorldValue) (changes : ℕ) (end : End) (state : State) : Type 0 where
  pub lines : List Line
  pub run : IsWholeRun w lines end
  pub laws : IsLawful w lines
  pub changes_is : changes ≡ length (bare_changes w lines)
  pub state_is : state ≡ state_after w lines

-- the summary of the whole run of the generated world of so many processes, which ends with every process ended, and the state
-- of the kernel that made it
pub record IsSummed (count : ℕ) (status : ℕ) (text : List ℕ) (made : Option State) : Type 0 where
  pub lines : List Line
  pub run : IsWholeRun (generate count) lines end.Done
  pub laws : IsLawful (generate count) lines
  pub status_is : status ≡ 0
  pub text_is : text ≡ summary_text count (generate count) lines end.Done
  pub kernel : made ≡ Some (state_after (generate count) lines)

-- what is told of a legal history

-- that it is legal
abbrev pub TellsLegal : WorldValue → List Line → List ℕ → Type 0
TellsLegal w lines text = text ≡ verdict_text Legal

-- its changes under confined calls, each with its reason
abbrev pub TellsChanges : WorldValue → List Line → List ℕ → Type 0
TellsChanges w lines text = (changes : List Change) × AreChanges w lines changes × (text ≡ changes_text changes)

-- the chains of what the line of this number used
abbrev pub TellsChains : ℕ → WorldValue → List Line → List ℕ → Type 0
TellsChains line w lines text = text ≡ chains_text lines (trace_of w lines line)

-- the state after so many lines
abbrev pub moment_text : WorldValue → List Line → ℕ → List ℕ
moment_text w lines moment = state_text (shown (state_at w lines moment)) moment

-- the state before its last lines, so many: the opening where it has no more
abbrev pub TellsState : ℕ → WorldValue → List Line → List ℕ → Type 0
TellsState count w lines text = text ≡ moment_text w lines (length lines - count)

-- what is written of a record that was read, if this is to be told of a legal one, and its status
pub data IsChecked (a : Audited) (Told : WorldValue → List Line → List ℕ → Type 0) : ℕ → List ℕ → Type 0 where
  -- 0: the record is legal, and the laws hold of its lines
  legal : (text : List ℕ) → IsLegal a.world a.lines a.end → IsLawful a.world a.lines → Told a.world a.lines text → IsChecked a Told 0 text
  -- 8: it is not, and the text is its first bad line, with its first cause
  illegal : (n : ℕ) (cause : Misstep) → IsVerdict a.world a.lines a.end (Illegal n cause) → IsChecked a Told 8 (verdict_text (Illegal n cause))

-- what is written of bytes that are the JSON of no world
abbrev pub bad_json_text : List ℕ
bad_json_text = refusal_text 0 (codes "BadJson")

-- the status and the text that are due to these words and to the bytes that were read, and the state of the kernel, if one
-- made a record
pub data DueTo (words : List (List ℕ)) (bytes : List ℕ) : ℕ → List ℕ → Option State → Type 0 where
  -- 0, 1, 3, 7: the words run a script, and the text is the record of its run, or the line that is refused
  run_of : (status : ℕ) (text : List ℕ) (made : Option State) → IsRunDue words bytes status text made → DueTo words bytes status text made
  -- 0: the bytes are the script of a world, and the text is its canonical script
  script_of : (w : WorldValue) → IsShow words → world bytes ≡ Ok w → DueTo words bytes 0 (canon w) None
  -- 0: the bytes are the script of a world, and the text is the bounds of its processes
  bounds_of : (w : WorldValue) (bounds : List (List Name)) → IsBound words → world bytes ≡ Ok w → AreBounds w bounds → DueTo words bytes 0 (bounds_text bounds) None
  -- 0: the bytes are the script of a world, and the text is its JSON, on one line
  json_of : (w : WorldValue) → IsJson words → world bytes ≡ Ok w → DueTo words bytes 0 (ended_line (compact_text (value w))) None
  -- 0: the bytes are read as the value of a world, and the text is its canonical script
  world_of : (w : WorldValue) → IsUnjson words → IsWorld w → Reads bytes (value w) → DueTo words bytes 0 (canon w) None
  -- 0, 8: the bytes are a record, and the text is the verdict on it
  verdict_of : (a : Audited) (status : ℕ) (text : List ℕ) → IsCheck words → audit bytes ≡ Ok a → IsChecked a TellsLegal status text → DueTo words bytes status text None
  -- 0, 8: the bytes are a record, and the text is the chains of what a line of it used, or the verdict on it
  chains_of : (a : Audited) (line status : ℕ) (text : List ℕ) → IsTrace words line → audit bytes ≡ Ok a → IsChecked a (TellsChains line) status text
      → DueTo words bytes status text None
  -- 0, 8: the bytes are a record, and the text is its changes under confined calls with their reasons, or the verdict on it
  changes_of : (a : Audited) (status : ℕ) (text : List ℕ) → IsConfine words → audit bytes ≡ Ok a → IsChecked a TellsChanges status text → DueTo words bytes status text None
  -- 0, 8: the bytes are a record, and the text is the state before the last of its lines, so many, or the verdict on it
  state_of : (a : Audited) (count status : ℕ) (text : List ℕ) → IsBack words count → audit bytes ≡ Ok a → IsChecked a (TellsState count) status text
      → DueTo words bytes status text None
  -- 3: the bytes are the script of no world, and the text is the line that the first pass to refuse one refuses, with its first cause
  script_refused : (line : ℕ) (cause : Cause) → TellsScript words → world bytes ≡ Err (line, cause) → DueTo words bytes 3 (refusal_text line (cause_name cause)) None
  -- 3: the bytes are no record, and the text is the line that is refused first, with its cause
  record_refused : (line : ℕ) (cause : Cause) → ReadsRecord words → audit bytes ≡ Err (line, cause) → DueTo words bytes 3 (refusal_text line (cause_name cause)) None
  -- 3: the bytes have no reading, or one that is the value of no world
  json_refused : IsUnjson words → ((w : WorldValue) → IsWorld w → Reads bytes (value w) → ⊥) → DueTo words bytes 3 bad_json_text None

-- the status and the text of a call with these words and bytes, without streams, and the state of the kernel, if one ran
pub data Serves (words : List (List ℕ)) (bytes : List ℕ) : ℕ → List ℕ → Option State → Type 0 where
  -- 0, 1, 3, 7, 8: the bytes are no more than the words may read, and the text is due to them
  whole : (limit status : ℕ) (text : List ℕ) (made : Option State) → ReadsAtMost words limit → length bytes ≤ limit → DueTo words bytes status text made
      → Serves words bytes status text made
  -- 3: there are more bytes than the words may read
  beyond : (limit : ℕ) → ReadsAtMost words limit → limit < length bytes → Serves words bytes 3 too_long_text None
  -- 0: the words ask for the run of a generated world, and the text is its summary, whatever the bytes are
  generated : (count status : ℕ) (text : List ℕ) (made : Option State) → IsGen words count → IsSummed count status text made → Serves words bytes status text made
  -- 2: the words are no command, whatever the bytes are
  no_command : (IsCommand words → ⊥) → Serves words bytes 2 usage_text None

-- these bytes were read: they are no more than these words may read, and all that the source had, up to its end, where it tells its
-- bytes
pub record WasRead (words : List (List ℕ)) (before after : Option (List ℕ)) (bytes : List ℕ) : Type 0 where
  pub taken : Consumes before after bytes
  pub end : IsAtEnd after
  pub limit : ℕ
  pub at_most : ReadsAtMost words limit
  pub few : length bytes ≤ limit

-- these bytes are the script of this world, and the text is the record of a run of it which some words had printed for a source
-- that had them
pub record IsPrinted (bytes : List ℕ) (w : WorldValue) (text : List ℕ) : Type 0 where
  pub words : List (List ℕ)
  pub before : Option (List ℕ)
  pub after : Option (List ℕ)
  pub was : WasRead words before after bytes
  pub script : world bytes ≡ Ok w
  pub status : ℕ
  pub made : Option State
  pub recorded : IsRecorded words w status text made

-- what is due to words, by what a source had before and after
pub data Due (words : List (List ℕ)) (before after : Option (List ℕ)) : ℕ → List ℕ → Option State → Type 0 where
  -- 0, 1, 3, 7, 8: the source was read
  read : (bytes : List ℕ) (status : ℕ) (text : List ℕ) (made : Option State) → WasRead words before after bytes → DueTo words bytes status text made
      → Due words before after status text made
  -- 0: the words ask for the run of a generated world, and the text is its summary; the source is untouched
  summed : (count status : ℕ) (text : List ℕ) (made : Option State) → IsGen words count → IsSummed count status text made → after ≡ before
      → Due words before after status text made
  -- 2: the words are no command; the source is untouched
  usage : (IsCommand words → ⊥) → after ≡ before → Due words before after 2 usage_text None
  -- 3: more bytes were taken than these words may read
  too_long : (limit : ℕ) → ReadsAtMost words limit → Took before after (λ bytes. limit < length bytes) → Due words before after 3 too_long_text None

-- a stream before and after a call: the bytes that a source has left or that a sink has taken, where told, and its faults
pub record Stream : Type 0 where
  pub before : Option (List ℕ)
  pub after : Option (List ℕ)
  pub faults_before : ℕ
  pub faults_after : ℕ

abbrev pub stream : Option (List ℕ) → Option (List ℕ) → ℕ → ℕ → Stream
stream before after faults_before faults_after =
    record { before = before; after = after; faults_before = faults_before; faults_after = faults_after }

abbrev pub HadFault : Stream → Type 0
HadFault s = Rose s.faults_before s.faults_after

-- a read failed before more bytes were taken than these words may read
pub record FailedReading (words : List (List ℕ)) (input : Stream) : Type 0 where
  pub limit : ℕ
  pub reads : ReadsAtMost words limit
  pub fault : HadFault input
  pub few : Took input.before input.after (λ bytes. length bytes ≤ limit)

-- the status of a call and the state of the kernel that it hands back, if it does, and why they come
pub data Answer (words : List (List ℕ)) (input output : Stream) : ℕ → Option State → Type 0 where
  -- 0, 1, 2, 3, 7, 8: the sink took the whole text that is due, where it tells what it takes
  written : (status : ℕ) (text : List ℕ) (made : Option State) → Due words input.before input.after status text made → Appends output.before output.after text
      → Answer words input output status made
  -- 4: a read failed, and no more bytes were taken before than these words may read
  read_fault : FailedReading words input → Answer words input output 4 None
  -- 5: want of memory
  no_memory : IsCommand words → Answer words input output 5 None
  -- 6: a write failed, and the sink took a part of the text that is due, from its front
  write_fault :
      (status : ℕ) (text : List ℕ) (made : Option State) (sent : ℕ) → Due words input.before input.after status text made → HadFault output
      → sent < length text → Appends output.before output.after (take sent text) → Answer words input output 6 made

-- completeness: where no fault was counted, and the source told bytes that these words may read, the text that is due to the bytes
-- was written whole, or memory was wanted; and so was the summary of a generated world's run, with status 0, where the sink counted none
pub record IsComplete (words : List (List ℕ)) (input output : Stream) (status : ℕ) (made : Option State) : Type 0 where
  pub reading : (bytes : List ℕ) (limit : ℕ) → input.before ≡ Some bytes → ReadsAtMost words limit → length bytes ≤ limit → (HadFault input → ⊥) → (HadFault output → ⊥)
      → (status ≡ 5) ⊎ ((text : List ℕ) × DueTo words bytes status text made × Appends output.before output.after text)
  pub generating : (count : ℕ) → IsGen words count → (HadFault output → ⊥)
      → (status ≡ 5) ⊎ ((text : List ℕ) × IsSummed count status text made × Appends output.before output.after text)

-- a text was written and this status stands, or a write failed behind a part of it
abbrev pub IsSaid : ℕ → List ℕ → Stream → ℕ → Type 0
IsSaid status text output result =
    ((result ≡ status) × Appends output.before output.after text)
    ⊎ ((result ≡ 6) × HadFault output × ((sent : ℕ) × (sent < length text) × Appends output.before output.after (take sent text)))
