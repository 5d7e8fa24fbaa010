-- The words that are commands, and how much each may read. docs/FORMATS.md, "Statuses and outputs".
use Rattle.std.specs.Prelude.{◌≡◌, ℕ, ◌≤◌, ◌⊎◌, List, [], ◌∷◌, Option, Some, None, codes}
use Rattle.std.specs.Fmt.{decimal}
use Rattle.hk_model.specs.Limits.{cpu_limit, process_limit, script_bytes, record_bytes}
use Rattle.hk_top.specs.declared.words.Command.{Command}
use Rattle.hk_top.specs.declared.words.Command.TheVariants as command

-- the words `run`
abbrev pub IsRun : List (List ℕ) → Type 0
IsRun words = words ≡ codes "run" ∷ []

-- a number from 1 to the largest one
abbrev pub IsBetween : ℕ → ℕ → Type 0
IsBetween largest number = (1 ≤ number) × (number ≤ largest)

-- the word spells no such number
abbrev pub IsNoNumber : ℕ → List ℕ → Type 0
IsNoNumber largest word = (number : ℕ) → IsBetween largest number → word ≡ decimal number → ⊥

-- so many processors may run a script
abbrev pub MayRun : ℕ → Type 0
MayRun cpus = IsBetween cpu_limit cpus

-- the words `run` and this number of processors, from 1 to 16, in decimal digits without a leading zero
abbrev pub IsRunOn : List (List ℕ) → ℕ → Type 0
IsRunOn words cpus = (words ≡ codes "run" ∷ decimal cpus ∷ []) × MayRun cpus

-- the words `run` and a number of processors
abbrev pub RunsOnMany : List (List ℕ) → Type 0
RunsOnMany words = (cpus : ℕ) × IsRunOn words cpus

-- the words `show`
abbrev pub IsShow : List (List ℕ) → Type 0
IsShow words = words ≡ codes "show" ∷ []

-- the words `bound`
abbrev pub IsBound : List (List ℕ) → Type 0
IsBound words = words ≡ codes "bound" ∷ []

-- the words `json`
abbrev pub IsJson : List (List ℕ) → Type 0
IsJson words = words ≡ codes "json" ∷ []

-- the words `unjson`
abbrev pub IsUnjson : List (List ℕ) → Type 0
IsUnjson words = words ≡ codes "unjson" ∷ []

-- the words `check`
abbrev pub IsCheck : List (List ℕ) → Type 0
IsCheck words = words ≡ codes "check" ∷ []

-- the words `confine`
abbrev pub IsConfine : List (List ℕ) → Type 0
IsConfine words = words ≡ codes "confine" ∷ []

-- the largest number of a line that can be traced
abbrev pub trace_limit : ℕ
trace_limit = 999

-- the line of this number may be traced
abbrev pub MayTrace : ℕ → Type 0
MayTrace line = IsBetween trace_limit line

-- the words `trace` and the number of a line, from 1 to 999, in decimal digits without a leading zero
abbrev pub IsTrace : List (List ℕ) → ℕ → Type 0
IsTrace words line = (words ≡ codes "trace" ∷ decimal line ∷ []) × MayTrace line

-- the words `trace` and the number of a line
abbrev pub Traces : List (List ℕ) → Type 0
Traces words = (line : ℕ) × IsTrace words line

-- the largest number of lines that can be taken back
abbrev pub back_limit : ℕ
back_limit = 999

-- so many lines may be taken back
abbrev pub MayTakeBack : ℕ → Type 0
MayTakeBack count = IsBetween back_limit count

-- the words `back` and a number of lines, from 1 to 999, in decimal digits without a leading zero
abbrev pub IsBack : List (List ℕ) → ℕ → Type 0
IsBack words count = (words ≡ codes "back" ∷ decimal count ∷ []) × MayTakeBack count

-- the words `back` and a number of lines
abbrev pub TakesBack : List (List ℕ) → Type 0
TakesBack words = (count : ℕ) × IsBack words count

-- a world of so many processes may be generated
abbrev pub MayGenerate : ℕ → Type 0
MayGenerate count = IsBetween process_limit count

-- the words `gen` and a number of processes, from 1 to 256, in decimal digits without a leading zero
abbrev pub IsGen : List (List ℕ) → ℕ → Type 0
IsGen words count = (words ≡ codes "gen" ∷ decimal count ∷ []) × MayGenerate count

-- the words `gen` and a number of processes
abbrev pub Generates : List (List ℕ) → Type 0
Generates words = (count : ℕ) × IsGen words count

-- the words of a command that runs a script
abbrev pub RunsScript : List (List ℕ) → Type 0
RunsScript words = IsRun words ⊎ RunsOnMany words

-- the words of a command that reads a script, and does not run it
abbrev pub TellsScript : List (List ℕ) → Type 0
TellsScript words = IsShow words ⊎ (IsBound words ⊎ IsJson words)

-- the words of a command that reads a script
abbrev pub ReadsScript : List (List ℕ) → Type 0
ReadsScript words = IsRun words ⊎ (RunsOnMany words ⊎ TellsScript words)

-- the words of a command that reads a record
abbrev pub ReadsRecord : List (List ℕ) → Type 0
ReadsRecord words = IsCheck words ⊎ (IsConfine words ⊎ (Traces words ⊎ TakesBack words))

-- the words of a command that reads something
abbrev pub IsReading : List (List ℕ) → Type 0
IsReading words = ReadsScript words ⊎ (ReadsRecord words ⊎ IsUnjson words)

-- the words of a command
abbrev pub IsCommand : List (List ℕ) → Type 0
IsCommand words = IsReading words ⊎ Generates words

-- the most bytes that the JSON of a world may have
abbrev pub json_bytes : ℕ
json_bytes = 16777216

-- the words are those of a command, and this is the most bytes that what it reads may have
abbrev pub ReadsAtMost : List (List ℕ) → ℕ → Type 0
ReadsAtMost words limit =
    (ReadsScript words × (limit ≡ script_bytes)) ⊎ ((ReadsRecord words × (limit ≡ record_bytes)) ⊎ (IsUnjson words × (limit ≡ json_bytes)))

-- the words of this command
abbrev pub words_of : Command → List (List ℕ)
words_of command.Run = codes "run" ∷ []
words_of (command.RunOn cpus) = codes "run" ∷ decimal cpus ∷ []
words_of command.Show = codes "show" ∷ []
words_of command.Bound = codes "bound" ∷ []
words_of command.Json = codes "json" ∷ []
words_of command.Unjson = codes "unjson" ∷ []
words_of command.Check = codes "check" ∷ []
words_of command.Confine = codes "confine" ∷ []
words_of (command.Trace line) = codes "trace" ∷ decimal line ∷ []
words_of (command.Back count) = codes "back" ∷ decimal count ∷ []
words_of (command.Gen count) = codes "gen" ∷ decimal count ∷ []

-- one processor serves the command
abbrev pub IsAlone : Command → Type 0
IsAlone (command.RunOn cpus) = ⊥
IsAlone c = Unit {0}

-- one processor serves the command, which reads something
abbrev pub ReadsAlone : Command → Type 0
ReadsAlone (command.RunOn cpus) = ⊥
ReadsAlone (command.Gen count) = ⊥
ReadsAlone c = Unit {0}

-- the command reads something
abbrev pub TakesInput : Command → Type 0
TakesInput (command.Gen count) = ⊥
TakesInput c = Unit {0}

-- the most bytes that this command reads; none where it reads nothing
abbrev pub byte_limit : Command → ℕ
byte_limit command.Run = script_bytes
byte_limit (command.RunOn cpus) = script_bytes
byte_limit command.Show = script_bytes
byte_limit command.Bound = script_bytes
byte_limit command.Json = script_bytes
byte_limit command.Unjson = json_bytes
byte_limit command.Check = record_bytes
byte_limit command.Confine = record_bytes
byte_limit (command.Trace line) = record_bytes
byte_limit (command.Back count) = record_bytes
byte_limit (command.Gen count) = 0

-- the number that the command has, of processors, of a line, of lines or of processes, is in its range
abbrev pub IsInRange : Command → Type 0
IsInRange (command.RunOn cpus) = MayRun cpus
IsInRange (command.Trace line) = MayTrace line
IsInRange (command.Back count) = MayTakeBack count
IsInRange (command.Gen count) = MayGenerate count
IsInRange c = Unit {0}

-- the words are those of this command, or of none
abbrev pub Calls : Option Command → List (List ℕ) → Type 0
Calls (Some c) words = (words ≡ words_of c) × IsInRange c
Calls None words = IsCommand words → ⊥
