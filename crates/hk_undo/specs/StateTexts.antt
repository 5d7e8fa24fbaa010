-- A state as text. docs/FORMATS.md, "The text of a state".
use Rattle.std.specs.Prelude.{ℕ, ◌+◌, ◌==◌, List, [], ◌∷◌, ◌++◌, length, codes, Option, Some, None, map, nat_lt, if◌then◌else◌}
use Rattle.std.specs.List.{flat_map}
use Rattle.std.specs.Fmt.{decimal}
use Rattle.hk_model.specs.declared.names.Name.{Name}
use Rattle.hk_model.specs.declared.names.Inc.{Inc}
use Rattle.hk_model.specs.declared.names.Proc.{Proc}
use Rattle.hk_model.specs.declared.entries.Entry.{Entry}
use Rattle.hk_model.specs.declared.entries.Entry.TheVariants.{Empty, Held, Form}
use Rattle.hk_model.specs.declared.objects.ProcessState.{ProcessState}
use Rattle.hk_model.specs.declared.objects.ProcessState.TheVariants.{Ready, Running, Waiting, Ended}
use Rattle.hk_model.specs.declared.snapshot.Seen.{Seen}
use Rattle.hk_model.specs.declared.snapshot.Live.{Live}
use Rattle.hk_model.specs.declared.snapshot.Snapshot.{Snapshot}
use Rattle.hk_model.specs.Targets.{SEMAPHORE, kernel_types, is_listed}
use Rattle.hk_format.specs.EntryTexts.{by_number, entry_text}
use Rattle.hk_format.specs.Texts.{ended_line}

-- ` N` for each number
abbrev pub spaced : List ℕ → List ℕ
spaced numbers = flat_map (λ n. codes " " ++ decimal n) numbers

-- a word and numbers, as `words W ..`; no line where there are none
abbrev pub numbers_line : List ℕ → List ℕ → List ℕ
numbers_line word [] = []
numbers_line word (n ∷ more) = ended_line (word ++ spaced (n ∷ more))

-- `entry I CONTENT` or `slot S CONTENT`, by the word; none where nothing stands
abbrev pub place_line : List ℕ → ℕ → Entry → List ℕ
place_line word i Empty = []
place_line word i (Held cap) = ended_line (word ++ decimal i ++ codes " " ++ entry_text by_number (Held cap))
place_line word i (Form form) = ended_line (word ++ decimal i ++ codes " " ++ entry_text by_number (Form form))

-- of each of these, numbered from i
abbrev pub place_lines : List ℕ → ℕ → List Entry → List ℕ
place_lines word i [] = []
place_lines word i (entry ∷ entries) = place_line word i entry ++ place_lines word (i + 1) entries

-- `entries N` and the entries, where the type is listed
abbrev pub list_lines : Name → List Entry → List ℕ
list_lines of entries = if is_listed of then ended_line (codes "entries " ++ decimal (length entries)) ++ place_lines (codes "entry ") 0 entries else []

-- `waiters P ..`, where some process waits
abbrev pub waiters_line : List Proc → List ℕ
waiters_line waiters = numbers_line (codes "waiters") (map (λ (p : Proc). p.0) waiters)

-- `count N` and who waits, of a semaphore
abbrev pub semaphore_lines : Name → ℕ → List Proc → List ℕ
semaphore_lines of count waiters = if of.0 == SEMAPHORE then ended_line (codes "count " ++ decimal count) ++ waiters_line waiters else []

-- `code K`, of what has one: a procedure
abbrev pub code_line : Option ℕ → List ℕ
code_line None = []
code_line (Some code) = ended_line (codes "code " ++ decimal code)

-- an object: `object NAME TYPE`, its words, its entries, its tokens with who waits for one, its code
abbrev pub object_lines : Seen → List ℕ
object_lines o =
    ended_line (codes "object " ++ decimal o.name.0 ++ codes " " ++ decimal o.of.0)
    ++ (numbers_line (codes "words") o.words
    ++ (list_lines o.of o.entries
    ++ (semaphore_lines o.of o.count o.waiters
    ++ code_line o.code)))

-- the kernel types are left out
abbrev pub shown_object : Seen → List ℕ
shown_object o = if nat_lt o.name.0 kernel_types then [] else object_lines o

-- how it began: `base`, or `by CALLER into SLOT of NAME` with `confined` or `open`
abbrev pub beginning : Live → Option Inc → Option Name → List ℕ
beginning live None procedure = codes "base"
beginning live (Some caller) None = codes "base"
beginning live (Some caller) (Some procedure) =
    codes "by " ++ decimal caller.0 ++ codes " into " ++ decimal live.into.0 ++ codes " of " ++ decimal procedure.0
    ++ (if live.confined then codes " confined" else codes " open")

-- `incarnation I PROC` with how it began
unfoldable pub incarnation_line : Live → List ℕ
incarnation_line live =
    ended_line (codes "incarnation " ++ decimal live.inc.0 ++ codes " " ++ decimal live.proc.0 ++ codes " " ++ beginning live live.caller live.procedure)

-- an incarnation, and its slots
unfoldable pub incarnation_lines : Live → List ℕ
incarnation_lines live = incarnation_line live ++ place_lines (codes "slot ") 0 live.slots

-- `ready`, `running CPU`, `waiting NAME` or `ended`
abbrev pub run_text : ProcessState → List ℕ
run_text Ready = codes "ready"
run_text (Running cpu) = codes "running " ++ decimal cpu.0
run_text (Waiting at) = codes "waiting " ++ decimal at.0
run_text Ended = codes "ended"

-- `process P` and what it does, numbered from p
abbrev pub process_lines : ℕ → List ProcessState → List ℕ
process_lines p [] = []
process_lines p (run ∷ runs) = ended_line (codes "process " ++ decimal p ++ codes " " ++ run_text run) ++ process_lines (p + 1) runs

-- `ready P ..`, where some process is ready
abbrev pub ready_line : List Proc → List ℕ
ready_line ready = numbers_line (codes "ready") (map (λ (p : Proc). p.0) ready)

-- the state after so many lines: `moment M`, the objects but the kernel types, the incarnations, the processes, the ready list, and
-- `next NAME INC`
abbrev pub state_text : Snapshot → ℕ → List ℕ
state_text s moment =
    ended_line (codes "moment " ++ decimal moment)
    ++ (flat_map shown_object s.objects
    ++ (flat_map incarnation_lines s.incarnations
    ++ (process_lines 0 s.processes
    ++ (ready_line s.ready
    ++ ended_line (codes "next " ++ decimal s.next_name.0 ++ codes " " ++ decimal s.next_inc.0)))))
