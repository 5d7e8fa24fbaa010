-- How answers come about: a text that is due and said, and a text that is due to an input.
use Rattle.std.proofs.Common.{◌≡◌, ◌≢◌, ◌<◌, ℕ, List, length, codes, Option, None, option_map, Ok, Err, IfOk, IfErr, IsErrOf, refl, subst, sym, inl, inr}
use Rattle.std.proofs.Common.{Result}
use Rattle.hk_io.specs.Streams.{Took}
use Rattle.std.specs.Fmt.{digits}
use Rattle.hk_format.specs.declared.causes.Cause.{Cause}
use Rattle.hk_model.specs.declared.verdicts.Misstep.{Misstep}
use Rattle.hk_model.specs.declared.verdicts.Verdict.{Verdict}
use Rattle.hk_model.specs.declared.verdicts.Verdict.TheVariants.{Legal, Illegal}
use Rattle.hk_model.specs.declared.kernel.NoMemory.{NoMemory}
use Rattle.hk_model.specs.declared.lines.Line.{Line}
use Rattle.hk_model.specs.declared.lines.End.{End}
use Rattle.hk_model.specs.declared.lines.End.TheVariants as end
use Rattle.hk_format.specs.CauseTexts.{cause_name, refusal_text, too_long_text, verdict_text}
use Rattle.hk_format.specs.Audits.{Audited, audit}
use Rattle.hk_model.specs.Legal.{IsLegal}
use Rattle.hk_model.specs.Verdicts.{IsVerdict}
use Rattle.hk_format.specs.Canonical.{canon}
use Rattle.serde_json.specs.Written.{compact_text}
use Rattle.hk_format.specs.Texts.{ended_line}
use Rattle.hk_json.specs.Readings.{Reads}
use Rattle.hk_json.specs.Values.{value}
use Rattle.hk_model.specs.WorldValue.{IsWorld, WorldValue}
use Rattle.hk_format.specs.Worlds.{world}
use Rattle.hk_model.specs.State.{State}
use Rattle.hk_top.specs.declared.served.DueText.{DueText}
use Rattle.hk_top.specs.declared.served.Served.{Served}
use Rattle.hk_top.specs.declared.served.Silence.{Silence}
use Rattle.hk_top.specs.declared.served.Silence.TheVariants as silence
use Rattle.hk_top.specs.declared.words.Command.{Command}
use Rattle.hk_top.specs.declared.words.Command.TheVariants as command
use Rattle.hk_top.specs.Words.{IsCommand, IsReading, IsAlone, IsInRange, MayTakeBack, TakesInput}
use Rattle.hk_top.specs.Words.{MayTrace, ReadsAlone, ReadsRecord, ReadsAtMost, RunsScript, TellsScript, words_of, byte_limit}
use Rattle.hk_top.specs.BoundTexts.{AreTold}
use Rattle.hk_top.specs.Served.{silent_status}
use Rattle.hk_top.specs.Runs.{IsRecorded, IsRunDue, IsLawful, record_of, run_refused, status_of}
use Rattle.hk_top.specs.Outputs.{Due, DueTo, Answer, IsSummed, IsChecked, Stream, IsSaid}
use Rattle.hk_top.specs.Outputs.{run_of, script_of, bounds_of, json_of, world_of, verdict_of, changes_of, chains_of, state_of, script_refused, bad_json_text}
use Rattle.hk_top.specs.Outputs.{TellsLegal, TellsChanges, TellsChains, TellsState}
use Rattle.hk_top.specs.Outputs.{record_refused, json_refused, legal, illegal, too_long, written, read_fault, no_memory, write_fault, FailedReading}

-- a text that is due and said is an answer
pub said : {words : List (List ℕ)} {input output : Stream} {status result : ℕ} {text : List ℕ} {made : Option State} → Due words input.before input.after status text made
    → IsSaid status text output result → Answer words input output result made
said {words} {input} {output} {status} {result} {text} {made} due (inl h) = subst (λ n. Answer words input output n made) (sym h.0) (written _ _ _ due h.1)
said {words} {input} {output} {status} {result} {text} {made} due (inr h) = subst (λ n. Answer words input output n made) (sym h.0) (write_fault _ _ _ h.2.0 due h.1 h.2.1 h.2.2)

-- what is due to words and a text is due to the same words, status, text and kernel
pub due_at : {words others : List (List ℕ)} {before after : Option (List ℕ)} {status number : ℕ} {text same : List ℕ} {made : Option State} → words ≡ others → status ≡ number
    → text ≡ same → Due words before after status text made → Due others before after number same made
due_at {words} {others} {before} {after} {status} {number} {text} {same} {made} w n t due =
    subst (λ x. Due x before after number same made) w (subst (λ x. Due words before after x same made) n (subst (λ x. Due words before after status x made) t due))

-- the refusal, letter by letter
pub too_long_is : codes "line 0: TooLong\n" ≡ too_long_text
unfolding digits
too_long_is = refl

pub bad_json_is : codes "line 0: BadJson\n" ≡ bad_json_text
unfolding digits
bad_json_is = refl

-- what is due to the bytes of a script

pub record_due : {K : Type 0} (state : K → State) (words : List (List ℕ)) (bytes : List ℕ) (w : WorldValue) (r : Result (Served K) NoMemory) → world bytes ≡ Ok w
    → IfOk r (λ served. IsRecorded words w served.due.status served.due.text (option_map state served.kernel))
    → IfOk r (λ served. DueTo words bytes served.due.status served.due.text (option_map state served.kernel))
record_due state words bytes w (Ok served) is h =
    run_of served.due.status served.due.text (option_map state served.kernel) (record_of w served.due.status served.due.text (option_map state served.kernel) is h)
record_due state words bytes w (Err error) is h = tt

pub script_due : (bytes : List ℕ) (w : WorldValue) (r : Result DueText NoMemory) → world bytes ≡ Ok w → IfOk r (λ due. (due.status ≡ 0) × (due.text ≡ canon w))
    → IfOk r (λ due. DueTo (words_of command.Show) bytes due.status due.text None)
script_due bytes w (Ok due) is h = rw (h.0, h.1) (script_of w refl is)
script_due bytes w (Err error) is h = tt

pub bounds_due : (bytes : List ℕ) (w : WorldValue) (r : Result DueText NoMemory) → world bytes ≡ Ok w → IfOk r (λ due. AreTold w due.status due.text)
    → IfOk r (λ due. DueTo (words_of command.Bound) bytes due.status due.text None)
bounds_due bytes w (Ok due) is h = rw (h.2, h.3) (bounds_of w h.0 refl is h.1)
bounds_due bytes w (Err error) is h = tt

pub script_refused_due : (c : Command) (bytes : List ℕ) (line : ℕ) (cause : Cause) (r : Result DueText NoMemory) → TellsScript (words_of c) → world bytes ≡ Err (line, cause)
    → IfOk r (λ due. (due.status ≡ 3) × (due.text ≡ refusal_text line (cause_name cause))) → IfOk r (λ due. DueTo (words_of c) bytes due.status due.text None)
script_refused_due c bytes line cause (Ok due) reads is h = rw (h.0, h.1) (script_refused line cause reads is)
script_refused_due c bytes line cause (Err error) reads is h = tt

pub json_due : (bytes : List ℕ) (w : WorldValue) (r : Result DueText NoMemory) → world bytes ≡ Ok w
    → IfOk r (λ due. (due.status ≡ 0) × (due.text ≡ ended_line (compact_text (value w)))) → IfOk r (λ due. DueTo (words_of command.Json) bytes due.status due.text None)
json_due bytes w (Ok due) is h = rw (h.0, h.1) (json_of w refl is)
json_due bytes w (Err error) is h = tt

-- what is due to the bytes of a JSON text

pub unjson_due : (bytes : List ℕ) (w : WorldValue) (r : Result DueText NoMemory) → IsWorld w → Reads bytes (value w) → IfOk r (λ due. (due.status ≡ 0) × (due.text ≡ canon w))
    → IfOk r (λ due. DueTo (words_of command.Unjson) bytes due.status due.text None)
unjson_due bytes w (Ok due) valid reads h = rw (h.0, h.1) (world_of w refl valid reads)
unjson_due bytes w (Err error) valid reads h = tt

pub bad_json_due : (bytes : List ℕ) (r : Result DueText NoMemory) → ((w : WorldValue) → IsWorld w → Reads bytes (value w) → ⊥)
    → IfOk r (λ due. (due.status ≡ 3) × (due.text ≡ bad_json_text)) → IfOk r (λ due. DueTo (words_of command.Unjson) bytes due.status due.text None)
bad_json_due bytes (Ok due) none h = rw (h.0, h.1) (json_refused refl none)
bad_json_due bytes (Err error) none h = tt

-- what is due to the bytes of a record

pub verdict_due : (bytes : List ℕ) (a : Audited) (r : Result DueText NoMemory) → audit bytes ≡ Ok a → IfOk r (λ due. IsChecked a TellsLegal due.status due.text)
    → IfOk r (λ due. DueTo (words_of command.Check) bytes due.status due.text None)
verdict_due bytes a (Ok due) is h = verdict_of a due.status due.text refl is h
verdict_due bytes a (Err error) is h = tt

pub chains_due : (bytes : List ℕ) (a : Audited) (line : ℕ) (r : Result DueText NoMemory) → MayTrace line → audit bytes ≡ Ok a
    → IfOk r (λ due. IsChecked a (TellsChains line) due.status due.text) → IfOk r (λ due. DueTo (words_of (command.Trace line)) bytes due.status due.text None)
chains_due bytes a line (Ok due) may is h = chains_of a line due.status due.text (refl, may) is h
chains_due bytes a line (Err error) may is h = tt

pub changes_due : (bytes : List ℕ) (a : Audited) (r : Result DueText NoMemory) → audit bytes ≡ Ok a → IfOk r (λ due. IsChecked a TellsChanges due.status due.text)
    → IfOk r (λ due. DueTo (words_of command.Confine) bytes due.status due.text None)
changes_due bytes a (Ok due) is h = changes_of a due.status due.text refl is h
changes_due bytes a (Err error) is h = tt

pub state_due : (bytes : List ℕ) (a : Audited) (count : ℕ) (r : Result DueText NoMemory) → MayTakeBack count → audit bytes ≡ Ok a
    → IfOk r (λ due. IsChecked a (TellsState count) due.status due.text) → IfOk r (λ due. DueTo (words_of (command.Back count)) bytes due.status due.text None)
state_due bytes a count (Ok due) may is h = state_of a count due.status due.text (refl, may) is h
state_due bytes a count (Err error) may is h = tt

pub record_refused_due : (c : Command) (bytes : List ℕ) (line : ℕ) (cause : Cause) (r : Result DueText NoMemory) → ReadsRecord (words_of c) → audit bytes ≡ Err (line, cause)
    → IfOk r (λ due. (due.status ≡ 3) × (due.text ≡ refusal_text line (cause_name cause)))
    → IfOk r (λ due. DueTo (words_of c) bytes due.status due.text None)
record_refused_due c bytes line cause (Ok due) reads is h = rw (h.0, h.1) (record_refused line cause reads is)
record_refused_due c bytes line cause (Err error) reads is h = tt

pub legal_due : (a : Audited) (Told : WorldValue → List Line → List ℕ → Type 0) (w : WorldValue) (lines : List Line) (end : End) (v : Verdict) (r : Result DueText NoMemory)
    → w ≡ a.world → lines ≡ a.lines
    → end ≡ a.end → IsVerdict w lines end v → v ≡ Legal → IsLawful w lines
    → IfOk r (λ due. (due.status ≡ 0) × Told w lines due.text) → IfOk r (λ due. IsChecked a Told due.status due.text)
legal_due a Told w lines end v (Ok due) w_is lines_are end_is is v_is laws h =
    let holds : IsLegal a.world a.lines a.end = rw (w_is, lines_are, end_is, v_is) at is in
    let lawful : IsLawful a.world a.lines = rw (w_is, lines_are) at laws in
    let told : Told a.world a.lines due.text = rw (w_is, lines_are) at h.1 in
    rw h.0 (legal due.text holds lawful told)
legal_due a Told w lines end v (Err error) w_is lines_are end_is is v_is laws h = tt

pub illegal_due : (a : Audited) (Told : WorldValue → List Line → List ℕ → Type 0) (w : WorldValue) (lines : List Line) (end : End) (v : Verdict) (n : ℕ) (cause : Misstep)
    (r : Result DueText NoMemory) → w ≡ a.world
    → lines ≡ a.lines → end ≡ a.end → IsVerdict w lines end v → v ≡ Illegal n cause
    → IfOk r (λ due. (due.status ≡ 8) × (due.text ≡ verdict_text v)) → IfOk r (λ due. IsChecked a Told due.status due.text)
illegal_due a Told w lines end v n cause (Ok due) w_is lines_are end_is is v_is h =
    let bad : IsVerdict a.world a.lines a.end (Illegal n cause) = rw (w_is, lines_are, end_is, v_is) at is in
    let told : due.text ≡ verdict_text (Illegal n cause) = rw v_is at h.1 in
    rw (h.0, told) (illegal n cause bad)
illegal_due a Told w lines end v n cause (Err error) w_is lines_are end_is is v_is h = tt

-- what is due to an input

pub reads_alone : (c : Command) → ReadsAlone c → TakesInput c
reads_alone command.Run alone = tt
reads_alone (command.RunOn cpus) alone = tt
reads_alone command.Show alone = tt
reads_alone command.Bound alone = tt
reads_alone command.Json alone = tt
reads_alone command.Unjson alone = tt
reads_alone command.Check alone = tt
reads_alone command.Confine alone = tt
reads_alone (command.Trace line) alone = tt
reads_alone (command.Back count) alone = tt
reads_alone (command.Gen count) alone = absurd alone

-- what one processor serves reads something, or is a generated world
pub alone_reads : (c : Command) → IsAlone c → ((count : ℕ) → c ≡ command.Gen count → ⊥) → ReadsAlone c
alone_reads command.Run alone other = tt
alone_reads (command.RunOn cpus) alone other = absurd alone
alone_reads command.Show alone other = tt
alone_reads command.Bound alone other = tt
alone_reads command.Json alone other = tt
alone_reads command.Unjson alone other = tt
alone_reads command.Check alone other = tt
alone_reads command.Confine alone other = tt
alone_reads (command.Trace line) alone other = tt
alone_reads (command.Back count) alone other = tt
alone_reads (command.Gen count) alone other = absurd (other count refl)

-- the most bytes that the words of a command may read
pub at_most : (c : Command) → TakesInput c → IsInRange c → ReadsAtMost (words_of c) (byte_limit c)
at_most command.Run reads range = inl (inl refl, refl)
at_most (command.RunOn cpus) reads range = inl (inr (inl (cpus, (refl, range))), refl)
at_most command.Show reads range = inl (inr (inr (inl refl)), refl)
at_most command.Bound reads range = inl (inr (inr (inr (inl refl))), refl)
at_most command.Json reads range = inl (inr (inr (inr (inr refl))), refl)
at_most command.Unjson reads range = inr (inr (refl, refl))
at_most command.Check reads range = inr (inl (inl refl, refl))
at_most command.Confine reads range = inr (inl (inr (inl refl), refl))
at_most (command.Trace line) reads range = inr (inl (inr (inr (inl (line, (refl, range)))), refl))
at_most (command.Back count) reads range = inr (inl (inr (inr (inr (count, (refl, range)))), refl))
at_most (command.Gen count) reads range = absurd reads

pub too_long_due : {before after : Option (List ℕ)} {status : ℕ} {text : List ℕ} {made : Option State} (c : Command) (limit : ℕ) → TakesInput c → IsInRange c → limit ≡ byte_limit c
    → Took before after (λ bytes. limit < length bytes) → (status ≡ 3) × (text ≡ too_long_text) × (made ≡ None)
    → Due (words_of c) before after status text made
too_long_due c limit reads range limit_is took h = rw (h.0, h.1, h.2) (too_long limit (subst (λ n. ReadsAtMost (words_of c) n) (sym limit_is) (at_most c reads range)) took)

-- a text that is due has a status of its own, which is not that of a fault of reading or of want of memory
abbrev Speaks : ℕ → Type 0
Speaks status = (status ≢ 4) × (status ≢ 5)

run_speaks : (e : End) → Speaks (status_of e)
run_speaks end.Done = (λ e. absurd (cc), λ e. absurd (cc))
run_speaks end.Stuck = (λ e. absurd (cc), λ e. absurd (cc))
run_speaks end.Limit = (λ e. absurd (cc), λ e. absurd (cc))

check_speaks : {a : Audited} {Told : WorldValue → List Line → List ℕ → Type 0} {status : ℕ} {text : List ℕ} → IsChecked a Told status text → Speaks status
check_speaks (legal text is laws told) = (λ e. absurd (cc), λ e. absurd (cc))
check_speaks (illegal n cause is) = (λ e. absurd (cc), λ e. absurd (cc))

due_speaks : {words : List (List ℕ)} {bytes : List ℕ} {status : ℕ} {text : List ℕ} {made : Option State} → IsRunDue words bytes status text made → Speaks status
due_speaks (record_of w status text made is r) = subst Speaks (sym r.record_is.status_is) (run_speaks r.end)
due_speaks (run_refused line cause runs is) = (λ e. absurd (cc), λ e. absurd (cc))

pub speaks : {words : List (List ℕ)} {bytes : List ℕ} {status : ℕ} {text : List ℕ} {made : Option State} → DueTo words bytes status text made → (status ≢ 4) × (status ≢ 5)
speaks (run_of status text made run) = due_speaks run
speaks (script_of w show is) = (λ e. absurd (cc), λ e. absurd (cc))
speaks (bounds_of w bounds bound is are) = (λ e. absurd (cc), λ e. absurd (cc))
speaks (verdict_of a status text checks is h) = check_speaks h
speaks (chains_of a line status text traces is h) = check_speaks h
speaks (changes_of a status text confines is h) = check_speaks h
speaks (state_of a count status text back is h) = check_speaks h
speaks (json_of w json is) = (λ e. absurd (cc), λ e. absurd (cc))
speaks (world_of w unjson valid reads) = (λ e. absurd (cc), λ e. absurd (cc))
speaks (json_refused unjson none) = (λ e. absurd (cc), λ e. absurd (cc))
speaks (script_refused line cause reads is) = (λ e. absurd (cc), λ e. absurd (cc))
speaks (record_refused line cause reads is) = (λ e. absurd (cc), λ e. absurd (cc))

pub summary_speaks : {count status : ℕ} {text : List ℕ} {made : Option State} → IsSummed count status text made → (status ≢ 4) × (status ≢ 5)
summary_speaks h = subst Speaks (sym h.status_is) (run_speaks end.Done)

pub of_reads : (words : List (List ℕ)) (limit : ℕ) → ReadsAtMost words limit → IsReading words
of_reads words limit (inl h) = inl h.0
of_reads words limit (inr (inl h)) = inr (inl h.0)
of_reads words limit (inr (inr h)) = inr (inr h.0)

-- the words of a command that reads something are those of such a command
pub is_reading : (c : Command) → TakesInput c → IsInRange c → IsReading (words_of c)
is_reading c reads range = of_reads (words_of c) (byte_limit c) (at_most c reads range)

-- the words of each command are those of a command
pub command_words : (c : Command) → IsInRange c → IsCommand (words_of c)
command_words command.Run range = inl (is_reading command.Run tt range)
command_words (command.RunOn cpus) range = inl (is_reading (command.RunOn cpus) tt range)
command_words command.Show range = inl (is_reading command.Show tt range)
command_words command.Bound range = inl (is_reading command.Bound tt range)
command_words command.Json range = inl (is_reading command.Json tt range)
command_words command.Unjson range = inl (is_reading command.Unjson tt range)
command_words command.Check range = inl (is_reading command.Check tt range)
command_words command.Confine range = inl (is_reading command.Confine tt range)
command_words (command.Trace line) range = inl (is_reading (command.Trace line) tt range)
command_words (command.Back count) range = inl (is_reading (command.Back count) tt range)
command_words (command.Gen count) range = inr (count, (refl, range))

-- the words of a command, as they were read
pub of_command : {words : List (List ℕ)} (c : Command) → IsInRange c → words ≡ words_of c → IsCommand words
of_command c range is = subst IsCommand (sym is) (command_words c range)

-- what a run of many processors, or of one, came to where the script is refused
pub refused_served : {K : Type 0} (state : K → State) (c : Command) (bytes : List ℕ) (line : ℕ) (cause : Cause) (due : DueText) (served : Served K) → RunsScript (words_of c)
    → world bytes ≡ Err (line, cause)
    → (due.status ≡ 3) × (due.text ≡ refusal_text line (cause_name cause)) → served.due ≡ due → served.kernel ≡ None
    → DueTo (words_of c) bytes served.due.status served.due.text (option_map state served.kernel)
refused_served state c bytes line cause due served reads is told due_is none = rw (due_is, none, told.0, told.1) (run_of 3 (refusal_text line (cause_name cause)) None (run_refused line cause reads is))

-- a call whose text is said, or that is silent, with the kernel that it hands back
pub answered : {K : Type 0} (P : Type 0) (state : K → State) {words : List (List ℕ)} {input output : Stream} (c : Command) (due : Result (Served K) Silence) (out : ℕ × Option K)
    → IsInRange c → words ≡ words_of c
    → IfOk due (λ served. Due (words_of c) input.before input.after served.due.status served.due.text (option_map state served.kernel))
    → (IsErrOf due Silence.ReadFault → FailedReading (words_of c) input)
    → IfOk due (λ served. (out.1 ≡ served.kernel) × IsSaid served.due.status served.due.text output out.0) → IfErr due (λ silence. (out ≡ (silent_status silence, None)) × P)
    → Answer words input output out.0 (option_map state out.1)
answered {K} P state {words} {input} {output} c (Ok served) out range is due fault spoken quiet =
    let said_as : Answer words input output out.0 (option_map state served.kernel) = said (due_at (sym is) refl refl due) spoken.1 in
    subst (λ (k : Option K). Answer words input output out.0 (option_map state k)) (sym spoken.0) said_as
answered {K} P state {words} {input} {output} c (Err silence.ReadFault) out range is due fault spoken quiet = rw quiet.0
    (read_fault (subst (λ ws. FailedReading ws input) (sym is) (fault refl)))
answered {K} P state {words} {input} {output} c (Err silence.NoMemory) out range is due fault spoken quiet = rw quiet.0 (no_memory (of_command c range is))
