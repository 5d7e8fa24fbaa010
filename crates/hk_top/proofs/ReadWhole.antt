-- A record that a run prints is no longer than a record may be, so it is read whole and found legal.
use Rattle.std.proofs.Common.{◌≡◌, ◌≤◌, sym, ℕ, List, length, Option, Some, refl, subst, inl, inr}
use Rattle.hk_model.specs.declared.verdicts.Verdict.TheVariants.{Legal}
use Rattle.hk_model.specs.declared.lines.Line.{Line}
use Rattle.hk_model.specs.declared.lines.End.{End}
use Rattle.hk_model.specs.Legal.{IsLegal}
use Rattle.hk_model.specs.Limits.{script_bytes, record_bytes}
use Rattle.hk_model.specs.State.{State}
use Rattle.hk_model.specs.WorldValue.{WorldValue, IsWorld}
use Rattle.hk_format.specs.CauseTexts.{verdict_text}
use Rattle.hk_audit.proofs.RecordLengths.{record_fits}
use Rattle.hk_top.specs.declared.words.Command.TheVariants as command
use Rattle.hk_top.specs.Words.{words_of, ReadsScript, ReadsAtMost}
use Rattle.hk_top.specs.Runs.{IsRunOf, alone, shared}
use Rattle.hk_top.specs.Outputs.{Due, DueTo, IsPrinted}
use Rattle.hk_top.proofs.Complete.{due_told, one_limit}
use Rattle.hk_top.proofs.FoundLegal.{found_legal}

-- the words of a run read a script
run_reads : {words : List (List ℕ)} {w : WorldValue} {lines : List Line} {end : End} → IsRunOf words w lines end → ReadsScript words
run_reads (alone is run) = inl is
run_reads (shared cpus is run) = inr (inl (cpus, is))

-- and each run is legal
run_legal : {words : List (List ℕ)} {w : WorldValue} {lines : List Line} {end : End} → IsRunOf words w lines end → IsLegal w lines end
run_legal (alone is run) = run.legal
run_legal (shared cpus is run) = run.legal

pub printed_fits : (bytes : List ℕ) (w : WorldValue) (text : List ℕ) → IsWorld w → IsPrinted bytes w text → length text ≤ record_bytes
printed_fits bytes w text valid h =
    let r = h.recorded in
    let script : ReadsAtMost h.words script_bytes = inl (run_reads r.run, refl) in
    let short : length bytes ≤ script_bytes = subst (λ (n : ℕ). length bytes ≤ n) (one_limit h.was.at_most script) h.was.few in
    subst (λ (t : List ℕ). length t ≤ record_bytes) (sym r.record_is.text_is) (record_fits bytes w r.lines r.end valid h.script short (run_legal r.run).steps)

pub printed_legal : (bytes : List ℕ) (w : WorldValue) (text : List ℕ) → IsWorld w → IsPrinted bytes w text
    → (after : Option (List ℕ)) (status : ℕ) (told : List ℕ) (made : Option State) → Due (words_of command.Check) (Some text) after status told made
    → (status ≡ 0) × (told ≡ verdict_text Legal)
printed_legal bytes w text valid h after status told made due =
    let r = h.recorded in
    let whole = due_told text record_bytes refl (inr (inl (inl refl, refl))) (printed_fits bytes w text valid h) due in
    found_legal w r.lines r.end valid (run_legal r.run) status told made (subst (λ (t : List ℕ). DueTo (words_of command.Check) t status told made) r.record_is.text_is whole)
