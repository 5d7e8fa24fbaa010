-- The record of a legal history is read again, and has the verdict that it is legal.
use Rattle.std.proofs.Common.{◌≡◌, ◌∙◌, sym, ℕ, List, Option, Ok, refl, subst, inl, inr}
use Rattle.hk_model.specs.declared.verdicts.Verdict.TheVariants.{Legal, Illegal}
use Rattle.hk_model.specs.declared.lines.Line.{Line}
use Rattle.hk_model.specs.declared.lines.End.{End}
use Rattle.hk_format.specs.CauseTexts.{verdict_text}
use Rattle.hk_format.specs.Audits.{Audited, audit, audited, events}
use Rattle.hk_model.specs.Legal.{IsLegal}
use Rattle.hk_format.specs.Records.{record_text}
use Rattle.hk_model.specs.WorldValue.{WorldValue, IsWorld}
use Rattle.hk_model.specs.State.{State}
use Rattle.hk_audit.proofs.RecordAgain.{record_again}
use Rattle.hk_audit.proofs.StepsInRange.{steps_in_range}
use Rattle.hk_check.proofs.OneVerdict.{one_verdict}
use Rattle.hk_top.specs.declared.words.Command.TheVariants as command
use Rattle.hk_top.specs.Words.{words_of, ReadsScript}
use Rattle.hk_top.proofs.WordLemmas.{no_record, no_json_record}
use Rattle.hk_top.specs.Runs.{IsRunDue, IsRunOf, alone, record_of, run_refused, shared}
use Rattle.hk_top.specs.Outputs.{DueTo, IsChecked, run_of, script_of, bounds_of, json_of, world_of, verdict_of, changes_of}
use Rattle.hk_top.specs.Outputs.{chains_of, state_of, script_refused, record_refused, json_refused, TellsLegal, legal, illegal}

-- the words `check` read no script and ask for no run
no_run : {w : WorldValue} {lines : List Line} {end : End} → IsRunOf (words_of command.Check) w lines end → ⊥
no_run (alone is run) = absurd (cc)
no_run (shared cpus is run) = let words = is.0 in absurd (cc)

no_script : ReadsScript (words_of command.Check) → ⊥
no_script reads = no_record reads (inl refl)

no_run_due : {bytes text : List ℕ} {status : ℕ} {made : Option State} → IsRunDue (words_of command.Check) bytes status text made → ⊥
no_run_due (record_of w status text made script recorded) = no_run recorded.run
no_run_due (run_refused line cause (inl run) script) = no_script (inl run)
no_run_due (run_refused line cause (inr many) script) = no_script (inr (inl many))

checked_legal : (a : Audited) (status : ℕ) (text : List ℕ) → IsLegal a.world a.lines a.end → IsChecked a TellsLegal status text → (status ≡ 0) × (text ≡ verdict_text Legal)
checked_legal a status text h (legal _ is laws told) = (refl, told)
checked_legal a status text h (illegal n cause is) = let same = one_verdict a.world a.lines a.end Legal (Illegal n cause) h is in absurd (cc)

pub found_legal : (w : WorldValue) (lines : List Line) (end : End) → IsWorld w → IsLegal w lines end → (status : ℕ) (text : List ℕ) (made : Option State)
    → DueTo (words_of command.Check) (record_text w lines end) status text made → (status ≡ 0) × (text ≡ verdict_text Legal)
found_legal w lines end world is status text made due = by due
  where
    again : audit (record_text w lines end) ≡ Ok (audited w (events lines end))
    again = record_again w lines end world (steps_in_range w lines world is.steps)

    by : {status : ℕ} {text : List ℕ} {made : Option State} → DueTo (words_of command.Check) (record_text w lines end) status text made → (status ≡ 0) × (text ≡ verdict_text Legal)
    by (run_of _ _ _ run) = absurd (no_run_due run)
    by (script_of v show reads) = absurd (cc)
    by (bounds_of v bounds bound reads are) = absurd (no_script (inr (inr (inr (inl bound)))))
    by (json_of v json reads) = absurd (no_script (inr (inr (inr (inr json)))))
    by (world_of v unjson valid reads) = absurd (no_json_record (inl refl) unjson)
    by (verdict_of a _ _ check reads checked) =
        let both = sym again ∙ reads in
        let same : audited w (events lines end) ≡ a = cc in
        checked_legal a _ _ (subst (λ (x : Audited). IsLegal x.world x.lines x.end) same is) checked
    by (changes_of a _ _ confine reads checked) = absurd (cc)
    by (state_of a count _ _ back reads checked) = let both = back.0 in absurd (cc)
    by (chains_of a line _ _ trace reads checked) = let both = trace.0 in absurd (cc)
    by (script_refused line cause reads refused) = absurd (no_script (inr (inr reads)))
    by (record_refused line cause reads refused) = let both = sym again ∙ refused in absurd (cc)
    by (json_refused unjson none) = absurd (no_json_record (inl refl) unjson)
