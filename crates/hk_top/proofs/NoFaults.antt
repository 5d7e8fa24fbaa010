-- Over streams that never fail no status is that of a fault.
use Rattle.std.proofs.Common.{◌≡◌, ◌⊎◌, ℕ, List, Option, Some, None, refl, sym, subst, arith, inl, inr}
use Rattle.hk_model.specs.declared.lines.End.{End}
use Rattle.hk_model.specs.declared.lines.End.TheVariants as end
use Rattle.hk_model.specs.State.{State}
use Rattle.hk_model.specs.WorldValue.{WorldValue}
use Rattle.hk_model.specs.declared.lines.Line.{Line}
use Rattle.hk_format.specs.Audits.{Audited}
use Rattle.hk_top.specs.Runs.{IsRunDue, record_of, run_refused, status_of}
use Rattle.hk_top.specs.Outputs.{Answer, Due, DueTo, HadFault, IsChecked, Serves, stream}
use Rattle.hk_top.specs.Outputs.{read, summed, usage, too_long, written, read_fault, no_memory, write_fault, legal, illegal}
use Rattle.hk_top.specs.Outputs.{run_of, script_of, bounds_of, json_of, world_of, verdict_of, chains_of, changes_of, state_of, script_refused, record_refused, json_refused}
use Rattle.hk_top.proofs.Complete.{due_serves}

-- a status that tells of no fault
abbrev IsFaultless : ℕ → Type 0
IsFaultless n = (n ≡ 4 → ⊥) × (n ≡ 6 → ⊥)

zero_is : IsFaultless 0
zero_is = (λ e. omega (arith, e), λ e. omega (arith, e))

two_is : IsFaultless 2
two_is = (λ e. omega (arith, e), λ e. omega (arith, e))

three_is : IsFaultless 3
three_is = (λ e. omega (arith, e), λ e. omega (arith, e))

five_is : IsFaultless 5
five_is = (λ e. omega (arith, e), λ e. omega (arith, e))

eight_is : IsFaultless 8
eight_is = (λ e. omega (arith, e), λ e. omega (arith, e))

end_is : (e : End) → IsFaultless (status_of e)
end_is end.Done = zero_is
end_is end.Stuck = (λ e. omega (arith, e), λ e. omega (arith, e))
end_is end.Limit = (λ e. omega (arith, e), λ e. omega (arith, e))

checked_is : {a : Audited} {Told : WorldValue → List Line → List ℕ → Type 0} {status : ℕ} {text : List ℕ} → IsChecked a Told status text → IsFaultless status
checked_is (legal text is laws told) = zero_is
checked_is (illegal n cause is) = eight_is

run_due_is : {words : List (List ℕ)} {bytes : List ℕ} {status : ℕ} {text : List ℕ} {made : Option State} → IsRunDue words bytes status text made → IsFaultless status
run_due_is (record_of w status text made script is) = subst IsFaultless (sym is.record_is.status_is) (end_is is.end)
run_due_is (run_refused line cause runs script) = three_is

due_to_is : {words : List (List ℕ)} {bytes : List ℕ} {status : ℕ} {text : List ℕ} {made : Option State} → DueTo words bytes status text made → IsFaultless status
due_to_is (run_of status text made run) = run_due_is run
due_to_is (script_of w show script) = zero_is
due_to_is (bounds_of w bounds asks script are) = zero_is
due_to_is (json_of w asks script) = zero_is
due_to_is (world_of w asks valid reads) = zero_is
due_to_is (verdict_of a status text asks told is) = checked_is is
due_to_is (chains_of a line status text asks told is) = checked_is is
due_to_is (changes_of a status text asks told is) = checked_is is
due_to_is (state_of a count status text asks told is) = checked_is is
due_to_is (script_refused line cause reads script) = three_is
due_to_is (record_refused line cause reads told) = three_is
due_to_is (json_refused asks none) = three_is

due_is : {words : List (List ℕ)} {before after : Option (List ℕ)} {status : ℕ} {text : List ℕ} {made : Option State}
    → Due words before after status text made → IsFaultless status
due_is (read bytes status text made was due) = due_to_is due
due_is (summed count status text made asks is same) = subst IsFaultless (sym is.status_is) zero_is
due_is (usage none same) = two_is
due_is (too_long limit most took) = three_is

-- a count of faults that stays 0 has not risen
no_fault : (before after : Option (List ℕ)) → HadFault (stream before after 0 0) → ⊥
no_fault before after h = omega (arith, h)

pub never_fails : {words : List (List ℕ)} {before after taken_before taken_after : Option (List ℕ)} {status : ℕ} {made : Option State}
    → Answer words (stream before after 0 0) (stream taken_before taken_after 0 0) status made → (status ≡ 4 → ⊥) × (status ≡ 6 → ⊥)
never_fails (written status text made due appends) = due_is due
never_fails {before = before} {after = after} (read_fault failed) = absurd (no_fault before after failed.fault)
never_fails (no_memory command) = five_is
never_fails {taken_before = before} {taken_after = after} (write_fault status text made sent due fault few appends) = absurd (no_fault before after fault)

-- what the source had is served, or memory was wanted
pub is_served : {words : List (List ℕ)} {bytes : List ℕ} {after : Option (List ℕ)} {status : ℕ} {made : Option State}
    → Answer words (stream (Some bytes) after 0 0) (stream None None 0 0) status made → (status ≡ 5) ⊎ ((text : List ℕ) × Serves words bytes status text made)
is_served {bytes = bytes} (written status text made due appends) = inr (text, due_serves bytes refl due)
is_served {bytes = bytes} {after = after} (read_fault failed) = absurd (no_fault (Some bytes) after failed.fault)
is_served (no_memory command) = inl refl
is_served (write_fault status text made sent due fault few appends) = absurd (no_fault None None fault)
