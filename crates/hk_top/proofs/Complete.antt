-- Where nothing failed, the text that is due to the bytes was written whole.
use Rattle.std.proofs.Common.{◌≡◌, ◌∙◌, ◌≤◌, ◌⊎◌, ℕ, List, ◌++◌, length, Option, Some, None, refl, sym, subst, ap, arith, inl, inr, length-append, append-nil}
use Rattle.std.specs.Io.KnownBytes.{Appends, Consumes, IsAtEnd}
use Rattle.hk_model.specs.State.{State}
use Rattle.hk_top.specs.Words.{IsGen, IsReading, ReadsAtMost}
use Rattle.hk_top.proofs.WordLemmas.{no_record, no_json, no_json_record, one_count, gen_reads_nothing}
use Rattle.hk_top.specs.Outputs.{Answer, Due, DueTo, HadFault, IsComplete, IsSummed, Serves, Stream, whole, beyond, generated, no_command, read, summed, usage, too_long, written, read_fault, no_memory, write_fault}

-- a source that told its bytes and was read to its end gave them all
all_read : (before after : Option (List ℕ)) (bytes got : List ℕ) → before ≡ Some bytes → Consumes before after got → IsAtEnd after → got ≡ bytes
all_read before after bytes got told taken end = by after (subst (λ (o : Option (List ℕ)). Consumes o after got) told taken) end
  where
    by : (after : Option (List ℕ)) → Consumes (Some bytes) after got → IsAtEnd after → got ≡ bytes
    by None taken end = absurd taken
    by (Some rest) taken end = sym (append-nil got) ∙ (ap (λ (r : List ℕ). got ++ r) (sym end) ∙ sym taken)

-- no more bytes were taken than it had
most_taken : (before after : Option (List ℕ)) (bytes got : List ℕ) → before ≡ Some bytes → Consumes before after got → length got ≤ length bytes
most_taken before after bytes got told taken = by after (subst (λ (o : Option (List ℕ)). Consumes o after got) told taken)
  where
    by : (after : Option (List ℕ)) → Consumes (Some bytes) after got → length got ≤ length bytes
    by None taken = absurd taken
    by (Some rest) taken = let both = length-append got rest in let same = ap length taken in omega (arith, both, same)

of_reading : {words : List (List ℕ)} {limit : ℕ} → ReadsAtMost words limit → IsReading words
of_reading (inl h) = inl h.0
of_reading (inr (inl h)) = inr (inl h.0)
of_reading (inr (inr h)) = inr (inr h.0)

-- words that read have one limit
pub one_limit : {words : List (List ℕ)} {limit other : ℕ} → ReadsAtMost words limit → ReadsAtMost words other → limit ≡ other
one_limit (inl h) (inl g) = h.1 ∙ sym g.1
one_limit (inl h) (inr (inl g)) = absurd (no_record h.0 g.0)
one_limit (inl h) (inr (inr g)) = absurd (no_json h.0 g.0)
one_limit (inr (inl h)) (inl g) = absurd (no_record g.0 h.0)
one_limit (inr (inl h)) (inr (inl g)) = h.1 ∙ sym g.1
one_limit (inr (inl h)) (inr (inr g)) = absurd (no_json_record h.0 g.0)
one_limit (inr (inr h)) (inl g) = absurd (no_json g.0 h.0)
one_limit (inr (inr h)) (inr (inl g)) = absurd (no_json_record g.0 h.0)
one_limit (inr (inr h)) (inr (inr g)) = h.1 ∙ sym g.1

module _ {words : List (List ℕ)} {before after : Option (List ℕ)} (bytes : List ℕ) (limit : ℕ) (told : before ≡ Some bytes) (reads : ReadsAtMost words limit)
    (few : length bytes ≤ limit) where
  pub due_told : {status : ℕ} {text : List ℕ} {made : Option State} → Due words before after status text made → DueTo words bytes status text made
  due_told {status} {text} {made} (read got _ _ _ was due) = subst (λ (b : List ℕ). DueTo words b status text made) (all_read before after bytes got told was.taken was.end) due
  due_told {status} {text} {made} (usage none same) = absurd (none (inl (of_reading reads)))
  due_told {status} {text} {made} (summed count _ _ _ gen h same) = absurd (gen_reads_nothing (count, gen) (of_reading reads))
  due_told {status} {text} {made} (too_long most mine took) =
      let less = most_taken before after bytes took.0 told took.1 in
      let same = one_limit reads mine in
      let more = took.2 in
      absurd (omega (arith, less, same, more, few))

-- what is due where a source had these bytes is served for them
pub due_serves : {words : List (List ℕ)} {before after : Option (List ℕ)} (bytes : List ℕ) → before ≡ Some bytes → {status : ℕ} {text : List ℕ} {made : Option State}
    → Due words before after status text made → Serves words bytes status text made
due_serves {words} {before} {after} bytes told (read got status text made was due) =
    let same = all_read before after bytes got told was.taken was.end in
    whole was.limit status text made was.at_most (subst (λ (b : List ℕ). length b ≤ was.limit) same was.few) (subst (λ (b : List ℕ). DueTo words b status text made) same due)
due_serves bytes told (summed count status text made asks is same) = generated count status text made asks is
due_serves bytes told (usage none same) = no_command none
due_serves {words} {before} {after} bytes told (too_long limit reads took) =
    let less = most_taken before after bytes took.0 told took.1 in
    let more = took.2 in
    beyond limit reads (omega (arith, less, more))

-- what is due where a world is generated
due_summed : {words : List (List ℕ)} {before after : Option (List ℕ)} (count : ℕ) → IsGen words count → {status : ℕ} {text : List ℕ} {made : Option State}
    → Due words before after status text made → IsSummed count status text made
due_summed {words} {before} {after} count gen {status} {text} {made} (read got _ _ _ was due) = absurd (gen_reads_nothing (count, gen) (of_reading was.at_most))
due_summed {words} {before} {after} count gen {status} {text} {made} (summed other _ _ _ mine h same) =
    subst (λ (n : ℕ). IsSummed n status text made) (one_count mine gen) h
due_summed {words} {before} {after} count gen {status} {text} {made} (usage none same) = absurd (none (inr (count, gen)))
due_summed {words} {before} {after} count gen {status} {text} {made} (too_long most mine took) = absurd (gen_reads_nothing (count, gen) (of_reading mine))

module _ {words : List (List ℕ)} {input output : Stream} where
  complete_reading : {status : ℕ} {made : Option State} → Answer words input output status made
      → (bytes : List ℕ) (limit : ℕ) → input.before ≡ Some bytes → ReadsAtMost words limit → length bytes ≤ limit → (HadFault input → ⊥) → (HadFault output → ⊥)
      → (status ≡ 5) ⊎ ((text : List ℕ) × DueTo words bytes status text made × Appends output.before output.after text)
  complete_reading (written _ text _ due said) bytes limit told reads few quiet_in quiet_out = inr (text, due_told bytes limit told reads few due, said)
  complete_reading (read_fault failed) bytes limit told reads few quiet_in quiet_out = absurd (quiet_in failed.fault)
  complete_reading (no_memory command) bytes limit told reads few quiet_in quiet_out = inl refl
  complete_reading (write_fault _ text _ sent due fault some said) bytes limit told reads few quiet_in quiet_out = absurd (quiet_out fault)

  complete_generating : {status : ℕ} {made : Option State} → Answer words input output status made
      → (count : ℕ) → IsGen words count → (HadFault output → ⊥)
      → (status ≡ 5) ⊎ ((text : List ℕ) × IsSummed count status text made × Appends output.before output.after text)
  complete_generating (written _ text _ due said) count gen quiet_out = inr (text, due_summed count gen due, said)
  complete_generating (read_fault failed) count gen quiet_out = absurd (gen_reads_nothing (count, gen) (of_reading failed.reads))
  complete_generating (no_memory command) count gen quiet_out = inl refl
  complete_generating (write_fault _ text _ sent due fault some said) count gen quiet_out = absurd (quiet_out fault)

  pub complete : {status : ℕ} {made : Option State} → Answer words input output status made → IsComplete words input output status made
  complete answer = record { reading = complete_reading answer; generating = complete_generating answer }
