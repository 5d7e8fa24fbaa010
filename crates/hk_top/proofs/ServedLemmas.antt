-- What is served for words and bytes, and what is due where the bytes are those of a source.
use Rattle.std.proofs.Common.{◌≡◌, ◌∙◌, ◌≢◌, ◌<◌, ◌≤◌, ℕ, List, length, codes, Option, None, option_map, Ok, Err, IfOk, IsErrOf, Result, ap, refl, sym, subst, arith}
use Rattle.hk_io.specs.declared.whole.ReadError.{ReadError}
use Rattle.hk_format.specs.CauseTexts.{too_long_text}
use Rattle.hk_model.specs.declared.kernel.NoMemory.{NoMemory}
use Rattle.hk_model.specs.State.{State}
use Rattle.hk_top.specs.declared.served.DueText.{DueText}
use Rattle.hk_top.specs.declared.served.Served.{Served}
use Rattle.hk_top.specs.declared.served.Silence.{Silence}
use Rattle.hk_top.specs.declared.words.Command.{Command}
use Rattle.hk_top.specs.declared.words.Command.TheVariants as command
use Rattle.hk_top.specs.Words.{IsCommand, IsInRange, MayGenerate, ReadsAtMost, TakesInput, byte_limit, words_of}
use Rattle.hk_top.specs.Outputs.{Due, FailedReading, Serves, Stream, usage_text, read, summed, whole, beyond, generated, no_command}
use Rattle.hk_top.specs.Served.{IsDueTo, IsServed, IsSummary, IsTaken, IsTooLong, IsUntaken}
use Rattle.hk_top.proofs.AnswerLemmas.{at_most, command_words, is_reading, of_reads, speaks, summary_speaks, too_long_due}
use Rattle.hk_top.proofs.Complete.{one_limit}
use Rattle.hk_top.proofs.WordLemmas.{gen_reads_nothing}

-- the text, letter by letter
pub usage_is : codes "usage: hydra COMMAND [NUMBER]\n" ≡ usage_text
usage_is = refl

-- ---- without streams

pub whole_served : {K : Type 0} (state : K → State) (bytes : List ℕ) (c : Command) (limit : ℕ) (r : Result (Served K) NoMemory) → TakesInput c → IsInRange c
    → limit ≡ byte_limit c → length bytes ≤ limit → IfOk r (λ served. IsDueTo state (words_of c) bytes served) → IfOk r (λ served. IsServed state (words_of c) bytes served)
whole_served state bytes c limit (Ok served) reads range limit_is few due =
    whole (byte_limit c) served.due.status served.due.text (option_map state served.kernel) (at_most c reads range) (omega (arith, limit_is, few)) due
whole_served state bytes c limit (Err error) reads range limit_is few due = tt

pub beyond_served : {K : Type 0} (state : K → State) (bytes : List ℕ) (c : Command) (limit : ℕ) (due : DueText) (served : Served K) → TakesInput c → IsInRange c
    → limit ≡ byte_limit c → limit < length bytes → (due.status ≡ 3) × (due.text ≡ too_long_text) → served.due ≡ due → served.kernel ≡ None
    → IsServed state (words_of c) bytes served
beyond_served state bytes c limit due served reads range limit_is more told due_is none =
    rw (due_is, none, told.0, told.1) (beyond (byte_limit c) (at_most c reads range) (omega (arith, limit_is, more)))

pub summary_served : {K : Type 0} (state : K → State) (bytes : List ℕ) (c : Command) (count : ℕ) (r : Result (Served K) NoMemory) → c ≡ command.Gen count → IsInRange c
    → IfOk r (λ served. IsSummary state count served) → IfOk r (λ served. IsServed state (words_of c) bytes served)
summary_served state bytes c count (Ok served) is range h =
    subst (λ d. IsServed state (words_of d) bytes served) (sym is) (generated count _ _ _ (refl, subst IsInRange is range) h)
summary_served state bytes c count (Err error) is range h = tt

pub usage_served : {K : Type 0} (state : K → State) {words : List (List ℕ)} (bytes : List ℕ) (due : DueText) (served : Served K) → (IsCommand words → ⊥)
    → (due.status ≡ 2) × (due.text ≡ usage_text) → served.due ≡ due → served.kernel ≡ None → IsServed state words bytes served
usage_served state bytes due served none told due_is alone = rw (due_is, alone, told.0, told.1) (no_command none)

-- what is served has a status of its own
pub serves_speaks : {words : List (List ℕ)} {bytes text : List ℕ} {status : ℕ} {made : Option State} → Serves words bytes status text made → (status ≢ 4) × (status ≢ 5)
serves_speaks (whole limit status text made reads few due) = speaks due
serves_speaks (beyond limit reads more) = (λ e. absurd (cc), λ e. absurd (cc))
serves_speaks (generated count status text made asks is) = summary_speaks is
serves_speaks (no_command none) = (λ e. absurd (cc), λ e. absurd (cc))

-- ---- by a source

-- every command but `gen` reads something
pub takes_input : (c : Command) → ((count : ℕ) → c ≡ command.Gen count → ⊥) → TakesInput c
takes_input command.Run other = tt
takes_input (command.RunOn cpus) other = tt
takes_input command.Show other = tt
takes_input command.Bound other = tt
takes_input command.Json other = tt
takes_input command.Unjson other = tt
takes_input command.Check other = tt
takes_input command.Confine other = tt
takes_input (command.Trace line) other = tt
takes_input (command.Back count) other = tt
takes_input (command.Gen count) other = other count refl

-- whose words have a limit
limited_takes : (c : Command) (limit : ℕ) → IsInRange c → ReadsAtMost (words_of c) limit → TakesInput c
limited_takes c limit range reads = takes_input c (λ count is. by count is range reads)
  where
    by : (count : ℕ) → c ≡ command.Gen count → IsInRange c → ReadsAtMost (words_of c) limit → ⊥
    by count is range reads =
        let may : MayGenerate count = subst IsInRange is range in
        let reading : ReadsAtMost (words_of (command.Gen count)) limit = subst (λ d. ReadsAtMost (words_of d) limit) is reads in
        gen_reads_nothing (count, (refl, may)) (of_reads (words_of (command.Gen count)) limit reading)

-- what is served for the bytes that were taken is due
pub taken_due : {before after : Option (List ℕ)} {bytes text : List ℕ} {status : ℕ} {made : Option State} (c : Command) → IsInRange c → IsTaken c before after bytes
    → Serves (words_of c) bytes status text made → Due (words_of c) before after status text made
taken_due {before} {after} {bytes} c range taken (whole limit status text made reads few due) =
    let all = taken.whole (limited_takes c limit range reads) in
    read bytes status text made (record { taken = all.0; end = all.1; limit = limit; at_most = reads; few = few }) due
taken_due {before} {after} {bytes} c range taken (beyond limit reads more) =
    let takes = limited_takes c limit range reads in
    let few = (taken.whole takes).2 in
    let same = one_limit reads (at_most c takes range) in
    absurd (omega (arith, few, same, more))
taken_due c range taken (generated count status text made asks is) =
    summed count status text made asks is (taken.left (λ takes. gen_reads_nothing (count, asks) (is_reading c takes range)))
taken_due c range taken (no_command none) = absurd (none (command_words c range))

-- the same of words that are those of the command
pub taken_words_due : {K : Type 0} (state : K → State) {words : List (List ℕ)} {before after : Option (List ℕ)} {bytes same : List ℕ} (c : Command) (served : Served K)
    → words ≡ words_of c → IsInRange c → IsTaken c before after bytes → same ≡ bytes → IsServed state words same served
    → Due (words_of c) before after served.due.status served.due.text (option_map state served.kernel)
taken_words_due state {words} {before} {after} {bytes} {same} c served words_are range taken is due =
    taken_due c range taken
    (subst (λ bs. Serves (words_of c) bs served.due.status served.due.text (option_map state served.kernel)) is
    (subst (λ ws. Serves ws same served.due.status served.due.text (option_map state served.kernel)) words_are due))

-- what is due where the source was not read to its end
pub untaken_due : {K : Type 0} (state : K → State) (c : Command) (input : Stream) (error : ReadError) (out : Result (Served K) Silence) → IsInRange c → IsUntaken c input error
    → IfOk out (λ served. (error ≡ ReadError.TooLong) × IsTooLong served)
    → IfOk out (λ served. Due (words_of c) input.before input.after served.due.status served.due.text (option_map state served.kernel))
untaken_due state c input error (Ok served) range u h =
    too_long_due c (byte_limit c) u.reads range refl (u.long.0, u.long.1, u.long.2.0 h.0) (h.1.0, h.1.1, ap (option_map state) h.1.2)
untaken_due state c input error (Err silence) range u h = tt

-- a read that failed
pub untaken_failed : {K : Type 0} (c : Command) (input : Stream) (error : ReadError) (out : Result (Served K) Silence) → IsInRange c → IsUntaken c input error
    → (IsErrOf out Silence.ReadFault → error ≡ ReadError.ReadFault) → IsErrOf out Silence.ReadFault → FailedReading (words_of c) input
untaken_failed c input error out range u cause failed = record {
  limit = byte_limit c;
  reads = at_most c u.reads range;
  fault = u.fault fault_is;
  few = (u.long.0, u.long.1, few);
}
  where
    fault_is : error ≡ ReadError.ReadFault
    fault_is = cause failed

    no_more : byte_limit c < length u.long.0 → ⊥
    no_more more = let clash : ReadError.ReadFault ≡ ReadError.TooLong = sym fault_is ∙ u.long.2.1 more in cc

    few : length u.long.0 ≤ byte_limit c
    few = omega (arith, no_more)
