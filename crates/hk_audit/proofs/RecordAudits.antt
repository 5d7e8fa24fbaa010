-- A record, or a refusal, by its script and what stands behind.
use Rattle.std.proofs.Common.{◌≡◌, ℕ, ◌+◌, List, length, refl, sym, ap, ◌∙◌, take, drop, Result, Ok, Err}
use Rattle.std.specs.Result.{IsErrAnd}
use Rattle.hk_format.specs.declared.causes.Cause.{Cause}
use Rattle.hk_model.specs.WorldValue.{WorldValue}
use Rattle.hk_format.specs.Texts.{lines_of}
use Rattle.hk_format.specs.Worlds.{Refused, world, world_of}
use Rattle.hk_model.specs.Refusing.{◌>>=◌}
use Rattle.hk_format.specs.Audits.{Events, Audited, audit, audit_cut, audited, cut, cut_at_record, events_behind}
use Rattle.hk_format.specs.declared.errors.ReadError.{ReadError}
use Rattle.hk_format.specs.declared.errors.ReadError.TheVariants as read_error
use Rattle.hk_audit.specs.RecordCuts.{texts_of, behind_first}
use Rattle.hk_audit.specs.RecordEvents.{GivesEvents}
use Rattle.hk_format.specs.Outcomes.{IsRefused}

-- the script, and what stands behind it
pub record Parted (bytes script behind : List ℕ) : Type 0 where
  pub cut_is : cut_at_record (texts_of bytes) ≡ cut (lines_of script) (behind_first behind)

pub parted : (bytes script behind : List ℕ) (k : ℕ) → cut_at_record (texts_of bytes) ≡ cut (lines_of (take k bytes)) (behind_first (drop k bytes)) → script ≡ take k bytes
    → behind ≡ drop k bytes → Parted bytes script behind
parted bytes script behind k e front back = record { cut_is = rw (front, back) e }

audit_is : (bytes script behind : List ℕ) → Parted bytes script behind → audit bytes ≡ audit_cut (cut (lines_of script) (behind_first behind))
unfolding audit
audit_is bytes script behind h = ap audit_cut h.cut_is

world_is : (script : List ℕ) → world script ≡ world_of (lines_of script)
unfolding world
world_is script = refl

-- what is behind a world
abbrev pub behind_world : List ℕ → List ℕ → WorldValue → Result Audited Refused
behind_world script behind w = events_behind (length (lines_of script) + 1) (behind_first behind) >>= λ found. Ok (audited w found)

pub script_refused : (bytes script behind : List ℕ) (e : Refused) → Parted bytes script behind → world script ≡ Err e → audit bytes ≡ Err e
script_refused bytes script behind e h bad =
    audit_is bytes script behind h ∙ ap (λ r. r >>= behind_world script behind) (sym (world_is script) ∙ bad)

pub behind_given : (bytes script behind : List ℕ) (w : WorldValue) → Parted bytes script behind → world script ≡ Ok w → audit bytes ≡ behind_world script behind w
behind_given bytes script behind w h good =
    audit_is bytes script behind h ∙ ap (λ r. r >>= behind_world script behind) (sym (world_is script) ∙ good)

pub behind_refused : (bytes script behind : List ℕ) (w : WorldValue) (number : ℕ) (e : (ReadError Cause)) → Parted bytes script behind → world script ≡ Ok w
    → number ≡ length (lines_of script)
    → GivesEvents (Err e) (events_behind (number + 1) (behind_first behind)) → (line : ℕ) (cause : Cause) → e ≡ read_error.Refused line cause → audit bytes ≡ Err (line, cause)
behind_refused bytes script behind w number read_error.NoMemory h good count given line cause e = absurd (cc)
behind_refused bytes script behind w number (read_error.Refused at why) h good count given line cause e =
    let a : at ≡ line = cc in
    let b : why ≡ cause = cc in
    let first = ap (λ n. events_behind (n + 1) (behind_first behind)) count in
    behind_given bytes script behind w h good ∙ ap (λ r. r >>= λ found. Ok (audited w found)) (sym first ∙ given) ∙ rw (a, b) refl

pub record_given : (bytes script behind : List ℕ) (w : WorldValue) (number : ℕ) (found : Events) → Parted bytes script behind → world script ≡ Ok w
    → number ≡ length (lines_of script)
    → events_behind (number + 1) (behind_first behind) ≡ Ok found → audit bytes ≡ Ok (audited w found)
record_given bytes script behind w number found h good count given =
    let first = ap (λ n. events_behind (n + 1) (behind_first behind)) count in
    behind_given bytes script behind w h good ∙ ap (λ r. r >>= λ found. Ok (audited w found)) (sym first ∙ given)

-- an answer that is an error of a part
pub of_error : {X : Type 0} (r : Result X (ReadError Cause)) (e : (ReadError Cause)) (given : Result Audited Refused) → IsErrAnd r (λ error. error ≡ e)
    → ((line : ℕ) (cause : Cause) → e ≡ read_error.Refused line cause → given ≡ Err (line, cause))
    → (line : ℕ) (cause : Cause) → IsRefused r line cause → given ≡ Err (line, cause)
of_error (Ok x) e given h f line cause r = absurd h
of_error (Err error) e given h f line cause r = let same : error ≡ read_error.Refused line cause = cc in f line cause (sym h ∙ same)
