-- The permission law and the denial law of every history: each of its lines is answered by an inference rule.
use Rattle.std.proofs.Common.{◌≡◌, ℕ, Some, List, subst}
use Rattle.hk_model.specs.declared.names.Proc.{Proc}
use Rattle.hk_model.specs.declared.names.Inc.{Inc}
use Rattle.hk_model.specs.declared.calls.Refusal.{Refusal}
use Rattle.hk_model.specs.declared.calls.Reply.{Reply}
use Rattle.hk_model.specs.declared.calls.Reply.TheVariants.{Done, Word, Waits, No}
use Rattle.hk_model.specs.declared.calls.Call.{Call}
use Rattle.hk_model.specs.declared.lines.What.TheVariants as what
use Rattle.hk_model.specs.declared.lines.Line.{Line}
use Rattle.hk_model.specs.WorldValue.{WorldValue}
use Rattle.hk_model.specs.State.{State, process}
use Rattle.hk_model.specs.Lines.{done_call, done_by}
use Rattle.hk_model.specs.Running.{opened, moved, machine_at, state_at, AreStepsOf}
use Rattle.hk_model.specs.Judgments.{IsAt}
use Rattle.hk_model.specs.Does.{Answers, Does, is_answered, is_refused}
use Rattle.hk_model.specs.Needs.{IsPermitted, Cause, PermissionLaw, DenialLaw}
use Rattle.hk_model.proofs.Steps.{EachStep, moved_holds, line_steps}
use Rattle.hk_model.proofs.RuleDoes.{rule_does}
use Rattle.hk_model.proofs.Permitted.{permitted}
use Rattle.hk_model.proofs.Caused.{caused}

-- what is done was permitted
does_permitted : (s : State) (proc : Proc) {c : Call} {reply : Reply} {t : State} (d : Call) → Does s proc c reply t → done_by (what.Call c) reply ≡ Some d
    → IsPermitted s (process s proc).current d
does_permitted s proc {c} d (is_answered {reply = reply} h) e = subst (IsPermitted s (process s proc).current) (same reply e) (permitted s proc (process s proc).current h)
  where
    same : (r : Reply) → done_by (what.Call c) r ≡ Some d → c ≡ d
    same Done g = cc
    same (Word n) g = cc
    same Waits g = cc
    same (No refusal) g = absurd (cc)
does_permitted s proc d (is_refused h) e = absurd (cc)

-- an answer is no refusal
never_no : (s : State) (proc : Proc) (inc : Inc) {c : Call} {refusal : Refusal} {t : State} {A : Type 0} → Answers s proc inc c (No refusal) t → A
never_no s proc inc h = elim h [ ]

-- what is refused has its cause
does_caused : (s : State) (proc : Proc) {c : Call} {reply : Reply} {t : State} (refusal : Refusal) → Does s proc c reply t → reply ≡ No refusal
    → Cause s proc (process s proc).current c refusal
does_caused s proc {c} refusal (is_answered {reply = reply} {after = after} h) e = never_no s proc (process s proc).current (subst (λ r. Answers s proc (process s proc).current c r after) e h)
does_caused s proc {c} refusal (is_refused h) e = subst (Cause s proc (process s proc).current c) (same e) (caused s proc (process s proc).current h)
  where
    same : {a b : Refusal} → ◌≡◌ {A = Reply} (No a) (No b) → a ≡ b
    same g = cc

-- both of each line
Told : State → Line → State → Type 0
Told s line t =
    ((c : Call) → done_call line ≡ Some c → IsPermitted s line.inc c)
    × ((c : Call) (refusal : Refusal) → line.what ≡ what.Call c → line.reply ≡ No refusal → Cause s line.proc line.inc c refusal)

each_told : EachStep Told
unfolding Told
each_told = record {
  calls = λ s cpu proc c r. (
    λ d e. does_permitted s proc d (rule_does s proc c) e,
    λ d refusal g e. let same : c ≡ d = cc in subst (λ x. Cause s proc (process s proc).current x refusal) same (does_caused s proc refusal (rule_does s proc c) e),
  );
  halts = λ s cpu proc r. (λ d e. absurd (cc), λ d refusal g e. absurd (cc));
  dispatches = λ s cpu first rest r. (λ d e. absurd (cc), λ d refusal g e. absurd (cc));
}

told_at : (w : WorldValue) (lines : List Line) (n : ℕ) (line : Line) → AreStepsOf w lines → IsAt lines n line
    → Told (state_at w lines n) line (moved w (machine_at w lines n) line.cpu).state
told_at w lines n line steps at = moved_holds Told each_told w (machine_at w lines n) line (line_steps w (opened w) lines n line steps at)

-- the laws
pub permission_law : (w : WorldValue) (lines : List Line) → AreStepsOf w lines → PermissionLaw w lines
unfolding Told
permission_law w lines steps n line c at done = (told_at w lines n line steps at).0 c done

pub denial_law : (w : WorldValue) (lines : List Line) → AreStepsOf w lines → DenialLaw w lines
unfolding Told
denial_law w lines steps n line c refusal at called reply = (told_at w lines n line steps at).1 c refusal called reply
