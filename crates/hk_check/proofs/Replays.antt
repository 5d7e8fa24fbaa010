-- What is known of a record after so many of its lines were found to be steps.
use Rattle.std.specs.Prelude.{◌≡◌, ℕ, zero, suc, ◌+◌, ◌≤◌, List, [], ◌∷◌, ◌++◌, length, Bool, true, false, Decides, Option, Some, None, IfSome, IfNone, slice_get, take, refl}
use Rattle.std.proofs.Common.{arith, ap, sym, ◌∙◌, subst}
use Rattle.std.proofs.lemmas.Bool.{true≢false}
use Rattle.hk_model.specs.declared.names.Cpu.{Cpu}
use Rattle.hk_model.specs.declared.names.Proc.{Proc}
use Rattle.hk_model.specs.declared.names.Inc.{Inc}
use Rattle.hk_model.specs.declared.calls.Reply.{Reply}
use Rattle.hk_model.specs.declared.lines.What.{What}
use Rattle.hk_model.specs.declared.lines.Line.{Line}
use Rattle.hk_model.specs.declared.lines.End.{End}
use Rattle.hk_model.specs.declared.verdicts.Misstep.{Misstep}
use Rattle.hk_model.specs.declared.verdicts.Misstep.TheVariants as misstep
use Rattle.hk_model.specs.WorldValue.{WorldValue}
use Rattle.hk_model.specs.Running.{Machine, after_lines, opened, step, line_of}
use Rattle.hk_model.specs.Legal.{IsLegal, end_word}
use Rattle.hk_model.specs.Verdicts.{Differs, IsBySame, IsMisstep}
use Rattle.hk_check.specs.Causes.{first_cause}
use Rattle.hk_check.specs.Replays.{IsReplay}
use Rattle.hk_program.specs.Machines.{IsSound}
use Rattle.hk_program.proofs.Machines.{steps_snoc, step_cpu, lines_within}

pub replay_begins : (w : WorldValue) (m : Machine) → m ≡ opened w → IsSound w m → IsReplay w [] m
replay_begins w m h sound = record { steps = tt; is = h; sound = sound }

-- one line more
take_one : (lines : List Line) (n : ℕ) (line : Line) → slice_get lines n ≡ Some line → take (n + 1) lines ≡ take n lines ++ line ∷ []
take_one lines n line h = rw (next n) (by lines n h)
  where
    next : (n : ℕ) → n + 1 ≡ suc n
    next n = omega arith

    by : (lines : List Line) (n : ℕ) → slice_get lines n ≡ Some line → take (suc n) lines ≡ take n lines ++ line ∷ []
    by [] n h = absurd (cc)
    by (x ∷ lines) zero h = let same : x ≡ line = cc in rw same refl
    by (x ∷ lines) (suc n) h = ap (λ (l : List Line). x ∷ l) (by lines n h)

pub replay_goes_on : (w : WorldValue) (lines : List Line) (n : ℕ) (m new : Machine) (line : Line) → IsReplay w (take n lines) m → slice_get lines n ≡ Some line
    → step w m line.cpu ≡ Some (line, new) → IsSound w new → IsReplay w (take (n + 1) lines) new
replay_goes_on w lines n m new line h there e sound =
    let longer = steps_snoc w (take n lines) m line.cpu line new h.steps h.is e in
    subst (λ (l : List Line). IsReplay w l new) (sym (take_one lines n line there)) (record { steps = longer.steps; is = longer.is; sound = sound })

-- the first bad line
pub line_is_bad : (w : WorldValue) (lines : List Line) (end : End) (n : ℕ) (m : Machine) (line : Line) (cause : Misstep) → IsReplay w (take n lines) m
    → slice_get lines n ≡ Some line → Differs (line_of w m line.cpu) line cause → IsMisstep w lines end (n + 1) cause
line_is_bad w lines end n m line cause h there d = by cause (subst (λ (k : Machine). Differs (line_of w k line.cpu) line cause) h.is d)
  where
    none : (o : Option Line) → Differs o line misstep.EndWord → ⊥
    none None g = g
    none (Some s) g = g

    by : (cause : Misstep) → Differs (line_of w (after_lines w (opened w) (take n lines)) line.cpu) line cause → IsMisstep w lines end (n + 1) cause
    by misstep.Cpu g = record { before = n; number = refl; line = line; there = there; steps = h.steps; differs = g }
    by misstep.Process g = record { before = n; number = refl; line = line; there = there; steps = h.steps; differs = g }
    by misstep.Call g = record { before = n; number = refl; line = line; there = there; steps = h.steps; differs = g }
    by misstep.Reply g = record { before = n; number = refl; line = line; there = there; steps = h.steps; differs = g }
    by misstep.EndWord g = absurd (none (line_of w (after_lines w (opened w) (take n lines)) line.cpu) g)

-- the number of a line fits
length_take : (lines : List Line) (n : ℕ) → n ≤ length lines → length (take n lines) ≡ n
length_take lines zero h = zero_lines lines
  where
    zero_lines : (lines : List Line) → length (take zero lines) ≡ 0
    zero_lines [] = refl
    zero_lines (x ∷ xs) = refl
length_take [] (suc n) h = absurd (omega arith)
length_take (x ∷ lines) (suc n) h = let rest = length_take lines n (omega arith) in omega (arith, rest)

pub few_lines : (w : WorldValue) (lines : List Line) (n : ℕ) (m : Machine) → IsReplay w (take n lines) m → n ≤ length lines → n ≤ 1000000
few_lines w lines n m h below =
    let a = lines_within w (take n lines) h.sound.world h.steps in
    let b = length_take lines n below in
    let c = h.sound.world.few_events in
    omega (arith, a, b, c)

-- all lines are steps
pub record_is_legal : (w : WorldValue) (lines : List Line) (end : End) (m : Machine) → IsReplay w lines m → end_word m.state ≡ Some end → IsLegal w lines end
record_is_legal w lines end m h e = record { steps = h.steps; ends = subst (λ (k : Machine). end_word k.state ≡ Some end) h.is e }

pub end_is_bad : (w : WorldValue) (lines : List Line) (end : End) (n : ℕ) (m : Machine) → n ≡ length lines → IsReplay w lines m → (end_word m.state ≡ Some end → ⊥)
    → IsMisstep w lines end (n + 1) misstep.EndWord
end_is_bad w lines end n m many h e = record { number = ap (λ (k : ℕ). k + 1) many; steps = h.steps; differs = subst (λ (k : Machine). end_word k.state ≡ Some end → ⊥) h.is e }

-- all lines can be numbered
pub few_in_all : (w : WorldValue) (lines : List Line) (m : Machine) → IsReplay w lines m → length lines ≤ 1000000
few_in_all w lines m h = let a = lines_within w lines h.sound.world h.steps in let c = h.sound.world.few_events in omega (arith, a, c)

-- the line of a step is its processor's
pub step_is_of : (w : WorldValue) (m : Machine) (cpu : Cpu) (line : Line) (new : Machine) → step w m cpu ≡ Some (line, new) → line.cpu ≡ cpu
step_is_of w m cpu line new e = subst (λ (found : Option (Line × Machine)). IfSome found (λ f. f.0.cpu ≡ cpu)) e (step_cpu w m cpu)

-- the first cause is how the line differs, and there is none where it is the step
pub cause_differs : (made line : Line) (by event reply : Bool) → Decides by (IsBySame made line) → Decides event (made.what ≡ line.what) → Decides reply (made.reply ≡ line.reply)
    → IfSome (first_cause by event reply) (λ cause. Differs (Some made) line cause)
cause_differs made line false event reply a b c = λ h. true≢false (sym (a.1 h))
cause_differs made line true false reply a b c = (a.0 refl, λ h. true≢false (sym (b.1 h)))
cause_differs made line true true false a b c = (a.0 refl, b.0 refl, λ h. true≢false (sym (c.1 h)))
cause_differs made line true true true a b c = tt

pub no_cause : (made line : Line) (by event reply : Bool) → made.cpu ≡ line.cpu → Decides by (IsBySame made line) → Decides event (made.what ≡ line.what)
    → Decides reply (made.reply ≡ line.reply) → IfNone (first_cause by event reply) (made ≡ line)
no_cause made line false event reply e a b c = tt
no_cause made line true false reply e a b c = tt
no_cause made line true true false e a b c = tt
no_cause made line true true true e a b c = let d = a.0 refl in same made line e d.0 d.1 (b.0 refl) (c.0 refl)
  where
    same : (x y : Line) → x.cpu ≡ y.cpu → x.proc ≡ y.proc → x.inc ≡ y.inc → x.what ≡ y.what → x.reply ≡ y.reply → x ≡ y
    same x y a b c d e =
        ap (λ (n : Cpu). let l : Line = record { cpu = n; proc = x.proc; inc = x.inc; what = x.what; reply = x.reply } in l) a
        ∙ (ap (λ (n : Proc). let l : Line = record { cpu = y.cpu; proc = n; inc = x.inc; what = x.what; reply = x.reply } in l) b
        ∙ (ap (λ (n : Inc). let l : Line = record { cpu = y.cpu; proc = y.proc; inc = n; what = x.what; reply = x.reply } in l) c
        ∙ (ap (λ (n : What). let l : Line = record { cpu = y.cpu; proc = y.proc; inc = y.inc; what = n; reply = x.reply } in l) d
        ∙ ap (λ (n : Reply). let l : Line = record { cpu = y.cpu; proc = y.proc; inc = y.inc; what = y.what; reply = n } in l) e)))

-- no cause was found
pub misstep_none : (P : Type 0) (o : Option Misstep) → IfNone o P → ((cause : Misstep) → o ≡ Some cause → ⊥) → P
misstep_none P None h g = h
misstep_none P (Some cause) h g = absurd (g cause refl)
