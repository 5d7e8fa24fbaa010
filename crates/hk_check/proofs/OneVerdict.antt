-- Two verdicts on the same lines and end word are the same.
use Rattle.std.specs.Prelude.{◌≡◌, ℕ, zero, suc, ◌+◌, ◌<◌, ◌≤◌, List, [], ◌∷◌, length, Option, Some, None, slice_get, take, refl}
use Rattle.std.proofs.Common.{arith, sym, ◌∙◌, subst, ◌⊎◌, inl, inr}
use Rattle.std.proofs.lemmas.Bool.{cases_lt}
use Rattle.std.proofs.lemmas.List.{take_all}
use Rattle.hk_model.specs.declared.lines.Line.{Line}
use Rattle.hk_model.specs.declared.lines.End.{End}
use Rattle.hk_model.specs.declared.verdicts.Misstep.{Misstep}
use Rattle.hk_model.specs.declared.verdicts.Misstep.TheVariants as misstep
use Rattle.hk_model.specs.declared.verdicts.Verdict.{Verdict}
use Rattle.hk_model.specs.declared.verdicts.Verdict.TheVariants as verdict
use Rattle.hk_model.specs.WorldValue.{WorldValue}
use Rattle.hk_model.specs.Running.{Machine, AreSteps, AreStepsOf, after_lines, line_of, machine_at, moved, opened}
use Rattle.hk_model.specs.Legal.{IsLegal}
use Rattle.hk_model.specs.Verdicts.{Differs, IsBadEnd, IsBadLine, IsMisstep, IsVerdict}

-- a line before so many that are steps is one of them
step_before : (w : WorldValue) (m : Machine) (lines : List Line) (n many : ℕ) (line : Line) → n < many → AreSteps w m (take many lines) → slice_get lines n ≡ Some line
    → line_of w (after_lines w m (take n lines)) line.cpu ≡ Some line
step_before w m [] n many line low steps there = absurd (cc)
step_before w m (x ∷ lines) n zero line low steps there = absurd (omega arith)
step_before w m (x ∷ lines) zero (suc many) line low steps there = let same : x ≡ line = cc in subst (λ (l : Line). line_of w m l.cpu ≡ Some l) same steps.0
step_before w m (x ∷ lines) (suc n) (suc many) line low steps there = step_before w (moved w m x.cpu) lines n many line (omega arith) steps.1 there

-- where all lines are steps, each is
step_among : (w : WorldValue) (lines : List Line) (n : ℕ) (line : Line) → AreStepsOf w lines → slice_get lines n ≡ Some line → line_of w (machine_at w lines n) line.cpu ≡ Some line
step_among w lines n line steps there =
    let whole = take_all (length lines + suc n) lines (omega arith) in
    step_before w (opened w) lines n (length lines + suc n) line (omega arith) (subst (λ (l : List Line). AreStepsOf w l) (sym whole) steps) there

-- a step does not differ from itself
no_difference : (line : Line) (cause : Misstep) → Differs (Some line) line cause → ⊥
no_difference line misstep.Cpu h = h
no_difference line misstep.Process h = h (refl, refl)
no_difference line misstep.Call h = h.1 refl
no_difference line misstep.Reply h = h.2 refl
no_difference line misstep.EndWord h = h

-- a bad line is no step
bad_among : (w : WorldValue) (lines : List Line) (n : ℕ) (cause : Misstep) → AreStepsOf w lines → IsBadLine w lines n cause → ⊥
bad_among w lines n cause steps h =
    no_difference h.line cause (subst (λ (o : Option Line). Differs o h.line cause) (step_among w lines h.before h.line steps h.there) h.differs)

bad_before : (w : WorldValue) (lines : List Line) (n many : ℕ) (cause : Misstep) → AreStepsOf w (take many lines) → (h : IsBadLine w lines n cause) → h.before < many → ⊥
bad_before w lines n many cause steps h low =
    no_difference h.line cause (subst (λ (o : Option Line). Differs o h.line cause) (step_before w (opened w) lines h.before many h.line low steps h.there) h.differs)

-- a line differs from a step for one first cause
one_cause : (o : Option Line) (line : Line) (one other : Misstep) → Differs o line one → Differs o line other → one ≡ other
one_cause None line misstep.Cpu misstep.Cpu h k = refl
one_cause None line misstep.Cpu other h k = absurd k
one_cause None line one other h k = absurd h
one_cause (Some step) line misstep.Process misstep.Process h k = refl
one_cause (Some step) line misstep.Process misstep.Call h k = absurd (h k.0)
one_cause (Some step) line misstep.Process misstep.Reply h k = absurd (h k.0)
one_cause (Some step) line misstep.Process other h k = absurd k
one_cause (Some step) line misstep.Call misstep.Process h k = absurd (k h.0)
one_cause (Some step) line misstep.Call misstep.Call h k = refl
one_cause (Some step) line misstep.Call misstep.Reply h k = absurd (h.1 k.1)
one_cause (Some step) line misstep.Call other h k = absurd k
one_cause (Some step) line misstep.Reply misstep.Process h k = absurd (k h.0)
one_cause (Some step) line misstep.Reply misstep.Call h k = absurd (k.1 h.1)
one_cause (Some step) line misstep.Reply misstep.Reply h k = refl
one_cause (Some step) line misstep.Reply other h k = absurd k
one_cause (Some step) line one other h k = absurd h

-- the first bad line is one, with one first cause
one_bad_line : (w : WorldValue) (lines : List Line) (n many : ℕ) (one other : Misstep) → IsBadLine w lines n one → IsBadLine w lines many other → (n ≡ many) × (one ≡ other)
one_bad_line w lines n many one other h k = go (cases_lt h.before k.before) (cases_lt k.before h.before)
  where
    same : h.before ≡ k.before → (n ≡ many) × (one ≡ other)
    same e =
        let line : h.line ≡ k.line = let there = h.there in let too = k.there in cc in
        let differs = subst (λ (l : Line). Differs (line_of w (machine_at w lines h.before) l.cpu) l one) line h.differs in
        let here = subst (λ (b : ℕ). Differs (line_of w (machine_at w lines b) k.line.cpu) k.line one) e differs in
        let first = h.number in
        let second = k.number in
        (omega arith, one_cause (line_of w (machine_at w lines k.before) k.line.cpu) k.line one other here k.differs)

    go : (h.before < k.before) ⊎ (k.before ≤ h.before) → (k.before < h.before) ⊎ (h.before ≤ k.before) → (n ≡ many) × (one ≡ other)
    go (inl low) _ = absurd (bad_before w lines n k.before one k.steps h low)
    go (inr _) (inl low) = absurd (bad_before w lines many h.before other h.steps k low)
    go (inr high) (inr low) = same (omega arith)

-- where the lines are steps, the end word alone can be bad
end_word_alone : (w : WorldValue) (lines : List Line) (end : End) (n : ℕ) (cause : Misstep) → AreStepsOf w lines → IsMisstep w lines end n cause
    → IsBadEnd w lines end n × (cause ≡ misstep.EndWord)
end_word_alone w lines end n misstep.EndWord steps h = (h, refl)
end_word_alone w lines end n misstep.Cpu steps h = absurd (bad_among w lines n misstep.Cpu steps h)
end_word_alone w lines end n misstep.Process steps h = absurd (bad_among w lines n misstep.Process steps h)
end_word_alone w lines end n misstep.Call steps h = absurd (bad_among w lines n misstep.Call steps h)
end_word_alone w lines end n misstep.Reply steps h = absurd (bad_among w lines n misstep.Reply steps h)

one_misstep : (w : WorldValue) (lines : List Line) (end : End) (n many : ℕ) (one other : Misstep) → IsMisstep w lines end n one → IsMisstep w lines end many other
    → (n ≡ many) × (one ≡ other)
one_misstep w lines end n many misstep.EndWord other h k =
    let alone = end_word_alone w lines end many other h.steps k in
    (h.number ∙ sym alone.0.number, sym alone.1)
one_misstep w lines end n many one misstep.EndWord h k =
    let alone = end_word_alone w lines end n one k.steps h in
    (alone.0.number ∙ sym k.number, alone.1)
one_misstep w lines end n many one other h k = one_bad_line w lines n many one other h k

-- nothing is both legal and not
legal_alone : (w : WorldValue) (lines : List Line) (end : End) (n : ℕ) (cause : Misstep) → IsLegal w lines end → IsMisstep w lines end n cause → ⊥
legal_alone w lines end n cause h k = (end_word_alone w lines end n cause h.steps k).0.differs h.ends

pub one_verdict : (w : WorldValue) (lines : List Line) (end : End) (one other : Verdict) → IsVerdict w lines end one → IsVerdict w lines end other → one ≡ other
one_verdict w lines end verdict.Legal verdict.Legal h k = refl
one_verdict w lines end verdict.Legal (verdict.Illegal n cause) h k = absurd (legal_alone w lines end n cause h k)
one_verdict w lines end (verdict.Illegal n cause) verdict.Legal h k = absurd (legal_alone w lines end n cause k h)
one_verdict w lines end (verdict.Illegal n one) (verdict.Illegal many other) h k =
    let same = one_misstep w lines end n many one other h k in
    rw (same.0, same.1) refl
