-- Lines that are made once more, and taken back.
use Rattle.std.proofs.Common.{◌≡◌, ℕ, zero, suc, ◌+◌, ◌-◌, ◌<◌, ◌≤◌, ◌^◌, List, [], ◌∷◌, ◌++◌, length, take, Bool, true, false, Option, Some, None, refl, sym, ap, subst, ◌∙◌, arith, append_assoc, slice_get, IfOk, Result}
use Rattle.std.specs.Prelude.{◌&&◌, Decides, IfSome, IfNone}
use Rattle.std.proofs.lemmas.Bool.{true≢false}
use Rattle.std.proofs.lemmas.List.{append-nil, length-append, take_all}
use Rattle.std.proofs.Math.Seq.{take-append_seam}
use Rattle.hk_model.specs.declared.calls.Reply.{Reply}
use Rattle.hk_model.specs.declared.lines.Line.{Line}
use Rattle.hk_model.specs.declared.lines.What.{What}
use Rattle.hk_model.specs.declared.names.Cpu.{Cpu}
use Rattle.hk_model.specs.declared.names.Inc.{Inc}
use Rattle.hk_model.specs.declared.names.Proc.{Proc}
use Rattle.hk_model.specs.declared.lines.End.{End}
use Rattle.hk_model.specs.declared.kernel.NoMemory.{NoMemory}
use Rattle.hk_model.specs.declared.snapshot.Snapshot.{Snapshot}
use Rattle.hk_model.specs.declared.verdicts.Verdict.{Verdict}
use Rattle.hk_model.specs.declared.verdicts.Verdict.TheVariants as verdict
use Rattle.hk_model.specs.WorldValue.{WorldValue, IsWorld}
use Rattle.hk_model.specs.Snapshots.{shown}
use Rattle.hk_model.specs.Verdicts.{IsVerdict}
use Rattle.hk_format.specs.Audits.{Audited}
use Rattle.hk_format.specs.CauseTexts.{verdict_text}
use Rattle.hk_model.specs.Legal.{IsLegal, end_word}
use Rattle.hk_model.specs.Running.{AreStepsOf, line_of, opened}
use Rattle.hk_model.proofs.Steps.{line_steps}
use Rattle.hk_report.proofs.Lengths.{lines_few}
use Rattle.hk_undo.specs.Pasts.{History, machine_after, with_line}
use Rattle.hk_undo.specs.StateTexts.{state_text}
use Rattle.hk_top.specs.declared.served.DueText.{DueText}
use Rattle.hk_top.specs.Runs.{IsLawful}
use Rattle.hk_top.specs.Outputs.{IsChecked, TellsState, legal, moment_text}
use Rattle.hk_top.proofs.AnswerLemmas.{illegal_due}

-- the history of these lines
abbrev pub history : WorldValue → List Line → History
history w lines = record { world = w; lines = lines }

-- the first lines, and one more
take_one : (lines : List Line) (n : ℕ) (line : Line) → slice_get lines n ≡ Some line → take (n + 1) lines ≡ take n lines ++ line ∷ []
take_one lines n line h = ap (λ (k : ℕ). take k lines) (one_more n) ∙ by lines n h
  where
    one_more : (n : ℕ) → n + 1 ≡ suc n
    one_more n = omega arith

    by : (lines : List Line) (n : ℕ) → slice_get lines n ≡ Some line → take (suc n) lines ≡ take n lines ++ line ∷ []
    by [] n h = absurd (cc)
    by (x ∷ lines) zero h = let same : x ≡ line = cc in rw same refl
    by (x ∷ lines) (suc n) h = ap (λ (l : List Line). x ∷ l) (by lines n h)

-- one line more was made, and is the one that was given
pub made_more : (w : WorldValue) (lines : List Line) (n : ℕ) (line : Line) (old new : History) → slice_get lines n ≡ Some line
    → old ≡ history w (take n lines) → new ≡ with_line old line → new ≡ history w (take (n + 1) lines)
made_more w lines n line old new there is made =
    made ∙ ap (λ (h : History). with_line h line) is ∙ ap (history w) (sym (take_one lines n line there))

-- where the step is another, the lines are no legal history
pub other_made : (w : WorldValue) (lines : List Line) (end : End) (n : ℕ) (line : Line) (old : History) → slice_get lines n ≡ Some line
    → old ≡ history w (take n lines) → (line_of old.world (machine_after old) line.cpu ≡ Some line → ⊥) → IsLegal w lines end → ⊥
other_made w lines end n line old there is other holds =
    other (ap (λ (h : History). line_of h.world (machine_after h) line.cpu) is ∙ line_steps w (opened w) lines n line holds.steps there)

-- two lines are the same if and only if all that they tell is
line_parts : (a b : Line) → a.cpu ≡ b.cpu → a.proc ≡ b.proc → a.inc ≡ b.inc → a.what ≡ b.what → a.reply ≡ b.reply → a ≡ b
line_parts a b cpu proc inc what reply =
    ap (λ (n : Cpu). let l : Line = record { cpu = n; proc = a.proc; inc = a.inc; what = a.what; reply = a.reply } in l) cpu
    ∙ ap (λ (n : Proc). let l : Line = record { cpu = b.cpu; proc = n; inc = a.inc; what = a.what; reply = a.reply } in l) proc
    ∙ ap (λ (n : Inc). let l : Line = record { cpu = b.cpu; proc = b.proc; inc = n; what = a.what; reply = a.reply } in l) inc
    ∙ ap (λ (n : What). let l : Line = record { cpu = b.cpu; proc = b.proc; inc = b.inc; what = n; reply = a.reply } in l) what
    ∙ ap (λ (n : Reply). let l : Line = record { cpu = b.cpu; proc = b.proc; inc = b.inc; what = b.what; reply = n } in l) reply

pub line_decided : (a b : Line) (by event reply : Bool) → Decides by ((a.cpu ≡ b.cpu) × (a.proc ≡ b.proc) × (a.inc ≡ b.inc)) → Decides event (a.what ≡ b.what)
    → Decides reply (a.reply ≡ b.reply) → Decides (by && event && reply) (a ≡ b)
line_decided a b true true true p q r = let by = p.0 refl in (λ e. line_parts a b by.0 by.1 by.2 (q.0 refl) (r.0 refl), λ e. refl)
line_decided a b true true false p q r = (λ e. absurd (cc), λ e. r.1 (ap (λ (l : Line). l.reply) e))
line_decided a b true false reply p q r = (λ e. absurd (cc), λ e. q.1 (ap (λ (l : Line). l.what) e))
line_decided a b false event reply p q r = (λ e. absurd (cc), λ e. p.1 (ap (λ (l : Line). l.cpu) e, ap (λ (l : Line). l.proc) e, ap (λ (l : Line). l.inc) e))

-- a line is the step that was found if and only if it is the same as the line of that step
pub found_same : (found : Option Line) (made line : Line) (same : Bool) → found ≡ Some made → Decides same (made ≡ line) → Decides same (found ≡ Some line)
found_same found made line same is decides = (
  λ e. is ∙ ap (λ (l : Line). Some l) (decides.0 e),
  λ e. decides.1 (some_same (sym is ∙ e)),
)
  where
    some_same : {a b : Line} → Some a ≡ Some b → a ≡ b
    some_same h = cc

pub made_same : (old new : History) (found : Option Line) (made line : Line) → found ≡ Some made → IfSome found (λ l. new ≡ with_line old l) → made ≡ line → new ≡ with_line old line
made_same old new found made line is some same =
    subst (λ (f : Option Line). IfSome f (λ l. new ≡ with_line old l)) is some ∙ ap (λ (l : Line). with_line old l) same

-- all lines were made: they are a legal history where the end word is that of the state
pub ends_legal : (w : WorldValue) (lines : List Line) (n : ℕ) (end : End) (past : History) (same : Bool) → length lines ≤ n → past ≡ history w (take n lines)
    → AreStepsOf past.world past.lines → Decides same (end_word (machine_after past).state ≡ Some end) → Decides same (IsLegal w lines end)
ends_legal w lines n end past same all is steps decides = (
  λ e. record { steps = subst (λ (h : History). AreStepsOf h.world h.lines) whole steps; ends = subst (λ (h : History). end_word (machine_after h).state ≡ Some end) whole (decides.0 e) },
  λ holds. decides.1 (subst (λ (h : History). end_word (machine_after h).state ≡ Some end) (sym whole) holds.ends),
)
  where
    whole : past ≡ history w lines
    whole = is ∙ ap (history w) (take_all n lines all)

pub all_made : (w : WorldValue) (lines : List Line) (n : ℕ) (past : History) → length lines ≤ n → past ≡ history w (take n lines) → past ≡ history w lines
all_made w lines n past all is = is ∙ ap (history w) (take_all n lines all)

-- ---- taken back

-- of a past, the lines from a moment up to another were taken back
pub record IsBack (first : History) (moment at : ℕ) (past : History) : Type 0 where
  pub world : past.world ≡ first.world
  pub rest : List Line
  pub lines : first.lines ≡ past.lines ++ rest
  pub as_many : length rest + moment ≡ at
  pub within : at ≤ length first.lines

pub back_begins : (first : History) (moment : ℕ) → moment ≤ length first.lines → IsBack first moment moment first
back_begins first moment h = record { world = refl; rest = []; lines = sym (append-nil first.lines); as_many = omega arith; within = h }

pub back_more : (first : History) (moment at : ℕ) (old new : History) (found : Option Line) → IsBack first moment at old → at < length first.lines
    → IfSome found (λ line. old ≡ with_line new line) → IfNone found ((old.lines ≡ []) × (new ≡ old)) → IsBack first moment (at + 1) new
back_more first moment at old new (Some line) h low some none = record {
  world = ap (λ (p : History). p.world) (sym some) ∙ h.world;
  rest = line ∷ h.rest;
  lines = h.lines ∙ ap (λ (p : History). p.lines ++ h.rest) some ∙ append_assoc new.lines (line ∷ []) h.rest;
  as_many = let a = h.as_many in omega (arith, a);
  within = omega (arith, low);
}
back_more first moment at old new None h low some none =
    let size = ap (λ (ls : List Line). length ls) (h.lines ∙ ap (λ (ls : List Line). ls ++ h.rest) none.0) in
    let many = h.as_many in
    absurd (omega (arith, size, many, low))

pub back_ends : (first : History) (moment at : ℕ) (past : History) → IsBack first moment at past → length first.lines ≤ at
    → (past.world ≡ first.world) × (past.lines ≡ take moment first.lines)
back_ends first moment at past h all = (
  h.world,
  sym (take-append_seam past.lines h.rest) ∙ ap (λ (ls : List Line). take (length past.lines) ls) (sym h.lines) ∙ ap (λ (k : ℕ). take k first.lines) many,
)
  where
    many : length past.lines ≡ moment
    many =
        let size = ap (λ (ls : List Line). length ls) h.lines ∙ length-append past.lines h.rest in
        let a = h.as_many in
        let b = h.within in
        omega (arith, size, a, b, all)

-- the state of a past from which lines were taken back
pub text_of : (first past : History) (moment count : ℕ) (s : Snapshot) (text : List ℕ) → (past.world ≡ first.world) → (past.lines ≡ take moment first.lines)
    → s ≡ shown (machine_after past).state → moment ≡ length first.lines - count → text ≡ state_text s moment
    → text ≡ moment_text first.world first.lines (length first.lines - count)
text_of first past moment count s text world lines is same e =
    e
    ∙ ap (λ (x : Snapshot). state_text x moment) (is ∙ ap (λ (h : History). shown (machine_after h).state) past_is)
    ∙ ap (λ (k : ℕ). moment_text first.world first.lines k) same
  where
    past_is : past ≡ history first.world (take moment first.lines)
    past_is = ap (λ (w : WorldValue). history w past.lines) world ∙ ap (history first.world) lines

-- ---- what is due to it

-- of a past that had no line, in which the lines of a record were made
module _ (a : Audited) (before past : History) (w : WorldValue) (lines : List Line) (end : End) (legal_is : Bool) (begun : before ≡ history a.world []) (world_is : w ≡ a.world)
    (lines_are : lines ≡ a.lines) (end_is : end ≡ a.end) (decides : Decides legal_is (IsLegal before.world lines end)) where
  same_world : before.world ≡ w
  same_world = ap (λ (h : History). h.world) begun ∙ sym world_is

  pub legal_lines : legal_is ≡ true → IsLegal w lines end
  legal_lines e = subst (λ (v : WorldValue). IsLegal v lines end) same_world (decides.0 e)

  pub not_legal : legal_is ≡ false → IsLegal w lines end → ⊥
  not_legal e h = true≢false (sym (decides.1 (subst (λ (v : WorldValue). IsLegal v lines end) (sym same_world) h)) ∙ e)

  pub made_few : IsWorld w → legal_is ≡ true → past ≡ history before.world lines → length past.lines < 2 ^ 32
  made_few world e made =
      let few = lines_few w lines world (legal_lines e).steps in
      let same = ap (λ (h : History). length h.lines) made in
      omega (arith, few, same)

  pub told_legal : (count : ℕ) (text : List ℕ) → legal_is ≡ true → past ≡ history before.world lines → IsLawful w lines
      → text ≡ moment_text past.world past.lines (length past.lines - count) → IsChecked a (TellsState count) 0 text
  told_legal count text e made laws told =
      let holds : IsLegal a.world a.lines a.end = rw (world_is, lines_are, end_is) at (legal_lines e) in
      let lawful : IsLawful a.world a.lines = rw (world_is, lines_are) at laws in
      let tells : text ≡ moment_text a.world a.lines (length a.lines - count) =
      told ∙ ap (λ (h : History). moment_text h.world h.lines (length h.lines - count)) (made ∙ ap (λ (v : WorldValue). history v lines) (same_world ∙ world_is) ∙ ap (history a.world) lines_are) in
      legal text holds lawful tells

-- no history that is not legal has the verdict that it is
pub told_illegal : (a : Audited) (Told : WorldValue → List Line → List ℕ → Type 0) (w : WorldValue) (lines : List Line) (end : End) (v : Verdict) (r : Result DueText NoMemory)
    → w ≡ a.world → lines ≡ a.lines → end ≡ a.end → IsVerdict w lines end v → (IsLegal w lines end → ⊥)
    → IfOk r (λ due. (due.status ≡ 8) × (due.text ≡ verdict_text v)) → IfOk r (λ due. IsChecked a Told due.status due.text)
told_illegal a Told w lines end verdict.Legal r world_is lines_are end_is is not h = absurd (not is)
told_illegal a Told w lines end (verdict.Illegal n cause) r world_is lines_are end_is is not h =
    illegal_due a Told w lines end (verdict.Illegal n cause) n cause r world_is lines_are end_is is refl h
