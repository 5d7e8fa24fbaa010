-- A place is marked exactly where what stands there descended from the parameter by origins and walks.
use Rattle.std.proofs.Common.{◌≡◌, ℕ, zero, suc, ◌≤◌, List, [], ◌∷◌, length, Bool, true, Some, refl, sym, ◌∙◌, ap, arith, subst}
use Rattle.std.specs.Prelude.{◌↔◌, slice_get, take, drop}
use mathlib.Core.Logic.{inl}
use Rattle.std.proofs.lemmas.Bool.Decides.{nat_tests}
use Rattle.hk_model.specs.declared.names.Inc.{Inc}
use Rattle.hk_model.specs.declared.lines.Line.{Line}
use Rattle.hk_model.specs.WorldValue.{WorldValue}
use Rattle.std.specs.Option.{option_and_then}
use Rattle.hk_model.specs.declared.entries.Entry.TheVariants.{Held}
use Rattle.hk_model.specs.State.{State, incarnation}
use Rattle.hk_model.specs.Places.{Place, SlotOf, EntryOf, same_place, is_empty}
use Rattle.hk_model.specs.Lines.{told, done_call, param_count, line_before}
use Rattle.hk_model.specs.Running.{Machine, opened, moved, machine_at, state_at, after_lines, AreStepsOf}
use Rattle.hk_model.specs.Marks.{mark, marks, IsLocalParam}
use Rattle.hk_model.proofs.Standing.{place_same, inc_laws}
use Rattle.hk_model.proofs.Steps.{told_last, after_next}
use Rattle.hk_descent.specs.Joined.{Stands, CameFrom, CameByWalk, Descended, Begins, Goes, AreOneDescent}
use Rattle.hk_descent.proofs.Environment.{taken_stands, environment}
use Rattle.hk_descent.proofs.JoinedLines.{came_mark, mark_before}
use Rattle.hk_descent.proofs.ChainBack.{from_on, line_there, writes_at, begins_by, chain_descent}

-- what is told from a moment on, of one line more
told_later : {G : Type 0} (f : State → Line → State → G → G) (w : WorldValue) (m : Machine) (lines : List Line) (k n : ℕ) (line : Line) (g : G) → k ≤ n
    → slice_get lines n ≡ Some line
    → told f w (after_lines w m (take k lines)) (drop k (take (suc n) lines)) g
    ≡ f (after_lines w m (take n lines)).state line (moved w (after_lines w m (take n lines)) line.cpu).state (told f w (after_lines w m (take k lines)) (drop k (take n lines)) g)
told_later f w m [] k n line g h e = absurd (cc)
told_later f w m (x ∷ lines) zero n line g h e = told_last f w m (x ∷ lines) n line g e
told_later f w m (x ∷ lines) (suc k) zero line g h e = absurd (omega (arith, h))
told_later f w m (x ∷ lines) (suc k) (suc n) line g h e = told_later f w (moved w m x.cpu) lines k n line g (omega (arith, h)) e

none_later : (k : ℕ) (lines : List Line) → drop k (take k lines) ≡ []
none_later zero lines = refl
none_later (suc k) [] = refl
none_later (suc k) (x ∷ lines) = none_later k lines

slot_itself : (call : Inc) (slot : ℕ) → same_place (SlotOf call slot) (SlotOf call slot) ≡ true
slot_itself call slot = rw (inc_laws.refl call) (grind (arith, nat_tests))

-- what came by origins alone came by origins and walks
with_walks : (w : WorldValue) (lines : List Line) (k : ℕ) (q : Place) (m : ℕ) (p : Place) → Descended CameFrom w lines k q m p → Descended CameByWalk w lines k q m p
with_walks w lines k q m x Begins = Begins
with_walks w lines k q m x (Goes n line p before e d came stands) = Goes n line p before e (with_walks w lines k q n before d) (inl came) stands

module _ (w : WorldValue) (lines : List Line) (steps : AreStepsOf w lines) (k slot : ℕ) (call : Inc) (param : IsLocalParam w lines k call slot) where
  marks_first : (p : Place) → marks w lines k call slot k p ≡ same_place p (SlotOf call slot)
  marks_first p = ap (λ ls. told mark w (machine_at w lines k) ls (λ z. same_place z (SlotOf call slot)) p) (none_later k lines)

  marks_next : (m : ℕ) (line : Line) (p : Place) → k ≤ m → slice_get lines m ≡ Some line
      → marks w lines k call slot (suc m) p ≡ mark (state_at w lines m) line (state_at w lines (suc m)) (marks w lines k call slot m) p
  marks_next m line p late e =
      subst (λ (x : Machine). marks w lines k call slot (suc m) p ≡ mark (state_at w lines m) line x.state (marks w lines k call slot m) p)
      (sym (after_next w (opened w) lines m line e))
      (ap (λ (f : Place → Bool). f p) (told_later mark w (opened w) lines k m line (λ z. same_place z (SlotOf call slot)) late e))

  descended_marked : (m : ℕ) (p : Place) → Descended CameByWalk w lines k (SlotOf call slot) m p → marks w lines k call slot m p ≡ true
  descended_marked m x Begins = marks_first (SlotOf call slot) ∙ slot_itself call slot
  descended_marked m x (Goes n line p before e d came stands) =
      let early = begins_by w lines steps CameByWalk k (SlotOf call slot) n before d in
      marks_next n line p early e
      ∙ came_mark (state_at w lines n) line (marks w lines k call slot n) p
      (λ name index h. (environment w lines steps k slot call param n early).under (EntryOf name index) h)
      (state_at w lines (suc n)) before (writes_at w lines steps n line e) stands (descended_marked n before d) came

  abbrev MarksDescend : ℕ → Type 0
  MarksDescend m = m ≤ length lines → (p : Place) → marks w lines k call slot m p ≡ true → Descended CameByWalk w lines k (SlotOf call slot) m p

  marked_first : MarksDescend k
  marked_first within p h =
      subst (λ z. Descended CameByWalk w lines k (SlotOf call slot) k z) (sym (place_same p (SlotOf call slot) (sym (marks_first p) ∙ h))) Begins

  marked_next : (m : ℕ) → k ≤ m → MarksDescend m → MarksDescend (suc m)
  marked_next m late earlier within p h =
      let there = line_there lines m within in
      let b = mark_before (state_at w lines m) there.0 (marks w lines k call slot m) p (state_at w lines (suc m)) (sym (marks_next m there.0 p late there.1) ∙ h) in
      let c = b.1 in
      Goes m there.0 p c.0 there.1 (earlier (omega (arith, within)) c.0 c.1) c.2 b.0

  mark_descent : (m : ℕ) (p : Place) → k ≤ m → m ≤ length lines → (marks w lines k call slot m p ≡ true) ↔ Descended CameByWalk w lines k (SlotOf call slot) m p
  mark_descent m p late within = (from_on MarksDescend k marked_first marked_next m late within p, λ d. descended_marked m p d)

  -- what is marked stands: at the beginning the parameter, and later what the last line left
  descended_stands : (m : ℕ) (p : Place) → Descended CameByWalk w lines k (SlotOf call slot) m p → Stands w lines m p
  descended_stands m x Begins =
      ap is_empty (taken_stands (param_count (option_and_then done_call (line_before lines k))) (incarnation (state_at w lines k) call).slots slot (Held param.cap) param.holds)
  descended_stands m x (Goes n line p before e d came stands) = stands

pub one_descent : (w : WorldValue) (lines : List Line) → AreStepsOf w lines → AreOneDescent w lines
one_descent w lines steps = record {
  leads = chain_descent w lines steps;
  marked = mark_descent w lines steps;
  filled = λ k slot call param moment p late within h.
      descended_stands w lines steps k slot call param moment p ((mark_descent w lines steps k slot call param moment p late within).0 h);
  leads_marked = λ k slot call param moment p late within stands back.
      (mark_descent w lines steps k slot call param moment p late within).1
      (with_walks w lines k (SlotOf call slot) moment p ((chain_descent w lines steps k (SlotOf call slot) moment p late within stands).0 back));
}
