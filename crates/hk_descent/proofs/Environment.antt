-- A parameter without ENV stays under its call, at every moment from its beginning on.
use Rattle.std.proofs.Common.{◌≡◌, ℕ, zero, suc, List, [], ◌∷◌, Bool, true, false, Option, Some, None, refl, sym, ◌∙◌, ap, subst}
use Rattle.std.specs.Prelude.{slice_get, slice_index_or, is_some, take, drop}
use Rattle.std.specs.Option.{unwrap_or, option_and_then}
use Rattle.std.specs.Map.{lookup}
use Rattle.std.proofs.lemmas.Bool.{true≢false}
use Rattle.hk_model.specs.declared.names.Inc.{Inc}
use Rattle.hk_model.specs.declared.entries.Entry.{Entry}
use Rattle.hk_model.specs.declared.entries.Entry.TheVariants.{Empty, Held}
use Rattle.hk_model.specs.declared.lines.Line.{Line}
use Rattle.hk_model.specs.declared.objects.Incarnation.{Incarnation}
use Rattle.hk_model.specs.State.{State, incarnation, same_inc, no_incarnation}
use Rattle.hk_model.specs.Places.{Place, SlotOf, EntryOf, same_place, standing, is_empty}
use Rattle.hk_model.specs.WorldValue.{WorldValue}
use Rattle.hk_model.specs.Lines.{done_call, param_count, line_before}
use Rattle.hk_model.specs.Running.{Machine, opened, machine_at, state_at, after_lines, AreSteps, AreStepsOf}
use Rattle.std.proofs.lemmas.Bool.{false_from_ne_true}
use Rattle.hk_model.specs.Under.{is_live, under_by, under_after}
use Rattle.hk_model.specs.Marks.{mark, marks, IsSlotUnder, StaysUnder, EnvironmentLaw}
use Rattle.hk_model.proofs.Standing.{place_same}
use Rattle.hk_model.proofs.Steps.{EachStep, each_more, both_kept, first_steps, later_steps, after_later, take_less}
use Rattle.hk_model.proofs.Activations.{activations_in}
use Rattle.hk_model.proofs.UnderLemmas.{UnderCall, under_turn, under_begins, under_alive, one_itself}
use Rattle.hk_model.proofs.Histories.{Sound, LineKnown, known_each, sound_at}
use Rattle.hk_model.proofs.NoEnv.{NoEnv}
use Rattle.hk_descent.proofs.Marked.{IsMarked, AreMarked, line_marks}

-- what is kept from the call's beginning on: its process's incarnations under it, and where its marks are
abbrev Safe : Inc → ℕ → State → (Place → Bool) → List Inc → Type 0
Safe call p s marks us = Sound s × UnderCall call p us (activations_in s.incarnations) s.next_inc.0 × AreMarked us s marks

safe_each : (call : Inc) (p : ℕ) → EachStep (λ s line t. (g : Place → Bool) (us : List Inc) → Safe call p s g us → Safe call p t (mark s line t g) (under_by s line t us))
safe_each call p =
    each_more (λ s line t. Sound s → LineKnown s line t)
    (λ s line t. (g : Place → Bool) (us : List Inc) → Safe call p s g us → Safe call p t (mark s line t g) (under_by s line t us))
    (λ s line t h g us k. let known = h k.0 in (
      known.after,
      under_turn call p us s line t k.0.rises known.turn k.0.stacked k.1,
      line_marks s line t g us
          known.writes k.2,
    )) known_each

-- ---- the beginning of the call

-- who holds something in a slot lives
holder_lives : (s : State) (i : Inc) (n : ℕ) → is_empty (standing s (SlotOf i n)) ≡ false → is_live s i ≡ true
holder_lives s i n h = by (lookup (same_inc i) s.incarnations) h
  where
    by : (o : Option Incarnation) → is_empty (slice_index_or (unwrap_or o no_incarnation).slots n Empty) ≡ false → is_some o ≡ true
    by (Some x) g = refl
    by None g = absurd (true≢false g)

pub taken_stands : (n : ℕ) (xs : List Entry) (i : ℕ) (x : Entry) → slice_get (take n xs) i ≡ Some x → slice_index_or xs i Empty ≡ x
taken_stands zero xs i x h = absurd (cc)
taken_stands (suc n) [] i x h = absurd (cc)
taken_stands (suc n) (y ∷ xs) zero x h = cc
taken_stands (suc n) (y ∷ xs) (suc i) x h = taken_stands n xs i x h

begins : (s : State) (call : Inc) (slot : ℕ) → Sound s → NoEnv (standing s (SlotOf call slot)) → is_empty (standing s (SlotOf call slot)) ≡ false
    → Safe call (incarnation s call).proc.0 s (λ p. same_place p (SlotOf call slot)) (call ∷ [])
begins s call slot sound lacks full = (
  sound,
  under_begins s call sound.stacked (holder_lives s call slot full),
  λ p h. subst (λ q. IsMarked (call ∷ []) s q) (sym (place_same p (SlotOf call slot) h)) (one_itself call, lacks, full),
)

-- ---- every later moment

marked_lives : (call : Inc) (p : ℕ) (s : State) (g : Place → Bool) (us : List Inc) → Safe call p s g us → (q : Place) → g q ≡ true → is_live s call ≡ true
marked_lives call p s g us safe q h = by q (safe.2 q h)
  where
    by : (x : Place) → IsMarked us s x → is_live s call ≡ true
    by (SlotOf i n) k = under_alive call p us s i safe.1 k.0 (holder_lives s i n k.2)
    by (EntryOf name index) k = absurd k

-- where the marks are, and that the call lives while there is one
ends : (w : WorldValue) (lines : List Line) (k : ℕ) (call : Inc) (slot moment p : ℕ)
    → Safe call p (state_at w lines moment) (marks w lines k call slot moment) (under_after w (machine_at w lines k) (drop k (take moment lines)) call)
    → StaysUnder w lines k call slot moment
ends w lines k call slot moment p safe = record {
  under = λ q h. by q (safe.2 q h);
  gone = λ gone q. false_from_ne_true (marks w lines k call slot moment q)
      (λ h. true≢false (sym (marked_lives call p (state_at w lines moment) (marks w lines k call slot moment)
      (under_after w (machine_at w lines k) (drop k (take moment lines)) call) safe q h) ∙ gone));
}
  where
    by : (q : Place) → IsMarked (under_after w (machine_at w lines k) (drop k (take moment lines)) call) (state_at w lines moment) q → IsSlotUnder w lines k call moment q
    by (SlotOf i n) h = (holder_lives (state_at w lines moment) i n h.2, h.0)
    by (EntryOf name index) h = h

pub environment : (w : WorldValue) (lines : List Line) → AreStepsOf w lines → EnvironmentLaw w lines
environment w lines h k slot call param moment late =
    let rest_lines : List Line = drop k (take moment lines) in
    let process : ℕ = (incarnation (state_at w lines k) call).proc.0 in
    let cut : take k (take moment lines) ≡ take k lines = take_less k moment lines late in
    let run : AreStepsOf w (take moment lines) = first_steps w (opened w) lines moment h in
    let rest : AreSteps w (machine_at w lines k) rest_lines =
    subst (λ first. AreSteps w (after_lines w (opened w) first) rest_lines) cut (later_steps w (opened w) (take moment lines) k run) in
    let last : after_lines w (machine_at w lines k) rest_lines ≡ machine_at w lines moment =
    subst (λ first. after_lines w (after_lines w (opened w) first) rest_lines ≡ machine_at w lines moment) cut (after_later w (opened w) (take moment lines) k) in
    let holds : standing (state_at w lines k) (SlotOf call slot) ≡ Held param.cap =
    taken_stands (param_count (option_and_then done_call (line_before lines k))) (incarnation (state_at w lines k) call).slots slot (Held param.cap) param.holds in
    let start = begins (state_at w lines k) call slot (sound_at w lines k h) (subst NoEnv (sym holds) param.lacks) (ap is_empty holds) in
    let safe =
    both_kept mark under_by (Safe call process) (safe_each call process) w (machine_at w lines k) rest_lines (λ p. same_place p (SlotOf call slot)) (call ∷ []) rest start in
    ends w lines k call slot moment process
    (subst (λ (m : Machine). Safe call process m.state (marks w lines k call slot moment) (under_after w (machine_at w lines k) rest_lines call)) last safe)
