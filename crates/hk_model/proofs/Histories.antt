-- What holds at every moment of a history: numbers rise, and the incarnations of a process are a stack.
use Rattle.std.proofs.Common.{◌≡◌, ℕ, zero, suc, ◌+◌, ◌<◌, List, [], ◌∷◌, ◌++◌, length, Bool, true, false, Option, Some, None, refl, sym, ◌∙◌, ap, arith, cond, subst}
use Rattle.std.specs.Prelude.{slice_get, is_some, take}
use Rattle.std.proofs.lemmas.Bool.{false≢true}
use Rattle.hk_model.specs.declared.names.Inc.{Inc}
use Rattle.hk_model.specs.declared.lines.Line.{Line}
use Rattle.hk_model.specs.declared.world.Task.{Task}
use Rattle.hk_model.specs.State.{State, incarnation, same_inc}
use Rattle.hk_model.specs.WorldValue.{WorldValue, IsWorld}
use Rattle.hk_model.specs.Opening.{opening, bases, all_ready}
use Rattle.hk_model.specs.Lines.{done_call, enters_call}
use Rattle.hk_model.specs.Running.{Machine, opened, moved, machine_at, state_at, AreStepsOf}
use Rattle.hk_model.specs.Under.{is_live, IsCall}
use Rattle.hk_model.proofs.Standing.{inc_same, inc_laws}
use Rattle.hk_model.proofs.Steps.{EachStep, each_both, each_more, moved_holds, state_kept, first_steps, line_steps, after_next}
use Rattle.hk_model.proofs.NumbersRise.{NumbersRise, rises_each, opening_rises}
use Rattle.hk_model.proofs.LineWays.{LineWrites, writes_each}
use Rattle.hk_model.proofs.NextNames.{NextName, next_each}
use Rattle.hk_model.proofs.NamesGiven.{NamesGiven, given_line, opening_given}
use Rattle.hk_model.proofs.Activations.{look_up, Activation, activations_in, currents_in}
use Rattle.hk_model.proofs.Turns.{Turn, Still, Enter, Leave, Halt, Enters, turn_each}
use Rattle.hk_model.proofs.Stacks.{IsStacked, stack_turn}
use Rattle.hk_model.proofs.UnderLemmas.{UnderCall, under_begins, found_live}

-- ---- the opening

pub base_found : (n : ℕ) (ts : List Task) (i : Inc) (x : Activation) → look_up i (activations_in (bases n ts)) ≡ Some x
    → (x.proc.0 ≡ i.0) × (x.caller ≡ None) × (i.0 < n + length ts)
base_found n [] i x h = absurd (cc)
base_found n (t ∷ ts) i x h = by (same_inc i (record { 0 = n })) refl h (λ g. base_found (n + 1) ts i x g)
  where
    by : (b : Bool) → same_inc i (record { 0 = n }) ≡ b
        → ◌≡◌ {A = Option Activation} (cond b (Some (record { proc = record { 0 = n }; caller = None })) (look_up i (activations_in (bases (n + 1) ts)))) (Some x)
        → (look_up i (activations_in (bases (n + 1) ts)) ≡ Some x → (x.proc.0 ≡ i.0) × (x.caller ≡ None) × (i.0 < n + 1 + length ts))
        → (x.proc.0 ≡ i.0) × (x.caller ≡ None) × (i.0 < n + length (t ∷ ts))
    by true e g rest =
        let f : ◌≡◌ {A = Activation} (record { proc = record { 0 = n }; caller = None }) x = cc in
        let k : i ≡ record { 0 = n } = inc_same i (record { 0 = n }) e in
        let a : i.0 ≡ n = ap (λ (z : Inc). z.0) k in
        let b : n ≡ x.proc.0 = ap (λ (z : Activation). z.proc.0) f in
        (sym b ∙ sym a, sym (ap (λ (z : Activation). z.caller) f), omega arith)
    by false e g rest = let r = rest g in (r.0, r.1, omega (arith, r.2))

pub ready_found : (n : ℕ) (ts : List Task) (q : ℕ) (k : Inc) → slice_get (currents_in (all_ready n ts)) q ≡ Some k → (k.0 ≡ n + q) × (k.0 < n + length ts)
ready_found n [] q k h = absurd (cc)
ready_found n (t ∷ ts) zero k h = let e : ◌≡◌ {A = Inc} (record { 0 = n }) k = cc in let a : n ≡ k.0 = ap (λ (z : Inc). z.0) e in (omega arith, omega arith)
ready_found n (t ∷ ts) (suc q) k h = let r = ready_found (n + 1) ts q k h in (omega (arith, r.0), omega (arith, r.1))

-- no incarnation has a caller yet, and each process has one
pub opening_stacked : (w : WorldValue) → IsStacked (opening w)
unfolding opening
opening_stacked w = record {
  below = λ i x h. let r = base_found 0 w.tasks i x h in omega (arith, r.2);
  current_below = λ q k h. let r = ready_found 0 w.tasks q k h in omega (arith, r.1);
  caller_below = λ i j x h g. let r = base_found 0 w.tasks i x h in let e = r.1 in absurd (cc);
  top = λ i k x h g. let r = base_found 0 w.tasks i x h in let q = ready_found 0 w.tasks x.proc.0 k g in omega (arith, r.0, q.0);
  own = λ q k x g h. let r = base_found 0 w.tasks k x h in let z = ready_found 0 w.tasks q k g in omega (arith, r.0, z.0);
  kin = λ i j x y h g. let r = base_found 0 w.tasks i x h in let e = r.1 in absurd (cc);
  between = λ i j k x y h g e l f. let r = base_found 0 w.tasks i x h in let z = r.1 in absurd (cc);
}

-- ---- every moment

-- what every state of a history keeps
pub record Sound (s : State) : Type 0 where
  pub rises : NumbersRise s
  pub stacked : IsStacked s

-- all that is known of a line: what it writes and does, and that the state stays sound
pub record LineKnown (s : State) (line : Line) (t : State) : Type 0 where
  pub writes : LineWrites s line t
  pub turn : Turn s line t
  pub next : NextName s (done_call line) t
  pub after : Sound t

-- the laws of a line, side by side
abbrev Laws : State → Line → State → Type 0
Laws s line t = ((NumbersRise s → NumbersRise t) × (NumbersRise s → LineWrites s line t)) × ((NumbersRise s → Turn s line t) × NextName s (done_call line) t)

laws_each : EachStep Laws
laws_each =
    each_both (λ s line t. (NumbersRise s → NumbersRise t) × (NumbersRise s → LineWrites s line t)) (λ s line t. (NumbersRise s → Turn s line t) × NextName s (done_call line) t)
    (each_both (λ s line t. NumbersRise s → NumbersRise t) (λ s line t. NumbersRise s → LineWrites s line t) rises_each writes_each)
    (each_both (λ s line t. NumbersRise s → Turn s line t) (λ s line t. NextName s (done_call line) t) turn_each next_each)

-- in a sound state each line is known
pub known_each : EachStep (λ s line t. Sound s → LineKnown s line t)
known_each = each_more Laws (λ s line t. Sound s → LineKnown s line t)
    (λ s line t h g. record {
      writes = h.0.1 g.rises;
      turn = h.1.0 g.rises;
      next = h.1.1;
      after = record { rises = h.0.0 g.rises; stacked = stack_turn s line t g.rises (h.1.0 g.rises) g.stacked };
    })
    laws_each

pub opening_sound : (w : WorldValue) → Sound (opening w)
opening_sound w = record { rises = opening_rises w; stacked = opening_stacked w }

-- every state of a history is sound
pub sound_at : (w : WorldValue) (lines : List Line) (moment : ℕ) → AreStepsOf w lines → Sound (state_at w lines moment)
unfolding opened
sound_at w lines moment h =
    state_kept Sound (each_more (λ s line t. Sound s → LineKnown s line t) (λ s line t. Sound s → Sound t) (λ s line t k g. (k g).after) known_each) w (opened w)
    (take moment lines) (first_steps w (opened w) lines moment h) (opening_sound w)

-- the line at a moment, from the state then to the next one
pub line_known : (w : WorldValue) (lines : List Line) (moment : ℕ) (line : Line) → AreStepsOf w lines → slice_get lines moment ≡ Some line
    → LineKnown (state_at w lines moment) line (state_at w lines (suc moment))
line_known w lines moment line h e =
    let known : LineKnown (state_at w lines moment) line (moved w (machine_at w lines moment) line.cpu).state =
    moved_holds (λ s l t. Sound s → LineKnown s l t) known_each w (machine_at w lines moment) line (line_steps w (opened w) lines moment line h e) (sound_at w lines moment h) in
    subst (λ (m : Machine). LineKnown (state_at w lines moment) line m.state) (sym (after_next w (opened w) lines moment line e)) known

-- in a history of a world every name that stands was given
pub given_at : (w : WorldValue) (lines : List Line) (moment : ℕ) → IsWorld w → AreStepsOf w lines → NamesGiven (state_at w lines moment)
unfolding opened
given_at w lines moment world h =
    (state_kept (λ s. Sound s × NamesGiven s) (each_more (λ s line t. Sound s → LineKnown s line t) (λ s line t. Sound s × NamesGiven s → Sound t × NamesGiven t)
    (λ s line t k g. ((k g.0).after, given_line s line t (k g.0).writes (k g.0).next g.1)) known_each)
    w (opened w) (take moment lines) (first_steps w (opened w) lines moment h) (opening_sound w, opening_given w world)).1

-- ---- the beginning of a call

-- the turn of a line that enters a procedure
pub enters_turn : (s : State) (line : Line) (t : State) → Turn s line t → enters_call (done_call line) ≡ true → Enters s line t
enters_turn s line t (Still q e) h = absurd (false≢true (sym e ∙ h))
enters_turn s line t (Enter e) h = e
enters_turn s line t (Leave e) h = absurd (false≢true (sym e.is ∙ h))
enters_turn s line t (Halt e) h = absurd (false≢true (sym (ap enters_call e.is) ∙ h))

found_new : (fs : List (Inc × Activation)) (n : Inc) (f : Activation) → is_some (look_up n (fs ++ (n, f) ∷ [])) ≡ true
found_new [] n f = rw (inc_laws.refl n) refl
found_new (e ∷ fs) n f = by (same_inc n e.0) (found_new fs n f)
  where
    by : (b : Bool) → is_some (look_up n (fs ++ (n, f) ∷ [])) ≡ true → is_some (cond b (Some e.1) (look_up n (fs ++ (n, f) ∷ []))) ≡ true
    by true later = refl
    by false later = later

-- the call that begins at a moment lives then
pub call_lives : (w : WorldValue) (lines : List Line) (k : ℕ) (call : Inc) → AreStepsOf w lines → IsCall w lines k call → is_live (state_at w lines k) call ≡ true
call_lives w lines k call h c =
    let known = line_known w lines c.earlier c.line h c.is in
    let e = enters_turn (state_at w lines c.earlier) c.line (state_at w lines (suc c.earlier)) known.turn c.enters in
    let there : is_some (look_up (state_at w lines c.earlier).next_inc (activations_in (state_at w lines (suc c.earlier)).incarnations)) ≡ true =
    rw e.activations (found_new (activations_in (state_at w lines c.earlier).incarnations) (state_at w lines c.earlier).next_inc
    (record { proc = c.line.proc; caller = Some c.line.inc })) in
    let lives : is_live (state_at w lines (suc c.earlier)) (state_at w lines c.earlier).next_inc ≡ true =
    found_live (state_at w lines (suc c.earlier)) (state_at w lines c.earlier).next_inc there in
    rw (c.moment, c.made) lives

-- and is alone under itself
pub call_begins : (w : WorldValue) (lines : List Line) (k : ℕ) (call : Inc) → AreStepsOf w lines → IsCall w lines k call
    → UnderCall call (incarnation (state_at w lines k) call).proc.0 (call ∷ []) (activations_in (state_at w lines k).incarnations) (state_at w lines k).next_inc.0
call_begins w lines k call h c = under_begins (state_at w lines k) call (sound_at w lines k h).stacked (call_lives w lines k call h c)
