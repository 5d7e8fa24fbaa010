-- Who is under a call and what was made under it, over a whole history: later lines change nothing of who has a number
-- already; whom a line enters is under the call as the line's incarnation is, and so what a line makes was made under it.
use Rattle.std.proofs.Common.{◌≡◌, ℕ, zero, suc, ◌<◌, ◌≤◌, List, [], ◌∷◌, ◌++◌, Bool, true, false, Some, refl, sym, ◌∙◌, ap, arith, subst}
use Rattle.std.specs.Prelude.{slice_get, take, ◌||◌, ◌⊎◌}
use mathlib.Core.Logic.{inl, inr}
use Rattle.std.specs.List.{list_any}
use Rattle.std.proofs.lemmas.Bool.{false≢true, false_from_ne_true}
use Rattle.std.proofs.lemmas.Bool.Decides.{nat_tests}
use Rattle.hk_model.specs.declared.names.Name.{Name}
use Rattle.hk_model.specs.declared.names.Inc.{Inc}
use Rattle.hk_model.specs.declared.lines.Line.{Line}
use Rattle.hk_model.specs.WorldValue.{WorldValue}
use Rattle.hk_model.specs.State.{State, incarnation, same_name, same_inc}
use Rattle.hk_model.specs.Lines.{done_call, makes_object, enters_call, told}
use Rattle.hk_model.specs.Running.{Machine, moved, after_lines, AreSteps}
use Rattle.hk_model.specs.Under.{is_one_of, under_by, made_by}
use Rattle.hk_model.proofs.Standing.{name_same, name_laws}
use Rattle.hk_model.proofs.Steps.{EachStep, each_more, moved_holds, told_keeps, state_kept, first_steps, line_steps, after_next, told_last}
use Rattle.hk_model.proofs.Activations.{activation, activations_in}
use Rattle.hk_model.proofs.ActivationLists.{activation_live}
use Rattle.hk_model.proofs.NextNames.{next_up, next_made}
use Rattle.hk_model.proofs.Turns.{Turn, Still, Enter, Leave, Halt}
use Rattle.hk_model.proofs.UnderLemmas.{UnderCall, under_turn, under_more, member_new}
use Rattle.hk_model.proofs.Histories.{Sound, LineKnown, known_each, enters_turn}

-- ---- what is settled

module _ {G : Type 0} (f : State → Line → State → G → G) (is_in : G → Bool) (early : State → Type 0) where
  -- a line leaves it as it was, and so do all later ones
  abbrev pub Settles : State → Line → State → Type 0
  Settles s line t = early s → early t × ((g : G) → is_in (f s line t g) ≡ is_in g)

  module _ (each : EachStep (λ s line t. Sound s → Settles s line t × Sound t)) where
    pub settled : (w : WorldValue) (m : Machine) (lines : List Line) (g : G) → AreSteps w m lines → Sound m.state → early m.state → is_in (told f w m lines g) ≡ is_in g
    settled w m [] g h sound e = refl
    settled w m (line ∷ lines) g h sound e =
        let step = moved_holds (λ s l t. Sound s → Settles s l t × Sound t) each w m line h.0 sound in
        settled w (moved w m line.cpu) lines (f m.state line (moved w m line.cpu).state g) h.1 step.1 (step.0 e).0 ∙ (step.0 e).1 g

    pub settled_at : (w : WorldValue) (m : Machine) (lines : List Line) (j : ℕ) (g : G) → AreSteps w m lines → Sound m.state → early (after_lines w m (take j lines)).state
        → is_in (told f w m lines g) ≡ is_in (told f w m (take j lines) g)
    settled_at w m [] zero g h sound e = refl
    settled_at w m [] (suc j) g h sound e = refl
    settled_at w m (line ∷ lines) zero g h sound e = settled w m (line ∷ lines) g h sound e
    settled_at w m (line ∷ lines) (suc j) g h sound e =
        let step = moved_holds (λ s l t. Sound s → Settles s l t × Sound t) each w m line h.0 sound in
        settled_at w (moved w m line.cpu) lines j (f m.state line (moved w m line.cpu).state g) h.1 step.1 e

-- ---- one more at the end

any_other : {X : Type 0} (p : X → Bool) (xs : List X) (n : X) → p n ≡ false → list_any p (xs ++ n ∷ []) ≡ list_any p xs
any_other p [] n h = ap (λ (b : Bool). b || false) h
any_other p (x ∷ xs) n h = ap (λ (b : Bool). p x || b) (any_other p xs n h)

any_new : {X : Type 0} (p : X → Bool) (xs : List X) (n : X) → p n ≡ true → list_any p (xs ++ n ∷ []) ≡ true
any_new p [] n h = ap (λ (b : Bool). b || false) h
any_new p (x ∷ xs) n h = by (p x) (any_new p xs n h)
  where
    by : (b : Bool) → list_any p (xs ++ n ∷ []) ≡ true → (b || list_any p (xs ++ n ∷ [])) ≡ true
    by true g = refl
    by false g = g

any_cases : {X : Type 0} (p : X → Bool) (xs : List X) (n : X) → list_any p (xs ++ n ∷ []) ≡ true → (list_any p xs ≡ true) ⊎ (p n ≡ true)
any_cases p xs n h = by (p n) refl
  where
    by : (b : Bool) → p n ≡ b → (list_any p xs ≡ true) ⊎ (p n ≡ true)
    by true e = inr e
    by false e = inl (sym (any_other p xs n e) ∙ h)

-- ---- each line

-- the next number does not fall
pub turn_up : (s : State) (line : Line) (t : State) → Turn s line t → s.next_inc.0 ≤ t.next_inc.0
turn_up s line t (Still q e) = let n = ap (λ (i : Inc). i.0) q.next in omega (arith, n)
turn_up s line t (Enter e) = let n = e.next in omega (arith, n)
turn_up s line t (Leave e) = let n = ap (λ (i : Inc). i.0) e.next in omega (arith, n)
turn_up s line t (Halt e) = let n = ap (λ (i : Inc). i.0) e.next in omega (arith, n)

-- the incarnation, or the object, has been given its number
abbrev pub HasNumber : Inc → State → Type 0
HasNumber i s = i.0 < s.next_inc.0

abbrev pub HasName : Name → State → Type 0
HasName x s = x.0 < s.next_name.0

inc_apart : (i n : Inc) → i.0 < n.0 → same_inc i n ≡ false
inc_apart i n h = grind (arith, nat_tests)

name_apart : (x n : Name) → x.0 < n.0 → same_name x n ≡ false
name_apart x n h = grind (arith, nat_tests)

under_settles : (i : Inc) (s : State) (line : Line) (t : State) → LineKnown s line t → Settles under_by (λ us. is_one_of i us) (HasNumber i) s line t
under_settles i s line t k early = (let up = turn_up s line t k.turn in omega (arith, early, up), λ us. by us (enters_call (done_call line)) (is_one_of line.inc us))
  where
    by : (us : List Inc) (e m : Bool) → is_one_of i (elim e [ true ↦ elim m [ true ↦ us ++ s.next_inc ∷ [] | false ↦ us ] | false ↦ us ]) ≡ is_one_of i us
    by us true true = any_other (same_inc i) us s.next_inc (inc_apart i s.next_inc early)
    by us true false = refl
    by us false m = refl

pub under_each : (i : Inc) → EachStep (λ s line t. Sound s → Settles under_by (λ us. is_one_of i us) (HasNumber i) s line t × Sound t)
under_each i = each_more (λ s line t. Sound s → LineKnown s line t) (λ s line t. Sound s → Settles under_by (λ us. is_one_of i us) (HasNumber i) s line t × Sound t)
    (λ s line t h sound. (under_settles i s line t (h sound), (h sound).after)) known_each

abbrev pub is_among : Name → List Name → Bool
is_among x names = list_any (same_name x) names

module _ (under : Inc → Bool) where
  made_settles : (x : Name) (s : State) (line : Line) (t : State) → LineKnown s line t → Settles (made_by under) (λ names. is_among x names) (HasName x) s line t
  made_settles x s line t k early = (let up = next_up s (done_call line) t k.next in omega (arith, early, up), λ names. by names (makes_object (done_call line)) (under line.inc))
    where
      by : (names : List Name) (e m : Bool) → is_among x (elim e [ true ↦ elim m [ true ↦ names ++ s.next_name ∷ [] | false ↦ names ] | false ↦ names ]) ≡ is_among x names
      by names true true = any_other (same_name x) names s.next_name (name_apart x s.next_name early)
      by names true false = refl
      by names false m = refl

  pub made_each : (x : Name) → EachStep (λ s line t. Sound s → Settles (made_by under) (λ names. is_among x names) (HasName x) s line t × Sound t)
  made_each x = each_more (λ s line t. Sound s → LineKnown s line t) (λ s line t. Sound s → Settles (made_by under) (λ names. is_among x names) (HasName x) s line t × Sound t)
      (λ s line t h sound. (made_settles x s line t (h sound), (h sound).after)) known_each

  -- what was made has its name
  abbrev AreNamed : State → List Name → Type 0
  AreNamed s names = Sound s × ((x : Name) → is_among x names ≡ true → HasName x s)

  named_line : (s : State) (line : Line) (t : State) (names : List Name) → LineKnown s line t → ((x : Name) → is_among x names ≡ true → HasName x s) → (x : Name)
      → is_among x (made_by under s line t names) ≡ true → HasName x t
  named_line s line t names k before x h = by (makes_object (done_call line)) refl (under line.inc) h
    where
      old : is_among x names ≡ true → HasName x t
      old g = let a = before x g in let up = next_up s (done_call line) t k.next in omega (arith, a, up)

      by : (e : Bool) → makes_object (done_call line) ≡ e → (m : Bool)
          → is_among x (elim e [ true ↦ elim m [ true ↦ names ++ s.next_name ∷ [] | false ↦ names ] | false ↦ names ]) ≡ true → HasName x t
      by true e true g = new (any_cases (same_name x) names s.next_name g)
        where
          new : (is_among x names ≡ true) ⊎ (same_name x s.next_name ≡ true) → HasName x t
          new (inl a) = old a
          new (inr a) = let same = ap (λ (n : Name). n.0) (name_same x s.next_name a) in let up = next_made s (done_call line) t k.next e in omega (arith, same, up)
      by true e false g = old g
      by false e m g = old g

  named_each : EachStep (λ s line t. (names : List Name) → AreNamed s names → AreNamed t (made_by under s line t names))
  named_each = each_more (λ s line t. Sound s → LineKnown s line t) (λ s line t. (names : List Name) → AreNamed s names → AreNamed t (made_by under s line t names))
      (λ s line t h names k. ((h k.0).after, named_line s line t names (h k.0) k.1)) known_each

-- ---- the line at a moment

module _ (w : WorldValue) (m : Machine) (lines : List Line) (steps : AreSteps w m lines) (sound : Sound m.state) where
  pub sound_from : (j : ℕ) → Sound (after_lines w m (take j lines)).state
  sound_from j =
      state_kept Sound (each_more (λ s line t. Sound s → LineKnown s line t) (λ s line t. Sound s → Sound t) (λ s line t h g. (h g).after) known_each) w m (take j lines)
      (first_steps w m lines j steps) sound

  pub known_from : (j : ℕ) (line : Line) → slice_get lines j ≡ Some line
      → LineKnown (after_lines w m (take j lines)).state line (moved w (after_lines w m (take j lines)) line.cpu).state
  known_from j line e = moved_holds (λ s l t. Sound s → LineKnown s l t) known_each w (after_lines w m (take j lines)) line (line_steps w m lines j line steps e) (sound_from j)

  module _ (call : Inc) (p : ℕ) (begins : UnderCall call p (call ∷ []) (activations_in m.state.incarnations) m.state.next_inc.0) where
    abbrev Keeps : State → List Inc → Type 0
    Keeps s us = Sound s × UnderCall call p us (activations_in s.incarnations) s.next_inc.0

    keeps_each : EachStep (λ s line t. (us : List Inc) → Keeps s us → Keeps t (under_by s line t us))
    keeps_each = each_more (λ s line t. Sound s → LineKnown s line t) (λ s line t. (us : List Inc) → Keeps s us → Keeps t (under_by s line t us))
        (λ s line t h us k. ((h k.0).after, under_turn call p us s line t k.0.rises (h k.0).turn k.0.stacked k.1)) known_each

    -- who is under the call at a moment
    abbrev pub under_then : ℕ → List Inc
    under_then j = told under_by w m (take j lines) (call ∷ [])

    pub under_from : (j : ℕ)
        → UnderCall call p (under_then j) (activations_in (after_lines w m (take j lines)).state.incarnations) (after_lines w m (take j lines)).state.next_inc.0
    under_from j = (told_keeps under_by Keeps keeps_each w m (take j lines) (call ∷ []) (first_steps w m lines j steps) (sound, begins)).1

    -- who has a number is under it in the whole history as at that moment
    pub under_exact : (j : ℕ) (i : Inc) → HasNumber i (after_lines w m (take j lines)).state → is_one_of i (told under_by w m lines (call ∷ [])) ≡ is_one_of i (under_then j)
    under_exact j i e = settled_at under_by (λ us. is_one_of i us) (HasNumber i) (under_each i) w m lines j (call ∷ []) steps sound e

    -- whom a line enters
    pub child_same : (j : ℕ) (line : Line) → slice_get lines j ≡ Some line → enters_call (done_call line) ≡ true
        → is_one_of (after_lines w m (take j lines)).state.next_inc (told under_by w m lines (call ∷ [])) ≡ is_one_of line.inc (told under_by w m lines (call ∷ []))
    child_same j line is enters =
        whole ∙ ap (λ us. is_one_of s.next_inc us) last ∙ ap (λ us. is_one_of s.next_inc us) (under_more s line t (under_then j) enters)
        ∙ here (is_one_of line.inc (under_then j)) refl ∙ sym (under_exact j line.inc numbered)
      where
        s : State
        s = (after_lines w m (take j lines)).state

        t : State
        t = (moved w (after_lines w m (take j lines)) line.cpu).state

        whole : is_one_of s.next_inc (told under_by w m lines (call ∷ [])) ≡ is_one_of s.next_inc (under_then (suc j))
        whole =
            under_exact (suc j) s.next_inc (subst (λ (n : Machine). HasNumber s.next_inc n.state) (sym (after_next w m lines j line is))
            (let n = (enters_turn s line t (known_from j line is).turn enters).next in omega (arith, n)))

        last : under_then (suc j) ≡ under_by s line t (under_then j)
        last = told_last under_by w m lines j line (call ∷ []) is

        numbered : HasNumber line.inc s
        numbered =
            (sound_from j).stacked.below line.inc (activation (incarnation s line.inc))
            (activation_live s.incarnations line.inc (enters_turn s line t (known_from j line is).turn enters).live)

        here : (b : Bool) → is_one_of line.inc (under_then j) ≡ b
            → is_one_of s.next_inc (elim b [ true ↦ under_then j ++ s.next_inc ∷ [] | false ↦ under_then j ]) ≡ is_one_of line.inc (under_then j)
        here true e = member_new (under_then j) s.next_inc ∙ sym e
        here false e = false_from_ne_true (is_one_of s.next_inc (under_then j)) (λ g. let n = (under_from j).fresh s.next_inc g in omega (arith, n)) ∙ sym e

  module _ (under : Inc → Bool) where
    abbrev pub made_then : ℕ → List Name
    made_then j = told (made_by under) w m (take j lines) []

    -- what is made later has no name yet
    pub made_later : (x : Name) → HasName x m.state → is_among x (told (made_by under) w m lines []) ≡ false
    made_later x e = settled (made_by under) (λ names. is_among x names) (HasName x) (made_each under x) w m lines [] steps sound e

    -- what a line makes
    pub maker_same : (j : ℕ) (line : Line) → slice_get lines j ≡ Some line → makes_object (done_call line) ≡ true
        → is_among (after_lines w m (take j lines)).state.next_name (told (made_by under) w m lines []) ≡ under line.inc
    maker_same j line is makes = whole ∙ ap (λ names. is_among s.next_name names) (last ∙ made_more) ∙ here (under line.inc) refl
      where
        s : State
        s = (after_lines w m (take j lines)).state

        t : State
        t = (moved w (after_lines w m (take j lines)) line.cpu).state

        whole : is_among s.next_name (told (made_by under) w m lines []) ≡ is_among s.next_name (made_then (suc j))
        whole = settled_at (made_by under) (λ names. is_among s.next_name names) (HasName s.next_name) (made_each under s.next_name) w m lines (suc j) [] steps sound
            (subst (λ (n : Machine). HasName s.next_name n.state) (sym (after_next w m lines j line is)) (next_made s (done_call line) t (known_from j line is).next makes))

        last : made_then (suc j) ≡ made_by under s line t (made_then j)
        last = told_last (made_by under) w m lines j line [] is

        made_more : made_by under s line t (made_then j) ≡ elim (under line.inc) [ true ↦ made_then j ++ s.next_name ∷ [] | false ↦ made_then j ]
        made_more = ap (λ (b : Bool). elim b [ true ↦ elim (under line.inc) [ true ↦ made_then j ++ s.next_name ∷ [] | false ↦ made_then j ] | false ↦ made_then j ]) makes

        named : (x : Name) → is_among x (made_then j) ≡ true → HasName x s
        named = (told_keeps (made_by under) (AreNamed under) (named_each under) w m (take j lines) [] (first_steps w m lines j steps) (sound, λ x h. absurd (false≢true h))).1

        here : (b : Bool) → under line.inc ≡ b → is_among s.next_name (elim b [ true ↦ made_then j ++ s.next_name ∷ [] | false ↦ made_then j ]) ≡ under line.inc
        here true e = any_new (same_name s.next_name) (made_then j) s.next_name (name_laws.refl s.next_name) ∙ sym e
        here false e = false_from_ne_true (is_among s.next_name (made_then j)) (λ g. let n = named s.next_name g in omega (arith, n)) ∙ sym e
