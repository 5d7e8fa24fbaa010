-- What the search finds of each change is its reason.
use Rattle.std.proofs.Common.{◌≡◌, ℕ, zero, suc, ◌+◌, ◌-◌, ◌<◌, ◌≤◌, ◌^◌, List, [], ◌∷◌, ◌++◌, length, map, replicate, Bool, true, false, Option, Some, None}
use Rattle.std.proofs.Common.{refl, sym, ◌∙◌, ap, arith, subst, take, slice_get, option_and_then, option_map}
use Rattle.std.specs.Prelude.{slice_index_or}
use mathlib.Core.Logic.{inl, inr}
use Rattle.std.specs.List.{Contains}
use Rattle.std.proofs.lemmas.Bool.{true≢false, cases_lt}
use Rattle.std.proofs.lemmas.List.{length-append}
use Rattle.hk_model.specs.declared.names.Name.{Name}
use Rattle.hk_model.specs.declared.names.Inc.{Inc}
use Rattle.hk_model.specs.declared.entries.Cap.{Cap}
use Rattle.hk_model.specs.declared.entries.Entry.{Entry}
use Rattle.hk_model.specs.declared.entries.Entry.TheVariants.{Empty, Held, Form}
use Rattle.hk_model.specs.declared.lines.Line.{Line}
use Rattle.hk_model.specs.declared.reaches.Reach.{Reach}
use Rattle.hk_model.specs.declared.reaches.Change.{Change}
use Rattle.hk_model.specs.WorldValue.{WorldValue, IsWorld}
use Rattle.hk_model.specs.State.{State, object, incarnation}
use Rattle.hk_model.specs.Keeping.{stands}
use Rattle.hk_model.specs.Places.{SlotOf, EntryOf, standing, cap_of}
use Rattle.hk_model.specs.Running.{Machine, opened, moved, after_lines, machine_at, state_at, AreStepsOf}
use Rattle.hk_model.specs.Lines.{done_call, enters_call, param_count, changed, line_before, told}
use Rattle.hk_model.specs.Under.{is_under, is_made_under, IsCall, parameters}
use Rattle.hk_model.specs.Reaches.{listed_cap}
use Rattle.hk_model.specs.Confinement.{IsConfinedCall, IsChange}
use Rattle.hk_model.specs.Changes.{Beginning, confined_calls, calls_over, bare_changes_by, bare_changes, IsReason, IsExplained, AreExplained, IsLeastReach}
use Rattle.hk_model.specs.Changes as changes
use Rattle.hk_model.proofs.Steps.{EachStep, each_more, after_next, first_steps}
use Rattle.hk_model.proofs.KindsStay.{from_moment}
use Rattle.hk_model.proofs.Members.{Has, has_filtered}
use Rattle.hk_model.proofs.NamesStand.{All, all_append, all_map, Stands, InEntry, Within, standing_in, named_within}
use Rattle.hk_model.proofs.NamesOpened.{named_at}
use Rattle.hk_model.proofs.ChangesListed.{lists_changes}
use Rattle.hk_model.proofs.Histories.{Sound, LineKnown, known_each, sound_at}
use Rattle.hk_confine.proofs.Settling.{turn_up}
use Rattle.hk_confine.proofs.Begins.{earlier_out}
use Rattle.hk_report.specs.declared.doings.Doing.{Doing}
use Rattle.hk_report.specs.declared.doings.Entered.{Entered}
use Rattle.hk_report.specs.declared.families.Begun.{Begun}
use Rattle.hk_report.specs.declared.families.BareChange.{BareChange}
use Rattle.hk_report.specs.declared.histories.History.{History}
use Rattle.hk_report.specs.Doings.{before_line, doing, doings, given_params, given_slots, kept_params, params_given}
use Rattle.hk_report.specs.Families.{told_call, told_change, calls_entered, change_under, changes_by, changes_from, families_by, families_after}
use Rattle.hk_report.specs.Histories.{history_of, told_histories}
use Rattle.hk_report.specs.Hops.{is_made}
use Rattle.hk_report.specs.Runs.{AreRearranged}
use Rattle.hk_report.specs.Searches.{direct_param, IsFoundBy, IsFound}
use Rattle.hk_report.specs.Fronts.{IsKeptFirst}
use Rattle.hk_report.specs.Reasons.{params_at, IsReasonedBy, IsTold, AreTold, AreFew}
use Rattle.hk_report.proofs.Listed.{changer_lives, live_numbered, changes_found, families_end, doings_few}
use Rattle.hk_report.proofs.Spans.{has_all, SpansTell}
use Rattle.hk_report.proofs.Found.{found_direct, found_behind}
use Rattle.hk_report.proofs.FrontLemmas.{LeastKept, kept_least}
use Rattle.hk_report.proofs.Replays.{spans_told}
use Rattle.hk_report.proofs.Makers.{made_is}
use Rattle.hk_report.proofs.Rearranged.{tells_after, made_after}

-- ---- the parameters of a call

option_same : {X : Type 0} {x y : X} → Some x ≡ Some y → x ≡ y
option_same h = cc

-- those that a line gives, behind others
given_behind : (o : Option Entered) (params : List (Option Cap)) (xs ys : List (List (Option Cap)))
    → slice_index_or (kept_params o params ++ ys) (length (kept_params o params ++ xs)) [] ≡ slice_index_or ys (length xs) []
given_behind None params xs ys = refl
given_behind (Some entered) params xs ys = refl

params_line : (w : WorldValue) (m : Machine) (lines : List Line) (n : ℕ) (line : Line) → slice_get lines n ≡ Some line
    → enters_call (done_call line) ≡ true
    → slice_index_or (params_given w m lines) (length (params_given w m (take n lines))) []
    ≡ given_params line (before_line (after_lines w m (take n lines)).state line) (moved w (after_lines w m (take n lines)) line.cpu).state
params_line w m [] n line e f = absurd (cc)
params_line w m (first ∷ lines) zero line e f =
    ap (λ (l : Line). slice_index_or (params_given w m (l ∷ lines)) 0 []) (option_same e)
    ∙ ap (λ (b : Bool). slice_index_or (kept_params (option_map (λ (inc : Inc). let x : Entered = record { inc = inc; confined = (incarnation (moved w m line.cpu).state inc).confined } in x)
    (elim b as (λ x. Option Inc) [ true ↦ Some m.state.next_inc | false ↦ None ])) (given_params line (before_line m.state line) (moved w m line.cpu).state)
    ++ params_given w (moved w m line.cpu) lines) 0 []) f
params_line w m (first ∷ lines) (suc n) line e f =
    given_behind (doing m.state first (moved w m first.cpu).state).entered (given_params first (before_line m.state first) (moved w m first.cpu).state)
    (params_given w (moved w m first.cpu) (take n lines)) (params_given w (moved w m first.cpu) lines)
    ∙ params_line w (moved w m first.cpu) lines n line e f

-- there are as many families as incarnations of the opening, and calls whose parameters are kept
one_more : (n : ℕ) (o : Option Entered) (inc : Inc) (families : List (List Begun)) (params : List (Option Cap))
    → length (elim o as (λ x. List (List Begun)) [ None ↦ families | Some new ↦ families ++ calls_entered n new (slice_index_or families inc.0 []) ∷ [] ])
    ≡ length families + length (kept_params o params)
one_more n None inc families params = omega arith
one_more n (Some new) inc families params = length-append families (calls_entered n new (slice_index_or families inc.0 []) ∷ [])

as_many : (w : WorldValue) (n : ℕ) (m : Machine) (lines : List Line) (families : List (List Begun))
    → length (families_after n (doings w m lines) families) ≡ length families + length (params_given w m lines)
as_many w n m [] families = omega arith
as_many w n m (line ∷ lines) families =
    as_many w (n + 1) (moved w m line.cpu) lines (families_by n d families) ∙ ap (λ (k : ℕ). k + length (params_given w (moved w m line.cpu) lines)) one ∙ all
  where
    d : Doing
    d = doing m.state line (moved w m line.cpu).state

    given : List (Option Cap)
    given = given_params line (before_line m.state line) (moved w m line.cpu).state

    one : length (families_by n d families) ≡ length families + length (kept_params d.entered given)
    one = one_more n d.entered d.inc families given

    all : (length families + length (kept_params d.entered given)) + length (params_given w (moved w m line.cpu) lines)
        ≡ length families + length (kept_params d.entered given ++ params_given w (moved w m line.cpu) lines)
    all = let a = length-append (kept_params d.entered given) (params_given w (moved w m line.cpu) lines) in omega (arith, a)

module _ (w : WorldValue) (lines : List Line) (steps : AreStepsOf w lines) where
  abbrev families_of : List Line → List (List Begun)
  families_of some = families_after 0 (doings w (opened w) some) (replicate (opened w).state.next_inc.0 [])

  -- a call has the number of its incarnation, behind those of the opening
  params_number : (n : ℕ) → (after_lines w (opened w) (take n lines)).state.next_inc.0 - (length (families_of lines) - length (params_given w (opened w) lines))
      ≡ length (params_given w (opened w) (take n lines))
  params_number n =
      let many = as_many w 0 (opened w) lines (replicate (opened w).state.next_inc.0 []) in
      let before = as_many w 0 (opened w) (take n lines) (replicate (opened w).state.next_inc.0 []) in
      let count = (families_end w (take n lines) (first_steps w (opened w) lines n steps)).fits.count in
      omega (arith, many, before, count)

  params_are : (k : ℕ) (call : Inc) → IsCall w lines k call → params_at (families_of lines) (params_given w (opened w) lines) call ≡ map cap_of (parameters w lines k call)
  params_are k call c =
      ap (λ (i : Inc). params_at (families_of lines) (params_given w (opened w) lines) i) c.made
      ∙ ap (λ (n : ℕ). slice_index_or (params_given w (opened w) lines) n []) (params_number c.earlier)
      ∙ params_line w (opened w) lines c.earlier c.line c.is c.enters
      ∙ ap (map cap_of) slots_are
    where
      slots_are : given_slots c.line (before_line (state_at w lines c.earlier) c.line) (moved w (machine_at w lines c.earlier) c.line.cpu).state ≡ parameters w lines k call
      slots_are =
          ap (λ (b : Bool). elim (elim b as (λ x. Option Inc) [ true ↦ Some (state_at w lines c.earlier).next_inc | false ↦ None ]) as (λ x. List Entry) [
            | None ↦ []
            | Some inc ↦ take (param_count (done_call c.line)) (incarnation (moved w (machine_at w lines c.earlier) c.line.cpu).state inc).slots
          ]) c.enters
          ∙ ap (λ (i : Inc). take (param_count (done_call c.line)) (incarnation (moved w (machine_at w lines c.earlier) c.line.cpu).state i).slots) (sym c.made)
          ∙ ap (λ (m : Machine). take (param_count (done_call c.line)) (incarnation m.state call).slots) (sym (after_next w (opened w) lines c.earlier c.line c.is))
          ∙ ap (λ (o : Option Line). take (param_count (option_and_then done_call o)) (incarnation (state_at w lines (suc c.earlier)) call).slots) (sym c.is)
          ∙ ap (λ (n : ℕ). parameters w lines n call) (sym c.moment)

  -- ---- what is named stands

  module _ (world : IsWorld w) where
    within : (n : ℕ) → Within (Stands (state_at w lines n)) (state_at w lines n)
    within n = named_within (state_at w lines n) (named_at w lines n world steps)

    held_stands : (n : ℕ) (x : Entry) (cap : Cap) → InEntry (Stands (state_at w lines n)) x → x ≡ Held cap → stands (state_at w lines n) cap.name ≡ true
    held_stands n x cap h e = (subst (InEntry (Stands (state_at w lines n))) e h).0

    cap_held : (x : Entry) (cap : Cap) → cap_of x ≡ Some cap → x ≡ Held cap
    cap_held Empty cap h = absurd (cc)
    cap_held (Held c) cap h = ap Held (option_same h)
    cap_held (Form form) cap h = absurd (cc)

    entry_at : (xs : List Entry) (n : ℕ) (cap : Cap) → option_and_then cap_of (slice_get xs n) ≡ Some cap → slice_index_or xs n Empty ≡ Held cap
    entry_at [] n cap h = absurd (cc)
    entry_at (x ∷ xs) zero cap h = cap_held x cap h
    entry_at (x ∷ xs) (suc n) cap h = entry_at xs n cap h

    taken_at : (count : ℕ) (xs : List Entry) (n : ℕ) (cap : Cap) → option_and_then cap_of (slice_get (take count xs) n) ≡ Some cap
        → option_and_then cap_of (slice_get xs n) ≡ Some cap
    taken_at zero [] n cap h = absurd (cc)
    taken_at zero (x ∷ xs) n cap h = absurd (cc)
    taken_at (suc count) [] n cap h = absurd (cc)
    taken_at (suc count) (x ∷ xs) zero cap h = h
    taken_at (suc count) (x ∷ xs) (suc n) cap h = taken_at count xs n cap h

    listed_named : (m index : ℕ) (x : Name) (cap : Cap) → m ≤ length lines → listed_cap (state_at w lines m) x index ≡ Some cap → stands (state_at w lines m) cap.name ≡ true
    listed_named m index x cap late h =
        held_stands m (standing (state_at w lines m) (EntryOf x index)) cap (standing_in (Stands (state_at w lines m)) (state_at w lines m) (within m) (EntryOf x index))
        (entry_at (object (state_at w lines m) x).entries index cap h)

    params_stand : (k : ℕ) (call : Inc) (place : ℕ) (cap : Cap) → option_and_then cap_of (slice_get (parameters w lines k call) place) ≡ Some cap
        → stands (state_at w lines k) cap.name ≡ true
    params_stand k call place cap h =
        held_stands k (standing (state_at w lines k) (SlotOf call place)) cap (standing_in (Stands (state_at w lines k)) (state_at w lines k) (within k) (SlotOf call place))
        (entry_at (incarnation (state_at w lines k) call).slots place cap
        (taken_at (param_count (option_and_then done_call (line_before lines k))) (incarnation (state_at w lines k) call).slots place cap h))

    -- ---- a change is not before its call

    abbrev Late : ℕ → State → Type 0
    Late low s = Sound s × (low ≤ s.next_inc.0)

    late_line : (low : ℕ) (s : State) (line : Line) (t : State) → (Sound s → LineKnown s line t) → Late low s → Late low t
    late_line low s line t g k = let up = turn_up s line t (g k.0).turn in let a = k.1 in ((g k.0).after, omega (arith, up, a))

    late_each : (low : ℕ) → EachStep (λ s line t. Late low s → Late low t)
    late_each low = each_more (λ s line t. Sound s → LineKnown s line t) (λ s line t. Late low s → Late low t) (late_line low) known_each

    not_before : (k : ℕ) (call : Inc) (c : IsCall w lines k call) (moment : ℕ) (name : Name) → IsChange w lines k call moment name → k ≤ moment
    not_before k call c moment name g = elim (cases_lt moment k) [ inr late ↦ late | inl early ↦ absurd (never early) ]
      where
        never : moment < k → ⊥
        never early =
            let low : ℕ = (state_at w lines moment).next_inc.0 in
            let m = c.moment in
            let up : Late low (state_at w lines c.earlier) =
            from_moment (Late low) (late_each low) w lines moment c.earlier steps (omega (arith, early, m)) (sound_at w lines moment steps, omega arith) in
            let number = live_numbered (state_at w lines moment) g.line.inc (sound_at w lines moment steps)
            (changer_lives (state_at w lines moment) g.line.inc (done_call g.line) name g.changes) in
            let same = ap (λ (i : Inc). i.0) c.made in
            let high = up.1 in
            true≢false (sym g.under ∙ earlier_out w lines steps k call c g.line.inc (omega (arith, number, high, same)))

    -- ---- the reason of a change, found in lists that tell what stood in them in whatever order

    abbrev F : List (List Begun)
    F = families_after 0 (doings w (opened w) lines) (replicate (opened w).state.next_inc.0 [])

    abbrev P : List (List (Option Cap))
    P = params_given w (opened w) lines

    -- what is known of a change that is listed
    record IsListed (b : changes.BareChange) : Type 0 where
      call : IsConfinedCall w lines b.under.moment b.under.call
      change : IsChange w lines b.under.moment b.under.call b.moment b.object
      listed : Has (confined_calls w lines) b.under

    within_lines : (xs : List Line) (n : ℕ) (line : Line) → slice_get xs n ≡ Some line → n < length xs
    within_lines [] n line h = absurd (cc)
    within_lines (x ∷ xs) zero line h = omega arith
    within_lines (x ∷ xs) (suc n) line h = let l = within_lines xs n line h in omega (arith, l)

    module _ (H : List History) (same : AreRearranged (told_histories w lines) H) (b : changes.BareChange) (known : IsListed b) where
      abbrev test : Name → Bool
      test = is_made F (told_call b.under) H

      abbrev made : Name → Bool
      made = is_made_under w lines b.under.moment b.under.call

      test_is : (x : Name) → test x ≡ made x
      test_is x = made_after (told_histories w lines) H same F (told_call b.under) x ∙ made_is w lines steps b.under known.listed known.call.is x

      tells : (x : Name) → SpansTell (state_at w lines) (length lines) x (history_of H x).spans
      tells = tells_after (told_histories w lines) H same (state_at w lines) (length lines) (spans_told w lines steps)

      by_end : b.moment ≤ length lines
      by_end = let l = within_lines lines b.moment known.change.line known.change.is in omega (arith, l)

      begun : b.under.moment ≤ b.moment
      begun = not_before b.under.moment b.under.call known.call.is b.moment b.object known.change

      abbrev params : List Entry
      params = parameters w lines b.under.moment b.under.call

      abbrev IsLeast : Reach → Type 0
      IsLeast reach = IsReason w lines b.under.moment b.under.call b.moment b.object reach

      least_found : (reach : Reach) → made b.object ≡ false → IsFound test H b.object (b.moment + 1) b.under.moment (map cap_of params) reach → IsLeast reach
      least_found reach none h = by (direct_param b.object 0 (map cap_of params)) refl h
        where
          by : (o : Option ℕ) → direct_param b.object 0 (map cap_of params) ≡ o → IsFoundBy test H b.object (b.moment + 1) b.under.moment (map cap_of params) reach o → IsLeast reach
          by (Some arg) e g =
              subst IsLeast (sym g) (
                none,
                found_direct (state_at w lines) made test test_is H (length lines) tells listed_named b.object b.moment by_end b.under.moment begun params
                    (params_stand b.under.moment b.under.call) arg e,
              )
          by None e g =
              subst IsLeast (sym g.is) (
                none,
                found_behind (state_at w lines) made test test_is H (length lines) tells listed_named b.object b.moment by_end b.under.moment begun params
                    (params_stand b.under.moment b.under.call) e reach g,
              )

      least_kept : (reach : Reach) → made b.object ≡ false → IsKeptFirst test H b.under.moment (map cap_of params) b.object b.moment reach → IsLeast reach
      least_kept reach none h = subst IsLeast (sym l.is) (none, l.least)
        where
          by_then : b.under.moment ≤ length lines
          by_then = let x = begun in let y = by_end in omega (arith, x, y)

          l : LeastKept (state_at w lines) made test test_is H (length lines) tells listed_named b.under.moment by_then params (params_stand b.under.moment b.under.call)
              b.moment b.object reach
          l =
              kept_least (state_at w lines) made test test_is H (length lines) tells listed_named b.under.moment by_then params
              (params_stand b.under.moment b.under.call) b.object b.moment reach by_end h

      reason_is : (reach : Reach) (m : Bool) → test b.object ≡ m → IsReasonedBy F H P (told_change b) reach m → IsLeast reach
      reason_is reach true e h = subst IsLeast (sym h) (sym (test_is b.object) ∙ e)
      reason_is reach false e (inl h) =
          least_found reach (sym (test_is b.object) ∙ e)
          (subst (λ (ps : List (Option Cap)). IsFound test H b.object (b.moment + 1) b.under.moment ps reach) (params_are b.under.moment b.under.call known.call.is) h)
      reason_is reach false e (inr h) =
          least_kept reach (sym (test_is b.object) ∙ e)
          (subst (λ (ps : List (Option Cap)). IsKeptFirst test H b.under.moment ps b.object b.moment reach) (params_are b.under.moment b.under.call known.call.is) h)

      explained_one : (change : Change) → IsTold F H P (told_change b) change → IsExplained w lines b change
      explained_one change h = record { line = h.line; under = h.under; object = h.object; reason = reason_is change.reach (test b.object) refl h.reason }

    explained_each : (H : List History) → AreRearranged (told_histories w lines) H → (bares : List changes.BareChange) (all : List Change) → All IsListed bares
        → AreTold F H P (map told_change bares) all → AreExplained w lines bares all
    explained_each H same [] [] known h = tt
    explained_each H same [] (change ∷ all) known h = absurd h
    explained_each H same (b ∷ bares) [] known h = absurd h
    explained_each H same (b ∷ bares) (change ∷ all) known h = (explained_one H same b known.0 change h.0, explained_each H same bares all known.1 h.1)

    -- ---- the changes that are listed

    abbrev IsUnder : changes.BareChange → Type 0
    IsUnder b = Has (confined_calls w lines) b.under

    under_listed : (m : Machine) (rest : List Line) (so_far : List changes.BareChange) → All IsUnder so_far
        → All IsUnder (told (bare_changes_by w lines (confined_calls w lines)) w m rest so_far)
    under_listed m [] so_far h = h
    under_listed m (line ∷ rest) so_far h =
        under_listed (moved w m line.cpu) rest (bare_changes_by w lines (confined_calls w lines) m.state line (moved w m line.cpu).state so_far) (by (changed m.state line))
      where
        by : (o : Option Name) → All IsUnder (elim o as (λ x. List changes.BareChange) [
          | None ↦ so_far
          | Some name ↦ so_far ++ map (λ b. record { moment = m.state.events; under = b; object = name }) (calls_over w lines (confined_calls w lines) line)
        ])
        by None = h
        by (Some name) =
            all_append IsUnder so_far (map (λ b. record { moment = m.state.events; under = b; object = name }) (calls_over w lines (confined_calls w lines) line)) h
            (all_map IsUnder (λ b. record { moment = m.state.events; under = b; object = name }) (calls_over w lines (confined_calls w lines) line)
            (has_all (Has (confined_calls w lines)) (calls_over w lines (confined_calls w lines) line)
            (λ b g. (has_filtered (λ (c : Beginning). is_under w lines c.moment c.call line.inc) (confined_calls w lines) b g).0)))

    all_contained : {X : Type 0} (R : X → Type 0) (xs : List X) → ((x : X) → Contains xs x → R x) → All R xs
    all_contained R [] f = tt
    all_contained R (x ∷ xs) f = (f x (0, omega arith, refl), all_contained R xs (λ y c. let l = c.1 in f y (suc c.0, omega (arith, l), c.2)))

    all_both : (Q R S : changes.BareChange → Type 0) → ((b : changes.BareChange) → Q b → R b → S b) → (xs : List changes.BareChange) → All Q xs → All R xs → All S xs
    all_both Q R S f [] h g = tt
    all_both Q R S f (x ∷ xs) h g = (f x h.0 g.0, all_both Q R S f xs h.1 g.1)

    all_listed : All IsListed (bare_changes w lines)
    all_listed =
        all_both (λ b. IsConfinedCall w lines b.under.moment b.under.call × IsChange w lines b.under.moment b.under.call b.moment b.object) IsUnder IsListed
        (λ b h g. record { call = h.0; change = h.1; listed = g }) (bare_changes w lines)
        (all_contained (λ b. IsConfinedCall w lines b.under.moment b.under.call × IsChange w lines b.under.moment b.under.call b.moment b.object) (bare_changes w lines)
        (λ b c. ((lists_changes w lines steps).exactly b.under.moment b.moment b.under.call b.object).0 c))
        (under_listed (opened w) lines [] tt)

-- ---- a whole report

few_mapped : (n : ℕ) (name : Name) (calls : List Begun) → n + 1 < 2 ^ 32 → AreFew (map (change_under n name) calls)
few_mapped n name [] h = tt
few_mapped n name (c ∷ calls) h = (h, few_mapped n name calls h)

few_by : (n : ℕ) (o : Option Name) (calls : List Begun) → n + 1 < 2 ^ 32 → AreFew (changes_by n o calls)
few_by n None calls h = tt
few_by n (Some name) calls h = few_mapped n name calls h

few_from : (n : ℕ) (families : List (List Begun)) (ds : List Doing) → n + length ds < 2 ^ 32 → AreFew (changes_from n families ds)
few_from n families [] h = tt
few_from n families (d ∷ ds) h =
    all_append (λ (bare : BareChange). bare.moment + 1 < 2 ^ 32) (changes_by n d.changed (slice_index_or families d.inc.0 [])) (changes_from (n + 1) (families_by n d families) ds)
    (few_by n d.changed (slice_index_or families d.inc.0 []) (omega (arith, h))) (few_from (n + 1) (families_by n d families) ds (omega (arith, h)))

-- the lines of the changes can be numbered
few_changes : (families : List (List Begun)) (ds : List Doing) (found : List BareChange) → length ds < 2 ^ 32 → found ≡ changes_from 0 families ds → AreFew found
few_changes families ds found few h = subst AreFew (sym h) (few_from 0 families ds (omega (arith, few)))

pub few_told : (w : WorldValue) (lines : List Line) (found : List BareChange) → IsWorld w → AreStepsOf w lines
    → found ≡ changes_from 0 (replicate (opened w).state.next_inc.0 []) (doings w (opened w) lines) → AreFew found
few_told w lines found world steps h =
    few_changes (replicate (opened w).state.next_inc.0 []) (doings w (opened w) lines) found (doings_few w lines (doings w (opened w) lines) world steps refl) h

-- what was found is the list of the definitions
pub report_is : (w : WorldValue) (lines : List Line) (told histories : List History) (params : List (List (Option Cap))) (families : List (List Begun))
    (found : List BareChange) (all : List Change) → IsWorld w → AreStepsOf w lines
    → told ≡ told_histories w lines → AreRearranged told histories → params ≡ params_given w (opened w) lines
    → families ≡ families_after 0 (doings w (opened w) lines) (replicate (opened w).state.next_inc.0 [])
    → found ≡ changes_from 0 (replicate (opened w).state.next_inc.0 []) (doings w (opened w) lines)
    → AreTold families histories params found all → AreExplained w lines (bare_changes w lines) all
report_is w lines told histories params families found all world steps h same p g c is =
    let bares : found ≡ map told_change (bare_changes w lines)
    = changes_found w lines found steps c in
    explained_each w lines steps world histories (subst (λ (x : List History). AreRearranged x histories) h same) (bare_changes w lines) all (all_listed w lines steps world)
    (subst (λ (x : List BareChange).
    AreTold (families_after 0 (doings w (opened w) lines) (replicate (opened w).state.next_inc.0 [])) histories (params_given w (opened w) lines) x all)
    bares
    (subst (λ (x : List (List (Option Cap))). AreTold (families_after 0 (doings w (opened w) lines) (replicate (opened w).state.next_inc.0 [])) histories x found all) p
    (subst (λ (x : List (List Begun)). AreTold x histories params found all) g is)))
