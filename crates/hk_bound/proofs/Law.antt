-- The law of the bound, for every history.
use Rattle.std.proofs.Common.{◌≡◌, ℕ, List, Option, Some, None, refl, sym, subst}
use Rattle.std.specs.Prelude.{IsSome, option_map, take}
use Rattle.std.specs.Option.{option_and_then}
use Rattle.hk_model.specs.declared.names.Name.{Name}
use Rattle.hk_model.specs.declared.names.Proc.{Proc}
use Rattle.hk_model.specs.declared.entries.Cap.{Cap}
use Rattle.hk_model.specs.declared.calls.Call.{Call}
use Rattle.hk_model.specs.declared.lines.Line.{Line}
use Rattle.hk_model.specs.WorldValue.{WorldValue, IsWorld}
use Rattle.hk_model.specs.Opening.{opening}
use Rattle.hk_model.specs.State.{State}
use Rattle.hk_model.specs.Running.{opened, moved, machine_at, state_at, AreStepsOf}
use Rattle.hk_model.specs.Places.{cap_found}
use Rattle.hk_model.specs.Lines.{done_call, changes_path, changed}
use Rattle.hk_model.proofs.Steps.{EachStep, each_both, each_more, moved_holds, state_kept, first_steps, line_steps}
use Rattle.hk_model.proofs.NumbersRise.{opening_rises}
use Rattle.hk_model.proofs.NamesGiven.{NamesGiven, given_line, opening_given}
use Rattle.hk_model.proofs.Histories.{Sound, LineKnown, known_each, opening_stacked}
use Rattle.hk_bound.specs.Bounds.{IsInBound, DiffersInCodes, BoundLaw}
use Rattle.hk_model.proofs.CallShown.{ShownIf, shown_each, IsOwn, own_each}
use Rattle.hk_bound.proofs.OpeningStays.{Steady, steady_each}
use Rattle.hk_bound.proofs.Kept.{Kept, next_own, next_thing, next_kept, line_kept, change_in_bound}
use Rattle.hk_bound.proofs.Opened.{types_old, opening_kept, same_opening}

-- all that is known of a line
abbrev Laws : State → Line → State → Type 0
Laws s line t = ((Sound s → LineKnown s line t) × ShownIf s line.inc (done_call line)) × (IsOwn s line × Steady s t)

laws_each : EachStep Laws
laws_each =
    each_both (λ s line t. (Sound s → LineKnown s line t) × ShownIf s line.inc (done_call line)) (λ s line t. IsOwn s line × Steady s t)
    (each_both (λ s line t. Sound s → LineKnown s line t) (λ s line t. ShownIf s line.inc (done_call line)) known_each shown_each)
    (each_both (λ s line t. IsOwn s line) (λ s line t. Steady s t) own_each steady_each)

-- what every state keeps, with some maker of each object
abbrev AllKept : WorldValue → State → Type 0
AllKept w s = Sound s × NamesGiven s × ((own : Name → Proc) × Kept w own s)

module _ (w : WorldValue) (world : IsWorld w) where
  line_keeps : (s : State) (line : Line) (t : State) → Laws s line t → AllKept w s → AllKept w t
  line_keeps s line t laws (sound, given, (own, kept)) =
      let known = laws.0.0 sound in
      let next = next_own s line.proc own in (
        known.after,
        given_line s line t known.writes known.next given,
        (
          next_own s line.proc own,
          line_kept w (next_own s line.proc own) s line t (next_kept w s line.proc own given kept) sound (types_old w world) laws.0.1 known laws.1.0
              laws.1.1 (next_thing w s line.proc own kept.low),
        ),
      )

  opening_keeps : (other : WorldValue) → DiffersInCodes w other → AllKept w (opening other)
  opening_keeps other d =
      subst (AllKept w) (sym (same_opening w other d)) (
        record { rises = opening_rises w; stacked = opening_stacked w },
        opening_given w world,
        ((λ name. record { 0 = 0 }), opening_kept w (λ name. record { 0 = 0 }) world),
      )

  all_kept : (other : WorldValue) (lines : List Line) (moment : ℕ) → DiffersInCodes w other → AreStepsOf other lines → AllKept w (state_at other lines moment)
  unfolding opened
  all_kept other lines moment d h =
      state_kept (AllKept w) (each_more Laws (λ s line t. AllKept w s → AllKept w t) line_keeps laws_each) other (opened other) (take moment lines)
      (first_steps other (opened other) lines moment h) (opening_keeps other d)

  changed_done : (s : State) (line : Line) (name : Name) → changed s line ≡ Some name → IsSome (done_call line)
  changed_done s line name e = by (done_call line) e
    where
      by : (o : Option Call) → option_map (λ (cap : Cap). cap.name) (option_and_then (cap_found s line.inc) (changes_path o)) ≡ Some name → IsSome o
      by None f = absurd (cc)
      by (Some c) f = refl

  pub bound : (other : WorldValue) (lines : List Line) → DiffersInCodes w other → AreStepsOf other lines → BoundLaw w other lines
  bound other lines d h moment line name is old change =
      by (all_kept other lines moment d h)
    where
      s : State
      s = state_at other lines moment

      t : State
      t = (moved other (machine_at other lines moment) line.cpu).state

      laws : Laws (state_at other lines moment) line (moved other (machine_at other lines moment) line.cpu).state
      laws = moved_holds Laws laws_each other (machine_at other lines moment) line (line_steps other (opened other) lines moment line h is)

      by : AllKept w (state_at other lines moment) → IsInBound w line.proc name
      by (sound, given, (own, kept)) =
          change_in_bound w own (state_at other lines moment) line (moved other (machine_at other lines moment) line.cpu).state kept sound (types_old w world) laws.0.1
          (laws.1.0 (changed_done (state_at other lines moment) line name change)) (laws.0.0 sound) name old change

pub law : (w other : WorldValue) (lines : List Line) → IsWorld w → DiffersInCodes w other → AreStepsOf other lines → BoundLaw w other lines
law w other lines world d h = bound w world other lines d h
