-- What stands at a place descends by the chain of that place.
use Rattle.std.proofs.Common.{◌≡◌, List, Option, Some, None, refl, sym, subst}
use Rattle.std.specs.Prelude.{take}
use mathlib.Core.Logic.{inl, inr}
use Rattle.std.specs.Option.{option_and_then}
use Rattle.hk_model.specs.declared.names.Inc.{Inc}
use Rattle.hk_model.specs.declared.entries.Making.{Making}
use Rattle.hk_model.specs.declared.entries.Making.TheVariants as making
use Rattle.hk_model.specs.declared.entries.Entry.{Entry}
use Rattle.hk_model.specs.declared.entries.Entry.TheVariants.{Empty, Held, Form}
use Rattle.hk_model.specs.declared.lines.Line.{Line}
use Rattle.hk_model.specs.State.{State, object}
use Rattle.hk_model.specs.Targets.{target}
use Rattle.hk_model.specs.Rule.{made_form}
use Rattle.hk_model.specs.Places.{Place, SlotOf, EntryOf, standing, walk_end, named_by}
use Rattle.hk_model.specs.WorldValue.{WorldValue}
use Rattle.hk_model.specs.Opening.{opening}
use Rattle.hk_model.specs.Running.{opened, AreStepsOf}
use Rattle.hk_model.specs.Ways.{Way, Walked, Stored, Lessened, Merged, Inherited, Copied, CopyOf, Created, Formed, Emptied, line_way, Writes, Wrote}
use Rattle.hk_model.specs.Origins.{From, origin_of}
use Rattle.hk_model.specs.Descent.{Chain, Opened, MadeAt, Link, extended, extend, chains, Reduces, IfThere, of_template, Descends, DescentLaw}
use Rattle.hk_model.proofs.RightsWithin.{Within-and}
use Rattle.hk_model.proofs.WalkLemmas.{Reduces-self, walk_reduces, leads_named, copied_reduces, inherited_reduces}
use Rattle.hk_model.proofs.MergeLemmas.{merged_is}
use Rattle.hk_model.proofs.Steps.{EachStep, each_both, each_more, told_keeps, first_steps}
use Rattle.hk_model.proofs.NumbersRise.{NumbersRise, rises_each, opening_rises}
use Rattle.hk_model.proofs.LineWays.{LineWrites, writes_each}

-- ---- one link

if_there : (x : Entry) (P : Type 0) → P → IfThere x P
if_there Empty P h = tt
if_there (Held c) P h = h
if_there (Form t) P h = h

empty_descends : (w : WorldValue) (chain : Chain) → Descends w Empty chain
empty_descends w (Opened p) = tt
empty_descends w (MadeAt line by target) = tt
empty_descends w (Link line place entry gate rest) = tt

module _ (w : WorldValue) (s : State) (inc : Inc) (chains : Place → Chain) (before : (q : Place) → Descends w (standing s q) (chains q)) where
  -- an entry that is a reduction of what stood at its origin
  from_place : (p q : Place) (x : Entry) → Reduces (standing s q) x → Descends w x (extended s chains (Some (From q)) p)
  from_place p q x h = if_there x (Reduces (standing s q) x × Descends w (standing s q) (chains q)) (h, before q)

  -- what each way writes descends by the chain of its origin
  way_descends : (p : Place) (v : Way) (x : Entry) → Writes s inc v x → Descends w x (extended s chains (origin_of s inc v) p)
  way_descends p (Walked path) x h = from_place p (walk_end s inc path) x (walk_reduces s inc path x h)
  way_descends p (Stored slot) x h = from_place p (SlotOf inc slot) x (rw h.0 (Reduces-self (standing s (SlotOf inc slot))))
  way_descends p (Lessened slot keep) x h = from_place p (SlotOf inc slot) x (rw (h.held, h.is) (refl, Within-and h.cap.rights keep))
  way_descends p (Merged slot form) x h =
      rw (h.held, h.is) (
        merged_is h.cap (object s h.cap.name).of form h.step h.new h.merges,
        subst (λ e. Descends w e (chains (SlotOf inc slot))) h.held
            (before (SlotOf inc slot)),
      )
  way_descends p (Inherited procedure index confined) x h = from_place p (EntryOf procedure index) x (rw h (inherited_reduces confined (standing s (EntryOf procedure index))))
  way_descends p (Copied path index) x h =
      from_place p (EntryOf (named_by s inc path) index) x (rw (leads_named s inc path h.cap h.leads, h.is) (copied_reduces h.cap.rights (standing s (EntryOf h.cap.name index))))
  way_descends p (CopyOf path) x h = rw (h.leads, h.is) (refl, refl)
  way_descends p (Created path) x h = rw (h.leads, h.is) (refl, refl)
  way_descends p (Formed path kind) x h = rw (h.leads, h.is) (of_kind kind, h.allowed)
    where
      of_kind : (k : Making) → of_template (made_form k h.cap.name) ≡ Some h.cap.name
      of_kind (making.Amplify check give) = refl
      of_kind (making.Create give) = refl
  way_descends p Emptied x h = subst (λ y. Descends w y (chains p)) (sym h) (empty_descends w (chains p))

  place_descends : (p : Place) (o : Option Way) (x : Entry) → Wrote s inc (standing s p) o x → Descends w x (extended s chains (option_and_then (origin_of s inc) o) p)
  place_descends p None x (inl e) = subst (λ y. Descends w y (chains p)) (sym e) (empty_descends w (chains p))
  place_descends p None x (inr e) = subst (λ y. Descends w y (chains p)) (sym e) (before p)
  place_descends p (Some v) x (inl e) = subst (λ y. Descends w y (extended s chains (origin_of s inc v) p)) (sym e) (empty_descends w (extended s chains (origin_of s inc v) p))
  place_descends p (Some v) x (inr h) = way_descends p v x h

-- ---- a history

abbrev Descend : WorldValue → State → (Place → Chain) → Type 0
Descend w s chains = NumbersRise s × ((p : Place) → Descends w (standing s p) (chains p))

descend_each : (w : WorldValue) → EachStep (λ s line t. (g : Place → Chain) → Descend w s g → Descend w t (extend s line t g))
descend_each w =
    each_more (λ s line t. (NumbersRise s → NumbersRise t) × (NumbersRise s → LineWrites s line t))
    (λ s line t. (g : Place → Chain) → Descend w s g → Descend w t (extend s line t g))
    (λ s line t h g k. (h.0 k.0, λ p. place_descends w s line.inc g k.1 p (line_way s line p) (standing t p) ((h.1 k.0).entries p)))
    (each_both (λ s line t. NumbersRise s → NumbersRise t) (λ s line t. NumbersRise s → LineWrites s line t) rises_each writes_each)

opens : (w : WorldValue) (p : Place) → Descends w (standing (opening w) p) (Opened p)
opens w p = if_there (standing (opening w) p) (standing (opening w) p ≡ standing (opening w) p) refl

pub descent : (w : WorldValue) (lines : List Line) → AreStepsOf w lines → DescentLaw w lines
unfolding opened
descent w lines h moment =
    (told_keeps extend (Descend w) (descend_each w) w (opened w) (take moment lines) Opened (first_steps w (opened w) lines moment h) (opening_rises w, opens w)).1
