-- Where no entry of a world is a template, and no capability has ENV or UNCONF, none ever comes.
use Rattle.std.proofs.Common.{◌≡◌, ℕ, List, false, Option, Some, None, Ok, refl, sym, ◌∙◌, bit_and, subst}
use Rattle.std.specs.Prelude.{IsTrue}
use mathlib.Core.Logic.{inl, inr}
use Rattle.std.proofs.lemmas.Bool.{true≢false, false_from_ne_true}
use Rattle.hk_rights.specs.Rights.{ENV, has, all_rights, env_right, unconf_right}
use Rattle.hk_model.specs.declared.names.Name.{Name}
use Rattle.hk_model.specs.declared.names.Inc.{Inc}
use Rattle.hk_model.specs.declared.entries.Cap.{Cap}
use Rattle.hk_model.specs.declared.entries.Param.{Param}
use Rattle.hk_model.specs.declared.entries.Template.TheVariants as template
use Rattle.hk_model.specs.declared.entries.Entry.{Entry}
use Rattle.hk_model.specs.declared.entries.Entry.TheVariants.{Empty, Held, Form}
use Rattle.hk_model.specs.declared.lines.Line.{Line}
use Rattle.hk_model.specs.State.{State, object}
use Rattle.hk_model.specs.Targets.{ENV+A0}
use Rattle.hk_model.specs.Walking.{walk}
use Rattle.hk_model.specs.Merging.{merged, inherited}
use Rattle.hk_model.specs.Rule.{copied}
use Rattle.hk_model.specs.Places.{Place, SlotOf, EntryOf, standing, walk_end}
use Rattle.hk_model.specs.Descent.{Reduces}
use Rattle.hk_model.specs.Ways.{Within, Way, Walked, Stored, Lessened, Merged, Inherited, Copied, CopyOf, Created, Formed, Emptied, Writes, Wrote, line_way}
use Rattle.hk_model.proofs.RightsWithin.{Within-has, Within-and, Within-part, lacks_env}
use Rattle.hk_model.proofs.WalkLemmas.{walk_reduces, copied_reduces, inherited_reduces}
use Rattle.hk_model.proofs.MergeLemmas.{merged_has}
use Rattle.hk_model.proofs.Histories.{LineKnown}

-- nothing, or a capability without ENV and UNCONF
abbrev pub Bare : Entry → Type 0
Bare Empty = Unit {0}
Bare (Held c) = (has c.rights env_right ≡ false) × (has c.rights unconf_right ≡ false)
Bare (Form t) = ⊥

-- nothing else stands anywhere
abbrev pub IsBare : State → Type 0
IsBare s = (p : Place) → Bare (standing s p)

-- who lacks a right hands on none
lacks : (a b right : ℕ) → IsTrue (has all_rights right) → Within a b → has b right ≡ false → has a right ≡ false
lacks a b right is within h = false_from_ne_true (has a right) (λ e. true≢false (sym (Within-has a b right within is e) ∙ h))

-- a reduction and a merge of it are so too
reduces_bare : (from x : Entry) → Bare from → Reduces from x → Bare x
reduces_bare from Empty h r = tt
reduces_bare (Held a) (Held b) h r = (lacks b.rights a.rights env_right refl r.1 h.0, lacks b.rights a.rights unconf_right refl r.1 h.1)
reduces_bare (Held a) (Form b) h r = absurd r
reduces_bare Empty (Held b) h r = absurd r
reduces_bare Empty (Form b) h r = absurd r
reduces_bare (Form t) (Held b) h r = absurd h
reduces_bare (Form t) (Form b) h r = absurd h

merged_bare : (cap : Cap) (of : Name) (form : Param) (step : ℕ) (new : Cap) → merged cap of form step ≡ Ok new → Bare (Held cap) → Bare (Held new)
merged_bare cap of form step new e h = (
  false_from_ne_true (has new.rights env_right) (λ g. true≢false (sym (merged_has cap of form step new env_right e refl refl g) ∙ h.0)),
  false_from_ne_true (has new.rights unconf_right) (λ g. true≢false (sym (merged_has cap of form step new unconf_right e refl refl g) ∙ h.1)),
)

module _ (s : State) (inc : Inc) (bare : IsBare s) where
  -- what a walk leads to
  pub walked_bare : (path : List ℕ) (x : Entry) → walk s inc path ≡ Ok x → Bare x
  walked_bare path x e = reduces_bare (standing s (walk_end s inc path)) x (bare (walk_end s inc path)) (walk_reduces s inc path x e)

  -- what comes by each way: no template is there to make an object or to be merged with, and no ENV to make a template
  way_bare : (w : Way) (x : Entry) → Writes s inc w x → Bare x
  way_bare (Walked path) x h = walked_bare path x h
  way_bare (Stored slot) x h = subst Bare (sym h.0) (bare (SlotOf inc slot))
  way_bare (Lessened slot keep) x h =
      subst Bare (sym h.is)
      (reduces_bare (Held h.cap) (Held (record h.cap { rights = bit_and h.cap.rights keep })) (subst Bare h.held (bare (SlotOf inc slot))) (refl, Within-and h.cap.rights keep))
  way_bare (Merged slot form) x h =
      subst Bare (sym h.is) (merged_bare h.cap (object s h.cap.name).of form h.step h.new h.merges (subst Bare h.held (bare (SlotOf inc slot))))
  way_bare (Inherited procedure index confined) x h =
      subst Bare (sym h)
      (reduces_bare (standing s (EntryOf procedure index)) (inherited confined (standing s (EntryOf procedure index))) (bare (EntryOf procedure index))
      (inherited_reduces confined (standing s (EntryOf procedure index))))
  way_bare (Copied path index) x h =
      subst Bare (sym h.is)
      (reduces_bare (standing s (EntryOf h.cap.name index)) (copied h.cap.rights (standing s (EntryOf h.cap.name index))) (bare (EntryOf h.cap.name index))
      (copied_reduces h.cap.rights (standing s (EntryOf h.cap.name index))))
  way_bare (CopyOf path) x h = subst Bare (sym h.is) (walked_bare path (Held h.cap) h.leads)
  way_bare (Created path) x h = absurd (walked_bare path (Form (template.Create h.of h.give)) h.leads)
  way_bare (Formed path kind) x h =
      absurd (lacks_env h.cap.rights (walked_bare path (Held h.cap) h.leads).0 (Within-part ENV+A0 ENV h.cap.rights refl refl h.allowed))
  way_bare Emptied x h = subst Bare (sym h) tt

  -- what stands at a place afterwards
  wrote_bare : (old x : Entry) (way : Option Way) → Bare old → Wrote s inc old way x → Bare x
  wrote_bare old x None h (inl none) = subst Bare (sym none) tt
  wrote_bare old x None h (inr same) = subst Bare (sym same) h
  wrote_bare old x (Some w) h (inl none) = subst Bare (sym none) tt
  wrote_bare old x (Some w) h (inr comes) = way_bare w x comes

-- so each line keeps it
pub line_bare : (s : State) (line : Line) (t : State) → LineKnown s line t → IsBare s → IsBare t
line_bare s line t known bare p = wrote_bare s line.inc bare (standing s p) (standing t p) (line_way s line p) (bare p) (known.writes.entries p)
