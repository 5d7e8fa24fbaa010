-- What an incarnation can get: what its slots hold, what is walked to from there, and what has no special right more.
use Rattle.std.proofs.Common.{◌≡◌, ◌+◌, ℕ, List, [], ◌∷◌, Bool, true, false, Option, Ok, refl, sym, ◌∙◌, cond, bit_and, subst}
use Rattle.std.specs.Prelude.{IfOk, not}
use Rattle.std.proofs.lemmas.Bool.{true≢false, not-false}
use Rattle.hk_model.specs.declared.names.Name.{Name}
use Rattle.hk_model.specs.declared.names.Inc.{Inc}
use Rattle.hk_model.specs.declared.entries.Cap.{Cap}
use Rattle.hk_model.specs.declared.entries.Param.{Param}
use Rattle.hk_model.specs.declared.entries.Entry.{Entry}
use Rattle.hk_model.specs.declared.entries.Entry.TheVariants.{Empty, Held, Form}
use Rattle.hk_model.specs.declared.calls.Call.{Call}
use Rattle.hk_rights.specs.Rights.{MODIFY, ENV, UNCONF, has, all_but, modify_right, env_right, unconf_right}
use Rattle.hk_model.specs.State.{State, object}
use Rattle.hk_model.specs.Refusing.{allowed}
use Rattle.hk_model.specs.Walking.{walk, obtained, reduced_rights, confined_rights}
use Rattle.hk_model.specs.Merging.{inherited}
use Rattle.hk_model.specs.Rule.{copied}
use Rattle.hk_model.specs.Places.{Place, SlotOf, EntryOf, standing}
use Rattle.hk_model.specs.Lines.{makes_object}
use Rattle.hk_model.specs.Ways.{Way, Walked, Stored, Lessened, Merged, Inherited, Copied, CopyOf, Created, Formed, Emptied, LeadsTo, IsMerged, Writes}
use Rattle.hk_model.proofs.TestLemmas.{and_is}
use Rattle.hk_model.proofs.RightsWithin.{HasAll-reduced, masked_off, reduced_needs_unconf}
use Rattle.hk_model.proofs.WalkLemmas.{walk_keeps}
use Rattle.hk_model.proofs.MergeLemmas.{merged_is, merged_has}
use Rattle.hk_model.proofs.CallPlaces.{GoesTo}
use Rattle.hk_rights.proofs.Sets.{has-bit_and_left}

-- MODIFY and UNCONF of the first are of the second
abbrev pub Less : ℕ → ℕ → Type 0
Less less more = (has less modify_right ≡ true → has more modify_right ≡ true) × (has less unconf_right ≡ true → has more unconf_right ≡ true)

-- MODIFY and UNCONF of `less` are of `more`, and `by` has UNCONF then
abbrev pub Through : ℕ → ℕ → ℕ → Type 0
Through by more less =
    (has less modify_right ≡ true → (has by unconf_right ≡ true) × (has more modify_right ≡ true)) ×
    (has less unconf_right ≡ true → (has by unconf_right ≡ true) × (has more unconf_right ≡ true))

-- what holds of a capability's name and rights, of an entry
abbrev pub Holds : (Name → ℕ → Type 0) → Entry → Type 0
Holds G Empty = Unit {0}
Holds G (Held cap) = G cap.name cap.rights
Holds G (Form form) = Unit {0}

-- what holds of all that an incarnation can get
pub record Gets (s : State) (inc : Inc) (G : Name → ℕ → Type 0) : Type 0 where
  pub own : (slot : ℕ) → Holds G (standing s (SlotOf inc slot))
  pub through : (x : Name) (by index : ℕ) (cap : Cap) (less : ℕ) → G x by → standing s (EntryOf x index) ≡ Held cap → Through by cap.rights less → G cap.name less
  pub weaker : (x : Name) (more less : ℕ) → G x more → Less less more → G x less

-- what is obtained through a capability
through_reduced : (by q : ℕ) → Through by q (reduced_rights by q)
through_reduced by q = (
  λ h. (reduced_needs_unconf by q modify_right refl h, HasAll-reduced by q modify_right h),
  λ h. (reduced_needs_unconf by q unconf_right refl h, HasAll-reduced by q unconf_right h),
)

less_and : (rights keep : ℕ) → Less (bit_and rights keep) rights
less_and rights keep = (λ h. has-bit_and_left rights keep modify_right h, λ h. has-bit_and_left rights keep unconf_right h)

-- confinement takes both
pub confined_lacks : (rights right : ℕ) → has (all_but (MODIFY + UNCONF)) right ≡ false → has (confined_rights rights) right ≡ true → ⊥
confined_lacks rights right off h = true≢false (sym h ∙ masked_off rights (all_but (MODIFY + UNCONF)) right off)

-- the path of the incarnation leads to the capability for a procedure, which confines or not
pub record IsCalled (s : State) (inc : Inc) (procedure : Name) (confined : Bool) : Type 0 where
  pub path : List ℕ
  pub cap : Cap
  pub leads : LeadsTo s inc path cap
  pub same : procedure ≡ cap.name
  pub confines : confined ≡ not (has cap.rights unconf_right)

-- what a call inherits comes from a procedure that its caller has called
abbrev pub Calls : State → Inc → Way → Type 0
Calls s inc (Inherited procedure index confined) = IsCalled s inc procedure confined
Calls s inc v = Unit {0}

module _ (s : State) (inc : Inc) (G : Name → ℕ → Type 0) (g : Gets s inc G) where
  hop_gets : (by : Cap) (index step : ℕ) (e : Entry) → standing s (EntryOf by.name index) ≡ e → G by.name by.rights → IfOk (obtained by.rights e step) (Holds G)
  hop_gets by index step Empty h got = tt
  hop_gets by index step (Held cap) h got = g.through by.name by.rights index cap (reduced_rights by.rights cap.rights) got h (through_reduced by.rights cap.rights)
  hop_gets by index step (Form form) h got = and_is (Holds G) (allowed by.rights ENV step) (Ok (Form form)) (λ u k. tt)

  -- what a walk gives
  pub walk_gets : (path : List ℕ) (x : Entry) → walk s inc path ≡ Ok x → Holds G x
  walk_gets [] x e = absurd (cc)
  walk_gets (at ∷ rest) x e =
      (walk_keeps s (λ place y. Holds G y) (λ place cap index step load got. hop_gets cap index step (standing s (EntryOf cap.name index)) refl got) inc at rest x (g.own at) e).1

  copied_gets : (by : Cap) (index : ℕ) (e : Entry) → standing s (EntryOf by.name index) ≡ e → G by.name by.rights → Holds G (copied by.rights e)
  copied_gets by index Empty h got = tt
  copied_gets by index (Form form) h got = kept (has by.rights env_right)
    where
      kept : (b : Bool) → Holds G (cond b (Form form) Empty)
      kept true = tt
      kept false = tt
  copied_gets by index (Held cap) h got = kept (has (reduced_rights by.rights cap.rights) env_right)
    where
      kept : (b : Bool) → Holds G (cond b (Held (record cap { rights = reduced_rights by.rights cap.rights })) Empty)
      kept true = g.through by.name by.rights index cap (reduced_rights by.rights cap.rights) got h (through_reduced by.rights cap.rights)
      kept false = tt

  inherited_gets : (by : Cap) (index : ℕ) (e : Entry) → standing s (EntryOf by.name index) ≡ e → G by.name by.rights → (b : Bool) → not (has by.rights unconf_right) ≡ b
      → Holds G (inherited b e)
  inherited_gets by index Empty h got true q = tt
  inherited_gets by index Empty h got false q = tt
  inherited_gets by index (Form form) h got true q = tt
  inherited_gets by index (Form form) h got false q = tt
  inherited_gets by index (Held cap) h got true q =
      g.through by.name by.rights index cap (confined_rights cap.rights) got h
      (λ k. absurd (confined_lacks cap.rights modify_right refl k), λ k. absurd (confined_lacks cap.rights unconf_right refl k))
  inherited_gets by index (Held cap) h got false q =
      g.through by.name by.rights index cap cap.rights got h (λ k. (not-false (has by.rights unconf_right) q, k), λ k. (not-false (has by.rights unconf_right) q, k))

  held_gets : (slot : ℕ) (cap : Cap) → standing s (SlotOf inc slot) ≡ Held cap → G cap.name cap.rights
  held_gets slot cap h = subst (Holds G) h (g.own slot)

  merged_gets : (slot : ℕ) (form : Param) (x : Entry) → IsMerged s (standing s (SlotOf inc slot)) form x → Holds G x
  merged_gets slot form x h =
      let old : G h.cap.name h.cap.rights = held_gets slot h.cap h.held in
      let less : Less h.new.rights h.cap.rights = (
        λ k. merged_has h.cap (object s h.cap.name).of form h.step h.new modify_right h.merges refl refl k,
        λ k. merged_has h.cap (object s h.cap.name).of form h.step h.new
            unconf_right h.merges refl refl k,
      ) in
      let same : h.new.name ≡ h.cap.name = (merged_is h.cap (object s h.cap.name).of form h.step h.new h.merges).same in
      subst (Holds G) (sym h.is) (subst (λ (n : Name). G n h.new.rights) (sym same) (g.weaker h.cap.name h.cap.rights h.new.rights old less))

  -- what each way writes
  pub writes_gets : (c : Option Call) → (makes_object c ≡ true → (rights : ℕ) → G s.next_name rights) → (p : Place) (v : Way) (x : Entry) → GoesTo s inc c v p → Calls s inc v
      → Writes s inc v x → Holds G x
  writes_gets c fresh p (Walked path) x goes calls h = walk_gets path x h
  writes_gets c fresh p (Stored slot) x goes calls h = subst (Holds G) (sym h.0) (g.own slot)
  writes_gets c fresh p (Lessened slot keep) x goes calls h =
      subst (Holds G) (sym h.is) (g.weaker h.cap.name h.cap.rights (bit_and h.cap.rights keep) (held_gets slot h.cap h.held) (less_and h.cap.rights keep))
  writes_gets c fresh p (Merged slot form) x goes calls h = merged_gets slot form x h
  writes_gets c fresh p (Inherited procedure index confined) x goes calls h =
      let got : G calls.cap.name calls.cap.rights = walk_gets calls.path (Held calls.cap) calls.leads in
      let there : Holds G (inherited confined (standing s (EntryOf calls.cap.name index))) =
      inherited_gets calls.cap index (standing s (EntryOf calls.cap.name index)) refl got confined (sym calls.confines) in
      subst (Holds G) (sym h) (subst (λ (n : Name). Holds G (inherited confined (standing s (EntryOf n index)))) (sym calls.same) there)
  writes_gets c fresh p (Copied path index) x goes calls h =
      subst (Holds G) (sym h.is) (copied_gets h.cap index (standing s (EntryOf h.cap.name index)) refl (walk_gets path (Held h.cap) h.leads))
  writes_gets c fresh p (CopyOf path) x goes calls h = subst (Holds G) (sym h.is) (fresh goes.0 h.cap.rights)
  writes_gets c fresh p (Created path) x goes calls h = subst (Holds G) (sym h.is) (fresh goes.0 h.give)
  writes_gets c fresh p (Formed path kind) x goes calls h = subst (Holds G) (sym h.is) tt
  writes_gets c fresh p Emptied x goes calls h = subst (Holds G) (sym h) tt
