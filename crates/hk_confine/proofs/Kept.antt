-- What every line keeps while a call lives: with MODIFY or UNCONF its hands hold only what was made under it or is reached,
-- and what was made under it and is in other hands is reached.
use Rattle.std.proofs.Common.{◌≡◌, ℕ, Bool, true, false, Option, Some, None, refl, sym, ◌∙◌, ap, subst}
use Rattle.std.specs.Prelude.{is_some, ◌⊎◌}
use mathlib.Core.Logic.{inl, inr}
use Rattle.std.proofs.lemmas.Bool.{true≢false, cases_Bool}
use Rattle.hk_model.specs.declared.names.Name.{Name}
use Rattle.hk_model.specs.declared.names.Inc.{Inc}
use Rattle.hk_model.specs.declared.entries.Cap.{Cap}
use Rattle.hk_model.specs.declared.entries.Entry.{Entry}
use Rattle.hk_model.specs.declared.entries.Entry.TheVariants.{Empty, Held, Form}
use Rattle.hk_model.specs.declared.lines.Line.{Line}
use Rattle.hk_rights.specs.Rights.{MODIFY, has, modify_right, unconf_right}
use Rattle.hk_model.specs.State.{State, incarnation}
use Rattle.hk_model.specs.Places.{Place, SlotOf, EntryOf, standing}
use Rattle.hk_model.specs.Lines.{done_call, makes_object, enters_call, leaves_call}
use Rattle.hk_model.specs.Ways.{Way, line_way, Wrote, IsWritable}
use Rattle.hk_model.proofs.RightsWithin.{Within-has}
use Rattle.hk_model.proofs.LineWays.{LineWrites}
use Rattle.hk_confine.proofs.Hands.{Holds, Gets, Calls, walk_gets, writes_gets}

-- what the reaches of a moment keep in the lists of that moment
pub record Closed (made : Name → Bool) (M U : Name → Type 0) (s : State) : Type 0 where
  pub entry_modify : (x : Name) (index : ℕ) (cap : Cap) → U x → standing s (EntryOf x index) ≡ Held cap → has cap.rights modify_right ≡ true → M cap.name
  pub entry_unconf : (x : Name) (index : ℕ) (cap : Cap) → U x → standing s (EntryOf x index) ≡ Held cap → has cap.rights unconf_right ≡ true → U cap.name
  pub handed : (x : Name) (index : ℕ) (cap : Cap) → M x → standing s (EntryOf x index) ≡ Held cap → made cap.name ≡ true → M cap.name × U cap.name

-- a capability in the call's hands: with MODIFY it names what was made under the call or is reached, and so with UNCONF
abbrev pub Tame : (Name → Bool) → (Name → Type 0) → (Name → Type 0) → Name → ℕ → Type 0
Tame made M U x rights = (has rights modify_right ≡ true → (made x ≡ true) ⊎ M x) × (has rights unconf_right ≡ true → (made x ≡ true) ⊎ U x)

-- a capability in other hands: what was made under the call is reached
abbrev pub Handed : (Name → Bool) → (Name → Type 0) → (Name → Type 0) → Name → ℕ → Type 0
Handed made M U x rights = made x ≡ true → M x × U x

-- what is kept: of the slots under the call and the lists of what was made there, and of all others
pub record Kept (under : Inc → Bool) (made : Name → Bool) (M U : Name → Type 0) (s : State) : Type 0 where
  pub slots : (i : Inc) (n : ℕ) → under i ≡ true → Holds (Tame made M U) (standing s (SlotOf i n))
  pub lists : (x : Name) (n : ℕ) → made x ≡ true → Holds (Tame made M U) (standing s (EntryOf x n))
  pub other_slots : (i : Inc) (n : ℕ) → under i ≡ false → Holds (Handed made M U) (standing s (SlotOf i n))
  pub other_lists : (x : Name) (n : ℕ) → made x ≡ false → Holds (Handed made M U) (standing s (EntryOf x n))

pub clash : {A : Type 0} (b : Bool) → b ≡ true → b ≡ false → A
clash b p q = absurd (true≢false (sym p ∙ q))

-- what holds of each capability holds of the entry
pub holds_all : (G : Name → ℕ → Type 0) (e : Entry) → ((cap : Cap) → e ≡ Held cap → G cap.name cap.rights) → Holds G e
holds_all G Empty h = tt
holds_all G (Held cap) h = h cap refl
holds_all G (Form form) h = tt

holds_more : (G H : Name → ℕ → Type 0) → ((x : Name) (rights : ℕ) → G x rights → H x rights) → (e : Entry) → Holds G e → Holds H e
holds_more G H f Empty h = tt
holds_more G H f (Held cap) h = f cap.name cap.rights h
holds_more G H f (Form form) h = tt

module _ (under : Inc → Bool) (made : Name → Bool) (M U : Name → Type 0) (s : State) (kept : Kept under made M U s) (closed : Closed made M U s) where
  -- what those under the call can get
  pub tame_gets : (inc : Inc) → under inc ≡ true → Gets s inc (Tame made M U)
  tame_gets inc is = record {
    own = λ slot. kept.slots inc slot is;
    through = λ x by index cap less got h t. (
      λ m. modify x by index cap got h (t.0 m),
      λ m. unconf x by index cap got h (t.1 m),
    );
    weaker = λ x more less got l. (λ m. got.0 (l.0 m), λ m. got.1 (l.1 m));
  }
    where
      listed : (x : Name) (index : ℕ) (cap : Cap) → standing s (EntryOf x index) ≡ Held cap → made x ≡ true → Tame made M U cap.name cap.rights
      listed x index cap h m = subst (Holds (Tame made M U)) h (kept.lists x index m)

      modify : (x : Name) (by index : ℕ) (cap : Cap) → Tame made M U x by → standing s (EntryOf x index) ≡ Held cap
          → (has by unconf_right ≡ true) × (has cap.rights modify_right ≡ true) → (made cap.name ≡ true) ⊎ M cap.name
      modify x by index cap got h t = elim (got.1 t.0) [ inl m ↦ (listed x index cap h m).0 t.1 | inr u ↦ inr (closed.entry_modify x index cap u h t.1) ]

      unconf : (x : Name) (by index : ℕ) (cap : Cap) → Tame made M U x by → standing s (EntryOf x index) ≡ Held cap
          → (has by unconf_right ≡ true) × (has cap.rights unconf_right ≡ true) → (made cap.name ≡ true) ⊎ U cap.name
      unconf x by index cap got h t = elim (got.1 t.0) [ inl m ↦ (listed x index cap h m).1 t.1 | inr u ↦ inr (closed.entry_unconf x index cap u h t.1) ]

  -- what others can get
  pub handed_gets : (inc : Inc) → under inc ≡ false → Gets s inc (Handed made M U)
  handed_gets inc is = record {
    own = λ slot. kept.other_slots inc slot is;
    through = λ x by index cap less got h t m. reached x index cap got h m (cases_Bool (made x));
    weaker = λ x more less got l m. got m;
  }
    where
      other : (x : Name) (index : ℕ) (cap : Cap) → standing s (EntryOf x index) ≡ Held cap → made x ≡ false → Handed made M U cap.name cap.rights
      other x index cap h m = subst (Holds (Handed made M U)) h (kept.other_lists x index m)

      reached : (x : Name) (index : ℕ) (cap : Cap) → (made x ≡ true → M x × U x) → standing s (EntryOf x index) ≡ Held cap → made cap.name ≡ true
          → (made x ≡ true) ⊎ (made x ≡ false) → M cap.name × U cap.name
      reached x index cap got h m (inl is) = closed.handed x index cap (got is).0 h m
      reached x index cap got h m (inr is) = other x index cap h is m

  module _ (M' U' : Name → Type 0) (m_up : (x : Name) → M x → M' x) (u_up : (x : Name) → U x → U' x) (line : Line) (t : State) (later : Closed made M' U' t)
      (writes : LineWrites s line t)
      (calls : (p : Place) (v : Way) → line_way s line p ≡ Some v → Calls s line.inc v)
      (child : enters_call (done_call line) ≡ true → under s.next_inc ≡ under line.inc)
      (maker : makes_object (done_call line) ≡ true → made s.next_name ≡ under line.inc)
      (returns : leaves_call (done_call line) ≡ true → (i : Inc) → (incarnation s line.inc).caller ≡ Some i → under i ≡ under line.inc) where
    -- whose slots the line writes
    writer_same : (i : Inc) (n : ℕ) → IsWritable s line.inc (done_call line) (SlotOf i n) → under i ≡ under line.inc
    writer_same i n (inl e) = ap under e
    writer_same i n (inr (inl e)) = ap under e.1 ∙ child e.0
    writer_same i n (inr (inr e)) = returns e.0 i e.1

    -- what stands at a place was there or is nothing, or it was got and written
    abbrev Found : (Name → ℕ → Type 0) → Place → Type 0
    Found G p = ((standing t p ≡ Empty) ⊎ (standing t p ≡ standing s p)) ⊎ (IsWritable s line.inc (done_call line) p × Holds G (standing t p))

    found : (G : Name → ℕ → Type 0) → Gets s line.inc G → (makes_object (done_call line) ≡ true → (rights : ℕ) → G s.next_name rights) → (p : Place) → Found G p
    found G g fresh p = by (line_way s line p) refl (writes.entries p)
      where
        by : (o : Option Way) → line_way s line p ≡ o → Wrote s line.inc (standing s p) o (standing t p) → Found G p
        by None e h = inl h
        by (Some v) e (inl h) = inl (inl h)
        by (Some v) e (inr h) = inr (writes.places p (ap is_some e), writes_gets s line.inc G g (done_call line) fresh p v (standing t p) (writes.goes p v e) (calls p v e) h)

    -- a list that is written is the new object's, or one that was got with MODIFY
    listed_by : (G : Name → ℕ → Type 0) → Gets s line.inc G → (x : Name) (n : ℕ) → IsWritable s line.inc (done_call line) (EntryOf x n)
        → ((makes_object (done_call line) ≡ true) × (x ≡ s.next_name)) ⊎ ((rights : ℕ) × G x rights × (has rights modify_right ≡ true))
    listed_by G g x n (inl e) = inl e
    listed_by G g x n (inr m) =
        inr (
          m.cap.rights,
          subst (λ (y : Name). G y m.cap.rights) (sym m.same) (walk_gets s line.inc G g m.path (Held m.cap) m.leads),
          Within-has MODIFY m.cap.rights
              modify_right m.allowed refl refl,
        )

    still : (H : Name → ℕ → Type 0) (p : Place) → (standing t p ≡ Empty) ⊎ (standing t p ≡ standing s p) → Holds H (standing s p) → Holds H (standing t p)
    still H p (inl e) h = subst (Holds H) (sym e) tt
    still H p (inr e) h = subst (Holds H) (sym e) h

    -- the reaches grow
    tame_up : (e : Entry) → Holds (Tame made M U) e → Holds (Tame made M' U') e
    tame_up e h = holds_more (Tame made M U) (Tame made M' U') (λ x rights k. (λ m. modify x (k.0 m), λ m. unconf x (k.1 m))) e h
      where
        modify : (x : Name) → (made x ≡ true) ⊎ M x → (made x ≡ true) ⊎ M' x
        modify x (inl a) = inl a
        modify x (inr b) = inr (m_up x b)

        unconf : (x : Name) → (made x ≡ true) ⊎ U x → (made x ≡ true) ⊎ U' x
        unconf x (inl a) = inl a
        unconf x (inr b) = inr (u_up x b)

    handed_up : (e : Entry) → Holds (Handed made M U) e → Holds (Handed made M' U') e
    handed_up e h = holds_more (Handed made M U) (Handed made M' U') (λ x rights k m. (m_up x (k m).0, u_up x (k m).1)) e h

    -- a line under the call
    kept_under : under line.inc ≡ true → Kept under made M' U' t
    kept_under is = record {
      slots = λ i n u. slots_by i n u (got (SlotOf i n));
      lists = λ x n m. lists_by x n m (got (EntryOf x n));
      other_slots = λ i n u. others_by i n u (got (SlotOf i n));
      other_lists = λ x n m. other_lists_by x n m (got (EntryOf x n));
    }
      where
        gets : Gets s line.inc (Tame made M U)
        gets = tame_gets line.inc is

        got : (p : Place) → Found (Tame made M U) p
        got p = found (Tame made M U) gets (λ m rights. (λ _. inl (maker m ∙ is), λ _. inl (maker m ∙ is))) p

        slots_by : (i : Inc) (n : ℕ) → under i ≡ true → Found (Tame made M U) (SlotOf i n) → Holds (Tame made M' U') (standing t (SlotOf i n))
        slots_by i n u (inl h) = still (Tame made M' U') (SlotOf i n) h (tame_up (standing s (SlotOf i n)) (kept.slots i n u))
        slots_by i n u (inr h) = tame_up (standing t (SlotOf i n)) h.1

        lists_by : (x : Name) (n : ℕ) → made x ≡ true → Found (Tame made M U) (EntryOf x n) → Holds (Tame made M' U') (standing t (EntryOf x n))
        lists_by x n m (inl h) = still (Tame made M' U') (EntryOf x n) h (tame_up (standing s (EntryOf x n)) (kept.lists x n m))
        lists_by x n m (inr h) = tame_up (standing t (EntryOf x n)) h.1

        others_by : (i : Inc) (n : ℕ) → under i ≡ false → Found (Tame made M U) (SlotOf i n) → Holds (Handed made M' U') (standing t (SlotOf i n))
        others_by i n u (inl h) = still (Handed made M' U') (SlotOf i n) h (handed_up (standing s (SlotOf i n)) (kept.other_slots i n u))
        others_by i n u (inr h) = clash (under i) (writer_same i n h.0 ∙ is) u

        other_lists_by : (x : Name) (n : ℕ) → made x ≡ false → Found (Tame made M U) (EntryOf x n) → Holds (Handed made M' U') (standing t (EntryOf x n))
        other_lists_by x n m (inl h) = still (Handed made M' U') (EntryOf x n) h (handed_up (standing s (EntryOf x n)) (kept.other_lists x n m))
        other_lists_by x n m (inr h) = by (listed_by (Tame made M U) gets x n h.0)
          where
            reached : (made x ≡ true) ⊎ M x → Holds (Handed made M' U') (standing t (EntryOf x n))
            reached (inl k) = clash (made x) k m
            reached (inr k) = holds_all (Handed made M' U') (standing t (EntryOf x n)) (λ cap e there. later.handed x n cap (m_up x k) e there)

            by : ((makes_object (done_call line) ≡ true) × (x ≡ s.next_name)) ⊎ ((rights : ℕ) × Tame made M U x rights × (has rights modify_right ≡ true))
                → Holds (Handed made M' U') (standing t (EntryOf x n))
            by (inl e) = clash (made x) (ap made e.1 ∙ maker e.0 ∙ is) m
            by (inr e) = reached (e.1.0 e.2)

    -- a line of another
    kept_beside : under line.inc ≡ false → Kept under made M' U' t
    kept_beside is = record {
      slots = λ i n u. slots_by i n u (got (SlotOf i n));
      lists = λ x n m. lists_by x n m (got (EntryOf x n));
      other_slots = λ i n u. others_by i n u (got (SlotOf i n));
      other_lists = λ x n m. other_lists_by x n m (got (EntryOf x n));
    }
      where
        gets : Gets s line.inc (Handed made M U)
        gets = handed_gets line.inc is

        got : (p : Place) → Found (Handed made M U) p
        got p = found (Handed made M U) gets (λ m rights k. clash (made s.next_name) k (maker m ∙ is)) p

        slots_by : (i : Inc) (n : ℕ) → under i ≡ true → Found (Handed made M U) (SlotOf i n) → Holds (Tame made M' U') (standing t (SlotOf i n))
        slots_by i n u (inl h) = still (Tame made M' U') (SlotOf i n) h (tame_up (standing s (SlotOf i n)) (kept.slots i n u))
        slots_by i n u (inr h) = clash (under i) u (writer_same i n h.0 ∙ is)

        lists_by : (x : Name) (n : ℕ) → made x ≡ true → Found (Handed made M U) (EntryOf x n) → Holds (Tame made M' U') (standing t (EntryOf x n))
        lists_by x n m (inl h) = still (Tame made M' U') (EntryOf x n) h (tame_up (standing s (EntryOf x n)) (kept.lists x n m))
        lists_by x n m (inr h) = by (listed_by (Handed made M U) gets x n h.0)
          where
            by : ((makes_object (done_call line) ≡ true) × (x ≡ s.next_name)) ⊎ ((rights : ℕ) × Handed made M U x rights × (has rights modify_right ≡ true))
                → Holds (Tame made M' U') (standing t (EntryOf x n))
            by (inl e) = clash (made x) m (ap made e.1 ∙ maker e.0 ∙ is)
            by (inr e) = holds_all (Tame made M' U') (standing t (EntryOf x n)) (λ cap k. (
              λ r. inr (later.entry_modify x n cap (u_up x (e.1 m).1) k r),
              λ r. inr (later.entry_unconf x n cap (u_up x (e.1 m).1) k r),
            ))

        others_by : (i : Inc) (n : ℕ) → under i ≡ false → Found (Handed made M U) (SlotOf i n) → Holds (Handed made M' U') (standing t (SlotOf i n))
        others_by i n u (inl h) = still (Handed made M' U') (SlotOf i n) h (handed_up (standing s (SlotOf i n)) (kept.other_slots i n u))
        others_by i n u (inr h) = handed_up (standing t (SlotOf i n)) h.1

        other_lists_by : (x : Name) (n : ℕ) → made x ≡ false → Found (Handed made M U) (EntryOf x n) → Holds (Handed made M' U') (standing t (EntryOf x n))
        other_lists_by x n m (inl h) = still (Handed made M' U') (EntryOf x n) h (handed_up (standing s (EntryOf x n)) (kept.other_lists x n m))
        other_lists_by x n m (inr h) = handed_up (standing t (EntryOf x n)) h.1

    -- every line
    pub line_kept : Kept under made M' U' t
    line_kept = by (cases_Bool (under line.inc))
      where
        by : (under line.inc ≡ true) ⊎ (under line.inc ≡ false) → Kept under made M' U' t
        by (inl is) = kept_under is
        by (inr is) = kept_beside is
