-- What is marked lacks ENV, and stands in slots under the call.
use Rattle.std.proofs.Common.{◌≡◌, ℕ, List, [], ◌∷◌, Bool, true, false, Option, Some, None, Ok, refl, sym, ◌∙◌, ap, bit_and, subst}
use Rattle.std.specs.Prelude.{not, ◌||◌}
use mathlib.Core.Logic.{inl, inr}
use Rattle.std.specs.List.{list_any}
use Rattle.std.proofs.lemmas.Bool.{true≢false, false≢true}
use Rattle.hk_model.specs.declared.names.Name.{Name}
use Rattle.hk_model.specs.declared.names.Inc.{Inc}
use Rattle.hk_model.specs.declared.entries.Entry.{Entry}
use Rattle.hk_model.specs.declared.entries.Entry.TheVariants.{Empty, Held, Form}
use Rattle.hk_model.specs.declared.calls.Call.{Call}
use Rattle.hk_model.specs.declared.lines.Line.{Line}
use Rattle.hk_model.specs.State.{State, object}
use Rattle.hk_model.specs.Walking.{walk}
use Rattle.hk_model.specs.Places.{Place, SlotOf, EntryOf, standing, is_empty, object_named, passed_from, named_by}
use Rattle.hk_model.specs.Lines.{done_call, enters_call}
use Rattle.hk_model.specs.Ways.{Way, Walked, Stored, Lessened, Merged, Inherited, Copied, CopyOf, Created, Formed, Emptied, line_way, Writes, Wrote}
use Rattle.std.proofs.lemmas.Bool.{and_parts, false_from_ne_true}
use Rattle.hk_model.specs.Under.{is_one_of, under_by}
use Rattle.hk_model.specs.Marks.{passes_mark, carries, marked_by, mark}
use Rattle.hk_model.proofs.RightsWithin.{Within-and}
use Rattle.hk_model.proofs.CallPlaces.{GoesTo, SlotIn}
use Rattle.hk_model.proofs.LineWays.{LineWrites}
use Rattle.hk_model.proofs.UnderLemmas.{under_stays, entered_is_under}
use Rattle.hk_model.proofs.NoEnv.{NoEnv, has_no_env, reduces_no_env, merged_no_env, walk_no_env, copied_no_env}

-- a capability without ENV in a slot of one of these incarnations
abbrev pub IsMarked : List Inc → State → Place → Type 0
IsMarked us s (SlotOf i n) = (is_one_of i us ≡ true) × NoEnv (standing s (SlotOf i n)) × (is_empty (standing s (SlotOf i n)) ≡ false)
IsMarked us s (EntryOf name index) = ⊥

abbrev pub AreMarked : List Inc → State → (Place → Bool) → Type 0
AreMarked us s marks = (p : Place) → marks p ≡ true → IsMarked us s p

or_first : (a b : Bool) → b ≡ false → (a || b) ≡ true → a ≡ true
or_first true b h g = refl
or_first false b h g = absurd (true≢false (sym g ∙ h))

stands : (x : Entry) → not (is_empty x) ≡ true → is_empty x ≡ false
stands Empty h = absurd (cc)
stands (Held c) h = refl
stands (Form t) h = refl

not_empty_entry : (x : Entry) → is_empty x ≡ false → x ≡ Empty → ⊥
not_empty_entry x h e = true≢false (sym (ap is_empty e) ∙ h)

-- ---- what marks

module _ (us : List Inc) (s : State) (inc : Inc) (marks : Place → Bool) (m : AreMarked us s marks) where
  -- a walk that passes a marked place begins at one, since no list has any
  lists_unmarked : (name : Name) (index : ℕ) (rest : List ℕ) → list_any marks (passed_from s (EntryOf name index) rest) ≡ false
  lists_unmarked name index [] = rw (false_from_ne_true (marks (EntryOf name index)) (m (EntryOf name index))) refl
  lists_unmarked name index (at ∷ rest) =
      rw (false_from_ne_true (marks (EntryOf name index)) (m (EntryOf name index))) (lists_unmarked (object_named (standing s (EntryOf name index))) at rest)

  passed_first : (at : ℕ) (rest : List ℕ) → passes_mark s inc marks (at ∷ rest) ≡ true → marks (SlotOf inc at) ≡ true
  passed_first at [] h = or_first (marks (SlotOf inc at)) false refl h
  passed_first at (i ∷ rest) h =
      or_first (marks (SlotOf inc at)) (list_any marks (passed_from s (EntryOf (object_named (standing s (SlotOf inc at))) i) rest))
      (lists_unmarked (object_named (standing s (SlotOf inc at))) i rest) h

  walk_marked : (path : List ℕ) (x : Entry) → passes_mark s inc marks path ≡ true → walk s inc path ≡ Ok x → (is_one_of inc us ≡ true) × NoEnv x
  walk_marked [] x k h = absurd (cc)
  walk_marked (at ∷ rest) x k h = let g = m (SlotOf inc at) (passed_first at rest k) in (g.0, walk_no_env s inc at rest x g.1 h)

  copy_marked : (path : List ℕ) (index : ℕ) → carries s inc marks (Copied path index) ≡ true → passes_mark s inc marks path ≡ true
  copy_marked path index k =
      or_first (passes_mark s inc marks path) (marks (EntryOf (named_by s inc path) index))
      (false_from_ne_true (marks (EntryOf (named_by s inc path) index)) (m (EntryOf (named_by s inc path) index))) k

  -- what a way that marks has written, in an incarnation under the call, has no ENV
  writes_marked : (v : Way) (x : Entry) → carries s inc marks v ≡ true → Writes s inc v x → (is_one_of inc us ≡ true) × NoEnv x
  writes_marked (Walked path) x k h = walk_marked path x k h
  writes_marked (Stored slot) x k h = let g = m (SlotOf inc slot) k in (g.0, subst NoEnv (sym h.0) g.1)
  writes_marked (Lessened slot keep) x k h =
      let g = m (SlotOf inc slot) k in (
        g.0,
        subst NoEnv (sym h.is) (reduces_no_env (Held h.cap) (Held (record h.cap { rights = bit_and h.cap.rights keep })) (subst NoEnv h.held g.1)
            (refl, Within-and h.cap.rights keep)),
      )
  writes_marked (Merged slot form) x k h =
      let g = m (SlotOf inc slot) k in
      (g.0, subst NoEnv (sym h.is) (merged_no_env h.cap (object s h.cap.name).of form h.step h.new h.merges (subst NoEnv h.held g.1)))
  writes_marked (Copied path index) x k h =
      let g = walk_marked path (Held h.cap) (copy_marked path index k) h.leads in
      (g.0, subst NoEnv (sym (h.is ∙ copied_no_env h.cap (standing s (EntryOf h.cap.name index)) g.1)) tt)
  writes_marked (CopyOf path) x k h = let g = walk_marked path (Held h.cap) k h.leads in (g.0, subst NoEnv (sym h.is) g.1)
  writes_marked (Inherited procedure index confined) x k h = absurd (false≢true k)
  writes_marked (Created path) x k h = absurd (false≢true k)
  writes_marked (Formed path kind) x k h = absurd (false≢true k)
  writes_marked Emptied x k h = absurd (false≢true k)

  -- ---- where it is then

  abbrev pub Lands : List Inc → Place → Type 0
  Lands more (SlotOf i n) = is_one_of i more ≡ true
  Lands more (EntryOf name index) = ⊥

  in_slot : (more : List Inc) (j : Inc) (p : Place) → is_one_of j more ≡ true → SlotIn j p → Lands more p
  in_slot more j (SlotOf i n) h e = subst (λ z. is_one_of z more ≡ true) (sym e) h
  in_slot more j (EntryOf name index) h e = e

  -- it goes to a slot of the same incarnation, or of one that it has entered
  lands : (c : Option Call) (more : List Inc) → (is_one_of inc us ≡ true → is_one_of inc more ≡ true)
      → (enters_call c ≡ true → is_one_of inc us ≡ true → is_one_of s.next_inc more ≡ true)
      → (v : Way) (x : Entry) (p : Place) → carries s inc marks v ≡ true → Writes s inc v x → is_empty x ≡ false → GoesTo s inc c v p → Lands more p
  lands c more own new (Walked path) x p k h full goes = in_slot more inc p (own (writes_marked (Walked path) x k h).0) goes
  lands c more own new (Stored slot) x p k h full goes = absurd (has_no_env x (writes_marked (Stored slot) x k h).1 h.1)
  lands c more own new (Lessened slot keep) x p k h full goes = in_slot more inc p (own (writes_marked (Lessened slot keep) x k h).0) goes
  lands c more own new (Merged slot form) x p k h full (inl goes) = in_slot more inc p (own (writes_marked (Merged slot form) x k h).0) goes
  lands c more own new (Merged slot form) x p k h full (inr goes) = in_slot more s.next_inc p (new goes.0 (writes_marked (Merged slot form) x k h).0) goes.1
  lands c more own new (Copied path index) x p k h full goes =
      let g = walk_marked path (Held h.cap) (copy_marked path index k) h.leads in
      absurd (not_empty_entry x full (h.is ∙ copied_no_env h.cap (standing s (EntryOf h.cap.name index)) g.1))
  lands c more own new (CopyOf path) x p k h full goes = in_slot more inc p (own (writes_marked (CopyOf path) x k h).0) goes.1
  lands c more own new (Inherited procedure index confined) x p k h full goes = absurd (false≢true k)
  lands c more own new (Created path) x p k h full goes = absurd (false≢true k)
  lands c more own new (Formed path kind) x p k h full goes = absurd (false≢true k)
  lands c more own new Emptied x p k h full goes = absurd (false≢true k)

-- ---- one line

landed : (us : List Inc) (s : State) (inc : Inc) (marks : Place → Bool) (m : AreMarked us s marks) (more : List Inc) (t : State) (p : Place) → Lands us s inc marks m more p
    → NoEnv (standing t p) → is_empty (standing t p) ≡ false → IsMarked more t p
landed us s inc marks m more t (SlotOf i n) h g f = (h, g, f)
landed us s inc marks m more t (EntryOf name index) h g f = h

-- a mark that stays where it was
stays : (us more : List Inc) (s t : State) (p : Place) → ((i : Inc) → is_one_of i us ≡ true → is_one_of i more ≡ true) → IsMarked us s p → standing t p ≡ standing s p
    → IsMarked more t p
stays us more s t (SlotOf i n) mono h e = (mono i h.0, subst NoEnv (sym e) h.1, ap is_empty e ∙ h.2)
stays us more s t (EntryOf name index) mono h e = h

pub line_marks : (s : State) (line : Line) (t : State) (marks : Place → Bool) (us : List Inc) → LineWrites s line t → AreMarked us s marks
    → AreMarked (under_by s line t us) t (mark s line t marks)
line_marks s line t marks us h m p k =
    let both = and_parts (not (is_empty (standing t p))) (marked_by s line.inc marks (line_way s line p) p) k in
    by (line_way s line p) refl (h.entries p) (stands (standing t p) both.0) both.1
  where
    by : (o : Option Way) → line_way s line p ≡ o → Wrote s line.inc (standing s p) o (standing t p) → is_empty (standing t p) ≡ false → marked_by s line.inc marks o p ≡ true
        → IsMarked (under_by s line t us) t p
    by None e (inl none) full marked = absurd (not_empty_entry (standing t p) full none)
    by (Some v) e (inl none) full marked = absurd (not_empty_entry (standing t p) full none)
    by None e (inr same) full marked = stays us (under_by s line t us) s t p (under_stays s line t us) (m p marked) same
    by (Some v) e (inr writes) full marked =
        landed us s line.inc marks m (under_by s line t us) t p
        (lands us s line.inc marks m (done_call line) (under_by s line t us) (under_stays s line t us line.inc) (entered_is_under s line t us) v (standing t p) p marked
        writes full (h.goes p v e))
        (writes_marked us s line.inc marks m v (standing t p) marked writes).1
        full
