-- Every name that stands anywhere is below the next one.
use Rattle.std.proofs.Common.{◌≡◌, ℕ, zero, suc, ◌+◌, ◌-◌, ◌<◌, ◌≤◌, List, [], ◌∷◌, ◌++◌, length, Bool, true, false, Option, Some, None, Ok, refl, sym, ◌∙◌, ap, arith, cond, map}
use Rattle.std.proofs.Common.{replicate, subst}
use Rattle.std.specs.Prelude.{slice_index_or, is_some}
use mathlib.Core.Logic.{inl, inr}
use Rattle.std.specs.Option.{unwrap_or}
use Rattle.std.specs.List.{AllByRecursion}
use Rattle.std.specs.Map.{lookup}
use Rattle.std.proofs.lemmas.Bool.{true≢false}
use Rattle.hk_model.specs.declared.names.Name.{Name}
use Rattle.hk_model.specs.declared.names.Inc.{Inc}
use Rattle.hk_model.specs.declared.entries.Entry.{Entry}
use Rattle.hk_model.specs.declared.entries.Entry.TheVariants.{Empty, Held, Form}
use Rattle.hk_model.specs.declared.calls.Call.{Call}
use Rattle.hk_model.specs.declared.lines.Line.{Line}
use Rattle.hk_model.specs.declared.objects.Object.{Object}
use Rattle.hk_model.specs.declared.world.Task.{Task}
use Rattle.hk_model.specs.Limits.{slot_limit}
use Rattle.hk_model.specs.State.{State, object, same_name, same_inc, no_object, no_incarnation}
use Rattle.hk_model.specs.Walking.{walk}
use Rattle.hk_model.specs.Places.{Place, SlotOf, EntryOf, standing, is_empty, walk_end}
use Rattle.hk_model.specs.WorldValue.{WorldValue, IsWorld, IsEntry, IsKind, IsTask}
use Rattle.hk_model.specs.Opening.{opening, bases, numbered, object_of, base_of}
use Rattle.hk_model.specs.Targets.{kernel_types}
use Rattle.hk_model.specs.declared.world.Born.{Born}
use Rattle.hk_model.specs.declared.world.Kind.{Kind}
use Rattle.hk_model.specs.declared.world.Kind.TheVariants as kind
use Rattle.hk_model.specs.Lines.{done_call}
use Rattle.hk_model.specs.Ways.{Way, Walked, Stored, Lessened, Merged, Inherited, Copied, CopyOf, Created, Formed, Emptied, line_way, Writes, Wrote, IsWritable}
use Rattle.hk_model.specs.Descent.{Reduces}
use Rattle.hk_model.proofs.Standing.{name_same}
use Rattle.hk_model.proofs.WalkLemmas.{walk_reduces, Reduces-self, copied_reduces, inherited_reduces}
use Rattle.hk_model.proofs.MergeLemmas.{merged_is}
use Rattle.hk_model.proofs.RightsWithin.{Within-and}
use Rattle.hk_model.proofs.CallPlaces.{GoesTo}
use Rattle.hk_model.proofs.LineWays.{LineWrites}
use Rattle.hk_model.proofs.NextNames.{NextName, next_up, next_made}

-- ---- names that stand

-- a capability names an object below this number
abbrev pub IsBelow : ℕ → Entry → Type 0
IsBelow high Empty = Unit {0}
IsBelow high (Held cap) = cap.name.0 < high
IsBelow high (Form form) = Unit {0}

-- all names that stand anywhere were given: of the capabilities, and of the lists in which anything stands
pub record NamesGiven (s : State) : Type 0 where
  pub entries : (p : Place) → IsBelow s.next_name.0 (standing s p)
  pub lists : (name : Name) (index : ℕ) → is_empty (standing s (EntryOf name index)) ≡ false → name.0 < s.next_name.0

pub below_more : (low high : ℕ) (x : Entry) → low ≤ high → IsBelow low x → IsBelow high x
below_more low high Empty h g = tt
below_more low high (Held cap) h g = omega (arith, h, g)
below_more low high (Form form) h g = tt

-- a reduction names no other object
pub below_reduces : (high : ℕ) (from x : Entry) → Reduces from x → IsBelow high from → IsBelow high x
below_reduces high from Empty r h = tt
below_reduces high from (Form form) r h = tt
below_reduces high (Held a) (Held b) r h = let e : b.name.0 ≡ a.name.0 = ap (λ (n : Name). n.0) r.0 in omega (arith, e, h)
below_reduces high Empty (Held b) r h = absurd r
below_reduces high (Form form) (Held b) r h = absurd r

module _ (s : State) (inc : Inc) (given_before : NamesGiven s) where
  -- what a walk gives was given
  pub walk_below : (path : List ℕ) (x : Entry) → walk s inc path ≡ Ok x → IsBelow s.next_name.0 x
  walk_below path x w = below_reduces s.next_name.0 (standing s (walk_end s inc path)) x (walk_reduces s inc path x w) (given_before.entries (walk_end s inc path))

  place_below : (t : State) → s.next_name.0 ≤ t.next_name.0 → (p : Place) (x : Entry) → Reduces (standing s p) x → IsBelow t.next_name.0 x
  place_below t up p x r = below_more s.next_name.0 t.next_name.0 x up (below_reduces s.next_name.0 (standing s p) x r (given_before.entries p))

  -- what each way writes was given, the name of a new object by the line itself
  writes_below : (c : Option Call) (t : State) (p : Place) (v : Way) (x : Entry) → NextName s c t → GoesTo s inc c v p → Writes s inc v x → IsBelow t.next_name.0 x
  writes_below c t p (Walked path) x next goes h = below_more s.next_name.0 t.next_name.0 x (next_up s c t next) (walk_below path x h)
  writes_below c t p (Stored slot) x next goes h =
      place_below t (next_up s c t next) (SlotOf inc slot) x (subst (λ y. Reduces (standing s (SlotOf inc slot)) y) (sym h.0) (Reduces-self (standing s (SlotOf inc slot))))
  writes_below c t p (Lessened slot keep) x next goes h = place_below t (next_up s c t next) (SlotOf inc slot) x (rw (h.held, h.is) (refl, Within-and h.cap.rights keep))
  writes_below c t p (Merged slot form) x next goes h =
      let old : h.cap.name.0 < s.next_name.0 = subst (IsBelow s.next_name.0) h.held (given_before.entries (SlotOf inc slot)) in
      let same : h.new.name.0 ≡ h.cap.name.0 = ap (λ (n : Name). n.0) (merged_is h.cap (object s h.cap.name).of form h.step h.new h.merges).same in
      let up : s.next_name.0 ≤ t.next_name.0 = next_up s c t next in
      let new : h.new.name.0 < t.next_name.0 = omega (arith, old, same, up) in
      subst (IsBelow t.next_name.0) (sym h.is) new
  writes_below c t p (Inherited procedure index confined) x next goes h =
      place_below t (next_up s c t next) (EntryOf procedure index) x
      (subst (λ y. Reduces (standing s (EntryOf procedure index)) y) (sym h) (inherited_reduces confined (standing s (EntryOf procedure index))))
  writes_below c t p (Copied path index) x next goes h =
      place_below t (next_up s c t next) (EntryOf h.cap.name index) x
      (subst (λ y. Reduces (standing s (EntryOf h.cap.name index)) y) (sym h.is) (copied_reduces h.cap.rights (standing s (EntryOf h.cap.name index))))
  writes_below c t p (CopyOf path) x next goes h = subst (IsBelow t.next_name.0) (sym h.is) (next_made s c t next goes.0)
  writes_below c t p (Created path) x next goes h = subst (IsBelow t.next_name.0) (sym h.is) (next_made s c t next goes.0)
  writes_below c t p (Formed path kind) x next goes h = subst (IsBelow t.next_name.0) (sym h.is) tt
  writes_below c t p Emptied x next goes h = subst (IsBelow t.next_name.0) (sym h) tt

-- ---- every line

full_not : (x : Entry) → is_empty x ≡ false → x ≡ Empty → ⊥
full_not x h e = true≢false (sym (ap is_empty e) ∙ h)

entries_given : (s : State) (line : Line) (t : State) → LineWrites s line t → NextName s (done_call line) t → NamesGiven s → (p : Place) → IsBelow t.next_name.0 (standing t p)
entries_given s line t h next g p = by (line_way s line p) refl (h.entries p)
  where
    by : (o : Option Way) → line_way s line p ≡ o → Wrote s line.inc (standing s p) o (standing t p) → IsBelow t.next_name.0 (standing t p)
    by None e (inl none) = subst (IsBelow t.next_name.0) (sym none) tt
    by None e (inr same) = subst (IsBelow t.next_name.0) (sym same) (below_more s.next_name.0 t.next_name.0 (standing s p) (next_up s (done_call line) t next) (g.entries p))
    by (Some v) e (inl none) = subst (IsBelow t.next_name.0) (sym none) tt
    by (Some v) e (inr w) = writes_below s line.inc g (done_call line) t p v (standing t p) next (h.goes p v e) w

lists_given : (s : State) (line : Line) (t : State) → LineWrites s line t → NextName s (done_call line) t → NamesGiven s → (name : Name) (index : ℕ)
    → is_empty (standing t (EntryOf name index)) ≡ false → name.0 < t.next_name.0
lists_given s line t h next g name index full = by (line_way s line (EntryOf name index)) refl (h.entries (EntryOf name index))
  where
    up : s.next_name.0 ≤ t.next_name.0
    up = next_up s (done_call line) t next

    old : name.0 < s.next_name.0 → name.0 < t.next_name.0
    old l = let u = up in omega (arith, l, u)

    written_in : IsWritable s line.inc (done_call line) (EntryOf name index) → name.0 < t.next_name.0
    written_in (inl made) = let a = next_made s (done_call line) t next made.0 in let b : name.0 ≡ s.next_name.0 = ap (λ (n : Name). n.0) made.1 in omega (arith, a, b)
    written_in (inr m) =
        let a : m.cap.name.0 < s.next_name.0 = walk_below s line.inc g m.path (Held m.cap) m.leads in let b : name.0 ≡ m.cap.name.0 = ap (λ (n : Name). n.0) m.same in
        old (omega (arith, a, b))

    by : (o : Option Way) → line_way s line (EntryOf name index) ≡ o → Wrote s line.inc (standing s (EntryOf name index)) o (standing t (EntryOf name index))
        → name.0 < t.next_name.0
    by None e (inl none) = absurd (full_not (standing t (EntryOf name index)) full none)
    by None e (inr same) = old (g.lists name index (ap is_empty (sym same) ∙ full))
    by (Some v) e w = written_in (h.places (EntryOf name index) (ap is_some e))

-- each line keeps it
pub given_line : (s : State) (line : Line) (t : State) → LineWrites s line t → NextName s (done_call line) t → NamesGiven s → NamesGiven t
given_line s line t h next g = record { entries = entries_given s line t h next g; lists = lists_given s line t h next g }

-- ---- the opening

entries_below : (w : WorldValue) (xs : List Entry) → AllByRecursion (IsEntry w) xs → (i : ℕ) → IsBelow (kernel_types + length w.objects) (slice_index_or xs i Empty)
entries_below w [] h i = tt
entries_below w (Empty ∷ xs) h zero = tt
entries_below w (Held cap ∷ xs) h zero = h.0.0
entries_below w (Form form ∷ xs) h zero = tt
entries_below w (x ∷ xs) h (suc i) = entries_below w xs h.1 i

padded_below : (w : WorldValue) (k : ℕ) (xs : List Entry) → AllByRecursion (IsEntry w) xs → (i : ℕ)
    → IsBelow (kernel_types + length w.objects) (slice_index_or (xs ++ replicate k Empty) i Empty)
padded_below w zero [] h i = tt
padded_below w (suc k) [] h zero = tt
padded_below w (suc k) [] h (suc i) = padded_below w k [] h i
padded_below w k (Empty ∷ xs) h zero = tt
padded_below w k (Held cap ∷ xs) h zero = h.0.0
padded_below w k (Form form ∷ xs) h zero = tt
padded_below w k (x ∷ xs) h (suc i) = padded_below w k xs h.1 i

abbrev ListBelow : WorldValue → Object → Type 0
ListBelow w o = (i : ℕ) → IsBelow (kernel_types + length w.objects) (slice_index_or o.entries i Empty)

kind_below : (w : WorldValue) (k : Kind) → IsKind w k → ListBelow w (object_of k)
kind_below w kind.TypeObject h i = tt
kind_below w (kind.Plain of words entries) h i = entries_below w entries h.4 i
kind_below w (kind.Semaphore count) h i = tt
kind_below w (kind.Procedure code params entries) h i = entries_below w entries h.4 i

kinds_below : (w : WorldValue) (bs : List Born) → AllByRecursion (λ (b : Born). IsKind w b.kind) bs → AllByRecursion (ListBelow w) (map (λ (b : Born). object_of b.kind) bs)
kinds_below w [] h = tt
kinds_below w (b ∷ bs) h = (kind_below w b.kind h.0, kinds_below w bs h.1)

types_below : (w : WorldValue) (n : ℕ) (os : List Object) → AllByRecursion (ListBelow w) os → AllByRecursion (ListBelow w) (replicate n no_object ++ os)
types_below w zero os h = h
types_below w (suc n) os h = (λ i. tt, types_below w n os h)

-- what holds of each numbered object holds of the one of this name, and of none
pub numbered_holds : (P : Object → Type 0) → P no_object → (n : ℕ) (os : List Object) → AllByRecursion P os → (name : Name)
    → P (unwrap_or (lookup (same_name name) (numbered {A = Object} {B = Name} (λ k. record { 0 = k }) n os)) no_object)
numbered_holds P none n [] h name = none
numbered_holds P none n (o ∷ os) h name = by (same_name name (record { 0 = n })) (numbered_holds P none (n + 1) os h.1 name)
  where
    by : (b : Bool) → P (unwrap_or (lookup (same_name name) (numbered {A = Object} {B = Name} (λ k. record { 0 = k }) (n + 1) os)) no_object)
        → P (unwrap_or (cond b (Some o) (lookup (same_name name) (numbered {A = Object} {B = Name} (λ k. record { 0 = k }) (n + 1) os))) no_object)
    by true later = h.0
    by false later = later

numbered_below : (n : ℕ) (os : List Object) (name : Name) (index : ℕ)
    → is_empty (slice_index_or (unwrap_or (lookup (same_name name) (numbered {A = Object} {B = Name} (λ k. record { 0 = k }) n os)) no_object).entries index Empty) ≡ false
    → name.0 < n + length os
numbered_below n [] name index full = absurd (true≢false full)
numbered_below n (o ∷ os) name index full = by (same_name name (record { 0 = n })) refl full (numbered_below (n + 1) os name index)
  where
    by : (b : Bool) → same_name name (record { 0 = n }) ≡ b
        → is_empty (slice_index_or (unwrap_or (cond b (Some o) (lookup (same_name name) (numbered {A = Object} {B = Name} (λ k. record { 0 = k }) (n + 1) os)))
        no_object).entries index Empty) ≡ false
        → (is_empty (slice_index_or (unwrap_or (lookup (same_name name) (numbered {A = Object} {B = Name} (λ k. record { 0 = k }) (n + 1) os)) no_object).entries index Empty)
        ≡ false → name.0 < n + 1 + length os)
        → name.0 < n + length (o ∷ os)
    by true e f later = let same : name.0 ≡ n = ap (λ (x : Name). x.0) (name_same name (record { 0 = n }) e) in omega (arith, same)
    by false e f later = let r = later f in omega (arith, r)

bases_below : (w : WorldValue) (n : ℕ) (ts : List Task) → AllByRecursion (IsTask w) ts → (inc : Inc) (slot : ℕ)
    → IsBelow (kernel_types + length w.objects) (slice_index_or (unwrap_or (lookup (same_inc inc) (bases n ts)) no_incarnation).slots slot Empty)
bases_below w n [] h inc slot = tt
bases_below w n (t ∷ ts) h inc slot = by (same_inc inc (record { 0 = n })) (bases_below w (n + 1) ts h.1 inc slot)
  where
    by : (b : Bool) → IsBelow (kernel_types + length w.objects) (slice_index_or (unwrap_or (lookup (same_inc inc) (bases (n + 1) ts)) no_incarnation).slots slot Empty)
        → IsBelow (kernel_types + length w.objects) (slice_index_or
        (unwrap_or (cond b (Some (base_of (record { 0 = n }) t.slots)) (lookup (same_inc inc) (bases (n + 1) ts))) no_incarnation).slots slot Empty)
    by true later = padded_below w (slot_limit - length t.slots) t.slots h.0.2 slot
    by false later = later

pub born_count : (bs : List Born) → length (map (λ (b : Born). object_of b.kind) bs) ≡ length bs
born_count [] = refl
born_count (b ∷ bs) = ap suc (born_count bs)

-- in a world that can be run all names are those of its objects
pub opening_given : (w : WorldValue) → IsWorld w → NamesGiven (opening w)
unfolding opening
opening_given w world = record {
  entries = λ p. by p;
  lists = λ name index full. let r = numbered_below 0
      (replicate kernel_types no_object ++ map (λ (b : Born). object_of b.kind) w.objects) name index full in let e = born_count w.objects in omega (arith, r, e);
}
  where
    by : (p : Place) → IsBelow (kernel_types + length w.objects) (standing (opening w) p)
    by (SlotOf inc slot) = bases_below w 0 w.tasks world.tasks_are inc slot
    by (EntryOf name index) =
        numbered_holds (ListBelow w) (λ i. tt) 0 (replicate kernel_types no_object ++ map (λ (b : Born). object_of b.kind) w.objects)
        (types_below w kernel_types (map (λ (b : Born). object_of b.kind) w.objects) (kinds_below w w.objects world.kinds)) name index
