-- What every state of a history keeps: what stands in the slots of a process, and in the list of an object, follows from the
-- opening.
use Rattle.std.proofs.Common.{◌≡◌, ℕ, ◌+◌, ◌<◌, ◌≤◌, List, length, true, false, Option, Some, None, refl, sym, ◌∙◌, ap, arith, cond, subst}
use Rattle.std.specs.Prelude.{IsTrue, IsSome, is_some, nat_lt, ◌⊎◌, slice_get, slice_index_or}
use mathlib.Core.Logic.{inl, inr}
use Rattle.std.specs.Option.{unwrap_or, option_and_then}
use Rattle.std.specs.Map.{lookup}
use Rattle.std.proofs.lemmas.Bool.Decides.{nat_tests}
use Rattle.hk_model.specs.declared.names.Name.{Name}
use Rattle.hk_model.specs.declared.names.Inc.{Inc}
use Rattle.hk_model.specs.declared.names.Proc.{Proc}
use Rattle.hk_model.specs.declared.entries.Template.TheVariants as template
use Rattle.hk_model.specs.declared.entries.Entry.{Entry}
use Rattle.hk_model.specs.declared.entries.Entry.TheVariants.{Empty, Held, Form}
use Rattle.hk_model.specs.declared.calls.Call.{Call}
use Rattle.hk_model.specs.declared.lines.Line.{Line}
use Rattle.hk_model.specs.declared.objects.Incarnation.{Incarnation}
use Rattle.hk_rights.specs.Rights.{has, all_rights}
use Rattle.hk_model.specs.Effects.{IsSameKind}
use Rattle.hk_model.specs.WorldValue.{WorldValue, IsObject}
use Rattle.hk_model.specs.Opening.{opening}
use Rattle.hk_model.specs.State.{State, object, incarnation, same_inc, no_incarnation}
use Rattle.hk_model.specs.Targets.{PROCEDURE, kernel_types, is_of_type}
use Rattle.hk_model.specs.Places.{Place, SlotOf, EntryOf, standing, is_empty}
use Rattle.hk_model.specs.Lines.{done_call, changes_path, changed}
use Rattle.hk_model.specs.Under.{is_live}
use Rattle.hk_model.specs.Ways.{Way, way, line_way, Wrote, IsWritable, IsModified}
use Rattle.hk_model.proofs.Standing.{name_same}
use Rattle.hk_model.proofs.NumbersRise.{NumbersRise}
use Rattle.hk_model.proofs.NextNames.{next_up}
use Rattle.hk_model.proofs.NamesGiven.{IsBelow, NamesGiven}
use Rattle.hk_model.proofs.LineWays.{changed_modifies}
use Rattle.hk_model.proofs.Activations.{look_up, Activation, activation, activations_in, currents}
use Rattle.hk_model.proofs.ActivationLists.{activation_live, activations_apart, halted_found}
use Rattle.hk_model.proofs.Stacks.{remove_fewer, found_last, caller_found}
use Rattle.hk_model.proofs.Turns.{Turn, Still, Enter, Leave, Halt}
use Rattle.hk_model.proofs.Histories.{Sound, LineKnown}
use Rattle.hk_bound.specs.Taking.{Thing, MadeBy, Holder, Slots, ListOf, Has, Right, Follows, type_of}
use Rattle.hk_bound.specs.Bounds.{IsInBound}
use Rattle.hk_model.proofs.CallShown.{ShownIf, IsOwn}
use Rattle.hk_bound.proofs.WayShown.{ShownBy, way_shown, ShowsChange, change_shown}
use Rattle.hk_bound.proofs.OpeningStays.{KeepsKind, Steady}
use Rattle.hk_model.specs.Keeping.{is_opening}
use Rattle.std.proofs.lemmas.Bool.{true≢false}
use Rattle.hk_bound.proofs.Bounded.{thing, thing_made, Bounds, slot_bounds, list_bounds, in_bound}

pub record Kept (w : WorldValue) (own : Name → Proc) (s : State) : Type 0 where
  pub slots : (i : Inc) (n : ℕ) (x : Activation) → look_up i (activations_in s.incarnations) ≡ Some x → Bounds w own (Slots x.proc) (standing s (SlotOf i n))
  pub lists : (name : Name) (n : ℕ) → Bounds w own (ListOf (thing w own name)) (standing s (EntryOf name n))
  pub procs : (i : Inc) (x : Activation) → look_up i (activations_in s.incarnations) ≡ Some x → x.proc.0 < length w.tasks
  -- the objects of the opening keep their kinds, and no procedure is made
  pub kinds : (name : Name) → IsObject w name → IsSameKind (object (opening w) name) (object s name)
  pub plain : (name : Name) → kernel_types + length w.objects ≤ name.0 → is_of_type PROCEDURE (object s name).of ≡ false
  pub low : kernel_types + length w.objects ≤ s.next_name.0
  pub first : s.first_new.0 ≡ kernel_types + length w.objects

-- ---- the next name has a maker

-- what has no name yet is this process's
abbrev pub next_own : State → Proc → (Name → Proc) → Name → Proc
next_own s p own name = cond (nat_lt name.0 s.next_name.0) (own name) p

module _ (w : WorldValue) (s : State) (p : Proc) (own : Name → Proc) where
  same_thing : (name : Name) → name.0 < s.next_name.0 → thing w (next_own s p own) name ≡ thing w own name
  same_thing name h = let e : nat_lt name.0 s.next_name.0 ≡ true = grind (arith, nat_tests) in rw e refl

  pub next_thing : kernel_types + length w.objects ≤ s.next_name.0 → thing w (next_own s p own) s.next_name ≡ MadeBy p
  next_thing h = let e : nat_lt s.next_name.0 s.next_name.0 ≡ false = grind (arith, nat_tests) in thing_made w (next_own s p own) s.next_name h ∙ rw e refl

  same_bounds : (h : Holder) (e : Entry) → IsBelow s.next_name.0 e → Bounds w own h e → Bounds w (next_own s p own) h e
  same_bounds h Empty below b = tt
  same_bounds h (Held cap) below b =
      subst (λ (t : Thing). Follows w (Has h t) × ((n : ℕ) → IsTrue (has all_rights n) → IsTrue (has cap.rights n) → Follows w (Right h t n))) (sym (same_thing cap.name below)) b
  same_bounds h (Form (template.Amplify None check give)) below b = tt
  same_bounds h (Form (template.Amplify (Some type) check give)) below b = b
  same_bounds h (Form (template.Create of give)) below b = tt

  pub next_kept : NamesGiven s → Kept w own s → Kept w (next_own s p own) s
  next_kept given kept = record {
    slots = λ i n x h. same_bounds (Slots x.proc) (standing s (SlotOf i n)) (given.entries (SlotOf i n)) (kept.slots i n x h);
    lists = λ name n. by name n (standing s (EntryOf name n)) refl;
    procs = kept.procs;
    kinds = kept.kinds;
    plain = kept.plain;
    low = kept.low;
    first = kept.first;
  }
    where
      full : (name : Name) (n : ℕ) → is_empty (standing s (EntryOf name n)) ≡ false
          → Bounds w (next_own s p own) (ListOf (thing w (next_own s p own) name)) (standing s (EntryOf name n))
      full name n f =
          subst (λ (t : Thing). Bounds w (next_own s p own) (ListOf t) (standing s (EntryOf name n))) (sym (same_thing name (given.lists name n f)))
          (same_bounds (ListOf (thing w own name)) (standing s (EntryOf name n)) (given.entries (EntryOf name n)) (kept.lists name n))

      by : (name : Name) (n : ℕ) (e : Entry) → standing s (EntryOf name n) ≡ e
          → Bounds w (next_own s p own) (ListOf (thing w (next_own s p own) name)) (standing s (EntryOf name n))
      by name n Empty e = subst (Bounds w (next_own s p own) (ListOf (thing w (next_own s p own) name))) (sym e) tt
      by name n (Held cap) e = full name n (ap is_empty e)
      by name n (Form form) e = full name n (ap is_empty e)

-- ---- who lives after a line

abbrev pub WasThere : State → Line → Inc → Activation → Type 0
WasThere s line i x =
    (look_up i (activations_in s.incarnations) ≡ Some x) ⊎
    ((i ≡ s.next_inc) × (x.proc ≡ line.proc) × IsTrue (is_live s line.inc) × (slice_get (currents s) line.proc.0 ≡ Some line.inc))

lived_before : (s : State) (line : Line) (t : State) → NumbersRise s → Turn s line t → (i : Inc) (x : Activation) → look_up i (activations_in t.incarnations) ≡ Some x
    → WasThere s line i x
lived_before s line t n (Still q e) i x h = inl (subst (λ fs. look_up i fs ≡ Some x) q.activations h)
lived_before s line t n (Leave e) i x h = inl (remove_fewer s line.inc n i x (subst (λ fs. look_up i fs ≡ Some x) e.activations h))
lived_before s line t n (Halt e) i x h =
    inl (halted_found (activations_in s.incarnations) line.proc.0 i x (activations_apart s n) (subst (λ fs. look_up i fs ≡ Some x) e.activations h)).0
lived_before s line t n (Enter e) i x h =
    by (found_last (activations_in s.incarnations) s.next_inc i (record { proc = line.proc; caller = Some line.inc }) x (subst (λ fs. look_up i fs ≡ Some x) e.activations h))
  where
    by : (look_up i (activations_in s.incarnations) ≡ Some x) ⊎ ((i ≡ s.next_inc) × (record { proc = line.proc; caller = Some line.inc } ≡ x)) → WasThere s line i x
    by (inl a) = inl a
    by (inr b) = inr (b.0, sym (ap (λ (z : Activation). z.proc) b.1), e.live, e.now)

same_proc : (a b : Proc) → a.0 ≡ b.0 → a ≡ b
same_proc a b e = ap (λ (n : ℕ). let q : Proc = record { 0 = n } in q) e

some_same : {a b : Activation} → ◌≡◌ {A = Option Activation} (Some a) (Some b) → a ≡ b
some_same e = cc

-- ---- one line

module _ (w : WorldValue) (own : Name → Proc) (s : State) (line : Line) (t : State) (kept : Kept w own s) (sound : Sound s)
    (typed : (name : Name) → IsObject w (type_of w name)) (shown : ShownIf s line.inc (done_call line)) where
  -- the slots of an incarnation that is of this process where it lives
  slots_of : (i : Inc) (n : ℕ) (q : Proc) → ((x : Activation) → look_up i (activations_in s.incarnations) ≡ Some x → x.proc ≡ q) → Bounds w own (Slots q) (standing s (SlotOf i n))
  slots_of i n q h = by (lookup (same_inc i) s.incarnations) refl
    where
      by : (o : Option Incarnation) → lookup (same_inc i) s.incarnations ≡ o → Bounds w own (Slots q) (standing s (SlotOf i n))
      by None e = subst (λ (o : Option Incarnation). Bounds w own (Slots q) (slice_index_or (unwrap_or o no_incarnation).slots n Empty)) (sym e) tt
      by (Some x) e =
          let there = activation_live s.incarnations i (ap is_some e) in
          subst (λ (r : Proc). Bounds w own (Slots r) (standing s (SlotOf i n))) (h (activation (incarnation s i)) there) (kept.slots i n (activation (incarnation s i)) there)

  module _ (now : slice_get (currents s) line.proc.0 ≡ Some line.inc) where
    own_proc : (x : Activation) → look_up line.inc (activations_in s.incarnations) ≡ Some x → x.proc ≡ line.proc
    own_proc x h = same_proc x.proc line.proc (sound.stacked.own line.proc.0 line.inc x now h)

    own_slots : (n : ℕ) → Bounds w own (Slots line.proc) (standing s (SlotOf line.inc n))
    own_slots n = slots_of line.inc n line.proc own_proc

    runs : IsTrue (is_live s line.inc) → line.proc.0 < length w.tasks
    runs lives =
        let there = activation_live s.incarnations line.inc lives in
        subst (λ (q : Proc). q.0 < length w.tasks) (own_proc (activation (incarnation s line.inc)) there) (kept.procs line.inc (activation (incarnation s line.inc)) there)

    -- a line writes into slots of its own process
    writer_proc : (i : Inc) (n : ℕ) (x : Activation) → IsWritable s line.inc (done_call line) (SlotOf i n) → WasThere s line i x → x.proc ≡ line.proc
    writer_proc i n x place (inr b) = b.1
    writer_proc i n x (inl e) (inl a) = own_proc x (subst (λ (j : Inc). look_up j (activations_in s.incarnations) ≡ Some x) e a)
    writer_proc i n x (inr (inl e)) (inl a) =
        let below = sound.stacked.below i x a in let same : i.0 ≡ s.next_inc.0 = ap (λ (j : Inc). j.0) e.1 in absurd (omega (arith, below, same))
    writer_proc i n x (inr (inr e)) (inl a) =
        let there = caller_found s line.inc i e.1 in
        same_proc x.proc line.proc (sound.stacked.kin line.inc i (activation (incarnation s line.inc)) x there e.1 a ∙ ap (λ (q : Proc). q.0)
        (own_proc (activation (incarnation s line.inc)) there))

    -- what it changes is in the bound of its process
    pub change_in_bound : (known : LineKnown s line t) (name : Name) → IsObject w name → changed s line ≡ Some name → IsInBound w line.proc name
    change_in_bound known name old e =
        let m : IsModified s line.inc (done_call line) name = changed_modifies s line t name known.writes e in
        subst (λ (x : Name). IsInBound w line.proc x) (sym m.same)
        (in_bound w own s line.inc line.proc own_slots kept.lists kept.kinds kept.plain typed m.path m.cap m.leads (subst (IsObject w) m.same old) m.allowed
        (by (done_call line) shown m.path m.changes))
      where
        by : (o : Option Call) → ShownIf s line.inc o → (path : List ℕ) → changes_path o ≡ Some path → ShowsChange s line.inc path
        by None h path f = absurd (cc)
        by (Some c) h path f = change_shown s line.inc c h path f

  is_done : (p : Place) (v : Way) → line_way s line p ≡ Some v → IsSome (done_call line)
  is_done p v e = by (done_call line) e
    where
      by : (o : Option Call) → option_and_then (λ c. way s line.inc c p) o ≡ Some v → IsSome o
      by None f = absurd (cc)
      by (Some c) f = refl

  shown_by : (p : Place) (v : Way) → line_way s line p ≡ Some v → ShownBy s line.inc v p
  shown_by p v e = by (done_call line) shown e
    where
      by : (o : Option Call) → ShownIf s line.inc o → option_and_then (λ c. way s line.inc c p) o ≡ Some v → ShownBy s line.inc v p
      by None h f = absurd (cc)
      by (Some c) h f = way_shown s line.inc c h p v f

  module _ (known : LineKnown s line t) (is_own : IsOwn s line) (steady : Steady s t) (maker : thing w own s.next_name ≡ MadeBy line.proc) where
    was : (i : Inc) (x : Activation) → look_up i (activations_in t.incarnations) ≡ Some x → WasThere s line i x
    was i x h = lived_before s line t sound.rises known.turn i x h

    was_bounds : (i : Inc) (n : ℕ) (x : Activation) → WasThere s line i x → Bounds w own (Slots x.proc) (standing s (SlotOf i n))
    was_bounds i n x (inl a) = kept.slots i n x a
    was_bounds i n x (inr b) =
        slots_of i n x.proc (λ y g. let below = sound.stacked.below i y g in let same : i.0 ≡ s.next_inc.0 = ap (λ (j : Inc). j.0) b.0 in absurd (omega (arith, below, same)))

    line_slots : (i : Inc) (n : ℕ) (x : Activation) → look_up i (activations_in t.incarnations) ≡ Some x → Bounds w own (Slots x.proc) (standing t (SlotOf i n))
    line_slots i n x h = by (line_way s line (SlotOf i n)) refl (known.writes.entries (SlotOf i n))
      where
        by : (o : Option Way) → line_way s line (SlotOf i n) ≡ o → Wrote s line.inc (standing s (SlotOf i n)) o (standing t (SlotOf i n))
            → Bounds w own (Slots x.proc) (standing t (SlotOf i n))
        by None e (inl none) = subst (Bounds w own (Slots x.proc)) (sym none) tt
        by None e (inr same) = subst (Bounds w own (Slots x.proc)) (sym same) (was_bounds i n x (was i x h))
        by (Some v) e (inl none) = subst (Bounds w own (Slots x.proc)) (sym none) tt
        by (Some v) e (inr wrote) =
            let now = is_own (is_done (SlotOf i n) v e) in
            let mine = writer_proc now i n x (known.writes.places (SlotOf i n) (ap is_some e)) (was i x h) in
            subst (λ (q : Proc). Bounds w own (Slots q) (standing t (SlotOf i n))) (sym mine)
            (slot_bounds w own s line.inc line.proc (own_slots now) kept.lists kept.kinds kept.plain typed (done_call line) (runs now) (λ m. maker) i n v (standing t (SlotOf i n))
            (known.writes.goes (SlotOf i n) v e) (shown_by (SlotOf i n) v e) wrote)

    line_lists : (name : Name) (n : ℕ) → Bounds w own (ListOf (thing w own name)) (standing t (EntryOf name n))
    line_lists name n = by (line_way s line (EntryOf name n)) refl (known.writes.entries (EntryOf name n))
      where
        by : (o : Option Way) → line_way s line (EntryOf name n) ≡ o → Wrote s line.inc (standing s (EntryOf name n)) o (standing t (EntryOf name n))
            → Bounds w own (ListOf (thing w own name)) (standing t (EntryOf name n))
        by None e (inl none) = subst (Bounds w own (ListOf (thing w own name))) (sym none) tt
        by None e (inr same) = subst (Bounds w own (ListOf (thing w own name))) (sym same) (kept.lists name n)
        by (Some v) e (inl none) = subst (Bounds w own (ListOf (thing w own name))) (sym none) tt
        by (Some v) e (inr wrote) =
            let now = is_own (is_done (EntryOf name n) v e) in
            list_bounds w own s line.inc line.proc (own_slots now) kept.lists kept.kinds kept.plain typed (done_call line) (runs now) (λ m. maker) name n v
            (standing t (EntryOf name n)) (known.writes.goes (EntryOf name n) v e) (shown_by (EntryOf name n) v e) wrote

    line_procs : (i : Inc) (x : Activation) → WasThere s line i x → x.proc.0 < length w.tasks
    line_procs i x (inl a) = kept.procs i x a
    line_procs i x (inr b) = subst (λ (q : Proc). q.0 < length w.tasks) (sym b.1) (runs b.3 b.2)

    line_kinds : (name : Name) → IsObject w name → KeepsKind s name (object t name) → IsSameKind (object (opening w) name) (object t name)
    line_kinds name old (inl k) = let was = kept.kinds name old in record { of = k.of ∙ was.of; code = k.code ∙ was.code; params = k.params ∙ was.params }
    line_kinds name old (inr (inl k)) =
        let same : name.0 ≡ s.next_name.0 = ap (λ (x : Name). x.0) (name_same name s.next_name k.0) in let low = kept.low in absurd (omega (arith, old, same, low))
    line_kinds name old (inr (inr gone)) =
        let opens : is_opening s name ≡ true = let first = kept.first in grind (arith, nat_tests) in
        absurd (true≢false (sym opens ∙ gone.0))

    line_plain : (name : Name) → kernel_types + length w.objects ≤ name.0 → KeepsKind s name (object t name) → is_of_type PROCEDURE (object t name).of ≡ false
    line_plain name new (inl k) = ap (is_of_type PROCEDURE) k.of ∙ kept.plain name new
    line_plain name new (inr (inl k)) = k.1
    line_plain name new (inr (inr gone)) = rw gone.1 refl

    pub line_kept : Kept w own t
    line_kept = record {
      slots = line_slots;
      lists = line_lists;
      procs = λ i x h. line_procs i x (was i x h);
      kinds = λ name old. line_kinds name old (steady.kinds name);
      plain = λ name new. line_plain name new (steady.kinds name);
      first = ap (λ (n : Name). n.0) steady.first ∙ kept.first;
      low = let up = next_up s (done_call line) t known.next in let low = kept.low in omega (arith, up, low);
    }
