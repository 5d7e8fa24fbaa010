-- The counts of a table, as its objects change and come.
use Rattle.std.proofs.Common.{◌≡◌, ◌≢◌, ℕ, ◌+◌, ◌<◌, ◌≤◌, List, [], ◌∷◌, ◌++◌, length, get_or, set, Option, Some, None, IsSome, refl, sym, ap, ◌∙◌, subst, arith}
use Rattle.std.proofs.Common.{⊎_elim, option_map, get_or-set_same, get_or-set_other, length-set}
use Rattle.std.proofs.lemmas.Bool.{cases_eq}
use Rattle.hk_model.specs.declared.names.Name.{Name}
use Rattle.hk_model.specs.declared.entries.Entry.{Entry}
use Rattle.hk_model.specs.declared.entries.Entry.TheVariants.{Empty}
use Rattle.hk_model.specs.declared.objects.Process.{Process}
use Rattle.hk_model.specs.Keeping.{entry_names}
use Rattle.hk_objects.specs.declared.body.Body.{Body}
use Rattle.hk_objects.specs.Shelf.{Shelf}
use Rattle.hk_objects.specs.Slots.{place, name_at, change}
use Rattle.hk_objects.proofs.Standing.{name_at_change, within_some}
use Rattle.hk_reclaim.specs.Naming.{times, named_in, names_of, names_in, namings}
use Rattle.hk_reclaim.specs.Tally.{Tally, due, owing, AreCounted}
use Rattle.hk_reclaim.proofs.Counting.{times_none, times-cons}
use Rattle.hk_reclaim.proofs.Keeping.{namings_set}
use Rattle.hk_reclaim.proofs.Settling.{name_of_some, some_name}
use Rattle.hk_spaces.specs.declared.stack.StackFrame.{StackFrame}
use Rattle.hk_table.specs.Held.{AreHeld, CanHold, CanReleaseInside, HoldsInside, ReleasesInside}
use Rattle.hk_table.specs.Settled.{outside_namings}
use Rattle.hk_table.specs.Small.{AreSmall}
use Rattle.hk_table.specs.Told.{AreTold}
use Rattle.hk_table.proofs.FrameNames.{times-append}
use Rattle.hk_table.proofs.FrameSums.{space_written}
use Rattle.hk_table.proofs.Holding.{Slots, owed_same}
use Rattle.hk_table.proofs.NameBounds.{names_are_few, entry_within}

-- counts depend on the names in the slots alone
counted_renamed : (ps qs : Slots) (owed : Name → ℕ) (t : Tally) → ((k : ℕ) → name_at qs k ≡ name_at ps k) → AreCounted ps owed t → AreCounted qs owed t
counted_renamed ps qs owed t same h = record {
  sizes = h.sizes;
  room = λ k some.
      let w = some_name (place qs k) some in
      h.room k (name_of_some (place ps k) w.0 (sym (same k) ∙ w.1));
  totals = λ k. h.totals k ∙ ap (λ (p : Option Name). get_or t.outside k 0 + due owed p) (sym (same k));
  pending = λ k. (λ e. let w = (h.pending k).0 e in (w.0, same k ∙ w.1, w.2, w.3), λ w. (h.pending k).1 (w.0, sym (same k) ∙ w.1, w.2, w.3));
}

pub held_renamed : (ps qs : Slots) (outer owed : Name → ℕ) (t : Tally) → ((k : ℕ) → name_at qs k ≡ name_at ps k) → AreHeld ps outer owed t → AreHeld qs outer owed t
held_renamed ps qs outer owed t same h = record {
  counted = counted_renamed ps qs owed t same h.counted;
  outside = λ k n named made. h.outside k n (sym (same k) ∙ named) made;
  opening = λ k n named opens. h.opening k n (sym (same k) ∙ named) opens;
  free = λ k none. h.free k (sym (same k) ∙ none);
  room = h.room;
}

pub some_place : (ps : Slots) (s : ℕ) (n : Name) → name_at ps s ≡ Some n → (e : Name × Body) × (place ps s ≡ Some e)
some_place ps s n named = by (place ps s) refl named where
  by : (p : Option (Name × Body)) → place ps s ≡ p → option_map (λ (e : Name × Body). e.0) p ≡ Some n → (e : Name × Body) × (place ps s ≡ Some e)
  by None e k = absurd (cc)
  by (Some q) e k = (q, e)

-- ---- a change of one object

module _ (o : Shelf) (stacks : List (List StackFrame)) (ps : List Process) (s : ℕ) (e : Name × Body) (here : place o.slots s ≡ Some e) (f : Body → Body) where
  abbrev changed : Name × Body
  changed = (e.0, f e.1)

  low_slot : s < length o.slots
  low_slot = within_some o.slots s (subst (λ (p : Option (Name × Body)). IsSome p) (sym here) refl)

  change_is : change o.slots s f ≡ set o.slots s (Some changed)
  change_is = ap (λ (p : Option (Name × Body)). set o.slots s (option_map (λ (x : Name × Body). (x.0, f x.1)) p)) here

  changed_namings : (n : Name) → namings (change o.slots s f) n + times n (names_of e.1) ≡ namings o.slots n + times n (names_of (f e.1))
  changed_namings n =
      let w = namings_set o.slots s (Some changed) n low_slot in
      let a : namings (change o.slots s f) n ≡ namings (set o.slots s (Some changed)) n = ap (λ (qs : Slots). namings qs n) change_is in
      let b : times n (names_in (place o.slots s)) ≡ times n (names_of e.1) = ap (λ (p : Option (Name × Body)). times n (names_in p)) here in
      omega (arith, w, a, b)

  small_changed : length (f e.1).entries ≤ 256 → AreSmall o.slots stacks ps → AreSmall (change o.slots s f) stacks ps
  small_changed few h = record {
    room = length-set o.slots s (option_map (λ (x : Name × Body). (x.0, f x.1)) (place o.slots s)) ∙ h.room;
    entries = λ k x there. ⊎_elim
        (λ (same : k ≡ s).
        let w : Some changed ≡ Some x =
        sym (ap (λ (qs : Slots). place qs k) change_is ∙ ap (place (set o.slots s (Some changed))) same ∙ get_or-set_same o.slots s (Some changed) None low_slot) ∙ there in
        let g : changed ≡ x = cc in
        let l : length x.1.entries ≡ length (f e.1).entries = ap (λ (y : Name × Body). length y.1.entries) (sym g) in omega (arith, l, few))
        (λ (ne : k ≢ s).
        h.entries k x (sym (ap (λ (qs : Slots). place qs k) change_is ∙ get_or-set_other o.slots s k (Some changed) None ne) ∙ there))
        (cases_eq k s);
    many = h.many;
    frames = h.frames;
    spaces = h.spaces;
    processes = h.processes;
  }

  -- that is named as before
  pub part_counted : (new : Shelf) (first : Name) (t : Tally) → names_of (f e.1) ≡ names_of e.1 → (f e.1).entries ≡ e.1.entries → AreTold o stacks ps first t
      → new ≡ record o { slots = change o.slots s f } → AreTold new stacks ps first t
  part_counted new first t names entries h is =
      subst (λ (v : Shelf). AreTold v stacks ps first t) (sym is) (record {
        held = held_renamed o.slots (change o.slots s f) (λ n. outside_namings n stacks ps) (namings (change o.slots s f)) t (name_at_change o.slots s f)
            (owed_same o.slots (λ n. outside_namings n stacks ps) (namings o.slots) (namings (change o.slots s f)) t (λ n.
            let w = changed_namings n in
            let k : times n (names_of (f e.1)) ≡ times n (names_of e.1) = ap (times n) names in
            omega (arith, w, k)) h.held);
        begins = h.begins;
        small = small_changed (let l = h.small.entries s e here in subst (λ (es : List Entry). length es ≤ 256) (sym entries) l) h.small;
      })

-- ---- an entry of an object over another

pub entry_written : (n : Name) (b : Body) (at : ℕ) (entry : Entry) → at < length b.entries
    → times n (names_of (record b { entries = set b.entries at entry })) + times n (entry_names (get_or b.entries at Empty)) ≡ times n (names_of b) + times n (entry_names entry)
entry_written n b at entry low =
    omega (
      arith,
      times-cons n b.of (named_in (set b.entries at entry)),
      times-cons n b.of (named_in b.entries),
      space_written n b.entries at entry low,
    )

module _ (o : Shelf) (stacks : List (List StackFrame)) (ps : List Process) (first : Name) (t u : Tally) (s : ℕ) (e : Name × Body) (here : place o.slots s ≡ Some e) (at : ℕ)
    (entry old : Entry) (low : at < length e.1.entries) (is : old ≡ get_or e.1.entries at Empty) (h : AreTold o stacks ps first t)
    (f : HoldsInside o.slots (entry_names entry) t u) where
  abbrev write : Body → Body
  write b = record b { entries = set b.entries at entry }

  entry_halfway : AreHeld o.slots (λ n. outside_namings n stacks ps) (owing (namings (change o.slots s write)) (entry_names old)) u
  entry_halfway =
      owed_same o.slots (λ n. outside_namings n stacks ps) (owing (namings o.slots) (entry_names entry)) (owing (namings (change o.slots s write)) (entry_names old)) u (λ n.
      let w = changed_namings o stacks ps s e here write n in
      let v = entry_written n e.1 at entry low in
      let k : times n (entry_names old) ≡ times n (entry_names (get_or e.1.entries at Empty)) = ap (λ (x : Entry). times n (entry_names x)) is in
      omega (arith, w, v, k)) (f.1 (λ n. outside_namings n stacks ps) (namings o.slots) h.held)

  pub entry_can : CanReleaseInside o.slots (entry_names old) u
  entry_can = (λ n. outside_namings n stacks ps, namings (change o.slots s write), entry_halfway)

  pub entry_counted : (v : Tally) (new : Shelf) → ReleasesInside o.slots (entry_names old) u v → new ≡ record o { slots = change o.slots s write } → AreTold new stacks ps first v
  entry_counted v new g e' =
      subst (λ (x : Shelf). AreTold x stacks ps first v) (sym e') (record {
        held = held_renamed o.slots (change o.slots s write) (λ n. outside_namings n stacks ps) (namings (change o.slots s write)) v (name_at_change o.slots s write)
            (g.1 (λ n. outside_namings n stacks ps) (namings (change o.slots s write)) entry_halfway);
        begins = g.0 ∙ f.0 ∙ h.begins;
        small = small_changed o stacks ps s e here write (let l = h.small.entries s e here in let k = length-set e.1.entries at entry in omega (arith, l, k)) h.small;
      })

-- ---- an entry more

named_behind : (n : Name) (es : List Entry) (entry : Entry) → times n (named_in (es ++ entry ∷ [])) ≡ times n (named_in es) + times n (entry_names entry)
named_behind n [] entry = let z : times n (named_in []) ≡ 0 = times_none n in let w = times-append n (entry_names entry) [] in let y : times n [] ≡ 0 = times_none n in
    omega (arith, z, w, y)
named_behind n (x ∷ es) entry =
    omega (
      arith,
      times-append n (entry_names x) (named_in (es ++ entry ∷ [])),
      times-append n (entry_names x) (named_in es),
      named_behind n es entry,
    )

length_behind : (es : List Entry) (entry : Entry) → length (es ++ entry ∷ []) ≡ length es + 1
length_behind [] entry = refl
length_behind (x ∷ es) entry = let w = length_behind es entry in omega (arith, w)

module _ (o new : Shelf) (stacks : List (List StackFrame)) (ps : List Process) (first : Name) (t : Tally) (s : ℕ) (e : Name × Body) (here : place o.slots s ≡ Some e)
    (entry : Entry) (room : length e.1.entries < 256) (h : AreTold o stacks ps first t)
    (is : new ≡ record o { slots = change o.slots s (λ b. record b { entries = b.entries ++ entry ∷ [] }) }) where
  abbrev push : Body → Body
  push b = record b { entries = b.entries ++ entry ∷ [] }

  grown_before : AreHeld (change o.slots s push) (λ n. outside_namings n stacks ps) (namings o.slots) t
  grown_before = held_renamed o.slots (change o.slots s push) (λ n. outside_namings n stacks ps) (namings o.slots) t (name_at_change o.slots s push) h.held

  pub grown_can : CanHold new.slots (entry_names entry) t
  grown_can =
      subst (λ (v : Shelf). CanHold v.slots (entry_names entry) t) (sym is) (
        λ n. outside_namings n stacks ps,
        namings o.slots,
        grown_before,
        λ n. let a = names_are_few n o.slots stacks ps h.small in let w = entry_within n entry in omega (arith, a, w),
      )

  pub grown_counted : (u : Tally) → HoldsInside new.slots (entry_names entry) t u → AreTold new stacks ps first u
  grown_counted u g =
      let f : HoldsInside (change o.slots s push) (entry_names entry) t u = subst (λ (v : Shelf). HoldsInside v.slots (entry_names entry) t u) is g in
      subst (λ (v : Shelf). AreTold v stacks ps first u) (sym is) (record {
        held = owed_same (change o.slots s push) (λ n. outside_namings n stacks ps) (owing (namings o.slots) (entry_names entry)) (namings (change o.slots s push)) u (λ n.
            let w = changed_namings o stacks ps s e here push n in
            let a = times-cons n e.1.of (named_in (e.1.entries ++ entry ∷ [])) in
            let b = times-cons n e.1.of (named_in e.1.entries) in
            let c = named_behind n e.1.entries entry in
            omega (arith, w, a, b, c)) (f.1 (λ n. outside_namings n stacks ps) (namings o.slots) grown_before);
        begins = f.0 ∙ h.begins;
        small = small_changed o stacks ps s e here push (let k = length_behind e.1.entries entry in omega (arith, k, room)) h.small;
      })
