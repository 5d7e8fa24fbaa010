-- The counts of a table, as one more object comes.
use Rattle.std.proofs.Common.{◌≡◌, ◌≢◌, ℕ, ◌+◌, ◌-◌, ◌<◌, ◌≤◌, ◌^◌, List, [], ◌∷◌, length, get_or, set, Option, Some, None, IsSome, IfSome, refl, sym, ap, ◌∙◌, subst, arith}
use Rattle.std.proofs.Common.{⊎_elim, option_map, get_or-set_same, get_or-set_other, length-set}
use Rattle.std.proofs.lemmas.Bool.{cases_eq}
use Rattle.hk_links.specs.Chained.{without}
use Rattle.hk_model.specs.declared.names.Name.{Name}
use Rattle.hk_model.specs.declared.entries.Entry.{Entry}
use Rattle.hk_model.specs.declared.objects.Process.{Process}
use Rattle.hk_objects.specs.declared.body.Body.{Body}
use Rattle.hk_objects.specs.Shelf.{Shelf, new_body}
use Rattle.hk_objects.specs.Slots.{place, name_at, AreApart}
use Rattle.hk_reclaim.specs.Naming.{times, named_in, names_in, namings}
use Rattle.hk_reclaim.specs.Tally.{Tally, raised, due, owing}
use Rattle.hk_reclaim.proofs.Counting.{times_none, times-cons}
use Rattle.hk_reclaim.proofs.Keeping.{namings_set, made_counted}
use Rattle.hk_spaces.specs.declared.stack.StackFrame.{StackFrame}
use Rattle.hk_table.specs.Held.{AreHeld, CanHold, CanRelease, HoldsInside, Releases}
use Rattle.hk_table.specs.Settled.{outside_namings}
use Rattle.hk_table.specs.Small.{AreSmall}
use Rattle.hk_table.specs.Told.{AreTold}
use Rattle.hk_table.proofs.Holding.{Slots, owed_same, named_once, named_never}
use Rattle.hk_table.proofs.NameBounds.{names_are_few, one_name, entries_within}
use Rattle.hk_queues.specs.Queued.{Queued}
use Rattle.hk_table.specs.Stacked.{Stacked, AreNumbered}
use Rattle.hk_table.specs.Told.{AllNamedStand}
use Rattle.hk_table.proofs.Opens.{told}
use Rattle.hk_table.proofs.Unnamed.{unnamed_outside, unnamed_inside, unopened}

-- an object is made, in a free slot, whose name nothing names yet
pub record IsMaking (o : Shelf) (stacks : List (List StackFrame)) (ps : List Process) (first : Name) (t : Tally) (s : ℕ) (n : Name) (entries : List Entry) : Type 0 where
  pub low : s < length o.slots
  pub free : place o.slots s ≡ None
  pub absent : (k : ℕ) → name_at o.slots k ≡ Some n → ⊥
  pub few : length entries ≤ 256
  pub unnamed : outside_namings n stacks ps ≡ 0
  pub unowed : namings o.slots n ≡ 0
  pub late : first.0 ≤ n.0
  pub told : AreTold o stacks ps first t

pub making : (o : Shelf) (q : Queued) (ps : List Process) (st : Stacked) (first : Name) (events limit : ℕ) (t : Tally) (s : ℕ) (entries : List Entry)
    → AreNumbered st.stacks st.next
    → AreTold o st.stacks ps first t → AreApart o.slots → ((k : ℕ) (m : Name) → name_at o.slots k ≡ Some m → m.0 < o.next.0) → s < length o.slots → place o.slots s ≡ None
    → length entries ≤ 256 → AllNamedStand (told o q ps st first events limit) → IsMaking o st.stacks ps first t s o.next entries
making o q ps st first events limit t s entries numbered h apart above low free few named =
    let absent : (k : ℕ) → name_at o.slots k ≡ Some o.next → ⊥ = λ k here. let a = above k o.next here in omega (arith, a) in
    record {
      low = low;
      free = free;
      absent = absent;
      few = few;
      unnamed = unnamed_outside o q ps st first events limit t numbered h apart o.next absent named;
      unowed = unnamed_inside o q ps st first events limit t numbered h apart o.next absent named;
      late = unopened o q ps st first events limit t numbered h apart o.next absent named;
      told = h;
    }

module _ (o : Shelf) (stacks : List (List StackFrame)) (ps : List Process) (first : Name) (t : Tally) (s : ℕ) (n : Name) (of : Name) (words : List ℕ) (entries : List Entry)
    (making : IsMaking o stacks ps first t s n entries) where
  low : s < length o.slots
  low = making.low

  free : place o.slots s ≡ None
  free = making.free

  absent : (k : ℕ) → name_at o.slots k ≡ Some n → ⊥
  absent = making.absent

  few : length entries ≤ 256
  few = making.few

  unnamed : outside_namings n stacks ps ≡ 0
  unnamed = making.unnamed

  unowed : namings o.slots n ≡ 0
  unowed = making.unowed

  h : AreTold o stacks ps first t
  h = making.told

  abbrev new_one : Name × Body
  new_one = (n, new_body of words entries)

  abbrev made : Slots
  made = set o.slots s (Some new_one)

  abbrev raised_there : Tally
  raised_there = record t { outside = raised t.outside s; total = raised t.total s; pending = without s t.pending }

  no_name : name_at o.slots s ≡ None
  no_name = ap (option_map (λ (e : Name × Body). e.0)) free

  pub made_range : s < length t.total
  made_range = omega (arith, low, h.small.room, h.held.room)

  pub made_few : get_or t.total s 0 < 2 ^ 32 - 1
  made_few =
      let z : due (namings o.slots) (name_at o.slots s) ≡ 0 = ap (due (namings o.slots)) no_name in
      let a = h.held.counted.totals s in
      let b = h.held.free s no_name in
      omega (arith, z, a, b)

  made_name : name_at made s ≡ Some n
  made_name = ap (option_map (λ (e : Name × Body). e.0)) (get_or-set_same o.slots s (Some new_one) None low)

  made_other : (k : ℕ) → k ≢ s → name_at made k ≡ name_at o.slots k
  made_other k ne = ap (option_map (λ (e : Name × Body). e.0)) (get_or-set_other o.slots s k (Some new_one) None ne)

  this_name : (m : Name) → name_at made s ≡ Some m → m ≡ n
  this_name m named = let e : Some n ≡ Some m = sym made_name ∙ named in cc

  counted_here : get_or (raised t.outside s) s 0 ≡ 1
  counted_here =
      let lowo : s < length t.outside = omega (arith, made_range, h.held.counted.sizes) in
      get_or-set_same t.outside s (get_or t.outside s 0 + 1) 0 lowo ∙ (let z = h.held.free s no_name in omega (arith, z))

  -- counted as often as frames and processes name it, and once more: the capability for it is to come
  abbrev named_too : Name → ℕ
  named_too = owing (λ m. outside_namings m stacks ps) (n ∷ [])

  too_here : (m : Name) → m ≡ n → named_too m ≡ 1
  too_here m same =
      let none : outside_namings m stacks ps ≡ 0 = ap (λ (x : Name). outside_namings x stacks ps) same ∙ unnamed in
      let once : times m (n ∷ []) ≡ 1 = ap (λ (x : Name). times x (n ∷ [])) same ∙ named_once n in
      omega (arith, none, once)

  too_there : (k : ℕ) (m : Name) → name_at o.slots k ≡ Some m → named_too m ≡ outside_namings m stacks ps
  too_there k m named =
      let never : times m (n ∷ []) ≡ 0 = named_never m n (λ e. absent k (named ∙ ap (λ (x : Name). Some x) e)) in
      omega (arith, never)

  made_held : AreHeld made named_too (namings o.slots) raised_there
  made_held = record {
    counted = made_counted o.slots (namings o.slots) t s n (new_body of words entries) low made_range free unowed h.held.counted;
    outside = λ k m named new. ⊎_elim
        (λ (same : k ≡ s).
        ap (λ (j : ℕ). get_or (raised t.outside s) j 0) same ∙ counted_here
        ∙ sym (too_here m (this_name m (ap (name_at made) (sym same) ∙ named))))
        (λ (ne : k ≢ s).
        let was : name_at o.slots k ≡ Some m = sym (made_other k ne) ∙ named in
        elsewhere k ne ∙ h.held.outside k m was new ∙ sym (too_there k m was))
        (cases_eq k s);
    opening = λ k m named opens. ⊎_elim
        (λ (same : k ≡ s).
        let f : m.0 ≡ n.0 = ap (λ (x : Name). x.0) (this_name m (ap (name_at made) (sym same) ∙ named)) in
        let first_is : t.first_new.0 ≡ first.0 = ap (λ (x : Name). x.0) h.begins in
        absurd (omega (arith, f, first_is, opens, making.late)))
        (λ (ne : k ≢ s). elsewhere k ne ∙ h.held.opening k m (sym (made_other k ne) ∙ named) opens)
        (cases_eq k s);
    free = λ k none. ⊎_elim
        (λ (same : k ≡ s). let e : Some n ≡ None = sym made_name ∙ ap (name_at made) (sym same) ∙ none in absurd (cc))
        (λ (ne : k ≢ s). elsewhere k ne ∙ h.held.free k (sym (made_other k ne) ∙ none))
        (cases_eq k s);
    room = length-set t.total s (get_or t.total s 0 + 1) ∙ h.held.room;
  } where
    elsewhere : (k : ℕ) → k ≢ s → get_or (raised t.outside s) k 0 ≡ get_or t.outside k 0
    elsewhere k ne = get_or-set_other t.outside s k (get_or t.outside s 0 + 1) 0 ne

  made_namings : (m : Name) → owing (owing (namings o.slots) (of ∷ [])) (named_in entries) m ≡ namings made m
  made_namings m =
      let w = namings_set o.slots s (Some new_one) m low in
      let z : times m (names_in (place o.slots s)) ≡ 0 = ap (λ (p : Option (Name × Body)). times m (names_in p)) free ∙ times_none m in
      let a = times-cons m of (named_in entries) in
      let b = times-cons m of [] in
      let y : times m [] ≡ 0 = times_none m in
      omega (arith, w, z, a, b, y)

  small_made : AreSmall made stacks ps
  small_made = record {
    room = length-set o.slots s (Some new_one) ∙ h.small.room;
    entries = λ k x there. ⊎_elim
        (λ (same : k ≡ s).
        let w : Some new_one ≡ Some x =
        sym (ap (place made) same ∙ get_or-set_same o.slots s (Some new_one) None low) ∙ there in
        let g : new_one ≡ x = cc in
        let l : length x.1.entries ≡ length entries = ap (λ (y : Name × Body). length y.1.entries) (sym g) in omega (arith, l, few))
        (λ (ne : k ≢ s). h.small.entries k x (sym (get_or-set_other o.slots s k (Some new_one) None ne) ∙ there))
        (cases_eq k s);
    many = h.small.many;
    frames = h.small.frames;
    spaces = h.small.spaces;
    processes = h.small.processes;
  }

  made_there : (new : Slots) → new ≡ made → place new s ≡ Some new_one
  made_there new is = ap (λ (qs : Slots). place qs s) is ∙ get_or-set_same o.slots s (Some new_one) None low

  pub made_stands : (new : Slots) → new ≡ made → IsSome (place new s)
  made_stands new is = subst (λ (p : Option (Name × Body)). IsSome p) (sym (made_there new is)) refl

  pub made_read : (new : Slots) → new ≡ made → (es : List Entry) → IfSome (place new s) (λ e. es ≡ e.1.entries) → es ≡ entries
  made_read new is es read = subst (λ (p : Option (Name × Body)). IfSome p (λ e. es ≡ e.1.entries)) (made_there new is) read

  module _ (new : Shelf) (is : new.slots ≡ made) (u : Tally) (raised' : u ≡ raised_there) where
    made_ready : AreHeld new.slots named_too (namings o.slots) u
    made_ready =
        subst (λ (v : Tally). AreHeld new.slots named_too (namings o.slots) v) (sym raised')
        (subst (λ (v : Slots). AreHeld v named_too (namings o.slots) raised_there) (sym is) made_held)

    pub made_can : CanHold new.slots (of ∷ []) u
    made_can = (
      named_too,
      namings o.slots,
      made_ready,
      λ m.
          let a = names_are_few m o.slots stacks ps h.small in
          let w : times m (of ∷ []) ≤ 1 = one_name m of in
          let z : times m (n ∷ []) ≤ 1 = one_name m n in
          omega (arith, a, w, z),
    )

    pub made_can_more : (v : Tally) → HoldsInside new.slots (of ∷ []) u v → CanHold new.slots (named_in entries) v
    made_can_more v f = (
      named_too,
      owing (namings o.slots) (of ∷ []),
      f.1 named_too (namings o.slots) made_ready,
      λ m.
          let a = names_are_few m o.slots stacks ps h.small in
          let w : times m (of ∷ []) ≤ 1 = one_name m of in
          let z : times m (n ∷ []) ≤ 1 = one_name m n in
          let l = entries_within m entries in
          omega (arith, a, w, z, l, few),
    )

    module _ (v x : Tally) (f : HoldsInside new.slots (of ∷ []) u v) (g : HoldsInside new.slots (named_in entries) v x) where
      pub made_all : AreHeld new.slots (owing (λ m. outside_namings m stacks ps) (n ∷ [])) (namings new.slots) x
      made_all =
          owed_same new.slots named_too (owing (owing (namings o.slots) (of ∷ [])) (named_in entries)) (namings new.slots) x
          (λ m. made_namings m ∙ ap (λ (qs : Slots). namings qs m) (sym is)) (g.1 named_too (owing (namings o.slots) (of ∷ [])) (f.1 named_too (namings o.slots) made_ready))

      pub made_begins : x.first_new ≡ first
      made_begins = g.0 ∙ f.0 ∙ ap (λ (y : Tally). y.first_new) raised' ∙ h.begins

      pub made_small : AreSmall new.slots stacks ps
      made_small = subst (λ (qs : Slots). AreSmall qs stacks ps) (sym is) small_made

      -- where no slot takes the capability, nothing names the object
      pub made_lost_can : CanRelease new.slots (n ∷ []) x
      made_lost_can = (λ m. outside_namings m stacks ps, namings new.slots, made_all)

      pub made_lost : (y : Tally) → Releases new.slots (n ∷ []) x y → AreTold new stacks ps first y
      made_lost y r = record { held = r.1 (λ m. outside_namings m stacks ps) (namings new.slots) made_all; begins = r.0 ∙ made_begins; small = made_small }
