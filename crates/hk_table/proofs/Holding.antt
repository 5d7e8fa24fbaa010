-- Names that come and go, one by one and behind each other.
use Rattle.std.proofs.Common.{◌≡◌, ◌≢◌, ℕ, ◌+◌, ◌-◌, ◌<◌, ◌≤◌, ◌^◌, List, [], ◌∷◌, length, get_or, refl, ap, ◌∙◌, sym, arith, ⊎_elim}
use Rattle.std.proofs.Common.{get_or-set_same, get_or-set_other, length-set, Option, Some, None, inl}
use Rattle.std.proofs.lemmas.Bool.{cases_eq, cases_lt}
use Rattle.hk_links.specs.Chained.{without}
use Rattle.hk_model.specs.declared.names.Name.{Name}
use Rattle.hk_objects.specs.declared.body.Body.{Body}
use Rattle.hk_objects.specs.Slots.{name_at, AreApart}
use Rattle.hk_reclaim.specs.Naming.{times}
use Rattle.hk_reclaim.specs.Tally.{Tally, raised, lowered, released, due, owing}
use Rattle.hk_reclaim.proofs.Counting.{times_none, times_same, times_other, due_other, due_same, counted_same, owing_nothing, releasable, released_name}
use Rattle.hk_reclaim.proofs.Keeping.{hold_outside_counted, release_outside_counted, hold_inside_counted}
use Rattle.hk_table.specs.Held.{AreHeld, CanHold, CanRelease, CanReleaseInside, Holds}

abbrev pub Slots : Type 0
Slots = List (Option (Name × Body))

pub held_same : (ps : Slots) (f g owed : Name → ℕ) (t : Tally) → ((n : Name) → f n ≡ g n) → AreHeld ps f owed t → AreHeld ps g owed t
held_same ps f g owed t e h = record { counted = h.counted; outside = λ k n named made. h.outside k n named made ∙ e n; opening = h.opening; free = h.free; room = h.room }

pub owed_same : (ps : Slots) (outer f g : Name → ℕ) (t : Tally) → ((n : Name) → f n ≡ g n) → AreHeld ps outer f t → AreHeld ps outer g t
owed_same ps outer f g t e h = record { counted = counted_same ps f g t e h.counted; outside = h.outside; opening = h.opening; free = h.free; room = h.room }

-- what has no name is another slot
free_apart : (ps : Slots) (s k : ℕ) (x : Name) → name_at ps s ≡ Some x → name_at ps k ≡ None → k ≢ s
free_apart ps s k x here none same = let e : None ≡ Some x = sym none ∙ ap (name_at ps) same ∙ here in cc

one_name : (ps : Slots) (k : ℕ) (n x : Name) → name_at ps k ≡ Some n → name_at ps k ≡ Some x → n ≡ x
one_name ps k n x a b = let e : Some n ≡ Some x = sym a ∙ b in cc

-- an opening object is in another slot than one that is none
new_apart : (ps : Slots) (t : Tally) (s k : ℕ) (x n : Name) → name_at ps s ≡ Some x → t.first_new.0 ≤ x.0 → name_at ps k ≡ Some n → n.0 < t.first_new.0 → k ≢ s
new_apart ps t s k x n here new named opens same =
    let e : n ≡ x = one_name ps s n x (sym (ap (name_at ps) same) ∙ named) here in
    let f : n.0 ≡ x.0 = ap (λ (m : Name). m.0) e in
    absurd (omega (arith, f, new, opens))

pub named_once : (x : Name) → times x (x ∷ []) ≡ 1
named_once x = let z : times x [] ≡ 0 = times_none x in omega (arith, times_same x [], z)

pub named_never : (n x : Name) → n ≢ x → times n (x ∷ []) ≡ 0
named_never n x ne = times_other n x [] ne ∙ times_none n

-- a naming from outside more, of what stands and of what does not
pub held_here : (ps : Slots) (outer owed : Name → ℕ) (t : Tally) (s : ℕ) (x : Name) → AreApart ps → name_at ps s ≡ Some x → s < 65536 → t.first_new.0 ≤ x.0
    → AreHeld ps outer owed t
    → AreHeld ps (owing outer (x ∷ [])) owed (record t { outside = raised t.outside s; total = raised t.total s; pending = without s t.pending })
held_here ps outer owed t s x apart here low new h =
    let lowt : s < length t.total = omega (arith, h.room) in
    let lowo : s < length t.outside = omega (arith, h.counted.sizes, h.room) in
    let no : get_or (raised t.outside s) s 0 ≡ get_or t.outside s 0 + 1 = get_or-set_same t.outside s (get_or t.outside s 0 + 1) 0 lowo in
    record {
      counted = hold_outside_counted ps owed t s lowt h.counted;
      outside = λ k n named made. ⊎_elim
          (λ (same : k ≡ s).
          let there : name_at ps s ≡ Some n = sym (ap (name_at ps) same) ∙ named in
          let e : n ≡ x = one_name ps s n x there here in
          let one : times n (x ∷ []) ≡ 1 = ap (λ (m : Name). times m (x ∷ [])) e ∙ named_once x in
          ap (λ (j : ℕ). get_or (raised t.outside s) j 0) same ∙ omega (arith, no, one, h.outside s n there made))
          (λ (ne : k ≢ s).
          let never : times n (x ∷ []) ≡ 0 = named_never n x (λ e. ne (apart k s x (named ∙ ap (λ (m : Name). Some m) e) here)) in
          get_or-set_other t.outside s k (get_or t.outside s 0 + 1) 0 ne ∙ omega (arith, never, h.outside k n named made))
          (cases_eq k s);
      opening = λ k n named opens.
          get_or-set_other t.outside s k (get_or t.outside s 0 + 1) 0 (new_apart ps t s k x n here new named opens) ∙ h.opening k n named opens;
      free = λ k none. get_or-set_other t.outside s k (get_or t.outside s 0 + 1) 0 (free_apart ps s k x here none) ∙ h.free k none;
      room = length-set t.total s (get_or t.total s 0 + 1) ∙ h.room;
    }

pub held_nowhere : (ps : Slots) (outer owed : Name → ℕ) (t : Tally) (x : Name) → ((k : ℕ) → name_at ps k ≡ Some x → ⊥) → AreHeld ps outer owed t
    → AreHeld ps (owing outer (x ∷ [])) owed t
held_nowhere ps outer owed t x none h = record {
  counted = h.counted;
  outside = λ k n named made.
      let never : times n (x ∷ []) ≡ 0 = named_never n x (λ e. none k (named ∙ ap (λ (m : Name). Some m) e)) in omega (arith, never, h.outside k n named made);
  opening = h.opening;
  free = h.free;
  room = h.room;
}

-- a naming from outside more or fewer of an opening object, which is not counted
never_new : (t : Tally) (x n : Name) → x.0 < t.first_new.0 → t.first_new.0 ≤ n.0 → times n (x ∷ []) ≡ 0
never_new t x n opens made = named_never n x (λ e. let f : n.0 ≡ x.0 = ap (λ (m : Name). m.0) e in absurd (omega (arith, f, opens, made)))

pub held_opening : (ps : Slots) (outer owed : Name → ℕ) (t : Tally) (x : Name) → x.0 < t.first_new.0 → AreHeld ps outer owed t → AreHeld ps (owing outer (x ∷ [])) owed t
held_opening ps outer owed t x opens h = record {
  counted = h.counted;
  outside = λ k n named made. omega (arith, never_new t x n opens made, h.outside k n named made);
  opening = h.opening;
  free = h.free;
  room = h.room;
}

pub released_opening : (ps : Slots) (outer owed : Name → ℕ) (t : Tally) (x : Name) → x.0 < t.first_new.0 → AreHeld ps (owing outer (x ∷ [])) owed t → AreHeld ps outer owed t
released_opening ps outer owed t x opens h = record {
  counted = h.counted;
  outside = λ k n named made. omega (arith, never_new t x n opens made, h.outside k n named made);
  opening = h.opening;
  free = h.free;
  room = h.room;
}

-- a naming from outside fewer
pub released_here : (ps : Slots) (outer owed : Name → ℕ) (t : Tally) (s : ℕ) (x : Name) → AreApart ps → name_at ps s ≡ Some x → s < 65536 → t.first_new.0 ≤ x.0
    → AreHeld ps (owing outer (x ∷ [])) owed t
    → AreHeld ps outer owed (record (released t s x) { outside = lowered t.outside s })
released_here ps outer owed t s x apart here low new h =
    let lowt : s < length t.total = omega (arith, h.room) in
    let lowo : s < length t.outside = omega (arith, h.counted.sizes, h.room) in
    let no : get_or (lowered t.outside s) s 0 ≡ get_or t.outside s 0 - 1 = get_or-set_same t.outside s (get_or t.outside s 0 - 1) 0 lowo in
    let some : 0 < get_or t.outside s 0 = omega (arith, h.outside s x here new, named_once x) in
    record {
      counted = release_outside_counted ps owed t s x here lowt some h.counted;
      outside = λ k n named made. ⊎_elim
          (λ (same : k ≡ s).
          let there : name_at ps s ≡ Some n = sym (ap (name_at ps) same) ∙ named in
          let e : n ≡ x = one_name ps s n x there here in
          let one : times n (x ∷ []) ≡ 1 = ap (λ (m : Name). times m (x ∷ [])) e ∙ named_once x in
          ap (λ (j : ℕ). get_or (lowered t.outside s) j 0) same ∙ omega (arith, no, one, h.outside s n there made))
          (λ (ne : k ≢ s).
          let never : times n (x ∷ []) ≡ 0 = named_never n x (λ e. ne (apart k s x (named ∙ ap (λ (m : Name). Some m) e) here)) in
          get_or-set_other t.outside s k (get_or t.outside s 0 - 1) 0 ne ∙ omega (arith, never, h.outside k n named made))
          (cases_eq k s);
      opening = λ k n named opens.
          get_or-set_other t.outside s k (get_or t.outside s 0 - 1) 0 (new_apart ps t s k x n here new named opens) ∙ h.opening k n named opens;
      free = λ k none. get_or-set_other t.outside s k (get_or t.outside s 0 - 1) 0 (free_apart ps s k x here none) ∙ h.free k none;
      room = length-set t.total s (get_or t.total s 0 - 1) ∙ h.room;
    }

pub released_nowhere : (ps : Slots) (outer owed : Name → ℕ) (t : Tally) (x : Name) → ((k : ℕ) → name_at ps k ≡ Some x → ⊥) → AreHeld ps (owing outer (x ∷ [])) owed t
    → AreHeld ps outer owed t
released_nowhere ps outer owed t x none h = record {
  counted = h.counted;
  outside = λ k n named made.
      let never : times n (x ∷ []) ≡ 0 = named_never n x (λ e. none k (named ∙ ap (λ (m : Name). Some m) e)) in omega (arith, never, h.outside k n named made);
  opening = h.opening;
  free = h.free;
  room = h.room;
}

-- a naming by an object more, and one fewer
pub inside_here : (ps : Slots) (outer owed : Name → ℕ) (t : Tally) (s : ℕ) (x : Name) → AreApart ps → name_at ps s ≡ Some x → s < 65536 → AreHeld ps outer owed t
    → AreHeld ps outer (owing owed (x ∷ [])) (record t { total = raised t.total s; pending = without s t.pending })
inside_here ps outer owed t s x apart here low h =
    let lowt : s < length t.total = omega (arith, h.room) in
    record {
      counted = hold_inside_counted ps owed t s x apart here lowt h.counted;
      outside = h.outside;
      opening = h.opening;
      free = h.free;
      room = length-set t.total s (get_or t.total s 0 + 1) ∙ h.room;
    }

due_nowhere : (ps : Slots) (owed : Name → ℕ) (x : Name) → ((k : ℕ) → name_at ps k ≡ Some x → ⊥) → (k : ℕ) → due owed (name_at ps k) ≡ due (owing owed (x ∷ [])) (name_at ps k)
due_nowhere ps owed x none k =
    due_same owed (owing owed []) (name_at ps k) (λ n. let z : times n [] ≡ 0 = times_none n in omega arith)
    ∙ sym (due_other owed x [] (name_at ps k) (λ e. none k e))

pub inside_nowhere : (ps : Slots) (outer owed : Name → ℕ) (t : Tally) (x : Name) → ((k : ℕ) → name_at ps k ≡ Some x → ⊥) → AreHeld ps outer owed t
    → AreHeld ps outer (owing owed (x ∷ [])) t
inside_nowhere ps outer owed t x none h = record {
  counted = record {
    sizes = h.counted.sizes;
    room = h.counted.room;
    totals = λ k. h.counted.totals k ∙ ap (λ (m : ℕ). get_or t.outside k 0 + m) (due_nowhere ps owed x none k);
    pending = h.counted.pending;
  };
  outside = h.outside;
  opening = h.opening;
  free = h.free;
  room = h.room;
}

pub outside_here : (ps : Slots) (outer owed : Name → ℕ) (t : Tally) (s : ℕ) (x : Name) → AreApart ps → name_at ps s ≡ Some x → s < 65536
    → AreHeld ps outer (owing owed (x ∷ [])) t
    → AreHeld ps outer owed (released t s x)
outside_here ps outer owed t s x apart here low h = record {
  counted = owing_nothing ps owed (released t s x) (released_name ps (Some x) [] owed t (released t s x) apart (inl (s, here, refl)) h.counted);
  outside = h.outside;
  opening = h.opening;
  free = h.free;
  room = length-set t.total s (get_or t.total s 0 - 1) ∙ h.room;
}

pub outside_nowhere : (ps : Slots) (outer owed : Name → ℕ) (t : Tally) (x : Name) → ((k : ℕ) → name_at ps k ≡ Some x → ⊥) → AreHeld ps outer (owing owed (x ∷ [])) t
    → AreHeld ps outer owed t
outside_nowhere ps outer owed t x none h = record {
  counted = record {
    sizes = h.counted.sizes;
    room = h.counted.room;
    totals = λ k. h.counted.totals k ∙ ap (λ (m : ℕ). get_or t.outside k 0 + m) (sym (due_nowhere ps owed x none k));
    pending = h.counted.pending;
  };
  outside = h.outside;
  opening = h.opening;
  free = h.free;
  room = h.room;
}

-- no more is counted from outside than is named
at_most : (ps : Slots) (outer owed : Name → ℕ) (t : Tally) (k : ℕ) (n : Name) → name_at ps k ≡ Some n → AreHeld ps outer owed t → get_or t.outside k 0 ≤ outer n
at_most ps outer owed t k n named h =
    ⊎_elim
    (λ (opens : n.0 < t.first_new.0). let z = h.opening k n named opens in omega (arith, z))
    (λ (made : t.first_new.0 ≤ n.0). let z = h.outside k n named made in omega (arith, z))
    (cases_lt n.0 t.first_new.0)

-- a count that can be raised, or lowered
pub few_total : (ps : Slots) (t : Tally) (s : ℕ) (x : Name) → name_at ps s ≡ Some x → CanHold ps (x ∷ []) t → get_or t.total s 0 < 2 ^ 32 - 1
few_total ps t s x here can =
    let h = can.2 in
    let all : get_or t.total s 0 ≡ get_or t.outside s 0 + can.1 x = h.counted.totals s ∙ ap (λ (p : Option Name). get_or t.outside s 0 + due can.1 p) here in
    let few : can.0 x + can.1 x + times x (x ∷ []) < 2 ^ 32 = can.3 x in
    omega (arith, all, few, named_once x, at_most ps can.0 can.1 t s x here h)

pub some_outside : (ps : Slots) (t : Tally) (s : ℕ) (x : Name) → name_at ps s ≡ Some x → t.first_new.0 ≤ x.0 → CanRelease ps (x ∷ []) t → 0 < get_or t.outside s 0
some_outside ps t s x here new can = omega (arith, can.2.outside s x here new, named_once x)

pub some_inside : (ps : Slots) (t : Tally) (s : ℕ) (x : Name) → name_at ps s ≡ Some x → CanReleaseInside ps (x ∷ []) t → get_or t.outside s 0 < get_or t.total s 0
some_inside ps t s x here can = (releasable ps (Some x) [] can.1 t can.2.counted s here).1

-- a name of no object comes
pub nowhere_holds : (ps : Slots) (t : Tally) (x : Name) → ((k : ℕ) → name_at ps k ≡ Some x → ⊥) → Holds ps (x ∷ []) t t
nowhere_holds ps t x none = (refl, λ outer owed h. held_nowhere ps outer owed t x none h)
