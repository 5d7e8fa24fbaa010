-- The free slots, each once.
use Rattle.std.proofs.Common.{◌≡◌, ℕ, zero, suc, ◌+◌, ◌-◌, ◌<◌, ◌≤◌, Bool, true, false, List, [], ◌∷◌, ◌++◌, length, refl, ap, sym, subst, ◌∙◌, arith, reverse}
use Rattle.std.specs.Prelude.{◌==◌, ◌||◌, ◌&&◌, not, nat_lt, vec_len, vec_capacity}
use Rattle.std.specs.Global.{Vec}
use Rattle.std.specs.List.{AllByRecursion, IsDistinct, range_with_len}
use Rattle.std.proofs.lemmas.List.{append-nil, nil_from_length, length-append, length-reverse, reverse-append}
use Rattle.std.proofs.lemmas.List.FromFn.{length-range_with_len}
use Rattle.std.proofs.lemmas.Bool.Decides.{nat_tests}
use Rattle.std.proofs.lemmas.Map.Steps.{length-le_from_distinct_below}
use Rattle.hk_links.specs.Chained.{without}
use Rattle.hk_objects.specs.Indexed.{AreSlots, has}
use Rattle.hk_objects.specs.Idle.{idle, IsIdle}

-- a slot that is not among some is none of them
none_is : (slots : List ℕ) (s : ℕ) → has slots s ≡ false → AllByRecursion (λ y. (s == y) ≡ false) slots
none_is [] s h = tt
none_is (x ∷ slots) s h = by (s == x) refl h (none_is slots s)
  where
    by : (b : Bool) → (s == x) ≡ b → b || has slots s ≡ false → (has slots s ≡ false → AllByRecursion (λ y. (s == y) ≡ false) slots)
        → AllByRecursion (λ y. (s == y) ≡ false) (x ∷ slots)
    by true e g rest = absurd (cc)
    by false e g rest = (e, rest g)

-- and the other way round
not_among : (slots : List ℕ) (s : ℕ) → AllByRecursion (λ y. (s == y) ≡ false) slots → has slots s ≡ false
not_among [] s h = refl
not_among (x ∷ slots) s h = rw h.0 (not_among slots s h.1)

none_out : (slots : List ℕ) (s : ℕ) → AllByRecursion (λ y. (s == y) ≡ false) slots → without s slots ≡ slots
none_out [] s h = refl
none_out (x ∷ slots) s h = rw h.0 (ap (λ (rest : List ℕ). x ∷ rest) (none_out slots s h.1))

-- the first one taken out
pub first_out : (slots : List ℕ) (s : ℕ) → AreSlots (s ∷ slots) → without s (s ∷ slots) ≡ slots
unfolding IsDistinct
first_out slots s h = let t : (s == s) ≡ true = grind (arith, nat_tests) in rw t (none_out slots s h.once.0)

pub first_in : (slots : List ℕ) (s : ℕ) → has (s ∷ slots) s ≡ true
first_in slots s = let t : (s == s) ≡ true = grind (arith, nat_tests) in rw t refl

pub others_left : (slots : List ℕ) (s : ℕ) → AreSlots (s ∷ slots) → AreSlots slots
unfolding IsDistinct
others_left slots s h = record { once = h.once.1; low = λ k e. h.low k (by k (k == s) e) }
  where
    by : (k : ℕ) (b : Bool) → has slots k ≡ true → b || has slots k ≡ true
    by k true e = refl
    by k false e = e

-- one slot more
pub one_more : (slots : List ℕ) (s : ℕ) → AreSlots slots → s < 65536 → has slots s ≡ false → AreSlots (s ∷ slots)
unfolding IsDistinct
one_more slots s h low free = record {
  once = (none_is slots s free, h.once);
  low = λ k e. by k (k == s) refl e;
}
  where
    by : (k : ℕ) (b : Bool) → (k == s) ≡ b → b || has slots k ≡ true → k < 65536
    by k true e g = grind (arith, nat_tests, e, low)
    by k false e g = h.low k g

-- there is room for one that is not among them
pub room_for : (slots : List ℕ) (s : ℕ) → AreSlots slots → s < 65536 → has slots s ≡ false → length slots < 65536
room_for slots s h low free =
    let all = one_more slots s h low free in
    let few = length-le_from_distinct_below (s ∷ slots) 65536 all.once all.low in
    omega (arith, few)

has_range : (a n k : ℕ) → has (range_with_len a n) k ≡ (not (nat_lt k a) && nat_lt k (a + n))
has_range a zero k = grind (arith, nat_tests)
has_range a (suc n) k = grind (arith, nat_tests, has_range (a + 1) n k)

once_each : (a n : ℕ) → IsDistinct (λ x y. x == y) (range_with_len a n)
unfolding IsDistinct
once_each a zero = tt
once_each a (suc n) = (none_is (range_with_len (a + 1) n) a (has_range (a + 1) n a ∙ grind (arith, nat_tests)), once_each (a + 1) n)

slots_from : (a n : ℕ) → a + n ≤ 65536 → AreSlots (range_with_len a n)
slots_from a n few = record {
  once = once_each a n;
  low = λ k e. let h : (not (nat_lt k a) && nat_lt k (a + n)) ≡ true = sym (has_range a n k) ∙ e in grind (arith, nat_tests);
}

-- at the start: none was given back, and none was taken
module _ (given : Vec ℕ) (fresh : ℕ) (none : given.items ≡ []) (zero : fresh ≡ 0) where
  idle_first : idle given.items fresh ≡ range_with_len fresh (65536 - fresh)
  unfolding idle
  idle_first = ap (λ (xs : List ℕ). reverse xs ++ range_with_len fresh (65536 - fresh)) none

  pub all_slots : 65536 ≤ vec_capacity given → IsIdle given fresh
  all_slots room = record {
    slots = subst AreSlots (sym idle_first) (slots_from fresh (65536 - fresh) (omega (arith, zero)));
    low = omega (arith, zero);
    room = room;
  }

  pub all_idle : (k : ℕ) → has (idle given.items fresh) k ≡ nat_lt k 65536
  all_idle k = ap (λ (xs : List ℕ). has xs k) idle_first ∙ has_range fresh (65536 - fresh) k ∙ grind (arith, nat_tests, zero)

pub idle_given : (given : List ℕ) (fresh s : ℕ) → idle (given ++ s ∷ []) fresh ≡ s ∷ idle given fresh
unfolding idle
idle_given given fresh s = ap (λ (xs : List ℕ). xs ++ range_with_len fresh (65536 - fresh)) (reverse-append given (s ∷ []))

pub idle_fresh : (given : List ℕ) (fresh : ℕ) → given ≡ [] → fresh < 65536 → idle given fresh ≡ fresh ∷ idle given (fresh + 1)
unfolding idle
idle_fresh given fresh none low =
    let n : ℕ = 65536 - (fresh + 1) in
    let more : 65536 - fresh ≡ suc n = omega arith in
    ap (λ (xs : List ℕ). reverse xs ++ range_with_len fresh (65536 - fresh)) none
    ∙ ap (λ (m : ℕ). range_with_len fresh m) more
    ∙ ap (λ (xs : List ℕ). fresh ∷ (reverse xs ++ range_with_len (fresh + 1) n)) (sym none)

pub idle_none : (given : List ℕ) (fresh : ℕ) → given ≡ [] → fresh ≡ 65536 → idle given fresh ≡ []
unfolding idle
idle_none given fresh none end = let zero : 65536 - fresh ≡ 0 = omega (arith, end) in rw (none, zero) refl

-- what is left, where the first one is taken
pub record IsTaken (old new : List ℕ) (slot : ℕ) : Type 0 where
  pub left : AreSlots new
  pub low : slot < 65536
  pub among : has old slot ≡ true
  pub rest : new ≡ without slot old

pub first_taken : (old new : List ℕ) (s : ℕ) → old ≡ s ∷ new → AreSlots old → IsTaken old new s
first_taken old new s first h =
    let slots : AreSlots (s ∷ new) = subst AreSlots first h in
    record {
      left = others_left new s slots;
      low = slots.low s (first_in new s);
      among = subst (λ (xs : List ℕ). has xs s ≡ true) (sym first) (first_in new s);
      rest = sym (ap (λ (xs : List ℕ). without s xs) first ∙ first_out new s slots);
    }

-- one given back is taken
pub given_taken : (given : List ℕ) (new : Vec ℕ) (fresh s : ℕ) → given ≡ new.items ++ s ∷ [] → AreSlots (idle given fresh)
    → IsTaken (idle given fresh) (idle new.items fresh) s
given_taken given new fresh s e h = first_taken _ _ s (ap (λ (xs : List ℕ). idle xs fresh) e ∙ idle_given new.items fresh s) h

pub no_items : (v : Vec ℕ) → vec_len v ≡ 0 → v.items ≡ []
no_items v none = let same = v.ok in nil_from_length v.items (omega (arith, same, none))

-- one that was never taken is taken
pub fresh_taken : (given : List ℕ) (new : Vec ℕ) (fresh : ℕ) → given ≡ new.items ++ [] → given ≡ [] → fresh < 65536 → AreSlots (idle given fresh)
    → IsTaken (idle given fresh) (idle new.items (fresh + 1)) fresh
fresh_taken given new fresh e none low h =
    first_taken _ _ fresh
    (idle_fresh given fresh none low ∙ ap (λ (xs : List ℕ). fresh ∷ idle xs (fresh + 1)) (e ∙ append-nil new.items)) h

-- there is room for one more
pub room_given : (given : List ℕ) (fresh s : ℕ) → AreSlots (idle given fresh) → s < 65536 → has (idle given fresh) s ≡ false → length given < 65536
unfolding idle
room_given given fresh s h low free =
    let few = room_for (idle given fresh) s h low free in
    omega (arith, few, length-reverse given, length-append (reverse given) (range_with_len fresh (65536 - fresh)))

-- where there are some, there is a first one
some_left : (slots : List ℕ) → AreSlots slots → 0 < length slots → (slot : ℕ) × (slot < 65536) × (has slots slot ≡ true)
some_left [] h some = absurd (omega (arith, some))
some_left (x ∷ slots) h some = (x, h.low x (first_in slots x), first_in slots x)

pub some_idle : (given : List ℕ) (fresh : ℕ) → AreSlots (idle given fresh) → 0 < length given + (65536 - fresh)
    → (slot : ℕ) × (slot < 65536) × (has (idle given fresh) slot ≡ true)
unfolding idle
some_idle given fresh h some =
    some_left (idle given fresh) h
    (omega (arith, length-reverse given, length-append (reverse given) (range_with_len fresh (65536 - fresh)), length-range_with_len fresh (65536 - fresh)))
