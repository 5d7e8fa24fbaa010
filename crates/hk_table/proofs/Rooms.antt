-- Room for one more object.
use Rattle.std.proofs.Common.{◌≡◌, ◌<◌, ◌≤◌, ◌↔◌, ℕ, subst, Bool, true, false, not, List, length, Err, refl, sym, ap, ◌∙◌, arith}
use Rattle.std.specs.Prelude.{IsTrue}
use Rattle.std.proofs.lemmas.Bool.Decides.{nat_tests}
use Rattle.hk_model.specs.declared.names.Proc.{Proc}
use Rattle.hk_model.specs.declared.calls.Refusal.TheVariants as refused
use Rattle.hk_model.specs.declared.calls.What8.TheVariants as full
use Rattle.hk_model.specs.State.{State}
use Rattle.hk_model.specs.Keeping.{AreRooted, rooted_objects}
use Rattle.hk_model.specs.Rule.{has_room, counted}
use Rattle.hk_model.proofs.Keeping.{rooted_leaves}
use Rattle.hk_model.proofs.KeepingLemmas.{rooted_is}
use Rattle.hk_objects.specs.Slots.{standing}
use Rattle.hk_table.specs.Rooms.{MakesRoom, AreAllRooted, IsKnownRooted}
use Rattle.hk_table.specs.Whole.{whole}
use Rattle.hk_table.proofs.Holding.{Slots}
use Rattle.hk_table.proofs.Makings.{standing_many}
use Rattle.hk_table.proofs.WhatIsLeft.{whole_few, all_rooted}

pub full_is : (ps : Slots) (ws : List (List Proc)) (b : Bool) → length ps ≡ 65536 → IsTrue b ↔ (length (standing ps) ≡ 65536) → b ≡ not (has_room (standing (whole ps ws)))
full_is ps ws true room is =
    let e : length (standing ps) ≡ 65536 = is.0 refl in
    let m = standing_many ps ws in
    let n : length (standing (whole ps ws)) ≡ 65536 = omega (arith, e, m) in
    grind (arith, nat_tests)
full_is ps ws false room is =
    let few = whole_few ps ws room in
    let m = standing_many ps ws in
    let other : length (standing (whole ps ws)) ≡ 65536 → ⊥ = λ k. let f : false ≡ true = is.1 (omega (arith, k, m)) in cc in
    let low : length (standing (whole ps ws)) < 65536 = omega (arith, few, other) in
    grind (arith, nat_tests)

not_yes : (a b : Bool) → a ≡ not b → a ≡ true → b ≡ false
not_yes false b e f = absurd (cc)
not_yes true true e f = absurd (cc)
not_yes true false e f = refl

-- there is none
pub no_room : (s t : State) (a b : Bool) → a ≡ not (has_room s.objects) → a ≡ true → length s.objects ≤ 65536 → t ≡ record s { objects = rooted_objects s }
    → b ≡ not (has_room t.objects) → b ≡ true → MakesRoom s (Err (refused.Full full.Objects)) t
no_room s t a b full' holds few is none still =
    let f : has_room s.objects ≡ false = not_yes a (has_room s.objects) full' holds in
    let r : has_room t.objects ≡ false = not_yes b (has_room t.objects) none still in
    let e : t.objects ≡ rooted_objects s = ap (λ (x : State). x.objects) is in
    let g : has_room (rooted_objects s) ≡ false = sym (ap has_room e) ∙ r in
    let all : rooted_objects s ≡ s.objects = all_rooted s few g in
    (rw (f, g) refl, is ∙ (λ i. record s { objects = all i }))

-- and names lead to each object that stands
pub no_room_rooted : (s t : State) (a b : Bool) → a ≡ not (has_room s.objects) → a ≡ true → length s.objects ≤ 65536 → t ≡ record s { objects = rooted_objects s }
    → b ≡ not (has_room t.objects) → b ≡ true → AreAllRooted t
no_room_rooted s t a b full' holds few is none still =
    let r : has_room t.objects ≡ false = not_yes b (has_room t.objects) none still in
    let e : t.objects ≡ rooted_objects s = ap (λ (x : State). x.objects) is in
    let g : has_room (rooted_objects s) ≡ false = sym (ap has_room e) ∙ r in
    let same = no_room s t a b full' holds few is none still in
    subst (λ (x : State). AreAllRooted x) (sym same.1) (all_rooted s few g)

-- the number of events does not count for that
pub counted_rooted : (b : Bool) (s t : State) (n : ℕ) → t ≡ counted n s → IsKnownRooted b s → IsKnownRooted b t
counted_rooted b s t n is known = subst (λ (x : State). IsKnownRooted b x) (sym is) as_counted where
  as_counted : IsKnownRooted b (counted n s)
  as_counted h =
      let leaves = rooted_leaves s in
      let are : AreRooted (counted n s) leaves.set = record { closed = leaves.are.closed; least = leaves.are.least } in
      rooted_is (counted n s) leaves.set are ∙ sym leaves.is ∙ known h

-- nothing is said of it where it is not known
pub not_known : (s : State) → IsKnownRooted false s
not_known s h = absurd (cc)
