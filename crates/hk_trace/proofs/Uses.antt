-- The used places of a line are those that are found.
use Rattle.std.specs.Prelude.{◌≡◌, ℕ, ◌+◌, ◌<◌, ◌≤◌, Bool, true, false, not, ◌&&◌, List, [], ◌∷◌, ◌++◌, length, map, filter, Option, refl}
use Rattle.std.proofs.Common.{arith, ap, sym, cond}
use Rattle.std.proofs.lemmas.List.Elements.{filter-append}
use Rattle.std.proofs.lemmas.List.{map-append}
use Rattle.hk_model.specs.Limits.{argument_limit, path_limit, step_bound}
use Rattle.hk_model.specs.declared.names.Inc.{Inc}
use Rattle.hk_model.specs.declared.calls.Call.{Call}
use Rattle.hk_model.specs.declared.calls.Reply.{Reply}
use Rattle.hk_model.specs.declared.entries.Entry.{Entry}
use Rattle.hk_model.specs.declared.entries.Entry.TheVariants as entry
use Rattle.hk_model.specs.declared.lines.What.TheVariants as what
use Rattle.hk_model.specs.State.{State}
use Rattle.hk_model.specs.Places.{Place, SlotOf, standing, is_empty, next_place, passed_from, passed}
use Rattle.hk_trace.specs.declared.chains.Standing.{Standing}
use Rattle.hk_trace.specs.declared.using.UsedPlace.{UsedPlace}
use Rattle.hk_trace.specs.Told.{told_place}
use Rattle.hk_trace.specs.Carried.{call_path, carried_slots, carried_step}
use Rattle.hk_trace.specs.Used.{Looked, path_walked, carried_tested, looked_from, is_refused_before, is_used, used_by}
use Rattle.hk_trace.specs.Held.{held_entry, held_at}
use Rattle.hk_trace.specs.Writings.{held_slots}
use Rattle.hk_trace.specs.Uses.{told_use, use_of, uses_of}

-- one place that is looked at
one_use : (refused : Bool) (step order : ℕ) (p : Place) (e : Entry) (rest : List UsedPlace) (s : State) (l : List Looked) → standing s p ≡ e → rest ≡ map (told_use s) l
    → use_of refused step (held_entry (told_place p) e) ++ rest
    ≡ map (told_use s) (cond (not (is_empty e) && not refused) (record { order = order; step = step; place = p } ∷ l) l)
one_use true step order p entry.Empty rest s l h g = g
one_use false step order p entry.Empty rest s l h g = g
one_use true step order p (entry.Held cap) rest s l h g = g
one_use true step order p (entry.Form form) rest s l h g = g
one_use false step order p (entry.Held cap) rest s l h g = rw (h, g) refl
one_use false step order p (entry.Form form) rest s l h g = rw (h, g) refl

uses_told : (s : State) (c : Call) (reply : Reply) (order step : ℕ) (ps : List Place)
    → uses_of c reply order step (map (held_at s) ps) ≡ map (told_use s) (filter (is_used s c reply) (looked_from order step ps))
uses_told s c reply order step [] = refl
uses_told s c reply order step (p ∷ ps) =
    one_use (is_refused_before c reply order step) step order p (standing s p) (uses_of c reply order (step + 1) (map (held_at s) ps)) s
    (filter (is_used s c reply) (looked_from order (step + 1) ps)) refl (uses_told s c reply order (step + 1) ps)

slots_held : (s : State) (inc : Inc) (slots : List ℕ) → held_slots s inc slots ≡ map (held_at s) (map (λ slot. SlotOf inc slot) slots)
slots_held s inc [] = refl
slots_held s inc (slot ∷ slots) = ap (λ (l : List (Option Standing)). held_at s (SlotOf inc slot) ∷ l) (slots_held s inc slots)

-- the uses of the path, and of the slots that are carried
pub used_is : (s : State) (inc : Inc) (c : Call) (reply : Reply) (step : ℕ) (walked held : List (Option Standing)) (first all : List UsedPlace) (slots : List ℕ)
    → walked ≡ map (held_at s) (passed s inc (call_path c)) → slots ≡ carried_slots c → held ≡ held_slots s inc slots → step ≡ carried_step c → first ≡ []
    → all ≡ (first ++ uses_of c reply 2 0 walked) ++ uses_of c reply 7 step held → all ≡ map (told_use s) (used_by s inc (what.Call c) reply)
used_is s inc c reply step walked held first all slots w sl h st f a =
    rw (
      a,
      f,
      w,
      h,
      sl,
      st,
      slots_held s inc (carried_slots c),
      uses_told s c reply 2 0 (passed s inc (call_path c)),
      uses_told s c reply 7 (carried_step c) (map (λ slot. SlotOf inc slot) (carried_slots c)),
      filter-append (is_used s c reply) (looked_from path_walked 0 (passed s inc (call_path c)))
          (looked_from carried_tested (carried_step c) (map (λ slot. SlotOf inc slot) (carried_slots c))),
    )
    (sym (map-append (told_use s) (filter (is_used s c reply) (looked_from path_walked 0 (passed s inc (call_path c))))
    (filter (is_used s c reply) (looked_from carried_tested (carried_step c) (map (λ slot. SlotOf inc slot) (carried_slots c))))))

-- how many there are
length_map : {A B : Type 0} (f : A → B) (xs : List A) → length (map f xs) ≡ length xs
length_map f [] = refl
length_map f (x ∷ xs) = let h = length_map f xs in omega (arith, h)

length_passed : (s : State) (p : Place) (rest : List ℕ) → length (passed_from s p rest) ≡ length rest + 1
length_passed s p [] = refl
length_passed s p (at ∷ rest) = let h = length_passed s (next_place s p at) rest in omega (arith, h)

passed_few : (s : State) (inc : Inc) (path : List ℕ) → length (passed s inc path) ≡ length path
passed_few s inc [] = refl
passed_few s inc (at ∷ rest) = let h = length_passed s (SlotOf inc at) rest in omega (arith, h)

pub walked_few : (s : State) (inc : Inc) (path : List ℕ) (few : ℕ) (walked : List (Option Standing)) → walked ≡ map (held_at s) (passed s inc path) → few ≡ length path
    → few ≤ path_limit
    → 0 + length walked < step_bound
walked_few s inc path few walked w e n =
    let a = ap (length {A = Option Standing}) w in
    let b = length_map (held_at s) (passed s inc path) in
    let c = passed_few s inc path in
    omega (arith, a, b, c)

pub slots_few : (s : State) (inc : Inc) (step few : ℕ) (slots : List ℕ) (held : List (Option Standing)) → held ≡ held_slots s inc slots → few ≡ length slots
    → few ≤ argument_limit → step ≤ path_limit + 1
    → step + length held < step_bound
slots_few s inc step few slots held h e n m =
    let a = ap (length {A = Option Standing}) h in
    let b = length_map (λ slot. held_at s (SlotOf inc slot)) slots in
    omega (arith, a, b)
