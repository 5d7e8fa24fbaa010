-- The parts of a table where objects vanish.
use Rattle.std.proofs.Common.{◌≡◌, ℕ, zero, suc, ◌+◌, ◌<◌, ◌≤◌, Bool, true, false, cond, List, [], ◌∷◌, length, Option, Some, None, refl, sym, ap, ◌∙◌, arith, subst}
use Rattle.std.proofs.Common.{⊎_elim, option_map}
use Rattle.std.specs.Prelude.{filter, slice_index}
use Rattle.std.specs.BTreeMap.{insert_entry}
use Rattle.std.proofs.lemmas.List.{length-map}
use Rattle.std.proofs.lemmas.Bool.Decides.{nat_tests}
use Rattle.std.proofs.lemmas.Map.Entries.{option_filter}
use Rattle.hk_model.specs.declared.names.Name.{Name}
use Rattle.hk_model.specs.declared.names.Proc.{Proc}
use Rattle.hk_model.specs.declared.objects.Object.{Object}
use Rattle.hk_model.specs.declared.objects.Process.{Process}
use Rattle.hk_model.specs.State.{State, name_cmp}
use Rattle.hk_model.specs.Keeping.{rooted_objects}
use Rattle.hk_model.specs.Rule.{has_room}
use Rattle.hk_model.proofs.Keeping.{rooted_leaves}
use Rattle.hk_objects.specs.declared.body.Body.{Body}
use Rattle.hk_objects.specs.Shelf.{Shelf}
use Rattle.hk_objects.specs.Slots.{standing, place, name_at}
use Rattle.hk_queues.specs.Queued.{Queued}
use Rattle.hk_reclaim.specs.Kept.{only}
use Rattle.hk_reclaim.specs.Naming.{stands}
use Rattle.hk_reclaim.specs.Tally.{Tally, IsCounted, SameOutside}
use Rattle.hk_spaces.specs.declared.stack.StackFrame.{StackFrame}
use Rattle.hk_walk.specs.Remembered.{Remembered}
use Rattle.hk_walk.specs.Walks.{seen, AreRight}
use Rattle.hk_table.specs.Joined.{AreQueued, IsJoined}
use Rattle.hk_table.specs.Settled.{FreesUncounted}
use Rattle.hk_table.specs.Stacked.{Stacked}
use Rattle.hk_table.specs.Told.{AreTold}
use Rattle.hk_table.specs.Waits.{AreWaitsCounted}
use Rattle.hk_table.specs.Whole.{whole}
use Rattle.hk_table.proofs.Holding.{Slots}
use Rattle.hk_table.proofs.Makings.{length-whole}

only_place : (S : Name → Bool) (ps : Slots) (k : ℕ) (e : Name × Body) → place (only S ps) k ≡ Some e → place ps k ≡ Some e
only_place S [] k e here = here
only_place S (None ∷ ps) zero e here = here
only_place S (Some x ∷ ps) zero e here = by (S x.0) here where
  by : (b : Bool) → cond b (Some x) None ≡ Some e → Some x ≡ Some e
  by true h = h
  by false h = absurd (cc)
only_place S (p ∷ ps) (suc k) e here = only_place S ps k e here

only_name : (S : Name → Bool) (ps : Slots) (k : ℕ) (n : Name) → name_at (only S ps) k ≡ Some n → name_at ps k ≡ Some n
only_name S ps k n named = by (place (only S ps) k) refl named where
  by : (p : Option (Name × Body)) → place (only S ps) k ≡ p → option_map (λ (e : Name × Body). e.0) p ≡ Some n → name_at ps k ≡ Some n
  by None e h = absurd (cc)
  by (Some x) e h = ap (option_map (λ (y : Name × Body). y.0)) (only_place S ps k x e) ∙ h

pub waits_counted : (o : Shelf) (stacks : List (List StackFrame)) (ps : List Process) (first : Name) (t : Tally) → AreTold o stacks ps first t → AreWaitsCounted o.slots ps t
waits_counted o stacks ps first t h k n named made = let w = h.held.outside k n named made in omega (arith, w)

-- the counts of what is left
pub left_counted : (o new : Shelf) (stacks : List (List StackFrame)) (ps : List Process) (first : Name) (t u : Tally) → AreTold o stacks ps first t
    → new.slots ≡ only (stands new.slots) o.slots → FreesUncounted o.slots new.slots t → IsCounted new.slots u → SameOutside t u → AreTold new stacks ps first u
left_counted o new stacks ps first t u h left frees counted same = record {
  held = record {
    counted = counted;
    outside = λ k n named made.
        ap (λ (xs : List ℕ). slice_index xs k) same.outside
        ∙ h.held.outside k n (only_name (stands new.slots) o.slots k n (ap (λ (qs : Slots). name_at qs k) (sym left) ∙ named))
        (subst (λ (f : Name). f.0 ≤ n.0) same.first_new made);
    opening = λ k n named opens.
        ap (λ (xs : List ℕ). slice_index xs k) same.outside
        ∙ h.held.opening k n (only_name (stands new.slots) o.slots k n (ap (λ (qs : Slots). name_at qs k) (sym left) ∙ named))
        (subst (λ (f : Name). n.0 < f.0) same.first_new opens);
    free = λ k none.
        ap (λ (xs : List ℕ). slice_index xs k) same.outside
        ∙ ⊎_elim (λ (e : name_at o.slots k ≡ None). h.held.free k e) (λ (e : slice_index t.outside k ≡ 0). e) (frees k none);
    room = same.total ∙ h.held.room;
  };
  begins = same.first_new ∙ h.begins;
  small = record {
    room = ap (λ (qs : Slots). length qs) left ∙ length-map o.slots (option_filter (λ (e : Name × Body). stands new.slots e.0)) ∙ h.small.room;
    entries = λ k e here. h.small.entries k e (only_place (stands new.slots) o.slots k e (ap (λ (qs : Slots). place qs k) (sym left) ∙ here));
    many = h.small.many;
    frames = h.small.frames;
    spaces = h.small.spaces;
    processes = h.small.processes;
  };
}

pub left_joined : (o new : Shelf) (q : Queued) (ps : List Process) (st : Stacked) (w forgot : Remembered) → IsJoined o q ps st w → AreQueued new.slots q ps
    → AreRight (seen new.slots) forgot.pairs → IsJoined new q ps st forgot
left_joined o new q ps st w forgot h queued right = record {
  queued = queued;
  stacked = h.stacked;
  current = h.current;
  known = h.known;
  right = right;
}

-- no more objects stand than there are slots
insert_many : (n : Name) (o : Object) (es : List (Name × Object)) → length (insert_entry name_cmp es n o) ≤ length es + 1
insert_many n o [] = omega arith
insert_many n o (e ∷ es) = grind (arith, nat_tests, insert_many n o es)

standing_few : (ps : List (Option (Name × Object))) → length (standing ps) ≤ length ps
standing_few [] = omega arith
standing_few (None ∷ ps) = let w = standing_few ps in omega (arith, w)
standing_few (Some e ∷ ps) = let w = standing_few ps in let v = insert_many e.0 e.1 (standing ps) in omega (arith, w, v)

pub whole_few : (ps : Slots) (ws : List (List Proc)) → length ps ≡ 65536 → length (standing (whole ps ws)) ≤ 65536
whole_few ps ws room = let a = standing_few (whole ps ws) in let b = length-whole ps ws in omega (arith, a, b, room)

-- a part of a list that has as many is the list
filter_few : (p : Name → Bool) (es : List (Name × Object)) → length (filter (λ (e : Name × Object). p e.0) es) ≤ length es
filter_few p [] = omega arith
filter_few p (e ∷ es) = by (p e.0) (filter_few p es) where
  by : (b : Bool) → length (filter (λ (e : Name × Object). p e.0) es) ≤ length es
      → length (cond b (e ∷ filter (λ (e : Name × Object). p e.0) es) (filter (λ (e : Name × Object). p e.0) es)) ≤ suc (length es)
  by true h = omega (arith, h)
  by false h = omega (arith, h)

filter_all : (p : Name → Bool) (es : List (Name × Object)) → length es ≤ length (filter (λ (e : Name × Object). p e.0) es) → filter (λ (e : Name × Object). p e.0) es ≡ es
filter_all p [] many = refl
filter_all p (e ∷ es) many = by (p e.0) (filter_all p es) many where
  by : (b : Bool) → (length es ≤ length (filter (λ (e : Name × Object). p e.0) es) → filter (λ (e : Name × Object). p e.0) es ≡ es)
      → suc (length es) ≤ length (cond b (e ∷ filter (λ (e : Name × Object). p e.0) es) (filter (λ (e : Name × Object). p e.0) es))
      → cond b (e ∷ filter (λ (e : Name × Object). p e.0) es) (filter (λ (e : Name × Object). p e.0) es) ≡ e ∷ es
  by true rest h = ap (λ (xs : List (Name × Object)). e ∷ xs) (rest (omega (arith, h)))
  by false rest h = let w = filter_few p es in absurd (omega (arith, h, w))

-- where the rooted objects fill the table they are all
pub all_rooted : (s : State) → length s.objects ≤ 65536 → has_room (rooted_objects s) ≡ false → rooted_objects s ≡ s.objects
all_rooted s few full =
    let leaves = rooted_leaves s in
    let high : 65536 ≤ length (rooted_objects s) = grind (arith, nat_tests) in
    let same : length (rooted_objects s) ≡ length (filter (λ (e : Name × Object). leaves.set e.0) s.objects) = ap (λ (es : List (Name × Object)). length es) leaves.is in
    leaves.is ∙ filter_all leaves.set s.objects (omega (arith, few, high, same))
