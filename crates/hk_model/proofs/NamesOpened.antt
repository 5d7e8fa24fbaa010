-- What is named stands: when a world opens, and so at every moment.
use Rattle.std.proofs.Common.{◌≡◌, ◌<◌, ◌≤◌, ℕ, ◌+◌, ◌-◌, List, [], ◌∷◌, ◌++◌, length, Bool, true, false, Some, None, refl, cond, map, replicate, arith, take}
use Rattle.std.specs.Prelude.{is_some, nat_lt}
use mathlib.Core.Logic.{inl, inr}
use Rattle.std.specs.List.{AllByRecursion}
use Rattle.std.specs.Map.{lookup}
use Rattle.std.specs.Ordering.{nat_cmp, is_eq}
use Rattle.std.proofs.lemmas.Bool.Decides.{nat_tests}
use Rattle.std.proofs.lemmas.Option.{slice_get_within}
use Rattle.hk_model.specs.declared.names.Name.{Name}
use Rattle.hk_model.specs.declared.names.Inc.{Inc}
use Rattle.hk_model.specs.declared.entries.Entry.{Entry}
use Rattle.hk_model.specs.declared.entries.Entry.TheVariants.{Empty, Held, Form}
use Rattle.hk_model.specs.declared.entries.Template.TheVariants as template
use Rattle.hk_model.specs.declared.lines.Line.{Line}
use Rattle.hk_model.specs.declared.objects.Object.{Object}
use Rattle.hk_model.specs.declared.objects.Incarnation.{Incarnation}
use Rattle.hk_model.specs.declared.world.Born.{Born}
use Rattle.hk_model.specs.declared.world.Kind.{Kind}
use Rattle.hk_model.specs.declared.world.Kind.TheVariants as kind
use Rattle.hk_model.specs.declared.world.Task.{Task}
use Rattle.hk_model.specs.Limits.{slot_limit}
use Rattle.hk_model.specs.Targets.{kernel_types}
use Rattle.hk_model.specs.WorldValue.{WorldValue, IsWorld, IsEntry, IsType, IsPlainType, IsKind, IsTask}
use Rattle.hk_model.specs.State.{same_name}
use Rattle.hk_model.specs.Opening.{opening, numbered, type_object, object_of, bases, all_ready}
use Rattle.hk_model.specs.Running.{AreStepsOf, opened, state_at}
use Rattle.hk_model.proofs.NamesGiven.{born_count}
use Rattle.hk_model.proofs.Steps.{state_kept, first_steps}
use Rattle.hk_model.proofs.NamesStand.{All, all_append, all_replicate, InEntry, InList, InObject, InRun, Within, NamedStand, Stands, within_names, within_more}
use Rattle.hk_model.proofs.NamesKept.{named_each}

-- a name of the world
abbrev OfWorld : WorldValue → Name → Type 0
OfWorld w n = n.0 < kernel_types + length w.objects

kernel_name : (w : WorldValue) (n : ℕ) → n < kernel_types → OfWorld w (record { 0 = n })
kernel_name w n h = omega (arith, h)

type_of_world : (w : WorldValue) (n : Name) → IsType w n → OfWorld w n
type_of_world w n (inl h) = omega (arith, h)
type_of_world w n (inr d) = let a = slice_get_within w.objects (n.0 - kernel_types) d.born d.there in let b = d.above in omega (arith, a, b)

entry_of_world : (w : WorldValue) (x : Entry) → IsEntry w x → InEntry (OfWorld w) x
entry_of_world w Empty h = tt
entry_of_world w (Held cap) h = (h.0, tt)
entry_of_world w (Form (template.Amplify None check give)) h = tt
entry_of_world w (Form (template.Amplify (Some of) check give)) h = (type_of_world w of h.0, tt)
entry_of_world w (Form (template.Create of give)) h = (type_of_world w of h.0, tt)

entries_of_world : (w : WorldValue) (xs : List Entry) → AllByRecursion (IsEntry w) xs → InList (OfWorld w) xs
entries_of_world w [] h = tt
entries_of_world w (x ∷ xs) h = (entry_of_world w x h.0, entries_of_world w xs h.1)

plain_type : (w : WorldValue) (of : Name) (entries : List Entry) → IsPlainType w of entries → OfWorld w of
plain_type w of entries (inl h) = let e = h.0 in omega (arith, e)
plain_type w of entries (inr (inl h)) = omega (arith, h)
plain_type w of entries (inr (inr d)) = type_of_world w of (inr d)

kind_of_world : (w : WorldValue) (k : Kind) → IsKind w k → InObject (OfWorld w) (object_of k)
kind_of_world w kind.TypeObject h = (kernel_name w 0 (omega arith), tt)
kind_of_world w (kind.Plain of words entries) h = (plain_type w of entries h.0, entries_of_world w entries h.4)
kind_of_world w (kind.Semaphore count) h = (kernel_name w 3 (omega arith), tt)
kind_of_world w (kind.Procedure code params entries) h = (kernel_name w 4 (omega arith), entries_of_world w entries h.4)

kinds_of_world : (w : WorldValue) (bs : List Born) → AllByRecursion (λ (b : Born). IsKind w b.kind) bs → All (InObject (OfWorld w)) (map (λ (b : Born). object_of b.kind) bs)
kinds_of_world w [] h = tt
kinds_of_world w (b ∷ bs) h = (kind_of_world w b.kind h.0, kinds_of_world w bs h.1)

numbered_all : (R : Object → Type 0) (n : ℕ) (os : List Object) → All R os → All (λ (e : Name × Object). R e.1) (numbered {A = Object} {B = Name} (λ k. record { 0 = k }) n os)
numbered_all R n [] h = tt
numbered_all R n (o ∷ os) h = (h.0, numbered_all R (n + 1) os h.1)

bases_of_world : (w : WorldValue) (n : ℕ) (ts : List Task) → AllByRecursion (IsTask w) ts → All (λ (e : Inc × Incarnation). InList (OfWorld w) e.1.slots) (bases n ts)
bases_of_world w n [] h = tt
bases_of_world w n (t ∷ ts) h = (
  all_append (InEntry (OfWorld w)) t.slots (replicate (slot_limit - length t.slots) Empty) (entries_of_world w t.slots h.0.2)
      (all_replicate (InEntry (OfWorld w)) (slot_limit - length t.slots) Empty tt),
  bases_of_world w (n + 1) ts h.1,
)

ready_name_nothing : (R : Name → Type 0) (n : ℕ) (ts : List Task) → All (InRun R) (all_ready n ts)
ready_name_nothing R n [] = tt
ready_name_nothing R n (t ∷ ts) = (tt, ready_name_nothing R (n + 1) ts)

-- each name of the world stands
numbered_stand : (n : ℕ) (os : List Object) (name : Name) → n ≤ name.0 → name.0 < n + length os
    → is_some (lookup (same_name name) (numbered {A = Object} {B = Name} (λ k. record { 0 = k }) n os)) ≡ true
numbered_stand n [] name l h = absurd (omega (arith, l, h))
numbered_stand n (o ∷ os) name l h = by (same_name name (record { 0 = n })) refl (numbered_stand (n + 1) os name)
  where
    by : (b : Bool) → same_name name (record { 0 = n }) ≡ b
        → (n + 1 ≤ name.0 → name.0 < n + 1 + length os → is_some (lookup (same_name name) (numbered {A = Object} {B = Name} (λ k. record { 0 = k }) (n + 1) os)) ≡ true)
        → is_some (cond b (Some o) (lookup (same_name name) (numbered {A = Object} {B = Name} (λ k. record { 0 = k }) (n + 1) os))) ≡ true
    by true e later = refl
    by false e later = let apart = other name.0 n e in later (above n name.0 l apart) (omega (arith, h))
      where
        other : (a b : ℕ) → is_eq (nat_cmp a b) ≡ false → a ≡ b → ⊥
        other a b e g = grind (arith, nat_tests)

        above : (a b : ℕ) → a ≤ b → (b ≡ a → ⊥) → a + 1 ≤ b
        above a b h g = omega (arith, h, g)

world_stands : (w : WorldValue) (n : Name) → OfWorld w n → Stands (opening w) n
unfolding opening
world_stands w n h =
    let many = born_count w.objects in
    numbered_stand 0 (replicate kernel_types type_object ++ map (λ (b : Born). object_of b.kind) w.objects) n (omega arith) (omega (arith, h, many))

opening_within : (w : WorldValue) → IsWorld w → Within (OfWorld w) (opening w)
unfolding opening
opening_within w world = record {
  opening = λ n h. below n.0 (kernel_types + length w.objects) h;
  slots = bases_of_world w 0 w.tasks world.tasks_are;
  runs = ready_name_nothing (OfWorld w) 0 w.tasks;
  objects = numbered_all (InObject (OfWorld w)) 0 (replicate kernel_types type_object ++ map (λ (b : Born). object_of b.kind) w.objects)
      (all_append (InObject (OfWorld w)) (replicate kernel_types type_object) (map (λ (b : Born). object_of b.kind) w.objects)
      (all_replicate (InObject (OfWorld w)) kernel_types type_object (kernel_name w 0 (omega arith), tt)) (kinds_of_world w w.objects world.kinds));
}
  where
    below : (a b : ℕ) → nat_lt a b ≡ true → a < b
    below a b h = grind (arith, nat_tests, h)

pub opening_named : (w : WorldValue) → IsWorld w → NamedStand (opening w)
opening_named w world =
    record { each = within_names (Stands (opening w)) (opening w) (within_more (OfWorld w) (Stands (opening w)) (world_stands w) (opening w) (opening_within w world)) }

-- at every moment
pub named_at : (w : WorldValue) (lines : List Line) (moment : ℕ) → IsWorld w → AreStepsOf w lines → NamedStand (state_at w lines moment)
unfolding opened
named_at w lines moment world steps = state_kept NamedStand named_each w (opened w) (take moment lines) (first_steps w (opened w) lines moment steps) (opening_named w world)
