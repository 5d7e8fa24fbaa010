-- What is named along a path, step by step.
use Rattle.std.specs.Prelude.{◌≡◌, ℕ, ◌<◌, List, [], ◌∷◌, length, drop, slice_index, Some, refl}
use Rattle.std.proofs.Common.{arith}
use Rattle.hk_model.specs.declared.names.Name.{Name}
use Rattle.hk_model.specs.declared.names.Inc.{Inc}
use Rattle.hk_model.specs.declared.calls.Call.{Call}
use Rattle.hk_model.specs.declared.calls.Call.TheVariants as call
use Rattle.hk_model.specs.State.{State}
use Rattle.hk_model.specs.Places.{Place, SlotOf, standing, object_named, next_place, end_from, named_by}
use Rattle.hk_report.specs.declared.families.Begun.{Begun}
use Rattle.hk_report.specs.Doings.{asked_change}
use Rattle.hk_report.specs.Named.{named_change, named_last, named_list}

-- from any place on
last_named : (s : State) (p : Place) (rest : List ℕ) → named_last s (object_named (standing s p)) rest ≡ object_named (standing s (end_from s p rest))
last_named s p [] = refl
last_named s p (at ∷ rest) = last_named s (next_place s p at) rest

-- from the first step on
begins : (s : State) (inc : Inc) (path : List ℕ) → 0 < length path
    → named_last s (object_named (standing s (SlotOf inc (slice_index path 0)))) (drop 1 path) ≡ named_by s inc path
begins s inc [] h = absurd (omega arith)
begins s inc (at ∷ rest) h = rw (drop_one at rest) (last_named s (SlotOf inc at) rest)
  where
    drop_one : (at : ℕ) (rest : List ℕ) → drop 1 (at ∷ rest) ≡ rest
    drop_one at [] = refl
    drop_one at (x ∷ rest) = refl

pub named_begins : (s : State) (inc : Inc) (path : List ℕ) (at : ℕ) (name : Name) → 0 < length path → at ≡ slice_index path 0
    → name ≡ object_named (standing s (SlotOf inc at)) → named_last s name (drop 1 path) ≡ named_by s inc path
named_begins s inc path at name some e h = rw (h, e) (begins s inc path some)

-- ---- what is asked of a call

-- what changes a list is told to change the object
listed_named : (s : State) (inc : Inc) (c : Call) (name : Name) → named_list s inc (Some c) ≡ Some name → named_list s inc (Some c) ≡ named_change s inc (Some c)
listed_named s inc (call.Store list at from) name h = refl
listed_named s inc (call.Append list from) name h = refl
listed_named s inc (call.Erase list at) name h = refl
listed_named s inc c name h = absurd (cc)

pub asked_listed : (calls : List Begun) (s : State) (inc : Inc) (c : Call) (name : Name) → named_list s inc (Some c) ≡ Some name
    → named_list s inc (Some c) ≡ asked_change calls s inc c
asked_listed [] s inc c name h = refl
asked_listed (call ∷ calls) s inc c name h = listed_named s inc c name h

pub asked_more : (calls : List Begun) (s : State) (inc : Inc) (c : Call) → 0 < length calls → named_change s inc (Some c) ≡ asked_change calls s inc c
asked_more [] s inc c h = absurd (omega (arith, h))
asked_more (call ∷ calls) s inc c h = refl
