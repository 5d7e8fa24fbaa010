-- Which objects a call may come to change: its modifiable and its unconfined reach. docs/RULES.md, "Reaches".
use Rattle.std.specs.Prelude.{◌≡◌, ℕ, ◌≤◌, Bool, true, false, ◌&&◌, List, [], ◌∷◌, Option, Some, None, if◌then◌else◌, slice_get, option_map, nat_le}
use Rattle.std.specs.Option.{option_and_then}
use Rattle.hk_model.specs.declared.names.Name.{Name}
use Rattle.hk_model.specs.declared.names.Inc.{Inc}
use Rattle.hk_model.specs.declared.entries.Cap.{Cap}
use Rattle.hk_model.specs.declared.entries.Entry.{Entry}
use Rattle.hk_model.specs.declared.entries.Entry.TheVariants.{Held}
use Rattle.hk_model.specs.declared.lines.Line.{Line}
use Rattle.hk_model.specs.declared.reaches.Hop.{Hop}
use Rattle.hk_model.specs.declared.reaches.Hop.TheVariants as hop_by
use Rattle.hk_rights.specs.Rights.{has, modify_right, unconf_right}
use Rattle.hk_model.specs.WorldValue.{WorldValue}
use Rattle.hk_model.specs.State.{State, object}
use Rattle.hk_model.specs.Running.{state_at}
use Rattle.hk_model.specs.Places.{cap_of}
use Rattle.hk_model.specs.Under.{is_made_under, parameters}

-- a hop is from an object to one for which its list holds a capability at an index, at a moment
abbrev pub index_of : Hop → ℕ
index_of (hop_by.Entry index moment) = index
index_of (hop_by.Handed index moment) = index

abbrev pub moment_of : Hop → ℕ
moment_of (hop_by.Entry index moment) = moment
moment_of (hop_by.Handed index moment) = moment

-- it is handed to what was made under the call, and not by the entry
abbrev pub is_handed : Hop → Bool
is_handed (hop_by.Entry index moment) = false
is_handed (hop_by.Handed index moment) = true

-- where a reach has come to: an object, whether it stands good for the modifiable and for the unconfined reach, and at
-- which moment
pub record Reached : Type 0 where
  pub name : Name
  pub modify : Bool
  pub unconf : Bool
  pub moment : ℕ

-- what a capability stands good for: by its MODIFY and its UNCONF
abbrev pub reached_by : ℕ → Cap → Reached
reached_by moment cap =
    record { name = cap.name; modify = has cap.rights modify_right; unconf = has cap.rights unconf_right; moment = moment }

-- an object that was made under the call is handed over with both
abbrev pub handed_over : ℕ → Cap → Reached
handed_over moment cap = record { name = cap.name; modify = true; unconf = true; moment = moment }

-- the capability at an index of an object's list; an object that does not stand at that moment has no list there
abbrev pub listed_cap : State → Name → ℕ → Option Cap
listed_cap s name index = option_and_then cap_of (slice_get (object s name).entries index)

-- where a hop over this capability leads: by an entry from an object that stands good for the unconfined reach, handed
-- from one that stands good for the modifiable reach to one that was made under the call
abbrev pub onward : (Name → Bool) → Hop → Reached → Cap → Option Reached
onward made hop from cap =
    if is_handed hop
    then (if from.modify && made cap.name then Some (handed_over (moment_of hop) cap) else None)
    else (if from.unconf then Some (reached_by (moment_of hop) cap) else None)

-- where a hop leads, if it can be made, with the states at all moments and what was made under the call: moments never
-- fall
abbrev pub hop_to : (ℕ → State) → (Name → Bool) → Hop → Reached → Option Reached
hop_to at made hop from =
    if nat_le from.moment (moment_of hop) then option_and_then (onward made hop from) (listed_cap (at (moment_of hop)) from.name (index_of hop)) else None

-- where the hops lead, if each can be made
abbrev pub follow : (ℕ → State) → (Name → Bool) → List Hop → Reached → Option Reached
follow at made [] from = Some from
follow at made (hop ∷ hops) from = option_and_then (follow at made hops) (hop_to at made hop from)

-- a merged parameter of the call, as it stands when the call begins, at moment k
abbrev pub param_reached : List Entry → ℕ → ℕ → Option Reached
param_reached params k param = option_and_then (λ entry. option_map (reached_by k) (cap_of entry)) (slice_get params param)

-- where a parameter and hops lead
abbrev pub reach : (ℕ → State) → (Name → Bool) → List Entry → ℕ → ℕ → List Hop → Option Reached
reach at made params k param hops = option_and_then (follow at made hops) (param_reached params k param)

-- the parameter and the hops lead to the object by a moment, where it stands good
pub record IsReach (at : ℕ → State) (made : Name → Bool) (params : List Entry) (k : ℕ) (good_for : Reached → Bool) (moment : ℕ) (name : Name) (param : ℕ)
    (hops : List Hop) : Type 0 where
  pub there : Reached
  pub leads : reach at made params k param hops ≡ Some there
  pub same : there.name ≡ name
  pub good : good_for there ≡ true
  pub by_then : there.moment ≤ moment

-- some parameter and some hops do
pub record IsReached (at : ℕ → State) (made : Name → Bool) (params : List Entry) (k : ℕ) (good_for : Reached → Bool) (moment : ℕ) (name : Name) : Type 0 where
  pub param : ℕ
  pub hops : List Hop
  pub is : IsReach at made params k good_for moment name param hops

-- the modifiable reach of the call that begins at moment k, at a moment
abbrev pub IsModifiable : WorldValue → List Line → ℕ → Inc → ℕ → Name → Type 0
IsModifiable w lines k call moment name =
    IsReached (state_at w lines) (is_made_under w lines k call) (parameters w lines k call) k (λ there. there.modify) moment name

-- the unconfined reach
abbrev pub IsUnconfined : WorldValue → List Line → ℕ → Inc → ℕ → Name → Type 0
IsUnconfined w lines k call moment name =
    IsReached (state_at w lines) (is_made_under w lines k call) (parameters w lines k call) k (λ there. there.unconf) moment name

-- sets `M` and `U` of names at each moment that the rules of the reaches keep: the parameters at the beginning, the
-- entries of what is unconfined, and what was made under the call in the list of what is modifiable. The reaches are the
-- least sets of this kind
pub record AreReaches (at : ℕ → State) (made : Name → Bool) (params : List Entry) (k : ℕ) (M U : ℕ → Name → Type 0) : Type 0 where
  pub param_modify : (param : ℕ) (cap : Cap) → slice_get params param ≡ Some (Held cap) → has cap.rights modify_right ≡ true → M k cap.name
  pub param_unconf : (param : ℕ) (cap : Cap) → slice_get params param ≡ Some (Held cap) → has cap.rights unconf_right ≡ true → U k cap.name
  pub later_modify : (early late : ℕ) (x : Name) → k ≤ early → early ≤ late → M early x → M late x
  pub later_unconf : (early late : ℕ) (x : Name) → k ≤ early → early ≤ late → U early x → U late x
  pub entry_modify : (moment index : ℕ) (x : Name) (cap : Cap) → k ≤ moment → U moment x → listed_cap (at moment) x index ≡ Some cap → has cap.rights modify_right ≡ true
      → M moment cap.name
  pub entry_unconf : (moment index : ℕ) (x : Name) (cap : Cap) → k ≤ moment → U moment x → listed_cap (at moment) x index ≡ Some cap → has cap.rights unconf_right ≡ true
      → U moment cap.name
  pub handed : (moment index : ℕ) (x : Name) (cap : Cap) → k ≤ moment → M moment x → listed_cap (at moment) x index ≡ Some cap → made cap.name ≡ true
      → M moment cap.name × U moment cap.name

-- the sets keep the rules, and all tests of names that keep them pass what is in the sets: so the sets are the least
pub record AreLeastReaches (at : ℕ → State) (made : Name → Bool) (params : List Entry) (k : ℕ) (M U : ℕ → Name → Type 0) : Type 0 where
  pub keep : AreReaches at made params k M U
  pub least : (m u : ℕ → Name → Bool) → AreReaches at made params k (λ moment x. m moment x ≡ true) (λ moment x. u moment x ≡ true) → (moment : ℕ) (x : Name)
      → (M moment x → m moment x ≡ true) × (U moment x → u moment x ≡ true)

-- the law of the reaches: those of each call are the least sets that keep their rules
abbrev pub ReachLaw : WorldValue → List Line → Type 0
ReachLaw w lines =
    (k : ℕ) (call : Inc)
    → AreLeastReaches (state_at w lines) (is_made_under w lines k call) (parameters w lines k call) k (IsModifiable w lines k call) (IsUnconfined w lines k call)
