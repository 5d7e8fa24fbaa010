-- The changes under confined calls, each with its reason. docs/RULES.md, "Changes and their reasons".
use Rattle.std.specs.Prelude.{◌≡◌, ◌↔◌, ◌⊎◌, ℕ, ◌+◌, ◌<◌, Bool, true, false, IsTrue, List, [], ◌∷◌, ◌++◌, length, Some, None, map, filter}
use Rattle.std.specs.List.{AllByRecursion, flat_map, Contains}
use Rattle.std.specs.Ordering.{nat_cmp, is_le}
use Rattle.std.specs.Cmp.Lexicographic.{slice_cmp}
use Rattle.hk_model.specs.declared.names.Name.{Name}
use Rattle.hk_model.specs.declared.names.Inc.{Inc}
use Rattle.hk_model.specs.declared.entries.Entry.{Entry}
use Rattle.hk_model.specs.declared.lines.Line.{Line}
use Rattle.hk_model.specs.declared.reaches.Hop.{Hop}
use Rattle.hk_model.specs.declared.reaches.Reach.{Reach}
use Rattle.hk_model.specs.declared.reaches.Reach.TheVariants.{Made, Param}
use Rattle.hk_model.specs.declared.reaches.Change.{Change}
use Rattle.hk_model.specs.WorldValue.{WorldValue}
use Rattle.hk_model.specs.State.{State, incarnation}
use Rattle.hk_model.specs.Running.{opened, state_at}
use Rattle.hk_model.specs.Lines.{done_call, enters_call, changed, told}
use Rattle.hk_model.specs.Under.{is_under, is_made_under, parameters}
use Rattle.hk_model.specs.Reaches.{index_of, moment_of, is_handed, IsReach}
use Rattle.hk_model.specs.Confinement.{IsConfinedCall, IsChange}

-- what the order of reaches looks at, hop by hop: the moment, the index, and an entry before what is handed
abbrev pub hop_key : Hop → List ℕ
hop_key hop = moment_of hop ∷ index_of hop ∷ (elim (is_handed hop) [ true ↦ 1 | false ↦ 0 ]) ∷ []

-- the fewest hops come first, then the least parameter, then the hops in their order
abbrev pub reach_key : ℕ → List Hop → List ℕ
reach_key param hops = length hops ∷ param ∷ flat_map hop_key hops

-- one list of numbers is the other or comes before it, where they first differ
abbrev pub is_at_most : List ℕ → List ℕ → Bool
is_at_most a b = is_le (slice_cmp nat_cmp a b)

-- the parameter and the hops lead to the object, which stands good for the modifiable reach, and no others that do come
-- before them
pub record IsLeastReach (at : ℕ → State) (made : Name → Bool) (params : List Entry) (k moment : ℕ) (name : Name) (param : ℕ) (hops : List Hop) : Type 0 where
  pub is : IsReach at made params k (λ there. there.modify) moment name param hops
  pub least : (other : ℕ) (others : List Hop) → IsReach at made params k (λ there. there.modify) moment name other others
      → IsTrue (is_at_most (reach_key param hops) (reach_key other others))

-- a call that begins at a moment
pub record Beginning : Type 0 where
  pub call : Inc
  pub moment : ℕ

-- one more confined call begins where a line enters a procedure and the incarnation that it makes is confined
abbrev pub confined_by : State → Line → State → List Beginning → List Beginning
confined_by s line t calls = elim (enters_call (done_call line)) [
  | true ↦ elim (incarnation t s.next_inc).confined [
    | true ↦ calls ++ record { call = s.next_inc; moment = t.events } ∷ []
    | false ↦ calls
  ]
  | false ↦ calls
]

-- the confined calls of a history, by rising incarnation
abbrev pub confined_calls : WorldValue → List Line → List Beginning
confined_calls w lines = told confined_by w (opened w) lines []

-- the line at a moment changes an object under a confined call
pub record BareChange : Type 0 where
  pub moment : ℕ
  pub under : Beginning
  pub object : Name

-- of some calls those that the incarnation of a line is under
abbrev pub calls_over : WorldValue → List Line → List Beginning → Line → List Beginning
calls_over w lines calls line = filter (λ (b : Beginning). is_under w lines b.moment b.call line.inc) calls

-- the changes by one more line: for each confined call that its incarnation is under, by rising call
abbrev pub bare_changes_by : WorldValue → List Line → List Beginning → State → Line → State → List BareChange → List BareChange
bare_changes_by w lines calls s line t so_far = elim (changed s line) [
  | None ↦ so_far
  | Some name ↦ so_far ++ map (λ b. record { moment = s.events; under = b; object = name }) (calls_over w lines calls line)
]

-- all changes of a history under confined calls, by line and then by call
abbrev pub bare_changes : WorldValue → List Line → List BareChange
bare_changes w lines = told (bare_changes_by w lines (confined_calls w lines)) w (opened w) lines []

-- the reason of a change: that the object was made under the call, which stands before a reach; or the least reach at the
-- moment before the line
abbrev pub IsReason : WorldValue → List Line → ℕ → Inc → ℕ → Name → Reach → Type 0
IsReason w lines k call moment name Made = is_made_under w lines k call name ≡ true
IsReason w lines k call moment name (Param param hops) =
    (is_made_under w lines k call name ≡ false)
    × IsLeastReach (state_at w lines) (is_made_under w lines k call) (parameters w lines k call) k moment name param hops

-- the change is this one, with its reason; its line is numbered from 1
pub record IsExplained (w : WorldValue) (lines : List Line) (bare : BareChange) (change : Change) : Type 0 where
  pub line : change.line ≡ bare.moment + 1
  pub under : change.under ≡ bare.under.call
  pub object : change.object ≡ bare.object
  pub reason : IsReason w lines bare.under.moment bare.under.call bare.moment bare.object change.reach

-- the changes are these, each with its reason
abbrev pub AreExplained : WorldValue → List Line → List BareChange → List Change → Type 0
AreExplained w lines [] [] = Unit {0}
AreExplained w lines (bare ∷ bares) (change ∷ changes) = IsExplained w lines bare change × AreExplained w lines bares changes
AreExplained w lines [] (change ∷ changes) = ⊥
AreExplained w lines (bare ∷ bares) [] = ⊥

-- these are the changes of a history under confined calls, in order, each with its reason
abbrev pub AreChanges : WorldValue → List Line → List Change → Type 0
AreChanges w lines changes = AreExplained w lines (bare_changes w lines) changes

-- the change of an object by the line at a moment, under the call that begins at moment k
abbrev pub bare_change : ℕ → Inc → ℕ → Name → BareChange
bare_change k call moment name = record { moment = moment; under = record { call = call; moment = k }; object = name }

-- a change stands before another: by line, and then by call
abbrev pub IsBefore : BareChange → BareChange → Type 0
IsBefore a b = (a.moment < b.moment) ⊎ ((a.moment ≡ b.moment) × (a.under.call.0 < b.under.call.0))

-- each stands before all that come later
abbrev pub AreInOrder : List BareChange → Type 0
AreInOrder [] = Unit {0}
AreInOrder (change ∷ later) = AllByRecursion (IsBefore change) later × AreInOrder later

-- the list has an item for a confined call, a line and an object exactly where the line is by an incarnation under the call and
-- changes the object; it is in order, and so has no item twice
pub record ListsChanges (w : WorldValue) (lines : List Line) : Type 0 where
  pub exactly : (k moment : ℕ) (call : Inc) (name : Name)
      → Contains (bare_changes w lines) (bare_change k call moment name) ↔ (IsConfinedCall w lines k call × IsChange w lines k call moment name)
  pub in_order : AreInOrder (bare_changes w lines)

-- there is one list of the changes with their reasons at most
abbrev pub HasOneList : WorldValue → List Line → Type 0
HasOneList w lines = (a b : List Change) → AreChanges w lines a → AreChanges w lines b → a ≡ b
