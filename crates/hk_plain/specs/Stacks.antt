-- The live incarnations, and their numbers by process. docs/RULES.md, "Objects, incarnations, processes".
use Rattle.std.specs.Prelude.{ℕ, Bool, ◌≡◌, ◌+◌, ◌-◌, ◌≤◌, ◌==◌, nat_lt, not, List, [], ◌∷◌, filter, slice_set, if◌then◌else◌}
use Rattle.std.specs.Map.{lookup, remove_entry}
use Rattle.std.specs.Option.{unwrap_or}
use Rattle.std.specs.Ordering.{nat_cmp, is_eq}
use Rattle.std.specs.BTreeMap.{insert_entry}
use Rattle.hk_model.specs.declared.names.Inc.{Inc}
use Rattle.hk_model.specs.declared.names.Proc.{Proc}
use Rattle.hk_model.specs.declared.objects.Incarnation.{Incarnation}
use Rattle.hk_model.specs.declared.entries.Entry.{Entry}
use Rattle.hk_model.specs.State.{same_inc, inc_cmp, no_incarnation}

-- the live incarnations by rising number, and the number that the next one takes
pub record LiveOnes : Type 0 where
  pub live : List (Inc × Incarnation)
  pub next : Inc

-- one more incarnation, which takes the next number
abbrev pub added : LiveOnes → Incarnation → LiveOnes
added ones new = record { live = insert_entry inc_cmp ones.live ones.next new; next = record { 0 = ones.next.0 + 1 } }

-- without the one that took the last number, which is given back
abbrev pub without_last : LiveOnes → LiveOnes
without_last ones =
    let last : Inc = record { 0 = ones.next.0 - 1 } in record { live = remove_entry (same_inc last) ones.live; next = last }

-- an incarnation of these, with this entry in a slot
abbrev pub with_slot : List (Inc × Incarnation) → Inc → ℕ → Entry → Incarnation
with_slot live inc slot entry =
    let was = unwrap_or (lookup (same_inc inc) live) no_incarnation in record was { slots = slice_set was.slots slot entry }

-- the same process
abbrev pub same_proc : Proc → Proc → Bool
same_proc a b = is_eq (nat_cmp a.0 b.0)

-- the stack of a process; where there is none, it is empty
abbrev pub stack : List (Proc × List Inc) → Proc → List Inc
stack stacks proc = unwrap_or (lookup (same_proc proc) stacks) []

-- the numbers but this one
abbrev pub without : Inc → List Inc → List Inc
without inc numbers = filter (λ i. not (i.0 == inc.0)) numbers

-- the numbers with one more, before the first that is not below it
abbrev pub placed : Inc → List Inc → List Inc
placed inc [] = inc ∷ []
placed inc (i ∷ is) = if nat_lt i.0 inc.0 then i ∷ placed inc is else inc ∷ i ∷ is

-- the numbers of the live incarnations of a process, oldest first
abbrev pub numbers_of : Proc → List (Inc × Incarnation) → List Inc
numbers_of proc [] = []
numbers_of proc (e ∷ es) = if e.1.proc.0 == proc.0 then e.0 ∷ numbers_of proc es else numbers_of proc es

-- the incarnations but those of these numbers
abbrev pub remove_all : List Inc → List (Inc × Incarnation) → List (Inc × Incarnation)
remove_all [] es = es
remove_all (inc ∷ rest) es = remove_all rest (remove_entry (same_inc inc) es)

-- the numbers rise, from `low` on and below `high`
abbrev pub Rises : ℕ → List (Inc × Incarnation) → ℕ → Type 0
Rises low [] high = low ≤ high
Rises low (e ∷ es) high = (low ≤ e.0.0) × Rises (e.0.0 + 1) es high

-- each process's stack has the numbers of its live incarnations
pub record IsStacked (live : List (Inc × Incarnation)) (stacks : List (Proc × List Inc)) (next : Inc) : Type 0 where
  pub rising : Rises 0 live next.0
  pub stacked : (proc : Proc) → stack stacks proc ≡ numbers_of proc live
