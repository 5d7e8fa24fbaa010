-- The first refusal in an order of tests. docs/RULES.md, "The order of refusals".
use Rattle.std.specs.Prelude.{ℕ, Result, Ok, Err, Bool, Some, None, if◌then◌else◌, List, slice_get}
use Rattle.hk_model.specs.declared.calls.Refusal.{Refusal}
use Rattle.hk_model.specs.declared.calls.Refusal.TheVariants as refused
use Rattle.hk_rights.specs.Rights.{first_missing}

infixl 10 ◌>>=◌ ◌>>◌
-- the second test stands only where the first has passed
abbrev pub ◌>>=◌ : {A B C : Type 0} → Result A C → (A → Result B C) → Result B C
(Ok x) >>= f = f x
(Err e) >>= f = Err e

-- the same, where the first test gives nothing
abbrev pub ◌>>◌ : {A B C : Type 0} → Result A C → Result B C → Result B C
(Ok x) >> next = next
(Err e) >> next = Err e

-- nothing is refused where the test holds
abbrev pub unless : Bool → Refusal → Result (Unit {0}) Refusal
unless test refusal = if test then Ok tt else Err refusal

-- the rights have all that is needed, or the lowest one that is missing is named
abbrev pub allowed : ℕ → ℕ → ℕ → Result (Unit {0}) Refusal
allowed rights need step =
    elim (first_missing rights need) [ None ↦ Ok tt | Some n ↦ Err (refused.Denied step n) ]

-- what stands at an index, which is below the length
abbrev pub item_at : {A : Type 0} → List A → ℕ → ℕ → Result A Refusal
item_at items at step = elim (slice_get items at) [ None ↦ Err (refused.Range step) | Some x ↦ Ok x ]
