-- How the names of the slots stand: by their remainders, and in lists of cells; and which slots are free.
use Rattle.std.specs.Prelude.{◌≡◌, ℕ, ◌<◌, ◌%◌, ◌==◌, ◌||◌, ◌↔◌, Bool, true, false, List, length, Option, Some, None, IsSome, slice_index_or}
use Rattle.std.specs.List.{list_any, IsDistinct}
use Rattle.hk_model.specs.declared.names.Name.{Name}
use Rattle.hk_objects.specs.declared.body.Body.{Body}
use Rattle.hk_objects.specs.Slots.{name_at}
use Rattle.hk_objects.specs.Shelf.{IsShelf}
use Rattle.hk_links.specs.Chained.{Chained, in_list}

-- a slot is in a list of slots
abbrev pub has : List ℕ → ℕ → Bool
has slots slot = list_any (λ x. slot == x) slots

-- the name of a slot, by the names of all
abbrev pub named_at : List (Option Name) → ℕ → Option Name
named_at names slot = slice_index_or names slot None

-- a remainder leads to a slot
abbrev pub is_led_to : List (Option ℕ) → ℕ → ℕ → Bool
is_led_to places rest slot = elim (slice_index_or places rest None) [ None ↦ false | Some place ↦ place == slot ]

-- a remainder leads to a slot that has a name of this remainder
abbrev pub leads : List (Option Name) → List (Option ℕ) → ℕ → Bool
leads names places rest = elim (slice_index_or places rest None) [
  | None ↦ false
  | Some place ↦ elim (named_at names place) [ None ↦ false | Some name ↦ name.0 % 65536 == rest ]
]

-- each slot with a name is the one of the name's remainder, or the one that this leads to, or in the list for it, and each cell of a
-- list is a slot with a name
pub record IsIndexed (names : List (Option Name)) (places : List (Option ℕ)) (c : Chained) : Type 0 where
  pub room : length names ≡ 65536
  pub leading : length places ≡ 65536
  pub cells : c.cells ≡ 65536
  pub size : length c.lists ≡ 65536
  pub there : (slot : ℕ) (name : Name) → named_at names slot ≡ Some name
      → ((slot == name.0 % 65536) || is_led_to places (name.0 % 65536) slot) || in_list c.lists (name.0 % 65536) slot ≡ true
  pub named : (l slot : ℕ) → l < 65536 → in_list c.lists l slot ≡ true → IsSome (named_at names slot)

-- slots of the table, each once
pub record AreSlots (slots : List ℕ) : Type 0 where
  pub once : IsDistinct (λ x y. x == y) slots
  pub low : (slot : ℕ) → has slots slot ≡ true → slot < 65536

-- the index has the name of each slot, and just the slots in which nothing stands are free
pub record IsTable (slots : List (Option (Name × Body))) (index : List (Option Name)) (idle : List ℕ) (next : Name) : Type 0 where
  pub shelf : IsShelf slots next
  pub size : length index ≡ 65536
  pub names : (slot : ℕ) → named_at index slot ≡ name_at slots slot
  pub free : (slot : ℕ) → slot < 65536 → has idle slot ≡ true ↔ name_at slots slot ≡ None
