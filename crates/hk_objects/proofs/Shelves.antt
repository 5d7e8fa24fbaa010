-- What keeps the facts of a table of slots.
use Rattle.std.proofs.Common.{◌≡◌, ℕ, ◌<◌, List, length, Option, Some, None, ap, ◌∙◌, sym, length-set, option_map, set, ⊎_elim, ◌≢◌, arith, ◌+◌}
use Rattle.hk_model.specs.declared.names.Name.{Name}
use Rattle.hk_objects.specs.declared.body.Body.{Body}
use Rattle.hk_objects.specs.Slots.{place, name_at, change}
use Rattle.hk_objects.specs.Shelf.{IsShelf}
use Rattle.hk_objects.proofs.Standing.{name_at_change, name_at_set}

pub empty_shelf : (ps : List (Option (Name × Body))) (next : Name) → ((k : ℕ) → place ps k ≡ None) → length ps ≡ 65536 → IsShelf ps next
empty_shelf ps next empty room = record {
  apart = λ i j n h k. let e : name_at ps i ≡ None = ap (option_map (λ (e : Name × Body). e.0)) (empty i) in absurd (cc (e, h));
  below = λ i n h. let e : name_at ps i ≡ None = ap (option_map (λ (e : Name × Body). e.0)) (empty i) in absurd (cc (e, h));
  room = room;
}

pub shelf_change : (ps : List (Option (Name × Body))) (next : Name) (s : ℕ) (f : Body → Body) → IsShelf ps next → IsShelf (change ps s f) next
shelf_change ps next s f h = record {
  apart = λ i j n a b. h.apart i j n (sym (name_at_change ps s f i) ∙ a) (sym (name_at_change ps s f j) ∙ b);
  below = λ i n a. h.below i n (sym (name_at_change ps s f i) ∙ a);
  room = length-set ps s _ ∙ h.room;
}

pub shelf_make : (ps : List (Option (Name × Body))) (next : Name) (s : ℕ) (o : Body) → IsShelf ps next → s < length ps
    → IsShelf (set ps s (Some (next, o))) (record { 0 = next.0 + 1 })
shelf_make ps next s o h low = record {
  apart = λ i j n a b. ⊎_elim
      (λ (x : i ≡ s × (name_at (set ps s (Some (next, o))) i ≡ Some next)). ⊎_elim
      (λ (y : j ≡ s × (name_at (set ps s (Some (next, o))) j ≡ Some next)). x.0 ∙ sym y.0)
      (λ (y : j ≢ s × (name_at (set ps s (Some (next, o))) j ≡ name_at ps j)). let same : n ≡ next = cc in let low : n.0 < next.0 = h.below j n (sym y.1 ∙ b) in let e : n.0
      ≡ next.0 = ap (λ (m : Name). m.0) same in absurd (omega arith))
      (name_at_set ps s (Some (next, o)) j low))
      (λ (x : i ≢ s × (name_at (set ps s (Some (next, o))) i ≡ name_at ps i)). ⊎_elim
      (λ (y : j ≡ s × (name_at (set ps s (Some (next, o))) j ≡ Some next)). let same : n ≡ next = cc in let low : n.0 < next.0 = h.below i n (sym x.1 ∙ a) in let e : n.0
      ≡ next.0 = ap (λ (m : Name). m.0) same in absurd (omega arith))
      (λ (y : j ≢ s × (name_at (set ps s (Some (next, o))) j ≡ name_at ps j)). h.apart i j n (sym x.1 ∙ a) (sym y.1 ∙ b))
      (name_at_set ps s (Some (next, o)) j low))
      (name_at_set ps s (Some (next, o)) i low);
  below = λ i n a. ⊎_elim
      (λ (x : i ≡ s × (name_at (set ps s (Some (next, o))) i ≡ Some next)). let same : n ≡ next = cc in let e : n.0 ≡ next.0 = ap (λ (m : Name). m.0) same in omega arith)
      (λ (x : i ≢ s × (name_at (set ps s (Some (next, o))) i ≡ name_at ps i)). let low : n.0 < next.0 = h.below i n (sym x.1 ∙ a) in omega arith)
      (name_at_set ps s (Some (next, o)) i low);
  room = length-set ps s _ ∙ h.room;
}

pub shelf_gone : (ps : List (Option (Name × Body))) (next : Name) (s : ℕ) → IsShelf ps next → s < length ps → IsShelf (set ps s None) next
shelf_gone ps next s h low = record {
  apart = λ i j n a b. h.apart i j n (was i n a) (was j n b);
  below = λ i n a. h.below i n (was i n a);
  room = length-set ps s _ ∙ h.room;
} where
  was : (k : ℕ) (n : Name) → name_at (set ps s None) k ≡ Some n → name_at ps k ≡ Some n
  was k n a = ⊎_elim
      (λ (x : k ≡ s × (name_at (set ps s None) k ≡ None)). absurd (cc))
      (λ (x : k ≢ s × (name_at (set ps s None) k ≡ name_at ps k)). sym x.1 ∙ a)
      (name_at_set ps s None k low)

-- no slot has the next name
pub next_is_fresh : (ps : List (Option (Name × Body))) (next : Name) → IsShelf ps next → (k : ℕ) → name_at ps k ≡ Some next → ⊥
next_is_fresh ps next h k named = let low : next.0 < next.0 = h.below k next named in omega arith
