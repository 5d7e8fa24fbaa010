-- What keeps a table with its index and its free slots.
use Rattle.std.proofs.Common.{◌≡◌, ◌≢◌, ℕ, ◌+◌, ◌<◌, Bool, true, false, List, [], ◌∷◌, length, set, Option, Some, None, IsSome, option_map, refl, ap, ◌∙◌, sym, arith}
use Rattle.std.proofs.Common.{⊎_elim, get_or-set_same, get_or-set_other, length-set, IsTrue, ◌↔◌}
use Rattle.std.specs.Prelude.{◌==◌, nat_lt}
use Rattle.std.proofs.lemmas.Bool.Decides.{nat_tests}
use Rattle.hk_model.specs.declared.names.Name.{Name}
use Rattle.hk_links.specs.Chained.{without}
use Rattle.hk_links.proofs.Paths.{any-without}
use Rattle.hk_objects.specs.declared.body.Body.{Body}
use Rattle.hk_objects.specs.Slots.{place, name_at, change, standing}
use Rattle.hk_objects.specs.Indexed.{IsTable, has, named_at}
use Rattle.hk_objects.proofs.Standing.{name_at_change, name_at_set, all_taken, one_free}
use Rattle.hk_objects.proofs.Shelves.{empty_shelf, shelf_change, shelf_make, shelf_gone}

name_of : Option (Name × Body) → Option Name
name_of p = option_map (λ (e : Name × Body). e.0) p

unnamed : (p : Option (Name × Body)) → option_map (λ (e : Name × Body). e.0) p ≡ None → p ≡ None
unnamed None e = refl
unnamed (Some p) e = absurd (cc)

named_some : (p : Option (Name × Body)) → IsSome p → option_map (λ (e : Name × Body). e.0) p ≡ None → ⊥
named_some None some e = absurd (cc)
named_some (Some p) some e = absurd (cc)

module _ (ps : List (Option (Name × Body))) (names : List (Option Name)) (free : List ℕ) (next : Name) (h : IsTable ps names free next) where
  -- another part of an object
  pub table_change : (s : ℕ) (f : Body → Body) → IsTable (change ps s f) names free next
  table_change s f = record {
    shelf = shelf_change ps next s f h.shelf;
    size = h.size;
    names = λ k. h.names k ∙ sym (name_at_change ps s f k);
    free = λ k low. (λ e. name_at_change ps s f k ∙ (h.free k low).0 e, λ e. (h.free k low).1 (sym (name_at_change ps s f k) ∙ e));
  }

  pub free_place : (s : ℕ) → s < 65536 → has free s ≡ true → place ps s ≡ None
  free_place s low e = unnamed (place ps s) ((h.free s low).0 e)

  pub free_name : (s : ℕ) → s < 65536 → has free s ≡ true → named_at names s ≡ None
  free_name s low e = h.names s ∙ (h.free s low).0 e

  pub taken : (s : ℕ) → s < 65536 → IsSome (place ps s) → has free s ≡ false
  taken s low some = with (has free s) (h.free s low).0 where
    with : (b : Bool) → (b ≡ true → name_at ps s ≡ None) → b ≡ false
    with true e = absurd (named_some (place ps s) some (e refl))
    with false e = refl

  -- a new object in a free slot
  pub table_make : (s : ℕ) (o : Body) → s < 65536 → has free s ≡ true
      → IsTable (set ps s (Some (next, o))) (set names s (Some next)) (without s free) (record { 0 = next.0 + 1 })
  table_make s o low e =
      let inside : s < length ps = omega (arith, h.shelf.room) in
      record {
        shelf = shelf_make ps next s o h.shelf inside;
        size = length-set names s (Some next) ∙ h.size;
        names = λ k. ⊎_elim
            (λ (x : k ≡ s × (name_at (set ps s (Some (next, o))) k ≡ Some next)). rw x.0 (get_or-set_same names s (Some next) None (omega (arith, h.size))) ∙ sym x.1)
            (λ (x : k ≢ s × (name_at (set ps s (Some (next, o))) k ≡ name_at ps k)). get_or-set_other names s k (Some next) None x.0 ∙ h.names k ∙ sym x.1)
            (name_at_set ps s (Some (next, o)) k inside);
        free = λ k small. ⊎_elim
            (λ (x : k ≡ s × (name_at (set ps s (Some (next, o))) k ≡ Some next)).
            let no : has (without s free) k ≡ false = any-without s k free ∙ (let t : (k == s) ≡ true = grind (arith, nat_tests, x.0) in rw t refl) in
            (λ a. absurd (cc (a, no)), λ a. absurd (let b = x.1 in cc (a, b))))
            (λ (x : k ≢ s × (name_at (set ps s (Some (next, o))) k ≡ name_at ps k)).
            let same : has (without s free) k ≡ has free k = any-without s k free ∙ (let t : (k == s) ≡ false = grind (arith, nat_tests, x.0) in rw t refl) in
            (λ a. x.1 ∙ (h.free k small).0 (sym same ∙ a), λ a. same ∙ (h.free k small).1 (sym x.1 ∙ a)))
            (name_at_set ps s (Some (next, o)) k inside);
      }

  -- an object taken away
  pub table_gone : (s : ℕ) → s < 65536 → IsTable (set ps s None) (set names s None) (s ∷ free) next
  table_gone s low =
      let inside : s < length ps = omega (arith, h.shelf.room) in
      record {
        shelf = shelf_gone ps next s h.shelf inside;
        size = length-set names s None ∙ h.size;
        names = λ k. ⊎_elim
            (λ (x : k ≡ s × (name_at (set ps s None) k ≡ None)). rw x.0 (get_or-set_same names s None None (omega (arith, h.size))) ∙ sym x.1)
            (λ (x : k ≢ s × (name_at (set ps s None) k ≡ name_at ps k)). get_or-set_other names s k None None x.0 ∙ h.names k ∙ sym x.1)
            (name_at_set ps s None k inside);
        free = λ k small. ⊎_elim
            (λ (x : k ≡ s × (name_at (set ps s None) k ≡ None)).
            let yes : has (s ∷ free) k ≡ true = let t : (k == s) ≡ true = grind (arith, nat_tests, x.0) in rw t refl in
            (λ a. x.1, λ a. yes))
            (λ (x : k ≢ s × (name_at (set ps s None) k ≡ name_at ps k)).
            let same : has (s ∷ free) k ≡ has free k = let t : (k == s) ≡ false = grind (arith, nat_tests, x.0) in rw t refl in
            (λ a. x.1 ∙ (h.free k small).0 (sym same ∙ a), λ a. same ∙ (h.free k small).1 (sym x.1 ∙ a)))
            (name_at_set ps s None k inside);
      }

  -- where no slot is free as many objects stand as there are slots
  pub full_table : free ≡ [] → length (standing ps) ≡ 65536
  full_table e = all_taken ps h.shelf.apart (λ k low. here k (omega (arith, h.shelf.room))) ∙ h.shelf.room where
    here : (k : ℕ) → k < 65536 → IsSome (place ps k)
    here k low = with (place ps k) (h.free k low).1 where
      with : (p : Option (Name × Body)) → (option_map (λ (e : Name × Body). e.0) p ≡ None → has free k ≡ true) → IsSome p
      with None empty = absurd (let a : has free k ≡ true = empty refl in let b : has free k ≡ false = ap (λ (slots : List ℕ). has slots k) e in cc (a, b))
      with (Some p) empty = refl

  pub room_left : (s : ℕ) → s < 65536 → has free s ≡ true → length (standing ps) < 65536
  room_left s low e = let k = one_free ps s (omega (arith, h.shelf.room)) (free_place s low e) in omega (arith, k, h.shelf.room)

  pub full_or_not : (b : Bool) → (b ≡ true → free ≡ []) → (b ≡ false → (s : ℕ) × (s < 65536) × (has free s ≡ true)) → IsTrue b ↔ (length (standing ps) ≡ 65536)
  full_or_not true empty some = (λ h. full_table (empty refl), λ e. refl)
  full_or_not false empty some = (λ h. absurd (cc), λ e. absurd (let one = some refl in let k : length (standing ps) < 65536 = room_left one.0 one.1 one.2 in omega arith))

pub table_empty : (ps : List (Option (Name × Body))) (names : List (Option Name)) (free : List ℕ) (next : Name) → length ps ≡ 65536 → length names ≡ 65536
    → ((k : ℕ) → place ps k ≡ None)
    → ((k : ℕ) → named_at names k ≡ None) → ((k : ℕ) → has free k ≡ nat_lt k 65536) → IsTable ps names free next
table_empty ps names free next room size empty unnamed all = record {
  shelf = empty_shelf ps next empty room;
  size = size;
  names = λ k. unnamed k ∙ sym (none k);
  free = λ k low. (λ e. none k, λ e. all k ∙ grind (arith, nat_tests, low));
} where
  none : (k : ℕ) → name_at ps k ≡ None
  none k = ap (option_map (λ (e : Name × Body). e.0)) (empty k)
