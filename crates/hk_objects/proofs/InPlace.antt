-- What keeps objects in the slots of their own numbers.
use Rattle.std.proofs.Common.{◌≡◌, ◌≢◌, ℕ, ◌+◌, ◌<◌, ◌≤◌, List, length, set, Option, Some, None, option_map, refl, ap, ◌∙◌, sym, subst, arith, ⊎_elim, cond, ◌&&◌, Bool, true, false}
use Rattle.std.proofs.Common.{get_or-set_same}
use Rattle.std.specs.Prelude.{◌==◌}
use Rattle.std.proofs.lemmas.Bool.{cases_eq, cases_lt}
use Rattle.std.proofs.lemmas.Bool.Decides.{nat_tests}
use Rattle.std.proofs.lemmas.List.{get_or_past}
use Rattle.hk_model.specs.declared.names.Name.{Name}
use Rattle.hk_objects.specs.declared.body.Body.{Body}
use Rattle.hk_objects.specs.Slots.{place, name_at, change, AreInPlace}
use Rattle.hk_objects.proofs.Standing.{name_at_change, name_at_set}

-- none need stand
pub none_in_place : (ps : List (Option (Name × Body))) → AreInPlace ps 0
none_in_place ps k low = absurd (omega arith)

-- there are no more than there are slots
pub few_in_place : (ps : List (Option (Name × Body))) (many : ℕ) → AreInPlace ps many → many ≤ length ps
few_in_place ps many h = ⊎_elim
    (λ (high : length ps < many). absurd (
    let n : name_at ps (length ps) ≡ Some (record { 0 = length ps }) = h (length ps) high in
    let e : name_at ps (length ps) ≡ None = ap (option_map (λ (e : Name × Body). e.0)) (get_or_past ps (length ps) None (omega arith)) in cc (n, e)))
    (λ (low : many ≤ length ps). low)
    (cases_lt (length ps) many)

-- another part of an object
pub change_in_place : (ps : List (Option (Name × Body))) (s : ℕ) (f : Body → Body) (many : ℕ) → AreInPlace ps many → AreInPlace (change ps s f) many
change_in_place ps s f many h = λ k low. name_at_change ps s f k ∙ h k low

-- a slot that is written behind them
behind : (ps : List (Option (Name × Body))) (s : ℕ) (p : Option (Name × Body)) (many : ℕ) → s < length ps → many ≤ s → AreInPlace ps many → AreInPlace (set ps s p) many
behind ps s p many inside high h = λ k low. ⊎_elim
    (λ (x : k ≡ s × (name_at (set ps s p) k ≡ option_map (λ (e : Name × Body). e.0) p)). absurd (let same = x.0 in omega arith))
    (λ (x : k ≢ s × (name_at (set ps s p) k ≡ name_at ps k)). x.1 ∙ h k low)
    (name_at_set ps s p k inside)

-- a free slot stands behind them
free_behind : (ps : List (Option (Name × Body))) (s many : ℕ) → place ps s ≡ None → AreInPlace ps many → many ≤ s
free_behind ps s many free h = ⊎_elim
    (λ (low : s < many). absurd (
    let n : name_at ps s ≡ Some (record { 0 = s }) = h s low in
    let e : name_at ps s ≡ None = ap (option_map (λ (e : Name × Body). e.0)) free in cc (n, e)))
    (λ (high : many ≤ s). high)
    (cases_lt s many)

-- a new object in a free slot
pub make_in_place : (ps : List (Option (Name × Body))) (s : ℕ) (next : Name) (o : Body) (many now : ℕ) → s < length ps → place ps s ≡ None
    → now ≡ cond (s == many && next.0 == s) (s + 1) many → AreInPlace ps many → AreInPlace (set ps s (Some (next, o))) now
make_in_place ps s next o many now inside free is h = subst (λ (m : ℕ). AreInPlace new m) (sym is) (by (s == many) (next.0 == s) refl refl) where
  new : List (Option (Name × Body))
  new = set ps s (Some (next, o))

  kept : AreInPlace new many
  kept = behind ps s (Some (next, o)) many inside (free_behind ps s many free h) h

  more : s ≡ many → next.0 ≡ s → AreInPlace new (s + 1)
  more last own = λ k low. ⊎_elim
      (λ (same : k ≡ s).
      let e : name_at new k ≡ Some next = rw same (ap (option_map (λ (e : Name × Body). e.0)) (get_or-set_same ps s (Some (next, o)) None inside)) in
      e ∙ ap (λ (n : ℕ). let m : Name = record { 0 = n } in Some m) (own ∙ sym same))
      (λ (other : k ≢ s). kept k (omega arith))
      (cases_eq k s)

  by : (a b : Bool) → (s == many) ≡ a → (next.0 == s) ≡ b → AreInPlace new (cond (a && b) (s + 1) many)
  by true true last own = more (grind (arith, nat_tests)) (grind (arith, nat_tests))
  by true false last own = kept
  by false b last own = kept

-- an object taken away
pub gone_in_place : (ps : List (Option (Name × Body))) (s many now : ℕ) → s < length ps → now ≤ s → now ≤ many → AreInPlace ps many → AreInPlace (set ps s None) now
gone_in_place ps s many now inside below fewer h = behind ps s None now inside below (λ k low. h k (omega arith))
