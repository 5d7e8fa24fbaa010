-- What stands at the opening, by the places of the script.
use Rattle.std.proofs.Common.{◌≡◌, ℕ, zero, suc, ◌+◌, ◌-◌, ◌<◌, ◌≤◌, List, [], ◌∷◌, ◌++◌, length, Bool, true, false, Option, Some, None, refl, sym, ◌∙◌, ap, arith, map}
use Rattle.std.proofs.Common.{replicate, get_or}
use Rattle.std.specs.Prelude.{slice_get, option_map}
use Rattle.std.specs.Option.{unwrap_or}
use Rattle.std.specs.Map.{lookup}
use Rattle.hk_model.specs.declared.names.Name.{Name}
use Rattle.hk_model.specs.declared.objects.Object.{Object}
use Rattle.hk_model.specs.declared.world.Born.{Born}
use Rattle.hk_model.specs.WorldValue.{WorldValue}
use Rattle.hk_model.specs.State.{same_name, no_object}
use Rattle.hk_model.specs.Opening.{opening, numbered, object_of}
use Rattle.hk_model.specs.Targets.{kernel_types}
use Rattle.hk_model.proofs.Standing.{name_laws, name_same}
use Rattle.hk_bound.specs.Columns.{name_at, opening_object, born_object}

abbrev found_at : ℕ → ℕ → List Object → Option Object
found_at n k os = lookup (same_name (name_at n)) (numbered {A = Object} {B = Name} (λ m. record { 0 = m }) k os)

apart_names : (n k : ℕ) → k < n → same_name (name_at n) (name_at k) ≡ false
apart_names n k h = by (same_name (name_at n) (name_at k)) refl
  where
    by : (b : Bool) → same_name (name_at n) (name_at k) ≡ b → b ≡ false
    by false e = refl
    by true e = let same : n ≡ k = ap (λ (x : Name). x.0) (name_same (name_at n) (name_at k) e) in absurd (omega (arith, h, same))

numbered_at : (n k j : ℕ) (os : List Object) → n ≡ k + j → found_at n k os ≡ slice_get os j
numbered_at n k zero [] e = refl
numbered_at n k (suc j) [] e = refl
numbered_at n k zero (o ∷ os) e =
    let same : n ≡ k = omega (arith, e) in
    let here : same_name (name_at n) (name_at k) ≡ true = rw same (name_laws.refl (name_at k)) in
    rw here refl
numbered_at n k (suc j) (o ∷ os) e =
    let other : same_name (name_at n) (name_at k) ≡ false = apart_names n k (omega (arith, e)) in
    let next : n ≡ k + 1 + j = omega (arith, e) in
    rw other (numbered_at n (k + 1) j os next)

mapped_at : (bs : List Born) (j : ℕ) → slice_get (map (λ (b : Born). object_of b.kind) bs) j ≡ option_map (λ (b : Born). object_of b.kind) (slice_get bs j)
mapped_at [] zero = refl
mapped_at [] (suc j) = refl
mapped_at (b ∷ bs) zero = refl
mapped_at (b ∷ bs) (suc j) = mapped_at bs j

kernel_at : (n : ℕ) (os : List Object) → n < kernel_types → unwrap_or (slice_get (replicate kernel_types no_object ++ os) n) no_object ≡ no_object
kernel_at zero os h = refl
kernel_at (suc zero) os h = refl
kernel_at (suc (suc zero)) os h = refl
kernel_at (suc (suc (suc zero))) os h = refl
kernel_at (suc (suc (suc (suc zero)))) os h = refl
kernel_at (suc (suc (suc (suc (suc zero))))) os h = refl
kernel_at (suc (suc (suc (suc (suc (suc zero)))))) os h = refl
kernel_at (suc (suc (suc (suc (suc (suc (suc n))))))) os h = absurd (omega (arith, h))

script_at : (n j : ℕ) (os : List Object) → n ≡ kernel_types + j → slice_get (replicate kernel_types no_object ++ os) n ≡ slice_get os j
script_at zero j os e = absurd (omega (arith, e))
script_at (suc zero) j os e = absurd (omega (arith, e))
script_at (suc (suc zero)) j os e = absurd (omega (arith, e))
script_at (suc (suc (suc zero))) j os e = absurd (omega (arith, e))
script_at (suc (suc (suc (suc zero)))) j os e = absurd (omega (arith, e))
script_at (suc (suc (suc (suc (suc zero))))) j os e = absurd (omega (arith, e))
script_at (suc (suc (suc (suc (suc (suc zero)))))) j os e = absurd (omega (arith, e))
script_at (suc (suc (suc (suc (suc (suc (suc n))))))) j os e = let same : n ≡ j = omega (arith, e) in rw same refl

-- a kernel type has nothing
pub kernel_object : (w : WorldValue) (n : ℕ) → n < kernel_types → opening_object w n ≡ no_object
unfolding opening
kernel_object w n h =
    let os : List Object = map (λ (b : Born). object_of b.kind) w.objects in
    ap (λ (o : Option Object). unwrap_or o no_object) (numbered_at n 0 n (replicate kernel_types no_object ++ map (λ (b : Born). object_of b.kind) w.objects) (omega arith))
    ∙ kernel_at n (map (λ (b : Born). object_of b.kind) w.objects) h

-- the objects of the script have the names behind
pub script_object : (w : WorldValue) (n : ℕ) → kernel_types ≤ n → opening_object w n ≡ born_object w.objects (n - kernel_types)
unfolding opening
script_object w n h =
    ap (λ (o : Option Object). unwrap_or o no_object)
    (numbered_at n 0 n (replicate kernel_types no_object ++ map (λ (b : Born). object_of b.kind) w.objects) (omega arith)
    ∙ (script_at n (n - kernel_types) (map (λ (b : Born). object_of b.kind) w.objects) (omega (arith, h)) ∙ mapped_at w.objects (n - kernel_types)))

-- by what stands at a place of the script
slice_at : (bs : List Born) (j : ℕ) (b : Born) → j < length bs → b ≡ get_or bs j b → slice_get bs j ≡ Some b
slice_at [] j b h e = absurd (omega (arith, h))
slice_at (x ∷ bs) zero b h e = ap Some (sym e)
slice_at (x ∷ bs) (suc j) b h e = slice_at bs j b (omega (arith, h)) e

slice_end : (bs : List Born) (j : ℕ) → length bs ≤ j → slice_get bs j ≡ None
slice_end [] zero h = refl
slice_end [] (suc j) h = refl
slice_end (x ∷ bs) zero h = absurd (omega (arith, h))
slice_end (x ∷ bs) (suc j) h = slice_end bs j (omega (arith, h))

pub born_there : (w : WorldValue) (n : ℕ) (b : Born) → kernel_types ≤ n → n - kernel_types < length w.objects → b ≡ get_or w.objects (n - kernel_types) b
    → opening_object w n ≡ object_of b.kind
born_there w n b h within e =
    script_object w n h ∙ ap (λ (o : Option Born). unwrap_or (option_map (λ (b : Born). object_of b.kind) o) no_object) (slice_at w.objects (n - kernel_types) b within e)

pub born_gone : (w : WorldValue) (n : ℕ) → kernel_types ≤ n → length w.objects ≤ n - kernel_types → opening_object w n ≡ no_object
born_gone w n h end =
    script_object w n h ∙ ap (λ (o : Option Born). unwrap_or (option_map (λ (b : Born). object_of b.kind) o) no_object) (slice_end w.objects (n - kernel_types) end)
