-- Labels, found by numbers.
use Rattle.std.proofs.Common.{◌≡◌, ℕ, ◌+◌, ◌-◌, ◌<◌, ◌≤◌, List, [], ◌++◌, length, map, get_or, refl, sym, ◌∙◌, arith}
use Rattle.std.proofs.lemmas.List.{get_or-append_right, get_or-map}
use Rattle.hk_model.specs.declared.world.Born.{Born}
use Rattle.hk_model.specs.declared.world.Code.{Code}
use Rattle.hk_format.specs.Names.{kernel_names}

-- the labels of objects stand behind the names of the kernel types
pub declared_label : (objects : List Born) (n : ℕ) (d : Born) → 7 ≤ n → n < 7 + length objects
    → (get_or objects (n - 7) d).label ≡ get_or (kernel_names ++ map (λ (b : Born). b.label) objects) n []
declared_label objects n d above there =
    sym (get_or-append_right kernel_names (map (λ (b : Born). b.label) objects) 7 n [] refl above ∙ get_or-map (λ (b : Born). b.label) objects (n - 7) d [] (omega arith))

pub code_label : (all : List Code) (n : ℕ) (d : Code) → n < length all → (get_or all n d).label ≡ get_or (map (λ (c : Code). c.label) all) n []
code_label all n d there = sym (get_or-map (λ (c : Code). c.label) all n d [] there)
