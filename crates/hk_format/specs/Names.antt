-- The names of a script's objects and codes, by their numbers. docs/FORMATS.md, "Names" and "Loading".
use Rattle.std.specs.Prelude.{ℕ, Bool, true, false, List, [], ◌∷◌, ◌++◌, map, codes, slice_index_or}
use Rattle.hk_model.specs.declared.names.Name.{Name}
use Rattle.hk_model.specs.declared.world.Born.{Born}
use Rattle.hk_model.specs.declared.world.Code.{Code}
use Rattle.hk_model.specs.declared.world.Kind.{Kind}
use Rattle.hk_model.specs.declared.world.Kind.TheVariants as kind
use Rattle.hk_model.specs.WorldValue.{WorldValue}

-- the names of the kernel types, by their numbers
abbrev pub kernel_names : List (List ℕ)
kernel_names = codes "TYPE" ∷ codes "DATA" ∷ codes "UNIVERSAL" ∷ codes "SEMAPHORE" ∷ codes "PROCEDURE" ∷ codes "PROCESS" ∷ codes "LNS" ∷ []

-- the kernel types are types
abbrev pub kernel_flags : List Bool
kernel_flags = map (λ name. true) kernel_names

-- the names that numbers stand for
pub record Names : Type 0 where
  -- of the objects by their numbers: the kernel types, and then those of the script
  pub objects : List (List ℕ)
  -- which of the objects are types
  pub types : List Bool
  -- of the codes by their numbers
  pub codes : List (List ℕ)

-- an object of this kind is a type
abbrev pub is_type_kind : Kind → Bool
is_type_kind kind.TypeObject = true
is_type_kind (kind.Plain of words entries) = false
is_type_kind (kind.Semaphore count) = false
is_type_kind (kind.Procedure code params entries) = false

-- the labels of a world, the names of the kernel types before those of the objects
abbrev pub spoken : WorldValue → Names
spoken w = record {
  objects = kernel_names ++ map (λ (b : Born). b.label) w.objects;
  types = kernel_flags ++ map (λ (b : Born). is_type_kind b.kind) w.objects;
  codes = map (λ (c : Code). c.label) w.codes;
}

-- the label of an object
abbrev pub object_text : Names → Name → List ℕ
object_text names name = slice_index_or names.objects name.0 []

-- the label of a code
abbrev pub code_text : Names → ℕ → List ℕ
code_text names code = slice_index_or names.codes code []
