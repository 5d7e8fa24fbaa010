-- What the names of a script stand for, by the order of their heads. docs/FORMATS.md, "Loading".
use Rattle.std.specs.Prelude.{◌≡◌, ℕ, ◌+◌, Bool, true, false, List, [], ◌∷◌, ◌++◌, Option, Some, None, slice_get}
use Rattle.std.specs.List.{filter_map}
use Rattle.hk_format.specs.declared.syntax.Head.{Head}
use Rattle.hk_format.specs.declared.syntax.Head.TheVariants.{LimitIs, TypeIs, ObjectIs, SemaphoreIs, ProcedureIs, CodeIs, ProcessIs}
use Rattle.hk_model.specs.Labels.{are_apart}
use Rattle.hk_format.specs.Names.{Names, kernel_flags, kernel_names}
use Rattle.hk_format.specs.Loading.{place}
use Rattle.hk_load.specs.declared.meanings.Meaning.{Meaning}
use Rattle.hk_load.specs.declared.meanings.Meaning.TheVariants.{IsType, IsObject, IsCode, IsProcess}

-- heads, where the next object and the next code have these numbers

-- what the name that a head gives stands for, if it gives one
abbrev pub meaning_given : ℕ → ℕ → Head → Option Meaning
meaning_given object code (LimitIs limit) = None
meaning_given object code (TypeIs name) = Some (IsType object)
meaning_given object code (ObjectIs name of) = Some (IsObject object)
meaning_given object code (SemaphoreIs name count) = Some (IsObject object)
meaning_given object code (ProcedureIs name of) = Some (IsObject object)
meaning_given object code (CodeIs name) = Some (IsCode code)
meaning_given object code (ProcessIs name of) = Some IsProcess

-- the number of the next object behind a head
abbrev pub object_after : ℕ → Head → ℕ
object_after object (LimitIs limit) = object
object_after object (TypeIs name) = object + 1
object_after object (ObjectIs name of) = object + 1
object_after object (SemaphoreIs name count) = object + 1
object_after object (ProcedureIs name of) = object + 1
object_after object (CodeIs name) = object
object_after object (ProcessIs name of) = object

-- the number of the next code behind a head
abbrev pub code_after : ℕ → Head → ℕ
code_after code (LimitIs limit) = code
code_after code (TypeIs name) = code
code_after code (ObjectIs name of) = code
code_after code (SemaphoreIs name count) = code
code_after code (ProcedureIs name of) = code
code_after code (CodeIs name) = code + 1
code_after code (ProcessIs name of) = code

-- one meaning, or none
abbrev pub those_of : Option Meaning → List Meaning
those_of (Some m) = m ∷ []
those_of None = []

-- what the names that these heads give stand for
abbrev pub meanings_from : ℕ → ℕ → List Head → List Meaning
meanings_from object code [] = []
meanings_from object code (h ∷ hs) = those_of (meaning_given object code h) ++ meanings_from (object_after object h) (code_after code h) hs

-- names, and what each stands for

-- so many names
abbrev pub names : List (List ℕ) → List Bool → List (List ℕ) → Names
names objects types codes = record { objects = objects; types = types; codes = codes }

-- the name of an object before others
abbrev pub object_before : Meaning → List ℕ → List (List ℕ) → List (List ℕ)
object_before (IsType n) t ts = t ∷ ts
object_before (IsObject n) t ts = t ∷ ts
object_before (IsCode n) t ts = ts
object_before IsProcess t ts = ts

-- the names of the objects
abbrev pub objects_among : List (List ℕ) → List Meaning → List (List ℕ)
objects_among [] ms = []
objects_among (t ∷ ts) [] = []
objects_among (t ∷ ts) (m ∷ ms) = object_before m t (objects_among ts ms)

-- of an object: it is a type
abbrev pub type_flag : Meaning → Option Bool
type_flag (IsType n) = Some true
type_flag (IsObject n) = Some false
type_flag (IsCode n) = None
type_flag IsProcess = None

-- the name of a code before others
abbrev pub code_before : Meaning → List ℕ → List (List ℕ) → List (List ℕ)
code_before (IsType n) t ts = ts
code_before (IsObject n) t ts = ts
code_before (IsCode n) t ts = t ∷ ts
code_before IsProcess t ts = ts

-- the names of the codes
abbrev pub codes_among : List (List ℕ) → List Meaning → List (List ℕ)
codes_among [] ms = []
codes_among (t ∷ ts) [] = []
codes_among (t ∷ ts) (m ∷ ms) = code_before m t (codes_among ts ms)

-- the kernel types, and what these names stand for
abbrev pub names_meant : List (List ℕ) → List Meaning → Names
names_meant ts ms = names (kernel_names ++ objects_among ts ms) (kernel_flags ++ filter_map type_flag ms) (codes_among ts ms)

-- the number of what a name stands for is the next one
abbrev pub IsNext : ℕ → ℕ → Meaning → Type 0
IsNext object code (IsType n) = n ≡ object
IsNext object code (IsObject n) = n ≡ object
IsNext object code (IsCode n) = n ≡ code
IsNext object code IsProcess = Unit {0}

-- the number of the next object behind a name
abbrev pub object_behind : ℕ → Meaning → ℕ
object_behind object (IsType n) = object + 1
object_behind object (IsObject n) = object + 1
object_behind object (IsCode n) = object
object_behind object IsProcess = object

-- the number of the next code behind a name
abbrev pub code_behind : ℕ → Meaning → ℕ
code_behind code (IsType n) = code
code_behind code (IsObject n) = code
code_behind code (IsCode n) = code + 1
code_behind code IsProcess = code

-- each name stands for something, and the numbers count on
abbrev pub AreNumbered : ℕ → ℕ → List (List ℕ) → List Meaning → Type 0
AreNumbered object code [] [] = Unit {0}
AreNumbered object code [] (m ∷ ms) = ⊥
AreNumbered object code (t ∷ ts) [] = ⊥
AreNumbered object code (t ∷ ts) (m ∷ ms) = IsNext object code m × AreNumbered (object_behind object m) (code_behind code m) ts ms

-- each name stands once and for something, and the numbers count on from the kernel types
pub record AreMeant (ts : List (List ℕ)) (ms : List Meaning) : Type 0 where
  pub apart : are_apart ts ≡ true
  pub numbered : AreNumbered 7 0 ts ms

-- looking up

-- what stands at a place, if there is one
abbrev pub meaning_at : List Meaning → Option ℕ → Option Meaning
meaning_at ms None = None
meaning_at ms (Some p) = slice_get ms p

-- what a name stands for, if it is one of these
abbrev pub meaning_named : List (List ℕ) → List Meaning → List ℕ → Option Meaning
meaning_named ts ms t = meaning_at ms (place ts t)

-- the number of an object
abbrev pub object_meant : Option Meaning → Option ℕ
object_meant (Some (IsType n)) = Some n
object_meant (Some (IsObject n)) = Some n
object_meant (Some (IsCode n)) = None
object_meant (Some IsProcess) = None
object_meant None = None

-- the number of a type
abbrev pub type_meant : Option Meaning → Option ℕ
type_meant (Some (IsType n)) = Some n
type_meant (Some (IsObject n)) = None
type_meant (Some (IsCode n)) = None
type_meant (Some IsProcess) = None
type_meant None = None

-- the number of a code
abbrev pub code_meant : Option Meaning → Option ℕ
code_meant (Some (IsType n)) = None
code_meant (Some (IsObject n)) = None
code_meant (Some (IsCode n)) = Some n
code_meant (Some IsProcess) = None
code_meant None = None

-- the first, or else the second
abbrev pub or_else : Option ℕ → Option ℕ → Option ℕ
or_else (Some n) other = Some n
or_else None other = other
