-- The forms that a piece can be wanted in: another form is UnknownWord, a number outside its range OutOfRange.
-- docs/FORMATS.md, "Names" and "Grammar".
use Rattle.std.specs.Prelude.{ℕ, Bool, true, false, ◌&&◌, List, [], ◌∷◌, Option, Some, None, Result, Ok, Err, if◌then◌else◌, nat_lt, codes}
use Rattle.std.specs.List.{list_all, find}
use Rattle.hk_model.specs.declared.names.Slot.{Slot}
use Rattle.hk_model.specs.declared.instructions.Index.{Index}
use Rattle.hk_model.specs.declared.instructions.Index.TheVariants.{Fixed, ByReg}
use Rattle.hk_model.specs.declared.instructions.Operand.{Operand}
use Rattle.hk_model.specs.declared.instructions.Operand.TheVariants as operand
use Rattle.hk_model.specs.declared.instructions.Route.{Route}
use Rattle.hk_format.specs.declared.syntax.Verb.{Verb}
use Rattle.hk_format.specs.declared.causes.ParseCause.{ParseCause}
use Rattle.hk_format.specs.declared.causes.ParseCause.TheVariants.{UnknownWord, OutOfRange}
use Rattle.hk_model.specs.Labels.{between, same_text, is_name, is_register}
use Rattle.hk_model.specs.Limits.{slot_limit, index_bound}
use Rattle.hk_format.specs.Pieces.{Piece, Word, Upper, Dash, Number, Path, register_of}
use Rattle.hk_format.specs.Verbs.{verb_word, all_verbs}

-- a verb, or UnknownWord
abbrev pub verb_found : Option Verb → Result Verb ParseCause
verb_found (Some v) = Ok v
verb_found None = Err UnknownWord

-- the word of a verb
abbrev pub as_verb : Piece → Result Verb ParseCause
as_verb (Word t) = verb_found (find (λ v. same_text t (verb_word v)) all_verbs)
as_verb _ = Err UnknownWord

-- a code or a label: any word
abbrev pub as_word : Piece → Result (List ℕ) ParseCause
as_word (Word t) = Ok t
as_word _ = Err UnknownWord

-- a new name: a word that is no register and not `any`
abbrev pub as_name : Piece → Result (List ℕ) ParseCause
as_name (Word t) = if is_name t then Ok t else Err UnknownWord
as_name _ = Err UnknownWord

-- a type, an object, or `any`: a word, or names in capital letters
abbrev pub as_type : Piece → Result (List ℕ) ParseCause
as_type (Word t) = Ok t
as_type (Upper t) = Ok t
as_type _ = Err UnknownWord

-- rights: names in capital letters, or a dash
abbrev pub as_rights : Piece → Result (List ℕ) ParseCause
as_rights (Upper t) = Ok t
as_rights Dash = Ok (codes "-")
as_rights _ = Err UnknownWord

-- any number
abbrev pub as_number : Piece → Result ℕ ParseCause
as_number (Number n) = Ok n
as_number _ = Err UnknownWord

-- a number in a range
abbrev pub as_number_in : ℕ → ℕ → Piece → Result ℕ ParseCause
as_number_in low high (Number n) = if between low high n then Ok n else Err OutOfRange
as_number_in low high _ = Err UnknownWord

-- a number below a bound
abbrev pub as_number_below : ℕ → Piece → Result ℕ ParseCause
as_number_below bound (Number n) = if nat_lt n bound then Ok n else Err OutOfRange
as_number_below bound _ = Err UnknownWord

-- the slot of this number
abbrev pub slot_numbered : ℕ → Slot
slot_numbered n = record { 0 = n }

-- a slot of an incarnation
abbrev pub as_slot : Piece → Result Slot ParseCause
as_slot (Number n) = if nat_lt n slot_limit then Ok (slot_numbered n) else Err OutOfRange
as_slot _ = Err UnknownWord

-- `r0` to `r7`
abbrev pub as_register : Piece → Result ℕ ParseCause
as_register (Word t) = if is_register t then Ok (register_of t) else Err UnknownWord
as_register _ = Err UnknownWord

-- a number or a register
abbrev pub as_operand : Piece → Result Operand ParseCause
as_operand (Number n) = Ok (operand.Number n)
as_operand (Word t) = if is_register t then Ok (operand.Reg (register_of t)) else Err UnknownWord
as_operand _ = Err UnknownWord

-- a number below the bound, or a register
abbrev pub is_index_below : ℕ → Index → Bool
is_index_below bound (Fixed n) = nat_lt n bound
is_index_below bound (ByReg reg) = true

-- the first index is a slot, and the others are below 65,536
abbrev pub is_route : List Index → Bool
is_route [] = false
is_route (first ∷ more) = is_index_below slot_limit first && list_all (is_index_below index_bound) more

-- the path of these indices
abbrev pub route_of : List Index → Route
route_of indices = record { at = indices }

-- a path: one index, or several
abbrev pub as_route : Piece → Result Route ParseCause
as_route (Path indices) = if is_route indices then Ok (route_of indices) else Err OutOfRange
as_route (Number n) = if nat_lt n slot_limit then Ok (route_of (Fixed n ∷ [])) else Err OutOfRange
as_route (Word t) = if is_register t then Ok (route_of (ByReg (register_of t) ∷ [])) else Err UnknownWord
as_route _ = Err UnknownWord
