-- Merging a capability with a template, and the name space of a call. docs/RULES.md, "Merging" and "Calls of procedures".
use Rattle.std.specs.Prelude.{ℕ, ◌+◌, ◌-◌, ◌==◌, Bool, true, false, List, [], ◌∷◌, ◌++◌, length, Option, Some, None, Result, Ok, bit_and, bit_or, replicate, map, nat_le}
use Rattle.hk_model.specs.declared.names.Name.{Name}
use Rattle.hk_model.specs.declared.entries.Arg.{Arg}
use Rattle.hk_model.specs.declared.entries.Cap.{Cap}
use Rattle.hk_model.specs.declared.entries.Param.{Param}
use Rattle.hk_model.specs.declared.entries.Entry.{Entry}
use Rattle.hk_model.specs.declared.entries.Entry.TheVariants.{Empty, Held, Form}
use Rattle.hk_model.specs.declared.calls.Refusal.{Refusal}
use Rattle.hk_model.specs.declared.calls.Refusal.TheVariants as refused
use Rattle.hk_model.specs.declared.calls.What8.TheVariants as full
use Rattle.hk_rights.specs.Rights.{special_rights, minus}
use Rattle.hk_model.specs.Limits.{slot_limit}
use Rattle.hk_model.specs.State.{same_name}
use Rattle.hk_model.specs.Refusing.{◌>>=◌, ◌>>◌, unless, allowed}
use Rattle.hk_model.specs.Walking.{confined_rights, held}

-- the type that a template names, if any, is this one
abbrev pub matches : Option Name → Name → Bool
matches None of = true
matches (Some wanted) of = same_name wanted of

-- what a template gives: a type's own template adds rights, but MODIFY, ENV and UNCONF never come from it
abbrev pub merged_rights : ℕ → Option Name → ℕ → ℕ
merged_rights rights None give = bit_and give rights
merged_rights rights (Some _) give = bit_or (minus give special_rights) (bit_and (bit_and give special_rights) rights)

-- a capability for an object of type `of`, merged with a template
abbrev pub merged : Cap → Name → Param → ℕ → Result Cap Refusal
merged cap of form step = do
  unless (matches form.of of) (refused.WrongType step)
  allowed cap.rights form.check step
  Ok (record { name = cap.name; rights = merged_rights cap.rights form.of form.give })

-- what a call inherits: through a confining capability, without MODIFY and UNCONF
abbrev pub inherited : Bool → Entry → Entry
inherited true (Held cap) = Held (record cap { rights = confined_rights cap.rights })
inherited true Empty = Empty
inherited true (Form form) = Form form
inherited false entry = entry

-- an argument, which is to be a capability, merged with its parameter
abbrev pub merged_arg : Arg → Param → ℕ → Result Cap Refusal
merged_arg arg param step = do
  cap ← held arg.entry step
  merged cap arg.of param step

-- each argument merged with its parameter, in order
abbrev pub merged_all : List Arg → List Param → ℕ → Result (List Cap) Refusal
merged_all [] params step = Ok []
merged_all (arg ∷ args) [] step = Ok []
merged_all (arg ∷ args) (param ∷ params) step = do
  new ← merged_arg arg param step
  others ← merged_all args params (step + 1)
  Ok (new ∷ others)

-- the 64 entries of a new incarnation: parameters, then what the procedure holds, then nothing
abbrev pub call_slots : List Cap → List Entry → Bool → List Entry
call_slots caps entries confined =
    map (λ (c : Cap). Held c) caps ++ (map (inherited confined) entries ++ replicate (slot_limit - (length caps + length entries)) Empty)

-- the name space of a call: its arguments as its parameters make them, what the procedure holds, and nothing
abbrev pub name_space : List Arg → List Param → List Entry → Bool → ℕ → Result (List Entry) Refusal
name_space args params entries confined step = do
  unless (length args == length params) refused.Count
  caps ← merged_all args params step
  unless (nat_le (length caps + length entries) slot_limit) (refused.Full full.Slots)
  Ok (call_slots caps entries confined)
