-- Reduction, and walks along a path. docs/RULES.md, "Reduction" and "Walks".
use Rattle.std.specs.Prelude.{ℕ, ◌+◌, List, [], ◌∷◌, Result, Ok, Err, if◌then◌else◌}
use Rattle.hk_model.specs.declared.names.Inc.{Inc}
use Rattle.hk_model.specs.declared.entries.Cap.{Cap}
use Rattle.hk_model.specs.declared.entries.Entry.{Entry}
use Rattle.hk_model.specs.declared.entries.Entry.TheVariants.{Empty, Held, Form}
use Rattle.hk_model.specs.declared.calls.Refusal.{Refusal}
use Rattle.hk_model.specs.declared.calls.Refusal.TheVariants as refused
use Rattle.hk_rights.specs.Rights.{LOAD, MODIFY, ENV, UNCONF, has, minus}
pub use Rattle.hk_rights.specs.Rights.{modify_right, env_right, unconf_right}
use Rattle.hk_model.specs.State.{State, object, incarnation}
use Rattle.hk_model.specs.Refusing.{◌>>=◌, ◌>>◌, allowed, item_at}

-- the rights but MODIFY and UNCONF
abbrev pub confined_rights : ℕ → ℕ
confined_rights rights = minus rights (MODIFY + UNCONF)

-- the rights but ENV
abbrev pub local_rights : ℕ → ℕ
local_rights rights = minus rights ENV

-- rights that were obtained through a capability with the rights `by`
abbrev pub reduced_rights : ℕ → ℕ → ℕ
reduced_rights by rights =
    let kept = if has by unconf_right then rights else confined_rights rights in
    if has by env_right then kept else local_rights kept

-- a capability that was obtained through one with these rights
abbrev pub reduced : ℕ → Cap → Cap
reduced by cap = record cap { rights = reduced_rights by cap.rights }

-- an entry that is obtained through a capability with these rights: a template only with ENV, and then as it is
abbrev pub obtained : ℕ → Entry → ℕ → Result Entry Refusal
obtained by (Form form) step = do
  allowed by ENV step
  Ok (Form form)
obtained by Empty step = Ok Empty
obtained by (Held cap) step = Ok (Held (reduced by cap))

-- a capability is needed
abbrev pub held : Entry → ℕ → Result Cap Refusal
held Empty step = Err (refused.Empty step)
held (Form form) step = Err (refused.NotCap step)
held (Held cap) step = Ok cap

-- one step further, from the entry at a step
abbrev pub hop_on : State → Entry → ℕ → ℕ → Result Entry Refusal
hop_on s entry at step = do
  cap ← held entry step
  allowed cap.rights LOAD step
  next ← item_at (object s cap.name).entries at (step + 1)
  obtained cap.rights next step

-- the entry at the end of the path, from the entry at a step
abbrev pub walk_on : State → Entry → List ℕ → ℕ → Result Entry Refusal
walk_on s entry [] step = Ok entry
walk_on s entry (at ∷ rest) step = hop_on s entry at step >>= (λ next. walk_on s next rest (step + 1))

-- what an incarnation's path leads to: its first index is a slot
abbrev pub walk : State → Inc → List ℕ → Result Entry Refusal
walk s inc [] = Err (refused.Range 0)
walk s inc (at ∷ rest) = do
  entry ← item_at (incarnation s inc).slots at 0
  walk_on s entry rest 0
