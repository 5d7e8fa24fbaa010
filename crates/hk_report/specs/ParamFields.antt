-- The fields that a parameter is kept in can be told from the capability that it holds, or from there being none.
use Rattle.std.specs.Prelude.{◌≡◌, ℕ, Bool, true, false, Option, Some, None}
use Rattle.std.proofs.Common.{refl, sym, ap, ◌∙◌}
use Rattle.hk_model.specs.declared.names.Name.{Name}
use Rattle.hk_model.specs.declared.entries.Cap.{Cap}
use Rattle.hk_report.specs.declared.params.GivenParam.TheInside.{Inside}

-- the capability of this name, with these rights, where there is one
abbrev pub held : Name → ℕ → Bool → Option Cap
held name rights true = Some (record { name = name; rights = rights })
held name rights false = None

-- where there is none, name and rights are 0
abbrev pub AreFields : Name → ℕ → Bool → Type 0
AreFields name rights true = Unit {0}
AreFields name rights false = (name.0 ≡ 0) × (rights ≡ 0)

abbrev pub param_held : Inside → Option Cap
param_held p = held p.name p.rights p.is_cap

abbrev pub IsParam : Inside → Type 0
IsParam p = AreFields p.name p.rights p.is_cap

-- the fields that what a parameter holds is kept in
abbrev pub param_fields : Option Cap → Inside
param_fields None = record { name = record { 0 = 0 }; rights = 0; is_cap = false }
param_fields (Some cap) = record { name = cap.name; rights = cap.rights; is_cap = true }

pub param_fields-held : (p : Inside) → IsParam p → param_fields (param_held p) ≡ p
param_fields-held p h = by p.name p.rights p.is_cap h
  where
    by : (name : Name) (rights : ℕ) (is_cap : Bool) → AreFields name rights is_cap
        → param_fields (held name rights is_cap) ≡ record { name = name; rights = rights; is_cap = is_cap }
    by name rights true g = refl
    by name rights false g =
        ap (λ (n : ℕ). let q : Inside = record { name = record { 0 = n }; rights = 0; is_cap = false } in q) (sym g.0)
        ∙ ap (λ (r : ℕ). let q : Inside = record { name = name; rights = r; is_cap = false } in q) (sym g.1)
