-- The places of a code that jumps go to.
use Rattle.std.proofs.Common.{◌≡◌, ℕ, ◌+◌, ◌<◌, ◌≤◌, ◌||◌, Bool, true, false, List, length, take, get_or, set, refl, sym, ◌∙◌, Some, None, eqb}
use Rattle.std.specs.List.{list_any}
use Rattle.std.proofs.lemmas.List.{get_or-set_same, get_or-set_other}
use Rattle.std.proofs.lemmas.List.Folds.{list_any_more}
use Rattle.std.proofs.lemmas.Bool.{eqb-true, eqb-false}
use Rattle.hk_model.specs.declared.instructions.Instr.{Instr}
use Rattle.hk_model.specs.declared.instructions.Instr.TheVariants as instr
use Rattle.hk_model.specs.WorldValue.{IsInstr}
use Rattle.hk_format.specs.Canonical.{jumps_to}
use Rattle.hk_print.specs.Jumps.{target_of}

jumps_some : (n : ℕ) (i : Instr) (to : ℕ) → target_of i ≡ Some to → jumps_to n i ≡ eqb to n
jumps_some n (instr.Goto t) to e = let same : t ≡ to = cc in rw same
jumps_some n (instr.IfEq left right t) to e = let same : t ≡ to = cc in rw same
jumps_some n (instr.IfLess left right t) to e = let same : t ≡ to = cc in rw same
jumps_some n (instr.IfDenied t) to e = let same : t ≡ to = cc in rw same
jumps_some n _ to e = absurd (cc)

jumps_none : (n : ℕ) (i : Instr) → target_of i ≡ None → jumps_to n i ≡ false
jumps_none n (instr.Goto t) e = absurd (cc)
jumps_none n (instr.IfEq left right t) e = absurd (cc)
jumps_none n (instr.IfLess left right t) e = absurd (cc)
jumps_none n (instr.IfDenied t) e = absurd (cc)
jumps_none n _ e = refl

-- jumps stay in their code
pub target_within : (len : ℕ) (i : Instr) (to : ℕ) → IsInstr len i → target_of i ≡ Some to → to ≤ len
target_within len (instr.Goto t) to h e = let same : t ≡ to = cc in rw same at h
target_within len (instr.IfEq left right t) to h e = let same : t ≡ to = cc in rw same at h.2
target_within len (instr.IfLess left right t) to h e = let same : t ≡ to = cc in rw same at h.2
target_within len (instr.IfDenied t) to h e = let same : t ≡ to = cc in rw same at h
target_within len _ to h e = absurd (cc)

or_true : (b : Bool) → (b || true) ≡ true
or_true true = refl
or_true false = refl

or_false : (b : Bool) → (b || false) ≡ b
or_false true = refl
or_false false = refl

-- a jump marks its place
pub mark_set : (marks : List Bool) (steps : List Instr) (i : ℕ) (d : Instr) (to n : ℕ) → i < length steps → to < length marks → target_of (get_or steps i d) ≡ Some to
    → get_or marks n false ≡ list_any (jumps_to n) (take i steps) → get_or (set marks to true) n false ≡ list_any (jumps_to n) (take (i + 1) steps)
mark_set marks steps i d to n inside within goes before =
    rw (list_any_more (jumps_to n) steps i d inside, jumps_some n (get_or steps i d) to goes) (go (eqb to n) refl)
  where
    go : (b : Bool) → eqb to n ≡ b → get_or (set marks to true) n false ≡ (list_any (jumps_to n) (take i steps) || b)
    go true e = let same = eqb-true to n e in rw (← same) (get_or-set_same marks to true false within ∙ sym (or_true (list_any (jumps_to to) (take i steps))))
    go false e = get_or-set_other marks to n true false (λ same. eqb-false to n e (sym same)) ∙ before ∙ sym (or_false (list_any (jumps_to n) (take i steps)))

-- and another instruction marks none
pub mark_kept : (marks : List Bool) (steps : List Instr) (i : ℕ) (d : Instr) (n : ℕ) → i < length steps → target_of (get_or steps i d) ≡ None
    → get_or marks n false ≡ list_any (jumps_to n) (take i steps) → get_or marks n false ≡ list_any (jumps_to n) (take (i + 1) steps)
mark_kept marks steps i d n inside goes before =
    rw (list_any_more (jumps_to n) steps i d inside, jumps_none n (get_or steps i d) goes) (before ∙ sym (or_false (list_any (jumps_to n) (take i steps))))
