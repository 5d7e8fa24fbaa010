-- What is next behind one local instruction, and where none stands next.
use Rattle.std.specs.Prelude.{◌≡◌, ℕ, true, false, zero, suc, ◌+◌, ◌-◌, ◌<◌, List, refl}
use Rattle.std.proofs.Common.{arith, ◌∙◌}
use Rattle.hk_model.specs.declared.frames.Frame.{Frame}
use Rattle.hk_model.specs.declared.instructions.Instr.{Instr}
use Rattle.hk_model.specs.Control.{Meaning, Calls, Local, here, next_from}
use Rattle.hk_program.specs.Meanings.{is_local, left_by, todo_in}

-- one turn, where a local instruction stands next
next_of_local : (m p : ℕ) → m ≡ p + 1 → (steps : List Instr) (f g : Frame) (what : Meaning) → true ≡ is_local what → g ≡ left_by f what
    → next_from m steps f what ≡ next_from p steps g (here steps g)
unfolding next_from
next_of_local zero p e steps f g what h i = absurd (omega arith)
next_of_local (suc m) p e steps f g (Calls c) h i = cc
next_of_local (suc m) p e steps f g (Local x) h i = let same : m ≡ p = omega arith in rw (same, i) refl

-- what is next behind a local instruction, with one turn less
pub next_is_local : (n k : ℕ) (steps : List Instr) (f g : Frame) → k < n → true ≡ is_local (here steps f) → g ≡ left_by f (here steps f)
    → next_from (n - k) steps f (here steps f) ≡ next_from (n - (k + 1)) steps g (here steps g)
next_is_local n k steps f g below h i = next_of_local (n - k) (n - (k + 1)) (omega arith) steps f g (here steps f) h i

-- a call is next whatever the number of turns
next_of_call : (n : ℕ) (steps : List Instr) (f : Frame) (what : Meaning) → false ≡ is_local what
    → (next_from n steps f what ≡ next_from 0 steps f what) × (left_by f what ≡ f)
unfolding next_from
next_of_call zero steps f (Calls c) h = (refl, refl)
next_of_call (suc n) steps f (Calls c) h = (refl, refl)
next_of_call n steps f (Local g) h = absurd cc

-- where no local instruction stands next, the turns that are left do not matter
pub next_is_call : (n : ℕ) (steps : List Instr) (f g : Frame) → false ≡ is_local (here steps f) → g ≡ left_by f (here steps f)
    → next_from n steps f (here steps f) ≡ next_from 0 steps g (here steps g)
next_is_call n steps f g h i = let r = next_of_call n steps f (here steps f) h in let same : g ≡ f = i ∙ r.1 in rw same r.0

no_turn : (steps : List Instr) (f : Frame) (what : Meaning) → next_from 0 steps f what ≡ (todo_in what, f)
unfolding next_from
no_turn steps f (Calls c) = refl
no_turn steps f (Local g) = refl

-- with no turn left, what stands there is next
pub no_more_turns : (steps : List Instr) (f : Frame) → next_from 0 steps f (here steps f) ≡ (todo_in (here steps f), f)
no_more_turns steps f = no_turn steps f (here steps f)
