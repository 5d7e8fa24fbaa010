-- What a walk or a target has shown.
use Rattle.std.proofs.Common.{◌≡◌, ℕ, ◌<◌, Bool, List, [], ◌∷◌, length, Result, Ok, Err, sym, ap, arith}
use Rattle.hk_model.specs.declared.names.Inc.{Inc}
use Rattle.hk_model.specs.declared.names.Name.{Name}
use Rattle.hk_model.specs.declared.entries.Cap.{Cap}
use Rattle.hk_model.specs.declared.entries.Entry.{Entry}
use Rattle.hk_model.specs.declared.entries.Entry.TheVariants.{Held}
use Rattle.hk_model.specs.declared.calls.Refusal.{Refusal}
use Rattle.hk_model.specs.State.{State, incarnation, object}
use Rattle.hk_model.specs.Processors.{code_found}
use Rattle.hk_model.specs.Refusing.{◌>>=◌, item_at}
use Rattle.hk_model.specs.Walking.{walk, walk_on}
use Rattle.hk_model.specs.Targets.{target}
use Rattle.hk_model.proofs.WalkLemmas.{target_is}

some_there : {B : Type 0} (es : List Entry) (at step : ℕ) (f : Entry → Result B Refusal) (x : B) → Ok x ≡ (item_at es at step >>= f) → 0 < length es
some_there [] at step f x e = absurd (cc)
some_there (y ∷ es) at step f x e = omega arith

-- where a walk leads somewhere its incarnation has slots
walk_lives : (s : State) (inc : Inc) (path : List ℕ) (x : Entry) → Ok x ≡ walk s inc path → 0 < length (incarnation s inc).slots
walk_lives s inc [] x e = absurd (cc)
walk_lives s inc (at ∷ rest) x e = some_there (incarnation s inc).slots at 0 (λ entry. walk_on s entry rest 0) x e

pub target_lives : (s : State) (inc : Inc) (path : List ℕ) (types : Name → Bool) (rights : ℕ) (cap : Cap) → Ok cap ≡ target s inc path types rights
    → 0 < length (incarnation s inc).slots
target_lives s inc path types rights cap e = walk_lives s inc path (Held cap) (sym (target_is s inc path types rights cap (sym e)).leads)

-- the code of a target's object is the one that is found by the walk
pub target_code : (s : State) (inc : Inc) (path : List ℕ) (types : Name → Bool) (rights : ℕ) (cap : Cap) → Ok cap ≡ target s inc path types rights
    → (object s cap.name).code ≡ code_found s (walk s inc path)
target_code s inc path types rights cap e = ap (code_found s) (sym (target_is s inc path types rights cap (sym e)).leads)
