-- What the written slots of a name space name is all that its slots name.
use Rattle.std.proofs.Common.{◌≡◌, ℕ, zero, suc, List, [], ◌∷◌, ◌++◌, take, refl, sym, ap, ◌∙◌, arith}
use Rattle.hk_model.specs.declared.names.Name.{Name}
use Rattle.hk_model.specs.declared.entries.Entry.{Entry}
use Rattle.hk_model.specs.Keeping.{entry_names}
use Rattle.hk_reclaim.specs.Naming.{named_in}
use Rattle.hk_spaces.specs.Spaces.{IsEmptyFrom}

pub written_names : (es : List Entry) (n : ℕ) → IsEmptyFrom n es → named_in (take n es) ≡ named_in es
written_names [] zero rest = refl
written_names [] (suc n) rest = refl
written_names (e ∷ es) zero rest =
    ap (λ (ns : List Name). ns ++ named_in (take 0 es)) (sym (ap entry_names (rest 0 (omega arith))))
    ∙ ap (λ (ns : List Name). entry_names e ++ ns) (written_names es zero (λ slot past. rest (suc slot) (omega arith)))
written_names (e ∷ es) (suc n) rest =
    ap (λ (ns : List Name). entry_names e ++ ns) (written_names es n (λ slot past. rest (suc slot) (omega (arith, past))))
