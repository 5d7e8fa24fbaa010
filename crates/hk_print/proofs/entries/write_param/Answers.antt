use Rattle.std.proofs.lemmas.Grind.{common_steps}
use Rattle.std.proofs.Common.{◌≡◌, ◌++◌, ◌∷◌, ◌∙◌, sym, ap, List, ℕ, string_bytes, arith}
use Rattle.std.specs.Prelude.{codes}
use Rattle.hk_format.specs.RightsTexts.{rights_text}
use Rattle.hk_format.specs.EntryTexts.{kind_spelled}
use Rattle.hk_print.proofs.Pieces.{param_text}
use Rattle.hk_print.proofs.entries.write_param.Goals as goal

pub returns : goal.returns
returns g c =
    let kind = kind_spelled (g.S.Speller.name_text c.args.speller.now) c.args.param.of in
    let wrote : string_bytes c.write_both.new.out ≡ string_bytes c.args.out.now ++ (codes "param "
    ++ (kind ++ 32 ∷ (rights_text c.args.param.check ++ 32 ∷ rights_text c.args.param.give))) = grind (arith, common_steps) in
    wrote ∙ ap (λ (t : List ℕ). string_bytes c.args.out.now ++ t) (sym (param_text kind (rights_text c.args.param.check) (rights_text c.args.param.give)))
