use Rattle.std.proofs.lemmas.Grind.{common_steps}
use Rattle.std.proofs.Common.{◌≡◌, ◌++◌, ◌∷◌, ◌∙◌, sym, ap, List, ℕ, string_bytes, arith}
use Rattle.std.specs.Prelude.{codes}
use Rattle.hk_format.specs.RightsTexts.{rights_text}
use Rattle.hk_print.proofs.Pieces.{amplify_made, create_made}
use Rattle.hk_print.proofs.shapes.write_making.Goals as goal

pub returns-in_ok-write_both-in-Amplify : goal.returns-in_ok-write_both-in-Amplify
returns-in_ok-write_both-in-Amplify c =
    let w = c.in-Amplify in
    let wrote : string_bytes c.write_both.new.out ≡ string_bytes c.args.out.now ++ 32 ∷ (codes "amplify" ++ 32 ∷ (rights_text w.check ++ 32 ∷ rights_text w.give)) = grind (arith, common_steps) in
    rw w.is (wrote ∙ ap (λ (t : List ℕ). string_bytes c.args.out.now ++ 32 ∷ t) (sym (amplify_made w.check w.give)))

pub returns-in_ok-write_rights-in-Create : goal.returns-in_ok-write_rights-in-Create
returns-in_ok-write_rights-in-Create c =
    let w = c.in-Create in
    let wrote : string_bytes c.write_rights.new.out ≡ string_bytes c.args.out.now ++ 32 ∷ (codes "create " ++ rights_text w.give) = grind (arith, common_steps) in
    rw w.is (wrote ∙ ap (λ (t : List ℕ). string_bytes c.args.out.now ++ 32 ∷ t) (sym (create_made w.give)))
