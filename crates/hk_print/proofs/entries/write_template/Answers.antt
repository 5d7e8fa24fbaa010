use Rattle.std.proofs.lemmas.Grind.{common_steps}
use Rattle.std.proofs.Common.{◌≡◌, ◌++◌, ◌∷◌, ◌∙◌, sym, ap, List, ℕ, string_bytes, arith}
use Rattle.std.specs.Prelude.{codes}
use Rattle.hk_model.specs.declared.entries.Entry.TheVariants.{Form}
use Rattle.hk_format.specs.RightsTexts.{rights_text}
use Rattle.hk_format.specs.EntryTexts.{kind_spelled, entry_text}
use Rattle.hk_print.proofs.Pieces.{amplify_text, create_text}
use Rattle.hk_print.proofs.entries.write_template.Goals as goal

pub returns-in_ok-write_both-in-Amplify : goal.returns-in_ok-write_both-in-Amplify
returns-in_ok-write_both-in-Amplify g c =
    let w = c.in-Amplify in
    let speak = g.S.Speller.name_text c.args.speller.now in
    let kind = kind_spelled speak w.of in
    let wrote : string_bytes c.write_both.new.out ≡ string_bytes c.args.out.now ++ (codes "amplify " ++ (kind ++ 32 ∷ (rights_text w.check ++ 32 ∷ rights_text w.give))) =
    grind (arith, common_steps) in
    let text : entry_text speak (Form c.args.template) ≡ codes "amplify " ++ (kind ++ 32 ∷ (rights_text w.check ++ 32 ∷ rights_text w.give)) =
    rw w.is (amplify_text kind (rights_text w.check) (rights_text w.give)) in
    wrote ∙ ap (λ (t : List ℕ). string_bytes c.args.out.now ++ t) (sym text)

pub returns-in_ok-write_rights-in-Create : goal.returns-in_ok-write_rights-in-Create
returns-in_ok-write_rights-in-Create g c =
    let w = c.in-Create in
    let speak = g.S.Speller.name_text c.args.speller.now in
    let kind = speak w.of in
    let wrote : string_bytes c.write_rights.new.out ≡ string_bytes c.args.out.now ++ (codes "create " ++ (kind ++ 32 ∷ rights_text w.give)) = grind (arith, common_steps) in
    let text : entry_text speak (Form c.args.template) ≡ codes "create " ++ (kind ++ 32 ∷ rights_text w.give) = rw w.is (create_text kind (rights_text w.give)) in
    wrote ∙ ap (λ (t : List ℕ). string_bytes c.args.out.now ++ t) (sym text)
