use Rattle.std.proofs.lemmas.Grind.{common_steps}
use Rattle.std.proofs.Common.{◌≡◌, ◌++◌, ◌∷◌, ◌∙◌, sym, ap, List, ℕ, string_bytes, arith}
use Rattle.std.specs.Prelude.{codes}
use Rattle.hk_format.specs.RightsTexts.{rights_text}
use Rattle.hk_format.specs.EntryTexts.{entry_text}
use Rattle.hk_print.proofs.Pieces.{cap_text}
use Rattle.hk_print.proofs.entries.write_entry.Goals as goal

pub returns-in_ok-write_rights-in-Held : goal.returns-in_ok-write_rights-in-Held
returns-in_ok-write_rights-in-Held g c =
    let cap = c.in-Held.cap in
    let object = g.S.Speller.name_text c.args.speller.now cap.name in
    let wrote : string_bytes c.write_rights.new.out ≡ string_bytes c.args.out.now ++ (codes "cap " ++ (object ++ 32 ∷ rights_text cap.rights)) = grind (arith, common_steps) in
    let text : entry_text (g.S.Speller.name_text c.args.speller.now) c.args.entry ≡ codes "cap " ++ (object ++ 32 ∷ rights_text cap.rights) =
    rw c.in-Held.is (cap_text object (rights_text cap.rights)) in
    wrote ∙ ap (λ (t : List ℕ). string_bytes c.args.out.now ++ t) (sym text)
