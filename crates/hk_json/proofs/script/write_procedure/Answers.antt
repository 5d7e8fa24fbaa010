use Rattle.std.proofs.Common.{◌≡◌, ◌++◌, ◌∷◌, [], ◌∙◌, List, ℕ, refl, sym, ap, string_bytes, rules}
use Rattle.std.specs.Prelude.{codes}
use Rattle.std.specs.List.{flat_map}
use Rattle.serde_json.specs.Data.{Data}
use Rattle.serde_json.specs.View.{view}
use Rattle.hk_format.specs.declared.syntax.Head.TheVariants.{ProcedureIs}
use Rattle.hk_format.specs.declared.syntax.Item.{Item}
use Rattle.hk_print.specs.ItemTexts.{body_text, parts_text, item_text}
use Rattle.hk_print.proofs.Items.{item_of_two}
use Rattle.hk_print.proofs.Pieces.{procedure_spelled}
use Rattle.hk_json.specs.Scripts.{text_at, list_at, parts_said, entry_said, param_said}
use Rattle.hk_json.proofs.Written.{parts_written, procedure_said}
use Rattle.hk_json.proofs.script.write_procedure.Goals as goal

pub returns : goal.returns
returns c =
    let d = view c.args.object.now in
    let name = text_at (codes "name") d in
    let code = text_at (codes "code") d in
    let old = string_bytes c.args.out.now in
    let begun = string_bytes c.write.new.self in
    let middle = string_bytes c.write_params.new.out in
    let wrote : begun ≡ old ++ (codes "procedure " ++ (name ++ 32 ∷ (code ++ 10 ∷ []))) = search rules in
    let half : middle ≡ begun ++ parts_text (parts_said param_said (codes "params") d) = c.in_ok-write_params.ensures
    ∙ ap (λ (ds : List Data). begun ++ flat_map (λ (x : Data). body_text (param_said x)) ds) c.list_at.ensures
    ∙ ap (λ (t : List ℕ). begun ++ t) (sym (parts_written param_said (list_at (codes "params") d))) in
    let filled : string_bytes c.write_entries.new.out ≡ middle ++ parts_text (parts_said entry_said (codes "entries") d) = c.in_ok-write_entries.ensures
    ∙ ap (λ (ds : List Data). middle ++ flat_map (λ (x : Data). body_text (entry_said x)) ds) c.list_at-2.ensures
    ∙ ap (λ (t : List ℕ). middle ++ t) (sym (parts_written entry_said (list_at (codes "entries") d))) in
    item_of_two (ProcedureIs name code) (parts_said param_said (codes "params") d) (parts_said entry_said (codes "entries") d) old begun middle
    (string_bytes c.write_entries.new.out) (string_bytes c.push_str.new.self) refl
    (wrote ∙ ap (λ (t : List ℕ). old ++ t) (sym (procedure_spelled name code))) half filled (search rules)
    ∙ ap (λ (i : Item). old ++ item_text i) (sym (procedure_said d c.requires.words c.requires.params))
