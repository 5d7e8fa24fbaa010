use Rattle.std.proofs.Common.{◌≡◌, ◌++◌, ◌∷◌, [], ◌∙◌, List, ℕ, refl, sym, ap, string_bytes, rules}
use Rattle.std.specs.Prelude.{codes}
use Rattle.std.specs.List.{flat_map}
use Rattle.serde_json.specs.Data.{Data}
use Rattle.serde_json.specs.View.{view}
use Rattle.hk_format.specs.declared.syntax.Head.TheVariants.{ProcessIs}
use Rattle.hk_print.specs.ItemTexts.{body_text, parts_text}
use Rattle.hk_print.proofs.Items.{item_written}
use Rattle.hk_print.proofs.Pieces.{process_spelled}
use Rattle.hk_json.specs.Scripts.{text_at, list_at, parts_said, entry_said}
use Rattle.hk_json.proofs.Written.{parts_written}
use Rattle.hk_json.proofs.script.write_process.Goals as goal

pub returns : goal.returns
returns c =
    let d = view c.args.process.now in
    let name = text_at (codes "name") d in
    let code = text_at (codes "code") d in
    let old = string_bytes c.args.out.now in
    let begun = string_bytes c.write.new.self in
    let wrote : begun ≡ old ++ (codes "process " ++ (name ++ 32 ∷ (code ++ 10 ∷ []))) = search rules in
    let filled : string_bytes c.write_entries.new.out ≡ begun ++ parts_text (parts_said entry_said (codes "entries") d) = c.in_ok-write_entries.ensures
    ∙ ap (λ (ds : List Data). begun ++ flat_map (λ (x : Data). body_text (entry_said x)) ds) c.list_at.ensures
    ∙ ap (λ (t : List ℕ). begun ++ t) (sym (parts_written entry_said (list_at (codes "entries") d))) in
    item_written (ProcessIs name code) (parts_said entry_said (codes "entries") d) old begun (string_bytes c.write_entries.new.out) (string_bytes c.push_str.new.self) refl
    (wrote ∙ ap (λ (t : List ℕ). old ++ t) (sym (process_spelled name code))) filled (search rules)
