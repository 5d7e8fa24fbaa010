-- The items of a world, written in order.
use Rattle.std.proofs.Common.{◌≡◌, ℕ, List, [], ◌∷◌, ◌++◌, refl, sym, ap, ◌∙◌}
use Rattle.std.specs.Prelude.{codes}
use Rattle.std.specs.List.{flat_map}
use Rattle.std.specs.Fmt.{digits}
use Rattle.std.proofs.lemmas.Grind.{flat_map-append}
use Rattle.std.proofs.lemmas.List.Folds.{flat_map-map}
use mathlib.Core.List.{append_assoc}
use Rattle.hk_format.specs.declared.syntax.Item.{Item}
use Rattle.hk_model.specs.declared.world.Born.{Born}
use Rattle.hk_model.specs.declared.world.Code.{Code}
use Rattle.hk_model.specs.declared.world.Task.{Task}
use Rattle.hk_model.specs.WorldValue.{WorldValue}
use Rattle.hk_format.specs.Spelling.{item_lines}
use Rattle.hk_format.specs.Names.{spoken}
use Rattle.hk_format.specs.Canonical.{canon, limit_items, object_item, code_item, task_item, syntax_of}
use Rattle.hk_print.specs.ItemTexts.{pieces_line, item_text}

items_text : (items : List Item) → flat_map pieces_line (flat_map item_lines items) ≡ flat_map item_text items
items_text [] = refl
items_text (i ∷ is) = flat_map-append pieces_line (item_lines i) (flat_map item_lines is) ∙ ap (λ (t : List ℕ). item_text i ++ t) (items_text is)

-- the header, the limit, the objects, the codes, the processes
pub canon_is : (w : WorldValue)
    → canon w ≡ (((codes "hydra 1\n" ++ flat_map item_text (limit_items w.limit)) ++ flat_map (λ (b : Born). item_text (object_item (spoken w) b)) w.objects)
    ++ flat_map (λ (c : Code). item_text (code_item c)) w.codes) ++ flat_map (λ (t : Task). item_text (task_item (spoken w) t)) w.tasks
unfolding canon digits
canon_is w =
    ap (λ (t : List ℕ). codes "hydra 1\n" ++ t) (items_text (syntax_of w) ∙ parts)
    ∙ sym (append_assoc (codes "hydra 1\n" ++ limits ++ objects) coded tasks ∙ append_assoc (codes "hydra 1\n" ++ limits) objects (coded ++ tasks)
    ∙ append_assoc (codes "hydra 1\n") limits (objects ++ (coded ++ tasks)))
  where
    limits : List ℕ
    limits = flat_map item_text (limit_items w.limit)

    objects : List ℕ
    objects = flat_map (λ (b : Born). item_text (object_item (spoken w) b)) w.objects

    coded : List ℕ
    coded = flat_map (λ (c : Code). item_text (code_item c)) w.codes

    tasks : List ℕ
    tasks = flat_map (λ (t : Task). item_text (task_item (spoken w) t)) w.tasks

    parts : flat_map item_text (syntax_of w) ≡ limits ++ (objects ++ (coded ++ tasks))
    parts = simp (flat_map-append, flat_map-map)
