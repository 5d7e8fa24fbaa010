use Rattle.std.proofs.Common.{rules, ◌≡◌, ◌∷◌, [], Some}
use Rattle.std.proofs.lemmas.Simd.{map-map}
use Rattle.hk_model.specs.declared.world.Task.{Task}
use Rattle.hk_model.specs.Control.{new_frame}
use Rattle.hk_shared.proofs.shared.places.Goals as goal

pub loop-context-init : goal.loop-context-init
loop-context-init c =
    let none = c.in_ok-places.ensures.items in
    let given : c.into_iter-context-iterator.result.rest.items ≡ c.in_ok-contexts.contexts.items = search rules in
    let begun = c.in_ok-contexts.ensures in
    rw (none, given, begun) (map-map Some (λ (t : Task). new_frame t.code ∷ []) c.args.tasks.now)
