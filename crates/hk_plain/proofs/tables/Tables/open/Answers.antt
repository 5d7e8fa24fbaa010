-- No object is made yet.
use Rattle.std.proofs.Common.{◌≡◌, ◌∙◌, ◌+◌, List, [], ◌++◌, arith, length, map, replicate, false, subst, sym}
use Rattle.std.specs.Prelude.{is_some}
use Rattle.std.specs.Map.{lookup}
use Rattle.std.proofs.lemmas.List.{length-append, length-map, length-replicate}
use Rattle.hk_model.specs.declared.names.Name.{Name}
use Rattle.hk_model.specs.declared.objects.Object.{Object}
use Rattle.hk_model.specs.declared.objects.Process.{Process}
use Rattle.hk_model.specs.declared.world.Born.{Born}
use Rattle.hk_model.specs.State.{same_name, no_object}
use Rattle.hk_model.specs.Opening.{object_of}
use Rattle.hk_plain.specs.Counts.{waiting_names}
use Rattle.hk_plain.proofs.CountedParts.{counted_opening, waiting_ready, none_made}
use Rattle.hk_plain.proofs.tables.Tables.open.Goals as goal

pub invariant_of-result : goal.invariant_of-result
invariant_of-result c =
    let first : Name = record { 0 = 7 + length c.born_of-born.result.now } in
    counted_opening c.in_ok-incarnations.incarnations.live c.new.result c.in_ok-objects.objects.entries first c.new-counts.result c.objects_of.new.counts c.bases.new.counts
    c.new-counts.ensures c.in_ok-objects.ensures.counted c.in_ok-incarnations.ensures.counted
    (subst (λ (ps : List Process). waiting_names ps ≡ []) (sym (c.new.ensures ∙ c.in_ok-processes.ensures.state)) (waiting_ready 0 c.tasks_of-tasks.result.now))
    (λ k.
    let all : List Object = replicate 7 no_object ++ map (λ (b : Born). object_of b.kind) c.born_of-born.result.now in
    let a = length-append (replicate 7 no_object) (map (λ (b : Born). object_of b.kind) c.born_of-born.result.now) in
    let b = length-map c.born_of-born.result.now (λ (b : Born). object_of b.kind) in
    let d = length-replicate 7 no_object in
    subst (λ (es : List (Name × Object)). is_some (lookup (same_name (record { 0 = 7 + length c.born_of-born.result.now + k })) es) ≡ false) (sym c.in_ok-objects.ensures.objects)
    (none_made 0 all (record { 0 = 7 + length c.born_of-born.result.now + k }) (omega (arith, a, b, d))))
