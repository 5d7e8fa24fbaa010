-- What goes from the list does not stand or is named.
use Rattle.std.proofs.Common.{◌≡◌, ◌∙◌, ◌-◌, true, sym, take, length}
use Rattle.std.specs.Prelude.{is_some}
use Rattle.std.specs.Map.{lookup}
use Rattle.std.proofs.lemmas.Bool.{true≢false}
use Rattle.hk_model.specs.State.{same_name}
use Rattle.hk_plain.specs.Counts.{is_unnamed}
use Rattle.hk_plain.proofs.CountLemmas.{found_dropped, only_list}
use Rattle.hk_plain.proofs.counts.last_unnamed.Goals as goal
use Rattle.hk_plain.proofs.counts.last_unnamed.Goals.{else-is_unnamed-via-then-is_unnamed+else-contains_key, else-is_unnamed-via-else-is_unnamed}

pub loop-name-preserved : goal.loop-name-preserved
loop-name-preserved c =
    let not_lost : is_some (lookup (same_name c.in-Some.name) c.args.objects.now.entries) ≡ true → is_unnamed c.loop-name.counts c.in-Some.name ≡ true → ⊥ = λ stands unnamed. elim
    c.else-is_unnamed.branch [
      | else-is_unnamed-via-then-is_unnamed+else-contains_key w ↦ true≢false (sym stands ∙ sym w.contains_key.ensures ∙ w.if-contains_key.false)
      | else-is_unnamed-via-else-is_unnamed w ↦ true≢false (sym unnamed ∙ sym c.is_unnamed.ensures ∙ w.if-is_unnamed.false)
    ] in
    record {
      same =
          only_list c.args.counts.now c.loop-name.counts c.pop_lost.new.self (take (length c.loop-name.counts.lost - 1) c.loop-name.counts.lost)
          c.loop-name.invariant.same c.pop_lost.ensures;
      found =
          found_dropped c.args.counts.now c.loop-name.counts c.pop_lost.new.self c.args.objects.now.entries c.in-Some.name c.loop-name.invariant.same c.in-Some.ensures.some
          c.pop_lost.ensures not_lost c.loop-name.invariant.found;
    }
