use Rattle.std.proofs.Common.{◌≡◌, ℕ, None, Option, arith, length, rules, refl, ◌∙◌}
use Rattle.std.proofs.lemmas.List.{length_push}
use Rattle.hk_links.proofs.Spreads.{spread-push}
use Rattle.hk_links.proofs.owners.unroll.Goals as goal

pub loop-front-preserved : goal.loop-front-preserved
loop-front-preserved c =
    let len : c.len.result ≡ length c.loop-front.front.items = search rules in
    record {
      few = rw c.push_reserved.ensures.items (omega (arith, length_push {X = Option ℕ}, len));
      room = omega (arith, c.push_reserved.ensures.capacity);
      same = λ n. rw c.push_reserved.ensures.items (spread-push (λ (_ : ℕ). None) n 0 c.loop-front.front.items None refl ∙ c.loop-front.invariant.same n);
    }
