use Rattle.std.proofs.Common.{◌≡◌, ℕ, arith, length, rules, ◌∙◌}
use Rattle.std.proofs.lemmas.List.{length_push}
use Rattle.hk_links.proofs.Spreads.{spread-push}
use Rattle.hk_links.proofs.rows.unroll.Goals as goal

pub loop-front-preserved : goal.loop-front-preserved
loop-front-preserved c =
    let len : c.len-in-loop-front.result ≡ length c.loop-front.front.items = search rules in
    record {
      few = rw c.push_reserved.ensures.items (omega (arith, length_push {X = ℕ}, len));
      room = omega (arith, c.push_reserved.ensures.capacity);
      same = λ n. rw c.push_reserved.ensures.items
          (spread-push (λ (node : ℕ). node) n c.args.first c.loop-front.front.items _ (omega (arith, len)) ∙ c.loop-front.invariant.same n);
    }
