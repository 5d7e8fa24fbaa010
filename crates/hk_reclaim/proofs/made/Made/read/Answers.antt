use Rattle.std.proofs.Common.{◌∙◌, arith, sym}
use Rattle.hk_reclaim.proofs.Leaving.{leaving_starts}
use Rattle.hk_reclaim.proofs.made.Made.read.Goals as goal

pub loop-i-init : goal.loop-i-init
loop-i-init c = record {
  stands = c.read_stands.ensures.stands;
  left = λ outside h.
      leaving_starts _ _ outside _ _ _ (c.copy_from.ensures.size ∙ c.requires.left ∙ sym c.requires.total) c.copy_from.ensures.numbers
      (λ k low. c.opening_slots.ensures k (omega (arith, low, c.min-self.ensures))) h;
  stands_size = c.read_stands.ensures.size;
  left_size = c.copy_from.ensures.size ∙ c.requires.left;
  first = record {
    within = omega (arith, c.min-self.ensures, c.requires.first.within);
    below = λ k low. c.read_stands.ensures.stands k ∙ c.opening_slots.ensures k (omega (arith, low, c.min-self.ensures));
  };
}
