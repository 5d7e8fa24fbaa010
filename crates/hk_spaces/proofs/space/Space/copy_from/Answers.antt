use Rattle.std.proofs.Common.{◌∙◌, ap, length, sym}
use Rattle.hk_spaces.proofs.Emptiness.{copied}
use Rattle.hk_spaces.proofs.space.Space.copy_from.Goals as goal

pub returns : goal.returns
returns c =
    copied c.written-entries.result.now c.args.self.now c.shorten.new.self c.args.other.now c.write.new.self c.written-entries.ensures.value c.written-entries.ensures.rest
    (ap length (sym c.as_slice-all.ensures.value) ∙ c.as_slice-all.ensures.all) c.write.ensures.value c.shorten.ensures.before c.shorten.ensures.rest c.shorten.ensures.all
