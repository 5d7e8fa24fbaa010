use Rattle.std.proofs.Common.{◌≡◌, ◌∙◌, map}
use Rattle.hk_model.specs.Places.{passed}
use Rattle.hk_trace.specs.Carried.{call_path}
use Rattle.hk_trace.specs.Held.{held_at}
use Rattle.hk_trace.proofs.Uses.{walked_few}
use Rattle.hk_trace.proofs.using.used_by.Goals as goal

pub add_uses-requires : goal.add_uses-requires
add_uses-requires c =
    let a : c.as_slice.result.now ≡ c.in_ok-walked.walked.items = c.as_slice.ensures.value in
    let b : c.in_ok-walked.walked.items ≡ map (held_at c.args.kernel.now) (passed c.args.kernel.now c.args.inc (call_path c.args.call.now)) = c.in_ok-walked.ensures in
    walked_few c.args.kernel.now c.args.inc (call_path c.args.call.now) c.path_len.result c.as_slice.result.now (a ∙ b) c.path_len.ensures.value c.path_len.ensures.few
