use Rattle.std.proofs.Common.{◌≡◌, ◌<◌, length, map, arith, ◌∙◌, refl}
use Rattle.hk_model.specs.Running.{opened}
use Rattle.hk_trace.specs.Used.{used}
use Rattle.hk_trace.specs.Uses.{told_use, chain_found}
use Rattle.hk_trace.specs.Writings.{writings_of}
use Rattle.hk_trace.proofs.ChainLemmas.{writings_few, found_traced}
use Rattle.hk_trace.proofs.tracing.trace_line.Goals as goal

pub chains_of-requires : goal.chains_of-requires
chains_of-requires c =
    let a : c.as_slice.result.now ≡ c.in_ok-replay.replay.writings.items = c.as_slice.ensures.value in
    let b : c.in_ok-replay.replay.writings.items ≡ writings_of c.args.world.now (opened c.args.world.now) c.args.before.now = c.in_ok-replay.ensures.writings in
    let e = writings_few c.args.world.now c.args.before.now c.as_slice.result.now (a ∙ b) in
    let f : length c.args.before.now < 4294967296 = c.requires.few in
    omega (arith, e, f)

pub returns : goal.returns
returns c =
    let a : c.as_slice.result.now ≡ c.in_ok-replay.replay.writings.items = c.as_slice.ensures.value in
    let b : c.in_ok-replay.replay.writings.items ≡ writings_of c.args.world.now (opened c.args.world.now) c.args.before.now = c.in_ok-replay.ensures.writings in
    let d : c.as_slice-2.result.now ≡ c.in_ok-used.used.items = c.as_slice-2.ensures.value in
    let e : c.in_ok-used.used.items ≡ map (told_use c.kernel.result.now) (used c.kernel.result.now c.args.line.now) = c.in_ok-used.ensures in
    let f = found_traced c.args.world.now c.args.before.now c.args.line.now c.in_ok-replay.replay.machine c.as_slice.result.now c.kernel.result.now c.as_slice-2.result.now
    (map (chain_found c.as_slice.result.now) c.as_slice-2.result.now)
    c.requires.steps c.descent_law.ensures c.in_ok-replay.ensures.machine (a ∙ b) c.kernel.ensures (d ∙ e) refl in
    rw (← f) c.chains_of.ensures
