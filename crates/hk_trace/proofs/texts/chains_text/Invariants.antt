use Rattle.std.proofs.Common.{◌≡◌, take, string_bytes}
use Rattle.std.specs.List.{flat_map}
use Rattle.hk_trace.specs.ChainTexts.{chain_text}
use Rattle.hk_trace.proofs.texts.chains_text.Given as goal

-- the chains so far are written
abbrev pub invariant-loop-chain : goal.invariant-loop-chain
invariant-loop-chain l = string_bytes l.out ≡ flat_map (chain_text l.lines) (take l.chain-index l.chains)
