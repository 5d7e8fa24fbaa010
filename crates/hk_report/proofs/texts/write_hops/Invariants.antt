use Rattle.std.proofs.Common.{◌≡◌, ◌++◌, take, string_bytes}
use Rattle.std.specs.List.{flat_map}
use Rattle.hk_report.specs.ChangeTexts.{hop_text}
use Rattle.hk_report.proofs.texts.write_hops.Given as goal

-- the hops so far are written
abbrev pub invariant-loop-hop : goal.invariant-loop-hop
invariant-loop-hop l = string_bytes l.out ≡ string_bytes l.initial.out ++ flat_map hop_text (take l.hop-index l.hops)
