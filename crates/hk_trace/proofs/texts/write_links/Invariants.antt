use Rattle.std.proofs.Common.{◌≡◌, ◌++◌, take, string_bytes}
use Rattle.std.specs.List.{flat_map}
use Rattle.hk_trace.specs.ChainTexts.{link_text}
use Rattle.hk_trace.proofs.texts.write_links.Given as goal

-- the links so far are written
abbrev pub invariant-loop-link : goal.invariant-loop-link
invariant-loop-link l = string_bytes l.out ≡ string_bytes l.initial.out ++ flat_map (link_text l.lines) (take l.link-index l.links)
