use Rattle.std.proofs.Common.{◌≡◌, ◌==◌, map, drop}
use Rattle.std.specs.List.{filter, slice_split}
use Rattle.hk_rights.specs.Rights.{has, name_of}
use Rattle.hk_audit.specs.Left.{texts}
use Rattle.hk_audit.specs.Names.{same_texts}
use Rattle.hk_audit.proofs.rights.are_names_among.Given as goal

abbrev pub invariant-loop-number : goal.invariant-loop-number
invariant-loop-number l =
    same_texts (map name_of (filter (has l.rights) (drop l.number-index l.numbers))) (texts l.parts)
    ≡ same_texts (map name_of (filter (has l.rights) l.numbers)) (slice_split (λ b. b == 43) l.text)
