-- What the last entry names is released.
use Rattle.std.proofs.Common.{◌≡◌, ◌+◌, ◌-◌, sym, subst, arith, List, length, get_or}
use Rattle.std.specs.List.{flat_map}
use Rattle.hk_model.specs.declared.entries.Entry.{Entry}
use Rattle.hk_model.specs.Keeping.{entry_names}
use Rattle.hk_plain.specs.Counts.{Moved}
use Rattle.hk_plain.proofs.UndoLemmas.{popped_moved}
use Rattle.hk_plain.proofs.restoring.pop_counted.Goals as goal

pub returns-clause-counted : goal.returns-clause-counted
returns-clause-counted c =
    let last : Entry = c.index-as_slice-many.result in
    let many : c.len-many.result - 1 + 1 ≡ length c.args.entries.now = omega (arith, c.len-many.ensures.value, c.if-many-eq0.false) in
    let is : last ≡ get_or c.args.entries.now (c.len-many.result - 1) last =
    subst (λ (es : List Entry). last ≡ get_or es (c.len-many.result - 1) last) c.as_slice.ensures.value c.index-as_slice-many.is in
    subst (λ (es : List Entry). Moved c.args.counts.now c.release_entry.new.self (flat_map entry_names es) (flat_map entry_names c.args.entries.now)) (sym c.pop_entry.ensures)
    (popped_moved entry_names c.args.counts.now c.release_entry.new.self c.args.entries.now (c.len-many.result - 1) last many is c.release_entry.ensures)
