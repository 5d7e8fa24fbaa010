-- What is written is held, and what was there is released.
use Rattle.std.proofs.Common.{◌≡◌, ◌∙◌, ap, sym, arith, subst, List, get_or}
use Rattle.std.specs.List.{flat_map}
use Rattle.hk_model.specs.declared.entries.Entry.{Entry}
use Rattle.hk_model.specs.Keeping.{entry_names}
use Rattle.hk_plain.specs.Counts.{Moved}
use Rattle.hk_plain.proofs.CountedParts.{set_moved, replaced}
use Rattle.hk_plain.proofs.counts.Counts.replace.Goals as goal

pub returns-clause-counted : goal.returns-clause-counted
returns-clause-counted c =
    let old : Entry = c.index-as_slice-at.result in
    let is : old ≡ get_or c.args.entries.now c.args.at old = c.index-as_slice-at.is ∙ ap (λ (es : List Entry). get_or es c.args.at old) c.as_slice.ensures.value in
    subst (λ (es : List Entry). Moved c.args.self.now c.release_entry.new.self (flat_map entry_names es) (flat_map entry_names c.args.entries.now)) (sym c.set.ensures)
    (set_moved entry_names c.args.self.now c.release_entry.new.self c.args.entries.now c.args.at old c.args.entry (omega (arith, c.if-at-len.false, c.len.ensures.value)) is
    (replaced c.args.self.now c.hold_entry.new.self c.release_entry.new.self (entry_names c.args.entry) (entry_names old) c.hold_entry.ensures c.release_entry.ensures))
