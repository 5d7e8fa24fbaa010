use Rattle.std.proofs.Common.{◌≡◌, List, length, refl, subst}
use Rattle.std.proofs.lemmas.Option.{slice_get_read}
use Rattle.hk_model.specs.declared.entries.Entry.{Entry}
use Rattle.hk_bound.specs.declared.gaps.Taking.{Taking}
use Rattle.hk_bound.specs.Each.{Each}
use Rattle.hk_bound.specs.Rules.{EntryRule, EntriesRule}
use Rattle.hk_bound.proofs.FindsLemmas.{finds_item, finds_end, finds_more}
use Rattle.hk_bound.proofs.gaps.Table.take_entries.Goals as goal

pub loop-entry-preserved : goal.loop-entry-preserved
loop-entry-preserved c =
    let w = c.args.self.now.world.now in
    let forms = c.args.self.now.forms.now in
    let rows = c.args.self.now.rows.now in
    finds_item w forms rows (EntryRule w forms rows c.args.process c.args.name c.in-Some.taking) c.entries_of-entry-items.result.now c.loop-entry.entry-index c.entry-item.result
    c.args.gaps.now.items c.loop-entry.gaps.items c.take_entry.new.gaps.items
    (slice_get_read c.entries_of-entry-items.result.now (length c.entries_of-entry-items.result.now) c.loop-entry.entry-index c.entry-item.result refl
    c.loop-entry-test.true c.entry-item.is)
    c.loop-entry.invariant (c.in_ok-take_entry.ensures {u = tt})

pub returns : goal.returns
returns c =
    let w = c.args.self.now.world.now in
    let forms = c.args.self.now.forms.now in
    let rows = c.args.self.now.rows.now in
    finds_more w forms rows (Each (EntryRule w forms rows c.args.process c.args.name c.in-Some.taking) c.entries_of-entry-items.result.now)
    (EntriesRule w forms rows c.args.process c.args.name) c.args.gaps.now.items c.loop-entry.gaps.items
    (λ all t e. let same : c.in-Some.taking ≡ t = cc (c.in-Some.is, c.taking.ensures, e) in
    subst (λ (es : List Entry). Each (EntryRule w forms rows c.args.process c.args.name t) es) c.entries_of-entry-items.ensures
    (subst (λ (x : Taking). Each (EntryRule w forms rows c.args.process c.args.name x) c.entries_of-entry-items.result.now) same all))
    (finds_end w forms rows (EntryRule w forms rows c.args.process c.args.name c.in-Some.taking) c.entries_of-entry-items.result.now c.loop-entry.entry-index c.args.gaps.now.items
    c.loop-entry.gaps.items c.loop-entry-test.false c.loop-entry.invariant)
