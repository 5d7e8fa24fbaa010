use Rattle.std.proofs.Common.{ℕ, List, ◌<◌, length, subst}
use Rattle.hk_bound.specs.declared.gaps.Gap.{Gap}
use Rattle.hk_bound.specs.Columns.{Finds}
use Rattle.hk_bound.specs.Rules.{OwnRule, StoredRule, ProcessRule}
use Rattle.hk_bound.proofs.FindsLemmas.{finds_then, finds_more}
use Rattle.hk_bound.proofs.closing.missing.Goals as goal

pub returns : goal.returns
returns c =
    let w = c.args.table.now.world.now in
    let forms = c.args.table.now.forms.now in
    let rows = c.args.table.now.rows.now in
    subst (λ (xs : List Gap). Finds w forms rows ((p : ℕ) → p < length w.tasks → ProcessRule w forms rows p) xs c.all_stored_gaps.new.gaps.items) c.new-gaps.ensures.items
    (finds_more w forms rows
    (((p : ℕ) → p < length w.tasks → OwnRule w forms rows p) × ((q : ℕ) → q < length w.tasks → (p : ℕ) → p < length w.tasks → StoredRule w forms rows p q))
    ((p : ℕ) → p < length w.tasks → ProcessRule w forms rows p) c.new-gaps.result.items c.all_stored_gaps.new.gaps.items
    (λ h p runs. let own = h.0 p runs in record { slots = own.slots; made = own.made; objects = own.objects; others = λ q low. h.1 q low p runs })
    (finds_then w forms rows ((p : ℕ) → p < length w.tasks → OwnRule w forms rows p)
    ((q : ℕ) → q < length w.tasks → (p : ℕ) → p < length w.tasks → StoredRule w forms rows p q)
    c.new-gaps.result.items c.all_own_gaps.new.gaps.items c.all_stored_gaps.new.gaps.items (c.in_ok-all_own_gaps.ensures {u = tt}) (c.in_ok-all_stored_gaps.ensures {u = tt})))
