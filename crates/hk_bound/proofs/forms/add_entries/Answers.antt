use Rattle.std.proofs.Common.{subst, Option}
use Rattle.std.specs.Prelude.{IfSome}
use Rattle.hk_model.specs.declared.entries.Entry.{Entry}
use Rattle.hk_bound.specs.declared.forms.Form.{Form}
use Rattle.hk_bound.specs.Forms.{entry_form, Holds}
use Rattle.hk_bound.proofs.EachLemmas.{each_none, each_read, each_all, each_weaker, forms_stay, keeps_self, keeps_then}
use Rattle.hk_bound.proofs.forms.add_entries.Goals as goal

pub loop-entry-init : goal.loop-entry-init
loop-entry-init c = record {
  keeps = keeps_self c.args.forms.now.items;
  holds = each_none (λ (x : Entry). IfSome (entry_form x) (Holds c.args.forms.now.items)) c.args.entries.now;
}

pub loop-entry-preserved : goal.loop-entry-preserved
loop-entry-preserved c =
    let i = c.loop-entry.invariant in
    let e = c.in_ok-add.ensures {u = tt} in
    record {
      keeps = keeps_then c.args.forms.now.items c.loop-entry.forms.items c.add.new.forms.items i.keeps e.keeps;
      holds =
          each_read (λ (x : Entry). IfSome (entry_form x) (Holds c.add.new.forms.items)) c.args.entries.now c.loop-entry.entry-index c.entry-item.result
          (each_weaker (λ (x : Entry). IfSome (entry_form x) (Holds c.loop-entry.forms.items)) (λ (x : Entry). IfSome (entry_form x) (Holds c.add.new.forms.items))
          c.args.entries.now c.loop-entry.entry-index
          (λ x h. forms_stay c.loop-entry.forms.items c.add.new.forms.items (entry_form x) e.keeps h) i.holds)
          c.loop-entry-test.true c.entry-item.is
          (subst (λ (o : Option Form). IfSome o (Holds c.add.new.forms.items)) c.entry_form.ensures e.holds);
    }

pub returns-clause-holds : goal.returns-clause-holds
returns-clause-holds c =
    each_all (λ (x : Entry). IfSome (entry_form x) (Holds c.loop-entry.forms.items)) c.args.entries.now c.loop-entry.entry-index
    c.loop-entry.invariant.holds c.loop-entry-test.false
