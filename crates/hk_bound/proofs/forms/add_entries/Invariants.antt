use Rattle.std.specs.Prelude.{IfSome}
use Rattle.hk_model.specs.declared.entries.Entry.{Entry}
use Rattle.hk_bound.specs.Each.{EachBelow}
use Rattle.hk_bound.specs.Forms.{entry_form, Holds, KeepsForms}
use Rattle.hk_bound.proofs.forms.add_entries.Given as goal

abbrev pub invariant-loop-entry : goal.invariant-loop-entry
invariant-loop-entry l = record {
  keeps : KeepsForms l.fn.forms.items l.forms.items;
  holds : EachBelow l.entry-index (λ (x : Entry). IfSome (entry_form x) (Holds l.forms.items)) l.entries;
}
