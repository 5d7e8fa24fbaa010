-- Its type, and then its entries.
use Rattle.std.proofs.Common.{List, [], ◌∷◌, subst}
use Rattle.std.specs.List.{flat_map}
use Rattle.hk_model.specs.declared.entries.Entry.{Entry}
use Rattle.hk_model.specs.Keeping.{entry_names}
use Rattle.hk_plain.specs.Counts.{Moved}
use Rattle.hk_plain.proofs.CountLemmas.{both}
use Rattle.hk_plain.proofs.counts.Counts.release_object.Goals as goal

pub returns : goal.returns
returns c =
    let entries =
    subst (λ (es : List Entry). Moved c.release.new.self c.release_entries.new.self [] (flat_map entry_names es)) c.as_slice.ensures.value c.release_entries.ensures in
    both c.args.self.now c.release.new.self c.release_entries.new.self [] (c.args.object.now.of ∷ []) [] (flat_map entry_names c.args.object.now.entries) c.release.ensures entries
