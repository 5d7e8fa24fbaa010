use Rattle.std.proofs.Common.{◌≡◌, ◌≤◌, ◌++◌, drop}
use Rattle.hk_format.specs.Loading.{labels_from}
use Rattle.hk_load.specs.Jumping.{label_texts, HasNewLabels}
use Rattle.hk_load.proofs.labels.Labels.of.Given as goal

abbrev pub invariant-loop-part : goal.invariant-loop-part
invariant-loop-part l = record {
  all : l.labels ++ labels_from l.place (drop l.part-index l.parts) ≡ labels_from 0 l.parts;
  new : HasNewLabels (label_texts l.labels) (drop l.part-index l.parts);
  few : l.place ≤ l.part-index;
}
