use Rattle.std.proofs.Common.{◌∙◌, map, sym, ap}
use Rattle.std.specs.Prelude.{Option, unwrap_or}
use Rattle.serde_json.specs.Data.{Items, no_items}
use Rattle.serde_json.specs.View.{view}
use Rattle.hk_json.specs.Scripts.{values_in}
use Rattle.hk_json.proofs.Lists.{values_seen}
use Rattle.hk_json.proofs.fields.list_of.Goals as goal

pub returns-in-Some : goal.returns-in-Some
returns-in-Some c =
    ap (map view) c.as_slice.ensures.value ∙ sym (values_seen c.in-Some.list.now.items)
    ∙ ap (λ (found : Option Items). values_in (unwrap_or found no_items)) c.in-Some.ensures
