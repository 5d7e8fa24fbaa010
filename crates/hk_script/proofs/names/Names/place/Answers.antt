use Rattle.std.proofs.Common.{sym, ap, ◌∙◌}
use Rattle.hk_format.specs.Loading.{place}
use Rattle.hk_script.proofs.NameTexts.{place_names}
use Rattle.hk_script.proofs.names.Names.place.Goals as goal

pub returns : goal.returns
returns c = c.get_index_of.ensures.index ∙ sym (place_names c.self.inside.texts.keys c.args.name.now) ∙ ap (λ ns. place ns c.args.name.now) c.self.view_is
