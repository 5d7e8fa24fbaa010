use Rattle.hk_script.proofs.NameTexts.{new_name}
use Rattle.hk_script.proofs.names.Names.add.Goals as goal

pub returns-clause-found : goal.returns-clause-found
returns-clause-found c =
    new_name c.self.inside.texts.keys c.in_ok-name.name c.args.self.now c.args.name.now c.in_ok-new.new c.self.view_is c.in_ok-name.ensures.ok c.in_ok-new.ensures.added
