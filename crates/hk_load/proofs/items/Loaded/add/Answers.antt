use Rattle.hk_load.proofs.items.Loaded.add.Goals as goal

pub returns-in-CodeIs : goal.returns-in-CodeIs
returns-in-CodeIs c = rw c.in-CodeIs.is (c.add_code.ensures c.args.declared.now)
