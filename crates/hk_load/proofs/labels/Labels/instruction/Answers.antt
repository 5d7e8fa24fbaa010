use Rattle.hk_load.proofs.labels.Labels.instruction.Goals as goal

pub returns-in-Restrict : goal.returns-in-Restrict
returns-in-Restrict c = rw c.in-Restrict.is (c.restrict.ensures c.args.self.now)

pub returns-in-MakeTemplate : goal.returns-in-MakeTemplate
returns-in-MakeTemplate c = rw c.in-MakeTemplate.is (c.template.ensures c.args.self.now)
