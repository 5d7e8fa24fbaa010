use Rattle.std.proofs.Common.{◌∙◌}
use Rattle.hk_format.specs.Loading.{load}
use Rattle.hk_load.proofs.Outcomes.{loaded_ok, loaded_refused}
use Rattle.hk_load.proofs.loading.load.Goals as goal

pub load_items-requires : goal.load_items-requires
load_items-requires c = let same = c.in_ok-items.ensures ∙ c.items.ensures.items in record {
  syntax = rw same c.items.ensures.valid;
  names = rw same c.names.ensures;
}

pub returns-clause-ok : goal.returns-clause-ok
returns-clause-ok c =
    let same = c.in_ok-items.ensures ∙ c.items.ensures.items in
    rw same at (loaded_ok (λ w. w) c.load_items.result (load c.in_ok-items.items) c.load_items.ensures)

pub returns-clause-refused : goal.returns-clause-refused
returns-clause-refused c =
    let same = c.in_ok-items.ensures ∙ c.items.ensures.items in
    rw same at (loaded_refused (λ w. w) c.load_items.result (load c.in_ok-items.items) c.load_items.ensures)
