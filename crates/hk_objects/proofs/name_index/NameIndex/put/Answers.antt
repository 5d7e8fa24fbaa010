use Rattle.std.proofs.Common.{◌≡◌, ◌%◌, ℕ, [], ◌∷◌, ◌++◌, set, subst}
use Rattle.hk_links.specs.Chained.{Chained, listed}
use Rattle.hk_objects.proofs.Indexing.{put_listed}
use Rattle.hk_objects.proofs.name_index.NameIndex.put.Goals as goal

pub invariant_of-self-then-is_needed : goal.invariant_of-self-then-is_needed
invariant_of-self-then-is_needed c =
    let was : Chained = c.self.inside.chains in
    let put : c.push_back.new.self ≡ record { cells = was.cells; lists = set was.lists (c.args.name.0 % 65536) (listed was.lists (c.args.name.0 % 65536) ++ c.args.slot ∷ []) } =
    subst (λ (r : ℕ). c.push_back.new.self ≡ record { cells = was.cells; lists = set was.lists r (listed was.lists r ++ c.args.slot ∷ []) }) c.remainder-rest.ensures c.push_back.ensures in
    rw c.put.ensures (put_listed _ _ _ _ _ _ c.self.invariant c.requires.slot put)
