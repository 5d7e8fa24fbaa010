-- Generated worlds, computed.
use Rattle.std.specs.Prelude.{◌≡◌, ◌∷◌, [], Some, codes, refl, map, slice_get}
use Rattle.std.specs.Fmt.{digits}
use Rattle.hk_model.specs.declared.world.Task.{Task}
use Rattle.hk_model.specs.Generated.{generate, task, capability}

-- the processes of eleven: the label of the last has two digits
labels_of_eleven : map (λ (t : Task). t.label) (generate 11).tasks ≡ codes "w0" ∷ codes "w1" ∷ codes "w2" ∷ codes "w3" ∷ codes "w4" ∷ codes "w5" ∷ codes "w6" ∷ codes "w7"
    ∷ codes "w8" ∷ codes "w9" ∷ codes "w10" ∷ []
unfolding digits generate
labels_of_eleven = refl

-- the last of them, with its capabilities for the procedure, the word and the lock
last_of_eleven : slice_get (generate 11).tasks 10 ≡ Some (task (codes "w10") 1 (capability 9 0x10000 ∷ capability 7 0x103 ∷ capability 8 0x30100 ∷ []))
unfolding digits generate
last_of_eleven = refl
