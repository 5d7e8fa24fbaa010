-- What is known of a value and of the world that its script declares.
use Rattle.std.proofs.Common.{◌≡◌, ◌≤◌, false, Result, Ok, Err, IfOk, IsErrOf, inl, inr, refl, sym, ap, subst, ◌∙◌}
use Rattle.serde_json.specs.Data.{Data, depth}
use Rattle.serde_json.specs.Read.{max_depth}
use Rattle.serde_json.specs.Written.{has_float}
use Rattle.hk_model.specs.WorldValue.{WorldValue, IsWorld}
use Rattle.hk_format.specs.Worlds.{world}
use Rattle.hk_json.specs.Values.{value}
use Rattle.hk_json.specs.declared.errors.JsonError.{JsonError}
use Rattle.hk_json.specs.declared.errors.JsonError.TheVariants.{BadJson, NoMemory}
use Rattle.hk_json.specs.Readings.{GivesWorld}
use Rattle.hk_json.specs.Scripts.{script_said}
use Rattle.hk_json.proofs.Plain.{value_flat, value_whole}
use Rattle.hk_json.proofs.Said.{said_again}

pub known_flat : (d : Data) (w : WorldValue) → d ≡ value w → depth d ≤ max_depth
known_flat d w e = subst (λ x. depth x ≤ max_depth) (sym e) (value_flat w)

pub known_whole : (d : Data) (w : WorldValue) → d ≡ value w → has_float d ≡ false
known_whole d w e = ap has_float e ∙ value_whole w

-- the script of a world's value declares this world
pub script_declares : (d : Data) (w : WorldValue) → IsWorld w → d ≡ value w → world (script_said d) ≡ Ok w
script_declares d w h same = ap (λ (x : Data). world (script_said x)) same ∙ said_again w h

-- so the world that the script declares is the only one whose value this can be, and where that is not its value, it is that of none
pub gives_world : (d : Data) (r : Result WorldValue JsonError) → IfOk r (λ v. (d ≡ value v) × (world (script_said d) ≡ Ok v))
    → (IsErrOf r BadJson → (w : WorldValue) → world (script_said d) ≡ Ok w → d ≡ value w → ⊥) → (w : WorldValue) → IsWorld w → d ≡ value w → GivesWorld r w
gives_world d (Ok v) ok bad w h same =
    let both = sym ok.1 ∙ script_declares d w h same in
    let one : v ≡ w = cc in
    inl (ap (λ (x : WorldValue). Ok x) one)
gives_world d (Err NoMemory) ok bad w h same = inr refl
gives_world d (Err BadJson) ok bad w h same = absurd (bad refl w (script_declares d w h same) same)
