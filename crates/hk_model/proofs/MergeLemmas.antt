-- A merge is an amplification: no special right more, and the others as its template says.
use Rattle.std.proofs.Common.{◌≡◌, ℕ, true, Option, Some, None, Ok, refl, bit_and}
use Rattle.hk_model.specs.declared.names.Name.{Name}
use Rattle.hk_model.specs.declared.entries.Cap.{Cap}
use Rattle.hk_model.specs.declared.entries.Param.{Param}
use Rattle.hk_model.specs.declared.calls.Refusal.TheVariants as refused
use Rattle.hk_model.specs.Refusing.{◌>>◌, unless, allowed}
use Rattle.hk_model.specs.Merging.{merged, merged_rights, matches}
use Rattle.hk_model.specs.Descent.{Amplified, Others}
use Rattle.hk_model.proofs.Standing.{name_same}
use Rattle.hk_model.proofs.TestLemmas.{and_is, if_ok, unless_is, allowed_is}
use Rattle.hk_rights.specs.Rights.{has, special_rights, all_rights}
use Rattle.hk_model.proofs.RightsWithin.{Within-all, Within-has, merged_special, merged_others}
use Rattle.hk_rights.proofs.Sets.{HasAll-bit_and_right, has-bit_and}

others_of : (wanted : Option Name) (of : Name) (rights give : ℕ) → matches wanted of ≡ true → Others wanted of rights give (merged_rights rights wanted give)
others_of None of rights give h = Within-all (bit_and give rights) rights (HasAll-bit_and_right give rights)
others_of (Some wanted) of rights give h = (name_same wanted of h, merged_others wanted rights give)

-- what comes of a merge
pub merged_is : (cap : Cap) (of : Name) (form : Param) (step : ℕ) (new : Cap) → merged cap of form step ≡ Ok new → Amplified cap form of new
merged_is cap of form step new e = if_ok (Amplified cap form of) (merged cap of form step) new
    (and_is (Amplified cap form of) (unless (matches form.of of) (refused.WrongType step))
    (allowed cap.rights form.check step >> Ok (record { name = cap.name; rights = merged_rights cap.rights form.of form.give })) (λ u h.
    and_is (Amplified cap form of) (allowed cap.rights form.check step) (Ok (record { name = cap.name; rights = merged_rights cap.rights form.of form.give })) (λ v g.
    record {
      same = refl;
      special = merged_special form.of cap.rights form.give;
      checked = allowed_is cap.rights form.check step v g;
      others = others_of form.of of cap.rights form.give (unless_is (matches form.of of) (refused.WrongType step) u h);
    }))) e

-- a special right behind a merge was there before it
pub merged_has : (cap : Cap) (of : Name) (form : Param) (step : ℕ) (new : Cap) (right : ℕ) → merged cap of form step ≡ Ok new → has special_rights right ≡ true
    → has all_rights right ≡ true → has new.rights right ≡ true → has cap.rights right ≡ true
merged_has cap of form step new right e special is h =
    Within-has (bit_and new.rights special_rights) cap.rights right (merged_is cap of form step new e).special is (rw (has-bit_and new.rights special_rights right, h) special)
