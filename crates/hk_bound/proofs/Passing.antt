-- What follows for a process of what follows for the holders from which it takes.
use Rattle.std.proofs.Common.{◌≡◌, ℕ, ◌<◌, List, length, refl, bit_or}
use Rattle.std.specs.Prelude.{IsTrue}
use mathlib.Core.Logic.{inl, inr}
use Rattle.hk_rights.specs.Rights.{has, all_rights, load_right, copy_right, modify_right, env_right, unconf_right, a0_right}
use Rattle.hk_model.specs.WorldValue.{WorldValue}
use Rattle.hk_model.specs.Walking.{reduced_rights}
use Rattle.hk_model.specs.Targets.{PROCEDURE}
use Rattle.hk_model.proofs.RightsWithin.{HasAll-reduced}
use Rattle.hk_bound.specs.declared.forms.Form.{Form}
use Rattle.hk_bound.specs.Taking.{Thing, Old, MadeBy, Holder, Slots, ListOf, Has, Right, Amplifies, Follows, type_of, has_words, has_list, STORE+APPEND, made_has}
use Rattle.hk_bound.specs.Taking.{made_gives, load_has, load_gives, load_form, store_has, store_gives, store_form, copy_has, copy_gives, copy_form, enter_has, enter_gives}
use Rattle.hk_bound.specs.Taking.{enter_form}
use Rattle.hk_bound.specs.Columns.{name_at, proc_at, ThingFollows, CellFollows}
use Rattle.hk_bound.specs.Rules.{Passes}
use Rattle.hk_bound.proofs.Bounded.{reduced_unconf, reduced_env}
use Rattle.hk_bound.proofs.Reductions.{reduced_or_cases}

module _ (w : WorldValue) (forms : List Form) where
  -- by things and templates alike
  passed : (from to : Holder) (column r s : ℕ) → ((x : Thing) → ThingFollows w from x r → ThingFollows w to x s)
      → (IsTrue (has s env_right) → IsTrue (has r env_right))
      → ((f : Form) → IsTrue (has s env_right) → Follows w (Amplifies from f.of f.check f.give) → Follows w (Amplifies to f.of f.check f.give))
      → CellFollows w forms from column r → CellFollows w forms to column s
  passed from to column r s things env templates h = record {
    old = λ low. things (Old (name_at column)) (h.old low);
    made = λ maker low e. things (MadeBy (proc_at maker)) (h.made maker low e);
    form = λ place f at e has_env. templates f has_env (h.form place f at e (env has_env));
  }

  -- a Load
  pub load_follows : (p : ℕ) (x : Thing) (by column r : ℕ) → Follows w (Right (Slots (proc_at p)) x load_right)
      → (IsTrue (has by unconf_right) → Follows w (Right (Slots (proc_at p)) x unconf_right))
      → (IsTrue (has by env_right) → Follows w (Right (Slots (proc_at p)) x env_right)) → CellFollows w forms (ListOf x) column r
      → CellFollows w forms (Slots (proc_at p)) column (reduced_rights by r)
  load_follows p x by column r load u e h = passed (ListOf x) (Slots (proc_at p)) column r (reduced_rights by r)
      (λ y g. record {
        had = load_has (proc_at p) x y load g.had;
        given =
            λ n is there. load_gives (proc_at p) x y n load (g.given n is (HasAll-reduced by r n there)) (λ k. u (reduced_unconf by r n there k))
            (λ k. e (reduced_env by r n there k));
      })
      (λ there. HasAll-reduced by r env_right there)
      (λ f there g. load_form (proc_at p) x f.of f.check f.give load (e (reduced_env by r env_right there refl)) g)
      h

  -- a call
  pub enter_follows : (p q : ℕ) (by column r : ℕ) → (type_of w (name_at q)).0 ≡ PROCEDURE → Follows w (Right (Slots (proc_at p)) (Old (name_at q)) a0_right)
      → (IsTrue (has by unconf_right) → Follows w (Right (Slots (proc_at p)) (Old (name_at q)) unconf_right)) → CellFollows w forms (ListOf (Old (name_at q))) column r
      → CellFollows w forms (Slots (proc_at p)) column (reduced_rights by r)
  enter_follows p q by column r t a u h = passed (ListOf (Old (name_at q))) (Slots (proc_at p)) column r (reduced_rights by r)
      (λ y g. record {
        had = enter_has (proc_at p) (name_at q) y t a g.had;
        given = λ n is there. enter_gives (proc_at p) (name_at q) y n t a (g.given n is (HasAll-reduced by r n there)) (λ k. u (reduced_unconf by r n there k));
      })
      (λ there. HasAll-reduced by r env_right there)
      (λ f there g. enter_form (proc_at p) (name_at q) f.of f.check f.give t a g)
      h

  -- what a process makes: whoever has it has all rights for it
  made_right : (p r n : ℕ) → Follows w (Has (Slots (proc_at p)) (MadeBy (proc_at r))) → IsTrue (has all_rights n) → Follows w (Right (Slots (proc_at p)) (MadeBy (proc_at r)) n)
  made_right p r n h is = made_gives (Slots (proc_at p)) (proc_at r) n h is

  pub load_made : (p r by column rights : ℕ) → Follows w (Has (Slots (proc_at p)) (MadeBy (proc_at r))) → CellFollows w forms (ListOf (MadeBy (proc_at r))) column rights
      → CellFollows w forms (Slots (proc_at p)) column (reduced_rights by rights)
  load_made p r by column rights m h =
      load_follows p (MadeBy (proc_at r)) by column rights (made_right p r load_right m refl) (λ u. made_right p r unconf_right m refl) (λ e. made_right p r env_right m refl) h

  -- a Store or an Append
  pub store_follows : (q : ℕ) (x : Thing) (how column r : ℕ) → IsTrue (has_list w x) → Follows w (Right (Slots (proc_at q)) x modify_right) → IsTrue (has STORE+APPEND how)
      → Follows w (Right (Slots (proc_at q)) x how)
      → IsTrue (has r env_right) → CellFollows w forms (Slots (proc_at q)) column r → CellFollows w forms (ListOf x) column r
  store_follows q x how column r l m s b env h = passed (Slots (proc_at q)) (ListOf x) column r r
      (λ y g. record {
        had = store_has (proc_at q) x y how l m s b (g.given env_right refl env);
        given = λ n is there. store_gives (proc_at q) x y how n l m s b (g.given env_right refl env) (g.given n is there);
      })
      (λ there. there)
      (λ f there g. store_form (proc_at q) x how f.of f.check f.give l m s b g)
      h

  -- a Copy, where the list has ENV for the column, and a Load from the copy
  pub copy_follows : (p : ℕ) (x : Thing) (by column r s : ℕ) → p < length w.tasks → IsTrue (has_words w x) → Follows w (Right (Slots (proc_at p)) x copy_right)
      → Follows w (Right (Slots (proc_at p)) x env_right)
      → (IsTrue (has by unconf_right) → Follows w (Right (Slots (proc_at p)) x unconf_right))
      → IsTrue (has s env_right) → CellFollows w forms (ListOf x) column s → CellFollows w forms (ListOf x) column r
      → CellFollows w forms (Slots (proc_at p)) column (reduced_rights by r)
  copy_follows p x by column r s runs v c e u env k h = record {
    old = λ low. copied (Old (name_at column)) (k.old low) (h.old low);
    made = λ maker low same. copied (MadeBy (proc_at maker)) (k.made maker low same) (h.made maker low same);
    form = λ place f at same there. load_form (proc_at p) (MadeBy (proc_at p)) f.of f.check f.give (own load_right refl) (own env_right refl)
        (copy_form (proc_at p) x f.of f.check f.give v c e (h.form place f at same (HasAll-reduced by r env_right there)));
  }
    where
      own : (n : ℕ) → IsTrue (has all_rights n) → Follows w (Right (Slots (proc_at p)) (MadeBy (proc_at p)) n)
      own n is = made_gives (Slots (proc_at p)) (proc_at p) n (made_has (proc_at p) runs) is

      copied : (y : Thing) → ThingFollows w (ListOf x) y s → ThingFollows w (ListOf x) y r → ThingFollows w (Slots (proc_at p)) y (reduced_rights by r)
      copied y a g = record {
        had = load_has (proc_at p) (MadeBy (proc_at p)) y (own load_right refl) (copy_has (proc_at p) x y v c e g.had (a.given env_right refl env));
        given = λ n is there. load_gives (proc_at p) (MadeBy (proc_at p)) y n (own load_right refl)
            (copy_gives (proc_at p) x y n v c e (a.given env_right refl env) (g.given n is (HasAll-reduced by r n there)) (λ k. u (reduced_unconf by r n there k)))
            (λ k. own unconf_right refl) (λ k. own env_right refl);
      }

  -- ---- joined rights

  pub passes_or : (p q a b : ℕ) → Passes w forms p q a → Passes w forms p q b → Passes w forms p q (bit_or a b)
  passes_or p q a b f g column r env h =
      let x = f column r env h in
      let y = g column r env h in
      record {
        old = λ low. both (Old (name_at column)) (x.old low) (y.old low);
        made = λ maker low e. both (MadeBy (proc_at maker)) (x.made maker low e) (y.made maker low e);
        form = λ place form at e there. elim (reduced_or_cases a b r env_right refl there) [ inl k ↦ x.form place form at e k | inr k ↦ y.form place form at e k ];
      }
    where
      both : (t : Thing) → ThingFollows w (Slots (proc_at p)) t (reduced_rights a r) → ThingFollows w (Slots (proc_at p)) t (reduced_rights b r)
          → ThingFollows w (Slots (proc_at p)) t (reduced_rights (bit_or a b) r)
      both t u v = record {
        had = u.had;
        given = λ n is there. elim (reduced_or_cases a b r n is there) [ inl k ↦ u.given n is k | inr k ↦ v.given n is k ];
      }
