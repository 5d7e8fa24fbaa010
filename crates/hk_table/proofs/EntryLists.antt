-- The entries of the objects of the state are those in the slots, whoever waits.
use Rattle.std.proofs.Common.{◌≡◌, ℕ, zero, suc, Bool, true, false, cond, List, [], ◌∷◌, map, Option, Some, None, refl, ap, ◌∙◌, sym, arith, option_map}
use Rattle.std.specs.Map.{lookup}
use Rattle.std.specs.Option.{unwrap_or}
use Rattle.std.specs.BTreeMap.{insert_entry}
use Rattle.std.proofs.lemmas.Bool.Decides.{nat_tests}
use Rattle.hk_model.specs.declared.names.Name.{Name}
use Rattle.hk_model.specs.declared.names.Proc.{Proc}
use Rattle.hk_model.specs.declared.entries.Entry.{Entry}
use Rattle.hk_model.specs.declared.objects.Object.{Object}
use Rattle.hk_model.specs.State.{object, no_object, name_cmp, same_name}
use Rattle.hk_objects.specs.declared.body.Body.{Body}
use Rattle.hk_objects.specs.Slots.{standing, change}
use Rattle.hk_walk.specs.Walks.{seen, shown_at}
use Rattle.hk_table.specs.Whole.{whole}
use Rattle.hk_table.proofs.Whole.{object_in}

-- each object stands where what is read of it stands
abbrev pub read : {A B : Type 0} → (A → B) → Name × A → Name × B
read f e = (e.0, f e.1)

pub insert-read : {A B : Type 0} (f : A → B) (es : List (Name × A)) (n : Name) (o : A)
    → map (read f) (insert_entry name_cmp es n o) ≡ insert_entry name_cmp (map (read f) es) n (f o)
insert-read f [] n o = refl
insert-read f (e ∷ es) n o = grind (arith, nat_tests, insert-read f es n o)

pub standing-read : {A B : Type 0} (f : A → B) (ps : List (Option (Name × A))) → standing (map (option_map (read f)) ps) ≡ map (read f) (standing ps)
standing-read f [] = refl
standing-read f (None ∷ ps) = standing-read f ps
standing-read {A} {B} f (Some e ∷ ps) = ap (λ (es : List (Name × B)). insert_entry name_cmp es e.0 (f e.1)) (standing-read f ps) ∙ sym (insert-read f (standing ps) e.0 e.1)

lookup-read : {A B : Type 0} (f : A → B) (test : Name → Bool) (es : List (Name × A)) → lookup test (map (read f) es) ≡ option_map f (lookup test es)
lookup-read f test [] = refl
lookup-read f test (e ∷ es) = by (test e.0) (lookup-read f test es) where
  by : (b : Bool) → lookup test (map (read f) es) ≡ option_map f (lookup test es)
      → cond b (Some (f e.1)) (lookup test (map (read f) es)) ≡ option_map f (cond b (Some e.1) (lookup test es))
  by true rest = refl
  by false rest = rest

abbrev entries_at : Option (Name × Body) → Option (Name × List Entry)
entries_at p = option_map (λ (e : Name × Body). (e.0, e.1.entries)) p

-- the entries by the slots alone
abbrev listed : List (Option (Name × Body)) → Name → List Entry
listed ps n = unwrap_or (lookup (same_name n) (standing (map entries_at ps))) []

of_one : (o : Option Object) → (unwrap_or o no_object).entries ≡ unwrap_or (option_map (λ (p : Object). p.entries) o) []
of_one None = refl
of_one (Some o) = refl

pub read-whole : (ps : List (Option (Name × Body))) (ws : List (List Proc)) → map (option_map (read (λ (o : Object). o.entries))) (whole ps ws) ≡ map entries_at ps
read-whole [] ws = refl
read-whole (None ∷ ps) [] = ap (λ (es : List (Option (Name × List Entry))). None ∷ es) (read-whole ps [])
read-whole (Some e ∷ ps) [] = ap (λ (es : List (Option (Name × List Entry))). Some (e.0, e.1.entries) ∷ es) (read-whole ps [])
read-whole (None ∷ ps) (x ∷ ws) = ap (λ (es : List (Option (Name × List Entry))). None ∷ es) (read-whole ps ws)
read-whole (Some e ∷ ps) (x ∷ ws) = ap (λ (es : List (Option (Name × List Entry))). Some (e.0, e.1.entries) ∷ es) (read-whole ps ws)

read-shown : (ps : List (Option (Name × Body))) → map (option_map (read (λ (o : Object). o.entries))) (map shown_at ps) ≡ map entries_at ps
read-shown [] = refl
read-shown (None ∷ ps) = ap (λ (es : List (Option (Name × List Entry))). None ∷ es) (read-shown ps)
read-shown (Some e ∷ ps) = ap (λ (es : List (Option (Name × List Entry))). Some (e.0, e.1.entries) ∷ es) (read-shown ps)

from_read : (os : List (Option (Name × Object))) (ps : List (Option (Name × Body))) (n : Name) → map (option_map (read (λ (o : Object). o.entries))) os ≡ map entries_at ps
    → (object_in (standing os) n).entries ≡ listed ps n
from_read os ps n same =
    of_one (lookup (same_name n) (standing os))
    ∙ ap (λ (o : Option (List Entry)). unwrap_or o []) (sym (lookup-read (λ (o : Object). o.entries) (same_name n) (standing os))
    ∙ ap (lookup (same_name n)) (sym (standing-read (λ (o : Object). o.entries) os) ∙ ap standing same))

-- so walks go the same way
pub lists_same : (ps : List (Option (Name × Body))) (ws : List (List Proc)) (n : Name) → (object (seen ps) n).entries ≡ (object_in (standing (whole ps ws)) n).entries
lists_same ps ws n = from_read (map shown_at ps) ps n (read-shown ps) ∙ sym (from_read (whole ps ws) ps n (read-whole ps ws))

-- a change of another part leaves them
same_entries : (f : Body → Body) → ((b : Body) → (f b).entries ≡ b.entries) → (p : Option (Name × Body)) → entries_at (option_map (λ e. (e.0, f e.1)) p) ≡ entries_at p
same_entries f same None = refl
same_entries f same (Some e) = ap (λ (es : List Entry). Some (e.0, es)) (same e.1)

change-listed : (ps : List (Option (Name × Body))) (s : ℕ) (f : Body → Body) → ((b : Body) → (f b).entries ≡ b.entries) → map entries_at (change ps s f) ≡ map entries_at ps
change-listed [] s f same = refl
change-listed (p ∷ ps) zero f same = ap (λ (q : Option (Name × List Entry)). q ∷ map entries_at ps) (same_entries f same p)
change-listed (p ∷ ps) (suc s) f same = ap (λ (qs : List (Option (Name × List Entry))). entries_at p ∷ qs) (change-listed ps s f same)

pub lists_stay : (ps : List (Option (Name × Body))) (s : ℕ) (f : Body → Body) → ((b : Body) → (f b).entries ≡ b.entries) → (n : Name)
    → (object (seen ps) n).entries ≡ (object (seen (change ps s f)) n).entries
lists_stay ps s f same n =
    from_read (map shown_at ps) ps n (read-shown ps)
    ∙ sym (from_read (map shown_at (change ps s f)) ps n (read-shown (change ps s f) ∙ change-listed ps s f same))
