-- What the descent law refuses: links and makings that a wrong rule would make.
use Rattle.std.specs.Prelude.{◌≡◌, ℕ, Some, None}
use Rattle.std.proofs.Common.{arith, sym, ap}
use Rattle.std.proofs.lemmas.Option.{none-some}
use Rattle.hk_model.specs.declared.names.Name.{Name}
use Rattle.hk_model.specs.declared.entries.Template.{Template}
use Rattle.hk_model.specs.declared.entries.Template.TheVariants as template
use Rattle.hk_model.specs.declared.entries.Entry.{Entry}
use Rattle.hk_model.specs.declared.entries.Entry.TheVariants.{Empty, Held, Form}
use Rattle.hk_rights.specs.Rights.{GETDATA, MODIFY, ENV, A0, first_missing, right_numbers, right_table}
use Rattle.hk_model.specs.Origins.{ByCreate, ByCopy, ByMakeTemplate}
use Rattle.hk_model.specs.Descent.{Gate, IsLink, IsMade}
use Rattle.hk_model.proofs.RowParts.{name, cap}

-- the rights that a template gives
abbrev gives : Entry → ℕ
gives (Form (template.Create of give)) = give
gives (Form (template.Amplify of check give)) = give
gives (Held c) = 0
gives Empty = 0

-- no right is gained along a link
gained-right : IsLink (cap 8 GETDATA) None (cap 8 MODIFY) → ⊥
unfolding first_missing right_numbers right_table
gained-right h = none-some 8 (sym h.1)

-- no other object is named
other-object : IsLink (cap 8 GETDATA) None (cap 9 GETDATA) → ⊥
other-object h = let e : 9 ≡ 8 = ap (λ (n : Name). n.0) h.0 in omega (arith, e)

-- a template stays as it is
changed-template : IsLink (Form (template.Create (name 7) GETDATA)) None (Form (template.Create (name 7) MODIFY)) → ⊥
changed-template h = let e : GETDATA ≡ MODIFY = ap (λ (t : Template). gives (Form t)) h in omega (arith, e)

-- nothing comes from an empty place
from-nothing : IsLink Empty None (cap 8 GETDATA) → ⊥
from-nothing h = h

abbrev gate : ℕ → ℕ → Gate
gate check give = record { form = record { of = Some (name 7); check = check; give = give }; of = name 7 }

-- no template gives ENV, or passes over a right that it checks, or gives what it does not name
env-by-a-template : IsLink (cap 8 GETDATA) (Some (gate 0 ENV)) (cap 8 ENV) → ⊥
unfolding first_missing right_numbers right_table
env-by-a-template h = none-some 9 (sym h.special)

unchecked-template : IsLink (cap 8 GETDATA) (Some (gate A0 GETDATA)) (cap 8 GETDATA) → ⊥
unfolding first_missing right_numbers right_table
unchecked-template h = none-some 16 (sym h.checked)

not-given : IsLink (cap 8 GETDATA) (Some (gate 0 GETDATA)) (cap 8 A0) → ⊥
not-given h = let e : A0 ≡ GETDATA = h.others.1 in omega (arith, e)

-- a template of another type than the object's
other-type : IsLink (cap 8 GETDATA) (Some (record { form = record { of = Some (name 6); check = 0; give = A0 }; of = name 7 })) (cap 8 A0) → ⊥
other-type h = let e : 6 ≡ 7 = ap (λ (n : Name). n.0) h.others.0 in omega (arith, e)

-- a new object with more than its template gives, a copy with more than its target has, and a template made without ENV
created-with-more : IsMade (ByCreate (name 9)) (Form (template.Create (name 7) GETDATA)) (cap 9 MODIFY) → ⊥
created-with-more h = let e : MODIFY ≡ GETDATA = h.1 in omega (arith, e)

copied-with-more : IsMade (ByCopy (name 9)) (cap 8 GETDATA) (cap 9 MODIFY) → ⊥
copied-with-more h = let e : MODIFY ≡ GETDATA = h.1 in omega (arith, e)

template-without-env : IsMade ByMakeTemplate (cap 7 A0) (Form (template.Create (name 7) GETDATA)) → ⊥
unfolding first_missing right_numbers right_table
template-without-env h = none-some 9 (sym h.1)
