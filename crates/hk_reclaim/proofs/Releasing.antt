-- All that an object names is taken back, one after the other.
use Rattle.std.proofs.Common.{◌≡◌, ℕ, zero, suc, ◌+◌, ◌-◌, ◌<◌, ◌≤◌, List, [], ◌∷◌, ◌++◌, length, get_or, drop, refl, ap, ◌∙◌, sym, subst, arith, ⊎_elim, length-set, Option, Some}
use Rattle.std.proofs.Common.{None, IsSome, IfSome}
use Rattle.std.proofs.lemmas.List.{drop_all}
use Rattle.hk_model.specs.declared.names.Name.{Name}
use Rattle.hk_objects.specs.declared.body.Body.{Body}
use Rattle.hk_model.specs.declared.entries.Entry.{Entry}
use Rattle.hk_model.specs.declared.entries.Entry.TheVariants.{Empty, Held, Form}
use Rattle.hk_model.specs.declared.entries.Template.TheVariants as template
use Rattle.hk_model.specs.Keeping.{entry_names}
use Rattle.hk_objects.specs.Slots.{place, name_at, AreApart}
use Rattle.hk_reclaim.specs.Naming.{names_in, named_in, named, with_name}
use Rattle.hk_reclaim.specs.Tally.{Tally, owing, released, AreCounted, IsReleasable, IsReleased, SameOutside}
use Rattle.hk_reclaim.proofs.Counting.{releasable, released_name, owing_nothing}

pub same_tally : (t u : Tally) → u ≡ t → SameOutside t u
same_tally t u e = rw e (record { first_new = refl; outside = refl; total = refl })

same_after : (ps : List (Option (Name × Body))) (name : Option Name) (t u : Tally) → IsReleased ps name t u → SameOutside t u
same_after ps None t u e = same_tally t u e
same_after ps (Some x) t u r = ⊎_elim
    (λ (w : (k : ℕ) × (name_at ps k ≡ Some x) × (u ≡ released t k x)). rw w.2
    (record { first_new = refl; outside = refl; total = length-set t.total w.0 (get_or t.total w.0 0 - 1) }))
    (λ (w : ((k : ℕ) → name_at ps k ≡ Some x → ⊥) × (u ≡ t)). same_tally t u w.1)
    r

pub same_more : (t u v : Tally) → SameOutside t u → SameOutside u v → SameOutside t v
same_more t u v h g = record { first_new = g.first_new ∙ h.first_new; outside = g.outside ∙ h.outside; total = g.total ∙ h.total }

pub first_name : (p : Option (Name × Body)) (of : Name) → IsSome p → IfSome p (λ e. of ≡ e.1.of) → (rest : List Name) × (names_in p ≡ of ∷ rest)
first_name None of some h = absurd (cc)
first_name (Some e) of some h = (named_in e.1.entries, ap (λ n. n ∷ named_in e.1.entries) (sym h))

pub slot_names : (p : Option (Name × Body)) (of : Name) (es : List Entry) → IsSome p → IfSome p (λ e. of ≡ e.1.of) → IfSome p (λ e. es ≡ e.1.entries)
    → names_in p ≡ of ∷ named_in es
slot_names None of es some h g = absurd (cc)
slot_names (Some e) of es some h g = rw (h, g) refl

pub type_releasable : (ps : List (Option (Name × Body))) (s : ℕ) (of : Name) (t : Tally) → IsSome (place ps s) → IfSome (place ps s) (λ e. of ≡ e.1.of)
    → (owed : Name → ℕ) × AreCounted ps (owing owed (names_in (place ps s))) t → IsReleasable ps t (Some of)
type_releasable ps s of t some h w =
    let f : (rest : List Name) × (names_in (place ps s) ≡ of ∷ rest) = first_name (place ps s) of some h in
    releasable ps (Some of) f.0 w.0 t (subst (λ (ns : List Name). AreCounted ps (owing w.0 ns) t) f.1 w.1)

pub type_released : (ps : List (Option (Name × Body))) (s : ℕ) (of : Name) (es : List Entry) (t u : Tally) → AreApart ps → IsSome (place ps s)
    → IfSome (place ps s) (λ e. of ≡ e.1.of) → IfSome (place ps s) (λ e. es ≡ e.1.entries)
    → IsReleased ps (Some of) t u
    → ((owed : Name → ℕ) → AreCounted ps (owing owed (names_in (place ps s))) t → AreCounted ps (owing owed (named_in es)) u) × SameOutside t u
type_released ps s of es t u apart some h g r = (
  λ owed c. released_name ps (Some of) (named_in es) owed t u apart r (subst (λ (ns : List Name). AreCounted ps (owing owed ns) t) (slot_names (place ps s) of es some h g) c),
  same_after ps (Some of) t u r,
)

-- what an entry names stands before what the others name
entry_first : (e : Entry) (rest : List Name) → entry_names e ++ rest ≡ with_name (named e) rest
entry_first Empty rest = refl
entry_first (Held cap) rest = refl
entry_first (Form (template.Amplify None check give)) rest = refl
entry_first (Form (template.Amplify (Some of) check give)) rest = refl
entry_first (Form (template.Create of give)) rest = refl

pub next_names : (es : List Entry) (i : ℕ) → i < length es → named_in (drop i es) ≡ with_name (named (get_or es i Empty)) (named_in (drop (i + 1) es))
next_names [] i low = absurd (omega arith)
next_names (e ∷ es) zero low = entry_first e (named_in es)
next_names (e ∷ es) (suc i) low = let k : suc i + 1 ≡ suc (i + 1) = omega arith in rw k (next_names es i (omega arith))

pub entry_releasable : (ps : List (Option (Name × Body))) (all : List Name) (es : List Entry) (i : ℕ) (name : Option Name) (t u : Tally) → i < length es
    → name ≡ named (get_or es i Empty)
    → (owed : Name → ℕ) × AreCounted ps (owing owed all) t
    → ((owed : Name → ℕ) → AreCounted ps (owing owed all) t → AreCounted ps (owing owed (named_in (drop i es))) u)
    → IsReleasable ps u name
entry_releasable ps all es i name t u low read w h =
    rw read (releasable ps (named (get_or es i Empty)) (named_in (drop (i + 1) es)) w.0 u
    (subst (λ (ns : List Name). AreCounted ps (owing w.0 ns) u) (next_names es i low) (h w.0 w.1)))

pub entry_released : (ps : List (Option (Name × Body))) (all : List Name) (es : List Entry) (i : ℕ) (name : Option Name) (t u v : Tally) → AreApart ps → i < length es
    → name ≡ named (get_or es i Empty)
    → IsReleased ps name u v → SameOutside t u
    → ((owed : Name → ℕ) → AreCounted ps (owing owed all) t → AreCounted ps (owing owed (named_in (drop i es))) u)
    → ((owed : Name → ℕ) → AreCounted ps (owing owed all) t → AreCounted ps (owing owed (named_in (drop (i + 1) es))) v) × SameOutside t v
entry_released ps all es i name t u v apart low read r same h = (
  λ owed c. released_name ps (named (get_or es i Empty)) (named_in (drop (i + 1) es)) owed u v apart (subst (λ (n : Option Name). IsReleased ps n u v) read r)
      (subst (λ (ns : List Name). AreCounted ps (owing owed ns) u) (next_names es i low) (h owed c)),
  same_more t u v same (same_after ps name u v r),
)

pub all_released : (ps : List (Option (Name × Body))) (all : List Name) (es : List Entry) (i : ℕ) (t u : Tally) → length es ≤ i
    → ((owed : Name → ℕ) → AreCounted ps (owing owed all) t → AreCounted ps (owing owed (named_in (drop i es))) u)
    → (owed : Name → ℕ) → AreCounted ps (owing owed all) t → AreCounted ps owed u
all_released ps all es i t u high h owed c =
    owing_nothing ps owed u (subst (λ (xs : List Entry). AreCounted ps (owing owed (named_in xs)) u) (drop_all i es high) (h owed c))
