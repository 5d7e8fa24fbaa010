-- What is kept while the ways of a call are found are ways.
use Rattle.std.proofs.Common.{◌≡◌, ℕ, zero, suc, ◌<◌, List, [], ◌∷◌, ◌++◌, length, replicate, Bool, true, false, Option, Some, refl, sym, ap, arith, subst, slice_get}
use Rattle.std.specs.Prelude.{◌⊎◌, ◌==◌, slice_set, slice_index_or}
use mathlib.Core.Logic.{inl, inr}
use Rattle.std.specs.List.{AllByRecursion, Contains}
use Rattle.std.proofs.lemmas.Bool.{eqb-true}
use Rattle.hk_model.specs.declared.names.Name.{Name}
use Rattle.hk_model.specs.declared.entries.Cap.{Cap}
use Rattle.hk_model.specs.declared.reaches.Hop.{Hop}
use Rattle.hk_model.proofs.Members.{has_from}
use Rattle.hk_model.proofs.NamesStand.{all_append}
use Rattle.hk_report.specs.declared.histories.History.{History}
use Rattle.hk_report.specs.declared.hops.Arrived.{Arrived}
use Rattle.hk_report.specs.declared.hops.Onward.{Onward}
use Rattle.hk_report.specs.declared.ways.Way.{Way}
use Rattle.hk_report.specs.Hops.{arrived_by}
use Rattle.hk_report.specs.Fronts.{longer, ways_at, IsOneMore, IsOnward, Lead, IsWay, AreSound}
use Rattle.hk_report.proofs.HistoryLemmas.{name_is}
use Rattle.hk_report.proofs.HolderLemmas.{none_at, set_same, set_other}
use Rattle.hk_report.proofs.Spans.{all_has}

-- ---- one way more

-- a way is put behind those of its object
module _ (way : Way) (before : List (List Way)) (here : way.to.name.0 < length before) where
  abbrev set_more : List (List Way)
  set_more = slice_set before way.to.name.0 (ways_at before way.to.name ++ way ∷ [])

  set_is_more : IsOneMore way before set_more
  set_is_more name = by (way.to.name.0 == name.0) refl
    where
      by : (b : Bool) → (way.to.name.0 == name.0) ≡ b
          → (ways_at set_more name ≡ ways_at before name) ⊎ ((way.to.name ≡ name) × (ways_at set_more name ≡ ways_at before name ++ way ∷ []))
      by true e =
          let same : way.to.name ≡ name = name_is way.to.name name (eqb-true way.to.name.0 name.0 e) in
          inr (
            same,
            subst (λ (x : Name). ways_at set_more x ≡ ways_at before x ++ way ∷ []) same
                (set_same before way.to.name.0 (ways_at before way.to.name ++ way ∷ []) here),
          )
      by false e = inl (set_other before way.to.name.0 name.0 (ways_at before way.to.name ++ way ∷ []) e)

pub kept_more : (way : Way) (before after : List (List Way)) → way.to.name.0 < length before
    → after ≡ slice_set before way.to.name.0 (ways_at before way.to.name ++ way ∷ []) → IsOneMore way before after
kept_more way before after here is = subst (IsOneMore way before) (sym is) (set_is_more way before here)

pub kept_same : (way : Way) (before after : List (List Way)) → after ≡ before → IsOneMore way before after
kept_same way before after is = λ name. inl (ap (λ (all : List (List Way)). ways_at all name) is)

module _ (made : Name → Bool) (histories : List History) (k : ℕ) (params : List (Option Cap)) where
  -- ---- ways

  -- a way that is put together of no hop
  pub begun_way : (way : Way) (arg : ℕ) (cap : Cap) → slice_get params arg ≡ Some (Some cap) → way.arg ≡ arg → way.hops ≡ [] → way.to ≡ arrived_by k cap
      → IsWay made histories k params way.to.name way
  begun_way way arg cap held arg_is hops_are to_is = record {
    named = refl;
    cap = cap;
    held = subst (λ (n : ℕ). slice_get params n ≡ Some (Some cap)) (sym arg_is) held;
    leads = subst (λ (hops : List Hop). Lead made histories hops (arrived_by k cap) way.to) (sym hops_are) (sym to_is);
  }

  lead_more : (hops : List Hop) (from to : Arrived) (onward : Onward) → Lead made histories hops from to → IsOnward made histories to onward
      → Lead made histories (hops ++ onward.hop ∷ []) from onward.to
  lead_more [] from to onward l o = (onward.to, (subst (λ (a : Arrived). IsOnward made histories a onward) (sym l) o, refl))
  lead_more (hop ∷ hops) from to onward l o = (l.0, (l.1.0, lead_more hops l.0 to onward l.1.1 o))

  pub longer_way : (name : Name) (way : Way) (onward : Onward) → IsWay made histories k params name way → IsOnward made histories way.to onward
      → IsWay made histories k params onward.to.name (longer way onward)
  longer_way name way onward w o = record {
    named = refl;
    cap = w.cap;
    held = w.held;
    leads = lead_more way.hops (arrived_by k w.cap) way.to onward w.leads o;
  }

  -- ---- what is kept

  pub sound_none : (n : ℕ) → AreSound made histories k params (replicate n [])
  sound_none n name = subst (AllByRecursion (IsWay made histories k params name)) (sym (none_at n name.0)) tt

  pub sound_more : (way : Way) (before after : List (List Way)) → IsOneMore way before after → IsWay made histories k params way.to.name way
      → AreSound made histories k params before → AreSound made histories k params after
  sound_more way before after more w sound name = by (more name)
    where
      by : (ways_at after name ≡ ways_at before name) ⊎ ((way.to.name ≡ name) × (ways_at after name ≡ ways_at before name ++ way ∷ []))
          → AllByRecursion (IsWay made histories k params name) (ways_at after name)
      by (inl e) = subst (AllByRecursion (IsWay made histories k params name)) (sym e) (sound name)
      by (inr (n, e)) =
          subst (AllByRecursion (IsWay made histories k params name)) (sym e)
          (all_append (IsWay made histories k params name) (ways_at before name) (way ∷ []) (sound name) (subst (λ (x : Name). IsWay made histories k params x way) n w, tt))

  -- what is kept of an object leads to it
  pub sound_at : (all : List (List Way)) (name : Name) (way : Way) → AreSound made histories k params all → Contains (ways_at all name) way
      → IsWay made histories k params way.to.name way
  sound_at all name way sound c =
      let w = all_has (IsWay made histories k params name) (ways_at all name) way (sound name) (has_from (ways_at all name) way c) in
      record { named = refl; cap = w.cap; held = w.held; leads = w.leads }

-- ---- spans

-- what is found in a list at a place is in it
pub got_contained : {X : Type 0} (xs : List X) (i : ℕ) (x : X) → i < length xs → ((d : X) → x ≡ slice_index_or xs i d) → Contains xs x
got_contained xs i x l e = (i, l, sym (e x))

pub got_slice : {X : Type 0} (xs : List X) (i : ℕ) (x : X) → i < length xs → ((d : X) → x ≡ slice_index_or xs i d) → slice_get xs i ≡ Some x
got_slice [] i x l e = absurd (omega (arith, l))
got_slice (y ∷ xs) zero x l e = ap Some (sym (e x))
got_slice (y ∷ xs) (suc i) x l e = got_slice xs i x (omega (arith, l)) e
