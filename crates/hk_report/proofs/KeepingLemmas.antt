-- What is kept of calls one after another.
use Rattle.std.proofs.Common.{◌≡◌, ℕ, ◌<◌, List, [], ◌∷◌, length, true, Option, Some, None, IfSome, sym, subst}
use Rattle.std.specs.Prelude.{◌==◌, slice_index_or}
use mathlib.Core.Logic.{inl, inr}
use Rattle.std.specs.Cmp.{first_so, second_so}
use Rattle.std.proofs.lemmas.Bool.{eqb-true}
use Rattle.hk_model.specs.declared.names.Name.{Name}
use Rattle.hk_model.specs.declared.entries.Cap.{Cap}
use Rattle.hk_model.specs.declared.reaches.Reach.{Reach}
use Rattle.hk_model.proofs.Members.{has_from}
use Rattle.hk_model.proofs.NamesStand.{all_append}
use Rattle.hk_report.specs.declared.families.Begun.{Begun}
use Rattle.hk_report.specs.declared.fronts.Fronts.{Fronts}
use Rattle.hk_report.specs.declared.histories.History.{History}
use Rattle.hk_report.specs.Hops.{same_begun, is_made}
use Rattle.hk_report.specs.Fronts.{AreFronts, IsFirst, IsKeptFirst}
use Rattle.hk_report.specs.Keeping.{IsFirstOf, IsAdded, IsOneCallMore, AreFrontsOf, AreKeptOf}
use Rattle.hk_report.specs.Reasons.{params_at}
use Rattle.hk_report.proofs.Spans.{all_has}

abbrev begun_of : ℕ → ℕ → Begun
begun_of number moment = record { call = record { 0 = number }; moment = moment }

pub begun_same : (a b : Begun) → same_begun a b ≡ true → a ≡ b
begun_same a b h =
    let calls = eqb-true a.call.0 b.call.0 (first_so (a.call.0 == b.call.0) (a.moment == b.moment) h) in
    let moments = eqb-true a.moment b.moment (second_so (a.call.0 == b.call.0) (a.moment == b.moment) h) in
    λ i. begun_of (calls i) (moments i)

-- what is found of a call is found among all
pub found_of : (kept : List Fronts) (index : ℕ) (fronts : Fronts) (begun : Begun) (wanted : Name) (moment : ℕ) (o : Option Reach) → index < length kept
    → fronts ≡ slice_index_or kept index fronts → same_begun fronts.begun begun ≡ true → IfSome o (λ reach. IsFirst fronts.ways.items wanted moment reach)
    → IfSome o (λ reach. IsFirstOf kept begun wanted moment reach)
found_of kept index fronts begun wanted moment None l e same h = tt
found_of kept index fronts begun wanted moment (Some reach) l e same h =
    record { fronts = fronts; is = (index, l, sym e); of = begun_same fronts.begun begun same; first = h }

module _ (families : List (List Begun)) (histories : List History) (params : List (List (Option Cap))) where
  -- a reach that is kept of a call is told by ways that are all that matter
  pub kept_of : (kept : List Fronts) (begun : Begun) (wanted : Name) (moment : ℕ) (reach : Reach) → AreKeptOf families histories params kept
      → IsFirstOf kept begun wanted moment reach
      → IsKeptFirst (is_made families begun histories) histories begun.moment (params_at families params begun.call) wanted moment reach
  kept_of kept begun wanted moment reach all h =
      let are = all_has (AreFrontsOf families histories params) kept h.fronts all (has_from kept h.fronts h.is) in
      record {
        fronts = h.fronts.ways.items;
        are = subst (λ (b : Begun). AreFronts (is_made families b histories) histories b.moment (params_at families params b.call) h.fronts.ways.items) h.of are;
        is = h.first;
      }

  -- and so are those of one call more
  added_of : (fronts : Fronts) (before after : List Fronts) → IsAdded fronts before after → AreFrontsOf families histories params fronts
      → AreKeptOf families histories params before → AreKeptOf families histories params after
  added_of fronts before after (inl e) one all =
      subst (AreKeptOf families histories params) (sym e) (all_append (AreFrontsOf families histories params) before (fronts ∷ []) all (one, tt))
  added_of fronts before after (inr e) one all = subst (AreKeptOf families histories params) (sym e) (one, tt)

  pub one_call_more : (begun : Begun) (before after : List Fronts)
      → IsOneCallMore (is_made families begun histories) histories begun (params_at families params begun.call) before after → AreKeptOf families histories params before
      → AreKeptOf families histories params after
  one_call_more begun before after (inl e) all = subst (AreKeptOf families histories params) (sym e) all
  one_call_more begun before after (inr (fronts, of, are, added)) all =
      added_of fronts before after added
      (subst (λ (b : Begun). AreFronts (is_made families b histories) histories b.moment (params_at families params b.call) fronts.ways.items) (sym of) are) all
