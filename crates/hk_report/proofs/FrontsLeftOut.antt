-- Ways that are kept over lists without what had ended when the first way can be at them are ways that are kept over the whole lists.
use Rattle.std.proofs.Common.{◌≡◌, ℕ, ◌≤◌, List, [], ◌∷◌, Bool, true, false, Option, Some, None, refl, sym, ◌∙◌, ap, cond, subst}
use Rattle.std.specs.Prelude.{◌⊎◌, ◌&&◌, ◌||◌, not, nat_lt}
use mathlib.Core.Logic.{inl, inr}
use Rattle.std.specs.List.{AllByRecursion}
use Rattle.std.proofs.lemmas.Bool.{true≢false}
use Rattle.hk_model.specs.declared.names.Name.{Name}
use Rattle.hk_model.specs.declared.entries.Cap.{Cap}
use Rattle.hk_model.specs.declared.reaches.Hop.{Hop}
use Rattle.hk_model.specs.declared.reaches.Reach.{Reach}
use Rattle.hk_model.proofs.Members.{Has, has_from, contains_from}
use Rattle.hk_report.specs.declared.histories.Span.{Span}
use Rattle.hk_report.specs.declared.histories.History.{History}
use Rattle.hk_report.specs.declared.hops.Arrived.{Arrived}
use Rattle.hk_report.specs.declared.hops.Onward.{Onward}
use Rattle.hk_report.specs.declared.reachable.Side.TheVariants.{First}
use Rattle.hk_report.specs.declared.ways.Way.{Way}
use Rattle.hk_report.specs.Histories.{history_of}
use Rattle.hk_report.specs.Hops.{arrived_by}
use Rattle.hk_report.specs.Reachable.{IsBy, IsByThen, goes_on, AreGoneOver, IsClosed, IsHeldBy, AreHeldBy}
use Rattle.hk_report.specs.Fronts.{stands_for, hop_over, ways_at, IsMetOnward, AreMetOver, AreMetOverAll, IsOnward, Lead, IsWay, AreFronts, IsKeptFirst}
use Rattle.hk_report.proofs.Agreeing.{IsThinned, IsThinnedBy, LeadsOn, LeadsTo, leads_on, ended_at, where_it_is, second, arrives}
use Rattle.hk_report.proofs.MomentLemmas.{all_so}
use Rattle.hk_report.proofs.WayLemmas.{met_none}
use Rattle.hk_report.proofs.Stretches.{all_each, got_has}

-- what is left of a list was in it
has_whole : (m : ℕ) (few all : List Span) (s : Span) → IsThinned m few all → Has few s → Has all s
has_whole m few [] s thin h = subst (λ (xs : List Span). Has xs s) thin h
has_whole m few (t ∷ all) s (inl ended) h = inr (has_whole m few all s ended.1 h)
has_whole m few (t ∷ all) s (inr kept) h = by (has_whole m kept.0 all s kept.1.1) (subst (λ (xs : List Span). Has xs s) kept.1.0 h)
  where
    by : (Has kept.0 s → Has all s) → (t ≡ s) ⊎ Has kept.0 s → Has (t ∷ all) s
    by later (inl e) = inl e
    by later (inr g) = inr (later g)

module _ (made : Name → Bool) (firsts : Name → Option ℕ) where
  -- ---- hops over one span

  -- where a hop leads, if it can be made
  hop_leads : (handed b : Bool) (m : ℕ) (from : Arrived) (s : Span) → m ≤ from.moment → LeadsOn made firsts m s → LeadsTo made firsts (hop_over handed b from s)
  hop_leads true b m from s le h =
      where_it_is made firsts _ _ (λ e. arrives made firsts m from s le h (second made firsts (not true || b) _ (second made firsts from.modify _ e)))
  hop_leads false b m from s le h =
      where_it_is made firsts _ _ (λ e. arrives made firsts m from s le h (second made firsts (not false || b) _ (second made firsts from.unconf _ e)))

  and_no_more : (x y : Bool) → (x && (y && false)) ≡ false
  and_no_more true true = refl
  and_no_more true false = refl
  and_no_more false y = refl

  none_if_not : (b : Bool) (o : Option Onward) → b ≡ false → cond b o None ≡ None
  none_if_not true o e = absurd (true≢false e)
  none_if_not false o e = refl

  -- no hop of either kind goes over what has ended
  no_hop : (handed b : Bool) (m : ℕ) (from : Arrived) (s : Span) → m ≤ from.moment → nat_lt m s.until ≡ false → hop_over handed b from s ≡ None
  no_hop handed b m from s le e =
      none_if_not _ _
      (ap (λ (x : Bool). stands_for handed from && ((not handed || b) && x)) (ended_at made firsts m from.moment s le e) ∙ and_no_more (stands_for handed from) (not handed || b))

  -- ---- hops behind ways that have come when what is left out has ended

  module _ (fronts : List (List Way)) where
    ended_met : (handed b : Bool) (m : ℕ) (s : Span) (ways : List Way) → AllByRecursion (λ (way : Way). m ≤ way.to.moment) ways → nat_lt m s.until ≡ false
        → AreMetOver fronts handed b s ways
    ended_met handed b m s [] h e = tt
    ended_met handed b m s (way ∷ ways) h e = (subst (IsMetOnward fronts way) (sym (no_hop handed b m way.to s h.0 e)) tt, λ f. ended_met handed b m s ways h.1 e)

    thinned_met : (m : ℕ) (few all : List Span) (ways : List Way) → AllByRecursion (λ (way : Way). m ≤ way.to.moment) ways → IsThinned m few all
        → AreMetOverAll fronts made ways few → AreMetOverAll fronts made ways all
    thinned_met m few [] ways h thin g = tt
    thinned_met m few (s ∷ all) ways h (inl ended) g = (λ handed. ended_met handed (made s.cap.name) m s ways h ended.0, thinned_met m few all ways h ended.1 g)
    thinned_met m few (s ∷ all) ways h (inr kept) g =
        let f : AreMetOverAll fronts made ways (s ∷ kept.0) = subst (AreMetOverAll fronts made ways) kept.1.0 g in (f.0, thinned_met m kept.0 all ways h kept.1.1 f.1)

    -- of an object to which no way leads none is kept
    whole_met : (o : Option ℕ) (few all : List Span) (ways : List Way) → AllByRecursion (λ (way : Way). IsBy o way.to.moment) ways → IsThinnedBy o few all
        → AreMetOverAll fronts made ways few → AreMetOverAll fronts made ways all
    whole_met None few all [] h thin g = met_none fronts made all
    whole_met None few all (way ∷ ways) h thin g = absurd h.0
    whole_met (Some m) few all ways h thin g = thinned_met m few all ways h thin g

  -- ---- ways over lists by ways over lists

  module _ (few all : List History) (thin : (x : Name) → IsThinnedBy (firsts x) (history_of few x).spans (history_of all x).spans) (closed : IsClosed First all firsts) where
    -- a hop from where a way can be leads to where a way can be
    onward_whole : (from : Arrived) (onward : Onward) → IsBy (firsts from.name) from.moment → IsOnward made few from onward
        → IsOnward made all from onward × IsBy (firsts onward.to.name) onward.to.moment
    onward_whole from onward h is = by (firsts from.name) h (thin from.name) (closed from.name)
      where
        by : (o : Option ℕ) → IsBy o from.moment → IsThinnedBy o (history_of few from.name).spans (history_of all from.name).spans
            → AreGoneOver First firsts o (history_of all from.name).spans → IsOnward made all from onward × IsBy (firsts onward.to.name) onward.to.moment
        by None g f c = absurd g
        by (Some m) g f c =
            let has : Has (history_of all from.name).spans is.span =
            has_whole m (history_of few from.name).spans (history_of all from.name).spans is.span f (has_from (history_of few from.name).spans is.span is.is) in
            let goes : IsByThen (firsts is.span.cap.name) (goes_on First (Some m) is.span) =
            all_each (λ (s : Span). IsByThen (firsts s.cap.name) (goes_on First (Some m) s)) (history_of all from.name).spans is.span c has in (
              record { span = is.span; is = contains_from (history_of all from.name).spans is.span has; handed = is.handed; goes = is.goes },
              subst (LeadsTo made firsts) is.goes (hop_leads is.handed (made is.span.cap.name) m from is.span g (leads_on made firsts m is.span goes)),
            )

    lead_whole : (hops : List Hop) (from to : Arrived) → IsBy (firsts from.name) from.moment → Lead made few hops from to → Lead made all hops from to × IsBy (firsts to.name) to.moment
    lead_whole [] from to h e = (e, subst (λ (a : Arrived). IsBy (firsts a.name) a.moment) e h)
    lead_whole (hop ∷ hops) from to h g =
        let next = onward_whole from (record { hop = hop; to = g.0 }) h g.1.0 in
        let rest = lead_whole hops g.0 to next.1 g.1.1 in
        ((g.0, (next.0, rest.0)), rest.1)

    module _ (k : ℕ) (params : List (Option Cap)) (held : AreHeldBy firsts k params) where
      way_whole : (name : Name) (way : Way) → IsWay made few k params name way → IsWay made all k params name way × IsBy (firsts name) way.to.moment
      way_whole name way is =
          let there : IsBy (firsts is.cap.name) k = all_each (IsHeldBy firsts k) params (Some is.cap) held (got_has params way.arg (Some is.cap) is.held) in
          let leads = lead_whole way.hops (arrived_by k is.cap) way.to there is.leads in
          (record { named = is.named; cap = is.cap; held = is.held; leads = leads.0 }, subst (λ (x : Name). IsBy (firsts x) way.to.moment) is.named leads.1)

      fronts_whole : (fronts : List (List Way)) → AreFronts made few k params fronts → AreFronts made all k params fronts
      fronts_whole fronts are = record {
        sound = λ name. all_so (IsWay made few k params name) (IsWay made all k params name) (λ way is. (way_whole name way is).0) (ways_at fronts name) (are.sound name);
        rising = are.rising;
        started = are.started;
        closed =
            λ name. whole_met fronts (firsts name) (history_of few name).spans (history_of all name).spans (ways_at fronts name)
            (all_so (IsWay made few k params name) (λ (way : Way). IsBy (firsts name) way.to.moment) (λ way is. (way_whole name way is).1) (ways_at fronts name) (are.sound name))
            (thin name) (are.closed name);
      }

-- what is kept over what is left is kept over all
pub kept_same : (made : Name → Bool) (firsts : Name → Option ℕ) (few all : List History) (thin : (x : Name) → IsThinnedBy (firsts x) (history_of few x).spans (history_of all x).spans)
    (closed : IsClosed First all firsts) (wanted : Name) (k moment : ℕ) (params : List (Option Cap)) (reach : Reach) → AreHeldBy firsts k params
    → IsKeptFirst made few k params wanted moment reach → IsKeptFirst made all k params wanted moment reach
kept_same made firsts few all thin closed wanted k moment params reach held kept =
    record { fronts = kept.fronts; are = fronts_whole made firsts few all thin closed k params held kept.fronts kept.are; is = kept.is }
