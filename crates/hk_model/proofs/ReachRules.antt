-- The reaches of a call keep their rules, and are the least sets that do.
use Rattle.std.proofs.Common.{◌≡◌, ℕ, ◌≤◌, List, [], ◌∷◌, ◌++◌, Bool, true, false, ◌&&◌, Option, Some, None, refl, sym, ap, ◌∙◌, arith, slice_get, option_map, option_and_then}
use Rattle.std.proofs.Common.{nat_le, if◌then◌else◌}
use Rattle.std.proofs.lemmas.Bool.{le-leb, leb-true, and_from, true≢false}
use Rattle.hk_model.specs.declared.names.Name.{Name}
use Rattle.hk_model.specs.declared.entries.Cap.{Cap}
use Rattle.hk_model.specs.declared.entries.Entry.{Entry}
use Rattle.hk_model.specs.declared.entries.Entry.TheVariants.{Empty, Held, Form}
use Rattle.hk_model.specs.State.{State}
use Rattle.hk_model.specs.declared.lines.Line.{Line}
use Rattle.hk_model.specs.declared.reaches.Hop.{Hop}
use Rattle.hk_model.specs.declared.reaches.Hop.TheVariants as hop_by
use Rattle.hk_model.specs.WorldValue.{WorldValue}
use Rattle.hk_model.specs.Running.{state_at}
use Rattle.hk_model.specs.Places.{cap_of}
use Rattle.hk_model.specs.Under.{is_made_under, parameters}
use Rattle.hk_model.specs.Reaches.{index_of, moment_of, is_handed, Reached, reached_by, handed_over, listed_cap, onward, hop_to, follow, param_reached, reach, IsReached}
use Rattle.hk_model.specs.Reaches.{AreReaches, ReachLaw}

module _ (at : ℕ → State) (made : Name → Bool) where
  -- hops and then one more
  pub follow-append : (hops : List Hop) (hop : Hop) (from : Reached) → follow at made (hops ++ hop ∷ []) from ≡ option_and_then (hop_to at made hop) (follow at made hops from)
  follow-append [] hop from = one (hop_to at made hop from)
    where
      one : (found : Option Reached) → option_and_then (λ s. Some s) found ≡ found
      one None = refl
      one (Some s) = refl
  follow-append (h ∷ hops) hop from = by (hop_to at made h from) (λ s. follow-append hops hop s)
    where
      by : (found : Option Reached) → ((s : Reached) → follow at made (hops ++ hop ∷ []) s ≡ option_and_then (hop_to at made hop) (follow at made hops s))
          → option_and_then (follow at made (hops ++ hop ∷ [])) found ≡ option_and_then (hop_to at made hop) (option_and_then (follow at made hops) found)
      by None later = refl
      by (Some s) later = later s

  module _ (params : List Entry) (k : ℕ) where
    reach-append : (param : ℕ) (hops : List Hop) (hop : Hop)
        → reach at made params k param (hops ++ hop ∷ []) ≡ option_and_then (hop_to at made hop) (reach at made params k param hops)
    reach-append param hops hop = by (param_reached params k param)
      where
        by : (found : Option Reached)
            → option_and_then (follow at made (hops ++ hop ∷ [])) found ≡ option_and_then (hop_to at made hop) (option_and_then (follow at made hops) found)
        by None = refl
        by (Some s) = follow-append hops hop s

    -- what is reached stays reached
    pub reached_later : (good : Reached → Bool) (early late : ℕ) (x : Name) → early ≤ late → IsReached at made params k good early x → IsReached at made params k good late x
    reached_later good early late x l r = let b = r.is.by_then in record {
      param = r.param;
      hops = r.hops;
      is = record { there = r.is.there; leads = r.is.leads; same = r.is.same; good = r.is.good; by_then = omega (arith, b, l) };
    }

    -- what a parameter is when the call begins
    pub param_is_reached : (good : Reached → Bool) (param : ℕ) (cap : Cap) → slice_get params param ≡ Some (Held cap) → good (reached_by k cap) ≡ true
        → IsReached at made params k good k cap.name
    param_is_reached good param cap h g = record {
      param = param;
      hops = [];
      is = record {
        there = reached_by k cap;
        leads = ap (λ (found : Option Entry). option_and_then (follow at made []) (option_and_then (λ (e : Entry). option_map (reached_by k) (cap_of e)) found)) h;
        same = refl;
        good = g;
        by_then = omega arith;
      };
    }

    -- one hop more
    hop_is_reached : (good next_good : Reached → Bool) (hop : Hop) (x : Name) (cap : Cap) (next : Reached) (r : IsReached at made params k good (moment_of hop) x)
        → listed_cap (at (moment_of hop)) x (index_of hop) ≡ Some cap → onward made hop r.is.there cap ≡ Some next → next.moment ≡ moment_of hop → next_good next ≡ true
        → IsReached at made params k next_good (moment_of hop) next.name
    hop_is_reached good next_good hop x cap next r l step ends next_is = record {
      param = r.param;
      hops = r.hops ++ hop ∷ [];
      is = record {
        there = next;
        leads =
            reach-append r.param r.hops hop
            ∙ ap (option_and_then (hop_to at made hop)) r.is.leads
            ∙ ap (λ (b : Bool). if b then option_and_then (onward made hop r.is.there) (listed_cap (at (moment_of hop)) r.is.there.name (index_of hop)) else None)
            (le-leb r.is.there.moment (moment_of hop) r.is.by_then)
            ∙ ap (option_and_then (onward made hop r.is.there)) (ap (λ (y : Name). listed_cap (at (moment_of hop)) y (index_of hop)) r.is.same ∙ l)
            ∙ step;
        same = refl;
        good = next_is;
        by_then = omega (arith, ends);
      };
    }

    some_if : (b : Bool) (there : Reached) → b ≡ true → ◌≡◌ {A = Option Reached} (if b then Some there else None) (Some there)
    some_if true there h = refl
    some_if false there h = absurd (true≢false (sym h))

    -- the reaches keep the rules
    pub reaches_keep_the_rules : AreReaches at made params k (IsReached at made params k (λ r. r.modify)) (IsReached at made params k (λ r. r.unconf))
    reaches_keep_the_rules = record {
      param_modify = λ param cap h g. param_is_reached (λ r. r.modify) param cap h g;
      param_unconf = λ param cap h g. param_is_reached (λ r. r.unconf) param cap h g;
      later_modify = λ early late x begun l r. reached_later (λ r. r.modify) early late x l r;
      later_unconf = λ early late x begun l r. reached_later (λ r. r.unconf) early late x l r;
      entry_modify = λ moment index x cap begun r l g. hop_is_reached (λ r. r.unconf) (λ r. r.modify) (hop_by.Entry index moment) x cap (reached_by moment cap) r l
          (some_if r.is.there.unconf (reached_by moment cap) r.is.good) refl g;
      entry_unconf = λ moment index x cap begun r l g. hop_is_reached (λ r. r.unconf) (λ r. r.unconf) (hop_by.Entry index moment) x cap (reached_by moment cap) r l
          (some_if r.is.there.unconf (reached_by moment cap) r.is.good) refl g;
      handed = λ moment index x cap begun r l g. (
        hop_is_reached (λ r. r.modify) (λ r. r.modify) (hop_by.Handed index moment) x cap (handed_over moment cap) r l
            (some_if (r.is.there.modify && made cap.name) (handed_over moment cap) (and_from r.is.there.modify (made cap.name) r.is.good g)) refl refl,
        hop_is_reached (λ r. r.modify) (λ r. r.unconf) (hop_by.Handed index moment) x cap (handed_over moment cap) r l
            (some_if (r.is.there.modify && made cap.name) (handed_over moment cap) (and_from r.is.there.modify (made cap.name) r.is.good g)) refl refl,
      );
    }

    module _ (M U : ℕ → Name → Type 0) (rules : AreReaches at made params k M U) where
      -- what a reach has come to is in the sets that it stands good for
      pub record IsIn (r : Reached) : Type 0 where
        pub modify : r.modify ≡ true → M r.moment r.name
        pub unconf : r.unconf ≡ true → U r.moment r.name
        pub begun : k ≤ r.moment

      hop_is_in : (hop : Hop) (from next : Reached) → IsIn from → hop_to at made hop from ≡ Some next → IsIn next
      hop_is_in hop from next f h = by_moment (nat_le from.moment (moment_of hop)) refl (listed_cap (at (moment_of hop)) from.name (index_of hop)) refl h
        where
          by_hop : (cap : Cap) → listed_cap (at (moment_of hop)) from.name (index_of hop) ≡ Some cap → from.moment ≤ (moment_of hop) → (handed m made_there u : Bool)
              → from.modify ≡ m → made cap.name ≡ made_there → from.unconf ≡ u
              → ◌≡◌ {A = Option Reached} (if handed then (if m && made_there then Some (handed_over (moment_of hop) cap) else None) else
              (if u then Some (reached_by (moment_of hop) cap) else None)) (Some next)
              → IsIn next
          by_hop cap l e true true true u p q o h =
              let same : handed_over (moment_of hop) cap ≡ next = cc in
              let b = f.begun in
              let both =
              rules.handed (moment_of hop) (index_of hop) from.name cap (omega (arith, b, e))
              (rules.later_modify from.moment (moment_of hop) from.name f.begun e (f.modify p)) l q in
              rw (← same) (record { modify = λ g. both.0; unconf = λ g. both.1; begun = omega (arith, b, e) })
          by_hop cap l e true true false u p q o h = absurd (cc)
          by_hop cap l e true false m u p q o h = absurd (cc)
          by_hop cap l e false m c false p q o h = absurd (cc)
          by_hop cap l e false m c true p q o h =
              let same : reached_by (moment_of hop) cap ≡ next = cc in
              let b = f.begun in
              let there : U (moment_of hop) from.name = rules.later_unconf from.moment (moment_of hop) from.name f.begun e (f.unconf o) in
              rw (← same) (record {
                modify = λ g. rules.entry_modify (moment_of hop) (index_of hop) from.name cap (omega (arith, b, e)) there l g;
                unconf = λ g. rules.entry_unconf (moment_of hop) (index_of hop) from.name cap (omega (arith, b, e)) there l g;
                begun = omega (arith, b, e);
              })

          by_moment : (b : Bool) → nat_le from.moment (moment_of hop) ≡ b → (found : Option Cap) → listed_cap (at (moment_of hop)) from.name (index_of hop) ≡ found
              → (if b then option_and_then (onward made hop from) found else None) ≡ Some next → IsIn next
          by_moment false e found l h = absurd (cc)
          by_moment true e None l h = absurd (cc)
          by_moment true e (Some cap) l h = by_hop cap l (leb-true from.moment (moment_of hop) e) (is_handed hop) from.modify (made cap.name) from.unconf refl refl refl h

      follow_is_in : (hops : List Hop) (from there : Reached) → IsIn from → follow at made hops from ≡ Some there → IsIn there
      follow_is_in [] from there f h = let same : from ≡ there = cc in rw (← same) f
      follow_is_in (hop ∷ hops) from there f h = by (λ next g e. follow_is_in hops next there g e) (hop_to at made hop from) refl h
        where
          by : ((next : Reached) → IsIn next → follow at made hops next ≡ Some there → IsIn there) → (found : Option Reached) → hop_to at made hop from ≡ found
              → option_and_then (follow at made hops) found ≡ Some there → IsIn there
          by later None e h = absurd (cc)
          by later (Some next) e h = later next (hop_is_in hop from next f e) h

      reach_is_in : (param : ℕ) (hops : List Hop) (there : Reached) → reach at made params k param hops ≡ Some there → IsIn there
      reach_is_in param hops there h = by (slice_get params param) refl h
        where
          by : (found : Option Entry) → slice_get params param ≡ found
              → option_and_then (follow at made hops) (option_and_then (λ (e : Entry). option_map (reached_by k) (cap_of e)) found) ≡ Some there → IsIn there
          by None e h = absurd (cc)
          by (Some Empty) e h = absurd (cc)
          by (Some (Form form)) e h = absurd (cc)
          by (Some (Held cap)) e h =
              follow_is_in hops (reached_by k cap) there (record {
                modify = λ g. rules.param_modify param cap e g;
                unconf = λ g. rules.param_unconf param cap e
                    g;
                begun = omega arith;
              }) h

      -- all sets that keep the rules have what is reached
      pub modifiable_is_least : (moment : ℕ) (x : Name) → IsReached at made params k (λ r. r.modify) moment x → M moment x
      modifiable_is_least moment x r =
          let g = reach_is_in r.param r.hops r.is.there r.is.leads in
          rw (← r.is.same) (rules.later_modify r.is.there.moment moment r.is.there.name g.begun r.is.by_then (g.modify r.is.good))

      pub unconfined_is_least : (moment : ℕ) (x : Name) → IsReached at made params k (λ r. r.unconf) moment x → U moment x
      unconfined_is_least moment x r =
          let g = reach_is_in r.param r.hops r.is.there r.is.leads in
          rw (← r.is.same) (rules.later_unconf r.is.there.moment moment r.is.there.name g.begun r.is.by_then (g.unconf r.is.good))

-- so they are the least sets that keep the rules
pub reaches_are_least : (w : WorldValue) (lines : List Line) → ReachLaw w lines
reaches_are_least w lines k call =
    let at = state_at w lines in
    let made = is_made_under w lines k call in
    let params = parameters w lines k call in
    record {
      keep = reaches_keep_the_rules at made params k;
      least = λ m u rules moment x. (
        modifiable_is_least at made params k (λ t y. m t y ≡ true) (λ t y. u t y ≡ true) rules moment x,
        unconfined_is_least at made params k (λ t y. m t y ≡ true) (λ t y. u t y ≡ true) rules moment x,
      );
    }
