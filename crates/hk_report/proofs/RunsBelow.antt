-- Of a run whose object the rest can be made from below some moments, the hop that comes first.
use Rattle.std.proofs.Common.{◌≡◌, ℕ, ◌+◌, ◌<◌, ◌≤◌, List, [], ◌∷◌, length, Bool, true, false, Option, Some, None, refl, sym, ◌∙◌, ap, arith, cond, subst, slice_get}
use Rattle.std.specs.Prelude.{◌⊎◌, drop, slice_index_or}
use mathlib.Core.Logic.{inl, inr}
use Rattle.std.specs.List.{AllByRecursion, find}
use Rattle.std.proofs.lemmas.Bool.{cases_lt}
use Rattle.hk_model.specs.declared.names.Name.{Name}
use Rattle.hk_model.specs.declared.entries.Cap.{Cap}
use Rattle.hk_model.specs.Reaches.{index_of, moment_of}
use Rattle.hk_report.specs.declared.histories.Span.{Span}
use Rattle.hk_report.specs.declared.histories.History.{History}
use Rattle.hk_report.specs.declared.holders.Stretch.{Stretch}
use Rattle.hk_report.specs.declared.hops.Arrived.{Arrived}
use Rattle.hk_report.specs.declared.hops.Latest.{Latest}
use Rattle.hk_report.specs.declared.hops.Onward.{Onward}
use Rattle.hk_report.specs.Hops.{earlier, onward_below, first_open_below, first_from, later, IsSooner, StaysFirst}
use Rattle.hk_report.specs.Runs.{precedes, IsRun, is_open}
use Rattle.hk_report.specs.Holders.{spans_in, HoldsAlone}
use Rattle.hk_report.proofs.HolderLemmas.{drop_more}
use Rattle.hk_report.proofs.HopLemmas.{stays_over}
use Rattle.hk_report.proofs.RunLemmas.{Precedes, precedes_so}
use Rattle.hk_report.proofs.Onwards.{later_first, later_second, later_most}
use Rattle.hk_report.proofs.RunHops.{first_of, run_first}
use Rattle.hk_report.proofs.RunSkips.{alike}
use Rattle.hk_report.proofs.HeldIn.{over_runs}

found_all : (P : Span → Type 0) (p : Span → Bool) (xs : List Span) (s : Span) → AllByRecursion P xs → find p xs ≡ Some s → P s
found_all P p [] s h e = absurd (cc)
found_all P p (x ∷ xs) s h e = by (λ g. found_all P p xs s h.1 g) (p x) e
  where
    by : (find p xs ≡ Some s → P s) → (b : Bool) → cond b (Some x) (find p xs) ≡ Some s → P s
    by more true g =
        let same : x ≡ s = cc in
        subst P same h.0
    by more false g = more g

module _ (made : Name → Bool) (level : Name → Latest) (from : Arrived) where
  -- all its spans are of one object
  pub over_below : (first : Option Onward) (run : List Span) (name : Name) (latest : Latest) (m : Bool) → IsRun run → AllByRecursion (λ (s : Span). s.cap.name ≡ name) run
      → latest ≡ level name → m ≡ made name → first_open_below latest m from first (find (is_open from.moment) run) ≡ first_from made level from first run
  over_below first run name latest m h same l e = by (find (is_open from.moment) run) refl ∙ sym (run_first made level from first run h)
    where
      by : (o : Option Span) → find (is_open from.moment) run ≡ o → first_open_below latest m from first o ≡ first_of made level from first o
      by None f = refl
      by (Some span) f =
          let is = found_all (λ (s : Span). s.cap.name ≡ name) (is_open from.moment) run span same f in
          ap (λ (k : Latest). earlier first (onward_below k m from span)) (l ∙ ap level (sym is))
          ∙ ap (λ (b : Bool). earlier first (onward_below (level span.cap.name) b from span)) (e ∙ ap made (sym is))

  names : (s : Span) (run : List Span) → AllByRecursion (λ (r : Span). r.cap ≡ s.cap) run → AllByRecursion (λ (r : Span). r.cap.name ≡ s.cap.name) run
  names s [] h = tt
  names s (r ∷ run) h = (ap (λ (c : Cap). c.name) h.0, names s run h.1)

  pub over_first : (first : Option Onward) (run : List Span) (span : Span) (latest : Latest) (m : Bool) → IsRun run → Some span ≡ slice_get run 0
      → latest ≡ level span.cap.name → m ≡ made span.cap.name → first_open_below latest m from first (find (is_open from.moment) run) ≡ first_from made level from first run
  over_first first [] span latest m h f l e = absurd (cc)
  over_first first (s ∷ run) span latest m h f l e =
      let same : span ≡ s = cc in
      over_below first (s ∷ run) s.cap.name latest m h (refl, names s run (alike made level from s run h.0)) (l ∙ ap (λ (r : Span). level r.cap.name) same)
      (e ∙ ap (λ (r : Span). made r.cap.name) same)

  -- a hop that comes before those over the first span comes before all over the run
  sooner_later : (s r : Span) (a : Onward) → Precedes s r → IsSooner from s a.hop → IsSooner from r a.hop
  sooner_later s r a p h = by h
    where
      up : later from.moment s.from ≤ later from.moment r.from
      up =
          let x = later_first from.moment r.from in
          let y = later_second from.moment r.from in
          let t = p.stood in
          let g = p.gone in
          later_most from.moment s.from (later from.moment r.from) x (omega (arith, y, t, g))

      by : (moment_of a.hop < later from.moment s.from) ⊎ ((moment_of a.hop ≡ later from.moment s.from) × (index_of a.hop < s.index)) → IsSooner from r a.hop
      by (inl l) = inl (omega (arith, l, up))
      by (inr l) = split (later from.moment s.from) (later from.moment r.from) up l.0 (subst (λ (n : ℕ). index_of a.hop < n) p.index_is l.1)
        where
          split : (m n : ℕ) → m ≤ n → moment_of a.hop ≡ m → index_of a.hop < r.index → (moment_of a.hop < n) ⊎ ((moment_of a.hop ≡ n) × (index_of a.hop < r.index))
          split m n k e i = cut (cases_lt m n)
            where
              cut : (m < n) ⊎ (n ≤ m) → (moment_of a.hop < n) ⊎ ((moment_of a.hop ≡ n) × (index_of a.hop < r.index))
              cut (inl less) = inl (omega (arith, less, e))
              cut (inr more) = inr ((let q : moment_of a.hop ≡ n = omega (arith, more, k, e) in q), i)

  all_sooner : (a : Onward) (s : Span) (run : List Span) → AllByRecursion (λ (later : Span). precedes s later ≡ true) run → IsSooner from s a.hop
      → AllByRecursion (λ (r : Span). IsSooner from r a.hop) run
  all_sooner a s [] h l = tt
  all_sooner a s (r ∷ run) h l = (sooner_later s r a (precedes_so s r h.0) l, all_sooner a s run h.1 l)

  stays_all : (a : Onward) (s : Span) (run : List Span) → AllByRecursion (λ (later : Span). precedes s later ≡ true) run → IsSooner from s a.hop
      → first_from made level from (Some a) run ≡ Some a
  stays_all a s [] h l = refl
  stays_all a s (r ∷ run) h l =
      ap (λ (o : Option Onward). first_from made level from o run) (stays_over made level from r a (sooner_later s r a (precedes_so s r h.0) l))
      ∙ stays_all a s run h.1 l

  pub stays_run : (first : Option Onward) (run : List Span) (span : Span) → IsRun run → Some span ≡ slice_get run 0 → StaysFirst from span first
      → first ≡ first_from made level from first run
  stays_run None run span h f l = absurd l
  stays_run (Some a) [] span h f l = absurd (cc)
  stays_run (Some a) (s ∷ run) span h f l =
      let same : span ≡ s = cc in
      let here : IsSooner from s a.hop = subst (λ (r : Span). IsSooner from r a.hop) same l in
      sym (ap (λ (o : Option Onward). first_from made level from o run) (stays_over made level from s a here) ∙ stays_all a s run h.0 here)

  pub stays_open : (first : Option Onward) (run : List Span) (span : Span) (latest : Latest) (m : Bool) → IsRun run → Some span ≡ slice_get run 0 → StaysFirst from span first
      → first ≡ first_open_below latest m from first (find (is_open from.moment) run)
  stays_open None run span latest m h f l = absurd l
  stays_open (Some a) [] span latest m h f l = absurd (cc)
  stays_open (Some a) (s ∷ run) span latest m h f l =
      let same : span ≡ s = cc in
      let here : IsSooner from s a.hop = subst (λ (r : Span). IsSooner from r a.hop) same l in
      by (here, all_sooner a s run h.0 here) (find (is_open from.moment) (s ∷ run)) refl
    where
      by : AllByRecursion (λ (r : Span). IsSooner from r a.hop) (s ∷ run) → (o : Option Span) → find (is_open from.moment) (s ∷ run) ≡ o
          → Some a ≡ first_open_below latest m from (Some a) o
      by all None e = refl
      by all (Some r) e =
          sym (stays_over (λ x. m) (λ x. latest) from r a (found_all (λ (x : Span). IsSooner from x a.hop) (is_open from.moment) (s ∷ run) r all e))

  -- of the runs in one list that hold an object
  pub seen_held : (histories : List History) (helds : List Stretch) (k : ℕ) (held : Stretch) (run : List Span) (name : Name) (latest : Latest) (m : Bool) (first after : Option Onward)
      (whole : Option Onward) → k < length helds → held ≡ slice_index_or helds k held → HoldsAlone histories name held → run ≡ spans_in histories held
      → latest ≡ level name → m ≡ made name → after ≡ first_open_below latest m from first (find (is_open from.moment) run)
      → over_runs made level from histories first (drop k helds) ≡ whole → over_runs made level from histories after (drop (k + 1) helds) ≡ whole
  seen_held histories helds k held run name latest m first after whole l is alone e f g step h =
      ap (λ (o : Option Onward). over_runs made level from histories o (drop (k + 1) helds))
      (step ∙ ap (λ (xs : List Span). first_open_below latest m from first (find (is_open from.moment) xs)) e
      ∙ over_below first (spans_in histories held) name latest m alone.run (named (spans_in histories held) alone.alike) f g)
      ∙ ap (over_runs made level from histories first) (sym (drop_more helds k held l is)) ∙ h
    where
      named : (xs : List Span) → AllByRecursion (λ (s : Span). s.cap ≡ held.cap) xs → AllByRecursion (λ (s : Span). s.cap.name ≡ name) xs
      named [] q = tt
      named (x ∷ xs) q = (ap (λ (c : Cap). c.name) q.0 ∙ alone.name_is, named xs q.1)
