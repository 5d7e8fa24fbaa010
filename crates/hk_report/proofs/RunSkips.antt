-- Of a run whose object no rest can be made from, no hop is gone over.
use Rattle.std.proofs.Common.{◌≡◌, ℕ, ◌+◌, ◌<◌, List, [], ◌∷◌, length, Bool, true, Option, Some, refl, sym, ◌∙◌, ap, subst, slice_get}
use Rattle.std.specs.Prelude.{drop, slice_index_or}
use Rattle.std.specs.List.{AllByRecursion, between, find}
use Rattle.std.proofs.lemmas.List.{get_or_default}
use Rattle.hk_model.specs.declared.names.Name.{Name}
use Rattle.hk_model.specs.declared.entries.Cap.{Cap}
use Rattle.hk_report.specs.declared.histories.Span.{Span}
use Rattle.hk_report.specs.declared.hops.Arrived.{Arrived}
use Rattle.hk_report.specs.declared.hops.Latest.{Latest}
use Rattle.hk_report.specs.declared.hops.Onward.{Onward}
use Rattle.hk_report.specs.Hops.{no_latest, earlier, first_from}
use Rattle.hk_report.specs.Runs.{precedes, IsRun, AreCut, is_open}
use Rattle.hk_report.proofs.HolderLemmas.{drop_more}
use Rattle.hk_report.proofs.RunLemmas.{precedes_so}
use Rattle.hk_report.proofs.Raising.{latest_none, none_onward}
use Rattle.hk_report.proofs.RunHops.{earlier_none, first_of, run_first, Seeing, seen_next}

module _ (made : Name → Bool) (level : Name → Latest) (from : Arrived) where
  pub skipped : (cap : Cap) → level cap.name ≡ no_latest → (first : Option Onward) (run : List Span) → AllByRecursion (λ (s : Span). s.cap ≡ cap) run
      → first_from made level from first run ≡ first
  skipped cap e first [] h = refl
  skipped cap e first (s ∷ run) h =
      ap (λ (o : Option Onward). first_from made level from (earlier first o) run)
      (sym (none_onward made level from s no_latest (sym (ap (λ (c : Cap). level c.name) h.0 ∙ e)) refl refl))
      ∙ ap (λ (o : Option Onward). first_from made level from o run) (earlier_none first) ∙ skipped cap e first run h.1

  pub alike : (s : Span) (run : List Span) → AllByRecursion (λ (later : Span). precedes s later ≡ true) run → AllByRecursion (λ (r : Span). r.cap ≡ s.cap) run
  alike s [] h = tt
  alike s (r ∷ run) h = (sym ((precedes_so s r h.0).cap_is), alike s run h.1)

  pub over_nothing : (first : Option Onward) (run : List Span) (span : Span) (latest : Latest) → IsRun run → Some span ≡ slice_get run 0
      → latest ≡ level span.cap.name → latest.modify ≡ 0 → latest.unconf ≡ 0 → first ≡ first_from made level from first run
  over_nothing first [] span latest h e f m u = absurd (cc)
  over_nothing first (s ∷ run) span latest h e f m u =
      let same : span ≡ s = cc in
      let none = ap (λ (r : Span). level r.cap.name) (sym same) ∙ sym f ∙ latest_none latest m u in
      sym (skipped s.cap none first (s ∷ run) (refl, alike s run h.0))

  pub over_found : (first after : Option Onward) (run : List Span) (found : Option Span) → IsRun run → found ≡ find (is_open from.moment) run
      → after ≡ first_of made level from first found → after ≡ first_from made level from first run
  over_found first after run found h e f = f ∙ ap (first_of made level from first) e ∙ sym (run_first made level from first run h)

  pub seen_over : (spans : List Span) (ends : List ℕ) (k start : ℕ) (first after : Option Onward) → Seeing made level from spans start (drop k ends) first → k < length ends
      → after ≡ first_from made level from first (between start (slice_index_or ends k 0) spans) → Seeing made level from spans (slice_index_or ends k 0) (drop (k + 1) ends) after
  seen_over spans ends k start first after h l is =
      seen_next made level from spans ends k start end first after (find (is_open from.moment) (between start end spans)) h l refl refl
      (is ∙ run_first made level from first (between start end spans) run)
    where
      end : ℕ
      end = slice_index_or ends k 0

      run : IsRun (between start end spans)
      run = (subst (λ (xs : List ℕ). AreCut start xs spans) (drop_more ends k end l (get_or_default ends k 0 end l)) h.cut).1.1.0
