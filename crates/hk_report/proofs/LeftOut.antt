-- What stood in lists before ways could be there is not missed: the reasons that are found without it are those that are found with it.
use Rattle.std.proofs.Common.{◌≡◌, ℕ, zero, suc, ◌+◌, ◌<◌, ◌≤◌, List, [], ◌∷◌, ◌++◌, length, Bool, true, false, Option, Some, None, refl, sym, ◌∙◌, ap, arith, cond, subst}
use Rattle.std.specs.Prelude.{◌⊎◌, nat_lt, nat_le, not, filter, replicate, slice_index_or}
use mathlib.Core.Logic.{inl, inr}
use Rattle.std.specs.List.{AllByRecursion}
use Rattle.std.specs.List.Sorted.{IsPermutation}
use Rattle.std.proofs.lemmas.Bool.{cases_lt, le-ltb, leb-false, le-leb}
use Rattle.std.proofs.lemmas.List.{nil_from_length}
use Rattle.std.proofs.lemmas.List.Sorted.{IsPermutation-refl, IsPermutation-sym, IsPermutation-trans, IsPermutation-append_left, IsPermutation-filter_both, Contains-permutation, length_permutation}
use Rattle.hk_model.specs.declared.names.Name.{Name}
use Rattle.hk_model.specs.declared.names.Inc.{Inc}
use Rattle.hk_model.specs.declared.entries.Cap.{Cap}
use Rattle.hk_model.specs.declared.lines.Line.{Line}
use Rattle.hk_model.specs.declared.reaches.Reach.{Reach}
use Rattle.hk_model.specs.declared.reaches.Change.{Change}
use Rattle.hk_model.specs.WorldValue.{WorldValue, IsWorld}
use Rattle.hk_model.specs.Running.{opened, AreStepsOf}
use Rattle.hk_model.specs.Changes.{AreExplained, bare_changes}
use Rattle.hk_model.proofs.Members.{Has, has_from, contains_from}
use Rattle.hk_report.specs.declared.families.Begun.{Begun}
use Rattle.hk_report.specs.declared.families.BareChange.{BareChange}
use Rattle.hk_report.specs.declared.histories.Span.{Span}
use Rattle.hk_report.specs.declared.histories.History.{History}
use Rattle.hk_report.specs.declared.reachable.Side.TheVariants.{First}
use Rattle.hk_report.specs.Doings.{doings, params_given}
use Rattle.hk_report.specs.Families.{changes_from, families_after}
use Rattle.hk_report.specs.Histories.{no_history, history_of, told_histories}
use Rattle.hk_report.specs.Hops.{later, has_begun, is_made}
use Rattle.hk_report.specs.Reasons.{params_at, IsReasonedBy, IsTold, AreTold}
use Rattle.hk_report.specs.Reachable.{IsByThen, begins_at, goes_on, AreGoneOver, IsHeldBy, AreHeldBy, IsClosed, can_matter, AreKept, IsEnough}
use Rattle.hk_report.specs.Runs.{IsRearranged, AreRearranged}
use Rattle.hk_report.specs.Searches.{IsFound}
use Rattle.hk_report.specs.Fronts.{IsKeptFirst}
use Rattle.hk_report.proofs.Agreeing.{IsThinned, IsThinnedBy, found_same}
use Rattle.hk_report.proofs.Explained.{report_is}
use Rattle.hk_report.proofs.FrontsLeftOut.{kept_same}
use Rattle.hk_report.proofs.HistoryLemmas.{beyond}

-- ---- reasons by reasons

module _ (families : List (List Begun)) (params : List (List (Option Cap))) (firsts : Name → Option ℕ) (few all : List History) (makers : (x : Name) → (history_of few x).maker ≡ (history_of all x).maker)
    (thin : (x : Name) → IsThinnedBy (firsts x) (history_of few x).spans (history_of all x).spans) (closed : IsClosed First all firsts) where
  made_one : (begun : Begun) (x : Name) → is_made families begun few x ≡ is_made families begun all x
  made_one begun x = ap (λ (o : Option Inc). elim o as (λ y. Bool) [ None ↦ false | Some inc ↦ has_begun begun (slice_index_or families inc.0 []) ]) (makers x)

  made_same : (begun : Begun) → is_made families begun few ≡ is_made families begun all
  made_same begun = λ i x. made_one begun x i

  reason_same : (bare : BareChange) (reach : Reach) (b : Bool) → AreHeldBy firsts bare.under.moment (params_at families params bare.under.call) → IsReasonedBy families few params bare reach b
      → IsReasonedBy families all params bare reach b
  reason_same bare reach true h g = g
  reason_same bare reach false h (inl g) =
      inl (found_same (is_made families bare.under all) firsts few all thin closed bare.object (bare.moment + 1) bare.under.moment (params_at families params bare.under.call) reach h
      (subst (λ (made : Name → Bool). IsFound made few bare.object (bare.moment + 1) bare.under.moment (params_at families params bare.under.call) reach) (made_same bare.under) g))
  reason_same bare reach false h (inr g) =
      inr (kept_same (is_made families bare.under all) firsts few all thin closed bare.object bare.under.moment bare.moment (params_at families params bare.under.call) reach h
      (subst (λ (made : Name → Bool). IsKeptFirst made few bare.under.moment (params_at families params bare.under.call) bare.object bare.moment reach) (made_same bare.under) g))

  told_same : (bare : BareChange) (change : Change) → AreHeldBy firsts bare.under.moment (params_at families params bare.under.call) → IsTold families few params bare change
      → IsTold families all params bare change
  told_same bare change h g = record {
    line = g.line;
    under = g.under;
    object = g.object;
    reason =
        subst (IsReasonedBy families all params bare change.reach) (made_one bare.under bare.object)
        (reason_same bare change.reach (is_made families bare.under few bare.object) h g.reason);
  }

  told_all_same : (bares : List BareChange) (changes : List Change)
      → AllByRecursion (λ (bare : BareChange). AreHeldBy firsts bare.under.moment (params_at families params bare.under.call)) bares → AreTold families few params bares changes
      → AreTold families all params bares changes
  told_all_same [] [] h g = tt
  told_all_same [] (c ∷ changes) h g = absurd g
  told_all_same (b ∷ bares) [] h g = absurd g
  told_all_same (b ∷ bares) (c ∷ changes) h g = (told_same b c h.0 g.0, told_all_same bares changes h.1 g.1)

-- ---- the lists with what was left out

abbrev pub left_out : Option ℕ → Span → Bool
left_out first span = not (can_matter first span)

-- what has ended can be left out behind what is kept
thinned_more : (m : ℕ) (spans more : List Span) → IsThinned m [] more → IsThinned m spans (spans ++ more)
thinned_more m [] more g = g
thinned_more m (s ∷ spans) more g = inr (spans, (refl, thinned_more m spans more g))

thinned_left : (m : ℕ) (spans : List Span) → IsThinned m [] (filter (left_out (Some m)) spans)
thinned_left m [] = refl
thinned_left m (s ∷ spans) = by (nat_le m s.until) refl (thinned_left m spans)
  where
    by : (b : Bool) → nat_le m s.until ≡ b → IsThinned m [] (filter (left_out (Some m)) spans)
        → IsThinned m [] (cond (not b) (s ∷ filter (left_out (Some m)) spans) (filter (left_out (Some m)) spans))
    by true e more = more
    by false e more = inl (le-ltb m s.until (let l = leb-false m s.until e in omega (arith, l)), more)

thinned_by : (first : Option ℕ) (spans before : List Span) → IsThinnedBy first spans (spans ++ filter (left_out first) before)
thinned_by None spans before = tt
thinned_by (Some m) spans before = thinned_more m spans (filter (left_out (Some m)) before) (thinned_left m before)

module _ (firsts : Name → Option ℕ) (after : List History) where
  abbrev with_left : ℕ → History → History
  with_left n h = record {
    maker = h.maker;
    now = h.now;
    spans = (slice_index_or after n no_history).spans ++ filter (left_out (firsts (record { 0 = n }))) h.spans;
  }

  abbrev put_back : ℕ → List History → List History
  put_back n [] = []
  put_back n (h ∷ hs) = with_left n h ∷ put_back (suc n) hs

  back_at : (n j : ℕ) (hs : List History) → j < length hs → slice_index_or (put_back n hs) j no_history ≡ with_left (n + j) (slice_index_or hs j no_history)
  back_at n j [] l = absurd (omega (arith, l))
  back_at n zero (h ∷ hs) l =
      let number : n ≡ n + 0 = omega arith in
      ap (λ (i : ℕ). with_left i h) number
  back_at n (suc j) (h ∷ hs) l =
      let number : suc n + j ≡ n + suc j = omega arith in
      back_at (suc n) j hs (omega (arith, l)) ∙ ap (λ (i : ℕ). with_left i (slice_index_or hs j no_history)) number

  back_beyond : (n j : ℕ) (hs : List History) → length hs ≤ j → slice_index_or (put_back n hs) j no_history ≡ no_history
  back_beyond n j [] l = refl
  back_beyond n zero (h ∷ hs) l = absurd (omega (arith, l))
  back_beyond n (suc j) (h ∷ hs) l = back_beyond (suc n) j hs (omega (arith, l))

  module _ (before : List History) (kept : AreKept firsts before after) where
    abbrev whole : List History
    whole = put_back 0 before

    -- what stands there of an object
    data At (x : Name) : Type 0 where
      here_at : history_of whole x ≡ with_left x.0 (history_of before x) → At x
      none_at : history_of before x ≡ no_history → history_of whole x ≡ no_history → At x

    at : (x : Name) → At x
    at x = by (cases_lt x.0 (length before))
      where
        by : (x.0 < length before) ⊎ (length before ≤ x.0) → At x
        by (inl l) =
            let number : 0 + x.0 ≡ x.0 = omega arith in
            here_at (back_at 0 x.0 before l ∙ ap (λ (i : ℕ). with_left i (history_of before x)) number)
        by (inr l) = none_at (beyond before x.0 l) (back_beyond 0 x.0 before l)

    abbrev put_with : (x : Name) → List Span
    put_with x = (history_of after x).spans ++ filter (left_out (firsts x)) (history_of before x).spans

    with_rearranged : (x : Name) → IsPermutation (history_of before x).spans (put_with x)
    with_rearranged x =
        IsPermutation-trans (history_of before x).spans
        (filter (can_matter (firsts x)) (history_of before x).spans ++ filter (left_out (firsts x)) (history_of before x).spans) (put_with x)
        (IsPermutation-filter_both (can_matter (firsts x)) (left_out (firsts x)) (λ s. refl) (history_of before x).spans)
        (IsPermutation-append_left (filter (left_out (firsts x)) (history_of before x).spans) (filter (can_matter (firsts x)) (history_of before x).spans) (history_of after x).spans
        (kept x).spans_are)

    whole_rearranged : AreRearranged before whole
    whole_rearranged x = by (at x)
      where
        by : At x → IsRearranged (history_of before x) (history_of whole x)
        by (here_at f) = subst (λ (h : History). IsRearranged (history_of before x) h) (sym f) (record { maker_is = refl; spans_are = with_rearranged x })
        by (none_at e f) =
            subst (λ (h : History). IsRearranged h (history_of whole x)) (sym e)
            (subst (λ (h : History). IsRearranged no_history h) (sym f) (record { maker_is = refl; spans_are = IsPermutation-refl [] }))

    whole_makers : (x : Name) → (history_of after x).maker ≡ (history_of whole x).maker
    whole_makers x = by (at x)
      where
        by : At x → (history_of after x).maker ≡ (history_of whole x).maker
        by (here_at f) = (kept x).maker_is ∙ sym (ap (λ (h : History). h.maker) f)
        by (none_at e f) = (kept x).maker_is ∙ ap (λ (h : History). h.maker) e ∙ sym (ap (λ (h : History). h.maker) f)

    whole_thin : (x : Name) → IsThinnedBy (firsts x) (history_of after x).spans (history_of whole x).spans
    whole_thin x = by (at x)
      where
        no_more : (first : Option ℕ) (spans : List Span) → IsPermutation [] spans → IsThinnedBy first spans []
        no_more None spans p = tt
        no_more (Some m) spans p = nil_from_length spans (length_permutation [] spans p)

        by : At x → IsThinnedBy (firsts x) (history_of after x).spans (history_of whole x).spans
        by (here_at f) =
            subst (λ (h : History). IsThinnedBy (firsts x) (history_of after x).spans h.spans) (sym f) (thinned_by (firsts x) (history_of after x).spans (history_of before x).spans)
        by (none_at e f) =
            subst (λ (h : History). IsThinnedBy (firsts x) (history_of after x).spans h.spans) (sym f)
            (no_more (firsts x) (history_of after x).spans
            (subst (λ (h : History). IsPermutation (filter (can_matter (firsts x)) h.spans) (history_of after x).spans) e (kept x).spans_are))

    each_over : (at : Option ℕ) (spans : List Span) → AreGoneOver First firsts at spans → (s : Span) → Has spans s → IsByThen (firsts s.cap.name) (goes_on First at s)
    each_over at [] h s g = absurd g
    each_over at (t ∷ spans) h s (inl e) = subst (λ (u : Span). IsByThen (firsts u.cap.name) (goes_on First at u)) e h.0
    each_over at (t ∷ spans) h s (inr g) = each_over at spans h.1 s g

    over_each : (at : Option ℕ) (spans : List Span) → ((s : Span) → Has spans s → IsByThen (firsts s.cap.name) (goes_on First at s)) → AreGoneOver First firsts at spans
    over_each at [] f = tt
    over_each at (s ∷ spans) f = (f s (inl refl), over_each at spans (λ t g. f t (inr g)))

    whole_closed : IsClosed First before firsts → IsClosed First whole firsts
    whole_closed closed x =
        over_each (firsts x) (history_of whole x).spans (λ s h.
        each_over (firsts x) (history_of before x).spans (closed x) s
        (has_from (history_of before x).spans s
        (Contains-permutation (history_of whole x).spans (history_of before x).spans s
        (IsPermutation-sym (history_of before x).spans (history_of whole x).spans (whole_rearranged x).spans_are) (contains_from (history_of whole x).spans s h))))

-- ---- a whole report

pub report_enough : (w : WorldValue) (lines : List Line) (told histories : List History) (params : List (List (Option Cap))) (families : List (List Begun))
    (found : List BareChange) (all : List Change) → IsWorld w → AreStepsOf w lines
    → told ≡ told_histories w lines → IsEnough families params found told histories → params ≡ params_given w (opened w) lines
    → families ≡ families_after 0 (doings w (opened w) lines) (replicate (opened w).state.next_inc.0 [])
    → found ≡ changes_from 0 (replicate (opened w).state.next_inc.0 []) (doings w (opened w) lines)
    → AreTold families histories params found all → AreExplained w lines (bare_changes w lines) all
report_enough w lines told histories params families found all world steps h enough p g c is =
    report_is w lines told (whole enough.firsts histories told enough.kept) params families found all world steps h (whole_rearranged enough.firsts histories told enough.kept) p g c
    (told_all_same families params enough.firsts histories (whole enough.firsts histories told enough.kept) (whole_makers enough.firsts histories told enough.kept)
    (whole_thin enough.firsts histories told enough.kept) (whole_closed enough.firsts histories told enough.kept enough.reachable.closed) found all enough.reachable.starts is)

-- all is enough
pub enough_all : (families : List (List Begun)) (params : List (List (Option Cap))) (bares : List BareChange) (histories : List History)
    → IsEnough families params bares histories histories
enough_all families params bares histories = record {
  firsts = λ name. Some 0;
  reachable = record { starts = all_begin bares; closed = λ name. all_so (history_of histories name).spans };
  kept = λ name. record { maker_is = refl; spans_are = all_kept (history_of histories name).spans };
}
  where
    all_held : (moment : ℕ) (held : List (Option Cap)) → AreHeldBy (λ name. Some 0) moment held
    all_held moment [] = tt
    all_held moment (param ∷ held) = (by param, all_held moment held)
      where
        by : (cap : Option Cap) → IsHeldBy (λ name. Some 0) moment cap
        by None = tt
        by (Some cap) = omega arith

    all_begin : (bs : List BareChange)
        → AllByRecursion (λ (b : BareChange). AreHeldBy (λ name. Some 0) (begins_at First b.under.moment) (params_at families params b.under.call)) bs
    all_begin [] = tt
    all_begin (b ∷ bs) = (all_held (begins_at First b.under.moment) (params_at families params b.under.call), all_begin bs)

    all_so : (spans : List Span) → AreGoneOver First (λ name. Some 0) (Some 0) spans
    all_so [] = tt
    all_so (s ∷ spans) = (by (nat_lt 0 s.until), all_so spans)
      where
        by : (b : Bool) → IsByThen (Some 0) (cond b (Some (later 0 s.from)) None)
        by true = omega arith
        by false = tt

    all_matter : (spans : List Span) → filter (can_matter (Some 0)) spans ≡ spans
    all_matter [] = refl
    all_matter (s ∷ spans) =
        ap (λ (b : Bool). cond b (s ∷ filter (can_matter (Some 0)) spans) (filter (can_matter (Some 0)) spans)) (le-leb 0 s.until (omega arith))
        ∙ ap (λ (xs : List Span). s ∷ xs) (all_matter spans)

    all_kept : (spans : List Span) → IsPermutation (filter (can_matter (Some 0)) spans) spans
    all_kept spans = subst (λ (xs : List Span). IsPermutation xs spans) (sym (all_matter spans)) (IsPermutation-refl spans)
