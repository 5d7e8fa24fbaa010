-- A list that has what it had tells nothing more.
use Rattle.std.proofs.Common.{◌≡◌, ℕ, suc, ◌+◌, ◌-◌, ◌<◌, List, [], ◌∷◌, ◌++◌, length, replicate, Bool, true, false, Option, Some, None, refl, sym, ◌∙◌, ap, arith}
use Rattle.std.specs.Prelude.{slice_index_or, option_map, is_some}
use Rattle.std.proofs.lemmas.Bool.{true≢false}
use Rattle.std.proofs.lemmas.List.{append-nil}
use Rattle.hk_model.specs.declared.names.Inc.{Inc}
use Rattle.hk_model.specs.declared.entries.Cap.{Cap}
use Rattle.hk_model.specs.declared.entries.Entry.{Entry}
use Rattle.hk_report.specs.declared.histories.Since.{Since}
use Rattle.hk_report.specs.declared.histories.Span.{Span}
use Rattle.hk_report.specs.declared.histories.History.{History}
use Rattle.hk_report.specs.Histories.{cap_at, stays, same_at, StaysListed, from_now, since_by, up_to, ended_by, added, padded, sinces, ended, relisted}

since_same : (moment : ℕ) (old : Option Since) (new : Option Cap) → same_at old new ≡ true → since_by moment old new ≡ old
since_same moment None None h = refl
since_same moment None (Some cap) h = absurd (true≢false (sym h))
since_same moment (Some since) new h = ap (λ (b : Bool). elim b as (λ x. Option Since) [ true ↦ Some since | false ↦ option_map (from_now moment) new ]) h

ended_same : (moment index : ℕ) (old : Option Since) (new : Option Cap) → same_at old new ≡ true → ended_by moment index old new ≡ None
ended_same moment index None None h = refl
ended_same moment index None (Some cap) h = absurd (true≢false (sym h))
ended_same moment index (Some since) new h = ap (λ (b : Bool). elim b as (λ x. Option Span) [ true ↦ None | false ↦ Some (up_to moment index since) ]) h

module _ (moment : ℕ) (entries : List Entry) where
  sinces_same : (index : ℕ) (olds : List (Option Since)) → ((k : ℕ) → k < length olds → same_at (slice_index_or olds k None) (cap_at entries (index + k)) ≡ true)
      → sinces moment entries index olds ≡ olds
  sinces_same index [] f = refl
  sinces_same index (old ∷ olds) f =
      ap (λ (o : Option Since). o ∷ sinces moment entries (index + 1) olds) (since_same moment old (cap_at entries index) (here f))
      ∙ ap (λ (xs : List (Option Since)). old ∷ xs) (sinces_same (index + 1) olds (there f))
    where
      here : ((k : ℕ) → k < length (old ∷ olds) → same_at (slice_index_or (old ∷ olds) k None) (cap_at entries (index + k)) ≡ true) → same_at old (cap_at entries index) ≡ true
      here g =
          let plain : index + 0 ≡ index = omega arith in
          sym (ap (λ (n : ℕ). same_at old (cap_at entries n)) plain) ∙ g 0 (omega arith)

      there : ((k : ℕ) → k < length (old ∷ olds) → same_at (slice_index_or (old ∷ olds) k None) (cap_at entries (index + k)) ≡ true)
          → (k : ℕ) → k < length olds → same_at (slice_index_or olds k None) (cap_at entries (index + 1 + k)) ≡ true
      there g k l =
          let next : index + suc k ≡ index + 1 + k = omega arith in
          sym (ap (λ (n : ℕ). same_at (slice_index_or olds k None) (cap_at entries n)) next) ∙ g (suc k) (omega (arith, l))

  ended_none : (index : ℕ) (olds : List (Option Since)) → ((k : ℕ) → k < length olds → same_at (slice_index_or olds k None) (cap_at entries (index + k)) ≡ true)
      → ended moment entries index olds ≡ []
  ended_none index [] f = refl
  ended_none index (old ∷ olds) f =
      ap (λ (o : Option Span). added o ++ ended moment entries (index + 1) olds) (ended_same moment index old (cap_at entries index) (here f))
      ∙ ended_none (index + 1) olds (there f)
    where
      here : ((k : ℕ) → k < length (old ∷ olds) → same_at (slice_index_or (old ∷ olds) k None) (cap_at entries (index + k)) ≡ true) → same_at old (cap_at entries index) ≡ true
      here g =
          let plain : index + 0 ≡ index = omega arith in
          sym (ap (λ (n : ℕ). same_at old (cap_at entries n)) plain) ∙ g 0 (omega arith)

      there : ((k : ℕ) → k < length (old ∷ olds) → same_at (slice_index_or (old ∷ olds) k None) (cap_at entries (index + k)) ≡ true)
          → (k : ℕ) → k < length olds → same_at (slice_index_or olds k None) (cap_at entries (index + 1 + k)) ≡ true
      there g k l =
          let next : index + suc k ≡ index + 1 + k = omega arith in
          sym (ap (λ (n : ℕ). same_at (slice_index_or olds k None) (cap_at entries n)) next) ∙ g (suc k) (omega (arith, l))

pub unchanged : (moment : ℕ) (maker : Option Inc) (entries : List Entry) (h : History) → is_some maker ≡ false → StaysListed h.now entries → h ≡ relisted moment maker entries h
unchanged moment maker entries h none stays =
    ap (λ (xs : List (Option Since)). let g : History = record { maker = h.maker; now = xs; spans = h.spans } in g) (sym now_is)
    ∙ ap (λ (xs : List Span). let g : History = record { maker = h.maker; now = sinces moment entries 0 whole; spans = xs } in g) (sym spans_is)
    ∙ ap (λ (b : Bool). let g : History = record {
      maker = elim b as (λ x. Option Inc) [ true ↦ maker | false ↦ h.maker ];
      now = sinces moment entries 0 whole;
      spans = h.spans ++ ended moment entries 0 whole;
    } in g) (sym none)
  where
    whole : List (Option Since)
    whole = padded h.now (length entries)

    whole_is : whole ≡ h.now
    whole_is =
        let w = stays.within in
        let nothing : length entries - length h.now ≡ 0 = omega (arith, w) in
        ap (λ (n : ℕ). h.now ++ replicate n None) nothing ∙ append-nil h.now

    each : (k : ℕ) → k < length h.now → same_at (slice_index_or h.now k None) (cap_at entries (0 + k)) ≡ true
    each k l =
        let same : k ≡ 0 + k = omega arith in
        sym (ap (λ (n : ℕ). same_at (slice_index_or h.now k None) (cap_at entries n)) same) ∙ stays.each k l

    now_is : sinces moment entries 0 whole ≡ h.now
    now_is = ap (sinces moment entries 0) whole_is ∙ sinces_same moment entries 0 h.now each

    spans_is : h.spans ++ ended moment entries 0 whole ≡ h.spans
    spans_is = ap (λ (xs : List (Option Since)). h.spans ++ ended moment entries 0 xs) whole_is ∙ ap (λ (xs : List Span). h.spans ++ xs) (ended_none moment entries 0 h.now each)
        ∙ append-nil h.spans
