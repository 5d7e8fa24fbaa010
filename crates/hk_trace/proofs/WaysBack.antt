-- The way back, line by line.
use Rattle.std.specs.Prelude.{◌≡◌, ℕ, zero, suc, ◌-◌, ◌<◌, ◌≤◌, List, [], ◌∷◌, ◌++◌, length, slice_index_or, refl}
use Rattle.std.proofs.Common.{arith, ap, sym, ◌∙◌, append_assoc}
use Rattle.hk_trace.specs.declared.chains.Place.{Place}
use Rattle.hk_trace.specs.declared.chains.Standing.{Standing}
use Rattle.hk_trace.specs.declared.chains.Link.{Link}
use Rattle.hk_trace.specs.declared.chains.Origin.TheVariants.{Made}
use Rattle.hk_trace.specs.declared.writings.CameFrom.{CameFrom}
use Rattle.hk_trace.specs.declared.writings.CameFrom.TheVariants as source
use Rattle.hk_trace.specs.declared.writings.Writing.{Writing}
use Rattle.hk_trace.specs.declared.writings.Writing.TheVariants as writing
use Rattle.hk_trace.specs.declared.following.WayBack.{WayBack}
use Rattle.hk_trace.specs.Writings.{way_back, trail_by, writing_at, source_in}

-- what is known where some lines are left
pub record Followed (some rest : Type 0) : Type 0 where
  pub few : some
  pub found : rest

-- links before a way back
abbrev pub joined : List Link → WayBack → WayBack
joined links t = record { links = links ++ t.links; origin = t.origin }

pub joined_none : (t : WayBack) → joined [] t ≡ t
joined_none t = refl

one_back : (writings : List Writing) (n : ℕ) (p : Place) → 0 < n → way_back writings n p ≡ trail_by n (source_in (writing_at writings (n - 1)) p) (way_back writings (n - 1)) p
one_back writings zero p h = absurd (omega arith)
one_back writings (suc n) p h = let e : suc n - 1 ≡ n = omega arith in rw e refl

within : (writings : List Writing) (n : ℕ) (d e : Writing) → n < length writings → slice_index_or writings n d ≡ slice_index_or writings n e
within [] n d e h = absurd (omega arith)
within (x ∷ writings) zero d e h = refl
within (x ∷ writings) (suc n) d e h = within writings n d e (omega arith)

source_is : (writings : List Writing) (n : ℕ) (p : Place) (t : Writing) (o : CameFrom) → 0 < n → n ≤ length writings → t ≡ slice_index_or writings (n - 1) t → o ≡ source_in t p
    → source_in (writing_at writings (n - 1)) p ≡ o
source_is writings n p t o some few there e =
    let k : n - 1 < length writings = omega arith in
    ap (λ (found : Writing). source_in found p) (within writings (n - 1) writing.Nothing t k ∙ sym there) ∙ sym e

-- one line back: it wrote nothing there, or what came from a place, or what it made
pub back_none : (writings : List Writing) (n : ℕ) (p : Place) (links : List Link) (whole : WayBack) (t : Writing) (o : CameFrom) → 0 < n → n ≤ length writings
    → t ≡ slice_index_or writings (n - 1) t → o ≡ source_in t p → o ≡ source.Nowhere → joined links (way_back writings n p) ≡ whole
    → joined links (way_back writings (n - 1) p) ≡ whole
back_none writings n p links whole t o some few there e none h =
    let g = one_back writings n p some in
    let k = source_is writings n p t o some few there e ∙ none in
    sym (ap (joined links) (g ∙ ap (λ (f : CameFrom). trail_by n f (way_back writings (n - 1)) p) k)) ∙ h

pub back_came : (writings : List Writing) (n : ℕ) (p : Place) (links : List Link) (whole : WayBack) (t : Writing) (o : CameFrom) (from : Standing) → 0 < n → n ≤ length writings
    → t ≡ slice_index_or writings (n - 1) t → o ≡ source_in t p → o ≡ source.Came from → joined links (way_back writings n p) ≡ whole
    → joined (links ++ record { line = n; from = from } ∷ []) (way_back writings (n - 1) from.place) ≡ whole
back_came writings n p links whole t o from some few there e came h =
    let g = one_back writings n p some in
    let k = source_is writings n p t o some few there e ∙ came in
    let longer : joined (links ++ record { line = n; from = from } ∷ []) (way_back writings (n - 1) from.place) ≡ joined links
    (trail_by n (source.Came from) (way_back writings (n - 1)) p)
    = ap (λ (l : List Link). let x : WayBack = record { links = l; origin = (way_back writings (n - 1) from.place).origin } in x)
    (append_assoc links (record { line = n; from = from } ∷ []) (way_back writings (n - 1) from.place).links) in
    longer ∙ (sym (ap (joined links) (g ∙ ap (λ (f : CameFrom). trail_by n f (way_back writings (n - 1)) p) k)) ∙ h)

pub back_made : (writings : List Writing) (n : ℕ) (p : Place) (links : List Link) (whole : WayBack) (t : Writing) (o : CameFrom) → 0 < n → n ≤ length writings
    → t ≡ slice_index_or writings (n - 1) t → o ≡ source_in t p → o ≡ source.Made → joined links (way_back writings n p) ≡ whole
    → ◌≡◌ {A = WayBack} (record { links = links; origin = Made n }) whole
back_made writings n p links whole t o some few there e made h =
    let g = one_back writings n p some in
    let k = source_is writings n p t o some few there e ∙ made in
    let less : ◌≡◌ {A = WayBack} (record { links = links; origin = Made n }) (joined links (trail_by n source.Made (way_back writings (n - 1)) p))
    = ap (λ (l : List Link). let x : WayBack = record { links = l; origin = Made n } in x) (sym (nothing links)) in
    less ∙ (sym (ap (joined links) (g ∙ ap (λ (f : CameFrom). trail_by n f (way_back writings (n - 1)) p) k)) ∙ h)
  where
    nothing : (l : List Link) → l ++ [] ≡ l
    nothing [] = refl
    nothing (x ∷ l) = ap (λ (r : List Link). x ∷ r) (nothing l)
