use Rattle.std.proofs.Common.{◌≡◌, ℕ, zero, suc, List, [], ◌∷◌, length, map, Vec, Global, IfSome, slice_get, ap, ◌∙◌, refl}
use Rattle.hk_model.specs.declared.names.Name.{Name}
use Rattle.hk_model.specs.WorldValue.{WorldValue}
use Rattle.hk_bound.specs.Columns.{proc_at}
use Rattle.hk_bound.specs.Listed.{IsBoundOf}
use Rattle.hk_top.specs.BoundTexts.{AreBounds, bounds_text}
use Rattle.hk_top.proofs.outputs.bounds.Goals as goal

-- the lists of the bounds
abbrev lists : List (Vec Name Global) → List (List Name)
lists bounds = map (λ (names : Vec Name Global). names.items) bounds

as_many : (bounds : List (Vec Name Global)) → length (lists bounds) ≡ length bounds
as_many [] = refl
as_many (names ∷ rest) = ap suc (as_many rest)

same_there : (P : List Name → Type 0) (bounds : List (Vec Name Global)) (p : ℕ) → IfSome (slice_get bounds p) (λ (names : Vec Name Global). P names.items)
    → IfSome (slice_get (lists bounds) p) P
same_there P [] p h = tt
same_there P (names ∷ rest) zero h = h
same_there P (names ∷ rest) (suc p) h = same_there P rest p h

are_bounds : (w : WorldValue) (bounds : List (Vec Name Global)) → length bounds ≡ length w.tasks
    → ((p : ℕ) → IfSome (slice_get bounds p) (λ (names : Vec Name Global). IsBoundOf w (proc_at p) names.items)) → AreBounds w (lists bounds)
are_bounds w bounds count exact = record { count = as_many bounds ∙ count; exact = λ p. same_there (IsBoundOf w (proc_at p)) bounds p (exact p) }

pub returns : goal.returns
returns c = (
  lists c.in_ok-bounds.bounds.items,
  are_bounds c.args.world.now c.in_ok-bounds.bounds.items c.in_ok-bounds.ensures.count c.in_ok-bounds.ensures.exact,
  refl,
  c.in_ok-bounds_text.ensures ∙ ap (λ (bs : List (Vec Name Global)). bounds_text (lists bs)) c.as_slice.ensures.value,
)
