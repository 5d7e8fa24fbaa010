-- The frames of a process: the current one stands last in the list that is kept, and first in its view.
use Rattle.std.specs.Prelude.{◌≡◌, ℕ, ◌-◌, ◌<◌, List, [], ◌∷◌, ◌++◌, length, drop, reverse, slice_index_or, slice_set, Bool, true, false, IsTrue, ◌↔◌, refl}
use Rattle.std.proofs.Common.{arith, ◌∙◌, ap, sym, subst}
use Rattle.std.proofs.lemmas.Bool.{false≢true}
use Rattle.std.proofs.lemmas.List.{length-reverse, reverse-append, reverse-reverse}
use Rattle.std.proofs.Math.Seq.{get_or-append_seam, set-append_seam}
use Rattle.hk_model.specs.declared.calls.Reply.{Reply}
use Rattle.hk_model.specs.declared.frames.Frame.{Frame}
use Rattle.hk_model.specs.declared.frames.Todo.{Todo}
use Rattle.hk_model.specs.declared.frames.Todo.TheVariants.{Halt}
use Rattle.hk_model.specs.Limits.{local_limit}
use Rattle.hk_model.specs.WorldValue.{WorldValue}
use Rattle.hk_model.specs.Control.{Context, behind, here, next, next_from, steps_of}
use Rattle.hk_program.specs.Contexts.{IsFrame, AreFrames, behind_top}

-- a current frame, and the frames once another is written over it
pub record IsTop (frames : Context) (f : Frame) (over : Frame → Context) : Type 0 where
  pub rest : Context
  pub is : frames ≡ f ∷ rest
  pub over_is : (g : Frame) → over g ≡ g ∷ rest

-- the last of the list is the current frame
pub last_is_top : (frames : Context) (xs : List Frame) (n : ℕ) (f : Frame) → reverse xs ≡ frames → length xs ≡ n → 0 < n → f ≡ slice_index_or xs (n - 1) f
    → IsTop frames f (λ g. reverse (slice_set xs (n - 1) g))
last_is_top [] xs n f view len some at =
    let same = length-reverse xs in let none = ap (λ (l : List Frame). length l) view in absurd (omega arith)
last_is_top (h ∷ rest) xs n f view len some at =
    let whole : xs ≡ reverse rest ++ h ∷ [] = sym (reverse-reverse xs) ∙ ap (λ (l : List Frame). reverse l) view ∙ reverse-append (h ∷ []) rest in
    let same = length-reverse xs in
    let more = ap (λ (l : List Frame). length l) view in
    let before = length-reverse rest in
    let place : n - 1 ≡ length (reverse rest) = omega arith in
    let found : slice_index_or xs (n - 1) f ≡ h = rw (whole, place) (get_or-append_seam (reverse rest) h [] f) in
    record {
      rest = rest;
      is = ap (λ (x : Frame). x ∷ rest) (sym (at ∙ found));
      over_is = λ g. rw (whole, place, set-append_seam (reverse rest) h [] g, reverse-append (reverse rest) (g ∷ []), reverse-reverse rest) refl;
    }

-- where the list has no last one, there is no frame
pub no_top : (frames : Context) (xs : List Frame) (n : ℕ) → reverse xs ≡ frames → length xs ≡ n → (0 < n → false ≡ true) → frames ≡ []
no_top [] xs n view len none = refl
no_top (h ∷ rest) xs n view len none =
    let same = length-reverse xs in let more = ap (λ (l : List Frame). length l) view in let no : false ≡ true = none (omega arith) in absurd (cc)

-- what a turn of the current frame leaves of the frames
pub record IsTurned (w : WorldValue) (frames : Context) (todo : Todo) (left : Context) : Type 0 where
  pub value : (todo, left) ≡ next w frames
  pub fits : AreFrames w left
  pub others : drop 1 left ≡ drop 1 frames

pub top_turned : (w : WorldValue) (frames : Context) (f g : Frame) (over : Frame → Context) (todo : Todo) → IsTop frames f over → AreFrames w frames → IsFrame w g
    → (todo, g) ≡ next_from local_limit (steps_of w f.code) f (here (steps_of w f.code) f) → IsTurned w frames todo (over g)
unfolding next
top_turned w frames f g over todo top all fits e = rw (top.over_is g, top.is) record {
  value = ap (λ (found : Todo × Frame). let made : Todo × Context = (found.0, found.1 ∷ top.rest) in made) e;
  fits = (fits, (subst (AreFrames w) top.is all).1);
  others = refl;
}

-- no frame, no turn
pub none_turned : (w : WorldValue) (frames : Context) → frames ≡ [] → IsTurned w frames Halt frames
unfolding next
none_turned w frames none = rw none record { value = refl; fits = tt; others = refl }

-- what an answer leaves of the frames
pub record IsAnswered (w : WorldValue) (frames : Context) (reply : Reply) (some : Bool) (left : Context) : Type 0 where
  pub some_is : IsTrue some ↔ (0 < length frames)
  pub value : left ≡ behind_top w frames reply
  pub fits : AreFrames w left

pub top_answered : (w : WorldValue) (frames : Context) (f g : Frame) (over : Frame → Context) (reply : Reply) → IsTop frames f over → AreFrames w frames → IsFrame w g
    → g ≡ behind w f reply → IsAnswered w frames reply true (over g)
top_answered w frames f g over reply top all fits e = rw (top.over_is g, top.is) record {
  some_is = (λ h. omega arith, λ h. refl);
  value = ap (λ (x : Frame). x ∷ top.rest) e;
  fits = (fits, (subst (AreFrames w) top.is all).1);
}

pub none_answered : (w : WorldValue) (frames : Context) (reply : Reply) → frames ≡ [] → IsAnswered w frames reply false frames
none_answered w frames reply none = rw none record { some_is = (λ h. absurd (false≢true h), λ h. absurd (omega (arith, h))); value = refl; fits = tt }
