-- What an event keeps of the frames leads back to those before it.
use Rattle.std.specs.Prelude.{ℕ, ◌<◌, ◌≤◌, [], ◌∷◌, length, drop, Option, Some, None, refl}
use Rattle.std.proofs.Common.{arith}
use Rattle.hk_model.specs.declared.calls.Call.{Call}
use Rattle.hk_model.specs.declared.calls.Call.TheVariants as call
use Rattle.hk_model.specs.declared.calls.Reply.{Reply}
use Rattle.hk_model.specs.declared.calls.Reply.TheVariants.{Done}
use Rattle.hk_model.specs.declared.frames.Frame.{Frame}
use Rattle.hk_model.specs.WorldValue.{WorldValue}
use Rattle.hk_model.specs.Control.{Context, after, behind, frames_after}
use Rattle.hk_undo.specs.Pasts.{LeadsBack, frames_kept}

same_code : (c : Call) (reply : Reply) (f before : Frame) (rest : Context) → length rest < 64
    → LeadsBack (frames_kept c reply None before) (frames_after c reply None (f ∷ rest)) (before ∷ rest)
same_code (call.Leave give) Done f before rest h = record { can = h; back = refl }
same_code c reply f before rest h = record { can = omega arith; back = refl }

by_code : (c : Call) (reply : Reply) (code : Option ℕ) (f before : Frame) (rest : Context) → length rest < 64
    → LeadsBack (frames_kept c reply code before) (frames_after c reply code (f ∷ rest)) (before ∷ rest)
by_code c reply None f before rest h = same_code c reply f before rest h
by_code c reply (Some n) f before rest h = record { can = omega arith; back = refl }

-- of a call
pub call_leads : (w : WorldValue) (frames : Context) (c : Call) (reply : Reply) (code : Option ℕ) (before : Frame) → 0 < length frames → length frames ≤ 64
    → LeadsBack (frames_kept c reply code before) (after w frames c reply code) (before ∷ drop 1 frames)
unfolding after
call_leads w [] c reply code before some few = absurd (omega arith)
call_leads w (f ∷ rest) c reply code before some few = by_code c reply code (behind w f reply) before rest (omega arith)
