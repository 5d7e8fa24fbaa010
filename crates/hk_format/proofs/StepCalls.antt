-- A call has the text of the instruction that makes it.
use Rattle.std.proofs.Common.{◌≡◌, refl, subst}
use Rattle.hk_model.specs.declared.calls.Call.{Call}
use Rattle.hk_model.specs.declared.entries.Making.TheVariants as making
use Rattle.hk_model.specs.declared.frames.Frame.{Frame}
use Rattle.hk_model.specs.declared.instructions.Instr.{Instr}
use Rattle.hk_model.specs.declared.instructions.Instr.TheVariants as instr
use Rattle.hk_model.specs.Control.{Calls, meaning}
use Rattle.hk_format.specs.StepTexts.{HasTextOf}

-- the instruction makes the call, which so has its text
made : (f : Frame) (i : Instr) (made c : Call) → Calls made ≡ Calls c → HasTextOf f i made → HasTextOf f i c
made f i m c e h = let same : m ≡ c = cc in subst (λ (d : Call). HasTextOf f i d) same h

pub step_text : (f : Frame) (i : Instr) (c : Call) → meaning f i ≡ Calls c → HasTextOf f i c
step_text f (instr.Get of at reg) c e = made f (instr.Get of at reg) _ c e refl
step_text f (instr.Put of at word) c e = made f (instr.Put of at word) _ c e refl
step_text f (instr.Add of word) c e = made f (instr.Add of word) _ c e refl
step_text f (instr.Length of reg) c e = made f (instr.Length of reg) _ c e refl
step_text f (instr.Load from into) c e = made f (instr.Load from into) _ c e refl
step_text f (instr.Store list at from) c e = made f (instr.Store list at from) _ c e refl
step_text f (instr.Append list from) c e = made f (instr.Append list from) _ c e refl
step_text f (instr.Erase list at) c e = made f (instr.Erase list at) _ c e refl
step_text f (instr.Drop slot) c e = made f (instr.Drop slot) _ c e refl
step_text f (instr.Restrict slot keep) c e = made f (instr.Restrict slot keep) _ c e refl
step_text f (instr.Look of reg) c e = made f (instr.Look of reg) _ c e refl
step_text f (instr.MakeTemplate of (making.Amplify check give) into) c e = made f (instr.MakeTemplate of (making.Amplify check give) into) _ c e refl
step_text f (instr.MakeTemplate of (making.Create give) into) c e = made f (instr.MakeTemplate of (making.Create give) into) _ c e refl
step_text f (instr.Create by into) c e = made f (instr.Create by into) _ c e refl
step_text f (instr.Merge with cap into) c e = made f (instr.Merge with cap into) _ c e refl
step_text f (instr.Copy of into) c e = made f (instr.Copy of into) _ c e refl
step_text f (instr.Enter proc args into) c e = made f (instr.Enter proc args into) _ c e refl
step_text f (instr.Leave give) c e = made f (instr.Leave give) _ c e refl
step_text f (instr.P of) c e = made f (instr.P of) _ c e refl
step_text f (instr.V of) c e = made f (instr.V of) _ c e refl
step_text f instr.Yield c e = made f instr.Yield _ c e refl
step_text f (instr.SetReg reg to) c e = cc
step_text f (instr.AddReg reg by) c e = cc
step_text f (instr.Goto to) c e = cc
step_text f (instr.IfEq left right to) c e = cc
step_text f (instr.IfLess left right to) c e = cc
step_text f (instr.IfDenied to) c e = cc
