-- The code that a draft tells, by the reply to its call.
use Rattle.std.proofs.Common.{◌≡◌, ℕ, Option, refl}
use Rattle.hk_model.specs.declared.names.Inc.{Inc}
use Rattle.hk_model.specs.declared.calls.Answer.{Answer}
use Rattle.hk_model.specs.declared.calls.Answer.TheVariants as answer
use Rattle.hk_model.specs.declared.calls.Call.{Call}
use Rattle.hk_model.specs.declared.calls.Call.TheVariants as call
use Rattle.hk_model.specs.declared.calls.Reply.{Reply}
use Rattle.hk_model.specs.declared.calls.Reply.TheVariants as reply
use Rattle.hk_model.specs.declared.calls.Refusal.{Refusal}
use Rattle.hk_model.specs.State.{State}
use Rattle.hk_model.specs.Processors.{entered_code}
use Rattle.hk_model.specs.Rule.{answered}
use Rattle.hk_table.specs.Drafts.{code_drafted}

-- by any reply but Done no code is drafted, and none entered
word_drafts : (c : Call) (code : Option ℕ) (word : ℕ) (s : State) (inc : Inc) → code_drafted c (reply.Word word) code ≡ entered_code s inc c (reply.Word word)
word_drafts (call.Enter path args into) code word s inc = refl
word_drafts c code word s inc = cc

waits_drafts : (c : Call) (code : Option ℕ) (s : State) (inc : Inc) → code_drafted c reply.Waits code ≡ entered_code s inc c reply.Waits
waits_drafts (call.Enter path args into) code s inc = refl
waits_drafts c code s inc = cc

pub refused_drafts : (c : Call) (code : Option ℕ) (refusal : Refusal) (s : State) (inc : Inc) → code_drafted c (reply.No refusal) code ≡ entered_code s inc c (reply.No refusal)
refused_drafts (call.Enter path args into) code refusal s inc = refl
refused_drafts c code refusal s inc = cc

-- a draft that is right for the answer Done is right for each answer
pub code_answered : (c : Call) (code : Option ℕ) (a : Answer) (s : State) (inc : Inc) → code_drafted c reply.Done code ≡ entered_code s inc c reply.Done
    → code_drafted c (answered a) code ≡ entered_code s inc c (answered a)
code_answered c code answer.Done s inc h = h
code_answered c code (answer.Word word) s inc h = word_drafts c code word s inc
code_answered c code answer.Waits s inc h = waits_drafts c code s inc
