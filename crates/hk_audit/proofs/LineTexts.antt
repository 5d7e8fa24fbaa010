-- An audit line from its two sides.
use Rattle.std.proofs.Common.{◌≡◌, refl, ℕ, List, [], ◌∷◌, ◌++◌, map, ap, sym, ◌∙◌, append_assoc}
use Rattle.std.specs.List.{join_with_byte, flat_map}
use Rattle.std.specs.Fmt.{decimal}
use Rattle.std.proofs.lemmas.Grind.{flat_map-append}
use Rattle.hk_model.specs.declared.calls.Call.{Call}
use Rattle.hk_model.specs.declared.calls.Call.TheVariants as call
use Rattle.hk_model.specs.declared.calls.Refusal.{Refusal}
use Rattle.hk_model.specs.declared.calls.Refusal.TheVariants as refused
use Rattle.hk_model.specs.declared.calls.Reply.{Reply}
use Rattle.hk_model.specs.declared.calls.Reply.TheVariants as reply
use Rattle.hk_model.specs.declared.lines.What.TheVariants as what
use Rattle.hk_model.specs.declared.lines.What.{What}
use Rattle.hk_model.specs.declared.lines.Line.{Line}
use Rattle.hk_format.specs.Pieces.{spell}
use Rattle.hk_format.specs.AuditLines.{call_pieces, what_pieces, event_pieces, refusal_pieces, reply_pieces, line_body, line_text, arrow}
use Rattle.hk_format.specs.Texts.{spell_line}
use Rattle.hk_audit.proofs.Joined.{joined}

-- texts joined, and further texts joined behind them
join-append : (c : ℕ) (x : List ℕ) (xs : List (List ℕ)) (y : List ℕ) (ys : List (List ℕ))
    → join_with_byte c ((x ∷ xs) ++ (y ∷ ys)) ≡ join_with_byte c (x ∷ xs) ++ (c ∷ join_with_byte c (y ∷ ys))
join-append c x xs y ys =
    joined c x (xs ++ (y ∷ ys))
    ∙ ap (λ rest. x ++ rest) (flat_map-append (λ t. c ∷ t) xs (y ∷ ys))
    ∙ sym (append_assoc x (flat_map (λ t. c ∷ t) xs) (c ∷ (y ++ flat_map (λ t. c ∷ t) ys)))
    ∙ ap (λ front. front ++ (c ∷ (y ++ flat_map (λ t. c ∷ t) ys))) (sym (joined c x xs))
    ∙ ap (λ back. join_with_byte c (x ∷ xs) ++ (c ∷ back)) (sym (joined c y ys))

abbrev IsNonempty : {A : Type 0} → List A → Type 0
IsNonempty [] = ⊥
IsNonempty (x ∷ xs) = Unit {0}

-- a text before others that are joined
join-cons : (c : ℕ) (x : List ℕ) (ys : List (List ℕ)) → IsNonempty ys → join_with_byte c (x ∷ ys) ≡ x ++ (c ∷ join_with_byte c ys)
join-cons c x [] h = absurd h
join-cons c x (y ∷ ys) h = refl

-- each call has a word
call_some : (c : Call) → IsNonempty (map spell (call_pieces c))
call_some (call.Get of at) = tt
call_some (call.Put of at word) = tt
call_some (call.Add of word) = tt
call_some (call.Length of) = tt
call_some (call.Load from into) = tt
call_some (call.Store list at from) = tt
call_some (call.Append list from) = tt
call_some (call.Erase list at) = tt
call_some (call.Drop slot) = tt
call_some (call.Restrict slot keep) = tt
call_some (call.Look of) = tt
call_some (call.MakeTemplate of kind into) = tt
call_some (call.Create by into) = tt
call_some (call.Merge with cap into) = tt
call_some (call.Copy of into) = tt
call_some (call.Enter proc args into) = tt
call_some (call.Leave give) = tt
call_some (call.P of) = tt
call_some (call.V of) = tt
call_some call.Yield = tt

what_some : (w : What) → IsNonempty (map spell (what_pieces w))
what_some what.Dispatch = tt
what_some (what.Call c) = call_some c
what_some what.Halt = tt

refusal_some : (r : Refusal) → IsNonempty (map spell (refusal_pieces r))
refusal_some (refused.Range step) = tt
refusal_some (refused.Empty step) = tt
refusal_some (refused.NotCap step) = tt
refusal_some (refused.Denied step right) = tt
refusal_some (refused.WrongType step) = tt
refusal_some (refused.BadTemplate step) = tt
refusal_some refused.Count = tt
refusal_some (refused.Full kind) = tt
refusal_some refused.Deep = tt

reply_some : (r : Reply) → IsNonempty (map spell (reply_pieces r))
reply_some reply.Done = tt
reply_some (reply.Word n) = tt
reply_some reply.Waits = tt
reply_some (reply.No refusal) = refusal_some refusal

-- the three numbers and what happened
event-text : (line : Line)
    → join_with_byte 32 (map spell (event_pieces line)) ≡ decimal line.cpu.0 ++ (32 ∷ (decimal line.proc.0
    ++ (32 ∷ (decimal line.inc.0 ++ (32 ∷ spell_line (what_pieces line.what))))))
event-text line =
    ap (λ t. decimal line.cpu.0 ++ (32 ∷ (decimal line.proc.0 ++ (32 ∷ t)))) (join-cons 32 (decimal line.inc.0) (map spell (what_pieces line.what)) (what_some line.what))

-- the text of a line: the three numbers, what happened, an arrow and the reply
pub line_body-parts : (line : Line)
    → line_body line ≡ (decimal line.cpu.0 ++ (32 ∷ (decimal line.proc.0 ++ (32 ∷ (decimal line.inc.0 ++ (32 ∷ spell_line (what_pieces line.what)))))))
    ++ (32 ∷ 45 ∷ 62 ∷ 32 ∷ spell_line (reply_pieces line.reply))
unfolding line_body
line_body-parts line =
    join-append 32 (decimal line.cpu.0) (decimal line.proc.0 ∷ decimal line.inc.0 ∷ map spell (what_pieces line.what)) arrow (map spell (reply_pieces line.reply))
    ∙ ap (λ t. t ++ (32 ∷ join_with_byte 32 (arrow ∷ map spell (reply_pieces line.reply)))) (event-text line)
    ∙ ap (λ t. (decimal line.cpu.0 ++ (32 ∷ (decimal line.proc.0 ++ (32 ∷ (decimal line.inc.0 ++ (32 ∷ spell_line (what_pieces line.what))))))) ++ (32 ∷ t))
    (join-cons 32 arrow (map spell (reply_pieces line.reply)) (reply_some line.reply))

-- a line that is written piece by piece: who acts, what happened, and the end
pub written_line : (line : Line) (old numbers said new : List ℕ)
    → numbers ≡ old ++ (decimal line.cpu.0 ++ (32 ∷ (decimal line.proc.0 ++ (32 ∷ (decimal line.inc.0 ++ (32 ∷ [])))))) → said ≡ numbers ++ spell_line (what_pieces line.what)
    → new ≡ said ++ (32 ∷ 45 ∷ 62 ∷ 32 ∷ (spell_line (reply_pieces line.reply) ++ 10 ∷ [])) → new ≡ old ++ line_text line
written_line line old numbers said new a b c = rw (c, b, a, line_body-parts line) (simp append_assoc refl)
