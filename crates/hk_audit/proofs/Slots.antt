-- The slots of a call, read one after another.
use Rattle.std.proofs.Common.{◌≡◌, ℕ, zero, suc, ◌+◌, ◌<◌, arith, Bool, true, false, cond, ltb, List, [], ◌∷◌, ◌++◌, length, map, take, set, ◌-◌, refl, sym, ap, ◌∙◌, Ok, Err}
use Rattle.std.proofs.Common.{Result}
use Rattle.std.proofs.lemmas.List.{map-append, take_more_set}
use mathlib.Core.List.{append_assoc, append-nil}
use Rattle.hk_format.specs.declared.causes.ParseCause.{ParseCause}
use Rattle.hk_format.specs.declared.causes.ParseCause.TheVariants.{OutOfRange, Missing}
use Rattle.hk_model.specs.declared.names.Slot.{Slot}
use Rattle.hk_model.specs.declared.calls.Call.{Call}
use Rattle.hk_model.specs.declared.calls.Call.TheVariants as call
use Rattle.hk_format.specs.declared.syntax.Verb.TheVariants as verb
use Rattle.hk_model.specs.Limits.{slot_bound}
use Rattle.hk_format.specs.Pieces.{Piece, Word, Upper, Dash, Number, Path}
use Rattle.hk_format.specs.Texts.{is_none}
use Rattle.std.proofs.lemmas.Bool.{false≢true}
use Rattle.hk_format.specs.Reading.{Found, Reads, onward, taken, wanted, at_most, end}
use Rattle.hk_format.specs.Forms.{as_number_below, slot_numbered}
use Rattle.hk_format.specs.WrittenLines.{before_last, last_of}
use Rattle.hk_format.specs.LineReading.{as_any_slot, as_path, call_of}

-- the value and the pieces that were read
read_parts : {A : Type 0} (r : Found A) (x y : A) (left ps : List Piece) → r ≡ Ok (x, left) → r ≡ Ok (y, ps) → (x ≡ y) × (left ≡ ps)
read_parts {A} r x y left ps h k =
    let e : (x, left) ≡ (y, ps) = cc in
    (ap (λ (q : A × List Piece). q.0) e, ap (λ (q : A × List Piece). q.1) e)

-- what is left behind a piece
left_behind : {A : Type 0} (r : Result A ParseCause) (ps : List Piece) (x : A) (left : List Piece) → taken r ps ≡ Ok (x, left) → left ≡ ps
left_behind (Ok y) ps x left h = (read_parts (Ok (y, ps)) x y left ps h refl).1
left_behind (Err cause) ps x left h = cc

slot_number : (p : Piece) (ps left : List Piece) (s : Slot) → taken (as_any_slot p) ps ≡ Ok (s, left) → taken (as_number_below slot_bound p) ps ≡ Ok (s.0, left)
slot_number (Number n) ps left s h = go (ltb n slot_bound) h
  where
    go : (b : Bool) → taken (cond b (Ok (slot_numbered n)) (Err OutOfRange)) ps ≡ Ok (s, left) → taken (cond b (Ok n) (Err OutOfRange)) ps ≡ Ok (s.0, left)
    go true h = let parts = read_parts (Ok (slot_numbered n, ps)) s (slot_numbered n) left ps h refl in rw (parts.0, parts.1)
    go false h = cc
slot_number (Word t) ps left s h = cc
slot_number (Upper t) ps left s h = cc
slot_number Dash ps left s h = cc
slot_number (Path steps) ps left s h = cc

slot_cause : (p : Piece) (ps : List Piece) (cause : ParseCause) → taken (as_any_slot p) ps ≡ Err cause → taken (as_number_below slot_bound p) ps ≡ Err cause
slot_cause (Number n) ps cause h = go (ltb n slot_bound) h
  where
    go : (b : Bool) → taken (cond b (Ok (slot_numbered n)) (Err OutOfRange)) ps ≡ Err cause → taken (cond b (Ok n) (Err OutOfRange)) ps ≡ Err cause
    go true h = cc
    go false h = cc
slot_cause (Word t) ps cause h = cc
slot_cause (Upper t) ps cause h = cc
slot_cause Dash ps cause h = cc
slot_cause (Path steps) ps cause h = cc

-- the slots that were read, the last of them apart, and those of these pieces, up to a number
abbrev pub slots_on : List ℕ → List ℕ → ℕ → ℕ → Reads Call
slots_on proc done into room pieces =
    onward (at_most room (as_number_below slot_bound) pieces) (λ more. end (call.Enter proc (done ++ before_last into more) (slot_numbered (last_of into more))))

-- one slot more
pub slots_turn : (proc : List ℕ) (done : List ℕ) (into room : ℕ) (next : Slot) (pieces left : List Piece) → wanted as_any_slot pieces ≡ Ok (next, left)
    → slots_on proc done into (suc room) pieces ≡ slots_on proc (done ++ into ∷ []) next.0 room left
slots_turn proc done into room next [] left h = cc
slots_turn proc done into room next (p ∷ ps) left h =
    rw (slot_number p ps left next h, left_behind (as_any_slot p) ps next left h) (go (at_most room (as_number_below slot_bound) ps))
  where
    go : (r : Found (List ℕ))
        → onward (onward r (λ xs rest. Ok (next.0 ∷ xs, rest))) (λ more. end (call.Enter proc (done ++ before_last into more) (slot_numbered (last_of into more))))
        ≡ onward r (λ more. end (call.Enter proc ((done ++ into ∷ []) ++ before_last next.0 more) (slot_numbered (last_of next.0 more))))
    go (Ok x) = ap (λ (args : List ℕ). end (call.Enter proc args (slot_numbered (last_of next.0 x.0))) x.1) (sym (append_assoc done (into ∷ []) (before_last next.0 x.0)))
    go (Err cause) = refl

-- one slot too many
pub slots_full : (proc : List ℕ) (done : List ℕ) (into : ℕ) (next : Slot) (pieces left : List Piece) → wanted as_any_slot pieces ≡ Ok (next, left)
    → slots_on proc done into zero pieces ≡ Err OutOfRange
slots_full proc done into next [] left h = cc
slots_full proc done into next (p ∷ ps) left h = rw (slot_number p ps left next h)

-- a slot that is refused
pub slots_refused : (proc : List ℕ) (done : List ℕ) (into room : ℕ) (cause : ParseCause) (pieces : List Piece) → is_none pieces ≡ false → wanted as_any_slot pieces ≡ Err cause
    → slots_on proc done into room pieces ≡ Err cause
slots_refused proc done into room cause [] some h = absurd (false≢true (sym some))
slots_refused proc done into zero cause (p ∷ ps) some h = rw (slot_cause p ps cause h)
slots_refused proc done into (suc room) cause (p ∷ ps) some h = rw (slot_cause p ps cause h)

-- no slot more
pub slots_end : (proc : List ℕ) (done : List ℕ) (into room : ℕ) (pieces : List Piece) → is_none pieces ≡ true
    → slots_on proc done into room pieces ≡ Ok (call.Enter proc done (slot_numbered into), pieces)
slots_end proc done into room [] none = rw append-nil
slots_end proc done into room (p ∷ ps) none = absurd (false≢true none)

slot_wanted : (pieces left : List Piece) (s : Slot) → wanted as_any_slot pieces ≡ Ok (s, left) → wanted (as_number_below slot_bound) pieces ≡ Ok (s.0, left)
slot_wanted [] left s h = cc
slot_wanted (p ∷ ps) left s h = slot_number p ps left s h

-- the path and the first slot of a call
pub call_begun : (before middle after : List Piece) (proc : List ℕ) (into : Slot) → wanted as_path before ≡ Ok (proc, middle) → wanted as_any_slot middle ≡ Ok (into, after)
    → slots_on proc [] into.0 8 after ≡ call_of verb.Call before
call_begun before middle after proc into h k = rw (h, slot_wanted middle after into k)

-- what is left is shorter behind a piece
pub left_shorter : {A : Type 0} (form : Piece → Result A ParseCause) (pieces left : List Piece) (x : A) → wanted form pieces ≡ Ok (x, left) → length left < length pieces
left_shorter form [] left x h = cc
left_shorter form (p ∷ ps) left x h = rw (left_behind (form p) ps x left h) (omega arith)

-- a path that is refused, and a first slot

pub slot_refused : (pieces : List Piece) (cause : ParseCause) → wanted as_any_slot pieces ≡ Err cause → wanted (as_number_below slot_bound) pieces ≡ Err cause
slot_refused [] cause h = let same : cause ≡ Missing = cc in rw same
slot_refused (p ∷ ps) cause h = slot_cause p ps cause h

pub call_bad : (before middle : List Piece) (proc : List ℕ) (cause : ParseCause) → wanted as_path before ≡ Ok (proc, middle) → wanted as_any_slot middle ≡ Err cause
    → call_of verb.Call before ≡ Err cause
call_bad before middle proc cause h k = rw (h, slot_refused middle cause k) refl

-- one argument more
pub call_turn : (proc : List ℕ) (args : List Slot) (count : ℕ) (into next : Slot) (pieces left : List Piece) (whole : Found Call) → count < 8 → length args ≡ 8
    → wanted as_any_slot pieces ≡ Ok (next, left)
    → slots_on proc (map (λ s. s.0) (take count args)) into.0 (8 - count) pieces ≡ whole → slots_on proc (map (λ s. s.0) (take (count + 1) (set args count into))) next.0
    (8 - (count + 1)) left ≡ whole
call_turn proc args count into next pieces left whole few size h k =
    let room : 8 - count ≡ suc (8 - (count + 1)) = omega arith in
    let more = take_more_set args count into (omega arith) in
    rw (more, map-append) (sym (slots_turn proc (map (λ s. s.0) (take count args)) into.0 (8 - (count + 1)) next pieces left h) ∙ (rw room at k))

-- a ninth
pub call_full : (proc : List ℕ) (done : List ℕ) (count into : ℕ) (next : Slot) (pieces left : List Piece) (whole : Found Call) → count ≡ 8
    → wanted as_any_slot pieces ≡ Ok (next, left)
    → slots_on proc done into (8 - count) pieces ≡ whole → whole ≡ Err OutOfRange
call_full proc done count into next pieces left whole e h k = sym (rw e at k) ∙ slots_full proc done into next pieces left h

-- a later slot that is refused
pub call_late : (proc : List ℕ) (done : List ℕ) (into room : ℕ) (cause : ParseCause) (pieces : List Piece) (whole : Found Call) → is_none pieces ≡ false
    → wanted as_any_slot pieces ≡ Err cause
    → slots_on proc done into room pieces ≡ whole → whole ≡ Err cause
call_late proc done into room cause pieces whole some h k = sym k ∙ slots_refused proc done into room cause pieces some h
