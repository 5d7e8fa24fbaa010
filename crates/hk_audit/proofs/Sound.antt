-- The readers of an audit line give only values in their ranges, and only for the texts that these are spelled by.
use Rattle.std.proofs.Common.{◌≡◌, ℕ, zero, suc, ◌<◌, ◌≤◌, Bool, true, false, cond, List, [], ◌∷◌, length, map, refl, sym, ap, subst, ◌∙◌, arith, Some, None, Result, Ok}
use Rattle.std.proofs.Common.{Err, IsTrue}
use Rattle.std.specs.Prelude.{codes}
use Rattle.std.specs.List.{AllByRecursion}
use Rattle.std.specs.Fmt.{decimal}
use Rattle.hk_rights.specs.Rights.{IsRightsWord, is_right, name_of}
use Rattle.hk_format.specs.declared.causes.ParseCause.{ParseCause}
use Rattle.hk_format.specs.declared.causes.ParseCause.TheVariants.{OutOfRange}
use Rattle.hk_model.specs.declared.names.Slot.{Slot}
use Rattle.hk_model.specs.declared.entries.Making.{Making}
use Rattle.hk_model.specs.declared.entries.Making.TheVariants as making
use Rattle.hk_model.specs.declared.calls.Call.{Call}
use Rattle.hk_model.specs.declared.calls.Call.TheVariants as call
use Rattle.hk_model.specs.declared.calls.What8.{What8}
use Rattle.hk_model.specs.declared.calls.Refusal.{Refusal}
use Rattle.hk_model.specs.declared.calls.Refusal.TheVariants as refused
use Rattle.hk_model.specs.declared.calls.Reply.{Reply}
use Rattle.hk_model.specs.declared.calls.Reply.TheVariants as reply
use Rattle.hk_model.specs.declared.lines.What.{What}
use Rattle.hk_model.specs.declared.lines.What.TheVariants as what
use Rattle.hk_model.specs.declared.lines.Line.{Line}
use Rattle.hk_format.specs.declared.syntax.Verb.{Verb}
use Rattle.hk_format.specs.declared.syntax.Verb.TheVariants as verb
use Rattle.hk_model.specs.Labels.{same_text}
use Rattle.hk_format.specs.Pieces.{Piece, Word, Upper, Number, spell}
use Rattle.hk_format.specs.Verbs.{verb_word, verb_piece}
use Rattle.hk_format.specs.Operands.{path_piece, slot_piece, rights_set_piece, argument_pieces}
use Rattle.hk_format.specs.Reading.{Found, Reads, ◌>>=◌, onward, taken, wanted, at_most, end, unknown}
use Rattle.hk_format.specs.Forms.{as_verb, as_word, as_number_below, slot_numbered}
use Rattle.hk_format.specs.WrittenLines.{before_last, last_of}
use Rattle.hk_format.specs.LineReading.{as_path, as_any_slot, as_rights_set, as_right, as_word32, as_full, call_of, template_call, template_call_end, some_call, call_named}
use Rattle.hk_format.specs.LineReading.{what_of, stepped, refusal_of, reply_of, reply_line, event_line, line_with}
use Rattle.hk_model.specs.Limits.{inc_bound}
use Rattle.hk_format.specs.AuditLines.{call_pieces, what_pieces, full_word, reply_pieces, event_pieces}
use Rattle.hk_format.specs.LineRanges.{IsPathValue, IsAnySlot, IsCall, IsWhat, IsReply, IsLine}
use Rattle.hk_model.specs.WorldValue.{IsWord32, IsMaking}
use Rattle.hk_format.proofs.ExactForms.{verb_is}
use Rattle.hk_format.proofs.LineAgain.{same_is}

-- the same, where that is wanted
abbrev pub Same : {A : Type 0} → Bool → A → A → Type 0
Same true a b = a ≡ b
Same false a b = Unit {0}

-- a form gives only values in their range, of the text that they are spelled by
pub record FormFits (view : List ℕ → Piece) (exact : Bool) (A : Type 0) (form : Piece → Result A ParseCause) (piece : A → Piece) (Q : A → Type 0) : Type 0 where
  pub fits : (t : List ℕ) (x : A) → form (view t) ≡ Ok x → Q x × Same exact (spell (piece x)) t

-- and so does a reader, of the texts in front of which others were read
pub record Sound (view : List ℕ → Piece) (exact : Bool) (A : Type 0) (reads : Reads A) (front : List (List ℕ) → List (List ℕ)) (pieces : A → List Piece)
    (P : A → Type 0) : Type 0 where
  pub sound : (ts : List (List ℕ)) (x : A) (rest : List Piece) → reads (map view ts) ≡ Ok (x, rest) → P x × Same exact (front ts) (map spell (pieces x))

-- what is known of the forms
pub record Forms (view : List ℕ → Piece) (exact : Bool) : Type 0 where
  pub path : FormFits view exact (List ℕ) as_path path_piece IsPathValue
  pub slot : FormFits view exact Slot as_any_slot slot_piece IsAnySlot
  pub rights : FormFits view exact ℕ as_rights_set rights_set_piece IsRightsWord
  pub right : FormFits view exact ℕ as_right (λ n. Upper (name_of n)) (λ n. IsTrue (is_right n))
  pub word32 : FormFits view exact ℕ as_word32 Number IsWord32
  pub below : (bound : ℕ) → bound ≤ 18446744073709551616 → FormFits view exact ℕ (as_number_below bound) Number (λ n. n < bound)
  pub word : FormFits view exact (List ℕ) as_word Word (λ w. Unit {0})
  pub verb : FormFits view exact Verb as_verb verb_piece (λ v. Unit {0})
  pub full : FormFits view exact What8 as_full (λ kind. Word (full_word kind)) (λ kind. Unit {0})

shift : (exact : Bool) (front : List (List ℕ) → List (List ℕ)) (a t : List ℕ) (ts z : List (List ℕ)) → Same exact a t → Same exact (front (a ∷ ts)) z
    → Same exact (front (t ∷ ts)) z
shift true front a t ts z e h = subst (λ (u : List ℕ). front (u ∷ ts) ≡ z) e h
shift false front a t ts z e h = tt

same_from : {A : Type 0} (exact : Bool) (a b : A) → a ≡ b → Same exact a b
same_from true a b e = e
same_from false a b e = tt

same_behind : (exact : Bool) (front : List (List ℕ) → List (List ℕ)) (a b : List (List ℕ)) → Same exact a b → Same exact (front a) (front b)
same_behind true front a b e = ap front e
same_behind false front a b e = tt

-- the parts of a reader

pub sound_wanted : {view : List ℕ → Piece} {exact : Bool} {A B : Type 0} {form : Piece → Result A ParseCause} {piece : A → Piece} {Q : A → Type 0} {next : A
    → Reads B} {front : List (List ℕ) → List (List ℕ)} {pieces : B → List Piece} {P : B → Type 0}
    → FormFits view exact A form piece Q → ((x : A) → Q x → Sound view exact B (next x) (λ ts. front (spell (piece x) ∷ ts)) pieces P)
    → Sound view exact B (wanted form >>= next) front pieces P
sound_wanted {view} {exact} {A} {B} {form} {piece} {Q} {next} {front} {pieces} {P} f more = record { sound = all }
  where
    all : (ts : List (List ℕ)) (x : B) (rest : List Piece) → (wanted form >>= next) (map view ts) ≡ Ok (x, rest) → P x × Same exact (front ts) (map spell (pieces x))
    all [] x rest h = cc
    all (t ∷ ts) x rest h = go (form (view t)) refl h
      where
        go : (r : Result A ParseCause) → form (view t) ≡ r → onward (taken r (map view ts)) next ≡ Ok (x, rest) → P x × Same exact (front (t ∷ ts)) (map spell (pieces x))
        go (Ok y) e k =
            let here = f.fits t y e in
            let later = (more y here.0).sound ts x rest k in
            (later.0, shift exact front (spell (piece y)) t ts (map spell (pieces x)) here.1 later.1)
        go (Err cause) e k = cc

pub sound_end : {view : List ℕ → Piece} {exact : Bool} {B : Type 0} {c : B} {front : List (List ℕ) → List (List ℕ)} {pieces : B → List Piece} {P : B → Type 0}
    → P c → front [] ≡ map spell (pieces c) → Sound view exact B (end c) front pieces P
sound_end {view} {exact} {B} {c} {front} {pieces} {P} p e = record { sound = all }
  where
    all : (ts : List (List ℕ)) (x : B) (rest : List Piece) → end c (map view ts) ≡ Ok (x, rest) → P x × Same exact (front ts) (map spell (pieces x))
    all [] x rest h =
        let pair : ◌≡◌ {A = B × List Piece} (c, []) (x, rest) = cc in
        let same : c ≡ x = ap (λ (q : B × List Piece). q.0) pair in
        (subst P same p, same_from exact _ _ (e ∙ ap (λ (y : B). map spell (pieces y)) same))
    all (t ∷ ts) x rest h = cc

pub sound_unknown : {view : List ℕ → Piece} {exact : Bool} {B : Type 0} {front : List (List ℕ) → List (List ℕ)} {pieces : B → List Piece} {P : B → Type 0}
    → Sound view exact B unknown front pieces P
sound_unknown = record { sound = λ ts x rest h. cc }

-- one reader for a word, and another for others
pub sound_word : {view : List ℕ → Piece} {exact : Bool} {B : Type 0} {reads others : Reads B} {pieces : B → List Piece} {P : B → Type 0} (word literal : List ℕ)
    → Sound view exact B reads (λ ts. literal ∷ ts) pieces P → Sound view exact B others (λ ts. word ∷ ts) pieces P
    → Sound view exact B (cond (same_text word literal) reads others) (λ ts. word ∷ ts) pieces P
sound_word {view} {exact} {B} {reads} {others} {pieces} {P} word literal one other = go (same_text word literal) refl
  where
    go : (b : Bool) → same_text word literal ≡ b → Sound view exact B (cond b reads others) (λ ts. word ∷ ts) pieces P
    go true e = subst (λ (w : List ℕ). Sound view exact B reads (λ ts. w ∷ ts) pieces P) (sym (same_is word literal e)) one
    go false e = other

-- calls

sound_template_end : {view : List ℕ → Piece} {exact : Bool} (f : Forms view exact) (of : List ℕ) (kind : Making) → IsPathValue of → IsMaking kind
    → (front : List (List ℕ) → List (List ℕ))
    → ((into : Slot) → front (decimal into.0 ∷ []) ≡ map spell (call_pieces (call.MakeTemplate of kind into)))
    → Sound view exact Call (template_call_end of kind) front call_pieces IsCall
sound_template_end f of kind h j front e = sound_wanted f.slot (λ into k. sound_end (h, j, k) (e into))

sound_template : {view : List ℕ → Piece} {exact : Bool} (f : Forms view exact) (of : List ℕ) → IsPathValue of → (kind : Verb)
    → Sound view exact Call (template_call of kind) (λ ts. codes "template" ∷ spell (path_piece of) ∷ verb_word kind ∷ ts) call_pieces IsCall
sound_template f of h verb.Amplify =
    sound_wanted f.rights (λ check j. sound_wanted f.rights (λ give k. sound_template_end f of (making.Amplify check give) h (j, k) _ (λ into. refl)))
sound_template f of h verb.Create = sound_wanted f.rights (λ give k. sound_template_end f of (making.Create give) h k _ (λ into. refl))
sound_template f of h _ = sound_unknown

sound_return : {view : List ℕ → Piece} {exact : Bool} (f : Forms view exact) → Sound view exact Call (call_of verb.Return) (λ ts. codes "return" ∷ ts) call_pieces IsCall
sound_return {view} {exact} f = record { sound = all }
  where
    none : Sound view exact Call (end (call.Leave None)) (λ us. codes "return" ∷ us) call_pieces IsCall
    none = sound_end tt refl

    some : (s : Slot) → IsAnySlot s → Sound view exact Call (end (call.Leave (Some s))) (λ us. codes "return" ∷ spell (slot_piece s) ∷ us) call_pieces IsCall
    some s h = sound_end h refl

    all : (ts : List (List ℕ)) (x : Call) (rest : List Piece) → call_of verb.Return (map view ts) ≡ Ok (x, rest)
        → IsCall x × Same exact (codes "return" ∷ ts) (map spell (call_pieces x))
    all [] x rest h = none.sound [] x rest h
    all (t ∷ ts) x rest h = go (as_any_slot (view t)) refl h
      where
        go : (r : Result Slot ParseCause) → as_any_slot (view t) ≡ r
            → onward (onward (taken r (map view ts)) (λ s left. Ok (Some s, left))) (λ give. end (call.Leave give)) ≡ Ok (x, rest)
            → IsCall x × Same exact (codes "return" ∷ t ∷ ts) (map spell (call_pieces x))
        go (Ok s) e k =
            let here = f.slot.fits t s e in
            let later = (some s here.0).sound ts x rest k in
            (later.0, shift exact (λ us. codes "return" ∷ us) (spell (slot_piece s)) t ts (map spell (call_pieces x)) here.1 later.1)
        go (Err cause) e k = cc

-- the slots of a call

record AreSlots (view : List ℕ → Piece) (exact : Bool) (room : ℕ) (ts : List (List ℕ)) (more : List ℕ) : Type 0 where
  few : length more ≤ room
  all : AllByRecursion (λ n. n < 256) more
  same : Same exact ts (map decimal more)

same_cons : (exact : Bool) (a t : List ℕ) (ts us : List (List ℕ)) → Same exact a t → Same exact ts us → Same exact (t ∷ ts) (a ∷ us)
same_cons true a t ts us e h = cc
same_cons false a t ts us e h = tt

slots_sound : {view : List ℕ → Piece} {exact : Bool} (f : Forms view exact) (room : ℕ) (ts : List (List ℕ)) (more : List ℕ) (rest : List Piece)
    → at_most room (as_number_below 256) (map view ts) ≡ Ok (more, rest) → AreSlots view exact room ts more
slots_sound {view} {exact} f room [] more rest h =
    let pair : ◌≡◌ {A = List ℕ × List Piece} ([], []) (more, rest) = cc in
    let same : [] ≡ more = ap (λ (q : List ℕ × List Piece). q.0) pair in
    subst (λ (m : List ℕ). AreSlots view exact room [] m) same (record { few = omega arith; all = tt; same = same_from exact [] [] refl })
slots_sound {view} {exact} f zero (t ∷ ts) more rest h = go (as_number_below 256 (view t)) h
  where
    go : (r : Result ℕ ParseCause) → onward (taken r (map view ts)) (λ x left. Err OutOfRange) ≡ Ok (more, rest) → AreSlots view exact zero (t ∷ ts) more
    go (Ok y) k = cc
    go (Err cause) k = cc
slots_sound {view} {exact} f (suc room) (t ∷ ts) more rest h = go (as_number_below 256 (view t)) refl (at_most room (as_number_below 256) (map view ts)) refl h
    (λ m left e. slots_sound f room ts m left e)
  where
    go : (r : Result ℕ ParseCause) → as_number_below 256 (view t) ≡ r → (s : Found (List ℕ)) → at_most room (as_number_below 256) (map view ts) ≡ s
        → onward (taken r (map view ts)) (λ x left. onward (at_most room (as_number_below 256) (map view ts)) (λ xs last. Ok (x ∷ xs, last))) ≡ Ok (more, rest)
        → ((m : List ℕ) (left : List Piece) → at_most room (as_number_below 256) (map view ts) ≡ Ok (m, left) → AreSlots view exact room ts m)
        → AreSlots view exact (suc room) (t ∷ ts) more
    go (Ok y) e s i k others = by s i (rw i at k)
      where
        by : (s : Found (List ℕ)) → at_most room (as_number_below 256) (map view ts) ≡ s → onward s (λ xs last. Ok (y ∷ xs, last)) ≡ Ok (more, rest)
            → AreSlots view exact (suc room) (t ∷ ts) more
        by (Ok q) i k =
            let here = (f.below 256 (omega arith)).fits t y e in
            let later = others q.0 q.1 i in
            let few = later.few in
            let pair : ◌≡◌ {A = List ℕ × List Piece} (y ∷ q.0, q.1) (more, rest) = cc in
            let same : y ∷ q.0 ≡ more = ap (λ (p : List ℕ × List Piece). p.0) pair in
            subst (λ (m : List ℕ). AreSlots view exact (suc room) (t ∷ ts) m) same (record {
              few = omega arith;
              all = (here.0, later.all);
              same =
                  same_cons exact (decimal y) t ts (map decimal q.0) here.1 later.same;
            })
        by (Err cause) i k = cc
    go (Err cause) e s i k others = cc

all_before : (x : ℕ) (ys : List ℕ) → x < 256 → AllByRecursion (λ n. n < 256) ys
    → AllByRecursion (λ n. n < 256) (before_last x ys) × (last_of x ys < 256) × (length (before_last x ys) ≡ length ys)
all_before x [] h k = (tt, h, refl)
all_before x (y ∷ ys) h k = let rest = all_before y ys k.0 k.1 in ((h, rest.0), rest.1, ap suc rest.2)

slots_spelled : (x : ℕ) (ys : List ℕ) → map spell (argument_pieces (before_last x ys) (slot_numbered (last_of x ys))) ≡ decimal x ∷ map decimal ys
slots_spelled x [] = refl
slots_spelled x (y ∷ ys) = ap (λ (ts : List (List ℕ)). decimal x ∷ ts) (slots_spelled y ys)

sound_slots : {view : List ℕ → Piece} {exact : Bool} (f : Forms view exact) (proc : List ℕ) (first : ℕ) → IsPathValue proc → first < 256
    → Sound view exact Call (at_most 8 (as_number_below 256) >>= (λ more. end (call.Enter proc (before_last first more) (slot_numbered (last_of first more)))))
    (λ ts. codes "call" ∷ spell (path_piece proc) ∷ decimal first ∷ ts) call_pieces IsCall
sound_slots {view} {exact} f proc first h k = record { sound = λ ts x rest e. go ts x rest (at_most 8 (as_number_below 256) (map view ts)) refl e }
  where
    go : (ts : List (List ℕ)) (x : Call) (rest : List Piece) (r : Found (List ℕ)) → at_most 8 (as_number_below 256) (map view ts) ≡ r
        → onward r (λ more. end (call.Enter proc (before_last first more) (slot_numbered (last_of first more)))) ≡ Ok (x, rest)
        → IsCall x × Same exact (codes "call" ∷ spell (path_piece proc) ∷ decimal first ∷ ts) (map spell (call_pieces x))
    go ts x rest (Err cause) i j = cc
    go ts x rest (Ok (more, [])) i j =
        let slots = slots_sound f 8 ts more [] i in
        let parts = all_before first more k slots.all in
        let few = slots.few in
        let pair : ◌≡◌ {A = Call × List Piece} (call.Enter proc (before_last first more) (slot_numbered (last_of first more)), []) (x, rest) = cc in
        let same : call.Enter proc (before_last first more) (slot_numbered (last_of first more)) ≡ x = ap (λ (q : Call × List Piece). q.0) pair in
        let spelled = ap (λ (us : List (List ℕ)). codes "call" ∷ spell (path_piece proc) ∷ us) (slots_spelled first more) in (
          subst IsCall same (h, (rw parts.2 few, parts.0), parts.1),
          spells exact same (sym spelled) slots.same,
        )
      where
        spells : (b : Bool) → call.Enter proc (before_last first more) (slot_numbered (last_of first more)) ≡ x
            → codes "call" ∷ spell (path_piece proc) ∷ decimal first ∷ map decimal more ≡ map spell
            (call_pieces (call.Enter proc (before_last first more) (slot_numbered (last_of first more))))
            → Same b ts (map decimal more) → Same b (codes "call" ∷ spell (path_piece proc) ∷ decimal first ∷ ts) (map spell (call_pieces x))
        spells true same spelled e =
            ap (λ (us : List (List ℕ)). codes "call" ∷ spell (path_piece proc) ∷ decimal first ∷ us) e ∙ spelled ∙ ap (λ (c : Call). map spell (call_pieces c)) same
        spells false same spelled e = tt
    go ts x rest (Ok (more, p ∷ ps)) i j = cc

pub sound_call : {view : List ℕ → Piece} {exact : Bool} (f : Forms view exact) (v : Verb) → Sound view exact Call (call_of v) (λ ts. verb_word v ∷ ts) call_pieces IsCall
sound_call f verb.GetData = sound_wanted f.path (λ of h. sound_wanted f.word32 (λ at k. sound_end (h, k) refl))
sound_call f verb.PutData = sound_wanted f.path (λ of h. sound_wanted f.word32 (λ at j. sound_wanted f.word32 (λ word k. sound_end (h, j, k) refl)))
sound_call f verb.AddData = sound_wanted f.path (λ of h. sound_wanted f.word32 (λ word k. sound_end (h, k) refl))
sound_call f verb.Length = sound_wanted f.path (λ of h. sound_end h refl)
sound_call f verb.Load = sound_wanted f.path (λ from h. sound_wanted f.slot (λ into k. sound_end (h, k) refl))
sound_call f verb.Store = sound_wanted f.path (λ list h. sound_wanted f.word32 (λ at j. sound_wanted f.slot (λ from k. sound_end (h, j, k) refl)))
sound_call f verb.Append = sound_wanted f.path (λ list h. sound_wanted f.slot (λ from k. sound_end (h, k) refl))
sound_call f verb.Erase = sound_wanted f.path (λ list h. sound_wanted f.word32 (λ at k. sound_end (h, k) refl))
sound_call f verb.Drop = sound_wanted f.slot (λ slot h. sound_end h refl)
sound_call f verb.Restrict = sound_wanted f.slot (λ slot h. sound_wanted f.rights (λ keep k. sound_end (h, k) refl))
sound_call f verb.Look = sound_wanted f.path (λ of h. sound_end h refl)
sound_call f verb.Template = sound_wanted f.path (λ of h. sound_wanted f.verb (λ kind k. sound_template f of h kind))
sound_call f verb.Create = sound_wanted f.path (λ by h. sound_wanted f.slot (λ into k. sound_end (h, k) refl))
sound_call f verb.Merge = sound_wanted f.path (λ with h. sound_wanted f.slot (λ cap j. sound_wanted f.slot (λ into k. sound_end (h, j, k) refl)))
sound_call f verb.Copy = sound_wanted f.path (λ of h. sound_wanted f.slot (λ into k. sound_end (h, k) refl))
sound_call f verb.Call = sound_wanted f.path (λ proc h. sound_wanted (f.below 256 (omega arith)) (λ first k. sound_slots f proc first h k))
sound_call f verb.Return = sound_return f
sound_call f verb.P = sound_wanted f.path (λ of h. sound_end h refl)
sound_call f verb.V = sound_wanted f.path (λ of h. sound_end h refl)
sound_call f verb.Yield = sound_end tt refl
sound_call f _ = sound_unknown

-- events

sound_some : {view : List ℕ → Piece} {exact : Bool} {reads : Reads Call} {front : List (List ℕ) → List (List ℕ)} → Sound view exact Call reads front call_pieces IsCall
    → Sound view exact What (some_call reads) front what_pieces IsWhat
sound_some {view} {exact} {reads} {front} one = record { sound = λ ts x rest h. go ts x rest (reads (map view ts)) refl h }
  where
    go : (ts : List (List ℕ)) (x : What) (rest : List Piece) (r : Found Call) → reads (map view ts) ≡ r → onward r (λ c left. Ok (what.Call c, left)) ≡ Ok (x, rest)
        → IsWhat x × Same exact (front ts) (map spell (what_pieces x))
    go ts x rest (Ok q) e k =
        let pair : ◌≡◌ {A = What × List Piece} (what.Call q.0, q.1) (x, rest) = cc in
        let same : what.Call q.0 ≡ x = ap (λ (p : What × List Piece). p.0) pair in
        let here = one.sound ts q.0 q.1 e in
        subst (λ (z : What). IsWhat z × Same exact (front ts) (map spell (what_pieces z))) same here
    go ts x rest (Err cause) e k = cc

sound_named : {view : List ℕ → Piece} {exact : Bool} (f : Forms view exact) (word : List ℕ) → Sound view exact What (call_named word) (λ ts. word ∷ ts) what_pieces IsWhat
sound_named {view} {exact} f word = record { sound = λ ts x rest h. go ts x rest (as_verb (Word word)) refl h }
  where
    go : (ts : List (List ℕ)) (x : What) (rest : List Piece) (r : Result Verb ParseCause) → as_verb (Word word) ≡ r
        → onward (taken r (map view ts)) (λ v. some_call (call_of v)) ≡ Ok (x, rest) → IsWhat x × Same exact (word ∷ ts) (map spell (what_pieces x))
    go ts x rest (Ok v) e k =
        (sound_some (subst (λ (w : List ℕ). Sound view exact Call (call_of v) (λ us. w ∷ us) call_pieces IsCall) (verb_is word v e) (sound_call f v))).sound ts x rest k
    go ts x rest (Err cause) e k = cc

pub sound_what : {view : List ℕ → Piece} {exact : Bool} (f : Forms view exact) (word : List ℕ) → Sound view exact What (what_of word) (λ ts. word ∷ ts) what_pieces IsWhat
sound_what f word =
    sound_word word (codes "dispatch") (sound_end tt refl)
    (sound_word word (codes "halt") (sound_end tt refl)
    (sound_named f word))

-- replies

sound_step : {view : List ℕ → Piece} {exact : Bool} (f : Forms view exact) (refusal : ℕ → Refusal) (front : List (List ℕ) → List (List ℕ))
    → ((step : ℕ) → step < 256 → IsReply (reply.No (refusal step)))
    → ((step : ℕ) → front (decimal step ∷ []) ≡ map spell (reply_pieces (reply.No (refusal step)))) → Sound view exact Reply (stepped refusal) front reply_pieces IsReply
sound_step f refusal front h e = sound_wanted (f.below 256 (omega arith)) (λ step k. sound_end (h step k) (e step))

sound_refusal : {view : List ℕ → Piece} {exact : Bool} (f : Forms view exact) (word : List ℕ) → Sound view exact Reply (refusal_of word) (λ ts. word ∷ ts) reply_pieces IsReply
sound_refusal f word =
    sound_word word (codes "range") (sound_step f (λ step. refused.Range step) _ (λ step h. h) (λ step. refl))
    (sound_word word (codes "empty") (sound_step f (λ step. refused.Empty step) _ (λ step h. h) (λ step. refl))
    (sound_word word (codes "notcap") (sound_step f (λ step. refused.NotCap step) _ (λ step h. h) (λ step. refl))
    (sound_word word (codes "denied") (sound_wanted (f.below 256 (omega arith)) (λ step h. sound_wanted f.right (λ right k. sound_end (h, k) refl)))
    (sound_word word (codes "wrongtype") (sound_step f (λ step. refused.WrongType step) _ (λ step h. h) (λ step. refl))
    (sound_word word (codes "badtemplate") (sound_step f (λ step. refused.BadTemplate step) _ (λ step h. h) (λ step. refl))
    (sound_word word (codes "count") (sound_end tt refl)
    (sound_word word (codes "full") (sound_wanted f.full (λ kind h. sound_end tt refl))
    (sound_word word (codes "deep") (sound_end tt refl)
    sound_unknown))))))))

sound_reply_of : {view : List ℕ → Piece} {exact : Bool} (f : Forms view exact) (word : List ℕ) → Sound view exact Reply (reply_of word) (λ ts. word ∷ ts) reply_pieces IsReply
sound_reply_of f word =
    sound_word word (codes "done") (sound_end tt refl)
    (sound_word word (codes "word") (sound_wanted f.word32 (λ n h. sound_end h refl))
    (sound_word word (codes "waits") (sound_end tt refl)
    (sound_refusal f word)))

pub sound_reply : {view : List ℕ → Piece} {exact : Bool} (f : Forms view exact) → Sound view exact Reply reply_line (λ ts. ts) reply_pieces IsReply
sound_reply f = sound_wanted f.word (λ word h. sound_reply_of f word)

-- lines

-- what is known of what stands before an arrow: any reply makes it a line
pub record IsEvent (g : Reply → Line) : Type 0 where
  pub line : (r : Reply) → IsReply r → IsLine (g r)
  pub event : (r : Reply) → event_pieces (g r) ≡ event_pieces (g reply.Done)
  pub reply : (r : Reply) → (g r).reply ≡ r

sound_last : {view : List ℕ → Piece} {exact : Bool} (f : Forms view exact) (cpu proc inc : ℕ) (word : List ℕ) → cpu < 16 → proc < 256 → inc < inc_bound
    → Sound view exact (Reply → Line) (what_of word >>= (λ event. end (line_with cpu proc inc event))) (λ ts. decimal cpu ∷ decimal proc ∷ decimal inc ∷ word ∷ ts)
    (λ g. event_pieces (g reply.Done)) IsEvent
sound_last {view} {exact} f cpu proc inc word a b c = record { sound = λ ts g rest h. go ts g rest (what_of word (map view ts)) refl h }
  where
    go : (ts : List (List ℕ)) (g : Reply → Line) (rest : List Piece) (r : Found What) → what_of word (map view ts) ≡ r
        → onward r (λ event. end (line_with cpu proc inc event)) ≡ Ok (g, rest)
        → IsEvent g × Same exact (decimal cpu ∷ decimal proc ∷ decimal inc ∷ word ∷ ts) (map spell (event_pieces (g reply.Done)))
    go ts g rest (Err cause) e k = cc
    go ts g rest (Ok (w, p ∷ ps)) e k = cc
    go ts g rest (Ok (w, [])) e k =
        let here = (sound_what f word).sound ts w [] e in
        let pair : ◌≡◌ {A = (Reply → Line) × List Piece} (line_with cpu proc inc w, []) (g, rest) = cc in
        let same : line_with cpu proc inc w ≡ g = ap (λ (q : (Reply → Line) × List Piece). q.0) pair in
        subst (λ (z : Reply → Line). IsEvent z × Same exact (decimal cpu ∷ decimal proc ∷ decimal inc ∷ word ∷ ts) (map spell (event_pieces (z reply.Done)))) same (
          record { line = λ r k. record { cpu = a; proc = b; inc = c; what = here.0; reply = k }; event = λ r. refl; reply = λ r. refl },
          same_behind exact (λ us. decimal cpu ∷ decimal proc ∷ decimal inc ∷ us) (word ∷ ts) (map spell (what_pieces w)) here.1,
        )

pub sound_event : {view : List ℕ → Piece} {exact : Bool} (f : Forms view exact) → Sound view exact (Reply → Line) event_line (λ ts. ts) (λ g. event_pieces (g reply.Done)) IsEvent
sound_event f =
    sound_wanted (f.below 16 (omega arith)) (λ cpu a.
    sound_wanted (f.below 256 (omega arith)) (λ proc b.
    sound_wanted (f.below inc_bound (omega arith)) (λ inc c.
    sound_wanted f.word (λ word h.
    sound_last f cpu proc inc word a b c))))
