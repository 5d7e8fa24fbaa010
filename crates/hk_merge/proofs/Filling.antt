-- Slots that are written over one after another, and the name space that stands then.
use Rattle.std.proofs.Common.{◌≡◌, ◌≤◌, ◌<◌, ◌+◌, ◌-◌, ◌==◌, ℕ, Bool, true, false, List, [], ◌∷◌, ◌++◌, length, map, drop, replicate, Result, Ok, Err, refl, sym, ap, ◌∙◌}
use Rattle.std.proofs.Common.{append_assoc, arith, nat_le, eq-eqb, suc}
use Rattle.std.proofs.lemmas.List.{set_at, drop-replicate, length-append, length-map, length-replicate}
use Rattle.std.proofs.lemmas.Bool.{le-leb, lt-leb}
use Rattle.hk_model.specs.declared.entries.Arg.{Arg}
use Rattle.hk_model.specs.declared.entries.Cap.{Cap}
use Rattle.hk_model.specs.declared.entries.Param.{Param}
use Rattle.hk_model.specs.declared.entries.Entry.{Entry}
use Rattle.hk_model.specs.declared.entries.Entry.TheVariants.{Empty, Held}
use Rattle.hk_model.specs.declared.calls.Refusal.{Refusal}
use Rattle.hk_model.specs.declared.calls.Refusal.TheVariants as refused
use Rattle.hk_model.specs.declared.calls.What8.TheVariants as full
use Rattle.hk_model.specs.Refusing.{◌>>=◌, ◌>>◌, unless}
use Rattle.hk_model.specs.Merging.{inherited, call_slots, merged_arg, merged_all, name_space}
use Rattle.hk_spaces.specs.Spaces.{empty_slots}
use Rattle.hk_merge.specs.NameSpaces.{overwritten, with_caps}

-- entries written over others that stand behind some
pub overwritten-at : (before after es : List Entry) → length es ≤ length after → overwritten (before ++ after) (length before) es ≡ before ++ (es ++ drop (length es) after)
overwritten-at before after [] fits = refl
overwritten-at before [] (e ∷ es) fits = absurd (omega arith)
overwritten-at before (x ∷ after) (e ∷ es) fits =
    let later : length es ≤ length after = omega arith in
    let far : length before + 1 ≡ length (before ++ e ∷ []) = sym (length-append before (e ∷ [])) in
    rw (set_at before x after e (length before) refl, sym (append_assoc before (e ∷ []) after), far)
    (overwritten-at (before ++ e ∷ []) after es later ∙ append_assoc before (e ∷ []) (es ++ drop (length es) after))

abbrev as_held : List Cap → List Entry
as_held caps = map (λ (c : Cap). Held c) caps

-- the capabilities written over the first slots of an empty space
filled : (caps : List Cap) → length caps ≤ 64 → overwritten empty_slots 0 (as_held caps) ≡ as_held caps ++ replicate (64 - length caps) Empty
unfolding empty_slots
filled caps few =
    let all : length (as_held caps) ≡ length caps = length-map caps (λ (c : Cap). Held c) in
    let room : length (replicate 64 Empty) ≡ 64 = length-replicate 64 Empty in
    let fits : length (as_held caps) ≤ length (replicate 64 Empty) = omega arith in
    overwritten-at [] (replicate 64 Empty) (as_held caps) fits
    ∙ ap (λ rest. as_held caps ++ rest) (drop-replicate (length (as_held caps)) 64 Empty ∙ ap (λ n. replicate (64 - n) Empty) all)

-- and then what the procedure holds
built : (caps : List Cap) (entries : List Entry) (confined : Bool) → length caps + length entries ≤ 64
    → overwritten (overwritten empty_slots 0 (as_held caps)) (length caps) (map (inherited confined) entries) ≡ call_slots caps entries confined
built caps entries confined few =
    let kept : List Entry = map (inherited confined) entries in
    let left : List Entry = replicate (64 - length caps) Empty in
    let all : length (as_held caps) ≡ length caps = length-map caps (λ (c : Cap). Held c) in
    let some : length kept ≡ length entries = length-map entries (inherited confined) in
    let room : length left ≡ 64 - length caps = length-replicate (64 - length caps) Empty in
    let first : overwritten empty_slots 0 (as_held caps) ≡ as_held caps ++ left = filled caps (omega arith) in
    let second : overwritten (as_held caps ++ left) (length (as_held caps)) kept ≡ as_held caps ++ (kept ++ drop (length kept) left) =
    overwritten-at (as_held caps) left kept (omega arith) in
    let less : 64 - length caps - length kept ≡ 64 - (length caps + length entries) = omega arith in
    let rest : drop (length kept) left ≡ replicate (64 - (length caps + length entries)) Empty =
    drop-replicate (length kept) (64 - length caps) Empty ∙ ap (λ n. replicate n Empty) less in
    ap (λ s. overwritten s (length caps) kept) first
    ∙ ap (λ n. overwritten (as_held caps ++ left) n kept) (sym all)
    ∙ second
    ∙ ap (λ more. as_held caps ++ (kept ++ more)) rest

-- what a call gives, once its arguments are merged
abbrev after_merging : Result (List Cap) Refusal → List Entry → Bool → Result (List Entry) Refusal
after_merging all entries confined = do
  caps ← all
  unless (nat_le (length caps + length entries) 64) (refused.Full full.Slots)
  Ok (call_slots caps entries confined)

abbrev AllOf : Result (List Cap) Refusal → ℕ → Type 0
AllOf (Ok caps) n = length caps ≡ n
AllOf (Err refusal) n = Unit {0}

with_one : (cap : Cap) (rest : Result (List Cap) Refusal) (n : ℕ) → AllOf rest n → AllOf (rest >>= (λ others. Ok (cap ∷ others))) (suc n)
with_one cap (Ok others) n all = omega arith
with_one cap (Err refusal) n all = tt

first_then : (first : Result Cap Refusal) (rest : Result (List Cap) Refusal) (n : ℕ) → AllOf rest n → AllOf (first >>= (λ new. rest >>= (λ others. Ok (new ∷ others)))) (suc n)
first_then (Ok cap) rest n all = with_one cap rest n all
first_then (Err refusal) rest n all = tt

-- as many are merged as there are arguments
merged_as_many : (args : List Arg) (params : List Param) (step : ℕ) → length args ≡ length params → AllOf (merged_all args params step) (length args)
merged_as_many [] params step same = refl
merged_as_many (arg ∷ args) [] step same = absurd (omega arith)
merged_as_many (arg ∷ args) (param ∷ params) step same =
    let later : length args ≡ length params = omega arith in
    first_then (merged_arg arg param step) (merged_all args params (step + 1)) (length args) (merged_as_many args params (step + 1) later)

built_after : (all : Result (List Cap) Refusal) (entries : List Entry) (confined : Bool) (slots : List Entry) (n : ℕ) → AllOf all n → with_caps empty_slots 0 all ≡ Ok slots
    → n + length entries ≤ 64 → after_merging all entries confined ≡ Ok (overwritten slots n (map (inherited confined) entries))
built_after (Err refusal) entries confined slots n many merged few = absurd (cc)
built_after (Ok caps) entries confined slots n many merged few =
    let fits : length caps + length entries ≤ 64 = omega arith in
    let is : overwritten empty_slots 0 (as_held caps) ≡ slots = cc in
    let test : nat_le (length caps + length entries) 64 ≡ true = le-leb (length caps + length entries) 64 fits in
    rw (test, sym is, sym many) (ap Ok (sym (built caps entries confined fits)))

full_after : (all : Result (List Cap) Refusal) (entries : List Entry) (confined : Bool) (slots : List Entry) (n : ℕ) → AllOf all n → with_caps empty_slots 0 all ≡ Ok slots
    → 64 < n + length entries → after_merging all entries confined ≡ Err (refused.Full full.Slots)
full_after (Err refusal) entries confined slots n many merged over = absurd (cc)
full_after (Ok caps) entries confined slots n many merged over =
    let past : 64 < length caps + length entries = omega arith in
    let test : nat_le (length caps + length entries) 64 ≡ false = lt-leb (length caps + length entries) 64 past in
    rw test refl

-- the arguments merge, and all that the procedure holds has room behind them
pub name_space_built : (args : List Arg) (params : List Param) (entries : List Entry) (confined : Bool) (step : ℕ) (slots : List Entry) → length args ≡ length params
    → with_caps empty_slots 0 (merged_all args params step) ≡ Ok slots → length args + length entries ≤ 64
    → name_space args params entries confined step ≡ Ok (overwritten slots (length args) (map (inherited confined) entries))
name_space_built args params entries confined step slots same merged few =
    let test : (length args == length params) ≡ true = eq-eqb (length args) (length params) same in
    rw test (built_after (merged_all args params step) entries confined slots (length args) (merged_as_many args params step same) merged few)

-- the arguments merge, and there is no room for all that the procedure holds
pub name_space_full : (args : List Arg) (params : List Param) (entries : List Entry) (confined : Bool) (step : ℕ) (slots : List Entry) → length args ≡ length params
    → with_caps empty_slots 0 (merged_all args params step) ≡ Ok slots → 64 < length args + length entries
    → name_space args params entries confined step ≡ Err (refused.Full full.Slots)
name_space_full args params entries confined step slots same merged over =
    let test : (length args == length params) ≡ true = eq-eqb (length args) (length params) same in
    rw test (full_after (merged_all args params step) entries confined slots (length args) (merged_as_many args params step same) merged over)
