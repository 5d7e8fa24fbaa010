-- A name space in which nothing stands.
use Rattle.std.proofs.Common.{◌≡◌, ◌<◌, ◌∙◌, ◌++◌, ◌+◌, ℕ, zero, suc, List, length, take, drop, replicate, get_or, refl, sym, ap, arith, inl, inr}
use Rattle.std.proofs.lemmas.List.{ext_get_or, get_or_append_left, get_or-take}
use Rattle.std.proofs.lemmas.Bool.{cases_lt}
use Rattle.hk_model.specs.declared.entries.Entry.{Entry}
use Rattle.hk_model.specs.declared.entries.Entry.TheVariants.{Empty}
use Rattle.hk_spaces.specs.Spaces.{empty_slots, IsEmptyFrom, IsWritten}

all_empty : (n slot : ℕ) → get_or {A = Entry} (replicate n Empty) slot Empty ≡ Empty
all_empty zero slot = refl
all_empty (suc n) zero = refl
all_empty (suc n) (suc slot) = all_empty n slot

pub none_written : IsWritten 0 empty_slots
unfolding empty_slots
none_written = record { few = omega arith; rest = λ slot past. all_empty 64 slot }

-- two name spaces are one where the first slots are the same, and nothing stands in the others of both
pub same_slots : (n : ℕ) (a b : List Entry) → length a ≡ length b
    → ((slot : ℕ) → slot < n → get_or a slot Empty ≡ get_or b slot Empty) → IsEmptyFrom n a → IsEmptyFrom n b → a ≡ b
same_slots n a b len first rest_a rest_b = ext_get_or Empty a b len (λ slot inside. elim (cases_lt slot n) [
  | inl below ↦ first slot below
  | inr past ↦ rest_a slot past ∙ sym (rest_b slot past)
])

-- nothing is left where nothing stands in any slot
pub all_gone : (a : List Entry) → length a ≡ 64 → IsEmptyFrom 0 a → a ≡ empty_slots
unfolding empty_slots
all_gone a len rest = ext_get_or Empty a (replicate 64 Empty) len (λ slot inside. rest slot (omega arith) ∙ sym (all_empty 64 slot))

-- a name space is another where it was written with what stands first there, and nothing stands behind that in both
pub copied : (entries old a b w : List Entry) → entries ≡ take (length entries) b → IsEmptyFrom (length entries) b → length b ≡ 64
    → w ≡ take 0 old ++ (entries ++ drop (0 + length entries) old)
    → ((slot : ℕ) → slot < length entries → get_or a slot Empty ≡ get_or w slot Empty) → IsEmptyFrom (length entries) a → length a ≡ 64 → a ≡ b
copied entries old a b w first rest_b len_b written before rest_a len_a =
    let len : length a ≡ length b = len_a ∙ sym len_b in
    let here : (slot : ℕ) → slot < length entries → get_or a slot Empty ≡ get_or b slot Empty =
    λ slot inside. before slot inside ∙ ap (λ es. get_or es slot Empty) written ∙ get_or_append_left entries (drop (0 + length entries) old) Empty slot inside
    ∙ ap (λ es. get_or es slot Empty) first ∙ get_or-take (length entries) b slot Empty inside in
    same_slots (length entries) a b len here rest_a rest_b
