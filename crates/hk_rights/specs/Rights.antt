-- Rights and sets of rights (`docs/RULES.md`, 'Rights'). A right is the number of its bit, and a set of rights is the
-- word in which exactly the bits of its rights are set.
use Rattle.std.specs.Prelude.{◌≡◌, ◌==◌, ◌&&◌, ◌||◌, not, nat_le, Bool, ℕ, ◌+◌, ◌/◌, ◌%◌, ◌^◌, List, [], ◌∷◌, Option, map, option_map, unwrap_or, codes, IsTrue, nat_eq, find}
use Rattle.std.specs.Prelude.{bit_and, bit_xor}
use Rattle.std.specs.Cmp.Lexicographic.{pointwise}

-- a right: its name and the number of its bit
abbrev pub Row : Type 0
Row = List ℕ × ℕ

-- the number of each right. The auxiliary rights, A0 to A7, each type uses in its own way
abbrev pub getdata_right : ℕ
getdata_right = 0

abbrev pub putdata_right : ℕ
putdata_right = 1

abbrev pub adddata_right : ℕ
adddata_right = 2

abbrev pub load_right : ℕ
load_right = 3

abbrev pub store_right : ℕ
store_right = 4

abbrev pub append_right : ℕ
append_right = 5

abbrev pub kill_right : ℕ
kill_right = 6

abbrev pub copy_right : ℕ
copy_right = 7

abbrev pub modify_right : ℕ
modify_right = 8

abbrev pub env_right : ℕ
env_right = 9

abbrev pub unconf_right : ℕ
unconf_right = 10

abbrev pub a0_right : ℕ
a0_right = 16

abbrev pub a1_right : ℕ
a1_right = 17

abbrev pub a2_right : ℕ
a2_right = 18

abbrev pub a3_right : ℕ
a3_right = 19

abbrev pub a4_right : ℕ
a4_right = 20

abbrev pub a5_right : ℕ
a5_right = 21

abbrev pub a6_right : ℕ
a6_right = 22

abbrev pub a7_right : ℕ
a7_right = 23

-- the 19 rights, by rising number
unfoldable pub right_table : List Row
right_table =
    (codes "GETDATA", getdata_right) ∷ (codes "PUTDATA", putdata_right) ∷ (codes "ADDDATA", adddata_right) ∷ (codes "LOAD", load_right)
    ∷ (codes "STORE", store_right) ∷ (codes "APPEND", append_right) ∷ (codes "KILL", kill_right) ∷ (codes "COPY", copy_right)
    ∷ (codes "MODIFY", modify_right) ∷ (codes "ENV", env_right) ∷ (codes "UNCONF", unconf_right) ∷ (codes "A0", a0_right)
    ∷ (codes "A1", a1_right) ∷ (codes "A2", a2_right) ∷ (codes "A3", a3_right) ∷ (codes "A4", a4_right)
    ∷ (codes "A5", a5_right) ∷ (codes "A6", a6_right) ∷ (codes "A7", a7_right) ∷ []

-- the numbers of the rights, rising
unfoldable pub right_numbers : List ℕ
right_numbers = map (λ row. row.1) right_table

-- the rows with each right's word of one bit in place of its number
abbrev pub word_table : List Row
word_table = map (λ row. (row.0, 2 ^ row.1)) right_table

-- some right has this number: 0 to 10 and 16 to 23
abbrev pub is_right : ℕ → Bool
is_right number = nat_le number 10 || (nat_le 16 number && nat_le number 23)

-- the number of the right with this name, where there is one
unfoldable pub number_named : List ℕ → Option ℕ
number_named name = option_map (λ row. row.1) (find (λ row. pointwise nat_eq row.0 name) right_table)

-- the name of the right with this number; a number that is no right's has none
unfoldable pub name_of : ℕ → List ℕ
name_of number = unwrap_or (option_map (λ row. row.0) (find (λ row. row.1 == number) right_table)) []

-- the set has the right of this number
abbrev pub has : ℕ → ℕ → Bool
has rights number = rights / 2 ^ number % 2 == 1

-- the set of all 19 rights
abbrev pub all_rights : ℕ
all_rights = 0xff07ff

-- the word is a set of rights: no bit is set that is no right's
abbrev pub IsRightsWord : ℕ → Type 0
IsRightsWord word = bit_and word all_rights ≡ word

-- the rights but these
abbrev pub all_but : ℕ → ℕ
all_but gone = bit_xor all_rights (bit_and all_rights gone)

-- the rights of the first set but those of the second
abbrev pub minus : ℕ → ℕ → ℕ
minus rights gone = bit_and rights (all_but gone)

-- the first set has every right of the second
abbrev pub HasAll : ℕ → ℕ → Type 0
HasAll have need = (number : ℕ) → IsTrue (has need number) → IsTrue (has have number)

-- the right of the lowest number that is needed and not there
unfoldable pub first_missing : ℕ → ℕ → Option ℕ
first_missing have need = find (λ number. has need number && not (has have number)) right_numbers

-- the sets of one right each; a sum of several is the set of these
abbrev pub GETDATA : ℕ
GETDATA = 2 ^ getdata_right

abbrev pub PUTDATA : ℕ
PUTDATA = 2 ^ putdata_right

abbrev pub ADDDATA : ℕ
ADDDATA = 2 ^ adddata_right

abbrev pub LOAD : ℕ
LOAD = 2 ^ load_right

abbrev pub STORE : ℕ
STORE = 2 ^ store_right

abbrev pub APPEND : ℕ
APPEND = 2 ^ append_right

abbrev pub KILL : ℕ
KILL = 2 ^ kill_right

abbrev pub COPY : ℕ
COPY = 2 ^ copy_right

abbrev pub MODIFY : ℕ
MODIFY = 2 ^ modify_right

abbrev pub ENV : ℕ
ENV = 2 ^ env_right

abbrev pub UNCONF : ℕ
UNCONF = 2 ^ unconf_right

abbrev pub A0 : ℕ
A0 = 2 ^ a0_right

abbrev pub A1 : ℕ
A1 = 2 ^ a1_right

abbrev pub A2 : ℕ
A2 = 2 ^ a2_right

abbrev pub A3 : ℕ
A3 = 2 ^ a3_right

abbrev pub A4 : ℕ
A4 = 2 ^ a4_right

abbrev pub A5 : ℕ
A5 = 2 ^ a5_right

abbrev pub A6 : ℕ
A6 = 2 ^ a6_right

abbrev pub A7 : ℕ
A7 = 2 ^ a7_right

-- the special rights
abbrev pub special_rights : ℕ
special_rights = MODIFY + ENV + UNCONF
