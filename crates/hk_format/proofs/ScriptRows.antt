-- Scripts, and what they are read as and printed from, computed.
use Rattle.std.specs.Prelude.{◌≡◌, ℕ, List, [], ◌∷◌, ◌++◌, length, replicate, refl, codes, Ok, Err}
use Rattle.std.specs.List.{flat_map}
use Rattle.std.specs.Fmt.{digits}
use Rattle.hk_rights.specs.Rights.{right_table, right_numbers, name_of, number_named}
use Rattle.hk_model.specs.declared.entries.Entry.TheVariants.{Held}
use Rattle.hk_model.specs.declared.instructions.Index.TheVariants.{Fixed}
use Rattle.hk_model.specs.declared.instructions.Instr.TheVariants as instr
use Rattle.hk_model.specs.declared.instructions.Operand.TheVariants as operand
use Rattle.hk_model.specs.declared.world.Kind.TheVariants as kind
use Rattle.hk_model.specs.WorldValue.{WorldValue, world_value}
use Rattle.hk_format.specs.RightsTexts.{rights_text}
use Rattle.hk_format.specs.declared.causes.Cause.TheVariants.{OfText, OfParse, OfLoad}
use Rattle.hk_format.specs.declared.causes.TextCause.TheVariants as bad_text
use Rattle.hk_format.specs.declared.causes.ParseCause.TheVariants as bad_line
use Rattle.hk_format.specs.declared.causes.LoadCause.TheVariants as bad_load
use Rattle.hk_format.specs.RightsTexts.{rights_spelled}
use Rattle.hk_format.specs.Pieces.{piece_of}
use Rattle.hk_format.specs.Verbs.{all_verbs}
use Rattle.hk_format.specs.Worlds.{world}
use Rattle.hk_format.specs.Canonical.{canon}
use Rattle.hk_model.specs.Generated.{generate}
use Rattle.hk_format.proofs.GeneratedTexts.{generated_head, generated_process}

-- one DATA object, whose words a loop reads until there is none
abbrev pub counting : WorldValue
counting = world_value 10000
    (record { label = codes "d"; kind = kind.Plain (record { 0 = 1 }) (1 ∷ 2 ∷ 3 ∷ []) [] } ∷ [])
    (record {
      label = codes "main";
      steps =
          instr.Get (record { at = Fixed 0 ∷ [] }) (operand.Reg 1) 2 ∷ instr.IfDenied 4 ∷ instr.AddReg 1 (operand.Number 1) ∷ instr.Goto 0 ∷ [];
    } ∷ [])
    (record { label = codes "a"; code = 0; slots = Held (record { name = record { 0 = 7 }; rights = 0x101 }) ∷ [] } ∷ [])

-- its canonical script has a label for each place that a jump goes to, and rights in rising order
counting_canon : canon counting ≡ codes "hydra 1\nobject d DATA\nwords 1 2 3\nend\ncode main\nlabel l0\ngetdata 0 r1 r2\nifdenied l4\nadd r1 1\ngoto l0\n"
    ++ codes "label l4\nend\nprocess a main\ncap d GETDATA+MODIFY\nend\n"
unfolding digits right_table right_numbers name_of rights_text canon
counting_canon = refl

-- the same world is read from a script with comments, blanks, leading zeros and rights in any order
counting_read : world (codes "# cells\nhydra 1\n\nlimit 010000\nobject d DATA   # a cell\n  words 1\n  words 2 3\nend\nprocess a main\n"
    ++ codes "  cap d MODIFY+GETDATA+GETDATA\nend\ncode main\nlabel top\n  getdata 0 r1 r2\n  ifdenied out\n  add r1 1\n  goto top\n"
    ++ codes "label out\nend\n") ≡ Ok counting
unfolding piece_of all_verbs right_table number_named rights_spelled world
counting_read = refl

-- a script without pieces
nothing_read : world (codes "# a\n\n") ≡ Err (1, OfParse bad_line.Missing)
unfolding piece_of all_verbs right_table number_named rights_spelled world
nothing_read = refl

-- a number above 32 bits is refused before the grammar is looked at
too_large : world (codes "hydra 1\nfoo x\nwords 4294967296\n") ≡ Err (3, OfText bad_text.NumberTooLarge)
unfolding piece_of all_verbs right_table number_named rights_spelled world
too_large = refl

-- a piece that is left over comes before a name for the second time
left_over : world (codes "hydra 1\ntype a\ntype a b\n") ≡ Err (3, OfParse bad_line.Extra)
unfolding piece_of all_verbs right_table number_named rights_spelled world
left_over = refl

-- a name for the second time
twice : world (codes "hydra 1\ntype a\ncode a\nend\n") ≡ Err (3, OfParse bad_line.Repeated)
unfolding piece_of all_verbs right_table number_named rights_spelled world
twice = refl

-- the ninth argument of a call, behind which nothing is looked at
nine_arguments : world (codes "hydra 1\ncode c\ncall 0 1 1 1 1 1 1 1 1 1 2 x\nend\n") ≡ Err (3, OfParse bad_line.OutOfRange)
unfolding piece_of all_verbs right_table number_named rights_spelled world
nine_arguments = refl

-- eight arguments, and then a piece of another form
form_before_count : world (codes "hydra 1\ncode c\ncall 0 1 1 1 1 1 1 1 1 1 x\nend\n") ≡ Err (3, OfParse bad_line.UnknownWord)
unfolding piece_of all_verbs right_table number_named rights_spelled world
form_before_count = refl

-- an item without an end
not_closed : world (codes "hydra 1\nobject d DATA\nwords 7\n") ≡ Err (2, OfParse bad_line.Unclosed)
unfolding piece_of all_verbs right_table number_named rights_spelled world
not_closed = refl

-- a register that there is not
register_8 : world (codes "hydra 1\ncode c\ngetdata r8 0 r0\nend\n") ≡ Err (3, OfParse bad_line.UnknownWord)
unfolding piece_of all_verbs right_table number_named rights_spelled world
register_8 = refl

-- a jump to no label
no_label : world (codes "hydra 1\ncode c\ngoto x\nend\n") ≡ Err (3, OfLoad bad_load.UnknownName)
unfolding piece_of all_verbs right_table number_named rights_spelled world
no_label = refl

-- an entry in a DATA object
entry_of_data : world (codes "hydra 1\nobject d DATA\nempty\nend\n") ≡ Err (3, OfLoad bad_load.WrongPart)
unfolding piece_of all_verbs right_table number_named rights_spelled world
entry_of_data = refl

-- a right that there is not
no_right : world (codes "hydra 1\ncode c\nend\nprocess a c\ncap DATA FOO\nend\n") ≡ Err (5, OfLoad bad_load.BadRights)
unfolding piece_of all_verbs right_table number_named rights_spelled world
no_right = refl

-- `ALL` stands alone
all_and_more : world (codes "hydra 1\ncode c\nend\nprocess a c\ncap DATA ALL+ENV\nend\n") ≡ Err (5, OfLoad bad_load.BadRights)
unfolding piece_of all_verbs right_table number_named rights_spelled world
all_and_more = refl

-- the ninth parameter of a procedure
nine_parameters : world (codes "hydra 1\nprocedure p c\nparam any - -\nparam any - -\nparam any - -\nparam any - -\nparam any - -\nparam any - -\n"
    ++ codes "param any - -\nparam any - -\nparam any - -\nend\ncode c\nend\n") ≡ Err (11, OfLoad bad_load.TooMany)
unfolding piece_of all_verbs right_table number_named rights_spelled world
nine_parameters = refl

-- generated worlds

-- of one process
generated_one : canon (generate 1) ≡ generated_head ++ generated_process (codes "0")
unfolding digits right_table right_numbers name_of rights_text canon generate
generated_one = refl

-- of eleven, the last of which has a number of two digits
generated_eleven : canon (generate 11) ≡ generated_head
    ++ generated_process (codes "0") ++ generated_process (codes "1") ++ generated_process (codes "2") ++ generated_process (codes "3")
    ++ generated_process (codes "4") ++ generated_process (codes "5") ++ generated_process (codes "6") ++ generated_process (codes "7")
    ++ generated_process (codes "8") ++ generated_process (codes "9") ++ generated_process (codes "10")
unfolding digits right_table right_numbers name_of rights_text canon generate
generated_eleven = refl

-- lines of words

-- so many numbers of ten digits
abbrev long_words : List ℕ
long_words = replicate 90 4294967295

-- the same as they are written
abbrev long_text : List ℕ
long_text = flat_map (λ word. codes " 4294967295") long_words

-- an object with these numbers, and others behind them
abbrev filled : List ℕ → WorldValue
filled others = world_value 10000 (record { label = codes "d"; kind = kind.Plain (record { 0 = 1 }) (long_words ++ others) [] } ∷ []) [] []

-- with a number of four digits the line has exactly 1,000 bytes
line_size : length (codes "words" ++ (long_text ++ codes " 1234")) ≡ 1000
line_size = refl

line_filled : canon (filled (1234 ∷ 7 ∷ [])) ≡ codes "hydra 1\nobject d DATA\nwords" ++ (long_text ++ codes " 1234\nwords 7\nend\n")
unfolding digits right_table right_numbers name_of rights_text canon
line_filled = refl

filled_read : world (codes "hydra 1\nobject d DATA\nwords" ++ (long_text ++ codes " 1234\nwords 7\nend\n")) ≡ Ok (filled (1234 ∷ 7 ∷ []))
unfolding piece_of all_verbs right_table number_named rights_spelled world
filled_read = refl

-- a number of five digits begins the next line, and is not taken where it stands on this one
line_full : canon (filled (12345 ∷ 7 ∷ [])) ≡ codes "hydra 1\nobject d DATA\nwords" ++ (long_text ++ codes "\nwords 12345 7\nend\n")
unfolding digits right_table right_numbers name_of rights_text canon
line_full = refl

too_long : world (codes "hydra 1\nobject d DATA\nwords" ++ (long_text ++ codes " 12345\nend\n")) ≡ Err (3, OfText bad_text.LongLine)
unfolding piece_of all_verbs right_table number_named rights_spelled world
too_long = refl
