-- Audit lines and records, computed.
use Rattle.std.specs.Prelude.{◌≡◌, ℕ, List, [], ◌∷◌, ◌++◌, refl, codes, Some, None, Ok, Err}
use Rattle.std.specs.Fmt.{digits}
use Rattle.hk_rights.specs.Rights.{right_table, right_numbers, name_of, number_named}
use Rattle.hk_model.specs.declared.calls.Call.TheVariants as call
use Rattle.hk_model.specs.declared.calls.Refusal.TheVariants as refused
use Rattle.hk_model.specs.declared.calls.Reply.TheVariants as reply
use Rattle.hk_model.specs.declared.calls.What8.TheVariants.{Slots}
use Rattle.hk_model.specs.declared.lines.What.TheVariants as what
use Rattle.hk_model.specs.declared.lines.Line.{Line}
use Rattle.hk_model.specs.declared.lines.End.TheVariants as end
use Rattle.hk_format.specs.declared.causes.Cause.TheVariants.{OfParse, BadLine}
use Rattle.hk_format.specs.declared.causes.ParseCause.TheVariants.{UnknownWord, Missing, Extra}
use Rattle.hk_model.proofs.ReadingWorld.{line, reading, reading_lines}
use Rattle.hk_format.specs.RightsTexts.{rights_text, rights_spelled}
use Rattle.hk_format.specs.Pieces.{piece_of}
use Rattle.hk_format.specs.Verbs.{all_verbs}
use Rattle.hk_format.specs.AuditLines.{line_body}
use Rattle.hk_format.specs.LineReading.{read_body}
use Rattle.hk_format.specs.Canonical.{canon}
use Rattle.hk_format.specs.Records.{record_text}
use Rattle.hk_format.specs.Audits.{audited, events, audit}

-- single lines

-- a write that is denied
abbrev denied_put : Line
denied_put = line 0 0 0 (what.Call (call.Put (0 ∷ 3 ∷ []) 0 5)) (reply.No (refused.Denied 0 8))

denied_put_text : line_body denied_put ≡ codes "0 0 0 putdata 0.3 0 5 -> denied 0 MODIFY"
unfolding digits right_table right_numbers name_of rights_text line_body
denied_put_text = refl

denied_put_again : read_body (codes "0 0 0 putdata 0.3 0 5 -> denied 0 MODIFY") ≡ Some denied_put
unfolding piece_of all_verbs digits right_table right_numbers name_of number_named rights_text rights_spelled line_body read_body
denied_put_again = refl

-- a restriction by an incarnation past 32 bits, of a slot that there is not; rights are spelled in rising order
abbrev restricted : Line
restricted = line 3 1 18446744073709551615 (what.Call (call.Restrict (record { 0 = 200 }) 0x10003)) (reply.No (refused.Range 0))

restricted_text : line_body restricted ≡ codes "3 1 18446744073709551615 restrict 200 GETDATA+PUTDATA+A0 -> range 0"
unfolding digits right_table right_numbers name_of rights_text line_body
restricted_text = refl

restricted_again : read_body (codes "3 1 18446744073709551615 restrict 200 GETDATA+PUTDATA+A0 -> range 0") ≡ Some restricted
unfolding piece_of all_verbs digits right_table right_numbers name_of number_named rights_text rights_spelled line_body read_body
restricted_again = refl

-- a call with two arguments
called_again : read_body (codes "15 255 7 call 1.65535 2 3 4 -> full slots") ≡ Some (line 15 255 7 (what.Call (call.Enter (1 ∷ 65535 ∷ []) (2 ∷ 3 ∷ []) (record { 0 = 4 })))
    (reply.No (refused.Full Slots)))
unfolding piece_of all_verbs digits right_table right_numbers name_of number_named rights_text rights_spelled line_body read_body
called_again = refl

-- no text of a line: a leading zero, rights in another order, a number past 32 bits, two spaces
leading_zero : read_body (codes "00 0 0 getdata 0 0 -> word 7") ≡ None
unfolding piece_of all_verbs digits right_table right_numbers name_of number_named rights_text rights_spelled line_body read_body
leading_zero = refl

rights_in_disorder : read_body (codes "0 0 0 restrict 0 PUTDATA+GETDATA -> done") ≡ None
unfolding piece_of all_verbs digits right_table right_numbers name_of number_named rights_text rights_spelled line_body read_body
rights_in_disorder = refl

past_32_bits : read_body (codes "0 0 0 getdata 0 0 -> word 4294967296") ≡ None
unfolding piece_of all_verbs digits right_table right_numbers name_of number_named rights_text rights_spelled line_body read_body
past_32_bits = refl

two_spaces : read_body (codes "0 0 0  yield -> done") ≡ None
unfolding piece_of all_verbs digits right_table right_numbers name_of number_named rights_text rights_spelled line_body read_body
two_spaces = refl

-- records

abbrev reading_script : List ℕ
reading_script = codes "hydra 1\nobject d DATA\nwords 7\nend\ncode main\ngetdata 0 0 r0\nend\nprocess a main\ncap d GETDATA\nend\n"

abbrev reading_record : List ℕ
reading_record = reading_script ++ codes "record\n0 0 0 dispatch -> done\n0 0 0 getdata 0 0 -> word 7\n0 0 0 return -> done\nend done\n"

reading_text : record_text reading reading_lines end.Done ≡ reading_record
unfolding digits right_table right_numbers name_of rights_text line_body canon record_text
reading_text = refl

reading_again : audit reading_record ≡ Ok (audited reading (events reading_lines end.Done))
unfolding piece_of all_verbs digits right_table right_numbers name_of number_named rights_text rights_spelled line_body read_body audit
reading_again = refl

-- the script's own causes come first
bad_script : audit (codes "hydra 1\nfoo\nrecord\nx\n") ≡ Err (2, OfParse UnknownWord)
unfolding piece_of all_verbs audit
bad_script = refl

no_record_line : audit (codes "hydra 1\n") ≡ Err (2, OfParse Missing)
unfolding piece_of all_verbs audit
no_record_line = refl

-- the line `record` needs no line feed, and the end line is missing behind it
only_record : audit (codes "hydra 1\nrecord") ≡ Err (3, OfParse Missing)
unfolding piece_of all_verbs audit
only_record = refl

cut_line : audit (codes "hydra 1\nrecord\n0 0 0 yield -> done\n0 0 0 yie") ≡ Err (4, BadLine)
unfolding piece_of all_verbs digits right_table right_numbers name_of number_named rights_text rights_spelled line_body read_body audit
cut_line = refl

-- an end line without its line feed is bad
cut_end : audit (codes "hydra 1\nrecord\nend done") ≡ Err (3, BadLine)
unfolding piece_of all_verbs read_body audit
cut_end = refl

bytes_behind : audit (codes "hydra 1\nrecord\nend done\nx") ≡ Err (4, OfParse Extra)
unfolding piece_of all_verbs read_body audit
bytes_behind = refl
