-- How refusals and verdicts are written. docs/FORMATS.md, "Statuses and outputs" and "Legal records".
use Rattle.std.specs.Prelude.{ℕ, List, ◌++◌, codes}
use Rattle.std.specs.Fmt.{decimal}
use Rattle.hk_format.specs.declared.causes.TextCause.{TextCause}
use Rattle.hk_format.specs.declared.causes.TextCause.TheVariants.{NotAscii, LongLine, BadToken, NumberTooLarge}
use Rattle.hk_format.specs.declared.causes.ParseCause.{ParseCause}
use Rattle.hk_format.specs.declared.causes.ParseCause.TheVariants.{UnknownWord, Missing, Extra, Repeated, OutOfRange, Unclosed}
use Rattle.hk_format.specs.declared.causes.LoadCause.{LoadCause}
use Rattle.hk_format.specs.declared.causes.LoadCause.TheVariants.{UnknownName, WrongPart, TooMany, BadRights}
use Rattle.hk_format.specs.declared.causes.Cause.{Cause}
use Rattle.hk_format.specs.declared.causes.Cause.TheVariants.{OfText, OfParse, OfLoad, BadLine}
use Rattle.hk_model.specs.declared.verdicts.Misstep.{Misstep}
use Rattle.hk_model.specs.declared.verdicts.Misstep.TheVariants as misstep
use Rattle.hk_model.specs.declared.verdicts.Verdict.{Verdict}
use Rattle.hk_model.specs.declared.verdicts.Verdict.TheVariants.{Legal, Illegal}
use Rattle.hk_format.specs.Texts.{ended_line}

-- the name of a cause

abbrev pub text_cause : TextCause → List ℕ
text_cause NotAscii = codes "NotAscii"
text_cause LongLine = codes "LongLine"
text_cause BadToken = codes "BadToken"
text_cause NumberTooLarge = codes "NumberTooLarge"

abbrev pub parse_cause : ParseCause → List ℕ
parse_cause UnknownWord = codes "UnknownWord"
parse_cause Missing = codes "Missing"
parse_cause Extra = codes "Extra"
parse_cause Repeated = codes "Repeated"
parse_cause OutOfRange = codes "OutOfRange"
parse_cause Unclosed = codes "Unclosed"

abbrev pub load_cause : LoadCause → List ℕ
load_cause UnknownName = codes "UnknownName"
load_cause WrongPart = codes "WrongPart"
load_cause TooMany = codes "TooMany"
load_cause BadRights = codes "BadRights"

abbrev pub cause_name : Cause → List ℕ
cause_name (OfText cause) = text_cause cause
cause_name (OfParse cause) = parse_cause cause
cause_name (OfLoad cause) = load_cause cause
cause_name BadLine = codes "BadLine"

-- the name of a misstep
abbrev pub misstep_name : Misstep → List ℕ
misstep_name misstep.Cpu = codes "Cpu"
misstep_name misstep.Process = codes "Process"
misstep_name misstep.Call = codes "Call"
misstep_name misstep.Reply = codes "Reply"
misstep_name misstep.EndWord = codes "EndWord"

-- `line L: CAUSE`, what is written of an input that is refused at this line; line 0 is the whole input
abbrev pub refusal_text : ℕ → List ℕ → List ℕ
refusal_text line cause = ended_line (codes "line " ++ (decimal line ++ (codes ": " ++ cause)))

-- `legal`, or `illegal L CAUSE`
abbrev pub verdict_text : Verdict → List ℕ
verdict_text Legal = ended_line (codes "legal")
verdict_text (Illegal line cause) = ended_line (codes "illegal " ++ (decimal line ++ (codes " " ++ misstep_name cause)))

-- an input that is longer than it may be
abbrev pub too_long_text : List ℕ
too_long_text = refusal_text 0 (codes "TooLong")
