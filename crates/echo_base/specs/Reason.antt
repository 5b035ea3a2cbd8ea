-- The reasons of refusals: their numbers, names and texts.
use Rattle.std.specs.Prelude.{ℕ, nat_lt, if◌then◌else◌, ◌-◌, ◌/◌, ◌%◌, false, List, [], ◌∷◌, ◌++◌, length, replicate, slice_index_or, codes}
use Rattle.std.specs.Fmt.{decimal, digit_glyph}
use Rattle.echo_base.specs.declared.identity.Identity.{Identity}
use Rattle.echo_base.specs.declared.identity.Identity.TheVariants as identity
use Rattle.echo_base.specs.declared.reason.Reason.{Reason}
use Rattle.echo_base.specs.declared.reason.Shown.{Shown}
use Rattle.echo_base.specs.declared.reason.Shown.TheVariants.{Nothing, Placed, Code, Octet, Device, Pair}
use Rattle.echo_base.specs.declared.reason.Reason.TheVariants.{Truncated, LongLength, NonZeroPadding, NotMinimal, OutOfRange, TooLong, SequenceExtension, BadChoice, OtherProcedure, BadCriticality, MissingIe, RepeatedIe, TrailingBytes, WrongDirection, NasShort, NasDiscriminator, NasKind, NasIdentity, BadJson, MissingColumn, BadColumn, RepeatedImsi, RepeatedTmsi, TableFull, BadSection, BadLine, TooManyLines, LineTooLong, BadHex, UnknownDevice, UnknownPair, BadSession, GtpHeader, GtpType, GtpValue, DiaHeader, DiaCommand, DiaAvp, MissingAvp, RepeatedAvp}

abbrev pub reason_number : Reason → ℕ
reason_number Truncated = 1
reason_number LongLength = 2
reason_number NonZeroPadding = 3
reason_number NotMinimal = 4
reason_number OutOfRange = 5
reason_number TooLong = 6
reason_number SequenceExtension = 7
reason_number BadChoice = 8
reason_number (OtherProcedure code) = 9
reason_number BadCriticality = 10
reason_number (MissingIe id) = 11
reason_number (RepeatedIe id) = 12
reason_number TrailingBytes = 13
reason_number WrongDirection = 14
reason_number NasShort = 15
reason_number NasDiscriminator = 16
reason_number (NasKind octet) = 17
reason_number NasIdentity = 18
reason_number BadJson = 19
reason_number (MissingColumn column) = 20
reason_number (BadColumn column) = 21
reason_number RepeatedImsi = 22
reason_number RepeatedTmsi = 23
reason_number TableFull = 24
reason_number BadSection = 25
reason_number BadLine = 26
reason_number TooManyLines = 27
reason_number LineTooLong = 28
reason_number BadHex = 29
reason_number (UnknownDevice identity) = 30
reason_number (UnknownPair station enb) = 31
reason_number BadSession = 32
reason_number GtpHeader = 40
reason_number (GtpType code) = 41
reason_number (GtpValue code) = 42
reason_number DiaHeader = 50
reason_number (DiaCommand code) = 51
reason_number (DiaAvp code) = 52
reason_number (MissingAvp code) = 53
reason_number (RepeatedAvp code) = 54

-- the bare names by their numbers, where 0 has none
abbrev pub names : List (List ℕ)
names = []
    ∷ codes "Truncated"
    ∷ codes "LongLength"
    ∷ codes "NonZeroPadding"
    ∷ codes "NotMinimal"
    ∷ codes "OutOfRange"
    ∷ codes "TooLong"
    ∷ codes "SequenceExtension"
    ∷ codes "BadChoice"
    ∷ codes "OtherProcedure"
    ∷ codes "BadCriticality"
    ∷ codes "MissingIe"
    ∷ codes "RepeatedIe"
    ∷ codes "TrailingBytes"
    ∷ codes "WrongDirection"
    ∷ codes "NasShort"
    ∷ codes "NasDiscriminator"
    ∷ codes "NasKind"
    ∷ codes "NasIdentity"
    ∷ codes "BadJson"
    ∷ codes "MissingColumn"
    ∷ codes "BadColumn"
    ∷ codes "RepeatedImsi"
    ∷ codes "RepeatedTmsi"
    ∷ codes "TableFull"
    ∷ codes "BadSection"
    ∷ codes "BadLine"
    ∷ codes "TooManyLines"
    ∷ codes "LineTooLong"
    ∷ codes "BadHex"
    ∷ codes "UnknownDevice"
    ∷ codes "UnknownPair"
    ∷ codes "BadSession"
    ∷ []

-- those of GTPv2-C, from 40 on
abbrev pub gtp_names : List (List ℕ)
gtp_names = codes "GtpHeader"
    ∷ codes "GtpType"
    ∷ codes "GtpValue"
    ∷ []

-- those of Diameter, from 50 on
abbrev pub dia_names : List (List ℕ)
dia_names = codes "DiaHeader"
    ∷ codes "DiaCommand"
    ∷ codes "DiaAvp"
    ∷ codes "MissingAvp"
    ∷ codes "RepeatedAvp"
    ∷ []

-- the bare name of the reason with that number, and nothing where no reason has it
abbrev pub name_of_number : ℕ → List ℕ
name_of_number number = if nat_lt number 40 then slice_index_or names number [] else (if nat_lt number 50 then slice_index_or gtp_names (number - 40) [] else slice_index_or dia_names (number - 50) [])

abbrev pub reason_name : Reason → List ℕ
reason_name reason = name_of_number (reason_number reason)

-- in decimal, with zeros in front up to so many digits
abbrev pub zero_filled : ℕ → ℕ → List ℕ
zero_filled width n = replicate (width - length (decimal n)) 48 ++ decimal n

-- an octet in two hexadecimal digits
abbrev pub hex_octet : ℕ → List ℕ
hex_octet n = digit_glyph false (n / 16) ∷ digit_glyph false (n % 16) ∷ []

-- an IMSI in 15 digits, or an M-TMSI
abbrev pub identity_text : Identity → List ℕ
identity_text (identity.Imsi imsi) = codes "imsi " ++ zero_filled 15 imsi
identity_text (identity.Tmsi tmsi) = codes "tmsi " ++ decimal tmsi

abbrev pub at_place : ℕ → List ℕ
at_place place = codes " at " ++ decimal place

-- what of a reason stands behind its name
abbrev pub shown_of : Reason → Shown
shown_of Truncated = Placed
shown_of LongLength = Placed
shown_of NonZeroPadding = Placed
shown_of NotMinimal = Placed
shown_of OutOfRange = Placed
shown_of TooLong = Placed
shown_of SequenceExtension = Placed
shown_of BadChoice = Placed
shown_of (OtherProcedure code) = Code code
shown_of BadCriticality = Placed
shown_of (MissingIe id) = Code id
shown_of (RepeatedIe id) = Code id
shown_of TrailingBytes = Placed
shown_of WrongDirection = Placed
shown_of NasShort = Nothing
shown_of NasDiscriminator = Nothing
shown_of (NasKind octet) = Octet octet
shown_of NasIdentity = Nothing
shown_of BadJson = Nothing
shown_of (MissingColumn column) = Nothing
shown_of (BadColumn column) = Nothing
shown_of RepeatedImsi = Nothing
shown_of RepeatedTmsi = Nothing
shown_of TableFull = Nothing
shown_of BadSection = Nothing
shown_of BadLine = Nothing
shown_of TooManyLines = Nothing
shown_of LineTooLong = Nothing
shown_of BadHex = Nothing
shown_of (UnknownDevice identity) = Device identity
shown_of (UnknownPair station enb) = Pair station enb
shown_of BadSession = Nothing
shown_of GtpHeader = Placed
shown_of (GtpType code) = Code code
shown_of (GtpValue code) = Code code
shown_of DiaHeader = Placed
shown_of (DiaCommand code) = Code code
shown_of (DiaAvp code) = Code code
shown_of (MissingAvp code) = Code code
shown_of (RepeatedAvp code) = Code code

-- its text, where the refusal is at that place
abbrev pub shown_text : Shown → ℕ → List ℕ
shown_text Nothing place = []
shown_text Placed place = at_place place
shown_text (Code code) place = codes " " ++ decimal code ++ at_place place
shown_text (Octet octet) place = codes " " ++ hex_octet octet
shown_text (Device identity) place = codes " " ++ identity_text identity
shown_text (Pair station enb) place = codes " " ++ decimal station ++ codes " " ++ decimal enb

-- what stands behind the name, where the refusal is at that place
abbrev pub detail_of : Reason → ℕ → List ℕ
detail_of reason place = shown_text (shown_of reason) place
