-- Messages as they are written (RFC 6733, 3; 3GPP TS 29.272, 7.2), by the same tables.
use Rattle.std.specs.Prelude.{◌≡◌, ◌⊎◌, ℕ, ◌^◌, ◌<◌, ◌≤◌, List, ◌++◌, length}
use Rattle.tlv_elements.specs.Grammar.{rows_run}
use Rattle.dia_avps.specs.Frame.{frame_run}
use Rattle.dia_avps.specs.Header.{header_run}
use Rattle.dia_wire.specs.declared.dia.Dia.{Dia}
use Rattle.dia_wire.specs.declared.dia.DiaBody.{DiaBody}
use Rattle.dia_wire.specs.declared.dia.DiaBody.TheVariants.{AskVectors, AskLocation, AskPurge, Vectors, Located, Purged, Rejected}
use Rattle.dia_wire.specs.declared.said.Said.{Said}
use Rattle.dia_wire.specs.Tables.{ask_vectors, ask_location, ask_purge, vectors, located, result_alone}

-- ---- what is written

abbrev pub command_code : DiaBody → ℕ
command_code (AskVectors imsi plmn) = 318
command_code (AskLocation imsi plmn) = 316
command_code (AskPurge imsi) = 321
command_code (Vectors rand xres autn key) = 318
command_code (Located dl ul) = 316
command_code Purged = 321
command_code (Rejected code result) = code

-- R and P (RFC 6733, 3): a request, and one that may be proxied
abbrev pub flags_of : DiaBody → ℕ
flags_of (AskVectors imsi plmn) = 0xc0
flags_of (AskLocation imsi plmn) = 0xc0
flags_of (AskPurge imsi) = 0xc0
flags_of (Vectors rand xres autn key) = 0x40
flags_of (Located dl ul) = 0x40
flags_of Purged = 0x40
flags_of (Rejected code result) = 0x40

-- the values in the order of the rows: the session, and of an answer that succeeds 2001
abbrev pub body_run : List ℕ → DiaBody → List ℕ
body_run s (AskVectors imsi plmn) = rows_run frame_run ask_vectors (s, (imsi, (plmn, tt)))
body_run s (AskLocation imsi plmn) = rows_run frame_run ask_location (s, (imsi, (plmn, tt)))
body_run s (AskPurge imsi) = rows_run frame_run ask_purge (s, (imsi, tt))
body_run s (Vectors rand xres autn key) = rows_run frame_run vectors (s, (2001, (((rand, (xres, (autn, (key, tt)))), tt), tt)))
body_run s (Located dl ul) = rows_run frame_run located (s, (2001, (((ul, (dl, tt)), tt), tt)))
body_run s Purged = rows_run frame_run result_alone (s, (2001, tt))
body_run s (Rejected code result) = rows_run frame_run result_alone (s, (result, tt))

-- the header, and the AVPs
abbrev pub dia_run : Dia → List ℕ
dia_run d = header_run (flags_of d.body) (command_code d.body) d.hop d.end (length (body_run d.session d.body)) ++ body_run d.session d.body

-- ---- what can be written

abbrev pub IsSession : List ℕ → Type 0
IsSession s = (1 ≤ length s) × (length s ≤ 1000)

-- RAND, XRES, AUTN and KASME (TS 33.401, 6.1.2)
abbrev pub IsVector : List ℕ → List ℕ → List ℕ → List ℕ → Type 0
IsVector rand xres autn key = (length rand ≡ 16) × (4 ≤ length xres) × (length xres ≤ 16) × (length autn ≡ 16) × (length key ≡ 32)

abbrev pub IsCommand : ℕ → Type 0
IsCommand code = (code ≡ 318) ⊎ ((code ≡ 316) ⊎ (code ≡ 321))

abbrev pub IsBody : DiaBody → Type 0
IsBody (AskVectors imsi plmn) = (imsi < 10 ^ 15) × (plmn < 2 ^ 24)
IsBody (AskLocation imsi plmn) = (imsi < 10 ^ 15) × (plmn < 2 ^ 24)
IsBody (AskPurge imsi) = imsi < 10 ^ 15
IsBody (Vectors rand xres autn key) = IsVector rand xres autn key
IsBody (Located dl ul) = Unit {0}
IsBody Purged = Unit {0}
IsBody (Rejected code result) = IsCommand code × (result ≡ 2001 → ⊥)

abbrev pub IsSaid : Said → Type 0
IsSaid b = IsSession b.session × IsBody b.body

-- its fields are in their ranges, where these are not those of their types
abbrev pub IsDia : Dia → Type 0
IsDia d = IsSession d.session × IsBody d.body

-- and where they are: every message of the program is so
abbrev pub AreWords : DiaBody → Type 0
AreWords (AskVectors imsi plmn) = Unit {0}
AreWords (AskLocation imsi plmn) = Unit {0}
AreWords (AskPurge imsi) = Unit {0}
AreWords (Vectors rand xres autn key) = Unit {0}
AreWords (Located dl ul) = (dl < 2 ^ 32) × (ul < 2 ^ 32)
AreWords Purged = Unit {0}
AreWords (Rejected code result) = result < 2 ^ 32

abbrev pub HasWords : Dia → Type 0
HasWords d = (d.hop < 2 ^ 32) × (d.end < 2 ^ 32) × AreWords d.body
