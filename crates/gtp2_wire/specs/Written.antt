-- Messages as they are written (3GPP TS 29.274, 5 and 7), by the same tables.
use Rattle.std.specs.Prelude.{◌≡◌, ◌⊎◌, ℕ, ◌+◌, ◌^◌, ◌<◌, ◌≤◌, true, List, ◌∷◌, ◌++◌, length}
use Rattle.echo_base.specs.Field.{number_run}
use Rattle.tlv_elements.specs.Grammar.{rows_run}
use Rattle.gtp2_ies.specs.Frame.{frame_run}
use Rattle.gtp2_wire.specs.declared.gtp.Gtp.{Gtp}
use Rattle.gtp2_wire.specs.declared.gtp.GtpBody.{GtpBody}
use Rattle.gtp2_wire.specs.declared.gtp.GtpBody.TheVariants.{Create, Created, Modify, Modified, Delete, Deleted, Release, Released, Rejected}
use Rattle.gtp2_wire.specs.Tables.{create, created, modify, modified, delete, release, cause_alone}

-- ---- what is written

abbrev pub type_octet : GtpBody → ℕ
type_octet (Create imsi ebi apn ul dl addr control) = 32
type_octet (Created control_addr control ip ebi addr teid) = 33
type_octet (Modify ebi addr teid) = 34
type_octet (Modified ebi) = 35
type_octet (Delete ebi) = 36
type_octet Deleted = 37
type_octet Release = 170
type_octet Released = 171
type_octet (Rejected kind cause) = kind

-- the values in the order of the rows: tt for one that is given, 0 for the address of a request, 16 for the causes of an answer that accepts
abbrev pub body_run : GtpBody → List ℕ
body_run (Create imsi ebi apn ul dl addr control) = rows_run frame_run create (imsi, (tt, ((control, addr), (apn, (tt, (0, ((ul, dl), ((ebi, (tt, tt)), tt))))))))
body_run (Created control_addr control ip ebi addr teid) = rows_run frame_run (created true) (16, ((control, control_addr), (ip, ((ebi, (16, ((teid, addr), tt))), tt))))
body_run (Modify ebi addr teid) = rows_run frame_run modify ((ebi, ((teid, addr), tt)), tt)
body_run (Modified ebi) = rows_run frame_run (modified true) (16, ((ebi, (16, tt)), tt))
body_run (Delete ebi) = rows_run frame_run delete (ebi, tt)
body_run Deleted = rows_run frame_run cause_alone (16, tt)
body_run Release = rows_run frame_run release tt
body_run Released = rows_run frame_run cause_alone (16, tt)
body_run (Rejected kind cause) = rows_run frame_run cause_alone (cause, tt)

-- version 2 with a TEID, the type, the length of what follows it; TEID, sequence number and a spare octet, and the elements
abbrev pub gtp_run : Gtp → List ℕ
gtp_run g = 0x48 ∷ type_octet g.body ∷ (number_run 2 (8 + length (body_run g.body)) ++ (number_run 4 g.teid ++ (number_run 3 g.seq ++ (0 ∷ body_run g.body))))

-- ---- what can be written

abbrev pub IsBearer : ℕ → Type 0
IsBearer ebi = (5 ≤ ebi) × (ebi ≤ 6)

abbrev pub IsName : List ℕ → Type 0
IsName apn = (1 ≤ length apn) × (length apn ≤ 30)

-- the type of an answer
abbrev pub IsAnswerType : ℕ → Type 0
IsAnswerType kind = (kind ≡ 33) ⊎ ((kind ≡ 35) ⊎ ((kind ≡ 37) ⊎ (kind ≡ 171)))

abbrev pub IsBody : GtpBody → Type 0
IsBody (Create imsi ebi apn ul dl addr control) = (imsi < 10 ^ 15) × IsBearer ebi × IsName apn
IsBody (Created control_addr control ip ebi addr teid) = IsBearer ebi
IsBody (Modify ebi addr teid) = IsBearer ebi
IsBody (Modified ebi) = IsBearer ebi
IsBody (Delete ebi) = IsBearer ebi
IsBody Deleted = Unit {0}
IsBody Release = Unit {0}
IsBody Released = Unit {0}
IsBody (Rejected kind cause) = IsAnswerType kind × (cause ≡ 16 → ⊥)

-- its fields are in their ranges, where these are not those of their types
abbrev pub IsGtp : Gtp → Type 0
IsGtp g = (g.seq < 2 ^ 24) × IsBody g.body

-- and where they are: every message of the program is so
abbrev pub AreWords : GtpBody → Type 0
AreWords (Create imsi ebi apn ul dl addr control) = (ul < 2 ^ 32) × (dl < 2 ^ 32) × (addr < 2 ^ 32) × (control < 2 ^ 32)
AreWords (Created control_addr control ip ebi addr teid) = (control_addr < 2 ^ 32) × (control < 2 ^ 32) × (ip < 2 ^ 32) × (addr < 2 ^ 32) × (teid < 2 ^ 32)
AreWords (Modify ebi addr teid) = (addr < 2 ^ 32) × (teid < 2 ^ 32)
AreWords (Modified ebi) = Unit {0}
AreWords (Delete ebi) = Unit {0}
AreWords Deleted = Unit {0}
AreWords Release = Unit {0}
AreWords Released = Unit {0}
AreWords (Rejected kind cause) = cause < 256

abbrev pub HasWords : Gtp → Type 0
HasWords g = (g.teid < 2 ^ 32) × AreWords g.body
