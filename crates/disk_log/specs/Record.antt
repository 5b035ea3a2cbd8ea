-- A record of a log, and its octets.
use Rattle.std.specs.Prelude.{◌<◌, ℕ, ◌+◌, ◌^◌, nat_lt, List, [], ◌∷◌, ◌++◌, length, take, drop, Option, Some, None, if◌then◌else◌}
use Rattle.byteorder.specs.Endian.{big_number, big_bytes}

-- a step of a device: the version of its row behind the step, and the octets of its session
pub record LogRecord : Type 0 where
  pub device : ℕ
  pub version : ℕ
  pub session : List ℕ

-- ---- written

-- there is room for its numbers
pub record HasRoom (r : LogRecord) : Type 0 where
  pub device : r.device < 256 ^ 4
  pub version : r.version < 256 ^ 8
  pub session : length r.session < 256 ^ 2

-- its head: 4 octets for the device, 8 for the version and 2 for how many octets the session has, the highest octet first
unfoldable pub head_of : LogRecord → List ℕ
head_of r = big_bytes 4 r.device ++ (big_bytes 8 r.version ++ big_bytes 2 (length r.session))

-- its octets: the head, and the session's
abbrev pub octets_of : LogRecord → List ℕ
octets_of r = head_of r ++ r.session

-- how many these are
abbrev pub size_of : LogRecord → ℕ
size_of r = 14 + length r.session

-- what is written behind an open gate: the record, and the next gate, which is closed
abbrev pub piece_of : LogRecord → List ℕ
piece_of r = octets_of r ++ 0 ∷ []

-- ---- read

-- how many octets of a session a head tells of
abbrev pub session_size : List ℕ → ℕ
session_size head = big_number 2 (drop 12 head)

-- the record of a head and of what stands behind it, where that has all octets of the session, and one more
unfoldable pub record_behind : List ℕ → List ℕ → Option LogRecord
record_behind head behind =
    if nat_lt (session_size head) (length behind)
    then Some (record { device = big_number 4 head; version = big_number 8 (drop 4 head); session = take (session_size head) behind })
    else None

-- the record in front, where all of it is there and a next gate behind it
unfoldable pub first_record : List ℕ → Option LogRecord
first_record octets = if nat_lt (length octets) 14 then None else record_behind (take 14 octets) (drop 14 octets)
