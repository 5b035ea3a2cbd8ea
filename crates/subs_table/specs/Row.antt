-- The lines of the subscriber table, a JSON object each.
use Rattle.std.specs.Prelude.{ℕ, Bool, List, [], ◌∷◌, codes, Option, Some, None, Result, Ok, Err, is_none, find, option_and_then, if◌then◌else◌}
use Rattle.std.specs.Option.{option_map_or}
use Rattle.std.specs.Str.{is_utf8}
use Rattle.serde_json.specs.Data as json
use Rattle.serde_json.specs.Data.{Data}
use Rattle.serde_json.specs.Read.{read}
use Rattle.serde_json.specs.Find.{get}
use Rattle.device_types.specs.declared.subscriber.Subscriber.{Subscriber}
use Rattle.echo_base.specs.declared.column.Column.{Column}
use Rattle.echo_base.specs.declared.column.Column.TheVariants.{Imsi, Tmsi, Rand, Autn, Res, Key, Apn, Ip, Sgw, Teid, AmbrDl, AmbrUl, Forbidden, Apn2, Ip2}
use Rattle.echo_base.specs.declared.reason.Reason.TheVariants.{BadJson, MissingColumn, BadColumn}
use Rattle.echo_base.specs.declared.refusal.Refusal.{Refusal}
use Rattle.echo_base.specs.Answer.{◌>>=◌, refused}
use Rattle.subs_table.specs.Kinds.{Kind, whole, decimal, hexadecimal, address, name, wholes}

-- the columns that a row needs, in their order
abbrev pub columns : List Column
columns = Imsi ∷ Tmsi ∷ Rand ∷ Autn ∷ Res ∷ Key ∷ Apn ∷ Ip ∷ Sgw ∷ Teid ∷ AmbrDl ∷ AmbrUl ∷ Forbidden ∷ []

-- the key of a column
unfoldable pub key_of : Column → List ℕ
key_of Imsi = codes "imsi"
key_of Tmsi = codes "tmsi"
key_of Rand = codes "rand"
key_of Autn = codes "autn"
key_of Res = codes "res"
key_of Key = codes "key"
key_of Apn = codes "apn"
key_of Ip = codes "ip"
key_of Sgw = codes "sgw"
key_of Teid = codes "teid"
key_of AmbrDl = codes "ambr_dl"
key_of AmbrUl = codes "ambr_ul"
key_of Forbidden = codes "forbidden"
key_of Apn2 = codes "apn2"
key_of Ip2 = codes "ip2"

-- ---- reading an object: what it has, or the refusal, which has no place

-- the column is not there
abbrev pub is_missing : Column → Data → Bool
is_missing column row = is_none (get (key_of column) row)

-- every column that a row needs is there, or the first that is missing is told
unfoldable pub all_columns : Data → Result (Unit {0}) Refusal
all_columns row = option_map_or (λ column. Err (refused (MissingColumn column))) (find (λ column. is_missing column row) columns) (Ok tt)

-- a column of that kind; of a repeated key the last value counts, which is serde_json's word
unfoldable pub column_at : {A : Type 0} → Column → Kind A → Data → Result A Refusal
column_at column kind row = option_map_or Ok (option_and_then kind (get (key_of column) row)) (Err (refused (BadColumn column)))

-- a column of that kind, or none
unfoldable pub optional_at : {A : Type 0} → Column → Kind A → Data → Result (Option A) Refusal
optional_at column kind row = if is_missing column row then Ok None else (column_at column kind row >>= λ value. Ok (Some value))

-- the row of that number: a line for each column, with its kind and range; the first that is bad is told
unfoldable pub each_column : ℕ → Data → Result Subscriber Refusal
each_column number row = do
  imsi ← column_at Imsi (decimal 15) row
  tmsi ← column_at Tmsi (whole 0 4294967295) row
  rand ← column_at Rand (hexadecimal 16 16) row
  autn ← column_at Autn (hexadecimal 16 16) row
  res ← column_at Res (hexadecimal 4 16) row
  key ← column_at Key (hexadecimal 32 32) row
  apn ← column_at Apn (name 1 30) row
  ip ← column_at Ip address row
  sgw ← column_at Sgw address row
  teid ← column_at Teid (whole 1 4000000000) row
  ambr_dl ← column_at AmbrDl (whole 0 10000000000) row
  ambr_ul ← column_at AmbrUl (whole 0 10000000000) row
  forbidden ← column_at Forbidden (wholes 16 65535) row
  apn2 ← optional_at Apn2 (name 1 30) row
  ip2 ← optional_at Ip2 address row
  Ok (record { number = number; imsi = imsi; tmsi = tmsi; rand = rand; autn = autn; res = res; key = key; apn = apn; ip = ip; sgw = sgw; teid = teid; ambr_dl = ambr_dl; ambr_ul = ambr_ul; forbidden = forbidden; apn2 = apn2; ip2 = ip2 })

-- a column that is needed and missing is told before one that is bad
unfoldable pub subscriber_at : ℕ → Data → Result Subscriber Refusal
subscriber_at number row = do
  all ← all_columns row
  each_column number row

-- ---- reading a line

-- the value, where it is an object
abbrev pub as_row : Data → Option Data
as_row json.null = None
as_row (json.boolean b) = None
as_row (json.number n) = None
as_row (json.string s) = None
as_row (json.array ds) = None
as_row (json.object ms) = Some (json.object ms)

-- the object of a line, which is UTF-8 and JSON by the reading of serde_json
unfoldable pub object_of : List ℕ → Option Data
object_of line = if is_utf8 line then option_and_then as_row (read line) else None

-- the row of that number that the line is, or why it is refused
unfoldable pub row_of : ℕ → List ℕ → Result Subscriber Refusal
row_of number line = option_map_or (subscriber_at number) (object_of line) (Err (refused BadJson))
