-- The lines of a trace: a base station, and a PDU as hexadecimal text; or a notice, by the IMSI of its device.
use Rattle.std.specs.Prelude.{◌≡◌, ℕ, ◌<◌, ◌==◌, List, [], ◌∷◌, length, codes, Option, Some, None, option_map, if◌then◌else◌}
use Rattle.std.specs.Fmt.{decimal}
use Rattle.std.specs.Str.{bytes_eq}
use Rattle.subs_table.specs.Kinds as kinds
use Rattle.device_types.specs.Numbers.{IsWithin}
use Rattle.echo_base.specs.Reading.{◌>>=◌, done, known}
use Rattle.case_form.specs.declared.case.TraceKind.{TraceKind}
use Rattle.case_form.specs.declared.case.TraceKind.TheVariants.{Pdu, Data}
use Rattle.case_form.specs.Words.{Reader, word_at, number_at, whole, words_of}

-- the next word, which is not empty
unfoldable pub text_at : Reader (List ℕ)
text_at = do
  word ← word_at
  known (if length word == 0 then None else Some word) tt

-- a base station and a text
unfoldable pub sent_at : Reader (ℕ × List ℕ)
sent_at = do
  station ← number_at 65535
  text ← text_at
  done (station, text)

-- what a base station sent: the base station, from 1 to 65535, and the text behind it, of one octet or more and no space
unfoldable pub sent_of : List ℕ → Option (ℕ × List ℕ)
sent_of line = whole sent_at line

-- the words of a line are a base station in decimal and a text of one octet or more
abbrev pub IsSent : ℕ → List ℕ → List ℕ → Type 0
IsSent station text line = IsWithin 65535 station × (0 < length text) × (words_of line ≡ decimal station ∷ text ∷ [])

-- ---- notices

-- the word with which a notice begins
unfoldable pub data_at : Reader (Unit {0})
data_at = do
  word ← word_at
  known (if bytes_eq word (codes "data") then Some tt else None) tt

-- the next word as the number of 15 decimal digits
unfoldable pub imsi_at : Reader ℕ
imsi_at = do
  word ← word_at
  known (kinds.number_of 15 word) tt

unfoldable pub notice_at : Reader ℕ
notice_at = do
  word ← data_at
  imsi_at

-- the IMSI that a notice names
unfoldable pub notice_of : List ℕ → Option ℕ
notice_of line = whole notice_at line

-- the words of a line are `data` and 15 decimal digits, whose number is the IMSI
abbrev pub IsNotice : ℕ → List ℕ → Type 0
IsNotice imsi line = (digits : List ℕ) × (kinds.number_of 15 digits ≡ Some imsi) × (words_of line ≡ codes "data" ∷ digits ∷ [])

-- ---- both

abbrev pub kind_from : Option (ℕ × List ℕ) → Option ℕ → Option TraceKind
kind_from (Some sent) notice = Some (Pdu sent.0 sent.1)
kind_from None notice = option_map Data notice

-- what a line of a trace says; no line is both
unfoldable pub kind_of : List ℕ → Option TraceKind
kind_of line = kind_from (sent_of line) (notice_of line)
