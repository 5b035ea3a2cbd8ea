-- What a line of the mix is.
use Rattle.std.specs.Prelude.{◌≡◌, ℕ, Bool, nat_eq, List, [], ◌∷◌, ◌++◌, Ok, IsErr}
use Rattle.std.specs.Cmp.Lexicographic.{pointwise}
use Rattle.hex.specs.Hex.{decode_of}
use Rattle.s1ap_pdu.specs.Grammar.{Spells, Refused}
use Rattle.s1ap_pdu.specs.Run.{IsRight, written}
use Rattle.codec_bench.specs.declared.sample.Sample.{Sample}
use Rattle.codec_bench.specs.declared.sample.SampleError.{SampleError}
use Rattle.codec_bench.specs.declared.sample.SampleError.TheVariants as errors

-- octets with the message that they spell, which can be written again
abbrev pub IsSample : Sample → Type 0
IsSample s = Spells s.octets s.pdu × IsRight s.pdu

-- are its octets those that are written for its message?
abbrev pub is_as_written : Sample → Bool
is_as_written s = pointwise nat_eq (written s.pdu) s.octets

-- the sample of a line: its octets, and what they spell
abbrev pub IsSampleOf : List ℕ → Sample → Type 0
IsSampleOf line s = (decode_of line ≡ Ok s.octets) × IsSample s

-- one sample more, that of a line
abbrev pub IsMore : List ℕ → List Sample → List Sample → Type 0
IsMore line old new = (s : Sample) × IsSampleOf line s × (new ≡ old ++ s ∷ [])

-- the error that is due to a line; want of memory may always come
abbrev pub IsDueTo : List ℕ → SampleError → Type 0
IsDueTo line errors.NotHex = IsErr (decode_of line)
IsDueTo line (errors.Refused e) = (octets : List ℕ) × (decode_of line ≡ Ok octets) × Refused octets e
IsDueTo line errors.OutOfMemory = Unit {0}
