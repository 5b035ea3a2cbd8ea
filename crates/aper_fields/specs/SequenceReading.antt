-- Reading the pieces of S1AP values from left to right.
use Rattle.std.specs.Prelude.{ℕ, zero, suc, ◌==◌, nat_le, nat_lt, Bool, Ok, if◌then◌else◌}
use Rattle.echo_base.specs.declared.reason.Reason.{Reason}
use Rattle.echo_base.specs.declared.reason.Reason.TheVariants as reasons
use Rattle.echo_base.specs.declared.refusal.Refusal.{Refusal}
use Rattle.echo_base.specs.Answer as answers
use Rattle.echo_base.specs.Reading as readings
pub use Rattle.echo_base.specs.Reading.{◌>>=◌, done, skipping}
use Rattle.aper_fields.specs.Reading.{Input, refuse, fixed_bits_at, number_at, open_at}

-- a way to read
abbrev pub Reader : Type 0 → Type 0
Reader A = readings.Reader Input Refusal A

-- a value that has to pass a test, and is refused where it begins
abbrev pub passing_at : {A : Type 0} → (A → Bool) → Reason → Reader A → Reader A
passing_at test reason f = λ i. answers.◌>>=◌ (f i) (λ x. if test x.0 then Ok x else refuse reason i)

-- ---- what SEQUENCEs share

-- a bit that has to be 0
unfoldable pub zero_bit_at : Reason → Reader ℕ
zero_bit_at reason = passing_at (λ bit. bit == 0) reason (fixed_bits_at 1)

unfoldable pub criticality_at : Reader ℕ
criticality_at = passing_at (λ c. nat_le c 2) reasons.BadCriticality (fixed_bits_at 2)

-- an entry of iE-Extensions: an id, a criticality and an open type, which is passed over
unfoldable pub entry_at : Reader (Unit {0})
entry_at = do
  id ← number_at 0 65535
  criticality ← criticality_at
  content ← open_at
  done tt

-- so many values that are passed over
unfoldable pub skipped_at : Reader (Unit {0}) → ℕ → Reader (Unit {0})
skipped_at f zero = done tt
skipped_at f (suc n) = f >>= λ _. skipped_at f n

-- iE-Extensions, where they are present: 1 to 65,535 entries
unfoldable pub extensions_at : Bool → Reader (Unit {0})
extensions_at present = λ i. if present then (number_at 1 65534 >>= skipped_at entry_at) i else done tt i

-- the root index of a CHOICE of so many roots: its extension bit, and the index in n bits
unfoldable pub choice_at : ℕ → ℕ → Reader ℕ
choice_at roots n = do
  extension ← zero_bit_at reasons.BadChoice
  passing_at (λ index. nat_lt index roots) reasons.BadChoice (fixed_bits_at n)

-- a bit that says whether an optional part is there
unfoldable pub present_at : Reader Bool
present_at = do
  bit ← fixed_bits_at 1
  done (bit == 1)

-- an item of a list, with the id of its list: a criticality, and an open type, which is given as a container
unfoldable pub item_at : ℕ → Reader Input
item_at wanted = do
  id ← passing_at (λ id. id == wanted) (reasons.MissingIe wanted) (number_at 0 65535)
  criticality ← criticality_at
  open_at
