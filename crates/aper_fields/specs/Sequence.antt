-- What the values of S1AP share (TS 36.413, 9.3): beside the runs that spell a piece, the first that is wrong.
use Rattle.std.specs.Prelude.{ℕ, zero, suc, ◌==◌, nat_le, nat_lt, Bool}
use Rattle.echo_base.specs.declared.reason.Reason.{Reason}
use Rattle.echo_base.specs.declared.reason.Reason.TheVariants as reasons
use Rattle.aper_fields.specs.Reading.{Input}
use Rattle.aper_fields.specs.Format.{Format, ◌>>=◌, just, passing, either, fixed_bits_in, number_in, open_in}

-- ---- what SEQUENCEs share

-- a bit that has to be 0
unfoldable pub zero_bit_in : Reason → Format ℕ
zero_bit_in reason = passing (λ bit. bit == 0) reason (fixed_bits_in 1)

-- reject, ignore or notify
unfoldable pub criticality_in : Format ℕ
criticality_in = passing (λ c. nat_le c 2) reasons.BadCriticality (fixed_bits_in 2)

-- an entry of iE-Extensions: an id, a criticality and an open type, whatever it contains
unfoldable pub entry_in : Format (Unit {0})
entry_in = do
  id ← number_in 0 65535
  criticality ← criticality_in
  content ← open_in
  just tt

-- so many entries
unfoldable pub entries_in : ℕ → Format (Unit {0})
entries_in zero = just tt
entries_in (suc n) = entry_in >>= λ _. entries_in n

-- iE-Extensions, where they are present: 1 to 65,535 entries
unfoldable pub extensions_in : Bool → Format (Unit {0})
extensions_in present = either present (number_in 1 65534 >>= entries_in) (just tt)

-- the root index of a CHOICE of so many roots: its extension bit, and the index in n bits
unfoldable pub choice_in : ℕ → ℕ → Format ℕ
choice_in roots n = do
  extension ← zero_bit_in reasons.BadChoice
  passing (λ index. nat_lt index roots) reasons.BadChoice (fixed_bits_in n)

-- a bit that says whether an optional part is there
unfoldable pub present_in : Format Bool
present_in = do
  bit ← fixed_bits_in 1
  just (bit == 1)

-- An item of a list (E-RAB lists, 9.1.4.1 and 9.1.4.3), with the id of its list: a criticality, and an open type
unfoldable pub item_in : ℕ → Format Input
item_in wanted = do
  id ← passing (λ id. id == wanted) (reasons.MissingIe wanted) (number_in 0 65535)
  criticality ← criticality_in
  open_in
