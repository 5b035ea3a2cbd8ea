-- The pieces that types share are read exactly: zero bits, criticalities, presence bits, indices of CHOICEs, items and iE-Extensions.
use Rattle.std.proofs.Common.{ℕ, zero, suc, Bool, Ok, Err, Result, eqb, ltb, leb, arith}
use Rattle.echo_base.specs.declared.reason.Reason.{Reason}
use Rattle.echo_base.specs.declared.reason.Reason.TheVariants as reasons
use Rattle.aper_fields.specs.Format.{Format, IsExactly, ◌>>=◌, fixed_bits_in, number_in}
use Rattle.aper_fields.proofs.Formats.{gives_exactly, then_exactly, just_exactly, passing_exactly, either_exactly}
use Rattle.aper_fields.proofs.ExactNumbers.{number_exactly}
use Rattle.aper_fields.proofs.ExactPieces.{fixed_bits_exactly}
use Rattle.aper_fields.proofs.Containers.{open_exactly}
use Rattle.echo_base.specs.declared.refusal.Bad.{Bad}
use Rattle.echo_base.specs.declared.refusal.Bad.TheVariants.{Refused, OutOfMemory}
use Rattle.aper_fields.specs.Reading.{Input, Read}
use Rattle.aper_fields.specs.SequenceReading as reading
use Rattle.aper_fields.specs.SequenceReading.{Reader, zero_bit_at, criticality_at, entry_at, skipped_at, extensions_at, choice_at, present_at, item_at}
use Rattle.echo_base.specs.Reading.{GivesIn}
use Rattle.aper_fields.specs.Memory.{ReadsIn}
use Rattle.aper_fields.specs.Sequence.{zero_bit_in, criticality_in, entry_in, entries_in, extensions_in, choice_in, present_in, item_in}

-- one behind another
pub behind : {A B : Type 0} (F : Format A) (f : Reader A) (G : A → Format B) (g : A → Reader B) → IsExactly F f → ((a : A) → IsExactly (G a) (g a)) → IsExactly (F >>= G) (reading.◌>>=◌ f g)
behind F f G g p q = then_exactly F f G g p q

pub zero_bit_exactly : (reason : Reason) → IsExactly (zero_bit_in reason) (zero_bit_at reason)
unfolding zero_bit_in zero_bit_at
zero_bit_exactly reason = passing_exactly (λ bit. eqb bit 0) reason (fixed_bits_in 1) _ (fixed_bits_exactly 1)

pub criticality_exactly : IsExactly criticality_in criticality_at
unfolding criticality_in criticality_at
criticality_exactly = passing_exactly (λ c. leb c 2) reasons.BadCriticality (fixed_bits_in 2) _ (fixed_bits_exactly 2)

entry_exactly : IsExactly entry_in entry_at
unfolding entry_in entry_at
entry_exactly = behind _ _ _ _ (number_exactly 0 65535 (omega arith)) (λ id. behind _ _ _ _ criticality_exactly (λ criticality. behind _ _ _ _ open_exactly (λ content. just_exactly tt)))

entries_exactly : (n : ℕ) → IsExactly (entries_in n) (skipped_at entry_at n)
unfolding entries_in skipped_at
entries_exactly zero = just_exactly tt
entries_exactly (suc n) = behind _ _ _ _ entry_exactly (λ entry. entries_exactly n)

pub extensions_exactly : (present : Bool) → IsExactly (extensions_in present) (extensions_at present)
unfolding extensions_in extensions_at
extensions_exactly present = either_exactly present _ _ _ _ (behind _ _ _ _ (number_exactly 1 65534 (omega arith)) entries_exactly) (just_exactly tt)

pub choice_exactly : (roots n : ℕ) → IsExactly (choice_in roots n) (choice_at roots n)
unfolding choice_in choice_at
choice_exactly roots n = behind _ _ _ _ (zero_bit_exactly reasons.BadChoice) (λ extension. passing_exactly (λ index. ltb index roots) reasons.BadChoice (fixed_bits_in n) _ (fixed_bits_exactly n))

pub present_exactly : IsExactly present_in present_at
unfolding present_in present_at
present_exactly = behind _ _ _ _ (fixed_bits_exactly 1) (λ bit. just_exactly _)

pub item_exactly : (wanted : ℕ) → IsExactly (item_in wanted) (item_at wanted)
unfolding item_in item_at
item_exactly wanted = behind _ _ _ _ (passing_exactly (λ id. eqb id wanted) (reasons.MissingIe wanted) (number_in 0 65535) _ (number_exactly 0 65535 (omega arith))) (λ id. behind _ _ _ _ criticality_exactly (λ criticality. open_exactly))

pub reads_in : {A : Type 0} (F : Format A) (f : Input → Read A) (r : Result A Bad) (old new : Input) → IsExactly F f → GivesIn r old new (f old) → ReadsIn F r old new
reads_in F f (Ok v) old new p g = gives_exactly F f (Ok v) old new p g
reads_in F f (Err (Refused e)) old new p g = gives_exactly F f (Err e) old new p g
reads_in F f (Err OutOfMemory) old new p g = g
