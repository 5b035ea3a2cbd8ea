-- Formats: which runs of bits spell a value, and which refusal is due where none stands.
use Rattle.std.specs.Prelude.{Result, Ok, Err, IsOkAnd, MatchResult, ◌≡◌, ◌⊎◌, ℕ, ◌+◌, ◌-◌, ◌*◌, ◌/◌, ◌<◌, ◌==◌, nat_lt, nat_le, not, MatchBool, Bool, true, false, List, ◌++◌, length, if◌then◌else◌}
use Rattle.std.specs.Int.{div_ceil}
use Rattle.echo_base.specs.declared.reason.Reason.{Reason}
use Rattle.echo_base.specs.declared.reason.Reason.TheVariants as reasons
use Rattle.echo_base.specs.declared.refusal.Refusal.{Refusal}
use Rattle.aper_fields.specs.declared.enumerated.EnumValue.{EnumValue}
use Rattle.aper_fields.specs.Bits.{zeros, gap}
use Rattle.aper_fields.specs.Reading.{Input, Read, refusal, width, open_at}
use Rattle.aper_fields.specs.Run.{Run, octet_count, length_run, open_run, content_of, closing}
use Rattle.aper_fields.specs.Spelling.{Piece, Then, Just, Bits, Padding, Number, LengthOctets, Length, OctetsOf, FixedOctets, OctetString, FixedBits, Enumerated, Octets, Contained, IsExact}

pub record Format (A : Type 0) : Type 1 where
  pub Spells : ℕ → A → List Bool → Type 0
  pub Refuses : Input → Refusal → Type 0

-- a run of the format stands here, and j is what is left behind it
abbrev pub Stands : {A : Type 0} → Format A → Input → A → Input → Type 0
Stands F i a j = (run : List Bool) × F.Spells i.offset a run × (i.left ≡ run ++ j.left) × (j.offset ≡ i.offset + length run)

-- What a reader gave: a value whose spelling stands here, and it stands behind it; or the refusal that is due here, and it has not moved.
abbrev pub Reads : {A : Type 0} → Format A → Result A Refusal → Input → Input → Type 0
Reads F (Ok v) old new = Stands F old v new
Reads F (Err e) old new = F.Refuses old e × (new ≡ old)

-- the same where view says what is seen of the value
abbrev pub ReadsBy : {X A : Type 0} → (X → A) → Format A → Result X Refusal → Input → Input → Type 0
ReadsBy view F (Ok v) old new = Stands F old (view v) new
ReadsBy view F (Err e) old new = F.Refuses old e × (new ≡ old)

-- Exactly that: what a reader gave reads so, and what stands here was given, and a refusal that is due here.
abbrev pub ReadsExactly : {A : Type 0} → Format A → Result A Refusal → Input → Input → Type 0
ReadsExactly F result old new = Reads F result old new × ((v : _) (j : Input) → Stands F old v j → (result ≡ Ok v) × (new ≡ j)) × ((e : Refusal) → F.Refuses old e → (result ≡ Err e) × (new ≡ old))

-- the same where view says what is seen of the value
abbrev pub ReadsExactlyBy : {X A : Type 0} → (X → A) → Format A → Result X Refusal → Input → Input → Type 0
ReadsExactlyBy view F result old new = ReadsBy view F result old new × ((v : _) (j : Input) → Stands F old v j → IsOkAnd result (λ x. view x ≡ v) × (new ≡ j)) × ((e : Refusal) → F.Refuses old e → (result ≡ Err e) × (new ≡ old))

-- what reading gives is what the format says: its values, and its refusals
pub record IsExactly {A : Type 0} (F : Format A) (read : Input → Read A) : Type 0 where
  pub spells : IsExact F.Spells read
  pub wrong : (i : Input) (e : Refusal) → read i ≡ Err e → F.Refuses i e
  pub refused : (i : Input) (e : Refusal) → F.Refuses i e → read i ≡ Err e

-- two readings at one place agree in value, refusal and position
abbrev pub HasOneReading : {A : Type 0} → Format A → Type 0
HasOneReading F = (r s : Result _ Refusal) (old new at : Input) → Reads F r old new → Reads F s old at → (r ≡ s) × (new ≡ at)

-- ---- formats out of formats

abbrev pub just : {A : Type 0} → A → Format A
just a = record { Spells = Just a; Refuses = λ i e. ⊥ }

abbrev pub refuse_here : {A : Type 0} → Reason → Format A
refuse_here reason = record { Spells = λ at v run. ⊥; Refuses = λ i e. e ≡ refusal reason i }

-- one behind another: the first that is wrong is refused
infixl 10 ◌>>=◌
abbrev pub ◌>>=◌ : {A B : Type 0} → Format A → (A → Format B) → Format B
F >>= G = record {
  Spells = Then F.Spells (λ a. (G a).Spells);
  Refuses = λ i e. F.Refuses i e ⊎ ((a : _) × (j : Input) × Stands F i a j × (G a).Refuses j e);
}

-- a value that has to pass a test, and is refused where it begins
abbrev pub passing : {A : Type 0} → (A → Bool) → Reason → Format A → Format A
passing test reason F = record {
  Spells = λ at v run. (test v ≡ true) × F.Spells at v run;
  Refuses = λ i e. F.Refuses i e ⊎ ((a : _) × (j : Input) × Stands F i a j × (test a ≡ false) × (e ≡ refusal reason i));
}

-- a value out of the one that is spelled
abbrev pub mapped : {A B : Type 0} → (A → B) → Format A → Format B
mapped f F = record {
  Spells = λ at v run. (a : _) × (v ≡ f a) × F.Spells at a run;
  Refuses = F.Refuses;
}

-- a length and the octets that it counts: where they do not fit it is the length that is refused
abbrev pub counting : {A : Type 0} → Format ℕ → (ℕ → Piece A) → Format A
counting L P = record {
  Spells = Then L.Spells P;
  Refuses = λ i e. L.Refuses i e ⊎ ((n : ℕ) × (j : Input) × Stands L i n j × (length j.left < 8 * n) × (e ≡ refusal reasons.Truncated i));
}

-- the same refusals beside a spelling in one run
abbrev pub spelled_as : {A : Type 0} → Piece A → Format A → Format A
spelled_as P F = record { Spells = P; Refuses = F.Refuses }

-- by a test
abbrev pub either : {A : Type 0} → Bool → Format A → Format A → Format A
either b F G = record {
  Spells = λ at v run. MatchBool b (F.Spells at v run) (G.Spells at v run);
  Refuses = λ i e. MatchBool b (F.Refuses i e) (G.Refuses i e);
}

-- ---- the pieces: beside each spelling, the first piece that is wrong

abbrev pub bits_in : ℕ → Format ℕ
bits_in n = record { Spells = Bits n; Refuses = λ i e. (length i.left < n) × (e ≡ refusal reasons.Truncated i) }

-- zeros up to the next octet
abbrev pub padding_in : Format (Unit {0})
padding_in = record {
  Spells = Padding;
  Refuses = λ i e. ((length i.left < gap i.offset) × (e ≡ refusal reasons.Truncated i)) ⊎ ((run rest : List Bool) × (i.left ≡ run ++ rest) × (length run ≡ gap i.offset) × (run ≡ zeros (gap i.offset) → ⊥) × (e ≡ refusal reasons.NonZeroPadding i));
}

-- low and a number in n bits, which is at most top
abbrev pub within_in : ℕ → ℕ → ℕ → Format ℕ
within_in low top n = mapped (λ v. low + v) (passing (λ v. nat_le v top) reasons.OutOfRange (bits_in n))

-- low and a number in so many octets, which is at most top and needs all of them
abbrev pub minimal_in : ℕ → ℕ → ℕ → Format ℕ
minimal_in low top count = mapped (λ v. low + v) (passing (λ v. nat_le v top) reasons.OutOfRange (passing (λ v. octet_count v == count) reasons.NotMinimal (bits_in (8 * count))))

-- the octets of a number: how many, at most most, padding, and so many octets
unfoldable pub counted_in : ℕ → ℕ → ℕ → Format ℕ
counted_in low top most = do
  count ← within_in 1 (most - 1) (width (most - 1))
  padding ← padding_in
  minimal_in low top count

-- a whole number, piece by piece in each of its forms
unfoldable pub number_pieces_in : ℕ → ℕ → Format ℕ
number_pieces_in low top = either (top == 0) (just low) (either (nat_lt top 255) (within_in low top (width top)) (either (nat_lt top 65536) (padding_in >>= λ _. within_in low top (if top == 255 then 8 else 16)) (counted_in low top (div_ceil (width top) 8))))

-- a whole number from low to low + top
abbrev pub number_in : ℕ → ℕ → Format ℕ
number_in low top = spelled_as (Number low top) (number_pieces_in low top)

-- a length, bit by bit: 0 and 7 bits, or 10 and 14 bits for more than 127
unfoldable pub length_pieces_in : Format ℕ
length_pieces_in = do
  long ← bits_in 1
  either (long == 0) (bits_in 7) (bits_in 1 >>= λ more. either (more == 1) (refuse_here reasons.TooLong) (passing (λ n. nat_lt 127 n) reasons.LongLength (bits_in 14)))

-- a length at the start of an octet
abbrev pub length_octets_in : Format ℕ
length_octets_in = spelled_as LengthOctets length_pieces_in

-- a general length
abbrev pub length_in : Format ℕ
length_in = spelled_as Length (padding_in >>= λ _. length_octets_in)

-- n octets
abbrev pub octets_in : ℕ → Format (List ℕ)
octets_in n = record { Spells = OctetsOf n; Refuses = λ i e. (length i.left < 8 * n) × (e ≡ refusal reasons.Truncated i) }

-- an octet string of a fixed size above 2
abbrev pub fixed_octets_in : ℕ → Format (List ℕ)
fixed_octets_in n = spelled_as (FixedOctets n) (padding_in >>= λ _. octets_in n)

-- an octet string of free size: its length is TooLong above most
abbrev pub octet_string_in : ℕ → Format (List ℕ)
octet_string_in most = spelled_as (OctetString most) (padding_in >>= λ _. counting (passing (λ n. nat_le n most) reasons.TooLong length_octets_in) OctetsOf)

-- a bit string of a fixed size
abbrev pub fixed_bits_in : ℕ → Format ℕ
fixed_bits_in n = spelled_as (FixedBits n) (either (nat_lt 16 n) (padding_in >>= λ _. bits_in n) (bits_in n))

-- the index of a root
abbrev pub root_in : ℕ → Format EnumValue
root_in roots = mapped (λ index. record { extended = false; index = index }) (number_in 0 (roots - 1))

-- an index behind the extension bit: a bit 0 and six bits
abbrev pub extended_in : Format EnumValue
extended_in = passing (λ large. not (large == 1)) reasons.OutOfRange (bits_in 1) >>= λ _. mapped (λ index. record { extended = true; index = index }) (bits_in 6)

-- a value of an enumeration, piece by piece
unfoldable pub enumerated_pieces_in : ℕ → Bool → Format EnumValue
enumerated_pieces_in roots extensible = either extensible (bits_in 1 >>= λ bit. either (bit == 0) (root_in roots) extended_in) (root_in roots)

abbrev pub enumerated_in : ℕ → Bool → Format EnumValue
enumerated_in roots extensible = spelled_as (Enumerated roots extensible) (enumerated_pieces_in roots extensible)

-- an open type, whose value is what it contains
abbrev pub open_in : Format Input
open_in = padding_in >>= λ _. counting length_octets_in Octets

-- the end of a container is refused where its padding is, or for octets behind it
abbrev pub EndRefuses : Input → Refusal → Type 0
EndRefuses i e = padding_in.Refuses i e ⊎ ((u : Unit {0}) × (j : Input) × Stands padding_in i u j × (0 < length j.left) × (e ≡ refusal reasons.TrailingBytes j))

-- what the end of a container gives exactly: Ok where only zeros up to the next octet are left, else the refusal that is due
abbrev pub EndsExactly : Result (Unit {0}) Refusal → Input → Type 0
EndsExactly result i = MatchResult result (λ _. i.left ≡ zeros (gap i.offset)) (EndRefuses i) × (i.left ≡ zeros (gap i.offset) → result ≡ Ok tt) × ((e : Refusal) → EndRefuses i e → result ≡ Err e)

-- an octet of zeros, which stands for a value of no bits
abbrev pub empty_in : Format ℕ
empty_in = passing (λ octet. octet == 0) reasons.NonZeroPadding (bits_in 8)

-- the end of a container is refused behind what was read of it; where that is nothing, for the octet of zeros too
abbrev pub CloseRefuses : Input → Input → Refusal → Type 0
CloseRefuses content i e = MatchBool (i.offset == content.offset) (empty_in.Refuses i e ⊎ ((octet : ℕ) × (j : Input) × Stands empty_in i octet j × EndRefuses j e)) (EndRefuses i e)

-- what closing a container gives exactly: Ok where only the zeros that end it are left, else the refusal that is due
abbrev pub ClosesExactly : Result (Unit {0}) Refusal → Input → Input → Type 0
ClosesExactly result content i = MatchResult result (λ _. i.left ≡ zeros (closing content.offset i.offset)) (CloseRefuses content i) × (i.left ≡ zeros (closing content.offset i.offset) → result ≡ Ok tt) × ((e : Refusal) → CloseRefuses content i e → result ≡ Err e)

-- a container is refused where its value is, or where it does not end behind it
abbrev pub WholeRefuses : {A : Type 0} → Format A → Input → Refusal → Type 0
WholeRefuses F content e = F.Refuses content e ⊎ ((v : _) × (j : Input) × Stands F content v j × CloseRefuses content j e)

-- an open type that contains a value
abbrev pub contained_in : {A : Type 0} → Format A → Format A
contained_in F = record {
  Spells = Contained F.Spells;
  Refuses = λ i e. open_in.Refuses i e ⊎ ((content : Input) × (j : Input) × Stands open_in i content j × WholeRefuses F content e);
}

-- ---- back again

-- a run of the piece is read as that value, wherever it stands and whatever stands behind it
abbrev pub IsReadBack : {A : Type 0} → (Input → Read A) → Run → A → Type 0
IsReadBack read run v = (at : ℕ) (rest : List Bool) → read (record { offset = at; left = run at ++ rest }) ≡ Ok (v, record { offset = at + length (run at); left = rest })

-- the same of an open type: it is read as what it contains, at its place
abbrev pub IsOpenReadBack : List Bool → Type 0
IsOpenReadBack body = (at : ℕ) (rest : List Bool) → open_at (record { offset = at; left = open_run body at ++ rest }) ≡ Ok (record { offset = at + length (length_run (length (content_of body) / 8) at); left = content_of body }, record { offset = at + length (open_run body at); left = rest })

-- ---- what is written

-- a run that spells a value wherever it stands
pub record IsSpelledBy {A : Type 0} (F : Format A) (v : A) (run : Run) : Type 0 where
  pub everywhere : (at : ℕ) → F.Spells at v (run at)
