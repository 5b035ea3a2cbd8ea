-- Reading from left to right, over any state S (bits and their offset, octets, the words of a line) and any error E.
use Rattle.std.specs.Prelude.{◌≡◌, Option, Some, None, Result, Ok, Err, IsOkAnd}
use Rattle.echo_base.specs.declared.refusal.Refusal.{Refusal}
use Rattle.echo_base.specs.declared.refusal.Bad.{Bad}
use Rattle.echo_base.specs.declared.refusal.Bad.TheVariants.{Refused, OutOfMemory}
use Rattle.echo_base.specs.Answer as answer

-- a value and what is left behind it, or why there is none
abbrev pub Read : Type 0 → Type 0 → Type 0 → Type 0
Read S E A = Result (A × S) E

-- a way to read
abbrev pub Reader : Type 0 → Type 0 → Type 0 → Type 0
Reader S E A = S → Read S E A

-- one piece, and behind it what its value calls for
infixl 10 ◌>>=◌
abbrev pub ◌>>=◌ : {S E A B : Type 0} → Reader S E A → (A → Reader S E B) → Reader S E B
f >>= g = λ s. answer.◌>>=◌ (f s) (λ x. g x.0 x.1)

-- a value, which takes nothing
abbrev pub done : {S E A : Type 0} → A → Reader S E A
done v = λ s. Ok (v, s)

-- the value that is there, or the error
abbrev pub known : {S E A : Type 0} → Option A → E → Reader S E A
known (Some v) e = λ s. Ok (v, s)
known None e = λ s. Err e

-- the value, without what is left
abbrev pub value_of : {S E A : Type 0} → Read S E A → Result A E
value_of (Ok x) = Ok x.0
value_of (Err e) = Err e

-- a value that is passed over: read as ever, and not kept
abbrev pub skipping : {S E A : Type 0} → Reader S E A → Reader S E (Unit {0})
skipping f = f >>= λ v. done tt

-- ---- what a reader of the code gave

-- What a reader returned is what reading gives. It stands behind what it read; after an error it has not moved.
abbrev pub Gives : {S E A : Type 0} → Result A E → S → S → Read S E A → Type 0
Gives (Ok v) old new read = read ≡ Ok (v, new)
Gives (Err e) old new read = (read ≡ Err e) × (new ≡ old)

-- the same where view says what is seen of the value, as of one that is lent
abbrev pub GivesBy : {S E X A : Type 0} → (X → A) → Result X E → S → S → Read S E A → Type 0
GivesBy view (Ok x) old new read = read ≡ Ok (view x, new)
GivesBy view (Err e) old new read = (read ≡ Err e) × (new ≡ old)

-- the same, or no memory
abbrev pub GivesIn : {S A : Type 0} → Result A Bad → S → S → Read S Refusal A → Type 0
GivesIn (Ok v) old new read = read ≡ Ok (v, new)
GivesIn (Err (Refused e)) old new read = (read ≡ Err e) × (new ≡ old)
GivesIn (Err OutOfMemory) old new read = new ≡ old

-- What a reader returned that is not used after an error: then nothing is said of where it stands.
abbrev pub GivesOrEnds : {S E A : Type 0} → Result A E → S → Read S E A → Type 0
GivesOrEnds (Ok v) new read = read ≡ Ok (v, new)
GivesOrEnds (Err e) new read = read ≡ Err e

-- the same where view says what is seen of the value
abbrev pub GivesOrEndsBy : {S E X A : Type 0} → (X → A) → Result X E → S → Read S E A → Type 0
GivesOrEndsBy view (Ok x) new read = read ≡ Ok (view x, new)
GivesOrEndsBy view (Err e) new read = read ≡ Err e

-- the same, or no memory where a value is read that takes some
abbrev pub GivesTaking : {S A : Type 0} → (A → Type 0) → Result A Bad → S → Read S Refusal A → Type 0
GivesTaking Takes (Ok v) new read = read ≡ Ok (v, new)
GivesTaking Takes (Err (Refused e)) new read = read ≡ Err e
GivesTaking Takes (Err OutOfMemory) new read = IsOkAnd read (λ x. Takes x.0)

-- the same of a reader that says of no value why there is none
abbrev pub GivesSome : {S A : Type 0} → Option A → S → Read S (Unit {0}) A → Type 0
GivesSome (Some v) new read = read ≡ Ok (v, new)
GivesSome None new read = read ≡ Err tt

abbrev pub GivesSomeBy : {S X A : Type 0} → (X → A) → Option X → S → Read S (Unit {0}) A → Type 0
GivesSomeBy view (Some x) new read = read ≡ Ok (view x, new)
GivesSomeBy view None new read = read ≡ Err tt
