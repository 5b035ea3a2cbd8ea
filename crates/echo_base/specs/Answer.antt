-- What a call answers that may refuse what it is given, and may find no memory.
use Rattle.std.specs.Prelude.{◌≡◌, Result, Ok, Err, IsOkAnd}
use Rattle.echo_base.specs.declared.reason.Reason.{Reason}
use Rattle.echo_base.specs.declared.refusal.Refusal.{Refusal}
use Rattle.echo_base.specs.declared.refusal.Bad.{Bad}
use Rattle.echo_base.specs.declared.refusal.Bad.TheVariants.{Refused, OutOfMemory}

-- a value, and what it calls for; the first error stands
infixl 10 ◌>>=◌
abbrev pub ◌>>=◌ : {E A B : Type 0} → Result A E → (A → Result B E) → Result B E
(Ok v) >>= f = f v
(Err e) >>= f = Err e

-- the refusal of what has no place
abbrev pub refused : Reason → Refusal
refused reason = record { reason = reason; place = 0 }

-- a value that is right, a refusal that is due, or no memory, where memory may be wanting
abbrev pub Answers : {A : Type 0} → (A → Type 0) → (Refusal → Type 0) → Type 0 → Result A Bad → Type 0
Answers Right Due Wanting (Ok v) = Right v
Answers Right Due Wanting (Err (Refused e)) = Due e
Answers Right Due Wanting (Err OutOfMemory) = Wanting

-- what is wanted, or no memory
abbrev pub IsAnswer : {A : Type 0} → Result A Refusal → Result A Bad → Type 0
IsAnswer wanted (Ok v) = wanted ≡ Ok v
IsAnswer wanted (Err (Refused e)) = wanted ≡ Err e
IsAnswer wanted (Err OutOfMemory) = Unit {0}

-- what is wanted, or no memory where that is a value that takes some
abbrev pub IsAnswerTaking : {A : Type 0} → (A → Type 0) → Result A Refusal → Result A Bad → Type 0
IsAnswerTaking Takes wanted (Ok v) = wanted ≡ Ok v
IsAnswerTaking Takes wanted (Err (Refused e)) = wanted ≡ Err e
IsAnswerTaking Takes wanted (Err OutOfMemory) = IsOkAnd wanted Takes
