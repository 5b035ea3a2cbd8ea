-- Formats out of formats: values one behind another, what all of a container is, and a value that is looked up.
use Rattle.std.specs.Prelude.{◌≡◌, ◌⊎◌, ℕ, zero, suc, ◌+◌, ◌<◌, Bool, List, [], ◌∷◌, ◌++◌, length, Result, Ok, Err}
use Rattle.echo_base.specs.declared.reason.Reason.{Reason}
use Rattle.echo_base.specs.declared.refusal.Refusal.{Refusal}
use Rattle.echo_base.specs.Answer as answers
use Rattle.aper_fields.specs.Reading.{Input, Read, refusal, whole_at}
use Rattle.aper_fields.specs.Spelling.{Holds}
use Rattle.aper_fields.specs.Format.{Format, Stands, WholeRefuses}
use Rattle.aper_fields.specs.SequenceReading.{Reader}

-- ---- values one behind another, where each may depend on those before it

-- the runs that values spell, behind the values before them
abbrev pub InOrder : {A : Type 0} → (List A → Format A) → List A → ℕ → List A → List Bool → Type 0
InOrder F before at [] run = run ≡ []
InOrder F before at (x ∷ xs) run = (front back : List Bool) × (run ≡ front ++ back) × (F before).Spells at x front × InOrder F (before ++ x ∷ []) (at + length front) xs back

-- they stand here, and j is what is left behind them
pub record StandInOrder {A : Type 0} (F : List A → Format A) (before : List A) (i : Input) (xs : List A) (j : Input) : Type 0 where
  pub run : List Bool
  pub spelt : InOrder F before i.offset xs run
  pub left : i.left ≡ run ++ j.left
  pub offset : j.offset ≡ i.offset + length run

-- fewer than n stand here, and the next one is refused
abbrev pub RefusesInOrder : {A : Type 0} → (List A → Format A) → ℕ → List A → Input → Refusal → Type 0
RefusesInOrder F n before i e = (xs : List _) × (j : Input) × StandInOrder F before i xs j × (length xs < n) × (F (before ++ xs)).Refuses j e

-- n values one behind another
abbrev pub many_in : {A : Type 0} → (List A → Format A) → ℕ → Format (List A)
many_in F n = record { Spells = λ at xs run. (length xs ≡ n) × InOrder F [] at xs run; Refuses = RefusesInOrder F n [] }

-- n values behind those before, from left to right
unfoldable pub many_at : {A : Type 0} → (List A → Reader A) → ℕ → List A → Reader (List A)
many_at f zero before i = Ok (before, i)
many_at f (suc n) before i = answers.◌>>=◌ (f before i) (λ x. many_at f n (before ++ x.0 ∷ []) x.1)

-- the values of a list that was read
abbrev pub listed : {A : Type 0} → Read (List A) → List A
listed (Ok x) = x.0
listed (Err e) = []

-- ---- containers

-- all of a container is a value; where the container was opened no more bits are taken
abbrev pub inside : {A : Type 0} → Input → Format A → Format A
inside content F = record { Spells = λ at v run. Holds F.Spells content v × (run ≡ []); Refuses = λ i e. WholeRefuses F content e }

abbrev pub inside_at : {A : Type 0} → Input → Reader A → Reader A
inside_at content f = λ i. answers.◌>>=◌ (whole_at f content) (λ v. Ok (v, i))

-- ---- values that are looked up

-- what a spelled value stands for, by a look-up; it is refused where it begins for the reason that the look-up gives
abbrev pub looked_up : {A B : Type 0} → (A → Result B Reason) → Format A → Format B
looked_up look F = record {
  Spells = λ at v run. (a : _) × (look a ≡ Ok v) × F.Spells at a run;
  Refuses = λ i e. F.Refuses i e ⊎ ((a : _) × (j : Input) × Stands F i a j × (reason : Reason) × (look a ≡ Err reason) × (e ≡ refusal reason i));
}

abbrev pub answer : {B : Type 0} → Result B Reason → Input → Input → Read B
answer (Ok v) i j = Ok (v, j)
answer (Err reason) i j = Err (refusal reason i)

abbrev pub looked_up_at : {A B : Type 0} → (A → Result B Reason) → Reader A → Reader B
looked_up_at look f = λ i. answers.◌>>=◌ (f i) (λ x. answer (look x.0) i x.1)
