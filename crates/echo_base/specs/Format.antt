-- Formats: which values stand where a reading stands, over any state S (as octets, or the words of a line), and which error is due where none does.
use Rattle.std.specs.Prelude.{◌≡◌, ◌⊎◌, Option, Some, Ok, Err}
use Rattle.echo_base.specs.Reading.{Reader}

-- Stands s v t: s begins with the value v, and t is behind it. Refuses s e: s begins with none, and e is due.
pub record Format (S E A : Type 0) : Type 1 where
  pub Stands : S → A → S → Type 0
  pub Refuses : S → E → Type 0

-- a value, which takes nothing
abbrev pub just : {S E A : Type 0} → A → Format S E A
just v = record { Stands = λ s w t. (w ≡ v) × (s ≡ t); Refuses = λ s e. ⊥ }

-- one behind another: the first that is wrong is refused
infixl 10 ◌>>=◌
abbrev pub ◌>>=◌ : {S E A B : Type 0} → Format S E A → (A → Format S E B) → Format S E B
◌>>=◌ {S} {E} {A} {B} F G = record {
  Stands = λ s w u. (v : A) × (t : S) × F.Stands s v t × (G v).Stands t w u;
  Refuses = λ s e. F.Refuses s e ⊎ ((v : A) × (t : S) × F.Stands s v t × (G v).Refuses t e);
}

-- a value that is meant by what stands before it, and takes nothing; where none is meant, e is due
abbrev pub meant : {S E B : Type 0} → (B → Type 0) → E → Format S E B
meant {S} {E} {B} P due = record { Stands = λ s w t. P w × (s ≡ t); Refuses = λ s e. ((w : B) → P w → ⊥) × (e ≡ due) }

-- what reading gives is what the format says: its values, and its errors
pub record IsExactly {S E A : Type 0} (F : Format S E A) (read : Reader S E A) : Type 0 where
  pub found : (s : S) (v : A) (t : S) → read s ≡ Ok (v, t) → F.Stands s v t
  pub only : (s : S) (v : A) (t : S) → F.Stands s v t → read s ≡ Ok (v, t)
  pub wrong : (s : S) (e : E) → read s ≡ Err e → F.Refuses s e
  pub refused : (s : S) (e : E) → F.Refuses s e → read s ≡ Err e

-- a meaning that is decided: it is right, and the only one
pub record Decides {B : Type 0} (o : Option B) (P : B → Type 0) : Type 0 where
  pub found : (w : B) → o ≡ Some w → P w
  pub only : (w : B) → P w → o ≡ Some w

-- a run that is written for a value is read as that value, whatever is behind it
abbrev pub IsReadBack : {S E A : Type 0} → Format S E A → (S → S) → A → Type 0
IsReadBack {S} F with_run v = (t : S) → F.Stands (with_run t) v t
