-- Flags that are written.
use Rattle.std.proofs.Common.{◌≡◌, ⊎_elim, ℕ, zero, suc, ◌-◌, ◌≤◌, ◌<◌, Bool, true, false, List, [], ◌∷◌, ◌++◌, length, get_or, set, replicate, refl, arith, get_or-set_same, get_or-set_other}
use Rattle.std.proofs.lemmas.Bool.{cases_eq}
use Rattle.schedule_laws.specs.Lists.{AddsMark}
use Rattle.schedule_laws.proofs.Comparisons.{here, not_here}

pub all_down : (n k : ℕ) → get_or (replicate n false) k false ≡ false
all_down zero k = refl
all_down (suc n) zero = refl
all_down (suc n) (suc k) = all_down n k

pub get_or-append_down : (xs ys : List Bool) (k : ℕ) → ((j : ℕ) → get_or ys j false ≡ false) → get_or (xs ++ ys) k false ≡ get_or xs k false
get_or-append_down [] ys k down = down k
get_or-append_down (x ∷ xs) ys zero down = refl
get_or-append_down (x ∷ xs) ys (suc k) down = get_or-append_down xs ys k down

-- a number is marked in a list that is long enough, and has the flags of the old one
pub marks : (old long : List Bool) (n : ℕ) → 1 ≤ n → n ≤ length long → ((k : ℕ) → get_or long k false ≡ get_or old k false) → AddsMark old (set long (n - 1) true) n
marks old long n low le same = λ m from.
    ⊎_elim
    (λ (e : m ≡ n).
    let at : m - 1 ≡ n - 1 = omega arith in
    let lt : n - 1 < length long = omega arith in
    rw (e, here n, get_or-set_same long (n - 1) true false lt) refl)
    (λ (ne : m ≡ n → ⊥).
    let apart : m - 1 ≡ n - 1 → ⊥ = (λ (e : m - 1 ≡ n - 1). ne (omega arith)) in
    rw (not_here n m ne, get_or-set_other long (n - 1) (m - 1) true false apart) (same (m - 1)))
    (cases_eq m n)
