-- Two seats.
use Rattle.std.proofs.Common.{◌≡◌, ℕ, zero, suc, ◌<◌, List, [], ◌∷◌, Option, Result, Ok, Err, All, sym, subst, arith}
use Rattle.std.specs.Prelude.{IfOk, IfSome}
use Rattle.std.specs.Result.{result_ok}
use Rattle.std.proofs.lemmas.List.Elements.{All-nil, All-push}

-- what holds of 0 and of 1 holds below 2
pub two_speak : (P : ℕ → Type 0) (seats : ℕ) → seats ≡ 2 → P 0 → P 1 → (n : ℕ) → n < seats → P n
two_speak P seats two one other zero lt = one
two_speak P seats two one other (suc zero) lt = other
two_speak P seats two one other (suc (suc n)) lt = absurd (omega (arith, two))

-- what holds of two holds of each of a list that they are put in, where there is memory
pub two_kept : {X V E : Type 0} (P : X → Type 0) (items : V → List X) (made : Result V E) (list : Option V) (first second : X) → list ≡ result_ok made → IfOk made (λ v. items v ≡ first ∷ second ∷ []) → P first → P second → IfSome list (λ v. All P (items v))
two_kept {V = V} P items (Ok v) list first second is both one other =
    subst (λ (o : Option V). IfSome o (λ v. All P (items v))) (sym is)
    (subst (All P) (sym both) (All-push P (first ∷ []) second (All-push P [] first (All-nil P) one) other))
two_kept {V = V} P items (Err e) list first second is both one other = subst (λ (o : Option V). IfSome o (λ v. All P (items v))) (sym is) both
