-- Who speaks for each number, once all seats were joined.
use Rattle.std.proofs.Common.{◌≡◌, ℕ, ◌<◌, List, [], ◌∷◌, ◌++◌, length, Some, sym, subst, All}
use Rattle.std.specs.Prelude.{slice_get}
use Rattle.std.proofs.lemmas.List.Elements.{All-push}
use Rattle.session_store.specs.AloneLaw.{holds_of}
use Rattle.pool_work.proofs.Packets.{some_at}

-- two were taken out, and each of the rest, and both, hand on what they speak for
pub all_speak : {S : Type 0} (Speaks : S → ℕ → Type 0) (Q : Type 0) (made rest left : List S) (a b : S) (n : ℕ) → made ≡ rest ++ a ∷ [] → rest ≡ left ++ b ∷ [] → All (λ s. Speaks s n → Q) left → (Speaks b n → Q) → (Speaks a n → Q)
    → ((s : S) → slice_get made n ≡ Some s → Speaks s n) → n < length made → Q
all_speak {S} Speaks Q made rest left a b n p q each of_b of_a own low =
    let P : S → Type 0 = λ s. Speaks s n → Q in
    let most = subst (λ (l : List S). All P l) (sym q) (All-push P left b each of_b) in
    let all = subst (λ (l : List S). All P l) (sym p) (All-push P rest a most of_a) in
    let one = some_at made n low in
    holds_of P made n one.0 all one.1 (own one.0 one.1)
