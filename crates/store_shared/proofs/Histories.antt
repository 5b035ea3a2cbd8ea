-- A history with a turn more.
use Rattle.std.proofs.Common.{◌≡◌, ℕ, ◌≤◌, ◌<◌, ⊎_elim, List, [], ◌∷◌, ◌++◌, length, take, Option, sym, ◌∙◌, subst, arith}
use Rattle.std.proofs.lemmas.Bool.{cases_lt}
use Rattle.std.proofs.lemmas.List.{take-append-le, take_all}
use Rattle.std.proofs.lemmas.Option.{slice_get_within}
use Rattle.session_store.proofs.Journals.{last_or_before}
use Rattle.store_shared.specs.declared.turn.Turn.{Turn}
use Rattle.store_shared.specs.declared.turn.TurnAnswer.{TurnAnswer}
use Rattle.store_shared.specs.Legal.{IsTurn, IsLegal}

pub legal_none : (says : List Turn → Turn → Option TurnAnswer) (shard devices : ℕ) → IsLegal says shard devices []
legal_none says shard devices = λ i t g. absurd (omega (arith, slice_get_within [] i t g))

pub legal_more : (says : List Turn → Turn → Option TurnAnswer) (shard devices : ℕ) (h : List Turn) (x : Turn) → IsLegal says shard devices h → IsTurn says shard devices h x → IsLegal says shard devices (h ++ x ∷ [])
legal_more says shard devices h x l n = λ i t g.
    let r = last_or_before h x t i g in
    ⊎_elim
    (λ (before : i < length h).
    subst (λ (b : List Turn). IsTurn says shard devices b t) (sym (take-append-le i h (x ∷ []) (omega arith))) (l i t (r.0 before)))
    (λ (past : length h ≤ i).
    let last = r.1 past in
    let all : take i (h ++ x ∷ []) ≡ h = take-append-le i h (x ∷ []) (omega (arith, last.0)) ∙ take_all i h past in
    subst (λ (b : List Turn). IsTurn says shard devices b t) (sym all) (subst (λ (y : Turn). IsTurn says shard devices h y) last.1 n))
    (cases_lt i (length h))
