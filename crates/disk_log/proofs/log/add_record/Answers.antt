use Rattle.std.proofs.Common.{◌⊎◌, ℕ, List, take, Option, ◌∙◌, subst}
use Rattle.std.specs.Prelude.{IfSome}
use Rattle.store_disk.specs.Gate.{IsShut, IsGrown}
use Rattle.store_disk.proofs.Moments.{weakened}
use Rattle.disk_log.specs.Log.{log_of, EndsAt, WithOrWithout}
use Rattle.disk_log.proofs.Logs.{shut_there, grown_there, with_or_without}
use Rattle.disk_log.proofs.log.add_record.Goals as goal

pub append-requires-clause-shut : goal.append-requires-clause-shut
append-requires-clause-shut g c = shut_there c.args.gate (g.D.Disk.bytes c.args.disk.now) c.requires.gate

pub returns-in_err-append-clause-any_moment : goal.returns-in_err-append-clause-any_moment
returns-in_err-append-clause-any_moment g c = λ octets is.
    let old = c.args.disk.now in
    let new = c.append.new.disk in
    let r = c.args.addition.now in
    let ends : EndsAt c.args.gate octets = subst (λ (b : Option (List ℕ)). IfSome b (EndsAt c.args.gate)) is c.requires.gate in
    let P : List ℕ → List ℕ → Type 0 = λ piece image. IsShut (take c.args.gate octets) image ⊎ IsGrown (take c.args.gate octets) piece image in
    weakened g.D.Disk.moment g.D.Disk.left_since old new (P c.octets.result.now) (WithOrWithout (log_of octets) r)
    (λ image left. with_or_without c.args.gate octets ends r c.piece.ensures.room image (subst (λ (piece : List ℕ). P piece image) (c.octets.ensures ∙ c.piece.ensures.octets) left))
    (c.append.ensures.any_moment octets is)

pub returns-clause-any_moment : goal.returns-clause-any_moment
returns-clause-any_moment g c = λ octets is.
    let old = c.args.disk.now in
    let new = c.append.new.disk in
    let r = c.args.addition.now in
    let ends : EndsAt c.args.gate octets = subst (λ (b : Option (List ℕ)). IfSome b (EndsAt c.args.gate)) is c.requires.gate in
    let P : List ℕ → List ℕ → Type 0 = λ piece image. IsShut (take c.args.gate octets) image ⊎ IsGrown (take c.args.gate octets) piece image in
    weakened g.D.Disk.moment g.D.Disk.left_since old new (P c.octets.result.now) (WithOrWithout (log_of octets) r)
    (λ image left. with_or_without c.args.gate octets ends r c.piece.ensures.room image (subst (λ (piece : List ℕ). P piece image) (c.octets.ensures ∙ c.piece.ensures.octets) left))
    (c.append.ensures.any_moment octets is)

pub returns-clause-added : goal.returns-clause-added
returns-clause-added g c = λ octets is.
    let grown = subst (λ (piece : List ℕ). IfSome (g.D.Disk.bytes c.append.new.disk) (IsGrown (take c.args.gate octets) piece)) (c.octets.ensures ∙ c.piece.ensures.octets) (c.in_ok-append.ensures.grown octets is) in
    rw c.size.ensures (grown_there c.args.gate c.args.addition.now octets (g.D.Disk.bytes c.args.disk.now) (g.D.Disk.bytes c.append.new.disk) is c.piece.ensures.room c.requires.gate grown)
