-- Kinds that are answers.
use Rattle.std.proofs.Common.{◌≡◌, ℕ, true, Option, Some, None, refl, inl, inr}
use Rattle.std.specs.Prelude.{IfSome}
use Rattle.gtp2_wire.specs.declared.gtp.GtpBody.TheVariants.{Rejected}
use Rattle.gtp2_wire.specs.declared.kind.Kind.{Kind}
use Rattle.gtp2_wire.specs.declared.kind.Kind.TheVariants as kinds
use Rattle.gtp2_wire.specs.Kinds.{type_of, is_answer}
use Rattle.gtp2_wire.specs.Written.{IsAnswerType, IsBody}

answer_type : (kind : Kind) → is_answer kind ≡ true → IsAnswerType (type_of kind)
answer_type kinds.Create e = absurd cc
answer_type kinds.Created e = inl refl
answer_type kinds.Modify e = absurd cc
answer_type kinds.Modified e = inr (inl refl)
answer_type kinds.Delete e = absurd cc
answer_type kinds.Deleted e = inr (inr (inl refl))
answer_type kinds.Release e = absurd cc
answer_type kinds.Released e = inr (inr (inr refl))

-- an answer that rejects can be written
pub rejects_so : (kind : Kind) (cause : Option ℕ) → is_answer kind ≡ true → IfSome cause (λ c. c ≡ 16 → ⊥) → IfSome cause (λ c. IsBody (Rejected (type_of kind) c))
rejects_so kind None e other = tt
rejects_so kind (Some c) e other = (answer_type kind e, other)
