-- Commands, and results that are not 2001.
use Rattle.std.proofs.Common.{◌≡◌, ◌⊎◌, ℕ, ◌^◌, ◌<◌, false, Option, Some, None, inl, inr, arith}
use Rattle.std.specs.Prelude.{IfSome}
use Rattle.std.proofs.lemmas.Bool.{eqb-false}
use Rattle.dia_avps.specs.Finding.{is_2001}
use Rattle.dia_wire.specs.declared.dia.DiaBody.{DiaBody}
use Rattle.dia_wire.specs.declared.dia.DiaBody.TheVariants as body
use Rattle.dia_wire.specs.Written.{command_code, IsBody}

pub not_2001 : (o : Option ℕ) → is_2001 o ≡ false → IfSome o (λ r. r ≡ 2001 → ⊥)
not_2001 None e = tt
not_2001 (Some r) e = eqb-false r 2001 e

pub command_small : (b : DiaBody) → IsBody b → command_code b < 2 ^ 24
command_small (body.AskVectors imsi plmn) is = omega arith
command_small (body.AskLocation imsi plmn) is = omega arith
command_small (body.AskPurge imsi) is = omega arith
command_small (body.Vectors rand xres autn key) is = omega arith
command_small (body.Located dl ul) is = omega arith
command_small body.Purged is = omega arith
command_small (body.Rejected code result) is = by is.0
  where
    by : (code ≡ 318) ⊎ ((code ≡ 316) ⊎ (code ≡ 321)) → code < 2 ^ 24
    by (inl e) = omega (arith, e)
    by (inr (inl e)) = omega (arith, e)
    by (inr (inr e)) = omega (arith, e)
