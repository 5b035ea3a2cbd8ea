-- What follows of a sample.
use Rattle.std.proofs.Common.{ℕ, ◌<◌, List, [], ◌∷◌, length, Result, Ok, Err, All, ◌≡◌, refl, sym, subst, arith}
use Rattle.std.specs.Prelude.{IfErr, IfOk}
use Rattle.std.proofs.lemmas.List.Elements.{All-append, All-from_recursion}
use Rattle.echo_base.specs.declared.refusal.Bad.{Bad}
use Rattle.echo_base.specs.declared.refusal.Bad.TheVariants.{Refused, OutOfMemory}
use Rattle.s1ap_pdu.specs.declared.pdu.Pdu.{Pdu}
use Rattle.aper_fields.specs.Run.{◌▸◌, fixed_bits_run, number_run, open_run}
use Rattle.aper_fields.proofs.NotEmpty.{first_some, bit_some}
use Rattle.aper_fields.proofs.Packed.{length-packed}
use Rattle.protocol_ies.specs.Criticalities.{criticality_number}
use Rattle.aper_fields.specs.Asn1.{index_run}
use Rattle.s1ap_pdu.specs.Messages.{outcome_index, header_of, kind_of, values_of}
use Rattle.s1ap_pdu.specs.Run.{header_run, ies_run, pdu_run, written}
use Rattle.echo_base.specs.Answer.{IsAnswer}
use Rattle.codec_bench.specs.declared.sample.Sample.{Sample}
use Rattle.codec_bench.specs.Sample.{IsSample, IsMore}

-- where a message is wanted, that is read, or memory is wanting
pub wanted_is_read : (p : Pdu) (read : Result Pdu Bad) → IsAnswer (Ok p) read → IfOk read (λ v. v ≡ p)
wanted_is_read p (Ok v) answer = cc
wanted_is_read p (Err e) answer = tt

pub none_for_memory : (p : Pdu) (read : Result Pdu Bad) → IsAnswer (Ok p) read → IfErr read (λ e. e ≡ OutOfMemory)
none_for_memory p (Ok v) answer = tt
none_for_memory p (Err (Refused e)) answer = absurd cc
none_for_memory p (Err OutOfMemory) answer = refl

pub still_samples : (line : List ℕ) (old new : List Sample) → All IsSample old → IsMore line old new → All IsSample new
still_samples line old new all more = subst (All IsSample) (sym more.2) (All-append IsSample old (more.0 ∷ []) all (All-from_recursion IsSample (more.0 ∷ []) (more.1.1, tt)))

-- a message is written in some octets
pub written_some : (p : Pdu) → 0 < length (written p)
unfolding written pdu_run header_run
written_some p =
    let header = header_of (kind_of p) in
    let choice = first_some (fixed_bits_run 1 0) (fixed_bits_run 2 (outcome_index header.outcome)) 0 bit_some in
    let first = first_some (index_run 2 (outcome_index header.outcome)) (fixed_bits_run 5 0 ▸ number_run 0 255 header.code ▸ fixed_bits_run 2 (criticality_number header.criticality)) 0 choice in
    let whole = first_some (header_run header) (open_run (ies_run (kind_of p) (values_of p) 0)) 0 first in
    omega (arith, whole, length-packed (pdu_run (kind_of p) (values_of p) 0))
