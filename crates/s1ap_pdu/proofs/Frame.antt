-- Headers and lists of IEs are read exactly, with the IEs kept as they stand.
use Rattle.std.proofs.Common.{◌≡◌, ℕ, ◌<◌, Bool, cond, eqb, List, [], length, ap, ◌∙◌, arith}
use Rattle.std.proofs.lemmas.List.{length-append}
use Rattle.echo_base.specs.declared.reason.Reason.TheVariants as reasons
use Rattle.aper_fields.specs.Reading.{number_at, open_at, contained_at}
use Rattle.aper_fields.specs.Run.{fixed_bits_run}
use Rattle.aper_fields.specs.Format.{IsExactly, fixed_bits_in}
use Rattle.aper_fields.proofs.BitLaws.{length-bits}
use Rattle.aper_fields.proofs.Formats.{either_exactly, just_exactly, passing_exactly}
use Rattle.aper_fields.proofs.ExactNumbers.{number_exactly}
use Rattle.aper_fields.proofs.ExactPieces.{fixed_bits_exactly}
use Rattle.aper_fields.proofs.Containers.{open_exactly, contained_exactly}
use Rattle.s1ap_pdu.specs.declared.tables.MessageKind.{MessageKind}
use Rattle.aper_fields.specs.Sequence.{zero_bit_in, choice_in}
use Rattle.aper_fields.specs.SequenceReading.{Reader, ◌>>=◌, done, zero_bit_at, criticality_at}
use Rattle.aper_fields.proofs.SequenceExact.{zero_bit_exactly, criticality_exactly, choice_exactly}
use Rattle.aper_fields.specs.Many.{many_at, inside_at, looked_up_at}
use Rattle.s1ap_pdu.specs.Grammar.{Ie, Named, Other, header_in, or_other, kind_with, new_id, has_ie, ie_in, ies_in, pdu_in}
use Rattle.aper_fields.specs.Asn1.{reading}
use Rattle.s1ap_pdu.specs.Values.{value_type}
use Rattle.s1ap_pdu.specs.Reading.{header_at}
use Rattle.aper_fields.proofs.Manys.{many_exactly}
use Rattle.aper_fields.proofs.LookUps.{looked_up_exactly}
use Rattle.aper_fields.proofs.SequenceExact.{behind}
use Rattle.aper_fields.proofs.Inside.{inside_exactly}
use Rattle.s1ap_pdu.proofs.Ies.{value_exactly}

pub header_exactly : IsExactly header_in header_at
unfolding header_in header_at
header_exactly =
    behind _ _ _ _ (choice_exactly 3 2)
    (λ outcome. behind _ _ _ _ (passing_exactly (λ bits. eqb bits 0) reasons.NonZeroPadding (fixed_bits_in 5) _ (fixed_bits_exactly 5))
    (λ padding. behind _ _ _ _ (looked_up_exactly (λ code. or_other code (kind_with outcome code)) _ _ (number_exactly 0 255 (omega arith)))
    (λ kind. behind _ _ _ _ criticality_exactly (λ criticality. just_exactly kind))))

-- ---- the IEs, kept as they stand

unfoldable pub ie_kept_at : MessageKind → List Ie → Reader Ie
ie_kept_at kind before =
    looked_up_at (new_id before) (number_at 0 65535) >>= λ id.
    criticality_at >>= λ criticality.
    open_at >>= λ content.
    λ i. cond (has_ie kind id) ((inside_at content (reading (value_type id)) >>= λ v. done (Named id v)) i) (done (Other id) i)

unfoldable pub ies_kept_at : MessageKind → Reader (List Ie)
ies_kept_at kind =
    zero_bit_at reasons.SequenceExtension >>= λ extension.
    number_at 0 65535 >>= λ count.
    many_at (ie_kept_at kind) count []

unfoldable pub pdu_kept_at : Reader (MessageKind × List Ie)
pdu_kept_at =
    header_at >>= λ kind.
    contained_at (ies_kept_at kind) >>= λ ies.
    done (kind, ies)

pub ie_exactly : (kind : MessageKind) (before : List Ie) → IsExactly (ie_in kind before) (ie_kept_at kind before)
unfolding ie_in ie_kept_at
ie_exactly kind before =
    behind _ _ _ _ (looked_up_exactly (new_id before) _ _ (number_exactly 0 65535 (omega arith)))
    (λ id. behind _ _ _ _ criticality_exactly
    (λ criticality. behind _ _ _ _ open_exactly
    (λ content. either_exactly (has_ie kind id) _ _ _ _ (behind _ _ _ _ (inside_exactly content _ _ (value_exactly id)) (λ v. just_exactly (Named id v))) (just_exactly (Other id)))))

ies_exactly : (kind : MessageKind) → IsExactly (ies_in kind) (ies_kept_at kind)
unfolding ies_in ies_kept_at
ies_exactly kind =
    behind _ _ _ _ (zero_bit_exactly reasons.SequenceExtension)
    (λ extension. behind _ _ _ _ (number_exactly 0 65535 (omega arith)) (λ count. many_exactly (ie_in kind) (ie_kept_at kind) (ie_exactly kind) count))

pub pdu_exactly : IsExactly pdu_in pdu_kept_at
unfolding pdu_in pdu_kept_at
pdu_exactly = behind _ _ _ _ header_exactly (λ kind. behind _ _ _ _ (contained_exactly (ies_in kind) (ies_kept_at kind) (ies_exactly kind)) (λ ies. just_exactly (kind, ies)))

-- a message is something
pub pdu_some : (at : ℕ) (x : MessageKind × List Ie) (run : List Bool) → pdu_in.Spells at x run → 0 < length run
unfolding pdu_in header_in choice_in zero_bit_in fixed_bits_run
pdu_some at x run s =
    let choice = s.4.4 in
    let bit : length choice.1 ≡ 1 = ap length choice.4.1.1 ∙ length-bits 1 choice.0 in
    omega (arith, bit, ap length choice.3, length-append choice.1 choice.2, ap length s.4.3, length-append s.4.1 s.4.2, ap length s.3, length-append s.1 s.2)
