-- The kind that was found begins with these octets.
use Rattle.std.proofs.Common.{ℕ, ◌*◌, ap, sym, ◌∙◌}
use Rattle.protocol_ies.specs.Criticalities.{criticality_number}
use Rattle.s1ap_pdu.specs.declared.header.Header.{Header}
use Rattle.s1ap_messages.proofs.UsualForm.{kind_begins}
use Rattle.s1ap_messages.proofs.usual.kinds.kind_of_header.Goals as goal

pub returns : goal.returns
returns c = kind_begins _ _ _ _ _ (sym c.in_ok-kind.ensures) c.in_ok-with_octet.ensures (c.if-criticality-number.false ∙ ap (λ (n : ℕ). 64 * n) (c.number.ensures.number ∙ ap (λ (h : Header). criticality_number h.criticality) c.header_of.ensures))
