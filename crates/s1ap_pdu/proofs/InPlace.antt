-- A message that is written in place, and counted then.
use Rattle.std.proofs.Common.{◌≡◌, ℕ, ◌-◌, Bool, List, [], length, take, drop, sym, ap, ◌∙◌}
use Rattle.aper_fields.specs.Bits.{packed}
use Rattle.aper_fields.specs.Run.{then_written, length_run, open_run}
use Rattle.aper_fields.proofs.Counted.{open_in_place}
use Rattle.aper_fields.proofs.Written.{then_written-then}
use Rattle.s1ap_pdu.specs.declared.pdu.Pdu.{Pdu}
use Rattle.s1ap_pdu.specs.Messages.{header_of, kind_of, values_of}
use Rattle.s1ap_pdu.specs.Run.{header_run, ies_run, pdu_run, written}
use Rattle.s1ap_pdu.proofs.Whole.{ies_periodic}

-- a message whose IEs were written behind its header
pub message_in_place : (p : Pdu) (head before all new : List Bool) (start : ℕ) → head ≡ then_written [] (header_run (header_of (kind_of p))) → before ≡ then_written head (length_run 0) → start ≡ length before → all ≡ then_written before (ies_run (kind_of p) (values_of p)) → new ≡ then_written (take (start - 8) all) (open_run (drop start all)) → packed new ≡ written p
unfolding written pdu_run
message_in_place p head before all new start h b place a n =
    let front = header_run (header_of (kind_of p)) in
    let ies = ies_run (kind_of p) (values_of p) in
    let opened = open_in_place head before all new ies start (ies_periodic (kind_of p) (values_of p)) b place a n in
    ap packed (opened ∙ ap (λ (l : List Bool). then_written l (open_run (ies 0))) h ∙ sym (then_written-then [] front (open_run (ies 0))))
