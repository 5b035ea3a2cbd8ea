-- The frame of an element is read exactly, and takes octets.
use Rattle.std.proofs.Common.{ℕ, ◌<◌, List, length, ap, arith}
use Rattle.std.proofs.lemmas.List.{length-append}
use Rattle.echo_base.specs.Format.{IsExactly}
use Rattle.echo_base.specs.Field.{number_in}
use Rattle.echo_base.proofs.Formats.{just_exactly, behind}
use Rattle.echo_base.proofs.Fields.{octet_exactly, octets_exactly, number_exactly}
use Rattle.tlv_elements.specs.Element.{Element, truncated}
use Rattle.tlv_elements.proofs.Frames.{here_exactly}
use Rattle.tlv_elements.proofs.Exact.{IsFrame}
use Rattle.gtp2_ies.specs.Frame.{frame_in, frame_at, gtp}

pub frame_exactly : (end : ℕ) → IsExactly (frame_in end) (frame_at end)
unfolding frame_in frame_at
frame_exactly end = behind _ _ _ _ (here_exactly end) (λ place. behind _ _ _ _ (octet_exactly (truncated place)) (λ tag. behind _ _ _ _ (number_exactly (truncated place) 2) (λ size. behind _ _ _ _ (octet_exactly (truncated place)) (λ instance. behind _ _ _ _ (octets_exactly (truncated place) size) (λ value. behind _ _ _ _ (here_exactly end) (λ stop. just_exactly _))))))

frame_shorter : (end : ℕ) (s : List ℕ) (e : Element) (t : List ℕ) → (frame_in end).Stands s e t → length t < length s
unfolding frame_in number_in
frame_shorter end s e t f =
    let tag = f.3 in
    let size = tag.3 in
    let instance = size.3 in
    let value = instance.3 in
    let stop = value.3 in
    omega (arith, ap length f.2.1, ap length tag.2, ap length size.2.2.0, length-append size.2.0 size.2.1, ap length size.2.3.1, ap length instance.2, ap length value.2.0, length-append value.0 value.1, ap length stop.2.1, ap length stop.3.1)

pub gtp_is : IsFrame frame_in gtp
gtp_is = record {
  exact = frame_exactly;
  shorter = λ end s e t h. frame_shorter end s e t ((frame_exactly end).found s e t h);
}
