-- Each turn puts the next bits of the number into the first octet with free bits, which are zeros, behind the bits that were put before.
use Rattle.std.proofs.Common.{◌≡◌, ◌+◌, ◌-◌, ◌/◌, ◌%◌, ◌^◌, ◌<◌, ◌++◌, List, Bool, length, get_or, set, append_assoc, ap, ◌∙◌, subst, arith}
use Rattle.aper_fields.specs.Bits.{bits, zeros}
use Rattle.aper_fields.specs.Buffer.{FreeBehind, before_free}
use Rattle.aper_fields.proofs.Fill.{put_at, low_at, length-run, chunk_bits, chunk_more, bits-none}
use Rattle.aper_fields.proofs.writer.put_bits.Goals as goal

pub loop-left-init : goal.loop-left-init
loop-left-init c = record { within = omega arith; free = omega arith; full = rw (bits-none (before_free c.args.octets.now c.args.free) c.args.count (c.args.value / 2 ^ c.args.count)) c.requires.filled }

pub put_in_octet-requires-clause-low : goal.put_in_octet-requires-clause-low
put_in_octet-requires-clause-low c =
    let l = c.loop-left in
    let run = before_free c.args.octets.now c.args.free ++ bits (c.args.count - l.left) (c.args.value / 2 ^ l.left) in
    let len = length-run run l.octets l.free l.invariant.full in
    low_at l.octets run (length l.octets - c.div_ceil.result) ((l.free - 1) % 8 + 1) l.free (omega (arith, len)) (omega arith) (omega arith) (omega (arith, len)) l.invariant.full

pub loop-left-preserved : goal.loop-left-preserved
loop-left-preserved c =
    let l = c.loop-left in
    let run = before_free c.args.octets.now c.args.free ++ bits (c.args.count - l.left) (c.args.value / 2 ^ l.left) in
    let len = length-run run l.octets l.free l.invariant.full in
    let a = length l.octets - c.div_ceil.result in
    let room = (l.free - 1) % 8 + 1 in
    let k = c.min-taken.result in
    let next = c.args.value / 2 ^ (l.left - k) in
    let small : k < 64 = omega arith in
    let octet : bits 8 c.put_in_octet.result ≡ bits (8 - room) (get_or l.octets a 0 / 2 ^ room) ++ bits k next ++ zeros (room - k) = c.put_in_octet.ensures ∙ ap (λ (b : List Bool). bits (8 - room) (get_or l.octets a 0 / 2 ^ room) ++ b ++ zeros (room - k)) (chunk_bits k next small) in
    let put = put_at l.octets run (bits k next) a c.put_in_octet.result room l.free k (omega (arith, len)) (omega arith) (omega arith) (omega arith) (omega (arith, len)) l.invariant.full octet in
    let more : run ++ bits k next ≡ before_free c.args.octets.now c.args.free ++ bits (c.args.count - (l.left - k)) next = append_assoc (before_free c.args.octets.now c.args.free) (bits (c.args.count - l.left) (c.args.value / 2 ^ l.left)) (bits k next) ∙ ap (λ (b : List Bool). before_free c.args.octets.now c.args.free ++ b) (chunk_more c.args.count l.left k c.args.value (omega arith) l.invariant.within) in
    record { within = omega arith; free = omega arith; full = subst (λ (b : List Bool). FreeBehind b (set l.octets a c.put_in_octet.result) (l.free - k)) more put }
