use Rattle.std.proofs.Common.{◌*◌, arith}
use Rattle.hex.proofs.Pairs.{decode_step, decode_done}
use Rattle.echo_base.proofs.hexadecimal.fill.Goals as goal

pub loop-i-preserved : goal.loop-i-preserved
loop-i-preserved c = decode_step c.args.text.now c.loop-i.octets c.loop-i.i c.octet_of.result (omega arith) (omega arith) (c.octet_of.ensures (2 * c.loop-i.i)) c.loop-i.invariant

pub returns : goal.returns
returns c = decode_done c.args.text.now c.loop-i.octets c.loop-i.i (omega arith) (omega arith) c.loop-i.invariant
