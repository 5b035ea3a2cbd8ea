-- Where a bit is left there is an octet; shifted and masked, it is the number of its next bits, and behind its last bit the next octet begins.
use Rattle.std.proofs.Common.{◌≡◌, ◌-◌, ◌*◌, ◌+◌, ◌≤◌, ◌<◌, length, sym, ap, arith}
use Rattle.std.proofs.lemmas.Nat.{one_shl, and_mask}
use Rattle.aper_fields.proofs.Octet.{length-left, taken, passed_input}
use Rattle.aper_fields.proofs.reader.BitReader.take_bits.Goals as goal

pub unreachable-requires : goal.unreachable-requires
unreachable-requires c =
    let e : length c.args.self.now.left ≡ 8 * length c.self.inside.bytes.now - c.self.inside.used = rw (← c.self.view_is) (length-left c.self.inside.used c.self.inside.bytes.now) in
    omega (arith, e)

pub returns-then-shift-eq0-clause-value : goal.returns-then-shift-eq0-clause-value
returns-then-shift-eq0-clause-value c =
    let some : 1 ≤ c.args.count = c.requires.some in
    let o : c.args.self.now.offset ≡ 8 * c.self.inside.place + c.self.inside.used = ap (λ i. i.offset) (sym c.self.view_is) in
    let small : c.args.count < 64 = omega arith in
    rw (one_shl c.args.count 64 small, and_mask, ← c.self.view_is, c.from.ensures) (sym (taken c.self.inside.used c.args.count c.self.inside.bytes.now (omega arith) (omega arith)))

pub returns-else-shift-eq0-clause-value : goal.returns-else-shift-eq0-clause-value
returns-else-shift-eq0-clause-value c =
    let some : 1 ≤ c.args.count = c.requires.some in
    let o : c.args.self.now.offset ≡ 8 * c.self.inside.place + c.self.inside.used = ap (λ i. i.offset) (sym c.self.view_is) in
    let small : c.args.count < 64 = omega arith in
    rw (one_shl c.args.count 64 small, and_mask, ← c.self.view_is, c.from.ensures) (sym (taken c.self.inside.used c.args.count c.self.inside.bytes.now (omega arith) (omega arith)))

pub returns-then-shift-eq0-clause-moved : goal.returns-then-shift-eq0-clause-moved
returns-then-shift-eq0-clause-moved c =
    let some : 1 ≤ c.args.count = c.requires.some in
    let o : c.args.self.now.offset ≡ 8 * c.self.inside.place + c.self.inside.used = ap (λ i. i.offset) (sym c.self.view_is) in
    rw (← c.self.view_is) (passed_input c.self.inside.used c.args.count c.self.inside.place c.self.inside.bytes.now (omega arith) (omega arith))
