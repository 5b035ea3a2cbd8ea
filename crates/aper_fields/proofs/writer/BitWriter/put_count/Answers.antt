-- What was written behind the place is short enough to be counted, and with its count before it an open type, with no bit free behind it.
use Rattle.std.proofs.Common.{◌≡◌, ◌*◌, ◌^◌, ◌<◌, ◌≤◌, length, drop, ◌∙◌, arith}
use Rattle.aper_fields.specs.Buffer.{before_free}
use Rattle.aper_fields.specs.Run.{content_of}
use Rattle.aper_fields.proofs.Counted.{counted_run, content_few}
use Rattle.aper_fields.proofs.Fill.{before_free-whole, free_whole}
use Rattle.aper_fields.proofs.writer.BitWriter.put_count.Goals as goal

pub put_count-requires-clause-few : goal.put_count-requires-clause-few
put_count-requires-clause-few c =
    let w = c.self.inside in
    let s = c.start.inside.octets in
    let run = before_free w.bytes.items w.free in
    let at : 8 * s ≡ c.args.start = omega (arith, c.start.view_is, c.start.invariant.0, c.start.invariant.1, c.requires.whole) in
    let within : 8 * s ≤ length run = rw (c.self.view_is, at) c.requires.within in
    let few : length (content_of (drop (8 * s) run)) < 8 * 2 ^ 14 = rw (c.self.view_is, at) c.requires.few in
    content_few run w.bytes.items w.free s c.self.invariant.0 c.self.invariant.2 within few

pub invariant_of-self-2 : goal.invariant_of-self-2
invariant_of-self-2 c = (omega arith, omega arith, free_whole c.put_count.new.bytes.items)

pub returns-clause-ok : goal.returns-clause-ok
returns-clause-ok c =
    let w = c.self.inside in
    let s = c.start.inside.octets in
    let run = before_free w.bytes.items w.free in
    let at : 8 * s ≡ c.args.start = omega (arith, c.start.view_is, c.start.invariant.0, c.start.invariant.1, c.requires.whole) in
    let within : 8 * s ≤ length run = rw (c.self.view_is, at) c.requires.within in
    rw (← c.self.view_is, ← at) (before_free-whole c.put_count.new.bytes.items ∙ counted_run run w.bytes.items c.put_count.new.bytes.items w.free s c.self.invariant.0 c.self.invariant.2 (omega (arith, at, c.requires.room)) within c.in_ok-put_count.ensures.ok)
