-- With their count before them octets are an open type: none of them, as one octet of zeros, fewer than 128, and more, with a count of two octets.
use Rattle.std.proofs.Common.{◌-◌, arith}
use Rattle.aper_fields.proofs.Counted.{counted_none, counted_short, counted_long}
use Rattle.aper_fields.proofs.writer.put_count.Goals as goal

pub returns-then-count-eq0-clause-ok : goal.returns-then-count-eq0-clause-ok
returns-then-count-eq0-clause-ok c =
    let old = c.args.bytes.now.items in
    rw c.in_ok-push.ensures.items (counted_none old c.args.start c.requires.room c.requires.within (omega (arith, c.len.ensures, c.if-count-eq0.true)))

pub returns-then-count-lt128-clause-ok : goal.returns-then-count-lt128-clause-ok
returns-then-count-lt128-clause-ok c =
    let old = c.args.bytes.now.items in
    counted_short old c.args.start (c.len.result - c.args.start) c.requires.room c.requires.within (omega (arith, c.len.ensures)) (omega (arith, c.if-count-eq0.false)) c.if-count-lt128.true

pub returns-in-Ok-clause-ok : goal.returns-in-Ok-clause-ok
returns-in-Ok-clause-ok c =
    let old = c.args.bytes.now.items in
    rw c.in-Ok.ensures.items (counted_long old c.args.start (c.len.result - c.args.start) c.requires.room c.requires.within (omega (arith, c.len.ensures)) (omega (arith, c.if-count-lt128.false)) (omega (arith, c.len.ensures, c.requires.few)))
