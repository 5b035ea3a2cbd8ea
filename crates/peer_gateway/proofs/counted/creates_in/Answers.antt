use Rattle.std.proofs.Common.{◌-◌, length, ◌∙◌, sym, arith}
use Rattle.std.proofs.lemmas.Option.{slice_get_within}
use Rattle.peer_gateway.proofs.Counting.{creates_few, creates_all}
use Rattle.peer_gateway.proofs.counted.creates_in.Goals as goal

pub creates_with-requires : goal.creates_with-requires
creates_with-requires c =
    let xs = c.args.calls.now in
    let last = sym c.in-Some.ensures.value in
    let within = slice_get_within xs (length xs - 1) c.in-Some.last.now last in
    let few = creates_few xs (length xs - 1) c.in-Some.last.now c.requires.counted last in
    let count = c.requires.count in
    omega arith

pub returns-in-Some : goal.returns-in-Some
returns-in-Some c = c.creates_with.ensures ∙ sym (creates_all c.args.calls.now c.in-Some.last.now c.requires.counted c.in-Some.ensures.value)
