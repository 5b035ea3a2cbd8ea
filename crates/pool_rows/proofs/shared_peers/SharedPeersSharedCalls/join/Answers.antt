use Rattle.pool_rows.proofs.Offers.{accepted_joined}
use Rattle.pool_rows.proofs.shared_peers.SharedPeersSharedCalls.join.Goals as goal
use Rattle.std.proofs.Common.{◌∙◌, sym}

pub returns-clause-keeps : goal.returns-clause-keeps
returns-clause-keeps c =
    let into = c.requires.into.0 in
    let known = accepted_joined c.args.into.now.seats.items c.args.from.seats.items c.join.new.into.seats.items (c.requires.from.0 ∙ sym into) (c.join.ensures.seats.0 ∙ sym into) c.join.ensures.joined in
    record { seat = c.join.ensures.seats; speaks = c.join.ensures.keeps; knows = known.0 }

pub returns-clause-gains : goal.returns-clause-gains
returns-clause-gains c =
    let into = c.requires.into.0 in
    let known = accepted_joined c.args.into.now.seats.items c.args.from.seats.items c.join.new.into.seats.items (c.requires.from.0 ∙ sym into) (c.join.ensures.seats.0 ∙ sym into) c.join.ensures.joined in
    record { seat = c.join.ensures.seats; speaks = c.join.ensures.gains; knows = known.1 }
