-- The session of the first entry.
use Rattle.std.specs.Prelude.{◌<◌}
use Rattle.std.proofs.Common.{lit<, rules, replicate}
use Rattle.std.proofs.lemmas.List.Elements.{All-replicate}
use Rattle.device_types.specs.Octets.{AreOctets}
use Rattle.device_types.specs.Session.{IsSession, opening}

pub opening_in_range : IsSession opening
opening_in_range =
    let octets : AreOctets (replicate 32 0) = All-replicate (λ octet. octet < 256) 32 0 (lit< tt) in
    search rules
