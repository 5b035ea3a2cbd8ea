use Rattle.std.proofs.lemmas.List.Elements.{All-head, All-tail}
use Rattle.pool_work.specs.Packets.{IsPacket}
use Rattle.pool_work.proofs.line.receive.Goals as goal

pub recv_as-requires-clause-rule : goal.recv_as-requires-clause-rule
recv_as-requires-clause-rule g c = (λ x items views h at. (tt, All-tail (IsPacket g.C.Named.charter) x items h, All-head (IsPacket g.C.Named.charter) x items h), λ items views h at. tt)
