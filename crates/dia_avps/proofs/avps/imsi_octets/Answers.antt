use Rattle.dia_avps.proofs.ImsiLaws.{imsi_octets_are}
use Rattle.dia_avps.proofs.avps.imsi_octets.Goals as goal

pub returns : goal.returns
returns c = imsi_octets_are c.args.imsi _ _ _ _ _ _ _ _ _ _ _ _ _ _ _ c.requires c.digit.ensures c.digit-2.ensures c.digit-3.ensures c.digit-4.ensures c.digit-5.ensures c.digit-6.ensures c.digit-7.ensures c.digit-8.ensures c.digit-9.ensures c.digit-10.ensures c.digit-11.ensures c.digit-12.ensures c.digit-13.ensures c.digit-14.ensures c.digit-15.ensures
