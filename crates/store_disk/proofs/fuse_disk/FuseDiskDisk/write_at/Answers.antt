use Rattle.std.proofs.Common.{length}
use Rattle.store_disk.specs.declared.call_log.Call.TheVariants.{Write}
use Rattle.store_disk.specs.Disk.{written_at}
use Rattle.store_disk.specs.Fuse.{passed}
use Rattle.store_disk.proofs.Images.{wrote_images, wrote_time}
use Rattle.store_disk.proofs.fuse_disk.FuseDiskDisk.write_at.Goals as goal

pub returns-clause-images : goal.returns-clause-images
returns-clause-images c =
    let old = c.args.self.now in
    wrote_images old c.args.at (length c.args.piece.now) (written_at c.args.at (passed old.fuse c.args.piece.now) old.octets) c.write.new.self.starved c.write.new.self c.write.ensures.state

pub returns-clause-time : goal.returns-clause-time
returns-clause-time c =
    let old = c.args.self.now in
    wrote_time old (Write c.args.at (length c.args.piece.now)) (written_at c.args.at (passed old.fuse c.args.piece.now) old.octets) c.write.new.self.starved c.write.new.self c.write.ensures.state
