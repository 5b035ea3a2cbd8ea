use Rattle.store_disk.specs.declared.call_log.Call.TheVariants.{Sync}
use Rattle.store_disk.specs.Fuse.{is_blown}
use Rattle.store_disk.proofs.Images.{synced_images, synced_time, synced_durable}
use Rattle.store_disk.proofs.fuse_disk.FuseDiskDisk.sync.Goals as goal

pub returns-clause-durable : goal.returns-clause-durable
returns-clause-durable c = synced_durable c.args.self.now c.flush.result c.flush.new.self c.flush.ensures.cause c.flush.ensures.state

pub returns-clause-images : goal.returns-clause-images
returns-clause-images c = synced_images c.args.self.now (is_blown c.args.self.now.fuse) c.flush.new.self c.flush.ensures.before c.flush.ensures.state

pub returns-clause-time : goal.returns-clause-time
returns-clause-time c = synced_time c.args.self.now Sync c.args.self.now.octets (is_blown c.args.self.now.fuse) c.flush.new.self c.flush.ensures.state
