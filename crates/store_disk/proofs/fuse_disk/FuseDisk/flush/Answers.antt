use Rattle.store_disk.proofs.Images.{synced_image}
use Rattle.store_disk.proofs.fuse_disk.FuseDisk.flush.Goals as goal

pub invariant_of-self : goal.invariant_of-self
invariant_of-self c = synced_image _ _ _ c.note.ensures

pub returns-clause-image : goal.returns-clause-image
returns-clause-image c = synced_image _ _ _ c.note.ensures
