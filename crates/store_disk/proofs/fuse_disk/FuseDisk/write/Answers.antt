use Rattle.std.proofs.Common.{rules, List, ℕ, length, ap, ◌∙◌}
use Rattle.store_disk.specs.Disk.{written_at}
use Rattle.store_disk.specs.Fuse.{passed}
use Rattle.store_disk.proofs.Images.{wrote_image, passed_few}
use Rattle.store_disk.proofs.fuse_disk.FuseDisk.write.Goals as goal

pub invariant_of-self-2 : goal.invariant_of-self-2
invariant_of-self-2 c =
    let octets = c.self.inside.octets.items in
    let fuse = c.self.inside.fuse in
    let piece = c.args.piece.now in
    wrote_image c.self.inside.past octets c.args.at (length piece) (passed fuse piece) _ _ c.self.invariant (search rules) (passed_few fuse piece)
    (c.in-Ok.ensures.ok ∙ ap (λ (p : List ℕ). written_at c.args.at p octets) c.passed-left.ensures) c.note.ensures
