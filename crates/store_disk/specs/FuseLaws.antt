-- What a disk in memory has to show of its moments, as lemmas.
use Rattle.std.proofs.Common.{◌≡◌, ◌≤◌, ℕ, List, length, take, subst, sym, arith}
use Rattle.std.proofs.lemmas.List.{take_all}
use Rattle.store_disk.specs.declared.call_log.Call.{Call}
use Rattle.store_disk.specs.Fuse.{IsImage, IsImageSince}

-- this moment is one of those since an earlier one
pub at_the_end : (past : List (Call × List ℕ)) (t : ℕ) (image : List ℕ) → t ≤ length past → IsImage past image → IsImageSince past t image
at_the_end past t image before now =
    let whole : take (length past) past ≡ past = take_all (length past) past (omega arith) in
    (length past, before, omega arith, subst (λ (calls : List (Call × List ℕ)). IsImage calls image) (sym whole) now)

-- since this moment there is no other
pub only_at_the_end : (past : List (Call × List ℕ)) (image : List ℕ) → IsImageSince past (length past) image → IsImage past image
only_at_the_end past image since =
    let whole : take since.0 past ≡ past = take_all since.0 past since.1 in
    subst (λ (calls : List (Call × List ℕ)). IsImage calls image) whole since.3
