-- How many shares there are.
use Rattle.std.proofs.Common.{◌≡◌, ℕ, suc, ◌-◌, List, [], ◌∷◌, length, refl, ap, ◌∙◌}
use Rattle.std.proofs.lemmas.List.{length-map}
use Rattle.device_types.specs.declared.message.Message.{Message}
use Rattle.device_types.specs.declared.subscriber.Subscriber.{Subscriber}
use Rattle.crash_run.specs.Made.{alone_each}
use Rattle.crash_run.specs.Text.{counts_of, shares_of}
use Rattle.crash_run.proofs.Made.{each_length}

shares_length : (first : ℕ) (counts : List ℕ) → length (shares_of first counts) ≡ length counts
shares_length first [] = refl
shares_length first (count ∷ counts) = ap suc (shares_length (first - count) counts)

-- as many shares as rows
pub as_many : (rows : List Subscriber) (lines : List (List Message)) (first : ℕ) (counts shares : List ℕ) → length lines ≡ length rows → counts ≡ counts_of rows lines → shares ≡ shares_of first counts → length shares ≡ length rows
as_many rows lines first counts shares same is are =
    ap length are ∙ shares_length first counts ∙ ap length is ∙ length-map (alone_each rows lines) length ∙ each_length rows lines same
