-- What a disk keeps that fails: of the entries of the machines alone, which are committed device by device in order of number, each
-- by four calls of the disk, the third of which is what brings it there.
use Rattle.std.specs.Prelude.{◌≡◌, ℕ, ◌+◌, ◌-◌, ◌/◌, min, List, [], ◌∷◌, ◌++◌, length, map, codes}
use Rattle.std.specs.Fmt.{decimal}
use Rattle.std.specs.List.{sum_by}
use Rattle.device_types.specs.declared.message.Message.{Message}
use Rattle.device_types.specs.declared.subscriber.Subscriber.{Subscriber}
use Rattle.echo_base.specs.Reason.{zero_filled}
use Rattle.crash_run.specs.declared.kept.Kept.{Kept}
use Rattle.crash_run.specs.Made.{alone_each}

-- how many entries each device has
abbrev pub counts_of : List Subscriber → List (List Message) → List ℕ
counts_of rows lines = map length (alone_each rows lines)

abbrev pub total_of : List ℕ → ℕ
total_of counts = sum_by (λ count. count) counts

-- how many are acknowledged, and how many are found, where so many calls pass behind those of opening
abbrev pub acknowledged_of : List ℕ → ℕ → ℕ
acknowledged_of counts after = min (total_of counts) (after / 4)

abbrev pub found_of : List ℕ → ℕ → ℕ
found_of counts after = min (total_of counts) ((after + 1) / 4)

-- how many of the first entries are each device's, where the devices have so many
abbrev pub shares_of : ℕ → List ℕ → List ℕ
shares_of first [] = []
shares_of first (count ∷ counts) = min first count ∷ shares_of (first - count) counts

-- what is kept of so many entries of each device
pub record IsKept (counts : List ℕ) (after : ℕ) (kept : Kept) : Type 0 where
  pub acknowledged_is : kept.acknowledged ≡ acknowledged_of counts after
  pub found_is : kept.found ≡ found_of counts after
  pub versions_are : kept.versions.items ≡ shares_of (found_of counts after) counts

-- ---- the text

abbrev pub kept_line : ℕ → ℕ → List ℕ
kept_line acknowledged found = codes "acknowledged " ++ decimal acknowledged ++ codes " found " ++ decimal found ++ 10 ∷ []

abbrev pub version_line : ℕ → ℕ → List ℕ
version_line imsi version = codes "device " ++ zero_filled 15 imsi ++ codes " version " ++ decimal version ++ 10 ∷ []

-- a line for each device, by number
abbrev pub version_lines : List Subscriber → List ℕ → List ℕ
version_lines [] versions = []
version_lines (row ∷ rows) [] = []
version_lines (row ∷ rows) (version ∷ versions) = version_line row.imsi version ++ version_lines rows versions

abbrev pub kept_text : List Subscriber → ℕ → ℕ → List ℕ → List ℕ
kept_text rows acknowledged found versions = kept_line acknowledged found ++ version_lines rows versions

abbrev pub text_by : List Subscriber → List ℕ → ℕ → List ℕ
text_by rows counts after =
    kept_text rows (acknowledged_of counts after) (found_of counts after) (shares_of (found_of counts after) counts)

-- of a case with these rows and these lines of messages
unfoldable pub crash_text : List Subscriber → List (List Message) → ℕ → List ℕ
crash_text rows lines after = text_by rows (counts_of rows lines) after
