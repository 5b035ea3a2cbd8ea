-- What a read is told, answer by answer: where each of them comes, whatever order the row asks in.
use Rattle.std.specs.Prelude.{◌≡◌, ◌≢◌, ℕ, ◌+◌, ◌≤◌, ◌<◌, Option, Some, None}
use Rattle.device_types.specs.declared.event.EventAnswer.{EventAnswer}
use Rattle.device_types.specs.declared.event.EventAnswer.TheVariants as told
use Rattle.device_types.specs.declared.event.Lane.{Lane}
use Rattle.schedule_laws.specs.Setting.{window}

-- of message n, behind so many messages taken, with that call awaited, at that version
abbrev pub IsToldOfMessage : ℕ → Option (Lane × ℕ) → ℕ → ℕ → EventAnswer → Type 0
IsToldOfMessage taken awaited version n (told.Ready v) = (n ≡ taken + 1) × (awaited ≡ None) × (v ≡ version)
IsToldOfMessage taken awaited version n (told.Waiting lane k) = (n ≡ taken + 1) × (awaited ≡ Some (lane, k))
IsToldOfMessage taken awaited version n (told.Ahead m) = (taken + 1 < n) × (m ≡ taken)
IsToldOfMessage taken awaited version n (told.Repeat m) = (n ≤ taken) × (taken < n + window) × (m ≡ n)
IsToldOfMessage taken awaited version n (told.Settled m) = (n + window ≤ taken) × (m ≡ n)
IsToldOfMessage taken awaited version n _ = ⊥

-- of the answer to call k of a lane, which was made, with that call awaited, at that version
abbrev pub IsToldOfAnswer : Option (Lane × ℕ) → ℕ → Lane → ℕ → EventAnswer → Type 0
IsToldOfAnswer awaited version lane k (told.Ready v) = (awaited ≡ Some (lane, k)) × (v ≡ version)
IsToldOfAnswer awaited version lane k (told.OldCall m j) = (awaited ≢ Some (lane, k)) × (m ≡ lane) × (j ≡ k)
IsToldOfAnswer awaited version lane k _ = ⊥
