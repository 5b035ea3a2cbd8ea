-- The Service Requests of a device are a line, and its own inputs.
use Rattle.std.proofs.Common.{◌≡◌, ℕ, ◌+◌, ◌-◌, ◌≤◌, [], ◌∷◌, ◌++◌, length, Some, refl, ap, ◌∙◌, rules, arith}
use Rattle.std.specs.Prelude.{All, slice_get}
use Rattle.std.proofs.lemmas.List.FromFn.{get_or-map-range_with_len, length-map-range_with_len, map-range_with_len_more}
use Rattle.std.proofs.lemmas.Option.{slice_get-get_or}
use Rattle.device_types.specs.declared.input.Input.TheVariants as inputs
use Rattle.device_types.specs.declared.message.Message.{Message}
use Rattle.device_types.specs.declared.subscriber.Subscriber.{Subscriber}
use Rattle.device_types.specs.Line.{IsLine}
use Rattle.replica_worker.specs.Writes.{IsOwn}
use Rattle.session_store.specs.Charter.{IsShort}
use Rattle.rows_cases.specs.Services.{service, services, service_charter}

pub services_none : services 0 ≡ []
unfolding services
services_none = refl

pub services_more : (n : ℕ) → services (n + 1) ≡ services n ++ service (n + 1) ∷ []
unfolding services
services_more n = map-range_with_len_more service 1 n (n + 1) (omega arith)

pub services_line : IsLine (services 8)
unfolding services
services_line = record { numbers = refl; ranges = search rules }

pub services_short : All IsShort (services 8 ∷ [])
unfolding services
services_short = search rules

service_at : (n : ℕ) → 1 ≤ n → n ≤ 8 → slice_get (services 8) (n - 1) ≡ Some (service n)
unfolding services
service_at n least most =
    let count : length (services 8) ≡ 8 = length-map-range_with_len service 1 8 in
    slice_get-get_or (services 8) (n - 1) (service 0) (omega (arith, least, most, count))
    ∙ ap Some (get_or-map-range_with_len service 1 8 (n - 1) n (service 0) (omega (arith, least, most)) (omega (arith, least)))

-- message n is the device's own
pub owned : (row : Subscriber) (n : ℕ) → 1 ≤ n → n ≤ 8 → IsOwn (service_charter row) row (record { 0 = 1 }, inputs.Message (service n))
unfolding service_charter
owned row n least most = (refl, service_at n least most)
