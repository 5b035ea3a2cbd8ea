-- What the gateway keeps: each call with the number of calls before it that create a session.
use Rattle.std.specs.Prelude.{◌≡◌, ℕ, ◌+◌, List, map, take, Some, slice_get, if◌then◌else◌}
use Rattle.device_types.specs.declared.effect.Effect.{Effect}
use Rattle.device_types.specs.declared.effect.Effect.TheVariants as effects
use Rattle.device_types.specs.declared.effect.GwCall.{GwCall}
use Rattle.device_types.specs.PeerAnswer.{is_create, create_count}
use Rattle.peer_calls.specs.Calls.{calls_of}
use Rattle.peer_gateway.specs.declared.counted.Counted.{Counted}

abbrev pub call_in : Counted → GwCall
call_in counted = counted.call

-- the calls of each device
abbrev pub calls_in : List (List Counted) → List (List GwCall)
calls_in lists = map (map call_in) lists

abbrev pub effect_in : Counted → Effect
effect_in counted = effects.Gateway counted.call

-- how many of the calls up to this one create a session
abbrev pub creates_with : Counted → ℕ
creates_with counted = if is_create (effect_in counted) then counted.creates + 1 else counted.creates

-- each call of a device stands with the number of those before it that create a session
pub record IsCounted (calls : List Counted) : Type 0 where
  pub at : (i : ℕ) (x : Counted) → slice_get calls i ≡ Some x → x.creates ≡ create_count (map effect_in (take i calls))

abbrev pub AreCounted : List (List Counted) → Type 0
AreCounted lists = (d : ℕ) → IsCounted (calls_of lists d)
