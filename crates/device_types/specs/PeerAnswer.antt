-- What a peer answers to a call: a function of the subscriber's row and of the calls on that lane, the asked one last.
use Rattle.std.specs.Prelude.{ℕ, ◌+◌, ◌-◌, Bool, true, false, List, length, take, slice_get, unwrap_or}
use Rattle.std.specs.List.{count_by}
use Rattle.std.specs.Option.{option_map_or}
use Rattle.device_types.specs.declared.effect.Effect.{Effect}
use Rattle.device_types.specs.declared.effect.Effect.TheVariants as effects
use Rattle.device_types.specs.declared.effect.GwCall.{GwCall}
use Rattle.device_types.specs.declared.effect.GwCall.TheVariants as gateway
use Rattle.device_types.specs.declared.effect.SubCall.{SubCall}
use Rattle.device_types.specs.declared.effect.SubCall.TheVariants as subscriber
use Rattle.device_types.specs.declared.input.Answer.{Answer}
use Rattle.device_types.specs.declared.input.Answer.TheVariants as answers
use Rattle.device_types.specs.declared.subscriber.Subscriber.{Subscriber}

abbrev pub is_create : Effect → Bool
is_create (effects.Gateway gateway.Create) = true
is_create (effects.Gateway gateway.SecondCreate) = true
is_create _ = false

-- how many sessions these calls create
abbrev pub create_count : List Effect → ℕ
create_count calls = count_by is_create calls

-- the gateway's, behind so many calls that create: each new session has a tunnel of its own
abbrev pub gateway_answer : Subscriber → ℕ → GwCall → Answer
gateway_answer row creates gateway.Create = answers.Created row.sgw (row.teid + creates) row.ip
gateway_answer row creates (gateway.Modify addr teid) = answers.Modified
gateway_answer row creates gateway.Release = answers.Freed
gateway_answer row creates gateway.Delete = answers.Deleted
gateway_answer row creates gateway.SecondCreate = answers.SecondCreated row.sgw (row.teid + creates) (unwrap_or row.ip2 0)
gateway_answer row creates (gateway.SecondModify addr teid) = answers.SecondModified

-- the subscriber server's
abbrev pub subscriber_answer : Subscriber → SubCall → Answer
subscriber_answer row subscriber.Vectors = answers.Vectors row.rand row.autn row.res row.key
subscriber_answer row subscriber.Location = answers.Located row.ambr_dl row.ambr_ul
subscriber_answer row subscriber.Purge = answers.Purged

-- to a call behind so many that create; nothing answers a message to the device
abbrev pub answer_to : Subscriber → ℕ → Effect → Answer
answer_to row creates (effects.Gateway call) = gateway_answer row creates call
answer_to row creates (effects.Subscriber call) = subscriber_answer row call
answer_to row creates (effects.Down down) = answers.Purged

-- to the last of these calls
abbrev pub answer_of : Subscriber → List Effect → Answer
answer_of row calls = option_map_or (answer_to row (create_count (take (length calls - 1) calls))) (slice_get calls (length calls - 1)) answers.Purged
