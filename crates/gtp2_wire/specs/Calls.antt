-- The calls of a row and their answers as messages (3GPP TS 29.274, 7.2).
use Rattle.std.specs.Prelude.{ℕ, ◌/◌, List, [], IsSome, unwrap_or}
use Rattle.device_types.specs.declared.effect.GwCall.{GwCall}
use Rattle.device_types.specs.declared.effect.GwCall.TheVariants as calls
use Rattle.device_types.specs.declared.input.Answer.{Answer}
use Rattle.device_types.specs.declared.input.Answer.TheVariants as answers
use Rattle.device_types.specs.declared.subscriber.Subscriber.{Subscriber}
use Rattle.gtp2_wire.specs.declared.gtp.Gtp.{Gtp}
use Rattle.gtp2_wire.specs.declared.gtp.GtpBody.{GtpBody}
use Rattle.gtp2_wire.specs.declared.gtp.GtpBody.TheVariants as body

-- the address of the MME
abbrev pub mme_address : ℕ
mme_address = 0x0a000001

-- ---- calls

-- the first message of a device to its gateway has no receiver's TEID yet
abbrev pub call_teid : Subscriber → GwCall → ℕ
call_teid row calls.Create = 0
call_teid row call = row.number

-- the session of a bearer and an access point name, with the row's bit rates in kbit/s
abbrev pub create_body : Subscriber → ℕ → List ℕ → GtpBody
create_body row ebi apn = body.Create row.imsi ebi apn (row.ambr_ul / 1000) (row.ambr_dl / 1000) mme_address row.number

abbrev pub call_body : Subscriber → GwCall → GtpBody
call_body row calls.Create = create_body row 5 row.apn
call_body row (calls.Modify addr teid) = body.Modify 5 addr teid
call_body row calls.Release = body.Release
call_body row calls.Delete = body.Delete 5
call_body row calls.SecondCreate = create_body row 6 (unwrap_or row.apn2 [])
call_body row (calls.SecondModify addr teid) = body.Modify 6 addr teid

abbrev pub call_message : Subscriber → ℕ → GwCall → Gtp
call_message row k call = record { teid = call_teid row call; seq = k; body = call_body row call }

-- a second session has an access point name of its own
abbrev pub HasName : Subscriber → GwCall → Type 0
HasName row calls.SecondCreate = IsSome row.apn2
HasName row _ = Unit {0}

-- ---- answers

-- the answers of a gateway
abbrev pub IsGatewayAnswer : Answer → Type 0
IsGatewayAnswer (answers.Created sgw teid ip) = Unit {0}
IsGatewayAnswer answers.Modified = Unit {0}
IsGatewayAnswer answers.Freed = Unit {0}
IsGatewayAnswer answers.Deleted = Unit {0}
IsGatewayAnswer (answers.SecondCreated sgw teid ip) = Unit {0}
IsGatewayAnswer answers.SecondModified = Unit {0}
IsGatewayAnswer _ = ⊥

abbrev pub answer_body : Subscriber → Answer → GtpBody
answer_body row (answers.Created sgw teid ip) = body.Created row.sgw row.number ip 5 sgw teid
answer_body row answers.Modified = body.Modified 5
answer_body row answers.Freed = body.Released
answer_body row (answers.SecondCreated sgw teid ip) = body.Created row.sgw row.number ip 6 sgw teid
answer_body row answers.SecondModified = body.Modified 6
answer_body row _ = body.Deleted

abbrev pub answer_message : Subscriber → ℕ → Answer → Gtp
answer_message row k answer = record { teid = row.number; seq = k; body = answer_body row answer }
