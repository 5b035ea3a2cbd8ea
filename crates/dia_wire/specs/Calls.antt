-- The calls of a row and their answers as messages (3GPP TS 29.272, 7.2).
use Rattle.std.specs.Prelude.{ℕ, List, ◌++◌, min, codes}
use Rattle.std.specs.Fmt.{decimal}
use Rattle.device_types.specs.declared.effect.SubCall.{SubCall}
use Rattle.device_types.specs.declared.effect.SubCall.TheVariants as calls
use Rattle.device_types.specs.declared.input.Answer.{Answer}
use Rattle.device_types.specs.declared.input.Answer.TheVariants as answers
use Rattle.device_types.specs.declared.subscriber.Subscriber.{Subscriber}
use Rattle.dia_avps.specs.Values.{plmn_of}
use Rattle.dia_wire.specs.declared.dia.Dia.{Dia}
use Rattle.dia_wire.specs.declared.dia.DiaBody.{DiaBody}
use Rattle.dia_wire.specs.declared.dia.DiaBody.TheVariants as body
use Rattle.dia_wire.specs.Written.{IsVector}

-- the session of a device's call number k: who opened it, and two numbers (RFC 6733, 8.8)
abbrev pub session_text : ℕ → ℕ → List ℕ
session_text device k = codes "mme.echo;" ++ decimal device ++ codes ";" ++ decimal k

-- a message to a row's call number k, or its answer: both identifiers are k
abbrev pub numbered : Subscriber → ℕ → DiaBody → Dia
numbered row k b = record { hop = k; end = k; session = session_text row.number k; body = b }

-- ---- calls

abbrev pub ask_body : Subscriber → SubCall → DiaBody
ask_body row calls.Vectors = body.AskVectors row.imsi (plmn_of row.imsi)
ask_body row calls.Location = body.AskLocation row.imsi (plmn_of row.imsi)
ask_body row calls.Purge = body.AskPurge row.imsi

abbrev pub ask_message : Subscriber → ℕ → SubCall → Dia
ask_message row k call = numbered row k (ask_body row call)

-- ---- answers

-- an answer of the subscriber server, with a vector of its sizes
abbrev pub IsServerAnswer : Answer → Type 0
IsServerAnswer (answers.Vectors rand autn res key) = IsVector rand res autn key
IsServerAnswer (answers.Located dl ul) = Unit {0}
IsServerAnswer answers.Purged = Unit {0}
IsServerAnswer _ = ⊥

-- a bit rate as it fits into four octets
abbrev pub rate_of : ℕ → ℕ
rate_of rate = min rate 4294967295

abbrev pub reply_body : Answer → DiaBody
reply_body (answers.Vectors rand autn res key) = body.Vectors rand res autn key
reply_body (answers.Located dl ul) = body.Located (rate_of dl) (rate_of ul)
reply_body _ = body.Purged

abbrev pub reply_message : Subscriber → ℕ → Answer → Dia
reply_message row k answer = numbered row k (reply_body answer)
