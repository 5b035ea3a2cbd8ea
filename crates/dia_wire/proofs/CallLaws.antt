-- The session of a call, and the answers of the subscriber server, can be written.
use Rattle.std.proofs.Common.{◌≡◌, ℕ, ◌+◌, ◌^◌, ◌<◌, ◌≤◌, ◌++◌, length, arith}
use Rattle.std.specs.Prelude.{codes}
use Rattle.std.specs.Fmt.{decimal}
use Rattle.std.proofs.lemmas.Fmt.{length-decimal-le}
use Rattle.std.proofs.lemmas.List.{length-append}
use Rattle.device_types.specs.declared.effect.SubCall.{SubCall}
use Rattle.device_types.specs.declared.effect.SubCall.TheVariants as calls
use Rattle.device_types.specs.declared.subscriber.Subscriber.{Subscriber}
use Rattle.device_types.specs.Subscriber.{IsSubscriber}
use Rattle.device_types.specs.PeerAnswer.{subscriber_answer}
use Rattle.dia_wire.specs.Calls.{session_text, IsServerAnswer}
use Rattle.dia_wire.specs.Written.{IsSession}

pub session_fits : (device k : ℕ) → device < 2 ^ 32 → k < 2 ^ 32 → IsSession (session_text device k)
session_fits device k d few =
    let n : length (decimal device) ≤ 10 = length-decimal-le 10 device (omega arith) (omega (arith, d)) (omega (arith, d)) in
    let m : length (decimal k) ≤ 10 = length-decimal-le 10 k (omega arith) (omega (arith, few)) (omega (arith, few)) in
    let whole : length (session_text device k) ≡ 10 + (length (decimal device) + length (decimal k)) = omega (arith, length-append (decimal device ++ codes ";") (decimal k), length-append (decimal device) (codes ";")) in
    (omega arith, omega arith)

-- what the subscriber server answers by a row is an answer of it
pub answers_so : (row : Subscriber) (call : SubCall) → IsSubscriber row → IsServerAnswer (subscriber_answer row call)
answers_so row calls.Vectors is = (is.rand, is.res_least, is.res_most, is.autn, is.key)
answers_so row calls.Location is = tt
answers_so row calls.Purge is = tt
