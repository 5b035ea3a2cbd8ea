-- What reading gives of octets: a message of the values in its slots.
use Rattle.std.specs.Prelude.{ℕ, Bool, true, false, List, length, Result, Ok, Err}
use Rattle.echo_base.specs.declared.reason.Reason.TheVariants as reasons
use Rattle.echo_base.specs.declared.refusal.Refusal.{Refusal}
use Rattle.echo_base.specs.Answer.{◌>>=◌}
use Rattle.aper_fields.specs.Reading.{whole_at}
use Rattle.s1ap_pdu.specs.declared.pdu.Pdu.{Pdu}
use Rattle.s1ap_pdu.specs.Messages.{kind_of, is_downlink, message_from}
use Rattle.s1ap_pdu.specs.Grammar.{start}
use Rattle.s1ap_pdu.specs.Reading.{pdu_at}

-- a message, or the refusal at the end of the octets for the first IE that it needs and that is missing
abbrev pub at_end : ℕ → Result Pdu ℕ → Result Pdu Refusal
at_end end (Ok p) = Ok p
at_end end (Err id) = Err (record { reason = reasons.MissingIe id; place = end })

-- what reading gives of octets
unfoldable pub message_at : List ℕ → Result Pdu Refusal
message_at octets = whole_at pdu_at (start octets) >>= λ x. at_end (length octets) (message_from x.0 x.1)

-- the same of messages that an MME receives
abbrev pub received : Pdu → Bool → Result Pdu Refusal
received p true = Err (record { reason = reasons.WrongDirection; place = 1 })
received p false = Ok p

unfoldable pub uplink_at : List ℕ → Result Pdu Refusal
uplink_at octets = message_at octets >>= λ p. received p (is_downlink (kind_of p))
