-- Messages that take memory where they are read, and what a reader of messages gave.
use Rattle.std.specs.Prelude.{◌≡◌, ℕ, Bool, true, false, Option, Some, None, Result, Ok, Err, IsOkAnd}
use Rattle.std.specs.List.{list_any}
use Rattle.echo_base.specs.declared.refusal.Refusal.{Refusal}
use Rattle.echo_base.specs.declared.refusal.Bad.{Bad}
use Rattle.echo_base.specs.Answer.{IsAnswerTaking}
use Rattle.s1ap_pdu.specs.declared.tables.MessageKind.{MessageKind}
use Rattle.s1ap_pdu.specs.declared.pdu.Pdu.{Pdu}
use Rattle.s1ap_ies.specs.Types as types
use Rattle.s1ap_pdu.specs.Values.{FieldValue, asn1_of}
use Rattle.s1ap_pdu.specs.Messages.{kind_of, values_of}
use Rattle.s1ap_pdu.specs.Rows.{Slots}
use Rattle.s1ap_pdu.specs.Messages.{message_from}

-- a field whose type takes memory: strings and lists
abbrev pub is_kept : Option FieldValue → Bool
is_kept None = false
is_kept (Some v) = types.takes_memory (asn1_of v)

-- does a message have such a field
abbrev pub takes_memory : Pdu → Bool
takes_memory p = list_any is_kept (values_of p)

-- What is made of slots from which a message comes: that message, or no memory where it takes some.
abbrev pub IsMade : {E : Type 0} → Result Pdu ℕ → Result Pdu E → Type 0
IsMade from (Ok p) = from ≡ Ok p
IsMade from (Err _) = IsOkAnd from (λ p. takes_memory p ≡ true)

-- What reading gives, up to the slots from which a message comes: the message's kind and its slots, or the refusal.
abbrev pub IsFound : Result Pdu Refusal → Result (MessageKind × Slots) Refusal → Type 0
IsFound read (Ok x) = (p : Pdu) × (read ≡ Ok p) × (message_from x.0 x.1 ≡ Ok p) × (kind_of p ≡ x.0)
IsFound read (Err e) = read ≡ Err e

-- What reading gives: the message, or the refusal; no memory only where it is a message that takes some.
abbrev pub IsRead : Result Pdu Refusal → Result Pdu Bad → Type 0
IsRead read result = IsAnswerTaking (λ p. takes_memory p ≡ true) read result
