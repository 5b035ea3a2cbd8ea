-- The rows of messages, as the program keeps them.
use Rattle.std.specs.Prelude.{Bool, true, false}
use Rattle.s1ap_pdu.specs.declared.tables.Sender.{Sender}
use Rattle.s1ap_pdu.specs.declared.tables.Sender.TheVariants.{Up, Down}

-- is it the MME that sends?
abbrev pub by_mme : Sender → Bool
by_mme Up = false
by_mme Down = true
