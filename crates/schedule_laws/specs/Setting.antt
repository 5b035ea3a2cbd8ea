-- What a schedule runs on: the subscribers' rows, the messages of each device, and the number of replicas.
use Rattle.std.specs.Prelude.{ℕ, ◌-◌, List, [], length, None, slice_index_or}
use Rattle.device_types.specs.declared.message.Message.{Message}
use Rattle.device_types.specs.declared.step.Entry.{Entry}
use Rattle.device_types.specs.declared.subscriber.Subscriber.{Subscriber}
use Rattle.device_types.specs.Alone.{alone_to, alone_of}

-- rows and lines of the book stand in the order of the devices, which are numbered from 1; so are the replicas
pub record Setting : Type 0 where
  pub rows : List Subscriber
  pub book : List (List Message)
  pub replicas : ℕ

-- how many replies a row keeps, and how far an agent sends ahead of the last acknowledged message
abbrev pub window : ℕ
window = 4

-- the row where there is none
abbrev pub no_row : Subscriber
no_row = record { number = 0; imsi = 0; tmsi = 0; rand = []; autn = []; res = []; key = []; apn = []; ip = 0; sgw = 0; teid = 0; ambr_dl = 0; ambr_ul = 0; forbidden = []; apn2 = None; ip2 = None }

-- the row of device d
abbrev pub row_of : Setting → ℕ → Subscriber
row_of s d = slice_index_or s.rows (d - 1) no_row

-- the messages of device d, in order
abbrev pub messages_of : Setting → ℕ → List Message
messages_of s d = slice_index_or s.book (d - 1) []

-- how many messages device d has
abbrev pub message_count : Setting → ℕ → ℕ
message_count s d = length (messages_of s d)

-- the first v entries of the machine of device d that never fails
abbrev pub entries_to : Setting → ℕ → ℕ → List Entry
entries_to s d v = alone_to (row_of s d) (messages_of s d) v

-- all its entries
abbrev pub entries_of : Setting → ℕ → List Entry
entries_of s d = alone_of (row_of s d) (messages_of s d)
