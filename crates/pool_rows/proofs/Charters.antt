-- What a charter has for each of its devices.
use Rattle.std.proofs.Common.{◌≡◌, ◌≤◌, ◌-◌, ◌*◌, ℕ, List, length, Some, refl, sym, subst, arith}
use Rattle.std.specs.Prelude.{slice_get}
use Rattle.std.proofs.lemmas.Option.{slice_get_within}
use Rattle.device_types.specs.declared.effect.Effect.{Effect}
use Rattle.device_types.specs.declared.event.Lane.{Lane}
use Rattle.device_types.specs.declared.message.Message.{Message}
use Rattle.device_types.specs.declared.step.Entry.{Entry}
use Rattle.device_types.specs.declared.subscriber.Subscriber.{Subscriber}
use Rattle.device_types.specs.Alone.{alone_of}
use Rattle.device_types.specs.Journal.{effects_of, pushed_count}
use Rattle.device_types.proofs.Courses.{few_pushed}
use Rattle.session_store.specs.Charter.{CharterState, IsCharter, IsShort, alone_in}
use Rattle.session_store.specs.Rows.{IsDevice}
use Rattle.front_lock.proofs.Columns.{holds_of}
use Rattle.pool_rows.proofs.Closed.{got}

-- the row and the messages of a device
pub record HasLine (charter : CharterState) (d : ℕ) : Type 0 where
  pub row : Subscriber
  pub messages : List Message
  pub row_is : slice_get charter.rows (d - 1) ≡ Some row
  pub line_is : slice_get charter.lines (d - 1) ≡ Some messages
  pub short : length messages ≤ 100000

pub line_at : (charter : CharterState) (d : ℕ) → IsCharter charter → IsDevice (length charter.rows) d → HasLine charter d
line_at charter d is within =
    let each = is.each in
    let least = within.0 in
    let most = within.1 in
    let row = got charter.rows (d - 1) (omega arith) in
    let line = got charter.lines (d - 1) (omega arith) in
    record { row = row.0; messages = line.0; row_is = row.1; line_is = line.1; short = holds_of IsShort charter.lines (d - 1) line.0 is.short line.1 }

pub alone_is : (charter : CharterState) (d : ℕ) (l : HasLine charter d) → alone_in charter d ≡ alone_of l.row l.messages
alone_is charter d l = rw (l.row_is, l.line_is) refl

few_on : (row : Subscriber) (ms : List Message) (l : Lane) → pushed_count l (alone_of row ms) ≤ 4 * (3 * length ms)
unfolding alone_of
few_on row ms l = few_pushed row ms l (3 * length ms)

-- a lane has few effects
pub lane_few : (charter : CharterState) (d : ℕ) (l : Lane) → HasLine charter d → pushed_count l (alone_in charter d) ≤ 1200000
lane_few charter d l line =
    let few = few_on line.row line.messages l in
    let short = line.short in
    subst (λ (j : List Entry). pushed_count l j ≤ 1200000) (sym (alone_is charter d line)) (omega arith)

-- an effect of a lane has a number that a peer takes
pub number_low : (charter : CharterState) (d k : ℕ) (l : Lane) (effect : Effect) → HasLine charter d → slice_get (effects_of l (alone_in charter d)) (k - 1) ≡ Some effect → k ≤ 268435455
number_low charter d k l effect line found =
    let few = lane_few charter d l line in
    let within = slice_get_within (effects_of l (alone_in charter d)) (k - 1) effect found in
    omega arith
