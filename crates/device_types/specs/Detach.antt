-- The rows of detach (TS 23.401, 5.3.8.2).
use Rattle.std.specs.Prelude.{Bool, false, not, if◌then◌else◌, ◌&&◌, List, [], ◌∷◌}
use Rattle.device_types.specs.declared.effect.GwCall.TheVariants as gateway
use Rattle.device_types.specs.declared.effect.SubCall.TheVariants as subscriber
use Rattle.device_types.specs.declared.input.Answer.{Answer}
use Rattle.device_types.specs.declared.input.Answer.TheVariants as answers
use Rattle.device_types.specs.declared.message.Body.{Body}
use Rattle.device_types.specs.declared.message.Body.TheVariants as bodies
use Rattle.device_types.specs.declared.message.Message.{Message}
use Rattle.device_types.specs.declared.nas_out.NasOut.TheVariants.{DetachAccept}
use Rattle.device_types.specs.declared.session.Bearer.{Bearer}
use Rattle.device_types.specs.declared.session.Bearer.TheVariants as bearers
use Rattle.device_types.specs.declared.session.Session.{Session}
use Rattle.device_types.specs.declared.session.Stage.TheVariants.{AwaitDelete}
use Rattle.device_types.specs.Acts.{Act, run, sets, enters, tells_unless, tells_to, releases, calls, asks, moves_connection, drops_ue, detach}
use Rattle.device_types.specs.Rule.{Rule, rule, at, settled, gone, served, here}

-- its session at the gateway is deleted first
abbrev pub deletes : Bool → List Act
deletes off = sets (λ t. record t { cause = detach; registered = false; off = off }) ∷ calls gateway.Delete ∷ enters AwaitDelete ∷ []

abbrev pub leaves_at : Bearer → Bool → List Act
leaves_at bearers.None off = tells_unless off DetachAccept ∷ drops_ue detach ∷ []
leaves_at bearers.Made off = deletes off
leaves_at bearers.Active off = deletes off

-- the device leaves, switched off or not: what follows by its bearer
abbrev pub leaves : Bool → Act
leaves off s = run (leaves_at s.bearer off) s

abbrev pub detach_message : Session → Message → Body → List Rule
-- first, on any connection; then later ones, on the device's own
detach_message s m (bodies.Detach first off) =
    rule (first && gone s) (if off then [] else (tells_to m.station m.enb DetachAccept ∷ []))
    ∷ rule (first && settled s && not (gone s)) (moves_connection m.station m.enb ∷ leaves off ∷ [])
    ∷ rule (not first && here s m && served s) (leaves off ∷ [])
    ∷ []
detach_message s m _ = []

abbrev pub detach_answer : Session → Answer → List Rule
detach_answer s answers.Deleted =
    rule (at AwaitDelete s) (sets (λ t. record t { bearer = bearers.None }) ∷ asks subscriber.Purge ∷ tells_unless s.off DetachAccept ∷ releases ∷ []) ∷ []
detach_answer s _ = []
