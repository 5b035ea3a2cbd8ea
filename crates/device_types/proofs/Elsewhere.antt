-- A message that did not come on the session's connection fits no row, but for those with which a device comes.
use Rattle.std.proofs.Common.{◌≡◌, ℕ, ◌==◌, ◌&&◌, ◌++◌, Bool, true, false, refl, arith}
use Rattle.std.proofs.lemmas.Grind.{common_steps}
use Rattle.std.specs.List.{count_by}
use Rattle.device_types.specs.declared.input.Input.TheVariants as inputs
use Rattle.device_types.specs.declared.message.Body.{Body}
use Rattle.device_types.specs.declared.message.Body.TheVariants as bodies
use Rattle.device_types.specs.declared.message.Message.{Message}
use Rattle.device_types.specs.declared.session.Link.{Link}
use Rattle.device_types.specs.declared.session.Link.TheVariants.{Off, On}
use Rattle.device_types.specs.declared.session.Session.{Session}
use Rattle.device_types.specs.declared.subscriber.Subscriber.{Subscriber}
use Rattle.device_types.specs.AreaUpdate.{area_message}
use Rattle.device_types.specs.Attach.{attach_message}
use Rattle.device_types.specs.Detach.{detach_message}
use Rattle.device_types.specs.Rule.{here, is_pair}
use Rattle.device_types.specs.Second.{second_message}
use Rattle.device_types.specs.Service.{service_message}
use Rattle.device_types.specs.StepLaws.{comes, IsElsewhere}
use Rattle.device_types.specs.StepTable.{fit_count, step_table}

same : (n m : ℕ) → (n == m) ≡ true → n ≡ m
same n m h = grind (arith, common_steps)

-- two numbers that are both the same make one connection
both : (a b station enb : ℕ) (x y : Bool) → (a == station) ≡ x → (b == enb) ≡ y → (On a b ≡ On station enb → ⊥) → (x && y) ≡ false
both a b station enb false y f g apart = refl
both a b station enb true false f g apart = refl
both a b station enb true true f g apart = absurd (apart (rw (same a station f, same b enb g) refl))

no_pair : (link : Link) (station enb : ℕ) → (link ≡ On station enb → ⊥) → is_pair link station enb ≡ false
no_pair Off station enb apart = refl
no_pair (On a b) station enb apart = both a b station enb (a == station) (b == enb) refl refl apart

unfit : (row : Subscriber) (s : Session) (m : Message) (b : Body) → here s m ≡ false → comes b ≡ false → count_by (λ r. r.fits) (second_message row s m b ++ (attach_message row s m b ++ service_message s m b ++ area_message row s m b ++ detach_message s m b)) ≡ 0
unfit row s m (bodies.Attach plmn tac eea eia pti) h c = absurd (cc)
unfit row s m bodies.Service h c = absurd (cc)
unfit row s m (bodies.Area true plmn tac) h c = absurd (cc)
unfit row s m (bodies.Area false plmn tac) h c = rw h refl
unfit row s m (bodies.Detach true off) h c = absurd (cc)
unfit row s m (bodies.Detach false off) h c = rw h refl
unfit row s m (bodies.Response res) h c = rw h refl
unfit row s m bodies.Secured h c = rw h refl
unfit row s m bodies.SecurityRefused h c = rw h refl
unfit row s m bodies.AttachDone h c = rw h refl
unfit row s m (bodies.ContextDone addr teid second) h c = rw h refl
unfit row s m bodies.ContextFailed h c = rw h refl
unfit row s m (bodies.ReleaseAsked cause) h c = rw h refl
unfit row s m bodies.Released h c = rw h refl
unfit row s m (bodies.Capability octets) h c = rw h refl
unfit row s m bodies.Data h c = absurd (cc)
unfit row s m (bodies.PdnRequest pti) h c = rw h refl
unfit row s m bodies.PdnAccept h c = rw h refl
unfit row s m (bodies.SecondDone addr teid) h c = rw h refl
unfit row s m bodies.SecondRefused h c = refl

pub fits_none : (row : Subscriber) (s : Session) (m : Message) → IsElsewhere s m → comes m.body ≡ false → fit_count row s (inputs.Message m) ≡ 0
unfolding step_table
fits_none row s m elsewhere c = unfit row s m m.body (no_pair s.link m.station m.enb elsewhere) c
