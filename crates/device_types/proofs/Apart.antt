-- No two rows fit, of the step table and of a second connection.
use Rattle.std.proofs.Common.{◌==◌, ◌++◌, ℕ, ◌≤◌, Bool, true, false, not, ◌&&◌, ◌||◌, List, [], ◌∷◌, lit≤}
use Rattle.std.specs.List.{count_by}
use Rattle.std.specs.Str.{bytes_eq}
use Rattle.device_types.specs.declared.subscriber.Subscriber.{Subscriber}
use Rattle.device_types.specs.declared.session.Session.{Session}
use Rattle.device_types.specs.declared.session.Second.{Second}
use Rattle.device_types.specs.declared.session.Second.TheVariants as seconds
use Rattle.device_types.specs.declared.session.Stage.{Stage}
use Rattle.device_types.specs.declared.session.Stage.TheVariants as stages
use Rattle.device_types.specs.declared.message.Message.{Message}
use Rattle.device_types.specs.declared.message.Body.{Body}
use Rattle.device_types.specs.declared.message.Body.TheVariants as bodies
use Rattle.device_types.specs.declared.input.Answer.{Answer}
use Rattle.device_types.specs.declared.input.Answer.TheVariants as answers
use Rattle.device_types.specs.declared.input.Input.{Input}
use Rattle.device_types.specs.declared.input.Input.TheVariants as inputs
use Rattle.device_types.specs.Rule.{number, settled, here, forbidden, is_held, is_settled, is_gone, is_served, is_attaching}
use Rattle.device_types.specs.Second.{second_number, has_both, second_message, second_answer}
use Rattle.device_types.specs.Attach.{attach_message, attach_answer}
use Rattle.device_types.specs.Service.{service_message, service_answer}
use Rattle.device_types.specs.AreaUpdate.{area_message}
use Rattle.device_types.specs.Detach.{detach_message, detach_answer}
use Rattle.device_types.specs.StepTable.{step_table, fit_count}

-- how many of these tests are true
abbrev trues : List Bool → ℕ
trues = count_by (λ b. b)

-- a test, and another one with its opposite
opposite : (a b : Bool) → trues ((a && b) ∷ (a && not b) ∷ []) ≤ 1
opposite false b = lit≤ tt
opposite true false = lit≤ tt
opposite true true = lit≤ tt

one : (a : Bool) → trues (a ∷ []) ≤ 1
one false = lit≤ tt
one true = lit≤ tt

none : trues [] ≤ 1
none = lit≤ tt

-- a context is set up in three stages
context : (h : Bool) (stage : Stage) → trues ((h && (number stage == 6)) ∷ (h && (number stage == 8)) ∷ (h && (number stage == 10)) ∷ []) ≤ 1
context false stage = lit≤ tt
context true stages.Detached = lit≤ tt
context true _ = lit≤ tt

done : (h : Bool) (stage : Stage) → trues ((h && (number stage == 6)) ∷ (h && (number stage == 7)) ∷ []) ≤ 1
done false stage = lit≤ tt
done true stages.Detached = lit≤ tt
done true _ = lit≤ tt

refused : (h : Bool) (stage : Stage) → trues ((h && ((number stage == 6) || (number stage == 8))) ∷ (h && (number stage == 10)) ∷ []) ≤ 1
refused false stage = lit≤ tt
refused true stages.Detached = lit≤ tt
refused true _ = lit≤ tt

asked : (h : Bool) (stage : Stage) → trues ((h && is_attaching stage) ∷ (h && ((number stage == 10) || (number stage == 11))) ∷ []) ≤ 1
asked false stage = lit≤ tt
asked true stages.Detached = lit≤ tt
asked true _ = lit≤ tt

held_or_not : (stage : Stage) (registered : Bool) → trues (is_held stage registered ∷ (is_settled stage && not (is_held stage registered)) ∷ []) ≤ 1
held_or_not stages.Releasing false = lit≤ tt
held_or_not stages.Releasing true = lit≤ tt
held_or_not _ registered = lit≤ tt

area : (first : Bool) (stage : Stage) (registered h f : Bool) → trues ((first && is_held stage registered && f) ∷ (first && is_held stage registered && not f) ∷ (first && is_settled stage && not (is_held stage registered)) ∷ (not first && h && (number stage == 11) && f) ∷ (not first && h && (number stage == 11) && not f) ∷ []) ≤ 1
area true stages.Releasing false h f = lit≤ tt
area true stages.Releasing true h false = lit≤ tt
area true stages.Releasing true h true = lit≤ tt
area true _ registered h false = lit≤ tt
area true _ registered h true = lit≤ tt
area false stage registered h f = opposite (h && (number stage == 11)) f

left : (first : Bool) (stage : Stage) (registered h : Bool) → trues ((first && is_gone stage registered) ∷ (first && is_settled stage && not (is_gone stage registered)) ∷ (not first && h && is_served stage) ∷ []) ≤ 1
left true stages.Releasing false h = lit≤ tt
left true stages.Releasing true h = lit≤ tt
left true _ registered h = lit≤ tt
left false stage registered h = one (h && is_served stage)

-- a second connection is made by two answers
answered : (a : Bool) (second : Second) → trues ((a && (second_number second == 1)) ∷ (a && (second_number second == 3)) ∷ []) ≤ 1
answered false second = lit≤ tt
answered true seconds.None = lit≤ tt
answered true _ = lit≤ tt

accepted : (a : Bool) (second : Second) → trues ((a && (second_number second == 1)) ∷ (a && (second_number second == 2)) ∷ []) ≤ 1
accepted false second = lit≤ tt
accepted true seconds.None = lit≤ tt
accepted true _ = lit≤ tt

message : (row : Subscriber) (s : Session) (m : Message) (b : Body) → count_by (λ r. r.fits) (second_message row s m b ++ (attach_message row s m b ++ service_message s m b ++ area_message row s m b ++ detach_message s m b)) ≤ 1
message row s m (bodies.Attach plmn tac eea eia pti) = opposite (settled s) (forbidden row tac)
message row s m bodies.Service = held_or_not s.stage s.registered
message row s m (bodies.Area first plmn tac) = area first s.stage s.registered (here s m) (forbidden row tac)
message row s m (bodies.Detach first off) = left first s.stage s.registered (here s m)
message row s m (bodies.Response res) = opposite (here s m && (number s.stage == 2)) (bytes_eq res s.res)
message row s m bodies.Secured = one (here s m && (number s.stage == 3))
message row s m bodies.SecurityRefused = one (here s m && (number s.stage == 3))
message row s m bodies.AttachDone = done (here s m) s.stage
message row s m (bodies.ContextDone addr teid second) = context (here s m) s.stage
message row s m bodies.ContextFailed = refused (here s m) s.stage
message row s m (bodies.ReleaseAsked cause) = asked (here s m) s.stage
message row s m bodies.Released = one (here s m && (number s.stage == 13))
message row s m (bodies.Capability octets) = one (here s m && is_settled s.stage)
message row s m bodies.Data = one (number s.stage == 14)
message row s m (bodies.PdnRequest pti) = opposite (here s m && (number s.stage == 11) && (second_number s.second == 0)) (has_both row)
message row s m bodies.PdnAccept = accepted (here s m && (number s.stage == 11)) s.second
message row s m (bodies.SecondDone addr teid) = answered (here s m && (number s.stage == 11)) s.second
message row s m bodies.SecondRefused = none

answer : (row : Subscriber) (s : Session) (a : Answer) → count_by (λ r. r.fits) (second_answer s a ++ (attach_answer s a ++ service_answer s a ++ [] ++ detach_answer s a)) ≤ 1
answer row s (answers.Vectors rand autn res key) = one (number s.stage == 1)
answer row s (answers.Located dl ul) = one (number s.stage == 4)
answer row s answers.Purged = none
answer row s (answers.Created sgw teid ip) = one (number s.stage == 5)
answer row s answers.Modified = one (number s.stage == 9)
answer row s answers.Freed = one (number s.stage == 12)
answer row s answers.Deleted = one (number s.stage == 15)
answer row s (answers.SecondCreated sgw teid ip) = one (number s.stage == 16)
answer row s answers.SecondModified = one (number s.stage == 17)

pub apart : (row : Subscriber) (s : Session) (input : Input) → fit_count row s input ≤ 1
unfolding step_table
apart row s (inputs.Message m) = message row s m m.body
apart row s (inputs.Answer lane k a) = answer row s a
