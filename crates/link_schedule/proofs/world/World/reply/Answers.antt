use Rattle.std.proofs.Common.{◌≡◌, ◌≤◌, ◌-◌, Option, Some, None, set, refl, sym, ap, ◌∙◌, subst}
use Rattle.std.specs.Prelude.{IsSome}
use Rattle.device_types.specs.declared.event.Event.TheVariants.{Reply}
use Rattle.device_types.specs.declared.event.EventAnswer.TheVariants as told
use Rattle.device_types.specs.declared.look.Look.TheVariants as look
use Rattle.device_types.specs.declared.step.Reply.{Reply as ReplyValue}
use Rattle.device_types.specs.Journal.{taken_count}
use Rattle.device_types.specs.Look.{look_of}
use Rattle.agent_resend.specs.Window.{reply_taken, after_reply}
use Rattle.session_store.specs.declared.asked.Peeked.{Peeked}
use Rattle.session_store.specs.Rows.{journal_of}
use Rattle.session_store.specs.Seen.{IsRepeat}
use Rattle.schedule_laws.specs.Answer.{answer, history}
use Rattle.schedule_laws.specs.Counts.{journal}
use Rattle.link_schedule.specs.Told.{reply_answer}
use Rattle.link_schedule.specs.View.{view_of}
use Rattle.link_schedule.proofs.Calls.{replies}
use Rattle.link_schedule.proofs.Noted.{ComesTo, event_in, notes, notes_void, notes_quiet, gives}
use Rattle.link_schedule.proofs.Replied.{replied_old, replied_void, replied_some, no_repeat}
use Rattle.link_schedule.proofs.world.World.reply.Goals as goal
use Rattle.link_schedule.proofs.world.World.reply.Goals.{In-Settled, In_default-reply, In-Some, After-take_reply-taken}

given_old : (c : In-Settled) → told.Old c.args.n ≡ answer (view_of c.self.inside).setting (history (view_of c.self.inside).setting (view_of c.self.inside).events) (Reply c.args.d c.args.n)
given_old c =
    let w = view_of c.self.inside in
    let is = c.self.invariant.world in
    let i = event_in c.args.self.now w (Reply c.args.d c.args.n) c.self.view_is c.requires in
    let seen = ap (λ (x : Peeked). x.look) c.in_ok-look.ensures.ok in
    let said : look_of 4 (journal_of w.parts.rows c.args.d.0) c.args.n ≡ look.Settled c.in-Settled.field-0 = cc in
    replied_old w.setting (history w.setting w.events) w.parts c.args.d c.args.n c.in-Settled.field-0 is.lawful is.parts i.0 i.1 said

pub invariant_of-self-in-Settled : goal.invariant_of-self-in-Settled
invariant_of-self-in-Settled c =
    let w = view_of c.self.inside in
    let e = Reply c.args.d c.args.n in
    let i = event_in c.args.self.now w e c.self.view_is c.requires in
    let given = given_old (goal.at.invariant_of-self-in-Settled c).In-Settled in
    rw c.peek.ensures.same
    (record {
      charter = c.self.invariant.charter;
      caches = c.self.invariant.caches;
      world = notes_quiet w e (told.Old c.args.n) _ c.noted.ensures.events c.self.invariant.world i given refl (λ r. refl);
    })

pub returns-in-Settled-clause-ok : goal.returns-in-Settled-clause-ok
returns-in-Settled-clause-ok c =
    let w = view_of c.self.inside in
    let given = given_old (goal.at.returns-in-Settled-clause-ok c).In-Settled in
    rw c.noted.ensures.answer (gives c.args.self.now w (Reply c.args.d c.args.n) (told.Old c.args.n) _ _ c.self.view_is c.noted.ensures.events given)

given_void : (c : In_default-reply) → told.VoidLink ≡ answer (view_of c.self.inside).setting (history (view_of c.self.inside).setting (view_of c.self.inside).events) (Reply c.args.d c.args.n)
given_void c =
    let w = view_of c.self.inside in
    let is = c.self.invariant.world in
    let i = event_in c.args.self.now w (Reply c.args.d c.args.n) c.self.view_is c.requires in
    let seen = ap (λ (x : Peeked). x.look) c.in_ok-look.ensures.ok in
    let none : c.in_ok-look.field-0.reply ≡ None = cc in
    replied_void w.setting (history w.setting w.events) w.parts c.args.d c.args.n is.lawful is.parts i.0 i.1
    (λ m said. c.in_default.not-Settled m (let e : c.in_ok-look.field-0.look ≡ look.Settled m = cc in e))
    (λ repeat. no_repeat c.in_ok-look.field-0.reply c.in_ok-look.field-0.look c.in_ok-look.ensures.told none (subst IsRepeat (sym seen) repeat))

pub invariant_of-self-in_default-reply : goal.invariant_of-self-in_default-reply
invariant_of-self-in_default-reply c =
    let w = view_of c.self.inside in
    let e = Reply c.args.d c.args.n in
    let i = event_in c.args.self.now w e c.self.view_is c.requires in
    let given = given_void (goal.at.invariant_of-self-in_default-reply c).In_default-reply in
    rw c.peek.ensures.same
    (record {
      charter = c.self.invariant.charter;
      caches = c.self.invariant.caches;
      world = notes_void w e told.VoidLink _ c.noted-in_default-reply.ensures.events c.self.invariant.world i given refl;
    })

pub returns-in_default-reply : goal.returns-in_default-reply
returns-in_default-reply c =
    let w = view_of c.self.inside in
    let given = given_void (goal.at.returns-in_default-reply c).In_default-reply in
    record {
      ok = rw c.noted-in_default-reply.ensures.answer (gives c.args.self.now w (Reply c.args.d c.args.n) told.VoidLink _ _ c.self.view_is c.noted-in_default-reply.ensures.events given);
      err = tt;
    }

replied : (c : In-Some) → (c.in-Some.reply.number ≡ c.args.n) × (c.args.n ≤ taken_count (journal (view_of c.self.inside).setting c.args.d.0 (history (view_of c.self.inside).setting (view_of c.self.inside).events)))
replied c =
    let w = view_of c.self.inside in
    let is = c.self.invariant.world in
    let i = event_in c.args.self.now w (Reply c.args.d c.args.n) c.self.view_is c.requires in
    let J = journal_of w.parts.rows c.args.d.0 in
    let seen = ap (λ (x : Peeked). x.look) c.in_ok-look.ensures.ok in
    let kept = ap (λ (x : Peeked). x.reply) c.in_ok-look.ensures.ok in
    let some : c.in_ok-look.field-0.reply ≡ Some c.in-Some.reply = cc in
    let repeat = c.in_ok-look.ensures.told.0 (subst (λ (x : Option ReplyValue). IsSome x) (sym some) refl) in
    replied_some w.setting (history w.setting w.events) w.parts c.args.d c.args.n c.in-Some.reply is.parts i.0 i.1 (subst IsRepeat seen repeat) (sym some ∙ kept)

agreed : (c : After-take_reply-taken) → let w = view_of c.self.inside in let a = reply_answer c.args.n (reply_taken c.index_mut.result.now c.args.n) in
    (c.in-Some.reply.number ≡ c.args.n) × (c.args.n ≤ taken_count (journal w.setting c.args.d.0 (history w.setting w.events))) → (reply_answer c.args.n c.take_reply-taken.result ≡ a) × ComesTo w (Reply c.args.d c.args.n) a (record w.parts { windows = set w.parts.windows (c.args.d.0 - 1) c.take_reply-taken.new.self })
agreed c r =
    let w = view_of c.self.inside in
    let is = c.self.invariant.world in
    let n = c.args.n in
    let i = event_in c.args.self.now w (Reply c.args.d n) c.self.view_is c.requires in
    let was = c.index_mut.result.now in
    let now = c.take_reply-taken.new.self in
    let value : c.take_reply-taken.result ≡ reply_taken was n = c.take_reply-taken.ensures.value ∙ ap (reply_taken was) r.0 in
    let state : now ≡ after_reply was (reply_taken was n) = c.take_reply-taken.ensures.state ∙ ap (after_reply was) value in
    let both = replies w.setting (history w.setting w.events) w.parts c.args.d n was now is.lawful i.1 r.1 (rw (← c.index-index.ensures) c.index_mut.ensures.value) state i.0 is.parts in
    (ap (reply_answer n) value, record { event = i; given = both.0; parts = both.1 })

pub invariant_of-self-2 : goal.invariant_of-self-2
invariant_of-self-2 c =
    let w = view_of c.self.inside in
    let n = c.args.n in
    let path = goal.at.invariant_of-self-2 c in
    let made = (agreed path.After-take_reply-taken (replied path.In-Some)).1 in
    rw (c.peek.ensures.same, c.index-index.ensures)
    (record {
      charter = c.self.invariant.charter;
      caches = c.self.invariant.caches;
      world = notes w (Reply c.args.d n) (reply_answer n (reply_taken c.index_mut.result.now n)) _ _ c.noted-2.ensures.events c.self.invariant.world made.event made.given made.parts;
    })

pub returns : goal.returns
returns c =
    let w = view_of c.self.inside in
    let n = c.args.n in
    let path = goal.at.returns c in
    let made = agreed path.After-take_reply-taken (replied path.In-Some) in
    let same : c.noted-2.result ≡ reply_answer n (reply_taken c.index_mut.result.now n) = c.noted-2.ensures.answer ∙ c.reply_answer.ensures ∙ made.0 in
    record {
      ok = rw (same, c.index-index.ensures) (gives c.args.self.now w (Reply c.args.d n) (reply_answer n (reply_taken c.index_mut.result.now n)) _ _ c.self.view_is c.noted-2.ensures.events made.1.given);
      err = tt;
    }
