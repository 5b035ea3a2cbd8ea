-- What holds for each row of the subscriber table holds for this one.
use Rattle.attach_proc.proofs.on_message.Goals as goal

pub returns-in-Response : goal.returns-in-Response
returns-in-Response c = rw c.in-Response.is (c.response.ensures c.args.row.now)

pub returns-in-Secured : goal.returns-in-Secured
returns-in-Secured c = rw c.in-Secured.is (c.secured.ensures c.args.row.now)

pub returns-in-SecurityRefused : goal.returns-in-SecurityRefused
returns-in-SecurityRefused c = rw c.in-SecurityRefused.is (c.security_refused.ensures c.args.row.now)

pub returns-in-ContextDone : goal.returns-in-ContextDone
returns-in-ContextDone c = rw c.in-ContextDone.is (c.context_done.ensures c.args.row.now c.in-ContextDone.second)

pub returns-in-AttachDone : goal.returns-in-AttachDone
returns-in-AttachDone c = rw c.in-AttachDone.is (c.attach_done.ensures c.args.row.now)

pub returns-in-ContextFailed : goal.returns-in-ContextFailed
returns-in-ContextFailed c = rw c.in-ContextFailed.is (c.context_failed.ensures c.args.row.now)

pub returns-in-ReleaseAsked : goal.returns-in-ReleaseAsked
returns-in-ReleaseAsked c = rw c.in-ReleaseAsked.is (c.release_asked.ensures c.args.row.now)
