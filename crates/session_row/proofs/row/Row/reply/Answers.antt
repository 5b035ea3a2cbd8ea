use Rattle.std.proofs.Common.{◌≤◌, ◌<◌, ◌+◌, ◌↔◌, IsSome, ap, ◌∙◌, subst}
use Rattle.device_types.specs.Journal.{taken_count, replies_of}
use Rattle.device_types.proofs.Journals.{length-replies}
use Rattle.session_row.specs.Row.{RowState, kept_reply}
use Rattle.session_row.proofs.Steps.{kept_is}
use Rattle.session_row.proofs.row.Row.reply.Goals as goal

pub returns-clause-value : goal.returns-clause-value
returns-clause-value g c =
    let journal = c.self.inside.entries.items in
    c.get.ensures.value g.row.W (replies_of journal) c.self.invariant.answered
    ∙ kept_is g.row.W journal c.args.n
    ∙ ap (λ (row : RowState). kept_reply g.row.W row.journal c.args.n) c.self.view_is

pub returns-clause-kept : goal.returns-clause-kept
returns-clause-kept g c =
    let journal = c.self.inside.entries.items in
    subst (λ taken. IsSome c.get.result ↔ ((1 ≤ c.args.n) × (c.args.n ≤ taken) × (taken < c.args.n + g.row.W)))
    (length-replies journal ∙ ap (λ (row : RowState). taken_count row.journal) c.self.view_is)
    (c.get.ensures.kept g.row.W (replies_of journal) c.self.invariant.answered)
