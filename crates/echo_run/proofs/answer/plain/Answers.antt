use Rattle.echo_run.proofs.answer.plain.Goals as goal

pub finals_of-requires : goal.finals_of-requires
finals_of-requires c = c.in_ok-admitted.ensures.short
