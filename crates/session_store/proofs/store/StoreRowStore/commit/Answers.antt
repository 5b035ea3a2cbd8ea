use Rattle.session_store.specs.Rows.{row_of}
use Rattle.session_store.proofs.Known.{commit_extends, known_after}
use Rattle.session_store.proofs.store.StoreRowStore.commit.Goals as goal

pub returns-clause-extends : goal.returns-clause-extends
returns-clause-extends g c =
    commit_extends c.args.self.now c.commit.new.self c.args.d.0 c.args.read c.args.entry c.commit.result c.commit.ensures.ok c.commit.ensures.err c.commit.ensures.others

pub returns-clause-ok : goal.returns-clause-ok
returns-clause-ok g c = known_after (row_of c.args.self.now.rows c.args.d.0) (row_of c.commit.new.self.rows c.args.d.0) c.args.read c.args.entry c.commit.result c.commit.ensures.ok
