use Rattle.std.proofs.Common.{◌≡◌, ℕ, List, take, sym, ap, ◌∙◌, subst, lit<, arith}
use Rattle.std.specs.BTreeMap.{is_at}
use Rattle.std.specs.Ordering.{nat_cmp}
use Rattle.std.proofs.lemmas.List.{take_all}
use Rattle.std.proofs.lemmas.Map.Steps.{set_value_same}
use Rattle.device_types.specs.declared.look.Look.TheVariants.{Ready}
use Rattle.device_types.specs.declared.step.Entry.{Entry}
use Rattle.session_row.specs.Row.{RowState, look_at}
use Rattle.session_store.specs.Law.{window, IsLawful, CanFollow}
use Rattle.session_store.specs.Shards.{ShardState, IsHere, row_in, journal_in, with_row, IsShard}
use Rattle.session_store.proofs.Rows.{commit_lawful, law_can_follow}
use Rattle.session_store.proofs.Shards.{found, stays_shard, on_err}
use Rattle.session_store.proofs.shard.Shard.commit.Goals as goal

pub commit-requires : goal.commit-requires
commit-requires g c =
    let rows = c.self.inside.rows.entries in
    let d = c.args.d.0 in
    let old = c.in-Some.row.now in
    let charter = g.L.RowLaw.charter c.self.inside.law in
    let follows = g.L.RowLaw.follows charter d in
    let here = subst (λ (s : ShardState). IsHere s d) (sym c.self.view_is) c.requires.here in
    let may = subst (λ (s : ShardState). g.L.RowLaw.follows s.charter d (take c.args.read (journal_in s.rows d)) c.args.entry) (sym c.self.view_is) c.requires.law in
    let row : row_in rows d ≡ old = found rows d old c.in-Some.ensures.value in
    let can = law_can_follow follows (journal_in rows d) c.args.read c.args.entry (λ J. g.met.L.RowLaw.can_follow charter d J c.args.entry c.self.invariant.in_form) (c.self.invariant.lawful d here) may in
    let there = subst (λ (r : RowState). CanFollow (take c.args.read r.journal) c.args.entry) row can in (
      lit< tt,
      (
        there.session,
        (
          there.calls,
          λ e.
              subst (λ (J : List Entry). look_at window J c.args.entry.input ≡ Ready) (take_all c.args.read old.journal (omega (arith, e))) there.ready,
        ),
      ),
    )

pub invariant_of-self : goal.invariant_of-self
invariant_of-self g c =
    let rows = c.self.inside.rows.entries in
    let d = c.args.d.0 in
    let old = c.in-Some.row.now in
    let now = c.commit.new.self in
    let charter = g.L.RowLaw.charter c.self.inside.law in
    let follows = g.L.RowLaw.follows charter in
    let shard : ShardState = record { charter = charter; number = c.self.inside.number; devices = c.self.inside.devices; rows = rows } in
    let here : IsHere shard d = subst (λ (s : ShardState). IsHere s d) (sym c.self.view_is) c.requires.here in
    let row : row_in rows d ≡ old = found rows d old c.in-Some.ensures.value in
    let was : IsLawful (follows d) old.journal = subst (λ (r : RowState). IsLawful (follows d) r.journal) row (c.self.invariant.lawful d here) in
    let holds = c.get_mut.follows.holds now in
    let may = subst (λ (s : ShardState). g.L.RowLaw.follows s.charter d (take c.args.read (journal_in s.rows d)) c.args.entry) (sym c.self.view_is) c.requires.law in
    let allowed = subst (λ (r : RowState). follows d (take c.args.read r.journal) c.args.entry) row may in
    subst (λ (xs : List (ℕ × RowState)). IsShard follows (record shard { rows = xs })) (sym holds.0)
    (stays_shard follows shard d now c.self.invariant here (commit_lawful (follows d) old now c.args.read c.args.entry c.commit.result c.commit.ensures.ok c.commit.ensures.err was allowed))

pub returns-clause-lawful : goal.returns-clause-lawful
returns-clause-lawful g c = (invariant_of-self g c).lawful

pub returns-clause-err : goal.returns-clause-err
returns-clause-err g c =
    let rows = c.self.inside.rows.entries in
    let d = c.args.d.0 in
    let old = c.in-Some.row.now in
    let now = c.commit.new.self in
    let charter = g.L.RowLaw.charter c.self.inside.law in
    let shard : ShardState = record { charter = charter; number = c.self.inside.number; devices = c.self.inside.devices; rows = rows } in
    on_err (now ≡ old) (record shard { rows = (c.get_mut.follows.lender now).entries } ≡ c.args.self.now) c.commit.result
    (λ e. ap (λ (xs : List (ℕ × RowState)). record shard { rows = xs }) ((c.get_mut.follows.holds now).0 ∙ ap (with_row rows d) e ∙ set_value_same (is_at (nat_cmp d)) rows old (sym c.in-Some.ensures.value)) ∙ c.self.view_is) c.commit.ensures.err
