-- A value of an enumeration is read exactly, with an extension mark and without: the index of a root, or behind an extension bit 1 one beyond the roots.
use Rattle.std.proofs.Common.{Ok, arith, rules}
use Rattle.aper_fields.specs.Reading.{enumerated_at}
use Rattle.aper_fields.specs.Format.{enumerated_in}
use Rattle.aper_fields.proofs.Formats.{gives_exactly}
use Rattle.aper_fields.proofs.ExactPieces.{enumerated_exactly}
use Rattle.aper_fields.proofs.reading.read_enum.Goals as goal

pub returns-then-not-extensible-clause-exact : goal.returns-then-not-extensible-clause-exact
unfolding enumerated_at
returns-then-not-extensible-clause-exact c = gives_exactly (enumerated_in c.args.roots c.args.extensible) (enumerated_at c.args.roots c.args.extensible) c.read_root.result c.args.r.now c.read_root.new.r (enumerated_exactly c.args.roots c.args.extensible c.requires.some (omega arith)) (search rules)

pub returns-in_err-read_bits-clause-exact : goal.returns-in_err-read_bits-clause-exact
unfolding enumerated_at
returns-in_err-read_bits-clause-exact c = gives_exactly (enumerated_in c.args.roots c.args.extensible) (enumerated_at c.args.roots c.args.extensible) c.from_residual.result c.args.r.now c.args.r.now (enumerated_exactly c.args.roots c.args.extensible c.requires.some (omega arith)) (search rules)

pub returns-in_err-value-clause-exact : goal.returns-in_err-value-clause-exact
unfolding enumerated_at
returns-in_err-value-clause-exact c = gives_exactly (enumerated_in c.args.roots c.args.extensible) (enumerated_at c.args.roots c.args.extensible) c.from_residual-in_err-value.result c.args.r.now c.args.r.now (enumerated_exactly c.args.roots c.args.extensible c.requires.some (omega arith)) (search rules)

pub returns-in_err-value-2-clause-exact : goal.returns-in_err-value-2-clause-exact
unfolding enumerated_at
returns-in_err-value-2-clause-exact c = gives_exactly (enumerated_in c.args.roots c.args.extensible) (enumerated_at c.args.roots c.args.extensible) c.from_residual-in_err-value-2.result c.args.r.now c.args.r.now (enumerated_exactly c.args.roots c.args.extensible c.requires.some (omega arith)) (search rules)

pub returns-in_ok-value-clause-exact : goal.returns-in_ok-value-clause-exact
unfolding enumerated_at
returns-in_ok-value-clause-exact c = gives_exactly (enumerated_in c.args.roots c.args.extensible) (enumerated_at c.args.roots c.args.extensible) (Ok c.in_ok-value.value) c.args.r.now c.read_root-then-branch-eq0.new.r (enumerated_exactly c.args.roots c.args.extensible c.requires.some (omega arith)) (search rules)

pub returns-in_ok-value-2-clause-exact : goal.returns-in_ok-value-2-clause-exact
unfolding enumerated_at
returns-in_ok-value-2-clause-exact c = gives_exactly (enumerated_in c.args.roots c.args.extensible) (enumerated_at c.args.roots c.args.extensible) (Ok c.in_ok-value-2.value) c.args.r.now c.read_extended.new.r (enumerated_exactly c.args.roots c.args.extensible c.requires.some (omega arith)) (search rules)
