use Rattle.echo_base.proofs.Fields.{octet_exactly, octets_exactly, number_exactly, counted_exactly, long_counted_exactly, number_back, counted_back, long_counted_back}
use Rattle.echo_base.proofs.laws.fields_are_exact.Goals as goal

pub returns-clause-octet : goal.returns-clause-octet
returns-clause-octet c = octet_exactly

pub returns-clause-octets : goal.returns-clause-octets
returns-clause-octets c = octets_exactly

pub returns-clause-number : goal.returns-clause-number
returns-clause-number c = number_exactly

pub returns-clause-counted : goal.returns-clause-counted
returns-clause-counted c = counted_exactly

pub returns-clause-long_counted : goal.returns-clause-long_counted
returns-clause-long_counted c = long_counted_exactly

pub returns-clause-number_back : goal.returns-clause-number_back
returns-clause-number_back c = number_back

pub returns-clause-counted_back : goal.returns-clause-counted_back
returns-clause-counted_back c = counted_back

pub returns-clause-long_counted_back : goal.returns-clause-long_counted_back
returns-clause-long_counted_back c = long_counted_back
