use Rattle.std.proofs.Common.{refl}
use Rattle.trace_gen.proofs.nas.attach_request.Goals as goal

pub returns : goal.returns
returns c = rw (c.two_digits.ensures, c.two_digits-2.ensures, c.two_digits-3.ensures, c.two_digits-4.ensures, c.two_digits-5.ensures, c.two_digits-6.ensures, c.two_digits-7.ensures) refl
