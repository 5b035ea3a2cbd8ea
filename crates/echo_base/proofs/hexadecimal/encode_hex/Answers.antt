use Rattle.std.proofs.Common.{◌≡◌, length, drop, sym, subst, arith}
use Rattle.std.proofs.lemmas.List.{take_at}
use Rattle.std.specs.Str.{IsUtf8}
use Rattle.echo_base.proofs.Digits.{digits_are_text}
use Rattle.echo_base.proofs.hexadecimal.encode_hex.Goals as goal

pub unreachable-requires : goal.unreachable-requires
unreachable-requires c =
    let digits = c.fill_digits.new.digits in
    let held = c.in_ok-digits.digits in
    let len : length digits ≡ held.len = omega arith in
    let text = subst IsUtf8 (sym c.fill_digits.ensures) (digits_are_text c.args.octets.now) in
    let ok = c.in-Err.ensures.succeeds (rw (take_at digits (drop (length digits) held.items) held.len len) text) in
    cc ok
