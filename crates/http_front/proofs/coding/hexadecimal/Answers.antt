use Rattle.std.proofs.Common.{◌≡◌, arith, sym}
use Rattle.std.specs.Prelude.{◌/◌, ◌%◌}
use Rattle.http_front.proofs.Digits.{one, two, three, four}
use Rattle.http_front.proofs.coding.hexadecimal.Goals as goal

pub returns-then-number-lt16-clause-digits : goal.returns-then-number-lt16-clause-digits
returns-then-number-lt16-clause-digits c =
    let n = c.args.number in
    let low : n % 16 ≡ n = omega (arith, c.if-number-lt16.true) in
    rw (c.digit-4.ensures, low) (sym (one n c.if-number-lt16.true))

pub returns-then-number-lt256-clause-digits : goal.returns-then-number-lt256-clause-digits
returns-then-number-lt256-clause-digits c =
    let n = c.args.number in
    let high : n / 16 % 16 ≡ n / 16 = omega (arith, c.if-number-lt256.true) in
    rw (c.digit-3.ensures, c.digit-4.ensures, high) (sym (two n (omega (arith, c.if-number-lt16.false)) c.if-number-lt256.true))

pub returns-then-number-lt4096-clause-digits : goal.returns-then-number-lt4096-clause-digits
returns-then-number-lt4096-clause-digits c =
    let n = c.args.number in
    let high : n / 256 % 16 ≡ n / 256 = omega (arith, c.if-number-lt4096.true) in
    rw (c.digit-2.ensures, c.digit-3.ensures, c.digit-4.ensures, high) (sym (three n (omega (arith, c.if-number-lt256.false)) c.if-number-lt4096.true))

pub returns-clause-digits : goal.returns-clause-digits
returns-clause-digits c =
    let n = c.args.number in
    rw (c.digit.ensures, c.digit-2.ensures, c.digit-3.ensures, c.digit-4.ensures) (sym (four n (omega (arith, c.if-number-lt4096.false)) c.ranges.number.fits))
