use Rattle.std.proofs.Common.{arith, refl, sym, inl, ◌+◌, ◌*◌, ◌/◌, ◌%◌}
use Rattle.arch_time.specs.declared.iso.Offset.TheVariants.{Ahead}
use Rattle.arch_time.proofs.DigitLemmas.{four_digits, nine_digits}
use Rattle.arch_time.proofs.iso.iso_text.Goals as goal

pub returns : goal.returns
returns c =
    let date = c.of_number-date.result in
    let t = c.args.t in
    let second = t % 86_400_000_000_000 / 1_000_000_000 in
    let nano = t % 1_000_000_000 in
    let decimals = nine_digits c.two_digits-n1.result.0 c.two_digits-n1.result.1 c.two_digits-n3.result.0 c.two_digits-n3.result.1 c.two_digits-n5.result.0 c.two_digits-n5.result.1 c.two_digits-n7.result.0 c.two_digits-n7.result.1 (48 + nano % 10) nano (omega arith) c.two_digits-n1.ensures c.two_digits-n3.ensures c.two_digits-n5.ensures c.two_digits-n7.ensures refl in
    record {
      iso = record {
        day = t / 86_400_000_000_000 + 719_528;
        second = second;
        nano = nano;
        offset = Ahead 0;
        zone_at = 29;
        date = record {
          y = date.year;
          m = date.month;
          d = date.day;
          size = refl;
          year = four_digits c.two_digits-y1.result.0 c.two_digits-y1.result.1 c.two_digits-y3.result.0 c.two_digits-y3.result.1 date.year c.two_digits-y1.ensures c.two_digits-y3.ensures;
          first_mark = refl;
          month = c.two_digits-m1.ensures;
          second_mark = refl;
          date = c.two_digits-d1.ensures;
          exists = date.exists;
          number = sym c.of_number-date.ensures;
        };
        mark = refl;
        clock = record {
          before = second / 3600 * 3600 + second / 60 % 60 * 60;
          s = second % 60;
          size = refl;
          minute = record {
            h = second / 3600;
            m = second / 60 % 60;
            size = refl;
            hour = c.two_digits-h1.ensures;
            mark = refl;
            minute = c.two_digits-i1.ensures;
            hours = omega arith;
            minutes = omega arith;
            value = refl;
          };
          mark = refl;
          last = c.two_digits-s1.ensures;
          seconds = omega arith;
          value = omega arith;
        };
        behind = omega arith;
        fraction = (refl, (omega arith, omega arith), decimals.digits, omega (arith, decimals.value));
        zone = inl (refl, refl);
        moment = record {
          utc = (t / 86_400_000_000_000 + 719_528) * 86_400 + second;
          less = omega arith;
          moment = omega arith;
          range = omega arith;
        };
      };
      size = refl;
      utc = refl;
    }
