use Rattle.std.proofs.Common.{◌≡◌, ◌-◌, ◌*◌, ℕ, Some, length, arith, ap, sym, ◌∙◌}
use Rattle.drill_feed.specs.Workload.{samples, second_at}
use Rattle.drill_feed.proofs.Moments.{moment_at, moment_is, samples_many}
use Rattle.drill_feed.proofs.drill.Drill.tally.Goals as goal

pub returns-clause-tally : goal.returns-clause-tally
returns-clause-tally c =
    let hours = c.args.self.hours in
    let variable = c.args.variable in
    let range = c.args.self.hours_in in
    let many = samples_many hours variable in
    let count : c.from-count.result ≡ 60 * hours = omega (arith, c.from-count.ensures, c.minutes.ensures) in
    let shift : c.from.result ≡ variable = omega (arith, c.from.ensures) in
    let end : length (samples hours variable) - 1 ≡ 60 * hours - 1 = omega (arith, many) in
    record {
      count = count ∙ sym many;
      first = moment_at hours variable 0 (omega (arith, range.0)) ∙ ap (λ (t : ℕ). Some t) (omega (arith, moment_is (second_at variable 0), shift));
      last = rw end (moment_at hours variable (60 * hours - 1) (omega (arith, range.0)) ∙ ap (λ (t : ℕ). Some t) (omega (arith, range.0, moment_is (second_at variable (60 * hours - 1)), shift, count)));
    }
