use Rattle.std.proofs.Common.{◌≡◌, ◌+◌, ◌-◌, ◌*◌, ℕ, Bool, arith, refl, ap, sym, subst, ◌∙◌}
use Rattle.std.specs.Prelude.{if◌then◌else◌}
use Rattle.std.proofs.lemmas.Bool.{eq-eqb, ne_eqb}
use Rattle.etl_rules.specs.Choosing.{ripe}
use Rattle.drill_feed.specs.Tiers.{IsLeft, day_ends, days_of, hour_ends}
use Rattle.drill_feed.proofs.Moves.{ripe_days, ripe_hours}
use Rattle.drill_feed.proofs.drill.Drill.tiers.Goals.{then-days_moved-eq0, else-days_moved-eq0}
use Rattle.drill_feed.proofs.drill.Drill.tiers.Goals as goal

pub returns : goal.returns
returns c =
    let hours = c.args.self.hours in
    let left = c.left_of-hours_left.result in
    let moved = hours - left in
    let days_moved = c.min-days_ended.result - c.left_of.result in
    let all : ripe (hours + 1) (hour_ends hours) ≡ hours = ripe_hours (hours + 1) 0 hours (omega arith) in
    let ended : c.min-days_ended.result ≡ ripe (hours + 1) (day_ends (days_of moved)) = omega (arith, c.min-days_ended.ensures, ripe_days (hours + 1) 0 (days_of moved)) in
    record {
      hours_left = left;
      days_left = c.left_of.result;
      hours_moved = moved;
      days_moved = days_moved;
      hours_settle = subst (λ (n : ℕ). IsLeft 5 3 n left) (sym all) c.left_of-hours_left.ensures.left;
      hours_go = omega (arith, all, c.left_of-hours_left.ensures.bound);
      days_settle = subst (λ (n : ℕ). IsLeft 2 1 n c.left_of.result) ended c.left_of.ensures.left;
      days_go = omega (arith, ended, c.left_of.ensures.bound);
      short = omega (arith, c.left_of-hours_left.ensures.bound);
      medium = refl;
      long =
          elim c.if-days_moved-eq0.branch [
            | then-days_moved-eq0 w ↦ ap (λ (n : ℕ). 4 * n) (w.years-is ∙ sym (ap (λ (b : Bool). if b then 0 else 1) (eq-eqb days_moved 0 w.if-days_moved-eq0.true)))
            | else-days_moved-eq0 w ↦ ap (λ (n : ℕ). 4 * n) (w.years-is ∙ sym (ap (λ (b : Bool). if b then 0 else 1) (ne_eqb days_moved 0 w.if-days_moved-eq0.false)))
          ];
    }
