-- Numbers that are drawn one after another.
use Rattle.std.proofs.Common.{◌≡◌, ℕ, zero, suc, ◌+◌, ◌^◌, ◌<◌, arith, refl, ap}
use Rattle.drill_feed.specs.Workload.{drawn, next_draw}

pub drawn_none : (seed : ℕ) → drawn seed 0 ≡ seed
unfolding drawn
drawn_none seed = refl

pub drawn_more : (seed n : ℕ) → drawn seed (n + 1) ≡ next_draw (drawn seed n)
unfolding drawn
drawn_more seed n = let one : n + 1 ≡ suc n = omega arith in rw one refl

-- draws go on from where they are
pub drawn_on : (seed a b : ℕ) → drawn seed (a + b) ≡ drawn (drawn seed a) b
unfolding drawn
drawn_on seed a zero = let none : a + 0 ≡ a = omega arith in rw none refl
drawn_on seed a (suc b) = let more : a + suc b ≡ suc (a + b) = omega arith in rw more (ap next_draw (drawn_on seed a b))

pub drawn_small : (seed n : ℕ) → seed < 2 ^ 31 → drawn seed n < 2 ^ 31
unfolding drawn
drawn_small seed zero small = small
drawn_small seed (suc n) small = omega arith
