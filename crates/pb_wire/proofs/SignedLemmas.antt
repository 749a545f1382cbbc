-- The two ways between signed and unsigned numbers undo one another.
use Rattle.std.proofs.Common.{◌≡◌, ℕ, ◌+◌, ◌*◌, ◌/◌, ◌%◌, ℤ, pos, negsuc, arith, refl, inl, inr}
use Rattle.std.proofs.Math.Nat.{div-add-mod}
use Rattle.std.proofs.lemmas.Bool.Decides.{eqb_tells}
use Rattle.pb_wire.specs.Signed.{zigzag_of, unzigzag_of}

pub unzigzag-zigzag : (z : ℤ) → unzigzag_of (zigzag_of z) ≡ z
unzigzag-zigzag (pos n) = let even : 2 * n % 2 ≡ 0 = omega arith in let half : 2 * n / 2 ≡ n = omega arith in rw (even, half) refl
unzigzag-zigzag (negsuc n) = let odd : (2 * n + 1) % 2 ≡ 1 = omega arith in let half : (2 * n + 1) / 2 ≡ n = omega arith in rw (odd, half) refl

pub zigzag-unzigzag : (n : ℕ) → zigzag_of (unzigzag_of n) ≡ n
zigzag-unzigzag n =
    elim (eqb_tells (n % 2) 0) [
      | inl even ↦ rw even.0 (omega (arith, even.1, div-add-mod n 2))
      | inr odd ↦ rw odd.0 (omega (arith, odd.1, div-add-mod n 2))
    ]
