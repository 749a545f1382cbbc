-- Signed numbers as unsigned ones, such that small ones of either sign stay small.
use Rattle.std.specs.Prelude.{ℕ, ◌+◌, ◌*◌, ◌/◌, ◌%◌, ◌==◌, ℤ, pos, negsuc, if◌then◌else◌}

-- A number n from 0 on becomes 2n, and -(n + 1) becomes 2n + 1.
abbrev pub zigzag_of : ℤ → ℕ
zigzag_of (pos n) = 2 * n
zigzag_of (negsuc n) = 2 * n + 1

-- An even number is that of its half, an odd one that of the negative number.
abbrev pub unzigzag_of : ℕ → ℤ
unzigzag_of n = if n % 2 == 0 then pos (n / 2) else negsuc (n / 2)
