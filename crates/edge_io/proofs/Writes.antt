-- Several writes, one behind another.
use Rattle.std.proofs.Common.{ℕ, ◌+◌, List, ◌++◌, Option, length, take, arith, sym, subst}
use Rattle.std.specs.Io.KnownBytes.{Appends}
use Rattle.std.proofs.KnownBytes.{Appends-trans}
use Rattle.std.proofs.lemmas.List.{length-append, take-append-le}
use Rattle.std.proofs.Math.Seq.{take-append-add}
use Rattle.edge_io.specs.Stream.{AppendsFront}

-- what was written, and then more
pub appends_more : (a b c : Option (List ℕ)) (xs ys : List ℕ) → Appends a b xs → Appends b c ys → Appends a c (xs ++ ys)
appends_more a b c xs ys p q = Appends-trans a b c xs ys p q

-- a front of the first bytes is a front of all
pub front_first : (a b : Option (List ℕ)) (xs ys : List ℕ) → AppendsFront a b xs → AppendsFront a b (xs ++ ys)
front_first a b xs ys (n, bound, p) = (n, omega (arith, length-append xs ys), subst (Appends a b) (sym (take-append-le n xs ys bound)) p)

-- all the first bytes, and then a front of the rest
pub front_more : (a b c : Option (List ℕ)) (xs ys : List ℕ) → Appends a b xs → AppendsFront b c ys → AppendsFront a c (xs ++ ys)
front_more a b c xs ys p (n, bound, q) = (length xs + n, omega (arith, length-append xs ys), subst (Appends a c) (sym (take-append-add xs ys n)) (appends_more a b c xs (take n ys) p q))

pub ruleset one_behind_another = (appends_more, front_first, front_more)
