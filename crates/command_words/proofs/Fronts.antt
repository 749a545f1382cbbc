-- What a write that failed has left: a front of what is gathered, behind what was written.
use Rattle.std.proofs.Common.{◌≡◌, ℕ, ◌+◌, List, ◌++◌, Option, Result, Ok, Err, length, take, arith, ap, ◌∙◌, append_assoc}
use Rattle.std.specs.Prelude.{OnErr}
use Rattle.std.specs.Io.KnownBytes.{Appends}
use Rattle.std.proofs.KnownBytes.{Appends-trans}
use Rattle.std.proofs.lemmas.List.{length-append, take-append-le}
use Rattle.std.proofs.Math.Seq.{take-append-add}
use Rattle.edge_io.specs.Stream.{AppendsFront}

pub front_of : (a b b' : Option (List ℕ)) (out gathered more whole : List ℕ) → Appends a b out → AppendsFront b b' gathered → whole ≡ (out ++ gathered) ++ more → AppendsFront a b' whole
front_of a b b' out gathered more whole written f is =
    let n = length out + f.0 in
    let all : whole ≡ out ++ (gathered ++ more) = is ∙ append_assoc out gathered more in
    let front : take n whole ≡ out ++ take f.0 gathered = ap (λ (u : List ℕ). take n u) all ∙ take-append-add out (gathered ++ more) f.0 ∙ ap (λ (u : List ℕ). out ++ u) (take-append-le f.0 gathered more f.1) in
    (n, omega (arith, ap length all, length-append out (gathered ++ more), length-append gathered more, f.1), rw front (Appends-trans a b b' out (take f.0 gathered) written f.2))

pub on_err : {A E : Type 0} (r : Result A E) (P : Type 0) → P → OnErr r P
on_err {A} {E} (Ok a) P p = tt
on_err {A} {E} (Err e) P p = p
