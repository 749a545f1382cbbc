-- What a reader of a stream passed, and what a fresh one has before it.
use Rattle.std.proofs.Common.{◌≡◌, ℕ, List, [], ◌++◌, Option, Some, None, sym, subst, append_assoc}
use Rattle.std.proofs.KnownBytes.{prepend_known-nil}
use Rattle.pb_lines.specs.Stream.{Item, Stop, IsWholeStream}
use Rattle.pb_lines.specs.Reader.{Chunks, Holds, Passes, IsFresh, to_come}

pub passes_join : (old mid new : Chunks) (before middle after : Option (List ℕ)) (items more : List Item) → Passes old mid before middle items → Passes mid new middle after more → Passes old new before after (items ++ more)
passes_join old mid new None middle after items more h k = tt
passes_join old mid new (Some xs) None after items more h k = absurd h
passes_join old mid new (Some xs) (Some ys) None items more h k = k
passes_join old mid new (Some xs) (Some ys) (Some zs) items more h k = λ rest stop l.
    let P : List Item → Type 0 = λ all. Holds old xs all stop in
    subst P (sym (append_assoc items more rest)) (h (more ++ rest) stop (k rest stop l))

pub nothing_read : (c : Chunks) (left : Option (List ℕ)) → Passes c c left left []
nothing_read c None = tt
nothing_read c (Some xs) = λ rest stop h. h

-- a fresh reader has all of the source before it
pub fresh_before : (c : Chunks) (left : Option (List ℕ)) → IsFresh c → to_come c left ≡ left
fresh_before c left is =
    let P : Chunks → Type 0 = λ c. to_come c left ≡ left in
    subst P (sym is) (prepend_known-nil left)

pub fresh_holds : (c : Chunks) (xs : List ℕ) (items : List Item) (stop : Stop) → IsFresh c → Holds c xs items stop → IsWholeStream xs items stop
fresh_holds c xs items stop is h = let P : Chunks → Type 0 = λ c. Holds c xs items stop in subst P is h
