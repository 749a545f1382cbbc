-- Writes that go on where an earlier one stopped.
use Rattle.std.proofs.Common.{◌≡◌, ℕ, ◌+◌, ◌-◌, List, ◌++◌, Option, length, take, drop, sym, ap, ◌∙◌, append_assoc}
use Rattle.std.specs.Io.KnownBytes.{Appends}
use Rattle.std.proofs.KnownBytes.{Appends-trans}
use Rattle.std.proofs.lemmas.List.{take-append-drop, drop-drop}
use Rattle.edge_io.proofs.Slices.{rest_is}
use Rattle.http_front.specs.Sends.{Sends}

pub sends_on : (a b c : Option (List ℕ)) (bytes : List ℕ) (start at n : ℕ) → Sends a b (drop start bytes) (drop at bytes) → Appends b c (take n (take (length bytes - at) (drop at bytes)))
    → Sends a c (drop start bytes) (drop (at + n) bytes)
sends_on a b c bytes start at n sends more =
    let rest = drop at bytes in
    let piece = take n rest in
    let appends : Appends b c piece = let same = rest_is at bytes in rw same at more in
    let split : rest ≡ piece ++ drop (at + n) bytes = sym (take-append-drop n rest) ∙ ap (λ (u : List ℕ). piece ++ u) (drop-drop n at bytes) in (
      sends.0 ++ piece,
      sends.1 ∙ ap (λ (u : List ℕ). sends.0 ++ u) split ∙ sym (append_assoc sends.0 piece (drop (at + n) bytes)),
      Appends-trans a b c sends.0 piece sends.2 appends,
    )
