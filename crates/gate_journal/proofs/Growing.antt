-- No write makes a file shorter.
use Rattle.std.proofs.Common.{ℕ, None, Some, refl, ◌∙◌, arith}
use Rattle.disk_model.specs.Files.{Name, Content, At, Torn}
use Rattle.disk_model.specs.Past.{Past, Passes}
use Rattle.disk_model.proofs.Passing.{passes_none, passes_then, passes_weaker}
use Rattle.gate_journal.specs.Plain.{NoShorter}

torn_grows : (at n : ℕ) (x y : Content) → Torn at n x y → NoShorter x y
torn_grows at n None None torn = torn
torn_grows at n None (Some c) torn = absurd torn
torn_grows at n (Some b) None torn = absurd torn
torn_grows at n (Some b) (Some c) torn = torn.no_shorter

same_grows : (x : Content) → NoShorter x x
same_grows None = tt
same_grows (Some b) = omega arith

grows_then : (x y z : Content) → NoShorter x y → NoShorter y z → NoShorter x z
grows_then None None None one two = tt
grows_then None None (Some d) one two = absurd two
grows_then None (Some c) z one two = absurd one
grows_then (Some b) None z one two = absurd one
grows_then (Some b) (Some c) None one two = absurd two
grows_then (Some b) (Some c) (Some d) one two = omega (arith, one, two)

pub none_grows : (name : Name) (past : Past) → Passes (At name NoShorter) past past
none_grows name past = passes_none (At name NoShorter) past (λ a was. record { here = same_grows (a name); elsewhere = λ n other. refl })

pub write_grows : (name : Name) (at n : ℕ) (old new : Past) → Passes (At name (Torn at n)) old new → Passes (At name NoShorter) old new
write_grows name at n old new passes =
    passes_weaker (At name (Torn at n)) (At name NoShorter) old new passes (λ a c was step. record { here = torn_grows at n (a name) (c name) step.here; elsewhere = step.elsewhere })

pub writes_grow : (name : Name) (at n to m : ℕ) (old mid new : Past) → Passes (At name (Torn at n)) old mid → Passes (At name (Torn to m)) mid new → Passes (At name NoShorter) old new
writes_grow name at n to m old mid new first second =
    passes_then (At name NoShorter) (At name (Torn to m)) old mid new (write_grows name at n old mid first) second (λ a b c was before now step. record {
      here = grows_then (a name) (b name) (c name) before.here (torn_grows to m (b name) (c name) step.here);
      elsewhere = λ n other. step.elsewhere n other ∙ before.elsewhere n other;
    })
