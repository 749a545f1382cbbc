-- Calls that tell something of what is held without changing it.
use Rattle.durable_write.specs.Ends.{End, Done, Refused, Failed, Spent}
use Rattle.tier_store.specs.Stores.{Stores}

-- What an answer says is true of what is held. Want of memory says nothing, and there is no other failure: the disk isn't called.
abbrev pub SaysOf : {A E : Type 0} → (A → Stores → Type 0) → End A E → Stores → Type 0
SaysOf {A} {E} says (Done a) held = says a held
SaysOf {A} {E} says (Refused e) held = ⊥
SaysOf {A} {E} says Failed held = ⊥
SaysOf {A} {E} says Spent held = Unit {0}

-- What an answer says is true of what is held. Want of memory and a failure of the disk say nothing.
abbrev pub ReadsOf : {A E : Type 0} → (A → Stores → Type 0) → End A E → Stores → Type 0
ReadsOf {A} {E} says (Done a) held = says a held
ReadsOf {A} {E} says (Refused e) held = ⊥
ReadsOf {A} {E} says Failed held = Unit {0}
ReadsOf {A} {E} says Spent held = Unit {0}
