-- Lists of pairs that are read one after another, where one may lack a member.
use Rattle.std.specs.Prelude.{List, ◌++◌, Option, Some, None}

-- One list after the other, where both are there.
abbrev pub joined : {A : Type 0} → Option (List A) → Option (List A) → Option (List A)
joined (Some xs) (Some ys) = Some (xs ++ ys)
joined (Some xs) None = None
joined None ys = None
