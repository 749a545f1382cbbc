-- Lists of which one may be missing, one after another.
use Rattle.std.proofs.Common.{◌≡◌, List, [], Option, Some, None, refl, ap, append_assoc}
use Rattle.std.proofs.lemmas.List.{append-nil}
use Rattle.series_model.specs.PairLists.{joined}

pub joined_assoc : {A : Type 0} (xs ys zs : Option (List A)) → joined (joined xs ys) zs ≡ joined xs (joined ys zs)
joined_assoc None ys zs = refl
joined_assoc (Some xs) None zs = refl
joined_assoc (Some xs) (Some ys) None = refl
joined_assoc {A} (Some xs) (Some ys) (Some zs) = ap (λ (us : List A). Some us) (append_assoc xs ys zs)

pub joined_nothing : {A : Type 0} (xs : Option (List A)) → joined xs (Some []) ≡ xs
joined_nothing None = refl
joined_nothing {A} (Some xs) = ap (λ (us : List A). Some us) (append-nil xs)

pub joined_some : {A : Type 0} (xs : Option (List A)) → joined (Some []) xs ≡ xs
joined_some None = refl
joined_some (Some xs) = refl
