-- A file that is synced before it is loaded keeps its batches, whatever a crash leaves.
use Rattle.std.proofs.Common.{◌≡◌, ◌≢◌, ◌⊎◌, inl, inr, ℕ, List, sym, ◌∙◌, subst}
use Rattle.disk_model.specs.Files.{Name, Content, Files}
use Rattle.gate_journal.specs.Journal.{IsThere}
use Rattle.gate_journal.specs.Generations.{at_name, generation_name, IsOwn, HasBatchesOf}
use Rattle.gate_journal.specs.Load.{StaysOrShort}
use Rattle.gate_journal.proofs.Begin.{stays_has}
use Rattle.gate_journal.proofs.FileNames.{at_apart, is_next}

-- a name of the journal's is this file's or it isn't
pub own_decides : (name file n : Name) → IsOwn name file → IsOwn name n → (n ≡ file) ⊎ (n ≢ file)
own_decides name file n (inl at) (inl is) = inl (is ∙ sym at)
own_decides name file n (inl at) (inr (g, small, is)) = inr (λ same. at_apart name g small (sym is ∙ same ∙ at))
own_decides name file n (inr (g, small, at)) too = elim (is_next name n g small too) [ inl same ↦ inl (same ∙ sym at) | inr other ↦ inr (λ same. other (same ∙ at)) ]

pub stays_there : (g : ℕ) (x y : Content) → StaysOrShort x y → IsThere g x → IsThere g y
stays_there g x y (inl same) there = subst (IsThere g) (sym same) there
stays_there g x y (inr (short, still)) there = λ later too. there later short

pub stays_back : (a b : Content) → StaysOrShort a b → StaysOrShort b a
stays_back a b (inl same) = inl (sym same)
stays_back a b (inr (short, still)) = inr (still, short)

-- an image in which the file that tells the generation and that generation's file stay so
pub files_stay : (name : Name) (a c : Files) (bs : List (List ℕ)) (has : HasBatchesOf name a bs) → StaysOrShort (a (at_name name)) (c (at_name name))
    → StaysOrShort (a (generation_name name has.generation)) (c (generation_name name has.generation)) → HasBatchesOf name c bs
files_stay name a c bs has at_stays current_stays =
    let current = generation_name name has.generation in
    record {
      generation = has.generation;
      small = has.small;
      told = stays_has _ (a (at_name name)) (c (at_name name)) at_stays has.told;
      batches = stays_has bs (a current) (c current) current_stays has.batches;
      there = stays_there has.generation (a current) (c current) current_stays has.there;
    }
