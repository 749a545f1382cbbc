-- What a journal's own files decide.
use Rattle.std.proofs.Common.{◌≡◌, inl, inr, ℕ, List, refl, sym, ap, subst}
use Rattle.disk_model.specs.Files.{Name, Content, Files}
use Rattle.gate_journal.specs.Batches.{HasBatches}
use Rattle.gate_journal.specs.Generations.{at_name, generation_name, generation_batches, IsOwn, HasBatchesOf}
use Rattle.gate_journal.specs.Journal.{IsThere}
use Rattle.gate_journal.proofs.FileNames.{own_begins}

-- images in which they are the same hold the same batches
pub says_of : (name : Name) (old new : Files) (bs : List (List ℕ)) → ((n : Name) → IsOwn name n → new n ≡ old n) → HasBatchesOf name old bs → HasBatchesOf name new bs
says_of name old new bs same has =
    let current = same (generation_name name has.generation) (inr (has.generation, has.small, refl)) in
    record {
      generation = has.generation;
      small = has.small;
      told = subst (λ (x : Content). HasBatches x (generation_batches has.generation)) (sym (same (at_name name) (inl refl))) has.told;
      batches = subst (λ (x : Content). HasBatches x bs) (sym current) has.batches;
      there = subst (λ (x : Content). IsThere has.generation x) (sym current) has.there;
    }

-- they are in the store of its name
pub own_store : (name n : Name) → IsOwn name n → n.0 ≡ name.0
own_store name n own = let begins = own_begins name n own in ap (λ (m : Name). m.0) begins.1
