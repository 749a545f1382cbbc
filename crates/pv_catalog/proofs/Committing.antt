-- A call that commits a change to the catalogue, and one that leaves the disk alone.
use Rattle.std.proofs.Common.{◌≡◌, ◌∷◌, ◌++◌, [], ℕ, Bool, true, cond, List, Some, None, Result, OnOk, OnErr, IsErrOf, refl, sym, subst, arith}
use Rattle.std.proofs.lemmas.Result.{on_err_weaker, IfErr-at_err}
use Rattle.disk_model.specs.declared.disk.DiskErr.{DiskErr}
use Rattle.disk_model.specs.declared.disk.DiskErr.TheVariants.{Fault, Memory}
use Rattle.disk_model.specs.Files.{Name, Content, At}
use Rattle.disk_model.proofs.Passing.{passes_none}
use Rattle.gate_journal.specs.Commits.{CommitsBatches}
use Rattle.gate_journal.specs.Journal.{JournalState, is_of_commit}
use Rattle.gate_journal.specs.Kept.{CommitsValue}
use Rattle.gate_journal.specs.Plain.{NoShorter}
use Rattle.gate_journal.specs.DiskShown.{DiskShown, ChangesOne}
use Rattle.gate_journal.proofs.Keeping.{commits_mean, commits_as}
use Rattle.pv_catalog.specs.declared.row.Row.{Row}
use Rattle.pv_catalog.specs.Catalogue.{CatalogueState, CommitsRows}
use Rattle.pv_catalog.specs.Rows.{IsCatalogue, IsBatch}
use Rattle.pv_catalog.proofs.Meaning.{more}

-- the batch of a change is committed
pub change_commits : (rows next : List Row) (batch : List ℕ) (bs : List (List ℕ)) (journal now : JournalState) (after later : List Row) (result : Result (Unit {0}) DiskErr) (old new : DiskShown) → IsCatalogue bs rows → IsBatch rows batch next
    → is_of_commit now.pending ≡ true → OnOk result (after ≡ next) → OnErr result ((after ≡ rows) × (later ≡ next)) → CommitsBatches bs (bs ++ batch ∷ []) result journal now old new
    → CommitsValue IsCatalogue rows next after later (OnOk result) (IsErrOf result Fault) (IsErrOf result Memory) journal now old new
change_commits rows next batch bs journal now after later result old new means is of_commit done failed commits =
    let with_it = more [] bs batch rows next means is in
    let OfCommit : Bool → Type 0 = λ b. IsCatalogue (bs ++ batch ∷ []) (cond b later after) in
    commits_mean IsCatalogue rows next after later journal now bs (bs ++ batch ∷ []) result old new means with_it done (on_err_weaker result (λ still. still.0) failed)
    (λ fault. subst OfCommit (sym of_commit) (subst (IsCatalogue (bs ++ batch ∷ [])) (sym (IfErr-at_err (λ (e : DiskErr). (after ≡ rows) × (later ≡ next)) fault failed).1) with_it)) commits

-- and is told as what the call answers that made the change
pub call_commits : (rows next : List Row) (was now : CatalogueState) (made : Result (Unit {0}) DiskErr) (OnMade : Type 0 → Type 0) (IsFault IsMemory : Type 0) (old new : DiskShown) → was.rows ≡ rows → was.next ≡ next → ((P : Type 0) → OnOk made P → OnMade P)
    → (IsFault → IsErrOf made Fault) → (IsMemory → IsErrOf made Memory) → CommitsRows was.next (OnOk made) (IsErrOf made Fault) (IsErrOf made Memory) was now old new
    → CommitsValue IsCatalogue rows next now.rows now.next OnMade IsFault IsMemory was.journal now.journal old new
call_commits rows next was now made OnMade IsFault IsMemory old new same same_next done fault memory commits =
    let Change : List Row → List Row → Type 0 =
    λ xs ys. CommitsValue IsCatalogue xs ys now.rows now.next (OnOk made) (IsErrOf made Fault) (IsErrOf made Memory) was.journal now.journal old new in
    commits_as IsCatalogue rows next now.rows now.next was.journal now.journal (OnOk made) (IsErrOf made Fault) (IsErrOf made Memory) OnMade IsFault IsMemory old new done fault memory
    (subst (Change rows) same_next (subst (λ (xs : List Row). Change xs was.next) same commits))

no_shorter : (c : Content) → NoShorter c c
no_shorter None = tt
no_shorter (Some b) = omega arith

pub nothing_grows : (name : Name) (at : DiskShown) → ChangesOne name NoShorter at at
nothing_grows name at = record { files = λ n other. refl; any_moment = passes_none (At name NoShorter) at.past (λ a left. record { here = no_shorter (a name); elsewhere = λ n other. refl }); opened = refl }
