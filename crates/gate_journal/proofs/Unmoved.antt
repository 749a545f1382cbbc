-- A journal with checkpoints stays as it is while its own files do.
use Rattle.std.proofs.Common.{◌≡◌, inl, inr, ℕ, ◌+◌, ◌≤◌, List, sym, subst, arith}
use Rattle.disk_model.specs.Files.{Name, Files}
use Rattle.disk_model.specs.Past.{Passes}
use Rattle.gate_journal.specs.Batches.{IsShort}
use Rattle.gate_journal.specs.Journal.{JournalState, IsThere, IsSettledWith, IsOpen, IsUndecided}
use Rattle.gate_journal.specs.declared.journal.Pending.{Pending}
use Rattle.gate_journal.specs.declared.journal.Pending.TheVariants.{Nothing, Switch, Removal}
use Rattle.gate_journal.specs.Generations.{IsOwn, generation_batches}
use Rattle.gate_journal.specs.Plain.{PlainState, IsSettled, IsInDoubt}
use Rattle.gate_journal.specs.DiskShown.{DiskShown}
use Rattle.gate_journal.proofs.Elsewhere.{settled_stays, doubt_stays}
use Rattle.gate_journal.proofs.Holding.{settled_with_stays, at_is_own, current_is_own}
use Rattle.gate_journal.proofs.Owned.{left_now}

-- the journal's own files stay
abbrev pub Keeps : Name → Files → Files → Type 0
Keeps name a b = (n : Name) → IsOwn name n → b n ≡ a n

module _ (journal : JournalState) (old new : DiskShown) (passes : Passes (Keeps journal.name) old.past new.past) (same : (n : Name) → IsOwn journal.name n → new.files n ≡ old.files n)
    (fewer : (n : Name) → IsOwn journal.name n → new.opened n ≤ old.opened n) where
  pub settled_unmoved : (bs : List (List ℕ)) → IsSettledWith journal old bs → IsSettledWith journal new bs
  settled_unmoved bs s =
      let at = at_is_own journal old bs s in
      let current = current_is_own journal old bs s in
      settled_with_stays journal old bs s new (Keeps journal.name) passes (λ a c step. step journal.at.name at) (λ a c step. step journal.current.name current)
      (same journal.at.name at) (same journal.current.name current) (λ n own. let none = s.named.unopened n own in let le = fewer n own in omega (arith, none, le))

  settled_part : (j : PlainState) (bs : List (List ℕ)) → IsOwn journal.name j.name → IsSettled j old bs → IsSettled j new bs
  settled_part j bs own settled = settled_stays j old new bs (Keeps journal.name) settled passes (λ a c step. step j.name own) (same j.name own) (fewer j.name own)

  doubt_part : (j : PlainState) (bs : List (List ℕ)) (batch : List ℕ) → IsOwn journal.name j.name → IsInDoubt j old bs batch → IsInDoubt j new bs batch
  doubt_part j bs batch own doubt = doubt_stays j old new bs batch (Keeps journal.name) doubt passes (λ a c step. step j.name own) (same j.name own) (fewer j.name own)

  open_unmoved : (pending : Pending) (before after : List (List ℕ)) → IsOpen pending journal old before after → IsOpen pending journal new before after
  unfolding settled_unmoved
  open_unmoved Nothing before after u =
      let at : IsOwn journal.name journal.at.name = inl u.named.at in
      let current : IsOwn journal.name journal.current.name = inr (u.generation, u.named.small, u.named.current) in
      record {
        generation = u.generation;
        batch = u.batch;
        more = u.more;
        named = record { small = u.named.small; at = u.named.at; current = u.named.current; unopened = λ n own. let none = u.named.unopened n own in let le = fewer n own in omega (arith, none, le) };
        at = settled_part journal.at (generation_batches u.generation) at u.at;
        current = doubt_part journal.current before u.batch current u.current;
        there = subst (IsThere u.generation) (sym (same journal.current.name current)) u.there;
        there_left = λ image left.
            let come = left_now (Keeps journal.name) old.past new.past image passes left in subst (IsThere u.generation) (sym (come.2 journal.current.name current)) (u.there_left come.0 come.1);
      }
  open_unmoved (Switch next) before after w =
      let at : IsOwn journal.name journal.at.name = inl w.named.at in
      let current : IsOwn journal.name journal.current.name = inr (w.generation, w.named.small, w.named.current) in
      record {
        generation = w.generation;
        named = record { small = w.named.small; at = w.named.at; current = w.named.current; unopened = λ n own. let none = w.named.unopened n own in let le = fewer n own in omega (arith, none, le) };
        current = settled_part journal.current before current w.current;
        there = subst (IsThere w.generation) (sym (same journal.current.name current)) w.there;
        switch = elim w.switch [
          | inl un ↦ inl (record { sound = un.sound; at = settled_part journal.at (generation_batches w.generation) at un.at })
          | inr half ↦
              let own : IsOwn journal.name next.name = inr (w.generation + 1, half.small, half.named) in
              inr (record {
                unsound = half.unsound;
                small = half.small;
                named = half.named;
                at = doubt_part journal.at (generation_batches w.generation) _ at half.at;
                made = settled_part next after own half.made;
                there = λ few. half.there (subst IsShort (same next.name own) few);
              })
        ];
      }
  open_unmoved (Removal old_file) before after r = record { settled = settled_unmoved after r.settled; generation = r.generation; before = r.before; named = r.named }

  pub undecided_unmoved : (before after : List (List ℕ)) → IsUndecided journal old before after → IsUndecided journal new before after
  undecided_unmoved before after = open_unmoved journal.pending before after

-- no reader of its files is opened
pub open_unopened : (pending : Pending) (journal : JournalState) (disk : DiskShown) (before after : List (List ℕ)) → IsOpen pending journal disk before after → (n : Name) → IsOwn journal.name n → disk.opened n ≡ 0
open_unopened Nothing journal disk before after u n own = u.named.unopened n own
open_unopened (Switch next) journal disk before after w n own = w.named.unopened n own
open_unopened (Removal old_file) journal disk before after r n own = r.settled.named.unopened n own
