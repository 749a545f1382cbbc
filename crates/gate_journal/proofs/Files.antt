-- One name's file goes over to any content while the others stay.
use Rattle.std.proofs.Common.{◌≡◌, ◌≢◌, inl, inr, ℕ, ◌+◌, List, [], ◌++◌, length, Some, None, refl, sym, ◌∙◌, ap, subst, arith}
use Rattle.std.proofs.lemmas.Bool.{cases_lt}
use Rattle.std.proofs.lemmas.List.{drop_all, append-nil}
use Rattle.disk_model.specs.Files.{Name, Content, Files, At, HasFile, Overwritten, overwritten, size_of}
use Rattle.disk_model.specs.Past.{Past, MayLeave, Passes}
use Rattle.disk_model.proofs.Passing.{passes_none, passes_then, passes_weaker}
use Rattle.gate_journal.specs.DiskShown.{DiskShown, ReadsDisk, ChangesUnopened}
use Rattle.gate_journal.proofs.Steps.{from_file}

-- in whatever way
abbrev pub Anyhow : Name → Files → Files → Type 0
Anyhow name = At name (λ a b. Unit {0})

pub then_loosely : (R : Content → Content → Type 0) (name : Name) (old mid new : Past) → Passes (Anyhow name) old mid → Passes (At name R) mid new → Passes (Anyhow name) old new
then_loosely R name old mid new first second =
    passes_then (Anyhow name) (At name R) old mid new first second (λ a b c was before now step. record { here = tt; elsewhere = λ n other. step.elsewhere n other ∙ before.elsewhere n other })

pub anyhow_none : (name : Name) (past : Past) → Passes (Anyhow name) past past
anyhow_none name past = passes_none (Anyhow name) past (λ a was. record { here = tt; elsewhere = λ n other. refl })

pub unmoved : (name : Name) (old new : Past) → Passes (λ a b. b ≡ a) old new → Passes (Anyhow name) old new
unmoved name old new passes = passes_weaker (λ a b. b ≡ a) (Anyhow name) old new passes (λ a c was step. record { here = tt; elsewhere = λ n other. ap (λ (f : Files). f n) step })

-- a write into an empty file
pub written_whole : (name : Name) (bytes : List ℕ) (mid new : Files) → mid name ≡ Some [] → At name (Overwritten 0 bytes) mid new → new name ≡ Some bytes
written_whole name bytes mid new empty step =
    let file = from_file (λ (b c : List ℕ). c ≡ overwritten 0 bytes b) [] (mid name) (new name) empty step.here in
    file.1 ∙ ap (λ (l : List ℕ). Some l) (file.2 ∙ ap (λ (l : List ℕ). bytes ++ l) (drop_all (0 + length bytes) [] (omega arith)) ∙ append-nil bytes)

pub has_file : (files later : Files) (name : Name) (n : ℕ) → later ≡ files → size_of (files name) ≡ Some n → HasFile later name (λ b. Unit {0})
has_file files later name n same size = go (files name) refl size
  where
    go : (c : Content) → files name ≡ c → size_of c ≡ Some n → HasFile later name (λ b. Unit {0})
    go None is size = absurd (cc size)
    go (Some b) is size = record { bytes = b; file = ap (λ (f : Files). f name) same ∙ is; holds = tt }

-- one call more, which makes another relation of the one before it
pub passes_over : (P R S : Files → Files → Type 0) (old mid new : Past) → Passes P old mid → Passes S mid new → ((a c : Files) → MayLeave old a → P a c → R a c)
    → ((a b c : Files) → MayLeave old a → P a b → MayLeave mid b → S b c → R a c) → Passes R old new
passes_over P R S old mid new first second weak step = record {
  later = omega (arith, first.later, second.later);
  kept = λ k image le left. second.kept k image (omega (arith, le, first.later)) (first.kept k image le left);
  nothing_else = λ k image le left. first.nothing_else k image le (second.nothing_else k image (omega (arith, le, first.later)) left);
  each = λ k image from to left. elim (cases_lt mid.now k) [
    | inl after ↦
        let come = second.each k image (omega (arith, after)) to left in
        let begun = first.each mid.now come.0 first.later (omega arith) come.1 in
        (begun.0, begun.1, step begun.0 come.0 image begun.1 begun.2 come.1 come.2)
    | inr before ↦
        let come = first.each k image from before (second.nothing_else k image before left) in
        (come.0, come.1, weak come.0 image come.1 come.2)
  ];
}

-- a file that has this name alone changes
pub named : (file name : Name) (R : Content → Content → Type 0) (old new : DiskShown) → file ≡ name → At file R old.files new.files → Passes (At file R) old.past new.past → ((n : Name) → n ≢ file → new.opened n ≡ old.opened n)
    → new.opened file ≡ 0 → ChangesUnopened name R old new
named file name R old new is files moments opened unopened =
    subst (λ (n : Name). ChangesUnopened n R old new) is (record { files = files; any_moment = moments; opened = opened; unopened = unopened })

-- one file alone changes while it isn't open
module _ (name : Name) (R : Content → Content → Type 0) (same : (x : Content) → R x x) where
  same_at : (a c : Files) → c ≡ a → At name R a c
  same_at a c is = record { here = subst (R (a name)) (sym (ap (λ (f : Files). f name) is)) (same (a name)); elsewhere = λ n other. ap (λ (f : Files). f n) is }

  pub only_reads : (old new : DiskShown) → old.opened name ≡ 0 → ReadsDisk old new → ChangesUnopened name R old new
  only_reads old new closed reads = record {
    files = same_at old.files new.files reads.same;
    any_moment = passes_weaker (λ a b. b ≡ a) (At name R) old.past new.past reads.any_moment (λ a c was is. same_at a c is);
    opened = λ n other. ap (λ (f : Name → ℕ). f n) reads.same_opened;
    unopened = ap (λ (f : Name → ℕ). f name) reads.same_opened ∙ closed;
  }

  pub does_nothing : (disk : DiskShown) → disk.opened name ≡ 0 → ChangesUnopened name R disk disk
  does_nothing disk closed = only_reads disk disk closed (record { same = refl; same_opened = refl; any_moment = passes_none (λ a b. b ≡ a) disk.past (λ a was. refl) })

  pub reads_then : (old mid new : DiskShown) → ReadsDisk old mid → ChangesUnopened name R mid new → ChangesUnopened name R old new
  reads_then old mid new reads step = record {
    files = subst (λ (f : Files). At name R f new.files) reads.same step.files;
    any_moment = passes_over (λ a b. b ≡ a) (At name R) (At name R) old.past mid.past new.past reads.any_moment step.any_moment (λ a c was is. same_at a c is) (λ a b c was is now more. subst (λ (f : Files). At name R f c) is more);
    opened = λ n other. step.opened n other ∙ ap (λ (f : Name → ℕ). f n) reads.same_opened;
    unopened = step.unopened;
  }

  pub then_reads : (old mid new : DiskShown) → ChangesUnopened name R old mid → ReadsDisk mid new → ChangesUnopened name R old new
  then_reads old mid new step reads = record {
    files = subst (At name R old.files) (sym reads.same) step.files;
    any_moment = passes_then (At name R) (λ a b. b ≡ a) old.past mid.past new.past step.any_moment reads.any_moment (λ a b c was before now is. subst (At name R a) (sym is) before);
    opened = λ n other. ap (λ (f : Name → ℕ). f n) reads.same_opened ∙ step.opened n other;
    unopened = ap (λ (f : Name → ℕ). f name) reads.same_opened ∙ step.unopened;
  }

-- every name stays but where P is true
pub leaves_same : (P : Name → Type 0) (old new : Past) → Passes (λ a b. b ≡ a) old new → Passes (λ a b. (n : Name) → (P n → ⊥) → b n ≡ a n) old new
leaves_same P old new passes = passes_weaker (λ a b. b ≡ a) (λ a b. (n : Name) → (P n → ⊥) → b n ≡ a n) old new passes (λ a c was same n other. ap (λ (f : Files). f n) same)

pub leaves_one : (P : Name → Type 0) (R : Content → Content → Type 0) (file : Name) (old new : Past) → P file → Passes (At file R) old new → Passes (λ a b. (n : Name) → (P n → ⊥) → b n ≡ a n) old new
leaves_one P R file old new here passes = passes_weaker (At file R) (λ a b. (n : Name) → (P n → ⊥) → b n ≡ a n) old new passes (λ a c was step n other. step.elsewhere n (λ is. other (subst P (sym is) here)))
