-- Calls that only read a disk, one after another.
use Rattle.std.proofs.Common.{◌≡◌, inl, inr, ℕ, Option, refl, ◌∙◌, arith}
use Rattle.disk_model.specs.declared.disk.Disk.{Ghosts}
use Rattle.disk_model.specs.declared.disk.DiskErr.{DiskErr}
use Rattle.disk_model.proofs.Passing.{passes_none, passes_then}
use Rattle.found_files.specs.Reading.{OnlyReads}
use Rattle.found_files.specs.Refusals.{ReadsOn}

pub read_none : {D R : Type 0} (disk : Ghosts D R) (d : D) → OnlyReads disk d d
read_none {D} {R} disk d = record {
  files = λ told. refl;
  opened = λ told. refl;
  any_moment = λ told. passes_none (λ a b. b ≡ a) (disk.past d) (λ a left. refl);
  faults = omega arith;
}

pub read_then : {D R : Type 0} (disk : Ghosts D R) (old mid new : D) → OnlyReads disk old mid → OnlyReads disk mid new → OnlyReads disk old new
read_then {D} {R} disk old mid new one two = record {
  files = λ told. two.files told ∙ one.files told;
  opened = λ told. two.opened told ∙ one.opened told;
  any_moment = λ told.
      passes_then (λ a b. b ≡ a) (λ a b. b ≡ a) (disk.past old) (disk.past mid) (disk.past new) (one.any_moment told) (two.any_moment told) (λ a b c was first left second. second ∙ first);
  faults = omega (arith, one.faults, two.faults);
}

pub reads_none : {D R : Type 0} (disk : Ghosts D R) (d : D) (refused : Option DiskErr) (count : ℕ) → ReadsOn disk d refused count d refused count
reads_none {D} {R} disk d refused count = record { read = read_none disk d; none = λ is. (is, refl); cause = λ is. inl is }

pub reads_then : {D R : Type 0} (disk : Ghosts D R) (old : D) (r₀ : Option DiskErr) (c₀ : ℕ) (mid : D) (r₁ : Option DiskErr) (c₁ : ℕ) (new : D) (r₂ : Option DiskErr) (c₂ : ℕ)
    → ReadsOn disk old r₀ c₀ mid r₁ c₁ → ReadsOn disk mid r₁ c₁ new r₂ c₂ → ReadsOn disk old r₀ c₀ new r₂ c₂
reads_then {D} {R} disk old r₀ c₀ mid r₁ c₁ new r₂ c₂ one two = record {
  read = read_then disk old mid new one.read two.read;
  none = λ is. let before = two.none is in let start = one.none before.0 in (start.0, before.1 ∙ start.1);
  cause = λ is. elim (two.cause is) [
    | inr rose ↦ inr (omega (arith, one.read.faults, rose))
    | inl was ↦ elim (one.cause was) [ inl before ↦ inl before | inr rose ↦ inr (omega (arith, two.read.faults, rose)) ]
  ];
}
