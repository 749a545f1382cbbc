-- Candidates, and files that are none.
use Rattle.std.proofs.Common.{◌≡◌, ℕ, ◌<◌, ◌≤◌, ◌↔◌, List, length, take, Option, Some, None, Result, Ok, Err, IfOk, refl, sym, ◌∙◌, ap, subst}
use Rattle.std.specs.Prelude.{IfSome, IsTrue}
use Rattle.std.proofs.Math.Seq.{take-length}
use Rattle.std.proofs.lemmas.Option.{same_Some}
use Rattle.disk_model.specs.Files.{Content, Name, Files, HasFile, size_of}
use Rattle.disk_model.specs.Past.{Passes}
use Rattle.disk_model.specs.declared.disk.Disk.{Ghosts}
use Rattle.partition_names.specs.declared.granularity.Granularity.{Granularity}
use Rattle.partition_names.specs.declared.part.Part.{Part}
use Rattle.partition_names.specs.Part.{IsPart}
use Rattle.partition_names.specs.Path.{path_of}
use Rattle.pb_file.specs.declared.good.Front.{Front}
use Rattle.pb_file.specs.GoodFront.{HasNoFront}
use Rattle.pb_file.proofs.Fronts.{one_front, front_excluded}
use Rattle.pv_name.specs.Name.{IsName}
use Rattle.found_files.specs.declared.finding.Candidate.{Candidate}
use Rattle.found_files.specs.Candidate.{IsCandidate, IsNamed}
use Rattle.found_files.specs.Reading.{IsFrontOf, OnlyReads, bytes_in}
use Rattle.found_files.specs.ReadRuns.{read_then}

-- no front of the bytes up to a file's length is none of the file
pub no_front_of : (part : Part) (files : Files) (n : Name) (len : ℕ) → HasFile files n (λ b. len ≡ length b) → HasNoFront part (take len (bytes_in (files n))) → HasFile files n (HasNoFront part)
no_front_of part files n len there none = record { bytes = there.bytes; file = there.file; holds = subst (HasNoFront part) all none }
  where
    all : take len (bytes_in (files n)) ≡ there.bytes
    all = ap (λ (c : Content). take len (bytes_in c)) there.file ∙ ap (λ (k : ℕ). take k there.bytes) there.holds ∙ take-length there.bytes

-- its size was asked before
pub read_sized : {D R : Type 0} (disk : Ghosts D R) (old mid new : D) → (IsTrue disk.tells → disk.files mid ≡ disk.files old) → (IsTrue disk.tells → disk.opened mid ≡ disk.opened old)
    → (IsTrue disk.tells → Passes (λ a b. b ≡ a) (disk.past old) (disk.past mid)) → disk.faults old ≤ disk.faults mid → OnlyReads disk mid new → OnlyReads disk old new
read_sized {D} {R} disk old mid new same opened crash faults two = read_then disk old mid new (record { files = same; opened = opened; any_moment = crash; faults = faults }) two

-- a file of this size is there
pub there_of : (files : Files) (n : Name) (len : ℕ) → Some len ≡ size_of (files n) → HasFile files n (λ b. len ≡ length b)
there_of files n len is = go (files n) refl is
  where
    go : (c : Content) → files n ≡ c → Some len ≡ size_of c → HasFile files n (λ b. len ≡ length b)
    go None was is = absurd (cc)
    go (Some bytes) was is = record { bytes = bytes; file = was; holds = same_Some len (length bytes) is }

module _ (g : Granularity) (files : Files) (n : Name) (part : Part) (unit : IsPart g part) where
  -- the front of a file whose header tells its path
  pub candidate_of : {E : Type 0} (front : Front) (len : ℕ) → HasFile files n (λ b. IsFrontOf part b front) → Some len ≡ size_of (files n) → (r : Result (Option Candidate) E) → IfOk r (λ o. IfSome o (IsNamed n part front len)) → IfOk r (λ o. IfSome o (IsCandidate g files n))
  candidate_of front len has size (Err e) named = tt
  candidate_of front len has size (Ok None) named = tt
  candidate_of front len has size (Ok (Some c)) named =
      let there = there_of files n len size in
      let long : len ≡ length has.bytes = there.holds ∙ ap (λ (b : List ℕ). length b) (same_Some there.bytes has.bytes (sym there.file ∙ has.file)) in
      record {
        unit = subst (IsPart g) (sym named.of_part) unit;
        bytes = has.bytes;
        there = has.file;
        front = subst (λ (f : Front). IsFrontOf c.part has.bytes f) (sym named.of_front) (subst (λ (p : Part). IsFrontOf p has.bytes front) (sym named.of_part) has.holds);
        named = record {
          of_part = refl;
          of_front = refl;
          name = named.name ∙ ap (λ (f : Front). f.info.name) (sym named.of_front);
          valid = named.valid;
          path = ap (λ (p : Part). path_of c.name p.name) named.of_part ∙ named.path;
          cut = subst (λ (f : Front). IsTrue c.cut ↔ (f.len < length has.bytes)) (sym named.of_front) (subst (λ (k : ℕ). IsTrue c.cut ↔ (front.len < k)) long named.cut);
        };
      }

  -- any candidate is of the partition that the path names
  module _ (only : (c : Candidate) → IsCandidate g files n c → c.part ≡ part) where
    same_front : (bytes : List ℕ) (c : Candidate) → files n ≡ Some bytes → IsCandidate g files n c → IsFrontOf part bytes c.front
    same_front bytes c file is = subst (λ (b : List ℕ). IsFrontOf part b c.front) (same_Some is.bytes bytes (sym is.there ∙ file)) (subst (λ (p : Part). IsFrontOf p is.bytes c.front) (only c is) is.front)

    -- a file without a front is none
    pub none_without : HasFile files n (HasNoFront part) → (c : Candidate) → IsCandidate g files n c → ⊥
    none_without has c is = let front = same_front has.bytes c has.file is in front_excluded part has.bytes c.front front.good front.short has.holds

    -- nor is one whose header tells another path
    pub none_named : {E : Type 0} (front : Front) → HasFile files n (λ b. IsFrontOf part b front) → (r : Result (Option Candidate) E) → IfOk r (λ o. o ≡ None → IsName front.info.name → path_of front.info.name part.name ≡ n.1 → ⊥) → IfOk r (λ o. o ≡ None → (c : Candidate) → IsCandidate g files n c → ⊥)
    none_named {E} front has r named = go r named
      where
        go : (r : Result (Option Candidate) E) → IfOk r (λ o. o ≡ None → IsName front.info.name → path_of front.info.name part.name ≡ n.1 → ⊥) → IfOk r (λ o. o ≡ None → (c : Candidate) → IsCandidate g files n c → ⊥)
        go (Err e) named = tt
        go (Ok o) named = λ none c is.
            let same : c.front ≡ front = one_front part has.bytes c.front front (same_front has.bytes c has.file is).good has.holds.good in
            let name : c.name ≡ front.info.name = is.named.name ∙ ap (λ (f : Front). f.info.name) same in
            named none (subst IsName name is.named.valid) (ap (λ (l : List ℕ). path_of l part.name) (sym name) ∙ ap (λ (p : Part). path_of c.name p.name) (sym (only c is)) ∙ is.named.path)
