use Rattle.std.proofs.Common.{◌≡◌, ◌∙◌, ℕ, Option, None, Some, length, sym, ap, subst}
use Rattle.std.proofs.lemmas.Option.{same_Some}
use Rattle.disk_model.specs.Files.{Name, Files, HasFile}
use Rattle.partition_names.specs.declared.part.Part.{Part}
use Rattle.pb_file.specs.declared.good.Front.{Front}
use Rattle.pb_file.specs.GoodFront.{HasNoFront}
use Rattle.pv_name.specs.Key.{key_of}
use Rattle.found_files.specs.Reading.{HasFront, IsFrontOf}
use Rattle.found_files.specs.declared.finding.Candidate.{Candidate}
use Rattle.found_files.specs.Candidate.{IsCandidate}
use Rattle.found_files.proofs.Candidates.{candidate_of, none_without, none_named, read_sized}
use Rattle.found_files.proofs.finding.find_candidate.Goals as goal

-- what was read of the file once its size was known
front_in : (part : Part) (files later : Files) (n : Name) (o front : Option Front) → later ≡ files → o ≡ front → HasFront part later n o → HasFront part files n front
front_in part files later n o front same is has = subst (HasFront part files n) is (subst (λ (f : Files). HasFront part f n o) same has)

part_of : (a b : ℕ × Part) → Some a ≡ Some b → b.1 ≡ a.1
part_of a b is = sym (ap (λ (x : ℕ × Part). x.1) (same_Some a b is))

pub returns-in-Some-3-clause-found : goal.returns-in-Some-3-clause-found
returns-in-Some-3-clause-found g c told =
    let files = g.D.Disk.files c.args.disk.now in
    let n = c.args.file.now in
    let part = c.in-Some.part in
    let front = c.in-Some-3.front in
    let has : HasFile files n (λ b. IsFrontOf part b front) = front_in part files (g.D.Disk.files c.size.new.self) n c.in_ok-front.field-0 (Some front) (c.size.ensures.same told) c.in-Some-3.is (c.in_ok-front.ensures.front told) in
    candidate_of c.args.granularity files n part c.in-Some.ensures.within.1 front c.in-Some-2.len has (sym c.in-Some-2.is ∙ c.in_ok-len.ensures.size told) c.named.result c.named.ensures.found

pub returns-in-Some-3-clause-none : goal.returns-in-Some-3-clause-none
returns-in-Some-3-clause-none g c told =
    let files = g.D.Disk.files c.args.disk.now in
    let n = c.args.file.now in
    let part = c.in-Some.part in
    let front = c.in-Some-3.front in
    let has : HasFile files n (λ b. IsFrontOf part b front) = front_in part files (g.D.Disk.files c.size.new.self) n c.in_ok-front.field-0 (Some front) (c.size.ensures.same told) c.in-Some-3.is (c.in_ok-front.ensures.front told) in
    let path : c.as_slice.result.now ≡ n.1 = c.as_slice.ensures.value ∙ ap (λ (x : Name). x.1) c.file.view_is in
    none_named c.args.granularity files n part c.in-Some.ensures.within.1 (λ (x : Candidate) (is : IsCandidate c.args.granularity files n x). part_of (c.in-Some.field-0-0, part) (length (key_of x.name), x.part) (sym c.in-Some.is ∙ c.part_in.ensures.only x.name x.part is.unit (is.named.path ∙ sym path))) front has c.named.result c.named.ensures.none

pub returns-in-Some-3-clause-read : goal.returns-in-Some-3-clause-read
returns-in-Some-3-clause-read g c = read_sized g.D.Disk _ _ _ c.size.ensures.same c.size.ensures.opened c.size.ensures.crash c.size.ensures.faults c.front_of.ensures.read

pub returns-in-None-clause-none : goal.returns-in-None-clause-none
returns-in-None-clause-none g c told is =
    let files = g.D.Disk.files c.args.disk.now in
    let n = c.args.file.now in
    let part = c.in-Some.part in
    let has : HasFile files n (HasNoFront part) = front_in part files (g.D.Disk.files c.size.new.self) n c.in_ok-front.field-0 None (c.size.ensures.same told) c.in-None.is (c.in_ok-front.ensures.front told) in
    let path : c.as_slice.result.now ≡ n.1 = c.as_slice.ensures.value ∙ ap (λ (x : Name). x.1) c.file.view_is in
    none_without c.args.granularity files n part c.in-Some.ensures.within.1 (λ (x : Candidate) (is : IsCandidate c.args.granularity files n x). part_of (c.in-Some.field-0-0, part) (length (key_of x.name), x.part) (sym c.in-Some.is ∙ c.part_in.ensures.only x.name x.part is.unit (is.named.path ∙ sym path))) has
