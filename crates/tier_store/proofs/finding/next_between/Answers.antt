use Rattle.std.proofs.Common.{◌≡◌, ◌≤◌, ◌-◌, ◌+◌, ℕ, List, [], Bool, length, refl, ◌∙◌, ap, subst, arith}
use Rattle.std.specs.Prelude.{IsTrue}
use Rattle.disk_model.specs.Files.{Files, HasFile}
use Rattle.disk_model.proofs.Passing.{passes_none}
use Rattle.tier_store.specs.Counting.{behind}
use Rattle.tier_store.specs.Finding.{AreLinesFrom, SkipsLines}
use Rattle.tier_store.proofs.Lines.{IsPiece, goes_on, then_reads, both_file, damaged_here, lines_begun, lines_more, not_damaged, skipped_counting, splits_end, splits_here}
use Rattle.tier_store.proofs.finding.next_between.Goals as goal
use Rattle.tier_store.proofs.finding.next_between.Goals.{In_ok-skipped, then-skipped-eq0+else-want-rest, else-skipped-eq0}

pub loop-at-init : goal.loop-at-init
loop-at-init g c = record {
  some = omega arith;
  low = omega arith;
  high = c.requires.within;
  between = λ tells samples has. record { done = []; left = samples; split = refl; here = has; counted = refl; place = omega arith };
  told = λ tells. let there = c.requires.there tells in record { bytes = there.bytes; file = there.file; holds = lines_begun c.args.ty c.args.year.now.year c.args.from there.bytes };
  reads = λ tells. record { same = refl; same_opened = refl; any_moment = passes_none (λ (a b : Files). b ≡ a) _ (λ image left. refl) };
  faults = omega arith;
}

-- a piece was read, and lines at its front were skipped
piece : (g : _) (c : In_ok-skipped g) → IsTrue g.D.Disk.tells → IsPiece (g.D.Disk.files c.args.disk.now) c.args.name.now c.loop-at.at c.min.result c.in_ok-bytes.bytes.items
piece g c tells b is = c.in_ok-bytes.ensures.bytes tells b (ap (λ (f : Files). f c.args.name.now) (c.loop-at.invariant.reads tells).same ∙ is)

skips : (g : _) (c : In_ok-skipped g) → SkipsLines c.args.ty c.args.year.now.year c.in_ok-bytes.bytes.items (behind c.args.last) c.in_ok-skipped.skipped.len c.in_ok-skipped.skipped.found
skips g c = subst (λ (l : List ℕ). SkipsLines c.args.ty c.args.year.now.year l (behind c.args.last) c.in_ok-skipped.skipped.len c.in_ok-skipped.skipped.found) c.deref.ensures.value c.in_ok-skipped.ensures.skips

-- the lines that were skipped stand behind those before them
skipped_told : (g : _) (c : In_ok-skipped g) → IsTrue g.D.Disk.tells → HasFile (g.D.Disk.files c.args.disk.now) c.args.name.now (AreLinesFrom c.args.ty c.args.year.now.year c.args.from (c.loop-at.at + c.in_ok-skipped.skipped.len))
skipped_told g c tells =
    let told = c.loop-at.invariant.told tells in
    let long = ap length c.deref.ensures.value in
    record {
      bytes = told.bytes;
      file = told.file;
      holds = lines_more c.args.ty c.args.year.now.year c.args.from c.loop-at.at c.min.result (behind c.args.last) c.in_ok-skipped.skipped.len c.in_ok-skipped.skipped.found c.in_ok-bytes.bytes.items told.bytes c.loop-at.invariant.low
          (omega (arith, long, c.in_ok-skipped.ensures.within, c.in_ok-bytes.ensures.long)) (piece g c tells told.bytes told.file) (skips g c) told.holds;
    }

pub returns-then-skipped-clause-told : goal.returns-then-skipped-clause-told
returns-then-skipped-clause-told g c tells = skipped_told g (goal.at.returns-then-skipped-clause-told g c).In_ok-skipped tells

pub returns-clause-told : goal.returns-clause-told
returns-clause-told g c tells =
    subst (λ (k : ℕ). HasFile (g.D.Disk.files c.args.disk.now) c.args.name.now (AreLinesFrom c.args.ty c.args.year.now.year c.args.from k)) (omega (arith, c.loop-at-test.false, c.loop-at.invariant.high)) (c.loop-at.invariant.told tells)

pub returns-then-skipped-clause-next : goal.returns-then-skipped-clause-next
returns-then-skipped-clause-next g c tells samples has =
    let on = (goal.at.returns-then-skipped-clause-next g c).In_ok-skipped in
    let found = subst (λ (f : Bool). SkipsLines c.args.ty c.args.year.now.year c.in_ok-bytes.bytes.items (behind c.args.last) c.in_ok-skipped.skipped.len f) c.if-skipped.true (skips g on) in
    splits_here (g.D.Disk.files c.args.disk.now) c.args.name.now c.args.from c.loop-at.at c.args.end c.min.result c.args.ty c.args.year.now.year (behind c.args.last) samples c.in_ok-skipped.skipped.len c.in_ok-bytes.bytes.items (c.loop-at.invariant.between tells samples has) (omega (arith, c.min.ensures)) (piece g on tells) found

pub returns-then-skipped-clause-within : goal.returns-then-skipped-clause-within
returns-then-skipped-clause-within g c =
    let long = ap length c.deref.ensures.value in
    omega (arith, long, c.min.ensures, c.in_ok-skipped.ensures.within, c.in_ok-bytes.ensures.long, c.loop-at-test.true)

pub returns-then-want-rest-clause-next : goal.returns-then-want-rest-clause-next
returns-then-want-rest-clause-next g c tells samples has =
    let on = (goal.at.returns-then-want-rest-clause-next g c).In_ok-skipped in
    let found = subst (λ (f : Bool). SkipsLines c.args.ty c.args.year.now.year c.in_ok-bytes.bytes.items (behind c.args.last) c.in_ok-skipped.skipped.len f) c.if-skipped.false (skips g on) in
    not_damaged (g.D.Disk.files c.args.disk.now) c.args.name.now c.args.from c.loop-at.at c.args.end c.min.result c.args.ty c.args.year.now.year (behind c.args.last) samples c.in_ok-skipped.skipped.len c.in_ok-bytes.bytes.items (c.requires.there tells) c.loop-at-test.true (c.loop-at.invariant.between tells samples has) (omega (arith, c.min.ensures, c.if-want-rest.true)) (piece g on tells) c.if-skipped-eq0.true found

pub returns-then-want-rest-clause-told : goal.returns-then-want-rest-clause-told
returns-then-want-rest-clause-told g c tells =
    let on = (goal.at.returns-then-want-rest-clause-told g c).In_ok-skipped in
    let found = subst (λ (f : Bool). SkipsLines c.args.ty c.args.year.now.year c.in_ok-bytes.bytes.items (behind c.args.last) c.in_ok-skipped.skipped.len f) c.if-skipped.false (skips g on) in
    both_file (g.D.Disk.files c.args.disk.now) c.args.name.now _ _ (c.loop-at.invariant.told tells) (damaged_here (g.D.Disk.files c.args.disk.now) c.args.name.now c.loop-at.at c.args.end c.min.result c.args.ty c.args.year.now.year (behind c.args.last) c.in_ok-skipped.skipped.len c.in_ok-bytes.bytes.items (c.requires.there tells) (omega (arith, c.min.ensures, c.if-want-rest.true)) (piece g on tells) c.if-skipped-eq0.true found)

pub returns-clause-next : goal.returns-clause-next
returns-clause-next g c tells samples has =
    splits_end (g.D.Disk.files c.args.disk.now) c.args.name.now c.args.from c.loop-at.at c.args.end c.args.ty c.args.year.now.year (behind c.args.last) samples (c.loop-at.invariant.between tells samples has) (omega (arith, c.loop-at-test.false)) c.loop-at.invariant.high

pub loop-at-preserved : goal.loop-at-preserved
loop-at-preserved g c =
    let at = c.loop-at.at in
    let skipped = c.in_ok-skipped.skipped in
    let bytes = c.in_ok-bytes.bytes.items in
    let n = behind c.args.last in
    let within : c.min.result ≤ c.args.end - at = omega (arith, c.min.ensures) in
    let long = ap length c.deref.ensures.value in
    let low : skipped.len ≤ c.args.end - at = omega (arith, within, long, c.in_ok-skipped.ensures.within, c.in_ok-bytes.ensures.long) in
    record {
      some = elim c.if-skipped-eq0.branch [
        | then-skipped-eq0+else-want-rest w ↦ omega (arith, w.want-is, w.saturating_mul-want.ensures, c.loop-at.invariant.some)
        | else-skipped-eq0 w ↦ omega (arith, w.want-is, c.loop-at.invariant.some)
      ];
      low = omega (arith, c.loop-at.invariant.low);
      high = omega (arith, low, c.loop-at-test.true);
      between = λ tells samples has.
          let on = (goal.at.loop-at-preserved g c).In_ok-skipped in
          goes_on (g.D.Disk.files c.args.disk.now) c.args.name.now c.args.from at c.args.end c.min.result c.args.ty c.args.year.now.year n samples 0 skipped.len 0 bytes (c.loop-at.invariant.between tells samples has) within (piece g on tells) low (skipped_counting c.args.ty c.args.year.now.year bytes n skipped.len skipped.found (skips g on));
      told = λ tells. skipped_told g (goal.at.loop-at-preserved g c).In_ok-skipped tells;
      reads = λ tells. then_reads _ _ _ (c.loop-at.invariant.reads tells) (c.in_ok-bytes.ensures.reads tells);
      faults = omega (arith, c.loop-at.invariant.faults, c.in_ok-bytes.ensures.faults);
    }
