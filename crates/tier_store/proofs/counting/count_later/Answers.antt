use Rattle.std.proofs.Common.{◌≡◌, ◌-◌, ◌∷◌, ◌++◌, [], ℕ, ℤ, Option, Some, take, drop, sym, ◌∙◌, ap, subst, arith}
use Rattle.std.specs.Prelude.{IfSome, FitsSigned}
use Rattle.std.specs.Int.{w32}
use Rattle.std.proofs.lemmas.Int.{to_z-of_z, ints}
use Rattle.arch_time.specs.YearTime.{IsSampleYear}
use Rattle.disk_model.specs.Files.{Files}
use Rattle.pb_messages.specs.declared.info.PayloadInfo.{PayloadInfo}
use Rattle.pb_lines.specs.File.{AreSamples}
use Rattle.tier_store.specs.Counting.{HasLines}
use Rattle.tier_store.proofs.Lines.{is_split, then_reads}
use Rattle.tier_store.proofs.counting.count_later.Goals as goal

pub returns-in_default-clause-count : goal.returns-in_default-clause-count
returns-in_default-clause-count g c tells head info samples has at =
    let e = c.args.entry.now in
    let b = has.bytes in
    let split = is_split b head e.head_len e.len info samples has.holds at in
    let line : c.deref.result.now ≡ head ++ 10 ∷ [] = c.deref.ensures.value ∙ (c.in_ok-head.ensures.bytes tells b has.file ∙ split.header) in
    let some = c.in_ok-info.ensures.header head info line has.holds.whole has.holds.header in
    absurd (cc (some, c.in_default.is))

pub returns-clause-count : goal.returns-clause-count
returns-clause-count g c tells head info samples has at =
    let e = c.args.entry.now in
    let name = c.args.name.now in
    let b = has.bytes in
    let split = is_split b head e.head_len e.len info samples has.holds at in
    let line : c.deref.result.now ≡ head ++ 10 ∷ [] = c.deref.ensures.value ∙ (c.in_ok-head.ensures.bytes tells b has.file ∙ split.header) in
    let some : ◌≡◌ {A = Option PayloadInfo} (Some c.in-Some.info) (Some info) = sym c.in-Some.is ∙ c.in_ok-info.ensures.header head info line has.holds.whole has.holds.header in
    let same : c.in-Some.info ≡ info = cc (some) in
    let sample_year : IsSampleYear c.in-Some.info.year = subst (λ (o : Option PayloadInfo). IfSome o (λ (i : PayloadInfo). IsSampleYear i.year)) c.in-Some.is c.in_ok-info.ensures.year in
    let fits : FitsSigned w32 c.in-Some.info.year = omega (arith, ints, sample_year) in
    let year : c.in-Ok.year.year ≡ c.in-Some.info.year = c.in-Ok.ensures.value ∙ to_z-of_z w32 c.in-Some.info.year fits in
    let files : g.D.Disk.files c.read.new.disk ≡ g.D.Disk.files c.args.disk.now = (c.in_ok-head.ensures.reads tells).same in
    let are : AreSamples c.in-Some.info.ty c.in-Ok.year.year samples =
    subst (λ (y : ℤ). AreSamples c.in-Some.info.ty y samples) (sym year) (subst (λ (i : PayloadInfo). AreSamples i.ty i.year samples) (sym same) has.holds.lines) in
    let from : c.from-from.result ≡ e.head_len = c.from-from.ensures in
    let lines : HasLines (g.D.Disk.files c.read.new.disk) name c.from-from.result e.len c.in-Some.info.ty c.in-Ok.year.year samples = record {
      are = are;
      lines = record {
        bytes = b;
        file = ap (λ (f : Files). f name) files ∙ has.file;
        holds = ap (λ (k : ℕ). take (e.len - k) (drop k b)) from ∙ split.lines;
      };
    } in
    c.count_between.ensures.count tells samples lines

pub returns-clause-reads : goal.returns-clause-reads
returns-clause-reads g c tells = then_reads _ _ _ (c.in_ok-head.ensures.reads tells) (c.count_between.ensures.reads tells)
