use Rattle.std.proofs.Common.{◌≡◌, ◌≤◌, inr, List, ℕ, ℤ, length, take, Option, Some, sym, ◌∙◌, ap, subst, arith}
use Rattle.std.specs.Prelude.{IfSome, FitsSigned}
use Rattle.std.specs.Int.{w32}
use Rattle.std.proofs.lemmas.Int.{to_z-of_z, ints}
use Rattle.std.proofs.lemmas.List.{length-take}
use Rattle.arch_time.specs.YearTime.{IsSampleYear}
use Rattle.pb_messages.specs.declared.info.PayloadInfo.{PayloadInfo}
use Rattle.store_manifest.specs.declared.entry.Entry.{Entry}
use Rattle.etl_mover.specs.Lines.{TakesLines}
use Rattle.etl_mover.proofs.Taking.{keeps_part, lines_long}
use Rattle.etl_mover.proofs.copying.take_part.Goals as goal

cut_long : (lines cut : List ℕ) (n : ℕ) → cut ≡ take n lines → n ≤ length lines → length cut ≡ n
cut_long lines cut n is within = ap length is ∙ omega (arith, length-take n lines, within)

pub returns-in_default-clause-takes : goal.returns-in_default-clause-takes
returns-in_default-clause-takes c line info are whole header =
    let some = c.in_ok-info.ensures.header line info are whole header in absurd (cc (some, c.in_default.is))

pub returns-clause-keeps : goal.returns-clause-keeps
returns-clause-keeps c =
    let takes = c.in_ok-taken.ensures.takes in
    let keeps = keeps_part takes.samples c.args.entry.now in
    (ap (λ (e : Entry). e.part) takes.grows ∙ keeps.0, ap (λ (e : Entry). e.series) takes.grows ∙ keeps.1)

pub returns-clause-takes : goal.returns-clause-takes
returns-clause-takes c line info are whole header =
    let taken = c.in_ok-taken.taken in
    let lines = c.args.lines.now.items in
    let entry = c.args.entry.now in
    let some : ◌≡◌ {A = Option PayloadInfo} (Some c.in-Some.info) (Some info) = sym c.in-Some.is ∙ c.in_ok-info.ensures.header line info are whole header in
    let same : c.in-Some.info ≡ info = cc (some) in
    let long = cut_long lines c.truncate.new.self.items taken.len c.truncate.ensures.items (subst (λ (l : List ℕ). taken.len ≤ length l) c.deref.ensures.value c.in_ok-taken.ensures.within) in
    let takes = subst (λ (l : List ℕ). TakesLines c.in-Some.info.ty c.in-Ok.year.year l entry taken.len taken.entry) c.deref.ensures.value c.in_ok-taken.ensures.takes in
    let sample_year : IsSampleYear c.in-Some.info.year = subst (λ (o : Option PayloadInfo). IfSome o (λ (i : PayloadInfo). IsSampleYear i.year)) c.in-Some.is c.in_ok-info.ensures.year in
    let fits : FitsSigned w32 c.in-Some.info.year = omega (arith, ints, sample_year) in
    let year : c.in-Ok.year.year ≡ c.in-Some.info.year = c.in-Ok.ensures.value ∙ to_z-of_z w32 c.in-Some.info.year fits in
    let of_info = subst (λ (i : PayloadInfo). TakesLines i.ty i.year lines entry taken.len taken.entry) same (subst (λ (y : ℤ). TakesLines c.in-Some.info.ty y lines entry taken.len taken.entry) year takes) in
    subst (λ (n : ℕ). TakesLines info.ty info.year lines entry n taken.entry) (sym long) of_info

pub returns-clause-some : goal.returns-clause-some
returns-clause-some c =
    let taken = c.in_ok-taken.taken in
    let lines = c.args.lines.now.items in
    let entry = c.args.entry.now in
    let long = cut_long lines c.truncate.new.self.items taken.len c.truncate.ensures.items (subst (λ (l : List ℕ). taken.len ≤ length l) c.deref.ensures.value c.in_ok-taken.ensures.within) in
    let takes = subst (λ (l : List ℕ). TakesLines c.in-Some.info.ty c.in-Ok.year.year l entry taken.len taken.entry) c.deref.ensures.value c.in_ok-taken.ensures.takes in
    inr (c.in-Some.info.ty, c.in-Ok.year.year, subst (λ (n : ℕ). TakesLines c.in-Some.info.ty c.in-Ok.year.year lines entry n taken.entry) (sym long) takes)

pub returns-clause-front : goal.returns-clause-front
returns-clause-front c =
    let taken = c.in_ok-taken.taken in
    let lines = c.args.lines.now.items in
    let long = cut_long lines c.truncate.new.self.items taken.len c.truncate.ensures.items (subst (λ (l : List ℕ). taken.len ≤ length l) c.deref.ensures.value c.in_ok-taken.ensures.within) in
    c.truncate.ensures.items ∙ ap (λ (n : ℕ). take n lines) (sym long)

pub returns-clause-longer : goal.returns-clause-longer
returns-clause-longer c =
    let taken = c.in_ok-taken.taken in
    let lines = c.args.lines.now.items in
    let long = cut_long lines c.truncate.new.self.items taken.len c.truncate.ensures.items (subst (λ (l : List ℕ). taken.len ≤ length l) c.deref.ensures.value c.in_ok-taken.ensures.within) in
    let takes = c.in_ok-taken.ensures.takes in
    let grown = ap (λ (e : Entry). e.len) takes.grows ∙ lines_long takes.samples c.args.entry.now in
    let text = takes.long in
    omega (arith, long, grown, text)
