use Rattle.std.proofs.Common.{◌≡◌, ◌-◌, ◌∷◌, ◌++◌, [], ℕ, ℤ, List, Option, Some, length, take, drop, refl, sym, ◌∙◌, ap, subst, arith}
use Rattle.std.proofs.lemmas.List.{length-append, length-take}
use Rattle.std.specs.Prelude.{IfOk, IfSome, FitsSigned}
use Rattle.std.specs.Int.{w32}
use Rattle.std.proofs.lemmas.Int.{to_z-of_z, ints}
use Rattle.arch_time.specs.YearTime.{IsSampleYear}
use Rattle.disk_model.specs.Files.{Files}
use Rattle.pb_messages.specs.declared.info.PayloadInfo.{PayloadInfo}
use Rattle.line_escape.specs.Unescaping.{HasNoNewline}
use Rattle.pb_lines.specs.File.{AreSamples, lines_of}
use Rattle.pb_lines.specs.Header.{IsHeaderLine}
use Rattle.tier_store.specs.Counting.{HasLines, behind}
use Rattle.tier_store.specs.Finding.{IsNext, IsNoSooner, IsTold, no_header}
use Rattle.tier_store.proofs.Lines.{is_split, then_reads, header_front, says_file}
use Rattle.tier_store.proofs.finding.find_next.Goals as goal

pub returns-then-from-len-clause-next : goal.returns-then-from-len-clause-next
returns-then-from-len-clause-next g c tells head info samples has at =
    let long = ap length has.holds.text in
    absurd (omega (arith, long, at, c.from-from.ensures, c.if-from-len.true, length-take c.args.len has.bytes, length-append head (10 ∷ lines_of samples)))

pub returns-in_default-clause-next : goal.returns-in_default-clause-next
returns-in_default-clause-next g c tells head info samples has at =
    let b = has.bytes in
    let split = is_split b head c.args.head_len c.args.len info samples has.holds at in
    let line : c.deref.result.now ≡ head ++ 10 ∷ [] = c.deref.ensures.value ∙ (c.in_ok-head.ensures.bytes tells b has.file ∙ split.header) in
    let some = c.in_ok-info.ensures.header head info line has.holds.whole has.holds.header in
    absurd (cc (some, c.in_default.is))

pub returns-clause-next : goal.returns-clause-next
returns-clause-next g c tells head info samples has at =
    let name = c.args.name.now in
    let b = has.bytes in
    let split = is_split b head c.args.head_len c.args.len info samples has.holds at in
    let line : c.deref.result.now ≡ head ++ 10 ∷ [] = c.deref.ensures.value ∙ (c.in_ok-head.ensures.bytes tells b has.file ∙ split.header) in
    let some : ◌≡◌ {A = Option PayloadInfo} (Some c.in-Some.info) (Some info) = sym c.in-Some.is ∙ c.in_ok-info.ensures.header head info line has.holds.whole has.holds.header in
    let same : c.in-Some.info ≡ info = cc (some) in
    let sample_year : IsSampleYear c.in-Some.info.year = subst (λ (o : Option PayloadInfo). IfSome o (λ (i : PayloadInfo). IsSampleYear i.year)) c.in-Some.is c.in_ok-info.ensures.year in
    let fits : FitsSigned w32 c.in-Some.info.year = omega (arith, ints, sample_year) in
    let year : c.in-Ok.year.year ≡ c.in-Some.info.year = c.in-Ok.ensures.value ∙ to_z-of_z w32 c.in-Some.info.year fits in
    let files : g.D.Disk.files c.read.new.disk ≡ g.D.Disk.files c.args.disk.now = (c.in_ok-head.ensures.reads tells).same in
    let are : AreSamples c.in-Some.info.ty c.in-Ok.year.year samples =
    subst (λ (y : ℤ). AreSamples c.in-Some.info.ty y samples) (sym year) (subst (λ (i : PayloadInfo). AreSamples i.ty i.year samples) (sym same) has.holds.lines) in
    let from : c.from-from.result ≡ c.args.head_len = c.from-from.ensures in
    let lines : HasLines (g.D.Disk.files c.read.new.disk) name c.from-from.result c.args.len c.in-Some.info.ty c.in-Ok.year.year samples = record {
      are = are;
      lines = record {
        bytes = b;
        file = ap (λ (f : Files). f name) files ∙ has.file;
        holds = ap (λ (k : ℕ). take (c.args.len - k) (drop k b)) from ∙ split.lines;
      };
    } in
    subst (λ (k : ℕ). IfOk c.next_between.result (IsNext samples (behind c.args.last) k)) from (c.next_between.ensures.next tells samples lines)

pub returns-clause-reads : goal.returns-clause-reads
returns-clause-reads g c tells = then_reads _ _ _ (c.in_ok-head.ensures.reads tells) (c.next_between.ensures.reads tells)

pub returns-then-from-len-clause-told : goal.returns-then-from-len-clause-told
returns-then-from-len-clause-told g c tells =
    let there = c.requires.there tells in
    record {
      bytes = there.bytes;
      file = there.file;
      holds = no_header refl (λ line info begins.
          let long = ap length begins.text in
          let own = begins.long in
          absurd (omega (arith, long, own, c.from-from.ensures, c.if-from-len.true, length-take c.args.head_len (take c.args.len there.bytes), length-take c.args.len there.bytes, length-append line (10 ∷ []))));
    }

pub returns-in_default-clause-told : goal.returns-in_default-clause-told
returns-in_default-clause-told g c tells =
    let there = c.requires.there tells in
    record {
      bytes = there.bytes;
      file = there.file;
      holds = no_header refl (λ line info begins.
          let text : c.deref.result.now ≡ line ++ 10 ∷ [] = c.deref.ensures.value ∙ (c.in_ok-head.ensures.bytes tells there.bytes there.file ∙ header_front there.bytes line c.args.head_len c.args.len info begins) in
          let some = c.in_ok-info.ensures.header line info text begins.whole begins.header in
          absurd (cc (some, c.in_default.is)));
    }

pub returns-clause-told : goal.returns-clause-told
returns-clause-told g c tells =
    let name = c.args.name.now in
    let len = c.args.len in
    let info = c.in-Some.info in
    let there = c.requires.there tells in
    let line = subst (λ (o : Option PayloadInfo). IfSome o (λ (i : PayloadInfo). (line : List ℕ) × (c.deref.result.now ≡ line ++ 10 ∷ []) × HasNoNewline line × IsHeaderLine line i)) c.in-Some.is c.in_ok-info.ensures.line in
    let text = sym (c.in_ok-head.ensures.bytes tells there.bytes there.file) ∙ (sym c.deref.ensures.value ∙ line.1) in
    let sample_year : IsSampleYear info.year = subst (λ (o : Option PayloadInfo). IfSome o (λ (i : PayloadInfo). IsSampleYear i.year)) c.in-Some.is c.in_ok-info.ensures.year in
    let fits : FitsSigned w32 info.year = omega (arith, ints, sample_year) in
    let year : c.in-Ok.year.year ≡ info.year = c.in-Ok.ensures.value ∙ to_z-of_z w32 info.year fits in
    let files : g.D.Disk.files c.read.new.disk ≡ g.D.Disk.files c.args.disk.now = (c.in_ok-head.ensures.reads tells).same in
    let told = subst (λ (f : Files). IfOk c.next_between.result (IsTold f name c.from-from.result len info.ty c.in-Ok.year.year)) files (c.next_between.ensures.told tells) in
    let of_year = subst (λ (y : ℤ). IfOk c.next_between.result (IsTold (g.D.Disk.files c.args.disk.now) name c.from-from.result len info.ty y)) year told in
    let of_head = subst (λ (k : ℕ). IfOk c.next_between.result (IsTold (g.D.Disk.files c.args.disk.now) name k len info.ty info.year)) c.from-from.ensures of_year in
    says_file (g.D.Disk.files c.args.disk.now) name line.0 info c.args.head_len len c.next_between.result (record { bytes = there.bytes; file = there.file; holds = (there.holds, text) }) line.2 line.3 of_head
    (subst (λ (k : ℕ). IfOk c.next_between.result (IsNoSooner k)) c.from-from.ensures c.next_between.ensures.no_sooner) c.next_between.ensures.within
