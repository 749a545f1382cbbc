use Rattle.std.proofs.Common.{◌≡◌, ◌+◌, ℕ, length, take, sym, ◌∙◌, ap, subst, arith}
use Rattle.std.specs.Prelude.{IfOk}
use Rattle.disk_model.specs.Files.{HasFile, Name}
use Rattle.pb_lines.specs.File.{IsFile}
use Rattle.series_model.specs.Series.{since}
use Rattle.store_manifest.specs.declared.entry.Entry.{Entry}
use Rattle.durable_write.specs.Held.{Shelf, file_of}
use Rattle.tier_store.specs.Counting.{behind}
use Rattle.tier_store.proofs.Tallies.{all_later, none_later, file_read}
use Rattle.tier_store.proofs.tallying.count_over.Goals as goal

pub returns-in_default-clause-count : goal.returns-in_default-clause-count
returns-in_default-clause-count g c tells h f same is =
    let zero : behind c.args.last ≡ 0 = ap behind c.in_default.is in
    ap (λ (e : Entry). e.count) (sym same) ∙ all_later h (c.args.store, c.args.rows.now) (g.D.Disk.files c.args.disk.now) f is (behind c.args.last) (omega (arith, zero))

pub returns-then-last-entry-clause-count : goal.returns-then-last-entry-clause-count
returns-then-last-entry-clause-count g c tells h f same is =
    let at : behind c.args.last ≡ c.in-Some.last + 1 = ap behind c.in-Some.is in
    let first = ap (λ (e : Entry). e.first) same in
    ap (λ (e : Entry). e.count) (sym same) ∙ all_later h (c.args.store, c.args.rows.now) (g.D.Disk.files c.args.disk.now) f is (behind c.args.last) (omega (arith, at, first, c.if-last-entry.true))

pub returns-then-entry-last-clause-count : goal.returns-then-entry-last-clause-count
returns-then-entry-last-clause-count g c tells h f same is =
    let at : behind c.args.last ≡ c.in-Some.last + 1 = ap behind c.in-Some.is in
    let last = ap (λ (e : Entry). e.last) same in
    none_later h (c.args.store, c.args.rows.now) (g.D.Disk.files c.args.disk.now) f is (behind c.args.last) (omega (arith, at, last, c.if-entry-last.true))

pub returns-clause-count : goal.returns-clause-count
returns-clause-count g c tells h f same is =
    let shelf : Shelf = (c.args.store, c.args.rows.now) in
    let files = g.D.Disk.files c.args.disk.now in
    let read = file_read h shelf files f is in
    let named = subst (λ (n : Name). HasFile files n (λ b. IsFile (take c.args.entry.now.len b) f.head is.filed.info f.samples)) (sym c.in_ok-name.ensures)
    (subst (λ (e : Entry). HasFile files (file_of shelf e) (λ b. IsFile (take e.len b) f.head is.filed.info f.samples)) same read) in
    let head = ap (λ (e : Entry). e.head_len) (sym same) ∙ is.filed.head_len in
    let at : behind c.args.last ≡ c.in-Some.last + 1 = ap behind c.in-Some.is in
    subst (λ (n : ℕ). IfOk c.count_later.result (λ k. k ≡ length (since n f.samples))) (sym at) (c.count_later.ensures.count tells f.head is.filed.info f.samples named head)

pub returns-then-entry-last-clause-listed : goal.returns-then-entry-last-clause-listed
returns-then-entry-last-clause-listed g c low =
    let at : behind c.args.last ≡ c.in-Some.last + 1 = ap behind c.in-Some.is in
    absurd (omega (arith, at, low, c.if-last-entry.false))

pub returns-clause-listed : goal.returns-clause-listed
returns-clause-listed g c low =
    let at : behind c.args.last ≡ c.in-Some.last + 1 = ap behind c.in-Some.is in
    absurd (omega (arith, at, low, c.if-last-entry.false))
