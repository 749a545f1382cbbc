use Rattle.std.proofs.Common.{◌≡◌, ◌+◌, ◌++◌, ◌∷◌, [], ℕ, ℤ, length, arith, refl, ap, ◌∙◌, subst, FitsSigned, w32, to_z-of_z}
use Rattle.std.proofs.lemmas.Int.{ints}
use Rattle.std.proofs.lemmas.List.{length-append}
use Rattle.line_escape.specs.Escaping.{escaped}
use Rattle.pb_messages.specs.InfoSpelling.{info_text}
use Rattle.store_manifest.specs.declared.entry.Entry.{Entry}
use Rattle.durable_write.specs.Flush.{header_of}
use Rattle.durable_write.proofs.Batches.{fits_in_memory}
use Rattle.durable_write.proofs.plan.begin.Goals as goal

pub returns : goal.returns
returns c =
    let target = c.args.target.now in
    let row = c.args.row.now in
    let part = c.in-Some.part in
    let year = c.in-Some-split.start.year in
    let parts = c.in-Some.ensures.value in
    let start = c.in-Some-split.ensures.parts in
    let at = c.in-Some-split.ensures.value in
    let small : FitsSigned w32 year = omega (arith, ints, start) in
    let P : ℤ → Type 0 = λ y. c.in_ok-bytes.bytes.items ≡ escaped (info_text (header_of row y)) ++ 10 ∷ [] in
    let bytes = subst P (to_z-of_z small) c.in_ok-bytes.ensures.bytes in
    let head = escaped (info_text (header_of row year)) in
    let long : length c.in_ok-bytes.bytes.items ≡ length head + 1 = ap length bytes ∙ length-append head (10 ∷ []) in
    let size : c.len.result ≡ length head + 1 = omega (arith, long) in
    let head_len : c.in-Ok.head_len ≡ length head + 1 = c.in-Ok.ensures.1 ∙ size in
    let len : c.from.result ≡ length head + 1 = c.from.ensures ∙ head_len in
    let of : ℕ → ℕ → Entry = λ a b. record { series = target.series; part = part; len = a; head_len = b; first = c.args.t; last = c.args.t; count = 0 } in
    record {
      part = part;
      year = year;
      is_part = parts.0;
      holds = parts.1;
      starts = record { secs = c.in-Some-split.start.secs; nano = c.in-Some-split.start.nano; moments = start.0; in_year = start.1; at = at };
      fits = λ years. fits_in_memory (header_of row year) (omega (arith, c.in-Ok.ensures.0, size)) years c.in_ok-bytes.ensures.count;
      entry = ap (λ (n : ℕ). of n c.in-Ok.head_len) len ∙ ap (λ (n : ℕ). of (length head + 1) n) head_len;
      at = refl;
      bytes = bytes;
    }
