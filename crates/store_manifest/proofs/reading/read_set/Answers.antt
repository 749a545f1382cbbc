use Rattle.std.proofs.Common.{◌∷◌, ◌++◌, List, ℕ, ap, sym, ◌∙◌}
use Rattle.std.specs.Int.{to_le_bytes, w64}
use Rattle.store_manifest.specs.declared.entry.Entry.{Entry}
use Rattle.store_manifest.proofs.Bytes.{no_short_set, no_part, read_members}
use Rattle.store_manifest.proofs.reading.read_set.Goals as goal

pub returns-then-bytes-lt48-clause-none : goal.returns-then-bytes-lt48-clause-none
returns-then-bytes-lt48-clause-none c change rest front = no_short_set c.args.g c.args.bytes.now change rest c.if-bytes-lt48.true front

pub returns-in_err-part-clause-none : goal.returns-in_err-part-clause-none
returns-in_err-part-clause-none c = rw c.from_residual.ensures (no_part
    c.args.g
    c.args.bytes.now
    c.read_u32-series.result.1.now
    c.read_u64-start.result.1.now
    c.read_u32-series.result.0
    c.read_u64-start.result.0
    c.read_u32-series.ensures.fits
    c.read_u64-start.ensures.fits
    c.read_u32-series.ensures.split
    c.read_u64-start.ensures.split
    c.in_err-part.ensures.none)

pub returns-clause-found : goal.returns-clause-found
returns-clause-found c =
    let e : Entry = record {
      series = c.read_u32-series.result.0;
      part = c.in_ok-part.part;
      len = c.read_u64-len.result.0;
      head_len = c.read_u32-head_len.result.0;
      first = c.read_u64-first.result.0;
      last = c.read_u64-last.result.0;
      count = c.read_u64-count.result.0;
    } in
    record {
      split = ap (λ (l : List ℕ). 2 ∷ l) (
          read_members
          e
          c.args.bytes.now
          c.read_u32-series.result.1.now
          c.read_u64-start.result.1.now
          c.read_u64-len.result.1.now
          c.read_u32-head_len.result.1.now
          c.read_u64-first.result.1.now
          c.read_u64-last.result.1.now
          c.read_u64-count.result.1.now
          c.read_u32-series.ensures.split
          (c.read_u64-start.ensures.split ∙ ap (λ (n : ℕ). to_le_bytes w64 n ++ c.read_u64-start.result.1.now) (sym c.in_ok-part.ensures.part.1))
          c.read_u64-len.ensures.split
          c.read_u32-head_len.ensures.split
          c.read_u64-first.ensures.split
          c.read_u64-last.ensures.split
          c.read_u64-count.ensures.split
          );
      sizes = record {
        series = c.read_u32-series.ensures.fits;
        len = c.read_u64-len.ensures.fits;
        head_len = c.read_u32-head_len.ensures.fits;
        first = c.read_u64-first.ensures.fits;
        last = c.read_u64-last.ensures.fits;
        count = c.read_u64-count.ensures.fits;
      };
      part = c.in_ok-part.ensures.part.0;
    }
