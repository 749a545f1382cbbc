-- A header and short lines of samples are a stream of just them.
use Rattle.std.proofs.Common.{◌≢◌, ℕ, ◌+◌, ◌*◌, ◌^◌, ◌<◌, ◌≤◌, inl, inr, List, [], ◌∷◌, ◌++◌, None, length, map, arith, refl}
use Rattle.std.specs.List.{AllByRecursion}
use Rattle.line_escape.specs.Unescaping.{HasNoNewline}
use Rattle.edge_io.specs.declared.lines.LineRead.TheVariants.{End}
use Rattle.series_model.specs.declared.sample.Sample.{Sample}
use Rattle.pb_messages.specs.declared.info.PayloadInfo.{PayloadInfo}
use Rattle.pb_lines.specs.File.{AreSamples, IsSample, lines_of}
use Rattle.pb_lines.specs.Header.{IsHeaderLine}
use Rattle.pb_lines.specs.Stream.{IsItems, IsLines, IsWholeStream, header, sample, chunk_end, within}

-- a sample of the header's type and year, whose line is not empty and not long
pub record IsShort (info : PayloadInfo) (s : Sample) : Type 0 where
  pub good : IsSample info.ty info.year s
  pub some : s.line ≢ []
  pub short : length s.line ≤ 127

line_in : Sample → List ℕ
line_in s = s.line

-- they are cut at their newlines
short_lines : (info : PayloadInfo) (p : ℕ) (xs : List Sample) → AllByRecursion (IsShort info) xs → p + 128 * length xs < 2 ^ 40 → IsLines p (lines_of xs) (map line_in xs) End
unfolding line_in
short_lines info p [] all room = (refl, omega arith)
short_lines info p (s ∷ xs) all room =
    (lines_of xs, refl, all.0.good.whole, omega (arith, all.0.short), omega (arith, all.0.short), short_lines info (p + length s.line + 1) xs all.1 (omega (arith, all.0.short)))

-- each is read as its sample, and the end as the chunk's
short_items : (info : PayloadInfo) (n : ℕ) (xs : List Sample) → AllByRecursion (IsShort info) xs → IsItems (within info) n (map line_in xs) End (map sample xs ++ chunk_end ∷ []) None
unfolding line_in
short_items info n [] all = inl (info, refl, refl, refl)
short_items info n (s ∷ xs) all = inr (inl (sample s, within info, map sample xs ++ chunk_end ∷ [], (info, refl, all.0.some, all.0.good.meant, refl, refl), refl, short_items info (n + 1) xs all.1))

pub is_stream : (info : PayloadInfo) (head : List ℕ) (xs : List Sample) → HasNoNewline head → IsHeaderLine head info → head ≢ [] → length head ≤ 127 → AllByRecursion (IsShort info) xs → length xs ≤ 2 ^ 30
    → IsWholeStream (head ++ 10 ∷ lines_of xs) (header info head ∷ (map sample xs ++ chunk_end ∷ [])) None
is_stream info head xs whole means some short all few = record {
  lines = head ∷ map line_in xs;
  ending = End;
  cut = (lines_of xs, refl, whole, omega arith, omega arith, short_lines info (0 + length head + 1) xs all (omega arith));
  read = inr (inl (header info head, within info, map sample xs ++ chunk_end ∷ [], (refl, some, means, refl, refl), refl, short_items info (0 + 1) xs all));
}

-- each of short samples is a sample
pub are_samples : (info : PayloadInfo) (xs : List Sample) → AllByRecursion (IsShort info) xs → AreSamples info.ty info.year xs
are_samples info [] all = tt
are_samples info (s ∷ xs) all = (all.0.good, are_samples info xs all.1)
