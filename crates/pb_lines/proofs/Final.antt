-- A refusal stays, whatever bytes come behind.
use Rattle.std.proofs.Common.{◌≡◌, ◌≢◌, ℕ, ◌+◌, ◌≤◌, inl, inr, List, [], ◌∷◌, ◌++◌, All, Some, Bool, true, false, cond, length, arith, refl, sym, ap, ◌∙◌, append_assoc, subst, None}
use Rattle.std.specs.Prelude.{◌==◌, ◌-◌, ◌^◌, if◌then◌else◌}
use Rattle.std.proofs.lemmas.Bool.{ne_eqb}
use Rattle.std.proofs.lemmas.List.{length-append}
use Rattle.std.proofs.lemmas.List.Elements.{All-head, All-tail}
use Rattle.std.proofs.lemmas.List.Sums.{sum_by-cons, sum_by-append}
use Rattle.edge_io.proofs.Ahead.{none_below_more}
use Rattle.edge_io.specs.declared.lines.LineRead.{LineRead}
use Rattle.edge_io.specs.declared.lines.LineRead.TheVariants.{Line, End, Torn, TooLong, InputTooLong, SourceFault, Memory}
use Rattle.pb_lines.specs.declared.fault.ChunkFault.{ChunkFault}
use Rattle.pb_lines.specs.declared.fault.ChunkFault.TheVariants as fault
use Rattle.pb_lines.specs.Stream.{Item, Section, Stop, IsStream, IsLines, IsItems, IsEnding, IsFinal, Fails, Ends, newline_count}
use Rattle.pb_lines.proofs.Lines.{cut_of}

-- THE FIRST BAD LINE STAYS

abbrev refusal : ℕ → ChunkFault → Stop
refusal k f = Some (k, f)

same_refusal : (a b : ℕ × ChunkFault) → Some a ≡ Some b → a ≡ b
same_refusal a b h = cc

same_line : (n k : ℕ) (f g : ChunkFault) → refusal k f ≡ refusal n g → k ≡ n
same_line n k f g h = ap (λ (x : ℕ × ChunkFault). x.0) (same_refusal (k, f) (n, g) h)

same_fault : (n k : ℕ) (f g : ChunkFault) → refusal k f ≡ refusal n g → f ≡ g
same_fault n k f g h = ap (λ (x : ℕ × ChunkFault). x.1) (same_refusal (k, f) (n, g) h)

final_is : (n k : ℕ) (f g : ChunkFault) → refusal k f ≡ refusal n g → IsFinal f → IsFinal g
final_is n k f g h final = subst IsFinal (same_fault n k f g h) final

no_refusal : (k : ℕ) (f : ChunkFault) → refusal k f ≡ None → ⊥
no_refusal k f h = cc

-- the stop at the end of a stream outside a chunk
abbrev end_stop : Bool → ℕ → Stop
end_stop begun n = if begun then None else refusal (n + 1) fault.NoHeader

no_final_end : (begun : Bool) (n k : ℕ) (f : ChunkFault) → refusal k f ≡ end_stop begun n → IsFinal f → ⊥
no_final_end true n k f h final = no_refusal k f h
no_final_end false n k f h final = final_is (n + 1) k f fault.NoHeader h final

-- An ending that refuses for good is one with more bytes too.
final_ending : (s : Section) (n p : ℕ) (bytes more : List ℕ) (e : LineRead) (items : List Item) (k : ℕ) (f : ChunkFault) →
    IsEnding p bytes e → Ends s n e items (Some (k, f)) → IsFinal f → IsStream s n p (bytes ++ more) items (Some (k, f))
final_ending s n p bytes more TooLong items k f h read final =
    record {
      lines = [];
      ending = TooLong;
      cut = (omega (arith, h.0, length-append bytes more), h.1, none_below_more bytes more 16777217 16777217 h.2 (omega arith) (omega (arith, h.0)));
      read = read;
    }
final_ending s n p bytes more InputTooLong items k f h read final =
    record {
      lines = [];
      ending = InputTooLong;
      cut = (omega (arith, h.0, length-append bytes more), h.1, none_below_more bytes more (2 ^ 40 - p) (2 ^ 40 - p) h.2 (omega arith) (omega (arith, h.0)));
      read = read;
    }
final_ending s n p bytes more Torn items k f h read final = absurd (final_is (n + 1) k f fault.Torn read.1 final)
final_ending s n p bytes more End items k f h (inl read) final = absurd (no_refusal k f read.3)
final_ending s n p bytes more End items k f h (inr read) final = absurd (no_final_end s.begun n k f read.2 final)
final_ending s n p bytes more Line items k f h read final = absurd h
final_ending s n p bytes more SourceFault items k f h read final = absurd h
final_ending s n p bytes more Memory items k f h read final = absurd h

-- what follows a line is what followed it, and more
line_and_more : (bytes line rest more : List ℕ) → bytes ≡ line ++ 10 ∷ rest → bytes ++ more ≡ line ++ 10 ∷ (rest ++ more)
line_and_more bytes line rest more is = ap (λ (xs : List ℕ). xs ++ more) is ∙ append_assoc line (10 ∷ rest) more

final_lines : (lines : List (List ℕ)) (s : Section) (n p : ℕ) (bytes more : List ℕ) (e : LineRead) (items : List Item) (k : ℕ) (f : ChunkFault) →
    IsLines p bytes lines e → IsItems s n lines e items (Some (k, f)) → IsFinal f → IsStream s n p (bytes ++ more) items (Some (k, f))
final_lines [] s n p bytes more e items k f cut read final = final_ending s n p bytes more e items k f cut read final
final_lines (line ∷ lines) s n p bytes more e items k f cut (inl skips) final =
    let rest = final_lines lines s (n + 1) (p + length line + 1) cut.0 more e items k f cut.5 skips.1 final in
    record {
      lines = line ∷ rest.lines;
      ending = rest.ending;
      cut = (cut.0 ++ more, line_and_more bytes line cut.0 more cut.1, cut.2, cut.3, cut.4, rest.cut);
      read = inl (skips.0, rest.read);
    }
final_lines (line ∷ lines) s n p bytes more e items k f cut (inr (inl gives)) final =
    let rest = final_lines lines gives.1 (n + 1) (p + length line + 1) cut.0 more e gives.2 k f cut.5 gives.5 final in
    record {
      lines = line ∷ rest.lines;
      ending = rest.ending;
      cut = (cut.0 ++ more, line_and_more bytes line cut.0 more cut.1, cut.2, cut.3, cut.4, rest.cut);
      read = inr (inl (gives.0, gives.1, gives.2, gives.3, gives.4, rest.read));
    }
final_lines (line ∷ lines) s n p bytes more e items k f cut (inr (inr fails)) final =
    let rest = cut_of (p + length line + 1) (cut.0 ++ more) in
    record {
      lines = line ∷ rest.lines;
      ending = rest.ending;
      cut = (cut.0 ++ more, line_and_more bytes line cut.0 more cut.1, cut.2, cut.3, cut.4, rest.cut);
      read = inr (inr fails);
    }

pub refusal_is_final : (s : Section) (n p : ℕ) (bytes more : List ℕ) (items : List Item) (k : ℕ) (f : ChunkFault) →
    IsStream s n p bytes items (Some (k, f)) → IsFinal f → IsStream s n p (bytes ++ more) items (Some (k, f))
refusal_is_final s n p bytes more items k f h final = final_lines h.lines s n p bytes more h.ending items k f h.cut h.read final

-- A HEADER IS MISSED BEHIND THE LAST NEWLINE

abbrev one_if : Bool → ℕ
one_if b = cond b 1 0

no_newlines : (line : List ℕ) → All (λ x. x ≢ 10) line → newline_count line ≡ 0
no_newlines [] whole = refl
no_newlines (x ∷ line) whole =
    let other : (x == 10) ≡ false = ne_eqb x 10 (All-head (λ y. y ≢ 10) x line whole) in
    omega (arith, ap one_if other, sum_by-cons (λ y. one_if (y == 10)) x line, no_newlines line (All-tail (λ y. y ≢ 10) x line whole))

one_more_newline : (bytes line rest : List ℕ) → bytes ≡ line ++ 10 ∷ rest → All (λ x. x ≢ 10) line → newline_count bytes ≡ newline_count rest + 1
one_more_newline bytes line rest is whole =
    omega (arith, ap newline_count is, sum_by-append (λ x. one_if (x == 10)) line (10 ∷ rest), sum_by-cons (λ x. one_if (x == 10)) 10 rest, no_newlines line whole)

missed_at_end : (begun : Bool) (n k : ℕ) → refusal k fault.NoHeader ≡ end_stop begun n → k ≡ n + 1
missed_at_end true n k h = absurd (no_refusal k fault.NoHeader h)
missed_at_end false n k h = same_line (n + 1) k fault.NoHeader fault.NoHeader h

other_fault : (P : Type 0) (n k : ℕ) (f : ChunkFault) → refusal k fault.NoHeader ≡ refusal n f → fault.NoHeader ≢ f → P
other_fault P n k f h other = absurd (other (same_fault n k fault.NoHeader f h))

header_missed : (lines : List (List ℕ)) (s : Section) (n p : ℕ) (bytes : List ℕ) (e : LineRead) (items : List Item) (k : ℕ) →
    IsLines p bytes lines e → IsItems s n lines e items (Some (k, fault.NoHeader)) → k ≡ n + newline_count bytes + 1
header_missed [] s n p bytes End items k cut (inl read) = absurd (no_refusal k fault.NoHeader read.3)
header_missed [] s n p bytes End items k cut (inr read) = omega (arith, ap newline_count cut.0, missed_at_end s.begun n k read.2)
header_missed [] s n p bytes Torn items k cut read = other_fault (k ≡ n + newline_count bytes + 1) (n + 1) k fault.Torn read.1 (λ e. cc)
header_missed [] s n p bytes TooLong items k cut read = other_fault (k ≡ n + newline_count bytes + 1) (n + 1) k fault.LineTooLong read.1 (λ e. cc)
header_missed [] s n p bytes InputTooLong items k cut read = other_fault (k ≡ n + newline_count bytes + 1) (n + 1) k fault.InputTooLong read.1 (λ e. cc)
header_missed [] s n p bytes Line items k cut read = absurd cut
header_missed [] s n p bytes SourceFault items k cut read = absurd cut
header_missed [] s n p bytes Memory items k cut read = absurd cut
header_missed (line ∷ lines) s n p bytes e items k cut (inl skips) =
    omega (arith, one_more_newline bytes line cut.0 cut.1 cut.2, header_missed lines s (n + 1) (p + length line + 1) cut.0 e items k cut.5 skips.1)
header_missed (line ∷ lines) s n p bytes e items k cut (inr (inl gives)) =
    omega (arith, one_more_newline bytes line cut.0 cut.1 cut.2, header_missed lines gives.1 (n + 1) (p + length line + 1) cut.0 e gives.2 k cut.5 gives.5)
header_missed (line ∷ lines) s n p bytes e items k cut (inr (inr fails)) =
    other_fault (k ≡ n + newline_count bytes + 1) (n + 1) k fails.0 fails.3 (λ e. subst (λ (f : ChunkFault). Fails s line f) (sym e) fails.1)

is_final : (f : ChunkFault) → f ≢ fault.Torn → f ≢ fault.NoHeader → IsFinal f
is_final fault.NoHeader whole begun = begun refl
is_final fault.Torn whole begun = whole refl
is_final (fault.BadHeader f) whole begun = tt
is_final (fault.BadLine f) whole begun = tt
is_final fault.LineTooLong whole begun = tt
is_final fault.InputTooLong whole begun = tt

pub whole_line_is_final : (s : Section) (n p : ℕ) (bytes more : List ℕ) (items : List Item) (k : ℕ) (f : ChunkFault) →
    IsStream s n p bytes items (Some (k, f)) → f ≢ fault.Torn → k ≤ n + newline_count bytes → IsStream s n p (bytes ++ more) items (Some (k, f))
whole_line_is_final s n p bytes more items k f h whole within =
    refusal_is_final s n p bytes more items k f h
    (is_final f whole (λ missed.
    let P : ChunkFault → Type 0 = λ g. IsItems s n h.lines h.ending items (Some (k, g)) in
    let behind : k ≡ n + newline_count bytes + 1 = header_missed h.lines s n p bytes h.ending items k h.cut (subst P missed h.read) in
    omega arith))
