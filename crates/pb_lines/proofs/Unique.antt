-- A list of bytes is one stream alone.
use Rattle.std.proofs.Common.{◌≡◌, ◌≢◌, ℕ, ◌+◌, ◌≤◌, inl, inr, List, [], ◌∷◌, ◌++◌, Some, None, Result, Ok, Err, ℤ, length, get_or, arith, refl, sym, ap, ◌∙◌, subst}
use Rattle.std.specs.Prelude.{◌^◌}
use Rattle.std.proofs.lemmas.List.{length-append}
use Rattle.std.proofs.lemmas.List.Elements.{recursion_from_All}
use Rattle.line_escape.specs.Unescaping.{Means}
use Rattle.line_escape.proofs.EscapingLemmas.{meaning_unique, bad_means_nothing, one_bad_place, lines_apart}
use Rattle.pb_messages.specs.Event.{stamp_of}
use Rattle.pb_wire.specs.declared.fault.FieldFault.{FieldFault}
use Rattle.arch_time.specs.YearTime.{moment}
use Rattle.pb_wire.specs.declared.payload.PayloadType.{PayloadType}
use Rattle.pb_messages.specs.declared.info.PayloadInfo.{PayloadInfo}
use Rattle.pb_messages.specs.Info.{info_of}
use Rattle.edge_io.specs.declared.lines.LineRead.{LineRead}
use Rattle.edge_io.specs.declared.lines.LineRead.TheVariants.{Line, End, Torn, TooLong, InputTooLong, SourceFault, Memory}
use Rattle.series_model.specs.declared.sample.Sample.{Sample}
use Rattle.pb_lines.specs.declared.fault.LineFault.{LineFault}
use Rattle.pb_lines.specs.declared.fault.LineFault.TheVariants as line_fault
use Rattle.pb_lines.specs.declared.fault.HeadFault.{HeadFault}
use Rattle.pb_lines.specs.declared.fault.HeadFault.TheVariants as head_fault
use Rattle.pb_lines.specs.declared.fault.ChunkFault.{ChunkFault}
use Rattle.pb_lines.specs.declared.fault.ChunkFault.TheVariants as fault
use Rattle.pb_lines.specs.Sample.{IsStamp, IsSampleLine, IsLineFault}
use Rattle.pb_lines.specs.Header.{IsHeaderLine, IsHeadFault}
use Rattle.pb_lines.specs.Stream.{Item, header, sample, chunk_end, Section, Stop, IsStream, IsLines, IsItems, IsEnding, Skips, Gives, Fails, Ends, EndsWell, within}

ok_is : {A E : Type 0} → (r : Result A E) (x y : A) → r ≡ Ok x → r ≡ Ok y → x ≡ y
ok_is r x y h k = cc

-- LINES

one_ending : (p : ℕ) (bytes : List ℕ) (a b : LineRead) → IsEnding p bytes a → IsEnding p bytes b → a ≡ b
one_ending p bytes End End h k = refl
one_ending p bytes End Torn h k = absurd (omega (arith, ap length h.0, k.0))
one_ending p bytes End TooLong h k = absurd (omega (arith, ap length h.0, k.0))
one_ending p bytes End InputTooLong h k = absurd (omega (arith, ap length h.0, h.1, k.0))
one_ending p bytes Torn Torn h k = refl
one_ending p bytes Torn End h k = absurd (omega (arith, ap length k.0, h.0))
one_ending p bytes Torn TooLong h k = absurd (omega (arith, h.1, k.0))
one_ending p bytes Torn InputTooLong h k = absurd (omega (arith, h.2, k.0))
one_ending p bytes TooLong TooLong h k = refl
one_ending p bytes TooLong End h k = absurd (omega (arith, ap length k.0, h.0))
one_ending p bytes TooLong Torn h k = absurd (omega (arith, k.1, h.0))
one_ending p bytes TooLong InputTooLong h k = absurd (omega (arith, h.1, k.1))
one_ending p bytes InputTooLong InputTooLong h k = refl
one_ending p bytes InputTooLong End h k = absurd (omega (arith, ap length k.0, k.1, h.0))
one_ending p bytes InputTooLong Torn h k = absurd (omega (arith, k.2, h.0))
one_ending p bytes InputTooLong TooLong h k = absurd (omega (arith, k.1, h.1))
one_ending p bytes End Line h k = absurd k
one_ending p bytes End SourceFault h k = absurd k
one_ending p bytes End Memory h k = absurd k
one_ending p bytes Torn Line h k = absurd k
one_ending p bytes Torn SourceFault h k = absurd k
one_ending p bytes Torn Memory h k = absurd k
one_ending p bytes TooLong Line h k = absurd k
one_ending p bytes TooLong SourceFault h k = absurd k
one_ending p bytes TooLong Memory h k = absurd k
one_ending p bytes InputTooLong Line h k = absurd k
one_ending p bytes InputTooLong SourceFault h k = absurd k
one_ending p bytes InputTooLong Memory h k = absurd k
one_ending p bytes Line b h k = absurd h
one_ending p bytes SourceFault b h k = absurd h
one_ending p bytes Memory b h k = absurd h

newline_at : (line rest : List ℕ) → get_or (line ++ 10 ∷ rest) (length line) 0 ≡ 10
newline_at [] rest = refl
newline_at (x ∷ line) rest = newline_at line rest

-- where a line stands, no ending does
no_ending : (p : ℕ) (bytes line rest : List ℕ) (e : LineRead) → bytes ≡ line ++ 10 ∷ rest → length line ≤ 16777216 → p + length line + 1 ≤ 2 ^ 40 → IsEnding p bytes e → ⊥
no_ending p bytes line rest End is short room h = omega (arith, ap length is, ap length h.0, length-append line (10 ∷ rest))
no_ending p bytes line rest Torn is short room h = h.3 (length line) (omega (arith, ap length is, length-append line (10 ∷ rest))) (rw is (newline_at line rest))
no_ending p bytes line rest TooLong is short room h = h.2 (length line) (omega arith) (rw is (newline_at line rest))
no_ending p bytes line rest InputTooLong is short room h = h.2 (length line) (omega (arith, room)) (rw is (newline_at line rest))
no_ending p bytes line rest Line is short room h = h
no_ending p bytes line rest SourceFault is short room h = h
no_ending p bytes line rest Memory is short room h = h

one_cut : (lines others : List (List ℕ)) (p : ℕ) (bytes : List ℕ) (a b : LineRead) → IsLines p bytes lines a → IsLines p bytes others b → (lines ≡ others) × (a ≡ b)
one_cut [] [] p bytes a b h k = (refl, one_ending p bytes a b h k)
one_cut [] (line ∷ others) p bytes a b h k = absurd (no_ending p bytes line k.0 a k.1 k.3 k.4 h)
one_cut (line ∷ lines) [] p bytes a b h k = absurd (no_ending p bytes line h.0 b h.1 h.3 h.4 k)
one_cut (line ∷ lines) (other ∷ others) p bytes a b h k =
    let same = lines_apart line other h.0 k.0 (recursion_from_All (λ x. x ≢ 10) line h.2) (recursion_from_All (λ x. x ≢ 10) other k.2) (sym h.1 ∙ k.1) in
    let P : List ℕ → Type 0 = λ u. IsLines (p + length u + 1) k.0 others b in
    let Q : List ℕ → Type 0 = λ rest. IsLines (p + length line + 1) rest others b in
    let rest = one_cut lines others (p + length line + 1) h.0 a b h.5 (subst Q (sym same.1) (subst P (sym same.0) k.5)) in
    (rw same.0 (ap (λ (v : List (List ℕ)). other ∷ v) rest.0), rest.1)

-- ITEMS

one_stamp : (ty : PayloadType) (line : List ℕ) (s n s₂ n₂ : ℕ) → IsStamp ty line s n → IsStamp ty line s₂ n₂ → (s ≡ s₂) × (n ≡ n₂)
one_stamp ty line s n s₂ n₂ h k =
    let same = meaning_unique line h.0 k.0 h.1 k.1 in
    let is : Ok (s, n) ≡ stamp_of ty k.0 = sym h.2 ∙ ap (λ (m : List ℕ). stamp_of ty m) same in
    let both = ok_is (stamp_of ty k.0) (s, n) (s₂, n₂) (sym is) k.2 in
    (ap (λ (x : ℕ × ℕ). x.0) both, ap (λ (x : ℕ × ℕ). x.1) both)

pub one_moment : (ty : PayloadType) (year : ℤ) (line : List ℕ) (t u : ℕ) → IsSampleLine ty year line t → IsSampleLine ty year line u → t ≡ u
one_moment ty year line t u h k =
    let same = one_stamp ty line h.secs h.nano k.secs k.nano h.stamp k.stamp in
    h.at ∙ ap (λ (s : ℕ). moment year s h.nano) same.0 ∙ ap (λ (n : ℕ). moment year k.secs n) same.1 ∙ sym k.at

stamp_or_fault : (ty : PayloadType) (line m : List ℕ) (s n : ℕ) (e : FieldFault) → IsStamp ty line s n → Means line m → stamp_of ty m ≡ Err e → ⊥
stamp_or_fault ty line m s n e h means is =
    let same = ap (λ (b : List ℕ). stamp_of ty b) (meaning_unique line h.0 m h.1 means) in
    let found = h.2 in cc

pub sample_or_fault : (ty : PayloadType) (year : ℤ) (line : List ℕ) (t : ℕ) (f : LineFault) → IsSampleLine ty year line t → IsLineFault ty year line f → ⊥
sample_or_fault ty year line t (line_fault.Escape at) h k = bad_means_nothing line h.stamp.0 at k h.stamp.1
sample_or_fault ty year line t (line_fault.Event e) h k = stamp_or_fault ty line k.0 h.secs h.nano e h.stamp k.1 k.2
sample_or_fault ty year line t line_fault.Time h k =
    let same = one_stamp ty line h.secs h.nano k.0 k.1 h.stamp k.2 in
    k.3 (h.sample_year, rw (same.0, same.1) at h.in_year)

one_line_fault : (ty : PayloadType) (year : ℤ) (line : List ℕ) (f g : LineFault) → IsLineFault ty year line f → IsLineFault ty year line g → f ≡ g
one_line_fault ty year line (line_fault.Escape i) (line_fault.Escape j) h k = ap (λ (at : ℕ). line_fault.Escape at) (one_bad_place line i j h k)
one_line_fault ty year line (line_fault.Escape i) (line_fault.Event e) h k = absurd (bad_means_nothing line k.0 i h k.1)
one_line_fault ty year line (line_fault.Escape i) line_fault.Time h k = absurd (bad_means_nothing line k.2.0 i h k.2.1)
one_line_fault ty year line (line_fault.Event d) (line_fault.Escape j) h k = absurd (bad_means_nothing line h.0 j k h.1)
one_line_fault ty year line (line_fault.Event d) (line_fault.Event e) h k =
    let same = ap (λ (b : List ℕ). stamp_of ty b) (meaning_unique line h.0 k.0 h.1 k.1) in
    let one = h.2 in let other = k.2 in cc
one_line_fault ty year line (line_fault.Event d) line_fault.Time h k = absurd (stamp_or_fault ty line h.0 k.0 k.1 d k.2 h.1 h.2)
one_line_fault ty year line line_fault.Time (line_fault.Escape j) h k = absurd (bad_means_nothing line h.2.0 j k h.2.1)
one_line_fault ty year line line_fault.Time (line_fault.Event e) h k = absurd (stamp_or_fault ty line k.0 h.0 h.1 e h.2 k.1 k.2)
one_line_fault ty year line line_fault.Time line_fault.Time h k = refl

pub one_header : (line : List ℕ) (a b : PayloadInfo) → IsHeaderLine line a → IsHeaderLine line b → a ≡ b
one_header line a b h k =
    let same = ap info_of (meaning_unique line h.0 k.0 h.1 k.1) in
    ok_is (info_of k.0) a b (sym same ∙ h.2) k.2

pub header_or_fault : (line : List ℕ) (info : PayloadInfo) (f : HeadFault) → IsHeaderLine line info → IsHeadFault line f → ⊥
header_or_fault line info (head_fault.Escape at) h k = bad_means_nothing line h.0 at k h.1
header_or_fault line info (head_fault.Info e) h k =
    let same = ap info_of (meaning_unique line h.0 k.0 h.1 k.1) in
    let one = h.2 in let other = k.2 in cc

one_head_fault : (line : List ℕ) (f g : HeadFault) → IsHeadFault line f → IsHeadFault line g → f ≡ g
one_head_fault line (head_fault.Escape i) (head_fault.Escape j) h k = ap (λ (at : ℕ). head_fault.Escape at) (one_bad_place line i j h k)
one_head_fault line (head_fault.Escape i) (head_fault.Info e) h k = absurd (bad_means_nothing line k.0 i h k.1)
one_head_fault line (head_fault.Info d) (head_fault.Escape j) h k = absurd (bad_means_nothing line h.0 j k h.1)
one_head_fault line (head_fault.Info d) (head_fault.Info e) h k =
    let same = ap info_of (meaning_unique line h.0 k.0 h.1 k.1) in
    let one = h.2 in let other = k.2 in cc

-- a section has no chunk, or one
no_two : (s : Section) (info : PayloadInfo) → s.chunk ≡ None → s.chunk ≡ Some info → ⊥
no_two s info h k = cc

same_info : (s : Section) (a b : PayloadInfo) → s.chunk ≡ Some a → s.chunk ≡ Some b → a ≡ b
same_info s a b h k = cc

one_sample : (s : Section) (line : List ℕ) (x y : Sample) (a b : Section) → Gives s line (sample x) a → Gives s line (sample y) b → x ≡ y
one_sample s line x y a b h k =
    let same = same_info s h.0 k.0 h.1 k.1 in
    let P : PayloadInfo → Type 0 = λ i. IsSampleLine i.ty i.year line x.t in
    let t = one_moment k.0.ty k.0.year line x.t y.t (subst P same h.3) k.3 in
    ap (λ (t : ℕ). record { t = t; line = x.line }) t ∙ ap (λ (u : List ℕ). record { t = y.t; line = u }) (h.4 ∙ sym k.4)

one_gives : (s : Section) (line : List ℕ) (x y : Item) (a b : Section) → Gives s line x a → Gives s line y b → (x ≡ y) × (a ≡ b)
one_gives s line (header i u) (header j v) a b h k =
    let same = one_header line i j h.2 k.2 in
    (ap (λ (info : PayloadInfo). header info u) same ∙ ap (λ (text : List ℕ). header j text) (h.3 ∙ sym k.3), h.4 ∙ ap within same ∙ sym k.4)
one_gives s line (header i u) (sample y) a b h k = absurd (no_two s k.0 h.0 k.1)
one_gives s line (header i u) chunk_end a b h k = absurd (no_two s k.0 h.0 k.1)
one_gives s line (sample x) (header j v) a b h k = absurd (no_two s h.0 k.0 h.1)
one_gives s line (sample x) (sample y) a b h k = (ap sample (one_sample s line x y a b h k), h.5 ∙ sym k.5)
one_gives s line (sample x) chunk_end a b h k = absurd (h.2 k.2)
one_gives s line chunk_end (header j v) a b h k = absurd (no_two s h.0 k.0 h.1)
one_gives s line chunk_end (sample y) a b h k = absurd (k.2 h.2)
one_gives s line chunk_end chunk_end a b h k = (refl, h.3 ∙ sym k.3)

gives_or_fails : (s : Section) (line : List ℕ) (x : Item) (a : Section) (f : ChunkFault) → Gives s line x a → Fails s line f → ⊥
gives_or_fails s line (header i u) a (fault.BadHeader f) h k = header_or_fault line i f h.2 k.2
gives_or_fails s line (header i u) a (fault.BadLine f) h k = no_two s k.0 h.0 k.1
gives_or_fails s line (sample x) a (fault.BadHeader f) h k = no_two s h.0 k.0 h.1
gives_or_fails s line (sample x) a (fault.BadLine f) h k =
    let P : PayloadInfo → Type 0 = λ i. IsSampleLine i.ty i.year line x.t in
    sample_or_fault k.0.ty k.0.year line x.t f (subst P (same_info s h.0 k.0 h.1 k.1) h.3) k.3
gives_or_fails s line chunk_end a (fault.BadHeader f) h k = no_two s h.0 k.0 h.1
gives_or_fails s line chunk_end a (fault.BadLine f) h k = k.2 h.2
gives_or_fails s line x a fault.NoHeader h k = k
gives_or_fails s line x a fault.Torn h k = k
gives_or_fails s line x a fault.LineTooLong h k = k
gives_or_fails s line x a fault.InputTooLong h k = k

skips_or_gives : (s : Section) (line : List ℕ) (x : Item) (a : Section) → Skips s line → Gives s line x a → ⊥
skips_or_gives s line (header i u) a h k = k.1 h.1
skips_or_gives s line (sample x) a h k = no_two s k.0 h.0 k.1
skips_or_gives s line chunk_end a h k = no_two s k.0 h.0 k.1

skips_or_fails : (s : Section) (line : List ℕ) (f : ChunkFault) → Skips s line → Fails s line f → ⊥
skips_or_fails s line (fault.BadHeader f) h k = k.1 h.1
skips_or_fails s line (fault.BadLine f) h k = no_two s k.0 h.0 k.1
skips_or_fails s line fault.NoHeader h k = k
skips_or_fails s line fault.Torn h k = k
skips_or_fails s line fault.LineTooLong h k = k
skips_or_fails s line fault.InputTooLong h k = k

one_fails : (s : Section) (line : List ℕ) (f g : ChunkFault) → Fails s line f → Fails s line g → f ≡ g
one_fails s line (fault.BadHeader f) (fault.BadHeader g) h k = ap (λ (e : HeadFault). fault.BadHeader e) (one_head_fault line f g h.2 k.2)
one_fails s line (fault.BadHeader f) (fault.BadLine g) h k = absurd (no_two s k.0 h.0 k.1)
one_fails s line (fault.BadLine f) (fault.BadHeader g) h k = absurd (no_two s h.0 k.0 h.1)
one_fails s line (fault.BadLine f) (fault.BadLine g) h k =
    let P : PayloadInfo → Type 0 = λ i. IsLineFault i.ty i.year line f in
    ap (λ (e : LineFault). fault.BadLine e) (one_line_fault k.0.ty k.0.year line f g (subst P (same_info s h.0 k.0 h.1 k.1) h.3) k.3)
one_fails s line f fault.NoHeader h k = absurd k
one_fails s line f fault.Torn h k = absurd k
one_fails s line f fault.LineTooLong h k = absurd k
one_fails s line f fault.InputTooLong h k = absurd k
one_fails s line fault.NoHeader g h k = absurd h
one_fails s line fault.Torn g h k = absurd h
one_fails s line fault.LineTooLong g h k = absurd h
one_fails s line fault.InputTooLong g h k = absurd h

one_end : (s : Section) (n : ℕ) (items others : List Item) (stop halt : Stop) → EndsWell s n items stop → EndsWell s n others halt → (items ≡ others) × (stop ≡ halt)
one_end s n items others stop halt (inl h) (inl k) = (h.2 ∙ sym k.2, h.3 ∙ sym k.3)
one_end s n items others stop halt (inl h) (inr k) = absurd (no_two s h.0 k.0 h.1)
one_end s n items others stop halt (inr h) (inl k) = absurd (no_two s k.0 h.0 k.1)
one_end s n items others stop halt (inr h) (inr k) = (h.1 ∙ sym k.1, h.2 ∙ sym k.2)

one_stop : (s : Section) (n : ℕ) (e : LineRead) (items others : List Item) (stop halt : Stop) → Ends s n e items stop → Ends s n e others halt → (items ≡ others) × (stop ≡ halt)
one_stop s n End items others stop halt h k = one_end s n items others stop halt h k
one_stop s n Torn items others stop halt h k = (h.0 ∙ sym k.0, h.1 ∙ sym k.1)
one_stop s n TooLong items others stop halt h k = (h.0 ∙ sym k.0, h.1 ∙ sym k.1)
one_stop s n InputTooLong items others stop halt h k = (h.0 ∙ sym k.0, h.1 ∙ sym k.1)
one_stop s n Line items others stop halt h k = absurd h
one_stop s n SourceFault items others stop halt h k = absurd h
one_stop s n Memory items others stop halt h k = absurd h

one_read : (lines : List (List ℕ)) (s : Section) (n : ℕ) (e : LineRead) (items others : List Item) (stop halt : Stop) → IsItems s n lines e items stop → IsItems s n lines e others halt → (items ≡ others) × (stop ≡ halt)
one_read [] s n e items others stop halt h k = one_stop s n e items others stop halt h k
one_read (line ∷ lines) s n e items others stop halt (inl h) (inl k) = one_read lines s (n + 1) e items others stop halt h.1 k.1
one_read (line ∷ lines) s n e items others stop halt (inl h) (inr (inl k)) = absurd (skips_or_gives s line k.0 k.1 h.0 k.3)
one_read (line ∷ lines) s n e items others stop halt (inl h) (inr (inr k)) = absurd (skips_or_fails s line k.0 h.0 k.1)
one_read (line ∷ lines) s n e items others stop halt (inr (inl h)) (inl k) = absurd (skips_or_gives s line h.0 h.1 k.0 h.3)
one_read (line ∷ lines) s n e items others stop halt (inr (inl h)) (inr (inl k)) =
    let same = one_gives s line h.0 k.0 h.1 k.1 h.3 k.3 in
    let P : Section → Type 0 = λ a. IsItems a (n + 1) lines e h.2 stop in
    let rest = one_read lines k.1 (n + 1) e h.2 k.2 stop halt (subst P same.1 h.5) k.5 in
    (h.4 ∙ ap (λ (x : Item). x ∷ h.2) same.0 ∙ ap (λ (xs : List Item). k.0 ∷ xs) rest.0 ∙ sym k.4, rest.1)
one_read (line ∷ lines) s n e items others stop halt (inr (inl h)) (inr (inr k)) = absurd (gives_or_fails s line h.0 h.1 k.0 h.3 k.1)
one_read (line ∷ lines) s n e items others stop halt (inr (inr h)) (inl k) = absurd (skips_or_fails s line h.0 k.0 h.1)
one_read (line ∷ lines) s n e items others stop halt (inr (inr h)) (inr (inl k)) = absurd (gives_or_fails s line k.0 k.1 h.0 k.3 h.1)
one_read (line ∷ lines) s n e items others stop halt (inr (inr h)) (inr (inr k)) =
    (h.2 ∙ sym k.2, h.3 ∙ ap (λ (f : ChunkFault). Some (n + 1, f)) (one_fails s line h.0 k.0 h.1 k.1) ∙ sym k.3)

pub one_stream : (s : Section) (n p : ℕ) (bytes : List ℕ) (items others : List Item) (stop halt : Stop) → IsStream s n p bytes items stop → IsStream s n p bytes others halt → (items ≡ others) × (stop ≡ halt)
one_stream s n p bytes items others stop halt h k =
    let cut = one_cut h.lines k.lines p bytes h.ending k.ending h.cut k.cut in
    one_read k.lines s n k.ending items others stop halt (rw (cut.0, cut.1) at h.read) k.read
