-- What a piece is read as, line by line.
use Rattle.std.proofs.Common.{◌≡◌, ◌≢◌, ℕ, ◌+◌, ◌-◌, ◌<◌, ◌≤◌, inl, inr, suc, List, [], ◌∷◌, ◌++◌, Some, length, take, drop, refl, sym, ap, ◌∙◌, subst, arith, append_assoc, append-nil}
use Rattle.std.proofs.lemmas.Bool.{cases_lt}
use Rattle.std.proofs.lemmas.List.{length-append, length-take-le, take-append-drop, take-take, take_at, drop_at, drop-take, drop-drop, drop-append-le, append_cancel_left}
use Rattle.std.proofs.lemmas.List.Elements.{All-from_recursion}
use Rattle.std.proofs.Math.Seq.{drop-append-add}
use Rattle.line_escape.specs.Unescaping.{HasNoNewline}
use Rattle.series_model.specs.declared.sample.Sample.{Sample}
use Rattle.series_model.specs.Series.{end_of, end_from}
use Rattle.series_model.proofs.RisingLists.{RisesFrom-rest, RisesFrom-lower}
use Rattle.pb_messages.specs.declared.info.PayloadInfo.{PayloadInfo}
use Rattle.pb_wire.specs.declared.payload.PayloadType.{PayloadType}
use Rattle.pb_lines.specs.Header.{IsHeaderLine}
use Rattle.pb_lines.proofs.Unique.{one_header}
use Rattle.pb_lines.specs.File.{IsFile, IsSample, HasNoSample, lines_of}
use Rattle.pb_lines.proofs.FileLines.{all_rest, one_line, no_line}
use Rattle.pb_lines.proofs.FileMeaning.{begin_alike, excluded, one_file, some_left}
use Rattle.pb_file.specs.Walk.{Walk, Front, HasWalked}
use Rattle.pb_file.specs.Search.{IsLineStart}
use Rattle.pb_file.specs.Skip.{HasSkipped, from_place}
use Rattle.pb_file.proofs.Placing.{end_is, drop_front, locate, Located}
use Rattle.stream_merge.specs.Reading.{IsBadFor, IsBadLine, IsReadAs}
use Rattle.stream_merge.specs.Beginning.{Splits}

pub read_as : (ty : PayloadType) (bytes head : List ℕ) (info : PayloadInfo) (samples : List Sample) → IsFile bytes head info samples → info.ty ≡ ty → IsReadAs ty bytes samples
read_as ty bytes head info samples file type = record { head = head; info = info; file = file; type = type }

pub read_same : (ty : PayloadType) (bytes head : List ℕ) (info : PayloadInfo) (samples others : List Sample) → IsFile bytes head info samples → IsReadAs ty bytes others → others ≡ samples
read_same ty bytes head info samples others file read = (one_file bytes read.head head read.info info others samples read.file file).2

-- ONE HEADER

pub record OneHeader (head other : List ℕ) (info about : PayloadInfo) : Type 0 where
  pub heads : head ≡ other
  pub infos : info ≡ about

pub same_header : (bytes head other rest more : List ℕ) (info about : PayloadInfo) → bytes ≡ head ++ 10 ∷ rest → bytes ≡ other ++ 10 ∷ more → HasNoNewline head → HasNoNewline other → IsHeaderLine head info → IsHeaderLine other about → OneHeader head other info about
same_header bytes head other rest more info about one two whole whole₂ header header₂ =
    let lines = one_line head other rest more whole whole₂ (sym one ∙ two) in
    let H : List ℕ → Type 0 = λ l. IsHeaderLine l about in
    record { heads = lines.0; infos = one_header head info about header (subst H (sym lines.0) header₂) }

-- the header and the samples from a place on
pub file_from : (bytes head : List ℕ) (info : PayloadInfo) (samples here : List Sample) (place : ℕ) → IsFile bytes head info samples → Splits head samples here place → IsFile (from_place head place bytes) head info here
file_from bytes head info samples here place file split =
    let passed = split.passed in
    let A : List Sample → Type 0 = λ l. IsFile bytes head info l in
    let all = subst A split.all file in
    record {
      whole = file.whole;
      header = file.header;
      lines = all_rest (IsSample info.ty info.year) passed here all.lines;
      rising = RisesFrom-lower 0 (end_from 0 passed) here (RisesFrom-rest 0 passed here all.rising) (omega arith);
      text = ap (λ (n : ℕ). from_place head n bytes) split.place_is ∙ ap (λ (l : List ℕ). head ++ 10 ∷ l) (drop_front bytes head passed here all.text);
    }

-- WHERE A LINE BEGINS

no_newline_front : (head front : List ℕ) (n : ℕ) → HasNoNewline head → take n head ≡ front ++ 10 ∷ [] → ⊥
no_newline_front head front n whole is = no_line head front (drop n head) whole (sym (take-append-drop n head) ∙ ap (λ (l : List ℕ). l ++ drop n head) is ∙ append_assoc front (10 ∷ []) (drop n head))

take_before : (head rest : List ℕ) (n : ℕ) → n ≤ length head → take n (head ++ rest) ≡ take n head
take_before head rest n within =
    let size : length (take n head) ≡ n = length-take-le n head within in
    ap (λ (l : List ℕ). take n (l ++ rest)) (sym (take-append-drop n head)) ∙ ap (λ (l : List ℕ). take n l) (append_assoc (take n head) (drop n head) rest) ∙ take_at (take n head) (drop n head ++ rest) n size

-- behind a newline of a file a line begins, or it is the end
behind_newline : (bytes head : List ℕ) (info : PayloadInfo) (samples : List Sample) (start : ℕ) (front : List ℕ) → IsFile bytes head info samples → start < length bytes → take start bytes ≡ front ++ 10 ∷ [] → (here : List Sample) × Splits head samples here start
behind_newline bytes head info samples start front file within is =
    let size : start ≡ length front + 1 = omega (arith, length-take-le start bytes (omega (arith, within)), ap length is, length-append front (10 ∷ [])) in
    elim (cases_lt start (length head + 1)) [
      | inl inside ↦
          (let T : List ℕ → Type 0 = λ l. take start l ≡ front ++ 10 ∷ [] in
          absurd (no_newline_front head front start file.whole (sym (take_before head (10 ∷ lines_of samples) start (omega (arith, inside))) ∙ subst T file.text is)))
      | inr behind ↦ elim (cases_lt (length head + 1) start) [
        | inr first ↦ (samples, record { passed = []; all = refl; place_is = omega (arith, end_is head [], behind, first) })
        | inl later ↦
            (let k = start - (length head + 2) in
            let rest = drop start bytes in
            let all : bytes ≡ front ++ (10 ∷ rest) = sym (take-append-drop start bytes) ∙ ap (λ (l : List ℕ). l ++ rest) is ∙ append_assoc front (10 ∷ []) rest in
            let one : drop (length front) bytes ≡ 10 ∷ rest = ap (λ (l : List ℕ). drop (length front) l) all ∙ drop_at front (10 ∷ rest) (length front) refl in
            let h = head ++ 10 ∷ [] in
            let text : bytes ≡ h ++ lines_of samples = file.text ∙ sym (append_assoc head (10 ∷ []) (lines_of samples)) in
            let far : length front ≡ length h + k = omega (arith, size, later, length-append head (10 ∷ [])) in
            let two : drop (length front) bytes ≡ drop k (lines_of samples) = ap (λ (l : List ℕ). drop (length front) l) text ∙ ap (λ (n : ℕ). drop n (h ++ lines_of samples)) far ∙ drop-append-add h (lines_of samples) k in
            let found : Located samples k [] = locate info.ty info.year samples file.lines k [] rest none (sym two ∙ one) in
            (found.rest, record { passed = found.front; all = found.list; place_is = omega (arith, found.place, size, far, end_is head found.front, length-append head (10 ∷ [])) }))
      ]
    ]
  where
    none : HasNoNewline []
    none = All-from_recursion (λ z. z ≢ 10) [] tt

-- where a line of a file begins
pub at_start : (bytes head : List ℕ) (info : PayloadInfo) (samples : List Sample) (start : ℕ) → IsFile bytes head info samples → start < length bytes → IsLineStart bytes (length head + 1) start → (here : List Sample) × Splits head samples here start
at_start bytes head info samples start file within (inl first) = (samples, record { passed = []; all = refl; place_is = omega (arith, end_is head [], first) })
at_start bytes head info samples start file within (inr (inl end)) = absurd (omega (arith, within, end))
at_start bytes head info samples start file within (inr (inr behind)) = behind_newline bytes head info samples start behind.0 file within behind.1

-- NO LINE OF A FILE IS BAD

take_from : (bytes head : List ℕ) (start at : ℕ) → start ≤ at → take (length head + 1 + (at - start)) (from_place head start bytes) ≡ from_place head start (take at bytes)
take_from bytes head start at order =
    let k = at - start in
    let h = head ++ 10 ∷ [] in
    let rest = drop start bytes in
    let swap : drop start (take at bytes) ≡ take k rest = ap (λ (n : ℕ). drop start (take n bytes)) (let is : at ≡ start + k = omega (arith, order) in is) ∙ drop-take start k bytes in
    let split : h ++ rest ≡ (h ++ take k rest) ++ drop k rest = ap (λ (l : List ℕ). h ++ l) (sym (take-append-drop k rest)) ∙ sym (append_assoc h (take k rest) (drop k rest)) in
    ap (λ (l : List ℕ). take (length head + 1 + k) l) (sym (append_assoc head (10 ∷ []) rest))
    ∙ take_front h rest (length head + 1 + k) k (omega (arith, length-append head (10 ∷ [])))
    ∙ append_assoc head (10 ∷ []) (take k rest)
    ∙ ap (λ (l : List ℕ). head ++ 10 ∷ l) (sym swap)
  where
    take_front : (h rest : List ℕ) (n k : ℕ) → n ≡ length h + k → take n (h ++ rest) ≡ h ++ take k rest
    take_front [] rest n k is = let same : n ≡ k = omega (arith, is) in ap (λ (m : ℕ). take m rest) same
    take_front (x ∷ h) rest n k is =
        let far : n ≡ suc (length h + k) = omega (arith, is) in
        ap (λ (m : ℕ). take m (x ∷ (h ++ rest))) far ∙ ap (λ (l : List ℕ). x ∷ l) (take_front h rest (length h + k) k refl)

drop_from : (bytes head : List ℕ) (start at : ℕ) → start ≤ at → drop (length head + 1 + (at - start)) (from_place head start bytes) ≡ drop at bytes
drop_from bytes head start at order =
    let k = at - start in
    let h = head ++ 10 ∷ [] in
    let rest = drop start bytes in
    ap (λ (l : List ℕ). drop (length head + 1 + k) l) (sym (append_assoc head (10 ∷ []) rest))
    ∙ ap (λ (n : ℕ). drop n (h ++ rest)) (let is : length head + 1 + k ≡ length h + k = omega (arith, length-append head (10 ∷ [])) in is)
    ∙ drop-append-add h rest k
    ∙ drop-drop k start bytes
    ∙ ap (λ (n : ℕ). drop n bytes) (let is : start + k ≡ at = omega (arith, order) in is)

no_bad_line : (ty : PayloadType) (bytes head : List ℕ) (info : PayloadInfo) (samples : List Sample) (at : ℕ) → IsFile bytes head info samples → IsBadLine ty bytes at → ⊥
no_bad_line ty bytes head info samples at file b =
    let one = same_header bytes b.head head b.rest (lines_of samples) b.info info b.text file.text b.lines.whole file.whole b.lines.header file.header in
    let H : List ℕ → Type 0 = λ l. IsFile bytes l info samples in
    let I : PayloadInfo → Type 0 = λ i. IsFile bytes b.head i samples in
    let own : IsFile bytes b.head b.info samples = subst I (sym one.infos) (subst H (sym one.heads) file) in
    let within = some_left bytes at b.bad.some in
    let there = at_start bytes b.head b.info samples b.start own (omega (arith, within, b.order)) b.begins in
    let v = from_place b.head b.start bytes in
    let k = length b.head + 1 + (at - b.start) in
    let F : List ℕ → Type 0 = λ l. IsFile l b.head b.info b.samples in
    let N : List ℕ → Type 0 = λ l. HasNoSample b.info (λ t. end_of b.samples ≤ t) l in
    excluded v b.head b.info there.0 k (file_from bytes b.head b.info samples there.0 b.start own there.1)
    (inr (record { head = b.head; info = b.info; samples = b.samples; front = subst F (sym (take_from bytes b.head b.start at b.order)) b.lines; bad = subst N (sym (drop_from bytes b.head b.start at b.order)) b.bad }))

pub none_bad : (ty : PayloadType) (bytes head : List ℕ) (info : PayloadInfo) (samples : List Sample) (at : ℕ) → IsFile bytes head info samples → info.ty ≡ ty → IsBadFor ty bytes at → ⊥
none_bad ty bytes head info samples at file type (inl (zero, inl none)) = none head (lines_of samples) info file.text file.whole file.header
none_bad ty bytes head info samples at file type (inl (zero, inr other)) = other.other (ap (λ (i : PayloadInfo). i.ty) (sym (same_header bytes head other.head (lines_of samples) other.rest info other.info file.text other.text file.whole other.whole file.header other.header).infos) ∙ type)
none_bad ty bytes head info samples at file type (inr bad) = no_bad_line ty bytes head info samples at file bad

-- WHAT A BAD LINE IS TOLD AS

-- the walk read a header of another type
pub foreign_bad : (ty : PayloadType) (bytes line : List ℕ) (info : PayloadInfo) (w : Walk) (len : ℕ) → HasWalked w bytes (Some (record { head = line; info = info; samples = [] })) → w.len ≡ len → info.ty ≢ ty → IsBadFor ty (take len bytes) 0
foreign_bad ty bytes line info w len h same other =
    let file = h.read.0 in
    let within : w.place ≤ len = omega (arith, h.within, same) in
    let rest = drop w.place (take len bytes) in
    inl (
      refl,
      inr (record {
        head = line;
        rest = rest;
        info = info;
        text = sym (take-append-drop w.place (take len bytes)) ∙ ap (λ (u : List ℕ). u ++ rest) (take-take w.place len bytes within ∙ file.text) ∙ append_assoc line (10 ∷ []) rest;
        whole = file.whole;
        header = file.header;
        other = other;
      }),
    )

-- STEP BY STEP

no_lines : (more : List Sample) (u : List ℕ) → [] ≡ lines_of more ++ u → more ≡ []
no_lines [] u h = refl
no_lines (s ∷ more) u h = absurd (omega (arith, ap length h, length-append (s.line ++ 10 ∷ lines_of more) u, length-append s.line (10 ∷ lines_of more)))

-- a file that the bytes of a file begin with has its first samples
begins_with : (a b rest head other : List ℕ) (info about : PayloadInfo) (samples front : List Sample) → IsFile b head info samples → IsFile a other about front → a ++ rest ≡ b → (more : List Sample) × (samples ≡ front ++ more)
begins_with a b rest head other info about samples front file first is =
    let alike = begin_alike a b rest [] other head about info front samples first file (is ∙ sym (append-nil b)) in
    elim alike.samples [
      | inl g ↦ (g.more, g.list)
      | inr g ↦ ([], sym (append-nil front ∙ g.list ∙ ap (λ (l : List Sample). samples ++ l) (no_lines g.more rest g.left) ∙ append-nil samples))
    ]

-- what was read since a place is a front of what stands from there on
front_from : (head bytes : List ℕ) (at place len : ℕ) → at ≤ place → place ≤ len → len ≤ length bytes → from_place head at (take place bytes) ++ drop place (take len bytes) ≡ from_place head at (take len bytes)
front_from head bytes at place len begun within long =
    let all = take len bytes in
    let rest = drop place all in
    let front = take place bytes in
    let is : front ++ rest ≡ all = ap (λ (l : List ℕ). l ++ rest) (sym (take-take place len bytes within)) ∙ take-append-drop place all in
    append_assoc head (10 ∷ drop at front) rest
    ∙ ap (λ (l : List ℕ). head ++ 10 ∷ l) (sym (drop-append-le at front rest (omega (arith, begun, within, long, length-take-le place bytes (omega (arith, within, long))))))
    ∙ ap (λ (l : List ℕ). from_place head at l) is

-- the walk read a sample: it is the next one
pub next_read : (bytes line : List ℕ) (t at len : ℕ) (new : Walk) (f : Front) (xs : List Sample) → HasSkipped new bytes at (record f { samples = f.samples ++ record { t = t; line = line } ∷ [] }) → new.len ≡ len → len ≤ length bytes → IsFile (from_place f.head at (take len bytes)) f.head f.info (f.samples ++ xs)
    → (rest : List Sample) × (xs ≡ record { t = t; line = line } ∷ rest) × IsFile (from_place f.head at (take new.len bytes)) f.head f.info ((f.samples ++ record { t = t; line = line } ∷ []) ++ rest)
next_read bytes line t at len new f xs h same long file =
    let s : Sample = record { t = t; line = line } in
    let within : new.place ≤ len = omega (arith, h.within, same) in
    let first = begins_with (from_place f.head at (take new.place bytes)) (from_place f.head at (take len bytes)) (drop new.place (take len bytes)) f.head f.head f.info f.info (f.samples ++ xs) (f.samples ++ s ∷ []) file h.read (front_from f.head bytes at new.place len h.begun within long) in
    let is : f.samples ++ xs ≡ f.samples ++ s ∷ first.0 = first.1 ∙ append_assoc f.samples (s ∷ []) first.0 in
    let L : ℕ → Type 0 = λ n. IsFile (from_place f.head at (take n bytes)) f.head f.info ((f.samples ++ s ∷ []) ++ first.0) in
    let P : List Sample → Type 0 = λ l. IsFile (from_place f.head at (take len bytes)) f.head f.info l in
    (first.0, append_cancel_left f.samples xs (s ∷ first.0) is, subst L (sym same) (subst P first.1 file))

-- the walk came to the file's end: there is none
pub end_read : (bytes : List ℕ) (at len : ℕ) (new : Walk) (f : Front) (xs : List Sample) → IsFile (from_place f.head at (take new.len bytes)) f.head f.info f.samples → new.len ≡ len → IsFile (from_place f.head at (take len bytes)) f.head f.info (f.samples ++ xs) → xs ≡ []
end_read bytes at len new f xs end same file =
    let v = from_place f.head at (take len bytes) in
    let L : ℕ → Type 0 = λ n. IsFile (from_place f.head at (take n bytes)) f.head f.info f.samples in
    append_cancel_left f.samples xs [] (sym (one_file v f.head f.head f.info f.info f.samples (f.samples ++ xs) (subst L same end) file).2 ∙ sym (append-nil f.samples))
