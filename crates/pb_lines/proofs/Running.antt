-- Lines of samples that stand one behind another, from one to the next, and all of them taken at once.
use Rattle.std.proofs.Common.{◌≡◌, ℕ, ℤ, ◌+◌, ◌-◌, ◌<◌, ◌≤◌, ◌⊎◌, inl, inr, List, [], ◌∷◌, ◌++◌, Option, Some, None, false, length, take, drop, get_or, map, arith, refl, sym, ap, ◌∙◌, subst, append_assoc}
use Rattle.std.specs.Prelude.{◌^◌, IfSome, is_some}
use Rattle.std.proofs.lemmas.List.{length-append, length-take-le, take-append-drop, take_at, drop_at, drop-drop, get_or_at}
use Rattle.edge_io.specs.Lines.{LineReader, ahead}
use Rattle.edge_io.proofs.Ahead.{line_is}
use Rattle.pb_wire.specs.declared.payload.PayloadType.{PayloadType}
use Rattle.series_model.specs.declared.sample.Sample.{Sample}
use Rattle.series_model.specs.Series.{RisesFrom, end_from}
use Rattle.series_model.proofs.RisingLists.{end_from-append, RisesFrom-append}
use Rattle.pb_messages.specs.declared.info.PayloadInfo.{PayloadInfo}
use Rattle.pb_lines.specs.declared.run.Run.{Run}
use Rattle.pb_lines.specs.File.{lines_of}
use Rattle.pb_lines.specs.Stream.{Item, sample, Section, Stop, IsStream}
use Rattle.pb_lines.specs.Reader.{Chunks, Passes, to_come, lines_taken, bytes_taken}
use Rattle.pb_lines.specs.Run.{IsRunLine, AreRunLines, IsRun, HoldsRun, TakesRun, samples_of}
use Rattle.pb_lines.proofs.FileLines.{all-append, lines_of-append}

-- LINE BY LINE

-- the last of the samples
pub record Ends (samples : List Sample) (run : Run) : Type 0 where
  pub front : List Sample
  pub last : Sample
  pub split : samples ≡ front ++ last ∷ []
  pub t : run.t ≡ last.t
  pub ending : run.last ≡ length last.line

-- the lines that were found so far, and the bytes behind them
pub record Running (ty : PayloadType) (year : ℤ) (after to : ℕ) (bytes rest : List ℕ) (run : Run) : Type 0 where
  pub samples : List Sample
  pub are : AreRunLines ty year samples
  pub text : bytes ≡ lines_of samples ++ rest
  pub len : run.len ≡ length (lines_of samples)
  pub count : run.count ≡ length samples
  pub rising : RisesFrom (after + 1) samples
  pub end : end_from (after + 1) samples ≡ run.t + 1
  pub upto : run.t ≤ to
  pub ending : (samples ≡ []) ⊎ Ends samples run

pub nothing_yet : (ty : PayloadType) (year : ℤ) (after to : ℕ) (bytes : List ℕ) → after ≤ to → Running ty year after to bytes bytes (record { len = 0; count = 0; t = after; last = 0 })
nothing_yet ty year after to bytes fits = record { samples = []; are = tt; text = refl; len = refl; count = refl; rising = tt; end = refl; upto = fits; ending = inl refl }

-- one line more
pub one_more : (ty : PayloadType) (year : ℤ) (after to : ℕ) (bytes rest others : List ℕ) (run : Run) (end t : ℕ) → Running ty year after to bytes rest run → end < length rest → get_or rest end 0 ≡ 10 → IsRunLine ty year (record { t = t; line = take end rest }) → run.t < t → t ≤ to → others ≡ drop 1 (drop end rest)
    → Running ty year after to bytes others (record { len = run.len + end + 1; count = run.count + 1; t = t; last = end })
one_more ty year after to bytes rest others run end t is within ten line later upto behind =
    let s : Sample = record { t = t; line = take end rest } in
    let long : length (take end rest) ≡ end = length-take-le end rest (omega arith) in
    let here : rest ≡ take end rest ++ 10 ∷ others = line_is rest end within ten ∙ ap (λ (l : List ℕ). take end rest ++ 10 ∷ l) (sym (drop-drop 1 end rest) ∙ sym behind) in
    let lines : lines_of (is.samples ++ s ∷ []) ≡ lines_of is.samples ++ (take end rest ++ 10 ∷ []) = lines_of-append is.samples (s ∷ []) in
    record {
      samples = is.samples ++ s ∷ [];
      are = all-append (IsRunLine ty year) is.samples (s ∷ []) is.are (line, tt);
      text =
          is.text
          ∙ (ap (λ (l : List ℕ). lines_of is.samples ++ l) here
          ∙ (ap (λ (l : List ℕ). lines_of is.samples ++ l) (sym (append_assoc (take end rest) (10 ∷ []) others))
          ∙ (sym (append_assoc (lines_of is.samples) (take end rest ++ 10 ∷ []) others) ∙ ap (λ (l : List ℕ). l ++ others) (sym lines))));
      len = let all = ap length lines in omega (arith, all, is.len, long, length-append (lines_of is.samples) (take end rest ++ 10 ∷ []), length-append (take end rest) (10 ∷ []));
      count = omega (arith, is.count, length-append is.samples (s ∷ []));
      rising = RisesFrom-append (after + 1) is.samples (s ∷ []) is.rising (omega (arith, is.end, later), tt);
      end = end_from-append (after + 1) is.samples (s ∷ []);
      upto = upto;
      ending = inr (record { front = is.samples; last = s; split = refl; t = refl; ending = sym long });
    }

-- how far the bytes are looked through
pub looked : (ty : PayloadType) (year : ℤ) (after to : ℕ) (bytes rest : List ℕ) (run : Run) → Running ty year after to bytes rest run → run.len + length rest ≡ length bytes
looked ty year after to bytes rest run is = omega (arith, is.len, ap length is.text, length-append (lines_of is.samples) rest)

-- each line has a byte at least
pub lines_long : (xs : List Sample) → length xs ≤ length (lines_of xs)
lines_long [] = omega arith
lines_long (s ∷ xs) = omega (arith, lines_long xs, length-append s.line (10 ∷ lines_of xs))

pub few_lines : (ty : PayloadType) (year : ℤ) (after to : ℕ) (bytes rest : List ℕ) (run : Run) → Running ty year after to bytes rest run → run.count ≤ run.len
few_lines ty year after to bytes rest run is = omega (arith, is.len, is.count, lines_long is.samples)

-- WHERE A READER HOLDS ONE

pub none_of : {X : Type 0} → (o : Option X) → is_some o ≡ false → o ≡ None
none_of None h = refl
none_of (Some x) h = cc

pub holds_run : (c : Chunks) (info : PayloadInfo) (year : ℤ) (after to : ℕ) (held : List ℕ) (o : Option Run) → c.pending ≡ false → c.refused ≡ None → c.section.chunk ≡ Some info → year ≡ info.year → held ≡ c.lines.held → IfSome o (IsRun info.ty year after to held) → IfSome o (HoldsRun c after to)
holds_run c info year after to held None idle going inside year_is held_is h = tt
holds_run c info year after to held (Some run) idle going inside year_is held_is h = record { idle = idle; going = going; info = info; inside = inside; is = rw (year_is, held_is) at h }

-- THE LAST LINE OF A RUN

-- what the last line of a run is in the bytes
pub record LastLine (bytes : List ℕ) (len lines size : ℕ) (text : List ℕ) : Type 0 where
  pub last : size < len
  pub newline : get_or bytes (len - 1) 0 ≡ 10
  pub count : lines ≤ len
  pub line : take size (drop (len - 1 - size) bytes) ≡ text

pub last_line : (ty : PayloadType) (year : ℤ) (after to : ℕ) (bytes : List ℕ) (run : Run) (is : IsRun ty year after to bytes run) → LastLine bytes run.len run.count run.last is.last.line
last_line ty year after to bytes run is =
    let fore = lines_of is.front in
    let line = is.last.line in
    let rest = drop run.len bytes in
    let lines : take run.len bytes ≡ fore ++ (line ++ 10 ∷ []) = is.text ∙ lines_of-append is.front (is.last ∷ []) in
    let long : run.len ≡ length fore + (length line + 1) =
    omega (arith, length-take-le run.len bytes is.within, ap length lines, length-append fore (line ++ 10 ∷ []), length-append line (10 ∷ [])) in
    let all : bytes ≡ fore ++ (line ++ 10 ∷ rest) =
    sym (take-append-drop run.len bytes)
    ∙ ap (λ (l : List ℕ). l ++ rest) lines
    ∙ append_assoc fore (line ++ 10 ∷ []) rest
    ∙ ap (λ (l : List ℕ). fore ++ l) (append_assoc line (10 ∷ []) rest) in
    let before : bytes ≡ (fore ++ line) ++ 10 ∷ rest = all ∙ sym (append_assoc fore line (10 ∷ rest)) in
    record {
      last = omega (arith, long, is.ending);
      newline = ap (λ (l : List ℕ). get_or l (run.len - 1) 0) before ∙ get_or_at (fore ++ line) 10 rest 0 (run.len - 1) (omega (arith, long, length-append fore line));
      count = omega (arith, is.count, lines_long (is.front ++ is.last ∷ []), ap length is.text, length-take-le run.len bytes is.within);
      line =
          ap (λ (l : List ℕ). take run.last (drop (run.len - 1 - run.last) l)) all
          ∙ ap (λ (l : List ℕ). take run.last l) (drop_at fore (line ++ 10 ∷ rest) (run.len - 1 - run.last) (omega (arith, long, is.ending)))
          ∙ take_at line (10 ∷ rest) run.last (sym is.ending);
    }

-- ALL AT ONCE

-- samples in front of a stream
in_front : (s : Section) (info : PayloadInfo) (xs : List Sample) (n p : ℕ) (ys : List ℕ) (rest : List Item) (stop : Stop) → s.chunk ≡ Some info → AreRunLines info.ty info.year xs → p + length (lines_of xs) ≤ 2 ^ 40 → IsStream s (n + length xs) (p + length (lines_of xs)) ys rest stop → IsStream s n p (lines_of xs ++ ys) (map sample xs ++ rest) stop
in_front s info [] n p ys rest stop inside are room h =
    let P : ℕ → Type 0 = λ n. IsStream s n p ys rest stop in
    let Q : ℕ → Type 0 = λ p. IsStream s (n + 0) p ys rest stop in
    subst P (omega arith) (subst Q (omega arith) h)
in_front s info (x ∷ xs) n p ys rest stop inside are room h =
    let long : length (lines_of (x ∷ xs)) ≡ length x.line + 1 + length (lines_of xs) = omega (arith, length-append x.line (10 ∷ lines_of xs)) in
    let P : ℕ → Type 0 = λ n. IsStream s n (p + length (lines_of (x ∷ xs))) ys rest stop in
    let Q : ℕ → Type 0 = λ p. IsStream s (n + 1 + length xs) p ys rest stop in
    let behind = in_front s info xs (n + 1) (p + length x.line + 1) ys rest stop inside are.1 (omega (arith, room, long)) (subst Q (omega (arith, long)) (subst P (omega arith) h)) in
    record {
      lines = x.line ∷ behind.lines;
      ending = behind.ending;
      cut = (lines_of xs ++ ys, append_assoc x.line (10 ∷ lines_of xs) ys, are.0.whole, are.0.short, omega (arith, room, long), behind.cut);
      read = inr (inl (sample x, s, map sample xs ++ rest, (info, inside, are.0.some, are.0.meant, refl, refl), refl, behind.read));
    }

to_come_idle : (c : Chunks) (left : Option (List ℕ)) → c.pending ≡ false → to_come c left ≡ ahead c.lines left
to_come_idle c left idle = rw idle refl

-- what a reader holds goes on behind the lines that were taken
passes_ahead : (old new : Chunks) (info : PayloadInfo) (xs : List Sample) (len count : ℕ) (left : Option (List ℕ)) → old.section.chunk ≡ Some info → AreRunLines info.ty info.year xs → old.lines.held ≡ lines_of xs ++ new.lines.held → new.section ≡ old.section → lines_taken new ≡ lines_taken old + count → bytes_taken new ≡ bytes_taken old + len → count ≡ length xs → len ≡ length (lines_of xs) → bytes_taken new ≤ 2 ^ 40
    → Passes old new (ahead old.lines left) (ahead new.lines left) (map sample xs)
passes_ahead old new info xs len count None inside are held section lines bytes counted long bound = tt
passes_ahead old new info xs len count (Some zs) inside are held section lines bytes counted long bound = λ rest stop k.
    let n : lines_taken new ≡ lines_taken old + length xs = lines ∙ ap (λ (i : ℕ). lines_taken old + i) counted in
    let p : bytes_taken new ≡ bytes_taken old + length (lines_of xs) = bytes ∙ ap (λ (i : ℕ). bytes_taken old + i) long in
    let h : IsStream old.section (lines_taken old + length xs) (bytes_taken old + length (lines_of xs)) (new.lines.held ++ zs) rest stop = rw (section, n, p) at k in
    let whole : lines_of xs ++ (new.lines.held ++ zs) ≡ old.lines.held ++ zs = sym (append_assoc (lines_of xs) new.lines.held zs) ∙ ap (λ (l : List ℕ). l ++ zs) (sym held) in
    let P : List ℕ → Type 0 = λ l. IsStream old.section (lines_taken old) (bytes_taken old) l (map sample xs ++ rest) stop in
    subst P whole (in_front old.section info xs (lines_taken old) (bytes_taken old) (new.lines.held ++ zs) rest stop inside are (omega (arith, p, bound)) h)

pub passes_run : (old new : Chunks) (after to : ℕ) (run : Run) (h : HoldsRun old after to run) → TakesRun old new run → new.pending ≡ false → bytes_taken new ≤ 2 ^ 40 → (left : Option (List ℕ)) → Passes old new (to_come old left) (to_come new left) (map sample (samples_of h.is))
passes_run old new after to run h taken idle bound left =
    let xs = samples_of h.is in
    let long : run.len ≡ length (lines_of xs) = sym (length-take-le run.len old.lines.held h.is.within) ∙ ap length h.is.text in
    let held : old.lines.held ≡ lines_of xs ++ new.lines.held = sym (take-append-drop run.len old.lines.held) ∙ ap (λ (l : List ℕ). l ++ drop run.len old.lines.held) h.is.text ∙ ap (λ (l : List ℕ). lines_of xs ++ l) (sym taken.held) in
    let P : Option (List ℕ) → Type 0 = λ a. Passes old new a (ahead new.lines left) (map sample xs) in
    let Q : Option (List ℕ) → Type 0 = λ b. Passes old new (to_come old left) b (map sample xs) in
    subst Q (sym (to_come_idle new left idle)) (subst P (sym (to_come_idle old left h.idle)) (passes_ahead old new h.info xs run.len run.count left h.inside h.is.are held taken.section taken.lines taken.bytes h.is.count long bound))

-- what was taken, by the reader of lines
pub taken : (old new : Chunks) (l : LineReader) (run : Run) → new ≡ record old { lines = l } → old.pending ≡ false → l.held ≡ drop run.len old.lines.held → l.number ≡ old.lines.number + run.count → l.passed ≡ old.lines.passed + run.len → l.passed ≤ 2 ^ 40 → 0 < run.len → TakesRun old new run
taken old new l run is idle held number passed bound some =
    let P : Chunks → Type 0 = λ n. TakesRun old n run in
    let lines : lines_taken (record old { lines = l }) ≡ lines_taken old + run.count = rw idle number in
    let bytes : bytes_taken (record old { lines = l }) ≡ bytes_taken old + run.len = rw idle passed in
    let low : bytes_taken (record old { lines = l }) ≤ 2 ^ 40 = rw idle bound in
    subst P (sym is) (record { section = refl; refused = refl; held = held; lines = lines; bytes = bytes; work = omega (arith, bytes, low, some) })

pub taken_within : (c : Chunks) → c.pending ≡ false → c.lines.passed ≤ 2 ^ 40 → bytes_taken c ≤ 2 ^ 40
taken_within c idle bound = rw idle bound
