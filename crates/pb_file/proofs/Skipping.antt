-- What a walk reads from a place on, and where lines begin behind a place.
use Rattle.std.proofs.Common.{◌≡◌, ◌≢◌, ℕ, ◌+◌, ◌≤◌, inl, inr, List, [], ◌∷◌, ◌++◌, None, Some, length, take, drop, arith, refl, sym, ap, ◌∙◌, subst, append_assoc}
use Rattle.std.specs.Prelude.{IsSome, is_some, Option}
use Rattle.std.proofs.lemmas.List.{length-take, length-take-le, length-drop, drop-append-le, nil_from_length}
use Rattle.line_escape.specs.Unescaping.{HasNoNewline}
use Rattle.series_model.specs.declared.sample.Sample.{Sample}
use Rattle.series_model.specs.Series.{end_of}
use Rattle.series_model.proofs.RisingLists.{end_from-append}
use Rattle.pb_messages.specs.declared.info.PayloadInfo.{PayloadInfo}
use Rattle.pb_file.specs.declared.walk.Walked.{Walked}
use Rattle.pb_file.specs.declared.walk.Walked.TheVariants as walked
use Rattle.pb_file.specs.Block.{Window, IsWindowOf}
use Rattle.pb_lines.specs.File.{IsFile, IsSample, HasNoSample}
use Rattle.pb_file.specs.Walk.{Walk, Front, HasWalked, Takes, with_sample}
use Rattle.pb_file.specs.Skip.{HasHeader, HasSkipped, GoesOnFrom, BeginsBehind, from_place}
use Rattle.pb_lines.proofs.FileLines.{torn_sample, bad_sample}
use Rattle.pb_lines.proofs.FileMeaning.{begins, grows}
use Rattle.pb_file.proofs.Walking.{next_line, last_line, some_or_none, one_info, sample_refused, ReadLine}

-- THE FIRST LINE BEHIND A PLACE

pub behind_line : (file part : List ℕ) (place len n : ℕ) → HasNoNewline part → place + length part + 1 ≤ len → len ≤ length file → take (place + length part + 1) file ≡ take place file ++ (part ++ 10 ∷ []) → n ≡ length part → BeginsBehind (take len file) place (place + n + 1)
behind_line file part place len n whole within long is size = inl (part, drop (place + length part + 1) (take len file), whole, next_line file part place len within long is, omega (arith, size))

pub behind_end : (file part : List ℕ) (place len n : ℕ) → HasNoNewline part → place ≤ len → len ≤ length file → take len file ≡ take place file ++ part → n ≡ len → BeginsBehind (take len file) place n
behind_end file part place len n whole within long is size =
    let left = last_line file part place len within long is in
    let P : List ℕ → Type 0 = HasNoNewline in
    inr (subst P (sym left) whole, omega (arith, size, length-take-le len file long))

-- FROM A PLACE ON

nothing : (at : ℕ) (bytes : List ℕ) → drop at (take at bytes) ≡ []
nothing at bytes = nil_from_length (drop at (take at bytes)) (omega (arith, length-drop at (take at bytes), length-take at bytes))

-- the walk goes on at a place
pub moves : (old : Walk) (bytes head : List ℕ) (info : PayloadInfo) (at : ℕ) → at ≤ old.len → HasHeader old bytes head info → HasSkipped (record old { place = at; earliest = 0; stop = None }) bytes at (record { head = head; info = info; samples = [] })
moves old bytes head info at within h =
    let P : List ℕ → Type 0 = λ l. IsFile (head ++ 10 ∷ l) head info [] in
    record { going = refl; begun = omega arith; within = within; read = subst P (sym (nothing at bytes)) (begins head info h.whole h.header); header = h.info_is; earliest = refl; window = h.window }

pub headed : (w : Walk) (bytes : List ℕ) (at : ℕ) (front : Front) → HasSkipped w bytes at front → HasHeader w bytes front.head front.info
headed w bytes at front h = record { info_is = h.header; whole = h.read.whole; header = h.read.header; window = h.window }

pub walked_header : (w : Walk) (bytes : List ℕ) (front : Front) → HasWalked w bytes (Some front) → HasHeader w bytes front.head front.info
walked_header w bytes front h = record { info_is = h.read.1; whole = h.read.0.whole; header = h.read.0.header; window = h.window }

-- nothing was read, but the window may have changed
pub skip_stays : (w : Walk) (window : Window) (bytes : List ℕ) (at : ℕ) (front : Front) → HasSkipped w bytes at front → IsWindowOf window bytes → HasSkipped (record w { window = window }) bytes at front
skip_stays w window bytes at front h is = record { going = h.going; begun = h.begun; within = h.within; read = h.read; header = h.header; earliest = h.earliest; window = is }

pub skip_read_on : (old w : Walk) (bytes : List ℕ) (at : ℕ) (front : Front) → w ≡ record old { window = w.window } → HasSkipped old bytes at front → (IsWindowOf old.window bytes → IsWindowOf w.window bytes) → HasSkipped w bytes at front
skip_read_on old w bytes at front same h window = let P : Walk → Type 0 = λ v. HasSkipped v bytes at front in subst P (sym same) (skip_stays old w.window bytes at front h (window h.window))

more_text : (head file line : List ℕ) (at place : ℕ) → at ≤ place → place ≤ length file → take (place + length line + 1) file ≡ take place file ++ (line ++ 10 ∷ []) → from_place head at (take (place + length line + 1) file) ≡ from_place head at (take place file) ++ (line ++ 10 ∷ [])
more_text head file line at place begun long is =
    let front = take place file in
    ap (λ (u : List ℕ). head ++ 10 ∷ drop at u) is
    ∙ ap (λ (u : List ℕ). head ++ 10 ∷ u) (drop-append-le at front (line ++ 10 ∷ []) (omega (arith, begun, length-take-le place file long)))
    ∙ sym (append_assoc head (10 ∷ drop at front) (line ++ 10 ∷ []))

skip_sample : (w new : Walk) (file line : List ℕ) (t at : ℕ) (front : Front) → ReadLine w file line → HasSkipped w file at front → Takes w line (walked.Sample t) new → HasSkipped new file at (with_sample front t line)
skip_sample w new file line t at front r h k =
    let s : Sample = record { t = t; line = line } in
    let P : Walk → Type 0 = λ v. HasSkipped v file at (with_sample front t line) in
    let Q : List ℕ → Type 0 = λ b. IsFile b front.head front.info (front.samples ++ s ∷ []) in
    let I : PayloadInfo → Type 0 = λ i. IsSample i.ty i.year s in
    let E : ℕ → Type 0 = λ n. n ≤ t in
    let R : Window → Type 0 = λ p. IsWindowOf p file in
    let grown = grows (from_place front.head at (take w.place file)) front.head front.info front.samples (s ∷ []) h.read (subst I (one_info w.info k.0.0 front.info k.0.1 h.header) k.0.2, tt) (subst E h.earliest k.0.3, tt) in
    subst P (sym k.0.4) (record {
      going = h.going;
      begun = omega (arith, h.begun);
      within = r.room;
      read = subst Q (sym (more_text front.head file line at w.place h.begun (omega (arith, r.room, r.long)) r.text)) grown;
      header = h.header;
      earliest = sym (end_from-append 0 front.samples (s ∷ []));
      window = subst R (sym k.1) r.window;
    })

skip_refused : (w new : Walk) (file line : List ℕ) (bad at : ℕ) (front : Front) → HasNoNewline line → ReadLine w file line → HasSkipped w file at front → Takes w line (walked.Damaged bad) new → GoesOnFrom at front file line (walked.Damaged bad) new
skip_refused w new file line bad at front whole r h k =
    let left = next_line file line w.place w.len r.room r.long r.text in
    let rest = drop (w.place + length line + 1) (take w.len file) in
    let E : ℕ → Type 0 = λ n. HasNoSample front.info (λ t. n ≤ t) (drop w.place (take w.len file)) in
    let L : ℕ → Type 0 = λ n. HasNoSample front.info (λ t. end_of front.samples ≤ t) (drop w.place (take n file)) in
    let A : ℕ → Type 0 = λ n. HasNoSample front.info (λ t. end_of front.samples ≤ t) (drop n (take new.len file)) in
    let here = bad_sample front.info (λ t. w.earliest ≤ t) (drop w.place (take w.len file)) line rest left whole (sample_refused w line front.info h.header k.1) in
    subst A (sym k.0.0) (subst L (sym (ap (λ (v : Walk). v.len) k.0.1)) (subst E h.earliest here))

-- What was read since grows by a line.
pub skip_line : (w new : Walk) (file line : List ℕ) (at : ℕ) (front : Front) (result : Walked) → HasNoNewline line → ReadLine w file line → HasSkipped w file at front → Takes w line result new → GoesOnFrom at front file line result new
skip_line w new file line at front walked.Header whole r h k = some_or_none w.info front.info k.0.1 h.header
skip_line w new file line at front (walked.Sample t) whole r h k = skip_sample w new file line t at front r h k
skip_line w new file line at front walked.End whole r h k = absurd k
skip_line w new file line at front walked.ReadFault whole r h k = absurd k
skip_line w new file line at front (walked.Damaged bad) whole r h k = skip_refused w new file line bad at front whole r h k
skip_line w new file line at front walked.Memory whole r h k =
    let P : Walk → Type 0 = λ v. HasSkipped v file at front in
    let R : Window → Type 0 = λ p. IsWindowOf p file in
    subst P (sym k.0) (skip_stays w new.window file at front h (subst R (sym k.1) r.window))

-- The bytes that count end within a line.
pub skip_torn : (w new : Walk) (file line : List ℕ) (at : ℕ) (front : Front) → w.len ≤ length file → HasSkipped w file at front → take w.len file ≡ take w.place file ++ line → HasNoNewline line → (IsSome w.info × (w.place ≡ w.len) → ⊥) → new.len ≡ w.len → GoesOnFrom at front file line (walked.Damaged w.place) new
skip_torn w new file line at front long h is whole more len =
    let left = last_line file line w.place w.len h.within long is in
    let G : ℕ → Type 0 = λ t. end_of front.samples ≤ t in
    let Q : List ℕ → Type 0 = λ b. HasNoSample front.info G b in
    let L : ℕ → Type 0 = λ n. HasNoSample front.info G (drop w.place (take n file)) in
    let bytes : line ≢ [] = λ e. more (ap (λ (o : Option PayloadInfo). is_some o) h.header, omega (arith, h.within, long, ap length (left ∙ e), length-drop w.place (take w.len file), length-take-le w.len file long)) in
    subst L (sym len) (subst Q (sym left) (torn_sample front.info G line bytes whole))
