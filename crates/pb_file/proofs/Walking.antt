-- What a walk has read of a file, from line to line.
use Rattle.std.proofs.Common.{◌≡◌, ◌≢◌, ℕ, ◌+◌, ◌≤◌, inl, inr, List, [], ◌∷◌, ◌++◌, Option, Some, None, length, take, drop, arith, refl, sym, ap, ◌∙◌, subst, append_assoc, append-nil, ◌-◌}
use Rattle.std.specs.Prelude.{IsSome, is_some}
use Rattle.std.proofs.lemmas.List.{length-take-le, length-drop, take-append-drop, take-take, drop_at}
use Rattle.line_escape.specs.Unescaping.{HasNoNewline}
use Rattle.series_model.specs.declared.sample.Sample.{Sample}
use Rattle.series_model.proofs.RisingLists.{end_from-append}
use Rattle.pb_messages.specs.declared.info.PayloadInfo.{PayloadInfo}
use Rattle.pb_lines.specs.Header.{IsHeaderLine}
use Rattle.pb_lines.specs.Sample.{IsSampleLine}
use Rattle.pb_file.specs.declared.walk.Walked.{Walked}
use Rattle.pb_file.specs.declared.walk.Walked.TheVariants as walked
use Rattle.pb_lines.specs.File.{IsFile, IsBadAt, IsSample, HasNoHeader, HasNoSample}
use Rattle.pb_file.specs.Block.{Window, IsWindowOf}
use Rattle.pb_file.specs.Walk.{Walk, Front, HasWalked, HoldsSample, Walks, IsRefused, Takes, with_sample}
use Rattle.pb_lines.proofs.FileLines.{torn_head, bad_head, torn_sample, bad_sample}
use Rattle.pb_lines.proofs.FileMeaning.{begins, grows}
use Rattle.pb_file.proofs.Blocks.{line_ends}

-- WHAT A LINE COMES TO

-- the walk stops for good at a line that is refused
pub refuses : (old w new : Walk) (line : List ℕ) (result : Walked) → w ≡ old → result ≡ walked.Damaged w.place → new ≡ record w { stop = Some (walked.Damaged w.place) } → IsRefused old line → Takes old line result new
refuses old w new line result same is after refused =
    let P : Walked → Type 0 = λ r. Takes old line r new in
    let Q : Walk → Type 0 = λ n. Takes old line (walked.Damaged old.place) n in
    let now = after ∙ ap (λ (v : Walk). record v { stop = Some (walked.Damaged v.place) }) same in
    subst P (sym (is ∙ ap (λ (v : Walk). walked.Damaged v.place) same)) (subst Q (sym now) ((refl, refl), refused, refl))

pub no_header_refused : (w : Walk) (line : List ℕ) → w.info ≡ None → ((info : PayloadInfo) → IsHeaderLine line info → ⊥) → IsRefused w line
no_header_refused w line none bad = let P : Option PayloadInfo → Type 0 = λ o. IsRefused (record w { info = o }) line in subst P (sym none) bad

pub no_sample_refused : (w : Walk) (line : List ℕ) (info : PayloadInfo) → w.info ≡ Some info → ((t : ℕ) → IsSampleLine info.ty info.year line t → w.earliest ≤ t → ⊥) → IsRefused w line
no_sample_refused w line info is bad = let P : Option PayloadInfo → Type 0 = λ o. IsRefused (record w { info = o }) line in subst P (sym is) bad

header_refused : (w : Walk) (line : List ℕ) → w.info ≡ None → IsRefused w line → (info : PayloadInfo) → IsHeaderLine line info → ⊥
header_refused w line none bad = let P : Option PayloadInfo → Type 0 = λ o. IsRefused (record w { info = o }) line in subst P none bad

pub sample_refused : (w : Walk) (line : List ℕ) (info : PayloadInfo) → w.info ≡ Some info → IsRefused w line → (t : ℕ) → IsSampleLine info.ty info.year line t → w.earliest ≤ t → ⊥
sample_refused w line info is bad = let P : Option PayloadInfo → Type 0 = λ o. IsRefused (record w { info = o }) line in subst P is bad

-- THE FILE SO FAR

-- the line that comes next, and what is behind it
pub next_line : (file line : List ℕ) (at len : ℕ) → at + length line + 1 ≤ len → len ≤ length file → take (at + length line + 1) file ≡ take at file ++ (line ++ 10 ∷ []) → drop at (take len file) ≡ line ++ 10 ∷ drop (at + length line + 1) (take len file)
next_line file line at len within long is =
    let end = at + length line + 1 in
    let rest = drop end (take len file) in
    let all : take len file ≡ take at file ++ (line ++ 10 ∷ rest) =
    sym (take-append-drop end (take len file))
    ∙ ap (λ (u : List ℕ). u ++ rest) (take-take end len file within ∙ is)
    ∙ append_assoc (take at file) (line ++ 10 ∷ []) rest
    ∙ ap (λ (u : List ℕ). take at file ++ u) (append_assoc line (10 ∷ []) rest) in
    ap (λ (u : List ℕ). drop at u) all ∙ drop_at (take at file) (line ++ 10 ∷ rest) at (length-take-le at file (omega (arith, within, long)))

-- the bytes that are left where no newline is
pub last_line : (file line : List ℕ) (at len : ℕ) → at ≤ len → len ≤ length file → take len file ≡ take at file ++ line → drop at (take len file) ≡ line
last_line file line at len within long is = ap (λ (u : List ℕ). drop at u) is ∙ drop_at (take at file) line at (length-take-le at file (omega (arith, within, long)))

from_start : (file : List ℕ) (at : ℕ) (len : ℕ) (rest : List ℕ) → at ≡ 0 → drop at (take len file) ≡ rest → take len file ≡ rest
from_start file at len rest zero is = let P : ℕ → Type 0 = λ n. drop n (take len file) ≡ rest in subst P zero is

-- the file of a front, within the first bytes
pub within_first : (file : List ℕ) (at len : ℕ) (f : Front) → at ≤ len → IsFile (take at file) f.head f.info f.samples → IsFile (take at (take len file)) f.head f.info f.samples
within_first file at len f within is = let P : List ℕ → Type 0 = λ b. IsFile b f.head f.info f.samples in subst P (sym (take-take at len file within)) is

-- where the walk stands at a bad line, the first bytes have it there
bad_here : (w : Walk) (file : List ℕ) (front : Option Front) → HasWalked w file front → (w.info ≡ None → HasNoHeader (drop w.place (take w.len file)))
    → ((info : PayloadInfo) → w.info ≡ Some info → HasNoSample info (λ t. w.earliest ≤ t) (drop w.place (take w.len file))) → IsBadAt (take w.len file) w.place
bad_here w file None h head sample =
    let P : List ℕ → Type 0 = HasNoHeader in
    inl (h.read.0, subst P (sym (from_start file w.place w.len (drop w.place (take w.len file)) h.read.0 refl)) (head h.read.1))
bad_here w file (Some f) h head sample =
    let P : ℕ → Type 0 = λ n. HasNoSample f.info (λ t. n ≤ t) (drop w.place (take w.len file)) in
    inr (record {
      head = f.head;
      info = f.info;
      samples = f.samples;
      front = within_first file w.place w.len f h.within h.read.0;
      bad = subst P h.read.2 (sample f.info h.read.1);
    })

-- what a bad line's place tells, whatever was read before
damaged : (front : Option Front) (file line : List ℕ) (at : ℕ) (new : Walk) → IsBadAt (take new.len file) at → Walks front file line (walked.Damaged at) new
damaged None file line at new h = h
damaged (Some f) file line at new h = h

pub bad_at : (front : Option Front) (file line : List ℕ) (at : ℕ) (new : Walk) → Walks front file line (walked.Damaged at) new → IsBadAt (take new.len file) at
bad_at None file line at new h = h
bad_at (Some f) file line at new h = h

-- nothing was read, but the window may have changed
pub stays : (old : Walk) (window : Window) (file : List ℕ) (front : Option Front) → HasWalked old file front → IsWindowOf window file → HasWalked (record old { window = window }) file front
stays old window file None h is = record { going = h.going; within = h.within; read = h.read; window = is }
stays old window file (Some f) h is = record { going = h.going; within = h.within; read = h.read; window = is }

pub lacks_memory : (front : Option Front) (file line : List ℕ) (new : Walk) → HasWalked new file front → Walks front file line walked.Memory new
lacks_memory None file line new h = h
lacks_memory (Some f) file line new h = h

-- The bytes that count end within a line, or there are none.
pub torn_walks : (w new : Walk) (file line : List ℕ) (front : Option Front) → w.len ≤ length file → HasWalked w file front → take w.len file ≡ take w.place file ++ line → HasNoNewline line
    → (IsSome w.info × (w.place ≡ w.len) → ⊥) → new.len ≡ w.len → Walks front file line (walked.Damaged w.place) new
torn_walks w new file line front long h is whole more len =
    let left = last_line file line w.place w.len h.within long is in
    let P : List ℕ → Type 0 = HasNoHeader in
    let R : ℕ → Type 0 = λ n. IsBadAt (take n file) w.place in
    damaged front file line w.place new (subst R (sym len) (bad_here w file front h
    (λ none. subst P (sym left) (torn_head line whole))
    (λ info some.
    let Q : List ℕ → Type 0 = λ b. HasNoSample info (λ t. w.earliest ≤ t) b in
    let bytes : line ≢ [] = λ e. more (ap (λ (o : Option PayloadInfo). is_some o) some, omega (arith, h.within, long, ap length (left ∙ e), length-drop w.place (take w.len file), length-take-le w.len file long)) in
    subst Q (sym left) (torn_sample info (λ t. w.earliest ≤ t) line bytes whole))))

pub some_or_none : (o : Option PayloadInfo) (info : PayloadInfo) → o ≡ None → o ≡ Some info → ⊥
some_or_none o info none some = cc

pub one_info : (o : Option PayloadInfo) (a b : PayloadInfo) → o ≡ Some a → o ≡ Some b → a ≡ b
one_info o a b h k = cc

-- the line that was read, and what it comes to
pub record ReadLine (w : Walk) (file line : List ℕ) : Type 0 where
  pub long : w.len ≤ length file
  pub room : w.place + length line + 1 ≤ w.len
  pub text : take (w.place + length line + 1) file ≡ take w.place file ++ (line ++ 10 ∷ [])
  pub window : IsWindowOf w.window file

begin_walks : (w new : Walk) (file line : List ℕ) (front : Option Front) → ReadLine w file line → HasWalked w file front → Takes w line walked.Header new → Walks front file line walked.Header new
begin_walks w new file line (Some f) r h k = absurd (some_or_none w.info f.info k.0.1 h.read.1)
begin_walks w new file line None r h k =
    let info = k.0.0 in
    let end = w.place + length line + 1 in
    let f : Front = record { head = line; info = info; samples = [] } in
    let P : Walk → Type 0 = λ v. HasWalked v file (Some f) in
    let Q : List ℕ → Type 0 = λ b. IsFile b line info [] in
    let Z : ℕ → Type 0 = λ n. take n file ≡ [] in
    let text : take end file ≡ line ++ 10 ∷ [] = r.text ∙ ap (λ (u : List ℕ). u ++ (line ++ 10 ∷ [])) (subst Z (sym h.read.0) refl) in (
      info,
      subst P (sym k.0.4) (record {
        going = h.going;
        within = r.room;
        read = (subst Q (sym text) (begins line info k.0.2 k.0.3), refl, h.read.2);
        window = let R : Window → Type 0 = λ p. IsWindowOf p file in subst R (sym k.1) r.window;
      }),
    )

sample_walks : (w new : Walk) (file line : List ℕ) (t : ℕ) (front : Option Front) → ReadLine w file line → HasWalked w file front → Takes w line (walked.Sample t) new → Walks front file line (walked.Sample t) new
sample_walks w new file line t None r h k = absurd (some_or_none w.info k.0.0 h.read.1 k.0.1)
sample_walks w new file line t (Some f) r h k =
    let s : Sample = record { t = t; line = line } in
    let end = w.place + length line + 1 in
    let P : Walk → Type 0 = λ v. HasWalked v file (Some (with_sample f t line)) in
    let Q : List ℕ → Type 0 = λ b. IsFile b f.head f.info (f.samples ++ s ∷ []) in
    let I : PayloadInfo → Type 0 = λ i. IsSample i.ty i.year s in
    let E : ℕ → Type 0 = λ n. n ≤ t in
    let grown = grows (take w.place file) f.head f.info f.samples (s ∷ []) h.read.0 (subst I (one_info w.info k.0.0 f.info k.0.1 h.read.1) k.0.2, tt) (subst E h.read.2 k.0.3, tt) in
    subst P (sym k.0.4) (record {
      going = h.going;
      within = r.room;
      read = (subst Q (sym r.text) grown, h.read.1, sym (end_from-append 0 f.samples (s ∷ [])));
      window = let R : Window → Type 0 = λ p. IsWindowOf p file in subst R (sym k.1) r.window;
    })

refused_walks : (w new : Walk) (file line : List ℕ) (at : ℕ) (front : Option Front) → HasNoNewline line → ReadLine w file line → HasWalked w file front → Takes w line (walked.Damaged at) new → Walks front file line (walked.Damaged at) new
refused_walks w new file line at front whole r h k =
    let left = next_line file line w.place w.len r.room r.long r.text in
    let rest = drop (w.place + length line + 1) (take w.len file) in
    let len : new.len ≡ w.len = ap (λ (v : Walk). v.len) k.0.1 in
    let P : ℕ → Type 0 = λ n. IsBadAt (take n file) at in
    let A : ℕ → Type 0 = λ m. IsBadAt (take w.len file) m in
    damaged front file line at new (subst P (sym len) (subst A (sym k.0.0) (bad_here w file front h
    (λ none. bad_head (drop w.place (take w.len file)) line rest left whole (header_refused w line none k.1))
    (λ info some. bad_sample info (λ t. w.earliest ≤ t) (drop w.place (take w.len file)) line rest left whole (sample_refused w line info some k.1)))))

-- What was read grows by a line.
pub line_walks : (w new : Walk) (file line : List ℕ) (front : Option Front) (result : Walked) → HasNoNewline line → ReadLine w file line → HasWalked w file front → Takes w line result new → Walks front file line result new
line_walks w new file line front walked.Header whole r h k = begin_walks w new file line front r h k
line_walks w new file line front (walked.Sample t) whole r h k = sample_walks w new file line t front r h k
line_walks w new file line front walked.End whole r h k = absurd k
line_walks w new file line front walked.ReadFault whole r h k = absurd k
line_walks w new file line front (walked.Damaged at) whole r h k = refused_walks w new file line at front whole r h k
line_walks w new file line front walked.Memory whole r h k =
    let P : Walk → Type 0 = λ v. HasWalked v file front in
    let R : Window → Type 0 = λ p. IsWindowOf p file in
    lacks_memory front file line new (subst P (sym k.0) (stays w new.window file front h (subst R (sym k.1) r.window)))

-- the walk once a line was read: but for its window it is as before
pub read_on : (old w : Walk) (file : List ℕ) (front : Option Front) → w ≡ record old { window = w.window } → HasWalked old file front → (IsWindowOf old.window file → IsWindowOf w.window file) → HasWalked w file front
read_on old w file front same h window = let P : Walk → Type 0 = λ v. HasWalked v file front in subst P (sym same) (stays old w.window file front h (window h.window))

-- A sample in memory is read from there.
pub held_line : (w : Walk) (file line : List ℕ) (t : ℕ) → HoldsSample w t line → w.len ≤ length file → IsWindowOf w.window file → ReadLine w file line
held_line w file line t h long is =
    let at = h.held in
    record {
      long = long;
      room = h.room;
      text = line_ends w.window file [] line at.text.0 line (drop (w.place - w.window.start) w.window.bytes) w.place w.place is at.from at.within (omega arith) (sym (append-nil (take w.place file))) refl at.text.1 refl;
      window = is;
    }

-- The walk that passes it takes its line.
pub held_takes : (w new : Walk) (line : List ℕ) (t : ℕ) → HoldsSample w t line → new ≡ record w { place = w.place + length line + 1; earliest = t + 1 } → Takes w line (walked.Sample t) new
held_takes w new line t h is = ((h.info, h.header, h.sample, h.later, is ∙ ap (λ (p : Window). record w { place = w.place + length line + 1; earliest = t + 1; window = p }) (sym (ap (λ (v : Walk). v.window) is))), ap (λ (v : Walk). v.window) is)
