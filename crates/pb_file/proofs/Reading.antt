-- What a read of one line at a place comes to.
use Rattle.std.proofs.Common.{◌≡◌, ℕ, ◌+◌, ◌≤◌, List, [], ◌∷◌, ◌++◌, Result, Err, length, take, drop, arith, refl, sym, ap, ◌∙◌, append_assoc}
use Rattle.std.proofs.lemmas.List.{length-take-le, take-append-drop, take-take, drop-append-le, append_cancel_left}
use Rattle.pb_messages.specs.declared.info.PayloadInfo.{PayloadInfo}
use Rattle.pb_lines.specs.File.{HasNoSample}
use Rattle.pb_file.specs.Walk.{Walk, Front, with_sample}
use Rattle.pb_file.specs.declared.search.SearchErr.{SearchErr}
use Rattle.pb_file.specs.Block.{IsWindowOf}
use Rattle.pb_file.specs.Skip.{HasHeader, HasSkipped}
use Rattle.pb_file.specs.Parting.{IsLineAt}

-- the front of no samples
abbrev pub bare : List ℕ → PayloadInfo → Front
bare head info = record { head = head; info = info; samples = [] }

-- one line was read from there
pub line_there : (w : Walk) (bytes line head : List ℕ) (info : PayloadInfo) (len at t : ℕ) → len ≤ length bytes → w.len ≡ len → w.place ≡ at + length line + 1 → HasSkipped w bytes at (with_sample (bare head info) t line) → IsLineAt info (take len bytes) (record { at = at; t = t; end = w.place })
line_there w bytes line head info len at t long size place h =
    let all = take len bytes in
    let rest = drop w.place all in
    let within : w.place ≤ len = omega (arith, h.within, size) in
    let front = take w.place bytes in
    let mine : 10 ∷ drop at front ≡ 10 ∷ (line ++ 10 ∷ []) = append_cancel_left head (10 ∷ drop at front) (10 ∷ (line ++ 10 ∷ [])) h.read.text in
    let text : drop at front ≡ line ++ 10 ∷ [] = cc in
    record {
      sample = record { t = t; line = line };
      rest = rest;
      is = h.read.lines.0;
      text = ap (λ (u : List ℕ). drop at u) (sym (take-append-drop w.place all) ∙ ap (λ (u : List ℕ). u ++ rest) (take-take w.place len bytes within))
          ∙ drop-append-le at front rest (omega (arith, h.begun, length-take-le w.place bytes (omega (arith, within, long))))
          ∙ ap (λ (u : List ℕ). u ++ rest) text
          ∙ append_assoc line (10 ∷ []) rest;
      moment = refl;
      end = place;
    }

-- nor does a line stand there that is later than none
pub none_there : (info : PayloadInfo) (bytes : List ℕ) → HasNoSample info (λ t. 0 ≤ t) bytes → HasNoSample info (λ t. Unit {0}) bytes
none_there info bytes h = record { some = h.some; none = λ s rest is sample good. h.none s rest is sample (omega arith) }

-- the same error
pub same_err : {A : Type 0} (r : Result A SearchErr) (a b : SearchErr) → r ≡ Err a → r ≡ Err b → a ≡ b
same_err {A} r a b is is₂ = cc

-- the header is kept where only what is in memory changed
pub keeps_header : (old new : Walk) (bytes head : List ℕ) (info : PayloadInfo) → new ≡ record old { window = new.window } → (IsWindowOf old.window bytes → IsWindowOf new.window bytes) → HasHeader old bytes head info → HasHeader new bytes head info
keeps_header old new bytes head info same window h = record { info_is = ap (λ (w : Walk). w.info) same ∙ h.info_is; whole = h.whole; header = h.header; window = window h.window }
