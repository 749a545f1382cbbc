-- One answer to a call of a walk.
use Rattle.std.proofs.Common.{◌≡◌, ℕ, ◌+◌, ◌≤◌, inl, inr, List, [], ◌∷◌, ◌++◌, Option, Some, None, length, take, drop, arith, refl, sym, ap, ◌∙◌, subst}
use Rattle.std.specs.Prelude.{IsSome}
use Rattle.std.proofs.lemmas.List.{length-append, length-drop, length-take-le}
use Rattle.line_escape.specs.Unescaping.{HasNoNewline}
use Rattle.series_model.specs.declared.sample.Sample.{Sample}
use Rattle.series_model.specs.Series.{end_of}
use Rattle.pb_messages.specs.declared.info.PayloadInfo.{PayloadInfo}
use Rattle.pb_lines.specs.Sample.{IsSampleLine}
use Rattle.pb_lines.proofs.Unique.{one_moment}
use Rattle.pb_file.specs.declared.walk.Walked.{Walked}
use Rattle.pb_file.specs.declared.walk.Walked.TheVariants as walked
use Rattle.pb_lines.specs.File.{IsFile, IsBadAt, IsSample}
use Rattle.pb_file.specs.Walk.{Walk, Front, HasWalked, Reads, IsAnswer}
use Rattle.pb_lines.proofs.FileLines.{one_line}
use Rattle.pb_lines.proofs.FileMeaning.{is_cut, one_file, excluded, no_header_no_file}
use Rattle.pb_file.proofs.Walking.{next_line, within_first, bad_at, some_or_none, one_info}
use Rattle.pb_file.proofs.Verdicts.{nothing_begun}

-- the line that comes next
record NextLine (old : Walk) (bytes line : List ℕ) : Type 0 where
  rest : List ℕ
  whole : HasNoNewline line
  text : drop old.place (take old.len bytes) ≡ line ++ 10 ∷ rest

next_by : (old new : Walk) (bytes line : List ℕ) → HasNoNewline line → old.len ≤ length bytes → new.len ≡ old.len → new.place ≤ new.len → new.place ≡ old.place + length line + 1 → take new.place bytes ≡ take old.place bytes ++ (line ++ 10 ∷ []) → NextLine old bytes line
next_by old new bytes line whole long len within place is = record {
  rest = drop (old.place + length line + 1) (take old.len bytes);
  whole = whole;
  text = next_line bytes line old.place old.len (omega (arith, within, len, place)) long (ap (λ (n : ℕ). take n bytes) (sym place) ∙ is);
}

header_next : (front : Option Front) (bytes line : List ℕ) (old new : Walk) → HasWalked old bytes front → old.len ≤ length bytes → Reads front bytes old line walked.Header new → NextLine old bytes line
header_next (Some f) bytes line old new h long step = absurd step.walks
header_next None bytes line old new h long step =
    let file = step.walks.1 in
    let zero : [] ≡ take old.place bytes = let P : ℕ → Type 0 = λ n. [] ≡ take n bytes in subst P (sym h.read.0) refl in
    next_by old new bytes line step.gives.2 long (ap (λ (w : Walk). w.len) step.gives.4) file.within (ap (λ (w : Walk). w.place) step.gives.4)
    (file.read.0.text ∙ ap (λ (u : List ℕ). u ++ (line ++ 10 ∷ [])) zero)

sample_next : (front : Option Front) (bytes line : List ℕ) (old new : Walk) (t : ℕ) → HasWalked old bytes front → old.len ≤ length bytes → Reads front bytes old line (walked.Sample t) new → NextLine old bytes line
sample_next None bytes line old new t h long step = absurd step.walks
sample_next (Some f) bytes line old new t h long step =
    let file = step.walks in
    let cut = is_cut (take new.place bytes) f.head f.info f.samples (record { t = t; line = line } ∷ []) file.read.0 in
    next_by old new bytes line step.gives.2.whole long (ap (λ (w : Walk). w.len) step.gives.4) file.within (ap (λ (w : Walk). w.place) step.gives.4)
    (cut.1 ∙ ap (λ (u : List ℕ). u ++ (line ++ 10 ∷ [])) (sym h.read.0.text))

one_next : (old : Walk) (bytes line other : List ℕ) → NextLine old bytes line → NextLine old bytes other → line ≡ other
one_next old bytes line other h k = (one_line line other h.rest k.rest h.whole k.whole (sym h.text ∙ k.text)).0

-- at the end no line comes next
no_next : (front : Option Front) (bytes line other : List ℕ) (old new : Walk) → Reads front bytes old other walked.End new → old.len ≤ length bytes → NextLine old bytes line → ⊥
no_next front bytes line other old new step long next =
    omega (arith, step.gives.1, long, ap length next.text, length-append line (10 ∷ next.rest), length-drop old.place (take old.len bytes), length-take-le old.len bytes long)

-- where a line comes next, none is bad
no_damage : (front : Option Front) (bytes line other : List ℕ) (old new : Walk) (at : ℕ) → HasWalked old bytes front → Reads front bytes old other (walked.Damaged at) new → IsBadAt (take old.len bytes) old.place
no_damage front bytes line other old new at h step =
    let P : ℕ → Type 0 = λ n. IsBadAt (take n bytes) at in
    let Q : ℕ → Type 0 = λ n. IsBadAt (take old.len bytes) n in
    subst Q step.gives.0 (subst P (ap (λ (w : Walk). w.len) step.gives.1) (bad_at front bytes other at new step.walks))

-- ONE ANSWER

header_or_damage : (front : Option Front) (bytes line other : List ℕ) (old v w : Walk) (at : ℕ) → HasWalked old bytes front → old.len ≤ length bytes → Reads front bytes old line walked.Header v → Reads front bytes old other (walked.Damaged at) w → ⊥
header_or_damage (Some f) bytes line other old v w at h long step bad = step.walks
header_or_damage None bytes line other old v w at h long step bad =
    let next = header_next None bytes line old v h long step in
    elim (no_damage None bytes line other old w at h bad) [
      | inl none ↦ (let P : ℕ → Type 0 = λ n. drop n (take old.len bytes) ≡ line ++ 10 ∷ next.rest in none.1 line next.rest step.gives.0 (subst P h.read.0 next.text) next.whole step.gives.3)
      | inr damage ↦ nothing_begun old.place (take old.len bytes) damage.head damage.info damage.samples h.read.0 damage.front
    ]

sample_or_damage : (front : Option Front) (bytes line other : List ℕ) (old v w : Walk) (t at : ℕ) → HasWalked old bytes front → old.len ≤ length bytes → Reads front bytes old line (walked.Sample t) v → Reads front bytes old other (walked.Damaged at) w → ⊥
sample_or_damage None bytes line other old v w t at h long step bad = step.walks
sample_or_damage (Some f) bytes line other old v w t at h long step bad =
    let next = sample_next (Some f) bytes line old v t h long step in
    let first = take old.len bytes in
    let file = within_first bytes old.place old.len f h.within h.read.0 in
    elim (no_damage (Some f) bytes line other old w at h bad) [
      | inl none ↦ no_header_no_file first old.place f.head f.info f.samples none.1 file
      | inr damage ↦
          let same = one_file (take old.place first) f.head damage.head f.info damage.info f.samples damage.samples file damage.front in
          let I : PayloadInfo → Type 0 = λ i. IsSample i.ty i.year (record { t = t; line = line }) in
          let E : ℕ → Type 0 = λ n. n ≤ t in
          damage.bad.none (record { t = t; line = line }) next.rest next.text (subst I (one_info old.info step.gives.0 f.info step.gives.1 h.read.1 ∙ same.1) step.gives.2) (subst E (h.read.2 ∙ ap end_of same.2) step.gives.3)
    ]

end_or_damage : (front : Option Front) (bytes line other : List ℕ) (old v w : Walk) (at : ℕ) → HasWalked old bytes front → Reads front bytes old line walked.End v → Reads front bytes old other (walked.Damaged at) w → ⊥
end_or_damage None bytes line other old v w at h step bad = step.walks
end_or_damage (Some f) bytes line other old v w at h step bad =
    let P : ℕ → Type 0 = λ n. IsFile (take n bytes) f.head f.info f.samples in
    excluded (take old.len bytes) f.head f.info f.samples old.place (subst P (ap (λ (x : Walk). x.len) step.gives.2) step.walks) (no_damage (Some f) bytes line other old w at h bad)

no_info : (o : Option PayloadInfo) → o ≡ None → IsSome o → ⊥
no_info o none some = cc

-- a sample's moment is that of its line
one_time : (front : Option Front) (bytes line other : List ℕ) (old v w : Walk) (t u : ℕ) → HasWalked old bytes front → old.len ≤ length bytes → Reads front bytes old line (walked.Sample t) v → Reads front bytes old other (walked.Sample u) w → t ≡ u
one_time front bytes line other old v w t u h long step more =
    let same = one_next old bytes line other (sample_next front bytes line old v t h long step) (sample_next front bytes other old w u h long more) in
    let info = step.gives.0 in
    let I : PayloadInfo → Type 0 = λ i. IsSampleLine i.ty i.year other u in
    let L : List ℕ → Type 0 = λ l. IsSampleLine info.ty info.year l t in
    one_moment info.ty info.year other t u (subst L same step.gives.2.meant) (subst I (one_info old.info more.gives.0 info more.gives.1 step.gives.1) more.gives.2.meant)

pub one_step : (front : Option Front) (bytes line other : List ℕ) (a b : Walked) (old v w : Walk) → HasWalked old bytes front → old.len ≤ length bytes → IsAnswer a → IsAnswer b → Reads front bytes old line a v → Reads front bytes old other b w → a ≡ b
one_step front bytes line other walked.Header walked.Header old v w h long p q s u = refl
one_step front bytes line other walked.Header (walked.Sample t) old v w h long p q s u = absurd (some_or_none old.info u.gives.0 s.gives.1 u.gives.1)
one_step front bytes line other walked.Header walked.End old v w h long p q s u = absurd (no_info old.info s.gives.1 u.gives.0)
one_step front bytes line other walked.Header (walked.Damaged at) old v w h long p q s u = absurd (header_or_damage front bytes line other old v w at h long s u)
one_step front bytes line other (walked.Sample t) walked.Header old v w h long p q s u = absurd (some_or_none old.info s.gives.0 u.gives.1 s.gives.1)
one_step front bytes line other (walked.Sample t) (walked.Sample r) old v w h long p q s u = ap (λ (n : ℕ). walked.Sample n) (one_time front bytes line other old v w t r h long s u)
one_step front bytes line other (walked.Sample t) walked.End old v w h long p q s u = absurd (no_next front bytes line other old w u long (sample_next front bytes line old v t h long s))
one_step front bytes line other (walked.Sample t) (walked.Damaged at) old v w h long p q s u = absurd (sample_or_damage front bytes line other old v w t at h long s u)
one_step front bytes line other walked.End walked.Header old v w h long p q s u = absurd (no_info old.info u.gives.1 s.gives.0)
one_step front bytes line other walked.End (walked.Sample t) old v w h long p q s u = absurd (no_next front bytes other line old v s long (sample_next front bytes other old w t h long u))
one_step front bytes line other walked.End walked.End old v w h long p q s u = refl
one_step front bytes line other walked.End (walked.Damaged at) old v w h long p q s u = absurd (end_or_damage front bytes line other old v w at h s u)
one_step front bytes line other (walked.Damaged at) walked.Header old v w h long p q s u = absurd (header_or_damage front bytes other line old w v at h long u s)
one_step front bytes line other (walked.Damaged at) (walked.Sample t) old v w h long p q s u = absurd (sample_or_damage front bytes other line old w v t at h long u s)
one_step front bytes line other (walked.Damaged at) walked.End old v w h long p q s u = absurd (end_or_damage front bytes other line old w v at h u s)
one_step front bytes line other (walked.Damaged at) (walked.Damaged to) old v w h long p q s u = ap (λ (n : ℕ). walked.Damaged n) (s.gives.0 ∙ sym u.gives.0)
one_step front bytes line other walked.ReadFault b old v w h long p q s u = absurd p
one_step front bytes line other walked.Memory b old v w h long p q s u = absurd p
one_step front bytes line other walked.Header walked.ReadFault old v w h long p q s u = absurd q
one_step front bytes line other walked.Header walked.Memory old v w h long p q s u = absurd q
one_step front bytes line other (walked.Sample t) walked.ReadFault old v w h long p q s u = absurd q
one_step front bytes line other (walked.Sample t) walked.Memory old v w h long p q s u = absurd q
one_step front bytes line other walked.End walked.ReadFault old v w h long p q s u = absurd q
one_step front bytes line other walked.End walked.Memory old v w h long p q s u = absurd q
one_step front bytes line other (walked.Damaged at) walked.ReadFault old v w h long p q s u = absurd q
one_step front bytes line other (walked.Damaged at) walked.Memory old v w h long p q s u = absurd q
