-- Each line is later than the one before.
use Rattle.std.proofs.Common.{◌≡◌, ℕ, ◌<◌, ◌≤◌, List, [], ◌∷◌, Option, None, Some, sym, ap, ◌∙◌, subst, arith}
use Rattle.std.proofs.lemmas.Bool.{cases_lt}
use Rattle.std.proofs.Common.{inl, inr}
use Rattle.series_model.specs.declared.sample.Sample.{Sample}
use Rattle.pb_wire.specs.declared.payload.PayloadType.{PayloadType}
use Rattle.pb_file.specs.Walk.{behind}
use Rattle.stream_merge.specs.declared.pieces.Merged.{Merged}
use Rattle.stream_merge.specs.declared.pieces.Merged.TheVariants.{Line, End}
use Rattle.stream_merge.specs.Merging.{IsKept, kept_of, next_from, Gives}

-- what was kept was given
pub given_later : (ty : PayloadType) (last k last₂ k₂ : Option ℕ) (line : List ℕ) (s : Sample) → IsKept ty last k line → kept_of k line ≡ s ∷ [] → last₂ ≡ last → k₂ ≡ None → (next_from k last ≡ s.t) × (s.t < next_from k₂ last₂)
given_later ty last None last₂ k₂ line s kept is same none = absurd (cc)
given_later ty last (Some t) last₂ k₂ line s kept is same none =
    let at : t ≡ s.t = cc in
    let P : Option ℕ → Type 0 = λ x. s.t < next_from x last₂ in
    (at, subst P (sym none) (let Q : Option ℕ → Type 0 = λ x. s.t < behind x in subst Q (sym same) (omega (arith, at, kept.1))))

-- a sample is later than the last one, and than what is kept
pub next_low : (ty : PayloadType) (last k : Option ℕ) (line : List ℕ) (t : ℕ) → IsKept ty last k line → behind last ≤ t → next_from k last ≤ t
next_low ty last None line t kept low = low
next_low ty last (Some b) line t kept low = omega (arith, kept.1, low)

pub kept_low : (last k : Option ℕ) (t : ℕ) → k ≡ Some t → next_from k last ≡ t
kept_low last k t is = ap (λ (x : Option ℕ). next_from x last) is

-- a sample that isn't earlier than the interval was given, or kept in place of what was
pub gives_later : {R : Type 0} (ty : PayloadType) (to : ℕ) (last k last₂ k₂ : Option ℕ) (line : List ℕ) (t at : ℕ) (r : Merged R) → IsKept ty last k line → behind last ≤ t → last₂ ≡ Some t → Gives to k t k₂ r → r ≡ Line at → (next_from k last ≤ at) × (at < next_from k₂ last₂)
gives_later {R} ty to last (Some b) last₂ k₂ line t at r kept low is gives line_is =
    let same : b ≡ at = let both : Line b ≡ Line at = sym gives.1 ∙ line_is in cc in
    (omega (arith, same), let P : Option ℕ → Type 0 = λ x. at < next_from x last₂ in subst P (sym gives.0) (omega (arith, same, kept.1, low)))
gives_later {R} ty to last None last₂ k₂ line t at r kept low is gives line_is = elim (cases_lt to t) [
  | inl late ↦ absurd (let bad : ◌≡◌ {A = Merged R} End (Line at) = sym (gives.2 late) ∙ line_is in cc)
  | inr early ↦
      let same : t ≡ at = let both : ◌≡◌ {A = Merged R} (Line t) (Line at) = sym (gives.1 early) ∙ line_is in cc in
      let P : Option ℕ → Type 0 = λ x. at < next_from x last₂ in
      let Q : Option ℕ → Type 0 = λ x. at < behind x in
      (omega (arith, same, low), subst P (sym gives.0) (subst Q (sym is) (omega (arith, same))))
]
