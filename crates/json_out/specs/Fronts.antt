-- Why a text as far as some samples is a front of the whole text, whatever samples follow. An output owes this with its definitions.
use Rattle.std.proofs.Common.{◌≡◌, ℕ, Bool, List, [], ◌∷◌, ◌++◌, map, codes, Option, refl, sym, ap, ◌∙◌, subst, append_assoc}
use Rattle.std.specs.List.{flat_map}
use Rattle.std.proofs.lemmas.List.{append-nil}
use Rattle.std.proofs.lemmas.Grind.{flat_map-append}
use Rattle.edge_io.specs.Stream.{AppendsFront}
use Rattle.edge_io.proofs.Sending.{front_kept}
use Rattle.series_model.specs.declared.sample.Sample.{Sample}
use Rattle.pb_wire.specs.declared.payload.PayloadType.{PayloadType}
use Rattle.pb_messages.specs.declared.about.About.{About}
use Rattle.act_model.specs.Out.{Subject}
use Rattle.json_out.specs.Values.{separated}
use Rattle.json_out.specs.Json.{sample_text, samples_text, head_text, begun_text, json}
use Rattle.json_out.specs.Writing.{Gives, Breaks}

-- the first text, and then each other one behind a comma
pub separated_first : {X : Type 0} (text : X → List ℕ) (x : X) (xs : List X) → separated (map text (x ∷ xs)) ≡ text x ++ flat_map (λ y. 44 ∷ text y) xs
separated_first text x [] = sym (append-nil (text x))
separated_first text x (y ∷ xs) = ap (λ (u : List ℕ). text x ++ (44 ∷ u)) (separated_first text y xs)

-- the text of some samples is a front of the text of more
pub separated_longer : (text : Sample → List ℕ) (xs more : List Sample) → (rest : List ℕ) × (separated (map text (xs ++ more)) ≡ separated (map text xs) ++ rest)
separated_longer text [] more = (separated (map text more), refl)
separated_longer text (x ∷ xs) more =
    let others : Sample → List ℕ = λ y. 44 ∷ text y in
    let whole = separated_first text x (xs ++ more) ∙ ap (λ (u : List ℕ). text x ++ u) (flat_map-append others xs more) in
    let front = ap (λ (u : List ℕ). u ++ flat_map others more) (separated_first text x xs) in
    (flat_map others more, whole ∙ sym (append_assoc (text x) (flat_map others xs) (flat_map others more)) ∙ sym front)

-- a front of one text, under the text's other name
pub front_of : (a b : Option (List ℕ)) (x y : List ℕ) → x ≡ y → AppendsFront a b y → AppendsFront a b x
front_of a b x y is front =
    let P : List ℕ → Type 0 = λ u. AppendsFront a b u in
    subst P (sym is) front

-- what stands behind the text as far as some samples, where more follow
pub json_rest : (name : List ℕ) (about : About) (xs more : List Sample) → (rest : List ℕ) × (json name about (xs ++ more) ≡ begun_text name about xs ++ rest)
json_rest name about xs more =
    let head = head_text name about.headers in
    let end = codes "]}]\n" in
    let longer = separated_longer (sample_text about.ty) xs more in
    let text = samples_text about.ty xs in (
      longer.0 ++ end,
      ap (λ (u : List ℕ). (head ++ u) ++ end) longer.1
          ∙ ap (λ (u : List ℕ). u ++ end) (sym (append_assoc head text longer.0))
          ∙ append_assoc (head ++ text) longer.0 end,
    )

-- a front of the text went out, whatever samples follow
pub gives_breaks : (a b : Option (List ℕ)) (old new : List ℕ) (ty : Option PayloadType) (later : Bool) (subject : Subject) (xs more : List Sample)
    → Gives a b old new ty later subject xs → Breaks a b old subject (xs ++ more)
gives_breaks a b old new ty later subject xs more gives =
    let rest = json_rest subject.name subject.about xs more in
    let is : old ++ json subject.name subject.about (xs ++ more) ≡ (old ++ begun_text subject.name subject.about xs) ++ rest.0 =
    ap (λ (u : List ℕ). old ++ u) rest.1 ∙ sym (append_assoc old (begun_text subject.name subject.about xs) rest.0) in
    front_of a b (old ++ json subject.name subject.about (xs ++ more)) ((old ++ begun_text subject.name subject.about xs) ++ rest.0) is (front_kept a b (old ++ begun_text subject.name subject.about xs) new rest.0 gives.sent)
