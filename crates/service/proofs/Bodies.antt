-- What a link has of a body, by what is behind the sink that the body goes to.
use Rattle.std.proofs.Common.{◌≡◌, ◌⊎◌, inl, inr, ℕ, ◌+◌, ◌-◌, ◌≤◌, zero-le, Bool, true, false, List, [], ◌∷◌, ◌++◌, Option, Some, None, Ok, Err, length, take, drop, arith, refl, sym, ap, ◌∙◌, subst, append_assoc}
use Rattle.std.specs.Prelude.{◌==◌, not, if◌then◌else◌, IfSome}
use Rattle.std.specs.Io.KnownBytes.{Appends}
use Rattle.std.proofs.lemmas.List.{append-nil, take_at, drop_at, length-append, take-append-drop}
use Rattle.std.proofs.Math.Seq.{take-append-add}
use Rattle.edge_io.specs.Stream.{AppendsFront}
use Rattle.edge_io.specs.declared.stream.Failed.{Failed}
use Rattle.series_model.specs.declared.sample.Query.{Query}
use Rattle.series_model.specs.declared.sample.Sample.{Sample}
use Rattle.series_model.specs.Retrieval.{answer}
use Rattle.act_model.specs.History.{Entry}
use Rattle.act_model.specs.Machine.{Machine}
use Rattle.act_model.specs.Out.{Subject}
use Rattle.stream_merge.specs.Over.{over_all}
use Rattle.http_front.specs.Behind.{behind, before_of, ended, told_of, whole_of, stands, text_of, written_behind, EndsBody, HasFront}
use Rattle.http_front.specs.Chunks.{chunked}
use Rattle.retrieval_query.specs.declared.variable.PinnedVariable.{PinnedVariable}
use Rattle.retrieval_query.specs.declared.retrieved.Retrieved.{Retrieved}
use Rattle.retrieval_query.specs.declared.retrieved.Retrieved.TheVariants.{Finished, NoSuchVariable, ReadFault, Damaged, SinkFault, Spent, Memory}
use Rattle.retrieval_query.specs.Pinning.{AnswersPinned, subject_of}
use Rattle.retrieval_query.specs.Retrieving.{Writes}
use Rattle.service.specs.declared.format.Format.{Format}
use Rattle.service.specs.Data.{BreaksBody, BreaksText, Closes, FinishesBody, FinishesText, body_text}
use Rattle.service.proofs.Answering.{ends_closed, of_writes}

-- A TEXT AS IT GOES OUT

abbrev coded : Bool → List ℕ → List ℕ
coded true text = chunked text
coded false text = text

coded_is : (version : ℕ) (text : List ℕ) → coded (not (version == 0)) text ≡ body_text version text
coded_is version text = by_test (version == 0)
  where
    by_test : (b : Bool) → coded (not b) text ≡ (if b then text else chunked text)
    by_test true = refl
    by_test false = refl

behind_more : (c : Bool) (name : ℕ) (f x y : List ℕ) → behind c name (Some f) x ++ y ≡ behind c name (Some f) (x ++ y)
behind_more true name f x y = ap (λ (u : List ℕ). 1 ∷ name ∷ 1 ∷ length f ∷ u) (append_assoc f x y)
behind_more false name f x y = ap (λ (u : List ℕ). 0 ∷ name ∷ 1 ∷ length f ∷ u) (append_assoc f x y)

whole_is : (c : Bool) (name : ℕ) (f text : List ℕ) → whole_of (behind c name (Some f) text) ≡ f ++ coded c text
whole_is true name f text = rw (take_at f text (length f) refl, drop_at f text (length f) refl) refl
whole_is false name f text = refl

told_is : (c : Bool) (name : ℕ) (f text : List ℕ) → told_of (behind c name (Some f) text) ≡ 1
told_is true name f text = refl
told_is false name f text = refl

before_is : (c : Bool) (name : ℕ) (f text : List ℕ) → before_of (behind c name (Some f) text) ≡ length f
before_is true name f text = refl
before_is false name f text = refl

ended_told : (c : Bool) (name : ℕ) (f text : List ℕ) → told_of (ended (behind c name (Some f) text)) ≡ 1
ended_told true name f text = refl
ended_told false name f text = refl

ended_before : (c : Bool) (name : ℕ) (f text : List ℕ) → before_of (ended (behind c name (Some f) text)) ≡ length f
ended_before true name f text = refl
ended_before false name f text = refl

ended_whole : (c : Bool) (name : ℕ) (f text : List ℕ) → whole_of (ended (behind c name (Some f) text)) ≡ f ++ coded c text
ended_whole true name f text = whole_is true name f text
ended_whole false name f text = whole_is false name f text

-- FRONTS

-- of two texts with one continuation the longer begins with the other and a front of what is behind it
prefix : (f xs text rest : List ℕ) → f ++ text ≡ xs ++ rest → length f ≤ length xs → AppendsFront (Some f) (Some xs) text
prefix f xs text rest is long =
    let sizes : length f + length text ≡ length xs + length rest = sym (length-append f text) ∙ ap length is ∙ length-append xs rest in
    let count : length xs ≡ length f + (length xs - length f) = omega (arith, long) in
    let cut : take (length xs) (xs ++ rest) ≡ f ++ take (length xs - length f) text =
    ap (λ (u : List ℕ). take (length xs) u) (sym is) ∙ ap (λ (n : ℕ). take n (f ++ text)) count ∙ take-append-add f text (length xs - length f) in
    (length xs - length f, omega (arith, sizes, long), sym (take_at xs rest (length xs) refl) ∙ cut)

fronts : (f : List ℕ) (now : Option (List ℕ)) (told text more : List ℕ) → told_of told ≡ 1 → before_of told ≡ length f → whole_of (told ++ more) ≡ f ++ text → HasFront told now → AppendsFront (Some f) now text
fronts f None told text more one before whole front = absurd (front one)
fronts f (Some xs) told text more one before whole front =
    let has = front one in
    let rest = has.1 more in
    prefix f xs text rest.0 (sym whole ∙ rest.1) (subst (λ (n : ℕ). n ≤ length xs) before has.0)

-- a body without an end
broken_at : (c : Bool) (name : ℕ) (f : List ℕ) (now w : Option (List ℕ)) (n : ℕ) (text : List ℕ) → Appends (Some (behind c name (Some f) [])) w (take n text) → IfSome w (λ told. HasFront told now) → AppendsFront (Some f) now (coded c text)
broken_at c name f now None n text sent has = absurd sent
broken_at c name f now (Some told) n text sent has =
    let is : told ≡ behind c name (Some f) (take n text) = sent ∙ behind_more c name f [] (take n text) in
    let whole : whole_of (told ++ drop n text) ≡ f ++ coded c text =
    ap (λ (u : List ℕ). whole_of (u ++ drop n text)) is ∙ ap whole_of (behind_more c name f (take n text) (drop n text)) ∙ ap (λ (u : List ℕ). whole_of (behind c name (Some f) u)) (take-append-drop n text) ∙ whole_is c name f text in
    fronts f now told (coded c text) (drop n text) (ap told_of is ∙ told_is c name f (take n text)) (ap before_of is ∙ before_is c name f (take n text)) whole has

-- a body whose end went out
ended_well : (c : Bool) (name : ℕ) (f : List ℕ) (now w v : Option (List ℕ)) (text : List ℕ) → Appends (Some (behind c name (Some f) [])) w text → EndsBody w v now (Ok (record {})) → Appends (Some f) now (coded c text)
ended_well c name f now None v text sent ends = absurd sent
ended_well c name f now (Some told) v text sent ends =
    let is : told ≡ behind c name (Some f) text = sent ∙ behind_more c name f [] text in
    let now_is : now ≡ Some (f ++ coded c text) = ends.1 (ap told_of is ∙ told_is c name f text) ∙ ap (λ (u : List ℕ). Some (whole_of u)) is ∙ ap Some (whole_is c name f text) in
    subst (λ (o : Option (List ℕ)). Appends (Some f) o (coded c text)) (sym now_is) refl

-- a body whose end did so in part
ended_badly : (c : Bool) (name : ℕ) (f : List ℕ) (now w v : Option (List ℕ)) (text : List ℕ) (e : Failed) → Appends (Some (behind c name (Some f) [])) w text → EndsBody w v now (Err e) → IfSome v (λ told. HasFront told now) → AppendsFront (Some f) now (coded c text)
ended_badly c name f now None v text e sent ends has = absurd sent
ended_badly c name f now (Some told) v text e sent (inl same) has =
    let is : told ≡ behind c name (Some f) text = sent ∙ behind_more c name f [] text in
    fronts f now told (coded c text) [] (ap told_of is ∙ told_is c name f text) (ap before_of is ∙ before_is c name f text) (ap whole_of (append-nil told) ∙ ap whole_of is ∙ whole_is c name f text)
    (subst (λ (o : Option (List ℕ)). IfSome o (λ told. HasFront told now)) same has)
ended_badly c name f now (Some told) v text e sent (inr same) has =
    let is : told ≡ behind c name (Some f) text = sent ∙ behind_more c name f [] text in
    fronts f now (ended told) (coded c text) [] (ap (λ (u : List ℕ). told_of (ended u)) is ∙ ended_told c name f text) (ap (λ (u : List ℕ). before_of (ended u)) is ∙ ended_before c name f text)
    (ap whole_of (append-nil (ended told)) ∙ ap (λ (u : List ℕ). whole_of (ended u)) is ∙ ended_whole c name f text)
    (subst (λ (o : Option (List ℕ)). IfSome o (λ told. HasFront told now)) same has)

-- THE BODY OF AN ANSWER

module _ (format : Format) (version name : ℕ) (start now first w v : Option (List ℕ)) (begun : first ≡ Some (behind (not (version == 0)) name start [])) (has : IfSome v (λ told. HasFront told now)) where
  broke : (subject : Subject) (xs : List Sample) → v ≡ w → BreaksText format first subject xs w → BreaksBody format version start subject xs now
  broke subject xs same (text, is, front) = (text, is, by_start start (subst (λ o. AppendsFront o w text) begun front))
    where
      by_start : (s : Option (List ℕ)) → AppendsFront (Some (behind (not (version == 0)) name s [])) w text → AppendsFront s now (body_text version text)
      by_start None sent = (0, zero-le, tt)
      by_start (Some f) sent = subst (λ (u : List ℕ). AppendsFront (Some f) now u) (coded_is version text) (broken_at (not (version == 0)) name f now w sent.0 text sent.2 (subst (λ o. IfSome o (λ told. HasFront told now)) same has))

  finished : (subject : Subject) (xs : List Sample) → EndsBody w v now (Ok (record {})) → FinishesText format first subject xs w → FinishesBody format version start subject xs now
  finished subject xs ends (text, is, all) = (text, is, by_start start (subst (λ o. Appends o w text) begun all))
    where
      by_start : (s : Option (List ℕ)) → Appends (Some (behind (not (version == 0)) name s [])) w text → Appends s now (body_text version text)
      by_start None sent = tt
      by_start (Some f) sent = subst (λ (u : List ℕ). Appends (Some f) now u) (coded_is version text) (ended_well (not (version == 0)) name f now w v text sent ends)

  cut_off : (subject : Subject) (xs : List Sample) (e : Failed) → EndsBody w v now (Err e) → FinishesText format first subject xs w → BreaksBody format version start subject xs now
  cut_off subject xs e ends (text, is, all) = (text, is, by_start start (subst (λ o. Appends o w text) begun all))
    where
      by_start : (s : Option (List ℕ)) → Appends (Some (behind (not (version == 0)) name s [])) w text → AppendsFront s now (body_text version text)
      by_start None sent = (0, zero-le, tt)
      by_start (Some f) sent = subst (λ (u : List ℕ). AppendsFront (Some f) now u) (coded_is version text) (ended_badly (not (version == 0)) name f now w v text e sent ends has)

  abbrev Given : {R : Type 0} → Subject → List Sample → Retrieved R → Type 0
  Given subject xs given = Writes (FinishesText format) (BreaksText format) first subject xs given w

  abbrev Written : {R : Type 0} → Subject → List Sample → Retrieved R → Type 0
  Written subject xs result = Writes (FinishesBody format version) (BreaksBody format version) start subject xs result now

  writes_body : {R : Type 0} (rose : Type 0) (given result : Retrieved R) (subject : Subject) (xs : List Sample) → Closes given rose result w v now → Given subject xs given → Written subject xs result
  writes_body rose (Finished count) result subject xs (inl closed) g = subst (λ r. Written subject xs r) (sym closed.0) (finished subject xs closed.1 g.0, g.1)
  writes_body rose (Finished count) result subject xs (inr closed) g = subst (λ r. Written subject xs r) (sym closed.0) (cut_off subject xs closed.2.0 closed.2.1 g.0)
  writes_body rose NoSuchVariable result subject xs closed g = subst (λ r. Written subject xs r) (sym closed.0) (broke subject xs closed.1 g)
  writes_body rose (ReadFault failed) result subject xs closed g = subst (λ r. Written subject xs r) (sym closed.0) (broke subject xs closed.1 g)
  writes_body rose (Damaged file at) result subject xs closed g = subst (λ r. Written subject xs r) (sym closed.0) (broke subject xs closed.1 g)
  writes_body rose SinkFault result subject xs closed g = subst (λ r. Written subject xs r) (sym closed.0) (broke subject xs closed.1 g)
  writes_body rose Spent result subject xs closed g = subst (λ r. Written subject xs r) (sym closed.0) (broke subject xs closed.1 g)
  writes_body rose Memory result subject xs closed g = subst (λ r. Written subject xs r) (sym closed.0) (broke subject xs closed.1 g)

  -- the answer's text was given to a sink of a body, and the body ended
  pub answers_body : {A R : Type 0} (number : A → ℕ) (between : A → List Entry → A → Type 0) (is_spent : A → Type 0) (held : A → Machine → Type 0) (tells : Bool) (faults : R → ℕ) (early late rose : Type 0) (old new : A) (variable : PinnedVariable) (query : Query) (given result : Retrieved R)
      → (early → rose) → (late → rose) → Closes given late result w v now
      → AnswersPinned number between is_spent held tells faults (FinishesText format) (BreaksText format) early old variable query first given new w
      → AnswersPinned number between is_spent held tells faults (FinishesBody format version) (BreaksBody format version) rose old variable query start result new now
  answers_body number between is_spent held tells faults early late rose old new variable query given result e l closed a = record {
    reads = record {
      told = a.reads.told;
      failed = a.reads.failed;
      unpin = a.reads.unpin;
      stopped = a.reads.stopped;
      made = a.reads.made;
      unpinned = a.reads.unpinned;
      is = a.reads.is;
      ends = ends_closed tells faults variable.about.ty variable.pin a.reads.told a.reads.failed a.reads.unpin (is_spent a.reads.stopped ⊎ is_spent new) early late rose given result w v now e l closed a.reads.ends;
    };
    some = record {
      given = a.some.given;
      events = a.some.events;
      rising = a.some.rising;
      writes = writes_body late given result (subject_of variable query) a.some.given closed a.some.writes;
    };
    whole = λ telling lists told. writes_body late given result (subject_of variable query) (answer (over_all lists variable.tail) query) closed (a.whole telling lists told);
  }

-- THE LINK OF A BODY

-- the text tells the reference of this name
abbrev IsNamed : ℕ → List ℕ → Type 0
IsNamed name told = (mode : ℕ) × (rest : List ℕ) × (told ≡ mode ∷ name ∷ rest)

named : (start now : Option (List ℕ)) (name : ℕ) (chunks : Bool) (taken held going : List ℕ) → IfSome (written_behind start now name chunks taken held going) (IsNamed name)
named start now name chunks taken held going = by_test (stands start now chunks taken going) chunks (text_of chunks taken held)
  where
    by_test : (s c : Bool) (text : List ℕ) → IfSome (if s then Some (behind c name start text) else None) (IsNamed name)
    by_test false c text = tt
    by_test true true text = (1, _, refl)
    by_test true false text = (0, _, refl)

same_name : (a b : Option (List ℕ)) (n k : ℕ) (told x : List ℕ) → a ≡ Some told → IfSome a (IsNamed n) → IfSome b (IsNamed k) → Appends a b x → k ≡ n
same_name None b n k told x is p q sent = absurd (cc)
same_name (Some t) None n k told x is p q sent = absurd sent
same_name (Some t) (Some u) n k told x is p q sent =
    let e : q.0 ∷ k ∷ q.1 ≡ (p.0 ∷ n ∷ p.1) ++ x = sym q.2 ∙ sent ∙ ap (λ (l : List ℕ). l ++ x) p.2 in
    cc (e)

-- a sink of a body keeps its link as an answer is given to it
pub link_stays : {R : Type 0} (format : Format) (start now start₂ now₂ : Option (List ℕ)) (name name₂ : ℕ) (chunks chunks₂ : Bool) (taken held going taken₂ held₂ going₂ told : List ℕ) (subject : Subject) (xs : List Sample) (result : Retrieved R)
    → written_behind start now name chunks taken held going ≡ Some told
    → Writes (FinishesText format) (BreaksText format) (written_behind start now name chunks taken held going) subject xs result (written_behind start₂ now₂ name₂ chunks₂ taken₂ held₂ going₂) → name₂ ≡ name
link_stays format start now start₂ now₂ name name₂ chunks chunks₂ taken held going taken₂ held₂ going₂ told subject xs result is writes =
    let a = written_behind start now name chunks taken held going in
    let b = written_behind start₂ now₂ name₂ chunks₂ taken₂ held₂ going₂ in
    of_writes (FinishesText format) (BreaksText format) a b subject xs result
    (λ w. same_name a b name name₂ told w.0 is (named start now name chunks taken held going) (named start₂ now₂ name₂ chunks₂ taken₂ held₂ going₂) w.2)
    (λ w. same_name a b name name₂ told (take w.2.0 w.0) is (named start now name chunks taken held going) (named start₂ now₂ name₂ chunks₂ taken₂ held₂ going₂) w.2.2)
    writes
