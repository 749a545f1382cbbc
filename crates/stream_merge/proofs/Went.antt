-- What a call did to the pieces: which were opened, and whether one failed.
use Rattle.std.proofs.Common.{◌≡◌, ℕ, Bool, List, [], ◌∷◌, ◌++◌, Option, None, Some, IsTrue, take, inl, inr, refl, sym, ap, ◌∙◌, subst, append_assoc, append-nil, arith}
use Rattle.std.proofs.lemmas.Bool.{cases_lt}
use Rattle.disk_model.specs.Files.{Name}
use Rattle.pb_wire.specs.declared.payload.PayloadType.{PayloadType}
use Rattle.stream_merge.specs.declared.pieces.Merged.{Merged}
use Rattle.stream_merge.specs.declared.pieces.Merged.TheVariants.{Line, End, ReadFault, Damaged, Spent, Memory}
use Rattle.stream_merge.specs.declared.source.OpenPiece.{OpenPiece}
use Rattle.stream_merge.specs.Pieces.{NamedBytes, Failure, Faulted, OutOfActs, OutOfMemory}
use Rattle.stream_merge.specs.Reading.{IsDamaged}
use Rattle.stream_merge.specs.Source.{open_pieces, CameOfOpen, GoesOn, Went, HasRisen, Grew, IsGiven, IsOfTail, RefusesAs}
use Rattle.stream_merge.specs.Merging.{Gives}
use Rattle.stream_merge.proofs.Coming.{damaged_in, damaged_one}

module _ {P R : Type 0} (tells : Bool) (bytes : R → List ℕ) (opened : P → List NamedBytes → P → Type 0) (failed : P → Failure → P → Type 0) where
  -- nothing was opened, and the open piece is as it was
  pub goes_nowhere : ((a : P) → opened a [] a) → (a : P) (piece now : Option (OpenPiece R)) → now ≡ piece → GoesOn tells bytes opened a piece a now
  goes_nowhere none a piece now same = record { pieces = []; were = none a; are = λ told. ([], append-nil (open_pieces bytes piece) ∙ ap (open_pieces bytes) (sym same)) }

  -- the open piece shows as it did
  pub goes_still : (a b : P) (piece old now : Option (OpenPiece R)) → GoesOn tells bytes opened a piece b old → (IsTrue tells → open_pieces bytes now ≡ open_pieces bytes old) → GoesOn tells bytes opened a piece b now
  goes_still a b piece old now goes same = record { pieces = goes.pieces; were = goes.were; are = λ told. let p = goes.are told in (p.0, p.1 ∙ ap (λ (l : List NamedBytes). p.0 ++ l) (sym (same told))) }

  -- a given result is one of a line or the end
  pub went_given : (ty : PayloadType) (a b : P) (piece now : Option (OpenPiece R)) (r : Merged R) → IsGiven r → GoesOn tells bytes opened a piece b now → Went tells bytes opened failed ty a piece r b now
  went_given ty a b piece now (Line t) given goes = goes
  went_given ty a b piece now End given goes = goes
  went_given ty a b piece now (ReadFault f) given goes = absurd given
  went_given ty a b piece now (Damaged name at) given goes = absurd given
  went_given ty a b piece now Spent given goes = absurd given
  went_given ty a b piece now Memory given goes = absurd given

  -- the open piece's next line was read, or not
  pub went_open : (ty open_ty : PayloadType) (a b : P) (piece old now : Option (OpenPiece R)) (faults : R → ℕ) (line : List ℕ) (r : Merged R) → open_ty ≡ ty → GoesOn tells bytes opened a piece b old
      → CameOfOpen tells bytes faults open_ty old now line r → (r ≡ End → ⊥) → Went tells bytes opened failed ty a piece r b now
  went_open ty open_ty a b piece old now faults line (Line t) same goes came more = goes_still a b piece old now goes came.stays
  went_open ty open_ty a b piece old now faults line End same goes came more = absurd (more refl)
  went_open ty open_ty a b piece old now faults line (ReadFault None) same goes came more = absurd (none_risen old came)
    where
      none_risen : (o : Option (OpenPiece R)) → HasRisen faults o None → ⊥
      none_risen None rose = rose
      none_risen (Some p) rose = rose
  went_open ty open_ty a b piece old now faults line (ReadFault (Some f)) same goes came more = (goes.pieces, goes.were)
  went_open ty open_ty a b piece old now faults line (Damaged name at) same goes came more = record {
    pieces = goes.pieces;
    were = goes.were;
    damaged = λ told.
        let p = goes.are told in
        let T : PayloadType → Type 0 = λ y. IsDamaged y (open_pieces bytes piece ++ goes.pieces) name at in
        subst T same (damaged_in open_ty (open_pieces bytes piece ++ goes.pieces) p.0 (open_pieces bytes old) [] name at (p.1 ∙ ap (λ (l : List NamedBytes). p.0 ++ l) (sym (append-nil (open_pieces bytes old)))) (came told));
  }
  went_open ty open_ty a b piece old now faults line Spent same goes came more = absurd came
  went_open ty open_ty a b piece old now faults line Memory same goes came more = inl (goes.pieces, goes.were)

  module _ (opened_on : (a b c : P) (xs ys : List NamedBytes) → opened a xs b → opened b ys c → opened a (xs ++ ys) c) where
    -- a piece was opened
    pub goes_opened : (a b c : P) (piece old now : Option (OpenPiece R)) (n : NamedBytes) → GoesOn tells bytes opened a piece b old → opened b (n ∷ []) c → (IsTrue tells → open_pieces bytes now ≡ n ∷ []) → GoesOn tells bytes opened a piece c now
    goes_opened a b c piece old now n goes one are = record {
      pieces = goes.pieces ++ n ∷ [];
      were = opened_on a b c goes.pieces (n ∷ []) goes.were one;
      are = λ told. (open_pieces bytes piece ++ goes.pieces, sym (append_assoc (open_pieces bytes piece) goes.pieces (n ∷ [])) ∙ ap (λ (l : List NamedBytes). (open_pieces bytes piece ++ goes.pieces) ++ l) (sym (are told)));
    }

    -- none was left
    pub goes_none : (a b c : P) (piece old now : Option (OpenPiece R)) → GoesOn tells bytes opened a piece b old → opened b [] c → now ≡ None → GoesOn tells bytes opened a piece c now
    goes_none a b c piece old now goes none closed = record {
      pieces = goes.pieces ++ [];
      were = opened_on a b c goes.pieces [] goes.were none;
      are = λ told. (open_pieces bytes piece ++ (goes.pieces ++ []), sym (append-nil (open_pieces bytes piece ++ (goes.pieces ++ []))) ∙ ap (λ (l : List NamedBytes). (open_pieces bytes piece ++ (goes.pieces ++ [])) ++ l) (sym (ap (open_pieces bytes) closed)));
    }

    -- the piece that was opened doesn't begin with its header
    pub went_begun : (ty : PayloadType) (a b c : P) (piece old now : Option (OpenPiece R)) (name : Name) (len : ℕ) (reader : R) (faults : R → ℕ) (r : Merged R) → GoesOn tells bytes opened a piece b old → opened b (record { name = name; bytes = take len (bytes reader) } ∷ []) c
        → RefusesAs tells bytes faults ty name len reader r → Went tells bytes opened failed ty a piece r c now
    went_begun ty a b c piece old now name len reader faults (Line t) goes one why = absurd why
    went_begun ty a b c piece old now name len reader faults End goes one why = absurd why
    went_begun ty a b c piece old now name len reader faults (ReadFault None) goes one why = absurd why
    went_begun ty a b c piece old now name len reader faults (ReadFault (Some f)) goes one why =
        let n : NamedBytes = record { name = name; bytes = take len (bytes reader) } in
        (goes.pieces ++ n ∷ [], opened_on a b c goes.pieces (n ∷ []) goes.were one)
    went_begun ty a b c piece old now name len reader faults (Damaged found at) goes one why =
        let n : NamedBytes = record { name = name; bytes = take len (bytes reader) } in
        record {
          pieces = goes.pieces ++ n ∷ [];
          were = opened_on a b c goes.pieces (n ∷ []) goes.were one;
          damaged = λ told.
              damaged_in ty (open_pieces bytes piece ++ (goes.pieces ++ n ∷ [])) (open_pieces bytes piece ++ goes.pieces) (n ∷ []) [] found at (sym (append_assoc (open_pieces bytes piece) goes.pieces (n ∷ []))) (damaged_one ty n found at (why told).0 (why told).1);
        }
    went_begun ty a b c piece old now name len reader faults Spent goes one why = absurd why
    went_begun ty a b c piece old now name len reader faults Memory goes one why =
        let n : NamedBytes = record { name = name; bytes = take len (bytes reader) } in
        inl (goes.pieces ++ n ∷ [], opened_on a b c goes.pieces (n ∷ []) goes.were one)

    -- what the tail gave
    pub went_tail : (ty : PayloadType) (a c : P) (piece now : Option (OpenPiece R)) (r : Merged R) → IsOfTail r → GoesOn tells bytes opened a piece c now → Went tells bytes opened failed ty a piece r c now
    went_tail ty a c piece now (Line t) of_tail goes = goes
    went_tail ty a c piece now End of_tail goes = goes
    went_tail ty a c piece now (ReadFault f) of_tail goes = absurd of_tail
    went_tail ty a c piece now (Damaged name at) of_tail goes = absurd of_tail
    went_tail ty a c piece now Spent of_tail goes = absurd of_tail
    went_tail ty a c piece now Memory of_tail goes = inl (goes.pieces, goes.were)

    -- one call after another
    pub goes_joined : (a b c : P) (piece old now : Option (OpenPiece R)) → GoesOn tells bytes opened a piece b old → GoesOn tells bytes opened b old c now → GoesOn tells bytes opened a piece c now
    goes_joined a b c piece old now one two = record {
      pieces = one.pieces ++ two.pieces;
      were = opened_on a b c one.pieces two.pieces one.were two.were;
      are = λ told.
          let p = one.are told in
          let q = two.are told in
          (p.0 ++ q.0, sym (append_assoc (open_pieces bytes piece) one.pieces two.pieces) ∙ ap (λ (l : List NamedBytes). l ++ two.pieces) p.1 ∙ append_assoc p.0 (open_pieces bytes old) two.pieces ∙ ap (λ (l : List NamedBytes). p.0 ++ l) q.1 ∙ sym (append_assoc p.0 q.0 (open_pieces bytes now)));
    }

    module _ (failed_on : (a b c : P) (xs : List NamedBytes) (why : Failure) → opened a xs b → failed b why c → failed a why c) where
      pub went_joined : (ty open_ty : PayloadType) (a b c : P) (piece old now : Option (OpenPiece R)) (r : Merged R) → open_ty ≡ ty → GoesOn tells bytes opened a piece b old → Went tells bytes opened failed open_ty b old r c now → Went tells bytes opened failed ty a piece r c now
      went_joined ty open_ty a b c piece old now (Line t) same one two = goes_joined a b c piece old now one two
      went_joined ty open_ty a b c piece old now End same one two = goes_joined a b c piece old now one two
      went_joined ty open_ty a b c piece old now (ReadFault None) same one two = failed_on a b c one.pieces Faulted one.were two
      went_joined ty open_ty a b c piece old now (ReadFault (Some f)) same one two = (one.pieces ++ two.0, opened_on a b c one.pieces two.0 one.were two.1)
      went_joined ty open_ty a b c piece old now (Damaged name at) same one two = record {
        pieces = one.pieces ++ two.pieces;
        were = opened_on a b c one.pieces two.pieces one.were two.were;
        damaged = λ told.
            let p = one.are told in
            let all = open_pieces bytes piece ++ (one.pieces ++ two.pieces) in
            let T : PayloadType → Type 0 = λ y. IsDamaged y all name at in
            let is : all ≡ p.0 ++ ((open_pieces bytes old ++ two.pieces) ++ []) = sym (append_assoc (open_pieces bytes piece) one.pieces two.pieces) ∙ ap (λ (l : List NamedBytes). l ++ two.pieces) p.1 ∙ append_assoc p.0 (open_pieces bytes old) two.pieces ∙ ap (λ (l : List NamedBytes). p.0 ++ l) (sym (append-nil (open_pieces bytes old ++ two.pieces))) in
            subst T same (damaged_in open_ty all p.0 (open_pieces bytes old ++ two.pieces) [] name at is (two.damaged told));
      }
      went_joined ty open_ty a b c piece old now Spent same one two = failed_on a b c one.pieces OutOfActs one.were two
      went_joined ty open_ty a b c piece old now Memory same one (inl two) = inl (one.pieces ++ two.0, opened_on a b c one.pieces two.0 one.were two.1)
      went_joined ty open_ty a b c piece old now Memory same one (inr two) = inr (failed_on a b c one.pieces OutOfMemory one.were two)

-- what a call of `give` comes to is a line or the end
pub gives_given : {R : Type 0} (to : ℕ) (k : Option ℕ) (t : ℕ) (kept : Option ℕ) (r : Merged R) → Gives to k t kept r → IsGiven r
gives_given {R} to (Some b) t kept r gives = let G : Merged R → Type 0 = λ x. IsGiven x in subst G (sym gives.1) tt
gives_given {R} to None t kept r gives =
    let G : Merged R → Type 0 = λ x. IsGiven x in
    elim (cases_lt to t) [
      | inl late ↦ subst G (sym (gives.2 late)) tt
      | inr early ↦ subst G (sym (gives.1 early)) tt
    ]

pub grew_same : {R : Type 0} (faults : R → ℕ) (piece : Option (OpenPiece R)) → Grew faults piece piece
grew_same {R} faults None = tt
grew_same {R} faults (Some p) = omega arith
