-- What went out of gathered bytes, and what goes out behind it.
use Rattle.std.proofs.Common.{◌≡◌, ℕ, ◌+◌, List, [], ◌++◌, Option, Result, Ok, Err, arith, refl, sym, ap, ◌∙◌, append_assoc}
use Rattle.std.specs.Prelude.{OnErr}
use Rattle.std.specs.Io.KnownBytes.{Appends}
use Rattle.std.proofs.KnownBytes.{Appends-trans, Appends-nil}
use Rattle.std.proofs.lemmas.List.{append-nil}
use Rattle.edge_io.specs.Stream.{AppendsFront}
use Rattle.edge_io.proofs.Writes.{front_first, front_more}
use Rattle.edge_io.specs.Sent.{Sends}

pub on_err : {A E : Type 0} (r : Result A E) (P : Type 0) → P → OnErr r P
on_err {A} {E} (Ok a) P p = tt
on_err {A} {E} (Err e) P p = p

pub front_then : (a b c : Option (List ℕ)) (out rest : List ℕ) → Appends a b out → AppendsFront b c rest → AppendsFront a c (out ++ rest)
front_then a b c out rest sent f = front_more a b c out rest sent f

pub front_longer : (a c : Option (List ℕ)) (xs ys : List ℕ) → AppendsFront a c xs → AppendsFront a c (xs ++ ys)
front_longer a c xs ys f = front_first a c xs ys f

-- WHAT IS GATHERED, CALL BY CALL

pub sends_none : (a : Option (List ℕ)) → Sends a a [] []
sends_none a = ([], refl, Appends-nil a)

-- what is left of one piece, and what is put behind it
pub sends_then : (a b c : Option (List ℕ)) (text left more new : List ℕ) → Sends a b text left → Sends b c (left ++ more) new → Sends a c (text ++ more) new
sends_then a b c text left more new old next =
    let is : text ++ more ≡ (old.0 ++ next.0) ++ new = ap (λ (u : List ℕ). u ++ more) old.1 ∙ append_assoc old.0 left more ∙ ap (λ (u : List ℕ). old.0 ++ u) next.1 ∙ sym (append_assoc old.0 next.0 new) in
    (old.0 ++ next.0, is, Appends-trans a b c old.0 next.0 old.2 next.2)

-- what is gathered goes out, or a front of it
pub all_out : (a b c : Option (List ℕ)) (text left : List ℕ) → Sends a b text left → Appends b c left → Appends a c text
all_out a b c text left sent all = rw sent.1 (Appends-trans a b c sent.0 left sent.2 all)

pub front_out : (a b c : Option (List ℕ)) (text left : List ℕ) → Sends a b text left → AppendsFront b c left → AppendsFront a c text
front_out a b c text left sent front = rw sent.1 (front_then a b c sent.0 left sent.2 front)

-- WHAT A PUT DOES

-- where nothing is left of what was gathered, all of it went out
all_sent : (old out mid : List ℕ) → old ≡ out ++ mid → mid ≡ [] → old ≡ out
all_sent old out mid is empty = is ∙ ap (λ (u : List ℕ). out ++ u) empty ∙ append-nil out

pub front_of_piece : (a b c : Option (List ℕ)) (old mid piece : List ℕ) → Sends a b old mid → mid ≡ [] → AppendsFront b c piece → AppendsFront a c (old ++ piece)
front_of_piece a b c old mid piece sent empty f = rw (all_sent old sent.0 mid sent.1 empty) (front_then a b c sent.0 piece sent.2 f)

pub front_kept : (a b : Option (List ℕ)) (old mid piece : List ℕ) → Sends a b old mid → AppendsFront a b (old ++ piece)
front_kept a b old mid piece sent =
    let is : old ++ piece ≡ sent.0 ++ (mid ++ piece) = ap (λ (u : List ℕ). u ++ piece) sent.1 ∙ append_assoc sent.0 mid piece in
    rw is (front_then a b b sent.0 (mid ++ piece) sent.2 (0, omega (arith), Appends-nil b))

pub sends_piece : (a b c : Option (List ℕ)) (old mid piece : List ℕ) → Sends a b old mid → mid ≡ [] → Appends b c piece → Sends a c (old ++ piece) mid
sends_piece a b c old mid piece sent empty all =
    let front : old ++ piece ≡ sent.0 ++ piece = ap (λ (u : List ℕ). u ++ piece) (all_sent old sent.0 mid sent.1 empty) in
    let behind : (sent.0 ++ piece) ++ mid ≡ sent.0 ++ piece = ap (λ (u : List ℕ). (sent.0 ++ piece) ++ u) empty ∙ append-nil (sent.0 ++ piece) in
    (sent.0 ++ piece, front ∙ sym behind, Appends-trans a b c sent.0 piece sent.2 all)

-- what was gathered went out, and then the piece
pub sends_all : (a b c : Option (List ℕ)) (old piece left : List ℕ) → Appends a b old → left ≡ [] → Appends b c piece → Sends a c (old ++ piece) left
sends_all a b c old piece left first empty all =
    (old ++ piece, sym (ap (λ (u : List ℕ). (old ++ piece) ++ u) empty ∙ append-nil (old ++ piece)), Appends-trans a b c old piece first all)
