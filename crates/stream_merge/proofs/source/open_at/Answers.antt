use Rattle.std.proofs.Common.{◌≡◌, ℕ, [], ◌∷◌, IsTrue, List, Err, take, sym, ap, ◌∙◌, subst, arith}
use Rattle.std.proofs.lemmas.Result.{err_from_is_err_and}
use Rattle.pb_lines.specs.File.{IsFile, HasNoHeader}
use Rattle.pb_file.specs.Walk.{Walk, behind}
use Rattle.stream_merge.specs.declared.source.OpenPiece.{OpenPiece}
use Rattle.stream_merge.specs.Reading.{IsReadAs}
use Rattle.stream_merge.specs.Beginning.{IsAtLine, BeginsWell}
use Rattle.stream_merge.proofs.Pulling.{begun_there, begins_as, head_place}
use Rattle.stream_merge.proofs.SoFar.{unread_at}
use Rattle.stream_merge.proofs.Came.{told_refused}
use Rattle.stream_merge.proofs.source.open_at.Goals as goal

pub returns-in_err-piece-clause-refused : goal.returns-in_err-piece-clause-refused
returns-in_err-piece-clause-refused g c =
    let p = err_from_is_err_and c.from_residual.result c.from_residual.ensures.1 in
    rw (p.1, p.2) c.in_err-piece.ensures.refused

pub returns-in-Ok-clause-opened : goal.returns-in-Ok-clause-opened
returns-in-Ok-clause-opened g c =
    let R = g.R.ReadAt in
    let p = c.in_ok-piece.piece in
    let b = c.in_ok-piece.ensures.begun in
    let e = c.in-Ok.ensures in
    let n = behind c.args.last in
    let walk = c.skip.new.walk in
    let file = c.skip.new.file in
    let bytes = R.bytes c.args.reader in
    let piece : OpenPiece g.row.R.Denot = record { reader = file; name = p.name; walk = walk } in
    let L : List ℕ → Type 0 = λ l. IsAtLine p.walk.place p.walk l in
    let N : List ℕ → Type 0 = λ l. IsAtLine p.walk.place walk l in
    let there : IsTrue R.tells → N (R.bytes p.reader) = λ tells. c.skip.ensures.at_line tells (subst L (sym (b.bytes_stay tells)) (b.begun tells)) in
    let ready = begun_there R.tells R.bytes c.args.ty p file walk p.walk.place b.ready c.skip.ensures.moves c.skip.ensures.same there in
    let size : walk.len ≡ c.args.len = ap (λ (w : Walk). w.len) c.skip.ensures.moves.same ∙ b.same.0 in
    let stay : IsTrue R.tells → R.bytes file ≡ bytes = λ tells. c.skip.ensures.same tells ∙ b.bytes_stay tells in
    record {
      ready = ready;
      pieces = λ tells i. record { name = b.same.1 i; bytes = take (size i) (stay tells i) } ∷ [];
      lines = λ tells xs read.
          let F : List ℕ → Type 0 = λ l. IsFile (take c.args.len l) read.head read.info xs in
          let first = head_place c.args.ty bytes p.walk.place c.args.len p.walk xs (b.begun tells) b.same.0 read in
          let well = e.begins tells read.head read.info xs (subst F (sym (b.bytes_stay tells)) read.file) first in
          let Q : List ℕ → Type 0 = λ l. (r : IsReadAs c.args.ty l xs) × BeginsWell n c.args.query r.head xs walk.place in
          let text : take c.args.len bytes ≡ take walk.len (R.bytes file) = λ i. take (sym size i) (sym (stay tells) i) in
          let both = subst Q text (read, well) in
          begins_as R.bytes c.args.ty n c.args.query piece p.walk.place xs (subst N (sym (c.skip.ensures.same tells)) (there tells)) both.0 both.1;
      unread = λ tells. unread_at R.tells R.bytes c.args.ty piece p.walk.place tells ready (subst N (sym (c.skip.ensures.same tells)) (there tells));
      small = omega (arith, size);
    }

pub returns-in-Err-clause-refused : goal.returns-in-Err-clause-refused
returns-in-Err-clause-refused g c =
    let R = g.R.ReadAt in
    let p = c.in_ok-piece.piece in
    let b = c.in_ok-piece.ensures.begun in
    let B : List ℕ → Type 0 = λ l. HasNoHeader (take c.args.len l) in
    told_refused R.tells R.bytes R.faults c.args.ty c.args.name c.args.len c.args.reader (record { reader = c.skip.new.file; name = p.name; walk = c.skip.new.walk }) c.in-Err.err c.refuse.result b.same.1
    (λ is. let rose = c.skip.ensures.cause (c.in-Err.is ∙ ap (λ x. Err x) is) in omega (arith, rose))
    (λ tells at is. let bad = c.skip.ensures.refused tells at (c.in-Err.is ∙ ap (λ x. Err x) is) in (bad.0, subst B (b.bytes_stay tells) bad.1)) c.refuse.ensures
