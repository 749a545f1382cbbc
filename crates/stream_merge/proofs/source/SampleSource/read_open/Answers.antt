use Rattle.std.proofs.Common.{rules, ◌≡◌, ℕ, Some, refl, sym, ap, ◌∙◌, subst}
use Rattle.std.proofs.lemmas.Option.{same_Some}
use Rattle.pb_file.specs.declared.walk.Walked.{Walked}
use Rattle.pb_file.specs.declared.walk.Walked.TheVariants as walked
use Rattle.pb_file.specs.Walk.{Front, Gives}
use Rattle.pb_file.specs.Skip.{HasSkipped, GoesOnFrom}
use Rattle.stream_merge.specs.declared.source.OpenPiece.{OpenPiece}
use Rattle.stream_merge.proofs.Pulling.{begun, goes_on, same_len, begun_on, line_read, closed_line, closed_spent, closed_end, closed_fault, closed_damaged, no_line_left, read_bad, gives_now, reads_open, has_risen, open_damaged}
use Rattle.stream_merge.proofs.SoFar.{none_open, read_of, one_read, end_is_read, next_none, end_of_open}
use Rattle.stream_merge.proofs.Came.{came_stop}
use Rattle.stream_merge.proofs.source.SampleSource.read_open.Goals as goal

pub returns-in-Sample-clause-came : goal.returns-in-Sample-clause-came
returns-in-Sample-clause-came g c =
    let R = g.R.ReadAt in
    let p = c.in-Some.piece in
    let b = begun R.tells R.bytes c.args.self.now.ty c.args.self.now.piece p c.in-Some.is c.requires.ready in
    let e = c.in-Sample.ensures in
    record {
      ready = begun_on R.tells R.bytes c.args.self.now.ty p c.next-walked.new.file c.next-walked.new.self c.next-walked.new.line.items c.in-Sample.t b (gives_now p.walk.stop _ b.going e.gives) e.within e.same e.skipped;
      event = search rules;
      stays = search rules;
      grew = search rules;
      smaller = search rules;
    }

pub returns-in-Sample-clause-ends : goal.returns-in-Sample-clause-ends
returns-in-Sample-clause-ends g c is = absurd (none_open c.args.self.now.piece c.in-Some.piece c.in-Some.is is)

pub returns-in-Sample-clause-lines : goal.returns-in-Sample-clause-lines
returns-in-Sample-clause-lines g c tells xs now =
    let R = g.R.ReadAt in
    let p = c.in-Some.piece in
    let ty = c.args.self.now.ty in
    let b = begun R.tells R.bytes ty c.args.self.now.piece p c.in-Some.is c.requires.ready in
    let e = c.in-Sample.ensures in
    line_read R.bytes p c.next-walked.new.file c.next-walked.new.self c.next-walked.new.line.items c.in-Sample.t xs (goes_on R.bytes c.args.self.now.piece p xs c.in-Some.is now) (same_len p.walk c.next-walked.new.self c.next-walked.new.line.items (walked.Sample c.in-Sample.t) (gives_now p.walk.stop _ b.going e.gives)) (b.bytes_are tells) (e.same tells) (e.skipped tells)

pub returns-in-Sample-clause-reads : goal.returns-in-Sample-clause-reads
returns-in-Sample-clause-reads g c tells read now =
    let R = g.R.ReadAt in
    let p = c.in-Some.piece in
    let ty = c.args.self.now.ty in
    let b = begun R.tells R.bytes ty c.args.self.now.piece p c.in-Some.is c.requires.ready in
    let e = c.in-Sample.ensures in
    one_read R.bytes ty p c.next-walked.new.file c.next-walked.new.self c.next-walked.new.line.items c.in-Sample.t read (same_len p.walk c.next-walked.new.self c.next-walked.new.line.items (walked.Sample c.in-Sample.t) (gives_now p.walk.stop _ b.going e.gives)) (e.same tells) (e.skipped tells) (read_of R.bytes ty c.args.self.now.piece p read c.in-Some.is now)

pub returns : goal.returns
returns g c =
    let R = g.R.ReadAt in
    let o = c.args.self.now.piece in
    let p = c.in-Some.piece in
    let q = c.in-Some-take.piece in
    let ty = c.args.self.now.ty in
    let line = c.next-walked.new.line.items in
    let w = c.next-walked.result in
    let r = c.close.result in
    let b = begun R.tells R.bytes ty o p c.in-Some.is c.requires.ready in
    let e = c.next-walked.ensures in
    let gives = gives_now p.walk.stop _ b.going e.gives in
    let taken : q ≡ record { reader = c.next-walked.new.file; name = p.name; walk = c.next-walked.new.self } = same_Some q _ (sym c.in-Some-take.is ∙ c.take.ensures.value) in
    record {
      came = came_stop R.tells R.bytes R.faults ty o c.take.new.self line r (λ t is. closed_line q w r t c.close.ensures is) (λ is. c.take.ensures.after)
          (λ failed is.
          let fault = closed_fault q w r failed c.close.ensures is in
          has_risen R.faults o p c.next-walked.new.file failed c.in-Some.is (fault.1 ∙ ap (λ (x : OpenPiece g.row.R.Denot). Some x.reader) taken) (e.cause fault.0))
          (λ tells name at is.
          let bad = closed_damaged q w r name at c.close.ensures is in
          let front = b.walked tells in
          let W : Walked → Type 0 = λ k. GoesOnFrom front.at front.front (R.bytes p.reader) line k c.next-walked.new.self in
          let G : Walked → Type 0 = λ k. Gives p.walk line k c.next-walked.new.self in
          open_damaged R.bytes ty o p name at c.in-Some.is (bad.1 ∙ ap (λ (x : OpenPiece g.row.R.Denot). x.name) taken)
          (read_bad ty (R.bytes p.reader) line p.walk c.next-walked.new.self b.info at front b.header b.type (subst G bad.0 gives) (subst W bad.0 (e.skipped tells front.at front.front front.skipped))))
          (λ is. closed_spent q w r c.close.ensures is);
      ends = λ is. absurd (none_open o p c.in-Some.is is);
      same = refl;
      lines = λ tells xs now. reads_open R.bytes c.take.new.self xs line r (λ t is. closed_line q w r t c.close.ensures is)
          (λ is.
          let at = goes_on R.bytes o p xs c.in-Some.is now in
          let W : Walked → Type 0 = λ k. GoesOnFrom at.at at.front (R.bytes p.reader) line k c.next-walked.new.self in
          no_line_left R.bytes p c.next-walked.new.self line xs at (same_len p.walk c.next-walked.new.self line w gives) (subst W (closed_end q w r c.close.ensures is) (e.skipped tells at.at at.front at.skipped)));
      reads = λ tells read now. next_none R.bytes ty o c.take.new.self read line r (λ t is. closed_line q w r t c.close.ensures is)
          (λ is.
          let W : Walked → Type 0 = λ k. (at : ℕ) (front : Front) → HasSkipped p.walk (R.bytes p.reader) at front → GoesOnFrom at front (R.bytes p.reader) line k c.next-walked.new.self in
          end_of_open R.bytes ty o p read c.in-Some.is (end_is_read R.bytes ty p c.next-walked.new.self line read (same_len p.walk c.next-walked.new.self line w gives) (subst W (closed_end q w r c.close.ensures is) (e.skipped tells)) (read_of R.bytes ty o p read c.in-Some.is now)));
      counts = e.steps.0;
      one_step = e.steps.1;
      no_step = λ is. e.steps.2 (closed_end q w r c.close.ensures is);
    }
