use Rattle.std.proofs.Common.{◌≡◌, ◌≤◌, ◌<◌, ◌∙◌, ◌+◌, ◌-◌, ◌/◌, ◌*◌, Err, None, Some, Option, IsTrue, inl, inr, List, ℕ, refl, sym, ap, subst, arith, take, drop, length}
use Rattle.std.specs.Prelude.{IfSome}
use Rattle.std.proofs.lemmas.List.{length-take-le}
use Rattle.pb_messages.specs.declared.info.PayloadInfo.{PayloadInfo}
use Rattle.pb_file.specs.declared.search.FoundLine.{FoundLine}
use Rattle.pb_file.specs.declared.search.SearchErr.{SearchErr}
use Rattle.pb_lines.specs.File.{HasNoSample}
use Rattle.pb_file.specs.Skip.{HasHeader}
use Rattle.pb_file.specs.Parting.{BeginsFrom, IsFoundIn}
use Rattle.pb_file.specs.Search.{HasSampleAt, IsLineStart, MayBegin}
use Rattle.pb_file.proofs.Narrowing.{unknown, none_found, none_refused, found_earlier, found_later, parted, halves_again}
use Rattle.pb_file.proofs.Starts.{end_start, from_start, low_begins, low_first, low_start, sample_there, stops_so}
use Rattle.pb_file.proofs.search.halve.Goals as goal

pub halves-init : goal.halves-init
halves-init g c =
    let bytes = g.H.ReadAt.bytes c.args.file.now in
    let all = take c.args.walk.now.len bytes in
    let low = c.min-first.result in
    record {
      len_is = c.len-len.ensures;
      same_len = refl;
      info = refl;
      within = (omega (arith, c.min-first.ensures), omega arith, omega arith);
      last_within = tt;
      same = λ tells. refl;
      faults = omega arith;
      counts = omega arith;
      headed = λ tells head info h. h;
      starts = λ tells head info h. (
        low_start all c.args.head_len c.len-len.result low (c.len-len.ensures ∙ sym (length-take-le c.args.walk.now.len bytes (c.requires.file tells))) (omega (arith, c.min-first.ensures)) (λ less. omega (arith, less, c.min-first.ensures)),
        inr (inl (c.len-len.ensures ∙ sym (length-take-le c.args.walk.now.len bytes (c.requires.file tells)))),
        tt,
      );
      begins = λ tells head info h. (inr (inl (c.len-len.ensures ∙ sym (length-take-le c.args.walk.now.len bytes (c.requires.file tells)))), tt);
      narrowed = λ tells head info samples h file first.
          let size : c.len-len.result ≡ length all = c.len-len.ensures ∙ sym (length-take-le c.args.walk.now.len bytes (c.requires.file tells)) in
          unknown all head info samples (c.args.until + 1) low c.len-len.result file size (low_first all head info samples c.args.head_len c.len-len.result low file size first (λ within. omega (arith, within, c.min-first.ensures)));
      cost = λ d within. (d, omega (arith, within, c.len-len.ensures), omega arith);
    }

pub halves-preserved-in_default : goal.halves-preserved-in_default
halves-preserved-in_default g c =
    let bytes = g.H.ReadAt.bytes c.args.file.now in
    let all = take c.args.walk.now.len bytes in
    let inv = c.halves.invariant in
    let w = c.halves.walk in
    let new = c.find.new.walk in
    let e = c.in-Ok.ensures in
    let low = c.halves.low in
    let high = c.halves.high in
    let middle = low + (high - low) / 2 in
    let half : 2 * (middle - low) ≤ high - low = omega arith in
    let below : middle < high = omega (arith, c.halves-test.true) in
    let within : IsTrue g.H.ReadAt.tells → middle ≤ length all = λ tells. omega (arith, below, inv.within.1, inv.len_is, length-take-le c.args.walk.now.len bytes (c.requires.file tells)) in
    let now : IsTrue g.H.ReadAt.tells → (head : List ℕ) (info : PayloadInfo) → HasHeader c.args.walk.now bytes head info → HasHeader w (g.H.ReadAt.bytes c.halves.file) head info =
    λ tells head info h. (let H : List ℕ → Type 0 = λ b. HasHeader w b head info in subst H (sym (inv.same tells)) (inv.headed tells head info h)) in
    let found : IsTrue g.H.ReadAt.tells → (head : List ℕ) (info : PayloadInfo) → HasHeader c.args.walk.now bytes head info → IsFoundIn info all low middle c.halves.next None =
    λ tells head info h. (
    let P : List ℕ → Type 0 = λ b. IsFoundIn info (take w.len b) low middle c.halves.next c.in-Ok.found in
    let L : ℕ → Type 0 = λ n. IsFoundIn info (take n bytes) low middle c.halves.next c.in-Ok.found in
    let O : Option FoundLine → Type 0 = λ o. IsFoundIn info all low middle c.halves.next o in
    subst O c.in_default.is (subst L inv.same_len (subst P (inv.same tells) (e.found tells head info (now tells head info h))))
    ) in
    record {
      len_is = inv.len_is;
      same_len = e.kept.0 ∙ inv.same_len;
      info = e.kept.1 ∙ inv.info;
      within = (inv.within.0, omega (arith, below, inv.within.1), inv.within.2);
      last_within = inv.last_within;
      same = λ tells. e.same tells ∙ inv.same tells;
      faults = omega (arith, e.faults, inv.faults);
      counts = omega (arith, e.counts, inv.counts);
      headed = λ tells head info h. (let H : List ℕ → Type 0 = λ b. HasHeader new b head info in subst H (inv.same tells) (e.headed tells head info (now tells head info h)));
      starts = λ tells head info h. inv.starts tells head info h;
      begins = inv.begins;
      narrowed = λ tells head info samples h file first. none_found all head info samples (c.args.until + 1) low high middle c.halves.next c.halves.last file (within tells) (inv.narrowed tells head info samples h file first) (found tells head info h);
      cost = λ d most.
          let k = inv.cost d most in
          let again = halves_again k.0 (high - low) (middle - low) k.1 (omega (arith, c.halves-test.true)) half in
          (again.0, again.2, omega (arith, k.2, again.1, e.steps));
    }

pub halves-preserved-then-found-until : goal.halves-preserved-then-found-until
halves-preserved-then-found-until g c =
    let bytes = g.H.ReadAt.bytes c.args.file.now in
    let all = take c.args.walk.now.len bytes in
    let inv = c.halves.invariant in
    let w = c.halves.walk in
    let new = c.find.new.walk in
    let e = c.in-Ok.ensures in
    let low = c.halves.low in
    let high = c.halves.high in
    let middle = low + (high - low) / 2 in
    let half : 2 * (middle - low) ≤ high - low = omega arith in
    let below : middle < high = omega (arith, c.halves-test.true) in
    let f = c.in-Some.found in
    let S : Option FoundLine → Type 0 = λ o. IfSome o (λ x. (middle ≤ x.at) × (x.at < x.end) × (x.end ≤ w.len)) in
    let place = subst S c.in-Some.is e.place in
    let within : IsTrue g.H.ReadAt.tells → middle ≤ length all = λ tells. omega (arith, below, inv.within.1, inv.len_is, length-take-le c.args.walk.now.len bytes (c.requires.file tells)) in
    let now : IsTrue g.H.ReadAt.tells → (head : List ℕ) (info : PayloadInfo) → HasHeader c.args.walk.now bytes head info → HasHeader w (g.H.ReadAt.bytes c.halves.file) head info =
    λ tells head info h. (let H : List ℕ → Type 0 = λ b. HasHeader w b head info in subst H (sym (inv.same tells)) (inv.headed tells head info h)) in
    let found : IsTrue g.H.ReadAt.tells → (head : List ℕ) (info : PayloadInfo) → HasHeader c.args.walk.now bytes head info → IsFoundIn info all low middle c.halves.next (Some c.in-Some.found) =
    λ tells head info h. (
    let P : List ℕ → Type 0 = λ b. IsFoundIn info (take w.len b) low middle c.halves.next c.in-Ok.found in
    let L : ℕ → Type 0 = λ n. IsFoundIn info (take n bytes) low middle c.halves.next c.in-Ok.found in
    let O : Option FoundLine → Type 0 = λ o. IsFoundIn info all low middle c.halves.next o in
    subst O c.in-Some.is (subst L inv.same_len (subst P (inv.same tells) (e.found tells head info (now tells head info h))))
    ) in
    let at_within : IsTrue g.H.ReadAt.tells → f.at ≤ length all = λ tells. omega (arith, place.1, place.2, inv.same_len, length-take-le c.args.walk.now.len bytes (c.requires.file tells)) in
    record {
      len_is = inv.len_is;
      same_len = e.kept.0 ∙ inv.same_len;
      info = e.kept.1 ∙ inv.info;
      within = (omega (arith, place.2, inv.same_len, inv.len_is), inv.within.1, inv.within.2);
      last_within = omega (arith, place.1, place.2, inv.same_len, inv.len_is);
      same = λ tells. e.same tells ∙ inv.same tells;
      faults = omega (arith, e.faults, inv.faults);
      counts = omega (arith, e.counts, inv.counts);
      headed = λ tells head info h. (let H : List ℕ → Type 0 = λ b. HasHeader new b head info in subst H (inv.same tells) (e.headed tells head info (now tells head info h)));
      starts = λ tells head info h. (
        end_start all c.args.head_len info f (at_within tells) (found tells head info h).2,
        (inv.starts tells head info h).1,
        from_start all c.args.head_len low middle f.at (within tells) (inv.starts tells head info h).0 (found tells head info h).0,
      );
      begins = λ tells head info h. ((inv.begins tells head info h).0, sample_there info all f (found tells head info h).2);
      narrowed = λ tells head info samples h file first. found_earlier all head info samples (c.args.until + 1) low high middle c.halves.next c.halves.last f file (within tells) (inv.narrowed tells head info samples h file first) (found tells head info h) (omega (arith, c.if-found-until.true));
      cost = λ d most.
          let k = inv.cost d most in
          let again = halves_again k.0 (high - low) (high - f.end) k.1 (omega (arith, c.halves-test.true)) (omega (arith, half, place.0, place.1)) in
          (again.0, again.2, omega (arith, k.2, again.1, e.steps));
    }

pub halves-preserved : goal.halves-preserved
halves-preserved g c =
    let bytes = g.H.ReadAt.bytes c.args.file.now in
    let all = take c.args.walk.now.len bytes in
    let inv = c.halves.invariant in
    let w = c.halves.walk in
    let new = c.find.new.walk in
    let e = c.in-Ok.ensures in
    let low = c.halves.low in
    let high = c.halves.high in
    let middle = low + (high - low) / 2 in
    let half : 2 * (middle - low) ≤ high - low = omega arith in
    let below : middle < high = omega (arith, c.halves-test.true) in
    let f = c.in-Some.found in
    let S : Option FoundLine → Type 0 = λ o. IfSome o (λ x. (middle ≤ x.at) × (x.at < x.end) × (x.end ≤ w.len)) in
    let place = subst S c.in-Some.is e.place in
    let within : IsTrue g.H.ReadAt.tells → middle ≤ length all = λ tells. omega (arith, below, inv.within.1, inv.len_is, length-take-le c.args.walk.now.len bytes (c.requires.file tells)) in
    let now : IsTrue g.H.ReadAt.tells → (head : List ℕ) (info : PayloadInfo) → HasHeader c.args.walk.now bytes head info → HasHeader w (g.H.ReadAt.bytes c.halves.file) head info =
    λ tells head info h. (let H : List ℕ → Type 0 = λ b. HasHeader w b head info in subst H (sym (inv.same tells)) (inv.headed tells head info h)) in
    let found : IsTrue g.H.ReadAt.tells → (head : List ℕ) (info : PayloadInfo) → HasHeader c.args.walk.now bytes head info → IsFoundIn info all low middle c.halves.next (Some c.in-Some.found) =
    λ tells head info h. (
    let P : List ℕ → Type 0 = λ b. IsFoundIn info (take w.len b) low middle c.halves.next c.in-Ok.found in
    let L : ℕ → Type 0 = λ n. IsFoundIn info (take n bytes) low middle c.halves.next c.in-Ok.found in
    let O : Option FoundLine → Type 0 = λ o. IsFoundIn info all low middle c.halves.next o in
    subst O c.in-Some.is (subst L inv.same_len (subst P (inv.same tells) (e.found tells head info (now tells head info h))))
    ) in
    record {
      len_is = inv.len_is;
      same_len = e.kept.0 ∙ inv.same_len;
      info = e.kept.1 ∙ inv.info;
      within = (inv.within.0, omega (arith, below, inv.within.1), omega (arith, place.1, place.2, inv.same_len, inv.len_is));
      last_within = inv.last_within;
      same = λ tells. e.same tells ∙ inv.same tells;
      faults = omega (arith, e.faults, inv.faults);
      counts = omega (arith, e.counts, inv.counts);
      headed = λ tells head info h. (let H : List ℕ → Type 0 = λ b. HasHeader new b head info in subst H (inv.same tells) (e.headed tells head info (now tells head info h)));
      starts = λ tells head info h. (
        (inv.starts tells head info h).0,
        from_start all c.args.head_len low middle f.at (within tells) (inv.starts tells head info h).0 (found tells head info h).0,
        (inv.starts tells head info h).2,
      );
      begins = λ tells head info h. (inr (inr (sample_there info all f (found tells head info h).2)), (inv.begins tells head info h).1);
      narrowed = λ tells head info samples h file first. found_later all head info samples (c.args.until + 1) low high middle c.halves.next c.halves.last f file (within tells) (inv.narrowed tells head info samples h file first) (found tells head info h) (omega (arith, c.if-found-until.false));
      cost = λ d most.
          let k = inv.cost d most in
          let again = halves_again k.0 (high - low) (middle - low) k.1 (omega (arith, c.halves-test.true)) half in
          (again.0, again.2, omega (arith, k.2, again.1, e.steps));
    }

pub returns-clause-start : goal.returns-clause-start
returns-clause-start g c tells head info h = ((c.halves.invariant.starts tells head info h).1, (c.halves.invariant.starts tells head info h).2)

pub returns-clause-parted : goal.returns-clause-parted
returns-clause-parted g c tells head info samples h file first =
    parted head samples (c.args.until + 1) c.halves.low c.halves.high (record { last = c.halves.last; next = c.halves.next }) c.halves-test.false (c.halves.invariant.narrowed tells head info samples h file first)

pub returns-clause-begins : goal.returns-clause-begins
returns-clause-begins g c tells head info h = c.halves.invariant.begins tells head info h

-- it stopped at a line that is none

pub returns-in-Err-Damaged-clause-start : goal.returns-in-Err-Damaged-clause-start
returns-in-Err-Damaged-clause-start g c tells head info h =
    let bytes = g.H.ReadAt.bytes c.args.file.now in
    let all = take c.args.walk.now.len bytes in
    let L : ℕ → Type 0 = λ n. IsLineStart all c.args.head_len n in
    let size = c.len-len.ensures ∙ sym (length-take-le c.args.walk.now.len bytes (c.requires.file tells)) in
    let here = low_start all c.args.head_len c.len-len.result c.min-first.result size (omega (arith, c.min-first.ensures)) (λ less. omega (arith, less, c.min-first.ensures)) in
    let e = c.stopped.ensures in
    stops_so L L (λ n is. is) c.min-first.result c.halves.last c.stopped.result e.last e.some e.none here (c.halves.invariant.starts tells head info h).2

pub returns-in-Err-Damaged-clause-begins : goal.returns-in-Err-Damaged-clause-begins
returns-in-Err-Damaged-clause-begins g c tells head info h =
    let bytes = g.H.ReadAt.bytes c.args.file.now in
    let all = take c.args.walk.now.len bytes in
    let size = c.len-len.ensures ∙ sym (length-take-le c.args.walk.now.len bytes (c.requires.file tells)) in
    let here = low_begins info all c.args.head_len c.len-len.result c.min-first.result size (omega (arith, c.min-first.ensures)) (λ less. omega (arith, less, c.min-first.ensures)) in
    let e = c.stopped.ensures in
    stops_so (λ n. MayBegin info all c.args.head_len n) (λ n. HasSampleAt info all n) (λ n is. inr (inr is)) c.min-first.result c.halves.last c.stopped.result e.last e.some e.none here (c.halves.invariant.begins tells head info h).1

pub returns-in-Err-Damaged-clause-within : goal.returns-in-Err-Damaged-clause-within
returns-in-Err-Damaged-clause-within g c =
    let len = c.args.walk.now.len in
    let e = c.stopped.ensures in
    let inv = c.halves.invariant in
    stops_so (λ n. n ≤ len) (λ n. n ≤ len) (λ n is. is) c.min-first.result c.halves.last c.stopped.result e.last e.some e.none (omega (arith, c.min-first.ensures, c.len-len.ensures)) (subst (λ (n : ℕ). IfSome c.halves.last (λ at. at ≤ n)) inv.len_is inv.last_within)

pub returns-in-Err-Damaged-clause-parted : goal.returns-in-Err-Damaged-clause-parted
returns-in-Err-Damaged-clause-parted g c tells head info samples h file first =
    let bytes = g.H.ReadAt.bytes c.args.file.now in
    let all = take c.args.walk.now.len bytes in
    let inv = c.halves.invariant in
    let w = c.halves.walk in
    let low = c.halves.low in
    let middle = low + (c.halves.high - low) / 2 in
    let at = c.in-Err-Damaged.field-0-0 in
    let H : List ℕ → Type 0 = λ b. HasHeader w b head info in
    let bad = c.in-Err-Damaged.ensures.refused tells head info (subst H (sym (inv.same tells)) (inv.headed tells head info h)) at (ap (λ (e : SearchErr). Err e) c.in-Err-Damaged.field-0-is) in
    let P : List ℕ → Type 0 = λ b. BeginsFrom (take w.len b) low middle at × HasNoSample info (λ t. Unit {0}) (drop at (take w.len b)) in
    let L : ℕ → Type 0 = λ n. BeginsFrom (take n bytes) low middle at × HasNoSample info (λ t. Unit {0}) (drop at (take n bytes)) in
    let here = subst L inv.same_len (subst P (inv.same tells) bad) in
    absurd (none_refused all head info samples (c.args.until + 1) low c.halves.high middle c.halves.next c.halves.last at file (omega (arith, c.halves-test.true, inv.within.1, inv.len_is, length-take-le c.args.walk.now.len bytes (c.requires.file tells))) (inv.narrowed tells head info samples h file first) here.0 here.1)
