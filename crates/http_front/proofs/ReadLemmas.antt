-- What the bytes that were taken are answered.
use Rattle.std.proofs.Common.{◌≡◌, ℕ, ◌+◌, ◌-◌, ◌<◌, ◌≤◌, List, ◌++◌, Option, Some, None, Result, Ok, Err, length, take, drop, sym, ap, ◌∙◌, subst, inl, inr, arith}
use Rattle.std.specs.Prelude.{◌⊎◌, codes, IfOk, IfSome, IfNone}
use Rattle.std.specs.Io.KnownBytes.{Consumes, ReadConsumes}
use Rattle.std.proofs.KnownBytes.{Consumes-trans}
use Rattle.std.proofs.lemmas.List.{length-take, take-append-le}
use Rattle.std.proofs.Math.Seq.{take-append-add}
use borrow.Rule.Slice.PartMut.{put_mid}
use Rattle.edge_io.specs.declared.stream.Failed.{Failed}
use Rattle.http_front.specs.declared.request.Request.{Request}
use Rattle.http_front.specs.declared.request.HttpErr.{HttpErr}
use Rattle.http_front.specs.declared.request.HttpErr.TheVariants.{SourceFault, BadHead, HeadTooLong, BadMethod, BadPath, BadParameter, Memory}
use Rattle.http_front.specs.declared.reading.Due.{Due}
use Rattle.http_front.specs.declared.reading.Due.TheVariants as due
use Rattle.http_front.specs.Calls.{Answers, CallOf}
use Rattle.http_front.specs.Heads.{BeginsWith, IsUnfinished}
use Rattle.http_front.specs.Reading.{AnswersHead, Judges, ReadsBehind, GoesOn, NoHeadYet}

bad_is_no_fault : (a : Result Request HttpErr) → a ≡ Err BadHead → a ≡ Err SourceFault → ⊥
bad_is_no_fault a p q = cc

long_is_no_fault : (a : Result Request HttpErr) → a ≡ Err HeadTooLong → a ≡ Err SourceFault → ⊥
long_is_no_fault a p q = cc

-- a refusal of the target is one of the request
pub refused : (method target : List ℕ) (minor : ℕ) (e : HttpErr) → method ≡ codes "GET" → CallOf target (Err e) → Answers method target minor (Err e)
refused method target minor SourceFault get h = (get, h)
refused method target minor BadHead get h = (get, h)
refused method target minor HeadTooLong get h = (get, h)
refused method target minor BadMethod get h = absurd h
refused method target minor BadPath get h = (get, h)
refused method target minor (BadParameter which) get h = (get, h)
refused method target minor Memory get h = (get, h)

-- a head is there
pub head_judged : (taken method target : List ℕ) (minor : ℕ) (Ended : Type 0) (a : Result Request HttpErr) → BeginsWith taken method target minor → Answers method target minor a → Judges taken Ended a
head_judged taken method target minor Ended (Ok request) b x = record { method = method; target = target; minor = minor; begins = b; answers = x }
head_judged taken method target minor Ended (Err SourceFault) b x = absurd x.1
head_judged taken method target minor Ended (Err BadHead) b x = absurd x.1
head_judged taken method target minor Ended (Err HeadTooLong) b x = absurd x.1
head_judged taken method target minor Ended (Err BadMethod) b x = record { method = method; target = target; minor = minor; begins = b; answers = x }
head_judged taken method target minor Ended (Err BadPath) b x = record { method = method; target = target; minor = minor; begins = b; answers = x }
head_judged taken method target minor Ended (Err (BadParameter which)) b x = record { method = method; target = target; minor = minor; begins = b; answers = x }
head_judged taken method target minor Ended (Err Memory) b x = tt

-- no head is there, and no more bytes come
pub none_judged : (taken : List ℕ) (why : Due) (a : Result Request HttpErr) → IsUnfinished taken → (why ≡ due.Limit → length taken ≡ 16384) → NoHeadYet why a → Judges taken (why ≡ due.End) a
none_judged taken why a unfinished full (inl e) = subst (Judges taken (why ≡ due.End)) (sym e.1) (inr (unfinished.0, e.0))
none_judged taken why a unfinished full (inr l) = subst (Judges taken (why ≡ due.End)) (sym l.1) (full l.0, unfinished)

pub unfailed : (method target : List ℕ) (minor : ℕ) (a : Result Request HttpErr) → Answers method target minor a → a ≡ Err SourceFault → ⊥
unfailed method target minor a h e = (subst (Answers method target minor) e h).1

pub none_unfailed : (why : Due) (a : Result Request HttpErr) → NoHeadYet why a → a ≡ Err SourceFault → ⊥
none_unfailed why a (inl bad) e = bad_is_no_fault a bad.1 e
none_unfailed why a (inr long) e = long_is_no_fault a long.1 e

-- the same, where there may be no answer yet
pub maybe_judged : (taken : List ℕ) (why : Due) (r : Option (Result Request HttpErr)) → IsUnfinished taken → (why ≡ due.Limit → length taken ≡ 16384) → IfSome r (NoHeadYet why) → IfSome r (Judges taken (why ≡ due.End))
maybe_judged taken why None unfinished full h = tt
maybe_judged taken why (Some a) unfinished full h = none_judged taken why a unfinished full h

pub maybe_unfailed : (why : Due) (r : Option (Result Request HttpErr)) → IfSome r (NoHeadYet why) → IfSome r (λ (a : Result Request HttpErr). a ≡ Err SourceFault → ⊥)
maybe_unfailed why None h = tt
maybe_unfailed why (Some a) h = none_unfailed why a h

bad_is_no_want : (a : Result Request HttpErr) → a ≡ Err BadHead → a ≡ Err Memory → ⊥
bad_is_no_want a p q = cc

long_is_no_want : (a : Result Request HttpErr) → a ≡ Err HeadTooLong → a ≡ Err Memory → ⊥
long_is_no_want a p q = cc

none_wanting : (why : Due) (a : Result Request HttpErr) → NoHeadYet why a → a ≡ Err Memory → ⊥
none_wanting why a (inl bad) e = bad_is_no_want a bad.1 e
none_wanting why a (inr long) e = long_is_no_want a long.1 e

-- memory doesn't run out where no head is there
pub maybe_wanting : (taken : List ℕ) (why : Due) (r : Option (Result Request HttpErr)) → IfSome r (NoHeadYet why) → IfSome r (λ (a : Result Request HttpErr). a ≡ Err Memory → AnswersHead taken a)
maybe_wanting taken why None h = tt
maybe_wanting taken why (Some a) h = λ e. absurd (none_wanting why a h e)

goes_on : (taken : List ℕ) (why : Due) → IsUnfinished taken → (why ≡ due.Nothing) ⊎ (why ≡ due.Look) → GoesOn why taken
goes_on taken why unfinished (inl is) = subst (λ (w : Due). GoesOn w taken) (sym is) tt
goes_on taken why unfinished (inr is) = subst (λ (w : Due). GoesOn w taken) (sym is) unfinished

pub maybe_on : (taken : List ℕ) (why : Due) (r : Option (Result Request HttpErr)) → IsUnfinished taken → IfNone r ((why ≡ due.Nothing) ⊎ (why ≡ due.Look)) → IfNone r (GoesOn why taken)
maybe_on taken why None unfinished h = goes_on taken why unfinished h
maybe_on taken why (Some a) unfinished h = tt

-- the parts by other names
pub begins_so : (taken method target method' target' : List ℕ) (minor : ℕ) → method' ≡ method → target' ≡ target → BeginsWith taken method target minor → BeginsWith taken method' target' minor
begins_so taken method target method' target' minor p q b = record { head = b.head; rest = b.rest; reads = b.reads; method_is = p ∙ b.method_is; target_is = q ∙ b.target_is; minor_is = b.minor_is }

-- another word for the end
pub judged_so : (taken : List ℕ) (P Q : Type 0) (a : Result Request HttpErr) → (P → Q) → Judges taken P a → Judges taken Q a
judged_so taken P Q (Ok request) f x = x
judged_so taken P Q (Err SourceFault) f x = x
judged_so taken P Q (Err BadHead) f (inl never) = inl never
judged_so taken P Q (Err BadHead) f (inr cut) = inr (cut.0, f cut.1)
judged_so taken P Q (Err HeadTooLong) f x = x
judged_so taken P Q (Err BadMethod) f x = x
judged_so taken P Q (Err BadPath) f x = x
judged_so taken P Q (Err (BadParameter which)) f x = x
judged_so taken P Q (Err Memory) f x = x

-- a read behind the first bytes
pub reads_behind : (old new : List ℕ) (len : ℕ) (before after : Option (List ℕ)) (r : Result ℕ Failed) → len < length old → length new ≡ length old - len → IfOk r (λ n. n ≤ length new) → ReadConsumes before after r new → ReadsBehind old (put_mid len (length old - len) old new) len before after r
reads_behind old new len before after (Ok more) within size bound h =
    let front = take len old in
    let post = new ++ drop (length old - len) (drop len old) in
    let counted : len + more ≡ length front + more = omega (arith, length-take len old) in
    let cut : take (len + more) (front ++ post) ≡ front ++ take more post = ap (λ (n : ℕ). take n (front ++ post)) counted ∙ take-append-add front post more in
    let chunk : take more post ≡ take more new = take-append-le more new (drop (length old - len) (drop len old)) bound in
    (take more new, cut ∙ ap (λ (v : List ℕ). front ++ v) chunk, h.0, λ none. h.1 none (omega arith))
reads_behind old new len before after (Err e) within size bound h = h

-- what was taken before, and then more
pub taken_more : (first mid last : Option (List ℕ)) (old new chunk : List ℕ) (len more : ℕ) → Consumes first mid (take len old) → take (len + more) new ≡ take len old ++ chunk → Consumes mid last chunk → Consumes first last (take (len + more) new)
taken_more first mid last old new chunk len more p e q = rw e (Consumes-trans first mid last (take len old) chunk p q)
