-- What a feed was replied so far: the lines for the chunks that ended.
use Rattle.std.proofs.Common.{◌≡◌, inl, inr, ◌∙◌, ap, sym, refl, subst, arith, ℕ, ◌+◌, List, [], ◌∷◌, ◌++◌, append_assoc, append-nil, Option, take}
use Rattle.std.specs.Prelude.{IfSome, false}
use Rattle.std.specs.Io.KnownBytes.{Appends}
use Rattle.std.proofs.KnownBytes.{Appends-nil}
use Rattle.std.proofs.Math.Seq.{take-nil}
use Rattle.edge_io.specs.Moments.{Moments}
use Rattle.edge_io.specs.Stream.{AppendsFront}
use Rattle.edge_io.proofs.Writes.{appends_more, front_more}
use Rattle.pb_messages.specs.declared.info.PayloadInfo.{PayloadInfo}
use Rattle.pb_lines.specs.Stream.{Item, header, sample, chunk_end}
use Rattle.pb_lines.specs.Reader.{Chunks, IsFresh, to_come}
use Rattle.series_model.specs.declared.sample.Sample.{Sample}
use Rattle.act_model.specs.History.{Done, Entry}
use Rattle.feed_session.specs.Asking.{both, cut_by, none, tally_of}
use Rattle.feed_session.specs.Replies.{CutsOff, Tells, acts_in, in_chunk, last_line, lines_of, ok_text, reply_to}
use Rattle.feed_session.specs.Session.{BeginsWith, CountsAll, EndsIn, ReadsOf, TakenItem}
use Rattle.feed_session.specs.declared.end.Fed.{Fed}
use Rattle.feed_session.specs.declared.end.Fed.TheVariants as fed
use Rattle.feed_session.specs.declared.replies.Cut.{Cut}
use Rattle.feed_session.specs.declared.replies.Cut.TheVariants as cut
use Rattle.feed_session.specs.declared.tally.OfferCounts.{OfferCounts}
use Rattle.feed_session.proofs.Going.{Progress, Takes, goes_on, starts, taken_as}
use Rattle.feed_session.proofs.Making.{both_none, tally_on}

-- TALLIES

tally_is : (x y : OfferCounts) → x.kept ≡ y.kept → x.held ≡ y.held → x.dropped ≡ y.dropped → x ≡ y
tally_is x y a b c =
    ap (λ (n : ℕ). record { kept = n; held = x.held; dropped = x.dropped }) a
    ∙ (ap (λ (n : ℕ). record { kept = y.kept; held = n; dropped = x.dropped }) b ∙ ap (λ (n : ℕ). record { kept = y.kept; held = y.held; dropped = n }) c)

both_both : (a b c : OfferCounts) → both (both a b) c ≡ both a (both b c)
both_both a b c = tally_is (both (both a b) c) (both a (both b c)) (omega arith) (omega arith) (omega arith)

-- what was counted since then is one number
pub same_since : (a x y t : OfferCounts) → both a x ≡ t → both a y ≡ t → x ≡ y
same_since a x y t p q =
    let same = p ∙ sym q in
    tally_is x y (omega (arith, ap (λ (b : OfferCounts). b.kept) same)) (omega (arith, ap (λ (b : OfferCounts). b.held) same)) (omega (arith, ap (λ (b : OfferCounts). b.dropped) same))

-- ONE ITEM MORE

pub chunk_acts_on : (chunk : List Done) (ts : List TakenItem) (t : TakenItem) → acts_in chunk (ts ++ t ∷ []) ≡ in_chunk (acts_in chunk ts) t
chunk_acts_on chunk [] t = refl
chunk_acts_on chunk (x ∷ ts) t = chunk_acts_on (in_chunk chunk x) ts t

pub lines_on : (chunk : List Done) (ts : List TakenItem) (t : TakenItem) → lines_of chunk (ts ++ t ∷ []) ≡ lines_of chunk ts ++ reply_to (acts_in chunk ts) t.item
lines_on chunk [] t = append-nil (reply_to chunk t.item)
lines_on chunk (x ∷ ts) t = ap (λ (l : List ℕ). reply_to chunk x.item ++ l) (lines_on (in_chunk chunk x) ts t) ∙ sym (append_assoc (reply_to chunk x.item) (lines_of (in_chunk chunk x) ts) (reply_to (acts_in (in_chunk chunk x) ts) t.item))

-- how far a feed has come
pub record Telling {A : Type 0} (number : A → ℕ) (between : A → List Entry → A → Type 0) (first reader : Chunks) (before middle : Option (List ℕ)) (clock clock' : Option Moments) (start now : A) (tally begun : OfferCounts) (written written' : Option (List ℕ)) : Type 0 where
  pub so : Progress number between false first reader before middle clock clock' start now tally
  pub since : both begun (tally_of (acts_in [] so.taken)) ≡ tally
  pub told : Appends written written' (lines_of [] so.taken)

module _ {A : Type 0} (number : A → ℕ) (between : A → List Entry → A → Type 0) where
  pub tells_first : ((a : A) → between a [] a) → (reader : Chunks) (left : Option (List ℕ)) (clock : Option Moments) (start : A) (tally : OfferCounts) (written : Option (List ℕ)) → IsFresh reader → tally ≡ none → Telling number between reader reader left (to_come reader left) clock clock start start tally tally written written
  tells_first nothing reader left clock start tally written fresh is = record {
    so = starts number between nothing false reader left clock start tally fresh is;
    since = both_none tally;
    told = Appends-nil written;
  }

  module _ (joined : (a b c : A) (xs ys : List Entry) → between a xs b → between b ys c → between a (xs ++ ys) c)
      (number_stays : (a b : A) (entries : List Entry) → between a entries b → number b ≡ number a) where
    pub tells_header : {first mid new : Chunks} {before middle after : Option (List ℕ)} {clock clock' clock'' : Option Moments} {start now next : A} {tally tally' begun : OfferCounts} {written written' : Option (List ℕ)} {info : PayloadInfo} {line : List ℕ} → Telling number between first mid before middle clock clock' start now tally begun written written' → Takes number between false mid new middle after clock' clock'' now next tally tally' (header info line) → Telling number between first new before after clock clock'' start next tally' tally' written written'
    tells_header {tally' = tally'} {written = written} {written' = written'} {info = info} {line = line} p q =
        let t = taken_as (header info line) q.moments q.done in
        record {
          so = goes_on number between joined number_stays p.so q;
          since = ap (λ (l : List Done). both tally' (tally_of l)) (chunk_acts_on [] p.so.taken t) ∙ both_none tally';
          told = subst (λ (l : List ℕ). Appends written written' l) (sym (lines_on [] p.so.taken t ∙ append-nil (lines_of [] p.so.taken))) p.told;
        }

    pub tells_sample : {first mid new : Chunks} {before middle after : Option (List ℕ)} {clock clock' clock'' : Option Moments} {start now next : A} {tally tally' begun : OfferCounts} {written written' : Option (List ℕ)} {x : Sample} → Telling number between first mid before middle clock clock' start now tally begun written written' → Takes number between false mid new middle after clock' clock'' now next tally tally' (sample x) → Telling number between first new before after clock clock'' start next tally' begun written written'
    tells_sample {tally' = tally'} {begun = begun} {written = written} {written' = written'} {x = x} p q =
        let t = taken_as (sample x) q.moments q.done in
        let chunk = acts_in [] p.so.taken in
        record {
          so = goes_on number between joined number_stays p.so q;
          since = ap (λ (l : List Done). both begun (tally_of l)) (chunk_acts_on [] p.so.taken t)
              ∙ (ap (λ (b : OfferCounts). both begun b) (tally_on chunk q.done) ∙ (sym (both_both begun (tally_of chunk) (tally_of q.done)) ∙ (ap (λ (b : OfferCounts). both b (tally_of q.done)) p.since ∙ sym q.counted)));
          told = subst (λ (l : List ℕ). Appends written written' l) (sym (lines_on [] p.so.taken t ∙ append-nil (lines_of [] p.so.taken))) p.told;
        }

    pub tells_chunk_end : {first mid new : Chunks} {before middle after : Option (List ℕ)} {clock clock' clock'' : Option Moments} {start now next : A} {tally begun : OfferCounts} {written written' written'' : Option (List ℕ)} (chunk : OfferCounts) → Telling number between first mid before middle clock clock' start now tally begun written written' → Takes number between false mid new middle after clock' clock'' now next tally tally chunk_end → both begun chunk ≡ tally → Appends written' written'' (ok_text chunk) → Telling number between first new before after clock clock'' start next tally begun written written''
    tells_chunk_end {tally = tally} {begun = begun} {written = written} {written' = written'} {written'' = written''} chunk p q counted out =
        let t = taken_as chunk_end q.moments q.done in
        let same : chunk ≡ tally_of (acts_in [] p.so.taken) = same_since begun chunk (tally_of (acts_in [] p.so.taken)) tally counted p.since in
        record {
          so = goes_on number between joined number_stays p.so q;
          since = ap (λ (l : List Done). both begun (tally_of l)) (chunk_acts_on [] p.so.taken t) ∙ p.since;
          told = subst (λ (l : List ℕ). Appends written written'' l) (sym (lines_on [] p.so.taken t))
              (appends_more written written' written'' (lines_of [] p.so.taken) (ok_text (tally_of (acts_in [] p.so.taken))) p.told (subst (λ (c : OfferCounts). Appends written' written'' (ok_text c)) same out));
        }

-- HOW IT ENDS

-- A line was cut off.
pub told_front : (written written' written'' : Option (List ℕ)) (end : Fed) (ts : List TakenItem) (t : TakenItem) (chunk begun tally : OfferCounts) → t.item ≡ chunk_end → both begun chunk ≡ tally → both begun (tally_of (acts_in [] ts)) ≡ tally → CutsOff end → Appends written written' (lines_of [] ts) → AppendsFront written' written'' (ok_text chunk) → Tells end (lines_of [] (ts ++ t ∷ [])) end written written''
told_front written written' written'' end ts t chunk begun tally is counted since cuts out front =
    let same : chunk ≡ tally_of (acts_in [] ts) = same_since begun chunk (tally_of (acts_in [] ts)) tally counted since in
    let line : reply_to (acts_in [] ts) t.item ≡ ok_text chunk = ap (λ (i : Item). reply_to (acts_in [] ts) i) is ∙ ap ok_text (sym same) in
    let all : lines_of [] (ts ++ t ∷ []) ≡ lines_of [] ts ++ ok_text chunk = lines_on [] ts t ∙ ap (λ (l : List ℕ). lines_of [] ts ++ l) line in
    inr (cuts, subst (λ (l : List ℕ). AppendsFront written written'' l) (sym all) (front_more written written' written'' (lines_of [] ts) (ok_text chunk) out front))

-- where a text was cut off nothing follows it
cut_last : (end : Fed) → CutsOff end → last_line end ≡ []
cut_last fed.PeerFault cuts = refl
cut_last fed.Memory cuts = refl
cut_last (fed.Fed kept held dropped) cuts = absurd cuts
cut_last (fed.Refused line fault) cuts = absurd cuts
cut_last fed.DiskFault cuts = absurd cuts
cut_last fed.Spent cuts = absurd cuts

front_nothing : (b c : Option (List ℕ)) → AppendsFront b c [] → Appends b c []
front_nothing b c (n, bound, out) = subst (λ (l : List ℕ). Appends b c l) (take-nil n) out

front_stays : (a b c : Option (List ℕ)) (text : List ℕ) → AppendsFront a b text → Appends b c [] → AppendsFront a c text
front_stays a b c text (n, bound, out) none = (n, bound, subst (λ (l : List ℕ). Appends a c l) (append-nil (take n text)) (appends_more a b c (take n text) [] out none))

-- the lines for chunks, and then the last line
pub told_last : (a b c : Option (List ℕ)) (lines : List ℕ) (end result : Fed) → Tells end lines end a b → Tells end (last_line end) result b c → Tells end (lines ++ last_line end) result a c
told_last a b c lines end result (inl first) (inl last) = inl (last.0, appends_more a b c lines (last_line end) first.1 last.1)
told_last a b c lines end result (inl first) (inr last) = inr (last.0, front_more a b c lines (last_line end) first.1 last.1)
told_last a b c lines end result (inr first) last = inr (still last, subst (λ (l : List ℕ). AppendsFront a c l) (sym all) (stays last))
  where
    all : lines ++ last_line end ≡ lines
    all = ap (λ (l : List ℕ). lines ++ l) (cut_last end first.0) ∙ append-nil lines

    still : Tells end (last_line end) result b c → CutsOff result
    still (inl l) = subst CutsOff (sym l.0) first.0
    still (inr l) = l.0

    nothing : Tells end (last_line end) result b c → Appends b c []
    nothing (inl l) = subst (λ (t : List ℕ). Appends b c t) (cut_last end first.0) l.1
    nothing (inr l) = front_nothing b c (subst (λ (t : List ℕ). AppendsFront b c t) (cut_last end first.0) l.1)

    stays : Tells end (last_line end) result b c → AppendsFront a c lines
    stays l = front_stays a b c lines first.1 (nothing l)

-- A REPLY THAT WAS CUT OFF

pub cut_cuts : (c : Cut) → CutsOff (cut_by c)
cut_cuts cut.Peer = tt
cut_cuts cut.Memory = tt

pub cut_ends : (c : Cut) → EndsIn (cut_by c) [] []
cut_ends cut.Peer = (refl, refl)
cut_ends cut.Memory = inl tt

pub cut_reads : (c : Cut) (source : Option (List ℕ)) (items : List Item) → IfSome source (λ bytes. BeginsWith bytes items) → ReadsOf (cut_by c) source items
cut_reads cut.Peer source items some = some
cut_reads cut.Memory source items some = some

pub cut_counts : (c : Cut) (done : List Done) → CountsAll (cut_by c) done
cut_counts cut.Peer done = tt
cut_counts cut.Memory done = tt
