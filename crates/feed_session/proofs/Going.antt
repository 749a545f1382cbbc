-- How far a session has come.
use Rattle.std.proofs.Common.{◌≡◌, ◌⊎◌, inl, inr, ◌∙◌, ap, sym, refl, subst, arith, ℕ, List, [], ◌∷◌, ◌++◌, append-nil, Option, Some, None, Result, Ok, Err}
use Rattle.std.specs.Prelude.{Bool, IfSome, OnOk, true}
use Rattle.std.specs.List.{flat_map}
use Rattle.std.proofs.lemmas.List.{map-append}
use Rattle.std.proofs.lemmas.Grind.{flat_map-append}
use Rattle.edge_io.specs.Moments.{Moments, Gives}
use Rattle.edge_io.proofs.Clocks.{gives_on}
use Rattle.pb_messages.specs.declared.info.PayloadInfo.{PayloadInfo}
use Rattle.pb_lines.specs.Stream.{Item, header}
use Rattle.pb_lines.specs.Reader.{Chunks, IsFresh, Passes, to_come}
use Rattle.act_model.specs.declared.acts.Act.{Act}
use Rattle.act_model.specs.History.{Done, Entry, Made}
use Rattle.act_model.proofs.Histories.{made_joined, made_nothing}
use Rattle.feed_session.specs.Asks.{AreMade, AsksFor, NoneFails, chunk_behind, flush_all}
use Rattle.feed_session.specs.Asking.{Asking, Closes, Registers, StopsIn, both, end_by, none, tally_of}
use Rattle.feed_session.specs.Session.{AreTaken, AsksLast, BeginsWith, CountsAll, EndsSession, EndsIn, IsFlushed, IsTaken, ReadsOf, TakenItem, acts_of, chunk_after, items_of, moments_of}
use Rattle.feed_session.specs.declared.asking.SessionStop.{SessionStop}
use Rattle.feed_session.specs.declared.asking.SessionStop.TheVariants as stopped
use Rattle.feed_session.specs.declared.end.Fed.{Fed}
use Rattle.feed_session.specs.declared.end.Fed.TheVariants as fed
use Rattle.feed_session.specs.declared.tally.OfferCounts.{OfferCounts}
use Rattle.feed_session.proofs.Making.{both_none, tally_on}
use Rattle.feed_session.proofs.Reading.{none_read, read_nothing}
use Rattle.pb_lines.proofs.Passing.{passes_join}

pub gives_nothing : (a : Option Moments) → Gives a a []
gives_nothing None = tt
gives_nothing (Some a) = (tt, λ k. ap a (omega arith))

-- ONE ITEM MORE

pub taken_on : (registers : Bool) (chunk : Option PayloadInfo) (ts : List TakenItem) (t : TakenItem) → AreTaken registers chunk ts → IsTaken registers (chunk_after chunk ts) t → AreTaken registers chunk (ts ++ t ∷ [])
taken_on registers chunk [] t p q = (q, tt)
taken_on registers chunk (x ∷ ts) t p q = (p.0, taken_on registers (chunk_behind chunk x.item) ts t p.1 q)

pub chunk_on : (chunk : Option PayloadInfo) (ts : List TakenItem) (t : TakenItem) → chunk_after chunk (ts ++ t ∷ []) ≡ chunk_behind (chunk_after chunk ts) t.item
chunk_on chunk [] t = refl
chunk_on chunk (x ∷ ts) t = chunk_on (chunk_behind chunk x.item) ts t

pub items_on : (ts : List TakenItem) (t : TakenItem) → items_of (ts ++ t ∷ []) ≡ items_of ts ++ t.item ∷ []
items_on ts t = map-append (λ (x : TakenItem). x.item) ts (t ∷ [])

pub moments_on : (ts : List TakenItem) (t : TakenItem) → moments_of (ts ++ t ∷ []) ≡ moments_of ts ++ t.moments
moments_on ts t = flat_map-append (λ (x : TakenItem). x.moments) ts (t ∷ []) ∙ ap (λ (l : List ℕ). moments_of ts ++ l) (append-nil t.moments)

pub acts_on : (ts : List TakenItem) (t : TakenItem) → acts_of (ts ++ t ∷ []) ≡ acts_of ts ++ t.done
acts_on ts t = flat_map-append (λ (x : TakenItem). x.done) ts (t ∷ []) ∙ ap (λ (l : List Done). acts_of ts ++ l) (append-nil t.done)

-- The items that were read were taken, each with its moments and its acts, and their samples are counted.
pub record Progress {A : Type 0} (number : A → ℕ) (between : A → List Entry → A → Type 0) (registers : Bool) (first reader : Chunks) (before middle : Option (List ℕ)) (clock clock' : Option Moments) (start now : A) (tally : OfferCounts) : Type 0 where
  pub taken : List TakenItem
  pub are : AreTaken registers None taken
  pub inside : chunk_after None taken ≡ reader.section.chunk
  pub passed : Passes first reader before middle (items_of taken)
  pub at : Gives clock clock' (moments_of taken)
  pub made : Made number between start (acts_of taken) now
  pub counted : tally ≡ tally_of (acts_of taken)

-- one item was taken
pub record Takes {A : Type 0} (number : A → ℕ) (between : A → List Entry → A → Type 0) (registers : Bool) (mid new : Chunks) (middle after : Option (List ℕ)) (clock clock' : Option Moments) (now next : A) (tally tally' : OfferCounts) (item : Item) : Type 0 where
  pub moments : List ℕ
  pub asked : List Act
  pub done : List Done
  pub asks : AsksFor registers mid.section.chunk item moments asked
  pub are : AreMade asked done []
  pub well : NoneFails done
  pub inside : new.section.chunk ≡ chunk_behind mid.section.chunk item
  pub passed : Passes mid new middle after (item ∷ [])
  pub at : Gives clock clock' moments
  pub made : Made number between now done next
  pub counted : tally' ≡ both tally (tally_of done)

abbrev pub taken_as : Item → List ℕ → List Done → TakenItem
taken_as item moments done = record { item = item; moments = moments; done = done }

module _ {A : Type 0} (number : A → ℕ) (between : A → List Entry → A → Type 0) where
  abbrev pub starts : ((a : A) → between a [] a) → (registers : Bool) (reader : Chunks) (left : Option (List ℕ)) (clock : Option Moments) (start : A) (tally : OfferCounts) → IsFresh reader → tally ≡ none → Progress number between registers reader reader left (to_come reader left) clock clock start start tally
  starts nothing registers reader left clock start tally fresh is = record {
    taken = [];
    are = tt;
    inside = sym (ap (λ (r : Chunks). r.section.chunk) fresh);
    passed = read_nothing reader left fresh;
    at = gives_nothing clock;
    made = made_nothing number between nothing start;
    counted = is;
  }

  module _ (joined : (a b c : A) (xs ys : List Entry) → between a xs b → between b ys c → between a (xs ++ ys) c)
      (number_stays : (a b : A) (entries : List Entry) → between a entries b → number b ≡ number a) where
    abbrev pub goes_on : {registers : Bool} {first mid new : Chunks} {before middle after : Option (List ℕ)} {clock clock' clock'' : Option Moments} {start now next : A} {tally tally' : OfferCounts} {item : Item} → Progress number between registers first mid before middle clock clock' start now tally → Takes number between registers mid new middle after clock' clock'' now next tally tally' item → Progress number between registers first new before after clock clock'' start next tally'
    goes_on {registers} {first} {mid} {new} {before} {middle} {after} {clock} {clock'} {clock''} {start} {now} {next} {tally} {tally'} {item} p q =
        let t = taken_as item q.moments q.done in
        record {
          taken = p.taken ++ t ∷ [];
          are = taken_on registers None p.taken t p.are (record { asked = q.asked; asks = subst (λ (c : Option PayloadInfo). AsksFor registers c item q.moments q.asked) (sym p.inside) q.asks; made = q.are; well = q.well });
          inside = chunk_on None p.taken t ∙ (ap (λ (c : Option PayloadInfo). chunk_behind c item) p.inside ∙ sym q.inside);
          passed = subst (λ (l : List Item). Passes first new before after l) (sym (items_on p.taken t)) (passes_join first mid new before middle after (items_of p.taken) (item ∷ []) p.passed q.passed);
          at = subst (λ (l : List ℕ). Gives clock clock'' l) (sym (moments_on p.taken t)) (gives_on clock clock' clock'' (moments_of p.taken) q.moments p.at q.at);
          made = subst (λ (l : List Done). Made number between start l next) (sym (acts_on p.taken t)) (made_joined number between joined number_stays start now next (acts_of p.taken) q.done p.made q.made);
          counted = q.counted ∙ (ap (λ (x : OfferCounts). both x (tally_of q.done)) p.counted ∙ (sym (tally_on (acts_of p.taken) q.done) ∙ ap tally_of (sym (acts_on p.taken t))));
        }

    -- the session stopped within what was begun last
    pub stops : {registers : Bool} {first mid : Chunks} {before middle : Option (List ℕ)} {clock clock' clock'' : Option Moments} {start now next : A} {tally : OfferCounts} (p : Progress number between registers first mid before middle clock clock' start now tally) (end : Fed) (begun : List Item) (moments : List ℕ) (asked : List Act) (done : List Done) (left : List Act) → AsksLast registers mid.section.chunk begun moments asked → AreMade asked done left → EndsIn end begun done → ReadsOf end before (items_of p.taken ++ begun) → Gives clock' clock'' moments → Made number between now done next → CountsAll end (acts_of p.taken) → EndsSession number between registers end p.taken start next before clock clock''
    stops {registers} {clock = clock} {clock' = clock'} {clock'' = clock''} {start = start} {now = now} {next = next} p end begun moments asked done left asks are ends reads at made counts = record {
      mine = acts_of p.taken ++ done;
      session = record {
        begun = begun;
        moments = moments;
        asked = asked;
        last = done;
        left = left;
        items = p.are;
        asks = subst (λ (c : Option PayloadInfo). AsksLast registers c begun moments asked) (sym p.inside) asks;
        made = are;
        ends = ends;
        reads = reads;
        at = gives_on clock clock' clock'' (moments_of p.taken) moments p.at at;
        all = refl;
        counts = counts;
      };
      made = made_joined number between joined number_stays start now next (acts_of p.taken) done p.made made;
    }

-- ITEMS, AND WHAT WAS MADE OF THEM

pub begins_all : (source : Option (List ℕ)) (items : List Item) → IfSome source (λ bytes. BeginsWith bytes items) → IfSome source (λ bytes. BeginsWith bytes (items ++ []))
begins_all source items some = subst (λ (l : List Item). IfSome source (λ bytes. BeginsWith bytes l)) (sym (append-nil items)) some

pub ok_then : {X E : Type 0} (r : Result X E) (x : X) (P : Type 0) → r ≡ Ok x → OnOk r P → P
ok_then (Ok y) x P is h = h
ok_then (Err e) x P is h = cc

pub not_both : {X E : Type 0} {P : Type 0} (r : Result X E) (x : X) (e : E) → r ≡ Ok x → r ≡ Err e → P
not_both (Ok y) x e is other = absurd (cc)
not_both (Err f) x e is other = absurd (cc)

same_err : {X E : Type 0} (r : Result X E) (e f : E) → r ≡ Err e → r ≡ Err f → e ≡ f
same_err r e f is other = let both : ◌≡◌ {A = Result _ _} (Err e) (Err f) = sym is ∙ other in cc

abbrev pub Answer : Type 0
Answer = Result (Unit {0}) SessionStop

module _ {A : Type 0} (number : A → ℕ) (between : A → List Entry → A → Type 0) where
  -- all that the item asks for was made
  pub taken_of : {registers : Bool} {mid new : Chunks} {middle after : Option (List ℕ)} {clock clock' : Option Moments} {now next : A} {tally tally' : OfferCounts} {item : Item} (moments : List ℕ) (asked : List Act) (Are : Unit {0} → List Done → Type 0) (result : Answer) (x : Unit {0}) → result ≡ Ok x → AsksFor registers mid.section.chunk item moments asked → Asking number between now asked Are result next → ((done : List Done) → Are x done → tally' ≡ both tally (tally_of done)) → new.section.chunk ≡ chunk_behind mid.section.chunk item → Passes mid new middle after (item ∷ []) → Gives clock clock' moments → Takes number between registers mid new middle after clock clock' now next tally tally' item
  taken_of {now = now} {next = next} {tally = tally} {tally' = tally'} moments asked Are result x is asks a counts inside passed at =
      let b : Asking number between now asked Are (Ok x) next = subst (λ (r : Answer). Asking number between now asked Are r next) is a in
      record {
        moments = moments;
        asked = asked;
        done = b.done;
        asks = asks;
        are = subst (λ (l : List Act). AreMade asked b.done l) b.ends.0 b.are;
        well = b.ends.1;
        inside = inside;
        passed = passed;
        at = at;
        made = b.made;
        counted = counts b.done b.ends.2;
      }

  -- an item that asks for nothing
  pub taken_idle : ((a : A) → between a [] a) → {registers : Bool} {mid new : Chunks} {middle after : Option (List ℕ)} {clock : Option Moments} {now : A} {tally tally' : OfferCounts} {item : Item} → AsksFor registers mid.section.chunk item [] [] → tally' ≡ tally → new.section.chunk ≡ chunk_behind mid.section.chunk item → Passes mid new middle after (item ∷ []) → Takes number between registers mid new middle after clock clock now now tally tally' item
  taken_idle nothing {clock = clock} {now = now} {tally = tally} asks same inside passed = record {
    moments = [];
    asked = [];
    done = [];
    asks = asks;
    are = refl;
    well = tt;
    inside = inside;
    passed = passed;
    at = gives_nothing clock;
    made = made_nothing number between nothing now;
    counted = same ∙ sym (both_none tally);
  }

  module _ (joined : (a b c : A) (xs ys : List Entry) → between a xs b → between b ys c → between a (xs ++ ys) c)
      (number_stays : (a b : A) (entries : List Entry) → between a entries b → number b ≡ number a) where
    stopped_ends : (s : SessionStop) (begun : List Item) (done : List Done) → StopsIn s done → EndsIn (end_by s) begun done
    stopped_ends stopped.DiskFault begun done stops = stops
    stopped_ends stopped.Spent begun done stops = stops
    stopped_ends stopped.Memory begun done stops = stops

    stopped_reads : (s : SessionStop) (source : Option (List ℕ)) (items : List Item) → IfSome source (λ bytes. BeginsWith bytes items) → ReadsOf (end_by s) source items
    stopped_reads stopped.DiskFault source items some = some
    stopped_reads stopped.Spent source items some = some
    stopped_reads stopped.Memory source items some = some

    stopped_counts : (s : SessionStop) (done : List Done) → CountsAll (end_by s) done
    stopped_counts stopped.DiskFault done = tt
    stopped_counts stopped.Spent done = tt
    stopped_counts stopped.Memory done = tt

    no_more : (registers : Bool) (chunk : Option PayloadInfo) → AsksLast registers chunk [] [] []
    no_more registers chunk = (refl, inl refl)

    -- it stopped at an item
    pub stopped_at : {registers : Bool} {first mid : Chunks} {before middle : Option (List ℕ)} {clock clock' clock'' : Option Moments} {start now next : A} {tally : OfferCounts} (p : Progress number between registers first mid before middle clock clock' start now tally) (item : Item) (moments : List ℕ) (asked : List Act) (Are : Unit {0} → List Done → Type 0) (result : Answer) (s : SessionStop) → result ≡ Err s → AsksFor registers mid.section.chunk item moments asked → Asking number between now asked Are result next → IfSome before (λ bytes. BeginsWith bytes (items_of p.taken ++ item ∷ [])) → Gives clock' clock'' moments → EndsSession number between registers (end_by s) p.taken start next before clock clock''
    stopped_at {before = before} {now = now} {next = next} p item moments asked Are result s is asks a some at =
        let b : Asking number between now asked Are (Err s) next = subst (λ (r : Answer). Asking number between now asked Are r next) is a in
        stops number between joined number_stays p (end_by s) (item ∷ []) moments asked b.done b.left asks b.are (stopped_ends s (item ∷ []) b.done b.ends) (stopped_reads s before (items_of p.taken ++ item ∷ []) some) at b.made (stopped_counts s (acts_of p.taken))

    -- it stopped between two items
    pub stopped_idle : ((a : A) → between a [] a) → {registers : Bool} {first mid : Chunks} {before middle : Option (List ℕ)} {clock clock' : Option Moments} {start now : A} {tally : OfferCounts} (p : Progress number between registers first mid before middle clock clock' start now tally) (end : Fed) → EndsIn end [] [] → ReadsOf end before (items_of p.taken ++ []) → CountsAll end (acts_of p.taken) → EndsSession number between registers end p.taken start now before clock clock'
    stopped_idle nothing {registers} {mid = mid} {clock' = clock'} {now = now} p end ends reads counts = stops number between joined number_stays p end [] [] [] [] [] (no_more registers mid.section.chunk) refl ends reads (gives_nothing clock') (made_nothing number between nothing now) counts

    pub stopped_nothing : ((a : A) → between a [] a) → {registers : Bool} {first mid : Chunks} {before middle : Option (List ℕ)} {clock clock' : Option Moments} {start now next : A} {tally : OfferCounts} (p : Progress number between registers first mid before middle clock clock' start now tally) (s : SessionStop) → s ≡ stopped.Memory → Made number between now [] next → IfSome before (λ bytes. BeginsWith bytes (items_of p.taken)) → EndsSession number between registers (end_by s) p.taken start next before clock clock'
    stopped_nothing nothing {registers} {mid = mid} {before = before} {clock' = clock'} p s is made some =
        stops number between joined number_stays p (end_by s) [] [] [] [] [] (no_more registers mid.section.chunk) refl (subst (λ (x : SessionStop). EndsIn (end_by x) [] []) (sym is) (inl tt)) (stopped_reads s before (items_of p.taken ++ []) (begins_all before (items_of p.taken) some)) (gives_nothing clock') made (stopped_counts s (acts_of p.taken))

    -- it was read as far as it goes, and all was flushed
    pub closed_ends : {registers : Bool} {first mid : Chunks} {before middle : Option (List ℕ)} {clock clock' : Option Moments} {start now next : A} {tally : OfferCounts} (p : Progress number between registers first mid before middle clock clock' start now tally) (end result : Fed) → ((done : List Done) → IsFlushed done → EndsIn end [] done) → ReadsOf end before (items_of p.taken ++ []) → IfSome before (λ bytes. BeginsWith bytes (items_of p.taken)) → CountsAll end (acts_of p.taken) → Closes number between now end result next → EndsSession number between registers result p.taken start next before clock clock'
    closed_ends {registers} {mid = mid} {before = before} {clock = clock} {clock' = clock'} {start = start} {next = next} p end result ends reads some counts closes = by_end closes.ends
      where
        by_end : ((result ≡ end) × IsFlushed closes.done) ⊎ ((s : SessionStop) × (result ≡ end_by s) × StopsIn s closes.done) → EndsSession number between registers result p.taken start next before clock clock'
        by_end (inl well) = subst (λ (e : Fed). EndsSession number between registers e p.taken start next before clock clock') (sym well.0) (stops number between joined number_stays p end [] [] (flush_all ∷ []) closes.done closes.left (refl, inr refl) closes.are (ends closes.done well.1) reads (gives_nothing clock') closes.made counts)
        by_end (inr stop) = subst (λ (e : Fed). EndsSession number between registers e p.taken start next before clock clock') (sym stop.1) (stops number between joined number_stays p (end_by stop.0) [] [] (flush_all ∷ []) closes.done closes.left (refl, inr refl) closes.are (stopped_ends stop.0 [] closes.done stop.2) (stopped_reads stop.0 before (items_of p.taken ++ []) (begins_all before (items_of p.taken) some)) (gives_nothing clock') closes.made (stopped_counts stop.0 (acts_of p.taken)))

    -- A HEADER

    pub header_stopped : ((a : A) → between a [] a) → {first mid : Chunks} {before middle : Option (List ℕ)} {clock clock' : Option Moments} {start now next : A} {tally : OfferCounts} (p : Progress number between true first mid before middle clock clock' start now tally) (info : PayloadInfo) (line : List ℕ) (result : Answer) (s : SessionStop) → result ≡ Err s → Registers number between now info result next → IfSome before (λ bytes. BeginsWith bytes (items_of p.taken ++ header info line ∷ [])) → IfSome before (λ bytes. BeginsWith bytes (items_of p.taken)) → EndsSession number between true (end_by s) p.taken start next before clock clock'
    header_stopped nothing {clock' = clock'} p info line result s is (inl r) some before_it = stopped_at p (header info line) [] r.asked (λ _ (done : List Done). tally_of done ≡ none) result s is (refl, r.row) r.asking some (gives_nothing clock')
    header_stopped nothing p info line result s is (inr r) some before_it = stopped_nothing nothing p s (same_err result s stopped.Memory is r.0) r.1 before_it

  header_counted : (tally : OfferCounts) (done : List Done) → tally_of done ≡ none → tally ≡ both tally (tally_of done)
  header_counted tally done is = sym (both_none tally) ∙ ap (λ (t : OfferCounts). both tally t) (sym is)

  pub header_taken : {mid new : Chunks} {middle after : Option (List ℕ)} {clock : Option Moments} {now next : A} {tally : OfferCounts} (info : PayloadInfo) (line : List ℕ) (result : Answer) (x : Unit {0}) → result ≡ Ok x → Registers number between now info result next → new.section.chunk ≡ Some info → Passes mid new middle after (header info line ∷ []) → Takes number between true mid new middle after clock clock now next tally tally (header info line)
  header_taken {clock = clock} {tally = tally} info line result x is (inl r) inside passed = taken_of [] r.asked (λ _ (done : List Done). tally_of done ≡ none) result x is (refl, r.row) r.asking (header_counted tally) inside passed (gives_nothing clock)
  header_taken info line result x is (inr r) inside passed = not_both result x stopped.Memory is r.0

-- where memory was wanting for a reader
pub not_started : {A : Type 0} (number : A → ℕ) (between : A → List Entry → A → Type 0) → ((a : A) → between a [] a) → (registers : Bool) (start : A) (source : Option (List ℕ)) (clock : Option Moments) → EndsSession number between registers fed.Memory [] start start source clock clock
not_started number between nothing registers start source clock = record {
  mine = [];
  session = record {
    begun = [];
    moments = [];
    asked = [];
    last = [];
    left = [];
    items = tt;
    asks = (refl, inl refl);
    made = refl;
    ends = inl tt;
    reads = none_read source;
    at = gives_nothing clock;
    all = refl;
    counts = tt;
  };
  made = made_nothing number between nothing start;
}
