-- What was read of a stream, from its start.
use Rattle.std.proofs.Common.{◌≡◌, ◌∙◌, sym, subst, ℕ, List, [], ◌++◌, append-nil, arith, inl, inr, lit≤, ◌+◌, ◌^◌, ◌≤◌, Option, Some, None}
use Rattle.std.specs.Prelude.{IfSome}
use Rattle.pb_messages.specs.declared.info.PayloadInfo.{PayloadInfo}
use Rattle.pb_lines.specs.declared.reader.ChunkItem.TheVariants as it
use Rattle.pb_lines.specs.Stream.{Item, Stop, IsWholeStream, first_section}
use Rattle.pb_lines.specs.Reader.{Chunks, IsFresh, Passes, IsLineOf, Stops, bytes_taken, lines_taken, to_come, work_left}
use Rattle.pb_lines.proofs.Whole.{every_stream}
use Rattle.series_model.specs.declared.sample.Sample.{Sample}
use Rattle.pv_name.specs.Name.{IsName, IsRefusedAt}
use Rattle.act_model.specs.Event.{IsEvent}
use Rattle.feed_session.specs.Asking.{none, total}
use Rattle.feed_session.specs.Session.{BeginsWith}
use Rattle.feed_session.specs.declared.tally.OfferCounts.{OfferCounts}
use Rattle.pb_lines.proofs.Passing.{nothing_read, fresh_before, fresh_holds}

pub read_nothing : (c : Chunks) (left : Option (List ℕ)) → IsFresh c → Passes c c left (to_come c left) []
read_nothing c left fresh =
    let P : Option (List ℕ) → Type 0 = λ all. Passes c c all (to_come c left) [] in
    subst P (fresh_before c left fresh) (nothing_read c (to_come c left))

-- the stream begins with what was read
pub some_read : (old new : Chunks) (before after : Option (List ℕ)) (items : List Item) → IsFresh old → Passes old new before after items → IfSome before (λ bytes. BeginsWith bytes items)
some_read old new None after items fresh passed = tt
some_read old new (Some xs) None items fresh passed = absurd passed
some_read old new (Some xs) (Some ys) items fresh passed =
    let still = every_stream new.section (lines_taken new) (bytes_taken new) ys in
    record { rest = still.0; stop = still.1; whole = fresh_holds old xs (items ++ still.0) still.1 fresh (passed still.0 still.1 still.2) }

pub none_read : (source : Option (List ℕ)) → IfSome source (λ bytes. BeginsWith bytes [])
none_read None = tt
none_read (Some bytes) = let still = every_stream first_section 0 0 bytes in record { rest = still.0; stop = still.1; whole = still.2 }

-- it is what was read, up to the stop
pub all_read : (old new : Chunks) (before after : Option (List ℕ)) (items : List Item) (stop : Stop) → IsFresh old → Passes old new before after items → Stops new after stop → IfSome before (λ bytes. IsWholeStream bytes items stop)
all_read old new None after items stop fresh passed stops = tt
all_read old new (Some xs) None items stop fresh passed stops = absurd passed
all_read old new (Some xs) (Some ys) items stop fresh passed stops =
    let P : List Item → Type 0 = λ all. IsWholeStream xs all stop in
    subst P (append-nil items) (fresh_holds old xs (items ++ []) stop fresh (passed [] stop stops))

pub same_some : (x y : PayloadInfo) → ◌≡◌ {A = Option PayloadInfo} (Some x) (Some y) → x ≡ y
same_some x y is = cc

-- ITEMS

-- what a header's and a sample's line is
abbrev the_sample : ℕ → List ℕ → Sample
the_sample t line = record { t = t; line = line }

pub event_of : (r : Chunks) (t : ℕ) (info : PayloadInfo) (line : List ℕ) → IsLineOf r (it.Sample t) → r.section.chunk ≡ Some info → line ≡ r.lines.line → IsEvent info.ty (the_sample t line)
event_of r t info line of inside same =
    let other : of.0 ≡ info = same_some of.0 info (sym of.1 ∙ inside) in
    let own : IsEvent of.0.ty (the_sample t r.lines.line) = record {
      whole = of.2;
      message = of.3.stamp.0;
      means = of.3.stamp.1;
      secs = of.3.secs;
      nano = of.3.nano;
      stamp = of.3.stamp.2;
      year = of.0.year;
      sample_year = of.3.sample_year;
      in_year = of.3.in_year;
      at = of.3.at;
    } in
    subst (λ (l : List ℕ). IsEvent info.ty (the_sample t l)) (sym same) (subst (λ (i : PayloadInfo). IsEvent i.ty (the_sample t r.lines.line)) other own)

-- bytes that are refused are no name
pub refused_name : (name : List ℕ) (at : ℕ) → IsRefusedAt name at → IsName name → ⊥
refused_name name at (inl long) good = omega (arith, long.0, good.short)
refused_name name at (inr fault) good = good.faultless at fault.1.here

-- what is left to read falls, and what was counted is not more than that
pub few_first : (r : Chunks) (t : OfferCounts) → IsFresh r → t ≡ none → total t + work_left r ≤ 2 ^ 42
few_first r t fresh is = subst (λ (x : OfferCounts). total x + work_left r ≤ 2 ^ 42) (sym is) (subst (λ (c : Chunks). total none + work_left c ≤ 2 ^ 42) (sym fresh) (lit≤ tt))
