-- What is read of a stream, from one line to the next.
use Rattle.std.proofs.Common.{◌≡◌, ℕ, ◌+◌, ◌-◌, ◌*◌, ◌<◌, ◌≤◌, inl, inr, List, [], ◌∷◌, ◌++◌, Option, Some, None, Bool, true, false, length, arith, refl, sym, ap, ◌∙◌, subst, append_assoc}
use Rattle.std.specs.Prelude.{◌^◌, IfSome, IfNone, IsSome, IsTrue, is_some, if◌then◌else◌}
use Rattle.std.specs.Io.KnownBytes.{Keeps, IsAtEnd, prepend_known}
use Rattle.std.proofs.lemmas.List.{length-append}
use Rattle.edge_io.specs.Lines.{LineReader, Stays, Reads, ahead}
use Rattle.edge_io.specs.declared.lines.LineRead.{LineRead}
use Rattle.edge_io.specs.declared.lines.LineRead.TheVariants.{Line, End, Torn, TooLong, InputTooLong, SourceFault, Memory}
use Rattle.pb_messages.specs.declared.info.PayloadInfo.{PayloadInfo}
use Rattle.pb_lines.specs.declared.fault.ChunkFault.{ChunkFault}
use Rattle.pb_lines.specs.declared.fault.ChunkFault.TheVariants as fault
use Rattle.pb_lines.specs.declared.reader.ChunkItem.{ChunkItem}
use Rattle.pb_lines.specs.declared.reader.ChunkItem.TheVariants as it
use Rattle.pb_lines.specs.Stream.{Item, header, sample, chunk_end, Section, Stop, IsStream, IsLines, IsItems, IsEnding, Skips, Gives, Fails, Ends, within, between}
use Rattle.pb_lines.specs.Reader.{Chunks, to_come, lines_taken, bytes_taken, Holds, Passes, Stops, ReadsItem, ReadsLine, TakesLine, Fetches, EndsStream, HasLine, TakesOne, TakesNone, Counts, CountsOn, line_number, work_left}
use Rattle.pb_lines.proofs.Lines.{cut_of}
use Rattle.pb_lines.proofs.Passing.{nothing_read}

-- THE LINE AT THE FRONT

-- a line in front of a stream
line_cut : (r : LineReader) (ys : List ℕ) (lines : List (List ℕ)) (ending : LineRead) → HasLine r → IsLines r.passed ys lines ending → IsLines (r.passed - (length r.line + 1)) (r.line ++ 10 ∷ ys) (r.line ∷ lines) ending
line_cut r ys lines ending has cut =
    let same : r.passed ≡ r.passed - (length r.line + 1) + length r.line + 1 = omega (arith, has.room) in
    let P : ℕ → Type 0 = λ p. IsLines p ys lines ending in
    (ys, refl, has.whole, has.short, omega (arith, has.room, has.bound), subst P same cut)

count_up : (r : LineReader) → HasLine r → r.number - 1 + 1 ≡ r.number
count_up r has = omega (arith, has.number)

skipped : (s : Section) (r : LineReader) (ys : List ℕ) (rest : List Item) (stop : Stop) → HasLine r → Skips s r.line → IsStream s r.number r.passed ys rest stop → IsStream s (r.number - 1) (r.passed - (length r.line + 1)) (r.line ++ 10 ∷ ys) rest stop
skipped s r ys rest stop has skips h =
    record {
      lines = r.line ∷ h.lines;
      ending = h.ending;
      cut = line_cut r ys h.lines h.ending has h.cut;
      read = inl (skips, rw (count_up r has) h.read);
    }

given : (s behind : Section) (r : LineReader) (ys : List ℕ) (item : Item) (rest : List Item) (stop : Stop) → HasLine r → Gives s r.line item behind → IsStream behind r.number r.passed ys rest stop → IsStream s (r.number - 1) (r.passed - (length r.line + 1)) (r.line ++ 10 ∷ ys) (item ∷ rest) stop
given s behind r ys item rest stop has gives h =
    record {
      lines = r.line ∷ h.lines;
      ending = h.ending;
      cut = line_cut r ys h.lines h.ending has h.cut;
      read = inr (inl (item, behind, rest, gives, refl, rw (count_up r has) h.read));
    }

failed : (s : Section) (r : LineReader) (ys : List ℕ) (f : ChunkFault) → HasLine r → Fails s r.line f → IsStream s (r.number - 1) (r.passed - (length r.line + 1)) (r.line ++ 10 ∷ ys) [] (Some (r.number, f))
failed s r ys f has fails =
    let behind = cut_of r.passed ys in
    record {
      lines = r.line ∷ behind.lines;
      ending = behind.ending;
      cut = line_cut r ys behind.lines behind.ending has behind.cut;
      read = inr (inr (f, fails, refl, ap (λ (n : ℕ). Some (n, f)) (sym (count_up r has))));
    }

-- Told bytes behind a line, and the line in front of them.
passes_line : (old new : Chunks) (r : LineReader) (left : Option (List ℕ)) (items : List Item) → ((ys : List ℕ) (rest : List Item) (stop : Stop) → Holds new ys rest stop → Holds old (r.line ++ 10 ∷ ys) (items ++ rest) stop) → Passes old new (prepend_known (r.line ++ 10 ∷ []) left) left items
passes_line old new r None items h = tt
passes_line old new r (Some ys) items h = λ rest stop k. rw (append_assoc r.line (10 ∷ []) ys) (h ys rest stop k)

stops_line : (old : Chunks) (r : LineReader) (left : Option (List ℕ)) (stop : Stop) → ((ys : List ℕ) → Holds old (r.line ++ 10 ∷ ys) [] stop) → Stops old (prepend_known (r.line ++ 10 ∷ []) left) stop
stops_line old r None stop h = tt
stops_line old r (Some ys) stop h = rw (append_assoc r.line (10 ∷ []) ys) (h ys)

-- a reader whose last line is to be taken, and what it is behind it
abbrev pub before_line : LineReader → Section → Chunks
before_line r s = record { lines = r; pending = true; section = s; refused = None }

abbrev pub behind_line : LineReader → Section → Option ChunkFault → Chunks
behind_line r s refused = record { lines = r; pending = false; section = s; refused = refused }

taken_falls : (p n : ℕ) (a b : ℕ) → n + 1 ≤ p → p ≤ 2 ^ 40 → b ≤ 1 → 2 * (2 ^ 40 - p) + b < 2 * (2 ^ 40 - (p - (n + 1))) + a
taken_falls p n a b room bound small = omega arith

at_most_one : (b : Bool) → (if b then 1 else 0) ≤ 1
at_most_one true = omega arith
at_most_one false = omega arith

-- a bad line's number is that of the line
fails_number : (f : ChunkFault) (r : LineReader) (s : Section) (left : Option (List ℕ)) → HasLine r → Fails s r.line f → Stops (before_line r s) (to_come (before_line r s) left) (Some (line_number (behind_line r s (Some f)), f))
fails_number (fault.BadHeader h) r s left has fails = stops_line (before_line r s) r (ahead r left) (Some (r.number, fault.BadHeader h)) (λ ys. failed s r ys (fault.BadHeader h) has fails)
fails_number (fault.BadLine l) r s left has fails = stops_line (before_line r s) r (ahead r left) (Some (r.number, fault.BadLine l)) (λ ys. failed s r ys (fault.BadLine l) has fails)
fails_number fault.NoHeader r s left has fails = absurd fails
fails_number fault.Torn r s left has fails = absurd fails
fails_number fault.LineTooLong r s left has fails = absurd fails
fails_number fault.InputTooLong r s left has fails = absurd fails

is_some_by : (o : Option PayloadInfo) (info : PayloadInfo) → o ≡ Some info → IsSome o
is_some_by (Some i) info h = refl
is_some_by None info h = cc

-- what the line that is to be taken comes to, by what is still to come
takes_before : (r : LineReader) (s : Section) (new : Chunks) (left : Option (List ℕ)) (o : Option ChunkItem) → HasLine r → TakesLine (before_line r s) new o → ReadsLine (before_line r s) new (to_come (before_line r s) left) (to_come new left) o
takes_before r s new left None has h =
    let old = before_line r s in
    let P : Chunks → Type 0 = λ n. ReadsLine old n (to_come old left) (to_come n left) None in
    subst P (sym h.1) (refl, passes_line old (behind_line r s None) r (ahead r left) [] (λ ys rest stop k. skipped s r ys rest stop has h.0 k), refl, taken_falls r.passed (length r.line) (if is_some s.chunk then 1 else 0) (if is_some s.chunk then 1 else 0) has.room has.bound (at_most_one (is_some s.chunk)))
takes_before r s new left (Some it.Header) has h =
    let old = before_line r s in
    let info = h.0 in
    let P : Chunks → Type 0 = λ n. ReadsLine old n (to_come old left) (to_come n left) (Some it.Header) in
    subst P (sym h.2) (info, refl, passes_line old (behind_line r (within info) None) r (ahead r left) (header info r.line ∷ []) (λ ys rest stop k. given s (within info) r ys (header info r.line) rest stop has h.1 k), refl, taken_falls r.passed (length r.line) (if is_some s.chunk then 1 else 0) 1 has.room has.bound (omega arith), h.1.0)
takes_before r s new left (Some (it.Sample t)) has h =
    let old = before_line r s in
    let x = sample (record { t = t; line = r.line }) in
    let P : Chunks → Type 0 = λ n. ReadsLine old n (to_come old left) (to_come n left) (Some (it.Sample t)) in
    subst P (sym h.1) (refl, passes_line old (behind_line r s None) r (ahead r left) (x ∷ []) (λ ys rest stop k. given s s r ys x rest stop has h.0 k), refl, taken_falls r.passed (length r.line) (if is_some s.chunk then 1 else 0) (if is_some s.chunk then 1 else 0) has.room has.bound (at_most_one (is_some s.chunk)), is_some_by s.chunk h.0.0 h.0.1)
takes_before r s new left (Some it.ChunkEnd) has h =
    let old = before_line r s in
    let P : Chunks → Type 0 = λ n. ReadsLine old n (to_come old left) (to_come n left) (Some it.ChunkEnd) in
    subst P (sym h.1) (refl, passes_line old (behind_line r between None) r (ahead r left) (chunk_end ∷ []) (λ ys rest stop k. given s between r ys chunk_end rest stop has h.0 k), refl, taken_falls r.passed (length r.line) (if is_some s.chunk then 1 else 0) 0 has.room has.bound (omega arith), is_some_by s.chunk h.0.0 h.0.1)
takes_before r s new left (Some (it.Refused f)) has h =
    let old = before_line r s in
    let P : Chunks → Type 0 = λ n. ReadsLine old n (to_come old left) (to_come n left) (Some (it.Refused f)) in
    subst P (sym h.1) (refl, fails_number f r s left has h.0, refl)
takes_before r s new left (Some it.Memory) has h =
    let old = before_line r s in
    let P : Chunks → Type 0 = λ n. ReadsLine old n (to_come old left) (to_come n left) (Some it.Memory) in
    subst P (sym h) (refl, nothing_read old (to_come old left), refl)
takes_before r s new left (Some it.End) has h = absurd h
takes_before r s new left (Some it.SourceFault) has h = absurd h

-- the same of any reader
pub takes_reads : (old new : Chunks) (left : Option (List ℕ)) (o : Option ChunkItem) → IsTrue old.pending → old.refused ≡ None → HasLine old.lines → TakesLine old new o → ReadsLine old new (to_come old left) (to_come new left) o
takes_reads old new left o pending going has h =
    let is : old ≡ before_line old.lines old.section =
    ap (λ (b : Bool). record { lines = old.lines; pending = b; section = old.section; refused = old.refused }) pending
    ∙ ap (λ (f : Option ChunkFault). record { lines = old.lines; pending = true; section = old.section; refused = f }) going in
    let P : Chunks → Type 0 = λ c. ReadsLine c new (to_come c left) (to_come new left) o in
    let T : Chunks → Type 0 = λ c. TakesLine c new o in
    subst P (sym is) (takes_before old.lines old.section new left o has (subst T is h))

-- THE END OF THE STREAM

end_of_none : (s : Section) (n p : ℕ) (ys : List ℕ) (rest : List Item) (stop : Stop) (lines : List (List ℕ)) (ending : LineRead) → s ≡ between → ys ≡ [] → p < 2 ^ 40 → IsLines p ys lines ending → IsItems s n lines ending rest stop → (rest ≡ []) × (stop ≡ None)
end_of_none s n p ys rest stop (line ∷ lines) ending is empty room cut read = absurd (omega (arith, ap length cut.1, ap length empty, length-append line (10 ∷ cut.0)))
end_of_none s n p ys rest stop [] End is empty room cut (inl h) = let none = ap (λ (s : Section). s.chunk) is in cc
end_of_none s n p ys rest stop [] End is empty room cut (inr h) = (h.1, rw is at h.2)
end_of_none s n p ys rest stop [] Torn is empty room cut read = absurd (omega (arith, ap length empty, cut.0))
end_of_none s n p ys rest stop [] TooLong is empty room cut read = absurd (omega (arith, ap length empty, cut.0))
end_of_none s n p ys rest stop [] InputTooLong is empty room cut read = absurd (omega (arith, ap length empty, cut.0))
end_of_none s n p ys rest stop [] Line is empty room cut read = absurd cut
end_of_none s n p ys rest stop [] SourceFault is empty room cut read = absurd cut
end_of_none s n p ys rest stop [] Memory is empty room cut read = absurd cut

-- At the end of a stream outside a chunk nothing more comes.
nothing_more : (s : Section) (n p : ℕ) (ys : List ℕ) (rest : List Item) (stop : Stop) → s ≡ between → ys ≡ [] → p < 2 ^ 40 → IsStream s n p ys rest stop → (rest ≡ []) × (stop ≡ None)
nothing_more s n p ys rest stop is empty room h = end_of_none s n p ys rest stop h.lines h.ending is empty room h.cut h.read

some_of : (o : Option PayloadInfo) → IsSome o → (info : PayloadInfo) × (o ≡ Some info)
some_of (Some info) h = (info, refl)
some_of None h = cc

-- the chunk that the end of the stream ends
last_chunk : (s : Section) (l l' : LineReader) (xs ys : List ℕ) → IsSome s.chunk → l'.number ≡ l.number → l'.passed ≡ l.passed → ys ≡ xs → xs ≡ [] → l.passed < 2 ^ 40 → (rest : List Item) (stop : Stop) → IsStream between l'.number l'.passed ys rest stop → IsStream s l.number l.passed xs (chunk_end ∷ rest) stop
last_chunk s l l' xs ys inside number passed same empty room rest stop h =
    let none = nothing_more between l'.number l'.passed ys rest stop refl (same ∙ empty) (omega (arith, passed)) h in
    let info = some_of s.chunk inside in
    record {
      lines = [];
      ending = End;
      cut = (empty, room);
      read = inl (info.0, info.1, ap (λ (items : List Item). chunk_end ∷ items) none.0, none.1);
    }

passes_last : (s : Section) (l l' : LineReader) (before after : Option (List ℕ)) → IsSome s.chunk → l'.number ≡ l.number → l'.passed ≡ l.passed → Keeps before after → IsAtEnd before → l.passed < 2 ^ 40 → Passes (behind_line l s None) (behind_line l' between None) before after (chunk_end ∷ [])
passes_last s l l' None after inside number passed kept empty room = tt
passes_last s l l' (Some xs) None inside number passed kept empty room = kept
passes_last s l l' (Some xs) (Some ys) inside number passed kept empty room = last_chunk s l l' xs ys inside number passed kept empty room

stops_at_end : (s : Section) (l : LineReader) (before : Option (List ℕ)) (stop : Stop) → s.chunk ≡ None → IsAtEnd before → l.passed < 2 ^ 40 → stop ≡ (if s.begun then None else Some (l.number + 1, fault.NoHeader)) → Stops (behind_line l s None) before stop
stops_at_end s l None stop outside empty room is = tt
stops_at_end s l (Some xs) stop outside empty room is = record { lines = []; ending = End; cut = (empty, room); read = inr (outside, refl, is) }

passes_kept : (s : Section) (l l' : LineReader) (before after : Option (List ℕ)) → l'.number ≡ l.number → l'.passed ≡ l.passed → Keeps before after → Passes (behind_line l s None) (behind_line l' s None) before after []
passes_kept s l l' None after number passed kept = tt
passes_kept s l l' (Some xs) None number passed kept = kept
passes_kept s l l' (Some xs) (Some ys) number passed kept = λ rest stop h.
    let P : List ℕ → Type 0 = λ bytes. IsStream s l.number l.passed bytes rest stop in
    subst P kept (rw (number, passed) at h)

chunk_falls : (o : Option PayloadInfo) (p p' : ℕ) → IsSome o → p' ≡ p → 2 * (2 ^ 40 - p') + 0 < 2 * (2 ^ 40 - p) + (if is_some o then 1 else 0)
chunk_falls (Some info) p p' h same = omega (arith, same)
chunk_falls None p p' h same = cc

ends_behind : (s : Section) (l l' : LineReader) (new : Chunks) (left after : Option (List ℕ)) (r : ChunkItem) → Stays l l' → Keeps (ahead l left) (ahead l' after) → IsAtEnd (ahead l left) → l.passed < 2 ^ 40 → EndsStream (behind_line l' s None) new r → ReadsItem (behind_line l s None) new (ahead l left) (to_come new after) r
ends_behind s l l' new left after it.ChunkEnd stays kept empty room h =
    let P : Chunks → Type 0 = λ n. ReadsItem (behind_line l s None) n (ahead l left) (to_come n after) it.ChunkEnd in
    subst P (sym h.1) (refl, passes_last s l l' (ahead l left) (ahead l' after) h.0 stays.number stays.passed kept empty room, refl, chunk_falls s.chunk l.passed l'.passed h.0 stays.passed, h.0)
ends_behind s l l' new left after it.End stays kept empty room h =
    let P : Chunks → Type 0 = λ n. ReadsItem (behind_line l s None) n (ahead l left) (to_come n after) it.End in
    subst P (sym h.2) (refl, passes_kept s l l' (ahead l left) (ahead l' after) stays.number stays.passed kept, stops_at_end s l (ahead l left) None h.0 empty room (rw h.1 refl), refl)
ends_behind s l l' new left after (it.Refused fault.NoHeader) stays kept empty room h =
    let P : Chunks → Type 0 = λ n. ReadsItem (behind_line l s None) n (ahead l left) (to_come n after) (it.Refused fault.NoHeader) in
    let number : Some (l'.number + 1, fault.NoHeader) ≡ (if s.begun then None else Some (l.number + 1, fault.NoHeader)) = rw (h.1, stays.number) refl in
    subst P (sym h.2) (refl, stops_at_end s l (ahead l left) (Some (l'.number + 1, fault.NoHeader)) h.0 empty room number, refl)
ends_behind s l l' new left after (it.Refused (fault.BadHeader f)) stays kept empty room h = absurd h
ends_behind s l l' new left after (it.Refused (fault.BadLine f)) stays kept empty room h = absurd h
ends_behind s l l' new left after (it.Refused fault.Torn) stays kept empty room h = absurd h
ends_behind s l l' new left after (it.Refused fault.LineTooLong) stays kept empty room h = absurd h
ends_behind s l l' new left after (it.Refused fault.InputTooLong) stays kept empty room h = absurd h
ends_behind s l l' new left after it.Header stays kept empty room h = absurd h
ends_behind s l l' new left after (it.Sample t) stays kept empty room h = absurd h
ends_behind s l l' new left after it.SourceFault stays kept empty room h = absurd h
ends_behind s l l' new left after it.Memory stays kept empty room h = absurd h

behind_is : (old : Chunks) → old.pending ≡ false → old.refused ≡ None → old ≡ behind_line old.lines old.section None
behind_is old idle going =
    ap (λ (b : Bool). record { lines = old.lines; pending = b; section = old.section; refused = old.refused }) idle
    ∙ ap (λ (f : Option ChunkFault). record { lines = old.lines; pending = false; section = old.section; refused = f }) going

-- what the end of the source comes to
pub ends_reads : (old new : Chunks) (l : LineReader) (left after : Option (List ℕ)) (r : ChunkItem) → old.pending ≡ false → old.refused ≡ None → Stays old.lines l → Keeps (ahead old.lines left) (ahead l after) → IsAtEnd (ahead old.lines left) → old.lines.passed < 2 ^ 40 → EndsStream (record old { lines = l }) new r → ReadsItem old new (to_come old left) (to_come new after) r
ends_reads old new l left after r idle going stays kept empty room h =
    let is = behind_is old idle going in
    let P : Chunks → Type 0 = λ c. ReadsItem c new (to_come c left) (to_come new after) r in
    let T : Chunks → Type 0 = λ c. EndsStream (record c { lines = l }) new r in
    subst P (sym is) (ends_behind old.section old.lines l new left after r stays kept empty room (subst T is h))

ending_stops : (s : Section) (l : LineReader) (before : Option (List ℕ)) (ending : LineRead) (stop : Stop) → IfSome before (λ xs. IsEnding l.passed xs ending) → Ends s l.number ending [] stop → Stops (behind_line l s None) before stop
ending_stops s l None ending stop cut read = tt
ending_stops s l (Some xs) ending stop cut read = record { lines = []; ending = ending; cut = cut; read = read }

-- what an ending that is refused comes to
pub refused_reads : (old : Chunks) (l : LineReader) (left after : Option (List ℕ)) (ending : LineRead) (f : ChunkFault) → old.pending ≡ false → old.refused ≡ None → IfSome (ahead old.lines left) (λ xs. IsEnding old.lines.passed xs ending) → Ends old.section old.lines.number ending [] (Some (old.lines.number + 1, f)) → line_number (record old { lines = l; refused = Some f }) ≡ old.lines.number + 1 → ReadsItem old (record old { lines = l; refused = Some f }) (to_come old left) after (it.Refused f)
refused_reads old l left after ending f idle going cut read number =
    let is = behind_is old idle going in
    let stop = ap (λ (n : ℕ). Some (n, f)) (sym number) in
    let P : Chunks → Type 0 = λ c. Stops c (to_come c left) (Some (line_number (record old { lines = l; refused = Some f }), f)) in
    let Q : Stop → Type 0 = λ stop. Stops (behind_line old.lines old.section None) (ahead old.lines left) stop in
    (refl, subst P (sym is) (subst Q stop (ending_stops old.section old.lines (ahead old.lines left) ending (Some (old.lines.number + 1, f)) cut read)), refl)

-- an ending at which the stream is refused, and its fault
abbrev pub IsStop : LineRead → ChunkFault → Type 0
IsStop Torn fault.Torn = Unit {0}
IsStop TooLong fault.LineTooLong = Unit {0}
IsStop InputTooLong fault.InputTooLong = Unit {0}
IsStop _ _ = ⊥

-- what such an ending comes to
pub stop_reads : (old new : Chunks) (l : LineReader) (left after : Option (List ℕ)) (ending : LineRead) (f : ChunkFault) → IsStop ending f → new ≡ record old { lines = l; refused = Some f } → old.pending ≡ false → old.refused ≡ None → Reads old.lines l (ahead old.lines left) (ahead l after) ending → ReadsItem old new (to_come old left) (to_come new after) (it.Refused f)
stop_reads old new l left after Torn fault.Torn is made idle going h =
    subst (λ (n : Chunks). ReadsItem old n (to_come old left) (to_come n after) (it.Refused fault.Torn)) (sym made) (refused_reads old l left after Torn fault.Torn idle going h.3 (refl, refl) (ap (λ (n : ℕ). n + 1) h.0.number))
stop_reads old new l left after TooLong fault.LineTooLong is made idle going h =
    subst (λ (n : Chunks). ReadsItem old n (to_come old left) (to_come n after) (it.Refused fault.LineTooLong)) (sym made) (refused_reads old l left after TooLong fault.LineTooLong idle going h.3 (refl, refl) (ap (λ (n : ℕ). n + 1) h.0.number))
stop_reads old new l left after InputTooLong fault.InputTooLong is made idle going h =
    subst (λ (n : Chunks). ReadsItem old n (to_come old left) (to_come n after) (it.Refused fault.InputTooLong)) (sym made) (refused_reads old l left after InputTooLong fault.InputTooLong idle going h.3 (refl, refl) (ap (λ (n : ℕ). n + 1) h.0.number))
stop_reads old new l left after ending f is made idle going h = absurd is

-- HOW MANY LINES ARE TAKEN

one_taken : (r : LineReader) (s : Section) (refused : Option ChunkFault) → HasLine r → TakesOne (r.number - 1) (r.passed - (length r.line + 1)) (behind_line r s refused)
one_taken r s refused has = record { lines = sym (count_up r has); bytes = omega (arith, has.room); number = sym (count_up r has) }

counts_before : (r : LineReader) (s : Section) (new : Chunks) (o : Option ChunkItem) → HasLine r → TakesLine (before_line r s) new o → Counts (r.number - 1) (r.passed - (length r.line + 1)) new o
counts_before r s new None has h = subst (λ (n : Chunks). Counts (r.number - 1) (r.passed - (length r.line + 1)) n None) (sym h.1) (one_taken r s None has, h.0.1)
counts_before r s new (Some it.Header) has h = subst (λ (n : Chunks). TakesOne (r.number - 1) (r.passed - (length r.line + 1)) n) (sym h.2) (one_taken r (within h.0) None has)
counts_before r s new (Some (it.Sample t)) has h = subst (λ (n : Chunks). TakesOne (r.number - 1) (r.passed - (length r.line + 1)) n) (sym h.1) (one_taken r s None has)
counts_before r s new (Some it.ChunkEnd) has h = subst (λ (n : Chunks). Counts (r.number - 1) (r.passed - (length r.line + 1)) n (Some it.ChunkEnd)) (sym h.1) (inr (one_taken r between None has, h.0.2))
counts_before r s new (Some (it.Refused (fault.BadHeader f))) has h = subst (λ (n : Chunks). TakesOne (r.number - 1) (r.passed - (length r.line + 1)) n) (sym h.1) (one_taken r s (Some (fault.BadHeader f)) has)
counts_before r s new (Some (it.Refused (fault.BadLine f))) has h = subst (λ (n : Chunks). TakesOne (r.number - 1) (r.passed - (length r.line + 1)) n) (sym h.1) (one_taken r s (Some (fault.BadLine f)) has)
counts_before r s new (Some (it.Refused fault.NoHeader)) has h = absurd h.0
counts_before r s new (Some (it.Refused fault.Torn)) has h = absurd h.0
counts_before r s new (Some (it.Refused fault.LineTooLong)) has h = absurd h.0
counts_before r s new (Some (it.Refused fault.InputTooLong)) has h = absurd h.0
counts_before r s new (Some it.Memory) has h = subst (λ (n : Chunks). TakesNone (r.number - 1) (r.passed - (length r.line + 1)) n) (sym h) (record { lines = refl; bytes = refl })
counts_before r s new (Some it.End) has h = absurd h
counts_before r s new (Some it.SourceFault) has h = absurd h

-- the line that was fetched counts as the next of the reader before
pub line_counts : (old mid new : Chunks) (before middle : Option (List ℕ)) (o : Option ChunkItem) → Fetches old mid before middle → TakesLine mid new o → Counts (lines_taken old) (bytes_taken old) new o
line_counts old mid new before middle o f h =
    let is : mid ≡ before_line mid.lines mid.section =
    ap (λ (b : Bool). record { lines = mid.lines; pending = b; section = mid.section; refused = mid.refused }) f.pending
    ∙ ap (λ (r : Option ChunkFault). record { lines = mid.lines; pending = true; section = mid.section; refused = r }) f.refused in
    let taken = counts_before mid.lines mid.section new o f.line (subst (λ (c : Chunks). TakesLine c new o) is h) in
    let same : (lines_taken old ≡ mid.lines.number - 1) × (bytes_taken old ≡ mid.lines.passed - (length mid.lines.line + 1)) = (sym f.lines ∙ ap lines_taken is, sym f.bytes ∙ ap bytes_taken is) in
    rw (same.0, same.1) taken

pub none_taken : (old new : Chunks) (l : LineReader) → old.pending ≡ false → Stays old.lines l → new.pending ≡ false → new.lines ≡ l → TakesNone (lines_taken old) (bytes_taken old) new
none_taken old new l idle stays still is = rw (idle, still, is) (record { lines = stays.number; bytes = stays.passed })

-- the end of the stream, and an ending at which it is refused, take no line
pub end_counts : (old new : Chunks) (l : LineReader) (r : ChunkItem) → old.pending ≡ false → Stays old.lines l → EndsStream (record old { lines = l }) new r → Counts (lines_taken old) (bytes_taken old) new (Some r)
end_counts old new l it.ChunkEnd idle stays h = inl (none_taken old new l idle stays (ap (λ (c : Chunks). c.pending) h.1 ∙ idle) (ap (λ (c : Chunks). c.lines) h.1))
end_counts old new l it.End idle stays h = none_taken old new l idle stays (ap (λ (c : Chunks). c.pending) h.2 ∙ idle) (ap (λ (c : Chunks). c.lines) h.2)
end_counts old new l (it.Refused fault.NoHeader) idle stays h = none_taken old new l idle stays (ap (λ (c : Chunks). c.pending) h.2 ∙ idle) (ap (λ (c : Chunks). c.lines) h.2)
end_counts old new l r idle stays h = absurd h

pub stop_counts : (old new : Chunks) (l : LineReader) (ending : LineRead) (f : ChunkFault) → IsStop ending f → new ≡ record old { lines = l; refused = Some f } → old.pending ≡ false → Stays old.lines l → Counts (lines_taken old) (bytes_taken old) new (Some (it.Refused f))
stop_counts old new l Torn fault.Torn is made idle stays = none_taken old new l idle stays (ap (λ (c : Chunks). c.pending) made ∙ idle) (ap (λ (c : Chunks). c.lines) made)
stop_counts old new l TooLong fault.LineTooLong is made idle stays = none_taken old new l idle stays (ap (λ (c : Chunks). c.pending) made ∙ idle) (ap (λ (c : Chunks). c.lines) made)
stop_counts old new l InputTooLong fault.InputTooLong is made idle stays = none_taken old new l idle stays (ap (λ (c : Chunks). c.pending) made ∙ idle) (ap (λ (c : Chunks). c.lines) made)
stop_counts old new l ending f is made idle stays = absurd is

-- FROM A CALL TO THE NEXT

-- Holds speaks of the section and of how many lines and bytes were taken alone.
holds_same : (a b : Chunks) (xs : List ℕ) (items : List Item) (stop : Stop) → b.section ≡ a.section → lines_taken b ≡ lines_taken a → bytes_taken b ≡ bytes_taken a → Holds b xs items stop → Holds a xs items stop
holds_same a b xs items stop section lines bytes h = let k = rw (section, lines, bytes) at h in k

passes_fetched : (old mid new : Chunks) (before middle after : Option (List ℕ)) (items : List Item) → Fetches old mid before middle → Passes mid new middle after items → Passes old new before after items
passes_fetched old mid new None middle after items f h = tt
passes_fetched old mid new (Some xs) None after items f h = absurd f.kept
passes_fetched old mid new (Some xs) (Some ys) None items f h = h
passes_fetched old mid new (Some xs) (Some ys) (Some zs) items f h = λ rest stop k.
    let P : List ℕ → Type 0 = λ bytes. Holds old bytes (items ++ rest) stop in
    subst P f.kept (holds_same old mid ys (items ++ rest) stop f.section f.lines f.bytes (h rest stop k))

stops_fetched : (old mid : Chunks) (before middle : Option (List ℕ)) (stop : Stop) → Fetches old mid before middle → Stops mid middle stop → Stops old before stop
stops_fetched old mid None middle stop f h = tt
stops_fetched old mid (Some xs) None stop f h = absurd f.kept
stops_fetched old mid (Some xs) (Some ys) stop f h =
    let P : List ℕ → Type 0 = λ bytes. Holds old bytes [] stop in
    subst P f.kept (holds_same old mid ys [] stop f.section f.lines f.bytes h)

work_same : (old mid : Chunks) → mid.section ≡ old.section → bytes_taken mid ≡ bytes_taken old → work_left mid ≡ work_left old
work_same old mid section bytes = rw (section, bytes) refl

-- what is read behind a line that was fetched is read
pub reads_fetched : (old mid new : Chunks) (before middle after : Option (List ℕ)) (o : Option ChunkItem) → Fetches old mid before middle → ReadsLine mid new middle after o → ReadsLine old new before after o
reads_fetched old mid new before middle after None f h =
    (h.0 ∙ f.section, passes_fetched old mid new before middle after [] f h.1, h.2, rw (work_same old mid f.section f.bytes) at h.3)
reads_fetched old mid new before middle after (Some it.Header) f h =
    (h.0, h.1, passes_fetched old mid new before middle after (header h.0 new.lines.line ∷ []) f h.2, h.3, rw (work_same old mid f.section f.bytes) at h.4, rw f.section at h.5)
reads_fetched old mid new before middle after (Some (it.Sample t)) f h =
    (h.0 ∙ f.section, passes_fetched old mid new before middle after (sample (record { t = t; line = new.lines.line }) ∷ []) f h.1, h.2, rw (work_same old mid f.section f.bytes) at h.3, rw f.section at h.4)
reads_fetched old mid new before middle after (Some it.ChunkEnd) f h =
    (h.0, passes_fetched old mid new before middle after (chunk_end ∷ []) f h.1, h.2, rw (work_same old mid f.section f.bytes) at h.3, rw f.section at h.4)
reads_fetched old mid new before middle after (Some it.End) f h =
    (h.0 ∙ f.section, passes_fetched old mid new before middle after [] f h.1, stops_fetched old mid before middle None f h.2, h.3)
reads_fetched old mid new before middle after (Some (it.Refused e)) f h =
    (h.0 ∙ f.section, stops_fetched old mid before middle (Some (line_number new, e)) f h.1, h.2)
reads_fetched old mid new before middle after (Some it.SourceFault) f h = (h.0 ∙ f.section, passes_fetched old mid new before middle after [] f h.1, h.2)
reads_fetched old mid new before middle after (Some it.Memory) f h = (h.0 ∙ f.section, passes_fetched old mid new before middle after [] f h.1, h.2)

pub if_going : (o : Option ChunkFault) (P : Type 0) → P → IfNone o P
if_going None P h = h
if_going (Some f) P h = tt

pub when_none : {X : Type 0} → (o : Option X) (P : Type 0) → o ≡ None → IfNone o P → P
when_none None P is h = h
when_none (Some x) P is h = cc

pub if_none_by : {X : Type 0} → (o : Option X) (P : Type 0) → (o ≡ None → P) → IfNone o P
if_none_by None P h = h refl
if_none_by (Some x) P h = tt

-- Lines were skipped, and nothing else.
pub record Later (old new : Chunks) (before after : Option (List ℕ)) : Type 0 where
  pub section : new.section ≡ old.section
  pub passes : Passes old new before after []
  pub going : new.refused ≡ None
  pub work : work_left new ≤ work_left old
  pub skipped : ℕ
  pub lines : lines_taken new ≡ lines_taken old + skipped
  pub bytes : bytes_taken new ≡ bytes_taken old + skipped

passes_behind : (old mid new : Chunks) (before middle after : Option (List ℕ)) (items : List Item) → Passes old mid before middle [] → Passes mid new middle after items → Passes old new before after items
passes_behind old mid new None middle after items f h = tt
passes_behind old mid new (Some xs) None after items f h = absurd f
passes_behind old mid new (Some xs) (Some ys) None items f h = h
passes_behind old mid new (Some xs) (Some ys) (Some zs) items f h = λ rest stop k. f (items ++ rest) stop (h rest stop k)

stops_behind : (old mid : Chunks) (before middle : Option (List ℕ)) (stop : Stop) → Passes old mid before middle [] → Stops mid middle stop → Stops old before stop
stops_behind old mid None middle stop f h = tt
stops_behind old mid (Some xs) None stop f h = absurd f
stops_behind old mid (Some xs) (Some ys) stop f h = f [] stop h

pub later_line : (old mid new : Chunks) (before middle after : Option (List ℕ)) → Later old mid before middle → ReadsLine mid new middle after None → Counts (lines_taken mid) (bytes_taken mid) new None → Later old new before after
later_line old mid new before middle after f h counts =
    record {
      section = h.0 ∙ f.section;
      passes = passes_behind old mid new before middle after [] f.passes h.1;
      going = h.2;
      work = omega (arith, f.work, h.3);
      skipped = f.skipped + 1;
      lines = omega (arith, f.lines, counts.0.lines);
      bytes = omega (arith, f.bytes, counts.0.bytes, ap length counts.1);
    }

pub later_counts : (old mid new : Chunks) (before middle : Option (List ℕ)) (item : ChunkItem) → Later old mid before middle → Counts (lines_taken mid) (bytes_taken mid) new (Some item) → CountsOn old new item
later_counts old mid new before middle item f h =
    let P : ℕ → Type 0 = λ n. Counts n (bytes_taken mid) new (Some item) in
    let Q : ℕ → Type 0 = λ p. Counts (lines_taken old + f.skipped) p new (Some item) in
    (f.skipped, subst Q f.bytes (subst P f.lines h))

-- what is read behind skipped lines is read
pub later_item : (old mid new : Chunks) (before middle after : Option (List ℕ)) (item : ChunkItem) → Later old mid before middle → ReadsItem mid new middle after item → ReadsItem old new before after item
later_item old mid new before middle after it.Header f h =
    (h.0, h.1, passes_behind old mid new before middle after (header h.0 new.lines.line ∷ []) f.passes h.2, h.3, omega (arith, f.work, h.4), rw f.section at h.5)
later_item old mid new before middle after (it.Sample t) f h =
    (h.0 ∙ f.section, passes_behind old mid new before middle after (sample (record { t = t; line = new.lines.line }) ∷ []) f.passes h.1, h.2, omega (arith, f.work, h.3), rw f.section at h.4)
later_item old mid new before middle after it.ChunkEnd f h =
    (h.0, passes_behind old mid new before middle after (chunk_end ∷ []) f.passes h.1, h.2, omega (arith, f.work, h.3), rw f.section at h.4)
later_item old mid new before middle after it.End f h =
    (h.0 ∙ f.section, passes_behind old mid new before middle after [] f.passes h.1, stops_behind old mid before middle None f.passes h.2, h.3)
later_item old mid new before middle after (it.Refused e) f h =
    (h.0 ∙ f.section, stops_behind old mid before middle (Some (line_number new, e)) f.passes h.1, h.2)
later_item old mid new before middle after it.SourceFault f h = (h.0 ∙ f.section, passes_behind old mid new before middle after [] f.passes h.1, h.2)
later_item old mid new before middle after it.Memory f h = (h.0 ∙ f.section, passes_behind old mid new before middle after [] f.passes h.1, h.2)

-- a reader that is refused stays as it is
still_refused : {X : Type 0} → (initial now new : Chunks) (x y z : X) (r : Option ChunkItem) (o : Option ChunkFault) → initial.refused ≡ o → IfSome o (λ f. (now ≡ initial) × (y ≡ x)) → IfSome now.refused (λ f. (r ≡ Some (it.Refused f)) × (new ≡ now) × (z ≡ y)) → IfSome o (λ f. (r ≡ Some (it.Refused f)) × (new ≡ initial) × (z ≡ x))
still_refused initial now new x y z r None is h k = tt
still_refused initial now new x y z r (Some f) is h k =
    let R : Option ChunkFault → Type 0 = λ o. IfSome o (λ f. (r ≡ Some (it.Refused f)) × (new ≡ now) × (z ≡ y)) in
    let last = subst R (ap (λ (c : Chunks). c.refused) h.0 ∙ is) k in
    (last.0, last.1 ∙ h.0, last.2 ∙ h.1)

if_some_with : {X : Type 0} → (o : Option X) (P Q : X → Type 0) → ((x : X) → P x → Q x) → IfSome o P → IfSome o Q
if_some_with None P Q f h = tt
if_some_with (Some x) P Q f h = f x h

pub refused_again : {X : Type 0} → (initial now new : Chunks) (x y z : X) (item : ChunkItem) → IfSome initial.refused (λ f. (now ≡ initial) × (y ≡ x)) → IfSome now.refused (λ f. (Some item ≡ Some (it.Refused f)) × (new ≡ now) × (z ≡ y)) → IfSome initial.refused (λ f. (item ≡ it.Refused f) × (new ≡ initial) × (z ≡ x))
refused_again initial now new x y z item h k =
    if_some_with initial.refused (λ f. (Some item ≡ Some (it.Refused f)) × (new ≡ initial) × (z ≡ x)) (λ f. (item ≡ it.Refused f) × (new ≡ initial) × (z ≡ x)) (λ f last. let is = last.0 in (cc, last.1, last.2)) (still_refused initial now new x y z (Some item) initial.refused refl h k)

pub refused_so_far : {X : Type 0} → (initial now new : Chunks) (x y z : X) (r : Option ChunkItem) → IfSome initial.refused (λ f. (now ≡ initial) × (y ≡ x)) → IfSome now.refused (λ f. (r ≡ Some (it.Refused f)) × (new ≡ now) × (z ≡ y)) → IfSome initial.refused (λ f. (new ≡ initial) × (z ≡ x))
refused_so_far initial now new x y z r h k =
    if_some_with initial.refused (λ f. (r ≡ Some (it.Refused f)) × (new ≡ initial) × (z ≡ x)) (λ f. (new ≡ initial) × (z ≡ x)) (λ f last. (last.1, last.2)) (still_refused initial now new x y z r initial.refused refl h k)
