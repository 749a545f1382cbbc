-- The words of the command line, as the code tells them apart.
use Rattle.std.proofs.Common.{◌≡◌, ◌≢◌, ◌<◌, ◌≤◌, ◌+◌, ℕ, List, [], ◌∷◌, Bool, true, false, Bor, Option, Some, None, length, map, get_or, arith, refl, subst, sym, ap, ◌∙◌}
use Rattle.std.specs.Prelude.{IfSome, IfNone, ◌||◌}
use Rattle.std.specs.List.{list_any}
use Rattle.std.proofs.lemmas.Bool.{false≢true}
use Rattle.series_model.specs.declared.sample.Query.{Query}
use Rattle.command_words.specs.declared.command.Command.{Command}
use Rattle.command_words.specs.declared.command.Command.TheVariants.{Drill, Extract, OverStore}
use Rattle.command_words.specs.declared.command.StoreCommand.{StoreCommand}
use Rattle.command_words.specs.declared.command.StoreCommand.TheVariants.{Ingest, Get, Etl, Status, Check, Serve, Adopt}
use Rattle.command_words.specs.ServeWords.{AsksToDrill, AsksToServe}
use Rattle.drill_feed.specs.declared.drill.Drill.{Drill as DrillState}
use Rattle.command_words.specs.declared.service_words.ServeWords.{ServeWords}
use Rattle.command_words.specs.Command.{AsksFor, IsCommand, IsFaulty, IsInterval, has_dash}

abbrev pub texts : List (Bor (List ℕ)) → List (List ℕ)
texts words = map (λ w. w.now) words

-- THE NUMBER OF WORDS

pub four_texts : (words : List (Bor (List ℕ))) (d : Bor (List ℕ)) → 4 ≤ length words → length words < 5 → texts words ≡ (get_or words 0 d).now ∷ (get_or words 1 d).now ∷ (get_or words 2 d).now ∷ (get_or words 3 d).now ∷ []
four_texts [] d least most = absurd (omega arith)
four_texts (a ∷ []) d least most = absurd (omega arith)
four_texts (a ∷ b ∷ []) d least most = absurd (omega arith)
four_texts (a ∷ b ∷ c ∷ []) d least most = absurd (omega arith)
four_texts (a ∷ b ∷ c ∷ e ∷ []) d least most = refl
four_texts (a ∷ b ∷ c ∷ e ∷ f ∷ words) d least most = absurd (omega arith)

-- THE FIRST LETTER, AND TWICE THE THIRD

letter : List (List ℕ) → ℕ
letter words = get_or (get_or words 0 []) 0 0 + (get_or (get_or words 0 []) 2 0 + get_or (get_or words 0 []) 2 0)

abbrev pub letter_of : Command → ℕ
letter_of (Extract query) = 333
letter_of (Drill drill) = 310
letter_of (OverStore Ingest) = 311
letter_of (OverStore (Get name query)) = 335
letter_of (OverStore Etl) = 317
letter_of (OverStore Status) = 309
letter_of (OverStore Check) = 301
letter_of (OverStore (Serve numbers)) = 343
letter_of (OverStore Adopt) = 319

asked_letter : (words : List (List ℕ)) (c : Command) → AsksFor c words → letter words ≡ letter_of c
unfolding letter
asked_letter words (Extract query) h = ap letter h.2
asked_letter words (Drill drill) h = ap letter h.written
asked_letter words (OverStore (Get name query)) h = ap letter h.2
asked_letter words (OverStore Ingest) h = ap letter h
asked_letter words (OverStore Etl) h = ap letter h
asked_letter words (OverStore Status) h = ap letter h
asked_letter words (OverStore Check) h = ap letter h
asked_letter words (OverStore (Serve numbers)) h = ap letter h.written
asked_letter words (OverStore Adopt) h = ap letter h

pub same_letter : (words : List (List ℕ)) (a b : Command) → IsCommand words a → IsCommand words b → letter_of b ≡ letter_of a
same_letter words a b one two = sym (asked_letter words b two.1) ∙ asked_letter words a one.1

name_in : List (List ℕ) → List ℕ
name_in words = get_or words 1 []

pub same_name : (words : List (List ℕ)) (a b : Bor (List ℕ)) (q r : Query) → IsCommand words (OverStore (Get a q)) → IsCommand words (OverStore (Get b r)) → a.now ≡ b.now
unfolding name_in
same_name words a b q r one two = sym (ap name_in one.1.2) ∙ ap name_in two.1.2

-- words ask for one command: where one is an ingest, the other is
pub ingest_same : (words : List (List ℕ)) (c : StoreCommand) → IsCommand words (OverStore c) → IsCommand words (OverStore Ingest) → c ≡ Ingest
ingest_same words Ingest one two = refl
ingest_same words c one two = absurd (omega (arith, same_letter words (OverStore c) (OverStore Ingest) one two))

pub move_same : (words : List (List ℕ)) (c : StoreCommand) → IsCommand words (OverStore c) → IsCommand words (OverStore Etl) → c ≡ Etl
move_same words Etl one two = refl
move_same words c one two = absurd (omega (arith, same_letter words (OverStore c) (OverStore Etl) one two))

pub serve_same : (words : List (List ℕ)) (c : StoreCommand) (n : ServeWords) → IsCommand words (OverStore c) → IsCommand words (OverStore (Serve n)) → (m : ServeWords) × (c ≡ Serve m)
serve_same words (Serve m) n one two = (m, refl)
serve_same words c n one two = absurd (omega (arith, same_letter words (OverStore c) (OverStore (Serve n)) one two))

pub not_both : (words : List (List ℕ)) (q : Query) (c : StoreCommand) → IsCommand words (Extract q) → IsCommand words (OverStore c) → ⊥
not_both words q Ingest one two = omega (arith, same_letter words (Extract q) (OverStore Ingest) one two)
not_both words q c one two = omega (arith, same_letter words (Extract q) (OverStore c) one two)

-- words that ask for a drill ask for nothing else
pub drill_alone : (words : List (List ℕ)) (c : Command) (d : DrillState) → IsCommand words c → IsCommand words (Drill d) → (e : DrillState) × (c ≡ Drill e)
drill_alone words (Drill e) d one two = (e, refl)
drill_alone words (Extract q) d one two = absurd (omega (arith, same_letter words (Extract q) (Drill d) one two))
drill_alone words (OverStore Ingest) d one two = absurd (omega (arith, same_letter words (OverStore Ingest) (Drill d) one two))
drill_alone words (OverStore c) d one two = absurd (omega (arith, same_letter words (OverStore c) (Drill d) one two))

-- FAULTY WORDS

dashes : (words : List (Bor (List ℕ))) → list_any has_dash (texts words) ≡ list_any (λ w. has_dash w.now) words
dashes [] = refl
dashes (w ∷ words) = ap (λ (b : Bool). has_dash w.now || b) (dashes words)

pub dash_faulty : (words : List (Bor (List ℕ))) (dash : Bool) → dash ≡ list_any (λ w. has_dash w.now) words → true ≡ dash → IsFaulty (texts words)
dash_faulty words dash is found command h = false≢true (sym h.0 ∙ dashes words ∙ sym is ∙ sym found)

pub asked_command : (words : List (Bor (List ℕ))) (dash : Bool) (r : Option Command) → dash ≡ list_any (λ w. has_dash w.now) words → false ≡ dash → IfSome r (λ c. AsksFor c (texts words)) → IfSome r (IsCommand (texts words))
asked_command words dash None is none found = tt
asked_command words dash (Some command) is none found = (dashes words ∙ sym is ∙ sym none, found)

pub asked_none : (words : List (Bor (List ℕ))) (r : Option Command) → IfNone r ((c : Command) → AsksFor c (texts words) → ⊥) → IfNone r (IsFaulty (texts words))
asked_none words None none = λ command h. none command h.1
asked_none words (Some command) none = tt

-- an interval that is none
pub not_extract : (word from to : List ℕ) → ((query : Query) → IsInterval from to query → ⊥) → (c : Command) → AsksFor c (word ∷ from ∷ to ∷ []) → ⊥
not_extract word from to none (Extract query) h =
    let first : h.0 ≡ from = sym (ap (λ (l : List (List ℕ)). get_or l 1 []) h.2) in
    let last : h.1 ≡ to = sym (ap (λ (l : List (List ℕ)). get_or l 2 []) h.2) in
    none query (subst (λ (t : List ℕ). IsInterval from t query) last (subst (λ (f : List ℕ). IsInterval f h.1 query) first h.3))
not_extract word from to none (Drill drill) h = let long : 3 ≡ 2 = ap length h.written in omega (arith, long)
not_extract word from to none (OverStore Ingest) h = let long : 3 ≡ 1 = ap length h in omega (arith, long)
not_extract word from to none (OverStore (Get name query)) h = let long : 3 ≡ 4 = ap length h.2 in omega (arith, long)
not_extract word from to none (OverStore Etl) h = let long : 3 ≡ 1 = ap length h in omega (arith, long)
not_extract word from to none (OverStore Status) h = let long : 3 ≡ 1 = ap length h in omega (arith, long)
not_extract word from to none (OverStore Check) h = let long : 3 ≡ 1 = ap length h in omega (arith, long)
not_extract word from to none (OverStore (Serve numbers)) h = let long : 3 ≡ 5 = ap length h.written in omega (arith, long)
not_extract word from to none (OverStore Adopt) h = let long : 3 ≡ 1 = ap length h in omega (arith, long)

pub not_get : (word name from to : List ℕ) → ((query : Query) → IsInterval from to query → ⊥) → (c : Command) → AsksFor c (word ∷ name ∷ from ∷ to ∷ []) → ⊥
not_get word name from to none (Extract query) h = let long : 4 ≡ 3 = ap length h.2 in omega (arith, long)
not_get word name from to none (Drill drill) h = let long : 4 ≡ 2 = ap length h.written in omega (arith, long)
not_get word name from to none (OverStore Ingest) h = let long : 4 ≡ 1 = ap length h in omega (arith, long)
not_get word name from to none (OverStore (Get other query)) h =
    let first : h.0 ≡ from = sym (ap (λ (l : List (List ℕ)). get_or l 2 []) h.2) in
    let last : h.1 ≡ to = sym (ap (λ (l : List (List ℕ)). get_or l 3 []) h.2) in
    none query (subst (λ (t : List ℕ). IsInterval from t query) last (subst (λ (f : List ℕ). IsInterval f h.1 query) first h.3))
not_get word name from to none (OverStore Etl) h = let long : 4 ≡ 1 = ap length h in omega (arith, long)
not_get word name from to none (OverStore Status) h = let long : 4 ≡ 1 = ap length h in omega (arith, long)
not_get word name from to none (OverStore Check) h = let long : 4 ≡ 1 = ap length h in omega (arith, long)
not_get word name from to none (OverStore (Serve numbers)) h = let long : 4 ≡ 5 = ap length h.written in omega (arith, long)
not_get word name from to none (OverStore Adopt) h = let long : 4 ≡ 1 = ap length h in omega (arith, long)

-- no command but `serve` has another number of words
pub other_length : (words : List (List ℕ)) → length words ≢ 1 → length words ≢ 2 → length words ≢ 3 → length words ≢ 4 → ((numbers : ServeWords) → AsksToServe words numbers → ⊥) → (c : Command) → AsksFor c words → ⊥
other_length words one two three four serves (Extract query) h = three (ap length h.2)
other_length words one two three four serves (Drill drill) h = two (ap length h.written)
other_length words one two three four serves (OverStore Ingest) h = one (ap length h)
other_length words one two three four serves (OverStore (Get name query)) h = four (ap length h.2)
other_length words one two three four serves (OverStore Etl) h = one (ap length h)
other_length words one two three four serves (OverStore Status) h = one (ap length h)
other_length words one two three four serves (OverStore Check) h = one (ap length h)
other_length words one two three four serves (OverStore (Serve numbers)) h = serves numbers h
other_length words one two three four serves (OverStore Adopt) h = one (ap length h)

pub other_none : (words : List (List ℕ)) → length words ≢ 1 → length words ≢ 2 → length words ≢ 3 → length words ≢ 4 → (r : Option Command) → IfNone r ((numbers : ServeWords) → AsksToServe words numbers → ⊥) → IfNone r ((c : Command) → AsksFor c words → ⊥)
other_none words one two three four None serves = λ c h. other_length words one two three four serves c h
other_none words one two three four (Some c) serves = tt

-- two words are of no command but `drill`
pub not_drill : (words : List (List ℕ)) → length words ≡ 2 → ((hours : ℕ) → AsksToDrill words hours → ⊥) → (c : Command) → AsksFor c words → ⊥
not_drill words two none (Extract query) h = let long : length words ≡ 3 = ap length h.2 in omega (arith, two, long)
not_drill words two none (Drill drill) h = none drill.hours h
not_drill words two none (OverStore Ingest) h = let long : length words ≡ 1 = ap length h in omega (arith, two, long)
not_drill words two none (OverStore (Get name query)) h = let long : length words ≡ 4 = ap length h.2 in omega (arith, two, long)
not_drill words two none (OverStore Etl) h = let long : length words ≡ 1 = ap length h in omega (arith, two, long)
not_drill words two none (OverStore Status) h = let long : length words ≡ 1 = ap length h in omega (arith, two, long)
not_drill words two none (OverStore Check) h = let long : length words ≡ 1 = ap length h in omega (arith, two, long)
not_drill words two none (OverStore (Serve numbers)) h = let long : length words ≡ 5 = ap length h.written in omega (arith, two, long)
not_drill words two none (OverStore Adopt) h = let long : length words ≡ 1 = ap length h in omega (arith, two, long)

pub drill_none : (words : List (List ℕ)) → length words ≡ 2 → (r : Option Command) → IfNone r ((hours : ℕ) → AsksToDrill words hours → ⊥) → IfNone r ((c : Command) → AsksFor c words → ⊥)
drill_none words two None none = λ c h. not_drill words two none c h
drill_none words two (Some c) none = tt
