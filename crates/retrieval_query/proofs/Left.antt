-- The pieces that are left of a pin, as others act.
use Rattle.std.proofs.Common.{◌≡◌, ℕ, zero, suc, ◌+◌, ◌<◌, List, [], ◌∷◌, length, take, drop, Some, None, refl, sym, ap, ◌∙◌, subst, arith, take_all, drop_of_length-le, ◌^◌}
use Rattle.std.specs.Prelude.{slice_get, map}
use Rattle.std.proofs.lemmas.Option.{slice_get_past}
use Rattle.std.specs.List.{AllZip, AllByRecursion}
use Rattle.std.specs.FinMap.{get}
use Rattle.line_escape.specs.Unescaping.{HasNoNewline}
use Rattle.disk_model.specs.Files.{Name}
use Rattle.act_model.specs.declared.acts.Act.TheVariants.{OpenPiece}
use Rattle.act_model.specs.declared.acts.Answer.TheVariants.{Piece}
use Rattle.act_model.specs.Growth.{Onward, RowsOn}
use Rattle.act_model.specs.History.{Entry, Done, Made, MadeOne, Goes, mine, done_of}
use Rattle.act_model.specs.Limbo.{RowFile}
use Rattle.act_model.specs.Machine.{Machine, PinState}
use Rattle.act_model.specs.OpenPiece.{bytes_of, name_of, lines_of}
use Rattle.act_model.specs.Pinned.{AllKeep}
use Rattle.act_model.specs.Reply.{OpenedFile}
use Rattle.act_model.specs.Rows.{RowState}
use Rattle.act_model.specs.Sound.{IsSound}
use Rattle.act_model.proofs.Histories.{runs_onward}
use Rattle.act_model.proofs.PinLaws.{opens_pinned, pin_stands}
use Rattle.pb_lines.proofs.FileLines.{one_line}
use Rattle.stream_merge.specs.Pieces.{NamedBytes, IsHeadLen}
use Rattle.retrieval_query.specs.Openings.{LeftOf, IsNamedAs}
use Rattle.retrieval_query.specs.Held.{IsOther, keeps}
use Rattle.retrieval_query.proofs.Steps.{one_step}

-- a row keeps its name
named_on : (old new : List RowState) (f : RowFile) (n : NamedBytes) → RowsOn old new → IsNamedAs old f n → IsNamedAs new f n
named_on old new f n on is =
    let row = on f.row is.row is.here in
    record { row = row.0; here = row.1; whole = is.whole; is = is.is ∙ ap (λ (name : List ℕ). record { name = name_of (record row.0 { name = name }) f; bytes = bytes_of f }) (sym row.2.name) }

all_on : (old new : List RowState) (fs : List RowFile) (ps : List NamedBytes) → RowsOn old new → AllZip (IsNamedAs old) fs ps → AllZip (IsNamedAs new) fs ps
all_on old new [] [] on all = tt
all_on old new [] (p ∷ ps) on all = all
all_on old new (f ∷ fs) [] on all = all
all_on old new (f ∷ fs) (p ∷ ps) on all = (named_on old new f p on all.0, all_on old new fs ps on all.1)

absurd_none : {f : RowFile} → None ≡ Some f → ⊥
absurd_none is = cc

drop_suc : (fs : List RowFile) (i : ℕ) (f : RowFile) → slice_get fs i ≡ Some f → drop i fs ≡ f ∷ drop (suc i) fs
drop_suc [] i f is = absurd (absurd_none (sym (slice_get_past [] i (omega arith)) ∙ is))
drop_suc (g ∷ fs) zero f is = let same : g ≡ f = cc in ap (λ (x : RowFile). x ∷ fs) same
drop_suc (g ∷ fs) (suc i) f is = drop_suc fs i f is

drop_here : (fs : List RowFile) (i : ℕ) (f : RowFile) → slice_get fs i ≡ Some f → drop i fs ≡ f ∷ drop (i + 1) fs
drop_here fs i f is = let one : suc i ≡ i + 1 = omega arith in drop_suc fs i f is ∙ ap (λ (n : ℕ). f ∷ drop n fs) one

none_dropped : (fs : List RowFile) (i : ℕ) → length fs ≡ i → drop i fs ≡ []
none_dropped fs i is = drop_of_length-le fs (omega (arith, is))

-- the first of two lists that go together
split : {F : Type 0} (R : F → NamedBytes → Type 0) (f : F) (fs : List F) (ps : List NamedBytes) → AllZip R (f ∷ fs) ps → (p : NamedBytes) × (rest : List NamedBytes) × (ps ≡ p ∷ rest) × R f p × AllZip R fs rest
split R f fs [] all = absurd all
split R f fs (p ∷ rest) all = (p, rest, refl, all.0, all.1)

none_beside : {F : Type 0} (R : F → NamedBytes → Type 0) (ps : List NamedBytes) → AllZip R [] ps → ps ≡ []
none_beside R [] all = refl
none_beside R (p ∷ ps) all = absurd all

shown : (f : RowFile) (reader : OpenedFile) (len : ℕ) → reader.bytes ≡ bytes_of f → len ≡ length (bytes_of f) → take len reader.bytes ≡ bytes_of f
shown f reader len bytes len_is = ap (λ (l : List ℕ). take len l) bytes ∙ (ap (λ (n : ℕ). take n (bytes_of f)) len_is ∙ take_all (length (bytes_of f)) (bytes_of f) (omega arith))

head_len_is : (f : RowFile) (bytes : List ℕ) (head_len : ℕ) → HasNoNewline f.head → bytes ≡ bytes_of f → head_len ≡ length f.head + 1 → IsHeadLen head_len bytes
head_len_is f bytes head_len whole is len = λ head info samples file.
    let same = one_line f.head head (lines_of f.samples) _ whole file.whole (sym is ∙ file.text) in
    len ∙ ap (λ (l : List ℕ). length l + 1) same.0

-- the pin as it stands later, and the rows that went on since
pub record PinStays {A : Type 0} (number : A → ℕ) (stands : A → Machine → Type 0) (m : Machine) (pin : ℕ) (state : PinState) (b : A) : Type 0 where
  pub after : Machine
  pub stands_for : stands b after
  pub there : get after.pins pin ≡ Some state
  pub owner : state.owner ≡ number b
  pub on : Onward m after

module _ {A : Type 0} (number : A → ℕ) (between : A → List Entry → A → Type 0) (stands : A → Machine → Type 0)
    (legal : (a b : A) (entries : List Entry) (m : Machine) → between a entries b → stands a m → Goes (stands b) m entries) (sound : (a : A) (m : Machine) → stands a m → IsSound m)
    (number_stays : (a b : A) (entries : List Entry) → between a entries b → number b ≡ number a) where
  pub pin_stays : (a b : A) (pin : ℕ) (acts : List Done) (m : Machine) (state : PinState) → AllByRecursion (IsOther pin) acts → stands a m → get m.pins pin ≡ Some state → state.owner ≡ number a → Made number between a acts b → PinStays number stands m pin state b
  pin_stays a b pin acts m state others s there own_it made =
      let goes = legal a b made.entries m made.leads s in
      let all : AllByRecursion (IsOther pin) (mine (number a) made.entries) = subst (λ (l : List Done). AllByRecursion (IsOther pin) l) (sym made.just_these) others in
      let keep : AllKeep state.owner pin made.entries = subst (λ (n : ℕ). AllKeep n pin made.entries) (sym own_it) (keeps (number a) pin made.entries all) in
      record {
        after = goes.after;
        stands_for = goes.stands_for;
        there = (pin_stands pin state made.entries m goes.after (sound a m s) goes.runs keep there).there;
        owner = own_it ∙ sym (number_stays a b made.entries made.leads);
        on = runs_onward made.entries m goes.after (sound a m s) goes.runs;
      }

  -- whatever else the actor did
  pub left_on : (a b : A) (pin next left : ℕ) (acts : List Done) (ps : List NamedBytes) → AllByRecursion (IsOther pin) acts → LeftOf number stands a pin next left ps → Made number between a acts b → LeftOf number stands b pin next left ps
  left_on a b pin next left acts ps others l made =
      let h = l.holds in
      let stays = pin_stays a b pin acts h.m h.state others h.stands_for h.there h.owner made in
      record {
        holds = record { m = stays.after; stands_for = stays.stands_for; state = h.state; there = stays.there; owner = stays.owner; all = h.all; few = h.few };
        told = stays.on.told ∙ l.told;
        rest = all_on h.m.rows stays.after.rows (drop next h.state.pieces) ps (stays.on.rows l.told) l.rest;
      }

  pub left_none : (a : A) (pin next left : ℕ) (ps : List NamedBytes) → left ≡ 0 → LeftOf number stands a pin next left ps → ps ≡ []
  left_none a pin next left ps none l =
      let h = l.holds in
      none_beside (IsNamedAs h.m.rows) ps (subst (λ (fs : List RowFile). AllZip (IsNamedAs h.m.rows) fs ps) (none_dropped h.state.pieces next (omega (arith, h.all, none))) l.rest)

  -- a piece was opened: it is the first of those that were left
  pub left_opened : (a b : A) (pin next left next₂ left₂ : ℕ) (ps : List NamedBytes) (reader : OpenedFile) (name : Name) (head_len len : ℕ) → LeftOf number stands a pin next left ps → MadeOne number between a (OpenPiece pin next) (Piece reader name head_len len) b → next₂ ≡ next + 1 → next₂ + left₂ ≡ next + left
      → (rest : List NamedBytes) × (ps ≡ record { name = name; bytes = take len reader.bytes } ∷ rest) × IsHeadLen head_len (take len reader.bytes) × LeftOf number stands b pin next₂ left₂ rest
  left_opened a b pin next left next₂ left₂ ps reader name head_len len l made next_is all =
      let h = l.holds in
      let s = one_step number between stands legal a b (OpenPiece pin next) (Piece reader name head_len len) h.m h.stands_for made in
      let none : AllByRecursion (IsOther pin) (mine (number a) s.before_it) = subst (λ (es : List Entry). AllByRecursion (IsOther pin) (map done_of es)) (sym s.none_before) tt in
      let keep : AllKeep h.state.owner pin s.before_it = subst (λ (n : ℕ). AllKeep n pin s.before_it) (sym h.owner) (keeps (number a) pin s.before_it none) in
      let opened = opens_pinned pin next h.state s.before_it h.m s.at s.after l.told (sound a h.m h.stands_for) s.to keep h.there (number a) reader name head_len len s.step in
      let f = opened.piece in
      let to = runs_onward s.before_it h.m s.at (sound a h.m h.stands_for) s.to in
      let first = split (IsNamedAs h.m.rows) f (drop (next + 1) h.state.pieces) ps (subst (λ (fs : List RowFile). AllZip (IsNamedAs h.m.rows) fs ps) (drop_here h.state.pieces next f opened.at) l.rest) in
      let here = named_on h.m.rows s.at.rows f first.0 (to.rows l.told) first.3 in
      let name_is : name ≡ name_of here.row f = opened.named here.row here.here in
      let bytes_are : take len reader.bytes ≡ bytes_of f = shown f reader len opened.shows.bytes opened.shows.len_is in
      let p_is : first.0 ≡ record { name = name; bytes = take len reader.bytes } = here.is ∙ (ap (λ (n : Name). record { name = n; bytes = bytes_of f }) (sym name_is) ∙ ap (λ (bytes : List ℕ). record { name = name; bytes = bytes }) (sym bytes_are)) in
      let stays = pin_stays a b pin (record { act = OpenPiece pin next; answer = Piece reader name head_len len } ∷ []) h.m h.state (λ is. cc, tt) h.stands_for h.there h.owner made in (
        first.1,
        first.2 ∙ ap (λ (p : NamedBytes). p ∷ first.1) p_is,
        head_len_is f (take len reader.bytes) head_len here.whole bytes_are opened.shows.head_is,
        record {
          holds = record { m = stays.after; stands_for = stays.stands_for; state = h.state; there = stays.there; owner = stays.owner; all = h.all ∙ sym all; few = subst (λ (n : ℕ). n < 2 ^ 32) (sym all) h.few };
          told = stays.on.told ∙ l.told;
          rest = subst (λ (n : ℕ). AllZip (IsNamedAs stays.after.rows) (drop n h.state.pieces) first.1) (sym next_is) (all_on h.m.rows stays.after.rows (drop (next + 1) h.state.pieces) first.1 (stays.on.rows l.told) first.4);
        },
      )
