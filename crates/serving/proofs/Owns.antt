-- Lists of entries and what was done under a number.
use Rattle.std.proofs.Common.{◌≡◌, ℕ, ◌+◌, ◌≤◌, List, [], ◌∷◌, ◌++◌, length, Bool, true, false, cond, zero, suc, refl, ap, sym, ◌∙◌, arith, inl, inr}
use Rattle.std.specs.Prelude.{◌⊎◌, ◌==◌, map, Contains}
use Rattle.std.specs.List.{AllByRecursion}
use Rattle.std.proofs.lemmas.Bool.Decides.{nat_tests}
use Rattle.std.proofs.lemmas.List.{map-append}
use Rattle.std.proofs.lemmas.List.Elements.{recursion_from_All}
use Rattle.act_model.specs.declared.acts.Act.{Act}
use Rattle.act_model.specs.declared.acts.Act.TheVariants.{Register, Pause, Resume, Rename, Offer, Tick, Flush, MoveBegin, MoveStep, Sweep, Pin, OpenPiece, Unpin, Names, Details, Doors, DoorDone}
use Rattle.act_model.specs.History.{Entry, Done, done_of, mine}
use Rattle.act_model.specs.Roles.{is_of_link}
use Rattle.serving.specs.Rounds.{IsShift}
use Rattle.act_model.proofs.Histories.{mine_same, mine_other}

-- DOORS THAT ARE DONE

abbrev pub drops : Act → ℕ
drops (Register name about) = 0
drops (Pause name) = 0
drops (Resume name) = 0
drops (Rename name newname) = 0
drops (Offer name ty t line now) = 0
drops (Tick row now) = 0
drops (Flush limit) = 0
drops (MoveBegin store now) = 0
drops (MoveStep m) = 0
drops Sweep = 0
drops (Pin name query) = 0
drops (OpenPiece pin i) = 0
drops (Unpin pin) = 0
drops (Names from most) = 0
drops (Details name) = 0
drops Doors = 0
drops DoorDone = 1

-- how many DoorDones
abbrev pub dones : List Done → ℕ
dones [] = 0
dones (d ∷ ds) = drops d.act + dones ds

pub dones-append : (xs ys : List Done) → dones (xs ++ ys) ≡ dones xs + dones ys
dones-append [] ys = omega arith
dones-append (x ∷ xs) ys = let more = dones-append xs ys in omega arith

abbrev pub dones_in : List Entry → ℕ
dones_in es = dones (map done_of es)

pub dones_in-append : (xs ys : List Entry) → dones_in (xs ++ ys) ≡ dones_in xs + dones_in ys
dones_in-append xs ys = ap dones (map-append done_of xs ys) ∙ dones-append (map done_of xs) (map done_of ys)

-- of workers, one by one
abbrev pub done_by : List ℕ → List Entry → ℕ
done_by [] es = 0
done_by (w ∷ ws) es = dones (mine w es) + done_by ws es

-- one of these numbers
abbrev pub among : List ℕ → ℕ → Bool
among [] q = false
among (w ∷ ws) q = cond (q == w) true (among ws q)

pub contains_among : (ws : List ℕ) (q : ℕ) → Contains ws q → among ws q ≡ true
contains_among [] q at = let low = at.1 in absurd (omega arith)
contains_among (w ∷ ws) q (zero, low, is) = let hit : (q == w) ≡ true = grind (arith, nat_tests) in rw hit refl
contains_among (w ∷ ws) q (suc k, low, is) = let more = contains_among ws q (k, omega arith, is) in by_test (q == w) more
  where
    by_test : (b : Bool) → among ws q ≡ true → cond b true (among ws q) ≡ true
    by_test true more = refl
    by_test false more = more

done_grows : (ws : List ℕ) (e : Entry) (es : List Entry) → done_by ws es ≤ done_by ws (e ∷ es)
done_grows [] e es = omega arith
done_grows (w ∷ ws) e es = by_test (e.who == w) refl (done_grows ws e es)
  where
    by_test : (b : Bool) → (e.who == w) ≡ b → done_by ws es ≤ done_by ws (e ∷ es) → done_by (w ∷ ws) es ≤ done_by (w ∷ ws) (e ∷ es)
    by_test true hit more = let same = ap dones (mine_same w e es hit) in omega arith
    by_test false other more = let same = ap dones (mine_other w e es other) in omega arith

done_rises : (ws : List ℕ) (e : Entry) (es : List Entry) → among ws e.who ≡ true → drops e.act + done_by ws es ≤ done_by ws (e ∷ es)
done_rises [] e es is = absurd cc
done_rises (w ∷ ws) e es is = by_test (e.who == w) refl is (λ there. done_rises ws e es there) (done_grows ws e es)
  where
    by_test : (b : Bool) → (e.who == w) ≡ b → cond b true (among ws e.who) ≡ true → (among ws e.who ≡ true → drops e.act + done_by ws es ≤ done_by ws (e ∷ es)) → done_by ws es ≤ done_by ws (e ∷ es) → drops e.act + done_by (w ∷ ws) es ≤ done_by (w ∷ ws) (e ∷ es)
    by_test true hit is more grows = let same = ap dones (mine_same w e es hit) in omega arith
    by_test false other is more grows = let same = ap dones (mine_other w e es other) in let one = more is in omega arith

-- each DoorDone is a worker's
pub all_done_by : (ws : List ℕ) (es : List Entry) → AllByRecursion (λ (e : Entry). (drops e.act ≡ 0) ⊎ (among ws e.who ≡ true)) es → dones_in es ≤ done_by ws es
all_done_by ws [] all = omega arith
all_done_by ws (e ∷ es) all = by_one all.0 (all_done_by ws es all.1)
  where
    by_one : (drops e.act ≡ 0) ⊎ (among ws e.who ≡ true) → dones_in es ≤ done_by ws es → dones_in (e ∷ es) ≤ done_by ws (e ∷ es)
    by_one (inl none) more = let grows = done_grows ws e es in omega arith
    by_one (inr hit) more = let rises = done_rises ws e es hit in omega arith

pub link_drops : (act : Act) → is_of_link act ≡ true → drops act ≡ 0
link_drops (Register name about) is = refl
link_drops (Pause name) is = refl
link_drops (Resume name) is = refl
link_drops (Rename name newname) is = refl
link_drops (Offer name ty t line now) is = refl
link_drops (Tick row now) is = refl
link_drops (Flush limit) is = refl
link_drops (MoveBegin store now) is = refl
link_drops (MoveStep m) is = refl
link_drops Sweep is = refl
link_drops (Pin name query) is = refl
link_drops (OpenPiece pin i) is = refl
link_drops (Unpin pin) is = refl
link_drops (Names from most) is = refl
link_drops (Details name) is = refl
link_drops Doors is = refl
link_drops DoorDone is = absurd cc

links_none : (ds : List Done) → AllByRecursion (λ (d : Done). is_of_link d.act ≡ true) ds → dones ds ≡ 0
links_none [] all = refl
links_none (d ∷ ds) all = let one = link_drops d.act all.0 in let more = links_none ds all.1 in omega arith

pub shift_one : (ds : List Done) → IsShift ds → dones ds ≡ 1
shift_one ds s =
    let none : dones s.links ≡ 0 = links_none s.links (recursion_from_All (λ (d : Done). is_of_link d.act ≡ true) s.links s.are) in
    let one : drops s.last.act ≡ 1 = ap drops s.done in
    let whole = ap dones s.is ∙ dones-append s.links (s.last ∷ []) in
    omega arith

pub shifts_done : (ws : List ℕ) (es : List Entry) → AllByRecursion (λ (w : ℕ). IsShift (mine w es)) ws → done_by ws es ≡ length ws
shifts_done [] es all = refl
shifts_done (w ∷ ws) es all = let one = shift_one (mine w es) all.0 in let more = shifts_done ws es all.1 in omega arith

-- what is left of a shift has its DoorDone
last_left : (links ys zs : List Done) (last : Done) → links ++ last ∷ [] ≡ ys ++ zs → (zs ≡ []) ⊎ (drops last.act ≤ dones zs)
last_left links [] zs last is = inr (let whole = ap dones (sym is) ∙ dones-append links (last ∷ []) in omega arith)
last_left [] (y ∷ ys) zs last is = inl (no_more ys zs cc)
  where
    no_more : (ys zs : List Done) → [] ≡ ys ++ zs → zs ≡ []
    no_more [] zs is = sym is
    no_more (y ∷ ys) zs is = absurd cc
last_left (x ∷ links) (y ∷ ys) zs last is = last_left links ys zs last cc

pub shift_left : (ys zs : List Done) → IsShift (ys ++ zs) → (zs ≡ []) ⊎ (1 ≤ dones zs)
shift_left ys zs s = by_left (last_left s.links ys zs s.last (sym s.is))
  where
    by_left : (zs ≡ []) ⊎ (drops s.last.act ≤ dones zs) → (zs ≡ []) ⊎ (1 ≤ dones zs)
    by_left (inl none) = inl none
    by_left (inr some) = inr (let one : drops s.last.act ≡ 1 = ap drops s.done in omega arith)

-- one's own DoorDones are among all
pub mine_fewer : (who : ℕ) (es : List Entry) → dones (mine who es) ≤ dones_in es
mine_fewer who [] = omega arith
mine_fewer who (e ∷ es) = by_test (e.who == who) refl (mine_fewer who es)
  where
    by_test : (b : Bool) → (e.who == who) ≡ b → dones (mine who es) ≤ dones_in es → dones (mine who (e ∷ es)) ≤ dones_in (e ∷ es)
    by_test true hit more = let same = ap dones (mine_same who e es hit) in omega arith
    by_test false other more = let same = ap dones (mine_other who e es other) in omega arith
