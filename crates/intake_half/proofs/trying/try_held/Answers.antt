use Rattle.std.proofs.Common.{◌≡◌, ◌+◌, ◌++◌, ◌∷◌, [], ℕ, length, List, Option, Some, None, Result, Ok, refl, sym, ◌∙◌, ap, subst, arith}
use Rattle.std.specs.Prelude.{IsSome}
use Rattle.std.proofs.lemmas.Option.{same_Some}
use Rattle.intake.specs.Tails.{TailState, tail_at, KeepsTails, SetsTail}
use Rattle.series_model.specs.declared.sample.Sample.{Sample}
use Rattle.intake_half.specs.declared.memory.RowMemory.{RowMemory}
use Rattle.intake_half.specs.declared.trying.NotKept.{NotKept}
use Rattle.intake_half.specs.Trying.{IsTried}
use Rattle.intake_half.proofs.trying.try_held.Goals as goal

-- what is there, where something is
there : {A : Type 0} (o : Option A) → IsSome o → (x : A) × (o ≡ Some x)
there {A} (Some x) is = (x, refl)
there {A} None is = absurd (cc (is))

-- what was tried is what is given up
same_tried : (next held now : ℕ) (o : Option Sample) (r : Result (Unit {0}) NotKept) (a : Unit {0}) → (s : Sample) × (o ≡ Some s) × IsTried next held s.t (length s.line) now r → (x : Sample) → Some x ≡ o → r ≡ Ok a → IsTried next held x.t (length x.line) now (Ok tt)
same_tried next held now o r a (s, is, tried) x given ok =
    let same : s ≡ x = sym (same_Some x s (given ∙ is)) in
    subst (λ (w : Sample). IsTried next held w.t (length w.line) now (Ok tt)) same (subst (λ (q : Result (Unit {0}) NotKept). IsTried next held s.t (length s.line) now q) ok tried)

-- spares alone changed before
set_over : (old mid new : List TailState) (row : ℕ) (xs : List Sample) → KeepsTails old mid → SetsTail row ((tail_at mid row).samples ++ xs) mid new → SetsTail row ((tail_at old row).samples ++ xs) old new
set_over old mid new row xs keeps sets = record { own = sets.own ∙ ap (λ (w : List Sample). w ++ xs) (keeps row); others = λ other apart. sets.others other apart ∙ keeps other }

pub keep-requires-clause-time : goal.keep-requires-clause-time
keep-requires-clause-time c = let s = there c.args.memory.now.scan c.requires.sampled in c.requires.time s.0 c.in-Some.sample s.1 (sym ((c.in-Some.ensures {u = tt}).held s.0 s.1).0)

pub keep-requires-clause-room : goal.keep-requires-clause-room
keep-requires-clause-room c =
    let s = there c.args.memory.now.scan c.requires.sampled in
    let tried = same_tried _ _ _ s.0.cell.held c.in-Some-Ok.field-0 c.in-Some-Ok.field-0-0 ((c.in-Some-Ok.ensures {u = tt}).tried s.0 s.1) c.in-Some.sample ((c.in-Some.ensures {u = tt}).held s.0 s.1).0 c.in-Some-Ok.field-0-is in
    let fits = tried.1 in
    let held = c.examine_held.ensures.held in
    omega (arith, fits, held)

pub returns-in-Some : goal.returns-in-Some
returns-in-Some c = λ sampled is.
    let moved = (c.in-Some.ensures {u = tt}).held sampled is in
    let tried = same_tried _ _ _ sampled.cell.held c.in-Some-Ok.field-0 c.in-Some-Ok.field-0-0 ((c.in-Some-Ok.ensures {u = tt}).tried sampled is) c.in-Some.sample moved.0 c.in-Some-Ok.field-0-is in
    (c.in-Some.sample, sym moved.0, refl, tried, set_over c.args.intake.now c.examine_held.new.intake c.keep.new.intake c.args.row (c.in-Some.sample ∷ []) c.examine_held.ensures.tails c.keep.ensures.tail, c.keep.ensures.memory ∙ ap (λ (w : RowMemory). record w { next = c.in-Some.sample.t + 1 }) moved.1)

pub returns-in-None-move_on : goal.returns-in-None-move_on
returns-in-None-move_on c = λ sampled is.
    let moved = (c.in-None-move_on.ensures {u = tt}).held sampled is in
    (sym moved.0, c.examine_held.ensures.tails, moved.1)
