use Rattle.std.proofs.Common.{◌≡◌, ◌∷◌, ◌++◌, [], ℕ, List, Bool, true, refl, sym, ◌∙◌, ap, subst}
use Rattle.std.specs.Prelude.{Contains}
use Rattle.std.proofs.lemmas.Bool.{false≢true}
use Rattle.store_reopen.specs.Adoption.{GetRows, kept, refused, stopped, too_long}
use Rattle.store_reopen.proofs.TakenFiles.{among, free_by, goes_first, goes_none, on_err, refused_by, stops_first, stops_none}
use Rattle.store_reopen.proofs.registering.register.Goals as goal

pub returns-then-is_some-clause-goes : goal.returns-then-is_some-clause-goes
returns-then-is_some-clause-goes g c told ms has x xs some =
    let rows = c.args.catalogue.now.rows in
    let long = c.args.long.now.items in
    let r = refused_by rows c.args.candidate.now.name c.refusal.result (sym c.is_some.ensures ∙ c.if-is_some.true) c.refusal.ensures.refuses in
    goes_none g.D.Disk c.args.catalogue.now ms c.args.disk.now (λ whole. GetRows whole rows long (x ∷ xs)) (λ whole. GetRows whole rows long xs) (λ whole more left. refused some r.0 r.1 left)

among_them : (deref long : List (List ℕ)) (name : List ℕ) (b : Bool) → deref ≡ long → (b ≡ true → Contains deref name) × (Contains deref name → b ≡ true) → (b ≡ true → Contains long name) × (Contains long name → b ≡ true)
among_them deref long name b is both = subst (λ (l : List (List ℕ)). (b ≡ true → Contains l name) × (Contains l name → b ≡ true)) is both

pub returns-then-contains-clause-goes : goal.returns-then-contains-clause-goes
returns-then-contains-clause-goes g c told ms has x xs some =
    let rows = c.args.catalogue.now.rows in
    let long = c.args.long.now.items in
    let name = c.args.candidate.now.name in
    let both = among_them c.deref.result.now long name c.contains.result c.deref.ensures.value (among c.deref.result.now name c.contains.result c.contains.ensures.cases) in
    goes_none g.D.Disk c.args.catalogue.now ms c.args.disk.now (λ whole. GetRows whole rows long (x ∷ xs)) (λ whole. GetRows whole rows long xs) (λ whole more left. kept some (both.0 c.if-contains.true) left)

pub returns-then-is_short-clause-goes : goal.returns-then-is_short-clause-goes
returns-then-is_short-clause-goes g c told ms has x xs some =
    let rows = c.args.catalogue.now.rows in
    let long = c.args.long.now.items in
    let name = c.args.candidate.now.name in
    let both = among_them c.deref.result.now long name c.contains.result c.deref.ensures.value (among c.deref.result.now name c.contains.result c.contains.ensures.cases) in
    goes_first g.D.Disk c.args.catalogue.now c.register_first.new.catalogue ms c.args.disk.now c.register_first.new.disk long x xs c.args.candidate.now some (λ within. absurd (false≢true (sym c.if-contains.false ∙ both.1 within)))
    (free_by rows name c.refusal.result (sym c.is_some.ensures ∙ c.if-is_some.false) c.refusal.ensures.none) ((c.is_short.ensures.short rows).0 c.if-is_short.true) c.register_first.result c.register_first.ensures.rows (c.register_first.ensures.makes told ms has)

pub returns-then-is_short-clause-stops : goal.returns-then-is_short-clause-stops
returns-then-is_short-clause-stops g c told ms has x xs some =
    let rows = c.args.catalogue.now.rows in
    let long = c.args.long.now.items in
    let name = c.args.candidate.now.name in
    let both = among_them c.deref.result.now long name c.contains.result c.deref.ensures.value (among c.deref.result.now name c.contains.result c.contains.ensures.cases) in
    stops_first g.D.Disk c.args.catalogue.now c.register_first.new.catalogue ms c.args.disk.now c.register_first.new.disk long x xs c.args.candidate.now some (λ within. absurd (false≢true (sym c.if-contains.false ∙ both.1 within)))
    (free_by rows name c.refusal.result (sym c.is_some.ensures ∙ c.if-is_some.false) c.refusal.ensures.none) ((c.is_short.ensures.short rows).0 c.if-is_short.true) c.register_first.result (c.register_first.ensures.stops told ms has)

pub returns-in_err-clone-clause-stops : goal.returns-in_err-clone-clause-stops
returns-in_err-clone-clause-stops g c told ms has x xs some =
    on_err c.from_residual.result (stops_none g.D.Disk c.args.catalogue.now ms c.args.disk.now (λ whole. GetRows whole c.args.catalogue.now.rows c.args.long.now.items (x ∷ xs)) (stopped refl))

pub returns-in_err-push-clause-stops : goal.returns-in_err-push-clause-stops
returns-in_err-push-clause-stops g c told ms has x xs some =
    on_err c.from_residual-in_err-push.result (stops_none g.D.Disk c.args.catalogue.now ms c.args.disk.now (λ whole. GetRows whole c.args.catalogue.now.rows c.args.long.now.items (x ∷ xs)) (stopped refl))

pub returns-clause-goes : goal.returns-clause-goes
returns-clause-goes g c told ms has x xs some =
    let rows = c.args.catalogue.now.rows in
    let long = c.args.long.now.items in
    let name = c.args.candidate.now.name in
    let items : c.push.new.self.items ≡ long ++ name ∷ [] = c.in_ok-push.ensures.items ∙ ap (λ (n : List ℕ). long ++ n ∷ []) c.in_ok-clone.ensures.cases in
    goes_none g.D.Disk c.args.catalogue.now ms c.args.disk.now (λ whole. GetRows whole rows long (x ∷ xs)) (λ whole. GetRows whole rows c.push.new.self.items xs) (λ whole more left.
    too_long some (λ short. absurd (false≢true (sym c.if-is_short.false ∙ (c.is_short.ensures.short rows).1 short))) (subst (λ (l : List (List ℕ)). GetRows whole rows l xs more) items left))
