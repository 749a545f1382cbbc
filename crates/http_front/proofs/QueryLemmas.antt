-- The first pair of a name.
use Rattle.std.proofs.Common.{◌≡◌, ℕ, ◌⊎◌, true, false, List, [], ◌∷◌, Option, Some, None, Ok, Err, refl, sym, ap, ◌∙◌, subst, inl, inr, arith}
use Rattle.std.specs.Prelude.{bytes_eq, option_map}
use Rattle.std.proofs.lemmas.Bool.{cond-true, cond-false}
use Rattle.arch_time.specs.Iso.{IsIso}
use Rattle.pv_name.specs.Name.{IsName, IsRefusedAt}
use Rattle.sample_bins.specs.declared.op.Op.{Op}
use Rattle.sample_bins.specs.Words.{Asks}
use Rattle.sample_bins.proofs.Asking.{one_asked}
use Rattle.http_front.specs.declared.request.Param.{Param}
use Rattle.http_front.specs.declared.request.Param.TheVariants.{Pv, PvOrBins, From, To, NewName}
use Rattle.http_front.specs.Param.{name_of}
use Rattle.http_front.specs.Query.{text_of, first_of, value_of, IsNamed, IsMoment, IsGood}

abbrev Pair : Type 0
Pair = List ℕ × List ℕ

pub first_none : (name : List ℕ) → first_of name [] ≡ None
unfolding first_of
first_none name = refl

pub first_here : (name key value : List ℕ) (rest : List Pair) → bytes_eq (text_of key) name ≡ true → first_of name ((key, value) ∷ rest) ≡ Some (text_of value)
unfolding first_of
first_here name key value rest e = ap (λ (found : Option Pair). option_map (λ (pair : Pair). text_of pair.1) found) (cond-true _ _ _ e)

pub first_later : (name key value : List ℕ) (rest : List Pair) → bytes_eq (text_of key) name ≡ false → first_of name ((key, value) ∷ rest) ≡ first_of name rest
unfolding first_of
first_later name key value rest e = ap (λ (found : Option Pair). option_map (λ (pair : Pair). text_of pair.1) found) (cond-false _ _ _ e)

pub no_ok : {A E : Type 0} (a : A) (e : E) → Ok a ≡ Err e → ⊥
no_ok a e p = cc

one_some : (a b : List ℕ) → Some a ≡ Some b → a ≡ b
one_some a b e = cc

-- a text that tells no moment
not_a_moment : (query : List ℕ) (which : Param) (text : List ℕ) → value_of (name_of which) query ≡ Some text → ((t : ℕ) → IsIso text t → ⊥) → (t : ℕ) → IsMoment which query t → ⊥
not_a_moment query which text found none t m = none t (subst (λ (v : List ℕ). IsIso v t) (one_some m.0 text (sym m.1 ∙ found)) m.2)

pub no_moment : (query : List ℕ) (which : Param) (text : List ℕ) → (which ≡ From) ⊎ (which ≡ To) → value_of (name_of which) query ≡ Some text → ((t : ℕ) → IsIso text t → ⊥) → IsGood query which → ⊥
no_moment query which text (inl from) found none good =
    let m = subst (λ (w : Param). IsGood query w) from good in
    not_a_moment query From text (subst (λ (w : Param). value_of (name_of w) query ≡ Some text) from found) none m.0 m.1
no_moment query which text (inr to) found none good =
    let m = subst (λ (w : Param). IsGood query w) to good in
    not_a_moment query To text (subst (λ (w : Param). value_of (name_of w) query ≡ Some text) to found) none m.0 m.1

never_named : (name : List ℕ) (at : ℕ) → IsRefusedAt name at → IsName name → ⊥
never_named name at (inl long) is = omega (arith, long.0, is.short)
never_named name at (inr first) is = is.faultless at first.1.here

-- a text that is no name
not_a_name : (query : List ℕ) (which : Param) (text : List ℕ) (at : ℕ) → value_of (name_of which) query ≡ Some text → IsRefusedAt text at → (name : List ℕ) → IsNamed which query name → ⊥
not_a_name query which text at found bad name n = never_named text at bad (subst IsName (one_some name text (sym n.0 ∙ found)) n.1)

pub not_named : (query : List ℕ) (which : Param) (text : List ℕ) (at : ℕ) → (which ≡ Pv) ⊎ (which ≡ NewName) → value_of (name_of which) query ≡ Some text → IsRefusedAt text at → IsGood query which → ⊥
not_named query which text at (inl pv) found bad good =
    let n = subst (λ (w : Param). IsGood query w) pv good in
    not_a_name query Pv text at (subst (λ (w : Param). value_of (name_of w) query ≡ Some text) pv found) bad n.0 n.1
not_named query which text at (inr new) found bad good =
    let n = subst (λ (w : Param). IsGood query w) new good in
    not_a_name query NewName text at (subst (λ (w : Param). value_of (name_of w) query ≡ Some text) new found) bad n.0 n.1

-- a text that asks for something whose name is refused
pub not_asked : (query text name : List ℕ) (op : Option Op) (at : ℕ) → value_of (name_of PvOrBins) query ≡ Some text → Asks text op name → IsRefusedAt name at → IsGood query PvOrBins → ⊥
not_asked query text name op at found asks bad good =
    let same : good.2.0 ≡ text = one_some good.2.0 text (sym good.2.1 ∙ found) in
    let one = one_asked text good.1 name good.0 op (subst (λ (t : List ℕ). Asks t good.0 good.1) same good.2.2) asks in
    never_named name at bad (subst (λ (n : List ℕ). IsName n) one.1 good.2.3)
