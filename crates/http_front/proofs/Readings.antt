-- Why several parameters are refused, by why one of them is.
use Rattle.std.proofs.Common.{List, ℕ, [], ◌∷◌, inl, inr}
use Rattle.http_front.specs.declared.request.Param.{Param}
use Rattle.http_front.specs.declared.request.HttpErr.{HttpErr}
use Rattle.http_front.specs.declared.request.HttpErr.TheVariants.{SourceFault, BadHead, HeadTooLong, BadMethod, BadPath, BadParameter, Memory}
use Rattle.http_front.specs.Query.{IsGood, IsFirstBad, Refuses}

first_of_more : (query : List ℕ) (p : Param) (ps : List Param) (which : Param) → IsFirstBad query (p ∷ []) which → IsFirstBad query (p ∷ ps) which
first_of_more query p ps which (inl bad) = inl bad
first_of_more query p ps which (inr bad) = absurd bad.1

-- the first of several isn't good
pub first_refused : (query : List ℕ) (p : Param) (ps : List Param) (e : HttpErr) → Refuses query (p ∷ []) e → Refuses query (p ∷ ps) e
first_refused query p ps SourceFault h = h
first_refused query p ps BadHead h = h
first_refused query p ps HeadTooLong h = h
first_refused query p ps BadMethod h = h
first_refused query p ps BadPath h = h
first_refused query p ps (BadParameter which) h = first_of_more query p ps which h
first_refused query p ps Memory h = h

-- the first is good, and of the others one isn't
pub later_refused : (query : List ℕ) (p : Param) (ps : List Param) (e : HttpErr) → IsGood query p → Refuses query ps e → Refuses query (p ∷ ps) e
later_refused query p ps SourceFault good h = h
later_refused query p ps BadHead good h = h
later_refused query p ps HeadTooLong good h = h
later_refused query p ps BadMethod good h = h
later_refused query p ps BadPath good h = h
later_refused query p ps (BadParameter which) good h = inr (good, h)
later_refused query p ps Memory good h = h
