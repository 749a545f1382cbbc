-- Two answers to the bytes of one source are one.
use Rattle.std.proofs.Common.{◌≡◌, ◌⊎◌, ℕ, ◌≤◌, List, [], ◌∷◌, ◌++◌, Option, Some, None, Result, Ok, Err, length, refl, sym, ap, ◌∙◌, subst, inl, inr, arith, append-nil}
use Rattle.httparse.specs.Grammar.{RequestHead, ReadsRequest, HasNoRequest, NeverHasRequest}
use Rattle.httparse.proofs.GrammarLemmas.{request_unique, ReadsRequest-append}
use Rattle.http_front.specs.declared.request.Request.{Request}
use Rattle.http_front.specs.declared.request.HttpErr.{HttpErr}
use Rattle.http_front.specs.declared.request.HttpErr.TheVariants.{SourceFault, BadHead, HeadTooLong, BadMethod, BadPath, BadParameter, Memory}
use Rattle.http_front.specs.Reading.{AnswersHead, Judges, HasRead}
use Rattle.http_front.specs.Laws.{IsAnswer, TellsNoHead}
use Rattle.http_front.proofs.Calls.{one_answer_of}

-- a head of what was taken is one of all
head_of_all : (xs taken left : List ℕ) (h : RequestHead) (rest : List ℕ) → xs ≡ taken ++ left → ReadsRequest taken h rest → ReadsRequest xs h (rest ++ left)
head_of_all xs taken left h rest is reads = subst (λ (v : List ℕ). ReadsRequest v h (rest ++ left)) (sym is) (ReadsRequest-append taken h rest left reads)

-- of two fronts of one list the shorter is a front of the longer
front_of : (xs a b left more : List ℕ) → xs ≡ a ++ left → xs ≡ b ++ more → length a ≤ length b → (rest : List ℕ) × (b ≡ a ++ rest)
front_of xs [] b left more p q le = (b, refl)
front_of xs (x ∷ a) [] left more p q le = absurd (omega arith)
front_of xs (x ∷ a) (y ∷ b) left more p q le =
    let same : x ∷ (a ++ left) ≡ y ∷ (b ++ more) = sym p ∙ q in
    let tails : a ++ left ≡ b ++ more = cc in
    let later = front_of (a ++ left) a b left more refl tails (omega arith) in
    let first : x ≡ y = cc in
    (later.0, cc (first, later.1))

-- what was taken has no head: it never has one, or the source ended, or no more is taken
abbrev IsHeadless : List ℕ → Type 0 → Type 0
IsHeadless taken Ended = NeverHasRequest taken ⊎ (HasNoRequest taken × (Ended ⊎ (length taken ≡ 16384)))

-- the bytes of the source have a head in front
not_headless : (xs taken left front rest : List ℕ) (h : RequestHead) → xs ≡ taken ++ left → length taken ≤ 16384 → ReadsRequest taken h rest → (more : List ℕ) → xs ≡ front ++ more → IsHeadless front (more ≡ []) → ⊥
not_headless xs taken left front rest h is most reads more at (inl never) =
    never more h (rest ++ left) (subst (λ (v : List ℕ). ReadsRequest v h (rest ++ left)) at (head_of_all xs taken left h rest is reads))
not_headless xs taken left front rest h is most reads more at (inr (none, inl ended)) =
    let whole : xs ≡ front = at ∙ ap (λ (v : List ℕ). front ++ v) ended ∙ append-nil front in
    none h (rest ++ left) (subst (λ (v : List ℕ). ReadsRequest v h (rest ++ left)) whole (head_of_all xs taken left h rest is reads))
not_headless xs taken left front rest h is most reads more at (inr (none, inr long)) =
    let split = front_of xs taken front left more is at (omega arith) in
    none h (rest ++ split.0) (subst (λ (v : List ℕ). ReadsRequest v h (rest ++ split.0)) (sym split.1) (ReadsRequest-append taken h rest split.0 reads))

-- what an answer tells of the bytes
tells : (taken : List ℕ) (Ended : Type 0) (a : Result Request HttpErr) → IsAnswer a → Judges taken Ended a → AnswersHead taken a ⊎ (TellsNoHead a × IsHeadless taken Ended)
tells taken Ended (Ok request) is x = inl x
tells taken Ended (Err SourceFault) is x = absurd is
tells taken Ended (Err BadHead) is (inl never) = inr (tt, inl never)
tells taken Ended (Err BadHead) is (inr cut) = inr (tt, inr (cut.0, inl cut.1))
tells taken Ended (Err HeadTooLong) is x = inr (tt, inr (x.1.0, inr x.0))
tells taken Ended (Err BadMethod) is x = inl x
tells taken Ended (Err BadPath) is x = inl x
tells taken Ended (Err (BadParameter which)) is x = inl x
tells taken Ended (Err Memory) is x = absurd is

-- one head is read from the bytes of a source, and it has one answer
one_of_heads : (xs taken left front more : List ℕ) (a b : Result Request HttpErr) → IsAnswer a → IsAnswer b → xs ≡ taken ++ left → xs ≡ front ++ more → AnswersHead taken a → AnswersHead front b → a ≡ b
one_of_heads xs taken left front more a b is_a is_b at also x y =
    let h = x.begins.head in
    let k = y.begins.head in
    let same = request_unique xs h k (x.begins.rest ++ left) (y.begins.rest ++ more) (head_of_all xs taken left h x.begins.rest at x.begins.reads) (head_of_all xs front more k y.begins.rest also y.begins.reads) in
    let method : y.method ≡ x.method = y.begins.method_is ∙ ap (λ (r : RequestHead). r.method) (sym same.0) ∙ sym x.begins.method_is in
    let target : y.target ≡ x.target = y.begins.target_is ∙ ap (λ (r : RequestHead). r.target) (sym same.0) ∙ sym x.begins.target_is in
    let minor : y.minor ≡ x.minor = y.begins.minor_is ∙ ap (λ (r : RequestHead). r.minor) (sym same.0) ∙ sym x.begins.minor_is in
    one_answer_of x.method x.target x.minor a b is_a is_b x.answers (rw (sym method, sym target, sym minor) y.answers)

compared : (xs taken left front more : List ℕ) (a b : Result Request HttpErr) → IsAnswer a → IsAnswer b → xs ≡ taken ++ left → xs ≡ front ++ more → length taken ≤ 16384 → length front ≤ 16384
    → AnswersHead taken a ⊎ (TellsNoHead a × IsHeadless taken (left ≡ [])) → AnswersHead front b ⊎ (TellsNoHead b × IsHeadless front (more ≡ [])) → (a ≡ b) ⊎ (TellsNoHead a × TellsNoHead b)
compared xs taken left front more a b is_a is_b at also most short (inl x) (inl y) = inl (one_of_heads xs taken left front more a b is_a is_b at also x y)
compared xs taken left front more a b is_a is_b at also most short (inl x) (inr y) = absurd (not_headless xs taken left front x.begins.rest x.begins.head at most x.begins.reads more also y.1)
compared xs taken left front more a b is_a is_b at also most short (inr x) (inl y) = absurd (not_headless xs front more taken y.begins.rest y.begins.head also short y.begins.reads left at x.1)
compared xs taken left front more a b is_a is_b at also most short (inr x) (inr y) = inr (x.0, y.0)

-- the same, where the source tells what it has left
left_told : (xs : List ℕ) (after later : Option (List ℕ)) (a b : Result Request HttpErr) → IsAnswer a → IsAnswer b → (x : HasRead (Some xs) after a) → (y : HasRead (Some xs) later b) → (a ≡ b) ⊎ (TellsNoHead a × TellsNoHead b)
left_told xs None later a b is_a is_b x y = absurd x.consumes
left_told xs (Some left) None a b is_a is_b x y = absurd y.consumes
left_told xs (Some left) (Some more) a b is_a is_b x y =
    compared xs x.taken left y.taken more a b is_a is_b x.consumes y.consumes x.most y.most (tells x.taken (left ≡ []) a is_a x.judges) (tells y.taken (more ≡ []) b is_b y.judges)

pub one_answer : (xs : List ℕ) (after later : Option (List ℕ)) (a b : Result Request HttpErr) → IsAnswer a → IsAnswer b → HasRead (Some xs) after a → HasRead (Some xs) later b → (a ≡ b) ⊎ (TellsNoHead a × TellsNoHead b)
one_answer xs after later a b is_a is_b x y = left_told xs after later a b is_a is_b x y
