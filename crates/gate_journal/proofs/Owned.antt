-- Calls on a journal's own files leave all other names as they are.
use Rattle.std.proofs.Common.{◌≡◌, refl, sym, ◌∙◌, ap, subst, arith}
use Rattle.disk_model.specs.Files.{Name, Content, Files, At}
use Rattle.disk_model.specs.Past.{Past, MayLeave, Passes}
use Rattle.disk_model.proofs.Passing.{passes_none, passes_then, passes_weaker}
use Rattle.gate_journal.specs.Generations.{IsOwn, AtOwn}

-- names that aren't the journal's are left alone
abbrev pub Leaves : Name → (Files → Files → Type 0) → Type 0
Leaves name S = (b c : Files) → S b c → (n : Name) → (IsOwn name n → ⊥) → c n ≡ b n

pub leaves_at : (name m : Name) (R : Content → Content → Type 0) → IsOwn name m → Leaves name (At m R)
leaves_at name m R own b c step n other = step.elsewhere n (λ is. other (subst (IsOwn name) (sym is) own))

pub leaves_all : (name : Name) → Leaves name (λ a b. b ≡ a)
leaves_all name b c same n other = ap (λ (f : Files). f n) same

module _ (name : Name) (R : Files → Files → Type 0) where
  pub own_none : (past : Past) → ((a : Files) → MayLeave past a → R a a) → Passes (AtOwn name R) past past
  own_none past here = passes_none (AtOwn name R) past (λ a was. record { here = here a was; elsewhere = λ n other. refl })

  pub own_first : (S : Files → Files → Type 0) (old new : Past) → Passes S old new → ((a c : Files) → MayLeave old a → S a c → R a c) → Leaves name S → Passes (AtOwn name R) old new
  own_first S old new passes here leaves = passes_weaker S (AtOwn name R) old new passes (λ a c was step. record { here = here a c was step; elsewhere = leaves a c step })

  pub own_then : (S : Files → Files → Type 0) (old mid new : Past) → Passes (AtOwn name R) old mid → Passes S mid new → ((a b c : Files) → R a b → MayLeave mid b → S b c → R a c) → Leaves name S → Passes (AtOwn name R) old new
  own_then S old mid new first second here leaves =
      passes_then (AtOwn name R) S old mid new first second (λ a b c was before now step. record {
        here = here a b c before.here now step;
        elsewhere = λ n other. leaves b c step n other ∙ before.elsewhere n other;
      })

-- two claims of one call, of the image after
pub passes_joined : (R S T : Files → Files → Type 0) (old new : Past) → Passes R old new → Passes S old new → ((a b c : Files) → MayLeave old a → R a c → MayLeave old b → S b c → T a c) → Passes T old new
passes_joined R S T old new one two both = record {
  later = one.later;
  kept = one.kept;
  nothing_else = one.nothing_else;
  each = λ k image from to left.
      let first = one.each k image from to left in
      let second = two.each k image from to left in
      (first.0, first.1, both first.0 second.0 image first.1 first.2 second.1 second.2);
}

-- whatever a crash now may leave
pub left_now : (S : Files → Files → Type 0) (old new : Past) (image : Files) → Passes S old new → MayLeave new image → (from : Files) × MayLeave old from × S from image
left_now S old new image passes left = passes.each new.now image passes.later (omega arith) left
