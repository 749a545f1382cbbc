use Rattle.std.proofs.Common.{◌≡◌, ◌↔◌, ℕ, List, Option, Some, None, IfSome, IfNone, Result, Ok, ap, ◌∙◌}
use Rattle.std.specs.Option.{ok_or}
use Rattle.arch_time.specs.declared.iso.BadIso.{BadIso}
use Rattle.arch_time.specs.Iso.{IsIso}
use Rattle.arch_time.proofs.IsoLemmas as iso
use Rattle.arch_time.proofs.iso.parse_iso.Goals as goal

-- what is read is the only moment of the text, and nothing is read only where it has none
told : (text : List ℕ) (o : Option ℕ) (r : Result ℕ BadIso) (bad : BadIso) → r ≡ ok_or o bad → IfSome o (IsIso text) → IfNone o ((t : ℕ) → IsIso text t → ⊥) → (t : ℕ) → (r ≡ Ok t) ↔ IsIso text t
told text None r bad e found none t = (λ ok. cc, λ h. absurd (none t h))
told text (Some n) r bad e found none t =
    (λ ok. let same : n ≡ t = cc in rw same at found, λ h. e ∙ ap (λ k. Ok k) (iso.one_moment text n t found h))

pub returns : goal.returns
returns c = record {
  exact = told c.args.text.now c.parsed.result c.ok_or.result (record {}) c.ok_or.ensures.value c.parsed.ensures.found c.parsed.ensures.none;
}
