-- Why a take never lets go of more than was offered.
use Rattle.std.proofs.Common.{◌≡◌, ℕ, ◌+◌, ◌<◌, ◌≤◌, List, [], ◌∷◌, ◌++◌, drop, length, ap, sym, ◌∙◌, subst, append_assoc}
use Rattle.std.proofs.Math.Nat.{le_refl, le_trans}
use mathlib.Core.List.{IsPrefix}
use Rattle.closed_pairs.proofs.Cuts.{cut_of_take}
use Rattle.turn_rooms.specs.Histories.{most_acts, end_of, LegalFrom, Legal}
use Rattle.turn_rooms.specs.Ties.{knowing, Tied}
use Rattle.unit_cases.specs.declared.halves.Vault.{Vault}
use Rattle.unit_cases.specs.declared.halves.IntakeCount.{IntakeCount}
use Rattle.unit_cases.specs.declared.halves.Ask.{Ask}
use Rattle.unit_cases.specs.declared.halves.Ask.TheVariants as ask
use Rattle.unit_cases.specs.Halves.{StoreEntry, IntakeEntry, vault_steps, tally_steps, tally_fits, flush_allowed, take_allowed}

rises : (old new : IntakeCount) (who n : ℕ) (a : Ask) (answer : ℕ) → tally_steps old who n a answer new → old.accepted ≤ new.accepted
rises old new who n ask.Offer answer s = s
rises old new who n ask.Look answer s = subst (λ (z : ℕ). old.accepted ≤ z) (sym s.0) (le_refl old.accepted)
rises old new who n (ask.Take safe) answer s = subst (λ (z : ℕ). old.accepted ≤ z) (sym s.0) (le_refl old.accepted)

never_falls : (n : ℕ) (i : IntakeCount) (g : List IntakeEntry) → LegalFrom (knowing tally_steps) n i g → i.accepted ≤ (end_of i g).accepted
never_falls n i [] l = le_refl i.accepted
never_falls n i (e ∷ g) l = le_trans (rises i e.after e.who n e.act.act e.answer l.0) (never_falls (n + 1) e.after g l.1)

looked_at : (old new : IntakeCount) (who n : ℕ) (a : Ask) (answer : ℕ) → a ≡ ask.Look → tally_steps old who n a answer new → answer ≤ old.accepted
looked_at old new who n a answer is s =
    let t = subst (λ (x : Ask). tally_steps old who n x answer new) is s in subst (λ (z : ℕ). z ≤ old.accepted) (sym t.1) (le_refl old.accepted)

-- what a look answered is there at the end
seen_by_end : (n : ℕ) (i : IntakeCount) (front back : List IntakeEntry) (f : IntakeEntry) → LegalFrom (knowing tally_steps) n i (front ++ f ∷ back)
    → f.act.act ≡ ask.Look → f.answer ≤ (end_of i (front ++ f ∷ back)).accepted
seen_by_end n i [] back f l is =
    le_trans (le_trans (looked_at i f.after f.who n f.act.act f.answer is l.0) (rises i f.after f.who n f.act.act f.answer l.0)) (never_falls (n + 1) f.after back l.1)
seen_by_end n i (e ∷ front) back f l is = seen_by_end (n + 1) e.after front back f l.1 is

pub take_fits : (s : Vault) (i : IntakeCount) (h : List StoreEntry) (g : List IntakeEntry) (known : List StoreEntry) (who : ℕ) (act : Ask)
    → s.flushed ≤ i.accepted → Legal (knowing vault_steps) s h → Legal (knowing tally_steps) i g → Tied flush_allowed take_allowed h g
    → IsPrefix known h → take_allowed known act → Unit {0} → length g < most_acts → tally_fits (end_of i g) act
take_fits s i h g known who ask.Offer halves legal legal' tied pre may ask few = tt
take_fits s i h g known who ask.Look halves legal legal' tied pre may ask few = tt
take_fits s i h g known who (ask.Take safe) halves legal legal' tied pre may ask few =
    let e = may.entry in
    let cut : h ≡ may.front ++ e ∷ (may.back ++ pre.0) = sym pre.1 ∙ (ap (λ (w : List StoreEntry). w ++ pre.0) may.is ∙ append_assoc may.front (e ∷ may.back) pre.0) in
    let look = tied.first may.front (may.back ++ pre.0) e cut in
    let back : List IntakeEntry = look.back ++ drop e.act.other g in
    let there : g ≡ look.front ++ look.entry ∷ back = cut_of_take e.act.other g look.front look.back look.entry look.is in
    let legal_there = subst (λ (w : List IntakeEntry). LegalFrom (knowing tally_steps) 0 i w) there legal' in
    let seen = seen_by_end 0 i look.front back look.entry legal_there look.such.0 in
    subst (λ (z : ℕ). z ≤ (end_of i g).accepted) (look.such.1 ∙ may.such) (subst (λ (w : List IntakeEntry). look.entry.answer ≤ (end_of i w).accepted) (sym there) seen)
