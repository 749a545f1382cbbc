use Rattle.std.proofs.Common.{◌≡◌, ◌<◌, ◌≤◌, ℕ, List, [], ◌∷◌, Bor, length, map, get_or, arith, refl}
use Rattle.command_words.proofs.service_words.serve_words.Goals as goal

five_texts : (words : List (Bor (List ℕ))) (d : Bor (List ℕ)) → 5 ≤ length words → length words < 6
    → map (λ w. w.now) words ≡ (get_or words 0 d).now ∷ (get_or words 1 d).now ∷ (get_or words 2 d).now ∷ (get_or words 3 d).now ∷ (get_or words 4 d).now ∷ []
five_texts [] d least most = absurd (omega arith)
five_texts (a ∷ []) d least most = absurd (omega arith)
five_texts (a ∷ b ∷ []) d least most = absurd (omega arith)
five_texts (a ∷ b ∷ e ∷ []) d least most = absurd (omega arith)
five_texts (a ∷ b ∷ e ∷ f ∷ []) d least most = absurd (omega arith)
five_texts (a ∷ b ∷ e ∷ f ∷ g ∷ []) d least most = refl
five_texts (a ∷ b ∷ e ∷ f ∷ g ∷ h ∷ words) d least most = absurd (omega arith)

pub returns-in-serve-clause-none : goal.returns-in-serve-clause-none
returns-in-serve-clause-none c =
    let texts = five_texts c.args.words.now (record { ref_ptr = (0, 0); now = [] }) c.in-serve.len_at_least c.in-serve.len_below in
    rw (texts, c.in-serve.is-serve) c.served.ensures.none
