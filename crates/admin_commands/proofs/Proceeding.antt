-- One act more.
use Rattle.std.proofs.Common.{◌≡◌, List, [], ◌∷◌, ◌++◌, sym, subst, append_assoc, append-nil}
use Rattle.act_model.specs.History.{Done}
use Rattle.act_model.specs.Reply.{Reply}
use Rattle.http_front.specs.declared.request.WebCall.{WebCall}
use Rattle.admin_commands.specs.Next.{asks, next}
use Rattle.admin_commands.specs.Serving.{Follows, answers_of}

-- one act more
pub follows_more : (call : WebCall) (seen : List Reply) (done : List Done) (d : Done) → Follows call seen done → next call (seen ++ answers_of done) ≡ asks d.act → Follows call seen (done ++ d ∷ [])
follows_more call seen [] d f is = (subst (λ (w : List Reply). next call w ≡ asks d.act) (append-nil seen) is, tt)
follows_more call seen (e ∷ done) d f is =
    (f.0, follows_more call (seen ++ e.answer ∷ []) done d f.1 (subst (λ (w : List Reply). next call w ≡ asks d.act) (sym (append_assoc seen (e.answer ∷ []) (answers_of done))) is))
