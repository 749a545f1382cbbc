-- The names of all rows, page after page.
use Rattle.std.proofs.Common.{◌≡◌, ℕ, ◌+◌, List, [], ◌∷◌, ◌++◌, true, false, ap, sym, ◌∙◌, subst, append_assoc, append-nil}
use Rattle.std.specs.Prelude.{Ok, Err}
use Rattle.std.proofs.lemmas.List.{map-append}
use Rattle.act_model.specs.declared.acts.Act.TheVariants.{Names}
use Rattle.act_model.specs.declared.acts.Answer.TheVariants.{NamesAre}
use Rattle.act_model.specs.History.{Done, Entry, Made, MadeOne}
use Rattle.act_model.specs.Reply.{Reply}
use Rattle.act_model.proofs.Histories.{made_joined}
use Rattle.http_front.specs.declared.request.WebCall.TheVariants.{AllPvs}
use Rattle.admin_commands.specs.declared.reply.WebReply.TheVariants.{Success}
use Rattle.admin_commands.specs.declared.end.NoReply.TheVariants as stopped
use Rattle.admin_commands.specs.Bodies.{names_text}
use Rattle.admin_commands.specs.Next.{NextStep, asks, names_from, page}
use Rattle.admin_commands.specs.Serving.{Anyhow, Comes, Follows, IsTold, Proceeds, answers_of}
use Rattle.admin_commands.proofs.Proceeding.{follows_more}

-- So many names were gathered, and the next page begins here.
pub record Gathered {A : Type 0} (number : A → ℕ) (between : A → List Entry → A → Type 0) (start : A) (names : List (List ℕ)) (from : ℕ) (now : A) : Type 0 where
  pub done : List Done
  pub made : Made number between start done now
  pub follows : Follows AllPvs [] done
  pub goes_on : (rest : List Reply) → names_from 0 [] (answers_of done ++ rest) ≡ names_from from names rest

module _ {A : Type 0} (number : A → ℕ) (between : A → List Entry → A → Type 0) (is_spent : A → Type 0) where
  -- the next page is asked for
  asks_page : (start now : A) (names : List (List ℕ)) (from : ℕ) (g : Gathered number between start names from now) → names_from 0 [] (answers_of g.done) ≡ asks (Names from page)
  asks_page start now names from g = subst (λ (w : List Reply). names_from 0 [] w ≡ asks (Names from page)) (append-nil (answers_of g.done)) (g.goes_on [])

  module _ (joined : (a b c : A) (xs ys : List Entry) → between a xs b → between b ys c → between a (xs ++ ys) c)
      (number_stays : (a b : A) (entries : List Entry) → between a entries b → number b ≡ number a) where
    -- one act more, whatever it was answered
    one_more : (goes_on : NextStep → Type 0) (start now new : A) (names : List (List ℕ)) (from : ℕ) (reply : Reply) (g : Gathered number between start names from now) → MadeOne number between now (Names from page) reply new → goes_on (names_from 0 [] (answers_of g.done ++ reply ∷ [])) → Proceeds number between AllPvs start goes_on new
    one_more goes_on start now new names from reply g made goes =
        let d : Done = record { act = Names from page; answer = reply } in
        record {
          done = g.done ++ d ∷ [];
          made = made_joined number between joined number_stays start now new g.done (d ∷ []) g.made made;
          follows = follows_more AllPvs [] g.done d g.follows (asks_page start now names from g);
          goes = subst (λ (w : List Reply). goes_on (names_from 0 [] w)) (sym (map-append (λ (x : Done). x.answer) g.done (d ∷ []))) goes;
        }

    -- more names follow
    pub gathers_more : (start now new : A) (names told : List (List ℕ)) (from : ℕ) → Gathered number between start names from now → MadeOne number between now (Names from page) (NamesAre told true) new → Gathered number between start (names ++ told) (from + page) new
    gathers_more start now new names told from g made =
        let reply : Reply = NamesAre told true in
        let d : Done = record { act = Names from page; answer = reply } in
        record {
          done = g.done ++ d ∷ [];
          made = made_joined number between joined number_stays start now new g.done (d ∷ []) g.made made;
          follows = follows_more AllPvs [] g.done d g.follows (asks_page start now names from g);
          goes_on = λ rest.
              ap (λ (w : List Reply). names_from 0 [] (w ++ rest)) (map-append (λ (x : Done). x.answer) g.done (d ∷ []))
              ∙ ap (λ (w : List Reply). names_from 0 [] w) (append_assoc (answers_of g.done) (reply ∷ []) rest)
              ∙ g.goes_on (reply ∷ rest);
        }

    -- these are all
    pub gathers_all : (start now new : A) (names told : List (List ℕ)) (from : ℕ) → Gathered number between start names from now → MadeOne number between now (Names from page) (NamesAre told false) new → Comes number between is_spent AllPvs start (Ok (Success (names_text (names ++ told)))) new
    gathers_all start now new names told from g made = one_more (IsTold (Success (names_text (names ++ told)))) start now new names from (NamesAre told false) g made (g.goes_on (NamesAre told false ∷ []))

    -- memory ran out at an act, or behind it
    pub gathering_stops : (start now new : A) (names : List (List ℕ)) (from : ℕ) (reply : Reply) → Gathered number between start names from now → MadeOne number between now (Names from page) reply new → Comes number between is_spent AllPvs start (Err stopped.Memory) new
    gathering_stops start now new names from reply g made = one_more Anyhow start now new names from reply g made tt

    -- no act was left
    pub gathering_spent : (start now new : A) (names : List (List ℕ)) (from : ℕ) → Gathered number between start names from now → Made number between now [] new → is_spent new → Comes number between is_spent AllPvs start (Err stopped.Spent) new
    gathering_spent start now new names from g made spent = (
      record {
        done = g.done ++ [];
        made = made_joined number between joined number_stays start now new g.done [] g.made made;
        follows = subst (λ (w : List Done). Follows AllPvs [] w) (sym (append-nil g.done)) g.follows;
        goes = (Names from page, subst (λ (w : List Done). names_from 0 [] (answers_of w) ≡ asks (Names from page)) (sym (append-nil g.done)) (asks_page start now names from g));
      },
      spent,
    )
