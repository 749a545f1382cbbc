-- What is told of the states of a drill's archive, one call after another.
use Rattle.std.proofs.Common.{◌≡◌, ℕ, ◌+◌, List, [], ◌∷◌, ◌++◌, Option, refl, sym, ap, subst, ◌∙◌, append_assoc}
use Rattle.disk_model.specs.declared.disk.Disk.{Ghosts}
use Rattle.series_model.specs.declared.sample.Query.{Query}
use Rattle.drill_feed.specs.Report.{tiers_text}
use Rattle.drill_feed.specs.Workload.{name_text, now_of}
use Rattle.drill_feed.specs.declared.report.Tally.{Tally}
use Rattle.act_model.specs.Growth.{Onward}
use Rattle.act_model.specs.History.{Entry, Runs}
use Rattle.act_model.specs.Machine.{Machine}
use Rattle.act_model.specs.Rule.{Rule}
use Rattle.act_model.proofs.Histories.{runs_append, runs_onward}
use Rattle.archive_core.specs.declared.archive.Archive.{Archive}
use Rattle.retrieval_query.specs.Retrieving.{ReadsHeaders}
use Rattle.archiver_appliance.specs.Drilling.{CameTo, HasFiles, HasTally, IsLine, Tells, TellsOn, TellsVariable, added, query_of, tells_more, tells_none, tiers_of}

-- STATES OF LONGER RUNS

came_later : (m n : Machine) (es fs : List Entry) (Such : Machine → Type 0) → Runs m es n → CameTo n fs Such → CameTo m (es ++ fs) Such
came_later m n es fs Such run c = record {
  front = es ++ c.front;
  back = c.back;
  split = ap (λ (l : List Entry). es ++ l) c.split ∙ sym (append_assoc es c.front c.back);
  at = c.at;
  to = runs_append es c.front m n c.at run c.to;
  such = c.such;
}

came_sooner : (m : Machine) (es fs : List Entry) (Such : Machine → Type 0) → CameTo m es Such → CameTo m (es ++ fs) Such
came_sooner m es fs Such c = record {
  front = c.front;
  back = c.back ++ fs;
  split = ap (λ (l : List Entry). l ++ fs) c.split ∙ append_assoc c.front c.back fs;
  at = c.at;
  to = c.to;
  such = c.such;
}

variable_later : (m n : Machine) (es fs : List Entry) (hours v : ℕ) (line more : List ℕ) → Runs m es n → TellsVariable n fs hours v line more → TellsVariable m (es ++ fs) hours v line more
variable_later m n es fs hours v line more run t = record {
  tally = t.tally;
  counted = came_later m n es fs (HasTally (name_text v) (query_of hours) t.tally) run t.counted;
  is = t.is;
  listed = came_later m n es fs (HasFiles (name_text v) more) run t.listed;
}

variable_sooner : (m : Machine) (es fs : List Entry) (hours v : ℕ) (line more : List ℕ) → TellsVariable m es hours v line more → TellsVariable m (es ++ fs) hours v line more
variable_sooner m es fs hours v line more t = record {
  tally = t.tally;
  counted = came_sooner m es fs (HasTally (name_text v) (query_of hours) t.tally) t.counted;
  is = t.is;
  listed = came_sooner m es fs (HasFiles (name_text v) more) t.listed;
}

tells_sooner : (m : Machine) (es fs : List Entry) (hours v : ℕ) (text files : List ℕ) → Tells m es hours v text files → Tells m (es ++ fs) hours v text files
tells_sooner m es fs hours v text files tells_none = tells_none
tells_sooner m es fs hours v text files (tells_more {variable = w} {text = front} {files = few} line more before one) = tells_more line more (tells_sooner m es fs hours w front few before) (variable_sooner m es fs hours w line more one)

-- what is asked for is what the clocks tell
pub asked_of : (hours to : ℕ) → to ≡ now_of hours → ◌≡◌ {A = Query} (record { from = 1704067200000000000; to = to }) (query_of hours)
asked_of hours to is = let asked : ℕ → Query = λ n. record { from = 1704067200000000000; to = n } in ap asked is

-- ONE CALL AFTER ANOTHER

module _ {D R : Type 0} (disk : Ghosts D R) where
  -- less may be told
  pub tells_weaker : (old new : Archive D R) (A B : Machine → List Entry → Type 0) → ((m : Machine) (es : List Entry) → A m es → B m es) → TellsOn disk old new A → TellsOn disk old new B
  tells_weaker old new A B weaker first told m stands is reads =
      let one = first told m stands is reads in
      record { entries = one.entries; after = one.after; runs = one.runs; stands = one.stands; such = weaker m one.entries one.such }

  -- two calls that each lead on
  pub goes_on : (old mid new : Archive D R) (A B C : Machine → List Entry → Type 0) → ((m n : Machine) (es fs : List Entry) → Runs m es n → A m es → B n fs → C m (es ++ fs)) → TellsOn disk old mid A → TellsOn disk mid new B → TellsOn disk old new C
  goes_on old mid new A B C both first second told m stands is reads =
      let one = first told m stands is reads in
      let on : Onward m one.after = runs_onward one.entries m one.after stands.sound one.runs in
      let two = second told one.after one.stands (on.told ∙ is) (subst (λ (r : Rule). ReadsHeaders r) (sym on.rule) reads) in
      record {
        entries = one.entries ++ two.entries;
        after = two.after;
        runs = runs_append one.entries two.entries m one.after two.after one.runs two.runs;
        stands = two.stands;
        such = both m one.after one.entries two.entries one.runs one.such two.such;
      }

  -- before any
  pub tells_nothing : (archive : Archive D R) (hours : ℕ) → TellsOn disk archive archive (λ m es. Tells m es hours 0 [] (0 ∷ 0 ∷ 0 ∷ []))
  tells_nothing archive hours told m stands is reads = record { entries = []; after = m; runs = refl; stands = stands; such = tells_none }

  pub tells_first : (archive : Archive D R) (hours : ℕ) (text files : List ℕ) → text ≡ [] → files ≡ 0 ∷ 0 ∷ 0 ∷ [] → TellsOn disk archive archive (λ m es. Tells m es hours 0 text files)
  tells_first archive hours text files none zeros =
      subst (λ (t : List ℕ). TellsOn disk archive archive (λ m es. Tells m es hours 0 t files)) (sym none) (subst (λ (f : List ℕ). TellsOn disk archive archive (λ m es. Tells m es hours 0 [] f)) (sym zeros) (tells_nothing archive hours))

  -- the line of the files behind those of all variables
  pub tells_whole : (old new : Archive D R) (hours v : ℕ) (text files line text' : List ℕ) → v ≡ 4 → line ≡ tiers_text (tiers_of files) → text' ≡ text ++ line → TellsOn disk old new (λ m es. Tells m es hours v text files)
      → TellsOn disk old new (λ m es. (lines : List ℕ) × (files : List ℕ) × Tells m es hours 4 lines files × (text' ≡ lines ++ tiers_text (tiers_of files)))
  tells_whole old new hours v text files line text' all last put =
      tells_weaker old new (λ m es. Tells m es hours v text files) (λ m es. (lines : List ℕ) × (files : List ℕ) × Tells m es hours 4 lines files × (text' ≡ lines ++ tiers_text (tiers_of files)))
      (λ m es tells. (text, files, subst (λ (n : ℕ). Tells m es hours n text files) all tells, put ∙ ap (λ (l : List ℕ). text ++ l) last))

  -- one variable more
  pub tells_next : (old mid new : Archive D R) (hours v : ℕ) (text files text' files' : List ℕ) → TellsOn disk old mid (λ m es. Tells m es hours v text files)
      → TellsOn disk mid new (λ m es. (line : List ℕ) × (more : List ℕ) × TellsVariable m es hours v line more × (text' ≡ text ++ line) × (files' ≡ added files more)) → TellsOn disk old new (λ m es. Tells m es hours (v + 1) text' files')
  tells_next old mid new hours v text files text' files' first second =
      goes_on old mid new (λ m es. Tells m es hours v text files) (λ m es. (line : List ℕ) × (more : List ℕ) × TellsVariable m es hours v line more × (text' ≡ text ++ line) × (files' ≡ added files more)) (λ m es. Tells m es hours (v + 1) text' files')
      (λ m n es fs run a b.
      let all = tells_more b.0 b.1 (tells_sooner m es fs hours v text files a) (variable_later m n es fs hours v b.0 b.1 run b.2) in
      subst (λ (t : List ℕ). Tells m (es ++ fs) hours (v + 1) t files') (sym b.3) (subst (λ (f : List ℕ). Tells m (es ++ fs) hours (v + 1) (text ++ b.0) f) (sym b.4) all))
      first second

  -- what is told of one variable
  pub tells_variable : (old mid new : Archive D R) (hours v : ℕ) (name : List ℕ) (query : Query) (tally : Option Tally) (line more text files text' files' : List ℕ) → name ≡ name_text v → query ≡ query_of hours → IsLine name tally line → text' ≡ text ++ line → files' ≡ added files more
      → TellsOn disk old mid (λ m es. CameTo m es (HasTally name query tally)) → TellsOn disk mid new (λ m es. CameTo m es (HasFiles name more))
      → TellsOn disk old new (λ m es. (line : List ℕ) × (more : List ℕ) × TellsVariable m es hours v line more × (text' ≡ text ++ line) × (files' ≡ added files more))
  tells_variable old mid new hours v name query tally line more text files text' files' named asked is put added_up first second =
      goes_on old mid new (λ m es. CameTo m es (HasTally name query tally)) (λ m es. CameTo m es (HasFiles name more)) (λ m es. (line : List ℕ) × (more : List ℕ) × TellsVariable m es hours v line more × (text' ≡ text ++ line) × (files' ≡ added files more))
      (λ m n es fs run a b. (
        line,
        more,
        record {
          tally = tally;
          counted = subst (λ (x : List ℕ). CameTo m (es ++ fs) (HasTally x (query_of hours) tally)) named (subst (λ (q : Query). CameTo m (es ++ fs) (HasTally name q tally)) asked (came_sooner m es fs (HasTally name query tally) a));
          is = subst (λ (x : List ℕ). IsLine x tally line) named is;
          listed = subst (λ (x : List ℕ). CameTo m (es ++ fs) (HasFiles x more)) named (came_later m n es fs (HasFiles name more) run b);
        },
        put,
        added_up,
      ))
      first second
