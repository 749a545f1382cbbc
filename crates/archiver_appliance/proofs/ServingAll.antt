-- What `serve` makes of a disk, from its opening on.
use Rattle.std.proofs.Common.{◌≡◌, ◌⊎◌, inl, inr, ℕ, Bool, true, List, Option, refl, sym, subst}
use Rattle.std.specs.Prelude.{IsTrue}
use Rattle.edge_io.specs.Doors.{Ledger}
use Rattle.edge_io.specs.declared.stream.Source.{Ghosts as OfSource}
use Rattle.edge_io.specs.declared.stream.Sink.{Ghosts as OfSink}
use Rattle.edge_io.specs.declared.clock.Clock.{Ghosts as OfClock}
use Rattle.act_model.specs.History.{Entry}
use Rattle.act_model.specs.Machine.{Machine}
use Rattle.disk_model.specs.Files.{Files}
use Rattle.disk_model.specs.declared.disk.Disk.{Ghosts}
use Rattle.etl_rules.specs.Config.{ConfigState}
use Rattle.partition_names.specs.declared.granularity.Granularity.{Granularity}
use Rattle.tier_store.specs.Change.{Has}
use Rattle.tier_store.specs.Seen.{seen}
use Rattle.tier_store.specs.Stores.{Stores}
use Rattle.tier_store.specs.declared.store.TierStore.{TierStore}
use Rattle.store_reopen.specs.Reopen.{HoldsEither, IsOpenedAs, stores_of}
use Rattle.store_reopen.specs.Verdict.{IsWhole}
use Rattle.service.specs.declared.posts.Post.{Post}
use Rattle.service.specs.declared.served.Kind.{Kind}
use Rattle.service.specs.declared.service.AllServed.{AllServed}
use Rattle.command_words.specs.declared.command.Command.TheVariants.{OverStore}
use Rattle.command_words.specs.declared.command.StoreCommand.TheVariants as command
use Rattle.command_words.specs.declared.service_words.ServeWords.{ServeWords}
use Rattle.command_words.specs.declared.status.Status.{Status}
use Rattle.command_words.specs.declared.status.Status.TheVariants.{Usage, NoSuchVariable, DiskFault, Damaged, OutOfMemory, GranularityDiffers}
use Rattle.archiver_appliance.specs.Acting.{IsNotMade}
use Rattle.archiver_appliance.specs.Judging.{IsOfOpened, Judges}
use Rattle.archiver_appliance.specs.Outside.{outside}
use Rattle.archiver_appliance.specs.Run.{Does, EndsAs, IsOfService, IsUnasked, IsUnopenedFor, NoDamage, OnlyOpens}
use Rattle.archiver_appliance.specs.Serving.{CameOfPosts, ServesFrom, ServesPosts, are_not, on_archive, status_of}
use Rattle.archiver_appliance.proofs.Judgements.{OneVerdict, exactly, whole_alone}
use Rattle.archiver_appliance.proofs.Posts.{serves_weaker}
use Rattle.archiver_appliance.proofs.Services.{serves_behind}

serve_judges : (gs : List Granularity) (files : Files) (whole : IsWhole gs files) (numbers : ServeWords) (source : Option (List ℕ)) (status : Status) → EndsAs (command.Serve numbers) source status → NoDamage status → IsOfOpened status → Judges gs (command.Serve numbers) files status
serve_judges gs files whole numbers source Usage ends none opened = absurd ends
serve_judges gs files whole numbers source NoSuchVariable ends none opened = absurd ends
serve_judges gs files whole numbers source DiskFault ends none opened = tt
serve_judges gs files whole numbers source (Damaged name at) ends none opened = absurd none
serve_judges gs files whole numbers source OutOfMemory ends none opened = tt
serve_judges gs files whole numbers source (GranularityDiffers kept other) ends none opened = absurd opened
serve_judges gs files whole numbers source status ends none opened = whole_alone gs files whole

module _ {S K C D R : Type 0} (src : OfSource S) (snk : OfSink K) (clk : OfClock C) (disk : Ghosts D R) (config : ConfigState) (first : D) (store : TierStore D R) (verdict : OneVerdict)
    (start : IsOpenedAs disk (stores_of config) first (seen disk store))
    (opening : IsTrue disk.tells → OnlyOpens (stores_of config) (disk.files first) (disk.files store.disk) (disk.past first) (disk.past store.disk))
    (s : S) (k : K) (c c' : C) (given : D) (status : Status) where
  unmade : IsNotMade store.disk given status → IsTrue disk.tells → OnlyOpens (stores_of config) (disk.files first) (disk.files given) (disk.past first) (disk.past given)
  unmade not told = subst (λ (d : D). OnlyOpens (stores_of config) (disk.files first) (disk.files d) (disk.past first) (disk.past d)) (sym not.same) (opening told)

  module _ {P L : Type 0} (is_closed : P → Bool) (faults : P → ℕ) (ledger : P → Option (Ledger L)) (Is : Kind → L → Type 0) (olds news : List (Post P)) (doors : ℕ) (Given : AllServed → Machine → List Entry → Type 0) where
    -- no archive could be made, or this was made of whatever the stores have
    abbrev Unmade : Type 0
    Unmade = IsNotMade store.disk given status × (clk.coming c' ≡ clk.coming c)

    abbrev Made : Bool → AllServed → Type 0
    Made began told = (held : Stores) → Has disk.tells (seen disk store) held → ServesFrom (λ image. ⊥) disk.tells store.config held doors (Given told) began told (disk.past store.disk) (disk.past given)

    pub serve_makes : store.config ≡ config → ServesPosts is_closed faults ledger Is Unmade Made status olds news
        → ServesPosts is_closed faults ledger Is (IsUnopenedFor config disk.tells (outside src snk clk disk s k c first) (outside src snk clk disk s k c' given)) (IsOfService config disk.tells doors Given (outside src snk clk disk s k c first) (outside src snk clk disk s k c' given)) status olds news
    serve_makes settings serves =
        serves_weaker is_closed faults ledger Is Unmade (IsUnopenedFor config disk.tells (outside src snk clk disk s k c first) (outside src snk clk disk s k c' given)) Made (IsOfService config disk.tells doors Given (outside src snk clk disk s k c first) (outside src snk clk disk s k c' given)) status olds news
        (λ not. (not.1, unmade not.0)) of_service serves
      where
        of_service : (began : Bool) (told : AllServed) → Made began told → IsOfService config disk.tells doors Given (outside src snk clk disk s k c first) (outside src snk clk disk s k c' given) began told
        of_service began told made tells before after opens =
            let read = start.stands tells before after opens in
            let Before : Files → Type 0 = λ image. HoldsEither (stores_of config) before after image in
            let from : ServesFrom Before disk.tells store.config read.held doors (Given told) began told (disk.past first) (disk.past given) =
            serves_behind Before disk.tells store.config read.held doors (Given told) began told (disk.past first) (disk.past store.disk) (disk.past given) ((opening tells).either before after opens) (made read.held read.has) in
            record {
              first = read.held;
              either = read.either;
              read = read.read;
              from = subst (λ (x : ConfigState). ServesFrom Before true x read.held doors (Given told) began told (disk.past first) (disk.past given)) settings
                  (subst (λ (t : Bool). ServesFrom Before t store.config read.held doors (Given told) began told (disk.past first) (disk.past given)) tells from);
            }

    pub serve_does : (numbers : ServeWords) → ServesPosts is_closed faults ledger Is Unmade Made status olds news
        → IsOfOpened status → NoDamage status → ((input : Option (List ℕ)) → EndsAs (command.Serve numbers) input status) → Does config disk.tells (OverStore (command.Serve numbers)) (outside src snk clk disk s k c first) (outside src snk clk disk s k c' given) status
    serve_does numbers serves opened undamaged ends = (
      ends (src.left s),
      λ told.
          let judges = serve_judges (stores_of config) (disk.files first) (start.whole told) numbers (src.left s) status (ends (src.left s)) undamaged opened in (
            record {
              judges = judges;
              makes = λ before after opens. let read = start.stands told before after opens in record { first = read.held; either = read.either; read = read.read; makes = by_came told serves.came; undamaged = λ stand. undamaged };
              tells = λ w. tt;
              reads = λ none. absurd (none (start.whole told));
              listed = λ w none i low. absurd none;
              rewrites_none = λ is. absurd is;
            },
            exactly verdict (stores_of config) (command.Serve numbers) (disk.files first) status judges,
          ),
    )
      where
        by_came : IsTrue disk.tells → CameOfPosts is_closed faults ledger Is Unmade Made status olds news → IsUnasked (stores_of config) (outside src snk clk disk s k c first) (outside src snk clk disk s k c' given) status ⊎ ((told : AllServed) × (status ≡ status_of told))
        by_came told (on_archive began end is left made) = inr (end, is)
        by_came told (are_not not same un) = inl (record { cut = inr (inl un.0.status_is); source = refl; sink = refl; clock = un.1; opens = unmade un.0 told })
