-- The table of the paths that are served. Of several parameters that are missing or not of their form the first in the order of a row
-- is told.
use Rattle.std.specs.Prelude.{ℕ, List, [], ◌∷◌, codes}
use Rattle.http_front.specs.declared.request.Param.{Param}
use Rattle.http_front.specs.declared.request.Param.TheVariants.{Pv, PvOrBins, From, To, TypeName, SamplingMethod, SamplingPeriod, NewName}
use Rattle.http_front.specs.declared.path.Path.{Path}
use Rattle.http_front.specs.declared.path.Path.TheVariants.{RawData, JsonData, AllPvs, PvStatus, PvDetails, ArchivePv, PausePv, ResumePv, RenamePv, FlushAll}

-- A row of the table: its number, the path's text, and the parameters that are read.
pub record PathRow : Type 0 where
  pub number : ℕ
  pub text : List ℕ
  pub columns : List Param

abbrev pub row_of : Path → PathRow
row_of RawData = record { number = 0; text = codes "/retrieval/data/getData.raw"; columns = PvOrBins ∷ From ∷ To ∷ [] }
row_of JsonData = record { number = 1; text = codes "/retrieval/data/getData.json"; columns = PvOrBins ∷ From ∷ To ∷ [] }
row_of AllPvs = record { number = 2; text = codes "/mgmt/bpl/getAllPVs"; columns = [] }
row_of PvStatus = record { number = 3; text = codes "/mgmt/bpl/getPVStatus"; columns = Pv ∷ [] }
row_of PvDetails = record { number = 4; text = codes "/mgmt/bpl/getPVDetails"; columns = Pv ∷ [] }
row_of ArchivePv = record { number = 5; text = codes "/mgmt/bpl/archivePV"; columns = Pv ∷ TypeName ∷ SamplingMethod ∷ SamplingPeriod ∷ [] }
row_of PausePv = record { number = 6; text = codes "/mgmt/bpl/pauseArchivingPV"; columns = Pv ∷ [] }
row_of ResumePv = record { number = 7; text = codes "/mgmt/bpl/resumeArchivingPV"; columns = Pv ∷ [] }
row_of RenamePv = record { number = 8; text = codes "/mgmt/bpl/renamePV"; columns = Pv ∷ NewName ∷ [] }
row_of FlushAll = record { number = 9; text = codes "/mgmt/bpl/flush"; columns = [] }
