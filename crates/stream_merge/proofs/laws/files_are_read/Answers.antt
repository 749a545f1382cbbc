use Rattle.std.proofs.Common.{List, sym, subst}
use Rattle.series_model.specs.declared.sample.Sample.{Sample}
use Rattle.stream_merge.specs.Reading.{IsReadAs}
use Rattle.stream_merge.proofs.Reading.{none_bad, read_as, read_same}
use Rattle.stream_merge.proofs.laws.files_are_read.Goals as goal

pub returns : goal.returns
returns c = record {
  read = λ ty bytes head info samples others file type. (
    λ read. read_same ty bytes head info samples others file read,
    λ same. let P : List Sample → Type 0 = λ l. IsReadAs ty bytes l in subst P (sym same) (read_as ty bytes head info samples file type),
  );
  good = none_bad;
}
