-- The parameters of a query by their names. A name is compared once it is decoded, byte for byte.
use Rattle.std.specs.Prelude.{ℕ, List, codes}
use Rattle.http_front.specs.declared.request.Param.{Param}
use Rattle.http_front.specs.declared.request.Param.TheVariants.{Pv, PvOrBins, From, To, TypeName, SamplingMethod, SamplingPeriod, NewName}

abbrev pub name_of : Param → List ℕ
name_of Pv = codes "pv"
name_of PvOrBins = codes "pv"
name_of From = codes "from"
name_of To = codes "to"
name_of TypeName = codes "type"
name_of SamplingMethod = codes "samplingmethod"
name_of SamplingPeriod = codes "samplingperiod"
name_of NewName = codes "newname"
