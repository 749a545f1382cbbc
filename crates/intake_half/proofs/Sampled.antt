-- What is kept of the sampling of a row that was just registered.
use Rattle.std.proofs.Common.{◌≡◌, refl}
use Rattle.pb_messages.specs.declared.about.Method.{Method}
use Rattle.pb_messages.specs.declared.about.Method.TheVariants.{Monitor, Scan}
use Rattle.series_model.specs.Sampling.{first_cell}
use Rattle.act_model.specs.Rows.{period_of}
use Rattle.intake_half.specs.Memory.{cell_in, period_in, sampling_by}

pub sampling_period : (d : Method) → period_in (sampling_by d) ≡ period_of d
sampling_period Monitor = refl
sampling_period (Scan period) = refl

pub sampling_cell : (d : Method) → first_cell ≡ cell_in (sampling_by d)
sampling_cell Monitor = refl
sampling_cell (Scan period) = refl
