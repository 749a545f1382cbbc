use Rattle.unit_cases.proofs.Seats.{first_seated}
use Rattle.unit_cases.proofs.services.serve.Goals as goal

pub serve_all-requires-clause-stands : goal.serve_all-requires-clause-stands
serve_all-requires-clause-stands g c κs within = first_seated _ _ _ _ _ c.in-Ok-new.ensures.ok (rw c.new-2.ensures c.in-Ok.ensures.stands)
