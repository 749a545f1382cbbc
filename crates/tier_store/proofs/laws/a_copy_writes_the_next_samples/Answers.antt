use Rattle.tier_store.proofs.CopyFiles.{writes_next}
use Rattle.tier_store.proofs.laws.a_copy_writes_the_next_samples.Goals as goal

pub returns : goal.returns
returns c fine move base part start file bytes lines from most entry goes running valid stand last of_part split low takes = writes_next fine move base part start file bytes lines from most entry goes running valid stand last of_part split low takes
