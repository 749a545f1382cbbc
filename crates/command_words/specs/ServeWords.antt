-- The words of `serve` and of `drill`. A number is written in decimal, without a sign or a zero in front of other digits.
use Rattle.std.specs.Prelude.{◌≡◌, ℕ, List, [], ◌∷◌, codes, decimal}
use Rattle.std.specs.Int.{IsInRange}
use Rattle.command_words.specs.declared.service_words.ServeWords.{ServeWords}

-- serve FEEDPORT HTTPPORT WORKERS LINKS
pub record AsksToServe (words : List (List ℕ)) (asked : ServeWords) : Type 0 where
  pub written : words ≡ codes "serve" ∷ decimal asked.feed_port ∷ decimal asked.http_port ∷ decimal asked.workers ∷ decimal asked.links ∷ []
  pub feed_port : IsInRange 1 65535 asked.feed_port
  pub http_port : IsInRange 1 65535 asked.http_port
  pub workers : IsInRange 1 64 asked.workers
  pub links : IsInRange 0 999999999 asked.links

-- drill N
pub record AsksToDrill (words : List (List ℕ)) (hours : ℕ) : Type 0 where
  pub written : words ≡ codes "drill" ∷ decimal hours ∷ []
  pub range : IsInRange 1 200 hours
