-- What is extracted of a stream: each chunk's header, and the answer over its samples.
use Rattle.std.specs.Prelude.{ℕ, List, [], ◌∷◌, ◌++◌, Bool, nat_le, if◌then◌else◌}
use Rattle.std.specs.List.{flat_map, list_any}
use Rattle.series_model.specs.declared.sample.Sample.{Sample}
use Rattle.series_model.specs.declared.sample.Query.{Query}
use Rattle.series_model.specs.Series.{taken}
use Rattle.series_model.specs.Retrieval.{answer}
use Rattle.pb_lines.specs.Stream.{Item, header, sample, chunk_end}

-- lines, each with its newline
abbrev pub line_text : Sample → List ℕ
line_text x = x.line ++ 10 ∷ []

abbrev pub lines_text : List Sample → List ℕ
lines_text xs = flat_map line_text xs

-- a sample not earlier than the interval is there
abbrev pub is_reached : Query → List Sample → Bool
is_reached q xs = list_any (λ x. nat_le q.from x.t) xs

-- what is known of the answer while the chunk goes on: nothing before a sample not earlier than the interval
abbrev pub known : Query → List Sample → List Sample
known q xs = if is_reached q (taken xs) then answer (taken xs) q else []

-- what stands before an item: no chunk, ended chunks, or a chunk with these samples so far
pub data Before : Type 0 where
  nothing : Before
  chunks : Before
  samples : List Sample → Before

-- The text of items: each chunk's header as it stands, an empty line before each but the first, and, where the chunk ends, the
-- answer over those of its samples that are later than all before them. A chunk that doesn't end gives what is known of it.
abbrev pub text_behind : Query → Before → List Item → List ℕ
text_behind q nothing (header info line ∷ items) = line ++ 10 ∷ text_behind q (samples []) items
text_behind q chunks (header info line ∷ items) = 10 ∷ line ++ 10 ∷ text_behind q (samples []) items
text_behind q (samples xs) (header info line ∷ items) = text_behind q (samples xs) items
text_behind q (samples xs) (sample x ∷ items) = text_behind q (samples (xs ++ x ∷ [])) items
text_behind q nothing (sample x ∷ items) = text_behind q nothing items
text_behind q chunks (sample x ∷ items) = text_behind q chunks items
text_behind q (samples xs) (chunk_end ∷ items) = lines_text (answer (taken xs) q) ++ text_behind q chunks items
text_behind q nothing (chunk_end ∷ items) = text_behind q nothing items
text_behind q chunks (chunk_end ∷ items) = text_behind q chunks items
text_behind q (samples xs) [] = lines_text (known q xs)
text_behind q nothing [] = []
text_behind q chunks [] = []

-- the text of a whole stream's items
abbrev pub extracted : Query → List Item → List ℕ
extracted q items = text_behind q nothing items
