use Rattle.std.proofs.Common.{ℕ, List, inl, inr, refl, ◌∙◌, subst}
use Rattle.std.specs.Io.KnownBytes.{Appends}
use Rattle.edge_io.specs.Stream.{AppendsFront}
use Rattle.archiver_appliance.proofs.Adoptions.{adopted_line}
use Rattle.archiver_appliance.proofs.adopting.tell_adopted.Goals as goal

pub returns-in-Ok-clause-told : goal.returns-in-Ok-clause-told
returns-in-Ok-clause-told g c =
    inl (
      refl,
      subst (λ (text : List ℕ). Appends (g.K.Sink.written c.args.sink.now) (g.K.Sink.written c.write_pieces.new.sink) text)
          (adopted_line c.args.adopted _ _ _ _ _ _ c.as_slice.ensures (c.as_bytes.ensures.value ∙ c.format.ensures.text) (c.as_bytes-2.ensures.value ∙ c.format-2.ensures.text) (c.as_bytes-3.ensures.value ∙ c.format-3.ensures.text) (c.as_bytes-4.ensures.value ∙ c.format-4.ensures.text) (c.as_bytes-5.ensures.value ∙ c.format-5.ensures.text)) c.in-Ok.ensures.all,
    )

pub returns-in-Err-clause-told : goal.returns-in-Err-clause-told
returns-in-Err-clause-told g c =
    inr (
      refl,
      subst (λ (text : List ℕ). AppendsFront (g.K.Sink.written c.args.sink.now) (g.K.Sink.written c.write_pieces.new.sink) text)
          (adopted_line c.args.adopted _ _ _ _ _ _ c.as_slice.ensures (c.as_bytes.ensures.value ∙ c.format.ensures.text) (c.as_bytes-2.ensures.value ∙ c.format-2.ensures.text) (c.as_bytes-3.ensures.value ∙ c.format-3.ensures.text) (c.as_bytes-4.ensures.value ∙ c.format-4.ensures.text) (c.as_bytes-5.ensures.value ∙ c.format-5.ensures.text)) c.in-Err.ensures.front,
    )
