-- The field says only that a proof of the fact exists. An entailment is a proposition, so the proof may be opened in front of the walk that Rattle made.
use seplogic.Bi.Basic.{Entails-prop}
use mathlib.Core.Logic.{∥∥₁_elim}
use base.Logic.{via, mono_r}
use denote.Triple.Entry.{on_entry}
use borrow.Fn.Kinds.{sig_of}
use contract.Monad.{fact_mono}
use Rattle.std.specs.Prelude.{IfSome}
use Rattle.sample_bins.specs.Binning.{Stands}
use Rattle.sample_bins.proofs.output.BinOut.may_go_on.Statement.{statement}
use Rattle.sample_bins.proofs.output.BinOut.may_go_on.Lts as lts
use Rattle.sample_bins.proofs.output.BinOut.may_go_on.Reads as reads
use Rattle.sample_bins.proofs.output.BinOut.may_go_on.Tie as tie

pub may_go_on_spec : {M : Type 1} → statement M
may_go_on_spec {M} =
    tie.close (λ O L g d w met 𝓤 𝓛 𝓣 y.
    ∥∥₁_elim y.0.3.0.now.stands (Entails-prop 𝓤.op _ _) (λ stands.
    via 𝓤 _ (mono_r 𝓤 (on_entry 𝓛 (sig_of 2 (lts.ps O L g d) (lts.r O L g d)) y.0.0 y.0.1 y.0.3 y.0.4) (fact_mono 𝓤 _ (IfSome y.0.3.0.now.begun (λ b. Stands g.gave y.0.3.0.now.op y.0.3.0.now.inner y.0.3.0.now.kept.held)) (λ _. stands)))
    (lts.spec O L g d (λ κs a. IfSome a.0.now.begun (λ b. Stands g.gave a.0.now.op a.0.now.inner a.0.now.kept.held)) (reads.Post O L g d) (λ c. c.requires) 𝓤 𝓛 𝓣 y)))
