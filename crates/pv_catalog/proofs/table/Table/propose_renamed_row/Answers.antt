use Rattle.std.proofs.Common.{◌≡◌, Some, ℕ, List, length, sym, ◌∙◌, ap, subst, arith}
use Rattle.pv_catalog.specs.declared.row.Row.{Row}
use Rattle.pv_catalog.specs.Rows.{AreRows, MayFollow}
use Rattle.pv_catalog.specs.Table.{AreListed, IsRenameOf, place_of}
use Rattle.pv_catalog.proofs.Listing.{listed_more}
use Rattle.pv_catalog.proofs.table.Table.propose_renamed_row.Goals as goal

pub invariant_of-self-2 : goal.invariant_of-self-2
invariant_of-self-2 c =
    let same = sym c.reserve.ensures.items in
    let may = rw (← c.self.view_is) at c.requires.follows in
    let over = rw (← c.self.view_is) at c.requires.base in
    let updates = c.in_ok-insert.ensures.updates in
    let listed = listed_more c.self.inside.rows.items c.args.row c.args.key c.self.inside.places c.insert.new.self (Some c.len-place.result) c.self.invariant.listed may.free c.requires.key updates in
    record {
      are = subst AreRows same c.self.invariant.are;
      listed = subst (λ (l : List Row). AreListed l c.insert.new.self) same listed;
      ready = (
        record {
          follows = subst (λ (l : List Row). MayFollow l c.args.row) same may;
          room = omega (arith, c.in_ok-reserve.ensures.ok);
          listed = subst (λ (k : List ℕ). place_of k c.insert.new.self ≡ Some (length c.reserve.new.self.items)) c.requires.key (updates.1 ∙ ap (λ (n : ℕ). Some n) (omega (arith, c.reserve.new.self.ok.0, c.reserve.ensures.len, c.len-place.ensures)));
        },
        subst (λ (l : List Row). IsRenameOf l c.args.old c.args.row) same over,
      );
    }
