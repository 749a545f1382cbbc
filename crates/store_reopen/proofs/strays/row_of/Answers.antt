use Rattle.std.proofs.Common.{inl, inr, Some, ap, subst}
use Rattle.pv_catalog.specs.Catalogue.{Refuses}
use Rattle.store_reopen.proofs.AdoptedDisk.{none_taken, taken_is, taken_low}
use Rattle.store_reopen.proofs.strays.row_of.Goals as goal

pub returns-in-Some-NameTaken-clause-within : goal.returns-in-Some-NameTaken-clause-within
returns-in-Some-NameTaken-clause-within c = taken_low c.args.catalogue.now.rows c.args.name.now c.in-Some-NameTaken.row (inl (subst (Refuses c.args.catalogue.now.rows c.args.name.now) c.in-Some-NameTaken.field-0-is c.in-Some-NameTaken.ensures.refuses))

pub returns-in-Some-NameTaken-clause-only : goal.returns-in-Some-NameTaken-clause-only
returns-in-Some-NameTaken-clause-only c i has =
    ap Some (taken_is c.args.catalogue.now.rows c.args.name.now c.in-Some-NameTaken.row i c.requires.rows (inl (subst (Refuses c.args.catalogue.now.rows c.args.name.now) c.in-Some-NameTaken.field-0-is c.in-Some-NameTaken.ensures.refuses)) has)

pub returns-in-Some-KeyTaken-clause-within : goal.returns-in-Some-KeyTaken-clause-within
returns-in-Some-KeyTaken-clause-within c = taken_low c.args.catalogue.now.rows c.args.name.now c.in-Some-KeyTaken.row (inr (subst (Refuses c.args.catalogue.now.rows c.args.name.now) c.in-Some-KeyTaken.field-0-is c.in-Some-KeyTaken.ensures.refuses))

pub returns-in-Some-KeyTaken-clause-only : goal.returns-in-Some-KeyTaken-clause-only
returns-in-Some-KeyTaken-clause-only c i has =
    ap Some (taken_is c.args.catalogue.now.rows c.args.name.now c.in-Some-KeyTaken.row i c.requires.rows (inr (subst (Refuses c.args.catalogue.now.rows c.args.name.now) c.in-Some-KeyTaken.field-0-is c.in-Some-KeyTaken.ensures.refuses)) has)

pub returns-in-Some-Full-clause-only : goal.returns-in-Some-Full-clause-only
returns-in-Some-Full-clause-only c i has = absurd ((subst (Refuses c.args.catalogue.now.rows c.args.name.now) c.in-Some-Full.field-0-is c.in-Some-Full.ensures.refuses).0 i has)

pub returns-in-Some-Disk-clause-only : goal.returns-in-Some-Disk-clause-only
returns-in-Some-Disk-clause-only c i has = absurd (subst (Refuses c.args.catalogue.now.rows c.args.name.now) c.in-Some-Disk.field-0-is c.in-Some-Disk.ensures.refuses)

pub returns-in-None-clause-only : goal.returns-in-None-clause-only
returns-in-None-clause-only c i has = absurd (none_taken c.args.catalogue.now.rows c.args.name.now i (c.refusal.ensures.none c.in-None.is) has)
