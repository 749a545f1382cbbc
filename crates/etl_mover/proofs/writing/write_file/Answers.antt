use Rattle.etl_mover.proofs.writing.write_file.Goals as goal

pub go_on-requires : goal.go_on-requires
go_on-requires g c tells = c.requires.there tells c.in-Some.len c.in-Some.is
