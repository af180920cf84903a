use Rattle.plant_edge.proofs.outside.StandardOutsideOutside.folder.Goals as goal

pub returns-clause-opens : goal.returns-clause-opens
returns-clause-opens g c = c.disk_of.ensures.opens c.args.path.now
