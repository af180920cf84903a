use Rattle.plant_run.proofs.serving.serve_timed.Given as goal

abbrev pub ghosts-serve_ticking : goal.ghosts-serve_ticking
ghosts-serve_ticking g a = record { start = a.ticking.start; step = a.ticking.step }
