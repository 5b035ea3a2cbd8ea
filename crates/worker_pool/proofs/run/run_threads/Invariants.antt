use Rattle.worker_pool.proofs.run.run_threads.Given as goal

abbrev pub ghosts-threads : goal.ghosts-threads
ghosts-threads g a = record { charter = a.desk.now.charter.now }
