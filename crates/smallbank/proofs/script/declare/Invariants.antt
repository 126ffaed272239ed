use Rattle.smallbank.proofs.script.declare.Given as goal

-- the most accounts that there are
abbrev pub ghost-tx : goal.ghost-tx
ghost-tx a = 128
