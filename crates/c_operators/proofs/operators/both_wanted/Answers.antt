use Rattle.c_operators.proofs.operators.both_wanted.Goals as goal

pub returns : goal.returns
returns c = record { left = c.in_ok-left.ensures; right = c.in_ok-right.ensures }
