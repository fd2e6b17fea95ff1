use Rattle.leb.proofs.read.+unsigned.Given as goal

abbrev pub decreases-unsigned : goal.decreases-unsigned
decreases-unsigned l = l.bits
