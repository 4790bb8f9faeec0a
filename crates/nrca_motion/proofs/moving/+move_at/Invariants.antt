use Rattle.std.proofs.Common.{◌-◌, length}
use Rattle.nrca_motion.proofs.moving.+move_at.Given as goal

abbrev pub decreases-move_at : goal.decreases-move_at
decreases-move_at l = length l.path.now - l.at
