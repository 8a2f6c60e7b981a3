use Rattle.snapshot_reached.proofs.FramesFit.{frames_fit}
use Rattle.snapshot_reached.proofs.laws.law_frames_fit.Goals as goal

pub returns : goal.returns
returns c = λ code setup state t told valid limits reached at. frames_fit code valid setup limits state reached t told at
