-- The functions on a thread's stack.
use Rattle.std.specs.Prelude.{ℕ, List, [], ◌∷◌, ◌++◌, map}
use Rattle.flow_code.specs.declared.thread.Phase.{Phase}
use Rattle.flow_code.specs.declared.thread.Phase.TheVariants as phase
use Rattle.flow_code.specs.Threads.{Frame, Thread}

-- the functions of frames
abbrev pub functions_of : List Frame → List ℕ
functions_of frames = map (λ (f : Frame). f.function) frames

-- those of all frames while the thread runs, that of the running frame last; before it enters its first function and once
-- it has ended there are none
abbrev pub stack_in : Phase → Thread → List ℕ
stack_in phase.Running th = functions_of th.below ++ th.top.function ∷ []
stack_in _ th = []

-- the functions that the thread is in now, the running one last
abbrev pub stack_of : Thread → List ℕ
stack_of th = stack_in th.phase th
