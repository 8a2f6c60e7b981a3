-- Worked rows of checkpoints.
use Rattle.std.proofs.Common.{◌≡◌, refl, List, [], ◌∷◌, ◌++◌, length, map}
use Rattle.std.specs.Prelude.{codes, true, false}
use Rattle.profiles.specs.Profile.{Text}
use Rattle.order_log.specs.Text.{text_of}
use Rattle.thread_interpreter.specs.declared.part.ThreadPart.{ThreadPart}
use Rattle.thread_interpreter.specs.declared.part.PhasePart.TheVariants as part
use Rattle.snapshots.specs.declared.snapshot.Snapshot.{Snapshot}
use Rattle.snapshots.specs.Text.{draft_lines, draft_of, cell_line, stripe_line, region_line}

-- `int main(void){return 0;}` with one slot before its first step
at_start : Snapshot
at_start = record {
  at = 0;
  cells = [];
  objects = [];
  threads = record { count = 0; arena = 2; entries = 0; revokes = 0; printed = 0; frames = []; stripes = []; regions = []; phase = part.Begun 0 } ∷ [];
}

its_lines : draft_lines (draft_of at_start) ≡ codes "chimera checkpoint 1" ∷ codes "at 0" ∷ codes "cells 0" ∷ codes "objects 0" ∷ codes "thread 0 0 2 0 0 0 0 0 0 begun 0" ∷ []
unfolding at_start
its_lines = refl

-- a lock's stripe that two open regions have, revoked
owed_line : stripe_line (record { lock = 4; stripe = 0; owed = true; nesting = 2 }) ≡ codes "owed 4 0 2"
owed_line = refl

-- a region of the outermost frame with two stripes
opened_line : region_line (record { frame = 0; instr = 17; stripes = (4, 0) ∷ (12, 7) ∷ [] }) ≡ codes "region 0 17 4.0 12.7"
opened_line = refl
