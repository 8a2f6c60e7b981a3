-- How writing a text ends, and with which exit status.
use Rattle.std.specs.Prelude.{◌≡◌, ℕ, List, Option}
use Rattle.rr_base.specs.Faults.{Rose}
use Rattle.rr_base.specs.Streams.{Took, TookSome}

-- what is seen of a sink: the bytes that it holds, where it tells them, and its count of faults
pub record Sight : Type 0 where
  pub held : Option (List ℕ)
  pub faults : ℕ

-- the text was written and the status told; or the sink failed (8) or memory ran out (12), and a front part of
-- the text was written
pub data Writes (text : List ℕ) (status : ℕ) (old new : Sight) (result : ℕ) : Type 0 where
  Whole : result ≡ status → Took text old.held new.held → new.faults ≡ old.faults → Writes text status old new result
  Failed : result ≡ 8 → TookSome text old.held new.held → Rose old.faults new.faults → Writes text status old new result
  NoMemory : result ≡ 12 → TookSome text old.held new.held → new.faults ≡ old.faults → Writes text status old new result
