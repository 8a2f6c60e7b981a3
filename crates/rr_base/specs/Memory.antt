-- Sources, sinks and shelves in memory: what each of them has, and which of its calls are to fail.
use Rattle.std.specs.Prelude.{◌≡◌, slice_get, ℕ, ◌+◌, ◌-◌, ◌^◌, ◌==◌, min, Bool, List, [], ◌∷◌, ◌++◌, Option, Some, None, Result, Ok, Err, take, drop, if◌then◌else◌}
use Rattle.std.specs.List.{list_any}
use Rattle.std.specs.Option.{option_or}
use Rattle.std.specs.Str.{bytes_eq}
use Rattle.rr_base.specs.Files.{Files}
use Rattle.rr_base.specs.declared.plan.Plan.{Plan}
use Rattle.rr_base.specs.declared.sink.SinkEnd.{SinkEnd}
use Rattle.rr_base.specs.declared.sink.SinkEnd.TheVariants as sink_end
use Rattle.rr_base.specs.declared.shelf.ShelfEnd.{ShelfEnd}
use Rattle.rr_base.specs.declared.shelf.ShelfEnd.TheVariants as shelf_end

-- ---- which calls are to fail

-- a plan has the numbers of the calls that are to fail, the number of the next call, from 0, and the count of faults so far;
-- calls and faults are counted up to the greatest u64
abbrev pub one_more : ℕ → ℕ
one_more n = min (n + 1) (2 ^ 64 - 1)

-- no call was made yet
abbrev pub new_plan : List ℕ → Plan
new_plan fails = record { fails = fails; calls = 0; faults = 0 }

-- the next call is one of those that are to fail
abbrev pub is_due : Plan → Bool
is_due plan = list_any (λ n. n == plan.calls) plan.fails

-- once that call has gone well, and once it has failed
abbrev pub after_call : Plan → Plan
after_call plan = record plan { calls = one_more plan.calls }

-- the failed call counts as a call and as a fault
abbrev pub after_fault : Plan → Plan
after_fault plan = record plan { calls = one_more plan.calls; faults = one_more plan.faults }

-- ---- what each form has

-- a source: the bytes that are left
pub record Supply : Type 0 where
  pub left : List ℕ
  pub plan : Plan

-- a sink: the bytes that it holds, and how many it takes at most in one call
pub record Store : Type 0 where
  pub held : List ℕ
  pub most : ℕ
  pub plan : Plan

-- a sink that never fails
pub record SoundStore : Type 0 where
  pub held : List ℕ
  pub most : ℕ

-- a shelf: its files, each a name and a content
pub record Cabinet : Type 0 where
  pub files : List (List ℕ × List ℕ)
  pub plan : Plan

-- the files of a cabinet: of two of one name the later one counts
abbrev pub content_of : List (List ℕ × List ℕ) → Files
content_of [] name = None
content_of (file ∷ files) name = option_or (content_of files name) (if bytes_eq file.0 name then Some file.1 else None)

-- at this place stands the file that counts for a name
abbrev pub IsLastFile : List (List ℕ × List ℕ) → (name : List ℕ) → (at : ℕ) → Type 0
IsLastFile files name at =
    (content : List ℕ) × (slice_get files at ≡ Some (name, content)) × (content_of files name ≡ Some content)

-- what a call that is not to fail finds
abbrev pub found : Cabinet → List ℕ → Option (List ℕ)
found shelf name = if is_due shelf.plan then None else content_of shelf.files name

-- ---- how each form stands after a call

-- a read takes `room` bytes at most, or none where it fails
abbrev pub after_read : Supply → (room : ℕ) → Supply
after_read source room =
    if is_due source.plan then record source { plan = after_fault source.plan }
    else record { left = drop room source.left; plan = after_call source.plan }

-- want of memory leaves the sink as it was, and counts as no call
abbrev pub after_write : Store → (piece : List ℕ) → Result ℕ SinkEnd → Store
after_write sink piece (Ok n) = record sink { held = sink.held ++ take n piece; plan = after_call sink.plan }
after_write sink piece (Err sink_end.Failed) = record sink { plan = after_fault sink.plan }
after_write sink piece (Err sink_end.OutOfMemory) = sink

-- a call on a shelf that ends for want of memory isn't counted
abbrev pub plan_after : {T : Type 0} → Result T ShelfEnd → Plan → Plan
plan_after (Ok _) plan = after_call plan
plan_after (Err shelf_end.Failed) plan = after_fault plan
plan_after (Err shelf_end.OutOfMemory) plan = plan
