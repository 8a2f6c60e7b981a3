-- How many judgements there are.
use Rattle.std.proofs.Common.{◌≡◌, ℕ, suc, ◌+◌, ◌*◌, List, [], ◌∷◌, ◌++◌, length, Option, Some, None, refl, ap, arith, length-append}
use Rattle.sync_objects.specs.Setup.{SetupView}
use Rattle.sync_objects.specs.declared.object.ObjId.{ObjId}
use Rattle.flow_code.specs.declared.code.Code.{Code}
use Rattle.core_run.specs.Words.{cells_of}
use Rattle.snapshots.specs.Conditions.{cells_judged, frames_judged, objects_judged, rank, regions_judged, stripes_judged, thread_judged}
use Rattle.snapshots.specs.declared.draft.DraftThread.{DraftThread}
use Rattle.thread_interpreter.specs.declared.part.FramePart.{FramePart}
use Rattle.thread_interpreter.specs.declared.part.StripePart.{StripePart}
use Rattle.thread_interpreter.specs.declared.part.RegionPart.{RegionPart}

module _ (code : Code) (s : SetupView) where
  pub cells_count : (b : Option ℕ) (cs : List (ℕ × ℕ)) → length (cells_judged code s b cs) ≡ length cs
  cells_count b [] = refl
  cells_count b (c ∷ cs) = ap suc (cells_count (Some c.0) cs)

  pub objects_count : (b : Option ℕ) (os : List (ObjId × ℕ × ℕ)) → length (objects_judged code s b os) ≡ length os
  objects_count b [] = refl
  objects_count b (o ∷ os) = ap suc (objects_count (Some (rank (cells_of code s) (length code.locks) o.0)) os)

  pub frames_count : (b : Option FramePart) (fs : List FramePart) → length (frames_judged code s b fs) ≡ length fs
  frames_count b [] = refl
  frames_count b (f ∷ fs) = ap suc (frames_count (Some f) fs)

  pub stripes_count : (rs : List RegionPart) (b : Option ℕ) (xs : List StripePart) → length (stripes_judged code s rs b xs) ≡ length xs
  stripes_count rs b [] = refl
  stripes_count rs b (x ∷ xs) = ap suc (stripes_count rs (Some (8 * x.lock + x.stripe)) xs)

  pub regions_count : (fs : List FramePart) (xs : List StripePart) (b : Option ℕ) (rs : List RegionPart) → length (regions_judged code fs xs b rs) ≡ length rs
  regions_count fs xs b [] = refl
  regions_count fs xs b (r ∷ rs) = ap suc (regions_count fs xs (Some r.frame) rs)

  pub thread_count : (t : ℕ) (d : DraftThread) → length (thread_judged code s t d) ≡ 1 + (length d.frames + (length d.stripes + length d.regions))
  thread_count t d =
      let f = frames_count None d.frames in
      let x = stripes_count d.regions None d.stripes in
      let r = regions_count d.frames d.stripes None d.regions in
      let a = length-append (stripes_judged code s d.regions None d.stripes) (regions_judged code d.frames d.stripes None d.regions) in
      let b = length-append (frames_judged code s None d.frames) (stripes_judged code s d.regions None d.stripes ++ regions_judged code d.frames d.stripes None d.regions) in
      omega arith
