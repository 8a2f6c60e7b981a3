-- One more region is judged, and fits.
use Rattle.std.proofs.Common.{◌≡◌, ℕ, ◌+◌, ◌-◌, ◌≤◌, min, Bool, true, List, [], ◌∷◌, length, take, drop, Option, Some, sym, ap, subst, ◌∙◌, arith, length-drop}
use Rattle.std.specs.Prelude.{◌&&◌, slice_get}
use Rattle.std.specs.List.{list_all}
use Rattle.std.proofs.Math.ListN.{get_or}
use Rattle.std.proofs.lemmas.List.{take_rest}
use Rattle.flow_code.specs.declared.code.Code.{Code}
use Rattle.snapshots.specs.Conditions.{all_differ, is_among, is_from, opens, region_fits, regions_judged}
use Rattle.snapshot_reader.specs.Misfits.{Judging}
use Rattle.snapshot_reader.proofs.Judging.{judging_next}
use Rattle.thread_interpreter.specs.declared.part.FramePart.{FramePart}
use Rattle.thread_interpreter.specs.declared.part.RegionPart.{RegionPart}
use Rattle.thread_interpreter.specs.declared.part.StripePart.{StripePart}

pub next_region : (code : Code) (frames : List FramePart) (stripes : List StripePart) (all : List Bool) (before : Option ℕ) (rest : List RegionPart) (r : RegionPart) (at line next : ℕ)
    → 1 ≤ length rest → r ≡ get_or rest 0 r → Judging all (regions_judged code frames stripes before rest) at line
    → opens code (slice_get frames r.frame) r.instr ≡ true → is_from before r.frame ≡ true → (all_differ r.stripes && list_all (is_among stripes) r.stripes) ≡ true → next ≡ min (line + 1) 4294967295
    → Judging all (regions_judged code frames stripes (Some r.frame) (take (length rest - 1) (drop 1 rest))) at next
next_region code frames stripes all before [] r at line next some is j opened from pairs step = absurd (let h : 1 ≤ 0 = some in omega arith)
next_region code frames stripes all before (region ∷ more) r at line next some is j opened from pairs step =
    let fits : region_fits code frames stripes before r ≡ true =
    (λ i. opened i && (is_from before r.frame && (all_differ r.stripes && list_all (is_among stripes) r.stripes))) ∙ (λ i. from i && (all_differ r.stripes && list_all (is_among stripes) r.stripes)) ∙ pairs in
    subst (λ (left : List RegionPart). Judging all (regions_judged code frames stripes (Some r.frame) left) at next) (sym (take_rest (region ∷ more) 1))
    (subst (λ (g : RegionPart). Judging all (regions_judged code frames stripes (Some g.frame) more) at next) (sym is)
    (judging_next all (regions_judged code frames stripes (Some region.frame) more) (region_fits code frames stripes before region) at line next j (ap (region_fits code frames stripes before) (sym is) ∙ fits) step))

-- the mark of the next region, and how many are left
pub next_mark : (mark most : ℕ) (rest : List RegionPart) → 1 ≤ length rest → mark + length rest ≡ most → (mark + 1) + length (take (length rest - 1) (drop 1 rest)) ≡ most
next_mark mark most rest some numbered = let e = ap length (take_rest rest 1) ∙ length-drop 1 rest in omega arith
