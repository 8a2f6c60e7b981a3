-- What a thread of a weakened code has at the end of its first function.
use Rattle.std.proofs.Common.{◌≡◌, ℕ, true, List, [], refl, Option, Some, None}
use Rattle.std.specs.Prelude.{slice_get}
use Rattle.std.proofs.lemmas.Option.{same_Some}
use Rattle.sync_objects.specs.Setup.{SetupView}
use Rattle.flow_code.specs.declared.act.Act.TheVariants as act
use Rattle.flow_code.specs.declared.act.Instr.{Instr}
use Rattle.flow_code.specs.declared.code.Code.{Code}
use Rattle.flow_code.specs.declared.code.Function.{Function}
use Rattle.flow_code.specs.declared.thread.Phase.TheVariants as phase
use Rattle.flow_code.specs.Next.{act_in, act_at}
use Rattle.flow_code.specs.Threads.{Thread, instr_in, instrs_in}
use Rattle.flow_code.specs.Valid.{is_valid}
use Rattle.facts.specs.declared.pair.Pair.{Pair}
use Rattle.profiles.specs.declared.profile.Profile.{Profile}
use Rattle.facts.specs.PointsTo.{Tables}
use Rattle.weak_lock_facts.specs.declared.grain.Grained.{Grained}
use Rattle.weak_lock_facts.specs.declared.range.Range.{Range}
use Rattle.weak_lock_facts.specs.Grains.{AreGrains}
use Rattle.weak_lock_facts.specs.Ranges.{ranges_of}
use Rattle.weak_code.specs.Stripped.{is_plain}
use Rattle.weak_code.specs.Weakened.{weakened}
use Rattle.weak_valid.specs.Apart.{loops_are_apart}
use Rattle.guard_paths.specs.LoopsClosed.{loops_are_closed}
use Rattle.guard_paths.specs.Reached.{Reached}
use Rattle.guard_paths.specs.Ways.{Way}
use Rattle.guard_paths.proofs.Covered.{returns_give_all}
use Rattle.guard_paths.proofs.Holdings.{GiveAll}
use Rattle.guard_paths.proofs.Threads.{last_return}

give_all : (code : Code) (t : Tables) (vs : List Pair) (rs : List Range) (profile : Profile) (rows : List Grained) → is_valid code ≡ true → is_plain code ≡ true → loops_are_apart code ≡ true → loops_are_closed code ≡ true → rs ≡ ranges_of code t → AreGrains code vs rs profile rows → GiveAll (weakened code t vs rs rows)
give_all code t vs rs profile rows v p apart closed ranges grains f w os value way at = go (slice_get (weakened code t vs rs rows).functions f) refl way at
  where
    in_function : (weak : Function) (o : Option Instr) → slice_get (weakened code t vs rs rows).functions f ≡ Some weak → slice_get weak.instrs w ≡ o → Way weak.instrs w os → act_in o ≡ Some (act.Return value) → os ≡ []
    in_function weak None g e way at = cc
    in_function weak (Some i) g e way at = returns_give_all code t vs rs profile rows v p apart closed ranges grains f weak w os i value g way e (same_Some i.act (act.Return value) at)

    go : (o : Option Function) → slice_get (weakened code t vs rs rows).functions f ≡ o → Way (instrs_in o) w os → act_in (instr_in o w) ≡ Some (act.Return value) → os ≡ []
    go None g way at = cc
    go (Some weak) g way at = in_function weak (slice_get weak.instrs w) g refl way at

pub nothing_left : (code : Code) (t : Tables) (vs : List Pair) (rs : List Range) (profile : Profile) (rows : List Grained) → is_valid code ≡ true → is_plain code ≡ true → loops_are_apart code ≡ true → loops_are_closed code ≡ true → rs ≡ ranges_of code t → AreGrains code vs rs profile rows
    → (s : SetupView) (k : ℕ) (th : Thread) (value : Option ℕ) → Reached (weakened code t vs rs rows) s k th → th.phase ≡ phase.Running → th.below ≡ [] → act_at (weakened code t vs rs rows) th.top ≡ Some (act.Return value) → (th.stripes ≡ []) × (th.regions ≡ [])
nothing_left code t vs rs profile rows v p apart closed ranges grains s k th value r q b at =
    let e = last_return (weakened code t vs rs rows) s k (give_all code t vs rs profile rows v p apart closed ranges grains) {th = th} value r q b at in
    (e.1, e.0)
