-- Each way through a weakened function to a Return has given all regions.
use Rattle.std.proofs.Common.{◌≡◌, [], Option, Some, None, refl, sym, subst}
use Rattle.std.specs.Prelude.{slice_get}
use Rattle.std.proofs.lemmas.Option.{same_Some}
use Rattle.flow_code.specs.declared.act.Act.TheVariants as act
use Rattle.flow_code.specs.declared.act.Instr.{Instr}
use Rattle.flow_code.specs.declared.code.Code.{Code}
use Rattle.flow_code.specs.declared.code.Function.{Function}
use Rattle.flow_code.specs.Next.{act_in}
use Rattle.flow_code.specs.Threads.{instr_in, instrs_in}
use Rattle.weak_lock_facts.specs.Ranges.{ranges_of}
use Rattle.weak_code.specs.Weakened.{weakened}
use Rattle.guard_paths.specs.Ways.{Way}
use Rattle.guard_paths.proofs.Covered.{returns_give_all}
use Rattle.guard_paths.proofs.Holdings.{GiveAll}
use Rattle.lock_sound.specs.Weakened.{Analysed, IsAnalysed}

module _ (a : Analysed) (is : IsAnalysed a) where
  abbrev Weak : Code
  Weak = weakened a.plain a.points a.pairs (ranges_of a.plain a.points) a.grains.rows

  in_weakened : GiveAll Weak
  in_weakened f w os value way at = by (slice_get Weak.functions f) refl way at
    where
      in_function : (weak : Function) (o : Option Instr) → slice_get Weak.functions f ≡ Some weak → slice_get weak.instrs w ≡ o → Way weak.instrs w os → act_in o ≡ Some (act.Return value) → os ≡ []
      in_function weak None g e way at = cc
      in_function weak (Some i) g e way at =
          returns_give_all a.plain a.points a.pairs (ranges_of a.plain a.points) a.profile a.grains.rows is.valid is.without_locks is.apart is.closed refl is.grains
          f weak w os i value g way e (same_Some i.act (act.Return value) at)

      by : (o : Option Function) → slice_get Weak.functions f ≡ o → Way (instrs_in o) w os → act_in (instr_in o w) ≡ Some (act.Return value) → os ≡ []
      by None g way at = cc
      by (Some weak) g way at = in_function weak (slice_get weak.instrs w) g refl way at

  pub give_all : GiveAll a.weak
  give_all = subst GiveAll (sym is.weak) in_weakened
