-- The code of a source has no weak locks, and its loops are apart and closed.
use Rattle.std.proofs.Common.{◌≡◌, Bool, true, List, [], ◌∷◌, length, map, refl, sym, subst}
use Rattle.std.specs.Prelude.{◌==◌}
use Rattle.std.specs.List.{list_all}
use Rattle.core_tree.specs.Core as core
use Rattle.call_targets.specs.Resolved.{resolved}
use Rattle.c_elaborate.specs.Whole.{core_of_source}
use Rattle.rr_base.specs.Texts.{Text}
use Rattle.flow_code.specs.declared.code.Code.{Code}
use Rattle.flow_lower.specs.Lowered.{function_code, lowered}
use Rattle.weak_code.specs.Stripped.{is_plain}
use Rattle.weak_valid.specs.Apart.{loops_are_apart}
use Rattle.guard_paths.specs.LoopsClosed.{loops_are_closed}
use Rattle.source_loops.proofs.Marks.{apart}
use Rattle.source_loops.proofs.Closed.{closed}
use Rattle.front.specs.Plain.{IsCodeOf}
use Rattle.front.proofs.Sources.{as_lowered}

no_regions : (fs : List core.Function) → list_all (λ f. length f.regions == 0) (map function_code fs) ≡ true
no_regions [] = refl
no_regions (f ∷ fs) = no_regions fs

lowered_plain : (p : core.Program) → is_plain (lowered p) ≡ true
lowered_plain p = no_regions p.functions

-- what each lowered code meets, the code of a source meets
of_lowered : (test : Code → Bool) → ((p : core.Program) → test (lowered p) ≡ true) → (text : Text) (code : Code) → IsCodeOf text code → test code ≡ true
of_lowered test all text code h = subst (λ (c : Code). test c ≡ true) (sym h.is) (subst (λ (c : Code). test c ≡ true) (sym (as_lowered h.tree)) (all (resolved (core_of_source h.tree))))

pub without_locks : (text : Text) (code : Code) → IsCodeOf text code → is_plain code ≡ true
without_locks = of_lowered is_plain lowered_plain

pub loops_apart : (text : Text) (code : Code) → IsCodeOf text code → loops_are_apart code ≡ true
loops_apart = of_lowered loops_are_apart apart

pub loops_closed : (text : Text) (code : Code) → IsCodeOf text code → loops_are_closed code ≡ true
loops_closed = of_lowered loops_are_closed closed
