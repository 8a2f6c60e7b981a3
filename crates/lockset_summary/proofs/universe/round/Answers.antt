use Rattle.std.proofs.Common.{◌≡◌, ℕ, arith, List, Some, sym, subst, ◌∙◌}
use Rattle.std.specs.Prelude.{slice_get}
use Rattle.std.proofs.lemmas.Option.{same_Some, slice_get_within}
use Rattle.flow_code.specs.declared.code.Function.{Function}
use Rattle.facts.specs.declared.locks.LockPath.{LockPath}
use Rattle.lockset_summary.specs.Rounds.{ForEach, room}
use Rattle.lockset_summary.specs.Known.{IsAllTold, AreAllTold, AreKnown}
use Rattle.lockset_summary.proofs.Rounds.{more, all_of, for_the, weaker}
use Rattle.lockset_summary.proofs.Visiting.{place_in}
use Rattle.lockset_summary.proofs.universe.round.Goals as goal

pub tell_all-requires-clause-within : goal.tell_all-requires-clause-within
tell_all-requires-clause-within c = omega (arith, (c.loop-k.invariant.sound c.requires.known).long, c.function_at-f.ensures.within)

pub loop-k-preserved : goal.loop-k-preserved
loop-k-preserved c = more (List (List LockPath)) (room LockPath) (AreKnown c.args.code.now) ℕ (λ r. c.args.order.now) (λ j f r. (fn : Function) → slice_get c.args.code.now.functions f ≡ Some fn → IsAllTold f fn r) c.loop-k.k c.args.rows.now.items c.loop-k.rows.items c.tell_all.new.rows.items c.loop-k.added c.in_ok-added.field-0 c.loop-k.invariant
    (for_the (List (List LockPath)) (room LockPath) (AreKnown c.args.code.now) ℕ (λ r. c.args.order.now) (λ j f r. (fn : Function) → slice_get c.args.code.now.functions f ≡ Some fn → IsAllTold f fn r) c.loop-k.k c.function_at-f.result c.loop-k.rows.items c.tell_all.new.rows.items c.in_ok-added.field-0 c.function_at-f.ensures.value
    (weaker (List (List LockPath)) (room LockPath) (AreKnown c.args.code.now) (IsAllTold c.function_at-f.result c.at.result.now) (λ r. (fn : Function) → slice_get c.args.code.now.functions c.function_at-f.result ≡ Some fn → IsAllTold c.function_at-f.result fn r) c.loop-k.rows.items c.tell_all.new.rows.items c.in_ok-added.field-0
    (λ m fn is. subst (λ z. IsAllTold c.function_at-f.result z c.tell_all.new.rows.items) (same_Some c.at.result.now fn (sym c.at.ensures ∙ is)) m) c.in_ok-added.ensures))

pub returns : goal.returns
returns c = weaker (List (List LockPath)) (room LockPath) (AreKnown c.args.code.now) (ForEach (List (List LockPath)) ℕ (λ r. c.args.order.now) (λ j f r. (fn : Function) → slice_get c.args.code.now.functions f ≡ Some fn → IsAllTold f fn r)) (AreAllTold c.args.code.now) c.args.rows.now.items c.loop-k.rows.items c.loop-k.added
    (λ m f fn at. let p = place_in c.args.order.now f (c.requires.order.each f (slice_get_within c.args.code.now.functions f fn at)) in m p.0 f p.1 fn at)
    (all_of (List (List LockPath)) (room LockPath) (AreKnown c.args.code.now) ℕ (λ r. c.args.order.now) (λ j f r. (fn : Function) → slice_get c.args.code.now.functions f ≡ Some fn → IsAllTold f fn r) c.loop-k.k c.args.rows.now.items c.loop-k.rows.items c.loop-k.added (omega (arith, c.loop-k-test.false)) c.loop-k.invariant)
