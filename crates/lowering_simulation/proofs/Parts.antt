-- In a run of the source each thread's own events are the first ones of its run.
use Rattle.std.proofs.Common.{◌≡◌, ℕ, zero, suc, Bool, true, false, if◌then◌else◌, nat_eq, ℤ, List, [], ◌∷◌, ◌++◌, ◌⊎◌, inl, inr, refl, sym, ap, subst, ◌∙◌, arith}
use Rattle.std.proofs.lemmas.Bool.{eqb-true}
use Rattle.rr_base.specs.declared.trap.Trap.{Trap}
use Rattle.rr_base.specs.declared.trap.Trap.TheVariants as trap
use Rattle.sync_objects.specs.Setup.{SetupView}
use Rattle.word_semantics.specs.declared.event.Action.{Action}
use Rattle.core_tree.specs.Core.{Program}
use Rattle.core_tree.specs.Runs.{Run, does, traps, ends, Event, done, trapped, events}
use Rattle.core_tree.specs.Meaning.{run_of}
use Rattle.lowering_simulation.specs.SourceRuns.{Transition, own, stops, closes, Progress, waits, goes, over, World, ThreadTransition, after, is_last, rest_after, standing_after, ComesNext, IsFull, MayDo, IsRunFrom, start_standing, start_world, IsSourceRun}
use Rattle.lowering_simulation.specs.ThreadEvents.{event_in, own_events, IsPartOf}

-- what a thread that stands there may still do by itself
abbrev IsPartAt : Progress → List Event → Type 0
IsPartAt (waits r) es = IsPartOf r es
IsPartAt (goes r) es = IsPartOf r es
IsPartAt over es = es ≡ []

done_first : (a : Action) (out : List ℕ) (z : ℤ) (more : ℤ → Run) (es : List Event) → IsPartOf (more z) es → IsPartOf (does a out more) (done a out z ∷ es)
done_first a out z more es part = record {
  first = done a out z ∷ part.first;
  rest = part.rest;
  of_run = ap (λ x. done a out z ∷ x) part.of_run;
  ends = by part.ends;
}
  where
    by : (es ≡ part.first) ⊎ ((line : ℕ) × (es ≡ part.first ++ trapped trap.LogFull line ∷ [])) → (done a out z ∷ es ≡ done a out z ∷ part.first) ⊎ ((line : ℕ) × (done a out z ∷ es ≡ done a out z ∷ (part.first ++ trapped trap.LogFull line ∷ [])))
    by (inl e) = inl (ap (λ x. done a out z ∷ x) e)
    by (inr (line, e)) = inr (line, ap (λ x. done a out z ∷ x) e)

-- nothing yet
none_of : (r : Run) (es : List Event) → es ≡ [] → IsPartOf r es
none_of r es e = record { first = []; rest = events r []; of_run = refl; ends = inl e }

module _ (p : Program) (s : SetupView) (MayFill : Run → Type 0) where
  done_then : (a : Action) (out : List ℕ) (z : ℤ) (more : ℤ → Run) (es : List Event) (b : Bool) → IsPartAt (if b then over else goes (more z)) es → IsPartOf (does a out more) (done a out z ∷ es)
  done_then a out z more es true h = done_first a out z more es (none_of (more z) es h)
  done_then a out z more es false h = done_first a out z more es h

  over_then : (r : Run) (why : Trap) (line : ℕ) (es : List Event) → IsPartAt (rest_after r (trapped why line)) es → es ≡ []
  over_then (does a out more) why line es h = h
  over_then (traps k l) why line es h = h
  over_then ends why line es h = h

  fills : (r : Run) (why : Trap) (line : ℕ) (es : List Event) → why ≡ trap.LogFull → es ≡ [] → IsPartOf r (trapped why line ∷ es)
  fills r why line es is e = record { first = []; rest = events r []; of_run = refl; ends = inr (line, ap (λ x. trapped x line ∷ es) is ∙ ap (λ x. trapped trap.LogFull line ∷ x) e) }

  next_then : (w : World) (t : ℕ) (r : Run) (e : Event) (es : List Event) → ComesNext p s w t r e → IsPartAt (rest_after r e) es → IsPartOf r (e ∷ es)
  next_then w t (does a out more) (done b out' z) es next h = subst (λ x. IsPartOf (does a out more) (done x out' z ∷ es)) (sym next.0) (subst (λ x. IsPartOf (does a out more) (done a x z ∷ es)) (sym next.1) (done_then a out z more es (is_last b) h))
  next_then w t (does a out more) (trapped why line) es next h = absurd next
  next_then w t (traps why line) (done b out z) es next h = absurd next
  next_then w t (traps why line) (trapped why' line') es next h = record {
    first = trapped why line ∷ [];
    rest = [];
    of_run = refl;
    ends = inl (ap (λ x. trapped why' line' ∷ x) h ∙ ap (λ x. trapped x line' ∷ []) next.0 ∙ ap (λ n. trapped why n ∷ []) next.1);
  }
  next_then w t ends (done b out z) es next h = absurd next
  next_then w t ends (trapped why line) es next h = absurd next

  event_then : (w : World) (t : ℕ) (r : Run) (e : Event) (es : List Event) → ComesNext p s w t r e ⊎ IsFull p s MayFill w t r e → IsPartAt (rest_after r e) es → IsPartOf r (e ∷ es)
  event_then w t r e es (inl next) h = next_then w t r e es next h
  event_then w t r (trapped why line) es (inr full) h = fills r why line es full.0 (over_then r why line es h)
  event_then w t r (done a out z) es (inr full) h = absurd full

  transition_then : (w : World) (t : ℕ) (x : Progress) (d : Transition) (es : List Event) → MayDo p s MayFill w t x d → IsPartAt (standing_after x d) es → IsPartAt x (event_in d ++ es)
  transition_then w t (waits r) (own e) es may h = event_then w t r e es may h
  transition_then w t (goes r) (own e) es may h = event_then w t r e es may h
  transition_then w t (goes r) stops es may h = none_of r es h
  transition_then w t (waits r) closes es may h = none_of r es h
  transition_then w t (waits r) stops es may h = absurd may
  transition_then w t (goes r) closes es may h = absurd may
  transition_then w t over (own e) es may h = absurd may
  transition_then w t over stops es may h = absurd may
  transition_then w t over closes es may h = absurd may

  nothing_yet : (x : Progress) → IsPartAt x []
  nothing_yet (waits r) = none_of r [] refl
  nothing_yet (goes r) = none_of r [] refl
  nothing_yet over = refl

  parts_from : (ds : List ThreadTransition) (w : World) (t : ℕ) → IsRunFrom p s MayFill w ds → IsPartAt (w.threads t) (own_events t ds)
  parts_from [] w t h = nothing_yet (w.threads t)
  parts_from (d ∷ ds) w t h = by (nat_eq d.thread t) refl (nat_eq t d.thread) refl (parts_from ds (after w d) t h.2)
    where
      eq_is : (m n : ℕ) → m ≡ n → nat_eq m n ≡ true
      eq_is m n same = grind (arith, same)

      by : (b : Bool) → nat_eq d.thread t ≡ b → (c : Bool) → nat_eq t d.thread ≡ c → IsPartAt (if c then standing_after (w.threads d.thread) d.transition else w.threads t) (own_events t ds) → IsPartAt (w.threads t) (if b then event_in d.transition ++ own_events t ds else own_events t ds)
      by true e true f more = subst (λ n. IsPartAt (w.threads n) (event_in d.transition ++ own_events t ds)) (eqb-true d.thread t e) (transition_then w d.thread (w.threads d.thread) d.transition (own_events t ds) h.1 more)
      by true e false f more = let same = eq_is t d.thread (sym (eqb-true d.thread t e)) in cc
      by false e true f more = let same = eq_is d.thread t (sym (eqb-true t d.thread f)) in cc
      by false e false f more = more

  start_part : (t : ℕ) (es : List Event) → IsPartAt (start_standing p s t) es → IsPartOf (run_of p s t) es
  start_part zero es h = h
  start_part (suc k) es h = h

  pub parts : (ds : List ThreadTransition) (t : ℕ) → IsSourceRun p s MayFill ds → IsPartOf (run_of p s t) (own_events t ds)
  parts ds t h = start_part t (own_events t ds) (parts_from ds (start_world p s) t h)
