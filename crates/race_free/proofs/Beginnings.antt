-- The first part of a run begins like the whole, and stops before what comes after it.
use Rattle.std.proofs.Common.{◌≡◌, ℕ, ◌≤◌, List, [], ◌∷◌, ◌++◌, Some, sym, ap, ◌∙◌, subst}
use Rattle.std.proofs.lemmas.List.{append_assoc, append_cancel_left}
use Rattle.std.proofs.lemmas.Option.{same_Some}
use Rattle.sync_objects.specs.declared.entry.Noted.{Noted}
use Rattle.run_theory.specs.Labels.{Label}
use Rattle.run_theory.specs.Laws.{IsLawful}
use Rattle.run_theory.specs.Paths.{BeginsLike, StopsBefore}
use Rattle.run_theory.specs.Steps.{Machine, State, added, count_of, entries_of, run, stepped, trace}
use Rattle.run_theory.proofs.Apart.{run_more, trace_more}
use Rattle.run_theory.proofs.Grows.{first_count}
use Rattle.run_theory.proofs.Lists.{entries_of-append}

module _ {T : Type 0} (m : Machine T) (law : IsLawful m) where
  -- where the first part ends the rest begins
  rest_runs : (first more : List Label) (s mid end : State T) → run m first s ≡ Some mid → run m (first ++ more) s ≡ Some end → run m more mid ≡ Some end
  rest_runs [] more s mid end h whole = ap (run m more) (sym (same_Some _ _ h)) ∙ whole
  rest_runs (u ∷ R) more s mid end h whole =
      let x = run_more m law u R s mid h in
      let y = run_more m law u (R ++ more) s end whole in
      let one : x.0 ≡ y.0 = same_Some _ _ (sym x.1 ∙ y.1) in
      rest_runs R more x.0 mid end x.2 (subst (λ z. run m (R ++ more) z ≡ Some end) (sym one) y.2)

  trace_parts : (first more : List Label) (s mid : State T) → run m first s ≡ Some mid → trace m (first ++ more) s ≡ trace m first s ++ trace m more mid
  trace_parts [] more s mid h = ap (trace m more) (same_Some _ _ h)
  trace_parts (u ∷ R) more s mid h =
      let x = run_more m law u R s mid h in
      trace_more m law u (R ++ more) s x.0 x.1
      ∙ ap (λ z. added m s u ++ z) (trace_parts R more x.0 mid x.2)
      ∙ sym (append_assoc (added m s u) (trace m R x.0) (trace m more mid))
      ∙ ap (λ z. z ++ trace m more mid) (sym (trace_more m law u R s x.0 x.1))

  entries_parts : (first more : List Label) (s mid : State T) (t : ℕ) → run m first s ≡ Some mid → entries_of t (trace m (first ++ more) s) ≡ entries_of t (trace m first s) ++ entries_of t (trace m more mid)
  entries_parts first more s mid t h = ap (entries_of t) (trace_parts first more s mid h) ∙ entries_of-append t (trace m first s) (trace m more mid)

  pub begins : (first more : List Label) (s mid : State T) → run m first s ≡ Some mid → BeginsLike m first (first ++ more) s
  begins first more s mid h = λ t. (entries_of t (trace m more mid), sym (entries_parts first more s mid t h))

  pub stops : (first more : List Label) (s mid end : State T) → run m first s ≡ Some mid → run m (first ++ more) s ≡ Some end → StopsBefore m first (first ++ more) s mid
  stops first more s mid end h whole = λ t x rest parts.
      let own = append_cancel_left (entries_of t (trace m first s)) (x ∷ rest) (entries_of t (trace m more mid)) (parts ∙ entries_parts first more s mid t h) in
      first_count m law more mid end t x rest (rest_runs first more s mid end h whole) (sym own)
