-- The laws of runs that follow a log.
use Rattle.std.proofs.Common.{◌≡◌, ℕ, List, [], ◌∷◌, ◌++◌, length, Some, None, sym, ap, ◌∙◌, subst, arith, append_assoc}
use Rattle.std.specs.Prelude.{slice_get, option_and_then, ◌↔◌}
use Rattle.std.proofs.lemmas.List.{append-nil}
use Rattle.sync_objects.specs.declared.entry.Entry.{Entry}
use Rattle.run_theory.specs.Labels.{Label, label_thread}
use Rattle.run_theory.specs.Laws.{IsLawful, IsRaceFree}
use Rattle.run_theory.specs.Paths.{IsPrefixOf, path}
use Rattle.run_theory.specs.Steps.{Leaves, Refused, Machine, State, outcome, added, run, trace, entries_of, AllEnded}
use Rattle.run_theory.specs.Walk.{part, walk}
use Rattle.run_theory.proofs.Apart.{run_more, trace_more}
use Rattle.run_theory.proofs.Counts.{quiet_after}
use Rattle.run_theory.proofs.Lists.{nil_front, nil_back, nil_of_threads, slice_get-set_same}
use Rattle.run_theory.proofs.Solo.{walk-append}
use Rattle.run_theory.proofs.Swap.{steps_of, adds_of}
use Rattle.replay_theory.specs.Following.{Departs, EndedRest, Follows, HasMade, IsFresh, LeavesAtLeast}
use Rattle.replay_theory.specs.Numbered.{numbered, with_number}
use Rattle.replay_theory.proofs.Alone.{leading}
use Rattle.replay_theory.proofs.Drawn.{no_more_numbers}
use Rattle.replay_theory.proofs.Fronts.{fronts}
use Rattle.replay_theory.proofs.Refusals.{departs_none}
use Rattle.replay_theory.proofs.Words.{walk_numbers, walk_floors}

-- what is after a list that is the whole is nothing
nothing_after : {A : Type 0} (xs ys : List A) → xs ++ ys ≡ xs → ys ≡ []
nothing_after [] ys h = h
nothing_after (x ∷ xs) ys h = nothing_after xs ys cc

-- two lists of which each begins with the other
both_fronts : {A : Type 0} (xs ys : List A) → IsPrefixOf xs ys → IsPrefixOf ys xs → xs ≡ ys
both_fronts xs ys p q =
    let e : xs ++ p.0 ++ q.0 ≡ xs = cc (p.1, q.1) in
    let none = nil_front p.0 q.0 (nothing_after xs (p.0 ++ q.0) (sym (append_assoc xs p.0 q.0) ∙ e)) in
    sym (append-nil xs) ∙ ap (λ z. xs ++ z) (sym none) ∙ p.1

module _ {T : Type 0} (m : Machine T) (law : IsLawful m) where
  pub refused : (floor : Entry → ℕ) (start end : State T) (labels : List Label) (front back : List Entry) (e : Entry) (th : T) → LeavesAtLeast m floor → IsRaceFree m start → IsFresh m start → run m labels start ≡ Some end → Follows m (front ++ e ∷ back) labels start → HasMade m front labels start → entries_of e.thread (trace m labels start) ≡ entries_of e.thread (numbered front) → slice_get end.threads e.thread ≡ Some th → Departs m floor (entries_of e.thread (numbered front)) end.words th (with_number (numbered front) e) → (before : State T) × (walk m front start ≡ Some before) × (walk m (front ++ e ∷ []) start ≡ None)
  refused floor start end labels front back e th leaves free fresh h follows made no_more at_end departs =
      let f = fronts m law front (e ∷ back) [] labels start end h free follows made in
      let none = nothing_after (entries_of e.thread (numbered front)) (entries_of e.thread (trace m f.after f.mid)) (f.lists e.thread ∙ no_more) in
      let leads = leading m law (length (path m e.thread f.after f.mid)) f.after f.mid end e.thread (omega arith) f.goes f.free none in
      let has = walk_numbers m law front start f.mid f.walked (λ o known. omega (arith, fresh o known)) in
      let floors = walk_floors m law floor leaves front start f.mid f.walked e.thread in
      let few = no_more_numbers m law front back e labels start end h fresh follows no_more in
      let no_part : part m e f.mid ≡ None = departs_none m law floor (numbered front) e f.mid end th leads at_end has few floors departs in
      (f.mid, f.walked, walk-append m front (e ∷ []) start ∙ ap (option_and_then (walk m (e ∷ []))) f.walked ∙ ap (option_and_then (walk m [])) no_part)

  pub front_taken : (start end : State T) (labels : List Label) (front back : List Entry) → IsRaceFree m start → run m labels start ≡ Some end → Follows m (front ++ back) labels start → HasMade m front labels start → (before : State T) × (walk m front start ≡ Some before)
  front_taken start end labels front back free h follows made =
      let f = fronts m law front back [] labels start end h free follows made in
      (f.mid, f.walked)

  -- where all have ended and nothing is added, nothing was done
  nothing_done : (R : List Label) (s s1 : State T) → run m R s ≡ Some s1 → trace m R s ≡ [] → AllEnded m s1 → s ≡ s1
  nothing_done [] s s1 h tr over = cc
  nothing_done (u ∷ R) s s1 h tr over =
      let more = run_more m law u R s s1 h in
      let e = sym (trace_more m law u R s more.0 more.1) ∙ tr in
      let x = steps_of m s u more.0 more.1 in
      let none = nil_front (added m s u) (trace m R more.0) e in
      let same = nothing_done R more.0 s1 more.2 (nil_back (added m s u) (trace m R more.0) e) over in
      let q = quiet_after m law u x.before s.words x.words x.after (m.effect u x.before) (law.effects u x.before) x.leaves (sym (adds_of m s u more.0 x) ∙ none) in
      let stands : slice_get s1.threads (label_thread u) ≡ Some x.after = ap (λ (z : State T). slice_get z.threads (label_thread u)) (sym same ∙ x.to) ∙ slice_get-set_same s.threads (label_thread u) x.after x.before x.stands in
      cc (q.lives, over (label_thread u) x.after stands)

  -- where all have ended, no step follows
  ended_stay : EndedRest m → (R : List Label) (s s1 : State T) → run m R s ≡ Some s1 → AllEnded m s → s ≡ s1
  ended_stay rest [] s s1 h over = cc
  ended_stay rest (u ∷ R) s s1 h over =
      let more = run_more m law u R s s1 h in
      let x = steps_of m s u more.0 more.1 in
      let none = rest u x.before (over (label_thread u) x.before x.stands) in
      let on : outcome m s.words Refused ≡ Leaves x.words x.after = ap (outcome m s.words) (sym none) ∙ x.leaves in
      cc

  pub taken : (start end : State T) (labels : List Label) (entries : List Entry) → EndedRest m → IsRaceFree m start → run m labels start ≡ Some end → Follows m entries labels start → HasMade m entries labels start → (last : State T) × (walk m entries start ≡ Some last) × (AllEnded m last ↔ AllEnded m end) × (AllEnded m end → last ≡ end)
  taken start end labels entries rest free h follows made =
      let f = fronts m law entries [] [] labels start end h free (λ t. subst (λ z. IsPrefixOf (entries_of t (trace m labels start)) (entries_of t (numbered z))) (sym (append-nil entries)) (follows t)) made in
      let none : trace m f.after f.mid ≡ [] = nil_of_threads (trace m f.after f.mid) (λ t. nothing_after (entries_of t (numbered entries)) (entries_of t (trace m f.after f.mid)) (f.lists t ∙ both_fronts (entries_of t (trace m labels start)) (entries_of t (numbered entries)) (follows t) (made t))) in
      let back : AllEnded m end → f.mid ≡ end = (λ over. nothing_done f.after f.mid end f.goes none over) in
      (f.mid, f.walked, (λ over. subst (AllEnded m) (ended_stay rest f.after f.mid end f.goes over) over, λ over. subst (AllEnded m) (sym (back over)) over), back)
