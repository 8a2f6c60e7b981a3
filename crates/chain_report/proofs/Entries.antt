-- Each operation of a walk is an entry of its log.
use Rattle.std.proofs.Common.{◌≡◌, ℕ, zero, suc, ◌+◌, ◌-◌, ◌<◌, ◌≤◌, ◌⊎◌, inl, inr, ⊎_elim, List, [], ◌∷◌, ◌++◌, length, replicate, Option, Some, None, refl, sym, ap, subst, ◌∙◌, arith, ℤ}
use Rattle.std.specs.Prelude.{option_and_then, slice_get}
use Rattle.std.proofs.lemmas.List.{length-replicate}
use Rattle.sync_objects.specs.Setup.{SetupView}
use Rattle.sync_objects.specs.declared.entry.Entry.{Entry}
use Rattle.sync_objects.specs.declared.entry.Noted.{Noted}
use Rattle.flow_code.specs.declared.code.Code.{Code}
use Rattle.core_run.specs.Machine.{Told, machine}
use Rattle.core_run.specs.Walks.{walk_of}
use Rattle.run_theory.specs.Labels.{Label, Go, label_of}
use Rattle.run_theory.specs.Ordered.{Event, Did, event_of, event_at}
use Rattle.run_theory.specs.Steps.{Machine, State, stepped, added, run}
use Rattle.run_theory.specs.Walk.{alone}
use Rattle.run_theory.proofs.InTime.{first_inv, more_inv, places}
use Rattle.run_theory.proofs.Locked.{event_first, event_more}
use Rattle.lowering_simulation.specs.WalkEvents.{part_labels, labels_from}
use Rattle.lowering_simulation.proofs.WalkRuns.{then_inv, part_runs}
use Rattle.chain_report.proofs.Spots.{event_past, First, first_of, spot, turns, nothing_inv, labels_are, labels_split, spot_later, part_length, spots_ascend}
use Rattle.chain_report.proofs.Shown.{adds}

module _ {T : Type 0} (m : Machine T) where
  -- what happens in the first of two runs
  event_within : (ls ks : List Label) (s : State T) (b : ℕ) (x : Event) → b < length ls → event_at m (ls ++ ks) s b ≡ Some x → event_at m ls s b ≡ Some x
  event_within [] ks s b x lt h = absurd (omega arith)
  event_within (l ∷ ls) ks s zero x lt h = let i = first_inv m l (ls ++ ks) s x h in event_first m l ls s i.0 i.1 ∙ i.2
  event_within (l ∷ ls) ks s (suc b) x lt h =
      let i = more_inv m l (ls ++ ks) s b x h in
      event_more m l ls s i.0 b i.1 ∙ event_within ls ks i.0 b x (omega (arith, lt)) i.2

  -- no operation happens where nothing is added
  none_alone : (n t : ℕ) (s mid : State T) (b : ℕ) (u : ℕ) (x : Noted) (w : ℕ) (answer : ℤ) → alone m n t s ≡ Some mid → event_at m (replicate n (Go t)) s b ≡ Some (Did u x w answer) → ⊥
  none_alone zero t s mid b u x w answer h e = cc
  none_alone (suc n) t s mid zero u x w answer h e =
      let a = nothing_inv (added m s (Go t)) (option_and_then (alone m n t) (stepped m s (Go t))) mid h in
      let i = first_inv m (Go t) (replicate n (Go t)) s (Did u x w answer) e in
      let no = sym a.0 ∙ adds m s (Go t) u x w answer i.2 in
      cc
  none_alone (suc n) t s mid (suc b) u x w answer h e =
      let a = nothing_inv (added m s (Go t)) (option_and_then (alone m n t) (stepped m s (Go t))) mid h in
      let f = then_inv (alone m n t) (stepped m s (Go t)) mid a.1 in
      let i = more_inv m (Go t) (replicate n (Go t)) s b (Did u x w answer) e in
      none_alone n t f.0 mid b u x w answer f.2 (sym (event_more m (Go t) (replicate n (Go t)) s f.0 b f.1) ∙ e)

module _ (code : Code) (s : SetupView) where
  -- the entry that stands at a place of the walk
  pub record EntryAt (es : List Entry) (st : State Told) (b : ℕ) : Type 0 where
    pub k : ℕ
    pub entry : Entry
    pub is : slice_get es k ≡ Some entry
    pub place : spot code s es st k ≡ b

  pub entry_at : (es : List Entry) (st end : State Told) (b t : ℕ) (x : Noted) (w : ℕ) (answer : ℤ) → walk_of code s es st ≡ Some end → event_at (machine code s) (labels_from code s es st) st b ≡ Some (Did t x w answer) → EntryAt es st b
  entry_at [] st end b t x w answer h e = cc
  entry_at (y ∷ es) st end b t x w answer h e = by (λ c g. entry_at es (first_of code s y es st end h).after end c t x w answer (first_of code s y es st end h).rest g) (places b (turns code s y st))
    where
      f : First code s y es st end
      f = first_of code s y es st end h

      count : length (replicate (turns code s y st) (Go y.thread)) ≡ turns code s y st
      count = length-replicate (turns code s y st) (Go y.thread)

      later : (c : ℕ) → b ≡ length (part_labels code s y st) + c → EntryAt es f.after c → EntryAt (y ∷ es) st b
      later c is r = record { k = suc r.k; entry = r.entry; is = r.is; place = spot_later code s y es st end f r.k ∙ ap (λ n. length (part_labels code s y st) + n) r.place ∙ sym is }

      past : (c : ℕ) → b ≡ length (part_labels code s y st) + c → event_at (machine code s) (labels_from code s es f.after) f.after c ≡ Some (Did t x w answer)
      past c is =
          sym (event_past (machine code s) (part_labels code s y st) (labels_from code s es f.after) st f.after c (part_runs code s y st f.after f.part_is))
          ∙ ap (event_at (machine code s) (part_labels code s y st ++ labels_from code s es f.after) st) (sym is)
          ∙ ap (λ ls. event_at (machine code s) ls st b) (sym (labels_are code s y es st end f)) ∙ e

      by : ((c : ℕ) → event_at (machine code s) (labels_from code s es f.after) f.after c ≡ Some (Did t x w answer) → EntryAt es f.after c) → (b < turns code s y st) ⊎ ((b ≡ turns code s y st) ⊎ (turns code s y st < b)) → EntryAt (y ∷ es) st b
      by again (inl lt) =
          absurd (none_alone (machine code s) (turns code s y st) y.thread st f.mid b t x w answer f.turns_are
          (event_within (machine code s) (replicate (turns code s y st) (Go y.thread)) (label_of y ∷ labels_from code s es f.after) st b (Did t x w answer) (omega (arith, lt, count))
          (ap (λ ls. event_at (machine code s) ls st b) (sym (labels_split code s y es st end f)) ∙ e)))
      by again (inr (inl same)) = record { k = 0; entry = y; is = refl; place = sym same }
      by again (inr (inr more)) =
          let c = b - length (part_labels code s y st) in
          let is : b ≡ length (part_labels code s y st) + c = omega (arith, more, part_length code s y st) in
          later c is (again c (past c is))
