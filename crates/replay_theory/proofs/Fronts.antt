-- The first entries of a log can be made first, one thread at a time.
use Rattle.std.proofs.Common.{◌≡◌, ℕ, List, [], ◌∷◌, ◌++◌, Some, refl, sym, ap, ◌∙◌, subst, ⊎_elim}
use Rattle.std.specs.Prelude.{option_and_then}
use Rattle.std.proofs.lemmas.Bool.{cases_eq}
use Rattle.sync_objects.specs.declared.entry.Entry.{Entry}
use Rattle.sync_objects.specs.declared.entry.Noted.{Noted}
use Rattle.run_theory.specs.Labels.{Label}
use Rattle.run_theory.specs.Laws.{IsLawful, IsRaceFree}
use Rattle.run_theory.specs.Paths.{IsPrefixOf}
use Rattle.run_theory.specs.Steps.{Machine, State, run, trace, entries_of}
use Rattle.run_theory.specs.Walk.{walk}
use Rattle.run_theory.proofs.Front.{Front, front}
use Rattle.run_theory.proofs.Lists.{AllIn, AllIn-front, AllIn-entries_of, AllIn-of_threads, IsFirst, own_in, own_out}
use Rattle.run_theory.proofs.Merges.{part_of_solo, free_solo}
use Rattle.replay_theory.specs.Numbered.{with_number, numbered_after}
use Rattle.replay_theory.proofs.Numbers.{next_is_first}

-- what holds of all entries of a list holds of those of a front part
pub AllIn-prefix : (P : Noted → Type 0) (xs ys : List Noted) → IsPrefixOf xs ys → AllIn P ys → AllIn P xs
AllIn-prefix P xs ys p h = AllIn-front P xs p.0 (subst (AllIn P) (sym p.1) h)

-- less a first entry that both have
pub less_first : (x : Noted) (xs ys zs : List Noted) → zs ≡ x ∷ xs → IsPrefixOf zs (x ∷ ys) → IsPrefixOf xs ys
less_first x xs ys zs e p = (p.0, cc (p.1, e))

pub more_first : (x : Noted) (xs ys zs : List Noted) → zs ≡ x ∷ ys → IsPrefixOf (x ∷ xs) zs → IsPrefixOf xs ys
more_first x xs ys zs e p = (p.0, cc (p.1, e))

module _ {T : Type 0} (m : Machine T) (law : IsLawful m) where
  -- the entries walk to a state from which the rest of the run is made
  pub record Fronted (before : List Noted) (es : List Entry) (R : List Label) (s s1 : State T) : Type 0 where
    pub mid : State T
    pub after : List Label
    pub walked : walk m es s ≡ Some mid
    pub goes : run m after mid ≡ Some s1
    pub free : IsRaceFree m mid
    pub lists : (t : ℕ) → entries_of t (numbered_after before es) ++ entries_of t (trace m after mid) ≡ entries_of t (trace m R s)

  abbrev FollowsAfter : List Noted → List Entry → List Label → State T → Type 0
  FollowsAfter before es R s = (t : ℕ) → IsPrefixOf (entries_of t (trace m R s)) (entries_of t (numbered_after before es))

  abbrev MadeAfter : List Noted → List Entry → List Label → State T → Type 0
  MadeAfter before es R s = (t : ℕ) → IsPrefixOf (entries_of t (numbered_after before es)) (entries_of t (trace m R s))

  pub fronts : (es more : List Entry) (before : List Noted) (R : List Label) (s s1 : State T) → run m R s ≡ Some s1 → IsRaceFree m s → FollowsAfter before (es ++ more) R s → MadeAfter before es R s → Fronted before es R s s1
  fronts [] more before R s s1 h free follows made = record { mid = s; after = R; walked = refl; goes = h; free = free; lists = λ t. refl }
  fronts (e ∷ es) more before R s s1 h free follows made = go (fronts es more (before ++ x ∷ []) f.after f.mid s1 f.goes (free_solo m law f.turns f.label x s f.mid f.solo free) follows1 made1)
    where
      x : Noted
      x = with_number before e

      next : List Noted
      next = entries_of e.thread (numbered_after (before ++ x ∷ []) es) ++ (made e.thread).0

      own : entries_of e.thread (trace m R s) ≡ x ∷ next
      own = sym (made e.thread).1 ∙ ap (λ z. z ++ (made e.thread).0) (own_in e.thread x (numbered_after (before ++ x ∷ []) es) refl)

      first : AllIn (IsFirst x) (trace m R s)
      first = AllIn-of_threads (IsFirst x) (trace m R s) (λ u. AllIn-prefix (IsFirst x) (entries_of u (trace m R s)) (entries_of u (numbered_after before ((e ∷ es) ++ more))) (follows u) (AllIn-entries_of (IsFirst x) u (numbered_after before ((e ∷ es) ++ more)) (next_is_first before e (es ++ more))))

      f : Front m law R s s1 x next
      f = front m law R s s1 x next h free own first

      follows1 : FollowsAfter (before ++ x ∷ []) (es ++ more) f.after f.mid
      follows1 u = ⊎_elim
          (λ (q : u ≡ e.thread).
          let rest = numbered_after (before ++ x ∷ []) (es ++ more) in
          let p = less_first x next (entries_of e.thread rest) (entries_of e.thread (trace m R s)) own (subst (IsPrefixOf (entries_of e.thread (trace m R s))) (own_in e.thread x rest refl) (follows e.thread)) in
          subst (λ z. IsPrefixOf (entries_of z (trace m f.after f.mid)) (entries_of z rest)) (sym q) (subst (λ z. IsPrefixOf z (entries_of e.thread rest)) (sym f.own_rest) p))
          (λ (ne : u ≡ e.thread → ⊥).
          let rest = numbered_after (before ++ x ∷ []) (es ++ more) in
          subst (λ z. IsPrefixOf z (entries_of u rest)) (sym (f.others u ne)) (subst (IsPrefixOf (entries_of u (trace m R s))) (own_out u x rest (λ q. ne (sym q))) (follows u)))
          (cases_eq u e.thread)

      made1 : MadeAfter (before ++ x ∷ []) es f.after f.mid
      made1 u = ⊎_elim
          (λ (q : u ≡ e.thread).
          let rest = numbered_after (before ++ x ∷ []) es in
          let p : IsPrefixOf (entries_of e.thread rest) next = ((made e.thread).0, refl) in
          subst (λ z. IsPrefixOf (entries_of z rest) (entries_of z (trace m f.after f.mid))) (sym q) (subst (IsPrefixOf (entries_of e.thread rest)) (sym f.own_rest) p))
          (λ (ne : u ≡ e.thread → ⊥).
          let rest = numbered_after (before ++ x ∷ []) es in
          subst (IsPrefixOf (entries_of u rest)) (sym (f.others u ne)) (subst (λ z. IsPrefixOf z (entries_of u (trace m R s))) (own_out u x rest (λ q. ne (sym q))) (made u)))
          (cases_eq u e.thread)

      go : Fronted (before ++ x ∷ []) es f.after f.mid s1 → Fronted before (e ∷ es) R s s1
      go r = record {
        mid = r.mid;
        after = r.after;
        walked = ap (option_and_then (walk m es)) (part_of_solo m law f.turns f.label x s f.mid f.solo) ∙ r.walked;
        goes = r.goes;
        free = r.free;
        lists = λ u. ⊎_elim
            (λ (q : u ≡ e.thread).
            let rest = numbered_after (before ++ x ∷ []) es in
            subst (λ z. entries_of z (numbered_after before (e ∷ es)) ++ entries_of z (trace m r.after r.mid) ≡ entries_of z (trace m R s)) (sym q)
            (ap (λ z. z ++ entries_of e.thread (trace m r.after r.mid)) (own_in e.thread x rest refl) ∙ ap (λ z. x ∷ z) (r.lists e.thread ∙ f.own_rest) ∙ sym own))
            (λ (ne : u ≡ e.thread → ⊥).
            let rest = numbered_after (before ++ x ∷ []) es in
            ap (λ z. z ++ entries_of u (trace m r.after r.mid)) (own_out u x rest (λ q. ne (sym q))) ∙ r.lists u ∙ f.others u ne)
            (cases_eq u e.thread);
      }
