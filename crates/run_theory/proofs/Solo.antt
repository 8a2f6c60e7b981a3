-- The walk is the one run that has a part for each entry.
use Rattle.std.proofs.Common.{◌≡◌, ℕ, zero, suc, ◌-◌, Bool, true, false, List, [], ◌∷◌, ◌++◌, Option, Some, None, refl, sym, ap, ◌∙◌, subst, ⊎_elim}
use Rattle.std.specs.Prelude.{if◌then◌else◌, option_and_then}
use Rattle.std.proofs.lemmas.Option.{same_Some}
use Rattle.sync_objects.specs.declared.entry.Entry.{Entry}
use Rattle.sync_objects.specs.declared.entry.Noted.{Noted}
use Rattle.run_theory.specs.Labels.{Label, Go, label_thread, label_of}
use Rattle.run_theory.specs.Same.{same_entry}
use Rattle.run_theory.specs.Steps.{Machine, State, stepped, added, run, trace, trace_on, count_of}
use Rattle.run_theory.specs.Laws.{IsLawful}
use Rattle.run_theory.specs.Walk.{if_nothing, if_only, AllOf, alone, made, part, walk, IsPart, IsSoloRun}
use Rattle.run_theory.proofs.Lists.{nil_front, nil_back}
use Rattle.run_theory.proofs.SameEntries.{same_entry-true}
use Rattle.run_theory.proofs.Apart.{run_more, trace_more, adds_cases}
use Rattle.run_theory.proofs.Front.{Solo}
use Rattle.run_theory.proofs.Merges.{part_of_solo}

nothing_inv : {A : Type 0} (xs : List Noted) (o : Option A) (x : A) → if_nothing xs o ≡ Some x → (xs ≡ []) × (o ≡ Some x)
nothing_inv [] o x h = (refl, h)
nothing_inv (y ∷ ys) o x h = cc

then_inv : {A B : Type 0} (f : A → Option B) (o : Option A) (y : B) → option_and_then f o ≡ Some y → (x : A) × (o ≡ Some x) × (f x ≡ Some y)
then_inv f None y h = cc
then_inv f (Some x) y h = (x, refl, h)

if_inv : {A : Type 0} (b : Bool) (o : Option A) (x : A) → (if b then o else None) ≡ Some x → (b ≡ true) × (o ≡ Some x)
if_inv true o x h = (refl, h)
if_inv false o x h = cc

only_inv : {A : Type 0} (e : Entry) (xs : List Noted) (o : Option A) (y : A) → if_only e xs o ≡ Some y → (number : ℕ) × (xs ≡ record { entry = e; number = number } ∷ []) × (o ≡ Some y)
only_inv e [] o y h = cc
only_inv e (x ∷ []) o y h =
    let r = if_inv (same_entry x.entry e) o y h in
    (x.number, ap (λ z. record { entry = z; number = x.number } ∷ []) (same_entry-true x.entry e r.0), r.1)
only_inv e (x ∷ z ∷ xs) o y h = cc

module _ {T : Type 0} (m : Machine T) where
  -- own steps that add nothing, as a run
  record Quiet (t : ℕ) (s s1 : State T) : Type 0 where
    labels : List Label
    own : AllOf t labels
    nothing : trace m labels s ≡ []
    leads : run m labels s ≡ Some s1

  quiet_of_alone : (n t : ℕ) (s s1 : State T) → alone m n t s ≡ Some s1 → Quiet t s s1
  quiet_of_alone zero t s s1 h = record { labels = []; own = tt; nothing = refl; leads = h }
  quiet_of_alone (suc n) t s s1 h =
      let a = nothing_inv (added m s (Go t)) (option_and_then (alone m n t) (stepped m s (Go t))) s1 h in
      let b = then_inv (alone m n t) (stepped m s (Go t)) s1 a.1 in
      let q = quiet_of_alone n t b.0 s1 b.2 in
      record {
        labels = Go t ∷ q.labels;
        own = (refl, q.own);
        nothing = ap (λ z. z ++ trace_on m (trace m q.labels) (stepped m s (Go t))) a.0 ∙ ap (trace_on m (trace m q.labels)) b.1 ∙ q.nothing;
        leads = ap (option_and_then (run m q.labels)) b.1 ∙ q.leads;
      }

  -- what the walk does for an entry is a part for it
  pub part_is : (e : Entry) (s s1 : State T) → part m e s ≡ Some s1 → IsPart m e s s1
  part_is e s s1 h =
      let a = then_inv (made m e) (alone m (e.count - count_of m s e.thread) e.thread s) s1 h in
      let q = quiet_of_alone (e.count - count_of m s e.thread) e.thread s a.0 a.1 in
      let o = only_inv e (added m a.0 (label_of e)) (stepped m a.0 (label_of e)) s1 a.2 in
      record { before = q.labels; own = q.own; nothing = q.nothing; between = a.0; leads = q.leads; last = label_of e; number = o.0; adds = o.1; ends = o.2 }

  -- the walk by two lists is the second one's after the first one's
  pub walk-append : (es fs : List Entry) (s : State T) → walk m (es ++ fs) s ≡ option_and_then (walk m fs) (walk m es s)
  walk-append [] fs s = refl
  walk-append (e ∷ es) fs s = go (part m e s) (λ s1. walk-append es fs s1)
    where
      go : (o : Option (State T)) → ((s1 : State T) → walk m (es ++ fs) s1 ≡ option_and_then (walk m fs) (walk m es s1)) → option_and_then (walk m (es ++ fs)) o ≡ option_and_then (walk m fs) (option_and_then (walk m es) o)
      go None again = refl
      go (Some s1) again = again s1

  -- one own step that adds nothing, and the rest
  pub alone_more : (n t : ℕ) (s s1 : State T) → stepped m s (Go t) ≡ Some s1 → added m s (Go t) ≡ [] → alone m (suc n) t s ≡ alone m n t s1
  alone_more n t s s1 h none = ap (λ z. if_nothing z (option_and_then (alone m n t) (stepped m s (Go t)))) none ∙ ap (option_and_then (alone m n t)) h

  pub solo_of_walk : (es : List Entry) (s s1 : State T) → walk m es s ≡ Some s1 → IsSoloRun m es s s1
  solo_of_walk [] s s1 h = same_Some _ _ h
  solo_of_walk (e ∷ es) s s1 h =
      let a = then_inv (walk m es) (part m e s) s1 h in
      (a.0, part_is e s a.0 a.1, solo_of_walk es a.0 s1 a.2)

module _ {T : Type 0} (m : Machine T) (law : IsLawful m) where
  -- a part is a stretch of the thread's own steps with the entry's label after it
  stretch_of : (before : List Label) (l : Label) (e : Noted) (s between s1 : State T) → AllOf (label_thread l) before → trace m before s ≡ [] → run m before s ≡ Some between → added m between l ≡ e ∷ [] → stepped m between l ≡ Some s1 → (n : ℕ) × Solo m law n l e s s1
  stretch_of [] l e s between s1 own nothing leads adds ends =
      let q : between ≡ s = sym (same_Some _ _ leads) in
      (0, (ap (λ z. stepped m z l) (sym q) ∙ ends, ap (λ z. added m z l) (sym q) ∙ adds))
  stretch_of (u ∷ us) l e s between s1 own nothing leads adds ends =
      let more = run_more m law u us s between leads in
      let tr = sym (trace_more m law u us s more.0 more.1) ∙ nothing in
      let quiet = nil_front (added m s u) (trace m us more.0) tr in
      let r = stretch_of us l e more.0 between s1 own.1 (nil_back (added m s u) (trace m us more.0) tr) more.2 adds ends in
      let go : u ≡ Go (label_thread l) = ⊎_elim (λ p. p.1 ∙ ap Go own.0) (λ p. cc (p.1, quiet)) (adds_cases m law s more.0 u more.1) in
      (suc r.0, (more.0, ap (stepped m s) (sym go) ∙ more.1, ap (added m s) (sym go) ∙ quiet, r.1))

  -- a part for an entry is what the walk does for it
  pub is_part : (e : Entry) (s s1 : State T) → IsPart m e s s1 → part m e s ≡ Some s1
  is_part e s s1 p =
      let x : Noted = record { entry = e; number = p.number } in
      let of_thread : e.thread ≡ label_thread p.last = ⊎_elim (λ q. cc (q.0, p.adds)) (λ q. ap (λ z. z.entry.thread) (first_same x q.0 (sym p.adds ∙ q.1)) ∙ q.2) (adds_cases m law p.between s1 p.last p.ends) in
      let a = stretch_of p.before p.last x s p.between s1 (subst (λ z. AllOf z p.before) of_thread p.own) p.nothing p.leads p.adds p.ends in
      part_of_solo m law a.0 p.last x s s1 a.1
    where
      first_same : (x y : Noted) → x ∷ [] ≡ y ∷ [] → x ≡ y
      first_same x y h = cc

  pub walk_of_solo : (es : List Entry) (s s1 : State T) → IsSoloRun m es s s1 → walk m es s ≡ Some s1
  walk_of_solo [] s s1 h = ap Some h
  walk_of_solo (e ∷ es) s s1 h = ap (option_and_then (walk m es)) (is_part e s h.0 h.1) ∙ walk_of_solo es h.0 s1 h.2
