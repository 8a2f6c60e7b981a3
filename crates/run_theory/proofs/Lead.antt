-- A thread's first step can be made first.
use Rattle.std.proofs.Common.{◌≡◌, ◌≢◌, ℕ, List, [], ◌∷◌, ◌++◌, Some, refl, sym, ap, ◌∙◌, subst, ◌⊎◌, inl, inr, ⊎_elim, eq-eqb, ne_eqb}
use Rattle.std.specs.Prelude.{slice_get, if◌then◌else◌, option_and_then, option_to_list}
use Rattle.std.proofs.lemmas.Bool.{cases_eq}
use Rattle.sync_objects.specs.declared.entry.Noted.{Noted}
use Rattle.run_theory.specs.Labels.{Label, label_thread}
use Rattle.run_theory.specs.Steps.{Leaves, Machine, State, stepped, added, run, trace, entries_of, count_of, count_or_zero}
use Rattle.run_theory.specs.Laws.{IsLawful}
use Rattle.run_theory.specs.Paths.{path_on, path}
use Rattle.run_theory.proofs.Lists.{slice_get-set_other, AllIn, IsFirst, AllIn-front, AllIn-back, own_in, entries_of-append}
use Rattle.run_theory.proofs.Swap.{Steps, steps_of, adds_of}
use Rattle.run_theory.proofs.Apart.{Free, Differ, run_more, trace_more, free_next, adds_cases, own_apart, swap_at, differ_none, differ_first}
use Rattle.run_theory.proofs.Counts.{entry_law_at}

-- no label is a step of the thread
abbrev pub NoneOf : ℕ → List Label → Type 0
NoneOf t [] = Unit {0}
NoneOf t (l ∷ ls) = (label_thread l ≢ t) × NoneOf t ls

entries_swap : (a : ℕ) (xs ys zs : List Noted) → (entries_of a xs ≡ []) ⊎ (entries_of a ys ≡ []) → entries_of a (xs ++ (ys ++ zs)) ≡ entries_of a (ys ++ (xs ++ zs))
entries_swap a xs ys zs h =
    entries_of-append a xs (ys ++ zs) ∙ ap (λ q. entries_of a xs ++ q) (entries_of-append a ys zs)
    ∙ ⊎_elim
    (λ e. ap (λ q. q ++ (entries_of a ys ++ entries_of a zs)) e ∙ ap (λ q. entries_of a ys ++ (q ++ entries_of a zs)) (sym e))
    (λ e. ap (λ q. entries_of a xs ++ (q ++ entries_of a zs)) e ∙ ap (λ q. q ++ (entries_of a xs ++ entries_of a zs)) (sym e))
    h
    ∙ ap (λ q. entries_of a ys ++ q) (sym (entries_of-append a xs zs)) ∙ sym (entries_of-append a ys (xs ++ zs))

module _ {T : Type 0} (m : Machine T) (law : IsLawful m) where
  -- a step changes no other thread
  pub kept : (s s1 : State T) (u : Label) (x : ℕ) → stepped m s u ≡ Some s1 → label_thread u ≢ x → slice_get s.threads x ≡ slice_get s1.threads x
  kept s s1 u x e ne =
      let y = steps_of m s u s1 e in
      sym (ap (λ (z : State T). slice_get z.threads x) y.to ∙ slice_get-set_other s.threads (label_thread u) x y.after (λ q. ne (sym q)))

  pub path_own : (t : ℕ) (l : Label) (ls : List Label) (s s1 : State T) → stepped m s l ≡ Some s1 → label_thread l ≡ t → path m t (l ∷ ls) s ≡ option_to_list (slice_get s1.threads t) ++ path m t ls s1
  path_own t l ls s s1 e w = ap (path_on m t l (path m t ls)) e ∙ ap (λ b. if b then (option_to_list (slice_get s1.threads t) ++ path m t ls s1) else (path m t ls s1)) (eq-eqb (label_thread l) t w)

  pub path_other : (t : ℕ) (l : Label) (ls : List Label) (s s1 : State T) → stepped m s l ≡ Some s1 → label_thread l ≢ t → path m t (l ∷ ls) s ≡ path m t ls s1
  path_other t l ls s s1 e w = ap (path_on m t l (path m t ls)) e ∙ ap (λ b. if b then (option_to_list (slice_get s1.threads t) ++ path m t ls s1) else (path m t ls s1)) (ne_eqb (label_thread l) t w)

  pub record Lead (R : List Label) (s s1 : State T) (t : ℕ) : Type 0 where
    pub label : Label
    pub after : List Label
    pub mid : State T
    pub of_thread : label_thread label ≡ t
    pub leads : stepped m s label ≡ Some mid
    pub goes : run m after mid ≡ Some s1
    pub paths : (x : ℕ) → path m x (label ∷ after) s ≡ path m x R s
    pub owns : (x : ℕ) → entries_of x (added m s label ++ trace m after mid) ≡ entries_of x (trace m R s)

  -- an entry that the thread may make at once is the first of its object
  abbrev pub MayLead : List Label → State T → ℕ → Type 0
  MayLead R s t = (e : Noted) (rest : List Noted) → entries_of t (trace m R s) ≡ e ∷ rest → e.entry.count ≡ count_of m s t → AllIn (IsFirst e) (trace m R s)

  lead_here : (u : Label) (R : List Label) (s s1 s2 : State T) (t : ℕ) → stepped m s u ≡ Some s2 → run m R s2 ≡ Some s1 → label_thread u ≡ t → Lead (u ∷ R) s s1 t
  lead_here u R s s1 s2 t su goes w = record {
    label = u;
    after = R;
    mid = s2;
    of_thread = w;
    leads = su;
    goes = goes;
    paths = λ x. refl;
    owns = λ x. ap (entries_of x) (sym (trace_more m law u R s s2 su));
  }

  lead_differ : (u : Label) (R : List Label) (s s1 s2 : State T) (t : ℕ) (su : stepped m s u ≡ Some s2) → label_thread u ≢ t → MayLead (u ∷ R) s t → (f : Lead R s2 s1 t) → (x : Steps m s u s2) (y : Steps m s2 f.label f.mid) → Differ (m.effect u x.before) (m.effect f.label y.before)
  lead_differ u R s s1 s2 t su ne may f x y =
      ⊎_elim
      (λ p. differ_none m law s2.words (m.effect u x.before) (m.effect f.label y.before) (sym (adds_of m s2 f.label f.mid y) ∙ p.0))
      (λ p.
      let e = p.0 in
      let k = entry_law_at m law s2 f.mid f.label e y p.1 in
      let tr = trace_more m law u R s s2 su in
      let own_is : entries_of t (trace m (u ∷ R) s) ≡ e ∷ entries_of t (trace m f.after f.mid) =
      ap (entries_of t) tr ∙ entries_of-append t (added m s u) (trace m R s2) ∙ ap (λ z. z ++ entries_of t (trace m R s2)) (own_apart m law t s s2 u su ne) ∙ sym (f.owns t) ∙ ap (λ z. entries_of t (z ++ trace m f.after f.mid)) p.1 ∙ own_in t e (trace m f.after f.mid) (p.2 ∙ f.of_thread) in
      let at : count_of m s t ≡ m.count y.before = ap (count_or_zero m) (kept s s2 u t su ne ∙ ap (slice_get s2.threads) (sym f.of_thread) ∙ y.stands) in
      let first = subst (AllIn (IsFirst e)) tr (may e _ own_is (k.counted ∙ sym at)) in
      let here = subst (AllIn (IsFirst e)) (adds_of m s u s2 x) (AllIn-front (IsFirst e) _ _ first) in
      let ws : s2.words ≡ x.words = ap (λ z. z.words) x.to in
      differ_first m law u f.label x.before y.before s.words s2.words x.after (m.effect u x.before) (m.effect f.label y.before) e (law.effects u x.before) (x.leaves ∙ ap (λ z. Leaves z x.after) (sym ws)) here (sym (adds_of m s2 f.label f.mid y) ∙ p.1))
      (adds_cases m law s2 f.mid f.label f.leads)

  lead_over : (u : Label) (R : List Label) (s s1 s2 : State T) (t : ℕ) → stepped m s u ≡ Some s2 → label_thread u ≢ t → Free m law s → MayLead (u ∷ R) s t → Lead R s2 s1 t → Lead (u ∷ R) s s1 t
  lead_over u R s s1 s2 t su ne free may f = go (swap_at m law s s2 f.mid u f.label x y ne2 free (lead_differ u R s s1 s2 t su ne may f x y))
    where
      x : Steps m s u s2
      x = steps_of m s u s2 su

      y : Steps m s2 f.label f.mid
      y = steps_of m s2 f.label f.mid f.leads

      ne2 : label_thread u ≢ label_thread f.label
      ne2 = λ q. ne (q ∙ f.of_thread)

      go : (mid : State T) × (stepped m s f.label ≡ Some mid) × (stepped m mid u ≡ Some f.mid) × (added m s f.label ≡ added m s2 f.label) × (added m mid u ≡ added m s u) → Lead (u ∷ R) s s1 t
      go z = record {
        label = f.label;
        after = u ∷ f.after;
        mid = z.0;
        of_thread = f.of_thread;
        leads = z.1;
        goes = ap (option_and_then (run m f.after)) z.2 ∙ f.goes;
        paths = λ a. ⊎_elim
            (λ (is : t ≡ a).
            let la : label_thread f.label ≡ a = f.of_thread ∙ is in
            let ua : label_thread u ≢ a = (λ q. ne (q ∙ sym is)) in
            path_own a f.label (u ∷ f.after) s z.0 z.1 la ∙ ap (λ q. option_to_list (slice_get z.0.threads a) ++ q) (path_other a u f.after z.0 f.mid z.2 ua) ∙ ap (λ q. option_to_list q ++ path m a f.after f.mid) (kept z.0 f.mid u a z.2 ua)
            ∙ sym (path_other a u R s s2 su ua ∙ sym (f.paths a) ∙ path_own a f.label f.after s2 f.mid f.leads la))
            (λ (isnt : t ≡ a → ⊥).
            let la : label_thread f.label ≢ a = (λ q. isnt (sym f.of_thread ∙ q)) in
            path_other a f.label (u ∷ f.after) s z.0 z.1 la ∙ ⊎_elim
            (λ (ua : label_thread u ≡ a). path_own a u f.after z.0 f.mid z.2 ua ∙ ap (λ q. option_to_list q ++ path m a f.after f.mid) (sym (kept s2 f.mid f.label a f.leads la)) ∙ sym (path_own a u R s s2 su ua ∙ ap (λ q. option_to_list (slice_get s2.threads a) ++ q) (sym (f.paths a) ∙ path_other a f.label f.after s2 f.mid f.leads la)))
            (λ (ua : label_thread u ≡ a → ⊥). path_other a u f.after z.0 f.mid z.2 ua ∙ sym (path_other a u R s s2 su ua ∙ sym (f.paths a) ∙ path_other a f.label f.after s2 f.mid f.leads la))
            (cases_eq (label_thread u) a))
            (cases_eq t a);
        owns = λ a.
            ap (λ q. entries_of a (added m s f.label ++ q)) (trace_more m law u f.after z.0 f.mid z.2)
            ∙ ap (λ q. entries_of a (q ++ (added m z.0 u ++ trace m f.after f.mid))) z.3
            ∙ ap (λ q. entries_of a (added m s2 f.label ++ (q ++ trace m f.after f.mid))) z.4
            ∙ entries_swap a (added m s2 f.label) (added m s u) (trace m f.after f.mid) (⊎_elim
            (λ (q : label_thread u ≡ a). inl (own_apart m law a s2 f.mid f.label f.leads (λ p. ne (q ∙ sym p ∙ f.of_thread))))
            (λ (q : label_thread u ≡ a → ⊥). inr (own_apart m law a s s2 u su q))
            (cases_eq (label_thread u) a))
            ∙ entries_of-append a (added m s u) (added m s2 f.label ++ trace m f.after f.mid)
            ∙ ap (λ q. entries_of a (added m s u) ++ q) (f.owns a)
            ∙ sym (entries_of-append a (added m s u) (trace m R s2)) ∙ ap (entries_of a) (sym (trace_more m law u R s s2 su));
      }

  -- the thread's first step can be made first, if there is one
  pub lead : (R : List Label) (s s1 : State T) (t : ℕ) → run m R s ≡ Some s1 → Free m law s → MayLead R s t → Lead R s s1 t ⊎ NoneOf t R
  lead [] s s1 t h free may = inr tt
  lead (u ∷ R) s s1 t h free may = go (run_more m law u R s s1 h) (λ s2 g fr may2. lead R s2 s1 t g fr may2)
    where
      go : (more : (s2 : State T) × (stepped m s u ≡ Some s2) × (run m R s2 ≡ Some s1)) → ((s2 : State T) → run m R s2 ≡ Some s1 → Free m law s2 → MayLead R s2 t → Lead R s2 s1 t ⊎ NoneOf t R) → Lead (u ∷ R) s s1 t ⊎ NoneOf t (u ∷ R)
      go more again =
          ⊎_elim
          (λ (w : label_thread u ≡ t). inl (lead_here u R s s1 more.0 t more.1 more.2 w))
          (λ (w : label_thread u ≡ t → ⊥).
          let tr = trace_more m law u R s more.0 more.1 in
          ⊎_elim
          (λ f. inl (lead_over u R s s1 more.0 t more.1 w free may f))
          (λ n. inr (w, n))
          (again more.0 more.2 (free_next m law s more.0 u more.1 free) (λ e rest o c.
          AllIn-back (IsFirst e) (added m s u) (trace m R more.0) (subst (AllIn (IsFirst e)) tr (may e rest
          (ap (entries_of t) tr ∙ entries_of-append t (added m s u) (trace m R more.0) ∙ ap (λ z. z ++ entries_of t (trace m R more.0)) (own_apart m law t s more.0 u more.1 w) ∙ o)
          (c ∙ ap (count_or_zero m) (sym (kept s more.0 u t more.1 w))))))))
          (cases_eq (label_thread u) t)
