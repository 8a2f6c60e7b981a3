-- Exits that fall one by one to those of their functions' own points.
use Rattle.std.proofs.Common.{◌≡◌, ◌<◌, ◌≤◌, ℕ, zero, suc, true, List, [], ◌∷◌, length, length-set, sym, ap, ◌∙◌, subst, arith, ◌⊎◌, inl, inr, ⊎_elim, Some}
use Rattle.std.specs.Prelude.{slice_get, slice_set}
use Rattle.std.specs.List.{list_all}
use Rattle.std.proofs.lemmas.Bool.{and_from, and_parts, cases_eq}
use Rattle.std.proofs.lemmas.Option.{same_Some, slice_get_within}
use Rattle.rr_base.proofs.Lists.{slice_get_inside, slice_get-set_other, slice_get-set_within}
use Rattle.flow_code.specs.declared.code.Code.{Code}
use Rattle.flow_code.specs.declared.code.Function.{Function}
use Rattle.facts.specs.declared.locks.Held.{Held}
use Rattle.facts.specs.declared.locks.RelLocks.{RelLocks}
use Rattle.facts.specs.Locks.{ascends, topmost, Points, Below, IsSolution, IsGreatest}
use Rattle.facts.specs.Summaries.{AllListsKnown, AreSolution, exits_of}
use Rattle.lockset_summary.specs.Exits.{AreEachGreatest, ExitsBelow, topmost_exits, AreLocksKnown, AreAbove, AreNearing, AreFalling, weights, IsSmallMinus, AreSmall}
use Rattle.lockset_summary.proofs.Narrow.{exit_within, locks_known, closed}
use Rattle.lockset_summary.proofs.Nearing.{starts_above, next_exits}
use Rattle.lockset_summary.proofs.Rises.{below_refl}
use Rattle.lockset_summary.proofs.Whole.{solution_rises, exit_from, long_exits, top_at, exits_fall}

all_set : (es : List RelLocks) (k : ℕ) (l : RelLocks) → list_all ascends es ≡ true → ascends l ≡ true → list_all ascends (slice_set es k l) ≡ true
all_set [] k l h i = h
all_set (e ∷ es) zero l h i = and_from (ascends l) (list_all ascends es) i (and_parts (ascends e) (list_all ascends es) h).1
all_set (e ∷ es) (suc k) l h i = let c = and_parts (ascends e) (list_all ascends es) h in and_from (ascends e) (list_all ascends (slice_set es k l)) c.0 (all_set es k l c.1 i)

small_set : (es : List RelLocks) (k : ℕ) (l : RelLocks) → AreSmall es → IsSmallMinus l.minus → AreSmall (slice_set es k l)
small_set [] k l h i = tt
small_set (e ∷ es) zero l h i = (i, h.1)
small_set (e ∷ es) (suc k) l h i = (h.0, small_set es k l h.1 i)

small_tops : (ts : List (List Held)) → AreSmall (topmost_exits ts)
small_tops [] = tt
small_tops (t ∷ ts) = (omega arith, small_tops ts)

module _ (code : Code) (tops : List (List Held)) (tops_known : AllListsKnown code tops) where
  -- the most that exits may know
  pub start_falling : (exits : List RelLocks) → exits ≡ topmost_exits tops → AreFalling code tops exits
  start_falling exits is = subst (AreFalling code tops) (sym is) record {
    from = starts_above code tops tops_known;
    falling = λ f fn top x e at mine there s. let t = top_at tops f e there in subst (Below x.exit) t.2 (subst (λ z. Below x.exit (topmost z)) (same_Some top t.0 (sym mine ∙ t.1)) s.exit_within);
    small = small_tops tops;
  }

  -- the exits of a round's points
  pub next_falling : (exits next : List RelLocks) (xs : List Points) → AreNearing code tops exits xs → next ≡ exits_of xs → AreSmall next → AreFalling code tops next
  next_falling exits next xs n e small = record {
    from = subst (AreAbove code tops) (sym e) (next_exits code tops tops_known exits xs n);
    falling = λ f fn top y g at mine there s.
        let x = exit_from xs f g (ap (λ z. slice_get z f) (sym e) ∙ there) in
        subst (Below y.exit) x.2 ((n.each.each f fn top x.0 at mine x.1).most y (solution_rises (exits_of xs) exits fn top y n.lower (subst (λ z. IsSolution z fn top y) e s))).exit;
    small = small;
  }

  -- a round that begins with such exits
  pub nearing : (exits : List RelLocks) (xs : List Points) → AreFalling code tops exits → AreEachGreatest code tops exits xs → AreNearing code tops exits xs
  nearing exits xs a each = record {
    from = a.from;
    each = each;
    lower = record {
      long = long_exits xs ∙ each.long ∙ sym a.from.long;
      each = λ f e t i j.
          let x = exit_from xs f e i in
          let fn = slice_get_inside code.functions f (omega (arith, slice_get_within xs f x.0 x.1, each.long)) in
          let top = slice_get_inside tops f (omega (arith, slice_get_within xs f x.0 x.1, each.long, tops_known.0)) in
          subst (λ z. Below z t) x.2 (a.falling f fn.0 top.0 x.0 t fn.1 top.1 j (each.each f fn.0 top.0 x.0 fn.1 top.1 x.1).solves);
    };
  }

  -- one exit falls
  module _ (exits : List RelLocks) (f : ℕ) (fn : Function) (top : List Held) (x : Points) (a : AreFalling code tops exits) (at : slice_get code.functions f ≡ Some fn) (mine : slice_get tops f ≡ Some top) (g : IsGreatest exits fn top x) where
    of_new : (h : ℕ) (e : RelLocks) → slice_get (slice_set exits f x.exit) h ≡ Some e → ((h ≡ f) × (x.exit ≡ e)) ⊎ (slice_get exits h ≡ Some e)
    of_new h e i = ⊎_elim
        (λ (z : h ≡ f). inl (z, same_Some x.exit e (sym (slice_get-set_within exits f x.exit (omega (arith, slice_get_within code.functions f fn at, a.from.long))) ∙ ap (slice_get (slice_set exits f x.exit)) (sym z) ∙ i)))
        (λ (z : h ≡ f → ⊥). inr (sym (slice_get-set_other exits f h x.exit z) ∙ i))
        (cases_eq h f)

    lowered : ExitsBelow (slice_set exits f x.exit) exits
    lowered = record {
      long = length-set exits f x.exit;
      each = λ h e t i j. ⊎_elim
          (λ (z : (h ≡ f) × (x.exit ≡ e)). subst (λ y. Below y t) z.1 (a.falling f fn top x t at mine (ap (slice_get exits) (sym z.0) ∙ j) g.solves))
          (λ (z : slice_get exits h ≡ Some e). subst (Below e) (same_Some e t (sym z ∙ j)) (below_refl e))
          (of_new h e i);
    }

    above : (ys : List Points) → AreSolution code tops ys → ExitsBelow (exits_of ys) (slice_set exits f x.exit)
    above ys s = let b = a.from.above ys s in record {
      long = b.long ∙ sym (length-set exits f x.exit);
      each = λ h e t i j. ⊎_elim
          (λ (z : (h ≡ f) × (x.exit ≡ t)).
          let y = exit_from ys h e i in
          subst (Below e) z.1 (subst (λ w. Below w x.exit) y.2 (g.most y.0 (solution_rises (exits_of ys) exits fn top y.0 b (s.each f fn top y.0 at mine (ap (slice_get ys) (sym z.0) ∙ y.1)))).exit))
          (λ (z : slice_get exits h ≡ Some t). b.each h e t i z)
          (of_new h t j);
    }

    still : (h : ℕ) (fn2 : Function) (top2 : List Held) (y : Points) (e : RelLocks) → slice_get code.functions h ≡ Some fn2 → slice_get tops h ≡ Some top2 → slice_get (slice_set exits f x.exit) h ≡ Some e → IsSolution (slice_set exits f x.exit) fn2 top2 y → Below y.exit e
    still h fn2 top2 y e at2 mine2 there s =
        let r : IsSolution exits fn2 top2 y = solution_rises (slice_set exits f x.exit) exits fn2 top2 y lowered s in
        ⊎_elim
        (λ (z : (h ≡ f) × (x.exit ≡ e)).
        let d : fn2 ≡ fn = same_Some fn2 fn (sym at2 ∙ ap (slice_get code.functions) z.0 ∙ at) in
        let t : top2 ≡ top = same_Some top2 top (sym mine2 ∙ ap (slice_get tops) z.0 ∙ mine) in
        subst (Below y.exit) z.1 (g.most y (subst (λ w. IsSolution exits fn w y) t (subst (λ w. IsSolution exits w top2 y) d r))).exit)
        (λ (z : slice_get exits h ≡ Some e). a.falling h fn2 top2 y e at2 mine2 z r)
        (of_new h e there)

    known : AreLocksKnown code f x.exit
    known = let lists = tops_known.1 f top mine in locks_known code f top x.exit lists (exit_within exits fn top x (closed code exits f fn top at lists a.from.known) g)

    falls_to : IsSmallMinus x.exit.minus → AreFalling code tops (slice_set exits f x.exit)
    falls_to small = record {
      from = record {
        long = length-set exits f x.exit ∙ a.from.long;
        above = above;
        ascending = all_set exits f x.exit a.from.ascending g.exit_in_order;
        known = λ h e i. ⊎_elim
            (λ (z : (h ≡ f) × (x.exit ≡ e)). subst (λ k. AreLocksKnown code k e) (sym z.0) (subst (AreLocksKnown code f) z.1 known))
            (λ (z : slice_get exits h ≡ Some e). a.from.known h e z)
            (of_new h e i);
      };
      falling = still;
      small = small_set exits f x.exit a.small small;
    }

    no_more : IsSmallMinus x.exit.minus → weights (slice_set exits f x.exit) ≤ weights exits
    no_more small = ⊎_elim
        (λ (z : slice_set exits f x.exit ≡ exits). omega (arith, ap weights z))
        (λ (z : weights (slice_set exits f x.exit) < weights exits). omega arith)
        (exits_fall (slice_set exits f x.exit) exits lowered (falls_to small).from.ascending a.from.ascending (falls_to small).small)

  pub lower_by : (exits zs new : List RelLocks) (f : ℕ) (x : Points) (e : RelLocks) → AreFalling code tops exits → f < length code.functions → zs ≡ exits → ((fn : Function) (top : List Held) → slice_get code.functions f ≡ Some fn → slice_get tops f ≡ Some top → IsGreatest zs fn top x) → e ≡ x.exit → IsSmallMinus e.minus → new ≡ slice_set exits f e → AreFalling code tops new × (weights new ≤ weights exits)
  lower_by exits zs new f x e a lt same greatest is small set =
      let fn = slice_get_inside code.functions f lt in
      let top = slice_get_inside tops f (omega (arith, lt, tops_known.0)) in
      let g : IsGreatest exits fn.0 top.0 x = subst (λ z. IsGreatest z fn.0 top.0 x) same (greatest fn.0 top.0 fn.1 top.1) in
      let s : IsSmallMinus x.exit.minus = subst (λ (z : RelLocks). IsSmallMinus z.minus) is small in
      subst (λ z. AreFalling code tops z × (weights z ≤ weights exits)) (sym (set ∙ ap (slice_set exits f) is))
      (falls_to exits f fn.0 top.0 x a fn.1 top.1 g s, no_more exits f fn.0 top.0 x a fn.1 top.1 g s)
