-- Rounds of exits: what each keeps, that they fall, and what the last one gives.
use Rattle.std.proofs.Common.{◌≡◌, ◌<◌, ◌≤◌, ◌+◌, ℕ, zero, suc, Bool, true, false, List, [], ◌∷◌, ◌++◌, length, take, drop, refl, sym, ap, ◌∙◌, subst, arith, ◌⊎◌, inl, inr, ⊎_elim, Some, add-one, ◌&&◌}
use Rattle.std.specs.Prelude.{slice_get}
use Rattle.std.specs.List.{list_all}
use Rattle.std.proofs.lemmas.Bool.{and_from}
use Rattle.std.proofs.lemmas.Option.{same_Some, slice_get_within}
use Rattle.rr_base.proofs.Lists.{slice_get_inside}
use Rattle.flow_code.specs.declared.code.Code.{Code}
use Rattle.flow_code.specs.declared.code.Function.{Function}
use Rattle.facts.specs.declared.locks.Guarded.{Guarded}
use Rattle.facts.specs.declared.locks.Held.{Held}
use Rattle.facts.specs.declared.locks.LockPath.{LockPath}
use Rattle.facts.specs.declared.locks.LockPath.TheVariants.{Cell, Formal}
use Rattle.facts.specs.declared.locks.Minus.{Minus}
use Rattle.facts.specs.declared.locks.Minus.TheVariants.{All, Listed}
use Rattle.facts.specs.declared.locks.RelLocks.{RelLocks}
use Rattle.facts.specs.declared.locks.Summary.{Summary}
use Rattle.facts.specs.Paths.{is_sized, are_sized}
use Rattle.facts.specs.Locks.{has, has_held, held_ascend, held_are_sized, ascends, topmost, Points, IsGreatest, locks_are_sized, minus_is_sized}
use Rattle.facts.specs.Summaries.{AllListsKnown, exits_of, AreGreatest, AreSummaries}
use Rattle.lockset_flow.specs.Flow.{all_sized}
use Rattle.lockset_summary.specs.Collecting.{AreCollected}
use Rattle.lockset_summary.specs.Exits.{AreEachGreatest, ExitsBelow, topmost_exits, IsMinusKnown, AreLocksKnown, AreAbove, AreNearing, weights, IsSmallMinus, AreSmall, locks_same, all_same}
use Rattle.lockset_summary.specs.Guarding.{AreReady, AreMade, AreAllMet}
use Rattle.lockset_summary.proofs.Insertion.{row_is}
use Rattle.lockset_summary.proofs.Narrow.{point_within, exit_within, locks_known, closed}
use Rattle.lockset_summary.proofs.Order.{same_exits, exits_itself}
use Rattle.facts.proofs.TotalOrders.{orders_paths, orders_held}
use Rattle.lockset_summary.proofs.Sets.{has_first, has_later}
use Rattle.lockset_summary.proofs.Small.{IsModest, knows_modest}
use Rattle.lockset_summary.proofs.Whole.{exit_from, long_exits, top_at, long_tops, next_above, first_above, exits_ascend, whole, exits_fall}

-- ---- sizes

modest_sized : (p : LockPath) → IsModest p → is_sized p ≡ true
modest_sized (Cell c) h = grind (arith, h)
modest_sized (Formal i n) h = grind (arith, h)

paths_sized : (ps : List LockPath) → ((p : LockPath) → has p ps ≡ true → IsModest p) → are_sized ps ≡ true
paths_sized [] h = refl
paths_sized (p ∷ ps) h = and_from (is_sized p) (are_sized ps) (modest_sized p (h p (has_first orders_paths p p ps refl))) (paths_sized ps (λ q k. h q (has_later orders_paths q p ps k)))

held_sized : (hs : List Held) → ((h : Held) → has_held h hs ≡ true → IsModest h.path) → held_are_sized hs ≡ true
held_sized [] f = refl
held_sized (h ∷ hs) f = and_from (is_sized h.path) (held_are_sized hs) (modest_sized h.path (f h (has_first orders_held h h hs refl))) (held_sized hs (λ k i. f k (has_later orders_held k h hs i)))

minus_sized : (code : Code) (f : ℕ) (m : Minus) → IsMinusKnown code f m → minus_is_sized m ≡ true
minus_sized code f All h = refl
minus_sized code f (Listed ps) h = paths_sized ps (λ p k. knows_modest code (h p k))

locks_sized : (code : Code) (f : ℕ) (l : RelLocks) → AreLocksKnown code f l → locks_are_sized l ≡ true
locks_sized code f l h = and_from (held_are_sized l.plus) (minus_is_sized l.minus) (held_sized l.plus (λ p k. knows_modest code (h.plus p k))) (minus_sized code f l.minus h.minus)

every_sized : (ls : List RelLocks) → ((g : ℕ) (e : RelLocks) → slice_get ls g ≡ Some e → locks_are_sized e ≡ true) → all_sized ls ≡ true
every_sized [] h = refl
every_sized (l ∷ ls) h = and_from (locks_are_sized l) (all_sized ls) (h 0 l refl) (every_sized ls (λ g e k. h (suc g) e k))

pub exits_sized : (code : Code) (exits : List RelLocks) → ((g : ℕ) (e : RelLocks) → slice_get exits g ≡ Some e → AreLocksKnown code g e) → all_sized exits ≡ true
exits_sized code exits h = every_sized exits (λ g e k. locks_sized code g e (h g e k))

pub top_sized : (code : Code) (tops : List (List Held)) (f : ℕ) (top : List Held) → AllListsKnown code tops → slice_get tops f ≡ Some top → held_are_sized top ≡ true
top_sized code tops f top k at = held_sized top (λ p h. knows_modest code (((k.1 f top at).of p).0 h))

-- ---- what each round keeps

module _ (code : Code) (tops : List (List Held)) (tops_known : AllListsKnown code tops) where
  topmost_known : (f : ℕ) (top : List Held) → slice_get tops f ≡ Some top → AreLocksKnown code f (topmost top)
  topmost_known f top at = record { plus = λ p h. ((tops_known.1 f top at).of p).0 h; minus = λ p h. cc }

  all_ascend : (ts : List (List Held)) → ((f : ℕ) (top : List Held) → slice_get ts f ≡ Some top → held_ascend top ≡ true) → list_all ascends (topmost_exits ts) ≡ true
  all_ascend [] h = refl
  all_ascend (t ∷ ts) h = and_from (ascends (topmost t)) (list_all ascends (topmost_exits ts)) (and_from (held_ascend t) true (h 0 t refl) refl) (all_ascend ts (λ f top at. h (suc f) top at))

  pub starts_above : AreAbove code tops (topmost_exits tops)
  starts_above = record {
    long = long_tops tops ∙ tops_known.0;
    above = first_above code tops tops_known.0;
    ascending = all_ascend tops (λ f top at. (tops_known.1 f top at).ascending);
    known = λ g e at. let t = top_at tops g e at in subst (AreLocksKnown code g) t.2 (topmost_known g t.0 t.1);
  }

  exit_known : (exits : List RelLocks) (xs : List Points) → AreAbove code tops exits → AreEachGreatest code tops exits xs → (g : ℕ) (e : RelLocks) → slice_get (exits_of xs) g ≡ Some e → AreLocksKnown code g e
  exit_known exits xs a each g e at =
      let x = exit_from xs g e at in
      let fn = slice_get_inside code.functions g (omega (arith, slice_get_within xs g x.0 x.1, each.long)) in
      let top = slice_get_inside tops g (omega (arith, slice_get_within xs g x.0 x.1, each.long, tops_known.0)) in
      let lists = tops_known.1 g top.0 top.1 in
      subst (AreLocksKnown code g) x.2 (locks_known code g top.0 x.0.exit lists (exit_within exits fn.0 top.0 x.0 (closed code exits g fn.0 top.0 fn.1 lists a.known) (each.each g fn.0 top.0 x.0 fn.1 top.1 x.1)))

  pub ready : (exits : List RelLocks) (xs : List Points) → AreAbove code tops exits → AreEachGreatest code tops exits xs → AreReady code xs
  ready exits xs a each = record {
    long = each.long;
    points = λ f fn x is at.
        let top = slice_get_inside tops f (omega (arith, slice_get_within xs f x at, each.long, tops_known.0)) in
        (each.each f fn top.0 x is top.1 at).solves.long;
    known = λ f k x l at before.
        let fn = slice_get_inside code.functions f (omega (arith, slice_get_within xs f x at, each.long)) in
        let top = slice_get_inside tops f (omega (arith, slice_get_within xs f x at, each.long, tops_known.0)) in
        let lists = tops_known.1 f top.0 top.1 in
        locks_known code f top.0 l lists (point_within exits fn.0 top.0 x (closed code exits f fn.0 top.0 fn.1 lists a.known) (each.each f fn.0 top.0 x fn.1 top.1 at) k l before);
  }

  pub next_exits : (exits : List RelLocks) (xs : List Points) → AreNearing code tops exits xs → AreAbove code tops (exits_of xs)
  next_exits exits xs n = record {
    long = long_exits xs ∙ n.each.long;
    above = λ ys s. next_above code tops tops_known.0 exits xs ys n.each s (n.from.above ys s);
    ascending = exits_ascend code tops tops_known.0 exits xs n.each;
    known = exit_known exits xs n.from n.each;
  }

  pub falls : (exits next : List RelLocks) (xs : List Points) → AreNearing code tops exits xs → next ≡ exits_of xs → AreSmall next → all_same exits (exits_of xs) ≡ false → weights next < weights exits
  falls exits next xs n e small differ = ⊎_elim
      (λ (z : next ≡ exits). absurd (same (subst (λ y. all_same exits y ≡ true) (sym z ∙ e) (exits_itself exits))))
      (λ (z : weights next < weights exits). z)
      (exits_fall next exits (subst (λ y. ExitsBelow y exits) (sym e) n.lower) (subst (λ y. list_all ascends y ≡ true) (sym e) (next_exits exits xs n).ascending) n.from.ascending small)
    where
      clash : true ≡ false → ⊥
      clash h = cc

      same : all_same exits (exits_of xs) ≡ true → ⊥
      same h = clash (sym h ∙ differ)

  pub done : (exits : List RelLocks) (xs : List Points) → AreNearing code tops exits xs → all_same exits (exits_of xs) ≡ true → AreGreatest code tops xs
  done exits xs n same = whole code tops tops_known.0 exits xs n.each n.from.above (same_exits exits (exits_of xs) same)

-- ---- points that are found one after the other

get_appended : {X : Type 0} (xs : List X) (y z : X) (j : ℕ) → slice_get (xs ++ y ∷ []) j ≡ Some z → (slice_get xs j ≡ Some z) ⊎ ((j ≡ length xs) × (y ≡ z))
get_appended [] y z zero h = inr (refl, same_Some y z h)
get_appended [] y z (suc j) h = cc
get_appended (x ∷ xs) y z zero h = inl h
get_appended (x ∷ xs) y z (suc j) h = ⊎_elim (λ e. inl e) (λ (e : (j ≡ length xs) × (y ≡ z)). inr (ap suc e.0, e.1)) (get_appended xs y z j h)

-- the points of the first functions
pub record AreFirstGreatest (code : Code) (tops : List (List Held)) (exits : List RelLocks) (count : ℕ) (xs : List Points) : Type 0 where
  pub long : length xs ≡ count
  pub each : (f : ℕ) (fn : Function) (top : List Held) (x : Points) → slice_get code.functions f ≡ Some fn → slice_get tops f ≡ Some top → slice_get xs f ≡ Some x → IsGreatest exits fn top x

pub no_points : (code : Code) (tops : List (List Held)) (exits : List RelLocks) → AreFirstGreatest code tops exits 0 []
no_points code tops exits = record { long = refl; each = λ f fn top x i j k. cc }

long_appended : {X : Type 0} (xs : List X) (y : X) → length (xs ++ y ∷ []) ≡ length xs + 1
long_appended [] y = refl
long_appended (x ∷ xs) y = let e = long_appended xs y in omega (arith, e)

pub more_points : (code : Code) (tops : List (List Held)) (exits : List RelLocks) (k : ℕ) (xs : List Points) (y : Points) → AreFirstGreatest code tops exits k xs → ((fn : Function) (top : List Held) → slice_get code.functions k ≡ Some fn → slice_get tops k ≡ Some top → IsGreatest exits fn top y) → AreFirstGreatest code tops exits (k + 1) (xs ++ y ∷ [])
more_points code tops exits k xs y a g = record {
  long = long_appended xs y ∙ ap (λ n. n + 1) a.long;
  each = λ f fn top x i j h. ⊎_elim (λ e. a.each f fn top x i j e) (λ (e : (f ≡ length xs) × (y ≡ x)). let n = e.0 ∙ a.long in subst (IsGreatest exits fn top) e.1 (g fn top (ap (slice_get code.functions) (sym n) ∙ i) (ap (slice_get tops) (sym n) ∙ j))) (get_appended xs y x f h);
}

pub all_points : (code : Code) (tops : List (List Held)) (exits : List RelLocks) (k n : ℕ) (xs : List Points) → AreFirstGreatest code tops exits k xs → n ≡ length code.functions → n ≤ k → k ≤ n → AreEachGreatest code tops exits xs
all_points code tops exits k n xs a e le ge = record { long = a.long ∙ omega (arith, e); each = a.each }

-- ---- exits that are copied

pub exits_more : (xs : List Points) (k : ℕ) (x : Points) (es : List RelLocks) (e : RelLocks) → slice_get xs k ≡ Some x → (es ≡ exits_of (take k xs)) × AreSmall es → e ≡ x.exit → IsSmallMinus e.minus → (es ++ e ∷ [] ≡ exits_of (take (k + 1) xs)) × AreSmall (es ++ e ∷ [])
exits_more xs k x es e at h is small = (ap (λ z. es ++ z ∷ []) is ∙ ap (λ z. z ++ x.exit ∷ []) h.0 ∙ subst (λ n. exits_of (take k xs) ++ x.exit ∷ [] ≡ exits_of (take n xs)) (sym (add-one k)) (go xs k at), both es h.1)
  where
    go : (xs : List Points) (k : ℕ) → slice_get xs k ≡ Some x → exits_of (take k xs) ++ x.exit ∷ [] ≡ exits_of (take (suc k) xs)
    go [] k at = cc
    go (y ∷ ys) zero at = ap (λ (z : Points). z.exit ∷ []) (sym (same_Some y x at))
    go (y ∷ ys) (suc k) at = ap (λ z. y.exit ∷ z) (go ys k at)

    both : (es : List RelLocks) → AreSmall es → AreSmall (es ++ e ∷ [])
    both [] s = (small, tt)
    both (d ∷ ds) s = (s.0, both ds s.1)

pub exits_all : (xs : List Points) (k : ℕ) → length xs ≤ k → exits_of (take k xs) ≡ exits_of xs
exits_all [] zero le = refl
exits_all [] (suc k) le = refl
exits_all (x ∷ xs) zero le = absurd (omega arith)
exits_all (x ∷ xs) (suc k) le = ap (λ z. x.exit ∷ z) (exits_all xs k (omega arith))

-- ---- exits that are compared

same_at : (es : List RelLocks) (xs : List Points) (k : ℕ) (e m : RelLocks) (x : Points) → slice_get es k ≡ Some e → slice_get xs k ≡ Some x → m ≡ x.exit → all_same (drop k es) (drop k (exits_of xs)) ≡ (locks_same e m && all_same (drop (suc k) es) (drop (suc k) (exits_of xs)))
same_at [] xs k e m x h i is = cc
same_at (d ∷ ds) [] k e m x h i is = cc
same_at (d ∷ ds) (y ∷ ys) zero e m x h i is = ap (λ z. locks_same z y.exit && all_same ds (exits_of ys)) (same_Some d e h) ∙ ap (λ z. locks_same e z && all_same ds (exits_of ys)) (ap (λ (z : Points). z.exit) (same_Some y x i) ∙ sym is)
same_at (d ∷ ds) (y ∷ ys) (suc k) e m x h i is = same_at ds ys k e m x h i is

pub differ_there : (es : List RelLocks) (xs : List Points) (k : ℕ) (e m : RelLocks) (x : Points) → slice_get es k ≡ Some e → slice_get xs k ≡ Some x → m ≡ x.exit → all_same es (exits_of xs) ≡ all_same (drop k es) (drop k (exits_of xs)) → locks_same e m ≡ false → false ≡ all_same es (exits_of xs)
differ_there es xs k e m x h i is was s = sym (was ∙ same_at es xs k e m x h i is ∙ ap (λ b. b && all_same (drop (suc k) es) (drop (suc k) (exits_of xs))) s)

pub same_on : (es : List RelLocks) (xs : List Points) (k : ℕ) (e m : RelLocks) (x : Points) → slice_get es k ≡ Some e → slice_get xs k ≡ Some x → m ≡ x.exit → all_same es (exits_of xs) ≡ all_same (drop k es) (drop k (exits_of xs)) → locks_same e m ≡ true → all_same es (exits_of xs) ≡ all_same (drop (k + 1) es) (drop (k + 1) (exits_of xs))
same_on es xs k e m x h i is was s = subst (λ n. all_same es (exits_of xs) ≡ all_same (drop n es) (drop n (exits_of xs))) (sym (add-one k)) (was ∙ same_at es xs k e m x h i is ∙ ap (λ b. b && all_same (drop (suc k) es) (drop (suc k) (exits_of xs))) s)

pub same_is : (es zs : List RelLocks) (xs ys : List Points) (b t : Bool) → zs ≡ es → ys ≡ xs → b ≡ all_same zs (exits_of ys) → b ≡ t → all_same es (exits_of xs) ≡ t
same_is es zs xs ys b t e g h is = sym (ap (λ z. all_same z (exits_of ys)) e ∙ ap (λ z. all_same es (exits_of z)) g) ∙ sym h ∙ is

-- ---- summaries

pub no_summaries : (xs : List Points) (rows : List (List Guarded)) → AreCollected xs rows 0 []
no_summaries xs rows = record { long = refl; exit = λ f x s i h. cc; guarded = λ f s h. cc }

pub more_summaries : (xs : List Points) (rows : List (List Guarded)) (k n : ℕ) (ss : List Summary) (x : Points) (e : RelLocks) (row : List Guarded) → AreCollected xs rows k ss → n ≡ length ss → slice_get xs n ≡ Some x → e ≡ x.exit → slice_get rows k ≡ Some row → AreCollected xs rows (k + 1) (ss ++ record { exit = e; guarded = row } ∷ [])
more_summaries xs rows k n ss x e row a here at is there = record {
  long = long_appended ss (record { exit = e; guarded = row }) ∙ ap (λ z. z + 1) a.long;
  exit = λ f y s i h. ⊎_elim (λ g. a.exit f y s i g) (λ (g : (f ≡ length ss) × (record { exit = e; guarded = row } ≡ s)). ap (λ (z : Summary). z.exit) (sym g.1) ∙ is ∙ ap (λ (z : Points). z.exit) (same_Some x y (sym at ∙ ap (slice_get xs) (here ∙ sym g.0) ∙ i))) (get_appended ss (record { exit = e; guarded = row }) s f h);
  guarded = λ f s h. ⊎_elim (λ g. a.guarded f s g) (λ (g : (f ≡ length ss) × (record { exit = e; guarded = row } ≡ s)). ap (slice_get rows) (g.0 ∙ a.long) ∙ there ∙ ap (λ (z : Summary). Some z.guarded) g.1) (get_appended ss (record { exit = e; guarded = row }) s f h);
}

pub are_summaries : (code : Code) (tops : List (List Held)) (xs : List Points) (rows : List (List Guarded)) (ss : List Summary) → AllListsKnown code tops → AreGreatest code tops xs → AreMade code xs rows → AreAllMet code xs rows → AreCollected xs rows (length xs) ss → AreSummaries code ss
are_summaries code tops xs rows ss known greatest made met c = record {
  tops = tops;
  known = known;
  points = xs;
  greatest = greatest;
  long = c.long ∙ greatest.solves.long;
  each = λ f x s i h. let row = c.guarded f s h in record {
    exit = c.exit f x s i h;
    ascending = made.ascending f s.guarded row;
    of = row_is code xs rows made met f s.guarded row;
  };
}
