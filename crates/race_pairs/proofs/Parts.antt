-- Groups made of touches that stand in order, part by part.
use Rattle.std.proofs.Common.{◌≡◌, ℕ, zero, suc, ◌+◌, ◌<◌, ◌≤◌, false, List, [], ◌∷◌, ◌++◌, length, get_or, refl, sym, ap, subst, ◌∙◌, arith, ◌⊎◌, inl, inr, ⊎_elim, Some, None, Result, Ok, Err}
use Rattle.std.specs.Prelude.{slice_get, OnOk}
use Rattle.std.specs.Fn.{ComputesKey}
use denote.Ref.{Bor}
use denote.Param.Members.{Mut}
use Rattle.std.specs.Ordering.{is_lt}
use Rattle.std.specs.List.{Contains, dedup}
use Rattle.std.specs.List.Sorted.{IsSortedByKey}
use Rattle.std.proofs.lemmas.Bool.{cases_lt}
use Rattle.std.proofs.lemmas.List.Elements.{Contains-append_left, Contains-push, Contains-push_cases}
use Rattle.std.proofs.lemmas.List.Kept.{Contains-dedup, Contains-from_dedup}
use Rattle.std.proofs.lemmas.List.Sorted.{sorted_far, ranks_by}
use Rattle.rr_base.specs.declared.layout.Place.{Place}
use Rattle.facts.specs.declared.locks.Guarded.{Guarded}
use Rattle.facts.specs.declared.locks.Held.{Held}
use Rattle.facts.specs.declared.locks.Summary.{Summary}
use Rattle.facts.specs.declared.pair.AccessAt.{AccessAt}
use Rattle.facts.specs.Pairs.{place_less, access_same}
use Rattle.race_pairs.specs.declared.touch.Touch.{Touch}
use Rattle.race_pairs.specs.declared.touch.Group.{Group}
use Rattle.race_pairs.specs.Gains.{Gains, Below}
use Rattle.race_pairs.specs.Races.{guarded_at, alone}
use Rattle.race_pairs.specs.Groups.{AreSorted, Alike, HasLocks, AreLocksInOrder, StandsFrom, IsGroup, IsIn, HasPlacesInOrder, HasLocksInOrder, IsFrom, AreGroups}
use Rattle.facts.proofs.TotalOrders.{orders_places}
use Rattle.race_pairs.proofs.Elements.{got, gets, held, reads}
use Rattle.race_pairs.proofs.Gaining.{none, nothing, only, gains_too, pushed, alike, more}
use Rattle.race_pairs.proofs.Orders.{place_cmp, place_lt, place_total, orders_accesses, accesses_equiv}

-- ---- in order

pub sorted : (ws : List Touch) → IsSortedByKey (λ (w : Touch). w.place) place_cmp ws → AreSorted ws
sorted ws h i j v w le gv gw =
    let a : get_or ws i v ≡ v = reads ws i v v gv in
    let b : get_or ws j v ≡ w = reads ws j v w gw in
    sym (place_lt w.place v.place)
    ∙ (let u : w ≡ get_or ws j v = sym b in let z : v ≡ get_or ws i v = sym a in λ k. is_lt (place_cmp (u k).place (z k).place))
    ∙ sorted_far (λ (x y : Touch). is_lt (place_cmp x.place y.place)) (ranks_by place_total (λ (x : Touch). x.place)) ws h i j v le (got ws j w gw).0

-- where a sort by places succeeds
pub sorted_where : {E F : Type 0} {g : Mut F (Bor Touch × Unit {0}) Place} {f : F} (ws : List Touch) (q : Result Unit E) → OnOk q ((key : Touch → Place) → ComputesKey g key f → IsSortedByKey key place_cmp ws) → ComputesKey g (λ (w : Touch). w.place) f → OnOk q (AreSorted ws)
sorted_where ws (Err e) h k = h
sorted_where ws (Ok u) h k = sorted ws (h (λ (w : Touch). w.place) k)

-- ---- a part

pub stands_none : (ws : List Touch) (from : ℕ) → Gains (Below from (StandsFrom ws from)) [] []
stands_none ws from = none (Below from (StandsFrom ws from)) [] (λ a h. never h)
  where
    never : {a : AccessAt} → Below from (StandsFrom ws from) a → ⊥
    never (k, lt, (le, w, gw, e)) = omega arith

pub stands_more : (ws : List Touch) (from k : ℕ) (d : Touch) (xs ys : List AccessAt) → from ≤ k → k < length ws → Gains (Below k (StandsFrom ws from)) [] xs → ys ≡ xs ++ (get_or ws k d).access.at ∷ [] → Gains (Below (k + 1) (StandsFrom ws from)) [] ys
stands_more ws from k d xs ys le lt g e =
    let at = gets ws k d lt in
    more (StandsFrom ws from) k [] xs ys g
    (subst (Gains (StandsFrom ws from k) xs) (sym e)
    (alike (λ a. a ≡ (get_or ws k d).access.at) (StandsFrom ws from k) xs (xs ++ (get_or ws k d).access.at ∷ [])
    (λ a h. (le, get_or ws k d, at, sym h))
    (λ a h. let s : h.1 ≡ get_or ws k d = cc in sym h.3 ∙ ap (λ (w : Touch). w.access.at) s)
    (pushed xs (get_or ws k d).access.at)))

pub gains_deduped : (P : AccessAt → Type 0) (xs ys : List AccessAt) → ys ≡ dedup access_same xs → Gains P [] xs → Gains P [] ys
gains_deduped P xs ys e g =
    subst (Gains P []) (sym e)
    (gains_too P xs (dedup access_same xs)
    (λ a h. Contains-dedup accesses_equiv orders_accesses.same_is xs a h)
    (λ a h. Contains-from_dedup access_same xs a h)
    g)

pub stands_ends : (ws : List Touch) (from k to : ℕ) (xs : List AccessAt) → k ≡ to → Gains (Below k (StandsFrom ws from)) [] xs → Gains (Below to (StandsFrom ws from)) [] xs
stands_ends ws from k to xs e g = subst (λ n. Gains (Below n (StandsFrom ws from)) [] xs) e g

-- ---- part by part

push_at : {X : Type 0} (xs : List X) (y : X) (i : ℕ) (z : X) → slice_get (xs ++ y ∷ []) i ≡ Some z → (slice_get xs i ≡ Some z) ⊎ ((i ≡ length xs) × (z ≡ y))
push_at [] y zero z e = inr (refl, cc)
push_at [] y (suc i) z e = cc
push_at (x ∷ xs) y zero z e = inl e
push_at (x ∷ xs) y (suc i) z e = ⊎_elim (λ h. inl h) (λ h. inr (let f = h.0 in omega arith, h.1)) (push_at xs y i z e)

module _ (ss : List Summary) (ws : List Touch) where
  abbrev AllAlike : (from to : ℕ) → Type 0
  AllAlike from to = (k : ℕ) (v w : Touch) → from < k → k < to → slice_get ws from ≡ Some v → slice_get ws k ≡ Some w → Alike ss v w

  pub no_groups : AreGroups ss ws 0 []
  no_groups = record {
    places = λ i j g h le gi gj. let l = (got [] i g gi).0 in absurd (omega (arith, l));
    locks = λ g h. absurd (nothing g h);
    reached = λ g h. absurd (nothing g h);
    each = λ g a h. absurd (nothing g h);
    all = λ k w x lt. absurd (omega arith);
  }

  -- each touch of the part is in its group
  within : (from to : ℕ) (x : Guarded) (g : Group) → AllAlike from to → IsGroup ws from to x g → (v : Touch) → slice_get ws from ≡ Some v → guarded_at ss v.access ≡ Some x → (k : ℕ) (w : Touch) → from ≤ k → k < to → slice_get ws k ≡ Some w → IsIn ss g w
  within from to x g like is v gv fv k w le lt gw = ⊎_elim first later (cases_lt from k)
    where
      same : is.v ≡ v
      same = let a = is.at in cc

      here : Contains g.accesses w.access.at
      here = is.accesses.gained w.access.at (k, lt, (le, w, gw, refl))

      later : k ≤ from → IsIn ss g w
      later ge =
          let e : k ≡ from = omega arith in
          let gk : slice_get ws from ≡ Some w = subst (λ n. slice_get ws n ≡ Some w) e gw in
          let s : w ≡ v = cc in
          record {
            x = x;
            found = ap (λ (z : Touch). guarded_at ss z.access) s ∙ fv;
            place = ap (λ (z : Touch). z.place) (s ∙ sym same) ∙ sym is.place;
            root = ap (λ (z : Touch). alone z.access) (s ∙ sym same) ∙ sym is.root;
            store = sym is.store;
            locks = is.locks;
            access = here;
          }

      first : from < k → IsIn ss g w
      first l =
          let a = like k v w l lt gv gw in
          let f = a.first in
          let ex : a.x ≡ x = cc in
          record {
            x = a.y;
            found = a.second;
            place = sym a.place ∙ ap (λ (z : Touch). z.place) (sym same) ∙ sym is.place;
            root = sym a.root ∙ ap (λ (z : Touch). alone z.access) (sym same) ∙ sym is.root;
            store = sym a.store ∙ ap (λ (z : Guarded). z.store) ex ∙ sym is.store;
            locks = subst (λ (ps : List Held). HasLocks ps g) (ap (λ (z : Guarded). z.plus) (sym ex) ∙ a.plus) is.locks;
            access = here;
          }

  further : (m n : ℕ) (g : Group) (a : AccessAt) → m < n → IsFrom ss ws m g a → IsFrom ss ws n g a
  further m n g a lt f = record { k = f.k; below = let l = f.below in omega arith; w = f.w; at = f.at; stands = f.stands; within = f.within }

  farther : (m n : ℕ) (g : Group) → m < n → (k : ℕ) × (w : Touch) × (k < m) × (slice_get ws k ≡ Some w) × (g.place ≡ w.place) → (k : ℕ) × (w : Touch) × (k < n) × (slice_get ws k ≡ Some w) × (g.place ≡ w.place)
  farther m n g lt (k, w, l, at, e) = (k, w, omega arith, at, e)

  pub grouped : (from to : ℕ) (x : Guarded) (g : Group) (gs : List Group) (v : Touch) → from < to → AreSorted ws → AllAlike from to → slice_get ws from ≡ Some v → guarded_at ss v.access ≡ Some x → IsGroup ws from to x g → AreGroups ss ws from gs → AreGroups ss ws to (gs ++ g ∷ [])
  grouped from to x g gs v lt up like gv fv is old = record { places = places; locks = locks; reached = reached; each = each; all = all }
    where
      same : is.v ≡ v
      same = let a = is.at in cc

      place : g.place ≡ v.place
      place = is.place ∙ ap (λ (z : Touch). z.place) same

      following : (h : Group) → Contains gs h → place_less g.place h.place ≡ false
      following h c =
          let r = old.reached h c in
          let l = r.2 in
          ap (λ z. place_less z h.place) place ∙ ap (λ z. place_less v.place z) r.4 ∙ up r.0 from r.1 v (omega arith) r.3 gv

      places : HasPlacesInOrder (gs ++ g ∷ [])
      places i j a b le ga gb = go (push_at gs g i a ga) (push_at gs g j b gb)
        where
          go : (slice_get gs i ≡ Some a) ⊎ ((i ≡ length gs) × (a ≡ g)) → (slice_get gs j ≡ Some b) ⊎ ((j ≡ length gs) × (b ≡ g)) → place_less b.place a.place ≡ false
          go (inl m) (inl n) = old.places i j a b le m n
          go (inl m) (inr (e, n)) = ap (λ (z : Group). place_less z.place a.place) n ∙ following a (held gs i a m)
          go (inr (e, m)) (inl n) = let l = (got gs j b n).0 in absurd (omega (arith, l, e))
          go (inr (e, m)) (inr (f, n)) = ap (λ (z : Group). place_less z.place a.place) n ∙ ap (λ (z : Group). place_less g.place z.place) m ∙ orders_places.self g.place

      locks : HasLocksInOrder (gs ++ g ∷ [])
      locks h c = ⊎_elim (λ o. old.locks h o) (λ e. subst AreLocksInOrder e is.ascend) (Contains-push_cases gs g h c)

      reached : (h : Group) → Contains (gs ++ g ∷ []) h → (k : ℕ) × (w : Touch) × (k < to) × (slice_get ws k ≡ Some w) × (h.place ≡ w.place)
      reached h c = ⊎_elim (λ o. farther from to h lt (old.reached h o)) (λ e. (from, v, lt, gv, ap (λ (z : Group). z.place) (sym e) ∙ place)) (Contains-push_cases gs g h c)

      each : (h : Group) (a : AccessAt) → Contains (gs ++ g ∷ []) h → Contains h.accesses a → IsFrom ss ws to h a
      each h a c m = ⊎_elim (λ o. further from to h a lt (old.each h a o m)) (λ e. subst (λ (z : Group). IsFrom ss ws to z a) e (own (subst (λ (z : Group). Contains z.accesses a) (sym e) m))) (Contains-push_cases gs g h c)
        where
          own : Contains g.accesses a → IsFrom ss ws to g a
          own m = made (only (Below to (StandsFrom ws from)) g.accesses is.accesses a m)
            where
              made : Below to (StandsFrom ws from) a → IsFrom ss ws to g a
              made (k, l, (le, w, gw, e)) = record { k = k; below = l; w = w; at = gw; stands = e; within = within from to x g like is v gv fv k w le l gw }

      all : (k : ℕ) (w : Touch) (y : Guarded) → k < to → slice_get ws k ≡ Some w → guarded_at ss w.access ≡ Some y → (h : Group) × Contains (gs ++ g ∷ []) h × IsIn ss h w
      all k w y l gw fw =
          ⊎_elim
          (λ (b : k < from). let o = old.all k w y b gw fw in (o.0, Contains-append_left gs (g ∷ []) o.0 o.1, o.2))
          (λ (b : from ≤ k). (g, Contains-push gs g, within from to x g like is v gv fv k w b l gw))
          (cases_lt k from)

  -- touches of which the summaries don't speak are in no group
  pub skipped : (from to : ℕ) (gs : List Group) (v : Touch) → from < to → AllAlike from to → slice_get ws from ≡ Some v → guarded_at ss v.access ≡ None → AreGroups ss ws from gs → AreGroups ss ws to gs
  skipped from to gs v lt like gv fv old = record {
    places = old.places;
    locks = old.locks;
    reached = λ g c. farther from to g lt (old.reached g c);
    each = λ g a c m. further from to g a lt (old.each g a c m);
    all = all;
  }
    where
      all : (k : ℕ) (w : Touch) (y : Guarded) → k < to → slice_get ws k ≡ Some w → guarded_at ss w.access ≡ Some y → (h : Group) × Contains gs h × IsIn ss h w
      all k w y l gw fw =
          ⊎_elim
          (λ (b : k < from). old.all k w y b gw fw)
          (λ (b : from ≤ k). ⊎_elim
          (λ (b : from < k). let a = (like k v w b l gv gw).first in let e : None ≡ Some y = cc in absurd cc)
          (λ (c : k ≤ from). let e : k ≡ from = omega arith in let gk : slice_get ws from ≡ Some w = subst (λ n. slice_get ws n ≡ Some w) e gw in let s : w ≡ v = cc in let f : guarded_at ss v.access ≡ Some y = subst (λ (z : Touch). guarded_at ss z.access ≡ Some y) s fw in absurd cc)
          (cases_lt from k))
          (cases_lt k from)
