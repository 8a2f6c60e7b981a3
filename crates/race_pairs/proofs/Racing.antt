-- The pairs of the groups of all touches are those that may race.
use Rattle.std.proofs.Common.{◌≡◌, ℕ, ◌<◌, ◌≤◌, Bool, true, false, not, ◌||◌, List, [], length, refl, sym, ap, subst, ◌∙◌, arith, ◌⊎◌, inl, inr, ⊎_elim, Option, Some, None, Result, Ok, Err}
use Rattle.std.specs.Prelude.{slice_get, ◌↔◌, ◌==◌, if◌then◌else◌, IfOk}
use Rattle.std.specs.declared.alloc.AllocError.{AllocError}
use Rattle.std.specs.List.Sorted.{IsPermutation}
use Rattle.std.proofs.lemmas.List.Sorted.{IsPermutation-sym, Contains-permutation}
use Rattle.std.specs.List.{Contains}
use Rattle.std.proofs.lemmas.Bool.{cases_lt}
use Rattle.rr_base.specs.declared.layout.Place.{Place}
use Rattle.flow_code.specs.declared.code.Code.{Code}
use Rattle.flow_code.specs.Threads.{is_main}
use Rattle.facts.specs.declared.locks.Guarded.{Guarded}
use Rattle.facts.specs.declared.locks.Summary.{Summary}
use Rattle.facts.specs.declared.pair.AccessAt.{AccessAt}
use Rattle.facts.specs.declared.pair.Pair.{Pair}
use Rattle.facts.specs.PointsTo.{Tables}
use Rattle.facts.specs.Pairs.{is_root, places_of, stands, guarded_in, MayRace, ArePairs, pairs_ascend, access_less}
use Rattle.facts.specs.Pairs as facts_pairs
use Rattle.facts.proofs.TotalOrders.{orders_numbers}
use Rattle.race_pairs.specs.declared.touch.Reached.{Reached}
use Rattle.race_pairs.specs.declared.touch.Touch.{Touch}
use Rattle.race_pairs.specs.declared.touch.Group.{Group}
use Rattle.race_pairs.specs.Gains.{Gains}
use Rattle.race_pairs.specs.Touches.{reached, IsTouch}
use Rattle.race_pairs.specs.Races.{guarded_at, alone, may_meet, AreRacing, pair_of, PairsOf}
use Rattle.race_pairs.specs.Groups.{HasLocks, IsIn, IsFrom, AreGroups}
use Rattle.race_pairs.proofs.Elements.{got, held, holds}
use Rattle.race_pairs.proofs.Gaining.{only}
use Rattle.race_pairs.proofs.Cells.{apart_is, never_exclude, exclude_swap, apart_swap}
use Rattle.race_pairs.proofs.Pairing.{either, one_way, turned_if, pair_swap}

-- ---- either way round

pub or_swap : (a b : Bool) → a || b ≡ true → b || a ≡ true
or_swap true true h = refl
or_swap true false h = refl
or_swap false b h = left b h
  where
    left : (b : Bool) → b ≡ true → b || false ≡ true
    left true h = refl
    left false h = cc

or_left : (a b : Bool) → a ≡ true → a || b ≡ true
or_left true b h = refl
or_left false b h = cc

or_right : (a b : Bool) → b ≡ true → a || b ≡ true
or_right true b h = refl
or_right false b h = h

-- the root, if no two threads begin with it
abbrev lone : Bool → ℕ → Option ℕ
lone b r = if b then Some r else None

-- two roots may meet where those that are met once at most differ
meets_by : (p q : Bool) (r s : ℕ) → ((r == s) ≡ true → p ≡ q) → not (r == s) || not p ≡ may_meet (lone p r) (lone q s)
meets_by true true r s h = plain (not (r == s))
  where
    plain : (b : Bool) → b || false ≡ b
    plain true = refl
    plain false = refl
meets_by true false r s h = ⊎_elim (λ t. let e : true ≡ false = h t in cc) (λ f. or_left (not (r == s)) false (ap not f)) (either (r == s))
meets_by false q r s h = or_right (not (r == s)) true refl

meets : (code : Code) (r s : ℕ) → facts_pairs.may_meet code r s ≡ may_meet (lone (is_main code r) r) (lone (is_main code s) s)
meets code r s = meets_by (is_main code r) (is_main code s) r s (λ e. ap (is_main code) (orders_numbers.same_is r s e))

meet_swap : (o q : Option ℕ) → may_meet o q ≡ true → may_meet q o ≡ true
meet_swap None None h = refl
meet_swap None (Some s) h = refl
meet_swap (Some r) None h = refl
meet_swap (Some r) (Some s) h = ⊎_elim (λ t. let e : s ≡ r = orders_numbers.same_is s r t in let f : (r == s) ≡ true = subst (λ n. (r == n) ≡ true) (sym e) (orders_numbers.same_self r) in let n : not (r == s) ≡ false = ap not f in cc) (λ f. ap not f) (either (s == r))

meets_swap : (code : Code) (r s : ℕ) → facts_pairs.may_meet code r s ≡ true → facts_pairs.may_meet code s r ≡ true
meets_swap code r s h = meets code s r ∙ meet_swap (lone (is_main code r) r) (lone (is_main code s) s) (sym (meets code r s) ∙ h)

race_swap : (code : Code) (t : Tables) (ss : List Summary) (p : Place) (a b : AccessAt) → MayRace code t ss p a b → MayRace code t ss p b a
race_swap code t ss p a b m = record {
  r = m.s;
  s = m.r;
  x = m.y;
  y = m.x;
  roots = (m.roots.1, m.roots.0);
  meet = meets_swap code m.r m.s m.meet;
  of_r = m.of_s;
  of_s = m.of_r;
  first = m.second;
  second = m.first;
  stores = or_swap m.x.store m.y.store m.stores;
  touches = (m.touches.1, m.touches.0);
  apart = apart_swap m.x.plus m.y.plus m.apart;
}

-- the pair of two accesses that may race, as it is listed
turned : (code : Code) (t : Tables) (ss : List Summary) (p : Place) (a b : AccessAt) → MayRace code t ss p a b → MayRace code t ss (pair_of p a b).place (pair_of p a b).first (pair_of p a b).second
turned code t ss p a b m = go (access_less b a)
  where
    go : (c : Bool) → MayRace code t ss (turned_if c p a b).place (turned_if c p a b).first (turned_if c p a b).second
    go true = race_swap code t ss p a b m
    go false = m

in_order : (p : Place) (a b : AccessAt) → access_less (pair_of p a b).second (pair_of p a b).first ≡ false
in_order p a b = go (access_less b a) refl
  where
    go : (c : Bool) → access_less b a ≡ c → access_less (turned_if c p a b).second (turned_if c p a b).first ≡ false
    go true e = one_way b a e
    go false e = e

straight : (p : Place) (a b : AccessAt) → access_less b a ≡ false → pair_of p a b ≡ record { place = p; first = a; second = b }
straight p a b h = ap (λ c. turned_if c p a b) h

groups_swap : (g h : Group) → AreRacing g h → AreRacing h g
groups_swap g h r = record { meet = meet_swap g.alone h.alone r.meet; stores = or_swap g.store h.store r.stores; apart = λ e. r.apart (exclude_swap h g e) }

-- ---- from a touch to the access of the summary

-- what a summary says of a root's access
pub record Stood (code : Code) (t : Tables) (ss : List Summary) (w : Touch) : Type 0 where
  pub r : ℕ
  pub k : ℕ
  pub x : Guarded
  pub root : is_root code r ≡ true
  pub in_it : Contains (guarded_in (slice_get ss r)) x
  pub place : Contains (places_of code t (stands x)) w.place
  pub is : w.access ≡ reached code r k x
  pub found : guarded_at ss w.access ≡ Some x

guarded_is : (ss : List Summary) (r : ℕ) (s : Summary) → slice_get ss r ≡ Some s → guarded_in (slice_get ss r) ≡ s.guarded
guarded_is ss r s e = ap guarded_in e

stood : (code : Code) (t : Tables) (ss : List Summary) (w : Touch) → IsTouch code t ss w → Stood code t ss w
stood code t ss w (r, (s, gs, (root, (k, (x, gx, (place, is)))))) =
    let e : slice_get (guarded_in (slice_get ss r)) k ≡ Some x = ap (λ (z : List Guarded). slice_get z k) (guarded_is ss r s gs) ∙ gx in
    record {
      r = r;
      k = k;
      x = x;
      root = root;
      in_it = held (guarded_in (slice_get ss r)) k x e;
      place = place;
      is = is;
      found = ap (λ (a : Reached). guarded_at ss a) is ∙ e;
    }

abbrev touch_at : Code → Place → (r k : ℕ) → Guarded → Touch
touch_at code p r k x = record { place = p; access = reached code r k x }

no_guarded : (x : Guarded) → Contains [] x → ⊥
no_guarded x h = let lt : h.0 < 0 = h.1 in omega arith

summary_of : (ss : List Summary) (r : ℕ) (x : Guarded) → Contains (guarded_in (slice_get ss r)) x → (s : Summary) × (k : ℕ) × (slice_get ss r ≡ Some s) × (slice_get s.guarded k ≡ Some x)
summary_of ss r x h = go (slice_get ss r) refl h
  where
    go : (o : Option Summary) → slice_get ss r ≡ o → Contains (guarded_in o) x → (s : Summary) × (k : ℕ) × (slice_get ss r ≡ Some s) × (slice_get s.guarded k ≡ Some x)
    go None e h = absurd (no_guarded x h)
    go (Some s) e h = let g = holds s.guarded x h in (s, g.0, e, g.1)

-- each access of a root's summary at each of its places is one of the touches
touched : (code : Code) (t : Tables) (ss : List Summary) (r : ℕ) (x : Guarded) (p : Place) → is_root code r ≡ true → Contains (guarded_in (slice_get ss r)) x → Contains (places_of code t (stands x)) p → (k : ℕ) × IsTouch code t ss (touch_at code p r k x) × (guarded_at ss (reached code r k x) ≡ Some x)
touched code t ss r x p root h place =
    let (s, k, gs, gx) = summary_of ss r x h in
    (k, (r, (s, gs, (root, (k, (x, gx, (place, refl)))))), ap (λ (z : List Guarded). slice_get z k) (guarded_is ss r s gs) ∙ gx)

-- ---- the pairs

module _ (code : Code) (t : Tables) (ss : List Summary) (ws : List Touch) (gs : List Group) (found vs : List Pair)
    (each : (w : Touch) → Contains ws w → IsTouch code t ss w) (all : (w : Touch) → IsTouch code t ss w → Contains ws w)
    (made : AreGroups ss ws (length ws) gs) (gains : Gains (PairsOf gs) [] found)
    (ascending : pairs_ascend vs ≡ true) (same : (p : Pair) → Contains vs p ↔ Contains found p) where
  from : (v : Pair) → Contains vs v → PairsOf gs v
  from v h = only (PairsOf gs) found gains v ((same v).0 h)

  ordered : (v : Pair) → Contains vs v → access_less v.second v.first ≡ false
  ordered v h = go (from v h)
    where
      go : PairsOf gs v → access_less v.second v.first ≡ false
      go (i, (j, (g, h, gg, gh, le, e, (r, p)))) = subst (λ (z : Pair). access_less z.second z.first ≡ false) (sym p.is) (in_order g.place p.a p.b)

  -- an access of a group is one of a root's summary, with what its group says of it
  record Grouped (g : Group) (a : AccessAt) : Type 0 where
    w : Touch
    stood : Stood code t ss w
    place : w.place ≡ g.place
    root : lone (is_main code stood.r) stood.r ≡ g.alone
    store : stood.x.store ≡ g.store
    locks : HasLocks stood.x.plus g
    stands_at : stands stood.x ≡ a

  grouped : (g : Group) (a : AccessAt) → IsFrom ss ws (length ws) g a → Grouped g a
  grouped g a f =
      let s = stood code t ss f.w (each f.w (held ws f.k f.w f.at)) in
      let b = s.found in
      let c = f.within.found in
      let e : f.within.x ≡ s.x = cc in
      record {
        w = f.w;
        stood = s;
        place = f.within.place;
        root = ap alone (sym s.is) ∙ f.within.root;
        store = ap (λ (z : Guarded). z.store) (sym e) ∙ f.within.store;
        locks = subst (λ (z : Guarded). HasLocks z.plus g) e f.within.locks;
        stands_at = ap (λ (z : Reached). z.at) (sym s.is) ∙ f.stands;
      }

  race_of : (g h : Group) (a b : AccessAt) → h.place ≡ g.place → AreRacing g h → Grouped g a → Grouped h b → MayRace code t ss g.place a b
  race_of g h a b e r m n = record {
    r = m.stood.r;
    s = n.stood.r;
    x = m.stood.x;
    y = n.stood.x;
    roots = (m.stood.root, n.stood.root);
    meet = meets code m.stood.r n.stood.r ∙ (λ i. may_meet (m.root i) (n.root i)) ∙ r.meet;
    of_r = m.stood.in_it;
    of_s = n.stood.in_it;
    first = m.stands_at;
    second = n.stands_at;
    stores = (λ i. m.store i || n.store i) ∙ r.stores;
    touches = (
      subst (λ z. Contains (places_of code t z) g.place) m.stands_at (subst (λ z. Contains (places_of code t (stands m.stood.x)) z) m.place m.stood.place),
      subst (λ z. Contains (places_of code t z) g.place) n.stands_at (subst (λ z. Contains (places_of code t (stands n.stood.x)) z) (n.place ∙ e) n.stood.place),
    );
    apart = apart_is m.stood.x.plus n.stood.x.plus g h m.locks n.locks r.apart;
  }

  race : (v : Pair) → Contains vs v → MayRace code t ss v.place v.first v.second
  race v h = go (from v h)
    where
      go : PairsOf gs v → MayRace code t ss v.place v.first v.second
      go (i, (j, (g, h, gg, gh, le, e, (r, p)))) =
          subst (λ (z : Pair). MayRace code t ss z.place z.first z.second) (sym p.is)
          (turned code t ss g.place p.a p.b
          (race_of g h p.a p.b e r
          (grouped g p.a (made.each g p.a (held gs i g gg) p.of_g))
          (grouped h p.b (made.each h p.b (held gs j h gh) p.of_h))))

  -- the group of an access of a root's summary at one of its places
  record Placed (p : Place) (r : ℕ) (x : Guarded) : Type 0 where
    i : ℕ
    g : Group
    at : slice_get gs i ≡ Some g
    place : g.place ≡ p
    root : lone (is_main code r) r ≡ g.alone
    store : x.store ≡ g.store
    locks : HasLocks x.plus g
    access : Contains g.accesses (stands x)

  placed : (p : Place) (r : ℕ) (x : Guarded) → is_root code r ≡ true → Contains (guarded_in (slice_get ss r)) x → Contains (places_of code t (stands x)) p → Placed p r x
  placed p r x root in_it place = go (touched code t ss r x p root in_it place)
    where
      grouping : (k : ℕ) → guarded_at ss (reached code r k x) ≡ Some x → (g : Group) × Contains gs g × IsIn ss g (touch_at code p r k x) → Placed p r x
      grouping k f (g, c, is) =
          let i = holds gs g c in
          let b = is.found in
          let e : is.x ≡ x = cc in
          record {
            i = i.0;
            g = g;
            at = i.1;
            place = sym is.place;
            root = is.root;
            store = ap (λ (z : Guarded). z.store) (sym e) ∙ is.store;
            locks = subst (λ (z : Guarded). HasLocks z.plus g) e is.locks;
            access = is.access;
          }

      go : (k : ℕ) × IsTouch code t ss (touch_at code p r k x) × (guarded_at ss (reached code r k x) ≡ Some x) → Placed p r x
      go (k, is, f) =
          let j = holds ws (touch_at code p r k x) (all (touch_at code p r k x) is) in
          grouping k f (made.all j.0 (touch_at code p r k x) x (got ws j.0 (touch_at code p r k x) j.1).0 j.1 f)

  listed : (i j : ℕ) (g h : Group) (a b : AccessAt) → slice_get gs i ≡ Some g → slice_get gs j ≡ Some h → i ≤ j → h.place ≡ g.place → AreRacing g h → Contains g.accesses a → Contains h.accesses b → Contains vs (pair_of g.place a b)
  listed i j g h a b gg gh le e r ca cb = (same (pair_of g.place a b)).1 (gains.gained (pair_of g.place a b) (i, (j, (g, h, gg, gh, le, e, (r, record { a = a; b = b; of_g = ca; of_h = cb; is = refl })))))

  whole : (p : Place) (a b : AccessAt) → MayRace code t ss p a b → access_less b a ≡ false → Contains vs (record { place = p; first = a; second = b })
  whole p a b m ahead = subst (Contains vs) (straight p a b ahead) (go (cases_lt v.i u.i))
    where
      u : Placed p m.r m.x
      u = placed p m.r m.x m.roots.0 m.of_r (subst (λ z. Contains (places_of code t z) p) (sym m.first) m.touches.0)

      v : Placed p m.s m.y
      v = placed p m.s m.y m.roots.1 m.of_s (subst (λ z. Contains (places_of code t z) p) (sym m.second) m.touches.1)

      racing : AreRacing u.g v.g
      racing = record {
        meet = sym (λ i. may_meet (u.root i) (v.root i)) ∙ sym (meets code m.r m.s) ∙ m.meet;
        stores = sym (λ i. u.store i || v.store i) ∙ m.stores;
        apart = never_exclude m.x.plus m.y.plus u.g v.g u.locks v.locks m.apart;
      }

      go : (v.i < u.i) ⊎ (u.i ≤ v.i) → Contains vs (pair_of p a b)
      go (inr le) = subst (λ z. Contains vs (pair_of z a b)) u.place (listed u.i v.i u.g v.g a b u.at v.at le (v.place ∙ sym u.place) racing (subst (Contains u.g.accesses) m.first u.access) (subst (Contains v.g.accesses) m.second v.access))
      go (inl lt) = subst (Contains vs) (pair_swap p b a) (subst (λ z. Contains vs (pair_of z b a)) v.place (listed v.i u.i v.g u.g b a v.at u.at (omega arith) (u.place ∙ sym v.place) (groups_swap u.g v.g racing) (subst (Contains v.g.accesses) m.second v.access) (subst (Contains u.g.accesses) m.first u.access)))

  pub whole_pairs : ArePairs code t ss vs
  whole_pairs = record { ascending = ascending; ordered = ordered; race = race; all = whole }

pub are_pairs : (code : Code) (t : Tables) (ss ss1 ss2 : List Summary) (all ws ws2 : List Touch) (gs gs2 : List Group) (found : List Pair) (q : Result (List Pair) AllocError)
    → ss1 ≡ ss → ss2 ≡ ss → ws2 ≡ ws → gs2 ≡ gs
    → Gains (IsTouch code t ss1) [] all → IsPermutation all ws → AreGroups ss2 ws2 (length ws2) gs → Gains (PairsOf gs2) [] found
    → IfOk q (λ vs. pairs_ascend vs ≡ true) → IfOk q (λ vs. (p : Pair) → Contains vs p ↔ Contains found p) → IfOk q (λ vs. ArePairs code t ss vs)
are_pairs code t ss ss1 ss2 all ws ws2 gs gs2 found (Err e) e1 e2 e3 e4 g perm made p h k = h
are_pairs code t ss ss1 ss2 all ws ws2 gs gs2 found (Ok vs) e1 e2 e3 e4 g perm made p h k =
    whole_pairs code t ss ws gs found vs
    (λ w c. only (IsTouch code t ss) all touches w (Contains-permutation ws all w (IsPermutation-sym all ws perm) c))
    (λ w i. Contains-permutation all ws w perm (touches.gained w i))
    (subst (λ (z : List Summary). AreGroups z ws (length ws) gs) e2 (subst (λ (z : List Touch). AreGroups ss2 z (length z) gs) e3 made))
    (subst (λ (z : List Group). Gains (PairsOf z) [] found) e4 p)
    h k
  where
    touches : Gains (IsTouch code t ss) [] all
    touches = subst (λ (z : List Summary). Gains (IsTouch code t z) [] all) e1 g
