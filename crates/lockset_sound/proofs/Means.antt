-- What relative locks mean, as locks are taken and given back, and as registers change.
use Rattle.std.proofs.Common.{◌≡◌, ◌≢◌, ℕ, ◌+◌, ◌<◌, ◌==◌, ◌||◌, nat_le, not, Bool, true, false, Some, List, [], ◌∷◌, ◌⊎◌, inl, inr, ⊎_elim, refl, sym, ap, subst, ◌∙◌, arith, eqb-true, eq-eqb}
use Rattle.std.proofs.lemmas.Bool.{and_parts, true≢false}
use Rattle.rr_base.specs.Words.{site_of, base_of, length_of, offset_of}
use Rattle.rr_base.specs.declared.layout.CellKind.{CellKind}
use Rattle.sync_objects.specs.Modes.{covers}
use Rattle.sync_objects.specs.declared.mode.Mode.{Mode}
use Rattle.sync_objects.specs.declared.mode.Mode.TheVariants.{Read, Write}
use Rattle.word_semantics.specs.Pointers.{site_at, kind_in}
use Rattle.word_semantics.specs.Registers.{register}
use Rattle.flow_code.specs.declared.code.Code.{Code}
use Rattle.flow_code.specs.declared.code.Function.{Function}
use Rattle.facts.specs.Locks.{is_same, has, with, held_same, has_held, with_held, union_held, held_as, taken, is_clear, without, both, nothing, locked, unlocked, MinusBelow, Below}
use Rattle.facts.specs.Paths.{names_cell, may_be}
use Rattle.facts.specs.declared.locks.Held.{Held}
use Rattle.facts.specs.declared.locks.LockPath.{LockPath}
use Rattle.facts.specs.declared.locks.LockPath.TheVariants.{Cell, Formal}
use Rattle.facts.specs.declared.locks.Minus.{Minus}
use Rattle.facts.specs.declared.locks.Minus.TheVariants.{All, Listed}
use Rattle.facts.specs.declared.locks.Naming.{Naming}
use Rattle.facts.specs.declared.locks.Naming.TheVariants.{Unknown, Nowhere, Named}
use Rattle.facts.specs.declared.locks.RelLocks.{RelLocks}
use Rattle.facts.proofs.Orders.{path_same, path_self}
use Rattle.facts.proofs.HeldSets as held_sets
use Rattle.facts.proofs.PathSets.{has-with, has-union}
use Rattle.lockset_sound.specs.Leading.{is_fixed, Holds, LeadsTo, Spares, Mean}

-- ---- lists of paths

pub or_cases : (a b : Bool) → (a || b) ≡ true → (a ≡ true) ⊎ (b ≡ true)
or_cases true b h = inl refl
or_cases false b h = inr h

pub or_left : (a b : Bool) → a ≡ true → (a || b) ≡ true
or_left true b h = refl
or_left false b h = cc

pub or_right : (a b : Bool) → b ≡ true → (a || b) ≡ true
or_right true b h = refl
or_right false b h = h

pub has_cases : (p q : LockPath) (qs : List LockPath) → has p (q ∷ qs) ≡ true → (p ≡ q) ⊎ (has p qs ≡ true)
has_cases p q qs h = ⊎_elim (λ e. inl (path_same p q e)) (λ e. inr e) (or_cases (is_same p q) (has p qs) h)

pub with_self : (q : LockPath) (qs : List LockPath) → has q (with q qs) ≡ true
with_self q qs = has-with q q qs ∙ or_left (is_same q q) (has q qs) (path_self q)

pub with_more : (p q : LockPath) (qs : List LockPath) → has p qs ≡ true → has p (with q qs) ≡ true
with_more p q qs h = has-with p q qs ∙ or_right (is_same p q) (has p qs) h

not_true : (b : Bool) → not b ≡ true → b ≡ false
not_true true e = cc
not_true false e = refl

pub clear_of : (qs : List LockPath) (p q : LockPath) → is_clear qs p ≡ true → has q qs ≡ true → may_be p q ≡ false
clear_of [] p q h i = cc
clear_of (r ∷ qs) p q h i =
    let a = and_parts (not (may_be p r)) (is_clear qs p) h in
    ⊎_elim (λ (e : q ≡ r). ap (may_be p) e ∙ not_true (may_be p r) a.0) (λ (e : has q qs ≡ true). clear_of qs p q a.1 e) (has_cases q r qs i)

-- ---- lists of locks that are held

pub held_cases : (h x : Held) (xs : List Held) → has_held h (x ∷ xs) ≡ true → (h ≡ x) ⊎ (has_held h xs ≡ true)
held_cases h x xs e = ⊎_elim (λ g. inl (held_sets.held_is h x g)) (λ g. inr g) (or_cases (held_same h x) (has_held h xs) e)

pub held_first : (h : Held) (xs : List Held) → has_held h (h ∷ xs) ≡ true
held_first h xs = held_sets.has_same h h xs refl

pub held_more : (h x : Held) (xs : List Held) → has_held h xs ≡ true → has_held h (x ∷ xs) ≡ true
held_more h x xs e = or_right (held_same h x) (has_held h xs) e

pub with_held_cases : (h x : Held) (xs : List Held) → has_held h (with_held x xs) ≡ true → (h ≡ x) ⊎ (has_held h xs ≡ true)
with_held_cases h x xs e = held_cases h x xs (sym (held_sets.has-with h x xs) ∙ e)

pub union_held_cases : (h : Held) (xs ys : List Held) → has_held h (union_held xs ys) ≡ true → (has_held h xs ≡ true) ⊎ (has_held h ys ≡ true)
union_held_cases h xs ys e = or_cases (has_held h xs) (has_held h ys) (sym (held_sets.has-union h xs ys) ∙ e)

-- ---- where paths lead

module _ (code : Code) (slots : ℕ) (f : Function) (rs : List ℕ) where
  -- a path that leads to a cell names one
  pub leads_cell : (p : LockPath) (k : CellKind) (c : ℕ) → LeadsTo code slots f rs p k c → names_cell p ≡ true
  leads_cell (Cell n) k c h = refl
  leads_cell (Formal i n) k c h = let near = h.1 in small n (omega arith)
    where
      small : (m : ℕ) → m < 65536 → nat_le m 65535 ≡ true
      small m lt = grind (arith, lt)

  -- two paths that can't be one lock don't lead to one cell
  pub apart : (p q : LockPath) (k : CellKind) (c : ℕ) → may_be p q ≡ false → LeadsTo code slots f rs p k c → LeadsTo code slots f rs q k c → ⊥
  apart (Cell a) (Cell b) kind c h k l = let x = k.1 in let y = l.1 in let e : a ≡ b = omega arith in true≢false (sym (eq-eqb a b e) ∙ h)
  apart (Cell a) (Formal j n) kind c h k l = cc
  apart (Formal i m) (Cell b) kind c h k l = cc
  apart (Formal i m) (Formal j n) kind c h k l = by (i == j) (m == n) refl refl h
    where
      by : (x y : Bool) → (i == j) ≡ x → (m == n) ≡ y → (not x || y) ≡ false → ⊥
      by true true e g i = cc
      by false y e g i = cc
      by true false e g z =
          let same : i ≡ j = eqb-true i j e in
          let first : c ≡ base_of (register rs j) + offset_of (register rs j) + m = subst (λ w. c ≡ base_of (register rs w) + offset_of (register rs w) + m) same k.3 in
          let second = l.3 in
          let equal : m ≡ n = omega arith in
          true≢false (sym (eq-eqb m n equal) ∙ g)

  -- ---- less that is known, and more that is held

  spares_below : (a b : Minus) (k : CellKind) (c : ℕ) → MinusBelow a b → Spares code slots f rs a k c → Spares code slots f rs b k c
  spares_below All b k c h s = absurd s
  spares_below (Listed ps) All k c h s = absurd h
  spares_below (Listed ps) (Listed qs) k c h s = λ q i l. s q (h q i) l

  pub mean_below : (k l : RelLocks) (before now : Holds) → Below k l → Mean code slots f rs l before now → Mean code slots f rs k before now
  mean_below k l before now b m = record { plus = λ p h. m.plus p (b.plus p h); kept = λ mode kind c h s. m.kept mode kind c h (spares_below k.minus l.minus kind c b.minus s) }

  pub mean_more : (l : RelLocks) (before now later : Holds) → ((m : Mode) (k : CellKind) (c : ℕ) → now m k c ≡ true → later m k c ≡ true) → Mean code slots f rs l before now → Mean code slots f rs l before later
  mean_more l before now later more m = record { plus = λ p h. (let r = m.plus p h in (r.0, r.1, r.2, more p.mode r.0 r.1 r.3)); kept = λ mode kind c h s. more mode kind c (m.kept mode kind c h s) }

  -- at the entry
  pub mean_nothing : (now : Holds) → Mean code slots f rs nothing now now
  mean_nothing now = record { plus = λ p h. absurd (true≢false (sym h)); kept = λ mode kind c h s. h }

  -- ---- a lock is taken, or given back

  -- what is held where one more lock is taken
  abbrev PlusOf : List Held → Holds → Type 0
  PlusOf hs now = (h : Held) → has_held h hs ≡ true → (k : CellKind) × (c : ℕ) × LeadsTo code slots f rs h.path k c × (now h.mode k c ≡ true)

  with_one : (m : Mode) (q : LockPath) (hs : List Held) (later : Holds) (k : CellKind) (c : ℕ) → LeadsTo code slots f rs q k c → later m k c ≡ true → PlusOf hs later → PlusOf (with_held (held_as m q) hs) later
  with_one m q hs later k c is held plus h e =
      ⊎_elim
      (λ (g : h ≡ held_as m q). (k, c, subst (λ (z : Held). LeadsTo code slots f rs z.path k c) (sym g) is, subst (λ (z : Held). later z.mode k c ≡ true) (sym g) held))
      (λ (g : has_held h hs ≡ true). plus h g)
      (with_held_cases h (held_as m q) hs e)

  plus_taken : (m : Mode) (q : LockPath) (hs : List Held) (later : Holds) (k : CellKind) (c : ℕ) → LeadsTo code slots f rs q k c → ((n : Mode) → covers m n ≡ true → later n k c ≡ true) → PlusOf hs later → PlusOf (taken m q hs) later
  plus_taken Read q hs later k c is held plus = with_one Read q hs later k c is (held Read refl) plus
  plus_taken Write q hs later k c is held plus = with_one Write q (with_held (held_as Read q) hs) later k c is (held Write refl) (with_one Read q hs later k c is (held Read refl) plus)

  pub mean_locked : (mode : Mode) (o : Naming) (l : RelLocks) (before now later : Holds) (k : CellKind) (c : ℕ) → ((q : LockPath) → o ≡ Named q → LeadsTo code slots f rs q k c) → ((n : Mode) → covers mode n ≡ true → later n k c ≡ true) → ((m : Mode) (i : CellKind) (x : ℕ) → now m i x ≡ true → later m i x ≡ true) → Mean code slots f rs l before now → Mean code slots f rs (locked mode o l) before later
  mean_locked mode Unknown l before now later k c is held more m = mean_more l before now later more m
  mean_locked mode Nowhere l before now later k c is held more m = mean_more l before now later more m
  mean_locked mode (Named q) l before now later k c is held more m = record {
    plus = plus_taken mode q l.plus later k c (is q refl) held (mean_more l before now later more m).plus;
    kept = λ n i x h s. more n i x (m.kept n i x h s);
  }

  pub spares_both : (a b : Minus) (k : CellKind) (c : ℕ) → Spares code slots f rs (both a b) k c → Spares code slots f rs a k c × Spares code slots f rs b k c
  spares_both All b k c s = absurd s
  spares_both (Listed ps) All k c s = absurd s
  spares_both (Listed ps) (Listed qs) k c s =
      (λ q i. s q (has-union q ps qs ∙ or_left (has q ps) (has q qs) i), λ q i. s q (has-union q ps qs ∙ or_right (has q ps) (has q qs) i))

  pub mean_unlocked : (o : Naming) (l : RelLocks) (before now later : Holds) (k : CellKind) (c : ℕ) → ((q : LockPath) → o ≡ Named q → LeadsTo code slots f rs q k c) → (o ≡ Nowhere → ⊥) → ((m : Mode) (i : CellKind) (x : ℕ) → ((i ≡ k) × (x ≡ c) → ⊥) → now m i x ≡ true → later m i x ≡ true) → Mean code slots f rs l before now → Mean code slots f rs (unlocked o l) before later
  mean_unlocked Unknown l before now later k c is there others m = record { plus = λ p h. absurd (true≢false (sym h)); kept = λ n i x h s. absurd s }
  mean_unlocked Nowhere l before now later k c is there others m = absurd (there refl)
  mean_unlocked (Named q) l before now later k c is there others m = record { plus = plus; kept = kept }
    where
      self : has q (q ∷ []) ≡ true
      self = or_left (is_same q q) false (path_self q)

      moved : (p : LockPath) (i : CellKind) (x : ℕ) → LeadsTo code slots f rs p i x → (i ≡ k) × (x ≡ c) → LeadsTo code slots f rs p k c
      moved p i x h e = subst (LeadsTo code slots f rs p k) e.1 (subst (λ z. LeadsTo code slots f rs p z x) e.0 h)

      plus : (h : Held) → has_held h (without (Listed (q ∷ [])) l.plus) ≡ true → (i : CellKind) × (x : ℕ) × LeadsTo code slots f rs h.path i x × (later h.mode i x ≡ true)
      plus h e =
          let a = held_sets.has_filter (λ z. is_clear (q ∷ []) z.path) h l.plus e in
          let r = m.plus h a.0 in
          (r.0, r.1, r.2, others h.mode r.0 r.1 (λ g. apart h.path q k c (clear_of (q ∷ []) h.path q a.1 self) (moved h.path r.0 r.1 r.2 g) (is q refl)) r.3)

      kept : (n : Mode) (i : CellKind) (x : ℕ) → before n i x ≡ true → Spares code slots f rs (both l.minus (Listed (q ∷ []))) i x → later n i x ≡ true
      kept n i x h s =
          let a = spares_both l.minus (Listed (q ∷ [])) i x s in
          others n i x (λ g. a.1 q self (back g)) (m.kept n i x h a.0)
        where
          back : (i ≡ k) × (x ≡ c) → LeadsTo code slots f rs q i x
          back g = subst (LeadsTo code slots f rs q i) (sym g.1) (subst (λ z. LeadsTo code slots f rs q z c) (sym g.0) (is q refl))

-- ---- registers that hold the same in all fixed formals

module _ (code : Code) (slots : ℕ) (f : Function) (rs qs : List ℕ) (same : (i : ℕ) → is_fixed f i ≡ true → register qs i ≡ register rs i) where
  leads_kept : (p : LockPath) (k : CellKind) (c : ℕ) → LeadsTo code slots f rs p k c → LeadsTo code slots f qs p k c
  leads_kept (Cell n) k c h = h
  leads_kept (Formal i n) k c h =
      let e = sym (same i h.0) in (
        h.0,
        subst (λ w. offset_of w + n < length_of w) e h.1,
        subst (λ w. kind_in (site_at code.sites (site_of w)) (offset_of w + n) ≡ Some k) e h.2,
        subst (λ w. c ≡ base_of w + offset_of w + n) e h.3,
      )

  spares_kept : (m : Minus) (k : CellKind) (c : ℕ) → Spares code slots f qs m k c → Spares code slots f rs m k c
  spares_kept All k c s = s
  spares_kept (Listed ps) k c s = λ q i l. s q i (leads_kept q k c l)

  pub mean_kept : (l : RelLocks) (before now : Holds) → Mean code slots f rs l before now → Mean code slots f qs l before now
  mean_kept l before now m = record { plus = λ h e. (let r = m.plus h e in (r.0, r.1, leads_kept h.path r.0 r.1 r.2, r.3)); kept = λ n k c h s. m.kept n k c h (spares_kept l.minus k c s) }
