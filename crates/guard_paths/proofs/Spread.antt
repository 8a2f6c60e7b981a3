-- How the accesses of a function that may race lie, by their grains.
use Rattle.std.proofs.Common.{◌≡◌, ℕ, zero, suc, ◌+◌, ◌-◌, ◌<◌, ◌≤◌, ◌&&◌, ◌||◌, Bool, true, false, List, [], ◌∷◌, ◌++◌, refl, sym, ap, ◌∙◌, subst, arith, Option, Some, None, ⊎_elim, filter, option_map}
use Rattle.std.specs.Prelude.{slice_get, if◌then◌else◌, nat_lt, ◌==◌, is_none}
use Rattle.std.specs.List.{list_any, filter_map, cons_option}
use Rattle.std.proofs.lemmas.Bool.{cases_lt}
use Rattle.std.proofs.lemmas.Bool.Decides.{nat_tests}
use Rattle.std.proofs.lemmas.Option.{same_Some}
use Rattle.rr_base.specs.declared.layout.Place.{Place}
use Rattle.flow_code.specs.declared.act.Act.{Act}
use Rattle.flow_code.specs.declared.act.Act.TheVariants as act
use Rattle.flow_code.specs.declared.act.Instr.{Instr}
use Rattle.flow_code.specs.declared.code.Code.{Code}
use Rattle.flow_code.specs.Next.{act_in}
use Rattle.flow_code.specs.Order.{is_end, is_mark}
use Rattle.flow_code.specs.Threads.{object_of}
use Rattle.facts.specs.declared.pair.AccessAt.{AccessAt}
use Rattle.facts.specs.declared.pair.Pair.{Pair}
use Rattle.profiles.specs.declared.profile.Profile.{Profile}
use Rattle.facts.specs.Accesses.{Access}
use Rattle.facts.specs.Blocks.{ends_block, is_target, may_end_block, follows_end, begins_block}
use Rattle.facts.specs.Pairs.{access_in, access_less, act_of}
use Rattle.facts.specs.PointsTo.{Tables}
use Rattle.weak_lock_facts.specs.declared.grain.Grain.TheVariants as grain
use Rattle.weak_lock_facts.specs.declared.grain.Grained.{Grained}
use Rattle.weak_lock_facts.specs.declared.range.Range.{Range}
use Rattle.weak_lock_facts.specs.Grains.{stands_in, is_racy, is_seen, is_met, loop_of, block_at, is_load_or_store, is_narrow, those_below, all_beside, together, loop_grain, narrow_grain, grain_of, rows_ascend}
use Rattle.weak_lock_facts.specs.Loops.{nth}
use Rattle.weak_code.specs.declared.stretch.RacyAccess.{RacyAccess}
use Rattle.weak_code.specs.Stretches.{racy_through, racy_access, racy_accesses}
use Rattle.weak_valid.proofs.Tests.{both, two}
use Rattle.weak_valid.proofs.Accesses.{Each, each_filter_map, filtered}
use Rattle.guard_paths.proofs.Nested.{IsStraight}
use Rattle.weak_valid.proofs.RegionsFit.{past_objects}

-- ---- rows in order

less_both : (a b c : AccessAt) → access_less a b ≡ true → access_less b c ≡ true → access_less a c ≡ true
less_both a b c h k = go (nat_lt a.function b.function) (nat_lt b.function c.function) refl refl h k
  where
    first : nat_lt a.function c.function ≡ true → access_less a c ≡ true
    first e = ap (λ x. x || ((a.function == c.function) && nat_lt a.instr c.instr)) e

    second : (a.function == c.function) ≡ true → nat_lt a.instr c.instr ≡ true → access_less a c ≡ true
    second e f = later (nat_lt a.function c.function) ((a.function == c.function) && nat_lt a.instr c.instr) (two (a.function == c.function) (nat_lt a.instr c.instr) e f)
      where
        later : (p q : Bool) → q ≡ true → (p || q) ≡ true
        later true q e = refl
        later false q e = e

    go : (x y : Bool) → nat_lt a.function b.function ≡ x → nat_lt b.function c.function ≡ y → (x || ((a.function == b.function) && nat_lt a.instr b.instr)) ≡ true → (y || ((b.function == c.function) && nat_lt b.instr c.instr)) ≡ true → access_less a c ≡ true
    go true true p q h k = let x : a.function < b.function = grind (arith, nat_tests, p) in let y : b.function < c.function = grind (arith, nat_tests, q) in first (lt a.function c.function (omega (arith, x, y)))
      where
        lt : (m n : ℕ) → m < n → nat_lt m n ≡ true
        lt m n l = grind (arith, nat_tests, l)
    go true false p q h k = let z = both (b.function == c.function) (nat_lt b.instr c.instr) k in let x : a.function < b.function = grind (arith, nat_tests, p) in let y : b.function ≡ c.function = grind (arith, nat_tests, z.0) in first (lt a.function c.function (omega (arith, x, y)))
      where
        lt : (m n : ℕ) → m < n → nat_lt m n ≡ true
        lt m n l = grind (arith, nat_tests, l)
    go false true p q h k = let z = both (a.function == b.function) (nat_lt a.instr b.instr) h in let x : a.function ≡ b.function = grind (arith, nat_tests, z.0) in let y : b.function < c.function = grind (arith, nat_tests, q) in first (lt a.function c.function (omega (arith, x, y)))
      where
        lt : (m n : ℕ) → m < n → nat_lt m n ≡ true
        lt m n l = grind (arith, nat_tests, l)
    go false false p q h k =
        let z = both (a.function == b.function) (nat_lt a.instr b.instr) h in
        let w = both (b.function == c.function) (nat_lt b.instr c.instr) k in
        let x : a.function ≡ b.function = grind (arith, nat_tests, z.0) in
        let y : b.function ≡ c.function = grind (arith, nat_tests, w.0) in
        let u : a.instr < b.instr = grind (arith, nat_tests, z.1) in
        let v : b.instr < c.instr = grind (arith, nat_tests, w.1) in
        second (same a.function c.function (x ∙ y)) (lt a.instr c.instr (omega (arith, u, v)))
      where
        lt : (m n : ℕ) → m < n → nat_lt m n ≡ true
        lt m n l = grind (arith, nat_tests, l)

        same : (m n : ℕ) → m ≡ n → (m == n) ≡ true
        same m n e = grind (arith, nat_tests, e)

later_row : (x : Grained) (rows : List Grained) (k : ℕ) (y : Grained) → rows_ascend (x ∷ rows) ≡ true → slice_get rows k ≡ Some y → access_less x.access y.access ≡ true
later_row x [] k y h g = cc
later_row x (z ∷ rows) zero y h g = subst (λ (w : Grained). access_less x.access w.access ≡ true) (same_Some z y g) (both (access_less x.access z.access) (rows_ascend (z ∷ rows)) h).0
later_row x (z ∷ rows) (suc k) y h g =
    let b = both (access_less x.access z.access) (rows_ascend (z ∷ rows)) h in
    less_both x.access z.access y.access b.0 (later_row z rows k y b.1 g)

rest_rows : (x : Grained) (rows : List Grained) → rows_ascend (x ∷ rows) ≡ true → rows_ascend rows ≡ true
rest_rows x [] h = refl
rest_rows x (y ∷ rows) h = (both (access_less x.access y.access) (rows_ascend (y ∷ rows)) h).1

less_instr : (a b : AccessAt) (f : ℕ) → a.function ≡ f → b.function ≡ f → access_less a b ≡ true → a.instr < b.instr
less_instr a b f p q h = go (nat_lt a.function b.function) refl h
  where
    go : (x : Bool) → nat_lt a.function b.function ≡ x → (x || ((a.function == b.function) && nat_lt a.instr b.instr)) ≡ true → a.instr < b.instr
    go true e h = let l : a.function < b.function = grind (arith, nat_tests, e) in absurd (omega (arith, l, p, q))
    go false e h = let z = (both (a.function == b.function) (nat_lt a.instr b.instr) h).1 in grind (arith, nat_tests, z)

-- ---- an access and its row

pub record HasRow (code : Code) (t : Tables) (locked : List Place) (rs : List Range) (rows : List Grained) (f : ℕ) (a : RacyAccess) : Type 0 where
  pub j : ℕ
  pub row : Grained
  pub access : Access
  pub at : slice_get rows j ≡ Some row
  pub of : row.access.function ≡ f
  pub does : access_in (act_of code row.access) ≡ Some access
  pub is : a ≡ racy_through code t locked rs row access

racy_is : (code : Code) (t : Tables) (locked : List Place) (rs : List Range) (g : Grained) (a : RacyAccess) → racy_access code t locked rs g ≡ Some a → (x : Access) × (access_in (act_of code g.access) ≡ Some x) × (a ≡ racy_through code t locked rs g x)
racy_is code t locked rs g a h = go (access_in (act_of code g.access)) refl h
  where
    go : (o : Option Access) → access_in (act_of code g.access) ≡ o → option_map (racy_through code t locked rs g) o ≡ Some a → (x : Access) × (access_in (act_of code g.access) ≡ Some x) × (a ≡ racy_through code t locked rs g x)
    go None e h = cc
    go (Some x) e h = (x, e, sym (same_Some (racy_through code t locked rs g x) a h))

-- instructions that ascend
abbrev pub InstrsAscend : List RacyAccess → Type 0
InstrsAscend [] = Unit {0}
InstrsAscend (a ∷ more) = Each (λ b. a.instr < b.instr) more × InstrsAscend more

module _ (code : Code) (t : Tables) (locked : List Place) (rs : List Range) (f : ℕ) where
  abbrev Of : List Grained → List RacyAccess
  Of rows = filter_map (racy_access code t locked rs) (filter (λ g. g.access.function == f) rows)

  ascend_from : (rows : List Grained) → rows_ascend rows ≡ true → InstrsAscend (Of rows)
  ascend_from [] h = tt
  ascend_from (x ∷ rows) h = go (x.access.function == f) refl (ascend_from rows (rest_rows x rows h))
    where
      above : (x.access.function == f) ≡ true → (a : RacyAccess) → racy_access code t locked rs x ≡ Some a → Each (λ b. a.instr < b.instr) (Of rows)
      above e a r = each_filter_map (λ b. a.instr < b.instr) (racy_access code t locked rs) (filter (λ g. g.access.function == f) rows) (λ k y b s q.
          let u = filtered (λ g. g.access.function == f) rows k y s in
          let p : x.access.function ≡ f = grind (arith, nat_tests, e) in
          let v : y.access.function ≡ f = grind (arith, nat_tests, u.2) in
          let l = less_instr x.access y.access f p v (later_row x rows u.0 y h u.1) in
          let m : a.instr ≡ x.access.instr = ap (λ (z : RacyAccess). z.instr) (racy_is code t locked rs x a r).2 in
          let n : b.instr ≡ y.access.instr = ap (λ (z : RacyAccess). z.instr) (racy_is code t locked rs y b q).2 in
          omega (arith, l, m, n))

      one : (o : Option RacyAccess) → racy_access code t locked rs x ≡ o → (x.access.function == f) ≡ true → InstrsAscend (Of rows) → InstrsAscend (cons_option o (Of rows))
      one None r e i = i
      one (Some a) r e i = (above e a r, i)

      go : (b : Bool) → (x.access.function == f) ≡ b → InstrsAscend (Of rows) → InstrsAscend (filter_map (racy_access code t locked rs) (if b then x ∷ filter (λ g. g.access.function == f) rows else filter (λ g. g.access.function == f) rows))
      go true e i = one (racy_access code t locked rs x) refl e i
      go false e i = i

pub instrs_ascend : (code : Code) (t : Tables) (locked : List Place) (rs : List Range) (rows : List Grained) (f : ℕ) → rows_ascend rows ≡ true → InstrsAscend (racy_accesses code t locked rs rows f)
instrs_ascend code t locked rs rows f h = ascend_from code t locked rs f rows h

pub have_rows : (code : Code) (t : Tables) (locked : List Place) (rs : List Range) (rows : List Grained) (f : ℕ) → Each (HasRow code t locked rs rows f) (racy_accesses code t locked rs rows f)
have_rows code t locked rs rows f = each_filter_map (HasRow code t locked rs rows f) (racy_access code t locked rs) (filter (λ g. g.access.function == f) rows) (λ k g a s h.
    let u = filtered (λ g. g.access.function == f) rows k g s in
    let r = racy_is code t locked rs g a h in
    record { j = u.0; row = g; access = r.0; at = u.1; of = grind (arith, nat_tests, u.2); does = r.1; is = r.2 })

-- ---- the first of some numbers

pub first_below : (test : ℕ → Bool) (m n : ℕ) → slice_get (those_below test m) 0 ≡ Some n → (test n ≡ true) × (n < m) × ((k : ℕ) → k < m → test k ≡ true → n ≤ k)
first_below test zero n h = cc
first_below test (suc m) n h = go (test m) refl h (λ g. first_below test m n g)
  where
    none : (i : ℕ) → those_below test i ≡ [] → (k : ℕ) → k < i → test k ≡ true → ⊥
    none zero e k lt t = absurd (omega (arith, lt))
    none (suc i) e k lt t = some (test i) refl e (λ q. none i q k)
      where
        some : (b : Bool) → test i ≡ b → (if b then those_below test i ++ i ∷ [] else those_below test i) ≡ [] → (those_below test i ≡ [] → k < i → test k ≡ true → ⊥) → ⊥
        some true e q rec = ends (those_below test i) q
          where
            ends : (xs : List ℕ) → xs ++ i ∷ [] ≡ [] → ⊥
            ends [] q = cc
            ends (x ∷ xs) q = cc
        some false e q rec = ⊎_elim (λ (l : k < i). rec q l t) (λ ge. let z : k ≡ i = omega (arith, ge, lt) in let w = sym (ap test z) ∙ t in let u = sym e ∙ w in cc) (cases_lt k i)

    here : (xs : List ℕ) → those_below test m ≡ xs → test m ≡ true → slice_get (xs ++ m ∷ []) 0 ≡ Some n → (slice_get (those_below test m) 0 ≡ Some n → (test n ≡ true) × (n < m) × ((k : ℕ) → k < m → test k ≡ true → n ≤ k)) → (test n ≡ true) × (n < suc m) × ((k : ℕ) → k < suc m → test k ≡ true → n ≤ k)
    here [] e t g rec =
        let z : m ≡ n = same_Some m n g in
        (ap test (sym z) ∙ t, omega (arith, z), (λ k lt u. ⊎_elim (λ (l : k < m). absurd (none m e k l u)) (λ ge. omega (arith, z, ge)) (cases_lt k m)))
    here (x ∷ xs) e t g rec =
        let r = rec (ap (λ (z : List ℕ). slice_get z 0) e ∙ g) in
        (r.0, omega (arith, r.1), (λ k lt u. ⊎_elim (λ (l : k < m). r.2 k l u) (λ ge. omega (arith, r.1, ge)) (cases_lt k m)))

    go : (b : Bool) → test m ≡ b → slice_get (if b then those_below test m ++ m ∷ [] else those_below test m) 0 ≡ Some n → (slice_get (those_below test m) 0 ≡ Some n → (test n ≡ true) × (n < m) × ((k : ℕ) → k < m → test k ≡ true → n ≤ k)) → (test n ≡ true) × (n < suc m) × ((k : ℕ) → k < suc m → test k ≡ true → n ≤ k)
    go true e g rec = here (those_below test m) refl e g rec
    go false e g rec =
        let r = rec g in
        (r.0, omega (arith, r.1), (λ k lt u. ⊎_elim (λ (l : k < m). r.2 k l u) (λ ge. omega (arith, r.1, ge)) (cases_lt k m)))

pub together_first : (ks : List ℕ) (n : ℕ) → together ks ≡ grain.Block n → slice_get ks 0 ≡ Some n
together_first [] n h = cc
together_first (k ∷ []) n h = cc
together_first (j ∷ k ∷ ks) n h = let e : j ≡ n = cc in ap Some e

-- ---- grains of blocks

-- the access is met, has no range, and loads or stores a cell
pub record IsNarrow (code : Code) (ps : List Pair) (rs : List Range) (profile : Profile) (a : AccessAt) : Type 0 where
  pub met : is_met code ps profile a ≡ true
  pub free : loop_of rs a ≡ None
  pub cell : is_load_or_store (act_of code a) ≡ true

pub narrow_parts : (code : Code) (ps : List Pair) (rs : List Range) (profile : Profile) (a : AccessAt) → is_narrow code ps rs profile a ≡ true → IsNarrow code ps rs profile a
narrow_parts code ps rs profile a h =
    let b = both (is_met code ps profile a) (is_none (loop_of rs a) && is_load_or_store (act_of code a)) h in
    let c = both (is_none (loop_of rs a)) (is_load_or_store (act_of code a)) b.1 in
    record { met = b.0; free = none (loop_of rs a) c.0; cell = c.1 }
  where
    none : {X : Type 0} (o : Option X) → is_none o ≡ true → o ≡ None
    none None e = refl
    none (Some x) e = cc

pub narrow_whole : (code : Code) (ps : List Pair) (rs : List Range) (profile : Profile) (a : AccessAt) → IsNarrow code ps rs profile a → is_narrow code ps rs profile a ≡ true
narrow_whole code ps rs profile a n = two (is_met code ps profile a) (is_none (loop_of rs a) && is_load_or_store (act_of code a)) n.met (two (is_none (loop_of rs a)) (is_load_or_store (act_of code a)) (ap is_none n.free) n.cell)

-- what a block's grain tells
pub block_grain : (code : Code) (ps : List Pair) (rs : List Range) (profile : Profile) (a : AccessAt) (n : ℕ) → grain_of code ps rs profile a ≡ grain.Block n → IsNarrow code ps rs profile a × (together (all_beside code ps rs profile a) ≡ grain.Block n)
block_grain code ps rs profile a n h = met (is_met code ps profile a) refl h
  where
    cell : (b : Bool) → is_met code ps profile a ≡ true → loop_of rs a ≡ None → is_load_or_store (act_of code a) ≡ b → (if b then together (all_beside code ps rs profile a) else grain.Instruction) ≡ grain.Block n → IsNarrow code ps rs profile a × (together (all_beside code ps rs profile a) ≡ grain.Block n)
    cell true m o e h = (record { met = m; free = o; cell = e }, h)
    cell false m o e h = cc

    loop : (o : Option ℕ) → is_met code ps profile a ≡ true → loop_of rs a ≡ o → loop_grain o (narrow_grain code ps rs profile a) ≡ grain.Block n → IsNarrow code ps rs profile a × (together (all_beside code ps rs profile a) ≡ grain.Block n)
    loop None m e h = cell (is_load_or_store (act_of code a)) m e refl h
    loop (Some k) m e h = cc

    met : (b : Bool) → is_met code ps profile a ≡ b → (if b then loop_grain (loop_of rs a) (narrow_grain code ps rs profile a) else grain.Function) ≡ grain.Block n → IsNarrow code ps rs profile a × (together (all_beside code ps rs profile a) ≡ grain.Block n)
    met true e h = loop (loop_of rs a) e refl h
    met false e h = cc

pub narrow_is : (code : Code) (ps : List Pair) (rs : List Range) (profile : Profile) (a : AccessAt) → IsNarrow code ps rs profile a → grain_of code ps rs profile a ≡ together (all_beside code ps rs profile a)
narrow_is code ps rs profile a n =
    ap (λ b. if b then loop_grain (loop_of rs a) (narrow_grain code ps rs profile a) else grain.Function) n.met
    ∙ ap (λ o. loop_grain o (narrow_grain code ps rs profile a)) n.free
    ∙ ap (λ b. if b then together (all_beside code ps rs profile a) else grain.Instruction) n.cell

pub met_racy : (code : Code) (ps : List Pair) (profile : Profile) (a : AccessAt) → is_met code ps profile a ≡ true → is_racy ps a ≡ true
met_racy code [] profile a h = cc
met_racy code (p ∷ ps) profile a h = go (is_seen code profile p) h (λ e. met_racy code ps profile a e)
  where
    later : (x y : Bool) → y ≡ true → (x || y) ≡ true
    later true y e = refl
    later false y e = e

    go : (b : Bool) → list_any (λ q. stands_in a q) (if b then p ∷ filter (λ q. is_seen code profile q) ps else filter (λ q. is_seen code profile q) ps) ≡ true → (list_any (λ q. stands_in a q) (filter (λ q. is_seen code profile q) ps) ≡ true → list_any (λ q. stands_in a q) ps ≡ true) → (stands_in a p || list_any (λ q. stands_in a q) ps) ≡ true
    go true h rec = first (stands_in a p) h
      where
        first : (b : Bool) → (b || list_any (λ q. stands_in a q) (filter (λ q. is_seen code profile q) ps)) ≡ true → (b || list_any (λ q. stands_in a q) ps) ≡ true
        first true h = refl
        first false h = rec h
    go false h rec = later (stands_in a p) (list_any (λ q. stands_in a q) ps) (rec h)

-- ---- blocks

pub block_low : (is : List Instr) (k : ℕ) → block_at is k ≤ k
block_low is zero = omega arith
block_low is (suc k) = go (begins_block is (suc k)) (block_low is k)
  where
    go : (b : Bool) → block_at is k ≤ k → (if b then suc k else block_at is k) ≤ suc k
    go true le = omega arith
    go false le = omega arith

block_next : (is : List Instr) (k : ℕ) → block_at is k ≤ block_at is (suc k)
block_next is k = go (begins_block is (suc k)) (block_low is k)
  where
    go : (b : Bool) → block_at is k ≤ k → block_at is k ≤ (if b then suc k else block_at is k)
    go true le = omega arith
    go false le = omega arith

block_mono : (is : List Instr) (k d : ℕ) → block_at is k ≤ block_at is (k + d)
block_mono is k zero = let e : k + 0 ≡ k = omega arith in omega (arith, ap (block_at is) e)
block_mono is k (suc d) = let e : k + suc d ≡ suc (k + d) = omega arith in omega (arith, ap (block_at is) e, block_mono is k d, block_next is (k + d))

begun : (is : List Instr) (k : ℕ) → begins_block is k ≡ true → block_at is k ≡ k
begun is zero h = refl
begun is (suc k) h = ap (λ b. if b then suc k else block_at is k) h

-- no block begins after the first of two instructions of one block, and not after the second
one_block : (is : List Instr) (first last k : ℕ) → block_at is first ≡ block_at is last → first < k → k ≤ last → begins_block is k ≡ true → ⊥
one_block is first last k e lt le h =
    let z : k + (last - k) ≡ last = omega (arith, le) in
    omega (arith, block_low is first, e, block_mono is k (last - k), ap (block_at is) z, begun is k h, lt)

false_or : (p q : Bool) → ((p || q) ≡ true → ⊥) → (p ≡ false) × (q ≡ false)
false_or true q h = absurd (h refl)
false_or false true h = absurd (h refl)
false_or false false h = (refl, refl)

cell_act : (o : Option Instr) → is_load_or_store (act_in o) ≡ true → (i : Instr) × (o ≡ Some i) × (object_of i.act ≡ None) × (is_mark (Some i.act) ≡ false) × (is_end (Some i.act) ≡ false)
cell_act None h = cc
cell_act (Some i) h = (i, refl, object i.act h, mark i.act h, end i.act h)
  where
    object : (a : Act) → is_load_or_store (Some a) ≡ true → object_of a ≡ None
    object (act.Alloc into site size) h = cc
    object _ h = refl

    mark : (a : Act) → is_load_or_store (Some a) ≡ true → is_mark (Some a) ≡ false
    mark act.Mark h = cc
    mark _ h = refl

    end : (a : Act) → is_load_or_store (Some a) ≡ true → is_end (Some a) ≡ false
    end (act.LoadCell into through) h = refl
    end (act.StoreCell through from) h = refl
    end _ h = cc

pub straight : (is : List Instr) (first last : ℕ) → first ≤ last → block_at is first ≡ block_at is last → is_load_or_store (nth is first) ≡ true → is_load_or_store (nth is last) ≡ true → IsStraight is first last
straight is first last le e p q =
    let a = cell_act (slice_get is first) p in
    let b = cell_act (slice_get is last) q in
    record {
      long = le;
      following = past_objects is first a.0 a.1 a.2;
      inner = inner;
      apart = λ k lt to. (false_or (follows_end is k) (is_target is k) (λ h. one_block is first last k e lt to h)).1;
      head = ap (λ o. is_mark (act_in o)) a.1 ∙ a.3;
      tail = λ i at. ap (λ o. is_end (act_in o)) (sym at) ∙ ap (λ o. is_end (act_in o)) b.1 ∙ b.4;
    }
  where
    inner : (k : ℕ) (i : Instr) → first ≤ k → k < last → slice_get is k ≡ Some i → ends_block i.act ≡ false
    inner k i ge lt at = ap (λ o. may_end_block (act_in o)) (sym at) ∙ (false_or (may_end_block (act_in (slice_get is k))) (is_target is (suc k)) (λ h. one_block is first last (suc k) e (omega (arith, ge)) lt h)).0
