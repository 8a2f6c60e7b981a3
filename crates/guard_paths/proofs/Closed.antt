-- Each region of a weakened function is entered at its front and left at its end.
use Rattle.std.proofs.Common.{◌≡◌, ℕ, ◌+◌, ◌-◌, ◌<◌, ◌≤◌, ◌&&◌, Bool, true, false, List, [], ◌∷◌, ◌++◌, length, map, refl, sym, ap, ◌∙◌, subst, arith, Option, Some, None}
use Rattle.std.specs.Prelude.{slice_get, if◌then◌else◌, ◌==◌}
use Rattle.std.specs.List.{list_all, filter_map, Contains}
use Rattle.std.proofs.lemmas.Bool.Decides.{nat_tests}
use Rattle.std.proofs.lemmas.Option.{same_Some, slice_get_within, get_or_from_slice_get, slice_get-get_or}
use Rattle.rr_base.specs.declared.layout.Place.{Place}
use Rattle.flow_code.specs.declared.act.Act.{Act}
use Rattle.flow_code.specs.declared.act.Act.TheVariants as act
use Rattle.flow_code.specs.declared.act.Instr.{Instr}
use Rattle.flow_code.specs.declared.code.Code.{Code}
use Rattle.flow_code.specs.declared.code.Function.{Function}
use Rattle.flow_code.specs.declared.code.LoopInfo.{LoopInfo}
use Rattle.flow_code.specs.declared.region.Region.TheVariants as region
use Rattle.flow_code.specs.declared.region.Span.{Span}
use Rattle.flow_code.specs.Next.{act_in}
use Rattle.flow_code.specs.Order.{is_end, is_mark}
use Rattle.flow_code.specs.Threads.{object_of, objects_of, instrs_in}
use Rattle.facts.specs.declared.pair.AccessAt.{AccessAt}
use Rattle.facts.specs.declared.pair.Pair.{Pair}
use Rattle.profiles.specs.declared.profile.Profile.{Profile}
use Rattle.facts.specs.Accesses.{Access, access_of}
use Rattle.facts.specs.Pairs.{act_of}
use Rattle.facts.specs.PointsTo.{Tables}
use Rattle.weak_lock_facts.specs.declared.grain.Grain.{Grain}
use Rattle.weak_lock_facts.specs.declared.grain.Grain.TheVariants as grain
use Rattle.weak_lock_facts.specs.declared.grain.Grained.{Grained}
use Rattle.weak_lock_facts.specs.declared.range.Range.{Range}
use Rattle.weak_lock_facts.specs.Grains.{block_at, is_load_or_store, is_narrow, those_below, instrs_of, is_beside, all_beside, together, grain_of, AreGrains}
use Rattle.weak_lock_facts.specs.Loops.{nth, is_counted}
use Rattle.weak_code.specs.declared.stretch.RacyAccess.{RacyAccess}
use Rattle.weak_code.specs.declared.stretch.Stretch.{Stretch}
use Rattle.weak_code.specs.Stretches.{racy_accesses, same_grain, with_grain, all_locks, last_of, function_stretch, span_of, spans_of, loop_stretch, loop_stretches, block_stretch, block_from, block_stretches, access_stretch, access_stretches, stretches_of}
use Rattle.guard_paths.specs.LoopsClosed.{loop_is_closed}
use Rattle.weak_valid.proofs.Tests.{both, two, all_at}
use Rattle.weak_valid.proofs.Accesses.{Each, each_append, each_filter, each_at, each_of, each_filter_map, IsFit, grain_is, grain_at}
use Rattle.guard_paths.proofs.Nested.{AreEdges, IsClosed, whole_closed, loop_closed, straight_closed}
use Rattle.weak_valid.proofs.RegionsFit.{counted_loop, past_objects}
use Rattle.guard_paths.proofs.Spread.{HasRow, IsNarrow, narrow_parts, narrow_whole, narrow_is, met_racy, block_grain, first_below, together_first, straight, have_rows}

-- ---- accesses of one block

-- the instruction stands in the block of the n-th, not before it, and both load or store a cell
pub record InBlock (is : List Instr) (n k : ℕ) : Type 0 where
  pub low : n ≤ k
  pub same : block_at is n ≡ block_at is k
  pub cell : is_load_or_store (nth is k) ≡ true
  pub head : is_load_or_store (nth is n) ≡ true

abbrev at_instr_of : AccessAt → ℕ → AccessAt
at_instr_of a k = record { function = a.function; instr = k }

module _ (code : Code) (t : Tables) (locked : List Place) (ps : List Pair) (rs : List Range) (profile : Profile) (rows : List Grained) (grains : AreGrains code ps rs profile rows) (f : ℕ) (fn : Function) (at : slice_get code.functions f ≡ Some fn) where
  abbrev Own : List RacyAccess
  Own = racy_accesses code t locked rs rows f

  act_is : (a : AccessAt) → a.function ≡ f → act_of code a ≡ nth fn.instrs a.instr
  act_is a e = ap (λ (o : Option Function). act_in (slice_get (instrs_in o) a.instr)) (ap (slice_get code.functions) e ∙ at)

  instrs_are : (a : AccessAt) → a.function ≡ f → instrs_of code a.function ≡ fn.instrs
  instrs_are a e = ap instrs_in (ap (slice_get code.functions) e ∙ at)

  -- what the first access of its block tells of one
  pub record IsOfBlock (a : AccessAt) (n : ℕ) : Type 0 where
    pub narrow : IsNarrow code ps rs profile a
    pub all : together (all_beside code ps rs profile a) ≡ grain.Block n
    pub beside : is_beside code ps rs profile a n ≡ true
    pub within : n < length (instrs_of code a.function)
    pub least : (k : ℕ) → k < length (instrs_of code a.function) → is_beside code ps rs profile a k ≡ true → n ≤ k

  of_block : (a : AccessAt) (n : ℕ) → grain_of code ps rs profile a ≡ grain.Block n → IsOfBlock a n
  of_block a n h =
      let b = block_grain code ps rs profile a n h in
      let c = first_below (λ k. is_beside code ps rs profile a k) (length (instrs_of code a.function)) n (together_first (all_beside code ps rs profile a) n b.1) in
      record { narrow = b.0; all = b.1; beside = c.0; within = c.1; least = c.2 }

  -- its own row
  pub row_grain : (a : RacyAccess) (h : HasRow code t locked rs rows f a) (x : Grain) → a.grain ≡ x → grain_of code ps rs profile h.row.access ≡ x
  row_grain a h x e = sym (grains.grains h.row (contained rows h.j h.row h.at)) ∙ ap (λ (z : RacyAccess). z.grain) (sym h.is) ∙ e
    where
      contained : {X : Type 0} (xs : List X) (k : ℕ) (x : X) → slice_get xs k ≡ Some x → Contains xs x
      contained xs k x h = (k, slice_get_within xs k x h, get_or_from_slice_get xs k x x h)

  row_instr : (a : RacyAccess) (h : HasRow code t locked rs rows f a) → a.instr ≡ h.row.access.instr
  row_instr a h = ap (λ (z : RacyAccess). z.instr) h.is

  pub in_block : (a : RacyAccess) → HasRow code t locked rs rows f a → (n : ℕ) → a.grain ≡ grain.Block n → InBlock fn.instrs n a.instr
  in_block a h n e =
      let o = of_block h.row.access n (row_grain a h (grain.Block n) e) in
      let b = both (is_narrow code ps rs profile (at_instr_of h.row.access n)) (block_at (instrs_of code h.row.access.function) n == block_at (instrs_of code h.row.access.function) h.row.access.instr) o.beside in
      let m = narrow_parts code ps rs profile (at_instr_of h.row.access n) b.0 in
      let s : block_at (instrs_of code h.row.access.function) n ≡ block_at (instrs_of code h.row.access.function) h.row.access.instr = grind (arith, nat_tests, b.1) in
      let i = instrs_are h.row.access h.of in
      let w : h.row.access.instr < length (instrs_of code h.row.access.function) = inside (act_is h.row.access h.of) (ap (λ (z : List Instr). length z) i) o.narrow.cell in
      let l = o.least h.row.access.instr w (two (is_narrow code ps rs profile h.row.access) (block_at (instrs_of code h.row.access.function) h.row.access.instr == block_at (instrs_of code h.row.access.function) h.row.access.instr) (narrow_whole code ps rs profile h.row.access o.narrow) (grind (arith, nat_tests))) in
      let r = row_instr a h in
      record {
        low = omega (arith, l, r);
        same = subst (λ (is : List Instr). block_at is n ≡ block_at is h.row.access.instr) i s ∙ ap (block_at fn.instrs) (sym r);
        cell = ap (λ k. is_load_or_store (nth fn.instrs k)) r ∙ ap is_load_or_store (sym (act_is h.row.access h.of)) ∙ o.narrow.cell;
        head = ap is_load_or_store (sym (act_is (at_instr_of h.row.access n) h.of)) ∙ m.cell;
      }
    where
      stands : (o : Option Instr) (k : ℕ) → slice_get fn.instrs k ≡ o → is_load_or_store (act_in o) ≡ true → k < length fn.instrs
      stands None k g c = cc
      stands (Some i) k g c = slice_get_within fn.instrs k i g

      inside : act_of code h.row.access ≡ nth fn.instrs h.row.access.instr → length (instrs_of code h.row.access.function) ≡ length fn.instrs → is_load_or_store (act_of code h.row.access) ≡ true → h.row.access.instr < length (instrs_of code h.row.access.function)
      inside e l c = let q = stands (slice_get fn.instrs h.row.access.instr) h.row.access.instr refl (ap is_load_or_store (sym e) ∙ c) in omega (arith, q, l)

  -- the first access of the block is guarded with the block too
  pub head_row : (a : RacyAccess) → HasRow code t locked rs rows f a → (n : ℕ) → a.grain ≡ grain.Block n → (j : ℕ) × (x : Grained) × (slice_get rows j ≡ Some x) × (x.access.function ≡ f) × (x.access.instr ≡ n) × (x.grain ≡ grain.Block n) × (is_load_or_store (act_of code x.access) ≡ true)
  head_row a h n e =
      let o = of_block h.row.access n (row_grain a h (grain.Block n) e) in
      let b = both (is_narrow code ps rs profile (at_instr_of h.row.access n)) (block_at (instrs_of code h.row.access.function) n == block_at (instrs_of code h.row.access.function) h.row.access.instr) o.beside in
      let m = narrow_parts code ps rs profile (at_instr_of h.row.access n) b.0 in
      let s : block_at (instrs_of code h.row.access.function) n ≡ block_at (instrs_of code h.row.access.function) h.row.access.instr = grind (arith, nat_tests, b.1) in
      let r = grains.all (at_instr_of h.row.access n) (met_racy code ps profile (at_instr_of h.row.access n) m.met) in
      let g : grain_of code ps rs profile (at_instr_of h.row.access n) ≡ grain.Block n = narrow_is code ps rs profile (at_instr_of h.row.access n) m ∙ ap (λ z. together (those_below (λ k. is_narrow code ps rs profile (at_instr_of h.row.access k) && (block_at (instrs_of code h.row.access.function) k == z)) (length (instrs_of code h.row.access.function)))) s ∙ o.all in
      (r.1.0, r.0, placed rows r.0 r.1, ap (λ (z : AccessAt). z.function) r.2 ∙ h.of, ap (λ (z : AccessAt). z.instr) r.2, grains.grains r.0 r.1 ∙ ap (grain_of code ps rs profile) r.2 ∙ g, ap (λ z. is_load_or_store (act_of code z)) r.2 ∙ m.cell)
    where
      placed : (xs : List Grained) (x : Grained) (c : Contains xs x) → slice_get xs c.0 ≡ Some x
      placed xs x c = slice_get-get_or xs c.0 x c.1 ∙ ap Some c.2

  -- ---- each region

  module _ (m : ℕ) (fit : Each (IsFit fn m) Own) (es : AreEdges fn.instrs) (closed : list_all (loop_is_closed fn.instrs) fn.loops ≡ true) where
    function_closed : (xs : List RacyAccess) → Each (IsClosed fn.instrs) (function_stretch fn xs)
    function_closed [] = tt
    function_closed (a ∷ more) = (whole_closed fn.instrs (record { first = length (objects_of fn.instrs); last = length fn.instrs - 1; region = region.Whole (all_locks (a ∷ more)) }) es refl (omega (arith, es.begins)), tt)

    loop_one : (k : ℕ) (l : LoopInfo) (spans : List Span) (s : Stretch) → slice_get fn.loops k ≡ Some l → ((x : Span) → slice_get spans 0 ≡ Some x → is_counted fn l ≡ true) → loop_stretch l spans ≡ Some s → IsClosed fn.instrs s
    loop_one k l [] s g c e = cc
    loop_one k l (x ∷ spans) s g c e =
        let b = counted_loop fn l (c x refl) in
        subst (IsClosed fn.instrs) (same_Some (record { first = l.at; last = l.last + 1; region = region.Ranged l.counter l.bound (x ∷ spans) }) s e)
        (loop_closed fn.instrs l (record { first = l.at; last = l.last + 1; region = region.Ranged l.counter l.bound (x ∷ spans) }) es b.begins b.ends b.long b.entered (all_at (loop_is_closed fn.instrs) fn.loops k l closed g) refl refl)

    loop_counted : (k : ℕ) (l : LoopInfo) → slice_get fn.loops k ≡ Some l → (x : Span) → slice_get (spans_of fn.instrs l.at Own) 0 ≡ Some x → is_counted fn l ≡ true
    loop_counted k l g x q = go (with_grain (grain.Loop l.at) Own) refl q
      where
        go : (xs : List RacyAccess) → with_grain (grain.Loop l.at) Own ≡ xs → slice_get (filter_map (span_of fn.instrs) xs) 0 ≡ Some x → is_counted fn l ≡ true
        go [] e q = cc
        go (a ∷ xs) e q =
            let r = grain_at (grain.Loop l.at) Own 0 a (ap (λ (z : List RacyAccess). slice_get z 0) e) in
            (each_at (IsFit fn m) Own r.0 a fit r.1).counted k l g r.2

    loops_closed : Each (IsClosed fn.instrs) (loop_stretches fn Own)
    loops_closed = each_filter_map (IsClosed fn.instrs) (λ l. loop_stretch l (spans_of fn.instrs l.at Own)) fn.loops (λ k l s g e. loop_one k l (spans_of fn.instrs l.at Own) s g (λ x q. loop_counted k l g x q) e)

    last_in : (n k : ℕ) (xs : List RacyAccess) → InBlock fn.instrs n k → Each (λ a. InBlock fn.instrs n a.instr) xs → InBlock fn.instrs n (last_of k xs)
    last_in n k [] b h = b
    last_in n k (a ∷ xs) b h = last_in n a.instr xs h.0 h.1

    pub members : (n : ℕ) → Each (λ a. InBlock fn.instrs n a.instr) (with_grain (grain.Block n) Own)
    members n = each_of (λ a. InBlock fn.instrs n a.instr) (with_grain (grain.Block n) Own) (λ k a g.
        let r = grain_at (grain.Block n) Own k a g in
        in_block a (each_at (HasRow code t locked rs rows f) Own r.0 a (have_rows code t locked rs rows f) r.1) n r.2)

    block_one : (k : ℕ) (a : RacyAccess) (s : Stretch) → slice_get Own k ≡ Some a → block_from Own a ≡ Some s → IsClosed fn.instrs s
    block_one k a s g e = go (same_grain (grain.Block a.instr) a.grain) refl e
      where
        go : (b : Bool) → same_grain (grain.Block a.instr) a.grain ≡ b → (if b then Some (block_stretch a.instr (with_grain (grain.Block a.instr) Own)) else None) ≡ Some s → IsClosed fn.instrs s
        go false q e = cc
        go true q e =
            let i = in_block a (each_at (HasRow code t locked rs rows f) Own k a (have_rows code t locked rs rows f) g) a.instr (grain_is (grain.Block a.instr) a.grain q) in
            let z = last_in a.instr a.instr (with_grain (grain.Block a.instr) Own) i (members a.instr) in
            subst (IsClosed fn.instrs) (same_Some (block_stretch a.instr (with_grain (grain.Block a.instr) Own)) s e)
            (straight_closed fn.instrs (block_stretch a.instr (with_grain (grain.Block a.instr) Own)) es (straight fn.instrs a.instr (last_of a.instr (with_grain (grain.Block a.instr) Own)) z.low z.same z.head z.cell))

    blocks_closed : Each (IsClosed fn.instrs) (block_stretches Own)
    blocks_closed = each_filter_map (IsClosed fn.instrs) (block_from Own) Own (λ k a s g e. block_one k a s g e)

    access_mark : (a : Act) (x : Access) → access_of a ≡ Some x → (is_mark (Some a) ≡ false) × (is_end (Some a) ≡ false) × (object_of a ≡ None)
    access_mark (act.LoadCell into through) x h = (refl, refl, refl)
    access_mark (act.StoreCell through from) x h = (refl, refl, refl)
    access_mark (act.Library c arguments into) x h = (refl, refl, refl)
    access_mark _ x h = cc

    access_one : (a : RacyAccess) → IsFit fn m a → IsClosed fn.instrs (access_stretch a)
    access_one a h =
        let q = access_mark h.instr.act h.access h.is in
        straight_closed fn.instrs (access_stretch a) es (record {
          long = omega arith;
          following = past_objects fn.instrs a.instr h.instr h.at q.2;
          inner = λ k i ge lt g. absurd (omega (arith, ge, lt));
          apart = λ k lt le. absurd (omega (arith, lt, le));
          head = ap (λ o. is_mark (act_in o)) h.at ∙ q.0;
          tail = λ i g. ap (λ o. is_end (act_in o)) (sym g ∙ h.at) ∙ q.1;
        })

    alone_closed : (xs : List RacyAccess) → Each (IsFit fn m) xs → Each (IsClosed fn.instrs) (map access_stretch xs)
    alone_closed [] h = tt
    alone_closed (a ∷ xs) h = (access_one a h.0, alone_closed xs h.1)

    pub all_closed : Each (IsClosed fn.instrs) (stretches_of fn Own)
    all_closed =
        each_append (IsClosed fn.instrs) (function_stretch fn (with_grain grain.Function Own)) (loop_stretches fn Own ++ (block_stretches Own ++ access_stretches Own)) (function_closed (with_grain grain.Function Own))
        (each_append (IsClosed fn.instrs) (loop_stretches fn Own) (block_stretches Own ++ access_stretches Own) loops_closed
        (each_append (IsClosed fn.instrs) (block_stretches Own) (access_stretches Own) blocks_closed
        (alone_closed (with_grain grain.Instruction Own) (each_filter (IsFit fn m) (λ a. same_grain grain.Instruction a.grain) Own fit))))
