-- The places to which pointers of a valid code may point are places of its sites.
use Rattle.std.proofs.Common.{◌≡◌, ℕ, zero, suc, ◌+◌, ◌%◌, ◌<◌, ◌≤◌, ◌&&◌, ◌++◌, Bool, true, false, List, [], ◌∷◌, length, take, drop, refl, sym, subst, arith, ℤ, pos, ◌*ℤ◌, ◌+ℤ◌, Option, Some, None}
use Rattle.std.specs.Prelude.{slice_get, nat_lt, nat_le, ◌==◌, if◌then◌else◌, unsigned_abs}
use Rattle.std.specs.Int.{int_rem_euclid}
use Rattle.std.specs.List.{Contains}
use Rattle.rr_base.specs.Words.{site_of}
use Rattle.rr_base.specs.declared.layout.CellKind.{CellKind}
use Rattle.rr_base.specs.declared.layout.Place.{Place}
use Rattle.rr_base.specs.declared.layout.Site.{Site}
use Rattle.word_semantics.specs.Pointers.{directed, base_at}
use Rattle.word_semantics.specs.declared.library_call.LibraryCall.{LibraryCall}
use Rattle.word_semantics.specs.declared.library_call.LibraryCall.TheVariants as call
use Rattle.flow_code.specs.declared.act.Act.{Act}
use Rattle.flow_code.specs.declared.act.Act.TheVariants as act
use Rattle.flow_code.specs.declared.act.Instr.{Instr}
use Rattle.flow_code.specs.declared.code.Code.{Code}
use Rattle.flow_code.specs.declared.code.Function.{Function}
use Rattle.flow_code.specs.declared.work.Work.{Work}
use Rattle.flow_code.specs.declared.work.Work.TheVariants as work
use Rattle.flow_code.specs.Addresses.{address_at, is_address, word_fits, words_fit}
use Rattle.flow_code.specs.Kinds.{has_pointer, is_site, value_fits, act_fits}
use Rattle.flow_code.specs.Valid.{acts_fit}
use Rattle.flow_code.proofs.Objects.{address_site}
use Rattle.word_semantics.specs.Layouts.{layout_fits, sites_fit}
use Rattle.facts.specs.Blocks.{constant_at}
use Rattle.facts.specs.declared.constraint.Node.{Node}
use Rattle.facts.specs.declared.constraint.Node.TheVariants.{Register}
use Rattle.facts.specs.declared.constraint.Constraint.{Constraint}
use Rattle.facts.specs.declared.constraint.Constraint.TheVariants.{Given}
use Rattle.facts.specs.PointsTo.{place, element_in, element_of, classes_of, IsReached, are_whole_elements, move_constraint, work_constraints, argument_constraints, result_constraints, library_constraints, return_constraints, act_constraints, instrs_constraints, functions_constraints, word_constraints, cells_constraints, object_constraints, sites_constraints, constraints_of, May, given, included, shifted, strided, loaded, stored}
use Rattle.weak_valid.proofs.Tests.{both, two, all_at}

-- a class of a site of the code
abbrev pub IsPlaceOf : List Site → Place → Type 0
IsPlaceOf sites p = (1 ≤ p.site) × (p.site ≤ length sites) × (p.class < classes_of (element_of sites p.site))

-- ---- elements and classes

at_most : (a b : ℕ) → nat_le a b ≡ true → a ≤ b
at_most a b h = grind arith

pub some_cells : (sites : List Site) → sites_fit sites ≡ true → (s : ℕ) → 1 ≤ element_of sites s
some_cells sites h zero = omega arith
some_cells sites h (suc k) = go (slice_get sites k) refl
  where
    go : (o : Option Site) → slice_get sites k ≡ o → 1 ≤ element_in o
    go None e = omega arith
    go (Some site) e =
        let l : layout_fits site.layout ≡ true = all_at (λ (s : Site). layout_fits s.layout) sites k site h e in
        at_most 1 site.layout.element (both (nat_le 1 site.layout.size && nat_le site.layout.size 65535 && (length site.layout.kinds == site.layout.size)) (nat_le 1 site.layout.element) (both (nat_le 1 site.layout.size && nat_le site.layout.size 65535 && (length site.layout.kinds == site.layout.size) && nat_le 1 site.layout.element) (site.layout.size % site.layout.element == 0) l).0).1

few_if : (b : Bool) (element : ℕ) → nat_lt 64 element ≡ b → (if b then 1 else element) ≤ 64
few_if true element e = omega arith
few_if false element e = grind arith

pub few_classes : (element : ℕ) → classes_of element ≤ 64
few_classes element = few_if (nat_lt 64 element) element refl

some_if : (b : Bool) (element : ℕ) → 1 ≤ element → 0 < (if b then 1 else element)
some_if true element le = omega arith
some_if false element le = le

below_if : (b : Bool) (element class : ℕ) (z : ℤ) → 1 ≤ element → (if b then 0 else unsigned_abs (int_rem_euclid (pos class +ℤ z) (pos element))) < (if b then 1 else element)
below_if true element class z le = omega arith
below_if false element class z le = rest (pos class +ℤ z)
  where
    rest : (y : ℤ) → unsigned_abs (int_rem_euclid y (pos element)) < element
    rest y = grind arith

reached_below : (b : Bool) (element from to : ℕ) → from < classes_of element → IsReached b element from to → to < classes_of element
reached_below true element from to lt r = subst (λ k. k < classes_of element) (sym r) lt
reached_below false element from to lt r = r

-- ---- first places

-- what the constraint gives is a place of the code
abbrev GivesPlace : List Site → Constraint → Type 0
GivesPlace sites (Given n p) = IsPlaceOf sites p
GivesPlace sites _ = Unit {0}

abbrev GivePlaces : List Site → List Constraint → Type 0
GivePlaces sites [] = Unit {0}
GivePlaces sites (c ∷ cs) = GivesPlace sites c × GivePlaces sites cs

give_append : (sites : List Site) (xs ys : List Constraint) → GivePlaces sites xs → GivePlaces sites ys → GivePlaces sites (xs ++ ys)
give_append sites [] ys h k = k
give_append sites (x ∷ xs) ys h k = (h.0, give_append sites xs ys h.1 k)

give_in : (sites : List Site) (xs : List Constraint) (c : Constraint) → GivePlaces sites xs → Contains xs c → GivesPlace sites c
give_in sites [] c h (k, lt, e) = absurd (omega arith)
give_in sites (x ∷ xs) c h (zero, lt, e) = subst (GivesPlace sites) e h.0
give_in sites (x ∷ xs) c h (suc k, lt, e) = give_in sites xs c h.1 (k, omega arith, e)

module _ (code : Code) (some : (s : ℕ) → 1 ≤ element_of code.sites s) where
  site_place : (s : ℕ) → is_site code s ≡ true → IsPlaceOf code.sites (place s 0)
  site_place s h =
      let b = both (nat_le 1 s) (nat_le s (length code.sites)) h in
      (at_most 1 s b.0, at_most s (length code.sites) b.1, some_if (nat_lt 64 (element_of code.sites s)) (element_of code.sites s) (some s))

  address_place : (w : ℕ) → is_address code w ≡ true → IsPlaceOf code.sites (place (site_of w) 0)
  address_place w h = site_place (site_of w) (address_site code w h)

  -- ---- of instructions

  move_gives : (a b : Node) (o : Option ℤ) (element : ℕ) (back : Bool) → GivesPlace code.sites (move_constraint a b o element back)
  move_gives a b None element back = tt
  move_gives a b (Some z) element back = tt

  arguments_give : (f : ℕ) (rs : List ℕ) (g i : ℕ) → GivePlaces code.sites (argument_constraints f rs g i)
  arguments_give f [] g i = tt
  arguments_give f (r ∷ rs) g i = (tt, arguments_give f rs g (i + 1))

  result_gives : (f g : ℕ) (into : Option ℕ) → GivePlaces code.sites (result_constraints f g into)
  result_gives f g None = tt
  result_gives f g (Some into) = (tt, tt)

  library_gives : (f : ℕ) (c : LibraryCall) (arguments : List ℕ) → GivePlaces code.sites (library_constraints f c arguments)
  library_gives f (call.Create g) (thread ∷ argument ∷ []) = (tt, (tt, tt))
  library_gives f call.Join (thread ∷ into ∷ []) = (tt, tt)
  library_gives f call.Exit (value ∷ []) = (tt, tt)
  library_gives f _ _ = tt

  return_gives : (f : ℕ) (value : Option ℕ) → GivePlaces code.sites (return_constraints f value)
  return_gives f None = tt
  return_gives f (Some r) = (tt, tt)

  work_gives : (fn : Function) (f : ℕ) (is : List Instr) (k into : ℕ) (w : Work) → act_fits code fn (act.Compute into w) ≡ true → GivePlaces code.sites (work_constraints f is k into w)
  work_gives fn f is k into (work.Address w) h = (address_place w (both (has_pointer fn into) (is_address code w) h).1, tt)
  work_gives fn f is k into (work.Copy r) h = (tt, tt)
  work_gives fn f is k into (work.Move pointer by element back) h = (move_gives (Register f pointer) (Register f into) (constant_at is k by) element back, tt)
  work_gives fn f is k into (work.Member pointer by) h = (tt, tt)
  work_gives fn f is k into _ h = tt

  act_gives : (fn : Function) (f : ℕ) (is : List Instr) (k : ℕ) (a : Act) → act_fits code fn a ≡ true → GivePlaces code.sites (act_constraints f is k a)
  act_gives fn f is k (act.Compute into w) h = work_gives fn f is k into w h
  act_gives fn f is k (act.Alloc into site size) h = (site_place site (both (has_pointer fn into) (is_site code site) (both (has_pointer fn into && is_site code site) (value_fits fn size false) h).0).1, tt)
  act_gives fn f is k (act.LoadCell into through) h = (tt, tt)
  act_gives fn f is k (act.StoreCell through from) h = (tt, tt)
  act_gives fn f is k (act.Call g arguments into) h = give_append code.sites (argument_constraints f arguments g 0) (result_constraints f g into) (arguments_give f arguments g 0) (result_gives f g into)
  act_gives fn f is k (act.Library c arguments into) h = library_gives f c arguments
  act_gives fn f is k (act.Return value) h = return_gives f value
  act_gives fn f is k _ h = tt

  instrs_give : (fn : Function) (f : ℕ) (is : List Instr) (k : ℕ) (rest : List Instr) → acts_fit code fn rest ≡ true → GivePlaces code.sites (instrs_constraints f is k rest)
  instrs_give fn f is k [] h = tt
  instrs_give fn f is k (i ∷ rest) h =
      let b = both (act_fits code fn i.act) (acts_fit code fn rest) h in
      give_append code.sites (act_constraints f is k i.act) (instrs_constraints f is (k + 1) rest) (act_gives fn f is k i.act b.0) (instrs_give fn f is (k + 1) rest b.1)

  functions_give : (f : ℕ) (fns : List Function) → ((k : ℕ) (fn : Function) → slice_get fns k ≡ Some fn → acts_fit code fn fn.instrs ≡ true) → GivePlaces code.sites (functions_constraints f fns)
  functions_give f [] h = tt
  functions_give f (fn ∷ fns) h = give_append code.sites (instrs_constraints f fn.instrs 0 fn.instrs) (functions_constraints (f + 1) fns) (instrs_give fn f fn.instrs 0 fn.instrs (h 0 fn refl)) (functions_give (f + 1) fns (λ k g e. h (suc k) g e))

  -- ---- of start words

  words_empty : (ks : List CellKind) → words_fit code ks [] ≡ true
  words_empty [] = refl
  words_empty (k ∷ ks) = refl

  words_drop : (n : ℕ) (ks : List CellKind) (ws : List ℕ) → words_fit code ks ws ≡ true → words_fit code (drop n ks) (drop n ws) ≡ true
  words_drop zero ks ws h = h
  words_drop (suc n) [] ws h = refl
  words_drop (suc n) (k ∷ ks) [] h = words_empty (drop n ks)
  words_drop (suc n) (k ∷ ks) (w ∷ ws) h = words_drop n ks ws (both (word_fits code (address_at k w)) (words_fit code ks ws) h).1

  words_take : (n : ℕ) (ks : List CellKind) (ws : List ℕ) → words_fit code ks ws ≡ true → words_fit code (take n ks) ws ≡ true
  words_take zero ks ws h = refl
  words_take (suc n) [] ws h = refl
  words_take (suc n) (k ∷ ks) [] h = refl
  words_take (suc n) (k ∷ ks) (w ∷ ws) h =
      let b = both (word_fits code (address_at k w)) (words_fit code ks ws) h in
      two (word_fits code (address_at k w)) (words_fit code (take n ks) ws) b.0 (words_take n ks ws b.1)

  word_gives : (s element offset : ℕ) (o : Option ℕ) → word_fits code o ≡ true → GivePlaces code.sites (word_constraints s element offset o)
  word_gives s element offset None h = tt
  word_gives s element offset (Some w) h = (address_place w h, tt)

  cells_give : (s element offset : ℕ) (ks : List CellKind) (ws : List ℕ) → words_fit code ks ws ≡ true → GivePlaces code.sites (cells_constraints s element offset ks ws)
  cells_give s element offset [] ws h = tt
  cells_give s element offset (k ∷ ks) [] h = tt
  cells_give s element offset (k ∷ ks) (w ∷ ws) h =
      let b = both (word_fits code (address_at k w)) (words_fit code ks ws) h in
      give_append code.sites (word_constraints s element offset (address_at k w)) (cells_constraints s element (offset + 1) ks ws) (word_gives s element offset (address_at k w) b.0) (cells_give s element (offset + 1) ks ws b.1)

  object_gives : words_fit code code.global_kinds code.globals ≡ true → (s : ℕ) (site : Site) (o : Option ℕ) → GivePlaces code.sites (object_constraints code s site o)
  object_gives words s site None = tt
  object_gives words s site (Some base) =
      cells_give s site.layout.element 0 (take site.layout.size (drop base code.global_kinds)) (drop base code.globals)
      (words_take site.layout.size (drop base code.global_kinds) (drop base code.globals) (words_drop base code.global_kinds code.globals words))

  sites_give : words_fit code code.global_kinds code.globals ≡ true → (s : ℕ) (sites : List Site) → GivePlaces code.sites (sites_constraints code s sites)
  sites_give words s [] = tt
  sites_give words s (site ∷ sites) = give_append code.sites (object_constraints code s site (base_at code.global_bases s)) (sites_constraints code (s + 1) sites) (object_gives words s site (base_at code.global_bases s)) (sites_give words (s + 1) sites)

  constraints_give : ((k : ℕ) (fn : Function) → slice_get code.functions k ≡ Some fn → acts_fit code fn fn.instrs ≡ true) → words_fit code code.global_kinds code.globals ≡ true → GivePlaces code.sites (constraints_of code)
  constraints_give acts words = give_append code.sites (functions_constraints 0 code.functions) (sites_constraints code 1 code.sites) (functions_give 0 code.functions acts) (sites_give words 1 code.sites)

-- ---- all places

may_place : (sites : List Site) (cs : List Constraint) → ((s : ℕ) → 1 ≤ element_of sites s) → GivePlaces sites cs → {n : Node} {p : Place} → May sites cs n p → IsPlaceOf sites p
may_place sites cs some g (given {n} {p} h) = give_in sites cs (Given n p) g h
may_place sites cs some g (included h m) = may_place sites cs some g m
may_place sites cs some g (shifted {a} {b} {by} {element} {back} {p} h m) =
    let k = may_place sites cs some g m in
    (k.0, k.1, below_if (nat_lt 64 (element_of sites p.site)) (element_of sites p.site) p.class (directed back by *ℤ pos element) (some p.site))
may_place sites cs some g (strided {a} {b} {stride} {p} class h m r) =
    let k = may_place sites cs some g m in
    (k.0, k.1, reached_below (are_whole_elements stride (element_of sites p.site)) (element_of sites p.site) p.class class k.2 r)
may_place sites cs some g (loaded h m n) = may_place sites cs some g n
may_place sites cs some g (stored h m n) = may_place sites cs some g n

pub place_of_code : (code : Code) → sites_fit code.sites ≡ true → ((k : ℕ) (fn : Function) → slice_get code.functions k ≡ Some fn → acts_fit code fn fn.instrs ≡ true) → words_fit code code.global_kinds code.globals ≡ true → (n : Node) (p : Place) → May code.sites (constraints_of code) n p → IsPlaceOf code.sites p
place_of_code code sites acts words n p m = may_place code.sites (constraints_of code) (some_cells code.sites sites) (constraints_give code (some_cells code.sites sites) acts words) m
