-- Each formal and local of a function that is kept in cells has a site: it is one of the function's spots.
use Rattle.std.proofs.Common.{◌≡◌, ℕ, zero, suc, ◌+◌, Bool, true, false, ◌||◌, if◌then◌else◌, List, [], ◌∷◌, ◌++◌, length, map, Some, None, slice_get, refl, subst, arith}
use Rattle.rr_base.specs.declared.layout.Site.{Site}
use Rattle.rr_base.specs.Texts.{Text}
use Rattle.c_tree.specs.declared.ctype.Specifier.{Specifier}
use Rattle.c_tree.specs.Tree.{Formal, formal, formal_pointer, Declared, declared, declared_pointer, Object, plain, initialised, Declares, declares, Start, start_declares, start_computes, Statement, block, compute, break_at, continue_at, gives, branch, branch_else, while_loop, do_loop, for_loop, Parts, no_part, and_declares, and_does}
use Rattle.c_types.specs.Scopes.{Known, opened}
use Rattle.c_types.specs.Standing.{no_target}
use Rattle.c_programs.specs.Declarators.{declared_type, param_type, after_param}
use Rattle.c_programs.specs.Initials.{value_target}
use Rattle.c_names.specs.Sources.{declared_by, param_name}
use Rattle.c_programs.specs.Statements.{after_declared, after_declares, after_start}
use Rattle.c_locals.specs.Addresses.{is_among, count_of_declares, count_of_start, count_of_locals}
use Rattle.c_locals.specs.Kept.{is_kept}
use Rattle.c_spots.specs.Spots.{Spot, spot_named, where_kept, in_function, holder_in, allocations, maybe_allocations, lengths_allocations, initial_allocations, declared_spots, object_spots, objects_spots, declares_spots, start_spots, for_spots, statement_spots, parts_spots, formal_spot, formals_spots}
use Rattle.core_tree.specs.Core.{Program}
use Rattle.c_frames.specs.declared.local.Local.{Local}
use Rattle.c_operators.specs.Context.{site_at}
use Rattle.c_frames.specs.Locals.{local_declared, local_of, declares_locals, start_locals, statement_locals, parts_locals}
use Rattle.c_frames.specs.Frames.{formal_of, marked, sites_of}
use Rattle.core_tree.specs.Sound.{HasSite}
use Rattle.source_sound.proofs.Premises.{HaveSpots, spots_parts}
use Rattle.source_sound.proofs.Locals.{declares_count, start_count, locals_count}

-- each of a list
abbrev pub Each : {A : Type 0} → (A → Type 0) → List A → Type 0
Each P [] = Unit {0}
Each P (x ∷ xs) = P x × Each P xs

pub each_at : {A : Type 0} (P : A → Type 0) (xs : List A) (k : ℕ) (x : A) → Each P xs → slice_get xs k ≡ Some x → P x
each_at P [] k x all e = let no : ⊥ = cc in absurd no
each_at P (y ∷ ys) zero x all e = let is : y ≡ x = cc in subst P is all.0
each_at P (y ∷ ys) (suc k) x all e = each_at P ys k x all.1 e

pub each_both : {A : Type 0} (P : A → Type 0) (xs ys : List A) → Each P xs → Each P ys → Each P (xs ++ ys)
each_both P [] ys a b = b
each_both P (x ∷ xs) ys a b = (a.0, each_both P xs ys a.1 b)

module _ (p : Program) (sites : List Site) (ns : List ℕ) where
  -- each local of these, with numbers from n on, has a site where it is kept in cells
  abbrev pub AreSited : ℕ → List Local → Type 0
  AreSited n [] = Unit {0}
  AreSited n (l ∷ ls) = ((l.is_kept || is_among ns n) ≡ true → HasSite p (site_at sites l.at)) × AreSited (n + 1) ls

  sited_both : (n m : ℕ) (xs ys : List Local) → m ≡ n + length xs → AreSited n xs → AreSited m ys → AreSited n (xs ++ ys)
  sited_both n m [] ys e a b = let is : m ≡ n = omega (arith, e) in subst (λ k. AreSited k ys) is b
  sited_both n m (x ∷ xs) ys e a b = let is : m ≡ n + 1 + length xs = omega (arith, e) in (a.0, sited_both (n + 1) m xs ys is a.1 b)

  one_site : (b : Bool) (l : Local) → (b ≡ true → HasSite p (site_at sites l.at)) → Each (HasSite p) (if b then site_at sites l.at ∷ [] else [])
  one_site true l has = (has refl, tt)
  one_site false l has = tt

  pub sites_there : (n : ℕ) (ls : List Local) → AreSited n ls → Each (HasSite p) (sites_of sites (marked ns n ls))
  sites_there n [] are = tt
  sites_there n (l ∷ ls) are =
      each_both (HasSite p) (if l.is_kept || is_among ns n then site_at sites l.at ∷ [] else []) (sites_of sites (marked ns (n + 1) ls))
      (one_site (l.is_kept || is_among ns n) l are.0) (sites_there (n + 1) ls are.1)

  kept_spot : (b : Bool) (spot : Spot) → HaveSpots p sites (where_kept b spot) → b ≡ true → HasSite p (site_at sites spot.at)
  kept_spot true spot have e = have.0
  kept_spot false spot have e = let no : ⊥ = cc in absurd no

  module _ (f : Text) where
    declared_sited : (known : Known) (n : ℕ) (s : Specifier) (d : Declared) → HaveSpots p sites (declared_spots (in_function f ns) known n s d) → AreSited n (local_declared s d ∷ [])
    declared_sited known n s (declared stars name lengths) have =
        let d = declared stars name lengths in
        let two = spots_parts p sites (where_kept (is_kept s stars lengths || is_among ns n) (spot_named (holder_in (in_function f ns) name.text) name (declared_type known s d))) (lengths_allocations known lengths) have in
        (kept_spot (is_kept s stars lengths || is_among ns n) (spot_named (holder_in (in_function f ns) name.text) name (declared_type known s d)) two.0, tt)
    declared_sited known n s (declared_pointer stars name ps) have =
        let two = spots_parts p sites (where_kept (false || is_among ns n) (spot_named (holder_in (in_function f ns) name.text) name (declared_type known s (declared_pointer stars name ps)))) [] have in
        (kept_spot (false || is_among ns n) (spot_named (holder_in (in_function f ns) name.text) name (declared_type known s (declared_pointer stars name ps))) two.0, tt)

    object_sited : (known : Known) (n : ℕ) (s : Specifier) (o : Object) → HaveSpots p sites (object_spots (in_function f ns) known n s o) → AreSited n (local_of s o ∷ [])
    object_sited known n s (plain d) have = declared_sited known n s d have
    object_sited known n s (initialised d i at) have =
        declared_sited known n s d (spots_parts p sites (declared_spots (in_function f ns) known n s d) (initial_allocations (after_declared known false s d) (value_target (declared_type known s d)) i) have).0

    objects_sited : (known : Known) (n : ℕ) (s : Specifier) (os : List Object) → HaveSpots p sites (objects_spots (in_function f ns) known n s os) → AreSited n (map (local_of s) os)
    objects_sited known n s [] have = tt
    objects_sited known n s (o ∷ os) have =
        let two = spots_parts p sites (object_spots (in_function f ns) known n s o) (objects_spots (in_function f ns) (after_declared known false s (declared_by o)) (n + 1) s os) have in
        ((object_sited known n s o two.0).0, objects_sited (after_declared known false s (declared_by o)) (n + 1) s os two.1)

    declares_sited : (known : Known) (n : ℕ) (d : Declares) → HaveSpots p sites (declares_spots (in_function f ns) known n d) → AreSited n (declares_locals d)
    declares_sited known n (declares s os at) have = objects_sited known n s os have

    start_sited : (known : Known) (n : ℕ) (s : Start) → HaveSpots p sites (start_spots (in_function f ns) known n s) → AreSited n (start_locals s)
    start_sited known n (start_declares d) have = declares_sited known n d have
    start_sited known n (start_computes e) have = tt

    mutual
      statement_sited : (known : Known) (n : ℕ) (s : Statement) → HaveSpots p sites (statement_spots (in_function f ns) known n s) → AreSited n (statement_locals s)
      statement_sited known n (block ps at) have = parts_sited (opened known) n ps have
      statement_sited known n (compute e at) have = tt
      statement_sited known n (break_at at) have = tt
      statement_sited known n (continue_at at) have = tt
      statement_sited known n (gives e at) have = tt
      statement_sited known n (branch e a at) have = statement_sited known n a (spots_parts p sites (allocations known no_target e) (statement_spots (in_function f ns) known n a) have).1
      statement_sited known n (branch_else e a b at) have =
          let last = spots_parts p sites (allocations known no_target e ++ statement_spots (in_function f ns) known n a) (statement_spots (in_function f ns) known (n + count_of_locals a) b) have in
          let own = spots_parts p sites (allocations known no_target e) (statement_spots (in_function f ns) known n a) last.0 in
          let count = locals_count a in
          sited_both n (n + count_of_locals a) (statement_locals a) (statement_locals b) (omega (arith, count)) (statement_sited known n a own.1) (statement_sited known (n + count_of_locals a) b last.1)
      statement_sited known n (while_loop e a at) have = statement_sited known n a (spots_parts p sites (allocations known no_target e) (statement_spots (in_function f ns) known n a) have).1
      statement_sited known n (do_loop a e at) have = statement_sited known n a (spots_parts p sites (statement_spots (in_function f ns) known n a) (allocations known no_target e) have).0
      statement_sited known n (for_loop start test next a at) have =
          let last = spots_parts p sites (for_spots (in_function f ns) (opened known) n start test next) (statement_spots (in_function f ns) (after_start (opened known) start) (n + count_of_start start) a) have in
          let more = spots_parts p sites (start_spots (in_function f ns) (opened known) n start ++ maybe_allocations (after_start (opened known) start) test) (maybe_allocations (after_start (opened known) start) next) last.0 in
          let own = spots_parts p sites (start_spots (in_function f ns) (opened known) n start) (maybe_allocations (after_start (opened known) start) test) more.0 in
          let count = start_count start in
          sited_both n (n + count_of_start start) (start_locals start) (statement_locals a) (omega (arith, count)) (start_sited (opened known) n start own.0) (statement_sited (after_start (opened known) start) (n + count_of_start start) a last.1)

      pub parts_sited : (known : Known) (n : ℕ) (ps : Parts) → HaveSpots p sites (parts_spots (in_function f ns) known n ps) → AreSited n (parts_locals ps)
      parts_sited known n no_part have = tt
      parts_sited known n (and_declares d ps) have =
          let two = spots_parts p sites (declares_spots (in_function f ns) known n d) (parts_spots (in_function f ns) (after_declares known d) (n + count_of_declares d) ps) have in
          let count = declares_count d in
          sited_both n (n + count_of_declares d) (declares_locals d) (parts_locals ps) (omega (arith, count)) (declares_sited known n d two.0) (parts_sited (after_declares known d) (n + count_of_declares d) ps two.1)
      parts_sited known n (and_does s ps) have =
          let two = spots_parts p sites (statement_spots (in_function f ns) known n s) (parts_spots (in_function f ns) known (n + count_of_locals s) ps) have in
          let count = locals_count s in
          sited_both n (n + count_of_locals s) (statement_locals s) (parts_locals ps) (omega (arith, count)) (statement_sited known n s two.0) (parts_sited known (n + count_of_locals s) ps two.1)

    -- formals: in a definition without a fault each has a name
    abbrev FormalSited : Known → ℕ → Formal → Type 0
    FormalSited known n q = HaveSpots p sites (formal_spot (in_function f ns) known n q (param_name q)) → ((param_name q) ≡ None → ⊥) → AreSited n (formal_of q ∷ [])

    formal_sited : (known : Known) (n : ℕ) (q : Formal) → FormalSited known n q
    formal_sited known n (formal s stars None at) have named = absurd (named refl)
    formal_sited known n (formal s stars (Some name) at) have named =
        (kept_spot (is_kept s stars [] || is_among ns n) (spot_named (holder_in (in_function f ns) name.text) name (param_type known (formal s stars (Some name) at))) have, tt)
    formal_sited known n (formal_pointer s stars name ps at) have named =
        (kept_spot (false || is_among ns n) (spot_named (holder_in (in_function f ns) name.text) name (param_type known (formal_pointer s stars name ps at))) have, tt)

    -- each has a name
    abbrev pub AreNamed : List Formal → Type 0
    AreNamed [] = Unit {0}
    AreNamed (q ∷ qs) = ((param_name q) ≡ None → ⊥) × AreNamed qs

    pub formals_sited : (known : Known) (n : ℕ) (qs : List Formal) → AreNamed qs → HaveSpots p sites (formals_spots (in_function f ns) known n qs) → AreSited n (map formal_of qs)
    formals_sited known n [] named have = tt
    formals_sited known n (q ∷ qs) named have =
        let two = spots_parts p sites (formal_spot (in_function f ns) known n q (param_name q)) (formals_spots (in_function f ns) (after_param known q) (n + 1) qs) have in
        ((formal_sited known n q two.0 named.0).0, formals_sited (after_param known q) (n + 1) qs named.1 two.1)
