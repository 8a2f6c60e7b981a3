-- At the start objects lie apart, and all pointers point where the analysis says.
use Rattle.std.proofs.Common.{◌≡◌, ℕ, zero, suc, ◌+◌, ◌*◌, ◌%◌, ◌<◌, ◌≤◌, ⊎_elim, ◌==◌, Bool, true, false, if◌then◌else◌, List, [], ◌∷◌, length, drop, map, Some, None, refl, sym, ap, subst, ◌∙◌, arith, eqb-true, eq-eqb}
use Rattle.std.specs.Prelude.{slice_get}
use Rattle.std.proofs.lemmas.Bool.{true≢false}
use Rattle.std.proofs.lemmas.Option.{same_Some}
use Rattle.rr_base.proofs.Lists.{slice_get-drop}
use Rattle.rr_base.specs.Words.{site_of, class_of}
use Rattle.rr_base.specs.declared.layout.CellKind.{CellKind}
use Rattle.rr_base.specs.declared.layout.CellKind.TheVariants as kind
use Rattle.sync_objects.specs.Setup.{SetupView, IsWithinLimits}
use Rattle.word_semantics.specs.Cells.{size_in, size_of}
use Rattle.word_semantics.specs.Operators.{based}
use Rattle.word_semantics.specs.Pointers.{base_at, same_kind, kind_in}
use Rattle.flow_code.specs.Addresses.{address_at, begin_with}
use Rattle.flow_code.specs.declared.code.Code.{Code}
use Rattle.flow_code.specs.Threads.{arena_start}
use Rattle.flow_code.specs.Valid.{is_valid}
use Rattle.flow_code.proofs.Objects.{objects_apart}
use Rattle.flow_code.proofs.ValidParts.{left, right, few_globals, globals_are_fit}
use Rattle.core_run.specs.Machine.{Told, start_state}
use Rattle.core_run.specs.Words.{start_global, start_words}
use Rattle.core_run.proofs.ThreadRanges.{start_thread_is}
use Rattle.facts.specs.PointsTo.{place, element_in, element_of, given}
use Rattle.facts.specs.declared.constraint.Node.TheVariants.{Cells}
use Rattle.points_to_sound.specs.Objects.{Object, IsObject, global, made_one, global_object, HasCell, IsSized, IsLeft, AreLaidOut}
use Rattle.points_to_sound.specs.Pointing.{IsGood, nowhere, GoodCells}
use Rattle.points_to_sound.specs.States.{marks_of}
use Rattle.points_to_sound.proofs.Globals.{IsGlobal, global_is, in_globals, based_good}
use Rattle.points_to_sound.proofs.Reaching.{same_kinds}
use Rattle.points_to_sound.proofs.StartCells.{StartsWith, with_zero, with_global, starts_with, cell_given}

begin_at : (ks ws : List CellKind) (i : ℕ) (k : CellKind) → begin_with ks ws ≡ true → slice_get ws i ≡ Some k → slice_get ks i ≡ Some k
begin_at ks [] i k h e = cc
begin_at [] (w ∷ ws) i k h e = cc
begin_at (x ∷ ks) (w ∷ ws) zero k h e = ap (λ (n : CellKind). Some n) (same_kinds x w (left (same_kind x w) (begin_with ks ws) h)) ∙ e
begin_at (x ∷ ks) (w ∷ ws) (suc i) k h e = begin_at ks ws i k (right (same_kind x w) (begin_with ks ws) h) e

small_mod : (n m : ℕ) → n < m → n % m ≡ n
small_mod n m h = grind (arith, h)

whole_mod : (n : ℕ) → 1 ≤ n → n % n ≡ 0
whole_mod n h = grind (arith, h)

map_back : {X Y : Type 0} (f : X → Y) (xs : List X) (k : ℕ) (y : Y) → slice_get (map f xs) k ≡ Some y → (x : X) × (slice_get xs k ≡ Some x) × (f x ≡ y)
map_back f [] k y h = cc
map_back f (x ∷ xs) zero y h = (x, refl, same_Some (f x) y h)
map_back f (x ∷ xs) (suc k) y h = map_back f xs k y h

module _ (code : Code) (s : SetupView) (valid : is_valid code ≡ true) (limits : IsWithinLimits s) where
  -- what is known of a global object
  record OfGlobal (o : Object) : Type 0 where
    base : ℕ
    is_base : base_at code.global_bases o.site ≡ Some base
    is : o ≡ global_object code s o.site base
    known : IsGlobal code valid o.site base

  of_global : (o : Object) → IsObject code s [] o → OfGlobal o
  of_global o (made_one i e) = cc
  of_global o (global base b e) = record { base = base; is_base = b; is = e; known = global_is code valid o.site base b }

  base_is : (o : Object) (g : OfGlobal o) → o.base ≡ g.base + 2 * s.slots
  base_is o g = ap (λ (p : Object). p.base) g.is

  cells_is : (o : Object) (g : OfGlobal o) → o.cells ≡ size_of code.sites o.site
  cells_is o g = ap (λ (p : Object). p.cells) g.is

  size_is : (o : Object) (g : OfGlobal o) → o.cells ≡ g.known.has.site.layout.size
  size_is o g = cells_is o g ∙ ap size_in g.known.has.is_site

  sized : (o : Object) → IsObject code s [] o → IsSized code o
  sized o is =
      let g = of_global o is in
      let size = size_is o g in
      let base = base_is o g in
      let within = g.known.within in
      let few = few_globals code valid in
      let slots = limits.few_slots in
      record {
        site = g.known.has.site;
        is_site = g.known.has.is_site;
        some = subst (λ n. 1 ≤ n) (sym size) g.known.has.some;
        few = subst (λ n. n ≤ 65535) (sym size) g.known.has.few;
        whole = ap (λ n. n % g.known.has.site.layout.size) size ∙ whole_mod g.known.has.site.layout.size g.known.has.some;
        low = omega arith;
      }

  -- a cell of a global object lies among those of globals
  among : (o : Object) (c : ℕ) → IsObject code s [] o → HasCell o c → (2 * s.slots ≤ c) × (c < 2 * s.slots + length code.globals)
  among o c is h = let g = of_global o is in let b = base_is o g in let n = size_is o g in let w = g.known.within in let f = h.from in let t = h.to in (omega arith, omega arith)

  one_global : (o p : Object) (c : ℕ) → IsObject code s [] o → IsObject code s [] p → HasCell o c → HasCell p c → o ≡ p
  one_global o p c is js h k = by (of_global o is) (of_global p js) (o.site == p.site) refl
    where
      by : (g : OfGlobal o) (d : OfGlobal p) (b : Bool) → (o.site == p.site) ≡ b → o ≡ p
      by g d true e =
          let same : o.site ≡ p.site = eqb-true o.site p.site e in
          let base_same : g.base ≡ d.base = same_Some g.base d.base (sym g.is_base ∙ ap (base_at code.global_bases) same ∙ d.is_base) in
          g.is ∙ ap (λ n. global_object code s n g.base) same ∙ ap (global_object code s p.site) base_same ∙ sym d.is
      by g d false e =
          let b1 = base_is o g in let b2 = base_is p d in let c1 = cells_is o g in let c2 = cells_is p d in
          let f = h.from in let t = h.to in let f2 = k.from in let t2 = k.to in
          ⊎_elim
          (λ (le : g.base + size_of code.sites o.site ≤ d.base). absurd (omega arith))
          (λ (le : d.base + size_of code.sites p.site ≤ g.base). absurd (omega arith))
          (objects_apart code (globals_are_fit code valid) o.site p.site g.base d.base g.is_base d.is_base (λ same. true≢false (sym (eq-eqb o.site p.site same) ∙ e)))

  pub mark_is : (t mark : ℕ) → slice_get (marks_of (start_state code s).threads) t ≡ Some mark → mark ≡ arena_start code s t
  mark_is t mark e =
      let x = map_back (λ (told : Told). told.thread.arena) (start_state code s).threads t mark e in
      sym x.2 ∙ ap (λ (told : Told). told.thread.arena) (start_thread_is code s t x.0 x.1)

  pub laid_at_start : ((c w : ℕ) → IsLeft code s (marks_of (start_state code s).threads) c → slice_get (start_words code s) c ≡ Some w → w ≡ 0) → AreLaidOut code s [] (start_words code s) (marks_of (start_state code s).threads)
  laid_at_start fresh = record {
    sized = sized;
    inside = λ o c is h. let a = among o c is h in (a.0, omega (arith, a.1));
    one = one_global;
    unused = λ o c is h k. let a = among o c is h in let m = mark_is k.thread k.mark k.is in let f = k.from in absurd (omega (arith, a.1));
    fresh = fresh;
    arenas = λ t mark e. let m = mark_is t mark e in omega arith;
  }

  -- what a global's cell holds at the start is good for it
  pub cells_at_start : GoodCells code s [] (start_words code s)
  cells_at_start o offset w is lt kinds e =
      let g = of_global o is in
      let b = base_is o g in
      let n = size_is o g in
      let a = among o (o.base + offset) is (record { from = omega arith; to = omega arith }) in
      by g (starts_with code s valid (o.base + offset) w (omega (arith, a.1)) e)
    where
      element_is : (g : OfGlobal o) → element_of code.sites o.site ≡ g.known.has.site.layout.element
      element_is g = ap element_in g.known.has.is_site

      kind_there : (g : OfGlobal o) → slice_get g.known.has.site.layout.kinds offset ≡ Some kind.Pointer
      kind_there g = by_size (g.known.has.site.layout.size == 0) refl (sym (ap (λ z. kind_in z offset) g.known.has.is_site) ∙ kinds)
        where
          by_size : (b : Bool) → (g.known.has.site.layout.size == 0) ≡ b → (if b then None else slice_get g.known.has.site.layout.kinds (offset % g.known.has.site.layout.size)) ≡ Some kind.Pointer → slice_get g.known.has.site.layout.kinds offset ≡ Some kind.Pointer
          by_size true f h = cc
          by_size false f h = let n = size_is o g in sym (ap (slice_get g.known.has.site.layout.kinds) (small_mod offset g.known.has.site.layout.size (omega arith))) ∙ h

      pointer_there : (g : OfGlobal o) → slice_get code.global_kinds (g.base + offset) ≡ Some kind.Pointer
      pointer_there g = sym (slice_get-drop g.base code.global_kinds offset) ∙ begin_at (drop g.base code.global_kinds) g.known.has.site.layout.kinds offset kind.Pointer g.known.kinds (kind_there g)

      by_word : (g : OfGlobal o) (v : ℕ) (z : Bool) → slice_get code.globals (g.base + offset) ≡ Some v → (v == 0) ≡ z → (if z then 0 else based s.slots v) ≡ w → IsGood code s [] (Cells (place o.site (class_of (element_of code.sites o.site) offset))) w
      by_word g v true at z is_w = nowhere (ap site_of (sym is_w))
      by_word g v false at z is_w =
          let address : address_at kind.Pointer v ≡ Some v = ap (λ b. if b then None else Some v) z in
          let x = in_globals code valid (g.base + offset) kind.Pointer v v (pointer_there g) at address in
          let n = size_is o g in
          let c = cell_given code s valid o.site g.known.has.site g.base offset kind.Pointer v v g.known.has.is_site g.is_base (omega arith) (pointer_there g) at address in
          subst (λ k. IsGood code s [] (Cells (place o.site (class_of k offset))) w) (sym (element_is g))
          (subst (IsGood code s [] (Cells (place o.site (class_of g.known.has.site.layout.element offset)))) is_w (based_good code valid s limits.few_slots [] (Cells (place o.site (class_of g.known.has.site.layout.element offset))) v x (given c)))

      by : (g : OfGlobal o) → StartsWith code s (o.base + offset) w → IsGood code s [] (Cells (place o.site (class_of (element_of code.sites o.site) offset))) w
      by g (with_zero z) = nowhere (ap site_of z)
      by g (with_global i at f) =
          let b = base_is o g in
          let i_is : i ≡ g.base + offset = omega arith in
          let here : slice_get code.global_kinds i ≡ Some kind.Pointer = ap (slice_get code.global_kinds) i_is ∙ pointer_there g in
          let kind_is : f.kind ≡ kind.Pointer = same_Some f.kind kind.Pointer (sym f.is_kind ∙ here) in
          by_word g f.word (f.word == 0) (ap (slice_get code.globals) (sym i_is) ∙ f.is_word) refl (ap (λ k. start_global s.slots k f.word) (sym kind_is) ∙ f.is)
