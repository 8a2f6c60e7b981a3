-- A function is entered: its formals have good words if the arguments are, and its objects are laid in the thread's arena.
use Rattle.std.proofs.Common.{◌≡◌, ℕ, zero, suc, ◌+◌, ◌%◌, ◌<◌, ◌≤◌, ◌^◌, ◌⊎◌, inl, inr, ⊎_elim, ◌&&◌, nat_le, Bool, true, false, if◌then◌else◌, List, [], ◌∷◌, length, length-set, Option, Some, None, refl, sym, ap, subst, ◌∙◌, ℤ, arith}
use Rattle.std.specs.Prelude.{slice_get, slice_set}
use Rattle.std.proofs.lemmas.Bool.{leb-true}
use Rattle.std.proofs.lemmas.Option.{same_Some}
use Rattle.rr_base.specs.declared.layout.Site.{Site}
use Rattle.sync_objects.specs.Setup.{SetupView}
use Rattle.word_semantics.specs.Cells.{size_in, size_of}
use Rattle.word_semantics.specs.Pointers.{pointer_at}
use Rattle.word_semantics.specs.Registers.{register, words_of}
use Rattle.flow_code.specs.declared.act.Act.{Act}
use Rattle.flow_code.specs.declared.act.Act.TheVariants as act
use Rattle.flow_code.specs.declared.act.Instr.{Instr}
use Rattle.flow_code.specs.declared.code.Code.{Code}
use Rattle.flow_code.specs.declared.code.Function.{Function}
use Rattle.flow_code.specs.Kinds.{has_pointer, is_site, value_fits}
use Rattle.flow_code.specs.Next.{act_in, pointers_in}
use Rattle.flow_code.specs.Threads.{Object, object, object_of, and_objects, objects_of, objects_in, fitted, placed, with_arguments, arena_end, instr_in, instrs_in}
use Rattle.flow_code.specs.Valid.{is_valid}
use Rattle.flow_code.specs.Works.{is_pointer}
use Rattle.flow_code.proofs.ValidParts.{left, right}
use Rattle.facts.specs.Blocks.{begins_block, assigns, constant_of, constant_at}
use Rattle.facts.specs.PointsTo.{place, MayPoint, given}
use Rattle.facts.specs.declared.constraint.Constraint.TheVariants.{Given}
use Rattle.facts.specs.declared.constraint.Node.TheVariants.{Register}
use Rattle.points_to_sound.specs.Objects as o
use Rattle.points_to_sound.specs.Objects.{IsSized}
use Rattle.points_to_sound.specs.Pointing.{act_of, IsGood, nowhere, GoodRegisters}
use Rattle.points_to_sound.proofs.Finding.{first_of, constraint_of, stands}
use Rattle.points_to_sound.proofs.Fitting.{stands_fit}
use Rattle.points_to_sound.proofs.Laying.{Lays, lays_none, lays_one, HasSite, site_is, new_object, is_new}
use Rattle.points_to_sound.proofs.Registers.{good_set, good_registers_more}

-- ---- arguments

-- what stands in a new frame's register: an argument, or 0
pub arguments_read : (n : ℕ) (arguments : List ℕ) (r : ℕ) → ((w : ℕ) × (slice_get arguments r ≡ Some w) × (register (with_arguments n arguments) r ≡ w)) ⊎ (register (with_arguments n arguments) r ≡ 0)
arguments_read zero arguments r = inr refl
arguments_read (suc n) [] zero = inr refl
arguments_read (suc n) [] (suc r) = ⊎_elim (λ (h : (w : ℕ) × (slice_get [] r ≡ Some w) × (register (with_arguments n []) r ≡ w)). none h.0 h.1) (λ e. inr e) (arguments_read n [] r)
  where
    none : {P : Type 0} (w : ℕ) → slice_get [] r ≡ Some w → P
    none w e = cc
arguments_read (suc n) (a ∷ arguments) zero = inl (a, refl, refl)
arguments_read (suc n) (a ∷ arguments) (suc r) = arguments_read n arguments r

pub arguments_length : (n : ℕ) (arguments : List ℕ) → length (with_arguments n arguments) ≡ n
arguments_length zero arguments = refl
arguments_length (suc n) [] = ap suc (arguments_length n [])
arguments_length (suc n) (a ∷ arguments) = ap suc (arguments_length n arguments)

-- the word of an argument is that of its register
pub words_read : (registers arguments : List ℕ) (i w : ℕ) → slice_get (words_of registers arguments) i ≡ Some w → (r : ℕ) × (slice_get arguments i ≡ Some r) × (register registers r ≡ w)
words_read registers [] i w e = cc
words_read registers (r ∷ rs) zero w e = (r, refl, same_Some (register registers r) w e)
words_read registers (r ∷ rs) (suc i) w e = words_read registers rs i w e

pub placed_length : (sites : List Site) (os : List Object) (at : ℕ) (registers : List ℕ) → length (placed sites os at registers) ≡ length registers
placed_length sites [] at registers = refl
placed_length sites (object into site ∷ os) at registers = placed_length sites os (at + size_of sites site) (slice_set registers into (pointer_at site at (size_of sites site))) ∙ length-set registers into (pointer_at site at (size_of sites site))

module _ (code : Code) (s : SetupView) (made : List o.Object) (g : ℕ) where
  pub arguments_good : (n : ℕ) (arguments : List ℕ) → ((r w : ℕ) → slice_get arguments r ≡ Some w → is_pointer (pointers_in (slice_get code.functions g)) r ≡ true → IsGood code s made (Register g r) w) → GoodRegisters code s made g (with_arguments n arguments)
  arguments_good n arguments h r p =
      ⊎_elim
      (λ (e : (w : ℕ) × (slice_get arguments r ≡ Some w) × (register (with_arguments n arguments) r ≡ w)). subst (IsGood code s made (Register g r)) (sym e.2) (h r e.0 e.1 p))
      (λ e. subst (IsGood code s made (Register g r)) (sym e) (nowhere refl))
      (arguments_read n arguments r)

-- ---- objects

-- each object's register may point to its site
abbrev pub HaveSites : Code → ℕ → List Object → Type 0
HaveSites code g [] = Unit {0}
HaveSites code g (object into site ∷ os) = MayPoint code (Register g into) (place site 0) × HasSite code site × HaveSites code g os

whole_size : (n : ℕ) → 1 ≤ n → n % n ≡ 0
whole_size n h = grind (arith, h)

pub size_is_site : (code : Code) (k : ℕ) (h : HasSite code k) → size_of code.sites k ≡ h.site.layout.size
size_is_site code k h = ap size_in h.is_site

module _ (code : Code) (s : SetupView) (valid : is_valid code ≡ true) (t : ℕ) (low : arena_end code s t < 2 ^ 22) where
  pub object_made : (f k into site : ℕ) (size : Option ℕ) → act_of code f k ≡ Some (act.Alloc into site size) → MayPoint code (Register f into) (place site 0) × HasSite code site
  object_made f k into site size at =
      let x = stands code f k (act.Alloc into site size) at in
      let fit = stands_fit code valid f k (act.Alloc into site size) x in (
        given (constraint_of code f k (act.Alloc into site size) (Given (Register f into) (place site 0)) at (first_of (Given (Register f into) (place site 0)) [])),
        site_is code valid site (right (has_pointer x.function into) (is_site code site) (left (has_pointer x.function into && is_site code site) (value_fits x.function size false) fit)),
      )

  pub have_sites : (g : ℕ) (rest : List Instr) → ((i : ℕ) (x : Instr) → slice_get rest i ≡ Some x → (k : ℕ) × (act_of code g k ≡ Some x.act)) → HaveSites code g (objects_of rest)
  have_sites g [] h = tt
  have_sites g (x ∷ rest) h = at x.act (h 0 x refl).0 (h 0 x refl).1 (have_sites g rest (λ i. h (suc i)))
    where
      at : (a : Act) (k : ℕ) → act_of code g k ≡ Some a → HaveSites code g (objects_of rest) → HaveSites code g (and_objects (object_of a) (objects_of rest))
      at (act.Alloc into site None) k e more = let m = object_made g k into site None e in (m.0, m.1, more)
      at (act.Alloc into site (Some size)) k e more = tt
      at (act.Compute into w) k e more = tt
      at (act.LoadCell into through) k e more = tt
      at (act.StoreCell through from) k e more = tt
      at act.Mark k e more = tt
      at (act.Call f arguments into) k e more = tt
      at (act.Library c arguments into) k e more = tt
      at (act.Jump to) k e more = tt
      at (act.Branch on then_at else_at) k e more = tt
      at (act.Return value) k e more = tt
      at (act.Take region) k e more = tt
      at (act.Give region) k e more = tt

  pub objects_have_sites : (g : ℕ) → HaveSites code g (objects_in code g)
  objects_have_sites g = have_sites g (instrs_in (slice_get code.functions g)) (λ i x e. (i, there (slice_get code.functions g) i x e))
    where
      there : (fn : Option Function) (i : ℕ) (x : Instr) → slice_get (instrs_in fn) i ≡ Some x → act_in (instr_in fn i) ≡ Some x.act
      there None i x e = cc
      there (Some fn) i x e = ap act_in e

  -- the objects with their pointers
  pub record Placed (made : List o.Object) (g : ℕ) (os : List Object) (from to : ℕ) (registers : List ℕ) : Type 0 where
    pub after : List o.Object
    pub lays : Lays code s t made from after to
    pub good : GoodRegisters code s after g (placed code.sites os from registers)

  -- a list of objects laid before those that are laid later
  lays_first : (made : List o.Object) (from : ℕ) (x : o.Object) (after : List o.Object) (to : ℕ) → x.base ≡ from → IsSized code x → from + x.cells ≤ arena_end code s t → Lays code s t (x ∷ made) (from + x.cells) after to → Lays code s t made from after to
  lays_first made from x after to b z le lays_none = lays_one made from x lays_none b z le
  lays_first made from x after to b z le (lays_one before at y l c k m) = lays_one before at y (lays_first made from x before at b z le l) c k m

  -- what is left to do once one object is laid
  abbrev PlacesRest : (made : List o.Object) (g into site : ℕ) → List Object → (from to : ℕ) → List ℕ → Type 0
  PlacesRest made g into site os from to registers =
      fitted code.sites (arena_end code s t) os (from + size_of code.sites site) ≡ Some to →
      GoodRegisters code s (new_object site from (size_of code.sites site) ∷ made) g (slice_set registers into (pointer_at site from (size_of code.sites site))) →
      Placed (new_object site from (size_of code.sites site) ∷ made) g os (from + size_of code.sites site) to (slice_set registers into (pointer_at site from (size_of code.sites site)))

  one_placed : (made : List o.Object) (g into site : ℕ) (os : List Object) (from to : ℕ) (registers : List ℕ) → MayPoint code (Register g into) (place site 0) → HasSite code site → GoodRegisters code s made g registers → from + size_of code.sites site ≤ arena_end code s t → fitted code.sites (arena_end code s t) os (from + size_of code.sites site) ≡ Some to → PlacesRest made g into site os from to registers → Placed made g (object into site ∷ os) from to registers
  one_placed made g into site os from to registers may has good le e2 again =
      let size = size_is_site code site has in
      let n = is_new code s t made (Register g into) site from (size_of code.sites site) low has (subst (λ k. 1 ≤ k) (sym size) has.some) (subst (λ k. k ≤ 65535) (sym size) has.few) (subst (λ k. k % has.site.layout.size ≡ 0) (sym size) (whole_size has.site.layout.size has.some)) le may in
      let new = new_object site from (size_of code.sites site) in
      let more = again e2 (good_set code s (new ∷ made) g registers into (pointer_at site from (size_of code.sites site)) (λ p. n.good) (good_registers_more code s made g new registers good)) in
      record { after = more.after; lays = lays_first made from new more.after to refl n.sized le more.lays; good = more.good }

  pub objects_placed : (made : List o.Object) (g : ℕ) (os : List Object) (from to : ℕ) (registers : List ℕ) → HaveSites code g os → fitted code.sites (arena_end code s t) os from ≡ Some to → GoodRegisters code s made g registers → Placed made g os from to registers
  objects_placed made g [] from to registers h e good = record { after = made; lays = subst (Lays code s t made from made) (same_Some from to e) lays_none; good = good }
  objects_placed made g (object into site ∷ os) from to registers h e good =
      at (nat_le (from + size_of code.sites site) (arena_end code s t)) refl e
      (λ e2 more. objects_placed (new_object site from (size_of code.sites site) ∷ made) g os (from + size_of code.sites site) to (slice_set registers into (pointer_at site from (size_of code.sites site))) h.2 e2 more)
    where
      at : (b : Bool) → nat_le (from + size_of code.sites site) (arena_end code s t) ≡ b → (if b then fitted code.sites (arena_end code s t) os (from + size_of code.sites site) else None) ≡ Some to → PlacesRest made g into site os from to registers → Placed made g (object into site ∷ os) from to registers
      at true b e2 again = one_placed made g into site os from to registers h.0 h.1 good (leb-true (from + size_of code.sites site) (arena_end code s t) b) e2 again
      at false b e2 again = cc

-- ---- constants

-- no constant is known after the instructions that make objects
object_first : (is : List Instr) (j : ℕ) → j < length (objects_of is) → (into : ℕ) × (site : ℕ) × (act_in (slice_get is j) ≡ Some (act.Alloc into site None))
object_first [] j lt = absurd (omega arith)
object_first (x ∷ is) j lt = at x.act refl j lt (λ k. object_first is k)
  where
    none : {P : Type 0} → j < 0 → P
    none lt = absurd (omega arith)

    at : (a : Act) → x.act ≡ a → (j : ℕ) → j < length (and_objects (object_of a) (objects_of is)) → ((k : ℕ) → k < length (objects_of is) → (into : ℕ) × (site : ℕ) × (act_in (slice_get is k) ≡ Some (act.Alloc into site None))) → (into : ℕ) × (site : ℕ) × (act_in (slice_get (x ∷ is) j) ≡ Some (act.Alloc into site None))
    at (act.Alloc into site None) e zero lt more = (into, site, ap (λ (y : Act). Some y) e)
    at (act.Alloc into site None) e (suc k) lt more = more k (omega arith)
    at (act.Alloc into site (Some size)) e j lt more = absurd (omega arith)
    at (act.Compute into w) e j lt more = absurd (omega arith)
    at (act.LoadCell into through) e j lt more = absurd (omega arith)
    at (act.StoreCell through from) e j lt more = absurd (omega arith)
    at act.Mark e j lt more = absurd (omega arith)
    at (act.Call f arguments into) e j lt more = absurd (omega arith)
    at (act.Library c arguments into) e j lt more = absurd (omega arith)
    at (act.Jump to) e j lt more = absurd (omega arith)
    at (act.Branch on then_at else_at) e j lt more = absurd (omega arith)
    at (act.Return value) e j lt more = absurd (omega arith)
    at (act.Take region) e j lt more = absurd (omega arith)
    at (act.Give region) e j lt more = absurd (omega arith)

no_constant : (is : List Instr) (k r : ℕ) (z : ℤ) → ((j : ℕ) → j < k → (into : ℕ) × (site : ℕ) × (act_in (slice_get is j) ≡ Some (act.Alloc into site None))) → constant_at is k r ≡ Some z → ⊥
no_constant is zero r z h e = cc
no_constant is (suc k) r z h e =
    let x = h k (omega arith) in
    at x.0 x.1 (begins_block is (suc k)) (subst (λ o. (if begins_block is (suc k) then None else if assigns r o then constant_of o else constant_at is k r) ≡ Some z) x.2 e) (no_constant is k r z (λ j lt. h j (omega arith)))
  where
    kept : (b : Bool) → (if b then None else constant_at is k r) ≡ Some z → (constant_at is k r ≡ Some z → ⊥) → ⊥
    kept true e more = cc
    kept false e more = more e

    at : (into site : ℕ) (b : Bool) → (if b then None else if assigns r (Some (act.Alloc into site None)) then constant_of (Some (act.Alloc into site None)) else constant_at is k r) ≡ Some z → (constant_at is k r ≡ Some z → ⊥) → ⊥
    at into site true e more = cc
    at into site false e more = kept (assigns r (Some (act.Alloc into site None))) e more

pub none_at_entry : (is : List Instr) (r : ℕ) (z : ℤ) → constant_at is (length (objects_of is)) r ≡ Some z → ⊥
none_at_entry is r z e = no_constant is (length (objects_of is)) r z (λ j lt. object_first is j lt) e
