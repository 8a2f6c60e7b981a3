-- Calls, returns and exits keep what a thread keeps of its open regions.
use Rattle.std.proofs.Common.{◌≡◌, ℕ, suc, ◌+◌, ◌-◌, ◌<◌, true, false, pos, List, [], ◌∷◌, ◌++◌, length, map, take, refl, sym, ap, ◌∙◌, subst, arith, Option, Some, None, ⊎_elim}
use Rattle.std.specs.Prelude.{slice_get, ◌==◌}
use Rattle.std.proofs.lemmas.Bool.{cases_lt}
use Rattle.std.proofs.lemmas.Bool.Decides.{nat_tests}
use Rattle.std.proofs.lemmas.Option.{same_Some, slice_get_within}
use Rattle.sync_objects.specs.Setup.{SetupView}
use Rattle.flow_code.specs.declared.act.Act.{Act}
use Rattle.flow_code.specs.declared.act.Act.TheVariants as act
use Rattle.flow_code.specs.declared.code.Code.{Code}
use Rattle.flow_code.specs.Holding.{takes}
use Rattle.flow_code.specs.Next.{act_at, one_made, result_of}
use Rattle.flow_code.specs.Threads.{Frame, Thread, OpenRegion, instr_in, objects_in}
use Rattle.loop_bounds.specs.Turns.{Puts}
use Rattle.guard_paths.specs.Walked.{Opening, begins as walk_begins}
use Rattle.guard_paths.specs.Ways.{begins}
use Rattle.guard_paths.proofs.Guarded.{In}
use Rattle.guard_paths.proofs.Opened.{many}
use Rattle.guard_paths.proofs.Holdings.{is_of, Kept, is_call, functions_of, at_left, at_end, length_more, length_map, way_on, some_many}
use Rattle.open_regions.specs.OpenStripes.{is_exit}
use Rattle.open_regions.proofs.Walking.{OpenOnce, ActAt, Walks, walk_on}
use Rattle.open_regions.proofs.Promises.{promised, in_promised, exit_promised, both_true, Stands, Holds, HoldsBy, arrives}

empty : {X : Type 0} (x : X) → In x [] → ⊥
empty x (k, h) = cc

last_split : {X : Type 0} (xs : List X) (x : X) → slice_get xs (length xs - 1) ≡ Some x → take (length xs - 1) xs ++ x ∷ [] ≡ xs
last_split [] x h = cc
last_split (y ∷ []) x h = ap (λ z. z ∷ []) (sym (same_Some y x h))
last_split (y ∷ z ∷ zs) x h =
    let e : length (y ∷ z ∷ zs) - 1 ≡ suc (length (z ∷ zs) - 1) = omega arith in
    ap (λ n. take n (y ∷ z ∷ zs) ++ x ∷ []) e ∙ ap (λ u. y ∷ u) (last_split (z ∷ zs) x (ap (slice_get (y ∷ z ∷ zs)) (sym e) ∙ h))

module _ (code : Code) (s : SetupView) where
  -- ---- the end by pthread_exit

  -- nothing is kept there but the way
  pub exits : (below : List Frame) (f w : ℕ) (registers : List ℕ) (rs : List OpenRegion) (os : List Opening) → is_exit (ActAt code s f w) ≡ true → Walks code s f w registers os → Holds code s below f w registers rs
  exits below f w registers rs os e walk = record {
    top = record { opened = os; walked = walk; has = λ x i. absurd (empty x (subst (λ z. In x z) (exit_promised (ActAt code s f w) os e) i)) };
    others = λ n. absurd (both n);
    partly = λ q r i at re w le lt. absurd (no_take q at);
  }
    where
      both : is_exit (ActAt code s f w) ≡ false → ⊥
      both n = let z : true ≡ false = sym e ∙ n in cc

      no_take : (q : ℕ) → ActAt code s f w ≡ Some (act.Take q) → ⊥
      no_take q at = let z : false ≡ true = sym (ap is_exit at) ∙ e in cc

  -- ---- entering a function

  -- a frame begins with no region open
  pub enters : OpenOnce code → (below : List Frame) (g : ℕ) (registers : List ℕ) (rs : List OpenRegion) → ((x : OpenRegion) → In x rs → x.frame ≡ length below → ⊥) → ((m : ℕ) (h : Frame) → slice_get below m ≡ Some h → Stands code s m h.function h.instr h.registers rs None) → Holds code s below g (length (objects_in code g)) registers rs
  enters once below g registers rs anew others = record {
    top = record { opened = []; walked = walk_begins registers; has = λ x i. absurd (empty x (in_promised (ActAt code s g (length (objects_in code g))) x [] i)) };
    others = λ e. others;
    partly = arrives code s (length below) g (length (objects_in code g)) registers rs [] once begins (λ q x i t. absurd (anew x i (let u = (both_true (x.frame == length below) (takes (instr_in (slice_get code.functions g) x.instr) q) t).0 in grind (arith, nat_tests, u))));
  }

  pub called : OpenOnce code → (th : Thread) (g : ℕ) (arguments : List ℕ) (into : Option ℕ) (registers : List ℕ) → act_at code th.top ≡ Some (act.Call g arguments into) → Kept code th.below th.top.function th.top.instr th.regions th.stripes → HoldsBy code s th → Holds code s (th.below ++ one_made th.top (pos 0) ∷ []) g (length (objects_in code g)) registers th.regions
  called once th g arguments into registers at k h = enters once (th.below ++ top ∷ []) g registers th.regions anew others
    where
      top : Frame
      top = one_made th.top (pos 0)

      anew : (x : OpenRegion) → In x th.regions → x.frame ≡ length (th.below ++ top ∷ []) → ⊥
      anew x i e =
          let p = k.placed x i in
          omega (arith, slice_get_within (functions_of th.below th.top.function) x.frame p.0 p.2, length_more (map (λ (h : Frame). h.function) th.below) th.top.function, length_map (λ (h : Frame). h.function) th.below, e, length_more th.below top)

      caller : Stands code s (length th.below) th.top.function th.top.instr th.top.registers th.regions None
      caller = record { opened = h.top.opened; walked = h.top.walked; has = λ x i. h.top.has x (subst (λ z. In x z) (sym (ap (λ o. promised o h.top.opened) at)) i) }

      others : (m : ℕ) (u : Frame) → slice_get (th.below ++ top ∷ []) m ≡ Some u → Stands code s m u.function u.instr u.registers th.regions None
      others m u e = ⊎_elim
          (λ (lt : m < length th.below). h.others (ap is_exit at) m u (sym (at_left th.below (top ∷ []) m lt) ∙ e))
          (λ ge.
          let z : m ≡ length th.below = omega (arith, ge, slice_get_within (th.below ++ top ∷ []) m u e, length_more th.below top) in
          let y : top ≡ u = same_Some top u (sym (at_end th.below top) ∙ ap (slice_get (th.below ++ top ∷ [])) (sym z) ∙ e) in
          subst (λ (v : Frame). Stands code s m v.function v.instr v.registers th.regions None) y (subst (λ n. Stands code s n th.top.function th.top.instr th.top.registers th.regions None) (sym z) caller))
          (cases_lt m (length th.below))

  -- ---- a return

  pub back : OpenOnce code → (th : Thread) (value : Option ℕ) (g : Frame) (qs : List ℕ) → act_at code th.top ≡ Some (act.Return value) → slice_get th.below (length th.below - 1) ≡ Some g → Puts (result_of (act_at code g)) g.registers qs → Kept code th.below th.top.function th.top.instr th.regions th.stripes → HoldsBy code s th → Holds code s (take (length th.below - 1) th.below) g.function (g.instr + 1) qs th.regions
  back once th value g qs at e puts k h = by (act_at code g) refl (k.calls (length th.below - 1) g e)
    where
      rest : List Frame
      rest = take (length th.below - 1) th.below

      split : rest ++ g ∷ [] ≡ th.below
      split = last_split th.below g e

      long : length rest ≡ length th.below - 1
      long = omega (arith, ap (λ (z : List Frame). length z) split, length_more rest g)

      of_below : (m : ℕ) (u : Frame) → slice_get rest m ≡ Some u → slice_get th.below m ≡ Some u
      of_below m u q = ap (λ (z : List Frame). slice_get z m) (sym split) ∙ at_left rest (g ∷ []) m (slice_get_within rest m u q) ∙ q

      own : Stands code s (length rest) g.function g.instr g.registers th.regions None
      own = subst (λ n. Stands code s n g.function g.instr g.registers th.regions None) (sym long) (h.others (ap is_exit at) (length th.below - 1) g e)

      by : (o : Option Act) → act_at code g ≡ o → is_call o ≡ true → Holds code s rest g.function (g.instr + 1) qs th.regions
      by (Some (act.Call f arguments into)) is c = record {
        top = record {
          opened = own.opened;
          walked = walk_on code s g.function g.instr g.registers own.opened (act.Call f arguments into) (g.instr + 1) qs own.walked is (refl, subst (λ o. Puts (result_of o) g.registers qs) is puts);
          has = λ x i. own.has x (in_promised (ActAt code s g.function (g.instr + 1)) x own.opened i);
        };
        others = λ n m u q. h.others (ap is_exit at) m u (of_below m u q);
        partly = let o = k.others (length th.below - 1) g e in
            arrives code s (length rest) g.function (g.instr + 1) qs th.regions o.opened once (way_on code g.function g.instr o.opened (act.Call f arguments into) (g.instr + 1) o.way is (0, omega arith, refl))
            (λ r x i t. omega (arith, some_many (is_of code (length rest) g.function r) th.regions x i t, o.few r, ap (λ n. many (is_of code n g.function r) th.regions) long));
      }
      by _ is c = cc
