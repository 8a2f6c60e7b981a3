-- Instructions that fit their function at their places and jump onward or to a Mark.
use Rattle.std.proofs.Common.{◌≡◌, ℕ, ◌+◌, ◌<◌, true, ◌&&◌, nat_lt, List, [], ◌∷◌, ◌++◌, length, Some, slice_get, is_none, refl, ap, subst, arith}
use Rattle.std.proofs.lemmas.Bool.{and_from, or_left, or_right, lt-ltb}
use Rattle.flow_code.specs.declared.act.Act.{Act}
use Rattle.flow_code.specs.declared.act.Act.TheVariants as act
use Rattle.flow_code.specs.declared.act.Instr.{Instr}
use Rattle.flow_code.specs.declared.code.Code.{Code}
use Rattle.flow_code.specs.declared.code.Function.{Function}
use Rattle.flow_code.specs.declared.work.Work.{Work}
use Rattle.flow_code.specs.Threads.{object_of}
use Rattle.flow_code.specs.Next.{act_in}
use Rattle.flow_code.specs.Kinds.{has_register, has_instr, work_fits, act_fits}
use Rattle.flow_code.specs.Order.{is_mark, jump_fits, jumps_fit_at, jumps_fit, make_no_objects, makes_no_object}
use Rattle.flow_code.specs.Valid.{acts_fit}
use Rattle.rr_base.specs.declared.position.Position.{Position}
use Rattle.flow_lower.specs.Lowered.{instr}

module _ (code : Code) (f : Function) where
  pub record IsGood (at : ℕ) (a : Act) : Type 0 where
    pub fits : act_fits code f a ≡ true
    pub jumps : jumps_fit_at f.instrs at a ≡ true
    pub plain : is_none (object_of a) ≡ true

  -- these, from this place on
  abbrev pub AreGood : ℕ → List Instr → Type 0
  AreGood at [] = Unit {0}
  AreGood at (i ∷ is) = IsGood at i.act × AreGood (at + 1) is

  pub good_at : (at at' : ℕ) (is : List Instr) → at ≡ at' → AreGood at is → AreGood at' is
  good_at at at' is e h = subst (λ n. AreGood n is) e h

  pub good_append : (at n : ℕ) (is js : List Instr) → length is ≡ n → AreGood at is → AreGood (at + n) js → AreGood at (is ++ js)
  good_append at n [] js e h k = good_at (at + n) at js (omega (arith, e)) k
  good_append at n (i ∷ is) js e h k = (h.0, good_append (at + 1) (length is) is js refl h.1 (good_at (at + n) (at + 1 + length is) js (omega (arith, e)) k))

  -- ---- what that says of a list

  pub good_acts : (at : ℕ) (is : List Instr) → AreGood at is → acts_fit code f is ≡ true
  good_acts at [] h = refl
  good_acts at (i ∷ is) h = and_from (act_fits code f i.act) (acts_fit code f is) h.0.fits (good_acts (at + 1) is h.1)

  pub good_jumps : (at : ℕ) (is : List Instr) → AreGood at is → jumps_fit f.instrs at is ≡ true
  good_jumps at [] h = refl
  good_jumps at (i ∷ is) h = and_from (jumps_fit_at f.instrs at i.act) (jumps_fit f.instrs (at + 1) is) h.0.jumps (good_jumps (at + 1) is h.1)

  pub good_plain : (at : ℕ) (is : List Instr) → AreGood at is → make_no_objects is ≡ true
  good_plain at [] h = refl
  good_plain at (i ∷ is) h = and_from (makes_no_object i) (make_no_objects is) h.0.plain (good_plain (at + 1) is h.1)

  -- ---- instructions

  pub computed : (at into : ℕ) (w : Work) → work_fits code f into w ≡ true → IsGood at (act.Compute into w)
  computed at into w h = record { fits = h; jumps = refl; plain = refl }

  onward : (at to : ℕ) → at < to → jump_fits f.instrs at to ≡ true
  onward at to lt = or_left (nat_lt at to) (is_mark (act_in (slice_get f.instrs to))) (lt-ltb at to lt)

  backward : (at to : ℕ) (p : Position) → slice_get f.instrs to ≡ Some (instr p act.Mark) → jump_fits f.instrs at to ≡ true
  backward at to p e = or_right (nat_lt at to) (is_mark (act_in (slice_get f.instrs to))) (ap (λ i. is_mark (act_in i)) e)

  there : (to : ℕ) → to < length f.instrs → has_instr f to ≡ true
  there to lt = lt-ltb to (length f.instrs) lt

  pub jumps_on : (at to : ℕ) → at < to → to < length f.instrs → IsGood at (act.Jump to)
  jumps_on at to lt in' = record { fits = there to in'; jumps = onward at to lt; plain = refl }

  pub jumps_back : (at to : ℕ) (p : Position) → slice_get f.instrs to ≡ Some (instr p act.Mark) → to < length f.instrs → IsGood at (act.Jump to)
  jumps_back at to p e in' = record { fits = there to in'; jumps = backward at to p e; plain = refl }

  branch_fits : (on x y : ℕ) → has_register f on ≡ true → x < length f.instrs → y < length f.instrs → act_fits code f (act.Branch on x y) ≡ true
  branch_fits on x y h in_x in_y = and_from (has_register f on && has_instr f x) (has_instr f y) (and_from (has_register f on) (has_instr f x) h (there x in_x)) (there y in_y)

  pub branches_on : (at on x y : ℕ) → has_register f on ≡ true → at < x → at < y → x < length f.instrs → y < length f.instrs → IsGood at (act.Branch on x y)
  branches_on at on x y h lt_x lt_y in_x in_y = record { fits = branch_fits on x y h in_x in_y; jumps = and_from (jump_fits f.instrs at x) (jump_fits f.instrs at y) (onward at x lt_x) (onward at y lt_y); plain = refl }

  pub branches_back : (at on x y : ℕ) (p : Position) → has_register f on ≡ true → slice_get f.instrs x ≡ Some (instr p act.Mark) → at < y → x < length f.instrs → y < length f.instrs → IsGood at (act.Branch on x y)
  branches_back at on x y p h e lt_y in_x in_y = record { fits = branch_fits on x y h in_x in_y; jumps = and_from (jump_fits f.instrs at x) (jump_fits f.instrs at y) (backward at x p e) (onward at y lt_y); plain = refl }
