-- What a computing instruction gives is good for its register.
use Rattle.std.proofs.Common.{◌≡◌, ℕ, ◌*◌, ◌&&◌, ◌||◌, nat_le, not, Bool, true, false, if◌then◌else◌, List, [], Option, Some, None, Result, Ok, Err, refl, sym, ap, subst, ◌∙◌, ℤ, pos, negsuc, ◌*ℤ◌, arith, eqb-true}
use Rattle.std.specs.Prelude.{slice_get}
use Rattle.std.specs.List.{Contains}
use Rattle.std.proofs.lemmas.Bool.{true≢false}
use Rattle.rr_base.specs.Words.{site_of}
use Rattle.rr_base.specs.declared.layout.Site.{Site}
use Rattle.rr_base.specs.declared.trap.Trap.{Trap}
use Rattle.rr_base.specs.declared.trap.Trap.TheVariants.{OutOfObject}
use Rattle.rr_base.proofs.WordLaws.{of_number-site}
use Rattle.sync_objects.specs.Setup.{SetupView}
use Rattle.word_semantics.specs.Operators.{based}
use Rattle.word_semantics.specs.Pointers.{moved, moved_by, directed}
use Rattle.word_semantics.specs.Registers.{register}
use Rattle.word_semantics.specs.Values.{number, word, fits}
use Rattle.flow_code.specs.declared.act.Act.TheVariants as act
use Rattle.flow_code.specs.declared.code.Code.{Code}
use Rattle.flow_code.specs.declared.code.Function.{Function}
use Rattle.flow_code.specs.declared.work.Work.{Work}
use Rattle.flow_code.specs.declared.work.Work.TheVariants as work
use Rattle.flow_code.specs.Kinds.{has_register, has_pointer, has_whole, same_register_kind, is_null, work_fits}
use Rattle.word_semantics.specs.Kinds.{is_comparison}
use Rattle.flow_code.specs.Threads.{instrs_in}
use Rattle.flow_code.specs.Valid.{is_valid}
use Rattle.flow_code.specs.Works.{is_pointer, work_of}
use Rattle.flow_code.proofs.ValidParts.{left, right}
use Rattle.facts.specs.Blocks.{constant_at}
use Rattle.facts.specs.PointsTo.{move_constraint, constraints_of}
use Rattle.facts.specs.declared.constraint.Constraint.TheVariants.{Included, Shifted}
use Rattle.facts.specs.declared.constraint.Node.TheVariants.{Register}
use Rattle.points_to_sound.specs.Objects.{Object, IsObject, IsSized}
use Rattle.points_to_sound.specs.Pointing.{act_of, IsGood, nowhere}
use Rattle.points_to_sound.proofs.Finding.{first_of, constraint_of}
use Rattle.points_to_sound.proofs.Fitting.{pointer_is, whole_is, same_kind_is}
use Rattle.points_to_sound.proofs.Moving.{good_included, good_shifted, good_strided}

null_is : (z : ℤ) → is_null z ≡ true → z ≡ pos 0
null_is (pos n) h = ap pos (eqb-true n 0 h)
null_is (negsuc n) h = cc

or_not : (a b : Bool) → (a || not b) ≡ true → b ≡ true → a ≡ true
or_not true b h e = refl
or_not false true h e = cc
or_not false false h e = cc

null_nowhere : site_of (word (pos 0)) ≡ 0
null_nowhere = refl

pub same_ok : (v w : ℕ) (r : Result ℕ Trap) → r ≡ Ok v → r ≡ Ok w → v ≡ w
same_ok v w r e f = cc

moved_ok : (sites : List Site) (w q : ℕ) (z : ℤ) → moved_by sites w z ≡ Ok q → moved sites w z ≡ Ok q
moved_ok sites w q z h = by (fits z) h
  where
    by : (b : Bool) → (if b then moved sites w z else Err OutOfObject) ≡ Ok q → moved sites w z ≡ Ok q
    by true e = e
    by false e = cc

one_time : (n : ℕ) → pos n *ℤ pos 1 ≡ pos n
one_time n = ap pos (by n)
  where
    by : (n : ℕ) → n * 1 ≡ n
    by n = omega arith

module _ (code : Code) (s : SetupView) (made : List Object) (valid : is_valid code ≡ true) (sized : (o : Object) → IsObject code s made o → IsSized code o) where
  module _ (f k into : ℕ) (fn : Function) (registers : List ℕ) (good : (r : ℕ) → is_pointer fn.pointers r ≡ true → IsGood code s made (Register f r) (register registers r)) (gets : is_pointer fn.pointers into ≡ true) where
    no_pointer : {P : Type 0} → has_whole fn into ≡ true → P
    no_pointer h = absurd (true≢false (sym gets ∙ whole_is fn into h))

    moves : (r by element : ℕ) (back : Bool) (q : ℕ) (o : Option ℤ) → is_pointer fn.pointers r ≡ true → Contains (constraints_of code) (move_constraint (Register f r) (Register f into) o element back) → ((z : ℤ) → o ≡ Some z → number (register registers by) ≡ z) → moved code.sites (register registers r) (directed back (number (register registers by)) *ℤ pos element) ≡ Ok q → IsGood code s made (Register f into) q
    moves r by element back q None p c h e = good_strided code s made valid sized (Register f r) (Register f into) (register registers r) q (directed back (number (register registers by))) element c e (good r p)
    moves r by element back q (Some z) p c h e =
        good_shifted code s made valid sized (Register f r) (Register f into) (register registers r) q z element back c
        (subst (λ y. moved code.sites (register registers r) (directed back y *ℤ pos element) ≡ Ok q) (h z refl) e) (good r p)

    -- the work's word, where it goes to a pointer
    pub work_good : (w : Work) (q : ℕ) → work_fits code fn into w ≡ true → act_of code f k ≡ Some (act.Compute into w) →
        ((a : ℕ) → w ≡ work.Address a → IsGood code s made (Register f into) (based s.slots a)) →
        ((r : ℕ) (z : ℤ) → constant_at (instrs_in (slice_get code.functions f)) k r ≡ Some z → number (register registers r) ≡ z) →
        work_of s.slots code.sites fn.pointers registers w ≡ Ok q → IsGood code s made (Register f into) q
    work_good (work.Constant z) q fit at address constants e =
        let null = null_is z (or_not (is_null z) (is_pointer fn.pointers into) (right (has_register fn into) (is_null z || not (is_pointer fn.pointers into)) fit) gets) in
        nowhere (ap site_of (sym (same_ok (word z) q (Ok (word z)) refl e) ∙ ap word null) ∙ null_nowhere)
    work_good (work.Address a) q fit at address constants e = subst (IsGood code s made (Register f into)) (same_ok (based s.slots a) q (Ok (based s.slots a)) refl e) (address a refl)
    work_good (work.Copy r) q fit at address constants e =
        subst (IsGood code s made (Register f into)) (same_ok (register registers r) q (Ok (register registers r)) refl e)
        (good_included code s made (Register f r) (Register f into) (register registers r)
        (constraint_of code f k (act.Compute into (work.Copy r)) (Included (Register f r) (Register f into)) at (first_of (Included (Register f r) (Register f into)) []))
        (good r (same_kind_is fn into r fit ∙ gets)))
    work_good (work.Minus r) q fit at address constants e = no_pointer (left (has_whole fn into) (has_whole fn r) fit)
    work_good (work.Complement r) q fit at address constants e = no_pointer (left (has_whole fn into) (has_whole fn r) fit)
    work_good (work.Not r) q fit at address constants e = no_pointer (left (has_whole fn into) (has_register fn r) fit)
    work_good (work.Binary o a b) q fit at address constants e = no_pointer (left (has_whole fn into) (not (is_pointer fn.pointers a) || is_comparison o) (left (has_whole fn into && (not (is_pointer fn.pointers a) || is_comparison o)) (same_register_kind fn a b) fit))
    work_good (work.Move r by element back) q fit at address constants e =
        let c = constant_at (instrs_in (slice_get code.functions f)) k by in
        moves r by element back q c
        (pointer_is fn r (right (has_pointer fn into) (has_pointer fn r) (left (has_pointer fn into && has_pointer fn r) (has_whole fn by) (left (has_pointer fn into && has_pointer fn r && has_whole fn by) (nat_le 1 element) fit))))
        (constraint_of code f k (act.Compute into (work.Move r by element back)) (move_constraint (Register f r) (Register f into) c element back) at (first_of (move_constraint (Register f r) (Register f into) c element back) []))
        (λ z. constants by z)
        (moved_ok code.sites (register registers r) q (directed back (number (register registers by)) *ℤ pos element) e)
    work_good (work.Member r by) q fit at address constants e =
        good_shifted code s made valid sized (Register f r) (Register f into) (register registers r) q (pos by) 1 false
        (constraint_of code f k (act.Compute into (work.Member r by)) (Shifted (Register f r) (Register f into) (pos by) 1 false) at (first_of (Shifted (Register f r) (Register f into) (pos by) 1 false) []))
        (subst (λ y. moved code.sites (register registers r) y ≡ Ok q) (sym (one_time by)) e)
        (good r (pointer_is fn r (right (has_pointer fn into) (has_pointer fn r) fit)))
    work_good (work.Between a b element) q fit at address constants e = no_pointer (left (has_whole fn into) (has_pointer fn a) (left (has_whole fn into && has_pointer fn a) (has_pointer fn b) (left (has_whole fn into && has_pointer fn a && has_pointer fn b) (nat_le 1 element) fit)))
    work_good (work.ToPointer r) q fit at address constants e = nowhere (of_number-site (number (register registers r)) q e)
    work_good (work.ToNumber r) q fit at address constants e = no_pointer (left (has_whole fn into) (has_pointer fn r) fit)
