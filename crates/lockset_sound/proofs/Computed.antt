-- What an instruction that computes leaves in its register is what is known of it.
use Rattle.std.proofs.Common.{◌≡◌, ℕ, ◌<◌, ◌≤◌, ◌^◌, ◌&&◌, ◌||◌, not, Bool, true, false, if◌then◌else◌, ℤ, pos, negsuc, ◌+ℤ◌, ◌*ℤ◌, List, length, Option, Some, None, Ok, Err, refl, sym, ap, subst, ◌∙◌, arith, eqb-true, eq-eqb, to_z-of_z, ltb-true}
use Rattle.std.specs.Prelude.{slice_set}
use Rattle.std.specs.Int.{w64}
use Rattle.std.proofs.lemmas.Bool.{and_parts, true≢false}
use Rattle.std.proofs.lemmas.Option.{same_Some}
use Rattle.std.proofs.lemmas.List.{length-set}
use Rattle.rr_base.specs.Words.{base_of}
use Rattle.rr_base.specs.declared.trap.Trap.TheVariants.{OutOfObject}
use Rattle.rr_base.specs.declared.layout.Site.{Site}
use Rattle.word_semantics.specs.Operators.{based}
use Rattle.word_semantics.specs.Pointers.{moved, moved_by, directed}
use Rattle.word_semantics.specs.Registers.{register}
use Rattle.word_semantics.specs.Values.{number, word, fits}
use Rattle.flow_code.specs.declared.act.Act.{Act}
use Rattle.flow_code.specs.declared.act.Act.TheVariants as act
use Rattle.flow_code.specs.declared.code.Code.{Code}
use Rattle.flow_code.specs.declared.code.Function.{Function}
use Rattle.flow_code.specs.declared.work.Work.{Work}
use Rattle.flow_code.specs.declared.work.Work.TheVariants as work
use Rattle.flow_code.specs.Addresses.{is_address}
use Rattle.flow_code.specs.Constants.{constant_fits}
use Rattle.flow_code.specs.Kinds.{has_register, has_pointer, has_whole, has_kind, work_fits}
use Rattle.word_semantics.specs.Kinds.{is_comparison}
use Rattle.flow_code.specs.Valid.{is_valid}
use Rattle.flow_code.specs.Works.{work_of, is_pointer}
use Rattle.facts.specs.Blocks.{assigned, assigns, is_register, constant_of}
use Rattle.facts.specs.Paths.{Root, global, Known, known_on, known_on_by, at_cells, known_of}
use Rattle.lockset_sound.proofs.Addresses.{moved_after, based_address}
use Rattle.lockset_sound.proofs.Known.{set_same, set_other, IsAfter, IsKnown, Changes, known_to, known_before, constant_before}

-- ---- registers

pub changes_none : (code : Code) (slots : ℕ) (f : Function) (k : ℕ) (a : Act) (rs : List ℕ) → assigned a ≡ None → Changes code slots f k a rs rs
changes_none code slots f k a rs e = record {
  long = refl;
  others = λ r n. refl;
  gives = λ r n s g. absurd (true≢false (sym s ∙ ap (is_register r) e));
  constant = λ r z s g. absurd (true≢false (sym s ∙ ap (is_register r) e));
}

pub changes_set : (code : Code) (slots : ℕ) (f : Function) (k : ℕ) (a : Act) (rs : List ℕ) (into v : ℕ) → assigned a ≡ Some into → into < length rs → ((n : Known) → known_of (known_before f k) (constant_before f k) (Some a) ≡ Some n → IsAfter code slots f rs n v) → ((z : ℤ) → constant_of (Some a) ≡ Some z → number v ≡ z) → Changes code slots f k a rs (slice_set rs into v)
changes_set code slots f k a rs into v e lt h c = record {
  long = length-set rs into v;
  others = λ r n. set_other rs into v r (λ same. true≢false (sym (eq-eqb into r (sym same)) ∙ sym (ap (is_register r) e) ∙ n));
  gives = λ r n s g. subst (IsAfter code slots f rs n) (sym (here r s)) (h n g);
  constant = λ r z s g. ap number (here r s) ∙ c z g;
}
  where
    here : (r : ℕ) → assigns r (Some a) ≡ true → register (slice_set rs into v) r ≡ v
    here r s = ap (register (slice_set rs into v)) (sym (eqb-true into r (sym (ap (is_register r) e) ∙ s))) ∙ set_same rs into v lt

-- ---- what works give

module _ (code : Code) (f : Function) (into : ℕ) where
  pointer_there : (r : ℕ) → has_pointer f r ≡ true → has_register f r ≡ true
  pointer_there r h = (and_parts (has_register f r) (is_pointer f.pointers r) h).0

  whole_there : (r : ℕ) → has_whole f r ≡ true → has_register f r ≡ true
  whole_there r h = (and_parts (has_register f r) (not (is_pointer f.pointers r)) h).0

  pub into_there : (w : Work) → work_fits code f into w ≡ true → has_register f into ≡ true
  into_there (work.Constant z) h = (and_parts (has_register f into) _ h).0
  into_there (work.Address w) h = pointer_there into (and_parts (has_pointer f into) _ h).0
  into_there (work.Copy r) h = (and_parts (has_kind f (is_pointer f.pointers into) r) (has_register f into) h).1
  into_there (work.Minus r) h = whole_there into (and_parts (has_whole f into) _ h).0
  into_there (work.Complement r) h = whole_there into (and_parts (has_whole f into) _ h).0
  into_there (work.Not r) h = whole_there into (and_parts (has_whole f into) _ h).0
  into_there (work.Binary o left right) h = whole_there into (and_parts (has_whole f into) _ (and_parts (has_whole f into && (not (is_pointer f.pointers left) || is_comparison o)) _ h).0).0
  into_there (work.Move pointer by element back) h = pointer_there into (and_parts (has_pointer f into) _ (and_parts (has_pointer f into && has_pointer f pointer) _ (and_parts (has_pointer f into && has_pointer f pointer && has_whole f by) _ h).0).0).0
  into_there (work.Member pointer by) h = pointer_there into (and_parts (has_pointer f into) _ h).0
  into_there (work.Between left right element) h = whole_there into (and_parts (has_whole f into) _ (and_parts (has_whole f into && has_pointer f left) _ (and_parts (has_whole f into && has_pointer f left && has_pointer f right) _ h).0).0).0
  into_there (work.ToPointer r) h = pointer_there into (and_parts (has_pointer f into) _ h).0
  into_there (work.ToNumber r) h = whole_there into (and_parts (has_whole f into) _ h).0

at_is : (x : Root) (z : ℤ) (n : Known) → at_cells x z ≡ Some n → (c : ℕ) × (z ≡ pos c) × (n ≡ known_to x c)
at_is x (pos c) n e = (c, refl, sym (same_Some (known_to x c) n e))
at_is x (negsuc c) n e = cc

-- a pointer that moves
on_known : (code : Code) (slots : ℕ) (f : Function) (rs : List ℕ) (sites : List Site) (m n : Known) (d : ℤ) (w v : ℕ) → IsAfter code slots f rs m w → known_on (Some m) d ≡ Some n → moved sites w d ≡ Ok v → IsAfter code slots f rs n v
on_known code slots f rs sites m n d w v h e g =
    let a = at_is m.root (pos m.cells +ℤ d) n e in
    let b = moved_after sites h.root m.cells v a.0 d h.near (subst (λ z. moved sites z d ≡ Ok v) h.word g) a.1 in
    subst (λ z. IsAfter code slots f rs z v) (sym a.2) (record { root = h.root; is = h.is; word = b.0; near = b.1 })

moved_by_is : (sites : List Site) (w v : ℕ) (d : ℤ) → moved_by sites w d ≡ Ok v → moved sites w d ≡ Ok v
moved_by_is sites w v d h = by (fits d) h
  where
    by : (b : Bool) → (if b then moved sites w d else Err OutOfObject) ≡ Ok v → moved sites w d ≡ Ok v
    by true g = g
    by false g = cc

fits_number : (z : ℤ) → fits z ≡ true → number (word z) ≡ z
fits_number (pos n) h = to_z-of_z {w = w64} (record { sfits = ltb-true n (2 ^ 63) h })
fits_number (negsuc n) h = to_z-of_z {w = w64} (record { sfits = ltb-true n (2 ^ 63) h })

module _ (code : Code) (slots : ℕ) (few : slots ≤ 16) (valid : is_valid code ≡ true) (f : Function) (k into : ℕ) (rs : List ℕ) (h : IsKnown code slots f k rs) where
  through_moved : (o : Option Known) (r v : ℕ) (d : ℤ) (n : Known) → known_before f k r ≡ o → known_on o d ≡ Some n → moved code.sites (register rs r) d ≡ Ok v → IsAfter code slots f rs n v
  through_moved None r v d n e g i = cc
  through_moved (Some m) r v d n e g i = on_known code slots f rs code.sites m n d (register rs r) v (h.words r m e) g i

  through_index : (o : Option ℤ) (r by element v : ℕ) (back : Bool) (n : Known) → constant_before f k by ≡ o → known_on_by (known_before f k r) o element back ≡ Some n → moved_by code.sites (register rs r) (directed back (number (register rs by)) *ℤ pos element) ≡ Ok v → IsAfter code slots f rs n v
  through_index None r by element v back n e g i = cc
  through_index (Some z) r by element v back n e g i =
      let same = h.constants by z e in
      through_moved (known_before f k r) r v (directed back z *ℤ pos element) n refl g
      (subst (λ y. moved code.sites (register rs r) (directed back y *ℤ pos element) ≡ Ok v) same (moved_by_is code.sites (register rs r) v (directed back (number (register rs by)) *ℤ pos element) i))

  known_work : (w : Work) (v : ℕ) (n : Known) → work_fits code f into w ≡ true → work_of slots code.sites f.pointers rs w ≡ Ok v → known_of (known_before f k) (constant_before f k) (Some (act.Compute into w)) ≡ Some n → IsAfter code slots f rs n v
  known_work (work.Address w) v n fit g e =
      let based_is = based_address code slots w few valid (and_parts (has_pointer f into) (is_address code w) fit).1 in
      let same : based slots w ≡ v = cc in
      subst (λ z. IsAfter code slots f rs z v) (same_Some (known_to (global (base_of w)) 0) n e)
      (subst (λ z. IsAfter code slots f rs (known_to (global (base_of w)) 0) z) same (record { root = based slots w; is = record { base = based_is.base; front = based_is.front; kinds = based_is.kinds }; word = omega arith; near = (let front = based_is.front in omega arith) }))
  known_work (work.Copy r) v n fit g e = let same : register rs r ≡ v = cc in subst (IsAfter code slots f rs n) same (h.words r n e)
  known_work (work.Member r by) v n fit g e = through_moved (known_before f k r) r v (pos by) n refl e g
  known_work (work.Move r by element back) v n fit g e = through_index (constant_before f k by) r by element v back n refl e g
  known_work _ v n fit g e = cc

  constant_work : (w : Work) (v : ℕ) (z : ℤ) → constant_fits (act.Compute into w) ≡ true → work_of slots code.sites f.pointers rs w ≡ Ok v → constant_of (Some (act.Compute into w)) ≡ Some z → number v ≡ z
  constant_work (work.Constant y) v z fit g e =
      let same : word y ≡ v = cc in
      let is : y ≡ z = cc in
      ap number (sym same) ∙ fits_number y fit ∙ is
  constant_work _ v z fit g e = cc

  pub computes : (w : Work) (v : ℕ) → work_fits code f into w ≡ true → constant_fits (act.Compute into w) ≡ true → work_of slots code.sites f.pointers rs w ≡ Ok v → Changes code slots f k (act.Compute into w) rs (slice_set rs into v)
  computes w v fit fit2 g = changes_set code slots f k (act.Compute into w) rs into v refl (subst (λ n. into < n) (sym h.long) (ltb-true into f.registers (into_there code f into w fit))) (λ n e. known_work w v n fit g e) (λ z e. constant_work w v z fit2 g e)
