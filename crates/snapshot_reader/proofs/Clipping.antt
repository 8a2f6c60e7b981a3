-- One line whose numbers are cut off is judged as the line itself, and where it is as it must be nothing was cut off.
use Rattle.std.proofs.Common.{◌≡◌, ℕ, suc, ◌<◌, ◌≤◌, min, Bool, true, false, length, Option, refl, sym, ap, ◌∙◌, arith, ⊎_elim}
use Rattle.std.specs.Prelude.{◌&&◌, ◌==◌, nat_lt, nat_le, not}
use Rattle.std.proofs.lemmas.Bool.{and_parts, cases_lt, ltb-true, leb-true, le-ltb}
use Rattle.std.proofs.lemmas.Bool.Decides.{nat_tests}
use Rattle.sync_objects.specs.Setup.{SetupView}
use Rattle.sync_objects.specs.Names.{object_kind}
use Rattle.sync_objects.specs.Start.{start_word}
use Rattle.sync_objects.specs.Words.{word_of}
use Rattle.sync_objects.specs.declared.kind.ObjKind.{ObjKind}
use Rattle.sync_objects.specs.declared.object.ObjId.{ObjId}
use Rattle.sync_objects.specs.declared.object.ObjId.TheVariants as object
use Rattle.flow_code.specs.declared.code.Code.{Code}
use Rattle.core_run.specs.Kept.{most_operations}
use Rattle.core_run.specs.Words.{cells_of, has_object}
use Rattle.order_log.specs.Line.{clipped_object}
use Rattle.snapshots.specs.Conditions.{cell_fits, is_after, number_fits, object_fits, rank}
use Rattle.snapshot_lines.specs.Lines.{clipped_cell, clipped_entry, word_most}

-- ---- numbers

-- a number below a bound that its type can hold
pub clip_lt : (n bound most : ℕ) (P : ℕ → Bool) → bound ≤ most → (nat_lt n bound && P n) ≡ (nat_lt (min n most) bound && P (min n most))
clip_lt n bound most P le =
    ⊎_elim
    (λ lt. let same : min n most ≡ n = omega arith in ap (λ (z : ℕ). nat_lt z bound && P z) (sym same))
    (λ ge.
    let past : nat_lt n bound ≡ false = le-ltb n bound ge in
    let also_past : nat_lt (min n most) bound ≡ false = le-ltb (min n most) bound (omega arith) in
    (λ i. past i && P n) ∙ sym (λ i. also_past i && P (min n most)))
    (cases_lt n bound)

pub clip_lt_alone : (n bound most : ℕ) → bound ≤ most → nat_lt n bound ≡ nat_lt (min n most) bound
clip_lt_alone n bound most le =
    ⊎_elim (λ lt. let same : min n most ≡ n = omega arith in ap (λ (z : ℕ). nat_lt z bound) (sym same)) (λ ge. le-ltb n bound ge ∙ sym (le-ltb (min n most) bound (omega arith))) (cases_lt n bound)

le_as_lt : (n bound : ℕ) → nat_le n bound ≡ nat_lt n (suc bound)
le_as_lt n bound = grind (arith, nat_tests)

pub clip_le : (n bound most : ℕ) (P : ℕ → Bool) → bound < most → (nat_le n bound && P n) ≡ (nat_le (min n most) bound && P (min n most))
clip_le n bound most P lt =
    (λ i. le_as_lt n bound i && P n) ∙ clip_lt n (suc bound) most P (omega arith) ∙ sym (λ i. le_as_lt (min n most) bound i && P (min n most))

pub clip_le_alone : (n bound most : ℕ) → bound < most → nat_le n bound ≡ nat_le (min n most) bound
clip_le_alone n bound most lt = le_as_lt n bound ∙ clip_lt_alone n (suc bound) most (omega arith) ∙ sym (le_as_lt (min n most) bound)

-- from a bound on
pub clip_ge : (n bound most : ℕ) → bound ≤ most → nat_le bound n ≡ nat_le bound (min n most)
clip_ge n bound most le = grind (arith, nat_tests)

pub clip_eq : (n k most : ℕ) → k < most → (n == k) ≡ (min n most == k)
clip_eq n k most lt = grind (arith, nat_tests)

pub kept_lt : (n bound most : ℕ) → nat_lt n bound ≡ true → bound ≤ most → min n most ≡ n
kept_lt n bound most e le = let lt = ltb-true n bound e in omega arith

pub kept_le : (n bound most : ℕ) → nat_le n bound ≡ true → bound ≤ most → min n most ≡ n
kept_le n bound most e le = let lt = leb-true n bound e in omega arith

-- ---- cells

module _ (code : Code) (s : SetupView) (few : cells_of code s ≤ 4194304) where
  pub cell_same : (b : Option ℕ) (c : ℕ × ℕ) → cell_fits code s b c ≡ cell_fits code s b (clipped_cell c)
  cell_same b c = clip_lt c.0 (cells_of code s) word_most (λ n. is_after b n && not (c.1 == 0)) (omega arith)

  pub cell_kept : (b : Option ℕ) (c : ℕ × ℕ) → cell_fits code s b c ≡ true → clipped_cell c ≡ c
  cell_kept b c e =
      let p = and_parts (nat_lt c.0 (cells_of code s)) (is_after b c.0 && not (c.1 == 0)) e in
      let k = kept_lt c.0 (cells_of code s) word_most p.0 (omega arith) in
      λ i. (k i, c.1)

  -- ---- objects

  module _ (locks : length code.locks ≤ 65472) (slots : s.slots ≤ 16) where
    object_kept : (o : ObjId) → has_object code s o ≡ true → clipped_object o ≡ o
    object_kept (object.Mutex c) e = ap object.Mutex (kept_lt c (cells_of code s) 4294967295 e (omega arith))
    object_kept (object.Cond c) e = ap object.Cond (kept_lt c (cells_of code s) 4294967295 e (omega arith))
    object_kept (object.Barrier c) e = ap object.Barrier (kept_lt c (cells_of code s) 4294967295 e (omega arith))
    object_kept (object.Rw c) e = ap object.Rw (kept_lt c (cells_of code s) 4294967295 e (omega arith))
    object_kept (object.Weak l x) e =
        let p = and_parts (nat_lt l (length code.locks)) (nat_lt x 8) e in
        let a = kept_lt l (length code.locks) 65535 p.0 (omega arith) in
        let b = kept_lt x 8 255 p.1 (omega arith) in
        λ i. object.Weak (a i) (b i)
    object_kept (object.Slot k) e = ap object.Slot (kept_lt k s.slots 255 e (omega arith))
    object_kept object.Threads e = refl
    object_kept object.Halt e = refl
    object_kept object.Input e = refl
    object_kept object.Output e = refl

    object_there : (o : ObjId) → has_object code s o ≡ has_object code s (clipped_object o)
    object_there (object.Mutex c) = clip_lt_alone c (cells_of code s) 4294967295 (omega arith)
    object_there (object.Cond c) = clip_lt_alone c (cells_of code s) 4294967295 (omega arith)
    object_there (object.Barrier c) = clip_lt_alone c (cells_of code s) 4294967295 (omega arith)
    object_there (object.Rw c) = clip_lt_alone c (cells_of code s) 4294967295 (omega arith)
    object_there (object.Weak l x) =
        let a = clip_lt_alone l (length code.locks) 65535 (omega arith) in
        let b = clip_lt_alone x 8 255 (omega arith) in
        λ i. a i && b i
    object_there (object.Slot k) = clip_lt_alone k s.slots 255 (omega arith)
    object_there object.Threads = refl
    object_there object.Halt = refl
    object_there object.Input = refl
    object_there object.Output = refl

    -- the number of a state is far below the greatest of 32 bits
    module _ (low : (n x : ℕ) (k : ObjKind) → n ≤ most_operations → number_fits code s n k x ≡ true → x < 4294967295) where
      abbrev after : Option ℕ → ObjId → Bool
      after b o = is_after b (rank (cells_of code s) (length code.locks) o)

      abbrev rest_fits : ObjId → ℕ → ℕ → Bool
      rest_fits o n x = number_fits code s n (object_kind o) x && not (word_of n x == start_word o)

      rest_same : (o : ObjId) (n x : ℕ) → n ≤ most_operations → rest_fits o n x ≡ rest_fits o n (min x word_most)
      rest_same o n x few_n =
          ⊎_elim
          (λ lt. let same : min x word_most ≡ x = omega arith in ap (rest_fits o n) (sym same))
          (λ ge.
          let greatest : min x word_most ≡ 4294967295 = omega arith in
          never (number_fits code s n (object_kind o) x) (not (word_of n x == start_word o)) (λ t. let lt = low n x (object_kind o) few_n t in omega arith)
          ∙ sym (never (number_fits code s n (object_kind o) (min x word_most)) (not (word_of n (min x word_most) == start_word o)) (λ t. let lt = low n (min x word_most) (object_kind o) few_n t in omega arith)))
          (cases_lt x 4294967295)
        where
          never : (a b : Bool) → (a ≡ true → ⊥) → (a && b) ≡ false
          never true b h = absurd (h refl)
          never false b h = refl

      counted_same : (o : ObjId) (n x : ℕ) → (nat_le n most_operations && rest_fits o n x) ≡ (nat_le (min n word_most) most_operations && rest_fits o (min n word_most) (min x word_most))
      counted_same o n x = by (nat_le n most_operations) refl ∙ clip_le n most_operations word_most (λ m. rest_fits o m (min x word_most)) (omega arith)
        where
          by : (t : Bool) → nat_le n most_operations ≡ t → (nat_le n most_operations && rest_fits o n x) ≡ (nat_le n most_operations && rest_fits o n (min x word_most))
          by true e = ap (λ (z : Bool). nat_le n most_operations && z) (rest_same o n x (leb-true n most_operations e))
          by false e = (λ i. e i && rest_fits o n x) ∙ sym (λ i. e i && rest_fits o n (min x word_most))

      pub object_same : (b : Option ℕ) (o : ObjId × ℕ × ℕ) → object_fits code s b o ≡ object_fits code s b (clipped_entry o)
      object_same b o = by (has_object code s o.0) refl
        where
          by : (t : Bool) → has_object code s o.0 ≡ t → object_fits code s b o ≡ object_fits code s b (clipped_entry o)
          by true e =
              ap (λ (z : Bool). has_object code s o.0 && (after b o.0 && z)) (counted_same o.0 o.1 o.2)
              ∙ ap (λ (p : ObjId). has_object code s p && (after b p && (nat_le (min o.1 word_most) most_operations && rest_fits p (min o.1 word_most) (min o.2 word_most)))) (sym (object_kept o.0 e))
          by false e =
              (λ i. e i && (after b o.0 && (nat_le o.1 most_operations && rest_fits o.0 o.1 o.2)))
              ∙ sym (λ i. (sym (object_there o.0) ∙ e) i && (after b (clipped_object o.0) && (nat_le (min o.1 word_most) most_operations && rest_fits (clipped_object o.0) (min o.1 word_most) (min o.2 word_most))))

      pub entry_kept : (b : Option ℕ) (o : ObjId × ℕ × ℕ) → object_fits code s b o ≡ true → clipped_entry o ≡ o
      entry_kept b o e =
          let p = and_parts (has_object code s o.0) (after b o.0 && (nat_le o.1 most_operations && rest_fits o.0 o.1 o.2)) e in
          let q = and_parts (after b o.0) (nat_le o.1 most_operations && rest_fits o.0 o.1 o.2) p.1 in
          let r = and_parts (nat_le o.1 most_operations) (rest_fits o.0 o.1 o.2) q.1 in
          let u = and_parts (number_fits code s o.1 (object_kind o.0) o.2) (not (word_of o.1 o.2 == start_word o.0)) r.1 in
          let lt = low o.1 o.2 (object_kind o.0) (leb-true o.1 most_operations r.0) u.0 in
          let a = object_kept o.0 p.0 in
          let n = kept_le o.1 most_operations word_most r.0 (omega arith) in
          let x : min o.2 word_most ≡ o.2 = omega arith in
          λ i. (a i, n i, x i)
