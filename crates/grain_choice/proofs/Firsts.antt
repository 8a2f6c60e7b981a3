-- The first instructions of blocks, from the front.
use Rattle.std.proofs.Common.{◌≡◌, ℕ, zero, suc, ◌+◌, ◌<◌, ◌≤◌, Bool, cond, List, [], ◌∷◌, ◌++◌, length, refl, sym, ap, subst, ◌∙◌, arith, Some, None, ⊎_elim, add-one}
use Rattle.std.specs.Prelude.{slice_get, slice_index_or}
use Rattle.std.proofs.Math.Seq.{get_or-append_seam}
use Rattle.std.proofs.lemmas.Bool.{cases_lt}
use Rattle.std.proofs.lemmas.List.{get_or_append_left}
use Rattle.std.proofs.lemmas.Option.{slice_get-get_or, same_Some}
use Rattle.flow_code.specs.declared.act.Instr.{Instr}
use Rattle.flow_code.specs.declared.code.Code.{Code}
use Rattle.flow_code.specs.declared.code.Function.{Function}
use Rattle.flow_code.specs.Threads.{instrs_in}
use Rattle.facts.specs.Blocks.{begins_block}
use Rattle.weak_lock_facts.specs.Grains.{block_at, instrs_of}
use Rattle.grain_choice.specs.Tables.{AreFirsts, HaveFirsts}

-- the block of the instruction before
abbrev pub block_before : List Instr → ℕ → ℕ
block_before is zero = zero
block_before is (suc k) = block_at is k

block_next : (is : List Instr) (k : ℕ) → block_at is k ≡ cond (begins_block is k) k (block_before is k)
block_next is zero = refl
block_next is (suc k) = refl

pub before_next : (is : List Instr) (k first : ℕ) → first ≡ block_at is k → first ≡ block_before is (k + 1)
before_next is k first e = e ∙ ap (λ n. block_before is n) (sym (add-one k))

pub first_next : (is : List Instr) (k first next : ℕ) (begins : Bool) → Some begins ≡ Some (begins_block is k) → first ≡ block_before is k → next ≡ cond begins k first → next ≡ block_at is k
first_next is k first next begins b e n = n ∙ ap (λ x. cond x k first) (same_Some begins (begins_block is k) b) ∙ ap (λ x. cond (begins_block is k) k x) e ∙ sym (block_next is k)

pub each_pushed : (xs : List ℕ) (x : ℕ) (f : ℕ → ℕ) (n k : ℕ) → length xs ≡ n → ((j : ℕ) → j < n → slice_index_or xs j 0 ≡ f j) → x ≡ f n → k < n + 1 → slice_index_or (xs ++ x ∷ []) k 0 ≡ f k
each_pushed xs x f n k long each new lt =
    ⊎_elim
    (λ (l : k < n). get_or_append_left xs (x ∷ []) 0 k (omega arith) ∙ each k l)
    (λ (g : n ≤ k). let e : k ≡ length xs = omega arith in ap (λ j. slice_index_or (xs ++ x ∷ []) j 0) e ∙ get_or-append_seam xs x [] 0 ∙ new ∙ ap f (sym long ∙ sym e))
    (cases_lt k n)

-- one more function
pub rows_pushed : (fns : List Function) (fn : Function) (rows : List (List ℕ)) (row : List ℕ) (n k : ℕ) → slice_get fns n ≡ Some fn → length rows ≡ n → ((j : ℕ) → j < n → AreFirsts (instrs_in (slice_get fns j)) (slice_index_or rows j [])) → AreFirsts fn.instrs row → k < n + 1 → AreFirsts (instrs_in (slice_get fns k)) (slice_index_or (rows ++ row ∷ []) k [])
rows_pushed fns fn rows row n k at long each new lt =
    ⊎_elim
    (λ (l : k < n). subst (λ (z : List ℕ). AreFirsts (instrs_in (slice_get fns k)) z) (sym (get_or_append_left rows (row ∷ []) [] k (omega arith))) (each k l))
    (λ (g : n ≤ k). let e : k ≡ length rows = omega arith in
    let f : n ≡ k = omega arith in
    subst (λ (z : List ℕ). AreFirsts (instrs_in (slice_get fns k)) z) (sym (ap (λ j. slice_index_or (rows ++ row ∷ []) j []) e ∙ get_or-append_seam rows row [] []))
    (subst (λ (z : List Instr). AreFirsts z row) (sym (ap (λ j. instrs_in (slice_get fns j)) (sym f) ∙ ap instrs_in at)) new))
    (cases_lt k n)

pub have_firsts : (code : Code) (rows : List (List ℕ)) (n : ℕ) → length code.functions ≤ n → length rows ≡ n → ((j : ℕ) → j < n → AreFirsts (instrs_in (slice_get code.functions j)) (slice_index_or rows j [])) → HaveFirsts code rows
have_firsts code rows n le long each = record { each = λ f. ⊎_elim (λ (l : f < n). each f l) (λ (g : n ≤ f). past f g) (cases_lt f n) }
  where
    none_at : {X : Type 0} (xs : List X) (f : ℕ) → length xs ≤ f → slice_get xs f ≡ None
    none_at [] f l = refl
    none_at (x ∷ xs) zero l = absurd (omega arith)
    none_at (x ∷ xs) (suc f) l = none_at xs f (omega arith)

    past_all : (xs : List (List ℕ)) (f : ℕ) → length xs ≤ f → slice_index_or xs f [] ≡ []
    past_all [] f l = refl
    past_all (x ∷ xs) zero l = absurd (omega arith)
    past_all (x ∷ xs) (suc f) l = past_all xs f (omega arith)

    empty : AreFirsts [] []
    empty = record { long = refl; each = λ k lt. absurd (omega arith) }

    past : (f : ℕ) → n ≤ f → AreFirsts (instrs_of code f) (slice_index_or rows f [])
    past f g =
        subst (λ (z : List ℕ). AreFirsts (instrs_of code f) z) (sym (past_all rows f (omega arith)))
        (subst (λ (z : List Instr). AreFirsts z []) (sym (ap instrs_in (none_at code.functions f (omega arith)))) empty)

pub first_in : (code : Code) (rows : List (List ℕ)) (f k : ℕ) → HaveFirsts code rows → k < length (instrs_of code f) → slice_get (slice_index_or rows f []) k ≡ Some (block_at (instrs_of code f) k)
first_in code rows f k have lt = let are = have.each f in slice_get-get_or (slice_index_or rows f []) k 0 (subst (λ n. k < n) (sym are.long) lt) ∙ ap Some (are.each k lt)
