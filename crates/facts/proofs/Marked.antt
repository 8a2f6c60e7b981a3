-- Where blocks begin.
use Rattle.std.proofs.Common.{◌≡◌, ℕ, zero, suc, ◌+◌, ◌<◌, ◌≤◌, Bool, true, false, List, [], ◌∷◌, ◌++◌, length, take, refl, sym, ap, ◌∙◌, subst, arith, ⊎_elim, Some, add-one}
use Rattle.std.specs.Prelude.{◌||◌, slice_get, slice_index_or}
use Rattle.std.proofs.Math.Seq.{get_or-append_seam}
use Rattle.std.proofs.lemmas.Bool.{cases_lt}
use Rattle.std.proofs.lemmas.List.{get_or_append_left}
use Rattle.std.proofs.lemmas.Option.{slice_get-get_or, same_Some}
use Rattle.flow_code.specs.declared.act.Instr.{Instr}
use Rattle.flow_code.specs.Next.{act_in}
use Rattle.facts.specs.Blocks.{ends_block, may_end_block, follows_end, goes_to, is_target, begins_block, AreStarts}

pub follows_next : (is : List Instr) (k : ℕ) (i : Instr) → slice_get is k ≡ Some i → follows_end is (k + 1) ≡ ends_block i.act
follows_next is k i h = subst (λ n. follows_end is n ≡ ends_block i.act) (sym (add-one k)) (ap (λ o. may_end_block (act_in o)) h)

-- one more of a row of answers
pub each_pushed : (xs : List Bool) (b : Bool) (f : ℕ → Bool) (n k : ℕ) → length xs ≡ n → ((j : ℕ) → j < n → slice_index_or xs j false ≡ f j) → b ≡ f n → k < n + 1 → slice_index_or (xs ++ b ∷ []) k false ≡ f k
each_pushed xs b f n k long each new lt =
    ⊎_elim
    (λ (l : k < n). get_or_append_left xs (b ∷ []) false k (omega arith) ∙ each k l)
    (λ (g : n ≤ k). let e : k ≡ length xs = omega arith in ap (λ j. slice_index_or (xs ++ b ∷ []) j false) e ∙ get_or-append_seam xs b [] false ∙ new ∙ ap f (sym long ∙ sym e))
    (cases_lt k n)

or_none : (a : Bool) → (a || false) ≡ a
or_none true = refl
or_none false = refl

or_after : (a b c : Bool) → ((a || b) || c) ≡ (a || (b || c))
or_after true b c = refl
or_after false b c = refl

target_next : (is : List Instr) (n k : ℕ) (i : Instr) → n < length is → slice_get is n ≡ Some i → is_target (take (n + 1) is) k ≡ (is_target (take n is) k || goes_to k i.act)
target_next [] n k i lt h = absurd (omega arith)
target_next (j ∷ is) zero k i lt h = or_none (goes_to k j.act) ∙ ap (λ (o : Instr). goes_to k o.act) (same_Some j i h)
target_next (j ∷ is) (suc n) k i lt h =
    let e : suc n + 1 ≡ suc (n + 1) = omega arith in
    ap (λ m. is_target (take m (j ∷ is)) k) e ∙ ap (λ b. goes_to k j.act || b) (target_next is n k i (omega arith) h) ∙ sym (or_after (goes_to k j.act) (is_target (take n is) k) (goes_to k i.act))

-- one instruction more has been looked at
pub target_marked : (is : List Instr) (n k : ℕ) (i : Instr) (old new first : Bool) → n < length is → slice_get is n ≡ Some i → new ≡ (old || goes_to k i.act) → old ≡ (first || is_target (take n is) k) → new ≡ (first || is_target (take (n + 1) is) k)
target_marked is n k i old new first lt h marked was = marked ∙ ap (λ b. b || goes_to k i.act) was ∙ or_after first (is_target (take n is) k) (goes_to k i.act) ∙ ap (λ b. first || b) (sym (target_next is n k i lt h))

pub are_starts : (is : List Instr) (starts : List Bool) → length starts ≡ length is → ((k : ℕ) → k < length is → slice_index_or starts k false ≡ begins_block is k) → AreStarts is starts
are_starts is starts long each k lt = slice_get-get_or starts k false (omega arith) ∙ ap Some (each k lt)

pub first_marked : (is : List Instr) (k : ℕ) (b : Bool) → b ≡ follows_end is k → b ≡ (follows_end is k || is_target (take 0 is) k)
first_marked is k b e = e ∙ sym (or_none (follows_end is k))

pub take_all : (is : List Instr) (n : ℕ) → length is ≤ n → take n is ≡ is
take_all [] zero le = refl
take_all [] (suc n) le = refl
take_all (i ∷ is) zero le = absurd (omega arith)
take_all (i ∷ is) (suc n) le = ap (λ z. i ∷ z) (take_all is n (omega arith))
