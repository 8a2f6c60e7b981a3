-- The first loop that begins at the Mark of the innermost loop round an instruction is the one that is looked for.
use Rattle.std.proofs.Common.{◌≡◌, ℕ, suc, ◌≤◌, Bool, true, false, List, [], ◌∷◌, Some, None, refl, sym, ap, ◌∙◌, subst}
use Rattle.std.specs.Prelude.{◌==◌, ◌&&◌, nat_le, if◌then◌else◌}
use Rattle.std.proofs.lemmas.Bool.{le-leb, eqb-true, eqb-false}
use Rattle.std.proofs.lemmas.Option.{same_Some, none-some}
use Rattle.flow_code.specs.declared.act.Instr.{Instr}
use Rattle.flow_code.specs.declared.code.LoopInfo.{LoopInfo}
use Rattle.loop_bounds.specs.Tables.{is_calm, AreCalm, first_at}
use Rattle.weak_lock_facts.specs.Ranges.{mark_before, is_number, is_innermost, loop_round}

none_of : (a : Bool) → (a && false) ≡ false
none_of true = refl
none_of false = refl

passed_by : (is : List Instr) (k : ℕ) (l : LoopInfo) (ls : List LoopInfo) → is_innermost is k l ≡ false → loop_round is k (l ∷ ls) ≡ loop_round is k ls
passed_by is k l ls e = ap (λ b. if b && is_calm is l then Some l else loop_round is k ls) e

-- there is no loop round the instruction
pub no_round : (is : List Instr) (k : ℕ) (ls : List LoopInfo) → mark_before is k k ≡ None → loop_round is k ls ≡ None
no_round is k [] none = refl
no_round is k (l ∷ ls) none =
    passed_by is k l ls (ap (λ o. nat_le k l.last && is_number l.at o) none ∙ none_of (nat_le k l.last))
    ∙ no_round is k ls none

turned : (m n : ℕ) (b : Bool) → (n == m) ≡ b → (m == n) ≡ b
turned m n true e = subst (λ z. (z == n) ≡ true) (eqb-true n m e) (same n)
  where
    same : (n : ℕ) → (n == n) ≡ true
    same n = by (n == n) refl
      where
        by : (b : Bool) → (n == n) ≡ b → (n == n) ≡ true
        by true e = e
        by false e = absurd (eqb-false n n e refl)
turned m n false e = by (m == n) refl
  where
    by : (b : Bool) → (m == n) ≡ b → (m == n) ≡ false
    by true h = absurd (eqb-false n m e (sym (eqb-true m n h)))
    by false h = h

begins_as : (is : List Instr) (k m : ℕ) (l : LoopInfo) (b : Bool) → mark_before is k k ≡ Some m → (l.at == m) ≡ b → is_innermost is k l ≡ (nat_le k l.last && b)
begins_as is k m l b round e =
    ap (λ o. nat_le k l.last && is_number l.at o) round
    ∙ ap (λ z. nat_le k l.last && z) (turned m l.at b e)

begins_elsewhere : (is : List Instr) (k m : ℕ) (l : LoopInfo) (ls : List LoopInfo) → mark_before is k k ≡ Some m → (l.at == m) ≡ false → loop_round is k (l ∷ ls) ≡ loop_round is k ls
begins_elsewhere is k m l ls round e = passed_by is k l ls (begins_as is k m l false round e ∙ none_of (nat_le k l.last))

-- none of the loops begins at its Mark
pub no_head : (is : List Instr) (k m : ℕ) (ls : List LoopInfo) → mark_before is k k ≡ Some m → first_at ls m ≡ None → loop_round is k ls ≡ None
no_head is k m [] round none = refl
no_head is k m (l ∷ ls) round none = by (no_head is k m ls round) (l.at == m) refl none
  where
    by : (first_at ls m ≡ None → loop_round is k ls ≡ None) → (b : Bool) → (l.at == m) ≡ b → (if b then Some l else first_at ls m) ≡ None → loop_round is k (l ∷ ls) ≡ None
    by rest true e h = absurd (none-some l (sym h))
    by rest false e h = begins_elsewhere is k m l ls round e ∙ rest h

-- the first that begins there doesn't end in front of the instruction
pub head_round : (is : List Instr) (k m : ℕ) (l : LoopInfo) (ls : List LoopInfo) → mark_before is k k ≡ Some m → first_at ls m ≡ Some l → k ≤ l.last → AreCalm is ls → loop_round is k ls ≡ Some l
head_round is k m l [] round first le calm = absurd (none-some l first)
head_round is k m l (x ∷ ls) round first le calm = by (λ h. head_round is k m l ls round h le (λ j. calm (suc j))) (x.at == m) refl first
  where
    by : (first_at ls m ≡ Some l → loop_round is k ls ≡ Some l) → (b : Bool) → (x.at == m) ≡ b → (if b then Some x else first_at ls m) ≡ Some l → loop_round is k (x ∷ ls) ≡ Some l
    by rest true e h =
        let same = same_Some x l h in
        let inner : is_innermost is k x ≡ true = begins_as is k m x true round e ∙ ap (λ b. b && true) (subst (λ z. nat_le k z.last ≡ true) (sym same) (le-leb k l.last le)) in
        ap (λ b. if b && is_calm is x then Some x else loop_round is k ls) inner
        ∙ ap (λ b. if b then Some x else loop_round is k ls) (calm 0 x refl)
        ∙ h
    by rest false e h = begins_elsewhere is k m x ls round e ∙ rest h
