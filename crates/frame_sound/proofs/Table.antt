-- What the table answers to the operations whose answers a library call keeps.
use Rattle.std.proofs.Common.{◌≡◌, ℕ, ◌+◌, ◌-◌, ◌/◌, ◌^◌, ◌<◌, inl, inr, ◌==◌, Bool, true, false, if◌then◌else◌, ℤ, refl, subst, arith, nat_lt}
use Rattle.std.specs.Prelude.{◌&&◌}
use Rattle.std.proofs.lemmas.Bool.{lt-ltb}
use Rattle.std.proofs.lemmas.Nat.{pow_pos, mod_below, div-add-mod'}
use Rattle.sync_objects.specs.Advance.{Advances, after_move, advanced}
use Rattle.sync_objects.specs.Packing.{shown}
use Rattle.sync_objects.specs.States.{ThreadsState, Counts, BarrierState, Waits, StateOf}
use Rattle.sync_objects.specs.Table.{Move, NoRow, Moves, first_row, rows}
use Rattle.sync_objects.specs.Words.{state_of}
use Rattle.sync_objects.specs.declared.kind.ObjKind.{ObjKind}
use Rattle.sync_objects.specs.declared.kind.ObjKind.TheVariants as kind
use Rattle.sync_objects.specs.declared.operation.Op.{Op}
use Rattle.sync_objects.specs.declared.operation.Op.TheVariants as op
use Rattle.frame_sound.proofs.Calls.{OperationAnswers}

-- what a move answers
abbrev Says : {S : Type 0} → (ℤ → Type 0) → Move S → Type 0
Says P NoRow = Unit {0}
Says P (Moves after answer) = P answer

says : (P : ℤ → Type 0) (k : ObjKind) (word new : ℕ) (answer : ℤ) (m : Move (StateOf k)) → after_move k word m ≡ Advances new answer → Says P m → P answer
says P k word new answer NoRow e h = cc
says P k word new answer (Moves after a) e h = let same : a ≡ answer = cc in subst P same h

either : {S : Type 0} (P : ℤ → Type 0) (b : Bool) (x y : Move S) → (b ≡ true → Says P x) → (b ≡ false → Says P y) → Says P (if b then x else y)
either P true x y f g = f refl
either P false x y f g = g refl

draws : (n t : ℕ) (x : ThreadsState) → Says (OperationAnswers (op.Draw n)) (first_row (rows (op.Draw n) t) x)
draws n t (Counts d l) = either (OperationAnswers (op.Draw n)) (nat_lt d n) _ _ (λ e. inr e) (λ e. either (OperationAnswers (op.Draw n)) (d == n) _ _ (λ k. inl refl) (λ k. tt))

arrives : (t : ℕ) (x : BarrierState) (few : (c a g : ℕ) → x ≡ Waits c a g → g < 2 ^ 22) → Says (OperationAnswers op.Arrive) (first_row (rows op.Arrive t) x)
arrives t (Waits c a g) few =
    either (OperationAnswers op.Arrive) (c == 0) _ _ (λ e. refl)
    (λ e. either (OperationAnswers op.Arrive) ((a + 1 == c) && (g == 2 ^ 22 - 1)) _ _ (λ k. refl)
    (λ k. either (OperationAnswers op.Arrive) (a + 1 == c) _ _ (λ m. refl) (λ m. lt-ltb g (2 ^ 22) (few c a g refl))))

-- a generation has 22 bits
few_generations : (w : ℕ) → state_of w / 1024 < 2 ^ 22
few_generations w =
    let small = mod_below w (2 ^ 32) (pow_pos 32) in
    let parts = div-add-mod' (state_of w) 1024 in
    omega (arith, small, parts)

pub answers : (o : Op) (t word new : ℕ) (answer : ℤ) → advanced o t word ≡ Advances new answer → OperationAnswers o answer
unfolding advanced
answers (op.Draw n) t word new answer e = says (OperationAnswers (op.Draw n)) kind.Threads word new answer (first_row (rows (op.Draw n) t) (shown kind.Threads word)) e (draws n t (shown kind.Threads word))
answers op.CondEnter t word new answer e = says (OperationAnswers op.CondEnter) kind.Cond word new answer (first_row (rows op.CondEnter t) (shown kind.Cond word)) e (lt-ltb (state_of word) (2 ^ 32) (mod_below word (2 ^ 32) (pow_pos 32)))
answers op.Arrive t word new answer e =
    says (OperationAnswers op.Arrive) kind.Barrier word new answer (first_row (rows op.Arrive t) (shown kind.Barrier word)) e
    (arrives t (shown kind.Barrier word) (λ c a g h. (let same : state_of word / 1024 ≡ g = cc in subst (λ z. z < 2 ^ 22) same (few_generations word))))
answers _ t word new answer e = tt
