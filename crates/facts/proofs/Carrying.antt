-- What is carried on from instruction to instruction, and the lists of names.
use Rattle.std.proofs.Common.{◌≡◌, ℕ, zero, suc, ◌+◌, ◌<◌, ◌≤◌, Bool, false, ℤ, pos, List, [], ◌∷◌, ◌++◌, length, get_or, drop, map, refl, sym, ap, ◌∙◌, subst, ⊎_elim, arith, Option, Some, None, add-one, append_assoc}
use Rattle.std.specs.Prelude.{if◌then◌else◌, ◌&&◌, slice_get, slice_index_or}
use Rattle.std.proofs.lemmas.Bool.{cases_lt, lt-ltb, le-ltb}
use Rattle.std.proofs.lemmas.List.{get_or_past}
use Rattle.std.proofs.lemmas.Option.{same_Some, none-some, slice_get-get_or}
use Rattle.flow_code.specs.declared.act.Act.{Act}
use Rattle.flow_code.specs.declared.act.Act.TheVariants as act
use Rattle.flow_code.specs.declared.act.Instr.{Instr}
use Rattle.flow_code.specs.declared.code.Function.{Function}
use Rattle.flow_code.specs.declared.work.Work.TheVariants as work
use Rattle.flow_code.specs.Next.{act_in}
use Rattle.facts.specs.Blocks.{begins_block, assigns, constant_of, constant_at, constant_of_register, amount_register, amount_by, amount_at, AreStarts}
use Rattle.facts.specs.Carried.{AreFixed, formal_in}
use Rattle.facts.specs.declared.locks.Naming.{Naming}
use Rattle.facts.specs.Paths.{formal, Known, known_on, known_on_by, known_of, known_formal, known_at, naming_of, naming_at, namings_from, arguments_of, is_never_assigned}

pub start_is : (is : List Instr) (starts : List Bool) (k : ℕ) (d : Bool) → AreStarts is starts → k < length is → length starts ≡ length is → slice_index_or starts k d ≡ begins_block is k
start_is is starts k d all lt long = sym (same_Some (begins_block is k) (slice_index_or starts k d) (sym (all k lt) ∙ slice_get-get_or starts k d (omega arith)))

-- ---- constants

pub constants_entered : (is : List Instr) (k : ℕ) (b : Bool) (brought held : ℕ → Option ℤ) → b ≡ begins_block is k → ((r : ℕ) → held r ≡ (if b then None else brought r)) → ((r : ℕ) → (if begins_block is k then None else brought r) ≡ constant_at is k r) → (r : ℕ) → held r ≡ constant_at is k r
constants_entered is k b brought held same enters was r = enters r ∙ ap (λ x. if x then None else brought r) same ∙ was r

pub constants_next : (is : List Instr) (k : ℕ) (i : Instr) (held following : ℕ → Option ℤ) → slice_get is k ≡ Some i → ((r : ℕ) → held r ≡ constant_at is k r) → ((r : ℕ) → following r ≡ (if assigns r (Some i.act) then constant_of (Some i.act) else held r)) → (r : ℕ) → (if begins_block is (k + 1) then None else following r) ≡ constant_at is (k + 1) r
constants_next is k i held following there was passed r =
    subst (λ n. (if begins_block is n then None else following r) ≡ constant_at is n r) (sym (add-one k))
    (ap (λ x. if begins_block is (suc k) then None else x)
    (passed r ∙ ap (λ x. if assigns r (Some i.act) then constant_of (Some i.act) else x) (was r) ∙ ap (λ o. if assigns r (act_in o) then constant_of (act_in o) else constant_at is k r) (sym there)))

register_same : (f g : ℕ → Option ℤ) → ((r : ℕ) → f r ≡ g r) → (o : Option ℕ) → constant_of_register f o ≡ constant_of_register g o
register_same f g h None = refl
register_same f g h (Some r) = h r

pub amount_here : (is : List Instr) (k : ℕ) (i : Instr) (held : ℕ → Option ℤ) (amount : Option ℤ) → slice_get is k ≡ Some i → ((r : ℕ) → held r ≡ constant_at is k r) → amount ≡ amount_by held (Some i.act) → amount ≡ amount_at is k
amount_here is k i held amount there was new = new ∙ register_same held (constant_at is k) was (amount_register (Some i.act)) ∙ ap (λ o. amount_by (constant_at is k) (act_in o)) (sym there)

pub amount_of : (is : List Instr) (amounts : List (Option ℤ)) (k : ℕ) (i : Instr) (amount : Option ℤ) → slice_get is k ≡ Some i → slice_get amounts k ≡ Some (amount_at is k) → slice_get amounts k ≡ Some amount → amount ≡ amount_by (constant_at is k) (Some i.act)
amount_of is amounts k i amount there all here = same_Some amount (amount_at is k) (sym here ∙ all) ∙ ap (λ o. amount_by (constant_at is k) (act_in o)) there

-- one more of a row of amounts
pub amounts_pushed : (is : List Instr) (amounts : List (Option ℤ)) (k j : ℕ) (amount : Option ℤ) → length amounts ≡ k → ((n : ℕ) → n < k → slice_get amounts n ≡ Some (amount_at is n)) → amount ≡ amount_at is k → j < k + 1 → slice_get (amounts ++ amount ∷ []) j ≡ Some (amount_at is j)
amounts_pushed is amounts k j amount long each new lt = ⊎_elim
    (λ (l : j < k). before amounts j (omega arith) ∙ each j l)
    (λ (g : k ≤ j). let e : j ≡ length amounts = omega arith in ap (λ n. slice_get (amounts ++ amount ∷ []) n) e ∙ seam amounts ∙ ap Some (new ∙ ap (amount_at is) (sym long ∙ sym e)))
    (cases_lt j k)
  where
    before : (xs : List (Option ℤ)) (n : ℕ) → n < length xs → slice_get (xs ++ amount ∷ []) n ≡ slice_get xs n
    before [] n l = absurd (omega arith)
    before (x ∷ xs) zero l = refl
    before (x ∷ xs) (suc n) l = before xs n (omega arith)

    seam : (xs : List (Option ℤ)) → slice_get (xs ++ amount ∷ []) (length xs) ≡ Some amount
    seam [] = refl
    seam (x ∷ xs) = seam xs

-- ---- what is known of pointers

pub fixed_formal : (f : Function) (fixed : List Bool) → AreFixed f fixed → (r : ℕ) → formal_in fixed r ≡ known_formal f.formals f.instrs r
fixed_formal f fixed h r = ⊎_elim within past (cases_lt r f.formals)
  where
    within : r < f.formals → formal_in fixed r ≡ known_formal f.formals f.instrs r
    within lt = ap (λ b. if b then Some (record { root = formal r; cells = 0 }) else None) (h.each r lt ∙ ap (λ b. b && is_never_assigned f.instrs r) (sym (lt-ltb r f.formals lt)))

    past : f.formals ≤ r → formal_in fixed r ≡ known_formal f.formals f.instrs r
    past le = ap (λ b. if b then Some (record { root = formal r; cells = 0 }) else None) (get_or_past fixed r false (omega (arith, h.long)) ∙ ap (λ b. b && is_never_assigned f.instrs r) (sym (le-ltb r f.formals le)))

known_of_same : (f g : ℕ → Option Known) → ((r : ℕ) → f r ≡ g r) → (c : ℕ → Option ℤ) (o : Option Act) → known_of f c o ≡ known_of g c o
known_of_same f g h c None = refl
known_of_same f g h c (Some (act.Compute into (work.Address w))) = refl
known_of_same f g h c (Some (act.Compute into (work.Copy r))) = h r
known_of_same f g h c (Some (act.Compute into (work.Member r by))) = ap (λ o. known_on o (pos by)) (h r)
known_of_same f g h c (Some (act.Compute into (work.Move r by element back))) = ap (λ o. known_on_by o (c by) element back) (h r)
known_of_same f g h c (Some a) = refl

pub known_entered : (f : Function) (fixed : List Bool) (k : ℕ) (b : Bool) (brought held : ℕ → Option Known) → AreFixed f fixed → b ≡ begins_block f.instrs k → ((r : ℕ) → held r ≡ (if b then formal_in fixed r else brought r)) → ((r : ℕ) → (if begins_block f.instrs k then known_formal f.formals f.instrs r else brought r) ≡ known_at f.formals f.instrs k r) → (r : ℕ) → held r ≡ known_at f.formals f.instrs k r
known_entered f fixed k b brought held h same enters was r = enters r ∙ ap (λ x. if x then formal_in fixed r else brought r) same ∙ ap (λ o. if begins_block f.instrs k then o else brought r) (fixed_formal f fixed h r) ∙ was r

pub known_next : (f : Function) (k : ℕ) (i : Instr) (held following : ℕ → Option Known) → slice_get f.instrs k ≡ Some i → ((r : ℕ) → held r ≡ known_at f.formals f.instrs k r) → ((r : ℕ) → following r ≡ (if assigns r (Some i.act) then known_of held (constant_at f.instrs k) (Some i.act) else held r)) → (r : ℕ) → (if begins_block f.instrs (k + 1) then known_formal f.formals f.instrs r else following r) ≡ known_at f.formals f.instrs (k + 1) r
known_next f k i held following there was passed r =
    subst (λ n. (if begins_block f.instrs n then known_formal f.formals f.instrs r else following r) ≡ known_at f.formals f.instrs n r) (sym (add-one k))
    (ap (λ x. if begins_block f.instrs (suc k) then known_formal f.formals f.instrs r else x)
    (passed r
    ∙ ap (λ x. if assigns r (Some i.act) then x else held r) (known_of_same held (known_at f.formals f.instrs k) was (constant_at f.instrs k) (Some i.act))
    ∙ ap (λ x. if assigns r (Some i.act) then known_of (known_at f.formals f.instrs k) (constant_at f.instrs k) (Some i.act) else x) (was r)
    ∙ ap (λ o. if assigns r (act_in o) then known_of (known_at f.formals f.instrs k) (constant_at f.instrs k) (act_in o) else known_at f.formals f.instrs k r) (sym there)))

-- ---- lists of names

names_split : (f : Function) (n : ℕ) (is : List Instr) (k : ℕ) (i : Instr) → slice_get is k ≡ Some i → namings_from f n (drop k is) ≡ map (naming_at f n) (arguments_of i.act) ∷ namings_from f (suc n) (drop (suc k) is)
names_split f n [] k i there = absurd (none-some i there)
names_split f n (j ∷ is) zero i there = ap (λ (x : Instr). map (naming_at f n) (arguments_of x.act) ∷ namings_from f (suc n) is) (same_Some j i there)
names_split f n (j ∷ is) (suc k) i there = names_split f n is k i there

names_same : (f : Function) (k : ℕ) (held : ℕ → Option Known) → ((r : ℕ) → held r ≡ known_at f.formals f.instrs k r) → (rs : List ℕ) → map (λ r. naming_of (held r)) rs ≡ map (naming_at f k) rs
names_same f k held was [] = refl
names_same f k held was (r ∷ rs) = ap (λ o. naming_of o ∷ map (λ q. naming_of (held q)) rs) (was r) ∙ ap (λ z. naming_at f k r ∷ z) (names_same f k held was rs)

pub names_next : (f : Function) (k : ℕ) (i : Instr) (held : ℕ → Option Known) (rows : List (List Naming)) (row : List Naming) (all : List (List Naming)) → slice_get f.instrs k ≡ Some i → ((r : ℕ) → held r ≡ known_at f.formals f.instrs k r) → row ≡ map (λ r. naming_of (held r)) (arguments_of i.act) → rows ++ namings_from f k (drop k f.instrs) ≡ all → (rows ++ row ∷ []) ++ namings_from f (k + 1) (drop (k + 1) f.instrs) ≡ all
names_next f k i held rows row all there was is so_far =
    subst (λ m. (rows ++ row ∷ []) ++ namings_from f m (drop m f.instrs) ≡ all) (sym (add-one k))
    (append_assoc rows (row ∷ []) (namings_from f (suc k) (drop (suc k) f.instrs)) ∙ ap (λ z. rows ++ (z ∷ namings_from f (suc k) (drop (suc k) f.instrs))) (is ∙ names_same f k held was (arguments_of i.act)) ∙ ap (λ z. rows ++ z) (sym (names_split f k f.instrs k i there)) ∙ so_far)

pub names_end : (f : Function) (k : ℕ) (is : List Instr) (rows all : List (List Naming)) → length is ≤ k → rows ++ namings_from f k (drop k is) ≡ all → rows ≡ all
names_end f k is rows all le was = sym (append_none rows) ∙ ap (λ z. rows ++ z) (sym (none k is k le)) ∙ was
  where
    append_none : (xs : List (List Naming)) → xs ++ [] ≡ xs
    append_none [] = refl
    append_none (x ∷ xs) = ap (λ z. x ∷ z) (append_none xs)

    none : (n : ℕ) (is : List Instr) (k : ℕ) → length is ≤ k → namings_from f n (drop k is) ≡ []
    none n [] zero le = refl
    none n [] (suc k) le = refl
    none n (i ∷ is) zero le = absurd (omega arith)
    none n (i ∷ is) (suc k) le = none n is k (omega arith)
