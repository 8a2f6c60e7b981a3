-- The tables of ways: where control comes to instructions from, and to parts that are entered at one.
use Rattle.std.proofs.Common.{◌≡◌, ℕ, zero, suc, ◌+◌, ◌-◌, ◌<◌, ◌≤◌, Bool, true, false, List, [], ◌∷◌, length, get_or, take, drop, refl, sym, ap, ◌∙◌, ⊎_elim, arith}
use Rattle.std.specs.Prelude.{◌||◌, ◌&&◌, ◌==◌, not, nat_lt, nat_le, if◌then◌else◌}
use Rattle.std.proofs.lemmas.Bool.{cases_lt, lt-ltb, le-ltb, ltb-true, leb-true, le-leb, eqb-true, eq-eqb, true≢false}
use Rattle.std.proofs.lemmas.List.{drop_more, drop_all, get_or-take}
use Rattle.flow_code.specs.declared.act.Act.{Act}
use Rattle.flow_code.specs.declared.act.Act.TheVariants as act
use Rattle.flow_code.specs.declared.act.Instr.{Instr}
use Rattle.flow_code.specs.declared.code.LoopInfo.{LoopInfo}
use Rattle.facts.specs.Blocks.{goes_to, is_target}
use Rattle.weak_lock_facts.specs.Loops.{nth, is_within, goes_into, none_goes_into, is_entered_at, is_jump, is_copy, is_any_copy, raised, adds_itself, last_part_at, condition_end, has_places, begins_so, ends_so, has_form}

-- ---- firsts

take_long : (n : ℕ) (is : List Instr) → n ≤ length is → length (take n is) ≡ n
take_long zero is le = refl
take_long (suc n) [] le = absurd (omega arith)
take_long (suc n) (i ∷ is) le = let r = take_long n is (omega arith) in omega arith

first_goes : (g x : Bool) (j k e new : ℕ) → j < k → x ≡ nat_lt e k → new ≡ (if g then j else e) → (g || x) ≡ nat_lt new k
first_goes true x j k e new lt was is = sym (lt-ltb j k lt) ∙ ap (λ z. nat_lt z k) (sym is)
first_goes false x j k e new lt was is = was ∙ ap (λ z. nat_lt z k) (sym is)

first_past : (g : Bool) (j k e new : ℕ) → k ≤ j → false ≡ nat_lt e k → new ≡ (if g then j else e) → false ≡ nat_lt new k
first_past true j k e new le was is = sym (le-ltb j k le) ∙ ap (λ z. nat_lt z k) (sym is)
first_past false j k e new le was is = was ∙ ap (λ z. nat_lt z k) (sym is)

-- one instruction more, in front of the others, has been looked at
pub firsts_next : (is : List Instr) (left j m k e new : ℕ) (i : Instr) → left ≡ suc j → j < length is → k ≤ length is → is_target (drop left (take k is)) m ≡ nat_lt e k → new ≡ (if goes_to m (get_or is j i).act then j else e) → is_target (drop j (take k is)) m ≡ nat_lt new k
firsts_next is left j m k e new i following lt within was is_new =
    let after : left ≡ j + 1 = omega arith in
    let long = take_long k is within in
    ⊎_elim
    (λ (inside : j < k).
    ap (λ z. is_target z m) (drop_more (take k is) j i (omega arith))
    ∙ ap (λ (x : Instr). goes_to m x.act || is_target (drop (j + 1) (take k is)) m) (get_or-take k is j i inside)
    ∙ first_goes (goes_to m (get_or is j i).act) (is_target (drop (j + 1) (take k is)) m) j k e new inside (ap (λ n. is_target (drop n (take k is)) m) (sym after) ∙ was) is_new)
    (λ (past : k ≤ j).
    let none : is_target (drop left (take k is)) m ≡ false = ap (λ z. is_target z m) (drop_all left (take k is) (omega arith)) in
    ap (λ z. is_target z m) (drop_all j (take k is) (omega arith)) ∙ first_past (goes_to m (get_or is j i).act) j k e new past (sym none ∙ was) is_new)
    (cases_lt j k)

pub no_firsts : (is : List Instr) (left m k e : ℕ) → left ≡ length is → e ≡ length is → k ≤ length is → is_target (drop left (take k is)) m ≡ nat_lt e k
no_firsts is left m k e all none within =
    let long = take_long k is within in
    ap (λ z. is_target z m) (drop_all left (take k is) (omega arith)) ∙ sym (le-ltb e k (omega arith))

pub all_firsts : (is : List Instr) (left m k e : ℕ) → left ≤ 0 → is_target (drop left (take k is)) m ≡ nat_lt e k → is_target (take k is) m ≡ nat_lt e k
all_firsts is zero m k e le h = h
all_firsts is (suc left) m k e le h = absurd (omega arith)

-- ---- parts that are entered at one instruction

or_false : (a b : Bool) → (a || b) ≡ false → (a ≡ false) × (b ≡ false)
or_false true b h = absurd (true≢false h)
or_false false b h = (refl, h)

or_cases : (a b : Bool) (P : Type 0) → (a || b) ≡ true → (a ≡ true → P) → (b ≡ true → P) → P
or_cases true b P h f g = f refl
or_cases false b P h f g = g h

and_cases : (a b : Bool) → (a && b) ≡ true → (a ≡ true) × (b ≡ true)
and_cases true b h = (refl, h)
and_cases false b h = absurd (true≢false (sym h))

within_false : (a b to : ℕ) → (a < to → to ≤ b → ⊥) → is_within a b to ≡ false
within_false a b to h = by (is_within a b to) refl
  where
    by : (c : Bool) → is_within a b to ≡ c → is_within a b to ≡ false
    by true e = let p = and_cases (nat_lt a to) (nat_le to b) e in absurd (h (ltb-true a to p.0) (leb-true to b p.1))
    by false e = e

within_true : (a b to : ℕ) → a < to → to ≤ b → is_within a b to ≡ true
within_true a b to lt le = ap (λ c. c && nat_le to b) (lt-ltb a to lt) ∙ le-leb to b le

goes_nowhere : (a b : ℕ) (x : Act) → ((t : ℕ) → a < t → t ≤ b → goes_to t x ≡ false) → goes_into a b x ≡ false
goes_nowhere a b (act.Jump to) h = within_false a b to (λ lt le. true≢false (sym (eq-eqb to to refl) ∙ h to lt le))
goes_nowhere a b (act.Branch on m n) h =
    ap (λ c. c || is_within a b n) (within_false a b m (λ lt le. true≢false (sym (eq-eqb m m refl) ∙ (or_false (m == m) (n == m) (h m lt le)).0)))
    ∙ within_false a b n (λ lt le. true≢false (sym (eq-eqb n n refl) ∙ (or_false (m == n) (n == n) (h n lt le)).1))
goes_nowhere a b x h = refl

or_there : (c d : Bool) → d ≡ true → (c || d) ≡ true
or_there true d e = refl
or_there false d e = e

goes_there : (a b t : ℕ) (x : Act) → a < t → t ≤ b → goes_to t x ≡ true → goes_into a b x ≡ true
goes_there a b t (act.Jump to) lt le h = let e = eqb-true to t h in within_true a b to (omega arith) (omega arith)
goes_there a b t (act.Branch on m n) lt le h =
    or_cases (m == t) (n == t) (goes_into a b (act.Branch on m n) ≡ true) h
    (λ g. let e = eqb-true m t g in ap (λ c. c || is_within a b n) (within_true a b m (omega arith) (omega arith)))
    (λ g. let e = eqb-true n t g in or_there (is_within a b m) (is_within a b n) (within_true a b n (omega arith) (omega arith)))
goes_there a b t (act.Compute into w) lt le h = absurd (true≢false (sym h))
goes_there a b t x lt le h = absurd (true≢false (sym h))

none_goes : (a b : ℕ) (js : List Instr) → ((t : ℕ) → a < t → t ≤ b → is_target js t ≡ false) → none_goes_into a b js ≡ true
none_goes a b [] h = refl
none_goes a b (i ∷ js) h =
    ap (λ c. not c && none_goes_into a b js) (goes_nowhere a b i.act (λ t lt le. (or_false (goes_to t i.act) (is_target js t) (h t lt le)).0))
    ∙ none_goes a b js (λ t lt le. (or_false (goes_to t i.act) (is_target js t) (h t lt le)).1)

and_none : (c d : Bool) → d ≡ false → (c && d) ≡ false
and_none true d e = e
and_none false d e = refl

one_goes : (a b t : ℕ) (js : List Instr) → a < t → t ≤ b → is_target js t ≡ true → none_goes_into a b js ≡ false
one_goes a b t [] lt le h = absurd (true≢false (sym h))
one_goes a b t (i ∷ js) lt le h =
    or_cases (goes_to t i.act) (is_target js t) (none_goes_into a b (i ∷ js) ≡ false) h
    (λ g. ap (λ c. not c && none_goes_into a b js) (goes_there a b t i.act lt le g))
    (let rest = one_goes a b t js lt le in λ g. and_none (not (goes_into a b i.act)) (none_goes_into a b js) (rest g))

pub entered : (is : List Instr) (a b target : ℕ) → target ≤ a → ((t : ℕ) → target < t → t ≤ b → (is_target (take a is) t ≡ false) × (is_target (drop (b + 1) is) t ≡ false)) → is_entered_at is a b ≡ true
entered is a b target le h =
    ap (λ c. c && none_goes_into a b (drop (b + 1) is)) (none_goes a b (take a is) (λ t lt within. (h t (omega arith) within).0))
    ∙ none_goes a b (drop (b + 1) is) (λ t lt within. (h t (omega arith) within).1)

pub not_entered : (is : List Instr) (a b t first end : ℕ) → a < t → t ≤ b → is_target (take a is) t ≡ nat_lt first a → is_target (drop (b + 1) is) t ≡ nat_lt (b + 1) end → (nat_lt first a || nat_lt (b + 1) end) ≡ true → is_entered_at is a b ≡ false
not_entered is a b t first end lt le before following h =
    or_cases (nat_lt first a) (nat_lt (b + 1) end) (is_entered_at is a b ≡ false) h
    (λ g. ap (λ c. c && none_goes_into a b (drop (b + 1) is)) (one_goes a b t (take a is) lt le (before ∙ g)))
    (λ g. and_none (none_goes_into a b (take a is)) (none_goes_into a b (drop (b + 1) is)) (one_goes a b t (drop (b + 1) is) lt le (following ∙ g)))

pub one_apart : (is : List Instr) (a b t first end : ℕ) → is_target (take a is) t ≡ nat_lt first a → is_target (drop (b + 1) is) t ≡ nat_lt (b + 1) end → (nat_lt first a || nat_lt (b + 1) end) ≡ false → (is_target (take a is) t ≡ false) × (is_target (drop (b + 1) is) t ≡ false)
one_apart is a b t first end before following h = let p = or_false (nat_lt first a) (nat_lt (b + 1) end) h in (before ∙ p.0, following ∙ p.1)

-- ---- the form of a counted loop stands within the instructions

jump_within : (is : List Instr) (m k : ℕ) → is_jump k (nth is m) ≡ true → m < length is
jump_within [] m k h = absurd (true≢false (sym h))
jump_within (i ∷ is) zero k h = omega arith
jump_within (i ∷ is) (suc m) k h = let r = jump_within is m k h in omega arith

pub form_last : (is : List Instr) (l : LoopInfo) → has_form is l ≡ true → l.last + 1 < length is
form_last is l h =
    let ends = (and_cases (has_places is l && begins_so is l) (ends_so is l) h).1 in
    jump_within is (l.last + 1) l.at (and_cases (is_copy (raised is l) l.counter (nth is (l.last - 1)) && is_any_copy (nth is l.last)) (is_jump l.at (nth is (l.last + 1))) ends).1

last_part_near : (b : Bool) (n : ℕ) → (if b then n - 3 else n - 4) ≤ n
last_part_near true n = omega arith
last_part_near false n = omega arith

pub form_condition : (is : List Instr) (l : LoopInfo) → has_form is l ≡ true → condition_end l < length is
form_condition is l h =
    let places = (and_cases (has_places is l) (begins_so is l) (and_cases (has_places is l && begins_so is l) (ends_so is l) h).0).0 in
    let p = and_cases (l.first == condition_end l + 1) (nat_le l.first (last_part_at is l)) places in
    let first = eqb-true l.first (condition_end l + 1) p.0 in
    let part = leb-true l.first (last_part_at is l) p.1 in
    let near = last_part_near (adds_itself is l) l.last in
    omega (arith, form_last is l h, first, part, near)
