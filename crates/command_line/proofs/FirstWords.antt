-- The argument that stands first among words, by what its word is.
use Rattle.std.proofs.Common.{◌≡◌, refl, sym, ◌∙◌, ap, ℕ, ◌+◌, ◌-◌, ◌<◌, ◌≤◌, suc, take, drop, get_or, take_all, Bool, true, false, not, cond, ◌||◌, ◌&&◌, List, [], ◌∷◌, ◌≢◌, length, nat_eq, arith, ne_eqb, eqb-true}
use Rattle.std.proofs.lemmas.Bool.{and_right, and_parts, eqb-false, false_from_ne_true, not-true}
use Rattle.std.specs.List.{list_any, position_or_len, before_first, after_first}
use Rattle.std.proofs.lemmas.List.{drop_all}
use Rattle.command_line.specs.Arguments.{Positional, Wrong, is_name, is_equals, is_option, setting, arguments}

any_step : (b : Bool) (n m : ℕ) (more : Bool) → (n < m → more ≡ true) → cond (not b) (1 + n) 0 < suc m → (b || more) ≡ true
any_step true n m more ih h = refl
any_step false n m more ih h = ih (omega arith)

none_step : (b : Bool) (n m : ℕ) (more : Bool) → (n ≡ m → more ≡ false) → cond (not b) (1 + n) 0 ≡ suc m → (b || more) ≡ false
none_step true n m more ih h = absurd (omega arith)
none_step false n m more ih h = ih (omega arith)

module _ (is : ℕ → Bool) where
  -- where such a byte has a place, it is there
  pub has_byte : (text : List ℕ) → position_or_len is text < length text → list_any is text ≡ true
  has_byte [] h = absurd (omega arith)
  has_byte (b ∷ bs) h = any_step (is b) (position_or_len is bs) (length bs) (list_any is bs) (has_byte bs) h

  pub lacks_byte : (text : List ℕ) → position_or_len is text ≡ length text → list_any is text ≡ false
  lacks_byte [] h = refl
  lacks_byte (b ∷ bs) h = none_step (is b) (position_or_len is bs) (length bs) (list_any is bs) (lacks_byte bs) h

  -- and nothing stands after it
  pub nothing_after : (text : List ℕ) → position_or_len is text ≡ length text → after_first is text ≡ []
  nothing_after text h = ap (λ n. drop (n + 1) text) h ∙ drop_all (length text + 1) text (omega arith)

-- `--x=value`
pub joined_first : (text : List ℕ) (words : List (List ℕ)) → position_or_len is_equals text < length text → arguments ((45 ∷ 45 ∷ text) ∷ words) ≡ setting (before_first is_equals text) (after_first is_equals text) ∷ arguments words
joined_first text [] h = let e = has_byte is_equals text h in rw e refl
joined_first text (next ∷ words) h = let e = has_byte is_equals text h in rw e refl

-- `--x` and the next word
pub apart_first : (text value : List ℕ) (words : List (List ℕ)) → position_or_len is_equals text ≡ length text → arguments ((45 ∷ 45 ∷ text) ∷ value ∷ words) ≡ setting text value ∷ arguments words
apart_first text value words h = let e = lacks_byte is_equals text h in rw e refl

-- `--x` at the end
pub no_value_first : (text : List ℕ) → position_or_len is_equals text ≡ length text → arguments ((45 ∷ 45 ∷ text) ∷ []) ≡ Wrong ∷ []
no_value_first text h = let e = lacks_byte is_equals text h in rw e refl

-- a positional word
pub name_first : (word : List ℕ) (words : List (List ℕ)) → is_name word ≡ true → arguments (word ∷ words) ≡ Positional word ∷ arguments words
name_first [] words h = cc
name_first (b ∷ bs) [] h = rw h refl
name_first (b ∷ bs) (next ∷ words) h =
    let other : nat_eq 45 b ≡ false = ne_eqb 45 b (λ e. eqb-false b 45 (not-true (nat_eq b 45) h) (sym e)) in
    rw (other, h) refl

not_option : (word : List ℕ) → ((rest : List ℕ) → word ≢ 45 ∷ 45 ∷ rest) → is_option word ≡ false
not_option [] k = refl
not_option (b ∷ []) k = and_right (nat_eq 45 b) false refl
not_option (b ∷ d ∷ rest) k =
    false_from_ne_true _ (λ t.
    let p = and_parts (nat_eq 45 b) (nat_eq 45 d && true) t in
    let q = and_parts (nat_eq 45 d) true p.1 in
    let first : 45 ≡ b = eqb-true 45 b p.0 in
    let second : 45 ≡ d = eqb-true 45 d q.0 in
    let same : (b ∷ d ∷ rest) ≡ 45 ∷ 45 ∷ rest = cc in
    k rest same)

-- neither a name nor an option
pub wrong_first : (word : List ℕ) (words : List (List ℕ)) → is_name word ≡ false → ((rest : List ℕ) → word ≢ 45 ∷ 45 ∷ rest) → arguments (word ∷ words) ≡ Wrong ∷ arguments words
wrong_first word [] h k = let e = not_option word k in rw (h, e) refl
wrong_first word (next ∷ words) h k = let e = not_option word k in rw (e, h) refl

-- a slice is its first item and what is after that
pub split_front : {X : Type 0} (xs : List X) (x : X) → 1 ≤ length xs → x ≡ get_or xs 0 x → xs ≡ x ∷ take (length xs - 1) (drop 1 xs)
split_front [] x h e = absurd (omega arith)
split_front (y ∷ ys) x h e =
    let all : take (suc (length ys) - 1) ys ≡ ys = take_all (suc (length ys) - 1) ys (omega arith) in
    ap (λ z. z ∷ ys) (sym e) ∙ ap (λ zs. x ∷ zs) (sym all)
