-- A line cut into its parts, and put together again.
use Rattle.std.proofs.Common.{◌≡◌, ℕ, ◌+◌, ◌-◌, ◌*◌, ◌<◌, ◌≤◌, Bool, true, false, cond, eqb, List, [], ◌∷◌, ◌++◌, length, map, take, drop, get_or, Option, Some, None, refl, sym, ap, subst, ◌∙◌, arith}
use Rattle.std.specs.Prelude.{codes, IsTrue, ◌&&◌}
use Rattle.std.specs.List.{AllByRecursion, list_all}
use Rattle.std.specs.Option.{option_map, MatchOption}
use Rattle.std.specs.Prelude.{nat_eq}
use Rattle.std.specs.Borrow.{Bor}
use Rattle.std.specs.Cmp.Lexicographic.{pointwise}
use Rattle.std.proofs.lemmas.List.{take-append-drop, drop_more, drop_all, take_more, take_all}
use Rattle.std.specs.Char.{is_ascii_digit}
use Rattle.std.specs.Int.Digits.{digits_of}
use Rattle.std.proofs.lemmas.Bool.{eqb-true, eq-eqb, ne_eqb, cond-true, cond-false, and_parts, and_from}
use Rattle.std.proofs.lemmas.Bool.Decides.{nat_tests}
use Rattle.std.proofs.lemmas.Option.{none-some, same_Some}
use Rattle.profiles.specs.Profile.{Text}
use Rattle.order_log.specs.Names.{begins_name, continues_name, IsName}
use Rattle.order_log.specs.Text.{number_text}
use Rattle.order_log.specs.Line.{cut, after_word, digits_from, is_name, capped}
use Rattle.order_log.proofs.Numbers.{digit}

-- ---- bytes that a text doesn't have

abbrev pub Free : ℕ → Text → Type 0
Free c bs = AllByRecursion (λ b. eqb b c ≡ false) bs

pub Free-append : (c : ℕ) (xs ys : Text) → Free c xs → Free c ys → Free c (xs ++ ys)
Free-append c [] ys h k = k
Free-append c (x ∷ xs) ys h k = (h.0, Free-append c xs ys h.1 k)

Free-digits : (c : ℕ) (ds : List ℕ) → c < 48 → Free c (map digit ds)
Free-digits c [] low = tt
Free-digits c (d ∷ ds) low = (ne_eqb _ _ (λ e. omega arith), Free-digits c ds low)

pub Free-number_text : (c n : ℕ) → c < 48 → Free c (number_text n)
Free-number_text c n low = by (eqb n 0)
  where
    by : (t : Bool) → Free c (cond t (codes "0") (map digit (digits_of 10 n)))
    by true = (ne_eqb _ _ (λ e. omega arith), tt)
    by false = Free-digits c (digits_of 10 n) low

name_byte : (b c : ℕ) → continues_name b ≡ true → c < 48 → eqb b c ≡ false
name_byte b c h low = grind (arith, nat_tests)

Free-continues : (c : ℕ) (bs : Text) → AllByRecursion (λ b. IsTrue (continues_name b)) bs → c < 48 → Free c bs
Free-continues c [] h low = tt
Free-continues c (b ∷ bs) h low = (name_byte b c h.0 low, Free-continues c bs h.1 low)

begins-continues : (b : ℕ) → begins_name b ≡ true → continues_name b ≡ true
begins-continues b h = grind (arith, nat_tests)

pub Free-name : (c : ℕ) (name : Text) → IsName name → c < 48 → Free c name
Free-name c [] h low = absurd h
Free-name c (b ∷ bs) h low = (name_byte b c (begins-continues b h.0) low, Free-continues c bs h.1 low)

-- ---- names

continues_all : (bs : Text) → list_all continues_name bs ≡ true → AllByRecursion (λ b. IsTrue (continues_name b)) bs
continues_all [] e = tt
continues_all (b ∷ bs) e = let p = and_parts (continues_name b) (list_all continues_name bs) e in (p.0, continues_all bs p.1)

all_continue : (bs : Text) → AllByRecursion (λ b. IsTrue (continues_name b)) bs → list_all continues_name bs ≡ true
all_continue [] h = refl
all_continue (b ∷ bs) h = and_from (continues_name b) (list_all continues_name bs) h.0 (all_continue bs h.1)

pub is_name-true : (name : Text) → is_name name ≡ true → IsName name
is_name-true [] e = absurd cc
is_name-true (b ∷ bs) e = let p = and_parts (begins_name b) (list_all continues_name bs) e in (p.0, continues_all bs p.1)

pub IsName-is_name : (name : Text) → IsName name → is_name name ≡ true
IsName-is_name [] h = absurd h
IsName-is_name (b ∷ bs) h = and_from (begins_name b) (list_all continues_name bs) h.0 (all_continue bs h.1)

-- ---- cuts

pub cut_at : (c : ℕ) (xs ys : Text) → Free c xs → cut c (xs ++ c ∷ ys) ≡ Some (xs, ys)
cut_at c [] ys h = cond-true (eqb c c) _ _ (eq-eqb c c refl)
cut_at c (x ∷ xs) ys h = cond-false (eqb x c) _ _ h.0 ∙ ap (option_map (λ (p : Text × Text). (x ∷ p.0, p.1))) (cut_at c xs ys h.1)

pub cut_none : (c : ℕ) (bs : Text) → Free c bs → cut c bs ≡ None
cut_none c [] h = refl
cut_none c (b ∷ bs) h = cond-false (eqb b c) _ _ h.0 ∙ ap (option_map (λ (p : Text × Text). (b ∷ p.0, p.1))) (cut_none c bs h.1)

abbrev onto_front : ℕ → Text × Text → Text × Text
onto_front b p = (b ∷ p.0, p.1)

cut_free_one : (c b : ℕ) (bs : Text) (o : Option (Text × Text)) → (o ≡ None → Free c bs) → eqb b c ≡ false → option_map (onto_front b) o ≡ None → Free c (b ∷ bs)
cut_free_one c b bs None others other e = (other, others refl)
cut_free_one c b bs (Some p) others other e = absurd (none-some (onto_front b p) (sym e))

pub cut_free : (c : ℕ) (bs : Text) → cut c bs ≡ None → Free c bs
cut_free c [] e = tt
cut_free c (b ∷ bs) e = by (eqb b c) refl (cut_free c bs)
  where
    by : (t : Bool) → eqb b c ≡ t → (cut c bs ≡ None → Free c bs) → Free c (b ∷ bs)
    by true is others = let found : Text × Text = ([], bs) in absurd (none-some found (sym (sym (cond-true (eqb b c) _ _ is) ∙ e)))
    by false is others = cut_free_one c b bs (cut c bs) others is (sym (cond-false (eqb b c) _ _ is) ∙ e)

-- the parts on both sides of a byte
pub record Cuts (c : ℕ) (bs : Text) (p : Text × Text) : Type 0 where
  pub text : bs ≡ p.0 ++ c ∷ p.1
  pub free : Free c p.0

pub cut_is : (c : ℕ) (bs : Text) (p : Text × Text) → cut c bs ≡ Some p → Cuts c bs p
cut_is c [] p e = absurd (none-some p e)
cut_is c (b ∷ bs) p e = by (eqb b c) refl (cut c bs) refl (cut_is c bs)
  where
    later : (o : Option (Text × Text)) → cut c bs ≡ o → ((q : Text × Text) → cut c bs ≡ Some q → Cuts c bs q) → eqb b c ≡ false → option_map (λ (q : Text × Text). (b ∷ q.0, q.1)) o ≡ Some p → Cuts c (b ∷ bs) p
    later None is others other e = absurd (none-some p e)
    later (Some q) is others other e =
        let rest = others q is in
        let same : (b ∷ q.0, q.1) ≡ p = same_Some (b ∷ q.0, q.1) p e in
        subst (λ (r : Text × Text). Cuts c (b ∷ bs) r) same (record { text = ap (λ (t : Text). b ∷ t) rest.text; free = (other, rest.free) })

    by : (t : Bool) → eqb b c ≡ t → (o : Option (Text × Text)) → cut c bs ≡ o → ((q : Text × Text) → cut c bs ≡ Some q → Cuts c bs q) → Cuts c (b ∷ bs) p
    by true is o was others =
        let same : ([], bs) ≡ p = same_Some ([], bs) p (sym (cond-true (eqb b c) _ _ is) ∙ e) in
        let head : b ≡ c = eqb-true b c is in
        subst (λ (r : Text × Text). Cuts c (b ∷ bs) r) same (record { text = ap (λ (d : ℕ). d ∷ bs) head; free = tt })
    by false is o was others = later o was others is (ap (option_map (λ (q : Text × Text). (b ∷ q.0, q.1))) (sym was) ∙ sym (cond-false (eqb b c) _ _ is) ∙ e)

-- ---- words

pub after_word_at : (word rest : Text) → after_word word (word ++ rest) ≡ Some rest
after_word_at [] rest = refl
after_word_at (w ∷ ws) rest = cond-true (eqb w w) _ _ (eq-eqb w w refl) ∙ after_word_at ws rest

pub after_word_is : (word line rest : Text) → after_word word line ≡ Some rest → line ≡ word ++ rest
after_word_is [] line rest e = same_Some line rest e
after_word_is (w ∷ ws) [] rest e = absurd (none-some rest e)
after_word_is (w ∷ ws) (b ∷ bs) rest e = by (eqb b w) refl (after_word_is ws bs rest)
  where
    by : (t : Bool) → eqb b w ≡ t → (after_word ws bs ≡ Some rest → bs ≡ ws ++ rest) → b ∷ bs ≡ w ∷ (ws ++ rest)
    by true is others =
        let head : b ≡ w = eqb-true b w is in
        let tail = others (sym (cond-true (eqb b w) (after_word ws bs) None is) ∙ e) in
        cc
    by false is others = absurd (none-some rest (sym (cond-false (eqb b w) (after_word ws bs) None is) ∙ e))

-- as it is tested at once
after_word_by : (word text : Text) → after_word word text ≡ cond (pointwise nat_eq (take (length word) text) word) (Some (drop (length word) text)) None
after_word_by [] text = refl
after_word_by (w ∷ ws) [] = refl
after_word_by (w ∷ ws) (b ∷ bs) = by (eqb b w) (after_word_by ws bs)
  where
    by : (t : Bool) → after_word ws bs ≡ cond (pointwise nat_eq (take (length ws) bs) ws) (Some (drop (length ws) bs)) None
        → cond t (after_word ws bs) None ≡ cond (t && pointwise nat_eq (take (length ws) bs) ws) (Some (drop (length ws) bs)) None
    by true e = e
    by false e = refl

-- what a call that strips the word answers
pub stripped : (word text : Text) (r : Option (Bor Text)) → MatchOption r (pointwise nat_eq (take (length word) text) word ≡ false) (λ x. (pointwise nat_eq (take (length word) text) word ≡ true) × (x.now ≡ drop (length word) text) × (length x.now + length word ≡ length text))
    → option_map (λ x. x.now) r ≡ after_word word text
stripped word text None h = sym (after_word_by word text ∙ cond-false _ _ _ h)
stripped word text (Some x) h = ap (λ (t : Text). Some t) h.1 ∙ sym (after_word_by word text ∙ cond-true _ _ _ h.0)

-- ---- cuts by a place

pub cut_found : (c i : ℕ) (bs : Text) → i < length bs → Free c (take i bs) → get_or bs i 0 ≡ c → cut c bs ≡ Some (take i bs, drop (i + 1) bs)
cut_found c i bs lt h at =
    let parts : bs ≡ take i bs ++ c ∷ drop (i + 1) bs = sym (take-append-drop i bs) ∙ ap (λ (t : Text). take i bs ++ t) (drop_more bs i 0 lt ∙ ap (λ (b : ℕ). b ∷ drop (i + 1) bs) at) in
    ap (cut c) parts ∙ cut_at c (take i bs) (drop (i + 1) bs) h

pub Free-more : (c i : ℕ) (bs : Text) → i < length bs → Free c (take i bs) → (get_or bs i 0 ≡ c → ⊥) → Free c (take (i + 1) bs)
Free-more c i bs lt h other = subst (Free c) (sym (take_more bs i 0 lt)) (Free-append c (take i bs) (get_or bs i 0 ∷ []) h (ne_eqb _ _ other, tt))

pub cut_not_found : (c i : ℕ) (bs : Text) → length bs ≤ i → Free c (take i bs) → cut c bs ≡ None
cut_not_found c i bs le h = cut_none c bs (subst (Free c) (take_all i bs le) h)

-- ---- numbers as 64 bits hold them

capped_more : (v d : ℕ) → capped (capped v * 10 + d) ≡ capped (v * 10 + d)
capped_more v d = omega arith

abbrev CappedAlike : Text → Type 0
CappedAlike bs = (v : ℕ) → option_map capped (digits_from (capped v) bs) ≡ option_map capped (digits_from v bs)

capped_one : (b : ℕ) (bs : Text) → CappedAlike bs → CappedAlike (b ∷ bs)
capped_one b bs rest v = by (is_ascii_digit b)
  where
    more : option_map capped (digits_from (capped v * 10 + (b - 48)) bs) ≡ option_map capped (digits_from (v * 10 + (b - 48)) bs)
    more = sym (rest (capped v * 10 + (b - 48))) ∙ ap (λ (k : ℕ). option_map capped (digits_from k bs)) (capped_more v (b - 48)) ∙ rest (v * 10 + (b - 48))

    by : (t : Bool) → option_map capped (cond t (digits_from (capped v * 10 + (b - 48)) bs) None) ≡ option_map capped (cond t (digits_from (v * 10 + (b - 48)) bs) None)
    by true = more
    by false = refl

pub capped-digits_from : (bs : Text) → CappedAlike bs
capped-digits_from [] v = let same : capped (capped v) ≡ capped v = omega arith in ap Some same
capped-digits_from (b ∷ bs) v = capped_one b bs (capped-digits_from bs) v

-- one digit more, as 64 bits hold the number
pub digit_more : (text : Text) (i value more : ℕ) (total : Option ℕ) → i < length text → is_ascii_digit (get_or text i 0) ≡ true → more ≡ capped (value * 10 + (get_or text i 0 - 48))
    → option_map capped (digits_from value (drop i text)) ≡ total → option_map capped (digits_from more (drop (i + 1) text)) ≡ total
digit_more text i value more total lt is new so_far =
    let b = get_or text i 0 in
    let rest = drop (i + 1) text in
    let one : digits_from value (drop i text) ≡ digits_from (value * 10 + (b - 48)) rest = ap (digits_from value) (drop_more text i 0 lt) ∙ cond-true (is_ascii_digit b) _ _ is in
    ap (λ (k : ℕ). option_map capped (digits_from k rest)) new ∙ capped-digits_from rest (value * 10 + (b - 48)) ∙ ap (option_map capped) (sym one) ∙ so_far

pub digit_none : (text : Text) (i value : ℕ) (total : Option ℕ) → i < length text → is_ascii_digit (get_or text i 0) ≡ false → option_map capped (digits_from value (drop i text)) ≡ total → None ≡ total
digit_none text i value total lt is so_far =
    let one : digits_from value (drop i text) ≡ None = ap (digits_from value) (drop_more text i 0 lt) ∙ cond-false (is_ascii_digit (get_or text i 0)) _ _ is in
    ap (option_map capped) (sym one) ∙ so_far

pub digits_done : (text : Text) (i value : ℕ) (total : Option ℕ) → length text ≤ i → value ≤ 18446744073709551615 → option_map capped (digits_from value (drop i text)) ≡ total → Some value ≡ total
digits_done text i value total le small so_far =
    let same : capped value ≡ value = omega arith in
    let one : digits_from value (drop i text) ≡ Some value = ap (digits_from value) (drop_all i text le) in
    ap Some (sym same) ∙ ap (option_map capped) (sym one) ∙ so_far
