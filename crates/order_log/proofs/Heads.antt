-- The lines of pairs and of the input, both ways.
use Rattle.std.proofs.Common.{◌≡◌, ℕ, ◌+◌, ◌-◌, ◌*◌, ◌/◌, ◌%◌, ◌<◌, ◌≤◌, Bool, true, false, cond, eqb, List, [], ◌∷◌, ◌++◌, length, Some, None, refl, sym, ap, subst, ◌∙◌, arith, append_assoc, ⊎_elim}
use Rattle.std.specs.Prelude.{codes, nat_lt, ◌&&◌}
use Rattle.std.specs.List.{AllByRecursion}
use Rattle.std.specs.Int.{is_in_range}
use Rattle.std.specs.Ordering.{is_le}
use Rattle.std.proofs.lemmas.Bool.{eqb-true, eq-eqb, ne_eqb, cond-true, cond-false, and_parts, and_from, cases_lt, lt-ltb, le-ltb}
use Rattle.std.proofs.lemmas.Bool.Decides.{nat_tests}
use Rattle.std.proofs.lemmas.Option.{none-some, same_Some, cond_some}
use Rattle.profiles.specs.Profile.{Text, Pair, text_order}
use Rattle.order_log.specs.Log.{IsNamePair}
use Rattle.order_log.specs.Text.{hex_digit, hex_text, pair_line}
use Rattle.order_log.specs.Line.{◌>>=◌, cut, after_word, is_name, ends_before, pair_in, hex_value, byte_in, bytes_in, hex_in}
use Rattle.order_log.proofs.Parts.{Free, Free-append, Free-name, is_name-true, IsName-is_name, cut_at, cut_is, after_word_at, after_word_is}
use Rattle.order_log.proofs.Entries.{bind_some, bind_at, chosen}

-- ---- pairs

pub pair_again : (ps : List Pair) (p : Pair) → IsNamePair p → ends_before ps p ≡ true → pair_in ps (pair_line p) ≡ Some p
unfolding pair_in
pair_again ps p h last =
    let rest : after_word (codes "pair ") (pair_line p) ≡ Some (p.0 ++ 32 ∷ p.1) =
    ap (after_word (codes "pair ")) (append_assoc (codes "pair " ++ p.0) (codes " ") p.1 ∙ append_assoc (codes "pair ") p.0 (codes " " ++ p.1)) ∙ after_word_at (codes "pair ") (p.0 ++ 32 ∷ p.1) in
    let parts = cut_at 32 p.0 p.1 (Free-name 32 p.0 h.first (omega arith)) in
    let passes : (is_name p.0 && (is_name p.1 && (is_le (text_order p.0 p.1) && ends_before ps p))) ≡ true =
    and_from _ _ (IsName-is_name p.0 h.first) (and_from _ _ (IsName-is_name p.1 h.second) (and_from _ _ h.lesser_first last)) in
    let tested = λ (q : Pair). cond (is_name q.0 && (is_name q.1 && (is_le (text_order q.0 q.1) && ends_before ps q))) (Some q) None in
    bind_at (after_word (codes "pair ") (pair_line p)) (p.0 ++ 32 ∷ p.1) (λ (t : Text). cut 32 t >>= tested) rest ∙ bind_at (cut 32 (p.0 ++ 32 ∷ p.1)) p tested parts ∙ cond-true _ (Some p) None passes

-- the pair that a line is
pub record IsPairLine (ps : List Pair) (line : Text) (p : Pair) : Type 0 where
  pub text : line ≡ pair_line p
  pub names : IsNamePair p
  pub later : ends_before ps p ≡ true

pub pair_is : (ps : List Pair) (line : Text) (p : Pair) → pair_in ps line ≡ Some p → IsPairLine ps line p
unfolding pair_in
pair_is ps line p found =
    let rest = bind_some (after_word (codes "pair ") line) _ p found in
    let parts = bind_some (cut 32 rest.0) _ p rest.2 in
    let q = parts.0 in
    let fit = cond_some (is_name q.0 && (is_name q.1 && (is_le (text_order q.0 q.1) && ends_before ps q))) q p parts.2 in
    let one = and_parts (is_name q.0) (is_name q.1 && (is_le (text_order q.0 q.1) && ends_before ps q)) fit.0 in
    let two = and_parts (is_name q.1) (is_le (text_order q.0 q.1) && ends_before ps q) one.1 in
    let three = and_parts (is_le (text_order q.0 q.1)) (ends_before ps q) two.1 in
    let text : line ≡ pair_line q =
    after_word_is (codes "pair ") line rest.0 rest.1 ∙ ap (λ (t : Text). codes "pair " ++ t) (cut_is 32 rest.0 q parts.1).text
    ∙ sym (append_assoc (codes "pair " ++ q.0) (codes " ") q.1 ∙ append_assoc (codes "pair ") q.0 (codes " " ++ q.1)) in
    subst (λ (x : Pair). IsPairLine ps line x) fit.1 (record {
      text = text;
      names = record { first = is_name-true q.0 one.0; second = is_name-true q.1 two.0; lesser_first = three.0 };
      later = three.1;
    })

pub Free-pair_line : (p : Pair) → IsNamePair p → Free 10 (pair_line p)
Free-pair_line p h =
    let word : Free 10 (codes "pair ") = (refl, (refl, (refl, (refl, (refl, tt))))) in
    let first = Free-append 10 (codes "pair ") p.0 word (Free-name 10 p.0 h.first (omega arith)) in
    let blank : Free 10 (codes " ") = (refl, tt) in
    Free-append 10 (codes "pair " ++ p.0 ++ codes " ") p.1 (Free-append 10 (codes "pair " ++ p.0) (codes " ") first blank) (Free-name 10 p.1 h.second (omega arith))

-- ---- hexadecimal digits

digit_again : (d : ℕ) → d < 16 → hex_value (hex_digit d) ≡ Some d
digit_again d lt = ⊎_elim low high (cases_lt d 10)
  where
    low : d < 10 → hex_value (hex_digit d) ≡ Some d
    low small =
        let first : nat_lt d 10 ≡ true = lt-ltb d 10 small in
        let inside : is_in_range 48 57 (48 + d) ≡ true = grind (arith, nat_tests) in
        let back : (48 + d) - 48 ≡ d = omega arith in
        ap hex_value (cond-true (nat_lt d 10) (48 + d) (87 + d) first) ∙ cond-true (is_in_range 48 57 (48 + d)) _ _ inside ∙ ap Some back

    high : 10 ≤ d → hex_value (hex_digit d) ≡ Some d
    high big =
        let first : nat_lt d 10 ≡ false = le-ltb d 10 big in
        let outside : is_in_range 48 57 (87 + d) ≡ false = grind (arith, nat_tests) in
        let inside : is_in_range 97 102 (87 + d) ≡ true = grind (arith, nat_tests) in
        let back : (87 + d) - 87 ≡ d = omega arith in
        ap hex_value (cond-false (nat_lt d 10) (48 + d) (87 + d) first) ∙ cond-false (is_in_range 48 57 (87 + d)) _ _ outside ∙ cond-true (is_in_range 97 102 (87 + d)) _ _ inside ∙ ap Some back

-- a digit and its value
pub record IsHexDigit (b d : ℕ) : Type 0 where
  pub text : b ≡ hex_digit d
  pub below : d < 16

digit_is : (b d : ℕ) → hex_value b ≡ Some d → IsHexDigit b d
digit_is b d e =
    ⊎_elim
    (λ w. number w.0 (same_Some (b - 48) d w.1))
    (λ w. letter (cond_some (is_in_range 97 102 b) (b - 87) d w.1).0 (cond_some (is_in_range 97 102 b) (b - 87) d w.1).1)
    (chosen (is_in_range 48 57 b) (Some (b - 48)) _ (Some d) e)
  where
    number : is_in_range 48 57 b ≡ true → b - 48 ≡ d → IsHexDigit b d
    number t is =
        let low : 48 ≤ b = grind (arith, nat_tests) in
        let high : b ≤ 57 = grind (arith, nat_tests) in
        let small : nat_lt d 10 ≡ true = lt-ltb d 10 (omega arith) in
        let back : b ≡ 48 + d = omega arith in
        record { text = back ∙ sym (cond-true (nat_lt d 10) (48 + d) (87 + d) small); below = omega arith }

    letter : is_in_range 97 102 b ≡ true → b - 87 ≡ d → IsHexDigit b d
    letter t is =
        let low : 97 ≤ b = grind (arith, nat_tests) in
        let high : b ≤ 102 = grind (arith, nat_tests) in
        let big : nat_lt d 10 ≡ false = le-ltb d 10 (omega arith) in
        let back : b ≡ 87 + d = omega arith in
        record { text = back ∙ sym (cond-false (nat_lt d 10) (48 + d) (87 + d) big); below = omega arith }

digit_free : (d : ℕ) → d < 16 → eqb (hex_digit d) 10 ≡ false
digit_free d lt = by (nat_lt d 10)
  where
    by : (t : Bool) → eqb (cond t (48 + d) (87 + d)) 10 ≡ false
    by true = ne_eqb _ _ (λ e. omega arith)
    by false = ne_eqb _ _ (λ e. omega arith)

-- ---- bytes

abbrev pub AreBytes : List ℕ → Type 0
AreBytes bytes = AllByRecursion (λ b. b < 256) bytes

byte_again : (b : ℕ) → b < 256 → byte_in (hex_digit (b / 16)) (hex_digit (b % 16)) ≡ Some b
unfolding byte_in
byte_again b lt =
    let back : 16 * (b / 16) + b % 16 ≡ b = omega arith in
    rw (digit_again (b / 16) (omega arith), digit_again (b % 16) (omega arith)) (ap Some back)

bytes_again : (bytes : List ℕ) → AreBytes bytes → bytes_in (hex_text bytes) ≡ Some bytes
bytes_again [] h = refl
bytes_again (b ∷ bs) h = rw (byte_again b h.0, bytes_again bs h.1) refl

pub length-hex_text : (bytes : List ℕ) → length (hex_text bytes) ≡ 2 * length bytes
length-hex_text [] = refl
length-hex_text (b ∷ bs) = let rest = length-hex_text bs in omega arith

pub Free-hex_text : (bytes : List ℕ) → AreBytes bytes → Free 10 (hex_text bytes)
Free-hex_text [] h = tt
Free-hex_text (b ∷ bs) h = let lt : b < 256 = h.0 in (digit_free (b / 16) (omega arith), (digit_free (b % 16) (omega arith), Free-hex_text bs h.1))

-- the bytes that a text is
pub record AreHex (line : Text) (bytes : List ℕ) : Type 0 where
  pub text : line ≡ hex_text bytes
  pub bytes_below : AreBytes bytes

byte_is : (a b byte : ℕ) (rest : Text) (bs : List ℕ) → byte_in a b ≡ Some byte → AreHex rest bs → AreHex (a ∷ b ∷ rest) (byte ∷ bs)
unfolding byte_in
byte_is a b byte rest bs e others =
    let high = bind_some (hex_value a) _ byte e in
    let low = bind_some (hex_value b) _ byte high.2 in
    let value : 16 * high.0 + low.0 ≡ byte = same_Some (16 * high.0 + low.0) byte low.2 in
    let h = digit_is a high.0 high.1 in
    let l = digit_is b low.0 low.1 in
    let h_below = h.below in
    let l_below = l.below in
    let front : byte / 16 ≡ high.0 = omega arith in
    let back : byte % 16 ≡ low.0 = omega arith in
    let first : a ≡ hex_digit (byte / 16) = h.text ∙ ap hex_digit (sym front) in
    let second : b ≡ hex_digit (byte % 16) = l.text ∙ ap hex_digit (sym back) in
    record { text = λ i. first i ∷ second i ∷ others.text i; bytes_below = (omega arith, others.bytes_below) }

bytes_are : (line : Text) (bytes : List ℕ) → bytes_in line ≡ Some bytes → AreHex line bytes
bytes_are [] bytes e = subst (λ (bs : List ℕ). AreHex [] bs) (same_Some [] bytes e) (record { text = refl; bytes_below = tt })
bytes_are (a ∷ []) bytes e = absurd (none-some bytes e)
bytes_are (a ∷ b ∷ rest) bytes e =
    let byte = bind_some (byte_in a b) _ bytes e in
    let bs = bind_some (bytes_in rest) _ bytes byte.2 in
    subst (λ (cs : List ℕ). AreHex (a ∷ b ∷ rest) cs) (same_Some (byte.0 ∷ bs.0) bytes bs.2) (byte_is a b byte.0 rest bs.0 byte.1 (bytes_are rest bs.0 bs.1))

pub hex_again : (bytes : List ℕ) → AreBytes bytes → hex_in (length bytes) (hex_text bytes) ≡ Some bytes
hex_again bytes h = cond-true _ _ _ (eq-eqb _ _ (length-hex_text bytes)) ∙ bytes_again bytes h

-- the bytes that a line is, of which there are so many
pub record IsHexLine (size : ℕ) (line : Text) (bytes : List ℕ) : Type 0 where
  pub hex : AreHex line bytes
  pub size_is : length bytes ≡ size

pub hex_is : (size : ℕ) (line : Text) (bytes : List ℕ) → hex_in size line ≡ Some bytes → IsHexLine size line bytes
hex_is size line bytes e =
    ⊎_elim
    (λ w.
    let hex = bytes_are line bytes w.1 in
    let long : length line ≡ 2 * size = eqb-true (length line) (2 * size) w.0 in
    let spelled : length line ≡ 2 * length bytes = ap length hex.text ∙ length-hex_text bytes in
    record { hex = hex; size_is = omega arith })
    (λ w. absurd (none-some bytes w.1))
    (chosen (eqb (length line) (2 * size)) (bytes_in line) None (Some bytes) e)
