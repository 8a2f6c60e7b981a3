-- The parts of a word that asks for accesses, as a text is cut.
use Rattle.std.proofs.Common.{◌≡◌, ◌≢◌, refl, sym, ◌∙◌, ap, ℕ, ◌+◌, ◌<◌, List, [], ◌∷◌, ◌++◌, length, drop, Bor, Option, Some, None, MatchOption, option_map, nat_eq, arith, eqb-true, inl, inr, take, take_all}
use Rattle.std.specs.Prelude.{codes, option_and_then}
use Rattle.std.specs.Fmt.{digits}
use Rattle.std.specs.List.{after_first, before_first, list_any, position_or_len}
use Rattle.std.specs.Str.Pattern.{FindsTextPrefix, StripsPrefix}
use Rattle.std.proofs.lemmas.Bool.{cases_Bool, eq-eqb, cond-true, cond-false}
use Rattle.command_line.specs.Arguments.{number_within}
use Rattle.command_line.specs.Predicates.{accesses_asked, after_name, asked_in, cells_asked, first_part, is_comma, is_dash, next_part}
use Rattle.command_line.proofs.FirstWords.{has_byte, lacks_byte, nothing_after}

-- ---- commas

pub part_before : (text : List ℕ) → position_or_len is_comma text ≡ length text → text ≡ (first_part text).0
part_before text h = sym (ap (λ n. take n text) h ∙ take_all (length text) text (omega arith))

pub no_comma : (text : List ℕ) → position_or_len is_comma text ≡ length text → None ≡ (first_part text).1
no_comma text h = sym (cond-false (list_any is_comma text) (Some (after_first is_comma text)) None (lacks_byte is_comma text h))

pub after_comma : (text : List ℕ) → position_or_len is_comma text < length text → Some (after_first is_comma text) ≡ (first_part text).1
after_comma text h = sym (cond-true (list_any is_comma text) (Some (after_first is_comma text)) None (has_byte is_comma text h))

-- ---- names

stands_after : (name rest : List ℕ) → after_name name (name ++ rest) ≡ Some rest
stands_after [] rest = refl
stands_after (n ∷ ns) rest = cond-true (nat_eq n n) (after_name ns (ns ++ rest)) None (eq-eqb n n refl) ∙ stands_after ns rest

lacks_name : (name text : List ℕ) → ((rest : List ℕ) → text ≢ name ++ rest) → None ≡ after_name name text
lacks_name [] text h = absurd (h text refl)
lacks_name (n ∷ ns) [] h = refl
lacks_name (n ∷ ns) (b ∷ bs) h =
    elim (cases_Bool (nat_eq b n)) [
      | inl t ↦
          let same : b ≡ n = eqb-true b n t in
          lacks_name ns bs (λ rest e. h rest (λ i. same i ∷ e i)) ∙ sym (cond-true (nat_eq b n) (after_name ns bs) None t)
      | inr f ↦ sym (cond-false (nat_eq b n) (after_name ns bs) None f)
    ]

-- what a call that strips the name answers
pub stripped : (name text : List ℕ) (r : Option (Bor (List ℕ))) → MatchOption r (FindsTextPrefix name text None) (λ x. StripsPrefix (FindsTextPrefix name) text x.now) → option_map (λ x. x.now) r ≡ after_name name text
stripped name text None h = lacks_name name text h
stripped name text (Some x) h = ap Some h.2 ∙ sym (stands_after name (drop h.0 text)) ∙ ap (after_name name) (sym h.1.1)

-- ---- cells

not_empty : number_within 0 4194303 [] ≡ None
unfolding digits
not_empty = refl

pub no_dash : (text : List ℕ) → position_or_len is_dash text ≡ length text → None ≡ cells_asked (Some text)
no_dash text h =
    let none = nothing_after is_dash text h in
    sym (ap (λ (o : Option ℕ). option_and_then (λ high. option_and_then (λ low. Some (low, high)) (number_within 0 high (before_first is_dash text))) o) (ap (number_within 0 4194303) none ∙ not_empty))

-- ---- all parts

abbrev Left : Type 0
Left = Option (List ℕ)

pub whole_word : (word kind : List ℕ) (thread cells value first second third last : Left) → kind ≡ (first_part word).0 → first ≡ (first_part word).1
    → (thread, second) ≡ next_part (codes "thread=") first → (cells, third) ≡ next_part (codes "cell=") second → (value, last) ≡ next_part (codes "value=") third
    → asked_in kind thread cells value last ≡ accesses_asked word
whole_word word kind thread cells value first second third last k f t c v =
    let at_thread = t ∙ ap (next_part (codes "thread=")) f in
    let at_cells = c ∙ ap (λ (p : Left × Left). next_part (codes "cell=") p.1) at_thread in
    let at_value = v ∙ ap (λ (p : Left × Left). next_part (codes "value=") p.1) at_cells in
    (λ i. asked_in (k i) (at_thread i).0 (at_cells i).0 (at_value i).0 (at_value i).1)
