-- Items that have a line each.
use Rattle.std.proofs.Common.{◌≡◌, ℕ, ◌+◌, ◌≤◌, ◌<◌, min, List, [], ◌∷◌, ◌++◌, length, map, drop, replicate, Option, Some, None, Result, Ok, Err, refl, sym, ap, subst, ◌∙◌, arith, append_assoc}
use Rattle.std.specs.List.{AllByRecursion}
use Rattle.std.specs.Option.{option_map}
use Rattle.std.proofs.lemmas.List.{append-nil, length-replicate}
use Rattle.std.proofs.lemmas.Option.{none-some, same_Some}
use Rattle.profiles.specs.Profile.{Text}
use Rattle.order_log.specs.Line.{after_word, number_in, capped}
use Rattle.order_log.specs.Recogniser.{Lines}
use Rattle.order_log.specs.Text.{number_text}
use Rattle.order_log.proofs.Entries.{map_some}
use Rattle.order_log.proofs.Numbers.{number_in-number_text, number_text-number_in}
use Rattle.order_log.proofs.Parts.{after_word_at, after_word_is}
use Rattle.snapshot_lines.specs.Lines.{IsAny, ReadsAs, long_most}
use Rattle.snapshot_grammar.specs.Parts.{AreMany, IsRead, IsStuckAt, Passed, Reads}
use Rattle.snapshot_grammar.specs.declared.fault.DraftFault.{DraftFault}
use Rattle.snapshot_grammar.specs.declared.fault.DraftFault.TheVariants.{Syntax, OutOfMemory}
use Rattle.snapshot_grammar.proofs.Grammar.{Delimits, IsPart, passed_as, passed_none, passed_then, stuck_in}
use Rattle.snapshot_grammar.proofs.Many.{All-replicate, after_same, all_read, next_stuck, none_read, one_read}

-- ---- numbers after a word

pub same_number : (m n : ℕ) → number_text m ≡ number_text n → m ≡ n
same_number m n e = same_Some m n (sym (number_in-number_text m) ∙ ap number_in e ∙ number_in-number_text n)

pub same_after : (word x y : Text) → word ++ x ≡ word ++ y → x ≡ y
same_after word x y e = same_Some x y (sym (after_word_at word x) ∙ ap (after_word word) e ∙ after_word_at word y)

pub no_word : (word text : Text) (n : ℕ) → None ≡ after_word word text → text ≡ word ++ number_text n → ⊥
no_word word text n h e = none-some (number_text n) (h ∙ ap (after_word word) e ∙ after_word_at word (number_text n))

pub number_reads : (word text rest : Text) (r : Option ℕ) → Some rest ≡ after_word word text → r ≡ option_map capped (number_in rest) → ReadsAs {A = ℕ} IsAny (λ n. word ++ number_text n) (λ n. min n long_most) text r
number_reads word text rest None h e = λ n is f.
    let same : rest ≡ number_text n = same_after word rest (number_text n) (sym (after_word_is word text rest (sym h)) ∙ f) in
    none-some (capped n) (e ∙ ap (option_map capped) (ap number_in same ∙ number_in-number_text n))
number_reads word text rest (Some m) h e =
    let n = map_some capped (number_in rest) m (sym e) in
    (n.0, tt, after_word_is word text rest (sym h) ∙ ap (λ (z : Text). word ++ z) (number_text-number_in rest n.0 n.1), sym n.2)

-- ---- one line each

pub line_delimits : (A : Type 0) (Is : A → Type 0) (line : A → Text) → Delimits A Is (λ x. line x ∷ [])
line_delimits A Is line x y h k u v e = ap (drop 1) e

pub same_head : (x y : Text) (xs ys : List Text) → x ∷ xs ≡ y ∷ ys → x ≡ y
same_head x y xs ys e = cc

module _ (A : Type 0) (Is : A → Type 0) (line : A → Text) (clip : A → A) where
  pub lines_none : (l : Lines) → l.at ≤ 4294967295 → IsRead (List A) (List A) (AllByRecursion Is) (map line) (map clip) l [] l
  lines_none l low = none_read A Is (λ x. line x ∷ []) (map line) refl (λ x xs. refl) (line_delimits A Is line) A clip l low

  pub lines_one : (l m k : Lines) (ys : List A) (y : A) → IsRead (List A) (List A) (AllByRecursion Is) (map line) (map clip) l ys m → IsRead A A Is (λ x. line x ∷ []) clip m y k → IsRead (List A) (List A) (AllByRecursion Is) (map line) (map clip) l (ys ++ y ∷ []) k
  lines_one l m k ys y h g = one_read A Is (λ x. line x ∷ []) (map line) refl (λ x xs. refl) (line_delimits A Is line) A clip l m k ys y h g

  pub lines_all : (n : ℕ) (l m : Lines) (ys : List A) → IsRead (List A) (List A) (AllByRecursion Is) (map line) (map clip) l ys m → length ys ≡ n → IsRead (List A) (List A) (AreMany A Is n) (map line) (map clip) l ys m
  lines_all n l m ys h many = all_read A Is (λ x. line x ∷ []) (map line) refl (λ x xs. refl) (line_delimits A Is line) A clip n l m ys h many

  pub lines_error : (some : A) → Is some → (n : ℕ) (l m k j : Lines) (ys : List A) (e : DraftFault) → IsRead (List A) (List A) (AllByRecursion Is) (map line) (map clip) l ys m → length ys < n
      → Reads {A = A} {B = A} Is (λ x. line x ∷ []) clip m (Err e) k → Reads {A = List A} {B = List A} (AreMany A Is n) (map line) (map clip) l (Err e) j
  lines_error some is n l m k j ys (Syntax at) h fewer s = next_stuck A Is (λ x. line x ∷ []) (map line) refl (λ x xs. refl) (line_delimits A Is line) A clip some is n l m ys at h fewer s
  lines_error some is n l m k j ys OutOfMemory h fewer s = tt

  -- ---- their number in a line above them

  module _ (word : Text) where
    abbrev pub counted : List A → List Text
    counted xs = (word ++ number_text (length xs)) ∷ map line xs

    abbrev number_line : ℕ → List Text
    number_line n = (word ++ number_text n) ∷ []

    pub counted_delimits : Delimits (List A) (AllByRecursion Is) counted
    counted_delimits x y h k u v e =
        let heads : word ++ number_text (length x) ≡ word ++ number_text (length y) = same_head (word ++ number_text (length x)) (word ++ number_text (length y)) (map line x ++ u) (map line y ++ v) e in
        let many : length x ≡ length y = same_number (length x) (length y) (same_after word (number_text (length x)) (number_text (length y)) heads) in
        after_same A Is (λ z. line z ∷ []) (map line) refl (λ z zs. refl) (line_delimits A Is line) x y h k many u v (ap (drop 1) e)

    number_part : (some : A) → Is some → IsPart ℕ IsAny number_line (List A) (AllByRecursion Is) counted []
    number_part some is = record {
      complete = λ n k. (replicate n some, All-replicate Is n some is, map line (replicate n some), ap (λ (m : ℕ). (word ++ number_text m) ∷ map line (replicate n some)) (length-replicate n some));
      project = λ c k u t e. (length c, tt, map line c ++ u, e);
    }

    lines_part : (n : ℕ) → IsPart (List A) (AreMany A Is n) (map line) (List A) (AllByRecursion Is) counted (number_line n)
    lines_part n = record {
      complete = λ xs k. (xs, k.all, [], ap (λ (m : ℕ). (word ++ number_text m) ∷ map line xs) k.count ∙ ap (λ (z : List Text). (word ++ number_text n) ∷ z) (sym (append-nil (map line xs))));
      project = λ c k u t e.
          let heads : word ++ number_text (length c) ≡ word ++ number_text n = same_head (word ++ number_text (length c)) (word ++ number_text n) (map line c ++ u) t e in
          (c, record { count = same_number (length c) n (same_after word (number_text (length c)) (number_text n) heads); all = k }, u, ap (drop 1) e);
    }

    pub counted_error : (some : A) → Is some → (l m j : Lines) (e : DraftFault) → l.at ≤ 4294967295 → Reads {A = ℕ} {B = ℕ} IsAny number_line (λ n. min n long_most) l (Err e) m → Reads {A = List A} {B = List A} (AllByRecursion Is) counted (map clip) l (Err e) j
    counted_error some is l m j (Syntax at) low s = stuck_in ℕ IsAny number_line (List A) (AllByRecursion Is) counted [] (number_part some is) l l at (passed_none l low) s
    counted_error some is l m j OutOfMemory low s = tt

    pub counted_reads : (l m j : Lines) (count : ℕ) (h : IsRead ℕ ℕ IsAny number_line (λ n. min n long_most) l count m) (r : Result (List A) DraftFault) → Reads {A = List A} {B = List A} (AreMany A Is h.item) (map line) (map clip) m r j
        → Reads {A = List A} {B = List A} (AllByRecursion Is) counted (map clip) l r j
    counted_reads l m j count h (Ok ys) s =
        let same : number_line h.item ++ map line s.item ≡ counted s.item = ap (λ (z : ℕ). (word ++ number_text z) ∷ map line s.item) (sym s.stands.count) in
        record { item = s.item; stands = s.stands.all; passed = passed_as l j (number_line h.item ++ map line s.item) (counted s.item) same (passed_then l m j (number_line h.item) (map line s.item) h.passed s.passed); value = s.value }
    counted_reads l m j count h (Err (Syntax at)) s = stuck_in (List A) (AreMany A Is h.item) (map line) (List A) (AllByRecursion Is) counted (number_line h.item) (lines_part h.item) l m at h.passed s
    counted_reads l m j count h (Err OutOfMemory) s = tt
