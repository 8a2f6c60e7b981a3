-- Proofs of the laws.
use Rattle.std.proofs.Common.{◌≡◌, ℕ, zero, suc, ◌≤◌, ◌<◌, ◌+◌, Bool, true, false, ◌&&◌, nat_eq, nat_lt, List, [], ◌∷◌, ◌++◌, length, map, take, get_or, Contains, Ok, Err, refl, ap, sym, ◌∙◌, subst, arith, if◌then◌else◌, rules, length-append}
use Rattle.std.proofs.lemmas.Bool.{ltb-true}
use Rattle.std.proofs.Math.Seq.{drop-append_seam}
use Rattle.std.specs.List.{starts_with, AllByRecursion}
use Rattle.std.proofs.lemmas.List.Elements.{All-contains, All-from_recursion, recursion_from_All}
use Rattle.rr_base.specs.Texts.{Text}
use Rattle.c_lexer.specs.Defined.{Defined}
use Rattle.c_lexer.specs.Names.{name_at, is_blank_word, word_of, kind_of}
use Rattle.c_lexer.specs.Laws.{IsTokenOf, LongestIsCut, spellings, spelled, AreFound, SpelledAreFound}
use Rattle.c_lexer.proofs.Steps.{on, token_step, blank_step}
use Rattle.c_lexer.specs.Tables.{puncts}
use Rattle.c_lexer.specs.Tokens.{Found, Reading, start, piece_at, plain_at, punct_at, punct_in, tokens_of, tokens_from, with_token}
use Rattle.c_lexer.specs.declared.piece.Piece.{Piece}
use Rattle.c_lexer.specs.declared.piece.Piece.TheVariants as piece
use Rattle.c_lexer.specs.declared.token.Kind.{Kind}
use Rattle.c_lexer.specs.declared.token.Kind.TheVariants as kind
use Rattle.c_lexer.specs.declared.token.Punct.{Punct}
use Rattle.c_lexer.specs.declared.token.Token.{Token}

-- ---- the longest punctuation

-- no spelling is longer than this
abbrev fits : ℕ → List (Text × Punct) → Bool
fits n [] = true
fits n (e ∷ es) = nat_lt (length e.0) (suc n) && fits n es

-- no spelling is longer than those before it
abbrev is_falling : List (Text × Punct) → Bool
is_falling [] = true
is_falling (e ∷ es) = fits (length e.0) es && is_falling es

first_true : (a b : Bool) → (a && b) ≡ true → a ≡ true
first_true true b h = refl
first_true false b h = h

second_true : (a b : Bool) → (a && b) ≡ true → b ≡ true
second_true true b h = h
second_true false b h = cc

at_most : (m n : ℕ) → nat_lt m (suc n) ≡ true → m ≤ n
at_most m n h = omega (arith, ltb-true m (suc n) h)

fits-at : (n : ℕ) (es : List (Text × Punct)) (k : ℕ) (s : Text) → fits n es ≡ true → k < length (map (λ e. e.0) es) → get_or (map (λ e. e.0) es) k s ≡ s → length s ≤ n
fits-at n [] k s f lt e = absurd (omega arith)
fits-at n (x ∷ xs) zero s f lt e = subst (λ t. length t ≤ n) e (at_most (length x.0) n (first_true _ (fits n xs) f))
fits-at n (x ∷ xs) (suc k) s f lt e = fits-at n xs k s (second_true (nat_lt (length x.0) (suc n)) _ f) (omega arith) e

-- the first of a table, where a text begins with it
cut_first : (text : Text) (x : Text × Punct) (xs : List (Text × Punct)) → starts_with nat_eq text x.0 ≡ true → IsTokenOf (length x.0) (punct_in (x ∷ xs) text)
cut_first text x xs h = rw h (omega arith)

-- the first, or what the others give
cut_by : (b : Bool) (len : ℕ) (x : Text × Punct) (p : Piece) → len ≤ length x.0 → IsTokenOf len p → IsTokenOf len (if◌then◌else◌ b (piece.Token (kind.Punct x.1) (length x.0)) p)
cut_by true len x p le h = le
cut_by false len x p le h = h

longest-at : (text : Text) (es : List (Text × Punct)) (k : ℕ) (s : Text) → is_falling es ≡ true → k < length (map (λ e. e.0) es) → get_or (map (λ e. e.0) es) k s ≡ s → starts_with nat_eq text s ≡ true → IsTokenOf (length s) (punct_in es text)
longest-at text [] k s f lt e h = absurd (omega arith)
longest-at text (x ∷ xs) zero s f lt e h = subst (λ t. starts_with nat_eq text t ≡ true → IsTokenOf (length t) (punct_in (x ∷ xs) text)) e (cut_first text x xs) h
longest-at text (x ∷ xs) (suc k) s f lt e h =
    cut_by (starts_with nat_eq text x.0) (length s) x (punct_in xs text)
    (fits-at (length x.0) xs k s (first_true _ (is_falling xs) f) (omega arith) e)
    (longest-at text xs k s (second_true (fits (length x.0) xs) _ f) (omega arith) e h)

pub longest : LongestIsCut
unfolding punct_at
longest text s c h = longest-at text puncts c.0 s refl c.1 c.2 h

-- ---- words and punctuation are their tokens

module _ (first : Bool) (defined : Defined) (rest : Text) where
  abbrev IsCut : Text × Kind → Type 0
  IsCut e = piece_at first defined (e.0 ++ 32 ∷ rest) ≡ piece.Token e.1 (length e.0)

  each : AllByRecursion IsCut spellings
  unfolding piece_at plain_at punct_at name_at is_blank_word word_of kind_of
  each = search rules

blank : (first : Bool) (defined : Defined) (rest : Text) → piece_at first defined (32 ∷ rest) ≡ piece.Blank 1
unfolding piece_at plain_at
blank first defined rest = refl

-- no spelling is empty
abbrev HasByte : Text × Kind → Type 0
HasByte e = 1 ≤ length e.0

filled : AllByRecursion HasByte spellings
filled = search rules

found_more : (t : Token) (ks : List Kind) (found : Found) → AreFound ks found → AreFound (t.kind ∷ ks) (with_token t found)
found_more t ks (Ok ts) h = ap (λ l. t.kind ∷ l) h
found_more t ks (Err f) h = absurd h

spelled_from : (r : Reading) (es : List (Text × Kind)) → AllByRecursion (Contains spellings) es → AreFound (map (λ e. e.1) es) (tokens_from 0 r (spelled es))
spelled_from r [] h = refl
spelled_from r (e ∷ es) h =
    let rest = spelled es in
    let bs = e.0 ++ 32 ∷ rest in
    let n = length e.0 in
    let first = nat_lt r.token_line r.cursor.at.line in
    let is = All-contains (IsCut first r.defined rest) spellings e (All-from_recursion (IsCut first r.defined rest) spellings (each first r.defined rest)) h.0 in
    let some = All-contains HasByte spellings e (All-from_recursion HasByte spellings filled) h.0 in
    let within : n ≤ length bs = omega (arith, length-append e.0 (32 ∷ rest)) in
    let r1 : Reading = on (take n bs) (record r { token_line = r.cursor.at.line }) in
    let t : Token = record { kind = e.1; at = r.cursor.at; start = r.cursor.offset; end = r.cursor.offset + n } in
    let step = token_step r bs e.1 n is some within in
    let space = blank_step r1 (32 ∷ rest) 1 (blank _ _ rest) (omega arith) (omega arith) in
    let all : tokens_from 0 r bs ≡ with_token t (tokens_from 0 (on (32 ∷ []) r1) rest) = step ∙ ap (λ d. with_token t (tokens_from 0 r1 d)) (drop-append_seam e.0 (32 ∷ rest)) ∙ ap (with_token t) space in
    subst (AreFound (e.1 ∷ map (λ e. e.1) es)) (sym all) (found_more t (map (λ e. e.1) es) (tokens_from 0 (on (32 ∷ []) r1) rest) (spelled_from (on (32 ∷ []) r1) es h.1))

pub spelled_are_found : SpelledAreFound
unfolding tokens_of
spelled_are_found es h = spelled_from start es (recursion_from_All (Contains spellings) es h)
