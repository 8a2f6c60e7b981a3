-- One piece more.
use Rattle.std.proofs.Common.{◌≡◌, ℕ, zero, suc, ◌≤◌, ◌<◌, ◌+◌, ◌-◌, List, [], ◌∷◌, ◌++◌, nat_lt, length, take, drop, slice_range, ℤ, Ok, Err, refl, ap, sym, ◌∙◌, arith, append_assoc}
use Rattle.rr_base.specs.declared.position.Position.{Position}
use Rattle.rr_base.specs.Texts.{Text}
use Rattle.c_lexer.specs.Spans.{AreInOrder}
use Rattle.c_lexer.specs.Faults.{fault_at}
use Rattle.c_lexer.specs.Tokens.{Reading, Found, piece_at, after, passed, met, tokens_from, with_token, IsFaultOf}
use Rattle.c_lexer.specs.declared.fault.Fault.{Fault}
use Rattle.c_lexer.specs.declared.fault.Fault.TheVariants as fault
use Rattle.c_lexer.specs.declared.piece.Piece.TheVariants as piece
use Rattle.c_lexer.specs.declared.token.Kind.{Kind}
use Rattle.c_lexer.specs.declared.token.Token.{Token}

-- with the tokens of what stands before
abbrev pub with_front : List Token → Found → Found
with_front front (Ok ts) = Ok (front ++ ts)
with_front front (Err f) = Err f

pub with_front-token : (front : List Token) (t : Token) (found : Found) → with_front front (with_token t found) ≡ with_front (front ++ t ∷ []) found
with_front-token front t (Ok ts) = ap Ok (sym (append_assoc front (t ∷ []) ts))
with_front-token front t (Err f) = refl

pub with_front-empty : (found : Found) → with_front [] found ≡ found
with_front-empty (Ok ts) = refl
with_front-empty (Err f) = refl

-- so many bytes on
abbrev pub on : Text → Reading → Reading
on bs r = record r { cursor = after bs r.cursor }

passes : (n : ℕ) (r : Reading) (bs : Text) → n ≤ length bs → tokens_from n r bs ≡ tokens_from 0 (on (take n bs) r) (drop n bs)
passes zero r bs h = refl
passes (suc n) r [] h = absurd (omega arith)
passes (suc n) r (b ∷ bs) h = passes n (passed b r) bs (omega arith)

-- the same after the first byte
passes_rest : (n : ℕ) (r : Reading) (b : ℕ) (bs : Text) → 1 ≤ n → n ≤ length (b ∷ bs) → tokens_from (n - 1) (passed b r) bs ≡ tokens_from 0 (on (take n (b ∷ bs)) r) (drop n (b ∷ bs))
passes_rest zero r b bs h le = absurd (omega arith)
passes_rest (suc n) r b bs h le =
    let e : suc n - 1 ≡ n = omega arith in
    ap (λ k. tokens_from k (passed b r) bs) e ∙ passes n (passed b r) bs (omega arith)

module _ (r : Reading) where
  abbrev cut : Text → piece.the_data
  cut bs = piece_at (nat_lt r.token_line r.cursor.at.line) r.defined bs

  abbrev token : Kind → ℕ → Token
  token k n = record { kind = k; at = r.cursor.at; start = r.cursor.offset; end = r.cursor.offset + n }

  pub blank_step : (bs : Text) (n : ℕ) → cut bs ≡ piece.Blank n → 1 ≤ n → n ≤ length bs → tokens_from 0 r bs ≡ tokens_from 0 (on (take n bs) r) (drop n bs)
  blank_step [] n e h le = absurd (omega arith)
  blank_step (b ∷ bs) n e h le = ap (λ p. met p (b ∷ bs) r (λ n r'. tokens_from (n - 1) (passed b r') bs)) e ∙ passes_rest n r b bs h le

  pub token_step : (bs : Text) (k : Kind) (n : ℕ) → cut bs ≡ piece.Token k n → 1 ≤ n → n ≤ length bs
      → tokens_from 0 r bs ≡ with_token (token k n) (tokens_from 0 (on (take n bs) (record r { token_line = r.cursor.at.line })) (drop n bs))
  token_step [] k n e h le = absurd (omega arith)
  token_step (b ∷ bs) k n e h le =
      ap (λ p. met p (b ∷ bs) r (λ n r'. tokens_from (n - 1) (passed b r') bs)) e
      ∙ ap (with_token (token k n)) (passes_rest n (record r { token_line = r.cursor.at.line }) b bs h le)

  pub define_step : (bs : Text) (from to : ℕ) (value : ℤ) (n : ℕ) → cut bs ≡ piece.Define from to value n → 1 ≤ n → n ≤ length bs
      → tokens_from 0 r bs ≡ tokens_from 0 (on (take n bs) (record r { defined = r.defined ++ (slice_range bs from to, value) ∷ [] })) (drop n bs)
  define_step [] from to value n e h le = absurd (omega arith)
  define_step (b ∷ bs) from to value n e h le =
      ap (λ p. met p (b ∷ bs) r (λ n r'. tokens_from (n - 1) (passed b r') bs)) e
      ∙ passes_rest n (record r { defined = r.defined ++ (slice_range (b ∷ bs) from to, value) ∷ [] }) b bs h le

  pub fault_step : (bs : Text) (f : Fault) (n : ℕ) → cut bs ≡ piece.Fault f n → 1 ≤ length bs → tokens_from 0 r bs ≡ Err (fault_at f (after (take n bs) r.cursor).at)
  fault_step [] f n e h = absurd (omega arith)
  fault_step (b ∷ bs) f n e h = ap (λ p. met p (b ∷ bs) r (λ n r'. tokens_from (n - 1) (passed b r') bs)) e

-- one token more, after the others
pub order-pushed : (from at : ℕ) (ts : List Token) (t : Token) → AreInOrder from at ts → at ≤ t.start → t.start < t.end → AreInOrder from t.end (ts ++ t ∷ [])
order-pushed from at [] t h le lt = (omega arith, lt, omega arith)
order-pushed from at (u ∷ us) t h le lt = (h.0, h.1, order-pushed u.end at us t h.2 le lt)

-- and so the spans end further on
pub order-later : (from at to : ℕ) (ts : List Token) → AreInOrder from at ts → at ≤ to → AreInOrder from to ts
order-later from at to [] h le = omega arith
order-later from at to (t ∷ ts) h le = (h.0, h.1, order-later t.end at to ts h.2 le)

pub fault-of : (f : Fault) (p : Position) (found : Found) → found ≡ Err (fault_at f p) → IsFaultOf (fault_at f p) found
fault-of fault.BadByte p found e = e
fault-of fault.OpenComment p found e = e
fault-of fault.OpenText p found e = e
fault-of fault.BadEscape p found e = e
fault-of fault.WideNumber p found e = e
fault-of fault.BadDirective p found e = e
