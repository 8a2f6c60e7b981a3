-- One unit of a text more.
use Rattle.std.proofs.Common.{◌≡◌, ℕ, zero, suc, ◌≤◌, ◌+◌, ◌-◌, List, [], ◌∷◌, ◌++◌, length, drop, refl, ap, sym, ◌∙◌, arith, add-zero, append_assoc}
use Rattle.std.proofs.lemmas.List.{drop-drop}
use Rattle.rr_base.specs.Texts.{Text}
use Rattle.c_lexer.specs.Quotes.{unit_at, body_from, body_by, with_byte}
use Rattle.c_lexer.specs.declared.piece.Unit.TheVariants as part
use Rattle.c_lexer.specs.declared.piece.Body.{Body}
use Rattle.c_lexer.specs.declared.piece.Body.TheVariants as body

-- with the bytes of what stands before
abbrev pub with_bytes : List ℕ → Body → Body
with_bytes front (body.Closed bytes len) = body.Closed (front ++ bytes) len
with_bytes front (body.BadEscape at) = body.BadEscape at
with_bytes front body.Open = body.Open

pub with_bytes-byte : (front : List ℕ) (v : ℕ) (b : Body) → with_bytes (front ++ v ∷ []) b ≡ with_bytes front (with_byte v b)
with_bytes-byte front v (body.Closed bytes len) = ap (λ bs. body.Closed bs len) (append_assoc front (v ∷ []) bytes)
with_bytes-byte front v (body.BadEscape at) = refl
with_bytes-byte front v body.Open = refl

passes : (n at : ℕ) (bs : Text) → n ≤ length bs → body_from n at bs ≡ body_from 0 (at + n) (drop n bs)
passes zero at bs h = ap (λ k. body_from 0 k bs) (sym (add-zero at))
passes (suc n) at [] h = absurd (omega arith)
passes (suc n) at (b ∷ bs) h =
    let e : at + 1 + n ≡ at + suc n = omega arith in
    passes n (at + 1) bs (omega arith) ∙ ap (λ k. body_from 0 k (drop n bs)) e

passes_rest : (n at b : ℕ) (bs : Text) → 1 ≤ n → n ≤ length (b ∷ bs) → body_from (n - 1) (at + 1) bs ≡ body_from 0 (at + n) (drop n (b ∷ bs))
passes_rest zero at b bs h le = absurd (omega arith)
passes_rest (suc n) at b bs h le =
    let e : suc n - 1 ≡ n = omega arith in
    ap (λ k. body_from k (at + 1) bs) e ∙ passes (suc n) at (b ∷ bs) le

-- what a body is that begins with a byte or an escape
byte_step : (at : ℕ) (bs : Text) (v n : ℕ) → unit_at 34 bs ≡ part.Byte v n → 1 ≤ n → n ≤ length bs → body_from 0 at bs ≡ with_byte v (body_from 0 (at + n) (drop n bs))
byte_step at [] v n e h le = absurd (omega arith)
byte_step at (b ∷ bs) v n e h le =
    ap (λ u. body_by u at (λ n. body_from (n - 1) (at + 1) bs)) e ∙ ap (with_byte v) (passes_rest n at b bs h le)

-- one turn of the loop that collects the bytes
pub byte_turn : (text : Text) (len v n : ℕ) (front : List ℕ) (whole : Body) → unit_at 34 (drop len text) ≡ part.Byte v n → 1 ≤ n → n ≤ length (drop len text)
    → with_bytes front (body_from 0 len (drop len text)) ≡ whole → with_bytes (front ++ v ∷ []) (body_from 0 (len + n) (drop (len + n) text)) ≡ whole
byte_turn text len v n front whole e h le so =
    with_bytes-byte front v (body_from 0 (len + n) (drop (len + n) text))
    ∙ ap (λ bs. with_bytes front (with_byte v (body_from 0 (len + n) bs))) (sym (drop-drop n len text))
    ∙ ap (with_bytes front) (sym (byte_step len (drop len text) v n e h le)) ∙ so
