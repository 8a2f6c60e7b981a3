-- The places of tokens and faults.
use Rattle.std.proofs.Common.{◌≡◌, ℕ, zero, suc, ◌+◌, ◌-◌, Bool, true, false, cond, not, ◌==◌, nat_lt, List, [], ◌∷◌, ◌++◌, length, take, drop, slice_range, All, Ok, Err, refl, ap, sym, ◌∙◌, subst, arith, append_assoc, length-append, zero-add, append-nil, if◌then◌else◌}
use Rattle.std.specs.List.{suffix_len, prefix_len, count_by}
use Rattle.std.proofs.lemmas.List.{reverse-append, take-append-drop}
use Rattle.std.proofs.Math.Seq.{take-append_seam}
use Rattle.std.proofs.lemmas.List.Sums.{sum_by-append}
use Rattle.rr_base.specs.Positions.{position_at}
use Rattle.rr_base.specs.Texts.{Text}
use Rattle.c_lexer.specs.Bytes.{is_in_line}
use Rattle.c_lexer.specs.Laws.{IsCursorOf, ArePlaced, PlacesAreTrue}
use Rattle.c_lexer.specs.Tokens.{Found, Reading, start, piece_at, tokens_of, tokens_from, with_token, met, next, after, passed}
use Rattle.c_lexer.specs.declared.piece.Piece.{Piece}
use Rattle.c_lexer.specs.declared.piece.Piece.TheVariants as piece
use Rattle.c_lexer.specs.declared.piece.Cursor.{Cursor}
use Rattle.c_lexer.specs.declared.token.Token.{Token}

-- the cursor after these bytes of a text, in the words of lines and columns
pub record IsAfter (front : Text) (cursor : Cursor) : Type 0 where
  pub offset : cursor.offset ≡ length front
  pub line : cursor.at.line ≡ 1 + count_by (λ b. b == 10) front
  pub column : cursor.at.column ≡ 1 + suffix_len is_in_line front

count_by-push : (front : Text) (b : ℕ) → count_by (λ b. b == 10) (front ++ b ∷ []) ≡ count_by (λ b. b == 10) front + (if b == 10 then 1 else 0)
count_by-push front b = sum_by-append (λ x. cond (x == 10) 1 0) front (b ∷ []) ∙ ap (λ n. count_by (λ b. b == 10) front + n) (zero-add (cond (b == 10) 1 0))

cond-not : (t : Bool) (m n : ℕ) → cond (not t) m n ≡ cond t n m
cond-not true m n = refl
cond-not false m n = refl

suffix_len-push : (front : Text) (b : ℕ) → suffix_len is_in_line (front ++ b ∷ []) ≡ (if b == 10 then 0 else 1 + suffix_len is_in_line front)
suffix_len-push front b = ap (prefix_len is_in_line) (reverse-append front (b ∷ [])) ∙ cond-not (b == 10) (1 + suffix_len is_in_line front) 0

-- after one byte more, by whether it is a newline
next_by : (front : Text) (b : ℕ) (cursor : Cursor) (t : Bool) → IsAfter front cursor
    → count_by (λ b. b == 10) (front ++ b ∷ []) ≡ count_by (λ b. b == 10) front + cond t 1 0
    → suffix_len is_in_line (front ++ b ∷ []) ≡ cond t 0 (1 + suffix_len is_in_line front)
    → IsAfter (front ++ b ∷ []) (if◌then◌else◌ t (record { offset = cursor.offset + 1; at = position_at (cursor.at.line + 1) 1 }) (record { offset = cursor.offset + 1; at = position_at cursor.at.line (cursor.at.column + 1) }))
next_by front b cursor true h c s = record { offset = omega (arith, length-append front (b ∷ []), h.offset); line = omega (arith, h.line, c); column = omega (arith, s) }
next_by front b cursor false h c s = record { offset = omega (arith, length-append front (b ∷ []), h.offset); line = omega (arith, h.line, c); column = omega (arith, h.column, s) }

next-is_after : (front : Text) (b : ℕ) (cursor : Cursor) → IsAfter front cursor → IsAfter (front ++ b ∷ []) (next b cursor)
next-is_after front b cursor h = next_by front b cursor (b == 10) h (count_by-push front b) (suffix_len-push front b)

more-is_after : (front bs : Text) (cursor : Cursor) → IsAfter front cursor → IsAfter (front ++ bs) (after bs cursor)
more-is_after front [] cursor h = subst (λ f. IsAfter f cursor) (sym (append-nil front)) h
more-is_after front (b ∷ bs) cursor h =
    subst (λ f. IsAfter f (after bs (next b cursor))) (append_assoc front (b ∷ []) bs)
    (more-is_after (front ++ b ∷ []) bs (next b cursor) (next-is_after front b cursor h))

-- a cursor after the first bytes of a text is one of the text
of_text : (front bs : Text) (cursor : Cursor) → IsAfter front cursor → IsCursorOf (front ++ bs) cursor
of_text front bs cursor h =
    let e : take cursor.offset (front ++ bs) ≡ front = ap (λ n. take n (front ++ bs)) h.offset ∙ take-append_seam front bs in
    record {
      within = omega (arith, length-append front bs, h.offset);
      line = h.line ∙ ap (λ f. 1 + count_by (λ b. b == 10) f) (sym e);
      column = h.column ∙ ap (λ f. 1 + suffix_len is_in_line f) (sym e);
    }

all_more : {X : Type 0} (P : X → Type 0) (x : X) (xs : List X) → P x → All P xs → All P (x ∷ xs)
all_more P x xs p h zero d lt = p
all_more P x xs p h (suc k) d lt = h k d (omega arith)

more_placed : (text : Text) (t : Token) (found : Found) → IsCursorOf text (record { offset = t.start; at = t.at }) → ArePlaced text found → ArePlaced text (with_token t found)
more_placed text t (Ok ts) p h = all_more (λ t. IsCursorOf text (record { offset = t.start; at = t.at })) t ts p h
more_placed text t (Err f) p h = h

-- what a piece comes to is placed, where what comes after it is
met_placed : (text front bs : Text) (p : Piece) (r : Reading) (more : ℕ → Reading → Found) → text ≡ front ++ bs → IsAfter front r.cursor → ((n : ℕ) (r' : Reading) → r'.cursor ≡ r.cursor → ArePlaced text (more n r')) → ArePlaced text (met p bs r more)
met_placed text front bs (piece.Blank n) r more e h m = m n r refl
met_placed text front bs (piece.Token k n) r more e h m =
    more_placed text _ _ (subst (λ t. IsCursorOf t r.cursor) (sym e) (of_text front bs r.cursor h)) (m n (record r { token_line = r.cursor.at.line }) refl)
met_placed text front bs (piece.Define from to value n) r more e h m = m n (record r { defined = r.defined ++ (slice_range bs from to, value) ∷ [] }) refl
met_placed text front bs (piece.Fault f n) r more e h m =
    let split : text ≡ (front ++ take n bs) ++ drop n bs = e ∙ ap (λ b. front ++ b) (sym (take-append-drop n bs)) ∙ sym (append_assoc front (take n bs) (drop n bs)) in
    let cursor = after (take n bs) r.cursor in
    (f, cursor, subst (λ t. IsCursorOf t cursor) (sym split) (of_text (front ++ take n bs) (drop n bs) cursor (more-is_after front (take n bs) r.cursor h)), refl)

placed_from : (text front : Text) (left : ℕ) (r : Reading) (bs : Text) → text ≡ front ++ bs → IsAfter front r.cursor → ArePlaced text (tokens_from left r bs)
placed_from text front left r [] e h = λ k d lt. absurd (omega arith)
placed_from text front (suc left) r (b ∷ bs) e h = placed_from text (front ++ b ∷ []) left (passed b r) bs (e ∙ sym (append_assoc front (b ∷ []) bs)) (next-is_after front b r.cursor h)
placed_from text front zero r (b ∷ bs) e h =
    met_placed text front (b ∷ bs) (piece_at (nat_lt r.token_line r.cursor.at.line) r.defined (b ∷ bs)) r _ e h
    (λ n r' same. placed_from text (front ++ b ∷ []) (n - 1) (passed b r') bs (e ∙ sym (append_assoc front (b ∷ []) bs)) (next-is_after front b r'.cursor (subst (IsAfter front) (sym same) h)))

pub places_are_true : PlacesAreTrue
unfolding tokens_of
places_are_true text = placed_from text [] 0 start text refl (record { offset = refl; line = refl; column = refl })
