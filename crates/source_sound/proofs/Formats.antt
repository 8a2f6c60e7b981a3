-- A format has one piece that takes a number for each conversion.
use Rattle.std.proofs.Common.{◌≡◌, ℕ, zero, suc, ◌+◌, ◌==◌, Bool, true, false, if◌then◌else◌, List, [], ◌∷◌, ◌++◌, replicate, Some, None, unwrap_or, refl, sym, ap, ◌∙◌, append-nil, add-one}
use Rattle.rr_base.specs.Texts.{Text}
use Rattle.word_semantics.specs.declared.library_call.Piece.TheVariants as piece
use Rattle.word_semantics.specs.Kinds.{format_kinds}
use Rattle.c_types.specs.declared.format.Inside.{Inside}
use Rattle.c_types.specs.declared.format.Inside.TheVariants as inside
use Rattle.c_types.specs.Format.{is_decimal, conversions_from, conversions}
use Rattle.c_values.specs.Calls.{byte_piece, bytes_pieces, pieces_from, format_pieces}
use Rattle.source_sound.proofs.Apart.{some_not_none}

-- so many numbers, and then these
abbrev following : ℕ → List Bool → List Bool
following m ks = replicate m false ++ ks

one_more : (m : ℕ) (ks : List Bool) → following m (false ∷ ks) ≡ false ∷ following m ks
one_more zero ks = refl
one_more (suc m) ks = ap (λ z. false ∷ z) (one_more m ks)

next_one : (m : ℕ) (ks : List Bool) → following m (false ∷ ks) ≡ following (m + 1) ks
next_one m ks = one_more m ks ∙ sym (ap (λ z. following z ks) (add-one m))

-- the conversions from here on, with those so far
abbrev Counts : Inside → Text → ℕ → Type 0
Counts i bs m = (n : ℕ) → conversions_from i m bs ≡ Some n → following m (format_kinds (pieces_from i bs)) ≡ replicate n false

none : {A : Type 0} (n : ℕ) → None ≡ Some n → A
none n h = some_not_none None n h refl

text_counts : (c : Bool) (b : ℕ) (bs : Text) (m : ℕ) → Counts inside.Percent bs m → Counts inside.Text bs m → (n : ℕ) →
    (if c then conversions_from inside.Percent m bs else conversions_from inside.Text m bs) ≡ Some n →
    following m (format_kinds (if c then pieces_from inside.Percent bs else byte_piece b ∷ pieces_from inside.Text bs)) ≡ replicate n false
text_counts true b bs m hp ht n e = hp n e
text_counts false b bs m hp ht n e = ht n e

percent_counts : (c d l i : Bool) (bs : Text) (m : ℕ) → Counts inside.Text bs m → Counts inside.Text bs (m + 1) → Counts inside.Long bs m → (n : ℕ) →
    (if c then conversions_from inside.Text m bs else (if d then conversions_from inside.Text (m + 1) bs else (if l then conversions_from inside.Long m bs else (if i then conversions_from inside.Text (m + 1) bs else None)))) ≡ Some n →
    following m (format_kinds (if c then byte_piece 37 ∷ pieces_from inside.Text bs else (if d then piece.Letter ∷ pieces_from inside.Text bs else (if l then pieces_from inside.Long bs else piece.Number ∷ pieces_from inside.Text bs)))) ≡ replicate n false
percent_counts true d l i bs m ht hn hl n e = ht n e
percent_counts false true l i bs m ht hn hl n e = next_one m (format_kinds (pieces_from inside.Text bs)) ∙ hn n e
percent_counts false false true i bs m ht hn hl n e = hl n e
percent_counts false false false true bs m ht hn hl n e = next_one m (format_kinds (pieces_from inside.Text bs)) ∙ hn n e
percent_counts false false false false bs m ht hn hl n e = none n e

long_counts : (l i : Bool) (bs : Text) (m : ℕ) → Counts inside.Text bs (m + 1) → Counts inside.LongLong bs m → (n : ℕ) →
    (if l then conversions_from inside.LongLong m bs else (if i then conversions_from inside.Text (m + 1) bs else None)) ≡ Some n →
    following m (format_kinds (if l then pieces_from inside.LongLong bs else piece.Number ∷ pieces_from inside.Text bs)) ≡ replicate n false
long_counts true i bs m hn hl n e = hl n e
long_counts false true bs m hn hl n e = next_one m (format_kinds (pieces_from inside.Text bs)) ∙ hn n e
long_counts false false bs m hn hl n e = none n e

longer_counts : (i : Bool) (bs : Text) (m : ℕ) → Counts inside.Text bs (m + 1) → (n : ℕ) →
    (if i then conversions_from inside.Text (m + 1) bs else None) ≡ Some n → following m (format_kinds (piece.Number ∷ pieces_from inside.Text bs)) ≡ replicate n false
longer_counts true bs m hn n e = next_one m (format_kinds (pieces_from inside.Text bs)) ∙ hn n e
longer_counts false bs m hn n e = none n e

counts : (bs : Text) (i : Inside) (m : ℕ) → Counts i bs m
counts [] inside.Text m n e = append-nil (replicate m false) ∙ ap (λ o. replicate (unwrap_or o 0) false) e
counts [] inside.Percent m n e = none n e
counts [] inside.Long m n e = none n e
counts [] inside.LongLong m n e = none n e
counts (b ∷ bs) inside.Text m n e = text_counts (b == 37) b bs m (counts bs inside.Percent m) (counts bs inside.Text m) n e
counts (b ∷ bs) inside.Percent m n e = percent_counts (b == 37) (b == 99) (b == 108) (is_decimal b) bs m (counts bs inside.Text m) (counts bs inside.Text (m + 1)) (counts bs inside.Long m) n e
counts (b ∷ bs) inside.Long m n e = long_counts (b == 108) (is_decimal b) bs m (counts bs inside.Text (m + 1)) (counts bs inside.LongLong m) n e
counts (b ∷ bs) inside.LongLong m n e = longer_counts (is_decimal b) bs m (counts bs inside.Text (m + 1)) n e

pub format_numbers : (bytes : Text) (n : ℕ) → conversions bytes ≡ Some n → format_kinds (format_pieces bytes) ≡ replicate n false
format_numbers bytes n e = counts bytes inside.Text 0 n e

-- plain bytes take none
pub plain_numbers : (bytes : Text) (last : ℕ) → format_kinds (bytes_pieces bytes ++ byte_piece last ∷ []) ≡ []
plain_numbers [] last = refl
plain_numbers (b ∷ bs) last = plain_numbers bs last
