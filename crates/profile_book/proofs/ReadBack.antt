-- What is written of pairs is read back.
use Rattle.std.proofs.Common.{◌≡◌, true, false, ◌≤◌, List, [], ◌∷◌, codes, max, Option, Some, option_and_then, refl, sym, ap, ◌∙◌, arith, append-nil}
use Rattle.std.specs.List.{AllByRecursion}
use Rattle.std.specs.Str.{IsUtf8}
use Rattle.std.proofs.lemmas.Str.{IsUtf8-append}
use Rattle.json.specs.Token.{Token}
use Rattle.json.specs.Json as json
use Rattle.json.specs.Lex.{tokens}
use Rattle.json.specs.Print.{print, quoted}
use Rattle.json.specs.Tree as tree
use Rattle.json.proofs.Printed.Tokens.{tokens-print}
use Rattle.json.proofs.Printed.Trees.{value-json_tokens, ArePrintable-json_tokens}
use Rattle.json.proofs.Printed.Utf8.{IsUtf8-are_ascii, IsUtf8-quoted}
use Rattle.profiles.specs.Profile.{Text, Pair, ArePairs, AreTexts, AreAscending}
use Rattle.serde_json.specs.Data.{Data, Items}
use Rattle.serde_json.specs.Read.{read, of_json, of_items, max_depth}
use Rattle.serde_json.specs.View.{items_of}
use Rattle.serde_json.specs.Written.{compact_text, items_text, outline, items_outline}
use Rattle.serde_json.proofs.Texts.{print-outline}
use Rattle.profile_book.specs.Listing.{IsSetOf}
use Rattle.profile_book.specs.Reading.{IsProfile}
use Rattle.profile_book.specs.Writing.{pair_value, items_of_pairs, profile_value, profile_text}
use Rattle.profile_book.proofs.Values.{pairs_of-profile_value}

-- ---- the value as JSON

abbrev items_json : List Pair → json.Items
items_json ps = items_outline (items_of_pairs ps)

abbrev profile_json : List Pair → json.Json
profile_json ps = outline (profile_value ps)

items_numbers : (ps : List Pair) → tree.ItemsHaveNumbers (items_json ps)
items_numbers [] = tt
items_numbers (p ∷ ps) = ((tt, (tt, tt)), items_numbers ps)

items_depth : (ps : List Pair) → tree.items_depth (items_json ps) ≤ 1
items_depth [] = omega arith
items_depth (p ∷ ps) = omega (arith, items_depth ps)

items_read : (ps : List Pair) → of_items (items_json ps) ≡ Some (items_of_pairs ps)
items_read [] = refl
items_read (p ∷ ps) = rw (items_read ps)

profile_read : (ps : List Pair) → of_json (profile_json ps) ≡ Some (profile_value ps)
profile_read ps = rw (items_read ps)

text_tokens : (ps : List Pair) → tokens (compact_text (profile_value ps)) ≡ tree.json_tokens (profile_json ps)
text_tokens ps =
    ap tokens (sym (print-outline (profile_value ps))) ∙ tokens-print (tree.json_tokens (profile_json ps)) (ArePrintable-json_tokens (profile_json ps) (items_numbers ps, tt))

-- what a whole text is read as
abbrev whole : Option (json.Json × List Token) → Option Data
whole o = option_and_then of_json (option_and_then (λ p. json.if_last p.0 p.1) o)

text_read : (ps : List Pair) → read (compact_text (profile_value ps)) ≡ Some (profile_value ps)
text_read ps =
    let parsed = value-json_tokens (profile_json ps) max_depth [] (omega (arith, items_depth ps)) in
    ap whole (ap (json.value max_depth) (text_tokens ps ∙ sym (append-nil (tree.json_tokens (profile_json ps)))) ∙ parsed) ∙ profile_read ps

-- ---- the text is UTF-8

abbrev AreAllTexts : List Pair → Type 0
AreAllTexts ps = AllByRecursion AreTexts ps

pair_utf8 : (p : Pair) → AreTexts p → IsUtf8 (compact_text (pair_value p))
pair_utf8 p h =
    IsUtf8-append (codes "[") _ (IsUtf8-are_ascii (codes "[") refl)
    (IsUtf8-append (quoted p.0) _ (IsUtf8-quoted p.0 h.0)
    (IsUtf8-append (codes ",") _ (IsUtf8-are_ascii (codes ",") refl)
    (IsUtf8-append (quoted p.1) (codes "]") (IsUtf8-quoted p.1 h.1) (IsUtf8-are_ascii (codes "]") refl))))

more_utf8 : (ps : List Pair) → AreAllTexts ps → IsUtf8 (items_text true (items_of_pairs ps))
more_utf8 [] h = IsUtf8-are_ascii (codes "]") refl
more_utf8 (p ∷ ps) h =
    IsUtf8-append (codes ",") _ (IsUtf8-are_ascii (codes ",") refl) (IsUtf8-append (compact_text (pair_value p)) _ (pair_utf8 p h.0) (more_utf8 ps h.1))

items_utf8 : (ps : List Pair) → AreAllTexts ps → IsUtf8 (items_text false (items_of_pairs ps))
items_utf8 [] h = IsUtf8-are_ascii (codes "]") refl
items_utf8 (p ∷ ps) h = IsUtf8-append (compact_text (pair_value p)) _ (pair_utf8 p h.0) (more_utf8 ps h.1)

text_utf8 : (ps : List Pair) → AreAllTexts ps → IsUtf8 (compact_text (profile_value ps))
text_utf8 ps h =
    IsUtf8-append (codes "{") _ (IsUtf8-are_ascii (codes "{") refl)
    (IsUtf8-append (quoted (codes "pairs")) _ (IsUtf8-quoted (codes "pairs") (IsUtf8-are_ascii (codes "pairs") refl))
    (IsUtf8-append (codes ":[") _ (IsUtf8-are_ascii (codes ":[") refl)
    (IsUtf8-append (items_text false (items_of_pairs ps)) (codes "}") (items_utf8 ps h) (IsUtf8-are_ascii (codes "}") refl))))

-- ---- both together

same_set : (ps : List Pair) → AreAscending ps → IsSetOf ps ps
same_set ps h = record { ascending = h; same = λ p. (λ c. c, λ c. c) }

pub reads_back : (ps : List Pair) → ArePairs ps → IsProfile (profile_text ps) ps
unfolding profile_text
reads_back ps h = record {
  value = profile_value ps;
  listed = ps;
  spells = record { utf8 = text_utf8 ps h.texts; reads = text_read ps };
  form = pairs_of-profile_value ps h.lesser_first;
  pairs = same_set ps h.ascending;
}
