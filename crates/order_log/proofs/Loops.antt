-- The steps of the loops.
use Rattle.std.proofs.Common.{◌≡◌, ℕ, zero, suc, ◌-◌, ◌<◌, ◌≤◌, Bool, true, false, cond, List, [], ◌∷◌, ◌++◌, length, Option, Some, None, Result, Ok, refl, sym, ap, subst, ◌∙◌, arith, ⊎_elim}
use Rattle.std.specs.Prelude.{◌==◌, IsTrue}
use Rattle.std.specs.Str.{IsUtf8, IsAscii}
use Rattle.std.proofs.lemmas.Str.{IsUtf8-from_ascii}
use Rattle.std.proofs.lemmas.Str.Ascii.{IsAscii-nil, IsAscii-cons}
use Rattle.std.proofs.lemmas.Bool.Decides.{nat_tests}
use Rattle.std.proofs.lemmas.Bool.{cases_lt}
use Rattle.std.specs.List.{slice_get, AllByRecursion}
use Rattle.std.specs.Ordering.{is_lt}
use Rattle.std.proofs.lemmas.Option.{none-some, same_Some}
use Rattle.profiles.specs.Profile.{Text, Pair, pair_order, AreAscending, IsLesserFirst, AreTexts, ArePairs}
use Rattle.order_log.specs.Names.{begins_name, continues_name, IsName}
use Rattle.order_log.specs.Log.{IsNamePair}
use Rattle.order_log.specs.declared.fault.LogFault.{LogFault}
use Rattle.order_log.specs.Reading.{onto_first, lines_of}
use Rattle.order_log.specs.Line.{ends_before, pair_in, capped}
use Rattle.order_log.specs.Recogniser.{◌>>=◌, Lines, next_line, found_at, pairs_from, lines_in, next, unfinished_of}
use Rattle.order_log.proofs.Heads.{pair_is}
use Rattle.order_log.proofs.Lists.{All-append, AreAscending-push}

ok_same : (x y : List Pair × Lines) → ◌≡◌ {A = Result (List Pair × Lines) LogFault} (Ok x) (Ok y) → x ≡ y
ok_same x y e = cc

-- ---- pairs

pub ends_before_last : (ps : List Pair) (q p : Pair) → Some q ≡ slice_get ps (length ps - 1) → ends_before ps p ≡ is_lt (pair_order q p)
ends_before_last [] q p e = absurd (none-some q (sym e))
ends_before_last (r ∷ []) q p e = ap (λ (x : Pair). is_lt (pair_order x p)) (sym (same_Some q r e))
ends_before_last (r ∷ s ∷ ss) q p e =
    let at : length (r ∷ s ∷ ss) - 1 ≡ suc (length (s ∷ ss) - 1) = omega arith in
    ends_before_last (s ∷ ss) q p (e ∙ ap (slice_get (r ∷ s ∷ ss)) at)

pub pairs_more : (left : ℕ) (ps : List Pair) (l after : Lines) (line : Text) (p : Pair) (total : Result (List Pair × Lines) LogFault) → 0 < left → next_line l ≡ Ok (line, after) → Some p ≡ pair_in ps line
    → pairs_from left ps l ≡ total → pairs_from (left - 1) (ps ++ p ∷ []) after ≡ total
pairs_more zero ps l after line p total some there found so_far = absurd (omega arith)
pairs_more (suc left) ps l after line p total some there found so_far =
    let less : suc left - 1 ≡ left = omega arith in
    let here : pairs_from (suc left) ps l ≡ pairs_from left (ps ++ p ∷ []) after = rw (there, ← found) refl in
    ap (λ (k : ℕ). pairs_from k (ps ++ p ∷ []) after) less ∙ sym here ∙ so_far

-- ---- more pairs than there are lines

length_onto : (b : ℕ) (lines : List Text) → length (onto_first b lines) ≡ length lines
length_onto b [] = refl
length_onto b (line ∷ lines) = refl

pub length-lines_of : (bytes : Text) → length (lines_of bytes) ≤ length bytes
length-lines_of [] = omega arith
length-lines_of (b ∷ bs) = by (b == 10) (length-lines_of bs)
  where
    by : (t : Bool) → length (lines_of bs) ≤ length bs → length (cond t ([] ∷ lines_of bs) (onto_first b (lines_of bs))) ≤ length (b ∷ bs)
    by true h = omega arith
    by false h = omega (arith, length_onto b (lines_of bs))

abbrev AreAlike : ℕ → ℕ → List Text → Type 0
AreAlike m n lines = (ps : List Pair) (at : ℕ) (rest : Text) → pairs_from m ps (record { at = at; whole = lines; rest = rest }) ≡ pairs_from n ps (record { at = at; whole = lines; rest = rest })

alike_one : (m n : ℕ) (line : Text) (lines : List Text) → AreAlike m n lines → AreAlike (suc m) (suc n) (line ∷ lines)
alike_one m n line lines others ps at rest = by (pair_in ps line)
  where
    after : Lines
    after = record { at = next at; whole = lines; rest = rest }

    by : (o : Option Pair) → (found_at at o >>= λ p. pairs_from m (ps ++ p ∷ []) after) ≡ (found_at at o >>= λ p. pairs_from n (ps ++ p ∷ []) after)
    by None = refl
    by (Some p) = others (ps ++ p ∷ []) (next at) rest

short_alike : (m n : ℕ) (lines : List Text) → length lines < m → length lines < n → AreAlike m n lines
short_alike zero n lines lm ln ps at rest = absurd (omega arith)
short_alike (suc m) zero lines lm ln ps at rest = absurd (omega arith)
short_alike (suc m) (suc n) [] lm ln ps at rest = refl
short_alike (suc m) (suc n) (line ∷ lines) lm ln ps at rest = alike_one m n line lines (short_alike m n lines (omega arith) (omega arith)) ps at rest

pub pairs_from-capped : (n at : ℕ) (bytes : Text) → length bytes < 18446744073709551615 → pairs_from (capped n) [] (lines_in at bytes) ≡ pairs_from n [] (lines_in at bytes)
pairs_from-capped n at bytes short =
    let few = length-lines_of bytes in
    ⊎_elim
    (λ lt. let same : capped n ≡ n = omega arith in ap (λ (k : ℕ). pairs_from k [] (lines_in at bytes)) same)
    (λ le. let all : capped n ≡ 18446744073709551615 = omega arith in short_alike (capped n) n (lines_of bytes) (omega arith) (omega arith) [] at (unfinished_of bytes))
    (cases_lt n 18446744073709551615)

-- ---- what pairs keep

-- pairs that a log's profile may have
pub record Keep (ps : List Pair) : Type 0 where
  pub ascending : AreAscending ps
  pub names : AllByRecursion IsNamePair ps

keeps_one : (left : ℕ) (ps : List Pair) (at : ℕ) (lines : List Text) (rest : Text) (x : List Pair × Lines)
    → ((qs : List Pair) (l : Lines) → Keep qs → pairs_from left qs l ≡ Ok x → Keep x.0) → Keep ps → pairs_from (suc left) ps (record { at = at; whole = lines; rest = rest }) ≡ Ok x → Keep x.0
keeps_one left ps at [] rest x others k e = absurd cc
keeps_one left ps at (line ∷ lines) rest x others k e = by (pair_in ps line) refl e
  where
    after : Lines
    after = record { at = next at; whole = lines; rest = rest }

    by : (o : Option Pair) → pair_in ps line ≡ o → (found_at at o >>= λ p. pairs_from left (ps ++ p ∷ []) after) ≡ Ok x → Keep x.0
    by None is h = absurd cc
    by (Some p) is h =
        let found = pair_is ps line p is in
        others (ps ++ p ∷ []) after (record { ascending = AreAscending-push ps p k.ascending found.later; names = All-append IsNamePair ps (p ∷ []) k.names (found.names, tt) }) h

pairs_keep : (left : ℕ) (ps : List Pair) (l : Lines) (x : List Pair × Lines) → Keep ps → pairs_from left ps l ≡ Ok x → Keep x.0
pairs_keep zero ps l x k e = let same : ps ≡ x.0 = ap (λ (y : List Pair × Lines). y.0) (ok_same (ps, l) x e) in subst Keep same k
pairs_keep (suc left) ps l x k e = keeps_one left ps l.at l.whole l.rest x (λ qs m h f. pairs_keep left qs m x h f) k e

names_ascii : (bs : Text) → AllByRecursion (λ b. IsTrue (continues_name b)) bs → IsAscii bs
names_ascii [] h = IsAscii-nil
names_ascii (b ∷ bs) h = IsAscii-cons b bs (continues_ascii b h.0) (names_ascii bs h.1)
  where
    continues_ascii : (c : ℕ) → continues_name c ≡ true → c < 128
    continues_ascii c t = grind (arith, nat_tests)

IsUtf8-name : (name : Text) → IsName name → IsUtf8 name
IsUtf8-name [] h = absurd h
IsUtf8-name (b ∷ bs) h = IsUtf8-from_ascii (b ∷ bs) (IsAscii-cons b bs (begins_ascii b h.0) (names_ascii bs h.1))
  where
    begins_ascii : (c : ℕ) → begins_name c ≡ true → c < 128
    begins_ascii c t = grind (arith, nat_tests)

lesser_firsts : (ps : List Pair) → AllByRecursion IsNamePair ps → AllByRecursion IsLesserFirst ps
lesser_firsts [] h = tt
lesser_firsts (p ∷ ps) h = (h.0.lesser_first, lesser_firsts ps h.1)

are_texts : (ps : List Pair) → AllByRecursion IsNamePair ps → AllByRecursion AreTexts ps
are_texts [] h = tt
are_texts (p ∷ ps) h = ((IsUtf8-name p.0 h.0.first, IsUtf8-name p.1 h.0.second), are_texts ps h.1)

pub pairs_are_right : (n : ℕ) (l : Lines) (ps : List Pair) (after : Lines) → pairs_from n [] l ≡ Ok (ps, after) → ArePairs ps
pairs_are_right n l ps after e =
    let k = pairs_keep n [] l (ps, after) (record { ascending = tt; names = tt }) e in
    record { ascending = k.ascending; lesser_first = lesser_firsts ps k.names; texts = are_texts ps k.names }
