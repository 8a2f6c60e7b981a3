-- How `clap` walks over words that are fit for a command: it takes them all, and holds their pairs.
use Rattle.std.proofs.Common.{◌≡◌, refl, sym, ◌∙◌, ap, subst, ℕ, ◌+◌, ◌≤◌, zero, suc, Bool, true, false, cond, ◌&&◌, List, [], ◌∷◌, ◌++◌, length, take, drop, Option, Some, None, arith, append-nil, append_assoc, take_all, inl, inr}
use Rattle.std.specs.Prelude.{⊤}
use Rattle.std.specs.List.{after_first, before_first, fold, list_any, position_or_len}
use Rattle.std.proofs.lemmas.Bool.{and_from, cases_Bool}
use Rattle.clap.specs.Lexer.{name_and_value}
use Rattle.clap.specs.Simple.{Shape}
use Rattle.clap.specs.Takes.{turn_passes, walk_passes}
use Rattle.clap.specs.Walk.{Rule, Text, Walk, walked}
use Rattle.command_line.specs.Arguments.{Argument, Positional, Setting, Wrong, arguments, are_fit, is_equals, is_name, is_option, positional, setting}
use Rattle.command_line.specs.Reader.{Pair, pairs}
use Rattle.command_line.proofs.FirstWords.{name_first}
use Rattle.command_line.proofs.Pairs.{are_distinct, is_new, or_parts, setting_taken}
use Rattle.command_line.proofs.Steps.{FitsOption, FitsWord, Settles, apart_is_taken, joined_is_taken, so_far, step_apart, step_joined, step_value, step_word, value_is_taken, waits_at, walk_at, word_is_taken}

-- ---- a text and its `=`

one_more_than : (n : ℕ) → 1 + n ≡ suc n
one_more_than n = omega arith

equals_place : (text : Text) → list_any is_equals text ≡ false → position_or_len is_equals text ≡ length text
equals_place [] h = refl
equals_place (b ∷ bs) h =
    let p = or_parts (is_equals b) (list_any is_equals bs) h in
    rw p.0 (ap (λ n. 1 + n) (equals_place bs p.1) ∙ one_more_than (length bs))

joined_name : (text : Text) → list_any is_equals text ≡ true → name_and_value text ≡ (before_first is_equals text, Some (after_first is_equals text))
joined_name text h = ap (λ b. (before_first is_equals text, cond b (Some (after_first is_equals text)) None)) h

apart_name : (text : Text) → list_any is_equals text ≡ false → name_and_value text ≡ (text, None)
apart_name text h =
    let all : before_first is_equals text ≡ text = ap (λ n. take n text) (equals_place text h) ∙ take_all (length text) text (omega arith) in
    ap (λ b. (before_first is_equals text, cond b (Some (after_first is_equals text)) None)) h ∙ ap (λ (t : Text). (t, None)) all

-- ---- what a word is

data Kind (word : Text) : Type 0 where
  Name : is_name word ≡ true → Kind word
  Joined : (text : Text) → word ≡ 45 ∷ 45 ∷ text → list_any is_equals text ≡ true → Kind word
  Apart : (text : Text) → word ≡ 45 ∷ 45 ∷ text → list_any is_equals text ≡ false → Kind word
  Bad : is_name word ≡ false → is_option word ≡ false → Kind word

joined_first : (text : Text) (rest : List Text) → list_any is_equals text ≡ true → arguments ((45 ∷ 45 ∷ text) ∷ rest) ≡ setting (before_first is_equals text) (after_first is_equals text) ∷ arguments rest
joined_first text [] h = rw h refl
joined_first text (next ∷ rest) h = rw h refl

apart_alone : (text : Text) → list_any is_equals text ≡ false → arguments ((45 ∷ 45 ∷ text) ∷ []) ≡ Wrong ∷ []
apart_alone text h = rw h refl

apart_first : (text value : Text) (rest : List Text) → list_any is_equals text ≡ false → arguments ((45 ∷ 45 ∷ text) ∷ value ∷ rest) ≡ setting text value ∷ arguments rest
apart_first text value rest h = rw h refl

bad_first : (word : Text) (rest : List Text) → is_name word ≡ false → is_option word ≡ false → arguments (word ∷ rest) ≡ Wrong ∷ arguments rest
bad_first word [] n o = rw (n, o) refl
bad_first word (next ∷ rest) n o = rw (o, n) refl

dashed : (word : Text) → is_option word ≡ true → word ≡ 45 ∷ 45 ∷ drop 2 word
dashed [] e = cc
dashed (a ∷ []) e = go (Rattle.std.specs.Prelude.nat_eq 45 a) e
  where
    go : (b : Bool) → (b && false) ≡ true → (a ∷ []) ≡ 45 ∷ 45 ∷ []
    go true e = cc
    go false e = cc
dashed (a ∷ b ∷ rest) e =
    let p = Rattle.std.proofs.lemmas.Bool.and_parts (Rattle.std.specs.Prelude.nat_eq 45 a) (Rattle.std.specs.Prelude.nat_eq 45 b && true) e in
    let q = Rattle.std.proofs.lemmas.Bool.and_parts (Rattle.std.specs.Prelude.nat_eq 45 b) true p.1 in
    let first : 45 ≡ a = Rattle.std.proofs.Common.eqb-true 45 a p.0 in
    let second : 45 ≡ b = Rattle.std.proofs.Common.eqb-true 45 b q.0 in cc

kind_of : (word : Text) → Kind word
kind_of word =
    elim (cases_Bool (is_name word)) [
      | inl name ↦ Name name
      | inr other ↦ elim (cases_Bool (is_option word)) [
        | inl dashes ↦ elim (cases_Bool (list_any is_equals (drop 2 word))) [
          | inl has ↦ Joined (drop 2 word) (dashed word dashes) has
          | inr lacks ↦ Apart (drop 2 word) (dashed word dashes) lacks
        ]
        | inr none ↦ Bad other none
      ]
    ]

-- ---- the walk

-- these are the positional words from a place on
abbrev pub FitsWords : List Rule → ℕ → List Text → Type 0
FitsWords c at [] = ⊤
FitsWords c at (name ∷ names) = FitsWord c at name × FitsWords c (suc at) names

-- these are the options
pub record FitsOptions (c : List Rule) (may : Text → Bool) : Type 0 where
  pub each : (name : Text) → may name ≡ true → FitsOption c name
  pub named : may [] ≡ false

-- the walk takes all words, and holds these pairs
pub record Walked (s : Shape) (w : Walk) (words : List Text) (all : List Pair) : Type 0 where
  pub done : List Pair
  pub last : Option Pair
  pub at : ℕ
  pub ends : fold (walked s.rules []) w words ≡ walk_at done last at
  pub holds : so_far done last ≡ all
  pub settles : Settles s.rules done last
  pub passes : walk_passes s [] w words ≡ true

one_more : (s : Shape) (w v : Walk) (word : Text) (rest : List Text) (all : List Pair) → walked s.rules [] w word ≡ v → turn_passes s [] w word ≡ true → Walked s v rest all → Walked s w (word ∷ rest) all
unfolding walk_passes
one_more s w v word rest all step turn more = record {
  done = more.done;
  last = more.last;
  at = more.at;
  ends = ap (λ (u : Walk). fold (walked s.rules []) u rest) step ∙ more.ends;
  holds = more.holds;
  settles = more.settles;
  passes = and_from _ _ turn (ap (λ (u : Walk). walk_passes s [] u rest) step ∙ more.passes);
}

no_more : (s : Shape) (done : List Pair) (last : Option Pair) (at : ℕ) → Settles s.rules done last → Walked s (walk_at done last at) [] (so_far done last)
unfolding walk_passes
no_more s done last at settles = record { done = done; last = last; at = at; ends = refl; holds = refl; settles = settles; passes = refl }

-- from where these arguments begin
abbrev From : Shape → (Text → Bool) → List Text → List Argument → Type 0
From s may words given = (names : List Text) (done : List Pair) (last : Option Pair) (at : ℕ) → FitsWords s.rules at names → Settles s.rules done last → are_fit may given ≡ true → length (positional given) ≤ length names
    → are_distinct (so_far done last ++ pairs names given) ≡ true → Walked s (walk_at done last at) words (so_far done last ++ pairs names given)

abbrev Fitting : Shape → (Text → Bool) → List Text → Type 0
Fitting s may words = From s may words (arguments words)

at_end : (s : Shape) (may : Text → Bool) → Fitting s may []
at_end s may names done last at words settles fit number distinct = subst (Walked s (walk_at done last at) []) (sym (append-nil (so_far done last))) (no_more s done last at settles)

at_word : (s : Shape) (may : Text → Bool) (word : Text) (rest : List Text) → is_name word ≡ true → Fitting s may rest → From s may (word ∷ rest) (Positional word ∷ arguments rest)
at_word s may word rest is ih [] done last at words settles fit number distinct = absurd (omega (arith, number))
at_word s may word rest is ih (name ∷ names) done last at words settles fit number distinct =
    let now = so_far done last in
    let more = pairs names (arguments rest) in
    let same : ((now ++ (name, word) ∷ []) ++ more) ≡ now ++ (name, word) ∷ more = append_assoc now ((name, word) ∷ []) more in
    let new = is_new now (name, word) more distinct in
    let settles_next : Settles s.rules now (Some (name, word)) = ((Some at, None), words.0.by_id, new) in
    let walk = ih names now (Some (name, word)) (suc at) words.1 settles_next fit (omega (arith, number)) (ap are_distinct same ∙ distinct) in
    subst (Walked s (walk_at done last at) (word ∷ rest)) same
    (one_more s (walk_at done last at) (walk_at now (Some (name, word)) (suc at)) word rest _ (step_word s done last at name word words.0 settles is) (word_is_taken s done last at name word words.0 settles is) walk)

at_joined : (s : Shape) (may : Text → Bool) (name value text : Text) (rest : List Text) → FitsOptions s.rules may → name_and_value text ≡ (name, Some value) → name ≡ before_first is_equals text → Fitting s may rest
    → From s may ((45 ∷ 45 ∷ text) ∷ rest) (Setting name value ∷ arguments rest)
at_joined s may name value [] rest options is before ih names done last at words settles fit number distinct =
    let p = setting_taken may name value (arguments rest) fit in
    let bad : true ≡ false = sym p.0 ∙ ap may before ∙ options.named in cc
at_joined s may name value (x ∷ xs) rest options is before ih names done last at words settles fit number distinct =
    let p = setting_taken may name value (arguments rest) fit in
    let fits = options.each name p.0 in
    let now = so_far done last in
    let more = pairs names (arguments rest) in
    let same : ((now ++ (name, value) ∷ []) ++ more) ≡ now ++ (name, value) ∷ more = append_assoc now ((name, value) ∷ []) more in
    let new = is_new now (name, value) more distinct in
    let walk = ih names (now ++ (name, value) ∷ []) None at words tt p.1 number (ap are_distinct same ∙ distinct) in
    subst (Walked s (walk_at done last at) ((45 ∷ 45 ∷ x ∷ xs) ∷ rest)) same
    (one_more s (walk_at done last at) (walk_at (now ++ (name, value) ∷ []) None at) (45 ∷ 45 ∷ x ∷ xs) rest _ (step_joined s name value at x xs done last fits settles is new) (joined_is_taken s name value at x xs done last fits settles is new) walk)

at_apart : (s : Shape) (may : Text → Bool) (text value : Text) (rest : List Text) → FitsOptions s.rules may → name_and_value text ≡ (text, None) → is_name value ≡ true → Fitting s may rest
    → From s may ((45 ∷ 45 ∷ text) ∷ value ∷ rest) (Setting text value ∷ arguments rest)
at_apart s may [] value rest options is named ih names done last at words settles fit number distinct =
    let p = setting_taken may [] value (arguments rest) fit in
    let bad : true ≡ false = sym p.0 ∙ options.named in cc
at_apart s may (x ∷ xs) value rest options is named ih names done last at words settles fit number distinct =
    let name = x ∷ xs in
    let p = setting_taken may name value (arguments rest) fit in
    let fits = options.each name p.0 in
    let now = so_far done last in
    let more = pairs names (arguments rest) in
    let same : ((now ++ (name, value) ∷ []) ++ more) ≡ now ++ (name, value) ∷ more = append_assoc now ((name, value) ∷ []) more in
    let new = is_new now (name, value) more distinct in
    let settles_next : Settles s.rules now (Some (name, value)) = ((None, Some name), fits.by_id, new) in
    let walk = ih names now (Some (name, value)) at words settles_next p.1 number (ap are_distinct same ∙ distinct) in
    let valued = one_more s (waits_at now name at) (walk_at now (Some (name, value)) at) value rest _ (step_value s name value at now fits named) (value_is_taken s name value at now fits named) walk in
    subst (Walked s (walk_at done last at) ((45 ∷ 45 ∷ name) ∷ value ∷ rest)) same
    (one_more s (walk_at done last at) (waits_at now name at) (45 ∷ 45 ∷ name) (value ∷ rest) _ (step_apart s name at x xs done last fits settles is) (apart_is_taken s name at x xs done last fits settles is) valued)

wrong : (s : Shape) (may : Text → Bool) (words : List Text) (more : List Argument) → From s may words (Wrong ∷ more)
wrong s may words more names done last at fits settles fit number distinct = cc

-- an option has its value, or is wrong
as_setting : (s : Shape) (may : Text → Bool) (words : List Text) (name value : Text) (more : List Argument) → (is_name value ≡ true → From s may words (Setting name value ∷ more)) → From s may words (setting name value ∷ more)
as_setting s may words name value more h = go (is_name value) h
  where
    go : (b : Bool) → (b ≡ true → From s may words (Setting name value ∷ more)) → From s may words (cond b (Setting name value) Wrong ∷ more)
    go true k = k refl
    go false k = wrong s may words more

at_option : (s : Shape) (may : Text → Bool) (text : Text) (rest : List Text) → FitsOptions s.rules may → list_any is_equals text ≡ false → ((value : Text) (more : List Text) → rest ≡ value ∷ more → Fitting s may more)
    → Fitting s may ((45 ∷ 45 ∷ text) ∷ rest)
at_option s may text [] options lacks ih = subst (From s may ((45 ∷ 45 ∷ text) ∷ [])) (sym (apart_alone text lacks)) (wrong s may ((45 ∷ 45 ∷ text) ∷ []) [])
at_option s may text (value ∷ more) options lacks ih =
    subst (From s may ((45 ∷ 45 ∷ text) ∷ value ∷ more)) (sym (apart_first text value more lacks))
    (as_setting s may ((45 ∷ 45 ∷ text) ∷ value ∷ more) text value (arguments more) (λ named. at_apart s may text value more options (apart_name text lacks) named (ih value more refl)))

at_kind : (s : Shape) (may : Text → Bool) (word : Text) (rest : List Text) → FitsOptions s.rules may → Kind word → Fitting s may rest → ((value : Text) (more : List Text) → rest ≡ value ∷ more → Fitting s may more)
    → Fitting s may (word ∷ rest)
at_kind s may word rest options (Name is) ih later = subst (From s may (word ∷ rest)) (sym (name_first word rest is)) (at_word s may word rest is ih)
at_kind s may word rest options (Joined text is has) ih later =
    let name = before_first is_equals text in
    let value = after_first is_equals text in
    subst (λ (w : Text). Fitting s may (w ∷ rest)) (sym is)
    (subst (From s may ((45 ∷ 45 ∷ text) ∷ rest)) (sym (joined_first text rest has))
    (as_setting s may ((45 ∷ 45 ∷ text) ∷ rest) name value (arguments rest) (λ named. at_joined s may name value text rest options (joined_name text has) refl ih)))
at_kind s may word rest options (Apart text is lacks) ih later = subst (λ (w : Text). Fitting s may (w ∷ rest)) (sym is) (at_option s may text rest options lacks later)
at_kind s may word rest options (Bad n o) ih later = subst (From s may (word ∷ rest)) (sym (bad_first word rest n o)) (wrong s may (word ∷ rest) (arguments rest))

-- fit words are walked over
pub walks : (s : Shape) (may : Text → Bool) → FitsOptions s.rules may → (words : List Text) → Fitting s may words
walks s may options words = go (length words) words (omega arith)
  where
    go : (n : ℕ) (words : List Text) → length words ≤ n → Fitting s may words
    go n [] short = at_end s may
    go zero (word ∷ rest) short = absurd (omega (arith, short))
    go (suc n) (word ∷ rest) short =
        at_kind s may word rest options (kind_of word) (go n rest (omega (arith, short)))
        (λ value more e. go n more (let l : length rest ≡ suc (length more) = ap length e in omega (arith, short, l)))
