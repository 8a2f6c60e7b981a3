-- How `clap` walks over one argument, where each argument of the command takes one value.
use Rattle.std.proofs.Common.{◌≡◌, refl, sym, ◌∙◌, ap, ℕ, ◌+◌, suc, Bool, true, false, cond, ◌==◌, ◌&&◌, List, [], ◌∷◌, ◌++◌, map, min, Option, Some, None, option_map, bytes_eq, append-nil, nat_lt}
use Rattle.std.specs.Prelude.{⊤}
use Rattle.std.specs.Option.{option_map_or}
use Rattle.std.proofs.lemmas.Bool.{and_from, not-true, or_right}
use Rattle.std.proofs.lemmas.List.{map-append}
use Rattle.clap.specs.Lexer.{name_and_value, short_of, usize_max}
use Rattle.clap.specs.Simple.{Shape, new_rule}
use Rattle.clap.specs.Takes.{bundle_passes, other_passes, positional_passes, settle_passes, step_passes, turn_passes, use_passes, long_passes, flag_word_passes}
use Rattle.clap.specs.Walk.{Held, Row, Rule, Step, Text, Waiting, Walk, after_flag, after_step, arg_by_id, arg_by_index, arg_by_long, at_row, has_row, idle, is_pending, long_met, long_or_other, more_values, next, option, option_word, plain_word, pushed, settled, short_or_plain, to_positional, used, used_by_id, walked, word_met}
use Rattle.clap.specs.declared.builder.action.ArgAction.TheVariants.{Set}
use Rattle.clap.specs.declared.builder.value_parser.ValueParser.TheVariants as vp
use Rattle.clap.specs.declared.parser.matches.ValueSource.TheVariants.{CommandLine}
use Rattle.command_line.specs.Arguments.{is_name}
use Rattle.command_line.specs.Reader.{Pair, row_of}
use Rattle.command_line.proofs.Pairs.{or_parts, same_name}

-- an argument that takes one value, once
abbrev pub set_rule : Option ℕ → Option Text → Text → Rule
set_rule index long name = record (new_rule name) { index = index; long = long; action = Some Set; range = Some (record { start_inclusive = 1; end_inclusive = 1 }); parser = Some vp.String }

-- this is the option of a name
pub record FitsOption (c : List Rule) (name : Text) : Type 0 where
  pub by_long : arg_by_long c name ≡ Some (set_rule None (Some name) name)
  pub by_id : arg_by_id c name ≡ Some (set_rule None (Some name) name)

-- and this the positional word at a place
pub record FitsWord (c : List Rule) (at : ℕ) (name : Text) : Type 0 where
  pub by_index : arg_by_index c at ≡ Some (set_rule (Some at) None name)
  pub by_id : arg_by_id c name ≡ Some (set_rule (Some at) None name)
  pub next_at : min (at + 1) usize_max ≡ suc at

-- ---- one use

at_new : (id : Text) (change : Row → List Row) (missing rows : List Row) → has_row id rows ≡ false → at_row id change missing rows ≡ rows ++ missing
at_new id change missing [] h = refl
at_new id change missing (r ∷ rs) h =
    let p = or_parts (bytes_eq r.id id) (has_row id rs) h in
    rw p.0 (ap (λ (rows : List Row). r ∷ rows) (at_new id change missing rs p.1))

-- a use of what was not used puts its value last
use_adds : (index : Option ℕ) (long : Option Text) (p : Pair) (rows : List Row) → has_row p.0 rows ≡ false → used (set_rule index long p.0) (p.1 ∷ []) rows ≡ rows ++ row_of p ∷ []
use_adds index long p rows h =
    ap (at_row p.0 (more_values CommandLine (p.1 ∷ [])) (row_of p ∷ [])) (at_new p.0 (λ _. []) [] rows h ∙ append-nil rows)
    ∙ at_new p.0 (more_values CommandLine (p.1 ∷ [])) (row_of p ∷ []) rows h

use_is_taken : (again : Bool) (index : Option ℕ) (long : Option Text) (p : Pair) (rows : List Row) → has_row p.0 rows ≡ false → use_passes again (set_rule index long p.0) (p.1 ∷ []) rows ≡ true
use_is_taken again index long p rows h = rw h refl

-- ---- what is held

-- after the pairs `done`, where the pair `last` is kept back
abbrev pub held_at : (done : List Pair) → (last : Option Pair) → Held
held_at done last = record { rows = map row_of done; pending = option_map (λ (p : Pair). (p.0, p.1 ∷ [])) last; skip = 0 }

abbrev pub so_far : List Pair → Option Pair → List Pair
so_far done None = done
so_far done (Some p) = done ++ p ∷ []

-- what is kept back is new
abbrev pub Settles : List Rule → List Pair → Option Pair → Type 0
Settles c done None = ⊤
Settles c done (Some p) = (a : Option ℕ × Option Text) × (arg_by_id c p.0 ≡ Some (set_rule a.0 a.1 p.0)) × (has_row p.0 (map row_of done) ≡ false)

abbrev with_rows : List Row → Held
with_rows rows = record { rows = rows; pending = None; skip = 0 }

pub settled_is : (c : List Rule) (done : List Pair) (last : Option Pair) → Settles c done last → settled c (held_at done last) ≡ held_at (so_far done last) None
settled_is c done None s = refl
settled_is c done (Some p) s =
    ap with_rows (ap (λ o. used_by_id o (p.1 ∷ []) (map row_of done)) s.1 ∙ use_adds s.0.0 s.0.1 p (map row_of done) s.2 ∙ sym (map-append row_of done (p ∷ [])))

pub settle_is_taken : (c : List Rule) (again : Bool) (done : List Pair) (last : Option Pair) → Settles c done last → settle_passes c again (held_at done last) ≡ true
settle_is_taken c again done None s = refl
settle_is_taken c again done (Some p) s =
    ap (λ o. option_map_or (λ (a : Rule). use_passes again a (p.1 ∷ []) (map row_of done)) o true) s.1 ∙ use_is_taken again s.0.0 s.0.1 p (map row_of done) s.2

-- the walk between two arguments
abbrev pub walk_at : List Pair → Option Pair → ℕ → Walk
walk_at done last at = record { held = held_at done last; waiting = idle; position = at; is_trailing = false; stopped = None }

-- ---- a positional word

no_short : (b : ℕ) (bs : List ℕ) → (b == 45) ≡ false → short_of (b ∷ bs) ≡ None
no_short b bs e = rw e refl

plain_met : (c : List Rule) (at b : ℕ) (bs : List ℕ) (h : Held) → (b == 45) ≡ false → word_met c [] false idle at (b ∷ bs) h ≡ plain_word c idle (b ∷ bs) h
plain_met c at b bs h e = rw e (ap (λ o. short_or_plain c idle (b ∷ bs) o h) (no_short b bs e))

value_met : (c : List Rule) (name : Text) (at b : ℕ) (bs : List ℕ) (h : Held) → (b == 45) ≡ false → word_met c [] false (option name) at (b ∷ bs) h ≡ plain_word c (option name) (b ∷ bs) h
value_met c name at b bs h e = rw e (ap (λ o. short_or_plain c (option name) (b ∷ bs) o h) (no_short b bs e))

plain_is_taken : (s : Shape) (b : ℕ) (bs : List ℕ) (h : Held) → (b == 45) ≡ false → other_passes s None (b ∷ bs) h ≡ true
plain_is_taken s b bs h e = rw e (ap (λ o. option_map_or (λ flags. bundle_passes s.rules s.args_override_self flags h) o true) (no_short b bs e))

and_false : (b : Bool) → (b && false) ≡ false
and_false true = refl
and_false false = refl

abbrev walk_with : Held → ℕ → Walk
walk_with h at = record { held = h; waiting = idle; position = at; is_trailing = false; stopped = None }

pub step_word : (s : Shape) (done : List Pair) (last : Option Pair) (at : ℕ) (name word : Text) → FitsWord s.rules at name → Settles s.rules done last → is_name word ≡ true
    → walked s.rules [] (walk_at done last at) word ≡ walk_at (so_far done last) (Some (name, word)) (suc at)
unfolding walked
step_word s done last at name [] fits settles is = cc
step_word s done last at name (b ∷ bs) fits settles is =
    let c = s.rules in
    let h = held_at done last in
    let w = walk_at done last at in
    let held = ap (λ t. pushed name (b ∷ bs) (cond t h (settled c h))) (and_false (is_pending (set_rule (Some at) None name) h.pending)) ∙ ap (pushed name (b ∷ bs)) (settled_is c done last settles) in
    ap (λ (m : Held × Step). after_step c (b ∷ bs) w m.0 m.1) (plain_met c at b bs h (not-true (b == 45) is))
    ∙ ap (λ o. to_positional c o (b ∷ bs) w h) fits.by_index
    ∙ (λ i. walk_with (held i) (fits.next_at i))

pub word_is_taken : (s : Shape) (done : List Pair) (last : Option Pair) (at : ℕ) (name word : Text) → FitsWord s.rules at name → Settles s.rules done last → is_name word ≡ true
    → turn_passes s [] (walk_at done last at) word ≡ true
word_is_taken s done last at name [] fits settles is = cc
word_is_taken s done last at name (b ∷ bs) fits settles is =
    let c = s.rules in
    let h = held_at done last in
    let e = not-true (b == 45) is in
    and_from _ _ (plain_is_taken s b bs h e)
    (ap (λ (m : Held × Step). step_passes s at m.0 m.1) (plain_met c at b bs h e)
    ∙ ap (λ o. option_map_or (λ (a : Rule). positional_passes c s.args_override_self a h) o false) fits.by_index
    ∙ or_right _ _ (settle_is_taken c s.args_override_self done last settles))

-- ---- `--name=value`

joined_met : (c : List Rule) (name v : Text) (at x : ℕ) (xs : List ℕ) (done : List Pair) (last : Option Pair) → FitsOption c name → Settles c done last → name_and_value (x ∷ xs) ≡ (name, Some v)
    → has_row name (map row_of (so_far done last)) ≡ false → word_met c [] false idle at (45 ∷ 45 ∷ x ∷ xs) (held_at done last) ≡ (held_at (so_far done last ++ (name, v) ∷ []) None, next idle)
joined_met c name v at x xs done last fits settles is new =
    let h = held_at done last in
    let word = 45 ∷ 45 ∷ x ∷ xs in
    let rows = use_adds None (Some name) (name, v) (map row_of (so_far done last)) new ∙ sym (map-append row_of (so_far done last) ((name, v) ∷ [])) in
    ap (λ p. long_or_other c idle word (Some p) h) is
    ∙ ap (λ o. after_flag c idle word (long_met c o (Some v) h).0 (long_met c o (Some v) h).1) fits.by_long
    ∙ ap (λ (g : Held). (with_rows (used (set_rule None (Some name) name) (v ∷ []) g.rows), next idle)) (settled_is c done last settles)
    ∙ ap (λ (rs : List Row). (with_rows rs, next idle)) rows

pub step_joined : (s : Shape) (name v : Text) (at x : ℕ) (xs : List ℕ) (done : List Pair) (last : Option Pair) → FitsOption s.rules name → Settles s.rules done last → name_and_value (x ∷ xs) ≡ (name, Some v)
    → has_row name (map row_of (so_far done last)) ≡ false → walked s.rules [] (walk_at done last at) (45 ∷ 45 ∷ x ∷ xs) ≡ walk_at (so_far done last ++ (name, v) ∷ []) None at
unfolding walked
step_joined s name v at x xs done last fits settles is new =
    ap (λ (m : Held × Step). after_step s.rules (45 ∷ 45 ∷ x ∷ xs) (walk_at done last at) m.0 m.1) (joined_met s.rules name v at x xs done last fits settles is new)

pub joined_is_taken : (s : Shape) (name v : Text) (at x : ℕ) (xs : List ℕ) (done : List Pair) (last : Option Pair) → FitsOption s.rules name → Settles s.rules done last → name_and_value (x ∷ xs) ≡ (name, Some v)
    → has_row name (map row_of (so_far done last)) ≡ false → turn_passes s [] (walk_at done last at) (45 ∷ 45 ∷ x ∷ xs) ≡ true
joined_is_taken s name v at x xs done last fits settles is new =
    let c = s.rules in
    let again = s.args_override_self in
    let h = held_at done last in
    let once = ap (λ (g : Held). use_passes again (set_rule None (Some name) name) (v ∷ []) g.rows) (settled_is c done last settles) ∙ use_is_taken again None (Some name) (name, v) (map row_of (so_far done last)) new in
    let react = and_from _ _ (settle_is_taken c again done last settles) once in
    and_from _ _
    (ap (λ p. flag_word_passes c again (Some p) (45 ∷ 45 ∷ x ∷ xs) h) is ∙ ap (λ o. long_passes c again o (Some v) h) fits.by_long ∙ react)
    (ap (λ (m : Held × Step). step_passes s at m.0 m.1) (joined_met c name v at x xs done last fits settles is new))

-- ---- `--name`, and the next word

-- the walk that waits for the value of an option
abbrev pub waits_at : List Pair → Text → ℕ → Walk
waits_at done name at = record { held = record { rows = map row_of done; pending = Some (name, []); skip = 0 }; waiting = option name; position = at; is_trailing = false; stopped = None }

apart_met : (c : List Rule) (name : Text) (at x : ℕ) (xs : List ℕ) (done : List Pair) (last : Option Pair) → FitsOption c name → Settles c done last → name_and_value (x ∷ xs) ≡ (name, None)
    → word_met c [] false idle at (45 ∷ 45 ∷ x ∷ xs) (held_at done last) ≡ ((waits_at (so_far done last) name at).held, next (option name))
apart_met c name at x xs done last fits settles is =
    let h = held_at done last in
    let word = 45 ∷ 45 ∷ x ∷ xs in
    ap (λ p. long_or_other c idle word (Some p) h) is
    ∙ ap (λ o. after_flag c idle word (long_met c o None h).0 (long_met c o None h).1) fits.by_long
    ∙ ap (λ (g : Held). (record g { pending = Some (name, []) }, next (option name))) (settled_is c done last settles)

pub step_apart : (s : Shape) (name : Text) (at x : ℕ) (xs : List ℕ) (done : List Pair) (last : Option Pair) → FitsOption s.rules name → Settles s.rules done last → name_and_value (x ∷ xs) ≡ (name, None)
    → walked s.rules [] (walk_at done last at) (45 ∷ 45 ∷ x ∷ xs) ≡ waits_at (so_far done last) name at
unfolding walked
step_apart s name at x xs done last fits settles is =
    ap (λ (m : Held × Step). after_step s.rules (45 ∷ 45 ∷ x ∷ xs) (walk_at done last at) m.0 m.1) (apart_met s.rules name at x xs done last fits settles is)

pub apart_is_taken : (s : Shape) (name : Text) (at x : ℕ) (xs : List ℕ) (done : List Pair) (last : Option Pair) → FitsOption s.rules name → Settles s.rules done last → name_and_value (x ∷ xs) ≡ (name, None)
    → turn_passes s [] (walk_at done last at) (45 ∷ 45 ∷ x ∷ xs) ≡ true
apart_is_taken s name at x xs done last fits settles is =
    let c = s.rules in
    let again = s.args_override_self in
    let h = held_at done last in
    and_from _ _
    (ap (λ p. flag_word_passes c again (Some p) (45 ∷ 45 ∷ x ∷ xs) h) is ∙ ap (λ o. long_passes c again o None h) fits.by_long ∙ settle_is_taken c again done last settles)
    (ap (λ (m : Held × Step). step_passes s at m.0 m.1) (apart_met c name at x xs done last fits settles is))

abbrev held_back : List Pair → Text → Text → Waiting → Held × Step
held_back done name v waiting = (held_at done (Some (name, v)), next waiting)

last_met : (c : List Rule) (name : Text) (at b : ℕ) (bs : List ℕ) (done : List Pair) → FitsOption c name → (b == 45) ≡ false
    → word_met c [] false (option name) at (b ∷ bs) (waits_at done name at).held ≡ held_back done name (b ∷ bs) idle
last_met c name at b bs done fits e =
    let h = (waits_at done name at).held in
    value_met c name at b bs h e
    ∙ ap (λ o. ((option_word o name (b ∷ bs) h).0, next (option_word o name (b ∷ bs) h).1)) fits.by_id
    ∙ ap (λ t. held_back done name (b ∷ bs) (cond (nat_lt (cond t 1 0) 1) (option name) idle)) (same_name name)

pub step_value : (s : Shape) (name v : Text) (at : ℕ) (done : List Pair) → FitsOption s.rules name → is_name v ≡ true
    → walked s.rules [] (waits_at done name at) v ≡ walk_at done (Some (name, v)) at
unfolding walked
step_value s name [] at done fits is = cc
step_value s name (b ∷ bs) at done fits is =
    ap (λ (m : Held × Step). after_step s.rules (b ∷ bs) (waits_at done name at) m.0 m.1) (last_met s.rules name at b bs done fits (not-true (b == 45) is))

pub value_is_taken : (s : Shape) (name v : Text) (at : ℕ) (done : List Pair) → FitsOption s.rules name → is_name v ≡ true
    → turn_passes s [] (waits_at done name at) v ≡ true
value_is_taken s name [] at done fits is = cc
value_is_taken s name (b ∷ bs) at done fits is =
    let e = not-true (b == 45) is in
    and_from _ _ (plain_is_taken s b bs (waits_at done name at).held e)
    (ap (λ (m : Held × Step). step_passes s at m.0 m.1) (last_met s.rules name at b bs done fits e))
