-- What expressions with commas between them and calls are, by what was made of their parts.
use Rattle.std.proofs.Common.{◌≡◌, ℕ, ◌+◌, ◌<◌, Bool, false, List, [], ◌∷◌, ◌++◌, ◌&&◌, length, drop, get_or, Option, Some, None, map, if◌then◌else◌, refl, sym, ap, ◌∙◌, append_assoc}
use Rattle.std.proofs.lemmas.List.{append-nil}
use Rattle.rr_base.specs.Texts.{Text}
use Rattle.rr_base.specs.declared.position.Position.{Position}
use Rattle.c_tree.specs.declared.expr.Expr.{Expr}
use Rattle.c_tree.specs.Tree.{Exp, Exps, no_exp, and_exp, comma, call, listed}
use Rattle.c_tree.specs.View as tree
use Rattle.c_types.specs.declared.library.Wanted.{Wanted}
use Rattle.c_types.specs.Scopes.{Known, seen}
use Rattle.c_types.specs.Operands.{Standing, no_type, zero_literal, null_literal, a_value, a_place, as_value}
use Rattle.c_types.specs.Standing.{Target, no_target, standing, let_go, following, last_standing, fits_wanted, fit_wanted, format_of, callee_of, callee_gives}
use Rattle.c_rules.specs.Faults.{own_place, wants_of}
use Rattle.c_rules.proofs.Judged as judged
use Rattle.core_tree.specs.Core as core
use Rattle.c_operators.specs.Denoted.{Denoted, denoted_value, Part, part_by, value_in, position_of}
use Rattle.c_operators.specs.Context.{Context}
use Rattle.c_operators.specs.Commas.{with_last}
use Rattle.c_values.specs.Calls.{operand_for}
use Rattle.c_values.specs.Tails.{one_more, all_past, past_first}
use Rattle.c_values.specs.Expressions.{called, denoted, tail_of, arguments, with_tail, part}

-- the place of an expression, by what the expression is
placed : (e e1 : Exp) (place : Position) → place ≡ position_of (own_place e) → e ≡ e1 → place ≡ position_of (own_place e1)
placed e e1 place at is = at ∙ ap (λ (z : Exp). position_of (own_place z)) is

-- what stands after a first expression that is made, with what the last of all is
abbrev followed : Context → Part → Exps → Position → Part
followed h p es place = part_by (last_standing h.known (let_go p.standing) es) (denoted_value (with_tail (value_in p) (tail_of h es [] place) place))

pub comma_is : (h : Context) (w : Target) (e a : Exp) (es es1 : Exps) (at : Position) (p : Part) (place : Position) →
    e ≡ comma a es at → place ≡ position_of (own_place e) → es1 ≡ es → p ≡ part h no_target a →
    part_by (last_standing h.known (let_go p.standing) es1) (denoted_value (with_tail (value_in p) (tail_of h es1 [] place) place)) ≡ part h w e
comma_is h w e a es es1 at p place is there same is_p =
    ap (λ (z : Part). followed h z es1 place) is_p
    ∙ (ap (λ (z : Exps). followed h (part h no_target a) z place) same
    ∙ (ap (λ (z : Position). followed h (part h no_target a) es z) (placed e (comma a es at) place there is)
    ∙ sym (ap (part h w) is)))

-- what stands after those after a first one
past_more : (s : Standing) (o : Option Standing) (x : Standing) → following (past_first s o) x ≡ past_first s (Some (one_more o x))
past_more s None x = refl
past_more no_type (Some y) x = refl
past_more zero_literal (Some y) x = refl
past_more null_literal (Some y) x = refl
past_more (a_value t) (Some y) x = refl
past_more (a_place t) (Some y) x = refl

-- the last of all, by the last of those after a first one
last_is : (known : Known) (s : Standing) (o : Option Standing) (es : Exps) → last_standing known (past_first s o) es ≡ as_value (past_first s (all_past known o es))
last_is known s o no_exp = refl
last_is known s o (and_exp e es) =
    ap (λ (z : Standing). last_standing known z es) (past_more s o (let_go (standing known no_target e)))
    ∙ last_is known s (Some (one_more o (let_go (standing known no_target e)))) es

-- the same, by what was made of those after it
pub followed_is : (h : Context) (p : Part) (es : Exps) (place : Position) (last : Option Standing) (tail : Option core.Exp) →
    last ≡ all_past h.known None es → tail ≡ tail_of h es [] place →
    part_by (as_value (past_first (let_go p.standing) last)) (denoted_value (with_tail (value_in p) tail place)) ≡ followed h p es place
followed_is h p es place last tail is_last is_tail =
    ap (λ (z : Option Standing). part_by (as_value (past_first (let_go p.standing) z)) (denoted_value (with_tail (value_in p) tail place))) is_last
    ∙ (ap (λ (z : Standing). part_by z (denoted_value (with_tail (value_in p) tail place))) (sym (last_is h.known (let_go p.standing) None es))
    ∙ ap (λ (z : Option core.Exp). part_by (last_standing h.known (let_go p.standing) es) (denoted_value (with_tail (value_in p) z place))) is_tail)

pub call_is : (h : Context) (w : Target) (e : Exp) (name name1 : Text) (es es1 : Exps) (at place : Position) →
    e ≡ call name es at → place ≡ position_of (own_place e) → name1 ≡ name → es1 ≡ es →
    part h w (call name1 es1 (position_of place)) ≡ part h w e
call_is h w e name name1 es es1 at place is there same_name same_es =
    ap (λ (z : Text). part h w (call z es1 (position_of place))) same_name
    ∙ (ap (λ (z : Exps). part h w (call name z (position_of place))) same_es
    ∙ (ap (λ (z : Position). part h w (call name es (position_of z))) (placed e (call name es at) place there is)
    ∙ sym (ap (part h w) is)))

-- a call, by what it wants and what its operands are
pub call_made : (h : Context) (w : Target) (name : Text) (es : List Expr) (at : Position) (format : Option ℕ) (ws : List Wanted) (operands : List core.Exp) (fit : Bool) (gives whole : Standing) (x : Denoted) →
    format ≡ format_of (listed (map tree.exp_of es)) →
    ws ≡ wants_of h.known name format (seen h.known name) →
    operands ≡ arguments h ws (listed (map tree.exp_of es)) →
    fit ≡ fit_wanted h.known ws (listed (map tree.exp_of es)) →
    x ≡ denoted_value (called h name (seen h.known name) (listed (map tree.exp_of es)) operands (position_of at)) →
    gives ≡ callee_gives (callee_of h.known w name format (seen h.known name)) →
    whole ≡ (if fit then gives else no_type) →
    part_by whole x ≡ part h w (call name (listed (map tree.exp_of es)) at)
call_made h w name es at format ws operands fit gives whole x is_format is_ws is_operands is_fit is_x is_gives is_whole =
    let known_ws : ws ≡ wants_of h.known name (format_of (listed (map tree.exp_of es))) (seen h.known name) =
    is_ws ∙ ap (λ z. wants_of h.known name z (seen h.known name)) is_format in
    let known_operands : operands ≡ arguments h (wants_of h.known name (format_of (listed (map tree.exp_of es))) (seen h.known name)) (listed (map tree.exp_of es)) =
    is_operands ∙ ap (λ z. arguments h z (listed (map tree.exp_of es))) known_ws in
    let known_x : x ≡ denoted h w (call name (listed (map tree.exp_of es)) at) =
    is_x ∙ ap (λ z. denoted_value (called h name (seen h.known name) (listed (map tree.exp_of es)) z (position_of at))) known_operands in
    ap (λ (z : Standing). part_by z x) (judged.call_is h.known w name es format ws fit gives whole is_format is_gives is_ws is_fit is_whole)
    ∙ ap (λ (z : Denoted). part_by (standing h.known w (call name (listed (map tree.exp_of es)) at)) z) known_x

-- an expression more after a comma
pub tail_step : (h : Context) (es : List Expr) (i : ℕ) (e : Expr) (p : Part) (v : core.Exp) (so_far next : List (Option core.Exp)) (at : Position) (all : Option core.Exp) →
    i < length es → e ≡ get_or es i e → p ≡ part h no_target (tree.exp_of e) → v ≡ value_in p → next ≡ with_last v so_far at →
    tail_of h (listed (map tree.exp_of (drop i es))) so_far at ≡ all →
    tail_of h (listed (map tree.exp_of (drop (i + 1) es))) next at ≡ all
tail_step h es i e p v so_far next at all within is is_p is_v is_next before =
    ap (λ z. tail_of h (listed (map tree.exp_of (drop (i + 1) es))) z at) (is_next ∙ ap (λ z. with_last z so_far at) (is_v ∙ ap value_in is_p))
    ∙ (sym (ap (λ z. tail_of h z so_far at) (judged.exps_at es i e within is)) ∙ before)

pub tail_standing_step : (h : Context) (es : List Expr) (i : ℕ) (e : Expr) (p : Part) (o : Option Standing) (gone met : Standing) (all : Option Standing) →
    i < length es → e ≡ get_or es i e → p ≡ part h no_target (tree.exp_of e) → gone ≡ let_go p.standing → met ≡ one_more o gone →
    all_past h.known o (listed (map tree.exp_of (drop i es))) ≡ all →
    all_past h.known (Some met) (listed (map tree.exp_of (drop (i + 1) es))) ≡ all
tail_standing_step h es i e p o gone met all within is is_p is_gone is_met before =
    ap (λ (z : Standing). all_past h.known (Some z) (listed (map tree.exp_of (drop (i + 1) es)))) (is_met ∙ ap (one_more o) (is_gone ∙ ap (λ (z : Part). let_go z.standing) is_p))
    ∙ (sym (ap (all_past h.known o) (judged.exps_at es i e within is)) ∙ before)

-- an operand more
pub argument_step : (h : Context) (w : Wanted) (ws all_ws : List Wanted) (es : List Expr) (i : ℕ) (e : Expr) (p : Part) (out next all : List core.Exp) →
    i < length es → e ≡ get_or es i e → all_ws ≡ w ∷ ws → p ≡ part h no_target (tree.exp_of e) → next ≡ out ++ operand_for w p →
    out ++ arguments h all_ws (listed (map tree.exp_of (drop i es))) ≡ all →
    next ++ arguments h ws (listed (map tree.exp_of (drop (i + 1) es))) ≡ all
argument_step h w ws all_ws es i e p out next all within is is_wanted is_p is_next before =
    let rest = arguments h ws (listed (map tree.exp_of (drop (i + 1) es))) in
    ap (λ (z : List core.Exp). z ++ rest) (is_next ∙ ap (λ (z : Part). out ++ operand_for w z) is_p)
    ∙ (append_assoc out (operand_for w (part h no_target (tree.exp_of e))) rest
    ∙ (sym (ap (λ z. out ++ arguments h (w ∷ ws) z) (judged.exps_at es i e within is))
    ∙ (sym (ap (λ z. out ++ arguments h z (listed (map tree.exp_of (drop i es)))) is_wanted) ∙ before)))

pub fit_step : (h : Context) (w : Wanted) (ws all_ws : List Wanted) (es : List Expr) (i : ℕ) (e : Expr) (p : Part) (fit context next all : Bool) →
    i < length es → e ≡ get_or es i e → all_ws ≡ w ∷ ws → p ≡ part h no_target (tree.exp_of e) → context ≡ fits_wanted h.known w (tree.exp_of e) p.standing → next ≡ (fit && context) →
    (fit && fit_wanted h.known all_ws (listed (map tree.exp_of (drop i es)))) ≡ all →
    (next && fit_wanted h.known ws (listed (map tree.exp_of (drop (i + 1) es)))) ≡ all
fit_step h w ws all_ws es i e p fit context next all within is is_wanted is_p is_here is_next before =
    judged.wanted_fits h.known w ws all_ws es i e fit context next all within is is_wanted (is_here ∙ ap (λ (z : Part). fits_wanted h.known w (tree.exp_of e) z.standing) is_p) is_next before

-- no operand is wanted, and there is one
pub unwanted_fit : (h : Context) (ws : List Wanted) (es : List Expr) (i : ℕ) (e : Expr) (fit all : Bool) →
    i < length es → e ≡ get_or es i e → ws ≡ [] →
    (fit && fit_wanted h.known ws (listed (map tree.exp_of (drop i es)))) ≡ all → false ≡ all
unwanted_fit h ws es i e fit all within is is_end before =
    judged.unwanted_fits h.known ws es i e fit false all within is is_end refl before

-- no operand is wanted
pub unwanted_arguments : (h : Context) (ws : List Wanted) (es : Exps) (out all : List core.Exp) →
    ws ≡ [] → out ++ arguments h ws es ≡ all → out ≡ all
unwanted_arguments h ws es out all is_end before =
    sym (append-nil out) ∙ (sym (ap (λ z. out ++ arguments h z es) is_end) ∙ before)

-- there are no more operands
pub no_arguments : (h : Context) (ws : List Wanted) → arguments h ws no_exp ≡ []
no_arguments h [] = refl
no_arguments h (w ∷ ws) = refl
