-- What lists of expressions are, and their faults, one expression after another.
use Rattle.std.proofs.Common.{◌≡◌, ℕ, ◌+◌, ◌<◌, Bool, true, false, ◌&&◌, if◌then◌else◌, List, [], ◌∷◌, ◌++◌, length, map, drop, get_or, Option, refl, sym, ap, ◌∙◌, add-one}
use Rattle.std.proofs.Math.Seq.{drop-cons}
use Rattle.rr_base.specs.Texts.{Text}
use Rattle.c_tree.specs.declared.expr.Expr.{Expr}
use Rattle.c_tree.specs.Tree.{and_exp, call, listed}
use Rattle.rr_base.specs.declared.position.Position.{Position}
use Rattle.c_tree.specs.View.{exp_of}
use Rattle.c_types.specs.declared.fault.Found.{Found}
use Rattle.c_types.specs.declared.library.Wanted.{Wanted}
use Rattle.c_types.specs.Scopes.{Known, seen}
use Rattle.c_types.specs.Operands.{Standing, no_type}
use Rattle.c_types.specs.Standing.{Target, no_target, standing, let_go, following, last_standing, fits_wanted, fit_wanted, format_of, callee_of, callee_gives, callee_wants, call_standing}
use Rattle.c_types.specs.Found.{first_among}
use Rattle.c_rules.specs.Faults.{faults, go_faults, rest_faults, one_argument_faults, arguments_faults, call_faults, wants_of}
use Rattle.c_types.proofs.First.{first_of_both}
use Rattle.c_rules.proofs.Fitting.{called_by_wants}

-- an expression of a list, and those after it
pub exps_at : (es : List Expr) (i : ℕ) (e : Expr) → i < length es → e ≡ get_or es i e → listed (map exp_of (drop i es)) ≡ and_exp (exp_of e) (listed (map exp_of (drop (i + 1) es)))
exps_at es i e within is =
    let here : drop i es ≡ get_or es i e ∷ drop (i + 1) es = rw add-one (drop-cons es i e within) in
    ap (λ z. listed (map exp_of z)) here ∙ ap (λ z. and_exp (exp_of z) (listed (map exp_of (drop (i + 1) es)))) (sym is)

-- what was found after both of two lists
after_both : (old new : Option Found) (xs ys : List Found) → new ≡ first_among old xs → first_among new ys ≡ first_among old (xs ++ ys)
after_both old new xs ys e = ap (λ z. first_among z ys) e ∙ sym (first_of_both old xs ys)

-- ---- after a comma

pub comma_standing : (known : Known) (head head' : Expr) (rest rest' : List Expr) (first last : Standing) → head' ≡ head → rest' ≡ rest → first ≡ let_go (standing known no_target (exp_of head')) → last ≡ last_standing known first (listed (map exp_of rest')) → last ≡ last_standing known (let_go (standing known no_target (exp_of head))) (listed (map exp_of rest))
comma_standing known head head' rest rest' first last same_head same_rest is_first is_last =
    is_last
    ∙ (ap (λ z. last_standing known first (listed (map exp_of z))) same_rest
    ∙ ap (λ z. last_standing known z (listed (map exp_of rest))) (is_first ∙ ap (λ z. let_go (standing known no_target (exp_of z))) same_head))

pub comma_faults : (known : Known) (head head' : Expr) (rest rest' : List Expr) (old mid new : Option Found) → head' ≡ head → rest' ≡ rest → mid ≡ first_among old (faults known no_target (exp_of head') ++ go_faults (standing known no_target (exp_of head')) (exp_of head')) → new ≡ first_among mid (rest_faults known (listed (map exp_of rest'))) → new ≡ first_among old (faults known no_target (exp_of head) ++ go_faults (standing known no_target (exp_of head)) (exp_of head) ++ rest_faults known (listed (map exp_of rest)))
comma_faults known head head' rest rest' old mid new same_head same_rest is_mid is_new =
    let known_mid : mid ≡ first_among old (faults known no_target (exp_of head) ++ go_faults (standing known no_target (exp_of head)) (exp_of head)) =
    is_mid ∙ ap (λ z. first_among old (faults known no_target (exp_of z) ++ go_faults (standing known no_target (exp_of z)) (exp_of z))) same_head in
    is_new
    ∙ (ap (λ z. first_among mid (rest_faults known (listed (map exp_of z)))) same_rest
    ∙ after_both old mid (faults known no_target (exp_of head) ++ go_faults (standing known no_target (exp_of head)) (exp_of head)) (rest_faults known (listed (map exp_of rest))) known_mid)

pub rest_standing : (known : Known) (es : List Expr) (i : ℕ) (e : Expr) (s here s' all : Standing) → i < length es → e ≡ get_or es i e → here ≡ let_go (standing known no_target (exp_of e)) → s' ≡ following s here → last_standing known s (listed (map exp_of (drop i es))) ≡ all → last_standing known s' (listed (map exp_of (drop (i + 1) es))) ≡ all
rest_standing known es i e s here s' all within is is_here is_past before =
    ap (λ z. last_standing known z (listed (map exp_of (drop (i + 1) es)))) (is_past ∙ ap (following s) is_here)
    ∙ (sym (ap (last_standing known s) (exps_at es i e within is)) ∙ before)

pub rest_faulty : (known : Known) (es : List Expr) (i : ℕ) (e : Expr) (old new all : Option Found) → i < length es → e ≡ get_or es i e → new ≡ first_among old (faults known no_target (exp_of e) ++ go_faults (standing known no_target (exp_of e)) (exp_of e)) → first_among old (rest_faults known (listed (map exp_of (drop i es)))) ≡ all → first_among new (rest_faults known (listed (map exp_of (drop (i + 1) es)))) ≡ all
rest_faulty known es i e old new all within is is_new before =
    after_both old new (faults known no_target (exp_of e) ++ go_faults (standing known no_target (exp_of e)) (exp_of e)) (rest_faults known (listed (map exp_of (drop (i + 1) es)))) is_new
    ∙ (sym (ap (λ z. first_among old (rest_faults known z)) (exps_at es i e within is)) ∙ before)

-- ---- arguments

both_fit : (a b c : Bool) → ((a && b) && c) ≡ (a && (b && c))
both_fit true b c = refl
both_fit false b c = refl

none_fits : (a : Bool) → false ≡ (a && false)
none_fits true = refl
none_fits false = refl

-- one that is wanted
pub wanted_fits : (known : Known) (w : Wanted) (ws all_ws : List Wanted) (es : List Expr) (i : ℕ) (e : Expr) (fit here fit' all : Bool) → i < length es → e ≡ get_or es i e → all_ws ≡ w ∷ ws → here ≡ fits_wanted known w (exp_of e) (standing known no_target (exp_of e)) → fit' ≡ (fit && here) → (fit && fit_wanted known all_ws (listed (map exp_of (drop i es)))) ≡ all → (fit' && fit_wanted known ws (listed (map exp_of (drop (i + 1) es)))) ≡ all
wanted_fits known w ws all_ws es i e fit here fit' all within is is_wanted is_here is_fit before =
    ap (λ z. z && fit_wanted known ws (listed (map exp_of (drop (i + 1) es)))) (is_fit ∙ ap (λ z. fit && z) is_here)
    ∙ (both_fit fit (fits_wanted known w (exp_of e) (standing known no_target (exp_of e))) (fit_wanted known ws (listed (map exp_of (drop (i + 1) es))))
    ∙ (sym (ap (λ z. fit && fit_wanted known (w ∷ ws) z) (exps_at es i e within is))
    ∙ (sym (ap (λ z. fit && fit_wanted known z (listed (map exp_of (drop i es)))) is_wanted) ∙ before)))

pub wanted_faulty : (known : Known) (w : Wanted) (ws all_ws : List Wanted) (at : Position) (es : List Expr) (i : ℕ) (e : Expr) (old mid new all : Option Found) → i < length es → e ≡ get_or es i e → all_ws ≡ w ∷ ws → new ≡ mid → mid ≡ first_among old (one_argument_faults known w at (exp_of e) (faults known no_target (exp_of e))) → first_among old (arguments_faults known all_ws at (listed (map exp_of (drop i es)))) ≡ all → first_among new (arguments_faults known ws at (listed (map exp_of (drop (i + 1) es)))) ≡ all
wanted_faulty known w ws all_ws at es i e old mid new all within is is_wanted is_new is_mid before =
    after_both old new (one_argument_faults known w at (exp_of e) (faults known no_target (exp_of e))) (arguments_faults known ws at (listed (map exp_of (drop (i + 1) es)))) (is_new ∙ is_mid)
    ∙ (sym (ap (λ z. first_among old (arguments_faults known (w ∷ ws) at z)) (exps_at es i e within is))
    ∙ (sym (ap (λ z. first_among old (arguments_faults known z at (listed (map exp_of (drop i es))))) is_wanted) ∙ before))

-- one after those that are wanted
pub unwanted_fits : (known : Known) (ws : List Wanted) (es : List Expr) (i : ℕ) (e : Expr) (fit fit' all : Bool) → i < length es → e ≡ get_or es i e → ws ≡ [] → fit' ≡ false → (fit && fit_wanted known ws (listed (map exp_of (drop i es)))) ≡ all → (fit' && fit_wanted known ws (listed (map exp_of (drop (i + 1) es)))) ≡ all
unwanted_fits known ws es i e fit fit' all within is is_end is_fit before =
    ap (λ z. z && fit_wanted known ws (listed (map exp_of (drop (i + 1) es)))) is_fit
    ∙ (none_fits fit
    ∙ (sym (ap (λ z. fit && fit_wanted known [] z) (exps_at es i e within is))
    ∙ (sym (ap (λ z. fit && fit_wanted known z (listed (map exp_of (drop i es)))) is_end) ∙ before)))

pub unwanted_faulty : (known : Known) (ws : List Wanted) (at : Position) (es : List Expr) (i : ℕ) (e : Expr) (old mid new all : Option Found) → i < length es → e ≡ get_or es i e → ws ≡ [] → new ≡ mid → mid ≡ first_among old (faults known no_target (exp_of e)) → first_among old (arguments_faults known ws at (listed (map exp_of (drop i es)))) ≡ all → first_among new (arguments_faults known ws at (listed (map exp_of (drop (i + 1) es)))) ≡ all
unwanted_faulty known ws at es i e old mid new all within is is_end is_new is_mid before =
    ap (λ z. first_among new (arguments_faults known z at (listed (map exp_of (drop (i + 1) es))))) is_end
    ∙ (after_both old new (faults known no_target (exp_of e)) (arguments_faults known [] at (listed (map exp_of (drop (i + 1) es)))) (is_new ∙ is_mid)
    ∙ (sym (ap (λ z. first_among old (arguments_faults known [] at z)) (exps_at es i e within is))
    ∙ (sym (ap (λ z. first_among old (arguments_faults known z at (listed (map exp_of (drop i es))))) is_end) ∙ before)))

-- ---- calls

pub call_is : (known : Known) (w : Target) (name : Text) (es : List Expr) (format : Option ℕ) (ws : List Wanted) (fit : Bool) (gives whole : Standing) → format ≡ format_of (listed (map exp_of es)) → gives ≡ callee_gives (callee_of known w name format (seen known name)) → ws ≡ wants_of known name format (seen known name) → fit ≡ fit_wanted known ws (listed (map exp_of es)) → whole ≡ (if fit then gives else no_type) → whole ≡ call_standing (callee_of known w name (format_of (listed (map exp_of es))) (seen known name)) (fit_wanted known (callee_wants (callee_of known w name (format_of (listed (map exp_of es))) (seen known name))) (listed (map exp_of es)))
call_is known w name es format ws fit gives whole is_format is_gives is_ws is_fit is_whole =
    let known_fit : fit ≡ fit_wanted known (wants_of known name (format_of (listed (map exp_of es))) (seen known name)) (listed (map exp_of es)) =
    is_fit ∙ ap (λ z. fit_wanted known z (listed (map exp_of es))) (is_ws ∙ ap (λ z. wants_of known name z (seen known name)) is_format) in
    let known_gives : gives ≡ callee_gives (callee_of known w name (format_of (listed (map exp_of es))) (seen known name)) =
    is_gives ∙ ap (λ z. callee_gives (callee_of known w name z (seen known name))) is_format in
    is_whole
    ∙ (ap (λ z. if z then gives else no_type) known_fit
    ∙ (ap (λ z. if fit_wanted known (wants_of known name (format_of (listed (map exp_of es))) (seen known name)) (listed (map exp_of es)) then z else no_type) known_gives
    ∙ sym (called_by_wants known w name (format_of (listed (map exp_of es))) (seen known name) (listed (map exp_of es)))))

pub call_faulty : (known : Known) (w : Target) (name : Text) (es : List Expr) (at : Position) (format : Option ℕ) (ws : List Wanted) (old mid new : Option Found) → format ≡ format_of (listed (map exp_of es)) → ws ≡ wants_of known name format (seen known name) → mid ≡ first_among old (call_faults known w name (listed (map exp_of es)) at) → new ≡ first_among mid (arguments_faults known ws at (listed (map exp_of es))) → new ≡ first_among old (call_faults known w name (listed (map exp_of es)) at ++ arguments_faults known (wants_of known name (format_of (listed (map exp_of es))) (seen known name)) at (listed (map exp_of es)))
call_faulty known w name es at format ws old mid new is_format is_ws is_mid is_new =
    is_new
    ∙ (ap (λ z. first_among mid (arguments_faults known z at (listed (map exp_of es)))) (is_ws ∙ ap (λ z. wants_of known name z (seen known name)) is_format)
    ∙ after_both old mid (call_faults known w name (listed (map exp_of es)) at) (arguments_faults known (wants_of known name (format_of (listed (map exp_of es))) (seen known name)) at (listed (map exp_of es))) is_mid)

-- the call of a node, by the list of its arguments
pub call_shown : (known : Known) (w : Target) (name : Text) (es es' : List Expr) (at : Position) (whole : Standing) → es' ≡ es → whole ≡ standing known w (call name (listed (map exp_of es')) at) → whole ≡ standing known w (call name (listed (map exp_of es)) at)
call_shown known w name es es' at whole same is_whole = is_whole ∙ ap (λ z. standing known w (call name (listed (map exp_of z)) at)) same

pub call_blamed : (known : Known) (w : Target) (name : Text) (es es' : List Expr) (at : Position) (old new : Option Found) → es' ≡ es → new ≡ first_among old (faults known w (call name (listed (map exp_of es')) at)) → new ≡ first_among old (faults known w (call name (listed (map exp_of es)) at))
call_blamed known w name es es' at old new same is_new = is_new ∙ ap (λ z. first_among old (faults known w (call name (listed (map exp_of z)) at))) same
