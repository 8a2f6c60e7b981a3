-- The word of a register whose first value stands in braces.
use Rattle.std.proofs.Common.{◌≡◌, ◌≤◌, ◌<◌, List, [], ◌∷◌, length, get_or, map, Result, IfOk, refl, ap, sym, ◌∙◌, arith}
use Rattle.std.proofs.lemmas.Result.{IfOk-weaker}
use Rattle.c_tree.specs.declared.declaration.Initial.{Initial}
use Rattle.c_tree.specs.Tree.{listed_inits}
use Rattle.c_tree.specs.View.{init_of}
use Rattle.c_types.specs.Standing.{no_target}
use Rattle.rr_base.specs.declared.position.Position.{Position}
use Rattle.std.specs.Global.{Box}
use Rattle.core_tree.specs.declared.value.Value.{Value}
use Rattle.core_tree.specs.View.{exp_of}
use Rattle.c_operators.specs.declared.denoted.WordKind.{WordKind}
use Rattle.c_operators.specs.Context.{Context}
use Rattle.c_initials.specs.Initials.{zero_word, first_word, first_of_braces}

-- empty braces give 0
pub word_of_none : (h : Context) (k : WordKind) (at : Position) (is parts : List Initial) → is ≡ parts → length is < 1 →
    first_of_braces h k at (listed_inits (map init_of parts)) ≡ zero_word k at
word_of_none h k at is [] same none = refl
word_of_none h k at is (x ∷ xs) same none = absurd (omega (arith, ap length same))

-- others give what their first part gives
word_of_first : (h : Context) (k : WordKind) (at : Position) (is parts : List Initial) (i d : Initial) → is ≡ parts → 1 ≤ length is → i ≡ get_or is 0 d →
    first_of_braces h k at (listed_inits (map init_of parts)) ≡ first_word h k no_target at (init_of i)
word_of_first h k at [] parts i d same some first = absurd (omega arith)
word_of_first h k at (x ∷ xs) parts i d same some first =
    ap (λ (z : List Initial). first_of_braces h k at (listed_inits (map init_of z))) (sym same)
    ∙ ap (λ (z : Initial). first_word h k no_target at (init_of z)) (sym first)

pub word_within : {E : Type 0} (r : Result (Box Value) E) (h : Context) (k : WordKind) (at : Position) (is parts : List Initial) (i d : Initial) →
    is ≡ parts → 1 ≤ length is → i ≡ get_or is 0 d → IfOk r (λ v. exp_of v.value ≡ first_word h k no_target at (init_of i)) →
    IfOk r (λ v. exp_of v.value ≡ first_of_braces h k at (listed_inits (map init_of parts)))
word_within r h k at is parts i d same some first made =
    IfOk-weaker r
    (λ (v : Box Value). exp_of v.value ≡ first_word h k no_target at (init_of i))
    (λ (v : Box Value). exp_of v.value ≡ first_of_braces h k at (listed_inits (map init_of parts)))
    (λ v e. e ∙ sym (word_of_first h k at is parts i d same some first))
    made
