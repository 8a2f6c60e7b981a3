-- What is made in steps: the body of a function, and a list of functions.
use Rattle.std.proofs.Common.{◌≡◌, List, [], ◌∷◌, ◌++◌, map, ap, ◌∙◌}
use Rattle.std.proofs.lemmas.List.{map-append}
use Rattle.c_tree.specs.Tree.{Formal, Parts}
use Rattle.c_numbers.specs.Numbered.{Numbered}
use Rattle.c_locals.specs.Addresses.{after_formals, numbered_from}
use Rattle.c_programs.specs.Declarators.{after_params}
use Rattle.c_types.specs.Scopes.{Known}
use Rattle.core_tree.specs.declared.program.CoreFunction.{CoreFunction}
use Rattle.core_tree.specs.declared.statement.Statement.{Statement as RustStatement}
use Rattle.core_tree.specs.Core as core
use Rattle.core_tree.specs.View.{function_of, stmt_of}
use Rattle.c_operators.specs.Context.{Source, Frame, context_in}
use Rattle.c_statements.specs.Statements.{block_of, all_elaborated}

-- ---- a body

pub body_made : (s : Source) (f : Frame) (outside inside : Known) (begun numbers : Numbered) (ps : List Formal) (parts : Parts) (before made : List RustStatement) →
    before ≡ [] → inside ≡ after_params outside ps → begun ≡ record { next = f.first; scopes = [] ∷ [] } → numbers ≡ after_formals begun ps →
    map stmt_of made ≡ map stmt_of before ++ all_elaborated (context_in s f inside numbers) parts →
    block_of (map stmt_of made) ≡ block_of (all_elaborated (context_in s f (after_params outside ps) (numbered_from f.first ps)) parts)
body_made s f outside inside begun numbers ps parts before made none known start named filled =
    ap block_of
    (filled
    ∙ ap (λ (z : List RustStatement). map stmt_of z ++ all_elaborated (context_in s f inside numbers) parts) none
    ∙ ap (λ (z : Known). all_elaborated (context_in s f z numbers) parts) known
    ∙ ap (λ (z : Numbered). all_elaborated (context_in s f (after_params outside ps) z) parts) (named ∙ ap (λ (z : Numbered). after_formals z ps) start))

-- ---- functions

pub definition_pushed : (before after : List CoreFunction) (f : CoreFunction) (made : Known → core.Function) (known wanted : Known) →
    after ≡ before ++ f ∷ [] → function_of f ≡ made known → known ≡ wanted → map function_of after ≡ map function_of before ++ made wanted ∷ []
definition_pushed before after f made known wanted pushed is same =
    ap (map function_of) pushed
    ∙ map-append function_of before (f ∷ [])
    ∙ ap (λ (z : core.Function). map function_of before ++ z ∷ []) (is ∙ ap made same)
