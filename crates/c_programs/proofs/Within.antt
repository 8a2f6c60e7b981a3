-- What is declared in a scope is forgotten where it is closed.
use Rattle.std.proofs.Common.{◌≡◌, List, [], ◌∷◌, false, Option, Some, None, refl}
use Rattle.c_tree.specs.declared.ctype.Specifier.{Specifier}
use Rattle.c_tree.specs.declared.name.Name.{Name}
use Rattle.c_tree.specs.Tree.{Formal, Object, plain, initialised, Declares, declares, Start, start_declares, start_computes, Parts, no_part, and_declares, and_does, Code, defined, prototype}
use Rattle.c_types.specs.declared.types.ObjectType.{ObjectType}
use Rattle.c_types.specs.Scopes.{Known, Scope, opened, closed}
use Rattle.c_names.specs.Sources.{param_name}
use Rattle.c_programs.specs.Declarators.{param_type, named_by, after_param, after_params}
use Rattle.c_programs.specs.Programs.{after_body}
use Rattle.c_programs.specs.Statements.{after_objects, after_declares, after_start, after_parts}

-- known with one more scope
abbrev inside : Known → Scope → Known
inside known s = record known { scopes = s ∷ known.scopes }

-- objects of a block are declared in the innermost scope
through_objects : (P : Known → Type 0) (known : Known) → ((s : Scope) → P (inside known s)) →
    (of : Specifier) (os : List Object) (s : Scope) → P (after_objects (inside known s) false of os)
through_objects P known holds of [] s = holds s
through_objects P known holds of (plain d ∷ os) s = through_objects P known holds of os _
through_objects P known holds of (initialised d i at ∷ os) s = through_objects P known holds of os _

through_declares : (P : Known → Type 0) (known : Known) → ((s : Scope) → P (inside known s)) →
    (d : Declares) (s : Scope) → P (after_declares (inside known s) d)
through_declares P known holds (declares of os at) s = through_objects P known holds of os s

closed_inside : (known : Known) (ps : Parts) (s : Scope) → closed (after_parts (inside known s) ps) ≡ known
closed_inside known no_part s = refl
closed_inside known (and_declares d ps) s = through_declares (λ k. closed (after_parts k ps) ≡ known) known (λ t. closed_inside known ps t) d s
closed_inside known (and_does st ps) s = closed_inside known ps s

pub closed_parts : (known : Known) (ps : Parts) → closed (after_parts (opened known) ps) ≡ known
closed_parts known ps = closed_inside known ps []

pub closed_start : (known : Known) (begin : Start) → closed (after_start (opened known) begin) ≡ known
closed_start known (start_declares d) = through_declares (λ k. closed k ≡ known) known (λ t. refl) d []
closed_start known (start_computes e) = refl

-- the parameters of a function are declared in the innermost scope too
through_param : (P : Known → Type 0) (known : Known) → ((s : Scope) → P (inside known s)) →
    (p : Formal) (s : Scope) → P (after_param (inside known s) p)
through_param P known holds p s = named (param_name p) (param_type (inside known s) p)
  where
    named : (o : Option Name) (t : Option ObjectType) → P (named_by (inside known s) o t)
    named None t = holds s
    named (Some name) t = holds _

through_params : (P : Known → Type 0) (known : Known) → ((s : Scope) → P (inside known s)) →
    (ps : List Formal) (s : Scope) → P (after_params (inside known s) ps)
through_params P known holds [] s = holds s
through_params P known holds (p ∷ ps) s = through_param (λ k. P (after_params k ps)) known (λ t. through_params P known holds ps t) p s

closed_code : (known : Known) (code : Code) (s : Scope) → closed (after_body (inside known s) code) ≡ known
closed_code known (defined ps at) s = closed_inside known ps s
closed_code known prototype s = refl

pub closed_body : (known : Known) (ps : List Formal) (code : Code) → closed (after_body (after_params (opened known) ps) code) ≡ known
closed_body known ps code = through_params (λ k. closed (after_body k code) ≡ known) known (λ s. closed_code known code s) ps []
