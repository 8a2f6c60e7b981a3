-- The core tree of a source without a fault is sound.
use Rattle.std.proofs.Common.{◌≡◌, ℕ, ◌+◌, ◌^◌, ◌≤◌, false, position, bytes_eq, List, [], ◌∷◌, length, Option, Some, None, sym, ap, ◌∙◌, subst}
use Rattle.rr_base.specs.Texts.{Text, entry_of}
use Rattle.c_tree.specs.Tree.{Outer}
use Rattle.c_types.specs.declared.library.StarredType.{StarredType}
use Rattle.c_types.specs.Scopes.{Known, Scope, Meaning, variable, function_of, seen_in, or_else, opened}
use Rattle.c_programs.specs.Declarators.{after_params}
use Rattle.c_programs.specs.Statements.{parts_faults}
use Rattle.c_sites.specs.Whole.{first_fault}
use Rattle.core_tree.specs.Core.{Function, Program}
use Rattle.c_operators.specs.Context.{Source, function_counted}
use Rattle.c_values.specs.Calls.{gives_pointer}
use Rattle.c_elaborate.specs.Functions.{definition}
use Rattle.c_elaborate.specs.Whole.{core_of_source}
use Rattle.core_tree.specs.Sound.{IsSound, IsFunction, IsSoundFunction}
use Rattle.source_sound.proofs.Environment.{IsFormedResult}
use Rattle.source_sound.proofs.Bodies.{IsGiven, IsFileName, Begins, DefinitionsAreSound}
use Rattle.source_sound.proofs.Definitions.{defined_sound}
use Rattle.source_sound.specs.Members.{StructsHaveMembers}
use Rattle.source_sound.proofs.Functions.{FileSuits}
use Rattle.source_sound.proofs.Inside.{FileEntry}
use Rattle.source_sound.proofs.Results.{IsPlainResult}
use Rattle.source_sound.proofs.Signatures.{same_wanted}
use Rattle.source_sound.proofs.Whole as whole

module _ (p : Program) (home : ℕ → Option ℕ) (n : ℕ) (s : Source) where
  result_formed : (r : Option StarredType) → IsGiven p home n r → IsFormedResult n r
  result_formed r h = subst (λ z. IsFormedResult n z) (sym h.1) h.2

  -- what a name of the file means, for the functions of the file
  as_entry : (f : Function) (names : List Text) (name : Text) (m : Meaning) → IsFileName p home n s names name m → FileEntry p home f n s names name m
  as_entry f names name (variable None) h = absurd h
  as_entry f names name (variable (Some t)) h = h
  as_entry f names name (function_of g) h = (
    h.0,
    result_formed g.result h.1,
    λ there other. let c = h.2 there other in let w = same_wanted p home f g.params c.0 in (w.0, subst (λ ks. IsFunction p (function_counted (position (λ x. bytes_eq name x) names)) ks (gives_pointer g.result)) (sym w.1) c.1),
    h.3,
  )

  seen_entry : (ss : List Scope) (scope : Scope) (name : Text) (m : Meaning) → ss ≡ scope ∷ [] → seen_in ss name ≡ Some m → entry_of scope name ≡ Some m
  seen_entry ss scope name m e is = only (entry_of scope name) (ap (λ z. seen_in z name) (sym e) ∙ is)
    where
      only : (o : Option Meaning) → or_else o None ≡ Some m → o ≡ Some m
      only None e = cc
      only (Some x) e = e

  suits : (f : Function) (known : Known) (scope : Scope) → Begins p home n s known scope → FileSuits p home f n s known
  suits f known scope h = record {
    sizes = h.sizes;
    members = h.members;
    struct_names = h.struct_names;
    lists = h.lists;
    pointer_types = h.pointer_types;
    names = λ name m e. as_entry f known.defined name m (h.names name m (seen_entry known.scopes scope name m h.scopes e));
  }

  definitions : DefinitionsAreSound p home n s
  definitions ns known scope m name result ps parts h given plain formals locals params body among spots =
      let r = given.0 in
      let same : result ≡ Some r = given.1 in
      let sound = defined_sound p home n s ns known m name r ps parts (suits (definition s ns (opened known) m name (Some r) ps parts) known scope h) (subst IsPlainResult same plain) formals locals params
      (subst (λ z. parts_faults (after_params (opened known) ps) z false parts ≡ []) same body) among spots in
      subst (λ z. IsSoundFunction p home (definition s ns (opened known) m name z ps parts)) (sym same) sound

pub law_sound : (os : List Outer) → StructsHaveMembers os → first_fault os ≡ None → length (core_of_source os).functions + length (core_of_source os).pointers ≤ 2 ^ 20 → IsSound (core_of_source os)
law_sound os members none few = whole.law_sound (λ p home n s. definitions p home n s) os members none few
