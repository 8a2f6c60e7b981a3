-- What is known only grows from one definition of a file to the next: names keep what they mean, and structs their members.
use Rattle.std.proofs.Common.{◌≡◌, Bool, true, false, if◌then◌else◌, List, [], ◌∷◌, ◌++◌, Option, Some, refl, sym, ap, ◌∙◌, append_assoc, append-nil}
use Rattle.rr_base.specs.Texts.{Text, entry_of}
use Rattle.c_tree.specs.declared.name.Name.{Name}
use Rattle.c_tree.specs.declared.ctype.Specifier.{Specifier}
use Rattle.c_tree.specs.Tree.{Declared, Object, Fields, Code, defined, prototype, Outer, structure, function, objects}
use Rattle.c_types.specs.declared.names.Signature.{Signature}
use Rattle.c_types.specs.Scopes.{Known, Scope, Members, Meaning, variable, function_of, innermost, declared_in, declare}
use Rattle.c_names.specs.Sources.{declared_name, declared_by}
use Rattle.c_programs.specs.Declarators.{with_fields, struct_cells, is_struct_defined, after_struct, declared_type}
use Rattle.c_programs.specs.Statements.{after_declared, after_objects}
use Rattle.c_programs.specs.Programs.{after_function, after_outer}
use Rattle.c_names.specs.Signatures.{signature_of}
use Rattle.c_spots.specs.Spots.{known_after}
use Rattle.source_sound.proofs.FileScope.{entry_kept}

-- what a name of the file means
abbrev pub found : Known → Text → Option Meaning
found known name = entry_of (innermost known.scopes) name

pub record Grows (known after : Known) : Type 0 where
  pub names : (name : Text) (m : Meaning) → found known name ≡ Some m → found after name ≡ Some m
  pub more : List Members
  pub structs : after.structs ≡ known.structs ++ more
  pub struct_names : after.struct_names ≡ known.struct_names
  pub defined : after.defined ≡ known.defined

pub same_grows : (known : Known) → Grows known known
same_grows known = record { names = λ name m e. e; more = []; structs = sym (append-nil known.structs); struct_names = refl; defined = refl }

pub grows_on : (known mid after : Known) → Grows known mid → Grows mid after → Grows known after
grows_on known mid after a b = record {
  names = λ name m e. b.names name m (a.names name m e);
  more = a.more ++ b.more;
  structs = b.structs ∙ ap (λ xs. xs ++ b.more) a.structs ∙ append_assoc known.structs a.more b.more;
  struct_names = b.struct_names ∙ a.struct_names;
  defined = b.defined ∙ a.defined;
}

scopes_keep : (ss : List Scope) (other : Text) (x : Meaning) (name : Text) (m : Meaning) → entry_of (innermost ss) name ≡ Some m → entry_of (innermost (declared_in ss other x)) name ≡ Some m
scopes_keep [] other x name m e = e
scopes_keep (s ∷ ss) other x name m e = entry_kept s name m other x e

declare_grows : (known : Known) (other : Text) (x : Meaning) → Grows known (declare known other x)
declare_grows known other x = record { names = λ name m e. scopes_keep known.scopes other x name m e; more = []; structs = sym (append-nil known.structs); struct_names = refl; defined = refl }

declared_grows : (known : Known) (s : Specifier) (d : Declared) → Grows known (after_declared known true s d)
declared_grows known s d = record { names = λ name m e. scopes_keep known.scopes (declared_name d).text (variable (declared_type known s d)) name m e; more = []; structs = sym (append-nil known.structs); struct_names = refl; defined = refl }

objects_grow : (known : Known) (s : Specifier) (os : List Object) → Grows known (after_objects known true s os)
objects_grow known s [] = same_grows known
objects_grow known s (o ∷ os) = grows_on known (after_declared known true s (declared_by o)) (after_objects (after_declared known true s (declared_by o)) true s os) (declared_grows known s (declared_by o)) (objects_grow (after_declared known true s (declared_by o)) s os)

pub function_grows : (known : Known) (name : Name) (f : Signature) (code : Code) → Grows known (after_function known name f code)
function_grows known name f prototype = declare_grows known name.text (function_of f)
function_grows known name f (defined ps at) = record { names = λ other m e. scopes_keep known.scopes name.text (function_of f) other m e; more = []; structs = sym (append-nil known.structs); struct_names = refl; defined = refl }

struct_grows : (known : Known) (name : Name) (fs : List Fields) → Grows known (after_struct known name fs)
struct_grows known name fs = by (is_struct_defined known name.text)
  where
    by : (b : Bool) → Grows known (if b then known else record known { structs = known.structs ++ with_fields known [] fs ∷ []; sizes = known.sizes ++ struct_cells known fs ∷ [] })
    by true = same_grows known
    by false = record { names = λ other m e. e; more = with_fields known [] fs ∷ []; structs = refl; struct_names = refl; defined = refl }

pub outer_grows : (known : Known) (o : Outer) → Grows known (after_outer known o)
outer_grows known (structure name fs) = struct_grows known name fs
outer_grows known (function is_static s stars name ps code) = function_grows known name (signature_of known s stars ps) code
outer_grows known (objects is_static s os at) = objects_grow known s os

pub outers_grow : (known : Known) (os : List Outer) → Grows known (known_after known os)
outers_grow known [] = same_grows known
outers_grow known (o ∷ os) = grows_on known (after_outer known o) (known_after (after_outer known o) os) (outer_grows known o) (outers_grow (after_outer known o) os)
