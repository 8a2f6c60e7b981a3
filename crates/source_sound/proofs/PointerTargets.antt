-- The types of pointers to functions in the core tree of a file without a fault: calls through them are there, and each points
-- to functions of its type.
use Rattle.std.proofs.Common.{◌≡◌, ℕ, zero, suc, ◌+◌, Bool, true, false, not, ◌&&◌, if◌then◌else◌, List, [], ◌∷◌, ◌++◌, map, length, Option, Some, None, slice_get, refl, sym, ap, ◌∙◌, subst, arith}
use Rattle.std.proofs.lemmas.Bool.Decides.{nat_tests}
use Rattle.std.proofs.lemmas.List.{length-map}
use Rattle.std.proofs.lemmas.Option.{same_Some, none-some}
use Rattle.rr_base.specs.Texts.{Text, entry_of}
use Rattle.c_types.specs.declared.names.Signature.{Signature}
use Rattle.c_types.specs.declared.names.PointerType.{PointerType}
use Rattle.c_types.specs.Scopes.{Known, Scope, Meaning, variable, function_of, seen, seen_in, or_else, innermost, has_name}
use Rattle.c_types.specs.Signatures.{same_signature, signatures_of, pointer_numbered}
use Rattle.c_types.specs.Standing.{is_main}
use Rattle.core_tree.specs.Core.{Function, Pointer, Program}
use Rattle.c_values.specs.Calls.{gives_pointer}
use Rattle.c_elaborate.specs.Pointers.{pointed_by, target_type, target_types, is_numbered, targets_from, is_pointer_kind, pointer_type, pointer_types, source_pointers}
use Rattle.core_tree.specs.Sound.{IsFunction}
use Rattle.source_sound.proofs.Signatures.{kinds_wanted}
use Rattle.source_sound.proofs.Pointers.{same_known, kinds_told}
use Rattle.source_sound.proofs.Grown.{found}
use Rattle.source_sound.proofs.PointerNumbers.{passes_there, HavePointerTypes}
use Rattle.source_sound.proofs.FileFunctions.{AllAre, one_is, names_of, IsOfFile, same_function}

-- ---- the types

-- the type with the number, as the core tree has it
record IsTypeOf (ts : List (Option ℕ)) (n k : ℕ) (g : Signature) (q : Pointer) : Type 0 where
  kinds : q.kinds ≡ map is_pointer_kind g.params
  gives : q.gives_pointer ≡ gives_pointer g.result
  targets : q.targets ≡ targets_from (n + k) 0 ts

type_there : (ts : List (Option ℕ)) (n : ℕ) (xs : List PointerType) (k : ℕ) (g : Signature) → slice_get (signatures_of xs) k ≡ Some g → (q : Pointer) × (slice_get (pointer_types ts n xs) k ≡ Some q) × IsTypeOf ts n k g q
type_there ts n [] k g e = absurd (none-some g e)
type_there ts n (x ∷ xs) zero g e =
    let is : x.signature ≡ g = same_Some x.signature g e in
    let number : n ≡ n + 0 = omega arith in (
      pointer_type ts n x,
      refl,
      record { kinds = ap (λ f. map is_pointer_kind f.params) is; gives = ap (λ f. gives_pointer f.result) is; targets = ap (λ i. targets_from i 0 ts) number },
    )
type_there ts n (x ∷ xs) (suc k) g e =
    let more = type_there ts (n + 1) xs k g e in
    let number : n + 1 + k ≡ n + suc k = omega arith in
    (more.0, more.1, record { kinds = more.2.kinds; gives = more.2.gives; targets = more.2.targets ∙ ap (λ i. targets_from i 0 ts) number })

type_of : (ts : List (Option ℕ)) (n : ℕ) (xs : List PointerType) (k : ℕ) (q : Pointer) → slice_get (pointer_types ts n xs) k ≡ Some q → (g : Signature) × (slice_get (signatures_of xs) k ≡ Some g) × IsTypeOf ts n k g q
type_of ts n [] k q e = absurd (none-some q e)
type_of ts n (x ∷ xs) zero q e =
    let is : pointer_type ts n x ≡ q = same_Some (pointer_type ts n x) q e in
    let number : n ≡ n + 0 = omega arith in (
      x.signature,
      refl,
      record { kinds = ap (λ z. z.kinds) (sym is); gives = ap (λ z. z.gives_pointer) (sym is); targets = ap (λ z. z.targets) (sym is) ∙ ap (λ i. targets_from i 0 ts) number },
    )
type_of ts n (x ∷ xs) (suc k) q e =
    let more = type_of ts (n + 1) xs k q e in
    let number : n + 1 + k ≡ n + suc k = omega arith in
    (more.0, more.1, record { kinds = more.2.kinds; gives = more.2.gives; targets = more.2.targets ∙ ap (λ i. targets_from i 0 ts) number })

-- ---- the targets

-- a function with the number is there
abbrev IsThere : ℕ → ℕ → List (Option ℕ) → ℕ → Type 0
IsThere k n ts m = (d : ℕ) × (m ≡ n + d) × (slice_get ts d ≡ Some (Some k))

number_is : (k : ℕ) (o : Option ℕ) → is_numbered k o ≡ true → Some o ≡ Some (Some k)
number_is k None is = cc
number_is k (Some j) is = let same : j ≡ k = grind (arith, nat_tests) in ap (λ x. Some (Some x)) same

there_later : (k n : ℕ) (t : Option ℕ) (ts : List (Option ℕ)) (m : ℕ) → IsThere k (n + 1) ts m → IsThere k n (t ∷ ts) m
there_later k n t ts m more = let at = more.1 in (suc more.0, omega (arith, at), more.2)

-- each target is one
targets_there : (k n : ℕ) (ts : List (Option ℕ)) (i m : ℕ) → slice_get (targets_from k n ts) i ≡ Some m → IsThere k n ts m
targets_there k n [] i m e = absurd (none-some m e)
targets_there k n (t ∷ ts) i m e = by (is_numbered k t) refl i e (λ j g. targets_there k (n + 1) ts j m g)
  where
    by : (b : Bool) → is_numbered k t ≡ b → (i : ℕ) → slice_get ((if b then n ∷ [] else []) ++ targets_from k (n + 1) ts) i ≡ Some m → ((j : ℕ) → slice_get (targets_from k (n + 1) ts) j ≡ Some m → IsThere k (n + 1) ts m) → IsThere k n (t ∷ ts) m
    by true is zero e rec = let same : n ≡ m = same_Some n m e in (0, omega (arith, same), number_is k t is)
    by true is (suc i) e rec = there_later k n t ts m (rec i e)
    by false is i e rec = there_later k n t ts m (rec i e)

-- what has a number among the targets' types is a function's name of that type, and isn't `main`
record IsTarget (known : Known) (name : Text) (k : ℕ) : Type 0 where
  signature : Signature
  means : seen known name ≡ Some (function_of signature)
  number : pointer_numbered known signature ≡ Some k
  other : is_main name ≡ false

target_is : (known : Known) (taken : List Text) (name : Text) (k : ℕ) → target_type known taken name ≡ Some k → IsTarget known name k
target_is known taken name k e = by (has_name taken name) (is_main name) refl (seen known name) refl e
  where
    by : (b c : Bool) → is_main name ≡ c → (o : Option Meaning) → seen known name ≡ o → (if b && not c then pointed_by known o else None) ≡ Some k → IsTarget known name k
    by true false main (Some (function_of f)) is e = record { signature = f; means = is; number = e; other = main }
    by true false main (Some (variable t)) is e = absurd (none-some k e)
    by true false main None is e = absurd (none-some k e)
    by true true main o is e = absurd (none-some k e)
    by false c main o is e = absurd (none-some k e)

target_named : (known : Known) (taken names : List Text) (d k : ℕ) → slice_get (map (target_type known taken) names) d ≡ Some (Some k) → (name : Text) × (slice_get names d ≡ Some name) × IsTarget known name k
target_named known taken [] d k e = absurd (none-some (Some k) e)
target_named known taken (x ∷ names) zero k e = (x, refl, target_is known taken x k (same_Some (target_type known taken x) (Some k) e))
target_named known taken (x ∷ names) (suc d) k e = target_named known taken names d k e

function_named : (fs : List Function) (d : ℕ) (name : Text) → slice_get (names_of fs) d ≡ Some name → (f : Function) × (slice_get fs d ≡ Some f) × (f.name ≡ name)
function_named [] d name e = absurd (none-some name e)
function_named (f ∷ fs) zero name e = (f, refl, same_Some f.name name e)
function_named (f ∷ fs) (suc d) name e = function_named fs d name e

-- ---- after the whole file

module _ (p : Program) (n : ℕ) (known : Known) (scope : Scope) (taken : List Text) (scopes : known.scopes ≡ scope ∷ []) (names : known.defined ≡ names_of p.functions) (pointers : p.pointers ≡ source_pointers known taken) where
  -- a call through a pointer of a known type is there
  pub types_there : HavePointerTypes p n known
  types_there k g e is =
      let one = type_there (target_types known taken) 0 known.pointers k g e in
      let count = ap (λ xs. length xs) names ∙ length-map p.functions (λ f. f.name) in (
        k,
        one.0,
        ap (λ i. i + k) count,
        subst (λ qs. slice_get qs k ≡ Some one.0) (sym pointers) one.1,
        ap (λ ks. false ∷ ks) (one.2.kinds ∙ kinds_told g.params is.0),
        one.2.gives,
      )

  seen_found : (name : Text) (m : Meaning) → seen known name ≡ Some m → found known name ≡ Some m
  seen_found name m e = ap (λ ss. entry_of (innermost ss) name) scopes ∙ only (entry_of scope name) (ap (λ ss. seen_in ss name) (sym scopes) ∙ e)
    where
      only : (o : Option Meaning) → or_else o None ≡ Some m → o ≡ Some m
      only None e = cc
      only (Some x) e = e

  -- a function to which pointers of a type may point has this type
  target_fits : AllAre (λ f. IsOfFile n known f) p.functions → (k d : ℕ) (g : Signature) → slice_get (signatures_of known.pointers) k ≡ Some g → slice_get (target_types known taken) d ≡ Some (Some k) → IsFunction p d (map is_pointer_kind g.params) (gives_pointer g.result)
  target_fits of_file k d g e is =
      let target = target_named known taken known.defined d k is in
      let named = function_named p.functions d target.0 (subst (λ xs. slice_get xs d ≡ Some target.0) names target.1) in
      let f = named.0 in
      let own = target.2.signature in
      let file = one_is (λ x. IsOfFile n known x) p.functions of_file d f named.1 in
      let means : found known f.name ≡ Some (function_of own) = ap (λ x. found known x) named.2 ∙ seen_found target.0 (function_of own) target.2.means in
      let one : own ≡ file.signature = same_function own file.signature (sym means ∙ file.means) in
      let agree : same_signature own g ≡ true = passes_there (same_signature own) (signatures_of known.pointers) k g target.2.number e in
      let both = same_known n file.signature g file.known.1 (subst (λ x. same_signature x g ≡ true) one agree) in
      let told : kinds_wanted g.params ≡ map is_pointer_kind g.params = sym (kinds_told g.params both.0.0) in
      (f, named.1, ap is_main named.2 ∙ target.2.other, file.kinds ∙ both.1 ∙ told, file.gives ∙ both.2)

  -- a pointer points to functions of its type
  pub all_targets : AllAre (λ f. IsOfFile n known f) p.functions → (k : ℕ) (q : Pointer) → slice_get p.pointers k ≡ Some q → (i m : ℕ) → slice_get q.targets i ≡ Some m → IsFunction p m q.kinds q.gives_pointer
  all_targets of_file k q e i m is =
      let type = type_of (target_types known taken) 0 known.pointers k q (subst (λ qs. slice_get qs k ≡ Some q) pointers e) in
      let zero_more : 0 + k ≡ k = omega arith in
      let targets : q.targets ≡ targets_from k 0 (target_types known taken) = type.2.targets ∙ ap (λ j. targets_from j 0 (target_types known taken)) zero_more in
      let at = targets_there k 0 (target_types known taken) i m (subst (λ ms. slice_get ms i ≡ Some m) targets is) in
      let number = at.1 in
      let same : at.0 ≡ m = omega (arith, number) in
      let fits = target_fits of_file k at.0 type.0 type.1 at.2 in
      let kinds = subst (λ ks. IsFunction p at.0 ks (gives_pointer type.0.result)) (sym type.2.kinds) fits in
      let gives = subst (λ b. IsFunction p at.0 q.kinds b) (sym type.2.gives) kinds in
      subst (λ d. IsFunction p d q.kinds q.gives_pointer) same gives
