-- The types of functions without a fault: each parameter and the result is known, and all declarations of a function agree.
use Rattle.std.proofs.Common.{◌≡◌, ℕ, zero, suc, Bool, true, false, ◌&&◌, ◌==◌, nat_lt, List, [], ◌∷◌, map, length, replicate, Option, Some, None, is_none, position, bytes_eq, refl, sym, ap, ap₂, ◌∙◌, subst, arith, true≢false}
use Rattle.std.specs.Option.{option_map}
use Rattle.std.proofs.lemmas.Bool.{and_parts}
use Rattle.std.proofs.lemmas.Option.{same_Some}
use Rattle.std.proofs.lemmas.Bool.Decides.{nat_tests}
use Rattle.c_tree.specs.Tree.{Formal, formal, formal_pointer}
use Rattle.c_tree.specs.declared.ctype.Specifier.{Specifier}
use Rattle.c_tree.specs.declared.ctype.Specifier.TheVariants as specifier
use Rattle.c_types.specs.declared.types.BaseType.{BaseType}
use Rattle.c_types.specs.declared.types.BaseType.TheVariants as base
use Rattle.c_types.specs.declared.types.Layer.TheVariants as layer
use Rattle.c_types.specs.declared.library.StarredType.{StarredType}
use Rattle.c_types.specs.declared.library.Wanted.{Wanted}
use Rattle.c_types.specs.declared.library.Wanted.TheVariants as wants
use Rattle.c_types.specs.declared.names.Signature.{Signature}
use Rattle.c_types.specs.Scopes.{Known, base_of, starred}
use Rattle.c_types.specs.Library.{fitting_type, starred_type}
use Rattle.c_rules.specs.Faults.{mismatch, specifier_faults}
use Rattle.c_types.specs.Operands.{same_base}
use Rattle.c_programs.specs.Declarators.{place_by, param_name_faults, param_faults, after_param, params_faults}
use Rattle.c_names.specs.Signatures.{is_struct_specifier, cannot_pass, wanted_for, wanted_pointer, pointer_of, wanted_of, result_by, cannot_give, result_of}
use Rattle.c_programs.specs.Programs.{agree_on_result, agree_on_params, agree}
use Rattle.c_types.specs.Signatures.{same_starred}
use Rattle.c_values.specs.Calls.{is_pointer_wanted, gives_pointer}
use Rattle.core_tree.specs.Core.{Function, Program}
use Rattle.source_sound.proofs.Environment.{IsFormedValue, wanted_kinds, AreFitting}
use Rattle.source_sound.proofs.FileLists.{append_nil, nil4, where_nil}
use Rattle.source_sound.proofs.DeclaredTypes.{base_known, IsFileBase, only_pointers, pointers_formed}

-- ---- what is wanted

abbrev pub kinds_wanted : List Wanted → List Bool
kinds_wanted [] = []
kinds_wanted (wants.Fits t ∷ ws) = is_pointer_wanted t ∷ kinds_wanted ws
kinds_wanted (_ ∷ ws) = kinds_wanted ws

abbrev pub AreFits : List Wanted → Type 0
AreFits [] = Unit {0}
AreFits (wants.Fits t ∷ ws) = AreFits ws
AreFits (_ ∷ ws) = ⊥

module _ (p : Program) (home : ℕ → Option ℕ) (f : Function) where
  pub same_wanted : (ws : List Wanted) → AreFits ws → (AreFitting p home f ws) × (wanted_kinds p home f ws ≡ kinds_wanted ws)
  same_wanted [] h = (tt, refl)
  same_wanted (wants.Fits t ∷ ws) h = let more = same_wanted ws h in (more.0, ap (λ ks. is_pointer_wanted t ∷ ks) more.1)
  same_wanted (wants.Anything ∷ ws) h = absurd h
  same_wanted (wants.Attribute ∷ ws) h = absurd h
  same_wanted (wants.Root ∷ ws) h = absurd h
  same_wanted (wants.Text ∷ ws) h = absurd h

abbrev is_struct_base : BaseType → Bool
is_struct_base (base.Struct k) = true
is_struct_base _ = false

-- ---- bases depend on the names of structs alone

pub base_same : (k m : Known) → k.struct_names ≡ m.struct_names → (s : Specifier) → base_of k s ≡ base_of m s
base_same k m e (specifier.Int at) = refl
base_same k m e (specifier.Long second int at) = refl
base_same k m e (specifier.Void at) = refl
base_same k m e (specifier.Struct name at) = ap (λ names. option_map base.Struct (position (λ n. bytes_eq name.text n) names)) e
base_same k m e (specifier.PthreadT at) = refl
base_same k m e (specifier.PthreadMutexT at) = refl
base_same k m e (specifier.PthreadCondT at) = refl
base_same k m e (specifier.PthreadBarrierT at) = refl
base_same k m e (specifier.PthreadRwlockT at) = refl

pub param_names : (known : Known) (p : Formal) → (after_param known p).struct_names ≡ known.struct_names
param_names known (formal s stars None at) = refl
param_names known (formal s stars (Some name) at) = refl
param_names known (formal_pointer s stars name ps at) = refl

-- ---- parameters

pub one_wanted : (cannot : Bool) (b : Option BaseType) (stars : ℕ) (c : BaseType) → cannot ≡ false → b ≡ Some c → wanted_for cannot b stars ≡ fitting_type stars c
one_wanted cannot b stars c p q = ap (λ x. wanted_for x b stars) p ∙ ap (λ x. wanted_for false x stars) q

-- a pointer to functions is a number
abbrev pub is_pointer_formal : Formal → Bool
is_pointer_formal (formal s stars name at) = nat_lt 0 stars
is_pointer_formal (formal_pointer s stars name ps at) = false

-- the type of a pointer to functions has a number
abbrev pub IsNumbered : Known → Formal → Type 0
IsNumbered known (formal s stars name at) = Unit {0}
IsNumbered known (formal_pointer s stars name ps at) = (k : ℕ) × (pointer_of known s stars ps ≡ Some k)

abbrev pub AreNumbered : Known → List Formal → Type 0
AreNumbered known [] = Unit {0}
AreNumbered known (p ∷ ps) = IsNumbered known p × AreNumbered known ps

param_wanted : (known inside : Known) (is_def : Bool) (p : Formal) → inside.struct_names ≡ known.struct_names → IsNumbered known p → param_faults inside is_def p ≡ [] →
    (t : StarredType) × (wanted_of known p ≡ wants.Fits t) × (is_pointer_wanted t ≡ is_pointer_formal p)
param_wanted known inside is_def (formal s stars name at) names numbered h =
    let b = nil4 (specifier_faults inside (stars == 0) s) (mismatch (cannot_pass s stars) (place_by name at)) (mismatch (is_def && is_none name) (place_by name at)) (param_name_faults inside name) h in
    let bk = base_known inside (stars == 0) s b.0 in
    (record { stars = stars; base = bk.0 }, one_wanted (cannot_pass s stars) (base_of known s) stars bk.0 (where_nil _ _ _ b.1) (sym (base_same inside known names s) ∙ bk.1), refl)
param_wanted known inside is_def (formal_pointer s stars name ps at) names numbered h = (record { stars = 0; base = base.Function numbered.0 }, ap wanted_pointer numbered.1, refl)

-- each parameter wants what fits its type
pub params_wanted : (known inside : Known) (is_def : Bool) (ps : List Formal) → inside.struct_names ≡ known.struct_names → AreNumbered known ps → params_faults inside is_def ps ≡ [] →
    AreFits (map (wanted_of known) ps) × (kinds_wanted (map (wanted_of known) ps) ≡ map is_pointer_formal ps)
params_wanted known inside is_def [] names numbered h = (tt, refl)
params_wanted known inside is_def (p ∷ ps) names numbered h =
    let a = append_nil (param_faults inside is_def p) (params_faults (after_param inside p) is_def ps) h in
    let one = param_wanted known inside is_def p names numbered.0 a.0 in
    let more = params_wanted known (after_param inside p) is_def ps (param_names inside p ∙ names) numbered.1 a.1 in (
      subst (λ w. AreFits (w ∷ map (wanted_of known) ps)) (sym one.1) more.0,
      ap (λ w. kinds_wanted (w ∷ map (wanted_of known) ps)) one.1 ∙ ap₂ (λ k ks. k ∷ ks) one.2 more.1,
    )

-- ---- results

-- what a function gives is known, and is no struct
abbrev pub IsSomeResult : ℕ → Option StarredType → Type 0
IsSomeResult n None = ⊥
IsSomeResult n (Some t) = IsFormedValue n (starred_type t)

starred_formed : (n stars : ℕ) (b : BaseType) → IsFileBase n b → (stars ≡ 0 → is_struct_base b ≡ false) → IsFormedValue n (starred stars b)
starred_formed n zero (base.Struct k) h plain = absurd (true≢false (plain refl))
starred_formed n zero base.Int h plain = tt
starred_formed n zero (base.Function fn) h plain = tt
starred_formed n zero base.Void h plain = tt
starred_formed n zero base.Mutex h plain = tt
starred_formed n zero base.Cond h plain = tt
starred_formed n zero base.Barrier h plain = tt
starred_formed n zero base.RwLock h plain = tt
starred_formed n (suc stars) b h plain = pointers_formed n (replicate stars layer.Pointer) b (only_pointers stars) h

struct_specifier : (known : Known) (s : Specifier) (b : BaseType) → base_of known s ≡ Some b → is_struct_specifier s ≡ false → is_struct_base b ≡ false
struct_specifier known (specifier.Int at) b e h = ap is_struct_base (sym (same_Some base.Int b e))
struct_specifier known (specifier.Long second int at) b e h = ap is_struct_base (sym (same_Some base.Int b e))
struct_specifier known (specifier.Void at) b e h = ap is_struct_base (sym (same_Some base.Void b e))
struct_specifier known (specifier.Struct name at) b e h = absurd (true≢false h)
struct_specifier known (specifier.PthreadT at) b e h = ap is_struct_base (sym (same_Some base.Int b e))
struct_specifier known (specifier.PthreadMutexT at) b e h = ap is_struct_base (sym (same_Some base.Mutex b e))
struct_specifier known (specifier.PthreadCondT at) b e h = ap is_struct_base (sym (same_Some base.Cond b e))
struct_specifier known (specifier.PthreadBarrierT at) b e h = ap is_struct_base (sym (same_Some base.Barrier b e))
struct_specifier known (specifier.PthreadRwlockT at) b e h = ap is_struct_base (sym (same_Some base.RwLock b e))

pub result_known : (known : Known) (s : Specifier) (stars : ℕ) → specifier_faults known (stars == 0) s ≡ [] → cannot_give s stars ≡ false → IsSomeResult (length known.struct_names) (result_of known s stars)
result_known known s stars h give =
    let bk = base_known known (stars == 0) s h in
    let plain = λ (e : stars ≡ 0). struct_specifier known s bk.0 bk.1 (no_struct (is_struct_specifier s) e give) in
    subst (λ r. IsSomeResult (length known.struct_names) r) (sym (ap (λ b. result_by b (base_of known s) stars) give ∙ ap (λ b. result_by false b stars) bk.1)) (starred_formed (length known.struct_names) stars bk.0 bk.2 plain)
  where
    no_struct : (v : Bool) → stars ≡ 0 → ((stars == 0) && v) ≡ false → v ≡ false
    no_struct v e h = sym (ap (λ z. (z == 0) && v) e) ∙ h

-- ---- declarations that agree

pub same_stars : (s t : StarredType) → same_starred s t ≡ true → is_pointer_wanted s ≡ is_pointer_wanted t
same_stars s t h = let e = (and_parts (s.stars == t.stars) (same_base s.base t.base) h).0 in let is : s.stars ≡ t.stars = grind (arith, nat_tests) in ap (λ n. nat_lt 0 n) is

results_agree : (n : ℕ) (a b : Option StarredType) → IsSomeResult n a → IsSomeResult n b → agree_on_result a b ≡ true → gives_pointer a ≡ gives_pointer b
results_agree n None b p q h = absurd p
results_agree n (Some s) None p q h = absurd q
results_agree n (Some s) (Some t) p q h = same_stars s t h

params_agree : (xs ys : List Wanted) → AreFits xs → AreFits ys → agree_on_params xs ys ≡ true → kinds_wanted xs ≡ kinds_wanted ys
params_agree [] [] p q h = refl
params_agree [] (y ∷ ys) p q h = absurd (true≢false (sym h))
params_agree (x ∷ xs) [] p q h = absurd (true≢false (sym h))
params_agree (wants.Fits s ∷ xs) (wants.Fits t ∷ ys) p q h =
    let a = and_parts (same_starred s t) (agree_on_params xs ys) h in
    ap₂ (λ k ks. k ∷ ks) (same_stars s t a.0) (params_agree xs ys p q a.1)
params_agree (wants.Fits s ∷ xs) (wants.Anything ∷ ys) p q h = absurd q
params_agree (wants.Fits s ∷ xs) (wants.Attribute ∷ ys) p q h = absurd q
params_agree (wants.Fits s ∷ xs) (wants.Root ∷ ys) p q h = absurd q
params_agree (wants.Fits s ∷ xs) (wants.Text ∷ ys) p q h = absurd q
params_agree (wants.Anything ∷ xs) (y ∷ ys) p q h = absurd p
params_agree (wants.Attribute ∷ xs) (y ∷ ys) p q h = absurd p
params_agree (wants.Root ∷ xs) (y ∷ ys) p q h = absurd p
params_agree (wants.Text ∷ xs) (y ∷ ys) p q h = absurd p

-- each type in it is known
abbrev pub IsKnown : ℕ → Signature → Type 0
IsKnown n f = AreFits f.params × IsSomeResult n f.result

-- they take and give the same kinds
abbrev pub SameKinds : Signature → Signature → Type 0
SameKinds f g = (kinds_wanted f.params ≡ kinds_wanted g.params) × (gives_pointer f.result ≡ gives_pointer g.result)

pub agreeing : (n : ℕ) (f g : Signature) → IsKnown n f → IsKnown n g → agree f g ≡ true → SameKinds f g
agreeing n f g p q h =
    let a = and_parts (agree_on_result f.result g.result) (agree_on_params f.params g.params) h in
    (params_agree f.params g.params p.0 q.0 a.1, results_agree n f.result g.result p.1 q.1 a.0)
