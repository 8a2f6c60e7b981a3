-- The calls of the library take arguments of the kinds that they want, and what a call gives is of the kind that is known.
use Rattle.std.proofs.Common.{◌≡◌, ℕ, zero, suc, ◌==◌, nat_lt, Bool, true, false, not, ◌&&◌, List, [], ◌∷◌, replicate, Option, Some, None, refl, sym, ap, ◌∙◌, subst, arith}
use Rattle.std.proofs.lemmas.Bool.{eqb-true, lt-ltb}
use Rattle.rr_base.specs.Texts.{Text}
use Rattle.word_semantics.specs.declared.library_call.LibraryCall.TheVariants as library_call
use Rattle.word_semantics.specs.Kinds.{library_kinds}
use Rattle.c_tree.specs.Tree.{Exp, named, text, Exps, no_exp, and_exp}
use Rattle.rr_base.specs.declared.position.Position.{Position}
use Rattle.c_types.specs.declared.types.BaseType.{BaseType}
use Rattle.c_types.specs.declared.types.BaseType.TheVariants as base
use Rattle.c_types.specs.declared.library.StarredType.{StarredType}
use Rattle.c_types.specs.declared.library.Wanted.{Wanted}
use Rattle.c_types.specs.declared.library.Wanted.TheVariants as wants
use Rattle.c_types.specs.declared.library.LibraryName.{LibraryName}
use Rattle.c_types.specs.declared.library.LibraryName.TheVariants as library
use Rattle.c_types.specs.declared.names.Signature.{Signature}
use Rattle.c_types.specs.Types.{bare}
use Rattle.c_types.specs.Scopes.{Known, Meaning, variable, function_of, seen, has_name, starred, function_numbered}
use Rattle.c_types.specs.Operands.{Operand, type_operand, accepts, is_void}
use Rattle.c_types.specs.Library.{starred_type, an_int, wanted_by}
use Rattle.c_types.specs.Format.{conversions}
use Rattle.c_names.specs.Started.{third_name}
use Rattle.c_types.specs.Standing.{is_main, can_be_used, is_pointer_to_void, wants_pointer_to_void, gives_pointer_to_void, has_root_types, is_root_type, is_root, fit_wanted}
use Rattle.core_tree.specs.Core as core
use Rattle.core_tree.specs.Core.{Function, Program}
use Rattle.core_tree.specs.Meaning.{is_pointer}
use Rattle.c_operators.specs.Context.{Context, function_counted}
use Rattle.c_operators.specs.declared.denoted.WordKind.{WordKind}
use Rattle.c_operators.specs.Denoted.{is_pointing}
use Rattle.c_values.specs.Calls.{is_pointer_wanted, kind_wanted, gives_pointer, started_function, library_of, first_of}
use Rattle.core_tree.specs.Sound.{IsWhole, IsFunction, Starts, IsSoundExp, AreSound, value_kinds}
use Rattle.source_sound.proofs.Environment.{wanted_kinds, CallSuits, Suits}
use Rattle.source_sound.proofs.Apart.{never, both}
use Rattle.source_sound.proofs.Formats.{format_numbers, plain_numbers}
use Rattle.source_sound.proofs.FunctionWords.{GivesAll}
use Rattle.source_sound.proofs.Changes.{accepted}

-- ---- kinds that are wanted

-- so many stars are a pointer
pointing_stars : (n : ℕ) (b : BaseType) → is_pointing (type_operand (starred n b)) ≡ nat_lt 0 n
pointing_stars zero base.Int = refl
pointing_stars zero (base.Function fn) = refl
pointing_stars zero base.Void = refl
pointing_stars zero (base.Struct k) = refl
pointing_stars zero base.Mutex = refl
pointing_stars zero base.Cond = refl
pointing_stars zero base.Barrier = refl
pointing_stars zero base.RwLock = refl
pointing_stars (suc n) b = sym (lt-ltb 0 (suc n) (omega arith))

pub wanted_pointer : (t : StarredType) → is_pointing (type_operand (starred_type t)) ≡ is_pointer_wanted t
wanted_pointer t = pointing_stars t.stars t.base

-- no argument's type is unknown
abbrev pub AreWanted : List Wanted → Type 0
AreWanted [] = Unit {0}
AreWanted (wants.Fits t ∷ ws) = AreWanted ws
AreWanted (wants.Anything ∷ ws) = ⊥
AreWanted (wants.Attribute ∷ ws) = AreWanted ws
AreWanted (wants.Root ∷ ws) = AreWanted ws
AreWanted (wants.Text ∷ ws) = AreWanted ws

numbers_wanted : (n : ℕ) → AreWanted (replicate n an_int)
numbers_wanted zero = tt
numbers_wanted (suc n) = numbers_wanted n

pub printf_wanted : (n : ℕ) → AreWanted (wants.Text ∷ replicate n an_int)
printf_wanted n = numbers_wanted n

pub library_wanted : (c : LibraryName) → AreWanted (wanted_by c)
library_wanted library.Create = tt
library_wanted library.Join = tt
library_wanted library.Exit = tt
library_wanted library.SelfNumber = tt
library_wanted library.SameThread = tt
library_wanted library.MutexInit = tt
library_wanted library.MutexLock = tt
library_wanted library.MutexUnlock = tt
library_wanted library.MutexTryLock = tt
library_wanted library.MutexDestroy = tt
library_wanted library.CondInit = tt
library_wanted library.CondWait = tt
library_wanted library.CondSignal = tt
library_wanted library.CondBroadcast = tt
library_wanted library.CondDestroy = tt
library_wanted library.BarrierInit = tt
library_wanted library.BarrierWait = tt
library_wanted library.BarrierDestroy = tt
library_wanted library.RwInit = tt
library_wanted library.RwRdLock = tt
library_wanted library.RwWrLock = tt
library_wanted library.RwUnlock = tt
library_wanted library.RwDestroy = tt
library_wanted library.Malloc = tt
library_wanted library.Free = tt
library_wanted library.GetChar = tt
library_wanted library.PrintFormat = tt
library_wanted library.PutChar = tt
library_wanted library.PutText = tt

module _ (p : Program) (home : ℕ → Option ℕ) (f : Function) where
  numbers_kinds : (n : ℕ) → wanted_kinds p home f (replicate n an_int) ≡ replicate n false
  numbers_kinds zero = refl
  numbers_kinds (suc n) = ap (λ z. false ∷ z) (numbers_kinds n)

  -- ---- kinds of the library

  -- of `printf`, by its format
  pub printf_kinds : (known : Known) (bytes : Text) (at : Position) (es : Exps) (n : ℕ) → conversions bytes ≡ Some n →
      wanted_kinds p home f (wants.Text ∷ replicate n an_int) ≡ library_kinds (library_of known library.PrintFormat (and_exp (text bytes at) es))
  printf_kinds known bytes at es n e = numbers_kinds n ∙ sym (format_numbers bytes n e)

  -- neither `printf` nor `malloc`
  abbrev pub IsPlain : LibraryName → Type 0
  IsPlain library.Malloc = ⊥
  IsPlain library.PrintFormat = ⊥
  IsPlain _ = Unit {0}

  pub plain_kinds : (known : Known) (c : LibraryName) (es : Exps) → IsPlain c → wanted_kinds p home f (wanted_by c) ≡ library_kinds (library_of known c es)
  plain_kinds known library.Create es h = refl
  plain_kinds known library.Join es h = refl
  plain_kinds known library.Exit es h = refl
  plain_kinds known library.SelfNumber es h = refl
  plain_kinds known library.SameThread es h = refl
  plain_kinds known library.MutexInit es h = refl
  plain_kinds known library.MutexLock es h = refl
  plain_kinds known library.MutexUnlock es h = refl
  plain_kinds known library.MutexTryLock es h = refl
  plain_kinds known library.MutexDestroy es h = refl
  plain_kinds known library.CondInit es h = refl
  plain_kinds known library.CondWait es h = refl
  plain_kinds known library.CondSignal es h = refl
  plain_kinds known library.CondBroadcast es h = refl
  plain_kinds known library.CondDestroy es h = refl
  plain_kinds known library.BarrierInit es h = refl
  plain_kinds known library.BarrierWait es h = refl
  plain_kinds known library.BarrierDestroy es h = refl
  plain_kinds known library.RwInit es h = refl
  plain_kinds known library.RwRdLock es h = refl
  plain_kinds known library.RwWrLock es h = refl
  plain_kinds known library.RwUnlock es h = refl
  plain_kinds known library.RwDestroy es h = refl
  plain_kinds known library.Malloc es h = absurd h
  plain_kinds known library.Free es h = refl
  plain_kinds known library.GetChar es h = refl
  plain_kinds known library.PrintFormat es h = absurd h
  plain_kinds known library.PutChar es h = refl
  plain_kinds known library.PutText (and_exp (text bytes at) es) h = sym (plain_numbers bytes 10)
  plain_kinds known library.PutText _ h = refl

  -- ---- the function with which a thread starts

  pointer_to_void : (t : StarredType) → is_pointer_to_void t ≡ true → is_pointer_wanted t ≡ true
  pointer_to_void t h = ap (nat_lt 0) (eqb-true t.stars 1 (both (t.stars == 1) (is_void (bare t.base)) h).0)

  root_wants : (ws : List Wanted) → wants_pointer_to_void ws ≡ true → wanted_kinds p home f ws ≡ true ∷ []
  root_wants [] h = never h
  root_wants (wants.Fits t ∷ []) h = ap (λ z. z ∷ []) (pointer_to_void t h)
  root_wants (wants.Fits t ∷ w ∷ ws) h = never h
  root_wants (wants.Anything ∷ ws) h = never h
  root_wants (wants.Attribute ∷ ws) h = never h
  root_wants (wants.Root ∷ ws) h = never h
  root_wants (wants.Text ∷ ws) h = never h

  root_gives : (t : Option StarredType) → gives_pointer_to_void t ≡ true → gives_pointer t ≡ true
  root_gives None h = never h
  root_gives (Some t) h = pointer_to_void t h

  root_callable : (h : Context) (name : Text) (g : Signature) → CallSuits p home f h name g → has_root_types g ≡ true → IsFunction p (function_counted (function_numbered h.known name)) (true ∷ []) true
  root_callable h name g suits e =
      let are = both (gives_pointer_to_void g.result) (wants_pointer_to_void g.params) e in
      subst (λ b. IsFunction p (function_counted (function_numbered h.known name)) (true ∷ []) b) (root_gives g.result are.0)
      (subst (λ ks. IsFunction p (function_counted (function_numbered h.known name)) ks (gives_pointer g.result)) (root_wants g.params are.1) suits.callable)

  module _ (h : Context) (suits : Suits p home f h) where
    root_by : (name : Text) (m : Option Meaning) → seen h.known name ≡ m → (is_root_type m && can_be_used h.known name) ≡ true → IsFunction p (function_counted (function_numbered h.known name)) (true ∷ []) true
    root_by name None e r = never r
    root_by name (Some (variable t)) e r = never r
    root_by name (Some (function_of g)) e r =
        let one = both (has_root_types g) (can_be_used h.known name) r in
        let two = both (not (is_main name)) (has_name h.known.defined name) one.1 in
        root_callable h name g (suits.functions name g e two.1 (not_main (is_main name) two.0)) one.0
      where
        not_main : (b : Bool) → not b ≡ true → b ≡ false
        not_main true x = never x
        not_main false x = refl

    root_starts : (a b c : Exp) (es : Exps) → is_root h.known c ≡ true → Starts p (library_call.Create (started_function h.known (third_name (and_exp a (and_exp b (and_exp c es))))))
    root_starts a b (named name at) es r = root_by name (seen h.known name) refl r
    root_starts a b _ es r = never r

    pub create_starts : (es : Exps) → fit_wanted h.known (wanted_by library.Create) es ≡ true → Starts p (library_of h.known library.Create es)
    create_starts no_exp r = never r
    create_starts (and_exp a no_exp) r = never (both _ _ r).1
    create_starts (and_exp a (and_exp b no_exp)) r = never (both _ _ (both _ _ r).1).1
    create_starts (and_exp a (and_exp b (and_exp c es))) r = root_starts a b c es (both _ _ (both _ _ (both _ _ r).1).1).0

    pub library_starts : (c : LibraryName) (es : Exps) → IsPlain c → fit_wanted h.known (wanted_by c) es ≡ true → Starts p (library_of h.known c es)
    library_starts library.Create es x r = create_starts es r
    library_starts library.Join es x r = tt
    library_starts library.Exit es x r = tt
    library_starts library.SelfNumber es x r = tt
    library_starts library.SameThread es x r = tt
    library_starts library.MutexInit es x r = tt
    library_starts library.MutexLock es x r = tt
    library_starts library.MutexUnlock es x r = tt
    library_starts library.MutexTryLock es x r = tt
    library_starts library.MutexDestroy es x r = tt
    library_starts library.CondInit es x r = tt
    library_starts library.CondWait es x r = tt
    library_starts library.CondSignal es x r = tt
    library_starts library.CondBroadcast es x r = tt
    library_starts library.CondDestroy es x r = tt
    library_starts library.BarrierInit es x r = tt
    library_starts library.BarrierWait es x r = tt
    library_starts library.BarrierDestroy es x r = tt
    library_starts library.RwInit es x r = tt
    library_starts library.RwRdLock es x r = tt
    library_starts library.RwWrLock es x r = tt
    library_starts library.RwUnlock es x r = tt
    library_starts library.RwDestroy es x r = tt
    library_starts library.Malloc es x r = absurd x
    library_starts library.Free es x r = tt
    library_starts library.GetChar es x r = tt
    library_starts library.PrintFormat es x r = absurd x
    library_starts library.PutChar es x r = tt
    library_starts library.PutText es x r = tt

  -- the first of arguments that are one number
  pub first_whole : (l : List core.Exp) (at : Position) → value_kinds (core.listed l) ≡ false ∷ [] → IsWhole (first_of l at)
  first_whole [] at h = refl
  first_whole (e ∷ es) at h = ap first_kind h
    where
      first_kind : List Bool → Bool
      first_kind [] = false
      first_kind (k ∷ ks) = k

  pub first_sound : (l : List core.Exp) (at : Position) → AreSound p home f (core.listed l) → IsSoundExp p home f (first_of l at)
  first_sound [] at h = tt
  first_sound (e ∷ es) at h = h.0

  -- what fits a wanted type is a word of its kind
  pub fitting_word : (structs : ℕ) (t : StarredType) (a : Operand) (words : WordKind → core.Exp) → GivesAll p home f structs a words → accepts (starred_type t) a ≡ true → is_pointer (words (kind_wanted t)) ≡ is_pointer_wanted t
  fitting_word structs t a words g e = accepted p home f structs (starred_type t) a words g e ∙ wanted_pointer t
