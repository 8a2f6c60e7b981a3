-- Inside a function the names that are seen and their numbers hang together: each number leads to a register or an object
-- that fits the type of the name.
use Rattle.std.proofs.Common.{◌≡◌, ℕ, ◌<◌, ◌≤◌, Bool, true, false, if◌then◌else◌, List, [], ◌∷◌, length, position, Option, Some, None, bytes_eq, refl, sym, ◌∙◌, subst}
use Rattle.rr_base.specs.Texts.{Text, entry_of}
use Rattle.c_types.specs.declared.types.ObjectType.{ObjectType}
use Rattle.c_types.specs.declared.names.Signature.{Signature}
use Rattle.c_types.specs.Constants.{constant_named}
use Rattle.c_types.specs.Scopes.{Scope, Meaning, variable, function_of, or_else, seen_in, seen, has_name, member_of, struct_numbered, cells_of_type}
use Rattle.c_types.specs.Operands.{a_place}
use Rattle.c_types.specs.Standing.{type_struct, is_main}
use Rattle.c_numbers.specs.Numbered.{Numbered, number_seen}
use Rattle.rr_base.specs.declared.position.Position.{Position}
use Rattle.core_tree.specs.Core.{Function, Program}
use Rattle.c_operators.specs.declared.home.Home.{Home}
use Rattle.c_operators.specs.declared.home.Home.TheVariants as kept_in
use Rattle.c_operators.specs.Context.{Source, Frame, Context, home_numbered, global_named, function_counted}
use Rattle.c_values.specs.Calls.{gives_pointer}
use Rattle.c_values.specs.Expressions.{denoted_in, variable_denoted}
use Rattle.core_tree.specs.Sound.{IsFunction, IsAddress}
use Rattle.std.proofs.lemmas.Option.{same_Some}
use Rattle.std.proofs.lemmas.Slice.Eq.{bytes_eq-Decides}
use Rattle.c_types.specs.declared.library.StarredType.{StarredType}
use Rattle.c_types.specs.Signatures.{type_numbered, signature_numbered}
use Rattle.core_tree.specs.Sound.{IsPointerType}
use Rattle.c_operators.specs.Context.{pointer_counted}
use Rattle.source_sound.proofs.Environment.{IsFormed, IsFormedResult, DenotedFits, AreFitting, wanted_kinds, CallSuits, PointerSuits, Suits}
use Rattle.source_sound.proofs.Signatures.{kinds_wanted, same_wanted, IsSomeResult, IsKnown}
use Rattle.source_sound.proofs.Listed.{lists_of}
use Rattle.source_sound.proofs.PointerNumbers.{PointsKnown, HavePointerTypes}
use Rattle.source_sound.proofs.Typed.{struct_below}

abbrev pub IsOpen : List (List (Text × ℕ)) → Type 0
IsOpen [] = ⊥
IsOpen (x ∷ xs) = Unit {0}

-- no struct is in a register
abbrev pub HoldsNoStruct : Home → ObjectType → Type 0
HoldsNoStruct (kept_in.Register r) t = type_struct t ≡ None
HoldsNoStruct (kept_in.Object k) t = Unit {0}

module _ (p : Program) (home : ℕ → Option ℕ) (f : Function) (structs : ℕ) where
  -- the number leads to a register or an object that fits the type
  abbrev pub AtHome : Frame → ObjectType → ℕ → Type 0
  AtHome frame t n = (x : Home) × (home_numbered frame (Some n) ≡ Some x) × ((at : Position) → DenotedFits p home f (a_place t) (denoted_in x at)) × HoldsNoStruct x t

  -- what a function's own name means, and its number
  abbrev pub EntryFits : Source → Frame → Text → Meaning → ℕ → Type 0
  EntryFits source frame name (variable None) n = ⊥
  EntryFits source frame name (variable (Some t)) n = (constant_named name ≡ None) × IsFormed structs t × AtHome frame t n × PointsKnown (lists_of source.whole) structs t
  EntryFits source frame name (function_of g) n = ⊥

  abbrev pub ScopeFits : Source → Frame → Scope → List (Text × ℕ) → Type 0
  ScopeFits source frame [] [] = Unit {0}
  ScopeFits source frame [] (x ∷ xs) = ⊥
  ScopeFits source frame (e ∷ es) [] = ⊥
  ScopeFits source frame (e ∷ es) (x ∷ xs) = (e.0 ≡ x.0) × EntryFits source frame e.0 e.1 x.1 × ScopeFits source frame es xs

  -- what a function gives is known
  abbrev pub IsResultKnown : Signature → Type 0
  IsResultKnown g = IsFormedResult structs g.result

  -- a function that is defined, but for `main`, is called by its name
  abbrev pub IsCalled : List Text → Text → Signature → Type 0
  IsCalled defined name g =
      has_name defined name ≡ true → is_main name ≡ false
      → AreFitting p home f g.params × IsFunction p (function_counted (position (λ n. bytes_eq name n) defined)) (wanted_kinds p home f g.params) (gives_pointer g.result)

  -- what a name of the file means, where these functions are defined
  abbrev pub FileEntry : Source → List Text → Text → Meaning → Type 0
  FileEntry source defined name (variable None) = ⊥
  FileEntry source defined name (variable (Some t)) = (constant_named name ≡ None) × IsFormed structs t × IsAddress p home (global_named source name) × PointsKnown (lists_of source.whole) structs t
  FileEntry source defined name (function_of g) = (constant_named name ≡ None) × IsResultKnown g × IsCalled defined name g × ((k : ℕ) × (type_numbered (lists_of source.whole) g ≡ Some k))

  -- the names of the file
  abbrev pub FileFits : Source → List Text → List Scope → Type 0
  FileFits source defined ss = (name : Text) (m : Meaning) → seen_in ss name ≡ Some m → FileEntry source defined name m

  -- scope by scope; the outermost is that of the file, whose names have no numbers
  abbrev pub ScopesFit : Source → Frame → List Text → List (List (Text × ℕ)) → List Scope → Type 0
  ScopesFit source frame defined [] ss = FileFits source defined ss
  ScopesFit source frame defined (x ∷ xs) [] = ⊥
  ScopesFit source frame defined (x ∷ xs) (s ∷ ss) = ScopeFits source frame s x × ScopesFit source frame defined xs ss

  pub record Inside (h : Context) : Type 0 where
    -- the structs of the file
    pub sizes : (t : ObjectType) → IsFormed structs t → 1 ≤ cells_of_type h.source.whole t
    pub members : (k : ℕ) (name : Text) (m : Option ObjectType) → member_of h.known k name ≡ Some m → (t : ObjectType) × (m ≡ Some t) × IsFormed structs t
    pub struct_names : length h.known.struct_names ≡ structs
    -- its functions and its types of pointers to them
    pub lists : lists_of h.known ≡ lists_of h.source.whole
    pub pointer_types : HavePointerTypes p structs (lists_of h.source.whole)
    pub scopes : ScopesFit h.source h.frame h.known.defined h.numbers.scopes h.known.scopes
    -- a scope of the function is open
    pub is_open : IsOpen h.numbers.scopes
    pub gives : h.frame.gives_pointer ≡ f.gives_pointer

  -- with other scopes that fit
  pub moved : (h : Context) (ss : List Scope) (ns : Numbered) → Inside h → ScopesFit h.source h.frame h.known.defined ns.scopes ss → IsOpen ns.scopes
      → Inside (record h { known = record h.known { scopes = ss }; numbers = ns })
  moved h ss ns i fit open_one = record { sizes = i.sizes; members = i.members; struct_names = i.struct_names; lists = i.lists; pointer_types = i.pointer_types; scopes = fit; is_open = open_one; gives = i.gives }

  -- ---- what is seen

  -- a name and its number in one scope
  abbrev pub EntriesFit : Source → Frame → Text → Option Meaning → Option ℕ → Type 0
  EntriesFit source frame name None None = Unit {0}
  EntriesFit source frame name None (Some n) = ⊥
  EntriesFit source frame name (Some m) None = ⊥
  EntriesFit source frame name (Some m) (Some n) = EntryFits source frame name m n

  entry_by : (source : Source) (frame : Frame) (name key : Text) (b : Bool) (m : Meaning) (n : ℕ) (o : Option Meaning) (q : Option ℕ) → bytes_eq name key ≡ b → EntryFits source frame key m n → EntriesFit source frame name o q
      → EntriesFit source frame name (if b then Some m else o) (if b then Some n else q)
  entry_by source frame name key true m n o q e fit rest = subst (λ k. EntryFits source frame k m n) (sym ((bytes_eq-Decides name key).0 e)) fit
  entry_by source frame name key false m n o q e fit rest = rest

  pub scope_entries : (source : Source) (frame : Frame) (name : Text) (s : Scope) (x : List (Text × ℕ)) → ScopeFits source frame s x → EntriesFit source frame name (entry_of s name) (entry_of x name)
  scope_entries source frame name [] [] fit = tt
  scope_entries source frame name [] (x ∷ xs) fit = absurd fit
  scope_entries source frame name (e ∷ es) [] fit = absurd fit
  scope_entries source frame name (e ∷ es) (x ∷ xs) fit =
      subst (λ key. EntriesFit source frame name (if bytes_eq name e.0 then Some e.1 else entry_of es name) (if bytes_eq name key then Some x.1 else entry_of xs name)) fit.0
      (entry_by source frame name e.0 (bytes_eq name e.0) e.1 x.1 (entry_of es name) (entry_of xs name) refl fit.1 (scope_entries source frame name es xs fit.2))

  -- what is seen of a name, and its number
  abbrev SeenFits : Source → Frame → List Text → Text → Option Meaning → Option ℕ → Type 0
  SeenFits source frame defined name None None = Unit {0}
  SeenFits source frame defined name None (Some n) = ⊥
  SeenFits source frame defined name (Some m) None = FileEntry source defined name m
  SeenFits source frame defined name (Some m) (Some n) = EntryFits source frame name m n

  seen_by : (source : Source) (frame : Frame) (defined : List Text) (name : Text) (o : Option Meaning) (q : Option ℕ) (o' : Option Meaning) (q' : Option ℕ)
      → EntriesFit source frame name o q → SeenFits source frame defined name o' q' → SeenFits source frame defined name (or_else o o') (or_else q q')
  seen_by source frame defined name None None o' q' fit rest = rest
  seen_by source frame defined name None (Some n) o' q' fit rest = absurd fit
  seen_by source frame defined name (Some m) None o' q' fit rest = absurd fit
  seen_by source frame defined name (Some m) (Some n) o' q' fit rest = fit

  seen_of_file : (source : Source) (frame : Frame) (defined : List Text) (name : Text) (o : Option Meaning)
      → ((m : Meaning) → o ≡ Some m → FileEntry source defined name m) → SeenFits source frame defined name o None
  seen_of_file source frame defined name None fit = tt
  seen_of_file source frame defined name (Some m) fit = fit m refl

  all_seen : (source : Source) (frame : Frame) (defined : List Text) (name : Text) (xs : List (List (Text × ℕ))) (ss : List Scope)
      → ScopesFit source frame defined xs ss → SeenFits source frame defined name (seen_in ss name) (number_seen xs name)
  all_seen source frame defined name [] ss fit = seen_of_file source frame defined name (seen_in ss name) (λ m e. fit name m e)
  all_seen source frame defined name (x ∷ xs) [] fit = absurd fit
  all_seen source frame defined name (x ∷ xs) (s ∷ ss) fit =
      seen_by source frame defined name (entry_of s name) (entry_of x name) (seen_in ss name) (number_seen xs name) (scope_entries source frame name s x fit.0) (all_seen source frame defined name xs ss fit.1)

  -- ---- so an expression stands in what suits it

  no_untyped : (source : Source) (frame : Frame) (defined : List Text) (name : Text) (q : Option ℕ) → SeenFits source frame defined name (Some (variable None)) q → ⊥
  no_untyped source frame defined name None fit = fit
  no_untyped source frame defined name (Some n) fit = fit

  seen_formed : (source : Source) (frame : Frame) (defined : List Text) (name : Text) (t : ObjectType) (q : Option ℕ) → SeenFits source frame defined name (Some (variable (Some t))) q → IsFormed structs t
  seen_formed source frame defined name t None fit = fit.1
  seen_formed source frame defined name t (Some n) fit = fit.1

  seen_own : (source : Source) (frame : Frame) (defined : List Text) (name : Text) (m : Meaning) (q : Option ℕ) → SeenFits source frame defined name (Some m) q → constant_named name ≡ None
  seen_own source frame defined name (variable None) None fit = absurd fit
  seen_own source frame defined name (variable None) (Some n) fit = absurd fit
  seen_own source frame defined name (variable (Some t)) None fit = fit.0
  seen_own source frame defined name (variable (Some t)) (Some n) fit = fit.0
  seen_own source frame defined name (function_of g) None fit = fit.0
  seen_own source frame defined name (function_of g) (Some n) fit = absurd fit

  seen_denoted : (h : Context) (name : Text) (t : ObjectType) (at : Position) (q : Option ℕ) → SeenFits h.source h.frame h.known.defined name (Some (variable (Some t))) q
      → DenotedFits p home f (a_place t) (variable_denoted h name (home_numbered h.frame q) at)
  seen_denoted h name t at None fit = (tt, refl, fit.2)
  seen_denoted h name t at (Some n) fit = subst (λ o. DenotedFits p home f (a_place t) (variable_denoted h name o at)) (sym fit.2.1) (fit.2.2 at)

  seen_register : (h : Context) (name : Text) (t : ObjectType) (r : ℕ) (q : Option ℕ) → SeenFits h.source h.frame h.known.defined name (Some (variable (Some t))) q
      → home_numbered h.frame q ≡ Some (kept_in.Register r) → type_struct t ≡ None
  seen_register h name t r None fit e = let no : ⊥ = cc in absurd no
  seen_register h name t r (Some n) fit e =
      let same = same_Some fit.2.0 (kept_in.Register r) (sym fit.2.1 ∙ e) in
      subst (λ x. HoldsNoStruct x t) same fit.2.3

  seen_result : (source : Source) (frame : Frame) (defined : List Text) (name : Text) (g : Signature) (q : Option ℕ) → SeenFits source frame defined name (Some (function_of g)) q → IsResultKnown g
  seen_result source frame defined name g None fit = fit.1
  seen_result source frame defined name g (Some n) fit = absurd fit

  seen_function : (h : Context) (name : Text) (g : Signature) (q : Option ℕ) → SeenFits h.source h.frame h.known.defined name (Some (function_of g)) q
      → has_name h.known.defined name ≡ true → is_main name ≡ false → CallSuits p home f h name g
  seen_function h name g None fit is other = let both = fit.2 is other in record { params = both.0; callable = both.1 }
  seen_function h name g (Some n) fit is other = absurd fit

  seen_points : (source : Source) (frame : Frame) (defined : List Text) (name : Text) (t : ObjectType) (q : Option ℕ) → SeenFits source frame defined name (Some (variable (Some t))) q → PointsKnown (lists_of source.whole) structs t
  seen_points source frame defined name t None fit = fit.3
  seen_points source frame defined name t (Some n) fit = fit.3

  seen_number : (source : Source) (frame : Frame) (defined : List Text) (name : Text) (g : Signature) (q : Option ℕ) → SeenFits source frame defined name (Some (function_of g)) q → (k : ℕ) × (type_numbered (lists_of source.whole) g ≡ Some k)
  seen_number source frame defined name g None fit = fit.3
  seen_number source frame defined name g (Some n) fit = absurd fit

  -- what is known is called through a pointer
  as_result : (r : Option StarredType) → IsSomeResult structs r → IsFormedResult structs r
  as_result None is = absurd is
  as_result (Some t) is = is

  called_through : (h : Context) (k : ℕ) (g : Signature) → lists_of h.known ≡ lists_of h.source.whole → HavePointerTypes p structs (lists_of h.source.whole) → IsKnown structs g → signature_numbered h.known k ≡ Some g → PointerSuits p home f structs h k g
  called_through h k g lists types is got =
      let there : signature_numbered (lists_of h.source.whole) k ≡ Some g = subst (λ l. signature_numbered l k ≡ Some g) lists got in
      let w = same_wanted p home f g.params is.0 in
      record {
        params = w.0;
        result = as_result g.result is.1;
        callable = subst (λ ks. IsPointerType p (pointer_counted h.known k) (false ∷ ks) (gives_pointer g.result)) (sym w.1)
            (subst (λ l. IsPointerType p (pointer_counted l k) (false ∷ kinds_wanted g.params) (gives_pointer g.result)) (sym lists) (types k g there is));
      }

  module _ (h : Context) (i : Inside h) where
    seen_here : (name : Text) → SeenFits h.source h.frame h.known.defined name (seen h.known name) (number_seen h.numbers.scopes name)
    seen_here name = all_seen h.source h.frame h.known.defined name h.numbers.scopes h.known.scopes i.scopes

    seen_as : (name : Text) (o : Option Meaning) → seen h.known name ≡ o → SeenFits h.source h.frame h.known.defined name o (number_seen h.numbers.scopes name)
    seen_as name o e = subst (λ z. SeenFits h.source h.frame h.known.defined name z (number_seen h.numbers.scopes name)) e (seen_here name)

    struct_within : (name : Text) (k : ℕ) → struct_numbered h.known name ≡ Some k → k < structs
    struct_within name k e = let lt = struct_below h.known name k e in subst (λ m. k < m) i.struct_names lt

    there : (k : ℕ) (g : Signature) → signature_numbered h.known k ≡ Some g → signature_numbered (lists_of h.source.whole) k ≡ Some g
    there k g got = subst (λ l. signature_numbered l k ≡ Some g) i.lists got

    pub suits : Suits p home f h
    suits = record {
      structs = structs;
      sizes = i.sizes;
      members = i.members;
      names = λ name k e. struct_within name k e;
      own = λ name m e. seen_own h.source h.frame h.known.defined name m (number_seen h.numbers.scopes name) (seen_as name (Some m) e);
      typed = λ name e. no_untyped h.source h.frame h.known.defined name (number_seen h.numbers.scopes name) (seen_as name (Some (variable None)) e);
      formed = λ name t e. seen_formed h.source h.frame h.known.defined name t (number_seen h.numbers.scopes name) (seen_as name (Some (variable (Some t))) e);
      variables = λ name t at e. seen_denoted h name t at (number_seen h.numbers.scopes name) (seen_as name (Some (variable (Some t))) e);
      registers = λ name t r e is. seen_register h name t r (number_seen h.numbers.scopes name) (seen_as name (Some (variable (Some t))) e) is;
      results = λ name g e. seen_result h.source h.frame h.known.defined name g (number_seen h.numbers.scopes name) (seen_as name (Some (function_of g)) e);
      functions = λ name g e is other. seen_function h name g (number_seen h.numbers.scopes name) (seen_as name (Some (function_of g)) e) is other;
      pointers = λ name t k g e at got. called_through h k g i.lists i.pointer_types (seen_points h.source h.frame h.known.defined name t (number_seen h.numbers.scopes name) (seen_as name (Some (variable (Some t))) e) k g at (there k g got)) got;
      numbered = λ name g e. subst (λ l. (k : ℕ) × (type_numbered l g ≡ Some k)) (sym i.lists) (seen_number h.source h.frame h.known.defined name g (number_seen h.numbers.scopes name) (seen_as name (Some (function_of g)) e));
    }

    pub formed_there : (t : ObjectType) → IsFormed structs t → IsFormed suits.structs t
    unfolding suits
    formed_there t formed = formed
