-- What stands for a call, and for its arguments.
use Rattle.std.proofs.Common.{◌≡◌, ℕ, zero, suc, ◌+◌, ◌==◌, Bool, true, false, not, if◌then◌else◌, List, [], ◌∷◌, ◌++◌, length, replicate, Option, Some, None, is_some, inl, inr, refl, sym, ap, ◌∙◌, subst, arith}
use Rattle.std.proofs.lemmas.Bool.{and_from, eqb-true}
use Rattle.rr_base.specs.Texts.{Text}
use Rattle.c_tree.specs.Tree.{Exp, text, Exps, no_exp, and_exp}
use Rattle.rr_base.specs.declared.position.Position.{Position}
use Rattle.c_types.specs.declared.types.BaseType.{BaseType}
use Rattle.c_types.specs.declared.types.BaseType.TheVariants as base
use Rattle.c_types.specs.declared.types.Layer.{Layer}
use Rattle.c_types.specs.declared.types.Layer.TheVariants as layer
use Rattle.c_types.specs.declared.library.StarredType.{StarredType}
use Rattle.c_types.specs.declared.library.Wanted.{Wanted}
use Rattle.c_types.specs.declared.library.Wanted.TheVariants as wants
use Rattle.c_types.specs.declared.library.LibraryName.{LibraryName}
use Rattle.c_types.specs.declared.library.LibraryName.TheVariants as library
use Rattle.c_types.specs.declared.names.Signature.{Signature}
use Rattle.c_types.specs.declared.fault.FaultKind.TheVariants as fault
use Rattle.c_types.specs.declared.fault.Found.{Found}
use Rattle.c_types.specs.declared.types.ObjectType.{ObjectType}
use Rattle.c_types.specs.Constants.{constant_named}
use Rattle.c_types.specs.Types.{bare}
use Rattle.c_types.specs.Format.{conversions}
use Rattle.c_types.specs.Library.{starred_type, an_int, wanted_by, given_by, library_named}
use Rattle.c_types.specs.Scopes.{Meaning, variable, function_of, seen, has_name, function_numbered}
use Rattle.c_types.specs.Operands.{Standing, no_type, a_value, a_place, operand_of, layered_operand, layered_value, type_value, accepts}
use Rattle.c_types.specs.Standing.{Target, no_target, some_target, target_of, malloc_standing, standing, is_main, can_be_used, Callee, callee, callee_wants, call_standing, given_type, format_of, some_library_callee, library_callee, function_callee, layered_function, type_function, signature_by, pointed_signature, pointer_callee, callee_of, is_root, is_text, fit_wanted}
use Rattle.c_types.specs.Found.{where_it_comes}
use Rattle.c_rules.specs.Faults.{first_place, count_of, count_faults, begins_with_text, some_library_wants, library_wants, pointer_wants, pointer_call_faults, wants_of, has_no_target, library_call_faults, unseen_call_faults, callee_faults, format_faults, root_faults, argument_faults, is_judged, where_judged, one_argument_faults, faults, arguments_faults}
use Rattle.core_tree.specs.Core as core
use Rattle.core_tree.specs.Core.{Function, Program}
use Rattle.core_tree.specs.Meaning.{is_pointer}
use Rattle.c_operators.specs.declared.denoted.WordKind.{WordKind}
use Rattle.c_operators.specs.Denoted.{Denoted, denoted_value, part_by, value_by, wanted_in}
use Rattle.c_operators.specs.Context.{Context, site_at, home_of, function_counted, pointer_counted}
use Rattle.c_operators.specs.Operators.{is_some_address}
use Rattle.c_values.specs.Calls.{pointed_gives, pointer_called, is_pointer_wanted, kind_wanted, library_of, first_of, library_called, gives_pointer}
use Rattle.c_values.specs.Expressions.{variable_denoted, held_word, called, denoted, arguments}
use Rattle.core_tree.specs.Sound.{HasSite, IsCallable, IsSoundExp, AreSound, value_kinds}
use Rattle.source_sound.proofs.Environment.{DenotedFits, IsFormedGiven, IsFormedResult, IsFormedTarget, AreFitting, wanted_kinds, Suits}
use Rattle.source_sound.proofs.Apart.{not_nothing, append_nil, append_nil₃, comes_not, keeps, never}
use Rattle.source_sound.proofs.Standings.{formed_or_void, address_layers, Stands}
use Rattle.source_sound.proofs.Choices.{where_true}
use Rattle.source_sound.proofs.FunctionWords.{any_sound, stands_all, value_fits}
use Rattle.source_sound.proofs.Calls.{wanted_pointer, AreWanted, printf_wanted, library_wanted, printf_kinds, IsPlain, plain_kinds, library_starts, first_whole, first_sound, fitting_word}

fitting_wanted : (p : Program) (home : ℕ → Option ℕ) (f : Function) (ws : List Wanted) → AreFitting p home f ws → AreWanted ws
fitting_wanted p home f [] h = tt
fitting_wanted p home f (wants.Fits t ∷ ws) h = fitting_wanted p home f ws h
fitting_wanted p home f (wants.Anything ∷ ws) h = absurd h
fitting_wanted p home f (wants.Attribute ∷ ws) h = absurd h
fitting_wanted p home f (wants.Root ∷ ws) h = absurd h
fitting_wanted p home f (wants.Text ∷ ws) h = absurd h

length_numbers : (n : ℕ) → length (replicate n an_int) ≡ n
length_numbers zero = refl
length_numbers (suc n) = ap suc (length_numbers n)

-- the count of arguments has no fault
counted : (many count : ℕ) (at : Position) → count_faults many count at ≡ [] → many ≡ count
counted many count at h = eqb-true many count (keeps (many == count) fault.BadCall at h)

found_either : {A : Type 0} (b : Bool) (x y : Found) → (if b then x ∷ [] else y ∷ []) ≡ [] → A
found_either true x y h = not_nothing x [] h
found_either false x y h = not_nothing y [] h

-- a pointer to functions is no pointer to objects
function_address : (ls : List Layer) (b : BaseType) (k : ℕ) → layered_function ls b ≡ Some k → is_some_address (layered_operand ls b) ≡ false
function_address [] base.Int k e = refl
function_address [] base.Void k e = refl
function_address [] (base.Struct j) k e = refl
function_address [] (base.Function j) k e = refl
function_address [] base.Mutex k e = refl
function_address [] base.Cond k e = refl
function_address [] base.Barrier k e = refl
function_address [] base.RwLock k e = refl
function_address (l ∷ ls) b k e = cc

none_not_some : {A : Type 0} (g : Signature) → None ≡ Some g → A
none_not_some g e = let no : ⊥ = cc in absurd no

module _ (p : Program) (home : ℕ → Option ℕ) (f : Function) (h : Context) (suits : Suits p home f h) where
  abbrev stands : Standing → Denoted → Type 0
  stands = Stands p home f suits.structs

  -- the arguments of a call are there, of the kinds that are wanted, and fit
  pub record AllFit (ws : List Wanted) (es : Exps) : Type 0 where
    pub sound : AreSound p home f (core.listed (arguments h ws es))
    pub kinds : value_kinds (core.listed (arguments h ws es)) ≡ wanted_kinds p home f ws
    pub fit : fit_wanted h.known ws es ≡ true

  pub no_arguments : AllFit [] no_exp
  no_arguments = record { sound = tt; kinds = refl; fit = refl }

  -- ---- one more argument

  fitting_argument : (t : StarredType) (e : Exp) (ws : List Wanted) (es : Exps) → stands (standing h.known no_target e) (denoted h no_target e) → accepts (starred_type t) (operand_of (standing h.known no_target e)) ≡ true → AllFit ws es → AllFit (wants.Fits t ∷ ws) (and_exp e es)
  fitting_argument t e ws es s a all =
      let s' = standing h.known no_target e in
      let x = denoted h no_target e in
      let words : WordKind → core.Exp = λ k. wanted_in k (part_by s' x) in
      let g = stands_all p home f suits.structs (part_by s' x) s in
      let word = fitting_word p home f suits.structs t (operand_of s') words g a in
      record {
        sound = (any_sound p home f suits.structs (kind_wanted t) (operand_of s') words g, all.sound);
        kinds = ap (λ k. k ∷ value_kinds (core.listed (arguments h ws es))) word ∙ ap (λ ks. is_pointer_wanted t ∷ ks) all.kinds;
        fit = and_from _ _ (and_from _ _ a g.objects.typed) all.fit;
      }

  pub argument_fits : (x : Wanted) (e : Exp) (ws : List Wanted) (es : Exps) (at : Position) → AreWanted (x ∷ ws) → one_argument_faults h.known x at e (faults h.known no_target e) ≡ [] →
      (faults h.known no_target e ≡ [] → stands (standing h.known no_target e) (denoted h no_target e)) → AllFit ws es → AllFit (x ∷ ws) (and_exp e es)
  argument_fits (wants.Fits t) e ws es at w none own all =
      let apart = append_nil (faults h.known no_target e) _ none in
      fitting_argument t e ws es (own apart.0) (keeps _ fault.TypeMismatch at apart.1) all
  argument_fits wants.Anything e ws es at w none own all = absurd w
  argument_fits wants.Attribute e ws es at w none own all =
      let apart = append_nil (faults h.known no_target e) _ none in
      record { sound = all.sound; kinds = all.kinds; fit = and_from _ _ (keeps _ fault.OutOfProfile (first_place e) apart.1) all.fit }
  argument_fits wants.Root e ws es at w none own all =
      let apart = append_nil (where_judged (is_judged wants.Root e) (faults h.known no_target e)) (argument_faults h.known wants.Root e (standing h.known no_target e) at) none in
      let more = append_nil (where_it_comes (not (is_root h.known e)) fault.BadRoot (first_place e)) (root_faults h.known e) apart.1 in
      record { sound = all.sound; kinds = all.kinds; fit = and_from _ _ (keeps (is_root h.known e) fault.BadRoot (first_place e) more.0) all.fit }
  argument_fits wants.Text e ws es at w none own all =
      let apart = append_nil (where_judged (is_judged wants.Text e) (faults h.known no_target e)) (argument_faults h.known wants.Text e (standing h.known no_target e) at) none in
      record { sound = all.sound; kinds = all.kinds; fit = and_from _ _ (keeps (is_text e) fault.OutOfProfile (first_place e) apart.1) all.fit }

  -- ---- what a call gives

  given_layers : (ls : List Layer) (b : BaseType) (e : core.Exp) → IsFormedGiven suits.structs ls b → is_pointer e ≡ is_some_address (layered_operand ls b) → IsSoundExp p home f e → stands (layered_value ls b) (denoted_value e)
  given_layers [] b e g k s = (g, k, s)
  given_layers (layer.Pointer ∷ ls) b e g k s = (g, k, s)
  given_layers (layer.Array n ∷ ls) b e g k s = absurd g

  given_stands : (r : Option StarredType) (n : ℕ) (es : core.Exps) (at : Position) → IsFormedResult suits.structs r → IsSoundExp p home f (core.call n es (gives_pointer r) at) → stands (given_type r) (denoted_value (core.call n es (gives_pointer r) at))
  given_stands None n es at g s = absurd g
  given_stands (Some t) n es at g s =
      let u = starred_type t in
      given_layers u.layers u.base (core.call n es (gives_pointer (Some t)) at) g (sym (wanted_pointer t) ∙ address_layers u.layers u.base) s

  -- where the arguments fit
  fit_stands : (c : Callee) (ws : List Wanted) (s : Standing) (es : Exps) (x : Denoted) → c ≡ callee ws s → fit_wanted h.known ws es ≡ true → stands s x → stands (call_standing c (fit_wanted h.known (callee_wants c) es)) x
  fit_stands c ws s es x e fit k =
      subst (λ z. stands (call_standing z (fit_wanted h.known (callee_wants z) es)) x) (sym e) (where_true p home f suits.structs (fit_wanted h.known ws es) s no_type x fit k)

  abbrev All : Position → Exps → Type 0
  All at es = (ws : List Wanted) → arguments_faults h.known ws at es ≡ [] → count_of es ≡ length ws → AreWanted ws → AllFit ws es

  -- ---- a function of the source

  function_stands : (w : Target) (name : Text) (g : Signature) (es : Exps) (at : Position) (o : Position) → seen h.known name ≡ Some (function_of g) →
      callee_faults h.known name w (begins_with_text es) (format_of es) (count_of es) at (Some (function_of g)) ≡ [] → arguments_faults h.known g.params at es ≡ [] → All at es →
      stands (call_standing (callee_of h.known w name (format_of es) (Some (function_of g))) (fit_wanted h.known (callee_wants (callee_of h.known w name (format_of es) (Some (function_of g)))) es))
      (denoted_value (core.call (function_counted (function_numbered h.known name)) (core.listed (arguments h g.params es)) (gives_pointer g.result) o))
  function_stands w name g es at o e none none' all =
      let apart = append_nil₃ (where_it_comes (is_main name) fault.BadCall at) (where_it_comes (not (has_name h.known.defined name)) fault.UnknownName at) (count_faults (count_of es) (length g.params) at) none in
      let no_main = comes_not (is_main name) fault.BadCall at apart.0 in
      let has = keeps (has_name h.known.defined name) fault.UnknownName at apart.1 in
      let there = suits.functions name g e has no_main in
      let fits = all g.params none' (counted (count_of es) (length g.params) at apart.2) (fitting_wanted p home f g.params there.params) in
      fit_stands (function_callee (can_be_used h.known name) g) g.params (given_type g.result) es _
      (ap (λ z. function_callee z g) (and_from _ _ (ap not no_main) has)) fits.fit
      (given_stands g.result (function_counted (function_numbered h.known name)) (core.listed (arguments h g.params es)) o (suits.results name g e)
      (subst (λ ks. IsCallable p (function_counted (function_numbered h.known name)) ks (gives_pointer g.result)) (sym fits.kinds) (inl there.callable), fits.sound))

  -- ---- through a pointer

  -- the word that the variable holds, which is a whole number
  held_is : (t : ObjectType) (k : ℕ) (x : Denoted) → type_function t ≡ Some k → DenotedFits p home f (a_place t) x → (is_pointer (value_by (a_place t) x) ≡ false) × IsSoundExp p home f (value_by (a_place t) x)
  held_is t k x e fits = let w = value_fits p home f suits.structs (a_place t) x fits in (w.0 ∙ function_address t.layers t.base k e, w.1)

  pointer_by_number : (t : ObjectType) (name : Text) (k : Option ℕ) (es : Exps) (at : Position) (o : Position) → type_function t ≡ k → seen h.known name ≡ Some (variable (Some t)) →
      (g : Option Signature) → signature_by h.known k ≡ g → pointer_call_faults g (count_of es) at ≡ [] → arguments_faults h.known (pointer_wants g) at es ≡ [] → All at es →
      stands (call_standing (pointer_callee g) (fit_wanted h.known (callee_wants (pointer_callee g)) es))
      (denoted_value (pointer_called h.known k (held_word h name (Some t) o) (arguments h (pointer_wants g) es) o))
  pointer_by_number t name None es at o e seen' g is none none' all = no_signature g is none
    where
      no_signature : {A : Type 0} (g : Option Signature) → None ≡ g → pointer_call_faults g (count_of es) at ≡ [] → A
      no_signature None is none = not_nothing _ [] none
      no_signature (Some g) is none = none_not_some _ is
  pointer_by_number t name (Some k) es at o e seen' None is none none' all = not_nothing _ [] none
  pointer_by_number t name (Some k) es at o e seen' (Some g) is none none' all =
      let there = suits.pointers name t k g seen' e is in
      let fits = all g.params none' (counted (count_of es) (length g.params) at none) (fitting_wanted p home f g.params there.params) in
      let held = held_is t k (variable_denoted h name (home_of h name) o) e (suits.variables name t o seen') in
      fit_stands (callee g.params (given_type g.result)) g.params (given_type g.result) es _ refl fits.fit
      (subst (λ b. stands (given_type g.result) (denoted_value (core.call (pointer_counted h.known k) (core.listed (held_word h name (Some t) o ∷ arguments h g.params es)) b o))) (sym (ap pointed_gives is))
      (given_stands g.result (pointer_counted h.known k) (core.listed (held_word h name (Some t) o ∷ arguments h g.params es)) o there.result
      (subst (λ ks. IsCallable p (pointer_counted h.known k) ks (gives_pointer g.result)) (sym (ap (λ q. q ∷ value_kinds (core.listed (arguments h g.params es))) held.0 ∙ ap (λ ks. false ∷ ks) fits.kinds)) (inr there.callable), (held.1, fits.sound))))

  pointer_stands : (t : ObjectType) (name : Text) (es : Exps) (at : Position) (o : Position) → seen h.known name ≡ Some (variable (Some t)) → pointer_call_faults (pointed_signature h.known (Some t)) (count_of es) at ≡ [] →
      arguments_faults h.known (pointer_wants (pointed_signature h.known (Some t))) at es ≡ [] → All at es →
      stands (call_standing (pointer_callee (pointed_signature h.known (Some t))) (fit_wanted h.known (callee_wants (pointer_callee (pointed_signature h.known (Some t)))) es))
      (denoted_value (pointer_called h.known (type_function t) (held_word h name (Some t) o) (arguments h (pointer_wants (pointed_signature h.known (Some t))) es) o))
  pointer_stands t name es at o seen' none none' all = pointer_by_number t name (type_function t) es at o refl seen' (pointed_signature h.known (Some t)) refl none none' all

  -- ---- the library

  plain_given : (c : LibraryName) → IsPlain p home f c → IsFormedGiven suits.structs [] (given_by c) × (false ≡ is_some_address (layered_operand [] (given_by c)))
  plain_given library.Create x = (tt, refl)
  plain_given library.Join x = (tt, refl)
  plain_given library.Exit x = (tt, refl)
  plain_given library.Malloc x = absurd x
  plain_given library.Free x = (tt, refl)
  plain_given library.PrintFormat x = absurd x
  plain_given _ x = (tt, refl)

  plain_stands : (c : LibraryName) (es : Exps) (at : Position) (o : Position) → IsPlain p home f c → count_faults (count_of es) (length (wanted_by c)) at ≡ [] → arguments_faults h.known (wanted_by c) at es ≡ [] → All at es →
      stands (call_standing (callee (wanted_by c) (type_value (bare (given_by c)))) (fit_wanted h.known (wanted_by c) es)) (denoted_value (core.library (library_of h.known c es) (core.listed (arguments h (wanted_by c) es)) o))
  plain_stands c es at o x none none' all =
      let fits = all (wanted_by c) none' (counted (count_of es) (length (wanted_by c)) at none) (library_wanted c) in
      let given = plain_given c x in
      where_true p home f suits.structs (fit_wanted h.known (wanted_by c) es) (type_value (bare (given_by c))) no_type _ fits.fit
      (given.0, given.1, (fits.kinds ∙ plain_kinds p home f h.known c es x, library_starts p home f h suits c es x fits.fit, fits.sound))

  malloc_stands : (w : Target) (es : Exps) (at : Position) (site : ℕ) (o : Position) → IsFormedTarget suits.structs w → HasSite p site →
      where_it_comes (has_no_target w) fault.OutOfProfile at ++ count_faults (count_of es) 1 at ≡ [] → arguments_faults h.known (wanted_by library.Malloc) at es ≡ [] → All at es →
      stands (call_standing (callee (wanted_by library.Malloc) (malloc_standing w)) (fit_wanted h.known (wanted_by library.Malloc) es)) (denoted_value (core.allocate site (first_of (arguments h (wanted_by library.Malloc) es) o) o))
  malloc_stands no_target es at site o formed has none none' all = not_nothing _ [] (append_nil (where_it_comes true fault.OutOfProfile at) (count_faults (count_of es) 1 at) none).0
  malloc_stands some_target es at site o formed has none none' all = absurd formed
  malloc_stands (target_of t) es at site o formed has none none' all =
      let ws = wanted_by library.Malloc in
      let fits = all ws none' (counted (count_of es) 1 at none) (library_wanted library.Malloc) in
      where_true p home f suits.structs (fit_wanted h.known ws es) (malloc_standing (target_of t)) no_type _ fits.fit
      (formed_or_void suits.structs t.layers t.base formed, refl, (has, first_whole p home f (arguments h ws es) o fits.kinds, first_sound p home f (arguments h ws es) o fits.sound))

  -- `printf` begins with its format
  format_stands : (w : Target) (bytes : Text) (here : Position) (es : Exps) (at here' : Position) (o : Position) (site : ℕ) (n : Option ℕ) → conversions bytes ≡ n →
      library_call_faults library.PrintFormat w true n (suc (count_of es)) at ≡ [] → format_faults true (Some library.PrintFormat) None n here' ≡ [] →
      arguments_faults h.known (some_library_wants library.PrintFormat n) at (and_exp (text bytes here) es) ≡ [] → All at (and_exp (text bytes here) es) →
      stands (call_standing (some_library_callee library.PrintFormat w n) (fit_wanted h.known (callee_wants (some_library_callee library.PrintFormat w n)) (and_exp (text bytes here) es)))
      (denoted_value (library_called h.known site (Some library.PrintFormat) (and_exp (text bytes here) es) (arguments h (some_library_wants library.PrintFormat n) (and_exp (text bytes here) es)) o))
  format_stands w bytes here es at here' o site None e none none' none'' all = not_nothing _ [] none'
  format_stands w bytes here es at here' o site (Some n) e none none' none'' all =
      let ws = wants.Text ∷ replicate n an_int in
      let whole_list = and_exp (text bytes here) es in
      let many : suc (count_of es) ≡ length ws = counted (suc (count_of es)) (n + 1) at none ∙ omega (arith, length_numbers n) in
      let fits = all ws none'' many (printf_wanted n) in
      where_true p home f suits.structs (fit_wanted h.known ws whole_list) (a_value (bare base.Int)) no_type _ fits.fit
      (tt, refl, (fits.kinds ∙ printf_kinds p home f h.known bytes here es n e, tt, fits.sound))

  abbrev PrintStands : Target → Exps → Position → Position → Position → ℕ → Type 0
  PrintStands w es at here' o site = library_call_faults library.PrintFormat w (begins_with_text es) (format_of es) (count_of es) at ≡ [] → format_faults (begins_with_text es) (Some library.PrintFormat) None (format_of es) here' ≡ [] →
      arguments_faults h.known (some_library_wants library.PrintFormat (format_of es)) at es ≡ [] → All at es →
      stands (call_standing (some_library_callee library.PrintFormat w (format_of es)) (fit_wanted h.known (callee_wants (some_library_callee library.PrintFormat w (format_of es))) es))
      (denoted_value (library_called h.known site (Some library.PrintFormat) es (arguments h (some_library_wants library.PrintFormat (format_of es)) es) o))

  not_text : {A : Type 0} (e : Exp) (own rest : List Found) (at : Position) → is_text e ≡ false → (where_judged (not (is_text e)) own ++ where_it_comes (not (is_text e)) fault.OutOfProfile (first_place e)) ++ rest ≡ [] → A
  not_text e own rest at isn h =
      let one = append_nil (where_judged (not (is_text e)) own ++ where_it_comes (not (is_text e)) fault.OutOfProfile (first_place e)) rest h in
      let two = append_nil (where_judged (not (is_text e)) own) (where_it_comes (not (is_text e)) fault.OutOfProfile (first_place e)) one.0 in
      never (sym isn ∙ keeps (is_text e) fault.OutOfProfile (first_place e) two.1)

  print_stands : (w : Target) (es : Exps) (at here' : Position) (o : Position) (site : ℕ) → PrintStands w es at here' o site
  print_stands w no_exp at here' o site none none' none'' all = not_nothing _ [] none
  print_stands w (and_exp (text bytes here) es) at here' o site none none' none'' all = format_stands w bytes here es at here' o site (conversions bytes) refl none none' none'' all
  print_stands w (and_exp e es) at here' o site none none' none'' all = not_text e (faults h.known no_target e) (arguments_faults h.known [] at es) at refl none''

  some_stands : (w : Target) (c : LibraryName) (es : Exps) (at here' : Position) (o : Position) (site : ℕ) → IsFormedTarget suits.structs w → (c ≡ library.Malloc → HasSite p site) →
      library_call_faults c w (begins_with_text es) (format_of es) (count_of es) at ≡ [] → format_faults (begins_with_text es) (Some c) None (format_of es) here' ≡ [] →
      arguments_faults h.known (some_library_wants c (format_of es)) at es ≡ [] → All at es →
      stands (call_standing (some_library_callee c w (format_of es)) (fit_wanted h.known (callee_wants (some_library_callee c w (format_of es))) es))
      (denoted_value (library_called h.known site (Some c) es (arguments h (some_library_wants c (format_of es)) es) o))
  some_stands w library.Malloc es at here' o site formed has none none' none'' all = malloc_stands w es at site o formed (has refl) none none'' all
  some_stands w library.PrintFormat es at here' o site formed has none none' none'' all = print_stands w es at here' o site none none' none'' all
  some_stands w library.Create es at here' o site formed has none none' none'' all = plain_stands library.Create es at o tt none none'' all
  some_stands w library.Join es at here' o site formed has none none' none'' all = plain_stands library.Join es at o tt none none'' all
  some_stands w library.Exit es at here' o site formed has none none' none'' all = plain_stands library.Exit es at o tt none none'' all
  some_stands w library.SelfNumber es at here' o site formed has none none' none'' all = plain_stands library.SelfNumber es at o tt none none'' all
  some_stands w library.SameThread es at here' o site formed has none none' none'' all = plain_stands library.SameThread es at o tt none none'' all
  some_stands w library.MutexInit es at here' o site formed has none none' none'' all = plain_stands library.MutexInit es at o tt none none'' all
  some_stands w library.MutexLock es at here' o site formed has none none' none'' all = plain_stands library.MutexLock es at o tt none none'' all
  some_stands w library.MutexUnlock es at here' o site formed has none none' none'' all = plain_stands library.MutexUnlock es at o tt none none'' all
  some_stands w library.MutexTryLock es at here' o site formed has none none' none'' all = plain_stands library.MutexTryLock es at o tt none none'' all
  some_stands w library.MutexDestroy es at here' o site formed has none none' none'' all = plain_stands library.MutexDestroy es at o tt none none'' all
  some_stands w library.CondInit es at here' o site formed has none none' none'' all = plain_stands library.CondInit es at o tt none none'' all
  some_stands w library.CondWait es at here' o site formed has none none' none'' all = plain_stands library.CondWait es at o tt none none'' all
  some_stands w library.CondSignal es at here' o site formed has none none' none'' all = plain_stands library.CondSignal es at o tt none none'' all
  some_stands w library.CondBroadcast es at here' o site formed has none none' none'' all = plain_stands library.CondBroadcast es at o tt none none'' all
  some_stands w library.CondDestroy es at here' o site formed has none none' none'' all = plain_stands library.CondDestroy es at o tt none none'' all
  some_stands w library.BarrierInit es at here' o site formed has none none' none'' all = plain_stands library.BarrierInit es at o tt none none'' all
  some_stands w library.BarrierWait es at here' o site formed has none none' none'' all = plain_stands library.BarrierWait es at o tt none none'' all
  some_stands w library.BarrierDestroy es at here' o site formed has none none' none'' all = plain_stands library.BarrierDestroy es at o tt none none'' all
  some_stands w library.RwInit es at here' o site formed has none none' none'' all = plain_stands library.RwInit es at o tt none none'' all
  some_stands w library.RwRdLock es at here' o site formed has none none' none'' all = plain_stands library.RwRdLock es at o tt none none'' all
  some_stands w library.RwWrLock es at here' o site formed has none none' none'' all = plain_stands library.RwWrLock es at o tt none none'' all
  some_stands w library.RwUnlock es at here' o site formed has none none' none'' all = plain_stands library.RwUnlock es at o tt none none'' all
  some_stands w library.RwDestroy es at here' o site formed has none none' none'' all = plain_stands library.RwDestroy es at o tt none none'' all
  some_stands w library.Free es at here' o site formed has none none' none'' all = plain_stands library.Free es at o tt none none'' all
  some_stands w library.GetChar es at here' o site formed has none none' none'' all = plain_stands library.GetChar es at o tt none none'' all
  some_stands w library.PutChar es at here' o site formed has none none' none'' all = plain_stands library.PutChar es at o tt none none'' all
  some_stands w library.PutText es at here' o site formed has none none' none'' all = plain_stands library.PutText es at o tt none none'' all

  library_stands : (w : Target) (name : Text) (c : Option LibraryName) (es : Exps) (at here' : Position) (o : Position) (site : ℕ) → IsFormedTarget suits.structs w → (c ≡ Some library.Malloc → HasSite p site) →
      unseen_call_faults c name w (begins_with_text es) (format_of es) (count_of es) at ≡ [] → format_faults (begins_with_text es) c None (format_of es) here' ≡ [] →
      arguments_faults h.known (library_wants c (format_of es)) at es ≡ [] → All at es →
      stands (call_standing (library_callee c w (format_of es)) (fit_wanted h.known (callee_wants (library_callee c w (format_of es))) es))
      (denoted_value (library_called h.known site c es (arguments h (library_wants c (format_of es)) es) o))
  library_stands w name None es at here' o site formed has none none' none'' all = found_either (is_some (constant_named name)) _ _ none
  library_stands w name (Some c) es at here' o site formed has none none' none'' all = some_stands w c es at here' o site formed (λ e. has (ap Some e)) none none' none'' all

  -- ---- any call

  pub called_stands : (w : Target) (name : Text) (m : Option Meaning) (es : Exps) (at here' : Position) (o : Position) → seen h.known name ≡ m → IsFormedTarget suits.structs w →
      (m ≡ None → library_named name ≡ Some library.Malloc → HasSite p (site_at h.source.sites o)) →
      callee_faults h.known name w (begins_with_text es) (format_of es) (count_of es) at m ≡ [] → format_faults (begins_with_text es) (library_named name) m (format_of es) here' ≡ [] →
      arguments_faults h.known (wants_of h.known name (format_of es) m) at es ≡ [] → All at es →
      stands (call_standing (callee_of h.known w name (format_of es) m) (fit_wanted h.known (callee_wants (callee_of h.known w name (format_of es) m)) es))
      (denoted_value (called h name m es (arguments h (wants_of h.known name (format_of es) m) es) o))
  called_stands w name None es at here' o e formed has none none' none'' all = library_stands w name (library_named name) es at here' o (site_at h.source.sites o) formed (has refl) none none' none'' all
  called_stands w name (Some (variable None)) es at here' o e formed has none none' none'' all = not_nothing _ [] none
  called_stands w name (Some (variable (Some t))) es at here' o e formed has none none' none'' all = pointer_stands t name es at o e none none'' all
  called_stands w name (Some (function_of g)) es at here' o e formed has none none' none'' all = function_stands w name g es at o e none none'' all
