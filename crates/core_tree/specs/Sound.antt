-- Which core trees are sound: what a tree names is there, and is of the kind at which it is used (C99 5.1.2.2.1, 6.5, 6.8.6.4;
-- POSIX.1-2017 pthread_create).
use Rattle.std.specs.Prelude.{◌≡◌, ◌≢◌, ◌⊎◌, ℕ, ◌+◌, ◌<◌, ◌≤◌, ◌^◌, Bool, true, false, List, [], ◌∷◌, length, take, count_by, Option, Some, None, slice_get}
use Rattle.rr_base.specs.Words.{pack}
use Rattle.rr_base.specs.declared.layout.CellKind.{CellKind}
use Rattle.rr_base.specs.declared.layout.CellKind.TheVariants as kind
use Rattle.rr_base.specs.declared.layout.Site.{Site}
use Rattle.word_semantics.specs.declared.library_call.LibraryCall.{LibraryCall}
use Rattle.word_semantics.specs.declared.library_call.LibraryCall.TheVariants as library_call
use Rattle.word_semantics.specs.declared.operator.BinaryOp.{BinaryOp}
use Rattle.word_semantics.specs.Pointers.{site_at, base_at}
use Rattle.word_semantics.specs.Cells.{size_of}
use Rattle.word_semantics.specs.Kinds.{is_comparison, library_kinds}
use Rattle.word_semantics.specs.Layouts.{sites_fit}
use Rattle.core_tree.specs.declared.value.UnaryOp.{UnaryOp}
use Rattle.core_tree.specs.declared.value.UnaryOp.TheVariants as unary_op
use Rattle.core_tree.specs.declared.value.Change.{Change}
use Rattle.core_tree.specs.declared.value.Change.TheVariants as change
use Rattle.core_tree.specs.Core as core
use Rattle.core_tree.specs.Core.{Exp, null, register, object, global, load, unary, binary, move, advance, member, between, to_pointer, to_number, copy, both, either, conditional, comma, set_register, store, change_register, change_cell, call, library, allocate, Exps, no_exp, and_exp, Statement, block, compute, branch, branch_else, while_loop, do_loop, for_loop, break_at, continue_at, gives, Statements, no_statement, and_statement, Arrival, arrives, Function, Pointer, Program}
use Rattle.core_tree.specs.Meaning.{is_pointer, is_pointer_change, is_main}

-- ---- kinds

-- the expression gives a pointer
abbrev pub IsPointer : Exp → Type 0
IsPointer e = is_pointer e ≡ true

-- the expression gives a whole number
abbrev pub IsWhole : Exp → Type 0
IsWhole e = is_pointer e ≡ false

-- whether each expression gives a pointer
abbrev pub value_kinds : Exps → List Bool
value_kinds no_exp = []
value_kinds (and_exp e es) = is_pointer e ∷ value_kinds es

-- `-` and `~` take whole numbers, `!` takes anything
abbrev pub SuitsUnary : UnaryOp → Exp → Type 0
SuitsUnary unary_op.Minus e = IsWhole e
SuitsUnary unary_op.Complement e = IsWhole e
SuitsUnary unary_op.Not e = Unit {0}

-- the operands are of one kind, and only comparisons take pointers
abbrev pub SuitBinary : BinaryOp → Exp → Exp → Type 0
SuitBinary o a b = (is_pointer a ≡ is_pointer b) × (IsPointer a → is_comparison o ≡ true)

-- a change is by a whole number, and an element has at least one cell
abbrev pub SuitsChange : Change → Exp → Type 0
SuitsChange (change.Compute o) e = IsWhole e
SuitsChange (change.Move element back) e = IsWhole e × (1 ≤ element)

-- ---- what the program has

-- whether each formal is a pointer
abbrev pub formal_kinds : Function → List Bool
formal_kinds f = take f.formals f.pointers

-- the function with the number is not `main`, takes values of these kinds, and gives a pointer or not
abbrev pub IsFunction : Program → ℕ → List Bool → Bool → Type 0
IsFunction p n kinds pointer = (f : Function) × (slice_get p.functions n ≡ Some f) × (is_main f ≡ false) × (formal_kinds f ≡ kinds) × (f.gives_pointer ≡ pointer)

-- the number is that of a type of pointers to functions: in front of what these take comes the pointer, a whole number
abbrev pub IsPointerType : Program → ℕ → List Bool → Bool → Type 0
IsPointerType p n kinds pointer = (k : ℕ) × (q : Pointer) × (n ≡ length p.functions + k) × (slice_get p.pointers k ≡ Some q) × (false ∷ q.kinds ≡ kinds) × (q.gives_pointer ≡ pointer)

-- what has the number takes values of these kinds, and gives a pointer or not
abbrev pub IsCallable : Program → ℕ → List Bool → Bool → Type 0
IsCallable p n kinds pointer = IsFunction p n kinds pointer ⊎ IsPointerType p n kinds pointer

-- a thread is started with a function that takes a pointer and gives one
abbrev pub Starts : Program → LibraryCall → Type 0
Starts p (library_call.Create n) = IsFunction p n (true ∷ []) true
Starts p _ = Unit {0}

-- the first site has the number 1
abbrev pub HasSite : Program → ℕ → Type 0
HasSite p s = (1 ≤ s) × (s ≤ length p.sites)

-- The pointer to a whole global object. `home` tells the first cell of each site's global object.
abbrev pub IsAddress : Program → (home : ℕ → Option ℕ) → ℕ → Type 0
IsAddress p home w = (s : ℕ) × (base : ℕ) × (home s ≡ Some base) × (w ≡ pack s base (size_of p.sites s) 0)

-- ---- expressions and statements of a function

module _ (p : Program) (home : ℕ → Option ℕ) (f : Function) where
  -- the register is there, and is a pointer or not
  abbrev pub HasRegister : ℕ → Bool → Type 0
  HasRegister n pointer = slice_get f.pointers n ≡ Some pointer

  abbrev mutual
    pub IsSoundExp : Exp → Type 0
    IsSoundExp (core.number z at) = Unit {0}
    IsSoundExp (null at) = Unit {0}
    IsSoundExp (register n pointer at) = HasRegister n pointer
    IsSoundExp (object n at) = n < length f.objects
    IsSoundExp (global address at) = IsAddress p home address
    IsSoundExp (load e pointer at) = IsPointer e × IsSoundExp e
    IsSoundExp (unary o e at) = SuitsUnary o e × IsSoundExp e
    IsSoundExp (binary o a b at) = SuitBinary o a b × IsSoundExp a × IsSoundExp b
    IsSoundExp (move a b element back at) = IsPointer a × IsWhole b × (1 ≤ element) × IsSoundExp a × IsSoundExp b
    IsSoundExp (advance a b element at) = IsWhole a × IsPointer b × (1 ≤ element) × IsSoundExp a × IsSoundExp b
    IsSoundExp (member a by at) = IsPointer a × IsSoundExp a
    IsSoundExp (between a b element at) = IsPointer a × IsPointer b × (1 ≤ element) × IsSoundExp a × IsSoundExp b
    IsSoundExp (to_pointer a at) = IsWhole a × IsSoundExp a
    IsSoundExp (to_number a at) = IsPointer a × IsSoundExp a
    IsSoundExp (copy a at) = IsSoundExp a
    IsSoundExp (both a b at) = IsSoundExp a × IsSoundExp b
    IsSoundExp (either a b at) = IsSoundExp a × IsSoundExp b
    IsSoundExp (conditional a b c at) = (is_pointer b ≡ is_pointer c) × IsSoundExp a × IsSoundExp b × IsSoundExp c
    IsSoundExp (comma a b at) = IsSoundExp a × IsSoundExp b
    IsSoundExp (set_register n a at) = HasRegister n (is_pointer a) × IsSoundExp a
    IsSoundExp (store a b at) = IsPointer a × IsSoundExp a × IsSoundExp b
    IsSoundExp (change_register n c b old at) = HasRegister n (is_pointer_change c) × SuitsChange c b × IsSoundExp b
    IsSoundExp (change_cell a loaded c b old at) = IsPointer a × SuitsChange c b × IsSoundExp a × IsSoundExp b
    IsSoundExp (call n es pointer at) = IsCallable p n (value_kinds es) pointer × AreSound es
    IsSoundExp (library c es at) = (value_kinds es ≡ library_kinds c) × Starts p c × AreSound es
    IsSoundExp (allocate site a at) = HasSite p site × IsWhole a × IsSoundExp a

    pub AreSound : Exps → Type 0
    AreSound no_exp = Unit {0}
    AreSound (and_exp e es) = IsSoundExp e × AreSound es

  abbrev pub IsSoundMaybe : Option Exp → Type 0
  IsSoundMaybe None = Unit {0}
  IsSoundMaybe (Some e) = IsSoundExp e

  -- what is returned is of the kind that the function gives
  abbrev pub IsSoundResult : Option Exp → Type 0
  IsSoundResult None = Unit {0}
  IsSoundResult (Some e) = (is_pointer e ≡ f.gives_pointer) × IsSoundExp e

  abbrev mutual
    pub IsSoundStatement : Statement → Type 0
    IsSoundStatement (block ss) = AreSoundStatements ss
    IsSoundStatement (compute e) = IsSoundExp e
    IsSoundStatement (branch e a at) = IsSoundExp e × IsSoundStatement a
    IsSoundStatement (branch_else e a b at) = IsSoundExp e × IsSoundStatement a × IsSoundStatement b
    IsSoundStatement (while_loop e a at) = IsSoundExp e × IsSoundStatement a
    IsSoundStatement (do_loop a e at) = IsSoundStatement a × IsSoundExp e
    IsSoundStatement (for_loop start test step a at) = IsSoundStatement start × IsSoundMaybe test × IsSoundMaybe step × IsSoundStatement a
    IsSoundStatement (break_at at) = Unit {0}
    IsSoundStatement (continue_at at) = Unit {0}
    IsSoundStatement (gives e at) = IsSoundResult e

    pub AreSoundStatements : Statements → Type 0
    AreSoundStatements no_statement = Unit {0}
    AreSoundStatements (and_statement a ss) = IsSoundStatement a × AreSoundStatements ss

  -- the register and the object are there
  abbrev pub IsSoundArrival : Arrival → Type 0
  IsSoundArrival (arrives n k at) = (n < length f.pointers) × (k < length f.objects)

  pub record IsSoundFunction : Type 0 where
    -- the first registers are the formals
    pub formals : f.formals ≤ length f.pointers
    pub objects : (k site : ℕ) → slice_get f.objects k ≡ Some site → HasSite p site
    pub arrivals : (k : ℕ) (a : Arrival) → slice_get f.arrivals k ≡ Some a → IsSoundArrival a
    pub body : IsSoundStatement f.body

-- ---- programs

-- an object of the site lies within the global cells from `base` on, and these are of the kinds that its layout tells
pub record LiesAt (p : Program) (site : Site) (base : ℕ) : Type 0 where
  pub within : base + site.layout.size ≤ length p.globals
  pub kinds : (k : ℕ) (cell : CellKind) → slice_get site.layout.kinds k ≡ Some cell → slice_get p.global_kinds (base + k) ≡ Some cell

-- where the global objects lie
pub record AreAtHome (p : Program) (home : ℕ → Option ℕ) : Type 0 where
  pub there : (s base : ℕ) → home s ≡ Some base → (site : Site) × (site_at p.sites s ≡ Some site) × LiesAt p site base
  -- no two have a cell in common
  pub apart : (s t base base' : ℕ) → home s ≡ Some base → home t ≡ Some base' → s ≢ t → (base + size_of p.sites s ≤ base') ⊎ (base' + size_of p.sites t ≤ base)
  -- a pointer cell starts as null or as the pointer to a global object
  pub words : (k w : ℕ) → slice_get p.global_kinds k ≡ Some kind.Pointer → slice_get p.globals k ≡ Some w → (w ≡ 0) ⊎ IsAddress p home w

-- `main` is there once, each function is sound, and the global cells fit
pub record IsSound (p : Program) : Type 0 where
  pub homes : AreAtHome p (base_at p.global_bases)
  pub functions : (k : ℕ) (f : Function) → slice_get p.functions k ≡ Some f → IsSoundFunction p (base_at p.global_bases) f
  -- one function is `main`, and it has no formals
  pub one_main : count_by is_main p.functions ≡ 1
  pub main_alone : (k : ℕ) (f : Function) → slice_get p.functions k ≡ Some f → is_main f ≡ true → f.formals ≡ 0
  -- a pointer points to functions of its type
  pub targets : (k : ℕ) (q : Pointer) → slice_get p.pointers k ≡ Some q → (i n : ℕ) → slice_get q.targets i ≡ Some n → IsFunction p n q.kinds q.gives_pointer
  -- each global cell has a kind
  pub cell_kinds : length p.global_kinds ≡ length p.globals
  -- each site is told whether its object is a global's
  pub bases : length p.global_bases ≡ length p.sites
  -- each site has a layout
  pub layouts : sites_fit p.sites ≡ true
  -- the limits
  pub few_functions : length p.functions + length p.pointers ≤ 2 ^ 20
  pub few_sites : length p.sites ≤ 1023
  pub few_cells : length p.globals ≤ 2 ^ 20
