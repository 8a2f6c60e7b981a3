-- The core tree as plain data. The types of the crate show as these: a list of trees of the same kind is data of its own.
use Rattle.std.specs.Prelude.{ℕ, ℤ, Bool, List, [], ◌∷◌, Option}
use Rattle.rr_base.specs.Texts.{Text}
use Rattle.rr_base.specs.declared.layout.CellKind.{CellKind}
use Rattle.rr_base.specs.declared.layout.Site.{Site}
use Rattle.word_semantics.specs.declared.library_call.LibraryCall.{LibraryCall}
use Rattle.word_semantics.specs.declared.operator.BinaryOp.{BinaryOp}
use Rattle.rr_base.specs.declared.position.Position.{Position}
use Rattle.core_tree.specs.declared.value.UnaryOp.{UnaryOp}
use Rattle.core_tree.specs.declared.value.Change.{Change}

mutual
  -- expressions, with their place last
  pub data Exp : Type 0 where
    number : ℤ → Position → Exp
    null : Position → Exp
    -- a register, and whether it is a pointer
    register : ℕ → Bool → Position → Exp
    -- the addresses of an object of the function, and of a global
    object : ℕ → Position → Exp
    global : ℕ → Position → Exp
    -- whether what is loaded is a pointer
    load : Exp → Bool → Position → Exp
    unary : UnaryOp → Exp → Position → Exp
    binary : BinaryOp → Exp → Exp → Position → Exp
    -- the pointer, the number, how many cells an element has, and whether it goes back
    move : Exp → Exp → ℕ → Bool → Position → Exp
    -- the number, the pointer
    advance : Exp → Exp → ℕ → Position → Exp
    member : Exp → ℕ → Position → Exp
    between : Exp → Exp → ℕ → Position → Exp
    to_pointer : Exp → Position → Exp
    to_number : Exp → Position → Exp
    -- the operand's word again
    copy : Exp → Position → Exp
    both : Exp → Exp → Position → Exp
    either : Exp → Exp → Position → Exp
    conditional : Exp → Exp → Exp → Position → Exp
    comma : Exp → Exp → Position → Exp
    set_register : ℕ → Exp → Position → Exp
    store : Exp → Exp → Position → Exp
    -- and whether the expression gives the word before
    change_register : ℕ → Change → Exp → Bool → Position → Exp
    -- the place at which the word is loaded comes second
    change_cell : Exp → Position → Change → Exp → Bool → Position → Exp
    -- and whether the result is a pointer
    call : ℕ → Exps → Bool → Position → Exp
    library : LibraryCall → Exps → Position → Exp
    -- the site, the size in cells
    allocate : ℕ → Exp → Position → Exp

  pub data Exps : Type 0 where
    no_exp : Exps
    and_exp : Exp → Exps → Exps

mutual
  pub data Statement : Type 0 where
    block : Statements → Statement
    compute : Exp → Statement
    -- an `if` without `else`, and one with it
    branch : Exp → Statement → Position → Statement
    branch_else : Exp → Statement → Statement → Position → Statement
    while_loop : Exp → Statement → Position → Statement
    do_loop : Statement → Exp → Position → Statement
    for_loop : Statement → Option Exp → Option Exp → Statement → Position → Statement
    break_at : Position → Statement
    continue_at : Position → Statement
    gives : Option Exp → Position → Statement

  pub data Statements : Type 0 where
    no_statement : Statements
    and_statement : Statement → Statements → Statements

-- a formal that is kept in cells: the register of its argument, its object, the place of its name
pub data Arrival : Type 0 where
  arrives : (register object : ℕ) → Position → Arrival

-- a C function as a tree, with its formals and locals as registers and objects
pub record Function : Type 0 where
  pub name : Text
  pub place : Position
  pub formals : ℕ
  -- whether each register is a pointer; the first are the formals
  pub pointers : List Bool
  -- the site of each object
  pub objects : List ℕ
  pub arrivals : List Arrival
  pub gives_pointer : Bool
  pub body : Statement

-- a type of pointers to functions
pub record Pointer : Type 0 where
  -- whether each formal is a pointer
  pub kinds : List Bool
  pub gives_pointer : Bool
  -- of the name in the first declaration of such a pointer
  pub place : Position
  -- the functions of this type whose names stand as values somewhere
  pub targets : List ℕ

-- a whole source as core trees, and its global cells as numbers
pub record Program : Type 0 where
  pub functions : List Function
  -- a call through a pointer has the number of its type, counted on from the functions, and the pointer as its first argument
  pub pointers : List Pointer
  pub sites : List Site
  -- the start words and the kinds of the global cells
  pub globals : List ℕ
  pub global_kinds : List CellKind
  -- the first global cell of each site's object
  pub global_bases : List (Option ℕ)

-- ---- lists of trees

-- as the operands of a call, in the same order
abbrev pub listed : List Exp → Exps
listed [] = no_exp
listed (e ∷ es) = and_exp e (listed es)

-- as the contents of a block, in the same order
abbrev pub listed_statements : List Statement → Statements
listed_statements [] = no_statement
listed_statements (s ∷ ss) = and_statement s (listed_statements ss)
