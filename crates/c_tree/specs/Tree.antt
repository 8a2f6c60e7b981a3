-- The syntax tree as plain data. The types of the crate show as these: a list of trees of the same kind is data of its
-- own.
use Rattle.std.specs.Prelude.{ℕ, ℤ, Bool, List, [], ◌∷◌, Option}
use Rattle.rr_base.specs.declared.position.Position.{Position}
use Rattle.c_tree.specs.declared.name.Name.{Name}
use Rattle.c_tree.specs.declared.ctype.Specifier.{Specifier}
use Rattle.c_tree.specs.declared.ctype.CType.{CType}
use Rattle.c_tree.specs.declared.expr.PrefixOp.{PrefixOp}
use Rattle.c_tree.specs.declared.expr.BinaryOp.{BinaryOp}
use Rattle.c_tree.specs.declared.expr.AssignOp.{AssignOp}

mutual
  -- expressions, with the place of the own token last
  pub data Exp : Type 0 where
    comma : Exp → Exps → Position → Exp
    assign : Exp → AssignOp → Exp → Position → Exp
    conditional : Exp → Exp → Exp → Position → Exp
    binary : Exp → BinaryOp → Exp → Position → Exp
    prefix : PrefixOp → Exp → Position → Exp
    sizeof_exp : Exp → Position → Exp
    sizeof_type : CType → Position → Exp
    cast : CType → Exp → Position → Exp
    index : Exp → Exp → Position → Exp
    member : Exp → Name → Position → Exp
    arrow : Exp → Name → Position → Exp
    post_increment : Exp → Position → Exp
    post_decrement : Exp → Position → Exp
    named : List ℕ → Position → Exp
    call : List ℕ → Exps → Position → Exp
    number : ℤ → Position → Exp
    letter : ℕ → Position → Exp
    text : List ℕ → Position → Exp
    null : Position → Exp
    paren : Exp → Position → Exp

  pub data Exps : Type 0 where
    no_exp : Exps
    and_exp : Exp → Exps → Exps

mutual
  -- a parameter (C99 6.7.5.3), with the place of its first token last
  pub data Formal : Type 0 where
    -- the specifier, stars, the name if any
    formal : Specifier → ℕ → Option Name → Position → Formal
    -- a pointer to a function: its result's specifier and stars, the name, its parameters
    formal_pointer : Specifier → ℕ → Name → Formals → Position → Formal

  -- what stands in a function's parentheses: no token, the word `void` alone, or parameters
  pub data Formals : Type 0 where
    no_formals : Formals
    void_formals : Formals
    listed_formals : FormalRow → Formals

  pub data FormalRow : Type 0 where
    no_formal : FormalRow
    and_formal : Formal → FormalRow → FormalRow

-- what is declared of one name
pub data Declared : Type 0 where
  -- stars, the name, the lengths of the arrays
  declared : ℕ → Name → List Exp → Declared
  -- a pointer to a function: the stars of its result, the name, its parameters
  declared_pointer : ℕ → Name → Formals → Declared

mutual
  pub data Init : Type 0 where
    value : Exp → Init
    -- and whether a comma stands before the closing brace
    braces : Inits → Bool → Position → Init
    mutex_start : Position → Init
    cond_start : Position → Init
    rwlock_start : Position → Init

  pub data Inits : Type 0 where
    no_init : Inits
    and_init : Init → Inits → Inits

-- one declared object
pub data Object : Type 0 where
  plain : Declared → Object
  initialised : Declared → Init → Position → Object

-- a declaration (C99 6.7): the specifier, the objects, the place
pub data Declares : Type 0 where
  declares : Specifier → List Object → Position → Declares

-- how a `for` begins
pub data Start : Type 0 where
  start_declares : Declares → Start
  start_computes : Option Exp → Start

mutual
  pub data Statement : Type 0 where
    block : Parts → Position → Statement
    compute : Option Exp → Position → Statement
    break_at : Position → Statement
    continue_at : Position → Statement
    gives : Option Exp → Position → Statement
    branch : Exp → Statement → Position → Statement
    branch_else : Exp → Statement → Statement → Position → Statement
    while_loop : Exp → Statement → Position → Statement
    do_loop : Statement → Exp → Position → Statement
    for_loop : Start → Option Exp → Option Exp → Statement → Position → Statement

  -- what stands in a block
  pub data Parts : Type 0 where
    no_part : Parts
    and_declares : Declares → Parts → Parts
    and_does : Statement → Parts → Parts

-- what follows the parameters of a function
pub data Code : Type 0 where
  defined : Parts → Position → Code
  prototype : Code

-- members of one specifier
pub data Fields : Type 0 where
  fields : Specifier → List Declared → Position → Fields

-- an external declaration (C99 6.9): what a source is made of
pub data Outer : Type 0 where
  structure : Name → List Fields → Outer
  -- whether `static` stands before it, the specifier, stars, the name
  function : Bool → Specifier → ℕ → Name → Formals → Code → Outer
  objects : Bool → Specifier → List Object → Position → Outer

-- ---- lists of trees

-- expressions as the data of their own that the tree holds
abbrev pub listed : List Exp → Exps
listed [] = no_exp
listed (e ∷ es) = and_exp e (listed es)

-- the same for parameters
abbrev pub listed_row : List Formal → FormalRow
listed_row [] = no_formal
listed_row (x ∷ xs) = and_formal x (listed_row xs)

-- the same for the initials in braces
abbrev pub listed_inits : List Init → Inits
listed_inits [] = no_init
listed_inits (i ∷ is) = and_init i (listed_inits is)

-- one thing in a block
pub data Part : Type 0 where
  part_declares : Declares → Part
  part_does : Statement → Part

-- one thing before the others in a block
abbrev pub with_part : Part → Parts → Parts
with_part (part_declares d) ps = and_declares d ps
with_part (part_does s) ps = and_does s ps

-- the things in a block, in the same order
abbrev pub listed_parts : List Part → Parts
listed_parts [] = no_part
listed_parts (p ∷ ps) = with_part p (listed_parts ps)
