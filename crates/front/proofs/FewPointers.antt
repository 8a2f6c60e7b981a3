-- A source has no more types of pointers to functions than tokens, with one token more for each function.
use Rattle.std.proofs.Common.{ℕ, ◌+◌, ◌≤◌, Bool, true, false, if◌then◌else◌, List, [], ◌∷◌, ◌++◌, length, arith, length-append}
use Rattle.std.specs.Prelude.{position, is_some}
use Rattle.c_lexer.specs.declared.token.Punct.TheVariants as punct
use Rattle.c_lexer.specs.declared.token.Word.TheVariants as word
use Rattle.c_print.specs.Kinds.{p, w, if_there, specifier_kinds, stars_kinds, name_kind, maybe_kinds, exp_kinds, pointer_kinds, formal_kinds, formals_kinds, formal_row_kinds, rest_formals_kinds, declared_kinds, init_kinds, object_kinds, rest_objects_kinds, objects_kinds, declares_kinds, start_kinds, stmt_kinds, parts_kinds, code_kinds, rest_declared_kinds, all_declared_kinds, fields_kinds, all_fields_kinds, outer_kinds}
use Rattle.c_tree.specs.Tree.{Formal, formal, formal_pointer, Formals, no_formals, void_formals, listed_formals, FormalRow, no_formal, and_formal, Declared, declared, declared_pointer, Object, plain, initialised, Declares, declares, Start, start_declares, start_computes, Statement, block, compute, break_at, continue_at, gives, branch, branch_else, while_loop, do_loop, for_loop, Parts, no_part, and_declares, and_does, Code, defined, prototype, Fields, fields, Outer, structure, function, objects}
use Rattle.c_tree.specs.declared.ctype.Specifier.{Specifier}
use Rattle.c_tree.specs.declared.name.Name.{Name}
use Rattle.c_types.specs.Scopes.{Known}
use Rattle.c_types.specs.Signatures.{same_signature, signatures_of}
use Rattle.c_types.specs.declared.names.PointerType.{PointerType}
use Rattle.c_names.specs.Signatures.{pointed_by}
use Rattle.c_names.specs.Sources.{declared_by, row_params, listed_params}
use Rattle.c_names.specs.Pointers.{type_with, pointer_with, declared_with, members_with, fields_with, objects_with, declares_with, formal_with, formals_with, start_with, statement_with, parts_with, code_with, outer_with}

-- what stands behind others is no longer than the whole
behind : {X : Type 0} (xs ys : List X) (n : ℕ) → n ≤ length ys → n ≤ length (xs ++ ys)
behind xs ys n h = omega (arith, h, length-append xs ys)

-- both parts of a list
both : {X : Type 0} (xs ys : List X) (m n : ℕ) → m ≤ length xs → n ≤ length ys → m + n ≤ length (xs ++ ys)
both xs ys m n h g = omega (arith, h, g, length-append xs ys)

one_type_more : (ts : List PointerType) (t : PointerType) → length (type_with ts t) ≤ length ts + 1
one_type_more ts t = by (is_some (position (same_signature t.signature) (signatures_of ts)))
  where
    by : (b : Bool) → length (if b then ts else ts ++ t ∷ []) ≤ length ts + 1
    by true = omega arith
    by false = omega (arith, length-append ts (t ∷ []))

-- how many more types there are
module _ (known : Known) where
  of_pointer : (ts : List PointerType) (s : Specifier) (stars : ℕ) (name : Name) (ps : Formals) → length (pointer_with known ts s stars name ps) ≤ length ts + length (pointer_kinds stars name (formals_kinds ps))
  of_pointer ts s stars name ps = omega (arith, one_type_more ts (record { signature = pointed_by known s stars ps; at = name.at }), behind (stars_kinds stars) (p punct.OpenParen ∷ p punct.Star ∷ name_kind name ∷ p punct.CloseParen ∷ p punct.OpenParen ∷ (formals_kinds ps ++ p punct.CloseParen ∷ [])) 1 (omega arith))

  of_declared : (s : Specifier) (ts : List PointerType) (d : Declared) → length (declared_with known s ts d) ≤ length ts + length (declared_kinds d)
  of_declared s ts (declared stars name lengths) = omega arith
  of_declared s ts (declared_pointer stars name ps) = of_pointer ts s stars name ps

  of_rest_members : (s : Specifier) (ts : List PointerType) (ds : List Declared) → length (members_with known s ts ds) ≤ length ts + length (rest_declared_kinds ds)
  of_rest_members s ts [] = omega arith
  of_rest_members s ts (d ∷ ds) = omega (arith, of_rest_members s (declared_with known s ts d) ds, of_declared s ts d, length-append (declared_kinds d) (rest_declared_kinds ds))

  of_members : (s : Specifier) (ts : List PointerType) (ds : List Declared) → length (members_with known s ts ds) ≤ length ts + length (all_declared_kinds ds)
  of_members s ts [] = omega arith
  of_members s ts (d ∷ ds) = omega (arith, of_rest_members s (declared_with known s ts d) ds, of_declared s ts d, length-append (declared_kinds d) (rest_declared_kinds ds))

  of_fields : (ts : List PointerType) (fs : List Fields) → length (fields_with known ts fs) ≤ length ts + length (all_fields_kinds fs)
  of_fields ts [] = omega arith
  of_fields ts (fields s ds at ∷ fs) =
      omega (
        arith,
        of_fields (members_with known s ts ds) fs,
        of_members s ts ds,
        length-append (fields_kinds (fields s ds at)) (all_fields_kinds fs),
        behind (specifier_kinds s) (all_declared_kinds ds ++ p punct.Semicolon ∷ []) (length (all_declared_kinds ds)) (omega (arith, length-append (all_declared_kinds ds) (p punct.Semicolon ∷ []))),
      )

  of_object : (s : Specifier) (ts : List PointerType) (o : Object) → length (declared_with known s ts (declared_by o)) ≤ length ts + length (object_kinds o)
  of_object s ts (plain d) = of_declared s ts d
  of_object s ts (initialised d i at) = omega (arith, of_declared s ts d, length-append (declared_kinds d) (p punct.Assign ∷ init_kinds i))

  of_rest_objects : (s : Specifier) (ts : List PointerType) (os : List Object) → length (objects_with known s ts os) ≤ length ts + length (rest_objects_kinds os)
  of_rest_objects s ts [] = omega arith
  of_rest_objects s ts (o ∷ os) = omega (arith, of_rest_objects s (declared_with known s ts (declared_by o)) os, of_object s ts o, length-append (object_kinds o) (rest_objects_kinds os))

  of_objects : (s : Specifier) (ts : List PointerType) (os : List Object) → length (objects_with known s ts os) ≤ length ts + length (objects_kinds os)
  of_objects s ts [] = omega arith
  of_objects s ts (o ∷ os) = omega (arith, of_rest_objects s (declared_with known s ts (declared_by o)) os, of_object s ts o, length-append (object_kinds o) (rest_objects_kinds os))

  of_declares : (ts : List PointerType) (d : Declares) → length (declares_with known ts d) ≤ length ts + length (declares_kinds d)
  of_declares ts (declares s os at) =
      omega (arith, of_objects s ts os, behind (specifier_kinds s) (objects_kinds os ++ p punct.Semicolon ∷ []) (length (objects_kinds os)) (omega (arith, length-append (objects_kinds os) (p punct.Semicolon ∷ []))))

  of_formal : (ts : List PointerType) (x : Formal) → length (formal_with known ts x) ≤ length ts + length (formal_kinds x)
  of_formal ts (formal s stars name at) = omega arith
  of_formal ts (formal_pointer s stars name ps at) = omega (arith, of_pointer ts s stars name ps, behind (specifier_kinds s) (pointer_kinds stars name (formals_kinds ps)) (length (pointer_kinds stars name (formals_kinds ps))) (omega arith))

  of_rest_formals : (ts : List PointerType) (xs : FormalRow) → length (formals_with known ts (row_params xs)) ≤ length ts + length (rest_formals_kinds xs)
  of_rest_formals ts no_formal = omega arith
  of_rest_formals ts (and_formal x xs) = omega (arith, of_rest_formals (formal_with known ts x) xs, of_formal ts x, length-append (formal_kinds x) (rest_formals_kinds xs))

  of_row : (ts : List PointerType) (xs : FormalRow) → length (formals_with known ts (row_params xs)) ≤ length ts + length (formal_row_kinds xs)
  of_row ts no_formal = omega arith
  of_row ts (and_formal x xs) = omega (arith, of_rest_formals (formal_with known ts x) xs, of_formal ts x, length-append (formal_kinds x) (rest_formals_kinds xs))

  of_formals : (ts : List PointerType) (xs : Formals) → length (formals_with known ts (listed_params xs)) ≤ length ts + length (formals_kinds xs)
  of_formals ts no_formals = omega arith
  of_formals ts void_formals = omega arith
  of_formals ts (listed_formals xs) = of_row ts xs

  of_start : (ts : List PointerType) (s : Start) → length (start_with known ts s) ≤ length ts + length (start_kinds s)
  of_start ts (start_declares d) = of_declares ts d
  of_start ts (start_computes e) = omega arith

  mutual
    of_statement : (ts : List PointerType) (s : Statement) → length (statement_with known ts s) ≤ length ts + length (stmt_kinds s)
    of_statement ts (block ps at) = omega (arith, of_parts ts ps, length-append (parts_kinds ps) (p punct.CloseBrace ∷ []))
    of_statement ts (compute e at) = omega arith
    of_statement ts (break_at at) = omega arith
    of_statement ts (continue_at at) = omega arith
    of_statement ts (gives e at) = omega arith
    of_statement ts (branch e a at) = omega (arith, of_statement ts a, length-append (exp_kinds e) (p punct.CloseParen ∷ stmt_kinds a))
    of_statement ts (branch_else e a b at) =
        omega (arith, of_statement (statement_with known ts a) b, of_statement ts a, length-append (exp_kinds e) (p punct.CloseParen ∷ (stmt_kinds a ++ w word.Else ∷ stmt_kinds b)), length-append (stmt_kinds a) (w word.Else ∷ stmt_kinds b))
    of_statement ts (while_loop e a at) = omega (arith, of_statement ts a, length-append (exp_kinds e) (p punct.CloseParen ∷ stmt_kinds a))
    of_statement ts (do_loop a e at) =
        omega (arith, of_statement ts a, length-append (stmt_kinds a) (w word.While ∷ p punct.OpenParen ∷ (exp_kinds e ++ p punct.CloseParen ∷ p punct.Semicolon ∷ [])))
    of_statement ts (for_loop s test next a at) =
        omega (
          arith,
          of_statement (start_with known ts s) a,
          of_start ts s,
          both (start_kinds s) (maybe_kinds test ++ p punct.Semicolon ∷ (maybe_kinds next ++ p punct.CloseParen ∷ stmt_kinds a)) (length (start_kinds s)) (length (stmt_kinds a)) (omega arith)
              (behind (maybe_kinds test) (p punct.Semicolon ∷ (maybe_kinds next ++ p punct.CloseParen ∷ stmt_kinds a)) (length (stmt_kinds a))
              (omega (arith, behind (maybe_kinds next) (p punct.CloseParen ∷ stmt_kinds a) (length (stmt_kinds a)) (omega arith)))),
        )

    of_parts : (ts : List PointerType) (ps : Parts) → length (parts_with known ts ps) ≤ length ts + length (parts_kinds ps)
    of_parts ts no_part = omega arith
    of_parts ts (and_declares d ps) = omega (arith, of_parts (declares_with known ts d) ps, of_declares ts d, length-append (declares_kinds d) (parts_kinds ps))
    of_parts ts (and_does s ps) = omega (arith, of_parts (statement_with known ts s) ps, of_statement ts s, length-append (stmt_kinds s) (parts_kinds ps))

  of_code : (ts : List PointerType) (code : Code) → length (code_with known ts code) ≤ length ts + length (code_kinds code)
  of_code ts (defined ps at) = omega (arith, of_parts ts ps, length-append (parts_kinds ps) (p punct.CloseBrace ∷ []))
  of_code ts prototype = omega arith

  -- one for a function
  abbrev pub functions_in : Outer → ℕ
  functions_in (structure name fs) = 0
  functions_in (function is_static s stars name xs code) = 1
  functions_in (objects is_static s os at) = 0

  pub of_outer : (ts : List PointerType) (o : Outer) → length (outer_with known ts o) + functions_in o ≤ length ts + length (outer_kinds o)
  of_outer ts (structure name fs) = omega (arith, of_fields ts fs, length-append (all_fields_kinds fs) (p punct.CloseBrace ∷ p punct.Semicolon ∷ []))
  of_outer ts (function is_static s stars name xs code) =
      omega (
        arith,
        of_code (formals_with known ts (listed_params xs)) code,
        of_formals ts xs,
        behind (if_there is_static (w word.Static)) (specifier_kinds s ++ (stars_kinds stars ++ name_kind name ∷ p punct.OpenParen ∷ (formals_kinds xs ++ p punct.CloseParen ∷ code_kinds code))) (length (formals_kinds xs) + length (code_kinds code) + 1)
            (behind (specifier_kinds s) (stars_kinds stars ++ name_kind name ∷ p punct.OpenParen ∷ (formals_kinds xs ++ p punct.CloseParen ∷ code_kinds code)) (length (formals_kinds xs) + length (code_kinds code) + 1)
            (behind (stars_kinds stars) (name_kind name ∷ p punct.OpenParen ∷ (formals_kinds xs ++ p punct.CloseParen ∷ code_kinds code)) (length (formals_kinds xs) + length (code_kinds code) + 1)
            (omega (arith, length-append (formals_kinds xs) (p punct.CloseParen ∷ code_kinds code))))),
      )
  of_outer ts (objects is_static s os at) =
      omega (
        arith,
        of_objects s ts os,
        behind (if_there is_static (w word.Static)) (specifier_kinds s ++ (objects_kinds os ++ p punct.Semicolon ∷ [])) (length (objects_kinds os))
            (behind (specifier_kinds s) (objects_kinds os ++ p punct.Semicolon ∷ []) (length (objects_kinds os)) (omega (arith, length-append (objects_kinds os) (p punct.Semicolon ∷ [])))),
      )
