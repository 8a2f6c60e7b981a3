-- A source has no more functions and types of pointers to them than tokens, and no more tokens than bytes.
use Rattle.std.proofs.Common.{◌≡◌, ℕ, zero, suc, ◌+◌, ◌-◌, ◌^◌, ◌≤◌, Bool, true, false, if◌then◌else◌, List, [], ◌∷◌, ◌++◌, length, Option, Some, None, Result, Ok, Err, refl, ap, ◌∙◌, arith, length-append}
use Rattle.std.specs.Prelude.{nat_lt}
use Rattle.rr_base.specs.Texts.{Text}
use Rattle.c_lexer.specs.declared.fault.LexFault.{LexFault}
use Rattle.c_lexer.specs.declared.piece.Piece.{Piece}
use Rattle.c_lexer.specs.declared.piece.Piece.TheVariants as piece
use Rattle.c_lexer.specs.declared.token.Token.{Token}
use Rattle.c_lexer.specs.Tokens.{Found, Reading, passed, met, with_token, piece_at, start, tokens_from, tokens_of}
use Rattle.c_print.specs.Kinds.{outer_kinds, kinds_of}
use Rattle.c_tree.specs.Tree.{Formals, Code, defined, prototype, Object, Outer, structure, function, objects}
use Rattle.c_tree.specs.declared.ctype.Specifier.{Specifier}
use Rattle.c_tree.specs.declared.name.Name.{Name}
use Rattle.c_grammar.specs.Exact.{parsed, IsExact}
use Rattle.c_parse_rules.specs.Gives.{limit, lexemes}
use Rattle.c_grammar.specs.Marks.{Mark, erase, kinds_at}
use Rattle.c_grammar.specs.Parse.{Outcome, Got, Stuck, Spent}
use Rattle.c_grammar.proofs.Exactly.{parsed_exactly}
use Rattle.c_grammar.proofs.Prints.{prints}
use Rattle.c_types.specs.Scopes.{Known}
use Rattle.c_types.specs.declared.names.PointerType.{PointerType}
use Rattle.c_types.specs.declared.names.Signature.{Signature}
use Rattle.c_types.specs.declared.fault.Found.{Found as Refused}
use Rattle.c_sites.specs.Whole.{first_fault}
use Rattle.c_names.specs.Known.{names_at_start, known_at_start}
use Rattle.c_names.specs.Pointers.{outer_with, pointers_with}
use Rattle.c_names.specs.Signatures.{signature_of}
use Rattle.c_names.specs.Sources.{declared_by}
use Rattle.c_programs.specs.Declarators.{is_struct_defined, with_fields, struct_cells}
use Rattle.c_programs.specs.Statements.{after_declared, after_objects}
use Rattle.c_programs.specs.Programs.{after_outer}
use Rattle.c_spots.specs.Spots.{known_after}
use Rattle.c_locals.specs.Addresses.{count_of_outer, program_addressed}
use Rattle.c_locals.specs.Taken.{program_taken}
use Rattle.c_operators.specs.Context.{Source}
use Rattle.c_elaborate.specs.Pointers.{target_types, pointer_types}
use Rattle.c_elaborate.specs.Whole.{code_functions, outer_functions, outers_functions, source_of, core_of_source}
use Rattle.front.specs.Readings.{sound, by_first_fault, refusal_of, IsByTree, IsByTokens, IsReading}
use Rattle.front.proofs.FewPointers.{functions_in, of_outer}
use Rattle.front.proofs.Sources.{IsFew, same_tree, by_refusal}

-- ---- no more tokens than bytes

abbrev AtMost : ℕ → Found → Type 0
AtMost n (Ok ts) = length ts ≤ n
AtMost n (Err f) = Unit {0}

one_more : (n : ℕ) (f : Found) → AtMost n f → AtMost (suc n) f
one_more n (Ok ts) h = omega (arith, h)
one_more n (Err f) h = tt

one_token_more : (n : ℕ) (t : Token) (f : Found) → AtMost n f → AtMost (suc n) (with_token t f)
one_token_more n t (Ok ts) h = omega (arith, h)
one_token_more n t (Err f) h = tt

one_piece_more : (n : ℕ) (x : Piece) (text : Text) (r : Reading) (more : ℕ → Reading → Found) → ((k : ℕ) (s : Reading) → AtMost n (more k s)) → AtMost (suc n) (met x text r more)
one_piece_more n (piece.Blank k) text r more h = one_more n (more k r) (h k r)
one_piece_more n (piece.Token kind k) text r more h = one_token_more n _ (more k (record r { token_line = r.cursor.at.line })) (h k (record r { token_line = r.cursor.at.line }))
one_piece_more n (piece.Define from to value k) text r more h = one_more n (more k _) (h k _)
one_piece_more n (piece.Fault f k) text r more h = tt

few_from : (left : ℕ) (r : Reading) (text : Text) → AtMost (length text) (tokens_from left r text)
few_from left r [] = omega arith
few_from (suc left) r (b ∷ bs) = one_more (length bs) (tokens_from left (passed b r) bs) (few_from left (passed b r) bs)
few_from zero r (b ∷ bs) = one_piece_more (length bs) (piece_at (nat_lt r.token_line r.cursor.at.line) r.defined (b ∷ bs)) (b ∷ bs) r (λ n s. tokens_from (n - 1) (passed b s) bs) (λ n s. few_from (n - 1) (passed b s) bs)

few_tokens : (text : Text) → AtMost (length text) (tokens_of text)
unfolding tokens_of
few_tokens text = few_from 0 start text

-- ---- no more kinds than tokens

as_many_kinds : (ms : List Mark) → length (kinds_at ms) ≡ length (erase ms)
as_many_kinds [] = refl
as_many_kinds (m ∷ ms) = ap suc (as_many_kinds ms)

as_many_lexemes : (ts : List Token) → length (lexemes ts) ≡ length ts
as_many_lexemes [] = refl
as_many_lexemes (t ∷ ts) = ap suc (as_many_lexemes ts)

by_fault : (os ps : List Outer) (f : Option Refused) → sound os ≡ by_first_fault ps f → os ≡ ps
by_fault os ps None e = same_tree os ps e
by_fault os ps (Some x) e = absurd (cc e)

by_tree : (tokens : List Token) (os : List Outer) (o : Outcome (List Outer)) → IsExact limit (lexemes tokens) o → IsByTree tokens o (sound os) → length (kinds_of os) ≤ length tokens
by_tree tokens os (Got ps rest) exact e =
    let says = exact.says in
    let same = by_fault os ps (first_fault ps) e in
    let ms = says.1 in
    let printed = prints ps ms says.2 in
    omega (arith, ap (λ xs. length (kinds_of xs)) same, ap length printed, as_many_kinds ms, ap length says.4, as_many_lexemes tokens)
by_tree tokens os (Stuck fault rest) exact e = absurd (cc e)
by_tree tokens os Spent exact e = absurd e

by_tokens : (n : ℕ) (os : List Outer) (ts : Result (List Token) LexFault) → AtMost n ts → IsByTokens ts (sound os) → length (kinds_of os) ≤ n
by_tokens n os (Ok tokens) few h = omega (arith, few, by_tree tokens os (parsed limit (lexemes tokens)) (parsed_exactly limit (lexemes tokens)) h)
by_tokens n os (Err fault) few h = absurd (by_refusal os (refusal_of fault) h)

-- ---- no more functions and types of pointers to them than kinds

one_of_code : (s : Source) (ns : List ℕ) (known : Known) (n : ℕ) (name : Name) (f : Signature) (ps : Formals) (code : Code) → length (code_functions s ns known n name f ps code) ≤ 1
one_of_code s ns known n name f ps prototype = omega arith
one_of_code s ns known n name f ps (defined parts at) = omega arith

module _ (names : Known) where
  one_of_outer : (s : Source) (ns : List ℕ) (known : Known) (n : ℕ) (o : Outer) → length (outer_functions s ns known n o) ≤ functions_in names o
  one_of_outer s ns known n (structure name fs) = omega arith
  one_of_outer s ns known n (function is_static sp stars name ps code) = one_of_code s ns known n name (signature_of known sp stars ps) ps code
  one_of_outer s ns known n (objects is_static sp os at) = omega arith

  few_of_outers : (s : Source) (ns : List ℕ) (known : Known) (n : ℕ) (ts : List PointerType) (os : List Outer) → length (pointers_with names ts os) + length (outers_functions s ns known n os) ≤ length ts + length (kinds_of os)
  few_of_outers s ns known n ts [] = omega arith
  few_of_outers s ns known n ts (o ∷ os) =
      omega (
        arith,
        one_of_outer s ns known n o,
        of_outer names ts o,
        few_of_outers s ns (after_outer known o) (n + count_of_outer o) (outer_with names ts o) os,
        length-append (outer_functions s ns known n o) (outers_functions s ns (after_outer known o) (n + count_of_outer o) os),
        length-append (outer_kinds o) (kinds_of os),
      )

as_many_pointers : (ts : List (Option ℕ)) (k : ℕ) (ps : List PointerType) → length (pointer_types ts k ps) ≡ length ps
as_many_pointers ts k [] = refl
as_many_pointers ts k (p ∷ ps) = ap suc (as_many_pointers ts (k + 1) ps)

-- no declaration changes the types of pointers to functions
objects_stay : (known : Known) (is_global : Bool) (sp : Specifier) (os : List Object) → (after_objects known is_global sp os).pointers ≡ known.pointers
objects_stay known is_global sp [] = refl
objects_stay known is_global sp (o ∷ os) = objects_stay (after_declared known is_global sp (declared_by o)) is_global sp os

struct_stays : (known other : Known) (b : Bool) → other.pointers ≡ known.pointers → (if b then known else other).pointers ≡ known.pointers
struct_stays known other true h = refl
struct_stays known other false h = h

outer_stays : (known : Known) (o : Outer) → (after_outer known o).pointers ≡ known.pointers
outer_stays known (structure name fs) = struct_stays known (record known { structs = known.structs ++ with_fields known [] fs ∷ []; sizes = known.sizes ++ struct_cells known fs ∷ [] }) (is_struct_defined known name.text) refl
outer_stays known (function is_static sp stars name ps prototype) = refl
outer_stays known (function is_static sp stars name ps (defined parts at)) = refl
outer_stays known (objects is_static sp os at) = objects_stay known true sp os

pointers_stay : (known : Known) (os : List Outer) → (known_after known os).pointers ≡ known.pointers
pointers_stay known [] = refl
pointers_stay known (o ∷ os) = pointers_stay (after_outer known o) os ∙ outer_stays known o

few_of_source : (os : List Outer) → length (core_of_source os).functions + length (core_of_source os).pointers ≤ length (kinds_of os)
unfolding core_of_source
few_of_source os =
    let known = known_after (known_at_start os) os in
    omega (
      arith,
      few_of_outers (names_at_start os) (source_of os) (program_addressed os) (known_at_start os) 0 [] os,
      as_many_pointers (target_types known (program_taken os)) 0 known.pointers,
      ap length (pointers_stay (known_at_start os) os),
    )

pub few_functions : (text : Text) (os : List Outer) → IsReading text (sound os) → length (core_of_source os).functions + length (core_of_source os).pointers ≤ length text
few_functions text os h = omega (arith, few_of_source os, by_tokens (length text) os (tokens_of text) (few_tokens text) h)

pub few_enough : (text : Text) (os : List Outer) → IsReading text (sound os) → length text ≤ 2 ^ 20 → IsFew (core_of_source os)
few_enough text os h few = omega (arith, few, few_functions text os h)
