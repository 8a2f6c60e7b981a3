-- From the tokens of a source to the names in its code.
use Rattle.std.proofs.Common.{◌≡◌, ℕ, ◌+◌, Bool, List, [], ◌∷◌, ◌++◌, map, Option, Some, None, Result, Ok, Err, sym, subst}
use Rattle.std.specs.List.{AllByRecursion}
use Rattle.std.specs.Str.{IsUtf8}
use Rattle.c_lexer.specs.Tokens.{tokens_of}
use Rattle.c_lexer.specs.declared.fault.LexFault.{LexFault}
use Rattle.c_lexer.specs.declared.token.Punct.TheVariants as punct
use Rattle.c_lexer.specs.declared.token.Token.{Token}
use Rattle.c_lexer.specs.declared.token.Word.TheVariants as word
use Rattle.c_print.specs.Kinds.{p, w, if_there, specifier_kinds, stars_kinds, name_kind, formals_kinds, code_kinds, outer_kinds, kinds_of}
use Rattle.c_tree.specs.Tree.{Formals, Code as Body, defined, prototype, Outer, structure, function, objects}
use Rattle.c_tree.specs.declared.ctype.Specifier.{Specifier}
use Rattle.c_tree.specs.declared.name.Name.{Name}
use Rattle.c_types.specs.Scopes.{Known}
use Rattle.c_types.specs.declared.fault.Found.{Found}
use Rattle.c_types.specs.declared.names.Signature.{Signature}
use Rattle.c_names.specs.Known.{known_at_start}
use Rattle.c_names.specs.Signatures.{signature_of}
use Rattle.c_programs.specs.Programs.{after_outer}
use Rattle.c_locals.specs.Addresses.{count_of_outer, program_addressed}
use Rattle.c_sites.specs.Whole.{first_fault}
use Rattle.core_tree.specs.Core as core
use Rattle.c_operators.specs.Context.{Source}
use Rattle.c_elaborate.specs.Whole.{code_functions, outer_functions, outers_functions, source_of, core_of_source}
use Rattle.call_targets.specs.Resolved.{choosers, resolved}
use Rattle.c_grammar.proofs.Exactly.{parsed_exactly}
use Rattle.c_grammar.proofs.Prints.{prints}
use Rattle.c_grammar.specs.Exact.{parsed, IsExact}
use Rattle.c_grammar.specs.Marks.{Lexeme, Mark, erase, kinds_at}
use Rattle.c_grammar.specs.Parse.{Outcome, Got, Stuck, Spent}
use Rattle.c_parse_rules.specs.Gives.{limit, lexemes}
use Rattle.facts.specs.PointsTo.{Tables}
use Rattle.flow_code.specs.declared.code.Code.{Code}
use Rattle.flow_code.specs.declared.code.Function.{Function}
use Rattle.flow_lower.specs.Lowered.{function_code}
use Rattle.front.specs.Plain.{plain_code}
use Rattle.front.specs.Readings.{sound, refused, by_first_fault, refusal_of, IsByTree, IsByTokens}
use Rattle.front.specs.declared.reading.SourceFault.{SourceFault}
use Rattle.rr_base.specs.declared.layout.Place.{Place}
use Rattle.std.specs.Option.{option_map}
use Rattle.weak_code.specs.Weakened.{weakened_functions, weakened}
use Rattle.weak_lock_facts.specs.Ranges.{ranges_of}
use Rattle.weak_lock_facts.specs.declared.grain.Grained.{Grained}
use Rattle.weak_lock_facts.specs.declared.range.Range.{Range}
use Rattle.facts.specs.declared.pair.Pair.{Pair}
use Rattle.source_names.specs.Spelled.{HaveTexts, IsSpelled, AreSpelled, NamesAreTexts}
use Rattle.source_names.proofs.Numbered.{chooser_named}
use Rattle.source_names.proofs.Tokens.{tokens_are_spelled}

-- ---- lists

module _ {X : Type 0} (P : X → Type 0) where
  following : (xs ys : List X) → AllByRecursion P (xs ++ ys) → AllByRecursion P ys
  following [] ys h = h
  following (x ∷ xs) ys h = following xs ys h.1

  before : (xs ys : List X) → AllByRecursion P (xs ++ ys) → AllByRecursion P xs
  before [] ys h = tt
  before (x ∷ xs) ys h = (h.0, before xs ys h.1)

  both : (xs ys : List X) → AllByRecursion P xs → AllByRecursion P ys → AllByRecursion P (xs ++ ys)
  both [] ys h g = g
  both (x ∷ xs) ys h g = (h.0, both xs ys h.1 g)

-- ---- the tree

spelled_lexemes : (ts : List Token) → AllByRecursion (λ (t : Token). IsSpelled t.kind) ts → AllByRecursion (λ (l : Lexeme). IsSpelled l.kind) (lexemes ts)
spelled_lexemes [] h = tt
spelled_lexemes (t ∷ ts) h = (h.0, spelled_lexemes ts h.1)

spelled_marks : (ms : List Mark) → AllByRecursion (λ (l : Lexeme). IsSpelled l.kind) (erase ms) → AllByRecursion IsSpelled (kinds_at ms)
spelled_marks [] h = tt
spelled_marks (m ∷ ms) h = (h.0, spelled_marks ms h.1)

by_fault : (os ps : List Outer) (f : Option Found) → sound os ≡ by_first_fault ps f → os ≡ ps
by_fault os ps None e = cc e
by_fault os ps (Some x) e = absurd (cc e)

by_tree : (ts : List Token) (os : List Outer) (o : Outcome (List Outer)) → AllByRecursion (λ (t : Token). IsSpelled t.kind) ts → IsExact limit (lexemes ts) o → IsByTree ts o (sound os) → AllByRecursion IsSpelled (kinds_of os)
by_tree ts os (Got ps rest) h exact e =
    let says = exact.says in
    let ms = says.1 in
    let marks : AllByRecursion IsSpelled (kinds_at ms) = spelled_marks ms (subst (AllByRecursion (λ (l : Lexeme). IsSpelled l.kind)) says.4 (spelled_lexemes ts h)) in
    let same : os ≡ ps = by_fault os ps (first_fault ps) e in
    subst (λ (xs : List Outer). AllByRecursion IsSpelled (kinds_of xs)) (sym same) (subst (AllByRecursion IsSpelled) (prints ps ms says.2) marks)
by_tree ts os (Stuck fault rest) h exact e = absurd (cc e)
by_tree ts os Spent h exact e = absurd e

by_refusal : (os : List Outer) (o : Option SourceFault) → option_map refused o ≡ Some (sound os) → ⊥
by_refusal os None e = absurd (cc e)
by_refusal os (Some fault) e = absurd (cc e)

by_tokens : (os : List Outer) (found : Result (List Token) LexFault) → AreSpelled found → IsByTokens found (sound os) → AllByRecursion IsSpelled (kinds_of os)
by_tokens os (Ok ts) h is = by_tree ts os (parsed limit (lexemes ts)) h (parsed_exactly limit (lexemes ts)) is
by_tokens os (Err fault) h is = absurd (by_refusal os (refusal_of fault) is)

-- ---- the core tree

abbrev HasText : core.Function → Type 0
HasText f = IsUtf8 f.name

function_text : (is_static : Bool) (s : Specifier) (stars : ℕ) (name : Name) (xs : Formals) (code : Body) → AllByRecursion IsSpelled (outer_kinds (function is_static s stars name xs code)) → IsUtf8 name.text
function_text is_static s stars name xs code h =
    let named = name_kind name ∷ p punct.OpenParen ∷ (formals_kinds xs ++ p punct.CloseParen ∷ code_kinds code) in
    let starred = stars_kinds stars ++ named in
    let typed = following IsSpelled (if_there is_static (w word.Static)) (specifier_kinds s ++ starred) h in
    (following IsSpelled (stars_kinds stars) named (following IsSpelled (specifier_kinds s) starred typed)).0

module _ (s : Source) (ns : List ℕ) where
  code_texts : (known : Known) (n : ℕ) (name : Name) (f : Signature) (xs : Formals) (code : Body) → IsUtf8 name.text → AllByRecursion HasText (code_functions s ns known n name f xs code)
  code_texts known n name f xs prototype h = tt
  code_texts known n name f xs (defined parts at) h = (h, tt)

  outer_texts : (known : Known) (n : ℕ) (o : Outer) → AllByRecursion IsSpelled (outer_kinds o) → AllByRecursion HasText (outer_functions s ns known n o)
  outer_texts known n (structure name fs) h = tt
  outer_texts known n (function is_static sp stars name xs code) h = code_texts known n name (signature_of known sp stars xs) xs code (function_text is_static sp stars name xs code h)
  outer_texts known n (objects is_static sp os at) h = tt

  outers_texts : (known : Known) (n : ℕ) (os : List Outer) → AllByRecursion IsSpelled (kinds_of os) → AllByRecursion HasText (outers_functions s ns known n os)
  outers_texts known n [] h = tt
  outers_texts known n (o ∷ os) h =
      both HasText (outer_functions s ns known n o) (outers_functions s ns (after_outer known o) (n + count_of_outer o) os)
      (outer_texts known n o (before IsSpelled (outer_kinds o) (kinds_of os) h))
      (outers_texts (after_outer known o) (n + count_of_outer o) os (following IsSpelled (outer_kinds o) (kinds_of os) h))

core_texts : (os : List Outer) → AllByRecursion IsSpelled (kinds_of os) → AllByRecursion HasText (core_of_source os).functions
unfolding core_of_source
core_texts os h = outers_texts (source_of os) (program_addressed os) (known_at_start os) 0 os h

-- ---- the code

choosers_texts : (n : ℕ) (qs : List core.Pointer) → AllByRecursion HasText (choosers n qs)
choosers_texts n [] = tt
choosers_texts n (q ∷ qs) = (chooser_named n, choosers_texts (n + 1) qs)

lowered_texts : (fs : List core.Function) → AllByRecursion HasText fs → AllByRecursion (λ (f : Function). IsUtf8 f.name) (map function_code fs)
lowered_texts [] h = tt
lowered_texts (f ∷ fs) h = (h.0, lowered_texts fs h.1)

plain_texts : (os : List Outer) → AllByRecursion IsSpelled (kinds_of os) → HaveTexts (plain_code os)
unfolding plain_code
plain_texts os h =
    lowered_texts (resolved (core_of_source os)).functions (both HasText (core_of_source os).functions (choosers 1 (core_of_source os).pointers) (core_texts os h) (choosers_texts 1 (core_of_source os).pointers))

module _ (code : Code) (t : Tables) (locked : List Place) (rs : List Range) (rows : List Grained) where
  functions_texts : (f : ℕ) (fns : List Function) → AllByRecursion (λ (fn : Function). IsUtf8 fn.name) fns → AllByRecursion (λ (fn : Function). IsUtf8 fn.name) (weakened_functions code t locked rs rows f fns)
  functions_texts f [] h = tt
  functions_texts f (fn ∷ fns) h = (h.0, functions_texts (f + 1) fns h.1)

weakened_texts : (code : Code) (t : Tables) (vs : List Pair) (rs : List Range) (rows : List Grained) → HaveTexts code → HaveTexts (weakened code t vs rs rows)
unfolding weakened
weakened_texts code t vs rs rows h = functions_texts code t _ rs rows 0 code.functions h

pub names_are_texts : NamesAreTexts
names_are_texts text os a reads is plain =
    let texts : HaveTexts (plain_code os) = plain_texts os (by_tokens os (tokens_of text) (tokens_are_spelled text) reads) in
    subst HaveTexts (sym is.weak) (weakened_texts a.plain a.points a.pairs (ranges_of a.plain a.points) a.grains.rows (subst HaveTexts (sym plain) texts))
