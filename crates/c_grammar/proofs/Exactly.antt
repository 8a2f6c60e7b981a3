-- The parser is exact.
use Rattle.std.proofs.Common.{◌≡◌, ℕ, zero, suc, max, ◌≤◌, List, [], ◌∷◌, ◌++◌, refl, sym, ◌∙◌, ap, subst, append_assoc, append-nil, arith}
use Rattle.std.proofs.lemmas.List.{append_cancel_right}
use Rattle.c_tree.specs.Tree.{Outer}
use Rattle.c_grammar.specs.Marks.{Lexeme, Mark, erase, AllLow}
use Rattle.c_grammar.specs.Grammar.{OfProgram}
use Rattle.c_grammar.specs.Phrase as phrase
use Rattle.c_grammar.specs.Parse.{Fault, Syntax, Nesting, Outcome, Got, Stuck, Spent, and_then, run}
use Rattle.c_grammar.specs.Parse as rule
use Rattle.c_grammar.specs.Rules.{read_within, read}
use Rattle.c_grammar.specs.Exact.{IsProgram, Begins, IsViable, IsFaultOf, Says, parsed, IsExact}
use Rattle.c_grammar.proofs.Works.{Spells, Stops, Refuses, high}
use Rattle.c_grammar.proofs.Language.{Of}
use Rattle.c_grammar.proofs.Enough.{read_unspent}
use Rattle.c_grammar.proofs.Reading.{read_works}
use Rattle.c_grammar.proofs.Complete.{read_complete}

-- a program is all of the tokens
program_of : (os : List Outer) (ms : List Mark) → Of (phrase.program []) os ms [] → IsProgram os ms
program_of os ms h = subst (λ z. OfProgram z ms []) (sym h.1) h.2

of_program : (os : List Outer) (ms : List Mark) → IsProgram os ms → Of (phrase.program []) os ms []
of_program os ms h = (os, refl, h)

pub parsed_reads : (limit : ℕ) (os : List Outer) (ms : List Mark) → IsProgram os ms → AllLow limit ms → parsed limit (erase ms) ≡ Got os []
parsed_reads limit os ms h low = read_complete limit (phrase.program []) os ms [] (of_program os ms h) refl low

-- a limit that suffices
highest : List Mark → ℕ
highest [] = 0
highest (m ∷ ms) = max m.level (highest ms)

low_within : (n k : ℕ) (ms : List Mark) → n ≤ k → AllLow n ms → AllLow k ms
low_within n k [] le h = tt
low_within n k (m ∷ ms) le h = (omega (arith, le, h.0), low_within n k ms le h.1)

low_highest : (ms : List Mark) → AllLow (highest ms) ms
unfolding highest
low_highest [] = tt
low_highest (m ∷ ms) = (omega arith, low_within (highest ms) (max m.level (highest ms)) ms (omega arith) (low_highest ms))

module _ (n : ℕ) where
  -- no program begins with what was refused, whatever the limit
  dead : (front : List Mark) (t : Lexeme) (rest : List Lexeme) → ((m : ℕ) → n ≤ m → Refuses (parsed m) front (t ∷ rest)) → IsViable (erase front ++ t ∷ []) → ⊥
  dead front t rest refuses v =
      let m : ℕ = max n (highest v.1) in
      let found = parsed_reads m v.0 v.1 v.3 (low_within (highest v.1) m v.1 (omega arith) (low_highest v.1)) in
      let stuck = refuses m (omega arith) (t ∷ v.2) refl in
      let same : erase v.1 ≡ erase front ++ t ∷ v.2 = v.4 ∙ append_assoc (erase front) (t ∷ []) v.2 in
      let both = sym found ∙ ap (parsed m) same ∙ stuck in
      cc

  none_at_all : (front : List Mark) → ((m : ℕ) → n ≤ m → Refuses (parsed m) front []) → (os : List Outer) (ms : List Mark) → IsProgram os ms → erase ms ≡ erase front → ⊥
  none_at_all front refuses os ms h e =
      let m : ℕ = max n (highest ms) in
      let found = parsed_reads m os ms h (low_within (highest ms) m ms (omega arith) (low_highest ms)) in
      let stuck = refuses m (omega arith) [] tt in
      let both = sym found ∙ ap (parsed m) (e ∙ sym (append-nil (erase front))) ∙ stuck in
      cc

  first_wrong : (front : List Mark) (rest : List Lexeme) → Begins front → ((m : ℕ) → n ≤ m → Refuses (parsed m) front rest) → IsFaultOf n Syntax front rest
  first_wrong front [] b r = (b, none_at_all front r)
  first_wrong front (t ∷ rest) b r = (b, dead front t rest r)

  begins : (os : List Outer) (front more : List Mark) → Spells (Of (phrase.program [])) os (front ++ more) → Begins front
  begins os front more h = (os, more, program_of os (front ++ more) (subst (λ z. Of (phrase.program []) os z []) (append-nil (front ++ more)) (h [])))

  syntax_says : (ts rest : List Lexeme) → parsed n ts ≡ Stuck Syntax rest → Says n ts (Stuck Syntax rest)
  syntax_says ts rest h =
      let here = (read_works n n (omega arith) (phrase.program [])).lost ts Syntax rest h in (
        here.front,
        here.low,
        here.splits,
        first_wrong here.front rest (begins here.stops.0.0 here.front here.stops.0.1 here.stops.0.2) (λ m le rest' same.
            let there = (read_works n m le (phrase.program [])).lost ts Syntax rest h in
            ap (λ z. parsed m (z ++ rest')) (append_cancel_right (erase here.front) (erase there.front) rest (sym here.splits ∙ there.splits)) ∙ there.stops.1 rest' same),
      )

  nesting_says : (front : List Mark) (rest : List Lexeme) → Stops n (Of (phrase.program [])) (parsed n) Nesting front rest → IsFaultOf n Nesting front rest
  unfolding begins
  nesting_says front [] s = let e = s.4 in cc
  nesting_says front (t ∷ rest) s =
      let same : s.0 ≡ t = let e = s.4 in cc in
      let b = begins s.5 front (high s.0 s.2 ∷ s.6) s.7 in
      (s.2, s.3, (b.0, s.6, subst (λ z. IsProgram b.0 z) (sym (append_assoc front (high t s.2 ∷ []) s.6)) (subst (λ z. IsProgram b.0 (front ++ high z s.2 ∷ s.6)) same b.2)))

-- nothing is left behind a program
ended_by : (n k : ℕ) (os : List Outer) (ts : List Lexeme) (a : List Outer) (rest : List Lexeme) → read_within n k (phrase.program os) ts ≡ Got a rest → rest ≡ []
unfolding read_within
ended_by n zero os ts a rest e = cc
ended_by n (suc k) os [] a rest e = cc
ended_by n (suc k) os (t ∷ ts) a rest e = by (read_within n k phrase.outer (t ∷ ts)) e (λ o mid d. ended_by n k (os ++ o ∷ []) mid a rest d)
  where
    following : (o : Outer) (mid : List Lexeme) (x : Outcome (List Outer)) → read_within n k (phrase.program (os ++ o ∷ [])) mid ≡ x → and_then x (λ all ts. Got all ts) ≡ Got a rest → (read_within n k (phrase.program (os ++ o ∷ [])) mid ≡ Got a rest → rest ≡ []) → rest ≡ []
    following o mid (Got all us) d e go = go (d ∙ e)
    following o mid (Stuck f us) d e go = cc
    following o mid Spent d e go = cc

    by : (x : Outcome Outer) → and_then x (λ o. run n (read_within n k) (rule.call (phrase.program (os ++ o ∷ [])) (λ all. rule.ret all))) ≡ Got a rest → ((o : Outer) (mid : List Lexeme) → read_within n k (phrase.program (os ++ o ∷ [])) mid ≡ Got a rest → rest ≡ []) → rest ≡ []
    by (Got o mid) e go = following o mid (read_within n k (phrase.program (os ++ o ∷ [])) mid) refl e (go o mid)
    by (Stuck f mid) e go = cc
    by Spent e go = cc

parsed_ends : (n : ℕ) (ts : List Lexeme) (os : List Outer) (rest : List Lexeme) → parsed n ts ≡ Got os rest → rest ≡ []
unfolding read
parsed_ends n ts os rest e = ended_by n _ [] ts os rest e

pub says : (n : ℕ) (ts : List Lexeme) (o : Outcome (List Outer)) → parsed n ts ≡ o → Says n ts o
says n ts (Got os rest) h =
    let x = (read_works n n (omega arith) (phrase.program [])).found ts os rest h in
    let end = parsed_ends n ts os rest h in
    (end, x.front, program_of os x.front (subst (λ z. Of (phrase.program []) os z []) (append-nil x.front) (x.phrase [])), x.low, x.splits ∙ ap (λ r. erase x.front ++ r) end ∙ append-nil (erase x.front))
says n ts (Stuck Syntax rest) h = syntax_says n ts rest h
says n ts (Stuck Nesting rest) h =
    let x = (read_works n n (omega arith) (phrase.program [])).lost ts Nesting rest h in
    (x.front, x.low, x.splits, nesting_says n x.front rest x.stops)
says n ts Spent h = read_unspent n (phrase.program []) ts h

pub parsed_exactly : (n : ℕ) (ts : List Lexeme) → IsExact n ts (parsed n ts)
parsed_exactly n ts = record {
  says = says n ts (parsed n ts) refl;
  only = λ os ms d low e. ap (parsed n) e ∙ parsed_reads n os ms d low;
}

-- the tokens have one tree
pub one_tree : (os os' : List Outer) (ms ms' : List Mark) → IsProgram os ms → IsProgram os' ms' → erase ms ≡ erase ms' → os ≡ os'
one_tree os os' ms ms' h h' e =
    let m : ℕ = max (highest ms) (highest ms') in
    let left = parsed_reads m os ms h (low_within (highest ms) m ms (omega arith) (low_highest ms)) in
    let right = parsed_reads m os' ms' h' (low_within (highest ms') m ms' (omega arith) (low_highest ms')) in
    let both = sym left ∙ ap (parsed m) e ∙ right in
    cc
