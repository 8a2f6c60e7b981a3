-- What holds of each parser, and goes over from its parts to the whole.
use Rattle.std.proofs.Common.{◌≡◌, ℕ, Bool, true, false, cond, List, [], ◌∷◌, ◌++◌, Option, Some, None, refl, sym, ◌∙◌, ap, subst, append_assoc, ◌≤◌, ◌<◌, arith, nat_le}
use Rattle.std.proofs.lemmas.Bool.Decides.{nat_tests}
use Rattle.c_lexer.specs.declared.token.Kind.{Kind}
use Rattle.rr_base.specs.declared.position.Position.{Position}
use Rattle.rr_base.specs.Positions.{position_at}
use Rattle.c_grammar.specs.Marks.{Lexeme, Mark, mark, erase, AllLow}
use Rattle.c_grammar.specs.Parse.{Class, Value, kind_of, grab, Fault, Syntax, Nesting, Outcome, Got, Stuck, Spent, Parser, and_then, ◌>>=◌, taken, token, passes}
use Rattle.c_grammar.proofs.Tokens.{grabbed, example}

-- the two begin with the same token, or are both at the end
abbrev pub SameHead : List Lexeme → List Lexeme → Type 0
SameHead [] [] = Unit {0}
SameHead [] (t ∷ ts) = ⊥
SameHead (t ∷ ts) [] = ⊥
SameHead (t ∷ ts) (u ∷ us) = t ≡ u

pub same_head : (front rest rest' : List Lexeme) → SameHead rest rest' → SameHead (front ++ rest) (front ++ rest')
same_head [] rest rest' h = h
same_head (t ∷ front) rest rest' h = refl

-- what may stand between one list and the next
abbrev pub Language : Type 0 → Type 1
Language A = A → List Mark → List Mark → Type 0

pub erase-append : (xs ys : List Mark) → erase (xs ++ ys) ≡ erase xs ++ erase ys
erase-append [] ys = refl
erase-append (x ∷ xs) ys = ap (λ z. x.lexeme ∷ z) (erase-append xs ys)

pub joined : (xs ys : List Mark) (rest : List Lexeme) → erase (xs ++ ys) ++ rest ≡ erase xs ++ (erase ys ++ rest)
joined xs ys rest = ap (λ z. z ++ rest) (erase-append xs ys) ∙ append_assoc (erase xs) (erase ys) rest

pub low-append : (limit : ℕ) (xs ys : List Mark) → AllLow limit xs → AllLow limit ys → AllLow limit (xs ++ ys)
low-append limit [] ys h k = k
low-append limit (x ∷ xs) ys h k = (h.0, low-append limit xs ys h.1 k)

-- a phrase is just this front, whatever comes after it
abbrev pub Spells : {A : Type 0} → Language A → A → List Mark → Type 0
Spells L a front = (k : List Mark) → L a (front ++ k) k

abbrev pub HasPhrase : {A : Type 0} → Language A → Type 0
HasPhrase {A} L = (a : A) × (ms : List Mark) × Spells L a ms

abbrev pub high : Lexeme → ℕ → Mark
high t v = record { lexeme = t; level = v }

-- q reads a, as far as here, whatever comes after the next token
abbrev pub Reads : {A : Type 0} → Parser A → A → List Mark → List Lexeme → Type 0
Reads q a front rest = (rest' : List Lexeme) → SameHead rest rest' → q (erase front ++ rest') ≡ Got a rest'

abbrev pub Refuses : {A : Type 0} → Parser A → List Mark → List Lexeme → Type 0
Refuses q front rest = (rest' : List Lexeme) → SameHead rest rest' → q (erase front ++ rest') ≡ Stuck Syntax rest'

-- What was read begins a phrase. A fault of syntax comes at the same place whatever comes after the next token. At one of
-- nesting the next token still begins a phrase, in which its level is above the limit.
abbrev pub Stops : {A : Type 0} → ℕ → Language A → Parser A → Fault → List Mark → List Lexeme → Type 0
Stops {A} limit L q Syntax front rest = ((a : A) × (more : List Mark) × Spells L a (front ++ more)) × Refuses q front rest
Stops {A} limit L q Nesting front rest = (t : Lexeme) × (following : List Lexeme) × (v : ℕ) × (limit < v) × (rest ≡ t ∷ following) × (a : A) × (more : List Mark) × Spells L a (front ++ high t v ∷ more)

pub record Found {A : Type 0} (limit : ℕ) (q : Parser A) (L : Language A) (ts : List Lexeme) (a : A) (rest : List Lexeme) : Type 0 where
  pub front : List Mark
  pub splits : ts ≡ erase front ++ rest
  pub phrase : Spells L a front
  pub low : AllLow limit front
  pub again : Reads q a front rest

pub record Lost {A : Type 0} (limit : ℕ) (q : Parser A) (L : Language A) (ts : List Lexeme) (f : Fault) (rest : List Lexeme) : Type 0 where
  pub front : List Mark
  pub splits : ts ≡ erase front ++ rest
  pub low : AllLow limit front
  pub stops : Stops limit L q f front rest

-- p reads phrases of L with levels up to the limit, and q does what p does unless p stops for nesting
pub record Works {A : Type 0} (limit : ℕ) (p q : Parser A) (L : Language A) : Type 0 where
  pub found : (ts : List Lexeme) (a : A) (rest : List Lexeme) → p ts ≡ Got a rest → Found limit q L ts a rest
  pub lost : (ts : List Lexeme) (f : Fault) (rest : List Lexeme) → p ts ≡ Stuck f rest → Lost limit q L ts f rest

module _ (limit : ℕ) where
  -- what is so of an answer
  abbrev pub Fits : {A : Type 0} → Parser A → Language A → List Lexeme → Outcome A → Type 0
  Fits q L ts (Got a rest) = Found limit q L ts a rest
  Fits q L ts (Stuck f rest) = Lost limit q L ts f rest
  Fits q L ts Spent = Unit {0}

  pub works_by : {A : Type 0} (p q : Parser A) (L : Language A) → ((ts : List Lexeme) → Fits q L ts (p ts)) → Works limit p q L
  works_by p q L fits = record { found = λ ts a rest e. subst (Fits q L ts) e (fits ts); lost = λ ts f rest e. subst (Fits q L ts) e (fits ts) }

  -- a, and no token
  abbrev pub IsNow : {A : Type 0} → A → Language A
  IsNow a x ms rest = (x ≡ a) × (ms ≡ rest)

  pub now_works : {A : Type 0} (a : A) → Works limit (λ ts. Got a ts) (λ ts. Got a ts) (IsNow a)
  now_works a = record {
    found = λ ts b rest e. let same : a ≡ b = cc in record { front = []; splits = cc; phrase = λ k. (sym same, refl); low = tt; again = λ rest' _. ap (λ x. Got x rest') same };
    lost = λ ts f rest e. cc;
  }

  -- a phrase of a larger language
  pub wider : {A : Type 0} {p q : Parser A} (L M : Language A) → ((a : A) (ms rest : List Mark) → L a ms rest → M a ms rest) → Works limit p q L → Works limit p q M
  wider {A} {p} {q} L M h w = record {
    found = λ ts a rest e. let f = w.found ts a rest e in record { front = f.front; splits = f.splits; phrase = λ k. h a (f.front ++ k) k (f.phrase k); low = f.low; again = f.again };
    lost = λ ts f rest e. let l = w.lost ts f rest e in record { front = l.front; splits = l.splits; low = l.low; stops = stops f l.front rest l.stops };
  }
    where
      stops : (f : Fault) (front : List Mark) (rest : List Lexeme) → Stops limit L q f front rest → Stops limit M q f front rest
      stops Syntax front rest s = ((s.0.0, s.0.1, λ k. h _ _ k (s.0.2 k)), s.1)
      stops Nesting front rest s = (s.0, s.1, s.2, s.3, s.4, s.5, s.6, λ k. h _ _ k (s.7 k))

  -- another parser that does the same
  pub same_works : {A : Type 0} {p q q' : Parser A} {L : Language A} → ((ts : List Lexeme) → q' ts ≡ q ts) → Works limit p q L → Works limit p q' L
  same_works {A} {p} {q} {q'} {L} is w = record {
    found = λ ts a rest e. let f = w.found ts a rest e in record { front = f.front; splits = f.splits; phrase = f.phrase; low = f.low; again = λ rest' same. is (erase f.front ++ rest') ∙ f.again rest' same };
    lost = λ ts f rest e. let l = w.lost ts f rest e in record { front = l.front; splits = l.splits; low = l.low; stops = stops f l.front rest l.stops };
  }
    where
      stops : (f : Fault) (front : List Mark) (rest : List Lexeme) → Stops limit L q f front rest → Stops limit L q' f front rest
      stops Syntax front rest s = (s.0, λ rest' same. is (erase front ++ rest') ∙ s.1 rest' same)
      stops Nesting front rest s = s

  -- one after the other
  abbrev pub Seq : {A B : Type 0} → Language A → (A → Language B) → Language B
  Seq {A} L M b ms rest = (a : A) × (mid : List Mark) × L a ms mid × M a b mid rest

  pub spells_both : {A B : Type 0} (L : Language A) (M : A → Language B) (a : A) (b : B) (xs ys : List Mark) → Spells L a xs → Spells (M a) b ys → Spells (Seq L M) b (xs ++ ys)
  spells_both L M a b xs ys h k z = (a, ys ++ z, subst (λ w. L a w (ys ++ z)) (sym (append_assoc xs ys z)) (h (ys ++ z)), k z)

  moved : {A : Type 0} (q : Parser A) (L : Language A) (ts : List Lexeme) (f g : Fault) (rest rest' : List Lexeme) → f ≡ g → rest ≡ rest' → Lost limit q L ts f rest → Lost limit q L ts g rest'
  moved q L ts f g rest rest' e d l = subst (λ x. Lost limit q L ts x rest') e (subst (λ x. Lost limit q L ts f x) d l)

  module _ {A B : Type 0} (p q : Parser A) (f g : A → Parser B) (L : Language A) (M : A → Language B) (w : Works limit p q L) (v : (a : A) → Works limit (f a) (g a) (M a)) (ends : (a : A) → HasPhrase (M a)) where
    both_again : (a : A) (xs ys : List Mark) (rest rest' : List Lexeme) (r : Outcome B) → Reads q a xs (erase ys ++ rest) → SameHead rest rest' → g a (erase ys ++ rest') ≡ r → (q >>= g) (erase (xs ++ ys) ++ rest') ≡ r
    both_again a xs ys rest rest' r reads same e =
        ap (q >>= g) (joined xs ys rest') ∙ ap (λ o. and_then o g) (reads (erase ys ++ rest') (same_head (erase ys) rest rest' same)) ∙ e

    both_stops : (a : A) (xs : List Mark) (f' : Fault) (ys : List Mark) (rest : List Lexeme) → Spells L a xs → Reads q a xs (erase ys ++ rest) → Stops limit (M a) (g a) f' ys rest → Stops limit (Seq L M) (q >>= g) f' (xs ++ ys) rest
    both_stops a xs Syntax ys rest h reads s = (
      (s.0.0, s.0.1, subst (Spells (Seq L M) s.0.0) (sym (append_assoc xs ys s.0.1)) (spells_both L M a s.0.0 xs (ys ++ s.0.1) h s.0.2)),
      λ rest' same. both_again a xs ys rest rest' (Stuck Syntax rest') reads same (s.1 rest' same),
    )
    both_stops a xs Nesting ys rest h reads s =
        (s.0, s.1, s.2, s.3, s.4, s.5, s.6, subst (Spells (Seq L M) s.5) (sym (append_assoc xs ys (high s.0 s.2 ∷ s.6))) (spells_both L M a s.5 xs (ys ++ high s.0 s.2 ∷ s.6) h s.7))

    both_splits : (ts mid rest : List Lexeme) (xs ys : List Mark) → ts ≡ erase xs ++ mid → mid ≡ erase ys ++ rest → ts ≡ erase (xs ++ ys) ++ rest
    both_splits ts mid rest xs ys e d = e ∙ ap (λ m. erase xs ++ m) d ∙ sym (joined xs ys rest)

    both_found : (ts : List Lexeme) (b : B) (rest : List Lexeme) (o : Outcome A) → p ts ≡ o → and_then o f ≡ Got b rest → Found limit (q >>= g) (Seq L M) ts b rest
    both_found ts b rest (Got a mid) e d =
        let x = w.found ts a mid e in let y = (v a).found mid b rest d in
        let reads = subst (λ m. Reads q a x.front m) y.splits x.again in
        record {
          front = x.front ++ y.front;
          splits = both_splits ts mid rest x.front y.front x.splits y.splits;
          phrase = spells_both L M a b x.front y.front x.phrase y.phrase;
          low = low-append limit x.front y.front x.low y.low;
          again = λ rest' same. both_again a x.front y.front rest rest' (Got b rest') reads same (y.again rest' same);
        }
    both_found ts b rest (Stuck f' mid) e d = cc
    both_found ts b rest Spent e d = cc

    both_lost : (ts : List Lexeme) (f' : Fault) (rest : List Lexeme) (o : Outcome A) → p ts ≡ o → and_then o f ≡ Stuck f' rest → Lost limit (q >>= g) (Seq L M) ts f' rest
    both_lost ts f' rest Spent e d = cc
    both_lost ts f' rest (Got a mid) e d =
        let x = w.found ts a mid e in let y = (v a).lost mid f' rest d in
        record {
          front = x.front ++ y.front;
          splits = both_splits ts mid rest x.front y.front x.splits y.splits;
          low = low-append limit x.front y.front x.low y.low;
          stops = both_stops a x.front f' y.front rest x.phrase (subst (λ m. Reads q a x.front m) y.splits x.again) y.stops;
        }
    both_lost ts f' rest (Stuck f'' mid) e d =
        let same : f'' ≡ f' = cc in let there : mid ≡ rest = cc in
        let x = w.lost ts f' rest (e ∙ (cc)) in
        record { front = x.front; splits = x.splits; low = x.low; stops = first f' x.front x.stops }
      where
        first : (f' : Fault) (front : List Mark) → Stops limit L q f' front rest → Stops limit (Seq L M) (q >>= g) f' front rest
        first Syntax front s =
            let a = s.0.0 in let end = ends a in (
              (end.0, s.0.1 ++ end.1, subst (Spells (Seq L M) end.0) (append_assoc front s.0.1 end.1) (spells_both L M a end.0 (front ++ s.0.1) end.1 s.0.2 end.2)),
              λ rest' same. ap (λ o. and_then o g) (s.1 rest' same),
            )
        first Nesting front s =
            let a = s.5 in let end = ends a in
            (s.0, s.1, s.2, s.3, s.4, end.0, s.6 ++ end.1, subst (Spells (Seq L M) end.0) (append_assoc front (high s.0 s.2 ∷ s.6) end.1) (spells_both L M a end.0 (front ++ high s.0 s.2 ∷ s.6) end.1 s.7 end.2))

    pub both_works : Works limit (p >>= f) (q >>= g) (Seq L M)
    both_works = record {
      found = λ ts b rest e. both_found ts b rest (p ts) refl e;
      lost = λ ts f' rest e. both_lost ts f' rest (p ts) refl e;
    }

  -- a fault of syntax at the very token
  pub wrong_here : {A : Type 0} (q : Parser A) (L : Language A) (ts : List Lexeme) → HasPhrase L → ((rest' : List Lexeme) → SameHead ts rest' → q rest' ≡ Stuck Syntax rest') → Lost limit q L ts Syntax ts
  wrong_here q L ts some h = record { front = []; splits = refl; low = tt; stops = (some, h) }

  -- ---- one token

  abbrev pub IsOne : (c : Class) → ℕ → Language (Value c × Position)
  IsOne c l x ms rest = ms ≡ mark (kind_of c x.0) x.1 l ∷ rest

  module _ (m : ℕ) (more : limit ≤ m) (c : Class) (l : ℕ) where
    an_example : HasPhrase (IsOne c l)
    an_example = ((example c, position_at 1 1), (mark (kind_of c (example c)) (position_at 1 1) l ∷ []), λ k. refl)

    fits : (n : ℕ) → nat_le l n ≡ true → l ≤ n
    fits n h = grind (arith, nat_tests)

    above : nat_le l limit ≡ false → limit < l
    above h = grind (arith, nat_tests)

    still : l ≤ m → nat_le l m ≡ true
    still h = grind (arith, nat_tests)

    as_mark : (t : Lexeme) (v : Value c) (n : ℕ) → grab c t.kind ≡ Some v → high t n ≡ mark (kind_of c v) t.place n
    as_mark t v n h = ap (λ (k : Kind). mark k t.place n) (grabbed c t.kind v h)

    one_found : (t : Lexeme) (ts : List Lexeme) (a : Value c × Position) (rest : List Lexeme) (o : Option (Value c)) (b : Bool) → grab c t.kind ≡ o → nat_le l limit ≡ b → taken limit l o t ts ≡ Got a rest → Found limit (token m c l) (IsOne c l) (t ∷ ts) a rest
    one_found t ts a rest None b h d e = cc
    one_found t ts a rest (Some v) false h d e = let no : Path (Outcome (Value c × Position)) (Stuck Nesting (t ∷ ts)) (Got a rest) = ap (λ b. cond b (Got (v, t.place) ts) (Stuck Nesting (t ∷ ts))) (sym d) ∙ e in cc
    one_found t ts a rest (Some v) true h d e =
        let yes : Path (Outcome (Value c × Position)) (Got (v, t.place) ts) (Got a rest) = ap (λ b. cond b (Got (v, t.place) ts) (Stuck Nesting (t ∷ ts))) (sym d) ∙ e in
        let same : (v, t.place) ≡ a = cc in let there : ts ≡ rest = cc in
        let low : l ≤ limit = fits limit d in
        record {
          front = high t l ∷ [];
          splits = ap (λ r. t ∷ r) there;
          phrase = λ k. ap (λ z. z ∷ k) (as_mark t v l h) ∙ ap (λ (x : Value c × Position). mark (kind_of c x.0) x.1 l ∷ k) same;
          low = (low, tt);
          again = λ rest' _. ap (λ o. taken m l o t rest') h ∙ ap (λ b. cond b (Got (v, t.place) rest') (Stuck Nesting (t ∷ rest'))) (still (omega (arith, low, more))) ∙ ap (λ x. Got x rest') same;
        }

    one_refuses : (t : Lexeme) (ts : List Lexeme) → grab c t.kind ≡ None → (rest' : List Lexeme) → SameHead (t ∷ ts) rest' → token m c l rest' ≡ Stuck Syntax rest'
    one_refuses t ts h [] same = absurd same
    one_refuses t ts h (u ∷ us) same = ap (λ o. taken m l o u us) (ap (λ (x : Lexeme). grab c x.kind) (sym same) ∙ h)

    one_lost : (t : Lexeme) (ts : List Lexeme) (f' : Fault) (rest : List Lexeme) (o : Option (Value c)) (b : Bool) → grab c t.kind ≡ o → nat_le l limit ≡ b → taken limit l o t ts ≡ Stuck f' rest → Lost limit (token m c l) (IsOne c l) (t ∷ ts) f' rest
    one_lost t ts f' rest None b h d e =
        moved (token m c l) (IsOne c l) (t ∷ ts) Syntax f' (t ∷ ts) rest (cc) (cc) (wrong_here (token m c l) (IsOne c l) (t ∷ ts) an_example (one_refuses t ts h))
    one_lost t ts f' rest (Some v) true h d e = let no : Path (Outcome (Value c × Position)) (Got (v, t.place) ts) (Stuck f' rest) = ap (λ b. cond b (Got (v, t.place) ts) (Stuck Nesting (t ∷ ts))) (sym d) ∙ e in cc
    one_lost t ts f' rest (Some v) false h d e =
        let yes : Path (Outcome (Value c × Position)) (Stuck Nesting (t ∷ ts)) (Stuck f' rest) = ap (λ b. cond b (Got (v, t.place) ts) (Stuck Nesting (t ∷ ts))) (sym d) ∙ e in
        moved (token m c l) (IsOne c l) (t ∷ ts) Nesting f' (t ∷ ts) rest (cc) (cc)
        (record { front = []; splits = refl; low = tt; stops = (t, ts, l, above d, refl, (v, t.place), [], λ k. ap (λ z. z ∷ k) (as_mark t v l h)) })

    one_at_end : (rest' : List Lexeme) → SameHead [] rest' → token m c l rest' ≡ Stuck Syntax rest'
    one_at_end [] same = refl
    one_at_end (u ∷ us) same = absurd same

    all_found : (ts : List Lexeme) (a : Value c × Position) (rest : List Lexeme) → token limit c l ts ≡ Got a rest → Found limit (token m c l) (IsOne c l) ts a rest
    all_found [] a rest e = cc
    all_found (t ∷ ts) a rest e = one_found t ts a rest (grab c t.kind) (nat_le l limit) refl refl e

    all_lost : (ts : List Lexeme) (f' : Fault) (rest : List Lexeme) → token limit c l ts ≡ Stuck f' rest → Lost limit (token m c l) (IsOne c l) ts f' rest
    all_lost [] f' rest e = moved (token m c l) (IsOne c l) [] Syntax f' [] rest (cc) (cc) (wrong_here (token m c l) (IsOne c l) [] an_example one_at_end)
    all_lost (t ∷ ts) f' rest e = one_lost t ts f' rest (grab c t.kind) (nat_le l limit) refl refl e

    pub one_works : Works limit (token limit c l) (token m c l) (IsOne c l)
    one_works = record { found = all_found; lost = all_lost }

  -- ---- one of two, by the next token

  abbrev pub picks : {A : Type 0} → (Kind → Bool) → Parser A → Parser A → Parser A
  picks test p q ts = cond (passes test ts) (p ts) (q ts)

  pub passes_same : (test : Kind → Bool) (front rest rest' : List Lexeme) → SameHead rest rest' → passes test (front ++ rest') ≡ passes test (front ++ rest)
  passes_same test [] [] [] same = refl
  passes_same test [] [] (u ∷ us) same = absurd same
  passes_same test [] (t ∷ ts) [] same = absurd same
  passes_same test [] (t ∷ ts) (u ∷ us) same = ap (λ (x : Lexeme). test x.kind) (sym same)
  passes_same test (t ∷ front) rest rest' same = refl

  module _ {A : Type 0} (test : Kind → Bool) (p p' q q' : Parser A) (L : Language A) (w : Works limit p p' L) (v : Works limit q q' L) where
    chosen : (ts front rest rest' : List Lexeme) (b : Bool) → passes test ts ≡ b → ts ≡ front ++ rest → SameHead rest rest' → picks test p' q' (front ++ rest') ≡ cond b (p' (front ++ rest')) (q' (front ++ rest'))
    chosen ts front rest rest' b h e same = ap (λ b. cond b (p' (front ++ rest')) (q' (front ++ rest'))) (passes_same test front rest rest' same ∙ ap (passes test) (sym e) ∙ h)

    found_by : (ts : List Lexeme) (a : A) (rest : List Lexeme) (b : Bool) → passes test ts ≡ b → cond b (p ts) (q ts) ≡ Got a rest → Found limit (picks test p' q') L ts a rest
    found_by ts a rest true h e = let f = w.found ts a rest e in record { front = f.front; splits = f.splits; phrase = f.phrase; low = f.low; again = λ rest' same. chosen ts (erase f.front) rest rest' true h f.splits same ∙ f.again rest' same }
    found_by ts a rest false h e = let f = v.found ts a rest e in record { front = f.front; splits = f.splits; phrase = f.phrase; low = f.low; again = λ rest' same. chosen ts (erase f.front) rest rest' false h f.splits same ∙ f.again rest' same }

    stops_by : (ts : List Lexeme) (b : Bool) (x : Parser A) → ((us : List Lexeme) → cond b (p' us) (q' us) ≡ x us) → passes test ts ≡ b → (f : Fault) (front : List Mark) (rest : List Lexeme) → ts ≡ erase front ++ rest → Stops limit L x f front rest → Stops limit L (picks test p' q') f front rest
    stops_by ts b x is h Syntax front rest e s = (s.0, λ rest' same. chosen ts (erase front) rest rest' b h e same ∙ is (erase front ++ rest') ∙ s.1 rest' same)
    stops_by ts b x is h Nesting front rest e s = s

    lost_by : (ts : List Lexeme) (f : Fault) (rest : List Lexeme) (b : Bool) → passes test ts ≡ b → cond b (p ts) (q ts) ≡ Stuck f rest → Lost limit (picks test p' q') L ts f rest
    lost_by ts f rest true h e = let l = w.lost ts f rest e in record { front = l.front; splits = l.splits; low = l.low; stops = stops_by ts true p' (λ us. refl) h f l.front rest l.splits l.stops }
    lost_by ts f rest false h e = let l = v.lost ts f rest e in record { front = l.front; splits = l.splits; low = l.low; stops = stops_by ts false q' (λ us. refl) h f l.front rest l.splits l.stops }

    pub picks_works : Works limit (picks test p q) (picks test p' q') L
    picks_works = record { found = λ ts a rest e. found_by ts a rest (passes test ts) refl e; lost = λ ts f rest e. lost_by ts f rest (passes test ts) refl e }
