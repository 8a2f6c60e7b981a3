-- The front of a declarator is read as the grammar has it.
use Rattle.std.proofs.Common.{◌≡◌, ℕ, suc, ◌+◌, ◌-◌, ◌≤◌, ◌<◌, Bool, true, false, cond, List, [], ◌∷◌, ◌++◌, length, drop, Option, Some, None, is_some, refl, sym, ◌∙◌, ap, subst, append_assoc, arith, nat_le}
use Rattle.c_lexer.specs.declared.token.Kind.{Kind}
use Rattle.c_lexer.specs.declared.token.Kind.TheVariants as kind
use Rattle.c_lexer.specs.declared.token.Punct.TheVariants as punct
use Rattle.rr_base.specs.declared.position.Position.{Position}
use Rattle.c_print.specs.Kinds.{p}
use Rattle.c_grammar.specs.Marks.{Lexeme, lexeme, Mark, mark, erase}
use Rattle.c_grammar.specs.Phrase.{Front, object_front, pointer_front}
use Rattle.c_grammar.specs.Parse.{a_name, grab, is_of, begins_declarator, Syntax, Nesting, Outcome, Got, Stuck, token, passes, and_then, star_count, named_front, fronted, declarator_front}
use Rattle.c_grammar.proofs.Works.{Spells, Found, Lost, Works, high, low-append, Fits, works_by, passes_same}
use Rattle.c_grammar.proofs.Language.{OfFront}
use Rattle.c_grammar.proofs.Heads.{is_star, is_open, AllStars, split, flat, rising, erase-flat, erase-rising, low-flat, low-rising, open_mark, name_mark, open_no_star, flat_stars, rising_stars, counts, drops, named_at, no_name, name_no_star, name_no_open, a_place, some_open, Cut, cut, rising-cut, le_true, true_le, false_lt, named_splits}

-- ---- what is read

-- where the stars are
front_on : (m l : ℕ) (ss us : List Lexeme) → AllStars ss → passes is_star us ≡ false → l ≤ m → declarator_front m l (ss ++ us) ≡ fronted m l (ss ++ us) (length ss) us
front_on m l ss us h e le =
    ap (λ b. cond b (fronted m l (ss ++ us) (star_count (ss ++ us)) (drop (star_count (ss ++ us)) (ss ++ us))) (cond (passes begins_declarator (ss ++ us)) (Stuck Nesting (ss ++ us)) (Stuck Syntax (ss ++ us)))) (le_true l m le)
    ∙ ap (λ n. fronted m l (ss ++ us) n (drop n (ss ++ us))) (counts ss us h e)
    ∙ ap (λ z. fronted m l (ss ++ us) (length ss) z) (drops ss us)

-- whether a parenthesis comes after n stars
fronted_is : (m l : ℕ) (ts : List Lexeme) (n : ℕ) (us : List Lexeme) (b : Bool) → passes is_open us ≡ b → fronted m l ts n us ≡ cond b (Got (pointer_front n) (drop 1 us)) (and_then (token m a_name 0 us) (λ x. named_front m l ts n x.0 x.1))
fronted_is m l ts n us b h = ap (λ b. cond b (Got (pointer_front n) (drop 1 us)) (and_then (token m a_name 0 us) (λ x. named_front m l ts n x.0 x.1))) h

pub front_open : (m l : ℕ) (ss : List Lexeme) (o : Lexeme) (ws : List Lexeme) → AllStars ss → is_open o.kind ≡ true → l ≤ m → declarator_front m l (ss ++ o ∷ ws) ≡ Got (pointer_front (length ss)) ws
front_open m l ss o ws h d le = front_on m l ss (o ∷ ws) h (open_no_star o d) le ∙ fronted_is m l (ss ++ o ∷ ws) (length ss) (o ∷ ws) true d

named : (m l : ℕ) (ss : List Lexeme) (t : Lexeme) (vs : List Lexeme) (x : List ℕ) → AllStars ss → grab a_name t.kind ≡ Some x → l ≤ m → declarator_front m l (ss ++ t ∷ vs) ≡ named_front m l (ss ++ t ∷ vs) (length ss) x t.place vs
named m l ss t vs x h e le =
    front_on m l ss (t ∷ vs) h (name_no_star t x e) le
    ∙ fronted_is m l (ss ++ t ∷ vs) (length ss) (t ∷ vs) false (name_no_open t x e)
    ∙ ap (λ o. and_then o (λ x. named_front m l (ss ++ t ∷ vs) (length ss) x.0 x.1)) (named_at m t x vs e)

-- whether the name stands within the limit
named_is : (m l : ℕ) (ts : List Lexeme) (n : ℕ) (x : List ℕ) (at : Position) (vs : List Lexeme) (b : Bool) → nat_le (l + n) m ≡ b → named_front m l ts n x at vs ≡ cond b (Got (object_front n x at) vs) (Stuck Nesting (drop (m - l) ts))
named_is m l ts n x at vs b h = ap (λ b. cond b (Got (object_front n x at) vs) (Stuck Nesting (drop (m - l) ts))) h

pub front_named : (m l : ℕ) (ss : List Lexeme) (t : Lexeme) (vs : List Lexeme) (x : List ℕ) → AllStars ss → grab a_name t.kind ≡ Some x → l + length ss ≤ m → declarator_front m l (ss ++ t ∷ vs) ≡ Got (object_front (length ss) x t.place) vs
front_named m l ss t vs x h e le =
    named m l ss t vs x h e (omega (arith, le)) ∙ named_is m l (ss ++ t ∷ vs) (length ss) x t.place vs true (le_true (l + length ss) m le)

-- neither a parenthesis nor a name
front_refuses : (m l : ℕ) (ss us : List Lexeme) → AllStars ss → passes is_star us ≡ false → passes is_open us ≡ false → passes (is_of a_name) us ≡ false → l ≤ m → declarator_front m l (ss ++ us) ≡ Stuck Syntax us
front_refuses m l ss us h e d c le =
    front_on m l ss us h e le ∙ fronted_is m l (ss ++ us) (length ss) us false d ∙ ap (λ o. and_then o (λ x. named_front m l (ss ++ us) (length ss) x.0 x.1)) (no_name m us c)

-- ---- in a context within the limit

pointer_spells : (l : ℕ) (ss : List Lexeme) (o : Lexeme) → AllStars ss → is_open o.kind ≡ true → Spells (OfFront l) (pointer_front (length ss)) (flat l ss ++ high o l ∷ [])
pointer_spells l ss o h d k =
    subst (λ z. OfFront l (pointer_front (length ss)) z k) (sym (append_assoc (flat l ss) (high o l ∷ []) k))
    (high o l ∷ k, flat_stars l ss h (high o l ∷ k), (o.place, ap (λ z. z ∷ k) (open_mark o l d)))

object_spells : (l : ℕ) (ss : List Lexeme) (t : Lexeme) (x : List ℕ) → AllStars ss → grab a_name t.kind ≡ Some x → Spells (OfFront l) (object_front (length ss) x t.place) (rising l ss ++ high t (l + length ss) ∷ [])
object_spells l ss t x h e k =
    subst (λ z. OfFront l (object_front (length ss) x t.place) z k) (sym (append_assoc (rising l ss) (high t (l + length ss) ∷ []) k))
    (high t (l + length ss) ∷ k, rising_stars l ss h (high t (l + length ss) ∷ k), ap (λ z. z ∷ k) (name_mark t x (l + length ss) e))

module _ (limit m l : ℕ) (more : limit ≤ m) where
  abbrev FrontFits : List Lexeme → Outcome Front → Type 0
  FrontFits ts o = Fits limit (declarator_front m l) (OfFront l) ts o

  found_pointer : (ss : List Lexeme) (o : Lexeme) (ws : List Lexeme) → AllStars ss → is_open o.kind ≡ true → l ≤ limit → Found limit (declarator_front m l) (OfFront l) (ss ++ o ∷ ws) (pointer_front (length ss)) ws
  found_pointer ss o ws h d le = record {
    front = flat l ss ++ high o l ∷ [];
    splits = named_splits (flat l ss) ss ws o l (erase-flat l ss);
    phrase = pointer_spells l ss o h d;
    low = low-append limit (flat l ss) (high o l ∷ []) (low-flat limit l ss le) (le, tt);
    again = λ rest' _. ap (declarator_front m l) (sym (named_splits (flat l ss) ss rest' o l (erase-flat l ss))) ∙ front_open m l ss o rest' h d (omega (arith, le, more));
  }

  found_object : (ss : List Lexeme) (t : Lexeme) (vs : List Lexeme) (x : List ℕ) → AllStars ss → grab a_name t.kind ≡ Some x → l + length ss ≤ limit → Found limit (declarator_front m l) (OfFront l) (ss ++ t ∷ vs) (object_front (length ss) x t.place) vs
  found_object ss t vs x h e le = record {
    front = rising l ss ++ high t (l + length ss) ∷ [];
    splits = named_splits (rising l ss) ss vs t (l + length ss) (erase-rising l ss);
    phrase = object_spells l ss t x h e;
    low = low-append limit (rising l ss) (high t (l + length ss) ∷ []) (low-rising limit l ss le) (le, tt);
    again = λ rest' _. ap (declarator_front m l) (sym (named_splits (rising l ss) ss rest' t (l + length ss) (erase-rising l ss))) ∙ front_named m l ss t rest' x h e (omega (arith, le, more));
  }

  -- too many stars for an object
  lost_stars : (ss : List Lexeme) (t : Lexeme) (vs : List Lexeme) (x : List ℕ) → AllStars ss → grab a_name t.kind ≡ Some x → l ≤ limit → limit < l + length ss → Lost limit (declarator_front m l) (OfFront l) (ss ++ t ∷ vs) Nesting (drop (limit - l) (ss ++ t ∷ vs))
  lost_stars ss t vs x h e le lt = by (cut (limit - l) ss (omega (arith, le, lt)))
    where
      by : Cut (limit - l) ss → Lost limit (declarator_front m l) (OfFront l) (ss ++ t ∷ vs) Nesting (drop (limit - l) (ss ++ t ∷ vs))
      by c =
          let following = c.one ∷ (c.following ++ t ∷ vs) in
          let whole : ss ++ t ∷ vs ≡ c.front ++ following = ap (λ z. z ++ t ∷ vs) c.whole ∙ append_assoc c.front (c.one ∷ c.following) (t ∷ vs) in
          let dropped : drop (limit - l) (ss ++ t ∷ vs) ≡ following = ap (λ z. drop (limit - l) z) whole ∙ ap (λ n. drop n (c.front ++ following)) (sym c.long) ∙ drops c.front following in
          let last : suc (l + length c.front) ≡ suc limit = omega (arith, c.long, le) in
          let marks : rising l ss ≡ rising l c.front ++ high c.one (suc limit) ∷ rising (suc limit) c.following = ap (rising l) c.whole ∙ rising-cut l c.front c.one c.following ∙ ap (λ z. rising l c.front ++ high c.one z ∷ rising z c.following) last in
          record {
            front = rising l c.front;
            splits = whole ∙ ap (λ z. z ++ following) (sym (erase-rising l c.front)) ∙ ap (λ z. erase (rising l c.front) ++ z) (sym dropped);
            low = low-rising limit l c.front (omega (arith, c.long, le));
            stops = (
              c.one,
              c.following ++ t ∷ vs,
              suc limit,
              omega arith,
              dropped,
              object_front (length ss) x t.place,
              rising (suc limit) c.following ++ high t (l + length ss) ∷ [],
              subst (Spells (OfFront l) (object_front (length ss) x t.place)) (ap (λ z. z ++ high t (l + length ss) ∷ []) marks ∙ append_assoc (rising l c.front) (high c.one (suc limit) ∷ rising (suc limit) c.following) (high t (l + length ss) ∷ [])) (object_spells l ss t x h e),
            );
          }

  neither : (ss us : List Lexeme) → AllStars ss → passes is_star us ≡ false → passes is_open us ≡ false → passes (is_of a_name) us ≡ false → l ≤ limit → Lost limit (declarator_front m l) (OfFront l) (ss ++ us) Syntax us
  neither ss us h e d c le = record {
    front = flat l ss;
    splits = ap (λ z. z ++ us) (sym (erase-flat l ss));
    low = low-flat limit l ss le;
    stops = (
      (pointer_front (length ss), high some_open l ∷ [], pointer_spells l ss some_open h refl),
      λ rest' same. ap (λ z. declarator_front m l (z ++ rest')) (erase-flat l ss)
          ∙ front_refuses m l ss rest' h (passes_same limit is_star [] us rest' same ∙ e) (passes_same limit is_open [] us rest' same ∙ d) (passes_same limit (is_of a_name) [] us rest' same ∙ c) (omega (arith, le, more)),
    );
  }

  fits_object : (ss : List Lexeme) (t : Lexeme) (vs : List Lexeme) (x : List ℕ) (b : Bool) → AllStars ss → grab a_name t.kind ≡ Some x → l ≤ limit → nat_le (l + length ss) limit ≡ b → FrontFits (ss ++ t ∷ vs) (declarator_front limit l (ss ++ t ∷ vs))
  fits_object ss t vs x true h e le d = subst (FrontFits (ss ++ t ∷ vs)) (sym (front_named limit l ss t vs x h e (true_le (l + length ss) limit d))) (found_object ss t vs x h e (true_le (l + length ss) limit d))
  fits_object ss t vs x false h e le d =
      subst (FrontFits (ss ++ t ∷ vs)) (sym (named limit l ss t vs x h e le ∙ named_is limit l (ss ++ t ∷ vs) (length ss) x t.place vs false d)) (lost_stars ss t vs x h e le (false_lt (l + length ss) limit d))

  fits_named : (ss : List Lexeme) (t : Lexeme) (vs : List Lexeme) (o : Option (List ℕ)) → AllStars ss → passes is_star (t ∷ vs) ≡ false → is_open t.kind ≡ false → l ≤ limit → grab a_name t.kind ≡ o → FrontFits (ss ++ t ∷ vs) (declarator_front limit l (ss ++ t ∷ vs))
  fits_named ss t vs (Some x) h e c le d = fits_object ss t vs x (nat_le (l + length ss) limit) h d le refl
  fits_named ss t vs None h e c le d = let no = ap is_some d in subst (FrontFits (ss ++ t ∷ vs)) (sym (front_refuses limit l ss (t ∷ vs) h e c no le)) (neither ss (t ∷ vs) h e c no le)

  fits_open : (ss : List Lexeme) (t : Lexeme) (vs : List Lexeme) (b : Bool) → AllStars ss → passes is_star (t ∷ vs) ≡ false → l ≤ limit → is_open t.kind ≡ b → FrontFits (ss ++ t ∷ vs) (declarator_front limit l (ss ++ t ∷ vs))
  fits_open ss t vs true h e le d = subst (FrontFits (ss ++ t ∷ vs)) (sym (front_open limit l ss t vs h d le)) (found_pointer ss t vs h d le)
  fits_open ss t vs false h e le d = fits_named ss t vs (grab a_name t.kind) h e d le refl

  fits_split : (ss us : List Lexeme) → AllStars ss → passes is_star us ≡ false → l ≤ limit → FrontFits (ss ++ us) (declarator_front limit l (ss ++ us))
  fits_split ss [] h e le = subst (FrontFits (ss ++ [])) (sym (front_refuses limit l ss [] h e refl refl le)) (neither ss [] h e refl refl le)
  fits_split ss (t ∷ vs) h e le = fits_open ss t vs (is_open t.kind) h e le refl

  -- ---- in a context above the limit

  -- what doesn't begin a declarator is no part of its front
  no_star : (k : Kind) → begins_declarator k ≡ false → is_star k ≡ false
  no_star (kind.Punct punct.Star) h = cc
  no_star _ h = refl

  no_open : (k : Kind) → begins_declarator k ≡ false → is_open k ≡ false
  no_open (kind.Punct punct.OpenParen) h = cc
  no_open _ h = refl

  no_front_name : (k : Kind) → begins_declarator k ≡ false → is_of a_name k ≡ false
  no_front_name (kind.Name x) h = cc
  no_front_name _ h = refl

  by_kind : (test : Kind → Bool) → ((k : Kind) → begins_declarator k ≡ false → test k ≡ false) → (ts : List Lexeme) → passes begins_declarator ts ≡ false → passes test ts ≡ false
  by_kind test h [] e = refl
  by_kind test h (t ∷ ts) e = h t.kind e

  deep_refuses : (ts : List Lexeme) (b : Bool) → passes begins_declarator ts ≡ false → nat_le l m ≡ b → declarator_front m l ts ≡ Stuck Syntax ts
  deep_refuses ts true e d = front_refuses m l [] ts tt (by_kind is_star no_star ts e) (by_kind is_open no_open ts e) (by_kind (is_of a_name) no_front_name ts e) (true_le l m d)
  deep_refuses ts false e d =
      ap (λ b. cond b (fronted m l ts (star_count ts) (drop (star_count ts) ts)) (cond (passes begins_declarator ts) (Stuck Nesting ts) (Stuck Syntax ts))) d
      ∙ ap (λ b. cond b (Stuck Nesting ts) (Stuck Syntax ts)) e

  deep_wrong : (ts : List Lexeme) → passes begins_declarator ts ≡ false → Lost limit (declarator_front m l) (OfFront l) ts Syntax ts
  deep_wrong ts e = record {
    front = [];
    splits = refl;
    low = tt;
    stops = (
      (pointer_front 0, high some_open l ∷ [], λ k. (high some_open l ∷ k, refl, (a_place, refl))),
      λ rest' same. deep_refuses rest' (nat_le l m) (passes_same limit begins_declarator [] ts rest' same ∙ e) refl,
    );
  }

  -- the first token of some front
  record Above (t : Lexeme) : Type 0 where
    whose : Front
    following : List Mark
    spells : Spells (OfFront l) whose (high t l ∷ following)

  above : (k : Kind) (at : Position) → begins_declarator k ≡ true → Above (lexeme k at)
  above (kind.Punct punct.Star) at h = record { whose = pointer_front 1; following = high some_open l ∷ []; spells = λ k. (high some_open l ∷ k, (high some_open l ∷ k, (at, refl), refl), (a_place, refl)) }
  above (kind.Punct punct.OpenParen) at h = record { whose = pointer_front 0; following = []; spells = λ k. (high (lexeme (p punct.OpenParen) at) l ∷ k, refl, (at, refl)) }
  above (kind.Name x) at h =
      let same : l ≡ l + 0 = omega arith in
      record { whose = object_front 0 x at; following = []; spells = λ k. (mark (kind.Name x) at l ∷ k, refl, ap (λ z. mark (kind.Name x) at z ∷ k) same) }
  above _ at h = cc

  deep_front : (t : Lexeme) → limit < l → Above t → (vs : List Lexeme) → Lost limit (declarator_front m l) (OfFront l) (t ∷ vs) Nesting (t ∷ vs)
  deep_front t lt a vs = record { front = []; splits = refl; low = tt; stops = (t, vs, l, lt, refl, a.whose, a.following, a.spells) }

  deep : (ts : List Lexeme) (b : Bool) → limit < l → passes begins_declarator ts ≡ b → FrontFits ts (cond b (Stuck Nesting ts) (Stuck Syntax ts))
  deep [] true lt h = cc
  deep (t ∷ vs) true lt h = deep_front t lt (above t.kind t.place h) vs
  deep ts false lt h = deep_wrong ts h

  fits_by : (ts : List Lexeme) (b : Bool) → nat_le l limit ≡ b → FrontFits ts (declarator_front limit l ts)
  fits_by ts true h = let s = split ts in subst (λ z. FrontFits z (declarator_front limit l z)) (sym s.whole) (fits_split s.stars s.following s.all s.ends (true_le l limit h))
  fits_by ts false h =
      subst (λ b. FrontFits ts (cond b (fronted limit l ts (star_count ts) (drop (star_count ts) ts)) (cond (passes begins_declarator ts) (Stuck Nesting ts) (Stuck Syntax ts)))) (sym h)
      (deep ts (passes begins_declarator ts) (false_lt l limit h) refl)

  pub front_works : Works limit (declarator_front limit l) (declarator_front m l) (OfFront l)
  front_works = works_by limit (declarator_front limit l) (declarator_front m l) (OfFront l) (λ ts. fits_by ts (nat_le l limit) refl)
