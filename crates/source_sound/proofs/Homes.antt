-- Where the global objects lie: one after another, each with the kinds of its layout, and each name leads to its pointer.
use Rattle.std.proofs.Common.{◌≡◌, ℕ, zero, suc, ◌+◌, ◌<◌, ◌≤◌, Bool, true, false, ◌==◌, if◌then◌else◌, List, [], ◌∷◌, ◌++◌, map, length, Option, Some, None, is_some, slice_get, slice_index_or, ◌⊎◌, inl, inr, refl, sym, ap, ◌∙◌, subst, arith, true≢false, length-append}
use Rattle.std.proofs.lemmas.Bool.Decides.{nat_tests}
use Rattle.std.proofs.lemmas.Option.{same_Some, none-some}
use Rattle.rr_base.specs.Words.{pack}
use Rattle.rr_base.specs.declared.layout.CellKind.{CellKind}
use Rattle.rr_base.specs.declared.layout.Layout.{Layout}
use Rattle.word_semantics.specs.Pointers.{site_at, base_at}
use Rattle.word_semantics.specs.Cells.{size_of, size_in}
use Rattle.rr_base.specs.Texts.{Text, entry_of}
use Rattle.c_types.specs.Scopes.{with_name}
use Rattle.c_spots.specs.Spots.{Holder, a_global, a_local, an_allocation, Spot}
use Rattle.c_sites.specs.Sites.{site_of, layout_by}
use Rattle.c_operators.specs.Context.{pointer_or_null}
use Rattle.c_globals.specs.Globals.{with_global, holder_cells, globals_after, holder_kinds, global_kinds, holder_base, global_bases}
use Rattle.source_sound.proofs.FileLists.{text_same}
use Rattle.source_sound.proofs.FileScope.{AllOf, all_with, found_entry, entry_kept, entry_new}
use Rattle.source_sound.proofs.Structs.{layout_length}

-- what lies before the n-th
got_after : {A : Type 0} (xs ys : List A) (i : ℕ) → slice_get (xs ++ ys) (length xs + i) ≡ slice_get ys i
got_after [] ys i = let e : 0 + i ≡ i = omega arith in ap (λ k. slice_get ys k) e
got_after (x ∷ xs) ys i = let e : suc (length xs) + i ≡ suc (length xs + i) = omega arith in ap (λ k. slice_get (x ∷ xs ++ ys) k) e ∙ got_after xs ys i

got_in_front : {A : Type 0} (xs ys : List A) (i : ℕ) (x : A) → slice_get xs i ≡ Some x → slice_get (xs ++ ys) i ≡ Some x
got_in_front [] ys i x e = absurd (none-some x e)
got_in_front (y ∷ xs) ys zero x e = e
got_in_front (y ∷ xs) ys (suc i) x e = got_in_front xs ys i x e

same_number : (s k : ℕ) → (s == k) ≡ true → s ≡ k
same_number s k e = grind (arith, nat_tests)

other_number : (s k : ℕ) → (s ≡ k → ⊥) → (s == k) ≡ false
other_number s k ne = grind (arith, nat_tests)

own_number : (k : ℕ) → (k == k) ≡ true
own_number k = grind (arith, nat_tests)

module _ (ks : List (List CellKind)) where
  abbrev pub layout_at : Spot → Layout
  layout_at x = layout_by ks x.of

  -- the first cell of the global with this site, where these spots have sites from k on and cells from base on
  abbrev pub home_from : ℕ → ℕ → List Spot → ℕ → Option ℕ
  home_from k base [] s = None
  home_from k base (x ∷ xs) s = if s == k then holder_base x.holder base else home_from (k + 1) (base + holder_cells x.holder (layout_at x).size) xs s

  abbrev pub size_from : ℕ → List Spot → ℕ → ℕ
  size_from k [] s = 0
  size_from k (x ∷ xs) s = if s == k then (layout_at x).size else size_from (k + 1) xs s

  abbrev pub kinds_in : List Spot → List CellKind
  kinds_in xs = global_kinds xs (map (site_of ks) xs)

  cells_kinds : (h : Holder) (t : Layout) → length t.kinds ≡ t.size → length (holder_kinds h t.kinds) ≡ holder_cells h t.size
  cells_kinds (a_global name) t e = e
  cells_kinds (a_local f name) t e = refl
  cells_kinds an_allocation t e = refl

  pub record IsHome (k base : ℕ) (xs : List Spot) (kinds : List CellKind) (s b : ℕ) : Type 0 where
    pub index : ℕ
    pub number : s ≡ k + index
    pub spot : Spot
    pub is : slice_get xs index ≡ Some spot
    pub size : size_from k xs s ≡ (layout_at spot).size
    pub offset : ℕ
    pub place : b ≡ base + offset
    pub within : offset + (layout_at spot).size ≤ length kinds
    pub kinds_are : (i : ℕ) (cell : CellKind) → slice_get (layout_at spot).kinds i ≡ Some cell → slice_get kinds (offset + i) ≡ Some cell

  first_home : (k base s b : ℕ) (x : Spot) (xs : List Spot) (h : Holder) (rest : List CellKind) → (s == k) ≡ true → holder_base h base ≡ Some b → IsHome k base (x ∷ xs) (holder_kinds h (layout_at x).kinds ++ rest) s b
  first_home k base s b x xs (a_global name) rest same e =
      let long = length-append (layout_at x).kinds rest in
      let own = layout_length ks x.of in
      let at = same_Some base b e in
      record {
        index = 0;
        number = let is = same_number s k same in omega (arith, is);
        spot = x;
        is = refl;
        size = ap (λ c. if c then (layout_at x).size else size_from (k + 1) xs s) same;
        offset = 0;
        place = omega (arith, at);
        within = omega (arith, long, own);
        kinds_are = λ i cell got. let z : 0 + i ≡ i = omega arith in ap (λ j. slice_get ((layout_at x).kinds ++ rest) j) z ∙ got_in_front (layout_at x).kinds rest i cell got;
      }
  first_home k base s b x xs (a_local f name) rest same e = absurd (none-some b e)
  first_home k base s b x xs an_allocation rest same e = absurd (none-some b e)

  next_home : (k base s b cells : ℕ) (x : Spot) (xs : List Spot) (own rest : List CellKind) → (s == k) ≡ false → length own ≡ cells → IsHome (k + 1) (base + cells) xs rest s b → IsHome k base (x ∷ xs) (own ++ rest) s b
  next_home k base s b cells x xs own rest other long h =
      let all = length-append own rest in
      let within = h.within in
      let number = h.number in
      let place = h.place in
      record {
        index = suc h.index;
        number = omega (arith, number);
        spot = h.spot;
        is = h.is;
        size = ap (λ c. if c then (layout_at x).size else size_from (k + 1) xs s) other ∙ h.size;
        offset = cells + h.offset;
        place = omega (arith, place);
        within = omega (arith, all, long, within);
        kinds_are = λ i cell got. let z : cells + h.offset + i ≡ length own + (h.offset + i) = omega (arith, long) in ap (λ j. slice_get (own ++ rest) j) z ∙ got_after own rest (h.offset + i) ∙ h.kinds_are i cell got;
      }

  pub home_found : (k base : ℕ) (xs : List Spot) (s b : ℕ) → home_from k base xs s ≡ Some b → IsHome k base xs (kinds_in xs) s b
  home_found k base [] s b e = absurd (none-some b e)
  home_found k base (x ∷ xs) s b e = by (λ h. home_found (k + 1) (base + holder_cells x.holder (layout_at x).size) xs s b h) (s == k) refl e
    where
      by : (home_from (k + 1) (base + holder_cells x.holder (layout_at x).size) xs s ≡ Some b → IsHome (k + 1) (base + holder_cells x.holder (layout_at x).size) xs (kinds_in xs) s b) → (c : Bool) → (s == k) ≡ c → (if c then holder_base x.holder base else home_from (k + 1) (base + holder_cells x.holder (layout_at x).size) xs s) ≡ Some b → IsHome k base (x ∷ xs) (holder_kinds x.holder (layout_at x).kinds ++ kinds_in xs) s b
      by rec true same e = first_home k base s b x xs x.holder (kinds_in xs) same e
      by rec false other e = next_home k base s b (holder_cells x.holder (layout_at x).size) x xs (holder_kinds x.holder (layout_at x).kinds) (kinds_in xs) other (cells_kinds x.holder (layout_at x) (layout_length ks x.of)) (rec e)

  -- ---- the bases that the core tree tells

  abbrev pub bases_in : ℕ → List Spot → List (Option ℕ)
  bases_in base xs = global_bases base xs (map (site_of ks) xs)

  pub bases_length : (base : ℕ) (xs : List Spot) → length (bases_in base xs) ≡ length (map (site_of ks) xs)
  bases_length base [] = refl
  bases_length base (x ∷ xs) = ap suc (bases_length (base + holder_cells x.holder (layout_at x).size) xs)

  base_from : (k base : ℕ) (xs : List Spot) (j n : ℕ) → n ≡ k + j → slice_index_or (bases_in base xs) j None ≡ home_from k base xs n
  base_from k base [] j n e = refl
  base_from k base (x ∷ xs) zero n e =
      let same : n ≡ k = omega (arith, e) in
      sym (ap (λ c. if c then holder_base x.holder base else home_from (k + 1) (base + holder_cells x.holder (layout_at x).size) xs n) (ap (λ m. m == k) same ∙ own_number k))
  base_from k base (x ∷ xs) (suc j) n e =
      base_from (k + 1) (base + holder_cells x.holder (layout_at x).size) xs j n (omega (arith, e))
      ∙ sym (ap (λ c. if c then holder_base x.holder base else home_from (k + 1) (base + holder_cells x.holder (layout_at x).size) xs n) (other_number n k (λ same. omega (arith, same, e))))

  none_before : (k base : ℕ) (xs : List Spot) (s : ℕ) → s < k → home_from k base xs s ≡ None
  none_before k base [] s lt = refl
  none_before k base (x ∷ xs) s lt =
      ap (λ c. if c then holder_base x.holder base else home_from (k + 1) (base + holder_cells x.holder (layout_at x).size) xs s) (other_number s k (λ same. omega (arith, same, lt)))
      ∙ none_before (k + 1) (base + holder_cells x.holder (layout_at x).size) xs s (omega (arith, lt))

  pub base_is : (xs : List Spot) (s : ℕ) → base_at (bases_in 0 xs) s ≡ home_from 1 0 xs s
  base_is xs zero = sym (none_before 1 0 xs 0 (omega arith))
  base_is xs (suc j) = base_from 1 0 xs j (suc j) (omega arith)

  -- ---- no two have a cell in common

  abbrev pub Apart : ℕ → List Spot → (s t b c : ℕ) → Type 0
  Apart k xs s t b c = (b + size_from k xs s ≤ c) ⊎ (c + size_from k xs t ≤ b)

  holder_size : (h : Holder) (base b size : ℕ) → holder_base h base ≡ Some b → (b ≡ base) × (holder_cells h size ≡ size)
  holder_size (a_global name) base b size e = (sym (same_Some base b e), refl)
  holder_size (a_local f name) base b size e = absurd (none-some b e)
  holder_size an_allocation base b size e = absurd (none-some b e)

  -- the first one ends before the others begin
  first_apart : (k base : ℕ) (x : Spot) (xs : List Spot) (s t b c : ℕ) → (s == k) ≡ true → holder_base x.holder base ≡ Some b → home_from (k + 1) (base + holder_cells x.holder (layout_at x).size) xs t ≡ Some c → b + size_from k (x ∷ xs) s ≤ c
  first_apart k base x xs s t b c same e g =
      let own = holder_size x.holder base b (layout_at x).size e in
      let later = home_found (k + 1) (base + holder_cells x.holder (layout_at x).size) xs t c g in
      let place = later.place in
      let here = own.0 in
      let cells = own.1 in
      let size : size_from k (x ∷ xs) s ≡ (layout_at x).size = ap (λ z. if z then (layout_at x).size else size_from (k + 1) xs s) same in
      omega (arith, place, here, cells, size)

  pub homes_apart : (k base : ℕ) (xs : List Spot) (s t b c : ℕ) → home_from k base xs s ≡ Some b → home_from k base xs t ≡ Some c → (s ≡ t → ⊥) → Apart k xs s t b c
  homes_apart k base [] s t b c e g ne = absurd (none-some b e)
  homes_apart k base (x ∷ xs) s t b c e g ne =
      by (λ h i. homes_apart (k + 1) (base + holder_cells x.holder (layout_at x).size) xs s t b c h i ne) (s == k) (t == k) refl refl e g
    where
      later : ℕ → Option ℕ
      later z = home_from (k + 1) (base + holder_cells x.holder (layout_at x).size) xs z

      own : (u : ℕ) → (u == k) ≡ false → size_from (k + 1) xs u ≡ size_from k (x ∷ xs) u
      own u other = sym (ap (λ z. if z then (layout_at x).size else size_from (k + 1) xs u) other)

      both : (p : (s == k) ≡ false) (q : (t == k) ≡ false) → Apart (k + 1) xs s t b c → Apart k (x ∷ xs) s t b c
      both p q (inl h) = inl (subst (λ z. b + z ≤ c) (own s p) h)
      both p q (inr h) = inr (subst (λ z. c + z ≤ b) (own t q) h)

      by : (later s ≡ Some b → later t ≡ Some c → Apart (k + 1) xs s t b c) → (i j : Bool) → (s == k) ≡ i → (t == k) ≡ j → (if i then holder_base x.holder base else later s) ≡ Some b → (if j then holder_base x.holder base else later t) ≡ Some c → Apart k (x ∷ xs) s t b c
      by rec true true p q e g = absurd (ne (same_number s k p ∙ sym (same_number t k q)))
      by rec true false p q e g = inl (first_apart k base x xs s t b c p e g)
      by rec false true p q e g = inr (first_apart k base x xs t s c b q g e)
      by rec false false p q e g = both p q (rec e g)

  -- ---- names

  module _ (Good : ℕ → Type 0) where
    -- the pointer to each global is good
    abbrev pub AreGood : ℕ → ℕ → List Spot → Type 0
    AreGood k base xs = (s b : ℕ) → home_from k base xs s ≡ Some b → Good (pack s b (size_from k xs s) 0)

    with_good : (h : Holder) (w : ℕ) (gs : List (Text × ℕ)) → (holder_base h w ≡ Some w → Good w) → AllOf (λ name v. Good v) gs → AllOf (λ name v. Good v) (with_global h w gs)
    with_good (a_global name) w gs good h = all_with (λ name v. Good v) gs name w h (good refl)
    with_good (a_local f name) w gs good h = h
    with_good an_allocation w gs good h = h

    home_own : (h : Holder) (w base : ℕ) → holder_base h w ≡ Some w → holder_base h base ≡ Some base
    home_own (a_global name) w base e = refl
    home_own (a_local f name) w base e = absurd (none-some w e)
    home_own an_allocation w base e = absurd (none-some w e)

    pub globals_good : (k base : ℕ) (gs : List (Text × ℕ)) (xs : List Spot) → AreGood k base xs → AllOf (λ name v. Good v) gs → AllOf (λ name v. Good v) (globals_after k base gs xs (map (site_of ks) xs))
    globals_good k base gs [] good h = h
    globals_good k base gs (x ∷ xs) good h =
        let own = own_number k in
        let size : size_from k (x ∷ xs) k ≡ (layout_at x).size = ap (λ z. if z then (layout_at x).size else size_from (k + 1) xs k) own in
        let first = (λ (e : holder_base x.holder (pack k base (layout_at x).size 0) ≡ Some (pack k base (layout_at x).size 0)). subst (λ z. Good (pack k base z 0)) size (good k base (ap (λ z. if z then holder_base x.holder base else home_from (k + 1) (base + holder_cells x.holder (layout_at x).size) xs k) own ∙ home_own x.holder (pack k base (layout_at x).size 0) base e))) in
        globals_good (k + 1) (base + holder_cells x.holder (layout_at x).size) (with_global x.holder (pack k base (layout_at x).size 0) gs) xs (rest k base x xs good) (with_good x.holder (pack k base (layout_at x).size 0) gs first h)
      where
        rest : (k base : ℕ) (x : Spot) (xs : List Spot) → AreGood k base (x ∷ xs) → AreGood (k + 1) (base + holder_cells x.holder (layout_at x).size) xs
        rest k base x xs good s b e =
            let found = home_found (k + 1) (base + holder_cells x.holder (layout_at x).size) xs s b e in
            let number = found.number in
            let other : (s == k) ≡ false = other_number s k (λ is. omega (arith, is, number)) in
            subst (λ z. Good (pack s b z 0)) (ap (λ z. if z then (layout_at x).size else size_from (k + 1) xs s) other) (good s b (ap (λ z. if z then holder_base x.holder base else home_from (k + 1) (base + holder_cells x.holder (layout_at x).size) xs s) other ∙ e))

    some_good : (o : Option ℕ) → is_some o ≡ true → ((w : ℕ) → o ≡ Some w → Good w) → Good (pointer_or_null o)
    some_good None e h = absurd (true≢false (sym e))
    some_good (Some w) e h = h w refl

    pub named_good : (gs : List (Text × ℕ)) (name : Text) → AllOf (λ name v. Good v) gs → is_some (entry_of gs name) ≡ true → Good (pointer_or_null (entry_of gs name))
    named_good gs name h e = some_good (entry_of gs name) e (λ w is. found_entry (λ name v. Good v) gs h name w is)

  -- each global's name is known
  abbrev pub IsNamed : List (Text × ℕ) → Holder → Type 0
  IsNamed gs (a_global name) = is_some (entry_of gs name) ≡ true
  IsNamed gs (a_local f name) = Unit {0}
  IsNamed gs an_allocation = Unit {0}

  abbrev pub AreNamed : List (Text × ℕ) → List Spot → Type 0
  AreNamed gs [] = Unit {0}
  AreNamed gs (x ∷ xs) = IsNamed gs x.holder × AreNamed gs xs

  pub named_parts : (gs : List (Text × ℕ)) (xs ys : List Spot) → AreNamed gs (xs ++ ys) → AreNamed gs xs × AreNamed gs ys
  named_parts gs [] ys h = (tt, h)
  named_parts gs (x ∷ xs) ys h = let more = named_parts gs xs ys h.1 in ((h.0, more.0), more.1)

  some_kept : (gs : List (Text × ℕ)) (name other : Text) (w : ℕ) → is_some (entry_of gs name) ≡ true → is_some (entry_of (with_name gs other w) name) ≡ true
  some_kept gs name other w e = by (entry_of gs name) refl e
    where
      by : (o : Option ℕ) → entry_of gs name ≡ o → is_some o ≡ true → is_some (entry_of (with_name gs other w) name) ≡ true
      by None is e = absurd (true≢false (sym e))
      by (Some v) is e = ap is_some (entry_kept gs name v other w is)

  some_new : (gs : List (Text × ℕ)) (name : Text) (w : ℕ) → is_some (entry_of (with_name gs name w) name) ≡ true
  some_new gs name w = by (entry_of gs name) refl
    where
      by : (o : Option ℕ) → entry_of gs name ≡ o → is_some (entry_of (with_name gs name w) name) ≡ true
      by None is = ap is_some (entry_new gs name w is (text_same name))
      by (Some v) is = ap is_some (entry_kept gs name v name w is)

  global_kept : (h : Holder) (w : ℕ) (gs : List (Text × ℕ)) (name : Text) → is_some (entry_of gs name) ≡ true → is_some (entry_of (with_global h w gs) name) ≡ true
  global_kept (a_global other) w gs name e = some_kept gs name other w e
  global_kept (a_local f other) w gs name e = e
  global_kept an_allocation w gs name e = e

  globals_kept : (k base : ℕ) (gs : List (Text × ℕ)) (xs : List Spot) (name : Text) → is_some (entry_of gs name) ≡ true → is_some (entry_of (globals_after k base gs xs (map (site_of ks) xs)) name) ≡ true
  globals_kept k base gs [] name e = e
  globals_kept k base gs (x ∷ xs) name e = globals_kept (k + 1) (base + holder_cells x.holder (layout_at x).size) (with_global x.holder (pack k base (layout_at x).size 0) gs) xs name (global_kept x.holder (pack k base (layout_at x).size 0) gs name e)

  first_named : (k base w : ℕ) (gs : List (Text × ℕ)) (xs : List Spot) (h : Holder) → IsNamed (globals_after k base (with_global h w gs) xs (map (site_of ks) xs)) h
  first_named k base w gs xs (a_global name) = globals_kept k base (with_name gs name w) xs name (some_new gs name w)
  first_named k base w gs xs (a_local f name) = tt
  first_named k base w gs xs an_allocation = tt

  pub all_named : (k base : ℕ) (gs : List (Text × ℕ)) (xs : List Spot) → AreNamed (globals_after k base gs xs (map (site_of ks) xs)) xs
  all_named k base gs [] = tt
  all_named k base gs (x ∷ xs) = (
    first_named (k + 1) (base + holder_cells x.holder (layout_at x).size) (pack k base (layout_at x).size 0) gs xs x.holder,
    all_named (k + 1) (base + holder_cells x.holder (layout_at x).size) (with_global x.holder (pack k base (layout_at x).size 0) gs) xs,
  )

  -- ---- the sites

  site_got : (xs : List Spot) (i : ℕ) (x : Spot) → slice_get xs i ≡ Some x → slice_get (map (site_of ks) xs) i ≡ Some (site_of ks x)
  site_got [] i x e = absurd (none-some x e)
  site_got (y ∷ xs) zero x e = ap (λ z. Some (site_of ks z)) (same_Some y x e)
  site_got (y ∷ xs) (suc i) x e = site_got xs i x e

  pub site_there : (base : ℕ) (xs : List Spot) (s b : ℕ) (h : IsHome 1 base xs (kinds_in xs) s b) → site_at (map (site_of ks) xs) s ≡ Some (site_of ks h.spot)
  site_there base xs s b h = let number = h.number in let is : s ≡ suc h.index = omega (arith, number) in ap (λ z. site_at (map (site_of ks) xs) z) is ∙ site_got xs h.index h.spot h.is

  pub size_there : (base : ℕ) (xs : List Spot) (s b : ℕ) → home_from 1 base xs s ≡ Some b → size_of (map (site_of ks) xs) s ≡ size_from 1 xs s
  size_there base xs s b e = let h = home_found 1 base xs s b e in ap size_in (site_there base xs s b h) ∙ sym h.size
