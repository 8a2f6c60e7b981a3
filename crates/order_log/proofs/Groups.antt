-- Entries put together into lines, and lines taken apart into entries.
use Rattle.std.proofs.Common.{◌≡◌, ℕ, zero, suc, ◌+◌, ◌-◌, ◌<◌, ◌≤◌, Bool, true, false, cond, eqb, List, [], ◌∷◌, ◌++◌, length, drop, get_or, Some, refl, sym, ap, subst, ◌∙◌, arith, append_assoc}
use Rattle.std.specs.Prelude.{◌&&◌}
use Rattle.std.specs.List.{slice_get}
use Rattle.std.proofs.lemmas.List.{drop_all, drop_more}
use Rattle.std.proofs.lemmas.Option.{none-some, same_Some}
use Rattle.std.proofs.lemmas.Bool.{eqb-true, eq-eqb, and_parts, and_from, cond-true, cond-false}
use Rattle.sync_objects.specs.declared.entry.Entry.{Entry}
use Rattle.sync_objects.specs.declared.object.ObjId.{ObjId}
use Rattle.sync_objects.specs.declared.object.ObjId.TheVariants as object
use Rattle.sync_objects.specs.declared.operation.OpName.{OpName}
use Rattle.sync_objects.specs.declared.operation.OpName.TheVariants as op
use Rattle.sync_objects.specs.declared.kind.ObjKind.TheVariants as kind
use Rattle.sync_objects.specs.Names.{kind_of, object_kind, Fits}
use Rattle.order_log.specs.declared.version.Version.{Version}
use Rattle.order_log.specs.declared.version.Version.TheVariants as version
use Rattle.order_log.specs.Text.{are_alike, is_next, continues, shares, Group, onto_group, groups_of}
use Rattle.order_log.specs.Line.{may_share, next_object, next_entry, stripes_after, entries_of, IsGroup}
use Rattle.order_log.specs.Recogniser.{joins}

-- ---- two entries

are_alike-same : (o p : OpName) → are_alike o p ≡ true → o ≡ p
are_alike-same op.Take op.Take e = refl
are_alike-same op.Give op.Give e = refl
are_alike-same _ _ e = absurd cc

is_next-same : (x y : ObjId) → is_next x y ≡ true → y ≡ next_object x
is_next-same (object.Weak lock stripe) (object.Weak other next) e =
    let p = and_parts (eqb lock other) (eqb next (stripe + 1)) e in
    let locks = sym (eqb-true lock other p.0) in
    let stripes = eqb-true next (stripe + 1) p.1 in
    λ i. object.Weak (locks i) (stripes i)
is_next-same _ _ e = absurd cc

continues-same : (e f : Entry) → continues e f ≡ true → f ≡ next_entry e
continues-same e f h =
    let a = and_parts (eqb e.thread f.thread) (eqb e.count f.count && (are_alike e.op f.op && is_next e.obj f.obj)) h in
    let b = and_parts (eqb e.count f.count) (are_alike e.op f.op && is_next e.obj f.obj) a.1 in
    let c = and_parts (are_alike e.op f.op) (is_next e.obj f.obj) b.1 in
    let threads = sym (eqb-true e.thread f.thread a.0) in
    let counts = sym (eqb-true e.count f.count b.0) in
    let ops = sym (are_alike-same e.op f.op c.0) in
    let objects = is_next-same e.obj f.obj c.1 in
    λ i. record { thread = threads i; count = counts i; op = ops i; obj = objects i }

pub shares-same : (w : Version) (e f : Entry) → shares w e f ≡ true → f ≡ next_entry e
shares-same version.One e f h = absurd cc
shares-same version.Two e f h = continues-same e f h

-- the entry's line may go on with its next stripe
abbrev pub GoesOn : Version → Entry → Type 0
GoesOn w e = shares w e (next_entry e) ≡ true

is_next-on : (x : ObjId) → is_next x (next_object x) ≡ true → is_next (next_object x) (next_object (next_object x)) ≡ true
is_next-on (object.Weak lock stripe) e = and_from (eqb lock lock) (eqb (stripe + 1 + 1) (stripe + 1 + 1)) (eq-eqb lock lock refl) (eq-eqb (stripe + 1 + 1) (stripe + 1 + 1) refl)
is_next-on _ e = absurd cc

alike_goes : (e : Entry) → continues e (next_entry e) ≡ true → (are_alike e.op e.op ≡ true) × (is_next e.obj (next_object e.obj) ≡ true)
alike_goes e h =
    let a = and_parts (eqb e.thread e.thread) (eqb e.count e.count && (are_alike e.op e.op && is_next e.obj (next_object e.obj))) h in
    let b = and_parts (eqb e.count e.count) (are_alike e.op e.op && is_next e.obj (next_object e.obj)) a.1 in
    let c = and_parts (are_alike e.op e.op) (is_next e.obj (next_object e.obj)) b.1 in
    (c.0, c.1)

continues_by : (e f : Entry) → e.thread ≡ f.thread → e.count ≡ f.count → are_alike e.op f.op ≡ true → is_next e.obj f.obj ≡ true → continues e f ≡ true
continues_by e f threads counts ops objects =
    and_from (eqb e.thread f.thread) (eqb e.count f.count && (are_alike e.op f.op && is_next e.obj f.obj)) (eq-eqb e.thread f.thread threads)
    (and_from (eqb e.count f.count) (are_alike e.op f.op && is_next e.obj f.obj) (eq-eqb e.count f.count counts) (and_from (are_alike e.op f.op) (is_next e.obj f.obj) ops objects))

-- and so on with the one after that
goes_on_next : (w : Version) (e : Entry) → GoesOn w e → GoesOn w (next_entry e)
goes_on_next version.One e h = absurd cc
goes_on_next version.Two e h =
    let a = alike_goes e h in
    continues_by (next_entry e) (next_entry (next_entry e)) refl refl a.0 (is_next-on e.obj a.1)

-- the line of this entry has only one, or goes on
abbrev pub IsChain : Version → Entry → ℕ → Type 0
IsChain w e more = 0 < more → GoesOn w e

pub chain_none : (w : Version) (e : Entry) → IsChain w e 0
chain_none w e lt = absurd (omega arith)

shares_kind : (o : OpName) → may_share o ≡ true → kind_of o ≡ kind.Weak
shares_kind op.Take e = refl
shares_kind op.Give e = refl
shares_kind _ e = absurd cc

next_kind : (x : ObjId) → is_next x (next_object x) ≡ true → object_kind x ≡ kind.Weak
next_kind (object.Weak lock stripe) e = refl
next_kind _ e = absurd cc

weak_next : (x : ObjId) → object_kind x ≡ kind.Weak → is_next x (next_object x) ≡ true
weak_next (object.Weak lock stripe) e = and_from (eqb lock lock) (eqb (stripe + 1) (stripe + 1)) (eq-eqb lock lock refl) (eq-eqb (stripe + 1) (stripe + 1) refl)
weak_next _ e = absurd cc

pub sharing_kind : (e : Entry) → may_share e.op ≡ true → Fits e.op e.obj → object_kind e.obj ≡ kind.Weak
sharing_kind e h fit = sym fit ∙ shares_kind e.op h

-- takes and gives go on in version 2
pub goes_on_two : (e : Entry) → may_share e.op ≡ true → Fits e.op e.obj → GoesOn version.Two e
goes_on_two e h fit = continues_by e (next_entry e) refl refl h (weak_next e.obj (sharing_kind e h fit))

-- what goes on is a take or a give of a stripe, in version 2
pub GoesOn-two : (w : Version) (e : Entry) → GoesOn w e → w ≡ version.Two
GoesOn-two version.One e h = absurd cc
GoesOn-two version.Two e h = refl

pub GoesOn-sharing : (w : Version) (e : Entry) → GoesOn w e → may_share e.op ≡ true
GoesOn-sharing version.One e h = absurd cc
GoesOn-sharing version.Two e h = (alike_goes e h).0

GoesOn-kind : (w : Version) (e : Entry) → GoesOn w e → object_kind e.obj ≡ kind.Weak
GoesOn-kind version.One e h = absurd cc
GoesOn-kind version.Two e h = next_kind e.obj (alike_goes e h).1

pub IsGroup_chain : (w : Version) (r : Group) → IsChain w r.first r.more → IsGroup r
IsGroup_chain w r chain some = GoesOn-kind w r.first (chain some)

-- ---- the entries of a line make that line

-- what an entry in front makes of groups: one that begins with it
pub record Begins (e : Entry) (rs : List Group) : Type 0 where
  pub more : ℕ
  pub others : List Group
  pub groups : rs ≡ record { first = e; more = more } ∷ others

begins : (w : Version) (e : Entry) (rs : List Group) → Begins e (onto_group w e rs)
begins w e [] = record { more = 0; others = []; groups = refl }
begins w e (r ∷ rs) = by (shares w e r.first)
  where
    by : (t : Bool) → Begins e (cond t (record { first = e; more = suc r.more } ∷ rs) (record { first = e; more = 0 } ∷ r ∷ rs))
    by true = record { more = suc r.more; others = rs; groups = refl }
    by false = record { more = 0; others = r ∷ rs; groups = refl }

-- an entry that has the next line to go on with, or not
onto_shared : (w : Version) (e : Entry) (r : Group) (rs : List Group) → shares w e r.first ≡ true → onto_group w e (r ∷ rs) ≡ record { first = e; more = suc r.more } ∷ rs
onto_shared w e r rs h = cond-true (shares w e r.first) _ _ h

onto_other : (w : Version) (e : Entry) (r : Group) (rs : List Group) → shares w e r.first ≡ false → onto_group w e (r ∷ rs) ≡ record { first = e; more = 0 } ∷ r ∷ rs
onto_other w e r rs h = cond-false (shares w e r.first) _ _ h

pub groups_chain : (w : Version) (e : Entry) (more : ℕ) → IsChain w e more → groups_of w (e ∷ stripes_after e more) ≡ record { first = e; more = more } ∷ []
groups_chain w e zero chain = refl
groups_chain w e (suc more) chain =
    let on : GoesOn w e = chain (omega arith) in
    let rest = groups_chain w (next_entry e) more (λ some. goes_on_next w e on) in
    ap (onto_group w e) rest ∙ onto_shared w e (record { first = next_entry e; more = more }) [] on

-- ---- lines after lines

onto_append : (w : Version) (e : Entry) (rs qs : List Group) (r : Group) → onto_group w e ((r ∷ rs) ++ qs) ≡ onto_group w e (r ∷ rs) ++ qs
onto_append w e rs qs r = by (shares w e r.first)
  where
    by : (t : Bool) → cond t (record { first = e; more = suc r.more } ∷ (rs ++ qs)) (record { first = e; more = 0 } ∷ r ∷ (rs ++ qs))
        ≡ cond t (record { first = e; more = suc r.more } ∷ rs) (record { first = e; more = 0 } ∷ r ∷ rs) ++ qs
    by true = refl
    by false = refl

onto_begun : (w : Version) (e f : Entry) (rs : List Group) → shares w e f ≡ false → Begins f rs → onto_group w e rs ≡ record { first = e; more = 0 } ∷ rs
onto_begun w e f rs other b =
    ap (onto_group w e) b.groups ∙ onto_other w e (record { first = f; more = b.more }) b.others other ∙ ap (λ (qs : List Group). record { first = e; more = 0 } ∷ qs) (sym b.groups)

onto_both : (w : Version) (e f : Entry) (rs qs : List Group) → Begins f rs → onto_group w e (rs ++ qs) ≡ onto_group w e rs ++ qs
onto_both w e f rs qs b =
    ap (λ (ps : List Group). onto_group w e (ps ++ qs)) b.groups ∙ onto_append w e b.others qs (record { first = f; more = b.more }) ∙ ap (λ (ps : List Group). onto_group w e ps ++ qs) (sym b.groups)

-- where the second list doesn't go on with the last line of the first, each has its own lines
pub groups_append : (w : Version) (es : List Entry) (f : Entry) (fs : List Entry) → joins w es f ≡ false → groups_of w (es ++ f ∷ fs) ≡ groups_of w es ++ groups_of w (f ∷ fs)
groups_append w [] f fs h = refl
groups_append w (e ∷ []) f fs h = onto_begun w e f (groups_of w (f ∷ fs)) h (begins w f (groups_of w fs))
groups_append w (e ∷ g ∷ es) f fs h =
    ap (onto_group w e) (groups_append w (g ∷ es) f fs h) ∙ onto_both w e g (groups_of w (g ∷ es)) (groups_of w (f ∷ fs)) (begins w g (groups_of w es))

-- a line that begins where it has to is one line more
pub groups_more : (w : Version) (es : List Entry) (r : Group) → joins w es r.first ≡ false → IsChain w r.first r.more → groups_of w (es ++ entries_of r) ≡ groups_of w es ++ r ∷ []
groups_more w es r other chain = groups_append w es r.first (stripes_after r.first r.more) other ∙ ap (λ (rs : List Group). groups_of w es ++ rs) (groups_chain w r.first r.more chain)

joins_push : (w : Version) (es : List Entry) (e f : Entry) → joins w (es ++ e ∷ []) f ≡ shares w e f
joins_push w [] e f = refl
joins_push w (g ∷ []) e f = refl
joins_push w (g ∷ h ∷ es) e f = joins_push w (h ∷ es) e f

pub joins_last : (w : Version) (es : List Entry) (e f : Entry) → Some e ≡ slice_get es (length es - 1) → joins w es f ≡ shares w e f
joins_last w [] e f is = absurd (none-some e (sym is))
joins_last w (g ∷ []) e f is = ap (λ (x : Entry). shares w x f) (sym (same_Some e g is))
joins_last w (g ∷ h ∷ es) e f is =
    let at : length (g ∷ h ∷ es) - 1 ≡ suc (length (h ∷ es) - 1) = omega arith in
    joins_last w (h ∷ es) e f (is ∙ ap (slice_get (g ∷ h ∷ es)) at)

-- ---- the lines of entries

-- each line begins where it has to, after the entries before it
abbrev pub Follow : Version → List Entry → List Group → Type 0
Follow w es [] = Unit {0}
Follow w es (r ∷ rs) = (joins w es r.first ≡ false) × IsChain w r.first r.more × Follow w (es ++ entries_of r) rs

-- the same but for where the first begins
abbrev FollowOn : Version → List Entry → List Group → Type 0
FollowOn w es [] = Unit {0}
FollowOn w es (r ∷ rs) = IsChain w r.first r.more × Follow w (es ++ entries_of r) rs

abbrev pub entries_in : List Group → List Entry
entries_in [] = []
entries_in (r ∷ rs) = entries_of r ++ entries_in rs

one_follows : (w : Version) (f : Entry) (rs : List Group) → ((es : List Entry) → FollowOn w es rs) → (es : List Entry) → FollowOn w es (onto_group w f rs)
one_follows w f [] others es = (chain_none w f, tt)
one_follows w f (r ∷ rs) others es = by (shares w f r.first) refl
  where
    by : (t : Bool) → shares w f r.first ≡ t → FollowOn w es (cond t (record { first = f; more = suc r.more } ∷ rs) (record { first = f; more = 0 } ∷ r ∷ rs))
    by true is =
        let same = shares-same w f r.first is in
        let on : GoesOn w f = ap (shares w f) (sym same) ∙ is in
        let regrouped : (es ++ f ∷ []) ++ entries_of r ≡ es ++ f ∷ next_entry f ∷ stripes_after (next_entry f) r.more =
        append_assoc es (f ∷ []) (entries_of r) ∙ ap (λ (e : Entry). es ++ f ∷ e ∷ stripes_after e r.more) same in
        (λ some. on, subst (λ (fs : List Entry). Follow w fs rs) regrouped (others (es ++ f ∷ [])).1)
    by false is =
        let rest = others (es ++ f ∷ []) in
        (chain_none w f, (joins_push w es f r.first ∙ is, rest.0, rest.1))

follow_on : (w : Version) (fs : List Entry) (es : List Entry) → FollowOn w es (groups_of w fs)
follow_on w [] es = tt
follow_on w (f ∷ fs) es = one_follows w f (groups_of w fs) (follow_on w fs) es

follow_first : (w : Version) (rs : List Group) → FollowOn w [] rs → Follow w [] rs
follow_first w [] h = tt
follow_first w (r ∷ rs) h = (refl, h.0, h.1)

-- the lines of entries begin where they have to
pub groups_follow : (w : Version) (fs : List Entry) → Follow w [] (groups_of w fs)
groups_follow w fs = follow_first w (groups_of w fs) (follow_on w fs [])

one_in : (w : Version) (f : Entry) (fs : List Entry) (rs : List Group) → entries_in rs ≡ fs → entries_in (onto_group w f rs) ≡ f ∷ fs
one_in w f fs [] e = ap (λ (es : List Entry). f ∷ es) e
one_in w f fs (r ∷ rs) e = by (shares w f r.first) refl
  where
    by : (t : Bool) → shares w f r.first ≡ t → entries_in (cond t (record { first = f; more = suc r.more } ∷ rs) (record { first = f; more = 0 } ∷ r ∷ rs)) ≡ f ∷ fs
    by true is = ap (λ (x : Entry). f ∷ x ∷ (stripes_after x r.more ++ entries_in rs)) (sym (shares-same w f r.first is)) ∙ ap (λ (es : List Entry). f ∷ es) e
    by false is = ap (λ (es : List Entry). f ∷ es) e

-- and have all of them
pub entries_in-groups : (w : Version) (fs : List Entry) → entries_in (groups_of w fs) ≡ fs
entries_in-groups w [] = refl
entries_in-groups w (f ∷ fs) = one_in w f fs (groups_of w fs) (entries_in-groups w fs)

-- ---- the line at the front

-- how many entries stand in the line of this one, after it
abbrev pub more_after : Version → Entry → List Entry → ℕ
more_after w e [] = 0
more_after w e (f ∷ fs) = cond (shares w e f) (suc (more_after w f fs)) 0

groups_lead : (w : Version) (e : Entry) (es : List Entry) → groups_of w (e ∷ es) ≡ record { first = e; more = more_after w e es } ∷ groups_of w (drop (more_after w e es) es)
groups_lead w e [] = refl
groups_lead w e (f ∷ fs) = by (shares w e f) refl (groups_lead w f fs)
  where
    rest : ℕ
    rest = more_after w f fs

    by : (t : Bool) → shares w e f ≡ t → groups_of w (f ∷ fs) ≡ record { first = f; more = rest } ∷ groups_of w (drop rest fs)
        → groups_of w (e ∷ f ∷ fs) ≡ record { first = e; more = cond t (suc rest) 0 } ∷ groups_of w (drop (cond t (suc rest) 0) (f ∷ fs))
    by true is others = ap (onto_group w e) others ∙ onto_shared w e (record { first = f; more = rest }) (groups_of w (drop rest fs)) is
    by false is others = onto_begun w e f (groups_of w (f ∷ fs)) is (begins w f (groups_of w fs))

-- the line of the first entry, and those after it
pub lead_is : (w : Version) (e : Entry) (es : List Entry) (more : ℕ) → more_after w e es ≡ more → groups_of w (e ∷ es) ≡ record { first = e; more = more } ∷ groups_of w (drop more es)
lead_is w e es more h = groups_lead w e es ∙ ap (λ (k : ℕ). record { first = e; more = k } ∷ groups_of w (drop k es)) h

-- the count, one entry on
pub lead_more : (w : Version) (first e d : Entry) (es : List Entry) (i : ℕ) → i < length es → shares w e (get_or es i d) ≡ true → more_after w first es ≡ i + more_after w e (drop i es)
    → more_after w first es ≡ i + 1 + more_after w (get_or es i d) (drop (i + 1) es)
lead_more w first e d es i lt on so_far =
    let here : more_after w e (drop i es) ≡ suc (more_after w (get_or es i d) (drop (i + 1) es)) = ap (more_after w e) (drop_more es i d lt) ∙ cond-true (shares w e (get_or es i d)) _ _ on in
    omega arith

pub lead_ends : (w : Version) (first e d : Entry) (es : List Entry) (i : ℕ) → i < length es → shares w e (get_or es i d) ≡ false → more_after w first es ≡ i + more_after w e (drop i es) → more_after w first es ≡ i
lead_ends w first e d es i lt other so_far =
    let here : more_after w e (drop i es) ≡ 0 = ap (more_after w e) (drop_more es i d lt) ∙ cond-false (shares w e (get_or es i d)) _ _ other in
    omega arith

pub lead_all : (w : Version) (first e : Entry) (es : List Entry) (i : ℕ) → length es ≤ i → more_after w first es ≡ i + more_after w e (drop i es) → more_after w first es ≡ i
lead_all w first e es i le so_far =
    let here : more_after w e (drop i es) ≡ 0 = ap (more_after w e) (drop_all i es le) in
    omega arith
