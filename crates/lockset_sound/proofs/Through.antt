-- A call's locks, as its caller sees them.
use Rattle.std.proofs.Common.{◌≡◌, ℕ, ◌+◌, ◌*◌, ◌<◌, Bool, true, false, if◌then◌else◌, List, [], ◌∷◌, ⊎_elim, Option, Some, None, refl, sym, ap, subst, ◌∙◌, arith}
use Rattle.std.specs.Prelude.{slice_get}
use Rattle.std.proofs.lemmas.Bool.{true≢false}
use Rattle.std.proofs.lemmas.Option.{same_Some}
use Rattle.rr_base.specs.Words.{site_of, base_of, length_of, offset_of}
use Rattle.rr_base.specs.declared.layout.CellKind.{CellKind}
use Rattle.sync_objects.specs.declared.mode.Mode.{Mode}
use Rattle.word_semantics.specs.Pointers.{site_at, kind_in}
use Rattle.word_semantics.specs.Registers.{register}
use Rattle.flow_code.specs.declared.code.Code.{Code}
use Rattle.flow_code.specs.declared.code.Function.{Function}
use Rattle.facts.specs.Locks.{has, with, has_held, with_held, held_as, is_clear, without, and_held, plus_seen, minus_with, listed_seen, minus_seen, through}
use Rattle.facts.specs.Paths.{names_cell, following, substituted}
use Rattle.facts.specs.declared.locks.Held.{Held}
use Rattle.facts.specs.declared.locks.LockPath.{LockPath}
use Rattle.facts.specs.declared.locks.LockPath.TheVariants.{Cell, Formal}
use Rattle.facts.specs.declared.locks.Minus.{Minus}
use Rattle.facts.specs.declared.locks.Minus.TheVariants.{All, Listed}
use Rattle.facts.specs.declared.locks.RelLocks.{RelLocks}
use Rattle.facts.proofs.HeldSets.{has_filter}
use Rattle.lockset_sound.specs.Leading.{is_fixed, Holds, LeadsTo, Spares, Mean}
use Rattle.lockset_sound.proofs.Addresses.{on_site, on_base, on_length, on_offset}
use Rattle.lockset_sound.proofs.Known.{IsAt}
use Rattle.lockset_sound.proofs.Means.{has_cases, with_self, with_more, held_first, held_more, with_held_cases, union_held_cases, clear_of, leads_cell, apart, spares_both}

-- the frame of f calls g, whose frame has these registers
module _ (code : Code) (slots : ℕ) (f : Function) (rs : List ℕ) (g : Function) (qs : List ℕ) (actuals : List (Option LockPath)) (seen : (i : ℕ) (p : LockPath) → slice_get actuals i ≡ Some (Some p) → is_fixed g i ≡ true → IsAt code slots f rs p (register qs i)) where
  at_leads : (p q : LockPath) (w n : ℕ) (k : CellKind) (c : ℕ) → IsAt code slots f rs p w → offset_of w + n < length_of w → kind_in (site_at code.sites (site_of w)) (offset_of w + n) ≡ Some k → c ≡ base_of w + offset_of w + n → following n (Some (Some p)) ≡ Some q → LeadsTo code slots f rs q k c
  at_leads (Cell m) q w n k c at near kinds is e =
      subst (λ z. LeadsTo code slots f rs z k c) (same_Some (Cell (m + n)) q e)
      (ap (slice_get code.global_kinds) (sym (cells at.first (offset_of w) at.cell)) ∙ at.kinds (offset_of w + n) k near kinds, sum (base_of w) (offset_of w) at.first at.base at.cell is)
    where
      cells : (a b : ℕ) → a + b ≡ m → a + (b + n) ≡ m + n
      cells a b h = omega arith

      sum : (x y a : ℕ) → x ≡ a + 2 * slots → a + y ≡ m → c ≡ x + y + n → c ≡ 2 * slots + (m + n)
      sum x y a h g i = omega arith
  at_leads (Formal j m) q w n k c at near kinds is e =
      let v = register rs j in
      let site : site_of w ≡ site_of v = ap site_of at.1 ∙ on_site v m at.2 in
      let base : base_of w ≡ base_of v = ap base_of at.1 ∙ on_base v m at.2 in
      let long : length_of w ≡ length_of v = ap length_of at.1 ∙ on_length v m at.2 in
      let offset : offset_of w ≡ offset_of v + m = ap offset_of at.1 ∙ on_offset v m at.2 in
      let whole : offset_of w + n ≡ offset_of v + (m + n) = further (offset_of w) (offset_of v) offset in
      subst (λ z. LeadsTo code slots f rs z k c) (same_Some (Formal j (m + n)) q e) (
        at.0,
        close (offset_of w) (offset_of v) (length_of w) (length_of v) offset long near,
        ap (kind_in (site_at code.sites (site_of v))) (sym whole) ∙ ap (λ z. kind_in (site_at code.sites z) (offset_of w + n)) (sym site) ∙ kinds,
        sum (base_of w) (base_of v) (offset_of w) (offset_of v) base offset is,
      )
    where
      further : (x y : ℕ) → x ≡ y + m → x + n ≡ y + (m + n)
      further x y h = omega arith

      close : (x y l o : ℕ) → x ≡ y + m → l ≡ o → x + n < l → y + (m + n) < o
      close x y l o h g i = omega arith

      sum : (a b x y : ℕ) → a ≡ b → x ≡ y + m → c ≡ a + x + n → c ≡ b + y + (m + n)
      sum a b x y h k l = omega arith

  -- a path of the called function leads where the caller's path does
  pub sub_leads : (q p : LockPath) (k : CellKind) (c : ℕ) → substituted q actuals ≡ Some p → LeadsTo code slots g qs q k c → LeadsTo code slots f rs p k c
  sub_leads (Cell n) p k c e l = subst (λ z. LeadsTo code slots f rs z k c) (same_Some (Cell n) p e) l
  sub_leads (Formal i n) p k c e l = by (slice_get actuals i) refl e
    where
      by : (o : Option (Option LockPath)) → slice_get actuals i ≡ o → following n o ≡ Some p → LeadsTo code slots f rs p k c
      by None h j = cc
      by (Some None) h j = cc
      by (Some (Some x)) h j = at_leads x p (register qs i) n k c (seen i x h l.0) l.1 l.2 l.3 j

  -- a lock of the called function, by the caller's name
  record ComesFrom (hs : List Held) (h : Held) : Type 0 where
    from : Held
    has : has_held from hs ≡ true
    mode : from.mode ≡ h.mode
    path : substituted from.path actuals ≡ Some h.path

  plus_from : (hs : List Held) (h : Held) → has_held h (plus_seen actuals hs) ≡ true → ComesFrom hs h
  plus_from [] h e = cc
  plus_from (x ∷ hs) h e = by (substituted x.path actuals) refl e (λ k. more (plus_from hs h k))
    where
      more : ComesFrom hs h → ComesFrom (x ∷ hs) h
      more r = record { from = r.from; has = held_more r.from x hs r.has; mode = r.mode; path = r.path }

      found : (y : LockPath) → substituted x.path actuals ≡ Some y → h ≡ held_as x.mode y → ComesFrom (x ∷ hs) h
      found y q is = record { from = x; has = held_first x hs; mode = ap (λ (z : Held). z.mode) (sym is); path = q ∙ ap (λ (z : Held). Some z.path) (sym is) }

      named : (y : LockPath) (b : Bool) → substituted x.path actuals ≡ Some y → has_held h (if b then with_held (held_as x.mode y) (plus_seen actuals hs) else plus_seen actuals hs) ≡ true → (has_held h (plus_seen actuals hs) ≡ true → ComesFrom (x ∷ hs) h) → ComesFrom (x ∷ hs) h
      named y true q k rest = ⊎_elim (λ (s : h ≡ held_as x.mode y). found y q s) (λ (s : has_held h (plus_seen actuals hs) ≡ true). rest s) (with_held_cases h (held_as x.mode y) (plus_seen actuals hs) k)
      named y false q k rest = rest k

      by : (o : Option LockPath) → substituted x.path actuals ≡ o → has_held h (and_held x.mode o (plus_seen actuals hs)) ≡ true → (has_held h (plus_seen actuals hs) ≡ true → ComesFrom (x ∷ hs) h) → ComesFrom (x ∷ hs) h
      by None q k rest = rest k
      by (Some y) q k rest = named y (names_cell y) q k rest

  spares_listed : (ps : List LockPath) (cell_kind : CellKind) (c : ℕ) → Spares code slots f rs (listed_seen actuals ps) cell_kind c → (q : LockPath) → has q ps ≡ true → LeadsTo code slots g qs q cell_kind c → ⊥
  spares_listed [] cell_kind c s q h l = cc
  spares_listed (x ∷ ps) cell_kind c s q h l = by (substituted x actuals) (listed_seen actuals ps) refl s (λ k. spares_listed ps cell_kind c k q)
    where
      named : (y : LockPath) (zs : List LockPath) (b : Bool) → names_cell y ≡ b → substituted x actuals ≡ Some y → Spares code slots f rs (Listed (if b then with y zs else zs)) cell_kind c → (Spares code slots f rs (Listed zs) cell_kind c → has q ps ≡ true → LeadsTo code slots g qs q cell_kind c → ⊥) → ⊥
      named y zs true n e t rest =
          ⊎_elim
          (λ (k : q ≡ x). t y (with_self y zs) (sub_leads q y cell_kind c (ap (λ z. substituted z actuals) k ∙ e) l))
          (λ (k : has q ps ≡ true). rest (λ z i. t z (with_more z y zs i)) k l)
          (has_cases q x ps h)
      named y zs false n e t rest =
          ⊎_elim
          (λ (k : q ≡ x). true≢false (sym (leads_cell code slots f rs y cell_kind c (sub_leads q y cell_kind c (ap (λ z. substituted z actuals) k ∙ e) l)) ∙ n))
          (λ (k : has q ps ≡ true). rest t k l)
          (has_cases q x ps h)

      by : (o : Option LockPath) (m : Minus) → substituted x actuals ≡ o → Spares code slots f rs (minus_with o m) cell_kind c → (Spares code slots f rs m cell_kind c → has q ps ≡ true → LeadsTo code slots g qs q cell_kind c → ⊥) → ⊥
      by None m e t rest = absurd t
      by (Some y) All e t rest = absurd t
      by (Some y) (Listed zs) e t rest = named y zs (names_cell y) refl e t rest

  spares_seen : (m : Minus) (cell_kind : CellKind) (c : ℕ) → Spares code slots f rs (minus_seen actuals m) cell_kind c → Spares code slots g qs m cell_kind c
  spares_seen All cell_kind c s = s
  spares_seen (Listed ps) cell_kind c s = λ q i l. spares_listed ps cell_kind c s q i l

  without_has : (m : Minus) (hs : List Held) (h : Held) → has_held h (without m hs) ≡ true → has_held h hs ≡ true
  without_has All hs h e = cc
  without_has (Listed zs) hs h e = (has_filter (λ x. is_clear zs x.path) h hs e).0

  without_spares : (m : Minus) (hs : List Held) (h : Held) (k : CellKind) (c : ℕ) → has_held h (without m hs) ≡ true → LeadsTo code slots f rs h.path k c → Spares code slots f rs m k c
  without_spares All hs h k c e l = cc
  without_spares (Listed zs) hs h k c e l = λ q i j. apart code slots f rs h.path q k c (clear_of zs h.path q (has_filter (λ x. is_clear zs x.path) h hs e).1 i) l j

  -- from what the caller's locks mean at the entry of g, and those of g since, to what the caller's mean now
  pub mean_through : (callee l : RelLocks) (before entry now : Holds) → Mean code slots f rs l before entry → Mean code slots g qs callee entry now → Mean code slots f rs (through actuals callee l) before now
  mean_through callee l before entry now m n = record { plus = plus; kept = kept }
    where
      plus : (h : Held) → has_held h (through actuals callee l).plus ≡ true → (k : CellKind) × (c : ℕ) × LeadsTo code slots f rs h.path k c × (now h.mode k c ≡ true)
      plus h e =
          ⊎_elim
          (λ (k : has_held h (without (minus_seen actuals callee.minus) l.plus) ≡ true).
          (let r = m.plus h (without_has (minus_seen actuals callee.minus) l.plus h k) in
          (r.0, r.1, r.2, n.kept h.mode r.0 r.1 r.3 (spares_seen callee.minus r.0 r.1 (without_spares (minus_seen actuals callee.minus) l.plus h r.0 r.1 k r.2)))))
          (λ (k : has_held h (plus_seen actuals callee.plus) ≡ true).
          (let q = plus_from callee.plus h k in
          let r = n.plus q.from q.has in
          (r.0, r.1, sub_leads q.from.path h.path r.0 r.1 q.path r.2, ap (λ z. now z r.0 r.1) (sym q.mode) ∙ r.3)))
          (union_held_cases h (without (minus_seen actuals callee.minus) l.plus) (plus_seen actuals callee.plus) e)

      kept : (mode : Mode) (k : CellKind) (c : ℕ) → before mode k c ≡ true → Spares code slots f rs (through actuals callee l).minus k c → now mode k c ≡ true
      kept mode k c h s = let a = spares_both code slots f rs l.minus (minus_seen actuals callee.minus) k c s in n.kept mode k c (m.kept mode k c h a.0) (spares_seen callee.minus k c a.1)
