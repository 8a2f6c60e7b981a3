-- A stripe that a region wants is one of a lock that the code has.
use Rattle.std.proofs.Common.{◌≡◌, ℕ, zero, suc, ◌+◌, ◌-◌, ◌*◌, ◌/◌, ◌%◌, ◌<◌, ◌==◌, ◌&&◌, ◌||◌, not, nat_lt, Bool, true, false, List, [], ◌∷◌, length, Option, Some, None, refl, sym, ap, ◌∙◌, ℤ, arith}
use Rattle.std.specs.Prelude.{slice_get}
use Rattle.std.specs.List.{list_any}
use Rattle.std.proofs.lemmas.Bool.{true≢false, lt-ltb, ltb-true}
use Rattle.std.proofs.lemmas.Option.{slice_get_within}
use Rattle.rr_base.specs.Words.{site_of, offset_of}
use Rattle.flow_code.specs.declared.code.Code.{Code}
use Rattle.flow_code.specs.declared.code.LockInfo.{LockInfo}
use Rattle.flow_code.specs.declared.region.Region.{Region}
use Rattle.flow_code.specs.declared.region.Region.TheVariants as region
use Rattle.flow_code.specs.declared.region.Span.{Span}
use Rattle.flow_code.specs.Holding.{is_lacked, is_listed, lacked, left_from}
use Rattle.flow_code.specs.Stripes.{lock_guards, guards, base_word, points_to_cell, any_from, among, range_wants, span_wants, bound_of, stripes_in, wants, wants_number, end_lock}
use Rattle.flow_code.specs.Threads.{Thread}
use Rattle.flow_code.proofs.ValidParts.{left}
use Rattle.word_semantics.specs.Registers.{register}
use Rattle.word_semantics.specs.Values.{number}
use Rattle.lock_ownership.proofs.Nestings.{some_first}

and_not : (a b : Bool) → b ≡ false → (a && b) ≡ false
and_not true b e = e
and_not false b e = refl

or_not : (a b : Bool) → a ≡ false → b ≡ false → (a || b) ≡ false
or_not true b e f = cc
or_not false b e f = f

none_from : (p : ℕ → Bool) → ((k : ℕ) → p k ≡ false) → (many k : ℕ) → any_from p many k ≡ false
none_from p h zero k = refl
none_from p h (suc n) k = or_not (p k) (any_from p n (k + 1)) (h k) (none_from p h n (k + 1))

none_of : (p : Span → Bool) → ((x : Span) → p x ≡ false) → (xs : List Span) → list_any p xs ≡ false
none_of p h [] = refl
none_of p h (x ∷ xs) = or_not (p x) (list_any p xs) (h x) (none_of p h xs)

no_stripe : (n : ℕ) → nat_lt n 0 ≡ false
no_stripe n = by (nat_lt n 0) refl
  where
    by : (b : Bool) → nat_lt n 0 ≡ b → b ≡ false
    by true e = let less = ltb-true n 0 e in absurd (omega arith)
    by false e = refl

-- of a lock that isn't there nothing is wanted
module _ (code : Code) (registers : List ℕ) (lock stripe : ℕ) (none : slice_get code.locks lock ≡ None) where
  no_guard : (w offset : ℕ) → guards code w offset lock stripe ≡ false
  no_guard w offset = ap (λ (o : Option LockInfo). lock_guards o code.sites w offset stripe) none

  no_range : (w : ℕ) (a b shift : ℤ) → range_wants code w a b shift lock stripe ≡ false
  no_range w a b shift = and_not (not (site_of w == 0)) _ (none_from (λ offset. guards code w offset lock stripe) (no_guard w) _ _)

  no_span : (a b : ℤ) (x : Span) → span_wants code registers a b lock stripe x ≡ false
  no_span a b x = and_not (among x.locks lock) _ (no_range (base_word code.sites registers x.base) a b x.shift)

  unwanted : (r : Region) → wants code registers r lock stripe ≡ false
  unwanted (region.Whole locks) = and_not (among locks lock) (nat_lt stripe (stripes_in (slice_get code.locks lock))) (ap (λ o. nat_lt stripe (stripes_in o)) none ∙ no_stripe stripe)
  unwanted (region.Ranged counter bound spans) = none_of (span_wants code registers (number (register registers counter)) (bound_of registers bound) lock stripe) (no_span (number (register registers counter)) (bound_of registers bound)) spans
  unwanted (region.Cell base locks) = and_not (among locks lock) _ (and_not (points_to_cell (base_word code.sites registers base)) _ (no_guard (base_word code.sites registers base) (offset_of (base_word code.sites registers base))))

lock_there : (code : Code) (registers : List ℕ) (r : Region) (lock stripe : ℕ) → wants code registers r lock stripe ≡ true → lock < length code.locks
lock_there code registers r lock stripe w = by (slice_get code.locks lock) refl
  where
    by : (o : Option LockInfo) → slice_get code.locks lock ≡ o → lock < length code.locks
    by None e = absurd (true≢false (sym w ∙ unwanted code registers lock stripe e r))
    by (Some l) e = slice_get_within code.locks lock l e

-- a stripe that a Take takes by an operation is there
pub lacked_there : (code : Code) (th : Thread) (r : Option Region) (n : ℕ) → lacked code th r ≡ Some n → (nat_lt (n / 8) (length code.locks) && nat_lt (n % 8) 8) ≡ true
lacked_there code th None n e = cc
lacked_there code th (Some r) n e =
    let f = some_first (is_lacked code th r) (8 * end_lock code r - left_from th r) (left_from th r) n e in
    let wanted : wants_number code th.top.registers r n ≡ true = left (wants_number code th.top.registers r n) (not (is_listed th.stripes n)) f.passes in
    both (nat_lt (n / 8) (length code.locks)) (nat_lt (n % 8) 8) (lt-ltb (n / 8) (length code.locks) (lock_there code th.top.registers r (n / 8) (n % 8) wanted)) (lt-ltb (n % 8) 8 (omega arith))
  where
    both : (a b : Bool) → a ≡ true → b ≡ true → (a && b) ≡ true
    both true b p q = q
    both false b p q = cc
