-- What each part of a log that is read keeps.
use Rattle.std.proofs.Common.{◌≡◌, ℕ, ◌≤◌, Bool, true, false, cond, List, length, Option, Some, None, Result, Ok, Err, refl, sym, ap, subst, ◌∙◌, arith}
use Rattle.std.specs.Prelude.{nat_le, ◌&&◌}
use Rattle.std.specs.Option.{option_and_then}
use Rattle.std.proofs.lemmas.Bool.{and_parts, leb-true}
use Rattle.profiles.specs.Profile.{Text}
use Rattle.order_log.specs.declared.fault.LogFault.{LogFault}
use Rattle.order_log.specs.declared.fault.LogFault.TheVariants.{LogSyntax, LogLimit, OutOfMemory}
use Rattle.order_log.specs.Log.{LogView, IsLog, KeepsLimits}
use Rattle.order_log.specs.Line.{after_word, number_in, hex_in}
use Rattle.order_log.specs.Reading.{IsAnswer, UnlessMemory}
use Rattle.order_log.specs.Recogniser.{◌>>=◌, Gives, Lines, lines_in, next_line, found_at, numbered, input_at, log_at}
use Rattle.order_log.proofs.Heads.{hex_is}
use Rattle.order_log.proofs.Only.{log_at-right, log_at-only}

-- ---- steps that find something

bind_ok : {A B : Type 0} (r : Result A LogFault) (f : A → Result B LogFault) (y : B) → r >>= f ≡ Ok y → (x : A) × (r ≡ Ok x) × (f x ≡ Ok y)
bind_ok (Ok x) f y e = (x, refl, e)
bind_ok (Err d) f y e = absurd cc

ok_is : {X : Type 0} (a b : X) → ◌≡◌ {A = Result X LogFault} (Ok a) (Ok b) → a ≡ b
ok_is a b h = cc

abbrev done : {X : Type 0} → X → Result X LogFault
done x = Ok x

found_ok : {A : Type 0} (at : ℕ) (o : Option A) (x : A) → found_at at o ≡ Ok x → o ≡ Some x
found_ok at None x e = absurd cc
found_ok at (Some y) x e = ap Some (ok_is y x e)

test_ok : {A : Type 0} (b : Bool) (x y : A) (d : LogFault) → cond b (Ok x) (Err d) ≡ Ok y → (b ≡ true) × (x ≡ y)
test_ok true x y d e = (refl, cc)
test_ok false x y d e = absurd cc

-- ---- the head

pub numbered_within : (word : Text) (low high n : ℕ) (l after : Lines) → numbered word low high l ≡ Ok (n, after) → (low ≤ n) × (n ≤ high)
unfolding numbered
numbered_within word low high n l after e =
    let line = bind_ok (next_line l) _ (n, after) e in
    let k = bind_ok (found_at l.at (option_and_then number_in (after_word word line.0.0))) _ (n, after) line.2 in
    let t = test_ok (nat_le low k.0 && nat_le k.0 high) (k.0, line.0.1) (n, after) (LogLimit l.at) k.2 in
    let same : k.0 ≡ n = ap (λ (x : ℕ × Lines). x.0) t.1 in
    let both = and_parts (nat_le low k.0) (nat_le k.0 high) t.0 in
    let from = leb-true low k.0 both.0 in
    let to = leb-true k.0 high both.1 in
    (omega arith, omega arith)

pub input_size : (size : ℕ) (l after : Lines) (bytes : List ℕ) → input_at size l ≡ Ok (bytes, after) → length bytes ≡ size
unfolding input_at
input_size size l after bytes e =
    let line = bind_ok (next_line l) _ (bytes, after) e in
    let b = bind_ok (found_at l.at (hex_in size line.0.0)) (λ bs. done (bs, line.0.1)) (bytes, after) line.2 in
    let is = hex_is size line.0.0 b.0 (found_ok l.at (hex_in size line.0.0) b.0 b.1) in
    let same : b.0 ≡ bytes = ap (λ (x : List ℕ × Lines). x.0) (ok_is (b.0, line.0.1) (bytes, after) b.2) in
    ap length (sym same) ∙ is.size_is

-- ---- the whole

pub log_kept : (bytes : Text) (v : LogView) → log_at (lines_in 1 bytes) ≡ Ok v → IsLog v × KeepsLimits v
log_kept bytes v e = let a = subst (λ (r : Result LogView LogFault). IsAnswer bytes r) e (log_at-right bytes) in (a.0, a.1)

-- what is given is the right answer, unless memory runs out
pub given_right : (bytes : Text) (r : Result LogView LogFault) → Gives (λ v. v) r (log_at (lines_in 1 bytes)) → UnlessMemory r (IsAnswer bytes r)
given_right bytes (Ok v) e = subst (λ (a : Result LogView LogFault). IsAnswer bytes a) e (log_at-right bytes)
given_right bytes (Err (LogSyntax n)) e = subst (λ (a : Result LogView LogFault). IsAnswer bytes a) e (log_at-right bytes)
given_right bytes (Err (LogLimit n)) e = subst (λ (a : Result LogView LogFault). IsAnswer bytes a) e (log_at-right bytes)
given_right bytes (Err OutOfMemory) e = tt

pub given_only : (bytes : Text) (r other : Result LogView LogFault) → Gives (λ v. v) r (log_at (lines_in 1 bytes)) → IsAnswer bytes other → UnlessMemory r (r ≡ other)
given_only bytes (Ok v) other e h = sym e ∙ log_at-only bytes other h
given_only bytes (Err (LogSyntax n)) other e h = sym e ∙ log_at-only bytes other h
given_only bytes (Err (LogLimit n)) other e h = sym e ∙ log_at-only bytes other h
given_only bytes (Err OutOfMemory) other e h = tt
