-- An entry that is read is the entry that was written, and only its one line is read.
use Rattle.std.proofs.Common.{◌≡◌, ℕ, ◌<◌, Bool, true, false, cond, eqb, List, [], ◌∷◌, ◌++◌, length, Option, Some, None, refl, sym, ap, subst, ◌∙◌, arith, append_assoc, inl, inr, ⊎_elim}
use Rattle.std.specs.Prelude.{codes, nat_le, ◌⊎◌}
use Rattle.std.specs.List.{AllByRecursion, list_all}
use Rattle.std.specs.Option.{option_map}
use Rattle.std.specs.Str.{bytes_eq}
use Rattle.std.proofs.lemmas.Bool.{eqb-true, eq-eqb, ne_eqb, and_parts, leb-true}
use Rattle.std.proofs.lemmas.List.{nil_from_length}
use Rattle.std.proofs.lemmas.Option.{none-some, same_Some, cond_some}
use Rattle.std.proofs.lemmas.Slice.Eq.{bytes_eq-Decides}
use Rattle.profiles.specs.Profile.{Text}
use Rattle.sync_objects.specs.declared.entry.Entry.{Entry}
use Rattle.sync_objects.specs.declared.object.ObjId.{ObjId}
use Rattle.sync_objects.specs.declared.object.ObjId.TheVariants as object
use Rattle.sync_objects.specs.declared.operation.OpName.{OpName}
use Rattle.sync_objects.specs.declared.operation.OpName.TheVariants as op
use Rattle.sync_objects.specs.declared.kind.ObjKind.{ObjKind}
use Rattle.sync_objects.specs.declared.kind.ObjKind.TheVariants as kind
use Rattle.sync_objects.specs.Names.{kind_of, object_kind, Fits}
use Rattle.order_log.specs.Operations.{op_text}
use Rattle.order_log.specs.Text.{number_text, object_text, entry_line, stripe_of}
use Rattle.order_log.specs.Line.{◌>>=◌, cut, number_in, op_among, op_rows, weak_in, lone_object, object_by, object_in, kind_number, fits, entry_in}
use Rattle.order_log.proofs.Numbers.{number_in-number_text, number_text-number_in}
use Rattle.order_log.proofs.Parts.{Free, Free-append, Free-number_text, cut_at, cut_is}

-- ---- steps that may find nothing

pub bind_some : {A B : Type 0} (o : Option A) (f : A → Option B) (y : B) → (o >>= f) ≡ Some y → (x : A) × (o ≡ Some x) × (f x ≡ Some y)
bind_some None f y e = absurd (none-some y e)
bind_some (Some x) f y e = (x, refl, e)

pub bind_at : {A B : Type 0} (o : Option A) (x : A) (f : A → Option B) → o ≡ Some x → (o >>= f) ≡ f x
bind_at o x f e = ap (λ p. p >>= f) e

pub map_some : {A B : Type 0} (f : A → B) (o : Option A) (y : B) → option_map f o ≡ Some y → (x : A) × (o ≡ Some x) × (f x ≡ y)
map_some f None y e = absurd (none-some y e)
map_some f (Some x) y e = (x, refl, same_Some (f x) y e)

pub none_mapped : {A B : Type 0} (f : A → B) (o : Option A) → option_map f o ≡ None → o ≡ None
none_mapped f None e = refl
none_mapped f (Some x) e = absurd (none-some (f x) (sym e))

-- which way a test went
pub chosen : {A : Type 0} (b : Bool) (x y z : A) → cond b x y ≡ z → ((b ≡ true) × (x ≡ z)) ⊎ ((b ≡ false) × (y ≡ z))
chosen true x y z e = inl (refl, e)
chosen false x y z e = inr (refl, e)

-- ---- operations

found_right : (rows : List (Text × OpName)) (text : Text) (o : OpName) → AllByRecursion (λ row. row.0 ≡ op_text row.1) rows → op_among rows text ≡ Some o → text ≡ op_text o
found_right [] text o right e = absurd (none-some o e)
found_right (row ∷ rows) text o right e =
    let others = found_right rows text o right.1 in
    ⊎_elim
    (λ w. sym ((bytes_eq-Decides row.0 text).0 w.0) ∙ right.0 ∙ ap op_text (same_Some row.1 o w.1))
    (λ w. others w.1)
    (chosen (bytes_eq row.0 text) (Some row.1) (op_among rows text) (Some o) e)

rows_right : AllByRecursion (λ row. row.0 ≡ op_text row.1) op_rows
rows_right = (refl, (refl, (refl, (refl, (refl, (refl, (refl, (refl, (refl, (refl, (refl, (refl, (refl, (refl, (refl, (refl, (refl, (refl, (refl, (refl, (refl, (refl, (refl, (refl, (refl, (refl, (refl, (refl, (refl, (refl, tt))))))))))))))))))))))))))))))

pub op_is : (text : Text) (o : OpName) → op_among op_rows text ≡ Some o → text ≡ op_text o
op_is text o e = found_right op_rows text o rows_right e

pub op_again : (o : OpName) → op_among op_rows (op_text o) ≡ Some o
op_again op.Lock = refl
op_again op.TryLock = refl
op_again op.Unlock = refl
op_again op.MutexInit = refl
op_again op.CondEnter = refl
op_again op.CondWake = refl
op_again op.Signal = refl
op_again op.BarrierInit = refl
op_again op.Arrive = refl
op_again op.Pass = refl
op_again op.RdLock = refl
op_again op.WrLock = refl
op_again op.RwUnlock = refl
op_again op.RwInit = refl
op_again op.Take = refl
op_again op.Retake = refl
op_again op.Give = refl
op_again op.Revoke = refl
op_again op.Draw = refl
op_again op.Start = refl
op_again op.Begin = refl
op_again op.End = refl
op_again op.Join = refl
op_again op.Close = refl
op_again op.Leave = refl
op_again op.HaltAll = refl
op_again op.TrapHere = refl
op_again op.Stop = refl
op_again op.GetChar = refl
op_again op.Print = refl

-- the names of operations have small letters only
op_high : (o : OpName) → list_all (λ b. nat_le 97 b) (op_text o) ≡ true
op_high op.Lock = refl
op_high _ = refl

Free-high : (c : ℕ) (bs : Text) → c < 97 → list_all (λ b. nat_le 97 b) bs ≡ true → Free c bs
Free-high c [] low e = tt
Free-high c (b ∷ bs) low e =
    let p = and_parts (nat_le 97 b) (list_all (λ x. nat_le 97 x) bs) e in
    let high = leb-true 97 b p.0 in
    (ne_eqb b c (λ same. omega arith), Free-high c bs low p.1)

Free-op_text : (c : ℕ) (o : OpName) → c < 97 → Free c (op_text o)
Free-op_text c o low = Free-high c (op_text o) low (op_high o)

-- ---- kinds

abbrev kind_at : ℕ → ObjKind
kind_at n = cond (eqb n 0) kind.Mutex (cond (eqb n 1) kind.Cond (cond (eqb n 2) kind.Barrier (cond (eqb n 3) kind.Weak (cond (eqb n 4) kind.Slot (cond (eqb n 5) kind.Threads (cond (eqb n 6) kind.Halt (cond (eqb n 7) kind.Input (cond (eqb n 8) kind.Output kind.Rw))))))))

kind_at-number : (k : ObjKind) → kind_at (kind_number k) ≡ k
kind_at-number kind.Mutex = refl
kind_at-number kind.Cond = refl
kind_at-number kind.Barrier = refl
kind_at-number kind.Weak = refl
kind_at-number kind.Slot = refl
kind_at-number kind.Threads = refl
kind_at-number kind.Halt = refl
kind_at-number kind.Input = refl
kind_at-number kind.Output = refl
kind_at-number kind.Rw = refl

pub Fits-fits : (o : OpName) (x : ObjId) → fits o x ≡ true → Fits o x
Fits-fits o x e = sym (kind_at-number (kind_of o)) ∙ ap kind_at (eqb-true _ _ e) ∙ kind_at-number (object_kind x)

pub fits-true : (o : OpName) (x : ObjId) → Fits o x → fits o x ≡ true
fits-true o x h = eq-eqb _ _ (ap kind_number h)

-- ---- objects

weak_again : (lock stripe : ℕ) → weak_in (number_text lock ++ codes "." ++ number_text stripe) ≡ Some (object.Weak lock stripe)
unfolding weak_in
weak_again lock stripe =
    let parts : cut 46 (number_text lock ++ codes "." ++ number_text stripe) ≡ Some (number_text lock, number_text stripe) =
    ap (cut 46) (append_assoc (number_text lock) (codes ".") (number_text stripe)) ∙ cut_at 46 (number_text lock) (number_text stripe) (Free-number_text 46 lock (omega arith)) in
    rw (parts, number_in-number_text lock, number_in-number_text stripe) refl

weak_is : (text : Text) (x : ObjId) → weak_in text ≡ Some x → codes "w" ++ text ≡ object_text x
unfolding weak_in
weak_is text x e =
    let parts = bind_some (cut 46 text) _ x e in
    let lock = bind_some (number_in parts.0.0) _ x parts.2 in
    let stripe = bind_some (number_in parts.0.1) _ x lock.2 in
    let made : object.Weak lock.0 stripe.0 ≡ x = same_Some (object.Weak lock.0 stripe.0) x stripe.2 in
    let whole = (cut_is 46 text parts.0 parts.1).text in
    let first = number_text-number_in parts.0.0 lock.0 lock.1 in
    let second = number_text-number_in parts.0.1 stripe.0 stripe.1 in
    let spelled : text ≡ number_text lock.0 ++ codes "." ++ number_text stripe.0 =
    whole ∙ ap (λ (t : Text). t ++ 46 ∷ parts.0.1) first ∙ ap (λ (t : Text). number_text lock.0 ++ 46 ∷ t) second ∙ sym (append_assoc (number_text lock.0) (codes ".") (number_text stripe.0)) in
    let joined : codes "w" ++ number_text lock.0 ++ codes "." ++ number_text stripe.0 ≡ codes "w" ++ (number_text lock.0 ++ codes "." ++ number_text stripe.0) = simp append_assoc in
    ap (λ (t : Text). codes "w" ++ t) spelled ∙ sym joined ∙ ap object_text made

pub object_again : (x : ObjId) → object_in (object_text x) ≡ Some x
unfolding object_in
object_again (object.Mutex cell) = ap (option_map object.Mutex) (number_in-number_text cell)
object_again (object.Cond cell) = ap (option_map object.Cond) (number_in-number_text cell)
object_again (object.Barrier cell) = ap (option_map object.Barrier) (number_in-number_text cell)
object_again (object.Rw cell) = ap (option_map object.Rw) (number_in-number_text cell)
object_again (object.Weak lock stripe) = weak_again lock stripe
object_again (object.Slot slot) = ap (option_map object.Slot) (number_in-number_text slot)
object_again object.Threads = refl
object_again object.Halt = refl
object_again object.Input = refl
object_again object.Output = refl

numbered_is : (make : ℕ → ObjId) (b : ℕ) (bs : Text) (x : ObjId) → ((n : ℕ) → object_text (make n) ≡ b ∷ number_text n) → option_map make (number_in bs) ≡ Some x → b ∷ bs ≡ object_text x
numbered_is make b bs x spelled e =
    let n = map_some make (number_in bs) x e in
    ap (λ (t : Text). b ∷ t) (number_text-number_in bs n.0 n.1) ∙ sym (spelled n.0) ∙ ap object_text n.2

lone_is : (b : ℕ) (x : ObjId) → lone_object b ≡ Some x → b ∷ [] ≡ object_text x
lone_is b x e =
    let is : (c : ℕ) (y : ObjId) → object_text y ≡ c ∷ [] → eqb b c ≡ true → Some y ≡ Some x → b ∷ [] ≡ object_text x =
    (λ c y spelled t s. ap (λ (d : ℕ). d ∷ []) (eqb-true b c t) ∙ sym spelled ∙ ap object_text (same_Some y x s)) in
    ⊎_elim (λ w. is 84 object.Threads refl w.0 w.1)
    (λ w. ⊎_elim (λ v. is 72 object.Halt refl v.0 v.1)
    (λ v. ⊎_elim (λ u. is 73 object.Input refl u.0 u.1)
    (λ u. ⊎_elim (λ t. is 79 object.Output refl t.0 t.1)
    (λ t. absurd (none-some x t.1))
    (chosen (eqb b 79) (Some object.Output) None (Some x) u.1))
    (chosen (eqb b 73) (Some object.Input) _ (Some x) v.1))
    (chosen (eqb b 72) (Some object.Halt) _ (Some x) w.1))
    (chosen (eqb b 84) (Some object.Threads) _ (Some x) e)

object_by_is : (b : ℕ) (bs : Text) (x : ObjId) → object_by b bs ≡ Some x → b ∷ bs ≡ object_text x
object_by_is b bs x e =
    let at : (c : ℕ) → eqb b c ≡ true → c ∷ bs ≡ object_text x → b ∷ bs ≡ object_text x = (λ c t h. ap (λ (d : ℕ). d ∷ bs) (eqb-true b c t) ∙ h) in
    ⊎_elim (λ w. at 109 w.0 (numbered_is object.Mutex 109 bs x (λ n. refl) w.1))
    (λ w. ⊎_elim (λ v. at 99 v.0 (numbered_is object.Cond 99 bs x (λ n. refl) v.1))
    (λ v. ⊎_elim (λ u. at 98 u.0 (numbered_is object.Barrier 98 bs x (λ n. refl) u.1))
    (λ u. ⊎_elim (λ q. at 114 q.0 (numbered_is object.Rw 114 bs x (λ n. refl) q.1))
    (λ q. ⊎_elim (λ t. at 119 t.0 (weak_is bs x t.1))
    (λ t. ⊎_elim (λ s. at 115 s.0 (numbered_is object.Slot 115 bs x (λ n. refl) s.1))
    (λ s. ⊎_elim (λ r. ap (λ (cs : Text). b ∷ cs) (nil_from_length bs (eqb-true _ _ r.0)) ∙ lone_is b x r.1)
    (λ r. absurd (none-some x r.1))
    (chosen (eqb (length bs) 0) (lone_object b) None (Some x) s.1))
    (chosen (eqb b 115) (option_map object.Slot (number_in bs)) _ (Some x) t.1))
    (chosen (eqb b 119) (weak_in bs) _ (Some x) q.1))
    (chosen (eqb b 114) (option_map object.Rw (number_in bs)) _ (Some x) u.1))
    (chosen (eqb b 98) (option_map object.Barrier (number_in bs)) _ (Some x) v.1))
    (chosen (eqb b 99) (option_map object.Cond (number_in bs)) _ (Some x) w.1))
    (chosen (eqb b 109) (option_map object.Mutex (number_in bs)) _ (Some x) e)

pub object_is : (text : Text) (x : ObjId) → object_in text ≡ Some x → text ≡ object_text x
unfolding object_in
object_is [] x e = absurd (none-some x e)
object_is (b ∷ bs) x e = object_by_is b bs x e

Free-object_text : (c : ℕ) (x : ObjId) → c < 46 → Free c (object_text x)
Free-object_text c (object.Mutex cell) low = (ne_eqb _ _ (λ e. omega arith), Free-number_text c cell (omega arith))
Free-object_text c (object.Cond cell) low = (ne_eqb _ _ (λ e. omega arith), Free-number_text c cell (omega arith))
Free-object_text c (object.Barrier cell) low = (ne_eqb _ _ (λ e. omega arith), Free-number_text c cell (omega arith))
Free-object_text c (object.Rw cell) low = (ne_eqb _ _ (λ e. omega arith), Free-number_text c cell (omega arith))
Free-object_text c (object.Weak lock stripe) low = (
  ne_eqb _ _ (λ e. omega arith),
  Free-append c (number_text lock ++ codes ".") (number_text stripe)
      (Free-append c (number_text lock) (codes ".") (Free-number_text c lock (omega arith)) (ne_eqb _ _ (λ e. omega arith), tt))
      (Free-number_text c stripe (omega arith)),
)
Free-object_text c (object.Slot slot) low = (ne_eqb _ _ (λ e. omega arith), Free-number_text c slot (omega arith))
Free-object_text c object.Threads low = (ne_eqb _ _ (λ e. omega arith), tt)
Free-object_text c object.Halt low = (ne_eqb _ _ (λ e. omega arith), tt)
Free-object_text c object.Input low = (ne_eqb _ _ (λ e. omega arith), tt)
Free-object_text c object.Output low = (ne_eqb _ _ (λ e. omega arith), tt)

-- ---- entries

-- an entry's line, cut at its first blank
entry_parts : (e : Entry) → entry_line e ≡ number_text e.thread ++ 32 ∷ (number_text e.count ++ 32 ∷ (op_text e.op ++ 32 ∷ object_text e.obj))
entry_parts e = simp append_assoc

pub entry_again : (e : Entry) → Fits e.op e.obj → entry_in (entry_line e) ≡ Some e
unfolding entry_in
entry_again e h =
    let o = op_text e.op ++ 32 ∷ object_text e.obj in
    let c = number_text e.count ++ 32 ∷ o in
    let first : cut 32 (entry_line e) ≡ Some (number_text e.thread, c) = ap (cut 32) (entry_parts e) ∙ cut_at 32 (number_text e.thread) c (Free-number_text 32 e.thread (omega arith)) in
    let second = cut_at 32 (number_text e.count) o (Free-number_text 32 e.count (omega arith)) in
    let third = cut_at 32 (op_text e.op) (object_text e.obj) (Free-op_text 32 e.op (omega arith)) in
    rw (first, second, third, number_in-number_text e.thread, number_in-number_text e.count, op_again e.op, object_again e.obj, fits-true e.op e.obj h) refl

-- the entry that a line is
pub record IsEntryLine (line : Text) (e : Entry) : Type 0 where
  pub text : line ≡ entry_line e
  pub fitting : Fits e.op e.obj

line_from_parts : (line t0 t1 c0 c1 o0 o1 : Text) (e : Entry) → line ≡ t0 ++ 32 ∷ t1 → t1 ≡ c0 ++ 32 ∷ c1 → c1 ≡ o0 ++ 32 ∷ o1
    → t0 ≡ number_text e.thread → c0 ≡ number_text e.count → o0 ≡ op_text e.op → o1 ≡ object_text e.obj → line ≡ entry_line e
line_from_parts line t0 t1 c0 c1 o0 o1 e p q r thread count name thing =
    let all : line ≡ number_text e.thread ++ 32 ∷ (number_text e.count ++ 32 ∷ (op_text e.op ++ 32 ∷ object_text e.obj)) = cc in
    all ∙ sym (entry_parts e)

pub entry_is : (line : Text) (e : Entry) → entry_in line ≡ Some e → IsEntryLine line e
unfolding entry_in
entry_is line e found =
    let t = bind_some (cut 32 line) _ e found in
    let c = bind_some (cut 32 t.0.1) _ e t.2 in
    let o = bind_some (cut 32 c.0.1) _ e c.2 in
    let thread = bind_some (number_in t.0.0) _ e o.2 in
    let count = bind_some (number_in c.0.0) _ e thread.2 in
    let name = bind_some (op_among op_rows o.0.0) _ e count.2 in
    let thing = bind_some (object_in o.0.1) _ e name.2 in
    let made : Entry = record { thread = thread.0; count = count.0; op = name.0; obj = thing.0 } in
    let fit = cond_some (fits name.0 thing.0) made e thing.2 in
    let first = (cut_is 32 line t.0 t.1).text in
    let second = (cut_is 32 t.0.1 c.0 c.1).text in
    let third = (cut_is 32 c.0.1 o.0 o.1).text in
    let is_thread = number_text-number_in t.0.0 thread.0 thread.1 in
    let is_count = number_text-number_in c.0.0 count.0 count.1 in
    let is_op = op_is o.0.0 name.0 name.1 in
    let is_object = object_is o.0.1 thing.0 thing.1 in
    let spelled = line_from_parts line t.0.0 t.0.1 c.0.0 c.0.1 o.0.0 o.0.1 made first second third is_thread is_count is_op is_object in
    subst (λ (x : Entry). IsEntryLine line x) fit.1 (record { text = spelled; fitting = Fits-fits name.0 thing.0 fit.0 })

-- what stands before the object
abbrev pub entry_head : Entry → Text
entry_head e = number_text e.thread ++ codes " " ++ number_text e.count ++ codes " " ++ op_text e.op ++ codes " "

-- a byte that is no blank, and below the digits
pub Free-entry_head : (c : ℕ) (e : Entry) → c < 48 → eqb 32 c ≡ false → Free c (entry_head e)
Free-entry_head c e low other =
    let blank : Free c (codes " ") = (other, tt) in
    let first = Free-append c (number_text e.thread) (codes " ") (Free-number_text c e.thread low) blank in
    let second = Free-append c (number_text e.thread ++ codes " ") (number_text e.count) first (Free-number_text c e.count low) in
    let third = Free-append c (number_text e.thread ++ codes " " ++ number_text e.count) (codes " ") second blank in
    let fourth = Free-append c (number_text e.thread ++ codes " " ++ number_text e.count ++ codes " ") (op_text e.op) third (Free-op_text c e.op (omega arith)) in
    Free-append c (number_text e.thread ++ codes " " ++ number_text e.count ++ codes " " ++ op_text e.op) (codes " ") fourth blank

pub Free-entry_line : (c : ℕ) (e : Entry) → c < 46 → eqb 32 c ≡ false → Free c (entry_line e)
Free-entry_line c e low other = Free-append c (entry_head e) (object_text e.obj) (Free-entry_head c e (omega arith) other) (Free-object_text c e.obj low)

-- the stripe stands after the point
pub stripe_cut : (e : Entry) → object_kind e.obj ≡ kind.Weak → (front : Text) × (cut 46 (entry_line e) ≡ Some (front, number_text (stripe_of e.obj)))
stripe_cut e weak = by e.obj weak
  where
    by : (x : ObjId) → object_kind x ≡ kind.Weak → (front : Text) × (cut 46 (entry_head e ++ object_text x) ≡ Some (front, number_text (stripe_of x)))
    by (object.Weak lock stripe) is =
        let name = codes "w" ++ number_text lock in
        let rest = 46 ∷ number_text stripe in
        let front = entry_head e ++ name in
        let free = Free-append 46 (entry_head e) name (Free-entry_head 46 e (omega arith) refl) (ne_eqb 119 46 (λ h. omega arith), Free-number_text 46 lock (omega arith)) in
        let whole : entry_head e ++ object_text (object.Weak lock stripe) ≡ front ++ rest =
        ap (λ (t : Text). entry_head e ++ t) (append_assoc name (codes ".") (number_text stripe)) ∙ sym (append_assoc (entry_head e) name rest) in
        (front, ap (cut 46) whole ∙ cut_at 46 front (number_text stripe) free)
    by _ is = absurd cc
