-- What is at work at once after one thread's stack has changed.
use Rattle.std.proofs.Common.{◌≡◌, ◌≢◌, ℕ, ◌<◌, ◌⊎◌, inl, inr, ⊎_elim, List, length, Some, sym, ap, ◌∙◌, subst}
use Rattle.std.specs.Prelude.{slice_get, slice_set, Contains}
use Rattle.std.proofs.lemmas.Bool.{cases_eq}
use Rattle.std.proofs.lemmas.Option.{same_Some}
use Rattle.rr_base.proofs.Lists.{slice_get-set_other, slice_get-set_same}
use Rattle.seen_pairs.specs.Pairings.{Notes, IsElsewhere, IsNoted, Follows}
use Rattle.seen_pairs.specs.Seen.{AreAtOnce}
use Rattle.seen_pairs.proofs.Lists.{some_at}

-- no stack has changed
pub follows_same : (stacks : List (List ℕ)) (noted : List (ℕ × ℕ)) → Follows stacks stacks noted noted
follows_same stacks noted = record { stays = λ f g c. c; noted = λ f g h. inl h; only = λ f g c. inl c }

module _ (stacks : List (List ℕ)) (t : ℕ) (old_stack stack : List ℕ) (at : slice_get stacks t ≡ Some old_stack) (old new : List (ℕ × ℕ)) (h : Notes old new (λ f g. Contains stack f × IsElsewhere stacks t g)) where
  own : slice_get (slice_set stacks t stack) t ≡ Some stack
  own = slice_get-set_same stacks t stack old_stack at

  other : (u : ℕ) → u ≢ t → slice_get (slice_set stacks t stack) u ≡ slice_get stacks u
  other u ne = slice_get-set_other stacks t u stack ne

  -- a function on the stack of this thread
  mine : (u f : ℕ) (xs : List ℕ) → u ≡ t → slice_get (slice_set stacks t stack) u ≡ Some xs → Contains xs f → Contains stack f
  mine u f xs same e c = subst (λ ys. Contains ys f) (same_Some xs stack (sym e ∙ ap (slice_get (slice_set stacks t stack)) same ∙ own)) c

  elsewhere : (u g : ℕ) (ys : List ℕ) → u ≢ t → slice_get (slice_set stacks t stack) u ≡ Some ys → Contains ys g → IsElsewhere stacks t g
  elsewhere u g ys ne e c = record { thread = u; other = ne; stack = ys; stack_is = sym (other u ne) ∙ e; on_stack = c }

  noted_after : (f g : ℕ) → AreAtOnce (slice_set stacks t stack) f g → AreAtOnce stacks f g ⊎ IsNoted new f g
  noted_after f g a =
      ⊎_elim
      (λ same. inr (inl (h.noted f g (mine a.first f a.first_stack same a.first_is a.on_first, elsewhere a.second g a.second_stack (λ e. a.differ (same ∙ sym e)) a.second_is a.on_second))))
      (λ ne. ⊎_elim
      (λ same. inr (inr (h.noted g f (mine a.second g a.second_stack same a.second_is a.on_second, elsewhere a.first f a.first_stack ne a.first_is a.on_first))))
      (λ apart. inl (record {
        first = a.first;
        second = a.second;
        differ = a.differ;
        first_stack = a.first_stack;
        second_stack = a.second_stack;
        first_is = sym (other a.first ne) ∙ a.first_is;
        second_is = sym (other a.second apart) ∙ a.second_is;
        on_first = a.on_first;
        on_second = a.on_second;
      }))
      (cases_eq a.second t))
      (cases_eq a.first t)

  at_once : (f g : ℕ) → Contains stack f → IsElsewhere stacks t g → AreAtOnce (slice_set stacks t stack) f g
  at_once f g c e = record {
    first = t;
    second = e.thread;
    differ = λ same. e.other (sym same);
    first_stack = stack;
    second_stack = e.stack;
    first_is = own;
    second_is = other e.thread e.other ∙ e.stack_is;
    on_first = c;
    on_second = e.on_stack;
  }

  -- one thread's stack has changed
  pub follows_change : Follows stacks (slice_set stacks t stack) old new
  follows_change = record {
    stays = h.stays;
    noted = noted_after;
    only = λ f g c. ⊎_elim (λ o. inl o) (λ x. inr (at_once f g x.0 x.1)) (h.only f g c);
  }

pub follows_here : (stacks after : List (List ℕ)) (t : ℕ) (stack : List ℕ) (old new : List (ℕ × ℕ)) → t < length stacks → after ≡ slice_set stacks t stack → Notes old new (λ f g. Contains stack f × IsElsewhere stacks t g) → Follows stacks after old new
follows_here stacks after t stack old new lt e h =
    let x = some_at stacks t lt in
    subst (λ zs. Follows stacks zs old new) (sym e) (follows_change stacks t x.0 stack x.1 old new h)
