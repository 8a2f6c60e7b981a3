-- What an entry of a walk makes of the words: its object's word changes by its operation, and no other object's.
use Rattle.std.proofs.Common.{◌≡◌, ◌≢◌, ℕ, true, List, [], ◌∷◌, Some, refl, sym, ap, ◌∙◌, subst, ℤ, pos, arith}
use Rattle.std.specs.Prelude.{slice_get}
use Rattle.sync_objects.specs.declared.entry.Entry.{Entry}
use Rattle.sync_objects.specs.declared.entry.Noted.{Noted}
use Rattle.sync_objects.specs.declared.object.ObjId.{ObjId}
use Rattle.run_theory.specs.Labels.{Label, label_thread}
use Rattle.run_theory.specs.Laws.{IsLawfulEffect, IsLawful}
use Rattle.run_theory.specs.Steps.{Change, Becomes, Leaves, Effect, Refused, Marks, Loads, Stores, Operates, Machine, State, Reaches, outcome, added, effect_entry, run, trace}
use Rattle.run_theory.specs.Walk.{IsPart}
use Rattle.run_theory.proofs.Apart.{run_more, trace_more}
use Rattle.run_theory.proofs.Lists.{nil_front, nil_back, slice_get-set_other, slice_get-set_same}
use Rattle.run_theory.proofs.Swap.{Steps, steps_of, adds_of, load_inv, change_inv}

module _ {T : Type 0} (m : Machine T) (law : IsLawful m) where
  -- an object's word stays where the effect is no operation on it
  else_word : (ws ws1 : List ℕ) (th t : T) (l : Label) (f : Effect T) → IsLawfulEffect m l th f → outcome m ws f ≡ Leaves ws1 t → (o : ObjId) → m.has_object o ≡ true → ((e : Entry) (change : ℕ → Change T) → f ≡ Operates e change → o ≢ e.obj) → slice_get ws1 (m.place o) ≡ slice_get ws (m.place o)
  else_word ws ws1 th t l Refused h on o known none = cc
  else_word ws ws1 th t l (Marks x) h on o known none = let e : ws1 ≡ ws = cc in ap (λ z. slice_get z (m.place o)) e
  else_word ws ws1 th t l (Loads c f) h on o known none = let r = load_inv ws f (slice_get ws c) ws1 t on in ap (λ z. slice_get z (m.place o)) r.2
  else_word ws ws1 th t l (Stores c v x) h on o known none =
      let r = change_inv ws c (λ _. Becomes v (pos 0) x) (slice_get ws c) ws1 t on in
      ap (λ z. slice_get z (m.place o)) r.5 ∙ slice_get-set_other ws c (m.place o) r.1 (omega (arith, h.1, law.following o known))
  else_word ws ws1 th t l (Operates e f) h on o known none =
      let r = change_inv ws (m.place e.obj) f (slice_get ws (m.place e.obj)) ws1 t on in
      ap (λ z. slice_get z (m.place o)) r.5 ∙ slice_get-set_other ws (m.place e.obj) (m.place o) r.1 (λ p. none e f refl (law.apart o e.obj known h.object p))

  step_else : (l : Label) (s s1 : State T) (x : Steps m s l s1) (o : ObjId) → m.has_object o ≡ true → ((e : Entry) (change : ℕ → Change T) → m.effect l x.before ≡ Operates e change → o ≢ e.obj) → slice_get s1.words (m.place o) ≡ slice_get s.words (m.place o)
  step_else l s s1 x o known none =
      ap (λ (z : State T). slice_get z.words (m.place o)) x.to
      ∙ else_word s.words x.words x.before x.after l (m.effect l x.before) (law.effects l x.before) x.leaves o known none

  -- the entry of an operation is the one that it adds
  adds_this : (ws : List ℕ) (f : Effect T) (e : Entry) (change : ℕ → Change T) (xs : List Noted) → effect_entry m ws f ≡ xs → f ≡ Operates e change → (n : ℕ) × (xs ≡ record { entry = e; number = n } ∷ [])
  adds_this ws f e change xs is same = (_, sym is ∙ ap (effect_entry m ws) same)

  -- steps that add no entry leave the words of all objects
  quiet_words : (R : List Label) (s s1 : State T) → run m R s ≡ Some s1 → trace m R s ≡ [] → (o : ObjId) → m.has_object o ≡ true → slice_get s1.words (m.place o) ≡ slice_get s.words (m.place o)
  quiet_words [] s s1 h nothing o known = let q : s1 ≡ s = cc in ap (λ (z : State T). slice_get z.words (m.place o)) q
  quiet_words (u ∷ R) s s1 h nothing o known =
      let more = run_more m law u R s s1 h in
      let tr = sym (trace_more m law u R s more.0 more.1) ∙ nothing in
      let x = steps_of m s u more.0 more.1 in
      let none = nil_front (added m s u) (trace m R more.0) tr in
      quiet_words R more.0 s1 more.2 (nil_back (added m s u) (trace m R more.0) tr) o known
      ∙ step_else u s more.0 x o known (λ e change is. let a = adds_this s.words (m.effect u x.before) e change [] (sym (adds_of m s u more.0 x) ∙ none) is in absurd cc)

  -- the step of an entry: its operation changes the word of its object
  pub record IsMade (e : Entry) (s s1 : State T) : Type 0 where
    pub label : Label
    pub thread : T
    pub stands : slice_get s.threads (label_thread label) ≡ Some thread
    pub change : ℕ → Change T
    pub effect : m.effect label thread ≡ Operates e change
    pub old : ℕ
    pub new : ℕ
    pub answer : ℤ
    pub after : T
    pub at : slice_get s.words (m.place e.obj) ≡ Some old
    pub becomes : change old ≡ Becomes new answer after
    pub words : slice_get s1.words (m.place e.obj) ≡ Some new

  made_by : (l : Label) (th after : T) (ws ws1 : List ℕ) (f : Effect T) (x : Noted) → m.effect l th ≡ f → outcome m ws f ≡ Leaves ws1 after → effect_entry m ws f ≡ x ∷ [] → (s s1 : State T) → slice_get s.threads (label_thread l) ≡ Some th → s.words ≡ ws → s1.words ≡ ws1 → IsMade x.entry s s1
  made_by l th after ws ws1 Refused x is on adds s s1 stands from to = cc
  made_by l th after ws ws1 (Marks y) x is on adds s s1 stands from to = cc
  made_by l th after ws ws1 (Loads c g) x is on adds s s1 stands from to = cc
  made_by l th after ws ws1 (Stores c v y) x is on adds s s1 stands from to = cc
  made_by l th after ws ws1 (Operates e change) x is on adds s s1 stands from to =
      let r = change_inv ws (m.place e.obj) change (slice_get ws (m.place e.obj)) ws1 after on in
      let same : e ≡ x.entry = cc in
      subst (λ z. IsMade z s s1) same (record {
        label = l;
        thread = th;
        stands = stands;
        change = change;
        effect = is;
        old = r.0;
        new = r.1;
        answer = r.2;
        after = after;
        at = ap (λ z. slice_get z (m.place e.obj)) from ∙ r.3;
        becomes = r.4;
        words = ap (λ z. slice_get z (m.place e.obj)) (to ∙ r.5) ∙ slice_get-set_same ws (m.place e.obj) r.1 r.0 r.3;
      })

  -- the part of an entry: its last step makes it, and no other object's word changes
  pub record IsMadeAfter (e : Entry) (s s1 : State T) : Type 0 where
    pub between : State T
    pub reached : Reaches m s between
    pub made : IsMade e between s1
    pub same : (o : ObjId) → m.has_object o ≡ true → slice_get between.words (m.place o) ≡ slice_get s.words (m.place o)
    pub others : (o : ObjId) → m.has_object o ≡ true → o ≢ e.obj → slice_get s1.words (m.place o) ≡ slice_get s.words (m.place o)

  pub part_made : (e : Entry) (s s1 : State T) → IsPart m e s s1 → IsMadeAfter e s s1
  part_made e s s1 p =
      let x = steps_of m p.between p.last s1 p.ends in
      let ws : s1.words ≡ x.words = ap (λ (z : State T). z.words) x.to in
      let adds = sym (adds_of m p.between p.last s1 x) ∙ p.adds in
      let same = quiet_words p.before s p.between p.leads p.nothing in
      record {
        between = p.between;
        reached = (p.before, p.leads);
        made = made_by p.last x.before x.after p.between.words x.words (m.effect p.last x.before) (record { entry = e; number = p.number }) refl x.leaves adds p.between s1 x.stands refl ws;
        same = same;
        others = λ o known ne.
            step_else p.last p.between s1 x o known (λ e1 change is.
            let a = adds_this p.between.words (m.effect p.last x.before) e1 change _ adds is in
            let same_entry : record { entry = e; number = p.number } ≡ record { entry = e1; number = a.0 } = cc a.1 in
            let entry : e ≡ e1 = ap (λ (z : Noted). z.entry) same_entry in
            λ q. ne (q ∙ ap (λ (z : Entry). z.obj) (sym entry)))
            ∙ same o known;
      }
