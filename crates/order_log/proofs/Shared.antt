-- The lines of entries: each is read as the entries that it was written for, and only their one line is.
use Rattle.std.proofs.Common.{◌≡◌, ℕ, zero, suc, ◌+◌, ◌-◌, ◌<◌, Bool, true, false, cond, eqb, [], ◌∷◌, ◌++◌, Option, Some, None, refl, sym, ap, subst, ◌∙◌, arith}
use Rattle.std.specs.Prelude.{codes, nat_lt, ◌&&◌}
use Rattle.std.specs.Option.{option_map}
use Rattle.std.proofs.lemmas.Bool.{and_parts, and_from, lt-ltb, ltb-true, ne_eqb, cond-true, cond-false}
use Rattle.std.proofs.lemmas.List.{append-nil}
use Rattle.std.proofs.lemmas.Option.{cond_some}
use Rattle.profiles.specs.Profile.{Text}
use Rattle.sync_objects.specs.declared.entry.Entry.{Entry}
use Rattle.sync_objects.specs.Names.{Fits}
use Rattle.order_log.specs.declared.version.Version.{Version}
use Rattle.order_log.specs.declared.version.Version.TheVariants as version
use Rattle.order_log.specs.Text.{number_text, entry_line, Group, stripe_of, last_text, group_line}
use Rattle.order_log.specs.Line.{cut, number_in, entry_in, may_share, alone, group_to, range_in, group_cut, group_in}
use Rattle.order_log.proofs.Numbers.{number_in-number_text, number_text-number_in}
use Rattle.order_log.proofs.Parts.{Free, Free-append, Free-number_text, cut_at, cut_none, cut_is}
use Rattle.order_log.proofs.Entries.{bind_some, map_some, entry_again, entry_is, Free-entry_line}
use Rattle.order_log.proofs.Groups.{GoesOn, IsChain, chain_none, goes_on_two, GoesOn-two, GoesOn-sharing}

-- ---- a line that is written is read again

hyphen_free : (e : Entry) → Free 45 (entry_line e)
hyphen_free e = Free-entry_line 45 e (omega arith) (ne_eqb 32 45 (λ h. omega arith))

lone_line : (e : Entry) → group_line (record { first = e; more = 0 }) ≡ entry_line e
lone_line e = append-nil (entry_line e)

lone_again : (w : Version) (e : Entry) → Fits e.op e.obj → group_in w (entry_line e) ≡ Some (record { first = e; more = 0 })
lone_again version.One e fit = ap (option_map alone) (entry_again e fit)
lone_again version.Two e fit = ap (group_cut (entry_line e)) (cut_none 45 (entry_line e) (hyphen_free e)) ∙ ap (option_map alone) (entry_again e fit)

group_to-again : (e : Entry) (more : ℕ) → may_share e.op ≡ true → group_to e (stripe_of e.obj + suc more) ≡ Some (record { first = e; more = suc more })
group_to-again e more share =
    let above : nat_lt (stripe_of e.obj) (stripe_of e.obj + suc more) ≡ true = lt-ltb _ _ (omega arith) in
    let back : stripe_of e.obj + suc more - stripe_of e.obj ≡ suc more = omega arith in
    cond-true (may_share e.op && nat_lt (stripe_of e.obj) (stripe_of e.obj + suc more)) _ None (and_from (may_share e.op) (nat_lt (stripe_of e.obj) (stripe_of e.obj + suc more)) share above)
    ∙ ap (λ (k : ℕ). Some (record { first = e; more = k })) back

range_again : (e : Entry) (more : ℕ) → Fits e.op e.obj → may_share e.op ≡ true → range_in (entry_line e, number_text (stripe_of e.obj + suc more)) ≡ Some (record { first = e; more = suc more })
unfolding range_in
range_again e more fit share = rw (entry_again e fit, number_in-number_text (stripe_of e.obj + suc more)) (group_to-again e more share)

more_line : (e : Entry) (more : ℕ) → group_line (record { first = e; more = suc more }) ≡ entry_line e ++ 45 ∷ number_text (stripe_of e.obj + suc more)
more_line e more =
    ap (λ (t : Text). entry_line e ++ t) (cond-false (eqb (suc more) 0) [] (codes "-" ++ number_text (stripe_of e.obj + suc more)) (ne_eqb (suc more) 0 (λ h. omega arith)))

two_again : (e : Entry) (more : ℕ) → Fits e.op e.obj → may_share e.op ≡ true → group_in version.Two (group_line (record { first = e; more = suc more })) ≡ Some (record { first = e; more = suc more })
two_again e more fit share =
    let last = number_text (stripe_of e.obj + suc more) in
    ap (group_in version.Two) (more_line e more) ∙ ap (group_cut (entry_line e ++ 45 ∷ last)) (cut_at 45 (entry_line e) last (hyphen_free e)) ∙ range_again e more fit share

group_again_from : (w : Version) (e : Entry) (more : ℕ) → Fits e.op e.obj → IsChain w e more → group_in w (group_line (record { first = e; more = more })) ≡ Some (record { first = e; more = more })
group_again_from w e zero fit chain = ap (group_in w) (lone_line e) ∙ lone_again w e fit
group_again_from w e (suc more) fit chain =
    let on : GoesOn w e = chain (omega arith) in
    let line = group_line (record { first = e; more = suc more }) in
    ap (λ (v : Version). group_in v line) (GoesOn-two w e on) ∙ two_again e more fit (GoesOn-sharing w e on)

pub group_again : (w : Version) (r : Group) → Fits r.first.op r.first.obj → IsChain w r.first r.more → group_in w (group_line r) ≡ Some r
group_again w r fit chain = group_again_from w r.first r.more fit chain

-- ---- a line that is read was written so

-- the group whose line it is
pub record IsGroupLine (w : Version) (line : Text) (r : Group) : Type 0 where
  pub text : line ≡ group_line r
  pub fitting : Fits r.first.op r.first.obj
  pub chain : IsChain w r.first r.more

lone_is : (w : Version) (line : Text) (r : Group) → option_map alone (entry_in line) ≡ Some r → IsGroupLine w line r
lone_is w line r found =
    let m = map_some alone (entry_in line) r found in
    let is = entry_is line m.0 m.1 in
    subst (λ (q : Group). IsGroupLine w line q) m.2 (record { text = is.text ∙ sym (lone_line m.0); fitting = is.fitting; chain = chain_none w m.0 })

range_line : (e : Entry) (last : ℕ) → stripe_of e.obj < last → group_line (record { first = e; more = last - stripe_of e.obj }) ≡ entry_line e ++ 45 ∷ number_text last
range_line e last lt =
    let some : eqb (last - stripe_of e.obj) 0 ≡ false = ne_eqb (last - stripe_of e.obj) 0 (λ h. omega arith) in
    let back : stripe_of e.obj + (last - stripe_of e.obj) ≡ last = omega arith in
    ap (λ (t : Text). entry_line e ++ t) (cond-false (eqb (last - stripe_of e.obj) 0) [] (codes "-" ++ number_text (stripe_of e.obj + (last - stripe_of e.obj))) some)
    ∙ ap (λ (k : ℕ). entry_line e ++ 45 ∷ number_text k) back

range_is : (line front last : Text) (r : Group) → line ≡ front ++ 45 ∷ last → range_in (front, last) ≡ Some r → IsGroupLine version.Two line r
unfolding range_in
range_is line front last r whole found =
    let e = bind_some (entry_in front) _ r found in
    let n = bind_some (number_in last) _ r e.2 in
    let first = e.0 in
    let fit = cond_some (may_share first.op && nat_lt (stripe_of first.obj) n.0) (record { first = first; more = n.0 - stripe_of first.obj }) r n.2 in
    let tests = and_parts (may_share first.op) (nat_lt (stripe_of first.obj) n.0) fit.0 in
    let is = entry_is front first e.1 in
    let spelled : line ≡ entry_line first ++ 45 ∷ number_text n.0 = whole ∙ (λ i. is.text i ++ 45 ∷ number_text-number_in last n.0 n.1 i) in
    subst (λ (q : Group). IsGroupLine version.Two line q) fit.1 (record {
      text = spelled ∙ sym (range_line first n.0 (ltb-true _ _ tests.1));
      fitting = is.fitting;
      chain = λ some. goes_on_two first tests.0 is.fitting;
    })

cut_line_is : (line : Text) (r : Group) (o : Option (Text × Text)) → cut 45 line ≡ o → group_cut line o ≡ Some r → IsGroupLine version.Two line r
cut_line_is line r None is found = lone_is version.Two line r found
cut_line_is line r (Some p) is found = range_is line p.0 p.1 r (cut_is 45 line p is).text found

pub group_is : (w : Version) (line : Text) (r : Group) → group_in w line ≡ Some r → IsGroupLine w line r
group_is version.One line r found = lone_is version.One line r found
group_is version.Two line r found = cut_line_is line r (cut 45 line) refl found

-- ---- a line has no newline in it

pub Free-group_line : (r : Group) → Free 10 (group_line r)
Free-group_line r = Free-append 10 (entry_line r.first) (last_text r) (Free-entry_line 10 r.first (omega arith) (ne_eqb 32 10 (λ h. omega arith))) (by (eqb r.more 0))
  where
    by : (t : Bool) → Free 10 (cond t [] (codes "-" ++ number_text (stripe_of r.first.obj + r.more)))
    by true = tt
    by false = (ne_eqb 45 10 (λ h. omega arith), Free-number_text 10 (stripe_of r.first.obj + r.more) (omega arith))
