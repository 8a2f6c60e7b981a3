-- The code of a choice, joined of its parts.
use Rattle.std.proofs.Common.{◌≡◌, ℕ, ◌+◌, Bool, List, ◌∷◌, ◌++◌, length, ap, ◌∙◌, append_assoc, arith, length-append}
use Rattle.flow_code.specs.declared.act.Act.TheVariants as act
use Rattle.flow_code.specs.declared.act.Instr.{Instr}
use Rattle.flow_code.specs.declared.work.Work.TheVariants as work
use Rattle.rr_base.specs.declared.position.Position.{Position}
use Rattle.core_tree.specs.Core.{Exp, conditional}
use Rattle.flow_lower.specs.Lowered.{held, instr, one, computes, width, exp_size, exp_code}

-- six pieces, one after another
pub six : (old a b c d e f o1 o2 o3 o4 o5 o6 : List Instr) → o1 ≡ old ++ a → o2 ≡ o1 ++ b → o3 ≡ o2 ++ c → o4 ≡ o3 ++ d → o5 ≡ o4 ++ e → o6 ≡ o5 ++ f → o6 ≡ old ++ (a ++ (b ++ (c ++ (d ++ (e ++ f)))))
six old a b c d e f o1 o2 o3 o4 o5 o6 p1 p2 p3 p4 p5 p6 =
    p6 ∙ ap (λ l. l ++ f) (p5 ∙ ap (λ l. l ++ e) (p4 ∙ ap (λ l. l ++ d) (p3 ∙ ap (λ l. l ++ c) (p2 ∙ ap (λ l. l ++ b) p1))))
    ∙ append_assoc (old ++ a ++ b ++ c ++ d) e f
    ∙ append_assoc (old ++ a ++ b ++ c) d (e ++ f)
    ∙ append_assoc (old ++ a ++ b) c (d ++ (e ++ f))
    ∙ append_assoc (old ++ a) b (c ++ (d ++ (e ++ f)))
    ∙ append_assoc old a (b ++ (c ++ (d ++ (e ++ f))))

-- the registers after those of a choice
pub choice_registers : (k : Bool) (a b c : List Bool) (r r2 r3 r4 r5 : ℕ) → r2 ≡ r + 1 + length a → r3 ≡ r2 → r4 ≡ r3 + length b → r5 ≡ r4 + length c → r5 ≡ r + length (k ∷ (a ++ (b ++ c)))
choice_registers k a b c r r2 r3 r4 r5 e2 e3 e4 e5 = omega (arith, length-append a (b ++ c), length-append b c, e2, e3, e4, e5)

-- the parts of a choice, where its registers and places are these
module _ (first : ℕ) (a b c : Exp) (at : Position) (r pc : ℕ) where
  abbrev pub joined : (x1 then_at else_at r3 p3 x3 to r4 p4 x4 : ℕ) → List Instr
  joined x1 then_at else_at r3 p3 x3 to r4 p4 x4 =
      exp_code first a (r + 1) pc ++ (one at (act.Branch x1 then_at else_at) ++ (exp_code first b r3 p3 ++ ((instr at (act.Compute r (work.Copy x3)) ∷ one at (act.Jump to)) ++ (exp_code first c r4 p4 ++ computes at r (work.Copy x4)))))

  pub choice_code : (x1 r2 p2 then_at else_at to r3 p3 x3 r4 p4 x4 : ℕ) → x1 ≡ held first a (r + 1) → r2 ≡ r + 1 + width a → p2 ≡ pc + exp_size a
      → then_at ≡ p2 + 1 → else_at ≡ p2 + 1 + exp_size b + 2 → to ≡ p2 + 1 + exp_size b + 2 + exp_size c + 1 → r3 ≡ r2 → p3 ≡ p2 + 1 → x3 ≡ held first b r3 → r4 ≡ r3 + width b → p4 ≡ p3 + exp_size b + 2 → x4 ≡ held first c r4
      → joined x1 then_at else_at r3 p3 x3 to r4 p4 x4 ≡ exp_code first (conditional a b c at) r pc
  choice_code x1 r2 p2 then_at else_at to r3 p3 x3 r4 p4 x4 h1 e2 f2 g1 g2 g3 e3 f3 h3 e4 f4 h4 =
      let yes' = pc + exp_size a + 1 in
      let no' = pc + exp_size a + 1 + exp_size b + 2 in
      let end = pc + exp_size a + 1 + exp_size b + 2 + exp_size c + 1 in
      let y = r + 1 + width a in
      let z = r + 1 + width a + width b in
      let then' : then_at ≡ yes' = omega (arith, g1, f2) in
      let else' : else_at ≡ no' = omega (arith, g2, f2) in
      let to' : to ≡ end = omega (arith, g3, f2) in
      let r3' : r3 ≡ y = omega (arith, e3, e2) in
      let p3' : p3 ≡ yes' = omega (arith, f3, f2) in
      let r4' : r4 ≡ z = omega (arith, e4, e3, e2) in
      let p4' : p4 ≡ no' = omega (arith, f4, f3, f2) in
      ap (λ q. joined q then_at else_at r3 p3 x3 to r4 p4 x4) h1
      ∙ ap (λ q. joined (held first a (r + 1)) q else_at r3 p3 x3 to r4 p4 x4) then'
      ∙ ap (λ q. joined (held first a (r + 1)) yes' q r3 p3 x3 to r4 p4 x4) else'
      ∙ ap (λ q. joined (held first a (r + 1)) yes' no' r3 p3 q to r4 p4 x4) h3
      ∙ ap (λ q. joined (held first a (r + 1)) yes' no' q p3 (held first b q) to r4 p4 x4) r3'
      ∙ ap (λ q. joined (held first a (r + 1)) yes' no' y q (held first b y) to r4 p4 x4) p3'
      ∙ ap (λ q. joined (held first a (r + 1)) yes' no' y yes' (held first b y) q r4 p4 x4) to'
      ∙ ap (λ q. joined (held first a (r + 1)) yes' no' y yes' (held first b y) end r4 p4 q) h4
      ∙ ap (λ q. joined (held first a (r + 1)) yes' no' y yes' (held first b y) end q p4 (held first c q)) r4'
      ∙ ap (λ q. joined (held first a (r + 1)) yes' no' y yes' (held first b y) end z q (held first c z)) p4'
