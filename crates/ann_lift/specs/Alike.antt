-- Assignments that say the same of the parts of a program.
use Rattle.std.specs.Prelude.{◌≡◌, ℕ, List}
use Rattle.ann_lattice.specs.Assign.{Assignment, at, mark}
use Rattle.ann_rules.specs.Program.{Whole}

-- they may differ in variables, in blocks and in what is unbound
pub record AreAlike (p : Whole) (a b : Assignment) : Type 0 where
  pub same : a.same ≡ b.same
  pub params : (f i : ℕ) → at a (p.places.param f i) ≡ at b (p.places.param f i)
  pub results : (f : ℕ) → at a (p.places.result f) ≡ at b (p.places.result f)
  pub attributes : (c : ℕ) (name : List ℕ) → at a (p.places.attribute c name) ≡ at b (p.places.attribute c name)
  pub items : (s : ℕ) → at a (p.places.item s) ≡ at b (p.places.item s)
  pub keys : (s : ℕ) → at a (p.places.key s) ≡ at b (p.places.key s)
  pub made : (c : ℕ) → mark a (p.places.made c) ≡ mark b (p.places.made c)
