-- The operands of an operation, as many as its row takes.
use Rattle.std.proofs.Common.{◌≡◌, ℕ, Bool, true, false, List, [], ◌∷◌, length, map, Some, refl, subst, arith}
use Rattle.std.specs.Prelude.{◌||◌}
use Rattle.ann_element.specs.declared.element.Element.{Element}
use Rattle.ann_lattice.specs.Kind.{is_nothing, misfit, some_nothing}
use Rattle.ann_lattice.specs.Order.{Below}
use Rattle.ann_lattice.specs.Row.{fitting}
use Rattle.ann_lattice.specs.Shape.{Shape, Nothing, shape}
use Rattle.ann_lattice.specs.Assign.{Assignment}
use Rattle.ann_rules.specs.Program.{Whole}
use Rattle.ann_rules.specs.Rules.{is_unfit}
use Rattle.class_desc.specs.Tables.{Tables}
use Rattle.flow_graph.specs.declared.graph.Op.{Op}
use Rattle.rpy_meaning.specs.declared.row.RowOp.{RowOp}
use Rattle.rtyper_program.specs.Seen.{element_at}
use Rattle.conversion_laws.specs.Ordered.{AllLaid, IsLaid, Next as More}
use Rattle.run_laws.specs.Points.{is_conflict}
use Rattle.sound_rows.specs.Sound.{Fits}
use Rattle.typed_rows.specs.Programs.{Typed, layout, same}
use Rattle.typed_rows.specs.Rows.{AllFree, AreElements, IsOp}
use Rattle.list_rows.proofs.Fitting.{counted}

-- what is known of an operand
pub record Operand (t : Typed) (n v : ℕ) : Type 0 where
  pub e : Element
  pub seen : element_at t.known.annotation n v ≡ Some e
  pub laid : IsLaid (layout t) (same t) e
  pub free : is_conflict (Some e) ≡ false
  pub some : is_nothing (shape e) ≡ false

first_laid : (t : Typed) {e : Element} {es : List Element} → AllLaid (layout t) (same t) (e ∷ es) → IsLaid (layout t) (same t) e
first_laid t (More one others) = one

others_laid : (t : Typed) {e : Element} {es : List Element} → AllLaid (layout t) (same t) (e ∷ es) → AllLaid (layout t) (same t) es
others_laid t (More one others) = others

first_some : (a b : Bool) → (a || b) ≡ false → a ≡ false
first_some true b h = h
first_some false b h = refl

others_some : (a b : Bool) → (a || b) ≡ false → b ≡ false
others_some true b h = absurd (let q : true ≡ false = h in cc)
others_some false b h = h

-- operands, one for each element
pub data Ops (t : Typed) (n : ℕ) : List ℕ → List Element → Type 0 where
  End : Ops t n [] []
  Next : {v : ℕ} {vs : List ℕ} {es : List Element} (a : Operand t n v) → Ops t n vs es → Ops t n (v ∷ vs) (a.e ∷ es)

module _ (t : Typed) (n : ℕ) where
  operands : (args : List ℕ) (es : List Element) → AreElements t n args es → AllFree es → AllLaid (layout t) (same t) es → some_nothing (map shape es) ≡ false → Ops t n args es
  operands [] [] are free laid some = End
  operands [] (e ∷ es) are free laid some = absurd are
  operands (v ∷ vs) [] are free laid some = absurd are
  operands (v ∷ vs) (e ∷ es) are free laid some =
      Next (record { e = e; seen = are.0; laid = first_laid t laid; free = free.0; some = first_some (is_nothing (shape e)) (some_nothing (map shape es)) some })
      (operands vs es are.1 free.1 (others_laid t laid) (others_some (is_nothing (shape e)) (some_nothing (map shape es)) some))

  pub operands_of : (o : Op) (is : IsOp t n o) → Ops t n o.args is.elements
  operands_of o is = operands o.args is.elements is.are is.free is.laid is.some

  module _ (r : RowOp) (node : ℕ) (z : Shape) where
    -- its row is met by these
    abbrev pub Met : List Shape → Type 0
    Met xs = Fits t.whole t.assigned n r node xs z

    pub record None (args : List ℕ) : Type 0 where
      pub args_are : args ≡ []
      pub fits : Met []
      pub some : some_nothing [] ≡ false

    pub record One (args : List ℕ) : Type 0 where
      pub v : ℕ
      pub a : Operand t n v
      pub args_are : args ≡ v ∷ []
      pub fits : Met (shape a.e ∷ [])
      pub some : some_nothing (shape a.e ∷ []) ≡ false

    pub record Two (args : List ℕ) : Type 0 where
      pub v : ℕ
      pub u : ℕ
      pub a : Operand t n v
      pub b : Operand t n u
      pub args_are : args ≡ v ∷ u ∷ []
      pub fits : Met (shape a.e ∷ shape b.e ∷ [])
      pub some : some_nothing (shape a.e ∷ shape b.e ∷ []) ≡ false

    pub record Three (args : List ℕ) : Type 0 where
      pub v : ℕ
      pub u : ℕ
      pub w : ℕ
      pub a : Operand t n v
      pub b : Operand t n u
      pub c : Operand t n w
      pub args_are : args ≡ v ∷ u ∷ w ∷ []
      pub fits : Met (shape a.e ∷ shape b.e ∷ shape c.e ∷ [])
      pub some : some_nothing (shape a.e ∷ shape b.e ∷ shape c.e ∷ []) ≡ false

    pub none_by : (args : List ℕ) (es : List Element) → Ops t n args es → Met (map shape es) → some_nothing (map shape es) ≡ false → ((length (map shape es) ≡ 0 → ⊥) → ⊥) → None args
    none_by _ _ End fits some count = record { args_are = refl; fits = fits; some = some }
    none_by _ _ (Next a more) fits some count = absurd (count (λ q. omega (arith, q)))

    pub one_by : (args : List ℕ) (es : List Element) → Ops t n args es → Met (map shape es) → some_nothing (map shape es) ≡ false → ((length (map shape es) ≡ 1 → ⊥) → ⊥) → One args
    one_by _ _ End fits some count = absurd (count (λ q. omega (arith, q)))
    one_by _ _ (Next {v = v} a End) fits some count = record { v = v; a = a; args_are = refl; fits = fits; some = some }
    one_by _ _ (Next a (Next b more)) fits some count = absurd (count (λ q. omega (arith, q)))

    pub two_by : (args : List ℕ) (es : List Element) → Ops t n args es → Met (map shape es) → some_nothing (map shape es) ≡ false → ((length (map shape es) ≡ 2 → ⊥) → ⊥) → Two args
    two_by _ _ End fits some count = absurd (count (λ q. omega (arith, q)))
    two_by _ _ (Next a End) fits some count = absurd (count (λ q. omega (arith, q)))
    two_by _ _ (Next {v = v} a (Next {v = u} b End)) fits some count = record { v = v; u = u; a = a; b = b; args_are = refl; fits = fits; some = some }
    two_by _ _ (Next a (Next b (Next c more))) fits some count = absurd (count (λ q. omega (arith, q)))

    pub three_by : (args : List ℕ) (es : List Element) → Ops t n args es → Met (map shape es) → some_nothing (map shape es) ≡ false → ((length (map shape es) ≡ 3 → ⊥) → ⊥) → Three args
    three_by _ _ End fits some count = absurd (count (λ q. omega (arith, q)))
    three_by _ _ (Next a End) fits some count = absurd (count (λ q. omega (arith, q)))
    three_by _ _ (Next a (Next b End)) fits some count = absurd (count (λ q. omega (arith, q)))
    three_by _ _ (Next {v = v} a (Next {v = u} b (Next {v = w} c End))) fits some count = record { v = v; u = u; w = w; a = a; b = b; c = c; args_are = refl; fits = fits; some = some }
    three_by _ _ (Next a (Next b (Next c (Next d more)))) fits some count = absurd (count (λ q. omega (arith, q)))

-- ---- of an operation

-- the first is below the second, as the rules have it
abbrev pub Above : Typed → Shape → Shape → Type 0
Above t x z = Below t.whole.tables.classes t.assigned.same x z

-- its row takes so many
abbrev pub Takes : ℕ → RowOp → Type 0
Takes k r = (t : Tables) (xs : List Shape) → (length xs ≡ k → ⊥) → fitting t r xs Nothing ≡ misfit ∷ []

-- its row says nothing of classes
abbrev pub IsPlain : RowOp → Type 0
IsPlain r = (w : Whole) (a : Assignment) (g node : ℕ) (xs : List Shape) → is_unfit w a g r xs node ≡ false

module _ (t : Typed) (n : ℕ) (o : Op) (r : RowOp) (is_row : o.op ≡ r) (is : IsOp t n o) where
  pub met : Met t n r o.node (shape is.result) (map shape is.elements)
  met = subst (λ (r : RowOp). Met t n r o.node (shape is.result) (map shape is.elements)) is_row is.fits

  so_many : (k : ℕ) → ((length (map shape is.elements) ≡ k → ⊥) → fitting t.whole.tables r (map shape is.elements) Nothing ≡ misfit ∷ []) → IsPlain r → (length (map shape is.elements) ≡ k → ⊥) → ⊥
  so_many k takes plain = counted t.whole t.assigned n o.node r (map shape is.elements) (shape is.result) met (plain t.whole t.assigned n o.node (map shape is.elements)) is.some k takes

  -- where these operands fit no other number
  abbrev pub Fitting : ℕ → Type 0
  Fitting k = (length (map shape is.elements) ≡ k → ⊥) → fitting t.whole.tables r (map shape is.elements) Nothing ≡ misfit ∷ []

  pub none_where : Fitting 0 → IsPlain r → None t n r o.node (shape is.result) o.args
  none_where takes plain = none_by t n r o.node (shape is.result) o.args is.elements (operands_of t n o is) met is.some (so_many 0 takes plain)

  pub none : Takes 0 r → IsPlain r → None t n r o.node (shape is.result) o.args
  none takes plain = none_where (takes t.whole.tables (map shape is.elements)) plain

  pub one_where : Fitting 1 → IsPlain r → One t n r o.node (shape is.result) o.args
  one_where takes plain = one_by t n r o.node (shape is.result) o.args is.elements (operands_of t n o is) met is.some (so_many 1 takes plain)

  pub one : Takes 1 r → IsPlain r → One t n r o.node (shape is.result) o.args
  one takes plain = one_where (takes t.whole.tables (map shape is.elements)) plain

  pub two_where : Fitting 2 → IsPlain r → Two t n r o.node (shape is.result) o.args
  two_where takes plain = two_by t n r o.node (shape is.result) o.args is.elements (operands_of t n o is) met is.some (so_many 2 takes plain)

  pub two : Takes 2 r → IsPlain r → Two t n r o.node (shape is.result) o.args
  two takes plain = two_where (takes t.whole.tables (map shape is.elements)) plain

  pub three_where : Fitting 3 → IsPlain r → Three t n r o.node (shape is.result) o.args
  three_where takes plain = three_by t n r o.node (shape is.result) o.args is.elements (operands_of t n o is) met is.some (so_many 3 takes plain)

  pub three : Takes 3 r → IsPlain r → Three t n r o.node (shape is.result) o.args
  three takes plain = three_where (takes t.whole.tables (map shape is.elements)) plain
