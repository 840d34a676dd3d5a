-- Operations by how many operands they have: what their rows say of these and of the result.
use Rattle.std.proofs.Common.{◌≡◌, ℕ, Bool, true, false, List, [], ◌∷◌, ◌++◌, map, Some, refl, sym, ap, ◌∙◌, subst}
use Rattle.std.specs.Prelude.{◌||◌, if◌then◌else◌}
use Rattle.ann_element.specs.declared.element.Element.{Element}
use Rattle.ann_lattice.specs.Assign.{Under}
use Rattle.ann_lattice.specs.Join.{is_clash}
use Rattle.ann_lattice.specs.Kind.{is_nothing, misfit, some_clash, some_nothing}
use Rattle.ann_lattice.specs.Order.{Below}
use Rattle.ann_lattice.specs.Row.{counted, fitting, of_none, of_one, of_three, of_two, pieces}
use Rattle.ann_lattice.specs.Shape.{Shape, Nothing, shape}
use Rattle.ann_rules.specs.Program.{Whole}
use Rattle.ann_rules.specs.Rules.{asked}
use Rattle.ann_lattice.specs.Assign.{Assignment}
use Rattle.class_desc.specs.Tables.{Tables}
use Rattle.conversion_laws.specs.Ordered.{IsLaid, AllLaid, Next}
use Rattle.flow_graph.specs.declared.graph.Graph.{Graph}
use Rattle.flow_graph.specs.declared.graph.Op.{Op}
use Rattle.rpy_meaning.specs.declared.row.RowOp.{RowOp}
use Rattle.rtyper_program.specs.Seen.{element_at}
use Rattle.typed_rows.specs.Programs.{Typed, IsTyped, layout, same}
use Rattle.typed_rows.specs.Rows.{AreElements, IsOp, IsWritten, RowIsWritten, RowIsWrittenWhere}
use Rattle.value_rows.proofs.Shaped.{clash_above}

-- ---- rows that ask one thing of their result, by their operands

-- nothing but the row is asked, and it takes as many operands as it says
pub record IsPlain (row : RowOp) : Type 0 where
  pub asks : (p : Whole) (a : Assignment) (g node : ℕ) (xs : List Shape) → asked p a g row xs node ≡ pieces p.tables row xs Nothing ++ []
  pub fits : (tables : Tables) (xs : List Shape) → fitting tables row xs Nothing ≡ counted tables row xs Nothing ∷ []

-- what is known of an operand
pub record IsOperand (t : Typed) (n v : ℕ) (x : Element) : Type 0 where
  pub is : element_at t.known.annotation n v ≡ Some x
  pub laid : IsLaid (layout t) (same t) x
  pub some : is_nothing (shape x) ≡ false

module _ (t : Typed) (n : ℕ) (row : RowOp) (o : Op) where
  -- the result is above this
  abbrev pub Above : IsOp t n o → Shape → Type 0
  Above is x = Below t.whole.tables.classes t.assigned.same x (shape is.result)

  under_pieces : (xs : List Shape) (z : Shape) → is_clash z ≡ false → some_nothing xs ≡ false → (c : Bool) → Under t.whole.tables.classes t.assigned.same ((if some_nothing xs then [] else if c then misfit ∷ [] else counted t.whole.tables row xs Nothing ∷ []) ++ []) z
      → Below t.whole.tables.classes t.assigned.same (counted t.whole.tables row xs Nothing) z
  under_pieces xs z free some true under =
      absurd (clash_above t.whole.tables.classes t.assigned.same misfit z (subst (λ b. Under t.whole.tables.classes t.assigned.same ((if b then [] else misfit ∷ []) ++ []) z) some under).0 refl free)
  under_pieces xs z free some false under = (subst (λ b. Under t.whole.tables.classes t.assigned.same ((if b then [] else counted t.whole.tables row xs Nothing ∷ []) ++ []) z) some under).0

  -- what the row gives for its operands is below what stands at the result
  pub row_is_met : IsPlain row → o.op ≡ row → (is : IsOp t n o) → Above is (counted t.whole.tables row (map shape is.elements) Nothing)
  row_is_met plain eq is =
      let xs = map shape is.elements in
      under_pieces xs (shape is.result) is.fits.free is.some (some_clash xs)
      (subst (λ l. Under t.whole.tables.classes t.assigned.same ((if some_nothing xs then [] else if some_clash xs then misfit ∷ [] else l) ++ []) (shape is.result)) (plain.fits t.whole.tables xs)
      (subst (λ l. Under t.whole.tables.classes t.assigned.same l (shape is.result)) (ap (λ r. asked t.whole t.assigned n r xs o.node) eq ∙ plain.asks t.whole t.assigned n o.node xs) is.fits.above))

  pub misfits : (is : IsOp t n o) (x : Shape) → x ≡ misfit → Above is x → ⊥
  misfits is x e h = clash_above t.whole.tables.classes t.assigned.same x (shape is.result) h (ap is_clash e) is.fits.free

-- ---- one operand

pub record HasOne (t : Typed) (n : ℕ) (row : RowOp) (o : Op) (is : IsOp t n o) : Type 0 where
  pub a : ℕ
  pub x : Element
  pub args : o.args ≡ a ∷ []
  pub operand : IsOperand t n a x
  pub met : Above t n row o is (of_one t.whole.tables row (shape x) Nothing)

pub record HasTwo (t : Typed) (n : ℕ) (row : RowOp) (o : Op) (is : IsOp t n o) : Type 0 where
  pub a : ℕ
  pub b : ℕ
  pub x : Element
  pub y : Element
  pub args : o.args ≡ a ∷ b ∷ []
  pub first : IsOperand t n a x
  pub second : IsOperand t n b y
  pub met : Above t n row o is (of_two t.whole.tables row (shape x) (shape y) Nothing)

or_false : (a b : Bool) → (a || b) ≡ false → (a ≡ false) × (b ≡ false)
or_false true b e = absurd (let q : true ≡ false = e in cc)
or_false false b e = (refl, e)

module _ (t : Typed) (n : ℕ) (row : RowOp) (o : Op) (is : IsOp t n o) where
  one_of : (args : List ℕ) (es : List Element) → AreElements t n args es → AllLaid (layout t) (same t) es → some_nothing (map shape es) ≡ false → o.args ≡ args
      → of_none row ≡ misfit → ((x y : Shape) → of_two t.whole.tables row x y Nothing ≡ misfit) → ((x y z : Shape) → of_three row x y z ≡ misfit) → Above t n row o is (counted t.whole.tables row (map shape es) Nothing) → HasOne t n row o is
  one_of [] [] are laid some eq zero two three met = absurd (misfits t n row o is _ zero met)
  one_of (a ∷ []) (x ∷ []) are (Next l ls) some eq zero two three met = record { a = a; x = x; args = eq; operand = record { is = are.0; laid = l; some = (or_false (is_nothing (shape x)) false some).0 }; met = met }
  one_of (a ∷ b ∷ []) (x ∷ y ∷ []) are laid some eq zero two three met = absurd (misfits t n row o is _ (two (shape x) (shape y)) met)
  one_of (a ∷ b ∷ c ∷ []) (x ∷ y ∷ z ∷ []) are laid some eq zero two three met = absurd (misfits t n row o is _ (three (shape x) (shape y) (shape z)) met)
  one_of (a ∷ b ∷ c ∷ d ∷ args) (x ∷ y ∷ z ∷ u ∷ es) are laid some eq zero two three met = absurd (misfits t n row o is _ refl met)
  one_of [] (x ∷ es) are laid some eq zero two three met = absurd are
  one_of (a ∷ args) [] are laid some eq zero two three met = absurd are
  one_of (a ∷ []) (x ∷ y ∷ es) are laid some eq zero two three met = absurd are.1
  one_of (a ∷ b ∷ args) (x ∷ []) are laid some eq zero two three met = absurd are.1
  one_of (a ∷ b ∷ []) (x ∷ y ∷ z ∷ es) are laid some eq zero two three met = absurd are.1.1
  one_of (a ∷ b ∷ c ∷ args) (x ∷ y ∷ []) are laid some eq zero two three met = absurd are.1.1
  one_of (a ∷ b ∷ c ∷ []) (x ∷ y ∷ z ∷ u ∷ es) are laid some eq zero two three met = absurd are.1.1.1
  one_of (a ∷ b ∷ c ∷ d ∷ args) (x ∷ y ∷ z ∷ []) are laid some eq zero two three met = absurd are.1.1.1

  two_of : (args : List ℕ) (es : List Element) → AreElements t n args es → AllLaid (layout t) (same t) es → some_nothing (map shape es) ≡ false → o.args ≡ args
      → of_none row ≡ misfit → ((x : Shape) → of_one t.whole.tables row x Nothing ≡ misfit) → ((x y z : Shape) → of_three row x y z ≡ misfit) → Above t n row o is (counted t.whole.tables row (map shape es) Nothing) → HasTwo t n row o is
  two_of [] [] are laid some eq zero one three met = absurd (misfits t n row o is _ zero met)
  two_of (a ∷ []) (x ∷ []) are laid some eq zero one three met = absurd (misfits t n row o is _ (one (shape x)) met)
  two_of (a ∷ b ∷ []) (x ∷ y ∷ []) are (Next l (Next m ls)) some eq zero one three met =
      let s = or_false (is_nothing (shape x)) (some_nothing (shape y ∷ [])) some in
      record { a = a; b = b; x = x; y = y; args = eq; first = record { is = are.0; laid = l; some = s.0 }; second = record { is = are.1.0; laid = m; some = (or_false (is_nothing (shape y)) false s.1).0 }; met = met }
  two_of (a ∷ b ∷ c ∷ []) (x ∷ y ∷ z ∷ []) are laid some eq zero one three met = absurd (misfits t n row o is _ (three (shape x) (shape y) (shape z)) met)
  two_of (a ∷ b ∷ c ∷ d ∷ args) (x ∷ y ∷ z ∷ u ∷ es) are laid some eq zero one three met = absurd (misfits t n row o is _ refl met)
  two_of [] (x ∷ es) are laid some eq zero one three met = absurd are
  two_of (a ∷ args) [] are laid some eq zero one three met = absurd are
  two_of (a ∷ []) (x ∷ y ∷ es) are laid some eq zero one three met = absurd are.1
  two_of (a ∷ b ∷ args) (x ∷ []) are laid some eq zero one three met = absurd are.1
  two_of (a ∷ b ∷ []) (x ∷ y ∷ z ∷ es) are laid some eq zero one three met = absurd are.1.1
  two_of (a ∷ b ∷ c ∷ args) (x ∷ y ∷ []) are laid some eq zero one three met = absurd are.1.1
  two_of (a ∷ b ∷ c ∷ []) (x ∷ y ∷ z ∷ u ∷ es) are laid some eq zero one three met = absurd are.1.1.1
  two_of (a ∷ b ∷ c ∷ d ∷ args) (x ∷ y ∷ z ∷ []) are laid some eq zero one three met = absurd are.1.1.1

-- ---- rows of one operand, and of two

-- the operation of this row with these operands
abbrev pub with_args : RowOp → List ℕ → Op → Op
with_args row args o = record o { op = row; args = args }

is_so : (row : RowOp) (args : List ℕ) (o : Op) → o.op ≡ row → o.args ≡ args → o ≡ with_args row args o
is_so row args o eq so = ap (λ r. record o { op = r }) eq ∙ ap (λ vs. record o { op = row; args = vs }) so

abbrev pub OneIsWritten : (Typed → ℕ → Op → Type 0) → RowOp → Type 0
OneIsWritten Told row = (t : Typed) → IsTyped t → (n : ℕ) (graph : Graph) (o : Op) (a : ℕ) (x : Element) (is : IsOp t n (with_args row (a ∷ []) o)) → IsOperand t n a x → Above t n row (with_args row (a ∷ []) o) is (of_one t.whole.tables row (shape x) Nothing) → Told t n (with_args row (a ∷ []) o)
    → IsWritten t n graph (with_args row (a ∷ []) o)

abbrev pub TwoAreWritten : (Typed → ℕ → Op → Type 0) → RowOp → Type 0
TwoAreWritten Told row = (t : Typed) → IsTyped t → (n : ℕ) (graph : Graph) (o : Op) (a b : ℕ) (x y : Element) (is : IsOp t n (with_args row (a ∷ b ∷ []) o)) → IsOperand t n a x → IsOperand t n b y → Above t n row (with_args row (a ∷ b ∷ []) o) is (of_two t.whole.tables row (shape x) (shape y) Nothing)
    → Told t n (with_args row (a ∷ b ∷ []) o) → IsWritten t n graph (with_args row (a ∷ b ∷ []) o)

module _ (Told : Typed → ℕ → Op → Type 0) (row : RowOp) (t : Typed) (n : ℕ) (x : Shape) where
  abbrev Moved : Op → Type 0
  Moved o = (is : IsOp t n o) × Above t n row o is x × Told t n o

  moved : (o other : Op) → o ≡ other → (is : IsOp t n o) → Above t n row o is x → Told t n o → Moved other
  moved o other q is met told = subst Moved q (is, met, told)

pub rows_of_one : (Told : Typed → ℕ → Op → Type 0) (row : RowOp) → IsPlain row → of_none row ≡ misfit → ((tables : Tables) (x y : Shape) → of_two tables row x y Nothing ≡ misfit) → ((x y z : Shape) → of_three row x y z ≡ misfit) → OneIsWritten Told row → RowIsWrittenWhere Told row
rows_of_one Told row plain zero two three written t typed n graph o eq is told =
    let h = one_of t n row o is o.args is.elements is.are is.laid is.some refl zero (two t.whole.tables) three (row_is_met t n row o plain eq is) in
    let q = is_so row (h.a ∷ []) o eq h.args in
    let m = moved Told row t n (of_one t.whole.tables row (shape h.x) Nothing) o (with_args row (h.a ∷ []) o) q is h.met told in
    subst (IsWritten t n graph) (sym q) (written t typed n graph o h.a h.x m.0 h.operand m.1 m.2)

pub rows_of_two : (Told : Typed → ℕ → Op → Type 0) (row : RowOp) → IsPlain row → of_none row ≡ misfit → ((tables : Tables) (x : Shape) → of_one tables row x Nothing ≡ misfit) → ((x y z : Shape) → of_three row x y z ≡ misfit) → TwoAreWritten Told row → RowIsWrittenWhere Told row
rows_of_two Told row plain zero one three written t typed n graph o eq is told =
    let h = two_of t n row o is o.args is.elements is.are is.laid is.some refl zero (one t.whole.tables) three (row_is_met t n row o plain eq is) in
    let q = is_so row (h.a ∷ h.b ∷ []) o eq h.args in
    let m = moved Told row t n (of_two t.whole.tables row (shape h.x) (shape h.y) Nothing) o (with_args row (h.a ∷ h.b ∷ []) o) q is h.met told in
    subst (IsWritten t n graph) (sym q) (written t typed n graph o h.a h.b h.x h.y m.0 h.first h.second m.1 m.2)

-- rows of which nothing has to be told
abbrev pub Any : Typed → ℕ → Op → Type 0
Any t n o = Unit {0}

pub whatever : (row : RowOp) → RowIsWrittenWhere Any row → RowIsWritten row
whatever row written t typed n graph o eq is = written t typed n graph o eq is tt
