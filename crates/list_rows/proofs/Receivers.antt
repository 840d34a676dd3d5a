-- Methods of lists take as many operands as their rows say.
use Rattle.std.proofs.Common.{◌≡◌, ◌⊎◌, inl, inr, ℕ, suc, Bool, true, false, List, [], ◌∷◌, length, map, Some, None, refl, sym, subst, arith}
use Rattle.std.specs.Prelude.{slice_get}
use Rattle.ann_element.specs.declared.element.Element.{Element}
use Rattle.ann_lattice.specs.Kind.{misfit, some_nothing}
use Rattle.ann_lattice.specs.Assign.{Under}
use Rattle.ann_lattice.specs.Row.{fitting}
use Rattle.ann_rules.specs.Rules.{is_unfit}
use Rattle.ann_lattice.specs.Shape.{Lst, Nothing, Shape, shape}
use Rattle.class_desc.specs.Tables.{Tables}
use Rattle.flow_graph.specs.declared.graph.Op.{Op}
use Rattle.rpy_meaning.specs.declared.row.RowOp.{RowOp}
use Rattle.rtyper_list.specs.Operands.{of_list}
use Rattle.typed_rows.specs.Programs.{Typed, layout, same}
use Rattle.typed_rows.specs.Rows.{FirstIs, IsOp, kind_at}
use Rattle.list_rows.proofs.Fitting.{no_misfit, row_fits}
use Rattle.list_rows.proofs.Lists.{first_known}
use Rattle.list_rows.proofs.Operands.{End, IsPlain, Met, Next, One, Ops, Two, met, operands_of}
use Rattle.list_rows.proofs.Shapes.{of_lists}

-- a method of a list that takes so many arguments
abbrev pub ListTakes : ℕ → RowOp → Type 0
ListTakes k r = (t : Tables) (s : ℕ) (q : Bool) (xs : List Shape) → (length xs ≡ k → ⊥) → fitting t r (Lst s q ∷ xs) Nothing ≡ misfit ∷ []

module _ (t : Typed) (n : ℕ) (r : RowOp) where
  by : (args : List ℕ) (es : List Element) → Ops t n args es → (v : ℕ) → slice_get args 0 ≡ Some v → of_list (kind_at t n v) ≡ true → (k : ℕ) → ListTakes k r → (length (map shape es) ≡ suc k → ⊥) → fitting t.whole.tables r (map shape es) Nothing ≡ misfit ∷ []
  by _ _ End v is list k takes other = absurd (let q : None ≡ Some v = is in cc)
  by _ _ (Next {v = u} {es = es} a more) v is list k takes other =
      let of = of_lists (layout t) (same t) a.e a.laid (first_known t n of_list v u a is list) in
      subst (λ (x : Shape). fitting t.whole.tables r (x ∷ map shape es) Nothing ≡ misfit ∷ []) (sym of.shape_is)
      (takes t.whole.tables of.site of.r (map shape es) (λ q. other (omega (arith, q))))

  pub receivers : (o : Op) (is : IsOp t n o) → FirstIs of_list t n o → (k : ℕ) → ListTakes k r → (length (map shape is.elements) ≡ suc k → ⊥) → fitting t.whole.tables r (map shape is.elements) Nothing ≡ misfit ∷ []
  receivers o is told k takes other = by o.args is.elements (operands_of t n o is) told.0 told.1 told.2 k takes other

-- ---- one argument, or none

module _ (t : Typed) (n : ℕ) (o : Op) (r : RowOp) (is_row : o.op ≡ r) (is : IsOp t n o) where
  either_by : (args : List ℕ) (es : List Element) → Ops t n args es → (v : ℕ) → slice_get args 0 ≡ Some v → of_list (kind_at t n v) ≡ true → ((t : Tables) (s : ℕ) (q : Bool) (xs : List Shape) → (length xs ≡ 0 → ⊥) → (length xs ≡ 1 → ⊥) → fitting t r (Lst s q ∷ xs) Nothing ≡ misfit ∷ [])
      → Met t n r o.node (shape is.result) (map shape es) → some_nothing (map shape es) ≡ false → is_unfit t.whole t.assigned n r (map shape es) o.node ≡ false → One t n r o.node (shape is.result) args ⊎ Two t n r o.node (shape is.result) args
  either_by _ _ End v at list takes fits some plain = absurd (let q : None ≡ Some v = at in cc)
  either_by _ _ (Next {v = u} a End) v at list takes fits some plain = inl (record { v = u; a = a; args_are = refl; fits = fits; some = some })
  either_by _ _ (Next {v = u} a (Next {v = w} b End)) v at list takes fits some plain = inr (record { v = u; u = w; a = a; b = b; args_are = refl; fits = fits; some = some })
  either_by _ _ (Next {v = u} a (Next b (Next {es = es} c more))) v at list takes fits some plain =
      let of = of_lists (layout t) (same t) a.e a.laid (first_known t n of_list v u a at list) in
      let xs : List Shape = shape b.e ∷ shape c.e ∷ map shape es in
      let under = row_fits t.whole t.assigned n o.node r (shape a.e ∷ xs) (shape is.result) fits plain some in
      let wrong : fitting t.whole.tables r (shape a.e ∷ xs) Nothing ≡ misfit ∷ [] = subst (λ (x : Shape). fitting t.whole.tables r (x ∷ xs) Nothing ≡ misfit ∷ []) (sym of.shape_is) (takes t.whole.tables of.site of.r xs (λ q. omega (arith, q)) (λ q. omega (arith, q))) in
      no_misfit t.whole.tables.classes t.assigned.same (shape is.result) (subst (λ ys. Under t.whole.tables.classes t.assigned.same ys (shape is.result)) wrong under).0 fits.free

  pub one_or_two : FirstIs of_list t n o → ((t : Tables) (s : ℕ) (q : Bool) (xs : List Shape) → (length xs ≡ 0 → ⊥) → (length xs ≡ 1 → ⊥) → fitting t r (Lst s q ∷ xs) Nothing ≡ misfit ∷ []) → IsPlain r
      → One t n r o.node (shape is.result) o.args ⊎ Two t n r o.node (shape is.result) o.args
  one_or_two told takes plain = either_by o.args is.elements (operands_of t n o is) told.0 told.1 told.2 takes (met t n o r is_row is) is.some (plain t.whole t.assigned n o.node (map shape is.elements))
