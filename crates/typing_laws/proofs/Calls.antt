-- Whether the functions that an operation calls take its arguments.
use Rattle.std.proofs.Common.{◌≡◌, ◌+◌, ◌-◌, ℕ, Bool, true, false, List, [], ◌∷◌, length, map, Option, Some, None, refl, sym, ap, ◌∙◌}
use Rattle.std.specs.Prelude.{slice_get}
use Rattle.std.proofs.lemmas.List.{length-map}
use Rattle.rpy_tree.specs.declared.program.Program.{Program}
use Rattle.rpy_meaning.specs.declared.row.RowOp.{RowOp}
use Rattle.rpy_meaning.specs.declared.row.RowOp.TheVariants as row
use Rattle.flow_graph.specs.declared.graph.Graphs.{Graphs}
use Rattle.class_desc.specs.Line as line
use Rattle.class_desc.specs.Tables.{Tables}
use Rattle.ann_element.specs.declared.element.Element.{Element}
use Rattle.ann_element.specs.declared.element.Element.TheOpen.{Element-F}
use Rattle.ann_element.specs.declared.element.Element.TheFolds.{map-Element}
use Rattle.ann_lattice.specs.Laws.{IsFormed}
use Rattle.ann_lattice.specs.Order.{has, Among}
use Rattle.ann_lattice.specs.Shape.{Shape, Fun, shape, shape_step}
use Rattle.ann_lattice.specs.Assign.{Assignment}
use Rattle.ann_layout.specs.Callees.{callees}
use Rattle.ann_layout.specs.Layout.{plan}
use Rattle.ann_needs.specs.View.{callee_of, whole}
use Rattle.ann_rules.specs.Program.{Callee, Whole}
use Rattle.ann_tree.specs.Faults.{fit, of_first, functions_in, methods_in, single, called, given}
use Rattle.ann_tree.proofs.Faulty.{fit_down}
use Rattle.rtyper_core.specs.Call as code
use Rattle.rtyper_core.specs.Arity.{arities}
use Rattle.rtyper_core.specs.Modify.{operand}
use Rattle.rtyper_core.specs.declared.arity.Arity.{Arity}
use Rattle.typing_laws.proofs.Arities.{Distinct, fit_is}
use Rattle.typing_laws.proofs.Methods.{rising_distinct, same_within, AreMade, methods_are, methods_distinct}
use Rattle.typing_laws.proofs.Operands.{seen, reads, by_kind, related_by_kind}

-- both or neither
both_ways : (b c : Bool) → (b ≡ true → c ≡ true) → (c ≡ true → b ≡ true) → b ≡ c
both_ways true c f g = sym (f refl)
both_ways false true f g = g refl
both_ways false false f g = refl

fit_same : (callees : List Callee) (fs gs : List ℕ) (n : ℕ) → Among fs gs × Among gs fs → fit callees fs n ≡ fit callees gs n
fit_same callees fs gs n h = both_ways (fit callees fs n) (fit callees gs n) (fit_down callees gs fs n h.1) (fit_down callees fs gs n h.0)

module _ (p : Program) (gs : Graphs) (t : Tables) (w : Assignment) (made : List Bool) (are_made : AreMade (whole (plan p gs t)) w [] 0 0 made) (long : length made ≡ length t.classes) where
  abbrev W : Whole
  W = whole (plan p gs t)

  abbrev A : List Arity
  A = arities p.modules

  abbrev C : List Callee
  C = map callee_of (callees p)

  -- ---- the functions that the first operand may be, and those of its methods

  values_are : (o : Option Element) → code.functions_at o ≡ functions_in (seen o)
  values_are None = refl
  values_are (Some e) = by_kind code.functions_of functions_in of_kind e
    where
      of_kind : (x : Element-F Element) → code.functions_of x ≡ functions_in (shape_step (map-Element Element Shape shape x))
      of_kind (Element-F.Func fs n) = refl
      of_kind _ = refl

  values_distinct : (x : Shape) → IsFormed x → Distinct (functions_in x)
  values_distinct (Fun fs n) h = rising_distinct fs h.sound
  values_distinct _ h = tt

  -- each once, and the same ones
  abbrev Same : List ℕ → List ℕ → Type 0
  Same fs hs = Distinct fs × ((x : ℕ) → has fs x ≡ has hs x)

  methods_same : (name : List ℕ) (o : Option Element) → Same (code.methods_at t made name o) (methods_in W w name (seen o))
  methods_same name None = (tt, λ x. refl)
  methods_same name (Some e) = related_by_kind Same (code.methods_of t made name) (methods_in W w name) of_kind e
    where
      of_kind : (x : Element-F Element) → Same (code.methods_of t made name x) (methods_in W w name (shape_step (map-Element Element Shape shape x)))
      of_kind (Element-F.Instance c n) = (methods_distinct W w name c made, methods_are W w name c made are_made long)
      of_kind _ = (tt, λ x. refl)

  -- ---- an operation

  module _ (es : List Element) (formed : (v : ℕ) → IsFormed (seen (slice_get es v))) where
    first_values : (args : List ℕ) → (code.functions_at (operand es args 0) ≡ of_first functions_in (reads es args)) × Distinct (of_first functions_in (reads es args))
    first_values [] = (refl, tt)
    first_values (v ∷ vs) = (values_are (slice_get es v), values_distinct (seen (slice_get es v)) (formed v))

    first_methods : (name : List ℕ) (args : List ℕ) → Same (code.methods_at t made name (operand es args 0)) (of_first (methods_in W w name) (reads es args))
    first_methods name [] = (tt, λ x. refl)
    first_methods name (v ∷ vs) = methods_same name (slice_get es v)

    count_is : (args : List ℕ) → length args ≡ length (reads es args)
    count_is args = sym (length-map args (λ v. seen (slice_get es v)))

    one_fits : (o : Option ℕ) (n : ℕ) → code.fit A (code.single o) n ≡ fit C (single o) n
    one_fits None n = refl
    one_fits (Some f) n = fit_is p n (f ∷ []) (refl, tt)

    pub fits_are : (o : RowOp) (args : List ℕ) → code.fits A (code.reach_by t made es args o) ≡ fit C (called W w o (reads es args)) (given o (reads es args))
    fits_are (row.Call f) args = one_fits (Some f) (length args) ∙ ap (fit C (f ∷ [])) (count_is args)
    fits_are (row.CallOf c f) args = one_fits (Some f) (length args) ∙ ap (fit C (f ∷ [])) (count_is args)
    fits_are row.CallValue args =
        let h = first_values args in
        ap (λ fs. code.fit A fs (length args - 1)) h.0 ∙ (fit_is p (length args - 1) (of_first functions_in (reads es args)) h.1 ∙ ap (λ n. fit C (of_first functions_in (reads es args)) (n - 1)) (count_is args))
    fits_are (row.New c) args = one_fits (line.init t.classes c) (length args + 1) ∙ ap (λ n. fit C (single (line.init t.classes c)) (n + 1)) (count_is args)
    fits_are (row.Method name site) args =
        let fs = code.methods_at t made name (operand es args 0) in
        let hs = of_first (methods_in W w name) (reads es args) in
        let h = first_methods name args in
        fit_is p (length args) fs h.0 ∙ (fit_same C fs hs (length args) (same_within fs hs h.1) ∙ ap (fit C hs) (count_is args))
    fits_are _ args = refl
