-- What was met is a step, or the first conflict.
use Rattle.std.proofs.Common.{◌≡◌, ℕ, List, map, get_or, slice_get, Some, None, Bool, false, sym, ap, ◌∙◌, subst}
use Rattle.ann_element.specs.declared.element.Element.{Element}
use Rattle.ann_lattice.specs.Shape.{Nothing, shape}
use Rattle.ann_lattice.specs.Join.{is_clash}
use Rattle.ann_lattice.specs.Assign.{Assignment, Need, meet}
use Rattle.ann_needs.proofs.Read.{cell_none, cell_some}
use Rattle.ann_rules.specs.Program.{Whole}
use Rattle.ann_grown.specs.Partial.{IsAsked, clash_at, Keeps, Meets}
use Rattle.ann_grown.proofs.Meeting.{kept, met}

pub clash_none : (es : List Element) (c : ℕ) → None ≡ slice_get es c → false ≡ is_clash (get_or (map shape es) c Nothing)
clash_none es c h = ap is_clash (cell_none es c h)

pub clash_some : (es : List Element) (c : ℕ) (e : Element) → Some e ≡ slice_get es c → is_clash (shape e) ≡ is_clash (get_or (map shape es) c Nothing)
clash_some es c e h = ap is_clash (cell_some es c e h)

module _ (p : Whole) (spots : ℕ → Bool) (a b : Assignment) (n : Need) (is : b ≡ meet p.tables.classes n a) where
  pub kept_by : clash_at spots b n ≡ None → IsAsked p a n → Keeps p spots a b
  kept_by e asked = subst (Keeps p spots a) (sym is) (kept p spots a n asked (ap (λ d. clash_at spots d n) (sym is) ∙ e))

  pub met_by : (c : ℕ) → clash_at spots b n ≡ Some c → IsAsked p a n → Meets p spots a b c
  met_by c e asked = subst (λ d. Meets p spots a d c) (sym is) (met p spots a n asked c (ap (λ d. clash_at spots d n) (sym is) ∙ e))
