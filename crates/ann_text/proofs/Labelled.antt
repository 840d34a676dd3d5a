-- The text of a whole program.
use Rattle.std.proofs.Common.{◌≡◌, List, ℕ, [], ◌∷◌, Bool, ap, ◌∙◌}
use Rattle.rpy_tree.specs.declared.program.Program.{Program}
use Rattle.rpy_tree.specs.declared.program.Site.{Site}
use Rattle.rpy_resolved.specs.declared.label.Labels.{Labels}
use Rattle.rpy_resolved.specs.Label.{function_labels, class_labels}
use Rattle.flow_graph.specs.declared.graph.Graphs.{Graphs}
use Rattle.ann_element.specs.declared.element.Element.{Element}
use Rattle.ann_element.specs.declared.annotation.Annotation.{Annotation}
use Rattle.ann_text.specs.AnnotationText.{text_by, annotation_text, onto, dict_line, list_line, attribute_lines, with_functions, params, shown_sites}

pub labelled : (labels : Labels) (p : Program) (gs : Graphs) (a : Annotation) → labels.functions ≡ function_labels p → labels.classes ≡ class_labels p
    → text_by labels p gs a ≡ annotation_text p gs a
labelled labels p gs a functions classes =
    ap (λ fs. text_by (record { functions = fs; classes = labels.classes }) p gs a) functions
    ∙ ap (λ cs. text_by (record { functions = function_labels p; classes = cs }) p gs a) classes

pub wholly : (labels : Labels) (p : Program) (gs : Graphs) (a : Annotation) (lists : List (List (List ℕ))) (sh sh2 : List Bool) (ss : List Site)
    (at : List (ℕ × List ℕ × Element)) (t0 t1 t2 t3 t4 : List ℕ)
    → lists ≡ params p.modules → sh ≡ shown_sites gs.graphs a p.sites → sh2 ≡ shown_sites gs.graphs a p.sites → ss ≡ p.sites → at ≡ a.attributes → t0 ≡ []
    → t1 ≡ with_functions labels a 0 lists t0 → t2 ≡ attribute_lines labels a.same at t1 → t3 ≡ onto (list_line labels a sh) t2 0 ss
    → t4 ≡ onto (dict_line labels a sh2) t3 0 ss → t4 ≡ text_by labels p gs a
wholly labels p gs a lists sh sh2 ss at t0 t1 t2 t3 t4 el es es2 ess ea e0 e1 e2 e3 e4 =
    let first : t1 ≡ with_functions labels a 0 (params p.modules) [] =
    e1 ∙ ap (λ ls. with_functions labels a 0 ls t0) el ∙ ap (λ t. with_functions labels a 0 (params p.modules) t) e0 in
    let second : t2 ≡ attribute_lines labels a.same a.attributes (with_functions labels a 0 (params p.modules) []) =
    e2 ∙ ap (λ xs. attribute_lines labels a.same xs t1) ea ∙ ap (λ t. attribute_lines labels a.same a.attributes t) first in
    let third : t3 ≡ onto (list_line labels a (shown_sites gs.graphs a p.sites)) (attribute_lines labels a.same a.attributes (with_functions labels a 0 (params p.modules) [])) 0 p.sites =
    e3 ∙ ap (λ s. onto (list_line labels a s) t2 0 ss) es ∙ ap (λ t. onto (list_line labels a (shown_sites gs.graphs a p.sites)) t 0 ss) second
    ∙ ap (λ xs. onto (list_line labels a (shown_sites gs.graphs a p.sites)) (attribute_lines labels a.same a.attributes (with_functions labels a 0 (params p.modules) [])) 0 xs) ess in
    e4 ∙ ap (λ s. onto (dict_line labels a s) t3 0 ss) es2 ∙ ap (λ t. onto (dict_line labels a (shown_sites gs.graphs a p.sites)) t 0 ss) third
    ∙ ap (λ xs. onto (dict_line labels a (shown_sites gs.graphs a p.sites)) (onto (list_line labels a (shown_sites gs.graphs a p.sites)) (attribute_lines labels a.same a.attributes (with_functions labels a 0 (params p.modules) [])) 0 p.sites) 0 xs) ess
